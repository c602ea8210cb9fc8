-- Runs that fail, at each assertion and at `fail`; the bounds of a program with every kind of cost; and the heaviest types of a list of pairs.
use Rattle.std.proofs.Common.{◌≡◌, refl, ◌+◌, ◌-◌, ◌*◌, ◌^◌, ◌≤◌, ℕ, zero, suc, List, [], ◌∷◌, replicate, None, arith}
use Rattle.std.proofs.Math.Nat.{pow-suc}
use Rattle.std.proofs.Math.Pow.{pow_mono}
use Rattle.simplicity.specs.Types.{Kind, One, Sum, Product, UnitValue, weight}
use Rattle.simplicity.specs.Nodes as node
use Rattle.simplicity.specs.Nodes.{Node}
use Rattle.simplicity.specs.Typing as kinds
use Rattle.simplicity.specs.Typing.{Typing, Arrow, arrow, IsTypingAt, EntryMeets, HasArrow, IsLight, IsEntryLight}
use Rattle.simplicity.specs.Machine.{Program, State, Totals, Fails, RunFails, turn, start}
use Rattle.simplicity.specs.Bounds.{bounds, stated}
use Rattle.simplicity.proofs.Rows.{program, byte, two_bytes, bit, shown}
use Rattle.simplicity.proofs.RowRuns.{after, reach, totals}

-- the run on nothing fails at these totals
record FailsAt (p : Program) (t : Totals) : Type 0 where
  end : State
  failed : RunFails p UnitValue end
  cost : end.totals ≡ t

fails_at : (n : ℕ) (p : Program) (t : Totals) → turn p (after n p (start p UnitValue)) ≡ Fails → (after n p (start p UnitValue)).totals ≡ t → FailsAt p t
fails_at n p t fails cost = record {
  end = after n p (start p UnitValue);
  failed = record { reached = reach n p (start p UnitValue); fails = fails };
  cost = cost;
}

abbrev zeros : List ℕ
zeros = replicate 32 0

-- an assertion of the left side, given the right one: the read fails, and counts nothing
abbrev left_nodes : List Node
left_nodes =
    node.UnitNode ∷ node.Injr 0 ∷ node.Pair 1 0 ∷ node.UnitNode ∷ node.Hidden zeros ∷ node.Case 3 4 ∷ node.Comp 2 5 ∷ []

abbrev left_typing : Typing
left_typing =
    shown One One ∷ shown One bit ∷ shown One (Product bit One) ∷ shown (Product One One) One ∷ None ∷ shown (Product bit One) One ∷ shown One One ∷ []

left_is_typing : IsTypingAt left_nodes (arrow One One) left_typing
left_is_typing = record {
  typed = (
    kinds.UnitNode One,
    (
      kinds.Injr 0 One One One refl,
      (
        kinds.Pair 1 0 One bit One refl refl,
        (
          kinds.UnitNode (Product One One),
          (
            tt,
            (kinds.AssertL 3 4 One One One One refl refl, (kinds.Comp 2 5 One (Product bit One) One refl refl, tt)),
          ),
        ),
      ),
    ),
  );
  rooted = refl;
}

left_fails : FailsAt (program left_nodes left_typing) (totals 6 7 1 3)
left_fails = fails_at 12 (program left_nodes left_typing) (totals 6 7 1 3) refl refl

-- an assertion of the right side, given the left one
abbrev right_nodes : List Node
right_nodes =
    node.UnitNode ∷ node.Injl 0 ∷ node.Pair 1 0 ∷ node.Hidden zeros ∷ node.UnitNode ∷ node.Case 3 4 ∷ node.Comp 2 5 ∷ []

abbrev right_typing : Typing
right_typing =
    shown One One ∷ shown One bit ∷ shown One (Product bit One) ∷ None ∷ shown (Product One One) One ∷ shown (Product bit One) One ∷ shown One One ∷ []

right_is_typing : IsTypingAt right_nodes (arrow One One) right_typing
right_is_typing = record {
  typed = (
    kinds.UnitNode One,
    (
      kinds.Injl 0 One One One refl,
      (
        kinds.Pair 1 0 One bit One refl refl,
        (
          tt,
          (
            kinds.UnitNode (Product One One),
            (kinds.AssertR 3 4 One One One One refl refl, (kinds.Comp 2 5 One (Product bit One) One refl refl, tt)),
          ),
        ),
      ),
    ),
  );
  rooted = refl;
}

right_fails : FailsAt (program right_nodes right_typing) (totals 6 7 1 3)
right_fails = fails_at 12 (program right_nodes right_typing) (totals 6 7 1 3) refl refl

-- `fail` alone
abbrev fail_nodes : List Node
fail_nodes = node.Fail (replicate 64 0) ∷ []

fail_fails : FailsAt (program fail_nodes (shown One One ∷ [])) (totals 0 0 0 2)
fail_fails = fails_at 1 (program fail_nodes (shown One One ∷ [])) (totals 0 0 0 2) refl refl

-- a byte, or nothing
abbrev some : Kind
some = Sum byte One

abbrev other : Kind
other = Sum One byte

-- a byte from a witness or 5 in its place, through both assertions, and 5 by the same case
abbrev wide_nodes : List Node
wide_nodes =
    node.Witness ∷ node.UnitNode ∷ node.Pair 0 1 ∷ node.Iden ∷ node.Take 3 ∷ node.UnitNode ∷ node.Word 3 5 ∷ node.Comp 5 6 ∷
    node.Case 4 7 ∷ node.Comp 2 8 ∷ node.Injl 9 ∷ node.Pair 10 1 ∷ node.Hidden zeros ∷ node.Case 4 12 ∷ node.Comp 11 13 ∷
    node.Injr 14 ∷ node.Pair 15 1 ∷ node.Case 12 4 ∷ node.Comp 16 17 ∷ node.Injr 1 ∷ node.Pair 19 1 ∷ node.Comp 20 8 ∷
    node.Pair 18 21 ∷ []

abbrev wide_typing : Typing
wide_typing =
    shown One some ∷ shown One One ∷ shown One (Product some One) ∷ shown byte byte ∷ shown (Product byte One) byte ∷
    shown (Product One One) One ∷ shown One byte ∷ shown (Product One One) byte ∷ shown (Product some One) byte ∷
    shown One byte ∷ shown One some ∷ shown One (Product some One) ∷ None ∷ shown (Product some One) byte ∷ shown One byte ∷
    shown One other ∷ shown One (Product other One) ∷ shown (Product other One) byte ∷ shown One byte ∷
    shown One some ∷ shown One (Product some One) ∷ shown One byte ∷ shown One two_bytes ∷ []

wide_is_typing : IsTypingAt wide_nodes (arrow One two_bytes) wide_typing
wide_is_typing = record {
  typed = (
    kinds.Witness One some,
    (
      kinds.UnitNode One,
      (
        kinds.Pair 0 1 One some One refl refl,
        (
          kinds.Iden byte,
          (
            kinds.Take 3 byte One byte refl,
            (
              kinds.UnitNode (Product One One),
              (
                kinds.Word 3 5,
                (
                  kinds.Comp 5 6 (Product One One) One byte refl refl,
                  (
                    kinds.Case 4 7 byte One One byte refl refl,
                    (
                      kinds.Comp 2 8 One (Product some One) byte refl refl,
                      (
                        kinds.Injl 9 One byte One refl,
                        (
                          kinds.Pair 10 1 One some One refl refl,
                          (
                            tt,
                            (
                              kinds.AssertL 4 12 byte One One byte refl refl,
                              (
                                kinds.Comp 11 13 One (Product some One) byte refl refl,
                                (
                                  kinds.Injr 14 One One byte refl,
                                  (
                                    kinds.Pair 15 1 One other One refl refl,
                                    (
                                      kinds.AssertR 12 4 One byte One byte refl refl,
                                      (
                                        kinds.Comp 16 17 One (Product other One) byte refl refl,
                                        (
                                          kinds.Injr 1 One byte One refl,
                                          (
                                            kinds.Pair 19 1 One some One refl refl,
                                            (kinds.Comp 20 8 One (Product some One) byte refl refl, (kinds.Pair 18 21 One byte byte refl refl, tt)),
                                          ),
                                        ),
                                      ),
                                    ),
                                  ),
                                ),
                              ),
                            ),
                          ),
                        ),
                      ),
                    ),
                  ),
                ),
              ),
            ),
          ),
        ),
      ),
    ),
  );
  rooted = refl;
}

wide_bounds : bounds wide_nodes wide_typing ≡ record { work = 155; cells = 43; frames = 6; depth = 11 }
wide_bounds = refl

-- bounds as a program states them
stated_bounds : stated (record { work = 2 ^ 64; cells = 43; frames = 6; depth = 2 ^ 64 - 1 }) ≡ record { work = 2 ^ 64 - 1; cells = 43; frames = 6; depth = 2 ^ 64 - 1 }
stated_bounds = refl

-- pairs of pairs of units
nested : ℕ → Kind
nested zero = One
nested (suc n) = Product (nested n) (nested n)

nested_weight : (n : ℕ) → weight (nested n) + 1 ≡ 2 ^ suc n
unfolding nested
nested_weight zero = refl
nested_weight (suc n) =
    let rest = nested_weight n in
    let power : 2 ^ suc (suc n) ≡ 2 ^ suc n * 2 = pow-suc 2 (suc n) in
    omega (arith, rest, power)

-- nothing, 21 pairs that are each of the node before with itself, and nothing again
abbrev pair_nodes : List Node
pair_nodes =
    node.Iden ∷ node.Pair 0 0 ∷ node.Pair 1 1 ∷ node.Pair 2 2 ∷ node.Pair 3 3 ∷ node.Pair 4 4 ∷ node.Pair 5 5 ∷
    node.Pair 6 6 ∷ node.Pair 7 7 ∷ node.Pair 8 8 ∷ node.Pair 9 9 ∷ node.Pair 10 10 ∷ node.Pair 11 11 ∷
    node.Pair 12 12 ∷ node.Pair 13 13 ∷ node.Pair 14 14 ∷ node.Pair 15 15 ∷ node.Pair 16 16 ∷ node.Pair 17 17 ∷
    node.Pair 18 18 ∷ node.Pair 19 19 ∷ node.Pair 20 20 ∷ node.UnitNode ∷ node.Comp 21 22 ∷ []

abbrev pair_typing : Typing
pair_typing =
    shown One (nested 0) ∷ shown One (nested 1) ∷ shown One (nested 2) ∷ shown One (nested 3) ∷ shown One (nested 4) ∷
    shown One (nested 5) ∷ shown One (nested 6) ∷ shown One (nested 7) ∷ shown One (nested 8) ∷ shown One (nested 9) ∷
    shown One (nested 10) ∷ shown One (nested 11) ∷ shown One (nested 12) ∷ shown One (nested 13) ∷
    shown One (nested 14) ∷ shown One (nested 15) ∷ shown One (nested 16) ∷ shown One (nested 17) ∷
    shown One (nested 18) ∷ shown One (nested 19) ∷ shown One (nested 20) ∷ shown One (nested 21) ∷
    shown (nested 21) One ∷ shown One One ∷ []

nested_zero : nested 0 ≡ One
unfolding nested
nested_zero = refl

nested_next : (n : ℕ) → nested (suc n) ≡ Product (nested n) (nested n)
unfolding nested
nested_next n = refl

pair_is_typing : IsTypingAt pair_nodes (arrow One One) pair_typing
pair_is_typing = record { typed = (first, (pairs 0 refl, (pairs 1 refl, (pairs 2 refl, (pairs 3 refl, (pairs 4 refl, (pairs 5 refl, (pairs 6 refl, (pairs 7 refl, (pairs 8 refl, (pairs 9 refl, (pairs 10 refl, (pairs 11 refl, (pairs 12 refl, (pairs 13 refl, (pairs 14 refl, (pairs 15 refl, (pairs 16 refl, (pairs 17 refl, (pairs 18 refl, (pairs 19 refl, (pairs 20 refl, (kinds.UnitNode (nested 21), (kinds.Comp 21 22 One (nested 21) One refl refl, tt)))))))))))))))))))))))); rooted = refl }
  where
    first : EntryMeets pair_typing node.Iden (shown One (nested 0))
    first = rw nested_zero (kinds.Iden One)

    pairs : (n : ℕ) → HasArrow pair_typing n One (nested n) → EntryMeets pair_typing (node.Pair n n) (shown One (nested (suc n)))
    pairs n h = rw (nested_next n) (kinds.Pair n n One (nested n) (nested n) h h)

-- the greatest weight in it
nested_light : (n : ℕ) → n ≤ 21 → weight (nested n) ≤ 4194303
nested_light n h =
    let power : 2 ^ suc n ≤ 2 ^ 22 = pow_mono {i = suc n} {j = 22} (omega arith) in
    omega (arith, nested_weight n, power)

nested_21 : weight (nested 21) ≡ 4194303
nested_21 = omega (arith, nested_weight 21)

heaviest : HasArrow pair_typing 21 One (nested 21)
heaviest = refl

pair_light : IsLight 4194303 pair_typing
pair_light = (light 0 (omega arith), (light 1 (omega arith), (light 2 (omega arith), (light 3 (omega arith), (light 4 (omega arith), (light 5 (omega arith), (light 6 (omega arith), (light 7 (omega arith), (light 8 (omega arith), (light 9 (omega arith), (light 10 (omega arith), (light 11 (omega arith), (light 12 (omega arith), (light 13 (omega arith), (light 14 (omega arith), (light 15 (omega arith), (light 16 (omega arith), (light 17 (omega arith), (light 18 (omega arith), (light 19 (omega arith), (light 20 (omega arith), (light 21 (omega arith), (last, (unit, tt))))))))))))))))))))))))
  where
    unit : IsEntryLight 4194303 (shown One One)
    unit = (omega arith, omega arith)

    light : (n : ℕ) → n ≤ 21 → IsEntryLight 4194303 (shown One (nested n))
    light n h = (omega arith, nested_light n h)

    last : IsEntryLight 4194303 (shown (nested 21) One)
    last = (nested_light 21 (omega arith), omega arith)
