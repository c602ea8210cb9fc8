-- The least typings of the worked programs, and that they are accepted.
use Rattle.std.proofs.Common.{◌≡◌, refl, sym, subst, ap, ◌∙◌, ℕ, List, [], ◌∷◌, length, Some, None, arith}
use Rattle.std.specs.Prelude.{slice_get}
use Rattle.simplicity.specs.Types.{Kind, One, Sum, Product, weight}
use Rattle.simplicity.specs.Nodes.{Node}
use Rattle.simplicity.specs.Nodes as node
use Rattle.simplicity.specs.Typing.{Typing, Arrow, arrow, HasArrow, HasNoArrow, Meets, IsTypingAt, IsTypingBelow, IsLeast, HasNoTyping, source_of, target_of}
use Rattle.simplicity.specs.Typing as row
use Rattle.simplicity.proofs.Typings.{meets_at, hidden_at, typing_length, HasFrom, same_list}
use Rattle.simplicity.proofs.Inversion.{iden_meets, unit_meets, take_meets, drop_meets, comp_meets, pair_meets, drop_part, injr_part, pair_parts, assertr_meets}
use Rattle.simplicity.proofs.Below.{typing_below_self}
use Rattle.simplicity.proofs.Rows.{shown, empty_nodes, empty_typing, same_nodes, same_typing, second_nodes, second_typing, swap_nodes, swap_typing, five_nodes, five_typing, assert_nodes, assert_typing, fail_root, endless_nodes, byte, two_bytes, bit}

-- a typing with these entries is the list of them, so the list is at or below it
below_same : (ns : List Node) (ts us : Typing) (root : Arrow) → IsTypingAt ns root us → length ns ≡ length ts → HasFrom us 0 ts → IsTypingBelow ts us
below_same ns ts us root h count entries =
    let same : us ≡ ts = same_list us ts (typing_length us ns us h.typed ∙ count) entries in
    subst (IsTypingBelow ts) (sym same) (typing_below_self ts)

pub empty_least : IsLeast empty_nodes (arrow One One) empty_typing
empty_least = record {
  typing = record { typed = (row.UnitNode One, tt); rooted = refl };
  least = λ us h. below_same empty_nodes empty_typing us (arrow One One) h refl (h.rooted, tt);
}

pub same_least : IsLeast same_nodes (arrow byte byte) same_typing
same_least = record {
  typing = record { typed = (row.Iden byte, tt); rooted = refl };
  least = λ us h. below_same same_nodes same_typing us (arrow byte byte) h refl (h.rooted, tt);
}

pub second_least : IsLeast second_nodes (arrow two_bytes byte) second_typing
second_least = record {
  typing = record { typed = (row.Iden byte, (row.Drop 0 byte byte byte refl, tt)); rooted = refl };
  least = λ us h.
      let child = drop_part us 0 two_bytes byte byte byte (meets_at us second_nodes 1 (node.Drop 0) two_bytes byte h.typed refl h.rooted) refl in
      below_same second_nodes second_typing us (arrow two_bytes byte) h refl (child, (h.rooted, tt));
}

pub swap_least : IsLeast swap_nodes (arrow two_bytes two_bytes) swap_typing
swap_least = record {
  typing = record {
    typed =
        (row.Iden byte, (row.Drop 0 byte byte byte refl, (row.Take 0 byte byte byte refl, (row.Pair 1 2 two_bytes byte byte refl refl, tt))));
    rooted = refl;
  };
  least = λ us h.
      let parts = pair_parts us 1 2 two_bytes two_bytes byte byte (meets_at us swap_nodes 3 (node.Pair 1 2) two_bytes two_bytes h.typed refl h.rooted) refl in
      let child = drop_part us 0 two_bytes byte byte byte (meets_at us swap_nodes 1 (node.Drop 0) two_bytes byte h.typed refl parts.0) refl in
      below_same swap_nodes swap_typing us (arrow two_bytes two_bytes) h refl (child, (parts.0, (parts.1, (h.rooted, tt))));
}

pub five_least : IsLeast five_nodes (arrow One byte) five_typing
five_least = record {
  typing = record { typed = (row.UnitNode One, (row.Word 3 5, (row.Comp 0 1 One One byte refl refl, tt))); rooted = refl };
  least = λ us h.
      let middle = comp_meets us 0 1 One byte (meets_at us five_nodes 2 (node.Comp 0 1) One byte h.typed refl h.rooted) in
      let unit : middle.0 ≡ One = unit_meets us One middle.0 (meets_at us five_nodes 0 node.UnitNode One middle.0 h.typed refl middle.1) in
      let first : HasArrow us 0 One One = subst (HasArrow us 0 One) unit middle.1 in
      let second : HasArrow us 1 One byte = subst (λ (k : Kind). HasArrow us 1 k byte) unit middle.2 in
      below_same five_nodes five_typing us (arrow One byte) h refl (first, (second, (h.rooted, tt)));
}

assert_typed : IsTypingAt assert_nodes (arrow One One) assert_typing
assert_typed = record {
  typed = (
    row.UnitNode One,
    (
      row.Injr 0 One One One refl,
      (
        row.Pair 1 0 One bit One refl refl,
        (
          tt,
          (
            row.UnitNode (Product One One),
            (
              row.AssertR 3 4 One One One One refl refl,
              (
                row.Comp 2 5 One (Product bit One) One refl refl,
                (
                  row.Pair 6 0 One One One refl refl,
                  (row.Iden One, (row.Drop 8 One One One refl, (row.Comp 7 9 One (Product One One) One refl refl, tt))),
                ),
              ),
            ),
          ),
        ),
      ),
    ),
  );
  rooted = refl;
}

-- an arrow by equal types
pub same_arrow : (us : Typing) (i : ℕ) (a b c d : Kind) → HasArrow us i a b → a ≡ c → b ≡ d → HasArrow us i c d
same_arrow us i a b c d h e f = subst (λ (k : Kind). HasArrow us i c k) f (subst (λ (k : Kind). HasArrow us i k b) e h)

-- the entries of every typing, in which one type is free
assert_below : (us : Typing) → IsTypingAt assert_nodes (arrow One One) us → (m k p q a b c : Kind) → m ≡ Product p q → p ≡ One → q ≡ One →
    k ≡ Product (Sum a b) c → b ≡ One → c ≡ One → HasArrow us 9 m One → HasArrow us 8 q One → HasArrow us 7 One m → HasArrow us 6 One p →
    HasArrow us 5 k p → HasArrow us 4 (Product b c) p → HasArrow us 2 One k → HasArrow us 1 One (Sum a b) → HasArrow us 0 One c →
    IsTypingBelow assert_typing us
assert_below us h m k p q a b c m_is p_is q_is k_is b_is c_is h9 h8 h7 h6 h5 h4 h2 h1 h0 =
    let middle : m ≡ Product One One = cc in
    let tested : k ≡ Product (Sum a One) One = cc in
    let held : Product b c ≡ Product One One = cc in
    let bits : Sum a b ≡ Sum a One = cc in
    let es = shown One One ∷ shown One (Sum a One) ∷ shown One (Product (Sum a One) One) ∷ None ∷ shown (Product One One) One ∷
    shown (Product (Sum a One) One) One ∷ shown One One ∷ shown One (Product One One) ∷ shown One One ∷ shown (Product One One) One ∷
    shown One One ∷ [] in
    let entries : HasFrom us 0 es = (
      same_arrow us 0 One c One One h0 refl c_is,
      (
        same_arrow us 1 One (Sum a b) One (Sum a One) h1 refl bits,
        (
          same_arrow us 2 One k One (Product (Sum a One) One) h2 refl tested,
          (
            hidden_at us assert_nodes 3 fail_root h.typed refl,
            (
              same_arrow us 4 (Product b c) p (Product One One) One h4 held p_is,
              (
                same_arrow us 5 k p (Product (Sum a One) One) One h5 tested p_is,
                (
                  same_arrow us 6 One p One One h6 refl p_is,
                  (
                    same_arrow us 7 One m One (Product One One) h7 refl middle,
                    (same_arrow us 8 q One One One h8 q_is refl, (same_arrow us 9 m One (Product One One) One h9 middle refl, (h.rooted, tt))),
                  ),
                ),
              ),
            ),
          ),
        ),
      ),
    ) in
    let same : us ≡ es = same_list us es (typing_length us assert_nodes us h.typed) entries in
    subst (IsTypingBelow assert_typing) (sym same) (
      (tt, tt),
      (
        (tt, (tt, tt)),
        (
          (tt, ((tt, tt), tt)),
          (
            tt,
            (
              ((tt, tt), tt),
              (
                (((tt, tt), tt), tt),
                (
                  (tt, tt),
                  (
                    (tt, (tt, tt)),
                    (
                      (tt, tt),
                      (((tt, tt), tt), ((tt, tt), tt)),
                    ),
                  ),
                ),
              ),
            ),
          ),
        ),
      ),
    )

pub assert_least : IsLeast assert_nodes (arrow One One) assert_typing
assert_least = record {
  typing = assert_typed;
  least = λ us h.
      let at = λ (i : ℕ) (n : Node) (a b : Kind) (is : slice_get assert_nodes i ≡ Some n) (has : HasArrow us i a b). meets_at us assert_nodes i n a b h.typed is has in
      let whole = comp_meets us 7 9 One One (at 10 (node.Comp 7 9) One One refl h.rooted) in
      let m = whole.0 in
      let last = drop_meets us 8 m One (at 9 (node.Drop 8) m One refl whole.2) in
      let unit : last.1 ≡ One = iden_meets us last.1 One (at 8 node.Iden last.1 One refl last.3) in
      let both = pair_parts us 6 0 One m last.0 last.1 (at 7 (node.Pair 6 0) One m refl whole.1) last.2 in
      let test = comp_meets us 2 5 One last.0 (at 6 (node.Comp 2 5) One last.0 refl both.0) in
      let k = test.0 in
      let side = assertr_meets us 3 4 k last.0 (at 5 (node.Case 3 4) k last.0 refl test.2) (hidden_at us assert_nodes 3 fail_root h.typed refl) in
      let passed : last.0 ≡ One = unit_meets us (Product side.1 side.2) last.0 (at 4 node.UnitNode (Product side.1 side.2) last.0 refl side.4) in
      let parts = pair_parts us 1 0 One k (Sum side.0 side.1) side.2 (at 2 (node.Pair 1 0) One k refl test.1) side.3 in
      let right = injr_part us 0 One (Sum side.0 side.1) side.0 side.1 (at 1 (node.Injr 0) One (Sum side.0 side.1) refl parts.0) (refl {a = Sum side.0 side.1}) in
      let one : side.1 ≡ One = unit_meets us One side.1 (at 0 node.UnitNode One side.1 refl right) in
      let rest : side.2 ≡ One = unit_meets us One side.2 (at 0 node.UnitNode One side.2 refl parts.1) in
      assert_below us h m k last.0 last.1 side.0 side.1 side.2 last.2 passed unit side.3 one rest
      whole.2 last.3 whole.1 both.0 test.2 side.4 test.1 parts.0 parts.1;
}

-- no type holds itself as a part
pub endless : (root : Arrow) → HasNoTyping endless_nodes root
endless root us h =
    let parts = pair_meets us 0 1 root.source root.target (meets_at us endless_nodes 2 (node.Pair 0 1) root.source root.target h.typed refl h.rooted) in
    let left = take_meets us 0 root.source parts.1 (meets_at us endless_nodes 1 (node.Take 0) root.source parts.1 h.typed refl parts.4) in
    let whole : root.source ≡ Product left.0 left.1 = left.2 in
    let part : root.source ≡ left.0 = sym (ap source_of parts.3) ∙ ap source_of left.3 in
    let same : weight root.source ≡ weight (Product root.source left.1) = ap weight (whole ∙ ap (λ k. Product k left.1) (sym part)) in
    omega arith
