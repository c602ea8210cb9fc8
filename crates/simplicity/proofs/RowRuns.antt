-- The worked programs run on the Bit Machine: their values, instructions, cells and frames, and the bounds that the lists give.
use Rattle.std.proofs.Common.{◌≡◌, refl, ℕ, zero, suc}
use Rattle.simplicity.specs.Types.{Kind, One, Value, UnitValue, Pair, word_value}
use Rattle.simplicity.specs.Machine.{Program, State, Totals, Turn, Next, Ends, Fails, Stuck, Reaches, Here, Onward, RunEnds, HoldsResult, turn, start}
use Rattle.simplicity.specs.Bounds.{bounds}
use Rattle.simplicity.proofs.Rows.{program, empty_nodes, empty_typing, same_nodes, same_typing, swap_nodes, swap_typing, five_nodes, five_typing, assert_nodes, assert_typing, byte, two_bytes}

-- the state after at most so many turns
abbrev pub after_turn : (State → State) → State → Turn → State
after_turn go s (Next u) = go u
after_turn go s _ = s

abbrev pub after : ℕ → Program → State → State
after zero p s = s
after (suc n) p s = after_turn (after n p) s (turn p s)

-- turns lead there
reach_turn : (go : State → State) (p : Program) (s : State) (t : Turn) → turn p s ≡ t → ((u : State) → Reaches p u (go u)) →
    Reaches p s (after_turn go s t)
reach_turn go p s (Next u) e on = Onward s u (go u) e (on u)
reach_turn go p s Ends e on = Here s
reach_turn go p s Fails e on = Here s
reach_turn go p s Stuck e on = Here s

pub reach : (n : ℕ) (p : Program) (s : State) → Reaches p s (after n p s)
reach zero p s = Here s
reach (suc n) p s = reach_turn (after n p) p s (turn p s) refl (λ u. reach n p u)

-- the run on an input ends with a value of a type, at these totals
pub record Runs (p : Program) (input : Value) (k : Kind) (output : Value) (t : Totals) : Type 0 where
  end : State
  ran : RunEnds p input end
  holds : HoldsResult k output end
  cost : end.totals ≡ t

pub runs : (n : ℕ) (p : Program) (input : Value) (k : Kind) (output : Value) (t : Totals) → turn p (after n p (start p input)) ≡ Ends →
    HoldsResult k output (after n p (start p input)) → (after n p (start p input)).totals ≡ t → Runs p input k output t
runs n p input k output t ends holds cost = record {
  end = after n p (start p input);
  ran = record { reached = reach n p (start p input); ends = ends };
  holds = holds;
  cost = cost;
}

abbrev pub totals : ℕ → ℕ → ℕ → ℕ → Totals
totals count work cells frames = record { count = count; work = work; cells = cells; frames = frames }

empty_run : Runs (program empty_nodes empty_typing) UnitValue One UnitValue (totals 1 1 0 2)
empty_run = runs 3 (program empty_nodes empty_typing) UnitValue One UnitValue (totals 1 1 0 2) refl refl refl

same_run : Runs (program same_nodes same_typing) (word_value 3 7) byte (word_value 3 7) (totals 1 9 16 2)
same_run = runs 3 (program same_nodes same_typing) (word_value 3 7) byte (word_value 3 7) (totals 1 9 16 2) refl refl refl

swap_run : Runs (program swap_nodes swap_typing) (Pair (word_value 3 1) (word_value 3 2)) two_bytes (Pair (word_value 3 2) (word_value 3 1)) (totals 4 20 32 2)
swap_run =
    runs 12 (program swap_nodes swap_typing) (Pair (word_value 3 1) (word_value 3 2)) two_bytes (Pair (word_value 3 2) (word_value 3 1))
    (totals 4 20 32 2) refl refl refl

five_run : Runs (program five_nodes five_typing) UnitValue byte (word_value 3 5) (totals 20 20 8 3)
five_run = runs 30 (program five_nodes five_typing) UnitValue byte (word_value 3 5) (totals 20 20 8 3) refl refl refl

assert_run : Runs (program assert_nodes assert_typing) UnitValue One UnitValue (totals 18 19 1 4)
assert_run = runs 40 (program assert_nodes assert_typing) UnitValue One UnitValue (totals 18 19 1 4) refl refl refl

-- the bounds of the swap and of the byte
swap_bounds : bounds swap_nodes swap_typing ≡ record { work = 20; cells = 32; frames = 2; depth = 3 }
swap_bounds = refl

five_bounds : bounds five_nodes five_typing ≡ record { work = 20; cells = 8; frames = 3; depth = 2 }
five_bounds = refl
