-- Instructions are turns of the machine, instruction by instruction.
use Rattle.std.proofs.Common.{◌≡◌, ℕ, ◌+◌, ◌≤◌, Bool, true, false, nat_le, List, [], ◌∷◌, length, take, refl, ap, ◌∙◌, arith}
use Rattle.std.proofs.lemmas.Bool.{le-leb, leb-true}
use Rattle.std.proofs.lemmas.List.{length-replicate}
use Rattle.simplicity.specs.Cells.{Cell, Bit, Undefined}
use Rattle.simplicity.specs.Machine as spec
use Rattle.simplicity.specs.Machine.{Frame, Item, Read, Side, Program, State, Totals, Turn, Next, Stuck, turn, turn_on, went, where_held, chosen, choose, held}
use Rattle.frame_stack.specs.Stacks.{cells_ahead}
use Rattle.machine_moves.specs.declared.trace.Instruction.{Instruction}
use Rattle.machine_moves.specs.declared.trace.Instruction.TheVariants as code
use Rattle.machine_moves.specs.Traced.{Traced, state}
use Rattle.machine_moves.specs.Moves.{item_of, IsReady, taken, side_by}
use Rattle.machine_moves.specs.Laws.{TurnsAreTaken}

held_turn : (n m : ℕ) (t : Turn) → n ≤ m → where_held (nat_le n m) t ≡ t
held_turn n m t h = ap (λ (b : Bool). where_held b t) (le-leb n m h)

-- a turn that is taken finds its cells
held_true : (b : Bool) (t : Turn) (u : State) → where_held b t ≡ Next u → b ≡ true
held_true true t u e = refl
held_true false t u e = absurd (cc)

found : (n m : ℕ) (t : Turn) (u : State) → where_held (nat_le n m) t ≡ Next u → n ≤ m
found n m t u e = leb-true n m (held_true (nat_le n m) t u e)

within : (b : Bool) (t : Turn) (u : State) → where_held b t ≡ Next u → t ≡ Next u
within true t u e = e
within false t u e = absurd (cc)

module _ (p : Program) (rest : List Item) (room places : ℕ) (x : Totals) where
  abbrev traced : List Frame → List Frame → Traced
  traced rs ws = record { stacks = record { reads = rs; writes = ws; room = room; places = places }; totals = x }

  goes : (i : Instruction) (rs ws : List Frame) → IsReady i (traced rs ws).stacks → turn p (state (item_of i ∷ rest) (traced rs ws)) ≡ Next (state rest (taken i (traced rs ws)))
  goes (code.Write b) rs [] h = absurd h
  goes (code.Write b) rs (g ∷ gs) h = held_turn 1 (length g.after) _ h
  goes (code.Skip n) rs [] h = absurd h
  goes (code.Skip n) rs (g ∷ gs) h = held_turn n (length g.after) _ h
  goes (code.Copy n) [] ws h = absurd h.0
  goes (code.Copy n) (f ∷ fs) [] h = absurd h.1
  goes (code.Copy n) (f ∷ fs) (g ∷ gs) h = held_turn n (length f.after) _ h.0 ∙ held_turn n (length g.after) _ h.1
  goes (code.Forward n) [] ws h = absurd h
  goes (code.Forward n) (f ∷ fs) ws h = held_turn n (length f.after) _ h
  goes (code.Back n) [] ws h = absurd h
  goes (code.Back n) (f ∷ fs) ws h = held_turn n (length f.before) _ h
  goes (code.NewFrame n) rs ws h = refl
  goes code.MoveFrame rs [] h = absurd h
  goes code.MoveFrame rs (g ∷ gs) h = refl
  goes code.DropFrame [] ws h = absurd h
  goes code.DropFrame (f ∷ fs) ws h = refl
  goes code.Nop rs ws h = refl

  ready : (i : Instruction) (rs ws : List Frame) (u : State) → turn p (state (item_of i ∷ rest) (traced rs ws)) ≡ Next u → held u.reads + held u.writes ≤ room →
      length u.reads + length u.writes ≤ places → IsReady i (traced rs ws).stacks
  ready (code.Write b) rs [] u e m n = absurd (cc)
  ready (code.Write b) rs (g ∷ gs) u e m n = found 1 (length g.after) _ u e
  ready (code.Skip k) rs [] u e m n = absurd (cc)
  ready (code.Skip k) rs (g ∷ gs) u e m n = found k (length g.after) _ u e
  ready (code.Copy k) [] ws u e m n = absurd (cc)
  ready (code.Copy k) (f ∷ fs) [] u e m n = absurd (cc)
  ready (code.Copy k) (f ∷ fs) (g ∷ gs) u e m n = (found k (length f.after) _ u e, found k (length g.after) _ u (within (nat_le k (length f.after)) _ u e))
  ready (code.Forward k) [] ws u e m n = absurd (cc)
  ready (code.Forward k) (f ∷ fs) ws u e m n = found k (length f.after) _ u e
  ready (code.Back k) [] ws u e m n = absurd (cc)
  ready (code.Back k) (f ∷ fs) ws u e m n = found k (length f.before) _ u e
  ready (code.NewFrame k) rs ws u e m n =
      let to_state : Turn → State → State = λ t d. elim t [ Next s ↦ s | spec.Ends ↦ d | spec.Fails ↦ d | Stuck ↦ d ] in
      let same : state rest (taken (code.NewFrame k) (traced rs ws)) ≡ u = ap (λ (t : Turn). to_state t u) e in
      (omega (arith, ap (λ (s : State). held s.reads + held s.writes) same, length-replicate k Undefined), omega (arith, ap (λ (s : State). length s.reads + length s.writes) same))
  ready code.MoveFrame rs [] u e m n = absurd (cc)
  ready code.MoveFrame rs (g ∷ gs) u e m n = omega arith
  ready code.DropFrame [] ws u e m n = absurd (cc)
  ready code.DropFrame (f ∷ fs) ws u e m n = omega arith
  ready code.Nop rs ws u e m n = tt

  chooses : (left right : Side) (rs ws : List Frame) (b : Bool) → cells_ahead 1 rs ≡ Bit b ∷ [] → turn p (state (Read left right ∷ rest) (traced rs ws)) ≡ chosen (side_by b left right) rest rs ws x
  chooses left right [] ws b e = absurd (cc)
  chooses left right (f ∷ fs) ws b e = by_cell f.after e where
    by_cell : (cs : List Cell) → take 1 cs ≡ Bit b ∷ [] → choose cs left right rest (f ∷ fs) ws x ≡ chosen (side_by b left right) rest (f ∷ fs) ws x
    by_cell [] h = absurd (cc)
    by_cell (Undefined ∷ cs) h = absurd (cc)
    by_cell (Bit false ∷ cs) h = let same : false ≡ b = cc in ap (λ (y : Bool). chosen (side_by y left right) rest (f ∷ fs) ws x) same
    by_cell (Bit true ∷ cs) h = let same : true ≡ b = cc in ap (λ (y : Bool). chosen (side_by y left right) rest (f ∷ fs) ws x) same

pub turns_are_taken : TurnsAreTaken
turns_are_taken = record {
  goes = λ p rest i t h. goes p rest t.stacks.room t.stacks.places t.totals i t.stacks.reads t.stacks.writes h;
  ready = λ p rest i t u e m n. ready p rest t.stacks.room t.stacks.places t.totals i t.stacks.reads t.stacks.writes u e m n;
  chooses = λ p rest left right t b e. chooses p rest t.stacks.room t.stacks.places t.totals left right t.stacks.reads t.stacks.writes b e;
}
