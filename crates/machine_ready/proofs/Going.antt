-- Instructions and reads of a run find what they ask for.
use Rattle.std.proofs.Common.{◌≡◌, Bool, true, false, nat_le, List, [], ◌∷◌, ◌++◌, length, take, refl, sym, ap, ◌∙◌, subst, arith}
use Rattle.simplicity.specs.Types.{Value}
use Rattle.simplicity.specs.Cells.{Cell, Bit, Undefined}
use Rattle.simplicity.specs.Typing.{Arrow}
use Rattle.simplicity.specs.Bounds.{bounds}
use Rattle.simplicity.specs.Machine.{Frame, Program, IsInput, Item, At, Read, Side, State, Totals, Turn, Next, Stuck, turn, turn_on, where_held, choose, Reaches, Here, Onward, start, row_at}
use Rattle.frame_stack.specs.Stacks.{cells_ahead}
use Rattle.machine_laws.specs.Laws.{StaysWithin}
use Rattle.machine_laws.proofs.Traces.{runs_mean, runs_are_bounded}
use Rattle.machine_moves.specs.declared.trace.Instruction.{Instruction}
use Rattle.machine_moves.specs.declared.trace.Instruction.TheVariants as code
use Rattle.machine_moves.specs.Traced.{Traced, state}
use Rattle.machine_moves.specs.Moves.{item_of, IsReady, taken, HasBit}
use Rattle.machine_moves.proofs.Taken.{turns_are_taken}
use Rattle.machine_ready.specs.Ready.{IsWithin, LeadsOn, InstructionsAreReady, ReadsFindBits, NodesGiveWay}

pub one_on : (p : Program) (s z u : State) → Reaches p s z → turn p z ≡ Next u → Reaches p s u
one_on p _ _ u (Here w) e = Onward w u u e (Here u)
one_on p _ _ u (Onward s w z f more) e = Onward s w u f (one_on p w z u more e)

-- an instruction's turn is a next state, or it finds no frames or cells
pub data Goes (t : Turn) : Type 0 where
  GoesOn : (u : State) → t ≡ Next u → Goes t
  GoesNot : t ≡ Stuck → Goes t

held_goes : (b : Bool) (t : Turn) → Goes t → Goes (where_held b t)
held_goes true t g = g
held_goes false t g = GoesNot refl

module _ (p : Program) (rest : List Item) (x : Totals) where
  goes : (i : Instruction) (rs ws : List Frame) → Goes (turn_on p (item_of i ∷ rest) rs ws x)
  goes (code.Write b) rs [] = GoesNot refl
  goes (code.Write b) rs (g ∷ gs) = held_goes (nat_le 1 (length g.after)) _ (GoesOn _ refl)
  goes (code.Skip n) rs [] = GoesNot refl
  goes (code.Skip n) rs (g ∷ gs) = held_goes (nat_le n (length g.after)) _ (GoesOn _ refl)
  goes (code.Copy n) [] ws = GoesNot refl
  goes (code.Copy n) (f ∷ fs) [] = GoesNot refl
  goes (code.Copy n) (f ∷ fs) (g ∷ gs) = held_goes (nat_le n (length f.after)) _ (held_goes (nat_le n (length g.after)) _ (GoesOn _ refl))
  goes (code.Forward n) [] ws = GoesNot refl
  goes (code.Forward n) (f ∷ fs) ws = held_goes (nat_le n (length f.after)) _ (GoesOn _ refl)
  goes (code.Back n) [] ws = GoesNot refl
  goes (code.Back n) (f ∷ fs) ws = held_goes (nat_le n (length f.before)) _ (GoesOn _ refl)
  goes (code.NewFrame n) rs ws = GoesOn _ refl
  goes code.MoveFrame rs [] = GoesNot refl
  goes code.MoveFrame rs (g ∷ gs) = GoesOn _ refl
  goes code.DropFrame [] ws = GoesNot refl
  goes code.DropFrame (f ∷ fs) ws = GoesOn _ refl
  goes code.Nop rs ws = GoesOn _ refl

next_is : (s u : State) → Next s ≡ Next u → s ≡ u
next_is s u e = cc

leads : (p : Program) (root : Arrow) (v : Value) → IsInput p root v → (rest : List Item) (i : Instruction) (t : Traced) → Reaches p (start p v) (state (item_of i ∷ rest) t) →
    IsWithin t (bounds p.nodes p.typing) → Goes (turn p (state (item_of i ∷ rest) t)) → LeadsOn p v rest i t
leads p root v input rest i t reached within (GoesNot stuck) = absurd ((runs_mean p root v input).never_stuck (state (item_of i ∷ rest) t) reached stuck)
leads p root v input rest i t reached within (GoesOn u next) =
    let there : Reaches p (start p v) u = one_on p (start p v) (state (item_of i ∷ rest) t) u reached next in
    let stays : StaysWithin u (bounds p.nodes p.typing) = runs_are_bounded p root v input u there in
    let ready : IsReady i t.stacks = turns_are_taken.ready p rest i t u next (omega (arith, stays.cells, within.room)) (omega (arith, stays.frames, within.places)) in
    let same : u ≡ state rest (taken i t) = next_is u (state rest (taken i t)) (sym next ∙ turns_are_taken.goes p rest i t ready) in
    record {
      can = record {
        ready = ready;
        count = omega (arith, stays.totals.count, within.work, ap (λ (s : State). s.totals.count) same);
        work = omega (arith, stays.totals.work, within.work, ap (λ (s : State). s.totals.work) same);
      };
      leads = subst (λ (s : State). Reaches p (start p v) s) same there;
    }

pub instructions_are_ready : InstructionsAreReady
instructions_are_ready p root v input rest i t reached within =
    leads p root v input rest i t reached within (goes p rest t.totals i t.stacks.reads t.stacks.writes)

-- a read that isn't stuck finds a bit
finds : (p : Program) (rest : List Item) (x : Totals) (left right : Side) (rs ws : List Frame) → (turn_on p (Read left right ∷ rest) rs ws x ≡ Stuck → ⊥) → HasBit (cells_ahead 1 rs)
finds p rest x left right [] ws h = absurd (h refl)
finds p rest x left right (f ∷ fs) ws h = by_cells f.after h where
  by_cells : (cs : List Cell) → (choose cs left right rest (f ∷ fs) ws x ≡ Stuck → ⊥) → HasBit (take 1 cs)
  by_cells [] g = absurd (g refl)
  by_cells (Undefined ∷ cs) g = absurd (g refl)
  by_cells (Bit false ∷ cs) g = tt
  by_cells (Bit true ∷ cs) g = tt

pub reads_find_bits : ReadsFindBits
reads_find_bits p root v input rest left right t reached =
    finds p rest t.totals left right t.stacks.reads t.stacks.writes (λ e. (runs_mean p root v input).never_stuck (state (Read left right ∷ rest) t) reached e)

pub nodes_give_way : NodesGiveWay
nodes_give_way p v rest i t reached = one_on p (start p v) (state (At i ∷ rest) t) (state (row_at p i ++ rest) t) reached refl
