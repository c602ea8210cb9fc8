-- The run of a typed list: where it ends, and what it costs.
use Rattle.std.proofs.Common.{◌≡◌, refl, ap, sym, subst, ◌∙◌, ℕ, ◌+◌, ◌-◌, ◌≤◌, List, [], ◌∷◌, length, Some, None, arith}
use Rattle.std.specs.Prelude.{slice_get}
use Rattle.std.proofs.lemmas.List.{length-replicate, append-nil}
use Rattle.simplicity.specs.Types.{Kind, Value, IsOf, size}
use Rattle.simplicity.specs.Cells.{Undefined, undefined, cells}
use Rattle.simplicity.specs.Terms.{Answer, meaning}
use Rattle.simplicity.specs.Nodes.{Node, IsPlaced, IsShown, Unfolds, tree_of_node, tree_of}
use Rattle.simplicity.specs.Typing.{Typing, Arrow, arrow, arrow_of, root_arrow, HasArrow, IsTyping}
use Rattle.simplicity.specs.Bounds.{Bounds, bounds, bounds_at}
use Rattle.simplicity.specs.Machine.{IsInput, Frame, frame, put, At, Program, State, Totals, Turn, Next, Ends, Fails, Stuck, turn, Reaches, Here, Onward, start, HoldsResult}
use Rattle.simplicity.proofs.Values.{cells_length}
use Rattle.simplicity.proofs.Typings.{some_node}
use Rattle.simplicity.proofs.Unfold.{seen}
use Rattle.simplicity.proofs.Trees.{nodes_unfold, shown_unless_hidden}
use Rattle.machine_laws.specs.Laws.{MeansEnd, RunsMean, RunsAreBounded}
use Rattle.machine_laws.proofs.Moves.{drop_front, frame_eq}
use Rattle.machine_laws.proofs.Lands.{Lands}
use Rattle.machine_laws.proofs.Forms.{state, ending}
use Rattle.machine_laws.proofs.Simulation.{IsFit, listed, Can, simulation}
use Rattle.machine_laws.proofs.Growing.{IsPeak, reach_peaks, AreMost, grows, later, last_is_one}

unfolds_by : (ns : List Node) (ts : Typing) (i : ℕ) (a b : Kind) → IsPlaced ns → IsTyping ns ts → HasArrow ts i a b → Unfolds ns i (tree_of_node ns i)
unfolds_by ns ts i a b placed h has =
    let there = some_node ts ns ts i (Some (arrow a b)) h has in
    let shown : IsShown (Some there.0) = shown_unless_hidden ns ts i a b there.0 h has there.1 (seen there.0) in
    nodes_unfold ns i placed (subst IsShown (sym there.1) shown)

abbrev pub begun : Arrow → Totals
begun a = record { count = 0; work = 0; cells = size a.source + size a.target; frames = 2 }

-- the state before a run at an arrow
abbrev pub begin : Program → Value → Arrow → State
begin p v a = state (At (length p.nodes - 1) ∷ []) (frame (cells a.source v) ∷ []) (frame (undefined (size a.target)) ∷ []) (begun a)

abbrev pub root_bounds : Program → Bounds
root_bounds p = bounds_at (listed p) (length p.nodes - 1)

abbrev result : Program → Value → Arrow → Value → Totals → State
result p v a u t = ending [] (frame (cells a.source v) ∷ []) (frame (undefined (size a.target))) [] a.target u t

-- the whole run
run_lands : (p : Program) (a : Arrow) (v : Value) → IsFit p → HasArrow p.typing (length p.nodes - 1) a.source a.target → IsOf v a.source →
    Lands p (begin p v a) (size a.source + size a.target + (root_bounds p).cells) (2 + (root_bounds p).frames) a.target (result p v a)
    (meaning (tree_of p.nodes) p.witness v) (root_bounds p).work
run_lands p a v fit has input =
    let root : ℕ = length p.nodes - 1 in
    let can : Can p root (tree_of_node p.nodes root) =
    simulation p root (tree_of_node p.nodes root) fit (unfolds_by p.nodes p.typing root a.source a.target fit.placed fit.typed has) in
    can a.source a.target has v input [] (frame (cells a.source v)) [] (frame (undefined (size a.target))) [] (begun a)
    (size a.source + size a.target + (root_bounds p).cells) (2 + (root_bounds p).frames) (record {
      beyond = [];
      room = [];
      input = sym (append-nil (cells a.source v));
      free = sym (append-nil (undefined (size a.target)));
      weighs = omega (arith, cells_length a.source v input, length-replicate (size a.target) Undefined);
      many = omega arith;
      cells_in = omega arith;
      frames_in = omega arith;
    })

-- work and peaks within bounds
pub record IsSpent (t : Totals) (b : Bounds) : Type 0 where
  pub work : t.work ≤ b.work
  pub cells : t.cells ≤ b.cells
  pub frames : t.frames ≤ b.frames

-- how a run is over: with the answer's value in the write frame, or failed where there is none
abbrev pub Closes : Program → Arrow → Value → Answer → State → Type 0
Closes p a v None z = turn p z ≡ Fails
Closes p a v (Some u) z = (turn p z ≡ Ends) × (HoldsResult a.target u z × (z.reads ≡ frame (cells a.source v) ∷ []))

pub record Over (p : Program) (a : Arrow) (v : Value) (o : Answer) : Type 0 where
  pub last : State
  pub reached : Reaches p (begin p v a) last
  pub closes : Closes p a v o last
  pub within : IsSpent last.totals (record { work = (root_bounds p).work; cells = size a.source + size a.target + (root_bounds p).cells; frames = 2 + (root_bounds p).frames; depth = (root_bounds p).depth })

full : (b : Kind) (u : Value) → IsOf u b → put (cells b u) (frame (undefined (size b))) ≡ record { before = cells b u; after = [] }
full b u of =
    frame_eq (put (cells b u) (frame (undefined (size b)))) (cells b u) [] refl
    (drop_front (length (cells b u)) (undefined (size b)) [] (undefined (size b)) (sym (append-nil (undefined (size b))))
    (length-replicate (size b) Undefined ∙ sym (cells_length b u of)))

over_by : (p : Program) (a : Arrow) (v : Value) (o : Answer) →
    Lands p (begin p v a) (size a.source + size a.target + (root_bounds p).cells) (2 + (root_bounds p).frames) a.target (result p v a) o (root_bounds p).work → Over p a v o
over_by p a v None l =
    record { last = l.last; reached = l.reached; closes = l.fails; within = record { work = omega (arith, l.work); cells = l.cells; frames = l.frames } }
over_by p a v (Some u) l =
    record {
      last = result p v a u l.totals;
      reached = l.reached;
      closes = (refl, (ap (λ (g : Frame). g ∷ []) (full a.target u l.typed), refl));
      within = record { work = omega (arith, l.work); cells = l.cells; frames = l.frames };
    }

-- the same from the state that runs start from
pub record Ran (p : Program) (root : Arrow) (v : Value) (o : Answer) : Type 0 where
  pub last : State
  pub reached : Reaches p (start p v) last
  pub closes : Closes p root v o last
  pub within : IsSpent last.totals (bounds p.nodes p.typing)

ran_by : (p : Program) (root a : Arrow) (v : Value) (o : Answer) → root_arrow p.nodes p.typing ≡ a → root ≡ a → Over p (root_arrow p.nodes p.typing) v o → Ran p root v o
ran_by p root a v o e f over =
    record {
      last = over.last;
      reached = over.reached;
      closes = subst (λ (x : Arrow). Closes p x v o over.last) (e ∙ sym f) over.closes;
      within = record { work = over.within.work; cells = over.within.cells; frames = over.within.frames };
    }

pub ran : (p : Program) (root : Arrow) (v : Value) → IsInput p root v → Ran p root v (meaning (tree_of p.nodes) p.witness v)
ran p root v h =
    let fit : IsFit p = record { placed = h.placed; typed = h.typed.typed; witness = h.witness } in
    let same : root_arrow p.nodes p.typing ≡ root = ap arrow_of h.typed.rooted in
    let o : Answer = meaning (tree_of p.nodes) p.witness v in
    let has : HasArrow p.typing (length p.nodes - 1) (root_arrow p.nodes p.typing).source (root_arrow p.nodes p.typing).target =
    subst (λ (x : Arrow). slice_get p.typing (length p.nodes - 1) ≡ Some (Some x)) (sym same) h.typed.rooted in
    let input : IsOf v (root_arrow p.nodes p.typing).source = subst (λ (x : Arrow). IsOf v x.source) (sym same) h.input in
    ran_by p root root v o same refl (over_by p (root_arrow p.nodes p.typing) v o (run_lands p (root_arrow p.nodes p.typing) v fit has input))

-- nothing follows the last state
pub stops : (p : Program) (a : Arrow) (v : Value) (o : Answer) (z : State) → Closes p a v o z → (u : State) → turn p z ≡ Next u → ⊥
stops p a v None z e u g = absurd (cc)
stops p a v (Some w) z e u g = let f : turn p z ≡ Ends = e.0 in absurd (cc)

not_stuck : (p : Program) (a : Arrow) (v : Value) (o : Answer) (z : State) → Closes p a v o z → turn p z ≡ Stuck → ⊥
not_stuck p a v None z e g = absurd (cc)
not_stuck p a v (Some w) z e g = let f : turn p z ≡ Ends = e.0 in absurd (cc)

stuck_later : (p : Program) (z e : State) → Reaches p z e → turn p z ≡ Stuck → turn p e ≡ Stuck
stuck_later p z _ (Here _) g = g
stuck_later p z e (Onward _ u _ h r) g = absurd (cc)

no_next : (p : Program) (z : State) (t : Turn) (u : State) → turn p z ≡ t → t ≡ Ends → turn p z ≡ Next u → ⊥
no_next p z t u e f g = absurd (cc)

ends_last : (p : Program) (z : State) → turn p z ≡ Ends → (u : State) → turn p z ≡ Next u → ⊥
ends_last p z e u g = absurd (cc)

fails_last : (p : Program) (z : State) → turn p z ≡ Fails → (u : State) → turn p z ≡ Next u → ⊥
fails_last p z e u g = absurd (cc)

-- an end is the run's
same_end : (p : Program) (root : Arrow) (v : Value) (o : Answer) (r : Ran p root v o) (z : State) → Reaches p (start p v) z → ((u : State) → turn p z ≡ Next u → ⊥) → r.last ≡ z
same_end p root v o r z reached last = sym (last_is_one p z r.last (later p (start p v) z r.last reached r.reached (stops p root v o r.last r.closes)) last)

end_means : (p : Program) (root : Arrow) (v : Value) (o : Answer) → meaning (tree_of p.nodes) p.witness v ≡ o → (z : State) → Closes p root v o z → turn p z ≡ Ends → MeansEnd p root v z
end_means p root v None e z closes g = absurd (cc)
end_means p root v (Some u) e z closes g = record { value = u; means = e; holds = closes.1.0; input = closes.1.1 }

fail_means : (p : Program) (root : Arrow) (v : Value) (o : Answer) (z : State) → Closes p root v o z → turn p z ≡ Fails → o ≡ None
fail_means p root v None z closes g = refl
fail_means p root v (Some u) z closes g = let f : turn p z ≡ Ends = closes.0 in absurd (cc)

pub runs_mean : RunsMean
runs_mean p root v h =
    let o : Answer = meaning (tree_of p.nodes) p.witness v in
    let r : Ran p root v o = ran p root v h in
    record {
      ends = λ u e.
          let closes : Closes p root v (Some u) r.last = subst (λ (x : Answer). Closes p root v x r.last) e r.closes in
          record { end = r.last; ends = record { reached = r.reached; ends = closes.0 }; holds = closes.1.0; input = closes.1.1 };
      fails = λ e.
          let closes : Closes p root v None r.last = subst (λ (x : Answer). Closes p root v x r.last) e r.closes in
          record { end = r.last; fails = record { reached = r.reached; fails = closes } };
      ends_only = λ z e.
          let same : r.last ≡ z = same_end p root v o r z e.reached (ends_last p z e.ends) in
          end_means p root v o refl z (subst (λ (x : State). Closes p root v o x) same r.closes) e.ends;
      fails_only = λ z e.
          let same : r.last ≡ z = same_end p root v o r z e.reached (fails_last p z e.fails) in
          fail_means p root v o z (subst (λ (x : State). Closes p root v o x) same r.closes) e.fails;
      never_stuck = λ z q e.
          not_stuck p root v o r.last r.closes (stuck_later p z r.last (later p (start p v) z r.last q r.reached (stops p root v o r.last r.closes)) e);
    }

start_peak : (p : Program) (root : Arrow) (v : Value) → IsInput p root v → IsPeak (start p v).reads (start p v).writes (start p v).totals
start_peak p root v h =
    let a : Arrow = root_arrow p.nodes p.typing in
    let same : a ≡ root = ap arrow_of h.typed.rooted in
    let input : IsOf v a.source = subst (λ (x : Arrow). IsOf v x.source) (sym same) h.input in
    record { cells = omega (arith, cells_length a.source v input, length-replicate (size a.target) Undefined); frames = omega arith }

pub runs_are_bounded : RunsAreBounded
runs_are_bounded p root v h z q =
    let o : Answer = meaning (tree_of p.nodes) p.witness v in
    let r : Ran p root v o = ran p root v h in
    let most : AreMost z.totals r.last.totals = grows p z r.last (later p (start p v) z r.last q r.reached (stops p root v o r.last r.closes)) in
    let begun : AreMost (start p v).totals z.totals = grows p (start p v) z q in
    let peak : IsPeak z.reads z.writes z.totals = reach_peaks p (start p v) z (start_peak p root v h) q in
    record {
      totals = record {
        count = omega (arith, begun.pace, most.work, r.within.work);
        work = omega (arith, most.work, r.within.work);
        cells = omega (arith, most.cells, r.within.cells);
        frames = omega (arith, most.frames, r.within.frames);
      };
      cells = omega (arith, peak.cells, most.cells, r.within.cells);
      frames = omega (arith, peak.frames, most.frames, r.within.frames);
    }
