-- Steps of one instruction, and turns.
use Rattle.std.proofs.Common.{◌≡◌, sym, refl, ap, subst, ◌∙◌, ◌+◌, List, [], ◌∷◌, length, Some, None, Bool, true, false, nat_le}
use Rattle.simplicity.specs.Cells.{Cell, Bit, Undefined}
use Rattle.simplicity.specs.Terms.{Answer, meaning}
use Rattle.simplicity.specs.Nodes.{tree_of}
use Rattle.simplicity.specs.Typing.{Arrow}
use Rattle.simplicity.specs.Types.{Value}
use Rattle.simplicity.specs.Machine.{Frame, Side, Shown, Closed, Item, At, Write, Skip, Copy, Forward, Back, NewFrame, MoveFrame, DropFrame, Nop, Read, Failing, Program, State, Totals, Turn, Next, Ends, Fails, Stuck, turn, turn_on, where_held, choose, chosen, Reaches, Here, Onward, start}
use Rattle.simplicity.specs.Steps.{StepEnds, StepFails, has_node_first, Settles, Settled, Replaced, Steps, StepsReach, NoStep, OneStep, Stepped, Went, Ended, Failed}
use Rattle.machine_laws.specs.Laws.{StepsAreTurns, StepIsOne, StepAnswers}
use Rattle.machine_laws.proofs.Lands.{reaches_on}
use Rattle.machine_laws.proofs.Growing.{later}
use Rattle.machine_laws.proofs.Traces.{Ran, ran, Closes, stops}

-- a node's turn keeps frames and totals
abbrev pub Keeps : List Frame → List Frame → Totals → Turn → Type 0
Keeps rs ws t (Next u) = (u.reads ≡ rs) × (u.writes ≡ ws) × (u.totals ≡ t)
Keeps rs ws t _ = Unit {0}

node_keeps : (p : Program) (items : List Item) (rs ws : List Frame) (t : Totals) → has_node_first items ≡ true → Keeps rs ws t (turn_on p items rs ws t)
node_keeps p (At i ∷ rest) rs ws t e = (refl, refl, refl)
node_keeps p _ rs ws t e = absurd (cc)

settles_keeps : (p : Program) (s z : State) → Settles p s z → (z.reads ≡ s.reads) × (z.writes ≡ s.writes) × (z.totals ≡ s.totals)
settles_keeps p s _ (Settled _ e) = (refl, refl, refl)
settles_keeps p s z (Replaced _ u _ e g r) =
    let one = subst (Keeps s.reads s.writes s.totals) g (node_keeps p s.items s.reads s.writes s.totals e) in
    let rest = settles_keeps p u z r in
    (rest.0 ∙ one.0, rest.1 ∙ one.1, rest.2 ∙ one.2)

-- an instruction counts one
abbrev pub Counts : Totals → Turn → Type 0
Counts t (Next u) = u.totals.count ≡ t.count + 1
Counts t _ = Unit {0}

held_counts : (t : Totals) (b : Bool) (turn : Turn) → Counts t turn → Counts t (where_held b turn)
held_counts t true turn h = h
held_counts t false turn h = tt

chosen_counts : (side : Side) (rest : List Item) (rs ws : List Frame) (t : Totals) → Counts t (chosen side rest rs ws t)
chosen_counts (Shown n i) rest rs ws t = refl
chosen_counts Closed rest rs ws t = tt

choose_counts : (cs : List Cell) (left right : Side) (rest : List Item) (rs ws : List Frame) (t : Totals) → Counts t (choose cs left right rest rs ws t)
choose_counts (Bit false ∷ cs) left right rest rs ws t = chosen_counts left rest rs ws t
choose_counts (Bit true ∷ cs) left right rest rs ws t = chosen_counts right rest rs ws t
choose_counts (Undefined ∷ cs) left right rest rs ws t = tt
choose_counts [] left right rest rs ws t = tt

turn_counts : (p : Program) (items : List Item) (rs ws : List Frame) (t : Totals) → has_node_first items ≡ false → Counts t (turn_on p items rs ws t)
turn_counts p [] rs ws t e = tt
turn_counts p (At i ∷ rest) rs ws t e = absurd (cc)
turn_counts p (Write b ∷ rest) rs (g ∷ gs) t e = held_counts t (nat_le 1 (length g.after)) _ refl
turn_counts p (Skip n ∷ rest) rs (g ∷ gs) t e = held_counts t (nat_le n (length g.after)) _ refl
turn_counts p (Copy n ∷ rest) (f ∷ fs) (g ∷ gs) t e = held_counts t (nat_le n (length f.after)) _ (held_counts t (nat_le n (length g.after)) _ refl)
turn_counts p (Forward n ∷ rest) (f ∷ fs) ws t e = held_counts t (nat_le n (length f.after)) _ refl
turn_counts p (Back n ∷ rest) (f ∷ fs) ws t e = held_counts t (nat_le n (length f.before)) _ refl
turn_counts p (NewFrame n ∷ rest) rs ws t e = refl
turn_counts p (MoveFrame ∷ rest) rs (g ∷ gs) t e = refl
turn_counts p (DropFrame ∷ rest) (f ∷ fs) ws t e = refl
turn_counts p (Nop ∷ rest) rs ws t e = refl
turn_counts p (Read left right ∷ rest) (f ∷ fs) ws t e = choose_counts f.after left right rest (f ∷ fs) ws t
turn_counts p (Failing ∷ rest) rs ws t e = tt
turn_counts p _ _ _ t e = tt

-- what stands in front of a settled state is no node
settled : (p : Program) (s z : State) → Settles p s z → has_node_first z.items ≡ false
settled p s _ (Settled _ e) = e
settled p s z (Replaced _ u _ e g r) = settled p u z r

step_counts : (p : Program) (s u : State) → Steps p s u → u.totals.count ≡ s.totals.count + 1
step_counts p s u h =
    let one : u.totals.count ≡ h.before.totals.count + 1 =
    subst (Counts h.before.totals) h.goes (turn_counts p h.before.items h.before.reads h.before.writes h.before.totals (settled p s h.before h.settles)) in
    one ∙ ap (λ (t : Totals). t.count + 1) (settles_keeps p s h.before h.settles).2

-- there is one settled state at most
settle_one : (p : Program) (s x y : State) → Settles p s x → Settles p s y → x ≡ y
settle_one p s _ _ (Settled _ e) (Settled _ f) = refl
settle_one p s _ y (Settled _ e) (Replaced _ u _ f g r) = absurd (cc)
settle_one p s x _ (Replaced _ u _ f g r) (Settled _ e) = absurd (cc)
settle_one p s x y (Replaced _ u _ e g r) (Replaced _ w _ f h q) =
    let same : w ≡ u = cc in
    settle_one p u x y r (subst (λ (k : State). Settles p k y) same q)

step_one : (p : Program) (s u w : State) → Steps p s u → Steps p s w → u ≡ w
step_one p s u w h k =
    let same : h.before ≡ k.before = settle_one p s h.before k.before h.settles k.settles in
    let first : turn p k.before ≡ Next u = subst (λ (x : State). turn p x ≡ Next u) same h.goes in
    let second : turn p k.before ≡ Next w = k.goes in
    cc

same_turn : (p : Program) (s x y : State) (a b : Turn) → Settles p s x → Settles p s y → turn p x ≡ a → turn p y ≡ b → a ≡ b
same_turn p s x y a b h k e f = sym e ∙ ap (turn p) (settle_one p s x y h k) ∙ f

no_end : (p : Program) (s u z : State) → Steps p s u → StepEnds p s z → ⊥
no_end p s u z h k = let same : Next u ≡ Ends = same_turn p s h.before z (Next u) Ends h.settles k.settles h.goes k.ends in absurd (cc)

no_failure : (p : Program) (s u z : State) → Steps p s u → StepFails p s z → ⊥
no_failure p s u z h k = let same : Next u ≡ Fails = same_turn p s h.before z (Next u) Fails h.settles k.settles h.goes k.fails in absurd (cc)

not_both : (p : Program) (s y z : State) → StepEnds p s y → StepFails p s z → ⊥
not_both p s y z h k = let same : Ends ≡ Fails = same_turn p s y z Ends Fails h.settles k.settles h.ends k.fails in absurd (cc)

-- replaced nodes and steps are turns
settles_turns : (p : Program) (s z : State) → Settles p s z → Reaches p s z
settles_turns p s _ (Settled _ e) = Here s
settles_turns p s z (Replaced _ u _ e g r) = Onward s u z g (settles_turns p u z r)

steps_turns : (p : Program) (s z : State) → StepsReach p s z → Reaches p s z
steps_turns p s _ (NoStep _) = Here s
steps_turns p s z (OneStep _ u _ h r) =
    reaches_on p s h.before z (settles_turns p s h.before h.settles) (Onward h.before u z h.goes (steps_turns p u z r))

-- turns to a last state are steps, and then replaced nodes
record Split (p : Program) (s z : State) : Type 0 where
  middle : State
  steps : StepsReach p s middle
  settles : Settles p middle z

-- a node that is replaced before
replace_by : (p : Program) (s u z middle : State) → has_node_first s.items ≡ true → turn p s ≡ Next u → StepsReach p u middle → Settles p middle z → Split p s z
replace_by p s u z _ e g (NoStep _) q = record { middle = s; steps = NoStep s; settles = Replaced s u z e g q }
replace_by p s u z middle e g (OneStep _ w _ h r) q =
    record { middle = middle; steps = OneStep s w middle (record { before = h.before; settles = Replaced s u h.before e g h.settles; goes = h.goes }) r; settles = q }

split_by : (p : Program) (s u z : State) (b : Bool) → has_node_first s.items ≡ b → turn p s ≡ Next u → Split p u z → Split p s z
split_by p s u z true e g more = replace_by p s u z more.middle e g more.steps more.settles
split_by p s u z false e g more =
    record { middle = more.middle; steps = OneStep s u more.middle (record { before = s; settles = Settled s e; goes = g }) more.steps; settles = more.settles }

split : (p : Program) (s z : State) → Reaches p s z → has_node_first z.items ≡ false → Split p s z
split p s _ (Here _) e = record { middle = s; steps = NoStep s; settles = Settled s e }
split p s z (Onward _ u _ g r) e = split_by p s u z (has_node_first s.items) refl g (split p u z r e)

-- where a run ends or fails no node stands in front
abbrev pub IsOver : List Item → Turn → Type 0
IsOver items (Next u) = Unit {0}
IsOver items _ = has_node_first items ≡ false

over_items : (p : Program) (items : List Item) (rs ws : List Frame) (t : Totals) (b : Bool) → has_node_first items ≡ b → (q : Turn) → turn_on p items rs ws t ≡ q → IsOver items q
over_items p items rs ws t false e (Next u) g = tt
over_items p items rs ws t false e Ends g = e
over_items p items rs ws t false e Fails g = e
over_items p items rs ws t false e Stuck g = e
over_items p (At i ∷ rest) rs ws t true e (Next u) g = tt
over_items p (At i ∷ rest) rs ws t true e Ends g = absurd (cc)
over_items p (At i ∷ rest) rs ws t true e Fails g = absurd (cc)
over_items p (At i ∷ rest) rs ws t true e Stuck g = absurd (cc)
over_items p _ rs ws t true e q g = absurd (cc)

ends_settled : (p : Program) (z : State) → turn p z ≡ Ends → has_node_first z.items ≡ false
ends_settled p z e = over_items p z.items z.reads z.writes z.totals (has_node_first z.items) refl Ends e

fails_settled : (p : Program) (z : State) → turn p z ≡ Fails → has_node_first z.items ≡ false
fails_settled p z e = over_items p z.items z.reads z.writes z.totals (has_node_first z.items) refl Fails e

pub steps_are_turns : StepsAreTurns
steps_are_turns = record {
  ends = λ p v z h.
      let parts = split p (start p v) z h.reached (ends_settled p z h.ends) in
      record { last = parts.middle; reached = parts.steps; ends = record { settles = parts.settles; ends = h.ends } };
  ends_only = λ p v z h.
      record { reached = reaches_on p (start p v) h.last z (steps_turns p (start p v) h.last h.reached) (settles_turns p h.last z h.ends.settles); ends = h.ends.ends };
  fails = λ p v z h.
      let parts = split p (start p v) z h.reached (fails_settled p z h.fails) in
      record { last = parts.middle; reached = parts.steps; fails = record { settles = parts.settles; fails = h.fails } };
  fails_only = λ p v z h.
      record { reached = reaches_on p (start p v) h.last z (steps_turns p (start p v) h.last h.reached) (settles_turns p h.last z h.fails.settles); fails = h.fails.fails };
}

pub step_is_one : StepIsOne
step_is_one = record {
  same_reads = λ p s z h. (settles_keeps p s z h).0;
  same_writes = λ p s z h. (settles_keeps p s z h).1;
  same_totals = λ p s z h. (settles_keeps p s z h).2;
  counts = step_counts;
  counts_no_failure = λ p s z h. (settles_keeps p s z h.settles).2;
  one = step_one;
  no_end = no_end;
  no_failure = no_failure;
  not_both = not_both;
  reached = steps_turns;
}

-- a step, or what comes at the end
stepped_by : (p : Program) (s e middle : State) → StepsReach p s middle → Settles p middle e → (Settles p s e → Stepped p s) → Stepped p s
stepped_by p s e _ (NoStep _) q over = over q
stepped_by p s e middle (OneStep _ u _ h r) q over = Went u h

stepped_at : (p : Program) (root : Arrow) (v : Value) (o : Answer) (s e : State) → Reaches p s e → Closes p root v o e → Stepped p s
stepped_at p root v None s e r closes =
    let parts = split p s e r (fails_settled p e closes) in
    stepped_by p s e parts.middle parts.steps parts.settles (λ q. Failed e (record { settles = q; fails = closes }))
stepped_at p root v (Some u) s e r closes =
    let parts = split p s e r (ends_settled p e closes.0) in
    stepped_by p s e parts.middle parts.steps parts.settles (λ q. Ended e (record { settles = q; ends = closes.0 }))

pub step_answers : StepAnswers
step_answers p root v h z q =
    let o : Answer = meaning (tree_of p.nodes) p.witness v in
    let r : Ran p root v o = ran p root v h in
    stepped_at p root v o z r.last (later p (start p v) z r.last q r.reached (stops p root v o r.last r.closes)) r.closes
