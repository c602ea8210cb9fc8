-- Folds and loops with a counter, over any type of values and any type of answers: source values and values of the core language have the same loops.
use Rattle.std.specs.Prelude.{◌≡◌, ℕ, zero, suc, ◌+◌, List, [], ◌∷◌, Some, None}
use Rattle.simplicity.specs.Types.{Value, Inl, Inr}
use Rattle.simplicity.specs.Terms as core
use Rattle.simplicity.specs.Terms.{Answer}

-- how answers go with values: a value as an answer, what comes after an answer, and the answer where nothing fits
pub record Answering (V A : Type 0) : Type 0 where
  pub gives : V → A
  pub and_then : A → (V → A) → A
  pub stuck : A

-- the side that a value is of, with what it holds
pub data Side (V : Type 0) : Type 0 where
  OnLeft : (v : V) → Side V
  OnRight : (v : V) → Side V
  OnNeither : Side V

-- how values have sides: the side of a value, and the values on each
pub record Sides (V : Type 0) : Type 0 where
  pub side : V → Side V
  pub left : V → V
  pub right : V → V

-- the items one after the other from the first, each with what was made of those before
abbrev pub folded : {V A : Type 0} → Answering V A → (V → V → A) → List V → V → A
folded x f [] made = x.gives made
folded x f (item ∷ items) made = x.and_then (f item made) (folded x f items)

-- Left ends the loop, Right goes on
abbrev pub go_on : {V A : Type 0} → Answering V A → Sides V → (V → A) → Side V → A
go_on x y next (OnLeft v) = x.gives (y.left v)
go_on x y next (OnRight v) = next v
go_on x y next OnNeither = x.stuck

-- so many turns; the counter goes up turn by turn, and after the last turn Right holds what was made
abbrev pub counted : {V A : Type 0} → Answering V A → Sides V → (ℕ → V → A) → (turns counter : ℕ) → V → A
counted x y f zero counter made = x.gives (y.right made)
counted x y f (suc turns) counter made = x.and_then (f counter made) (λ v. go_on x y (counted x y f turns (counter + 1)) (y.side v))

-- one turn and so many more; the last turn's answer is the loop's, whatever it is
abbrev pub ran : {V A : Type 0} → Answering V A → Sides V → (ℕ → V → A) → (more counter : ℕ) → V → A
ran x y f zero counter made = f counter made
ran x y f (suc more) counter made = x.and_then (f counter made) (λ v. go_on x y (ran x y f more (counter + 1)) (y.side v))

-- answers are a sequence: after a value comes what it is given to, after an answer and what comes after it the next,
-- what comes after counts only by what it gives, and nothing comes after a stuck answer
pub record IsSequence {V A : Type 0} (x : Answering V A) : Type 0 where
  pub first : (v : V) (f : V → A) → x.and_then (x.gives v) f ≡ f v
  pub twice : (a : A) (f g : V → A) → x.and_then (x.and_then a f) g ≡ x.and_then a (λ v. x.and_then (f v) g)
  pub same : (a : A) (f g : V → A) → ((v : V) → f v ≡ g v) → x.and_then a f ≡ x.and_then a g
  pub stops : (f : V → A) → x.and_then x.stuck f ≡ x.stuck

-- the values on a side are of it
pub record HaveSides {V : Type 0} (y : Sides V) : Type 0 where
  pub of_left : (v : V) → y.side (y.left v) ≡ OnLeft v
  pub of_right : (v : V) → y.side (y.right v) ≡ OnRight v

-- the values of the core language: failure where nothing fits
abbrev pub core_answering : Answering Value Answer
core_answering = record { gives = Some; and_then = core.and_then; stuck = None }

abbrev pub core_side : Value → Side Value
core_side (Inl v) = OnLeft v
core_side (Inr v) = OnRight v
core_side _ = OnNeither

abbrev pub core_sides : Sides Value
core_sides = record { side = core_side; left = Inl; right = Inr }

-- the loops at these values
abbrev pub core_folded : (Value → Value → Answer) → List Value → Value → Answer
core_folded f = folded core_answering f

abbrev pub core_go_on : (Value → Answer) → Value → Answer
core_go_on next v = go_on core_answering core_sides next (core_side v)

abbrev pub core_counted : (ℕ → Value → Answer) → (turns counter : ℕ) → Value → Answer
core_counted f = counted core_answering core_sides f

abbrev pub core_ran : (ℕ → Value → Answer) → (more counter : ℕ) → Value → Answer
core_ran f = ran core_answering core_sides f
