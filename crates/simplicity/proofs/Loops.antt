-- Folds and runs go one after the other, over any type of values and any type of answers that are a sequence.
use Rattle.std.proofs.Common.{◌≡◌, ℕ, zero, suc, ◌+◌, List, [], ◌∷◌, ◌++◌, Some, None, refl, sym, ap, ◌∙◌, arith}
use Rattle.simplicity.specs.Types.{Value}
use Rattle.simplicity.specs.Terms.{Answer, and_then}
use Rattle.simplicity.specs.Loops.{Answering, Side, Sides, OnLeft, OnRight, OnNeither, IsSequence, HaveSides, folded, go_on, counted, ran, core_answering, core_sides}
use Rattle.simplicity.specs.TermLaws.{LoopsJoin}

pub folded_append : {V A : Type 0} (x : Answering V A) → IsSequence x → (f : V → V → A) (us vs : List V) (a : V) →
    folded x f (us ++ vs) a ≡ x.and_then (folded x f us a) (folded x f vs)
folded_append x s f [] vs a = sym (s.first a (folded x f vs))
folded_append x s f (u ∷ us) vs a =
    s.same (f u a) (folded x f (us ++ vs)) (λ b. x.and_then (folded x f us b) (folded x f vs)) (λ b. folded_append x s f us vs b)
    ∙ sym (s.twice (f u a) (folded x f us) (folded x f vs))

module _ {V A : Type 0} (x : Answering V A) (y : Sides V) (s : IsSequence x) (h : HaveSides y) where
  -- what comes after an answer of a turn
  abbrev pub then_turn : (V → A) → A → A
  then_turn next a = x.and_then a (λ v. go_on x y next (y.side v))

  pub turn_same : (f g : V → A) (a : A) → ((v : V) → f v ≡ g v) → then_turn f a ≡ then_turn g a
  turn_same f g a e = s.same a (λ v. go_on x y f (y.side v)) (λ v. go_on x y g (y.side v)) (λ v. by_side (y.side v))
    where
      by_side : (z : Side V) → go_on x y f z ≡ go_on x y g z
      by_side (OnLeft v) = refl
      by_side (OnRight v) = e v
      by_side OnNeither = refl

  side_twice : (f g : V → A) (z : Side V) → then_turn g (go_on x y f z) ≡ go_on x y (λ v. then_turn g (f v)) z
  side_twice f g (OnLeft v) = s.first (y.left v) (λ u. go_on x y g (y.side u)) ∙ ap (go_on x y g) (h.of_left v)
  side_twice f g (OnRight v) = refl
  side_twice f g OnNeither = s.stops (λ u. go_on x y g (y.side u))

  pub turn_twice : (f g : V → A) (a : A) → then_turn g (then_turn f a) ≡ then_turn (λ v. then_turn g (f v)) a
  turn_twice f g a =
      s.twice a (λ v. go_on x y f (y.side v)) (λ v. go_on x y g (y.side v))
      ∙ s.same a (λ v. then_turn g (go_on x y f (y.side v))) (λ v. go_on x y (λ u. then_turn g (f u)) (y.side v)) (λ v. side_twice f g (y.side v))

  module _ (f : ℕ → V → A) where
    -- by equal counts
    pub ran_for : (t u m n : ℕ) (a : V) → t ≡ u → m ≡ n → ran x y f t m a ≡ ran x y f u n a
    ran_for t u m n a e g = ap (λ i. ran x y f i m a) e ∙ ap (λ i. ran x y f u i a) g

    pub ran_append : (t u n : ℕ) (a : V) → ran x y f (t + suc u) n a ≡ then_turn (ran x y f u (n + suc t)) (ran x y f t n a)
    ran_append zero u n a = ran_for (0 + suc u) (suc u) n n a (omega arith) refl
    ran_append (suc t) u n a =
        ran_for (suc t + suc u) (suc (t + suc u)) n n a (omega arith) refl
        ∙ turn_same (ran x y f (t + suc u) (n + 1)) (λ b. then_turn (ran x y f u (n + suc (suc t))) (ran x y f t (n + 1) b)) (f n a)
        (λ b. ran_append t u (n + 1) b
        ∙ turn_same (ran x y f u (n + 1 + suc t)) (ran x y f u (n + suc (suc t))) (ran x y f t (n + 1) b)
        (λ d. ran_for u u (n + 1 + suc t) (n + suc (suc t)) d refl (omega arith)))
        ∙ sym (turn_twice (ran x y f t (n + 1)) (ran x y f u (n + suc (suc t))) (f n a))

    -- a loop with a counter is a run whose last Right is the loop's
    pub counted_ran : (more n : ℕ) (a : V) → counted x y f (suc more) n a ≡ then_turn (λ v. x.gives (y.right v)) (ran x y f more n a)
    counted_ran zero n a = refl
    counted_ran (suc more) n a =
        turn_same (counted x y f (suc more) (n + 1)) (λ b. then_turn (λ v. x.gives (y.right v)) (ran x y f more (n + 1) b)) (f n a) (λ b. counted_ran more (n + 1) b)
        ∙ sym (turn_twice (ran x y f more (n + 1)) (λ v. x.gives (y.right v)) (f n a))

-- the answers of the core language are a sequence
core_twice : (a : Answer) (f g : Value → Answer) → and_then (and_then a f) g ≡ and_then a (λ v. and_then (f v) g)
core_twice None f g = refl
core_twice (Some v) f g = refl

core_same : (a : Answer) (f g : Value → Answer) → ((v : Value) → f v ≡ g v) → and_then a f ≡ and_then a g
core_same None f g e = refl
core_same (Some v) f g e = e v

pub core_sequence : IsSequence core_answering
core_sequence = record { first = λ v f. refl; twice = core_twice; same = core_same; stops = λ f. refl }

pub core_have : HaveSides core_sides
core_have = record { of_left = λ v. refl; of_right = λ v. refl }

pub loops_join : LoopsJoin
loops_join = record {
  folds = folded_append core_answering core_sequence;
  runs = ran_append core_answering core_sides core_sequence core_have;
  counts = counted_ran core_answering core_sides core_sequence core_have;
}
