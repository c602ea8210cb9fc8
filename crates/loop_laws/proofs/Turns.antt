-- A loop by doubling runs its turns one after the other, whatever its function gives.
use Rattle.std.proofs.Common.{◌≡◌, ℕ, zero, suc, ◌+◌, ◌-◌, ◌*◌, ◌/◌, ◌%◌, ◌^◌, ◌<◌, List, Some, None, refl, sym, ap, ◌∙◌, subst, arith}
use Rattle.std.proofs.lemmas.Nat.{pow_pos, shr_high, mod_low}
use Rattle.simplicity.specs.Canon.{Declared, erased}
use Rattle.simplicity.specs.Terms.{Answer, meaning, and_then, paired, on_tag, on_first}
use Rattle.simplicity.specs.Types.{Value, UnitValue, Inl, Inr, Pair, word_value, word_count}
use Rattle.loop_laws.specs.Trees.{while_at, regrouped, turn_of, one_bit, started_kind, context_kind}
use Rattle.loop_laws.specs.Laws.{at_count, WhilesRun}
use Rattle.simplicity.specs.Loops.{core_answering, core_sides, core_go_on, core_ran}
use Rattle.simplicity.proofs.Digits.{count_square}
use Rattle.simplicity.proofs.Loops.{core_sequence, core_have, turn_same}
use Rattle.simplicity.proofs.Loops.{ran_append as append}

-- a counter of twice the bits
halves_of : (k n j : ℕ) → j < word_count k → word_value (suc k) (n * word_count k + j) ≡ Pair (word_value k n) (word_value k j)
halves_of k n j low =
    let high : (n * word_count k + j) / word_count k ≡ n = shr_high n (2 ^ k) j low in
    let rest : (n * word_count k + j) % word_count k ≡ j = mod_low n (2 ^ k) j low in
    rw (high, rest) refl

abbrev ran : (ℕ → Value → Answer) → (more counter : ℕ) → Value → Answer
ran g = core_ran g

abbrev go_on : (Value → Answer) → Value → Answer
go_on = core_go_on

go_on_same : (K L : Value → Answer) (o : Answer) → ((a : Value) → K a ≡ L a) → and_then o (go_on K) ≡ and_then o (go_on L)
go_on_same K L o h = turn_same core_answering core_sides core_sequence core_have K L o h

ran_for : (g : ℕ → Value → Answer) (t u m n : ℕ) (a : Value) → t ≡ u → m ≡ n → ran g t m a ≡ ran g u n a
ran_for g t u m n a e h = ap (λ i. ran g i m a) e ∙ ap (λ i. ran g u i a) h

ran_append : (g : ℕ → Value → Answer) (t u n : ℕ) (a : Value) → ran g (t + suc u) n a ≡ and_then (ran g t n a) (go_on (ran g u (n + suc t)))
ran_append g t u n a = append core_answering core_sides core_sequence core_have g t u n a

ran_from : (g : ℕ → Value → Answer) (from t n : ℕ) (a : Value) → ran (λ i. g (from + i)) t n a ≡ ran g t (from + n) a
ran_from g from zero n a = refl
ran_from g from (suc t) n a = go_on_same (ran (λ i. g (from + i)) t (n + 1)) (ran g t (from + n + 1)) (g (from + n) a) (λ b. ran_from g from t (n + 1) b ∙ ran_for g t t (from + (n + 1)) (from + n + 1) b refl (omega arith))

-- each turn a run of m more
ran_nested : (g : ℕ → Value → Answer) (m t n : ℕ) (a : Value) → ran (λ i b. ran (λ j. g (i * suc m + j)) m 0 b) t n a ≡ ran g (t * suc m + m) (n * suc m) a
ran_nested g m zero n a = ran_from g (n * suc m) m 0 a ∙ ran_for g m (0 * suc m + m) (n * suc m + 0) (n * suc m) a (omega arith) (omega arith)
ran_nested g m (suc t) n a =
    ap (λ o. and_then o (go_on (ran (λ i b. ran (λ j. g (i * suc m + j)) m 0 b) t (n + 1)))) (ran_from g (n * suc m) m 0 a ∙ ran_for g m m (n * suc m + 0) (n * suc m) a refl (omega arith))
    ∙ go_on_same (ran (λ i b. ran (λ j. g (i * suc m + j)) m 0 b) t (n + 1)) (ran g (t * suc m + m) (n * suc m + suc m)) (ran g m (n * suc m) a)
    (λ b. ran_nested g m t (n + 1) b ∙ ran_for g (t * suc m + m) (t * suc m + m) ((n + 1) * suc m) (n * suc m + suc m) b refl (omega arith))
    ∙ sym (ran_append g m (t * suc m + m) (n * suc m) a)
    ∙ ran_for g (m + suc (t * suc m + m)) (suc t * suc m + m) (n * suc m) (n * suc m) a (omega arith) refl

ran_same : (g h : ℕ → Value → Answer) (bound : ℕ) → ((n : ℕ) (a : Value) → n < bound → g n a ≡ h n a) → (t n : ℕ) → n + t < bound → (a : Value) → ran g t n a ≡ ran h t n a
ran_same g h bound same zero n less a = same n a (omega (arith, less))
ran_same g h bound same (suc t) n less a =
    go_on_same (ran g t (n + 1)) (ran h t (n + 1)) (g n a) (λ b. ran_same g h bound same t (n + 1) (omega (arith, less)) b)
    ∙ ap (λ o. and_then o (go_on (ran h t (n + 1)))) (same n a (omega (arith, less)))

module _ (w : List Value) where
  abbrev mean : Declared → Value → Answer
  mean t v = meaning (erased t) w v

  -- the second turn, on what the first gave
  two_ran : (f : Declared) (c a : Value) → mean (while_at 0 f) (Pair a c) ≡ ran (at_count w f 0 c) 1 0 a
  two_ran f c a = go (mean f (Pair a (Pair c (Inl UnitValue))))
    where
      go : (o : Answer) →
          and_then (paired o (Some c)) (on_tag (λ v. and_then (on_first Some v) (λ u. Some (Inl u))) (meaning (erased (turn_of (started_kind f) (context_kind f) f (one_bit (started_kind f) (context_kind f)))) w))
          ≡ and_then o (go_on (λ b. mean f (Pair b (Pair c (Inr UnitValue)))))
      go None = refl
      go (Some UnitValue) = refl
      go (Some (Inl b)) = refl
      go (Some (Inr b)) = refl
      go (Some (Pair b d)) = refl

  pub while_ran : (k : ℕ) (f : Declared) (c a : Value) (more : ℕ) → suc more ≡ word_count k → mean (while_at k f) (Pair a c) ≡ ran (at_count w f k c) more 0 a
  while_ran zero f c a more e = two_ran f c a ∙ ran_for (at_count w f 0 c) 1 more 0 0 a (omega (arith, e)) refl
  while_ran (suc k) f c a more e =
      let h = regrouped k f in
      let inner = while_at k h in
      let step = at_count w f (suc k) c in
      let m : ℕ = word_count k - 1 in
      let some : suc m ≡ word_count k = omega (arith, pow_pos (2 ^ k)) in
      let square : suc more ≡ suc m * suc m = e ∙ count_square k ∙ ap (λ x. x * x) (sym some) in
      while_ran k inner c a m some
      ∙ ran_same (at_count w inner k c) (λ i b. ran (λ j. step (i * suc m + j)) m 0 b) (suc m)
      (λ n b less. while_ran k h (Pair c (word_value k n)) b m some
      ∙ ran_same (at_count w h k (Pair c (word_value k n))) (λ j. step (n * suc m + j)) (suc m)
      (λ j d low. ap (λ x. mean f (Pair d (Pair c x))) (sym (ap (λ x. word_value (suc k) (n * x + j)) some ∙ halves_of k n j (subst (λ x. j < x) some low)))) m 0 (omega arith) b)
      m 0 (omega arith) a
      ∙ ran_nested step m m 0 a
      ∙ ran_for step (m * suc m + m) more (0 * suc m) 0 a (omega (arith, square)) (omega arith)

pub whiles_run : WhilesRun
whiles_run w k f context a more e = while_ran w k f context a more e
