-- What holds of the widths of words: those of nine levels.
use Rattle.std.proofs.Common.{◌≡◌, ℕ, zero, suc, ◌^◌, ◌<◌, true, nat_lt, nat_eq, eqb-true, ltb-true, arith, refl, sym, subst, IsTrue}
use Rattle.simplicity.specs.Widths.{level_of}
use Rattle.simplicityhl.specs.Kinds.{is_width}
use Rattle.hl_meaning.specs.Loops.{is_counter_width}
use Rattle.hl_typing.proofs.Same.{both_true}

-- a test that holds of the first powers of two holds of a width of words
past : (level : ℕ) → suc (suc (suc (suc (suc (suc (suc (suc (suc level)))))))) < 9 → ⊥
past level h = omega arith

counters : (level : ℕ) → nat_lt level 9 ≡ true → nat_lt (2 ^ level) 17 ≡ true → is_counter_width (2 ^ level) ≡ true
counters zero h k = refl
counters (suc zero) h k = refl
counters (suc (suc zero)) h k = refl
counters (suc (suc (suc zero))) h k = refl
counters (suc (suc (suc (suc zero)))) h k = refl
counters (suc (suc (suc (suc (suc zero))))) h k = absurd (cc)
counters (suc (suc (suc (suc (suc (suc zero)))))) h k = absurd (cc)
counters (suc (suc (suc (suc (suc (suc (suc zero))))))) h k = absurd (cc)
counters (suc (suc (suc (suc (suc (suc (suc (suc zero)))))))) h k = absurd (cc)
counters (suc (suc (suc (suc (suc (suc (suc (suc (suc level))))))))) h k = absurd (past level (ltb-true _ _ h))

pub counter_widths : (width : ℕ) → IsTrue (is_width width) → nat_lt width 17 ≡ true → is_counter_width width ≡ true
counter_widths width h small =
    let both = both_true (nat_lt (level_of width) 9) (nat_eq width (2 ^ level_of width)) h in
    let is = eqb-true width (2 ^ level_of width) both.1 in
    subst (λ w. is_counter_width w ≡ true) (sym is) (counters (level_of width) both.0 (subst (λ w. nat_lt w 17 ≡ true) is small))
