-- The widths of words of types are those of the machine's words.
use Rattle.std.proofs.Common.{◌≡◌, ℕ, zero, suc, ◌^◌, ◌<◌, true, nat_lt, nat_eq, eqb-true, ltb-true, arith, refl, sym, subst, IsTrue}
use Rattle.jets.specs.Unsigned as jets
use Rattle.simplicity.specs.Widths.{level_of}
use Rattle.simplicityhl.specs.Kinds.{is_width}
use Rattle.hl_typing.proofs.Same.{both_true}

-- a test that holds of the first powers of two holds of a width of words
past : (level : ℕ) → suc (suc (suc (suc (suc (suc (suc (suc (suc level)))))))) < 9 → ⊥
past level h = omega arith

few : (level : ℕ) → nat_lt level 9 ≡ true → jets.is_width (2 ^ level) ≡ true
few zero h = refl
few (suc zero) h = refl
few (suc (suc zero)) h = refl
few (suc (suc (suc zero))) h = refl
few (suc (suc (suc (suc zero)))) h = refl
few (suc (suc (suc (suc (suc zero))))) h = refl
few (suc (suc (suc (suc (suc (suc zero)))))) h = refl
few (suc (suc (suc (suc (suc (suc (suc zero))))))) h = refl
few (suc (suc (suc (suc (suc (suc (suc (suc zero)))))))) h = refl
few (suc (suc (suc (suc (suc (suc (suc (suc (suc level))))))))) h = absurd (past level (ltb-true _ _ h))

pub word_width : (width : ℕ) → IsTrue (is_width width) → IsTrue (jets.is_width width)
word_width width h =
    let both = both_true (nat_lt (level_of width) 9) (nat_eq width (2 ^ level_of width)) h in
    subst (λ w. IsTrue (jets.is_width w)) (sym (eqb-true width (2 ^ level_of width) both.1)) (few (level_of width) both.0)
