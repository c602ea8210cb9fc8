-- Numbers that fit their width.
use Rattle.std.proofs.Common.{◌≡◌, ℕ, ◌^◌, ◌<◌, ◌≤◌, Bool, true, false, ◌&&◌, ◌||◌, if◌then◌else◌, ◌⊎◌, inl, inr, Some, None, refl, ap, ◌∙◌, arith, eqb-true}
use Rattle.std.specs.Prelude.{nat_eq, nat_lt}
use Rattle.std.proofs.lemmas.Bool.Decides.{nat_tests}
use Rattle.jets.specs.Unsigned.{is_width}
use Rattle.simplicityhl.specs.Kinds as kinds
use Rattle.hl_meaning.specs.Values.{word_at, word_of}

either : (a b : Bool) → a || b ≡ true → (a ≡ true) ⊎ (b ≡ true)
either true b h = inl refl
either false b h = inr h

at : (w n : ℕ) (b : Bool) → (b ≡ true → kinds.is_width w ≡ true) → kinds.is_width n ≡ true → nat_eq w n || b ≡ true → kinds.is_width w ≡ true
at w n b next here h = elim (either (nat_eq w n) b h) [ inl e ↦ ap kinds.is_width (eqb-true w n e) ∙ here | inr e ↦ next e ]

-- the widths of words are those of types
pub width_there : (w : ℕ) → is_width w ≡ true → kinds.is_width w ≡ true
width_there w h =
    at w 1 _ (at w 2 _ (at w 4 _ (at w 8 _ (at w 16 _ (at w 32 _ (at w 64 _ (at w 128 _ (at w 256 _ (λ e. absurd (cc)) refl) refl) refl) refl) refl) refl) refl) refl) refl h

less_true : (n m : ℕ) → n < m → nat_lt n m ≡ true
less_true n m h = grind (arith, nat_tests)

less_false : (n m : ℕ) → m ≤ n → nat_lt n m ≡ false
less_false n m h = grind (arith, nat_tests)

chosen : {A : Type 0} (a b : Bool) (x : A) → a ≡ true → b ≡ true → (if a && b then Some x else None) ≡ Some x
chosen a b x e f = rw (e, f) refl

not_first : {A : Type 0} (a b : Bool) (x : A) → a ≡ false → (if a && b then Some x else None) ≡ None
not_first a b x e = rw e refl

not_second : {A : Type 0} (a b : Bool) (x : A) → b ≡ false → (if a && b then Some x else None) ≡ None
not_second true b x e = rw e refl
not_second false b x e = refl

pub word_there : (w n : ℕ) → is_width w ≡ true → n < 2 ^ w → word_at w n ≡ Some (word_of w n)
word_there w n e h = chosen (is_width w) (nat_lt n (2 ^ w)) (word_of w n) e (less_true n (2 ^ w) h)

pub word_unlike : (w n : ℕ) → is_width w ≡ false → word_at w n ≡ None
word_unlike w n e = not_first (is_width w) (nat_lt n (2 ^ w)) (word_of w n) e

pub word_wide : (w n : ℕ) → 2 ^ w ≤ n → word_at w n ≡ None
word_wide w n h = not_second (is_width w) (nat_lt n (2 ^ w)) (word_of w n) (less_false n (2 ^ w) h)
