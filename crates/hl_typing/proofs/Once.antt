-- Names that stand once.
use Rattle.std.proofs.Common.{◌≡◌, ℕ, Bool, true, false, not, ◌||◌, List, [], ◌∷◌, ◌++◌, bytes_eq, refl, sym, ◌∙◌}
use Rattle.std.proofs.lemmas.Slice.Eq.{bytes_eq-Decides}
use Rattle.hl_syntax.specs.declared.kinds.TypedName.{TypedName}
use Rattle.hl_rules.specs.Places.{has_name}
use Rattle.hl_typing.specs.Patterns.{Once}

pub neither : (a b : Bool) → (a || b) ≡ false → (a ≡ false) × (b ≡ false)
neither true b h = absurd (cc)
neither false b h = (refl, h)

both_false : (a b : Bool) → a ≡ false → b ≡ false → (a || b) ≡ false
both_false true b h k = h
both_false false b h k = k

pub not_true : (b : Bool) → not b ≡ true → b ≡ false
not_true true h = absurd (cc)
not_true false h = refl

pub other_way : (xs ys : List ℕ) → bytes_eq xs ys ≡ false → bytes_eq ys xs ≡ false
other_way xs ys h = elim (bytes_eq ys xs) as (λ b. bytes_eq ys xs ≡ b → b ≡ false) [
  | true ↦ λ same. sym ((bytes_eq-Decides xs ys).1 (sym ((bytes_eq-Decides ys xs).0 same))) ∙ h
  | false ↦ λ other. refl
] refl

has_none : (names : List TypedName) (n : TypedName) (name : List ℕ) → has_name names name ≡ false → bytes_eq name n.name ≡ false → has_name (names ++ n ∷ []) name ≡ false
has_none [] n name h k = both_false (bytes_eq name n.name) false k refl
has_none (m ∷ names) n name h k =
    let apart = neither (bytes_eq name m.name) (has_name names name) h in
    both_false (bytes_eq name m.name) (has_name (names ++ n ∷ []) name) apart.0 (has_none names n name apart.1 k)

-- one more name that isn't among them
pub once_more : (names : List TypedName) (n : TypedName) → Once names → has_name names n.name ≡ false → Once (names ++ n ∷ [])
once_more [] n h k = (refl, tt)
once_more (m ∷ names) n h k =
    let apart = neither (bytes_eq n.name m.name) (has_name names n.name) k in
    (has_none names n m.name h.0 (other_way n.name m.name apart.0), once_more names n h.1 apart.1)
