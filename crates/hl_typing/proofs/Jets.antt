-- The types of the arguments of jets are sound.
use Rattle.std.proofs.Common.{◌≡◌, ℕ, Bool, true, List, [], ◌∷◌, map, bytes_eq, Some, refl, IsTrue}
use Rattle.std.specs.List.{list_all}
use Rattle.jets.specs.Jet as jets
use Rattle.jets.specs.Jet.{Row}
use Rattle.simplicityhl.specs.Kinds.{IsSound, is_width}
use Rattle.hl_rules.specs.Exprs.{jet_named, jet_type, jet_arguments}
use Rattle.hl_typing.proofs.Every.{Every, every_found}
use Rattle.hl_typing.proofs.Same.{both_true}
use Rattle.hl_typing.proofs.Sound.{bool_sound, word_sound}

abbrev sound_kind : jets.Kind → Bool
sound_kind jets.Truth = true
sound_kind (jets.Number width) = is_width width

abbrev sound_row : Row → Bool
sound_row row = list_all sound_kind row.arguments

rows_sound : list_all sound_row jets.rows ≡ true
rows_sound = refl

all_every : {A : Type 0} (test : A → Bool) (xs : List A) → list_all test xs ≡ true → Every (λ x. IsTrue (test x)) xs
all_every test [] h = tt
all_every test (x ∷ xs) h = let both = both_true (test x) (list_all test xs) h in (both.0, all_every test xs both.1)

kinds_sound : (kinds : List jets.Kind) → Every (λ k. IsTrue (sound_kind k)) kinds → Every IsSound (map jet_type kinds)
kinds_sound [] h = tt
kinds_sound (jets.Truth ∷ kinds) h = (bool_sound, kinds_sound kinds h.1)
kinds_sound (jets.Number width ∷ kinds) h = (word_sound width h.0, kinds_sound kinds h.1)

pub jet_sound : (name : List ℕ) (row : Row) → jet_named name ≡ Some row → Every IsSound (jet_arguments row)
unfolding jet_named
jet_sound name row is =
    kinds_sound row.arguments (all_every sound_kind row.arguments
    (every_found (λ (r : Row). IsTrue (sound_row r)) (λ r. bytes_eq name r.name) jets.rows row (all_every sound_row jets.rows rows_sound) is).0)
