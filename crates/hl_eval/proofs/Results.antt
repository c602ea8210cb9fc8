-- The results of a jet as values, and what the jet of a name gives.
use Rattle.std.proofs.Common.{◌≡◌, ℕ, ◌+◌, ◌<◌, ◌≤◌, List, [], ◌∷◌, ◌++◌, length, drop, Option, Some, None, option_map, find, bytes_eq, refl, sym, ap, ◌∙◌, arith, append_assoc, append-nil, length-append}
use Rattle.std.specs.Prelude.{slice_get}
use Rattle.hl_data.specs.declared.value.HlValue.{HlValue}
use Rattle.jets.specs.Unsigned.{Unsigned}
use Rattle.jets.specs.Jet.{Kind, Truth, Number, Row, rows}
use Rattle.jets.specs.Formula.{typed, numbers}
use Rattle.jet_table.specs.declared.row.JetKind.{JetKind}
use Rattle.jet_table.specs.Rows.{kind_of, kinds_of}
use Rattle.hl_meaning.specs.Answer.{gives, fails, stuck, shaped}
use Rattle.hl_meaning.specs.Jets.{numbers_at, values_at, value_at, result_of, answer_at, row_answer, jet_answer}
use Rattle.hl_eval.specs.Valued.{valued, valued_at, IsFailing}
use Rattle.hl_eval.specs.Worded.{IsUnlike}
use Rattle.hl_eval.specs.Outcome.{HasFault}
use Rattle.hl_eval.specs.declared.fault.EvalFault.{EvalFault}
use Rattle.hl_eval.specs.declared.fault.EvalFault.TheVariants as fault
use Rattle.hl_eval.proofs.Turns.{drop_at, drop_past}

pub record Values (kinds : List (Option JetKind)) (i : ℕ) (words : List Unsigned) (values : List HlValue) : Type 0 where
  pub few : length values ≤ length words
  pub are : valued (kinds_of kinds) words ≡ values ++ valued (kinds_of (drop i kinds)) (drop (length values) words)

pub values_first : (kinds : List (Option JetKind)) (words : List Unsigned) (values : List HlValue) → values ≡ [] → Values kinds 0 words values
values_first kinds words [] e = record { few = omega arith; are = refl }
values_first kinds words (v ∷ values) e = absurd (cc)

no_words : (ks : List Kind) → valued ks [] ≡ []
no_words [] = refl
no_words (k ∷ ks) = refl

pub values_skip : (kinds : List (Option JetKind)) (i : ℕ) (words : List Unsigned) (values : List HlValue) → slice_get kinds i ≡ Some None → Values kinds i words values → Values kinds (i + 1) words values
values_skip kinds i words values e w = record { few = w.few; are = w.are ∙ ap (λ ks. values ++ valued (kinds_of ks) (drop (length values) words)) (drop_at kinds i None e) }

pub values_full : (kinds : List (Option JetKind)) (i : ℕ) (words : List Unsigned) (values : List HlValue) → length values ≡ length words → Values kinds i words values → values ≡ valued (kinds_of kinds) words
values_full kinds i words values h w =
    sym (w.are ∙ ap (λ us. values ++ valued (kinds_of (drop i kinds)) us) (drop_past words (length values) (omega arith)) ∙ ap (λ vs. values ++ vs) (no_words (kinds_of (drop i kinds))) ∙ append-nil values)

pub values_next : (kinds : List (Option JetKind)) (i : ℕ) (words : List Unsigned) (values more : List HlValue) (kind : JetKind) (u : Unsigned) → slice_get kinds i ≡ Some (Some kind) → slice_get words (length values) ≡ Some u →
    length values < length words → more ≡ values ++ valued_at (kind_of kind) u ∷ [] → Values kinds i words values → Values kinds (i + 1) words more
values_next kinds i words values more kind u e at h is w =
    let long : length more ≡ length values + 1 = ap length is ∙ length-append values (valued_at (kind_of kind) u ∷ []) in
    record {
      few = omega (arith, long);
      are = w.are ∙ ap (λ ks. values ++ valued (kinds_of ks) (drop (length values) words)) (drop_at kinds i (Some kind) e)
          ∙ ap (λ us. values ++ valued (kind_of kind ∷ kinds_of (drop (i + 1) kinds)) us) (drop_at words (length values) u at)
          ∙ sym (append_assoc values (valued_at (kind_of kind) u ∷ []) (valued (kinds_of (drop (i + 1) kinds)) (drop (length values + 1) words)))
          ∙ ap (λ vs. vs ++ valued (kinds_of (drop (i + 1) kinds)) (drop (length values + 1) words)) (sym is)
          ∙ ap (λ k. more ++ valued (kinds_of (drop (i + 1) kinds)) (drop k words)) (sym long);
    }

pub values_all : (kinds : List (Option JetKind)) (i : ℕ) (words : List Unsigned) (values : List HlValue) → length kinds ≤ i → Values kinds i words values → values ≡ valued (kinds_of kinds) words
values_all kinds i words values past w = sym (w.are ∙ ap (λ ks. values ++ valued (kinds_of ks) (drop (length values) words)) (drop_past kinds i past) ∙ append-nil values)

-- words of types are their numbers as values of the types
valued_typed : (ks : List Kind) (ns : List ℕ) → valued ks (typed ks ns) ≡ values_at ks ns
valued_typed [] ns = refl
valued_typed (k ∷ ks) [] = refl
valued_typed (Truth ∷ ks) (n ∷ ns) = ap (λ vs. value_at Truth n ∷ vs) (valued_typed ks ns)
valued_typed (Number width ∷ ks) (n ∷ ns) = ap (λ vs. value_at (Number width) n ∷ vs) (valued_typed ks ns)

answered : (ks : List Kind) (o : Option (List ℕ)) (words : List Unsigned) → option_map (typed ks) o ≡ Some words → answer_at ks o ≡ gives (result_of (valued ks words))
answered ks None words e = absurd (cc)
answered ks (Some ns) words e = let are : typed ks ns ≡ words = cc in ap (λ vs. gives (result_of vs)) (sym (valued_typed ks ns) ∙ ap (valued ks) are)

failed : (ks : List Kind) (o : Option (List ℕ)) → option_map (typed ks) o ≡ None → answer_at ks o ≡ fails
failed ks None e = refl
failed ks (Some ns) e = absurd (cc)

module _ (name : List ℕ) (arguments : List HlValue) where
  pub jet_missing : find (λ row. bytes_eq name row.name) rows ≡ None → jet_answer name arguments ≡ stuck
  unfolding jet_answer
  jet_missing e = ap (λ o. shaped o (row_answer arguments)) e

  module _ (row : Row) (found : find (λ row. bytes_eq name row.name) rows ≡ Some row) where
    jet_row : jet_answer name arguments ≡ shaped (numbers_at row.arguments arguments) (λ ns. answer_at row.results (numbers row.jet row.narrow row.wide ns))
    unfolding jet_answer
    jet_row = ap (λ o. shaped o (row_answer arguments)) found

    pub jet_unlike : (e : EvalFault) → IsUnlike row.arguments arguments e → HasFault (jet_answer name arguments) e
    jet_unlike fault.Failed h = absurd h
    jet_unlike fault.NoAnswer h = jet_row ∙ ap (λ o. shaped o (λ ns. answer_at row.results (numbers row.jet row.narrow row.wide ns))) h
    jet_unlike fault.OutOfMemory h = tt

    module _ (ns : List ℕ) (are : numbers_at row.arguments arguments ≡ Some ns) where
      jet_numbers : jet_answer name arguments ≡ answer_at row.results (numbers row.jet row.narrow row.wide ns)
      jet_numbers = jet_row ∙ ap (λ o. shaped o (λ ns. answer_at row.results (numbers row.jet row.narrow row.wide ns))) are

      pub jet_fails : (e : EvalFault) → IsFailing (option_map (typed row.results) (numbers row.jet row.narrow row.wide ns)) e → HasFault (jet_answer name arguments) e
      jet_fails fault.Failed h = jet_numbers ∙ failed row.results (numbers row.jet row.narrow row.wide ns) h
      jet_fails fault.NoAnswer h = absurd h
      jet_fails fault.OutOfMemory h = tt

      pub jet_gives : (words : List Unsigned) → option_map (typed row.results) (numbers row.jet row.narrow row.wide ns) ≡ Some words → jet_answer name arguments ≡ gives (result_of (valued row.results words))
      jet_gives words h = jet_numbers ∙ answered row.results (numbers row.jet row.narrow row.wide ns) words h
