-- The arguments of a jet as numbers, one after the other, and its results as values.
use Rattle.std.proofs.Common.{◌≡◌, ℕ, zero, suc, ◌+◌, ◌<◌, ◌≤◌, List, [], ◌∷◌, ◌++◌, map, length, drop, Option, Some, None, option_map, refl, sym, ap, ◌∙◌, arith, append_assoc, append-nil, length-append}
use Rattle.std.proofs.lemmas.List.{map-append}
use Rattle.std.proofs.lemmas.Option.{slice_get_within}
use Rattle.std.specs.Prelude.{slice_get}
use Rattle.hl_data.specs.declared.value.HlValue.{HlValue}
use Rattle.hl_data.specs.declared.value.HlValue.TheViews.{out-HlValue}
use Rattle.jets.specs.Unsigned.{Unsigned}
use Rattle.jets.specs.Jet.{width_of}
use Rattle.jet_table.specs.declared.row.JetKind.{JetKind}
use Rattle.jet_table.specs.Rows.{kind_of, kinds_of}
use Rattle.word_math.specs.Answer.{numbers_of, widths_of}
use Rattle.hl_meaning.specs.Jets.{number_at, numbers_at}
use Rattle.hl_meaning.specs.Values.{beside}
use Rattle.hl_eval.proofs.Turns.{drop_at, drop_past}

pub record Words (kinds : List (Option JetKind)) (i : ℕ) (arguments : List HlValue) (words : List Unsigned) : Type 0 where
  pub few : length words ≤ length arguments
  pub numbers : numbers_at (kinds_of kinds) arguments ≡ option_map (λ ns. numbers_of words ++ ns) (numbers_at (kinds_of (drop i kinds)) (drop (length words) arguments))
  pub widths : map width_of (kinds_of kinds) ≡ widths_of words ++ map width_of (kinds_of (drop i kinds))

some_at : {X : Type 0} (xs : List X) (p : ℕ) → p < length xs → (x : X) × (slice_get xs p ≡ Some x)
some_at [] p h = absurd (omega arith)
some_at (x ∷ xs) zero h = (x, refl)
some_at (x ∷ xs) (suc p) h = some_at xs p (omega arith)

same_map : (o : Option (List ℕ)) → o ≡ option_map (λ ns. [] ++ ns) o
same_map None = refl
same_map (Some x) = refl

pub words_first : (kinds : List (Option JetKind)) (arguments : List HlValue) (words : List Unsigned) → words ≡ [] → Words kinds 0 arguments words
words_first kinds arguments [] e = record { few = omega arith; numbers = same_map (numbers_at (kinds_of kinds) arguments); widths = refl }
words_first kinds arguments (w ∷ words) e = absurd (cc)

-- a place without a kind
pub words_skip : (kinds : List (Option JetKind)) (i : ℕ) (arguments : List HlValue) (words : List Unsigned) → slice_get kinds i ≡ Some None → Words kinds i arguments words → Words kinds (i + 1) arguments words
words_skip kinds i arguments words e w =
    let at = drop_at kinds i None e in
    record {
      few = w.few;
      numbers = w.numbers ∙ ap (λ ks. option_map (λ ns. numbers_of words ++ ns) (numbers_at (kinds_of ks) (drop (length words) arguments))) at;
      widths = w.widths ∙ ap (λ ks. widths_of words ++ map width_of (kinds_of ks)) at;
    }

one_more : (made : List ℕ) (n : ℕ) (o : Option (List ℕ)) → option_map (λ ns. made ++ ns) (beside (λ x xs. x ∷ xs) (Some n) o) ≡ option_map (λ ns. (made ++ n ∷ []) ++ ns) o
one_more made n None = refl
one_more made n (Some ns) = ap Some (sym (append_assoc made (n ∷ []) ns))

module _ (kinds : List (Option JetKind)) (i : ℕ) (arguments : List HlValue) (words : List Unsigned) (kind : JetKind) (e : slice_get kinds i ≡ Some (Some kind)) (w : Words kinds i arguments words) where
  numbers_here : (a : HlValue) → slice_get arguments (length words) ≡ Some a →
      numbers_at (kinds_of kinds) arguments ≡ option_map (λ ns. numbers_of words ++ ns) (beside (λ x xs. x ∷ xs) (number_at (kind_of kind) (out-HlValue a)) (numbers_at (kinds_of (drop (i + 1) kinds)) (drop (length words + 1) arguments)))
  numbers_here a at =
      w.numbers ∙ ap (λ ks. option_map (λ ns. numbers_of words ++ ns) (numbers_at (kinds_of ks) (drop (length words) arguments))) (drop_at kinds i (Some kind) e)
      ∙ ap (λ vs. option_map (λ ns. numbers_of words ++ ns) (numbers_at (kind_of kind ∷ kinds_of (drop (i + 1) kinds)) vs)) (drop_at arguments (length words) a at)

  pub words_next : (a : HlValue) (u : Unsigned) (more : List Unsigned) → slice_get arguments (length words) ≡ Some a → number_at (kind_of kind) (out-HlValue a) ≡ Some u.number → u.width ≡ width_of (kind_of kind) →
      more ≡ words ++ u ∷ [] → Words kinds (i + 1) arguments more
  words_next a u more at n wide is =
      let long : length more ≡ length words + 1 = ap length is ∙ length-append words (u ∷ []) in
      let inside : length words < length arguments = slice_get_within arguments (length words) a at in
      let are : numbers_of more ≡ numbers_of words ++ u.number ∷ [] = ap numbers_of is ∙ map-append (λ v. v.number) words (u ∷ []) in
      let sizes : widths_of more ≡ widths_of words ++ u.width ∷ [] = ap widths_of is ∙ map-append (λ v. v.width) words (u ∷ []) in
      record {
        few = omega (arith, long, inside);
        numbers = numbers_here a at
            ∙ ap (λ o. option_map (λ ns. numbers_of words ++ ns) (beside (λ x xs. x ∷ xs) o (numbers_at (kinds_of (drop (i + 1) kinds)) (drop (length words + 1) arguments)))) n
            ∙ one_more (numbers_of words) u.number (numbers_at (kinds_of (drop (i + 1) kinds)) (drop (length words + 1) arguments))
            ∙ ap (λ made. option_map (λ ns. made ++ ns) (numbers_at (kinds_of (drop (i + 1) kinds)) (drop (length words + 1) arguments))) (sym are)
            ∙ ap (λ k. option_map (λ ns. numbers_of more ++ ns) (numbers_at (kinds_of (drop (i + 1) kinds)) (drop k arguments))) (sym long);
        widths = w.widths ∙ ap (λ ks. widths_of words ++ map width_of (kinds_of ks)) (drop_at kinds i (Some kind) e)
            ∙ ap (λ n. widths_of words ++ n ∷ map width_of (kinds_of (drop (i + 1) kinds))) (sym wide)
            ∙ sym (append_assoc (widths_of words) (u.width ∷ []) (map width_of (kinds_of (drop (i + 1) kinds))))
            ∙ ap (λ ns. ns ++ map width_of (kinds_of (drop (i + 1) kinds))) (sym sizes);
      }

  pub words_unlike : (a : HlValue) → slice_get arguments (length words) ≡ Some a → number_at (kind_of kind) (out-HlValue a) ≡ None → numbers_at (kinds_of kinds) arguments ≡ None
  words_unlike a at n =
      numbers_here a at ∙ ap (λ o. option_map (λ ns. numbers_of words ++ ns) (beside (λ x xs. x ∷ xs) o (numbers_at (kinds_of (drop (i + 1) kinds)) (drop (length words + 1) arguments)))) n

  pub words_short : length words ≡ length arguments → numbers_at (kinds_of kinds) arguments ≡ None
  words_short same =
      w.numbers ∙ ap (λ ks. option_map (λ ns. numbers_of words ++ ns) (numbers_at (kinds_of ks) (drop (length words) arguments))) (drop_at kinds i (Some kind) e)
      ∙ ap (λ vs. option_map (λ ns. numbers_of words ++ ns) (numbers_at (kind_of kind ∷ kinds_of (drop (i + 1) kinds)) vs)) (drop_past arguments (length words) (omega arith))

module _ (kinds : List (Option JetKind)) (i : ℕ) (arguments : List HlValue) (words : List Unsigned) (past : length kinds ≤ i) (w : Words kinds i arguments words) where
  pub words_all : length words ≡ length arguments → (numbers_at (kinds_of kinds) arguments ≡ Some (numbers_of words)) × (widths_of words ≡ map width_of (kinds_of kinds))
  words_all same = (
    w.numbers ∙ ap (λ ks. option_map (λ ns. numbers_of words ++ ns) (numbers_at (kinds_of ks) (drop (length words) arguments))) (drop_past kinds i past)
        ∙ ap (λ vs. option_map (λ ns. numbers_of words ++ ns) (numbers_at [] vs)) (drop_past arguments (length words) (omega arith)) ∙ ap Some (append-nil (numbers_of words)),
    sym (w.widths ∙ ap (λ ks. widths_of words ++ map width_of (kinds_of ks)) (drop_past kinds i past) ∙ append-nil (widths_of words)),
  )

  pub words_more : (length words ≡ length arguments → ⊥) → numbers_at (kinds_of kinds) arguments ≡ None
  words_more other =
      let inside : length words < length arguments = omega (arith, w.few, other) in
      let a = some_at arguments (length words) inside in
      w.numbers ∙ ap (λ ks. option_map (λ ns. numbers_of words ++ ns) (numbers_at (kinds_of ks) (drop (length words) arguments))) (drop_past kinds i past)
      ∙ ap (λ vs. option_map (λ ns. numbers_of words ++ ns) (numbers_at [] vs)) (drop_at arguments (length words) a.0 a.1)
