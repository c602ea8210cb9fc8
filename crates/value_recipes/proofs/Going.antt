-- Terms that are made one after the other, in tables that grow meanwhile.
use Rattle.std.proofs.Common.{◌≡◌, ℕ, ◌+◌, ◌<◌, List, [], ◌∷◌, ◌++◌, length, map, drop, get_or, sym, ap, ◌∙◌, subst, append_assoc, append-nil}
use Rattle.std.specs.Prelude.{slice_get, Some}
use Rattle.std.proofs.lemmas.List.{drop_more, map-append}
use Rattle.std.proofs.lemmas.List.Elements.{All-cons, All-head, All-tail, All-nil}
use Rattle.hl_data.specs.declared.value.HlValue.{HlValue}
use Rattle.hl_syntax.specs.declared.kinds.HlType.{HlType}
use Rattle.hl_terms.specs.Translated.{all_values, each_value, value_term}
use Rattle.value_recipes.proofs.Encoded.{kinds_at}
use Rattle.simplicity.specs.Canon.{Declared}
use Rattle.simplicity.specs.Types.{Kind}
use Rattle.type_table.specs.Kinds.{kind_at, IsGrown}
use Rattle.type_table.proofs.Growth.{grown_through}
use Rattle.term_core.specs.declared.table_node.TermRow.{TermRow}
use Rattle.term_core.specs.Terms.{term_at, StandsOver, MeansTerm, KeepsRows}
use Rattle.term_core.proofs.Growth.{kept_through}
use Rattle.term_recipes.specs.Shapes.{terms_at, AreThere}
use Rattle.term_recipes.proofs.Halved.{terms_later, there_later}
use Rattle.term_recipes.proofs.Later.{kind_later}
use Rattle.value_recipes.specs.Made.{AreMade}

-- the terms so far, and those that are to come
pub record Going (old kinds : List Kind) (before rows : List TermRow) (ids : List ℕ) (rest all : List Declared) : Type 0 where
  pub grown : IsGrown old kinds
  pub kept : KeepsRows before rows
  pub stands : StandsOver kinds rows
  pub there : AreThere rows ids
  pub are : terms_at kinds rows ids ++ rest ≡ all

there_push : (rows : List TermRow) (ids : List ℕ) (id : ℕ) → AreThere rows ids → id < length rows → AreThere rows (ids ++ id ∷ [])
there_push rows [] id h within = All-cons (λ i. i < length rows) id [] within (All-nil (λ i. i < length rows))
there_push rows (i ∷ ids) id h within =
    All-cons (λ i. i < length rows) i (ids ++ id ∷ []) (All-head (λ i. i < length rows) i ids h) (there_push rows ids id (All-tail (λ i. i < length rows) i ids h) within)

pub going_on : (old kinds more : List Kind) (before rows later : List TermRow) (ids : List ℕ) (id : ℕ) (t : Declared) (rest all : List Declared) → Going old kinds before rows ids (t ∷ rest) all →
    IsGrown kinds more → KeepsRows rows later → StandsOver more later → MeansTerm more later id t → Going old more before later (ids ++ id ∷ []) rest all
going_on old kinds more before rows later ids id t rest all g grown kept stands m = record {
  grown = grown_through old kinds more g.grown grown;
  kept = kept_through before rows later g.kept kept;
  stands = stands;
  there = there_push later ids id (there_later rows later ids kept g.there) m.within;
  are =
      ap (λ ts. ts ++ rest) (map-append (term_at more later) ids (id ∷ []))
      ∙ ap (λ ts. (ts ++ term_at more later id ∷ []) ++ rest) (terms_later kinds more rows later ids g.stands grown kept g.there)
      ∙ ap (λ u. (terms_at kinds rows ids ++ u ∷ []) ++ rest) m.is
      ∙ append_assoc (terms_at kinds rows ids) (t ∷ []) rest
      ∙ g.are;
}

pub going_ends : (old kinds : List Kind) (before rows : List TermRow) (ids : List ℕ) (all : List Declared) → Going old kinds before rows ids [] all → AreMade kinds rows ids all
going_ends old kinds before rows ids all g = record { there = g.there; are = sym (append-nil (terms_at kinds rows ids)) ∙ g.are }

-- the next part at the next type, and the next item
pub part_next : (parts : List HlValue) (kinds : List HlType) (i : ℕ) (part : HlValue) (k : HlType) (a : Kind) → i < length parts → part ≡ get_or parts i part → slice_get kinds i ≡ Some k →
    each_value (map value_term (drop i parts)) (drop i kinds) a ≡ value_term part k a ∷ each_value (map value_term (drop (i + 1) parts)) (drop (i + 1) kinds) a
part_next parts kinds i part k a less is at =
    let front : drop i parts ≡ part ∷ drop (i + 1) parts = drop_more parts i part less ∙ ap (λ v. v ∷ drop (i + 1) parts) (sym is) in
    ap (λ vs. each_value (map value_term vs) (drop i kinds) a) front ∙ ap (λ ks. each_value (map value_term (part ∷ drop (i + 1) parts)) ks a) (kinds_at kinds i k at)

pub item_next : (items : List HlValue) (i : ℕ) (item : HlValue) (k : HlType) (a : Kind) → i < length items → item ≡ get_or items i item →
    all_values (map value_term (drop i items)) k a ≡ value_term item k a ∷ all_values (map value_term (drop (i + 1) items)) k a
item_next items i item k a less is =
    let front : drop i items ≡ item ∷ drop (i + 1) items = drop_more items i item less ∙ ap (λ v. v ∷ drop (i + 1) items) (sym is) in
    ap (λ vs. all_values (map value_term vs) k a) front

-- after a part, and after an item
module _ (old kinds more : List Kind) (before rows later : List TermRow) (source : ℕ) (ids pushed : List ℕ) (id : ℕ) (vs : List HlValue) (i : ℕ) (v : HlValue) (k : HlType) (all : List Declared) (less : i < length vs) (is : v ≡ get_or vs i v)
    (within : source < length old) (grown : IsGrown kinds more) (kept : KeepsRows rows later) (stands : StandsOver more later) (made : MeansTerm more later id (value_term v k (kind_at kinds source))) (pushes : pushed ≡ ids ++ id ∷ []) where
  goes : (rest : List Declared) → Going old kinds before rows ids (value_term v k (kind_at old source) ∷ rest) all → Going old more before later pushed rest all
  goes rest g =
      let here = kind_later old kinds source g.grown within in
      let m : MeansTerm more later id (value_term v k (kind_at old source)) = subst (λ a. MeansTerm more later id (value_term v k a)) here made in
      subst (λ p. Going old more before later p rest all) (sym pushes) (going_on old kinds more before rows later ids id (value_term v k (kind_at old source)) rest all g grown kept stands m)

  pub part_goes : (ks : List HlType) → slice_get ks i ≡ Some k → Going old kinds before rows ids (each_value (map value_term (drop i vs)) (drop i ks) (kind_at old source)) all →
      Going old more before later pushed (each_value (map value_term (drop (i + 1) vs)) (drop (i + 1) ks) (kind_at old source)) all
  part_goes ks at g = goes _ (subst (λ ts. Going old kinds before rows ids ts all) (part_next vs ks i v k (kind_at old source) less is at) g)

  pub item_goes : Going old kinds before rows ids (all_values (map value_term (drop i vs)) k (kind_at old source)) all → Going old more before later pushed (all_values (map value_term (drop (i + 1) vs)) k (kind_at old source)) all
  item_goes g = goes _ (subst (λ ts. Going old kinds before rows ids ts all) (item_next vs i v k (kind_at old source) less is) g)
