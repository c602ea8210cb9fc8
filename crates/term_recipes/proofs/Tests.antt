-- The tests of a tag, once all that they are made of is in the tables.
use Rattle.std.proofs.Common.{◌≡◌, ℕ, ◌<◌, List, length, sym, ap, ◌∙◌}
use Rattle.simplicity.specs.Arrows.{source, target}
use Rattle.simplicity.specs.Makes.{by_tag, only_left, only_right}
use Rattle.simplicity.specs.Types.{Kind, One, Product}
use Rattle.type_table.specs.Kinds.{kind_at, Means, IsGrown}
use Rattle.type_table.proofs.Growth.{grown_through}
use Rattle.term_core.specs.declared.table_node.TermRow.{TermRow}
use Rattle.term_core.specs.Terms.{term_at, StandsOver, MeansTerm, KeepsRows}
use Rattle.term_core.proofs.Growth.{kept_self}
use Rattle.hl_terms.specs.Translated.{true_term, false_term}
use Rattle.term_recipes.specs.Shapes.{held, left_alone, right_alone, none_test}
use Rattle.term_recipes.proofs.Later.{term_later, kind_later, tag_same, only_left_same, only_right_same}

-- what a tag holds, where the unit type came after it
module _ (old middle new : List Kind) (rows : List TermRow) (left right first one : ℕ) (grown : IsGrown old middle) (more : IsGrown middle new)
    (stands : StandsOver middle rows) (left_in : left < length old) (right_in : right < length old) (one_is : Means new one One) where
  left_is : kind_at new left ≡ kind_at old left
  left_is = kind_later old new left (grown_through old middle new grown more) left_in

  right_is : kind_at new right ≡ kind_at old right
  right_is = kind_later old new right (grown_through old middle new grown more) right_in

  first_is : (k : Kind) → MeansTerm middle rows first (held k) → term_at new rows first ≡ held k
  first_is k m = term_later middle new rows rows first stands more (kept_self rows) m.within ∙ m.is

  pub left_from : MeansTerm middle rows first (held (kind_at old left)) → source (term_at new rows first) ≡ Product (kind_at new left) (kind_at new one)
  left_from m = ap source (first_is (kind_at old left) m) ∙ ap (λ k. Product k One) (sym left_is) ∙ ap (Product (kind_at new left)) (sym one_is.is)

  pub right_from : MeansTerm middle rows first (held (kind_at old right)) → source (term_at new rows first) ≡ Product (kind_at new right) (kind_at new one)
  right_from m = ap source (first_is (kind_at old right) m) ∙ ap (λ k. Product k One) (sym right_is) ∙ ap (Product (kind_at new right)) (sym one_is.is)

  pub left_made : MeansTerm middle rows first (held (kind_at old left)) →
      only_left (kind_at new left) (kind_at new right) (kind_at new one) (term_at new rows first) ≡ left_alone (kind_at old left) (kind_at old right)
  left_made m =
      only_left_same (kind_at new left) (kind_at new right) (kind_at new one) (kind_at old left) (kind_at old right) One (term_at new rows first) (held (kind_at old left)) left_is right_is one_is.is (first_is (kind_at old left) m)

  pub right_made : MeansTerm middle rows first (held (kind_at old right)) →
      only_right (kind_at new left) (kind_at new right) (kind_at new one) (term_at new rows first) ≡ right_alone (kind_at old left) (kind_at old right)
  right_made m =
      only_right_same (kind_at new left) (kind_at new right) (kind_at new one) (kind_at old left) (kind_at old right) One (term_at new rows first) (held (kind_at old right)) left_is right_is one_is.is (first_is (kind_at old right) m)

-- the two sides of the test that an option holds nothing
module _ (old typed middle new : List Kind) (rows later : List TermRow) (item one nothing some yes no : ℕ) (grown : IsGrown old typed) (more : IsGrown typed middle) (last : IsGrown middle new)
    (kept : KeepsRows rows later) (stands : StandsOver middle rows) (item_in : item < length old) (one_is : Means typed one One) (nothing_is : Means typed nothing (Product One One))
    (some_is : Means typed some (Product (kind_at old item) One)) (yes_is : MeansTerm middle rows yes (true_term (kind_at typed nothing))) (no_is : MeansTerm new later no (false_term (kind_at middle some))) where
  from_old : IsGrown old new
  from_old = grown_through old typed new grown (grown_through typed middle new more last)

  item_there : kind_at new item ≡ kind_at old item
  item_there = kind_later old new item from_old item_in

  one_there : kind_at new one ≡ One
  one_there = kind_later typed new one (grown_through typed middle new more last) one_is.within ∙ one_is.is

  yes_there : term_at new later yes ≡ true_term (Product One One)
  yes_there = term_later middle new rows later yes stands last kept yes_is.within ∙ yes_is.is ∙ ap true_term nothing_is.is

  no_there : term_at new later no ≡ false_term (Product (kind_at old item) One)
  no_there = no_is.is ∙ ap false_term (kind_later typed middle some more some_is.within ∙ some_is.is)

  pub nothing_from : source (term_at new later yes) ≡ Product (kind_at new one) (kind_at new one)
  nothing_from = ap source yes_there ∙ ap (λ k. Product k k) (sym one_there)

  pub some_from : source (term_at new later no) ≡ Product (kind_at new item) (kind_at new one)
  some_from = ap source no_there ∙ ap (λ k. Product k One) (sym item_there) ∙ ap (Product (kind_at new item)) (sym one_there)

  pub sides_meet : target (term_at new later no) ≡ target (term_at new later yes)
  sides_meet = ap target no_there ∙ sym (ap target yes_there)

  pub test_made : by_tag (kind_at new one) (kind_at new item) (kind_at new one) (term_at new later yes) (term_at new later no) ≡ none_test (kind_at old item)
  test_made =
      tag_same (kind_at new one) (kind_at new item) (kind_at new one) One (kind_at old item) One (term_at new later yes) (term_at new later no) (true_term (Product One One)) (false_term (Product (kind_at old item) One))
      one_there item_there one_there yes_there no_there
