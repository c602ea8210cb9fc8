-- What is made for each form of a value, in tables that grow meanwhile, is the value's term.
use Rattle.std.proofs.Common.{◌≡◌, ℕ, ◌<◌, List, length, map, sym, ap, ◌∙◌}
use Rattle.hl_data.specs.declared.value.HlValue.{HlValue}
use Rattle.hl_data.specs.declared.value.HlValue.TheVariants as value
use Rattle.hl_syntax.specs.declared.kinds.HlType.{HlType}
use Rattle.hl_syntax.specs.declared.kinds.HlType.TheVariants as kind
use Rattle.hl_terms.specs.Translated.{all_values, each_value, list_term, value_term}
use Rattle.simplicity.specs.Makes.{to_left, to_right, tuple, unit}
use Rattle.simplicity.specs.Types.{Kind}
use Rattle.simplicityhl.specs.Kinds.{bound_level, form}
use Rattle.type_table.specs.Kinds.{kind_at, Means, IsGrown}
use Rattle.term_core.specs.declared.table_node.TermRow.{TermRow}
use Rattle.term_core.specs.Terms.{term_at, MeansTerm}
use Rattle.term_recipes.specs.Shapes.{terms_at}
use Rattle.term_recipes.proofs.Later.{kind_later}
use Rattle.value_recipes.specs.Made.{AreMade}
use Rattle.value_recipes.proofs.Layers.{term-Tuple, term-Array, term-List, term-Nothing, term-Left, term-Right}

-- what is at an id that was there
means_later : (one two : List Kind) (id : ℕ) (k : Kind) → IsGrown one two → Means one id k → kind_at two id ≡ k
means_later one two id k grown m = kind_later one two id grown m.within ∙ m.is

pub tuple_is : (v : HlValue) (k : HlType) (vs : List HlValue) (ks : List HlType) (old more : List Kind) (rows : List TermRow) (source : ℕ) (ids some : List ℕ) → v ≡ value.Tuple vs → k ≡ kind.Tuple ks → some ≡ ids →
    IsGrown old more → source < length old → AreMade more rows ids (each_value (map value_term vs) ks (kind_at old source)) → tuple (kind_at more source) (terms_at more rows some) ≡ value_term v k (kind_at old source)
tuple_is v k vs ks old more rows source ids some v_is k_is same grown within made =
    ap (λ a. tuple a (terms_at more rows some)) (kind_later old more source grown within)
    ∙ ap (λ is. tuple (kind_at old source) (terms_at more rows is)) same
    ∙ ap (tuple (kind_at old source)) made.are
    ∙ sym (term-Tuple v k (kind_at old source) vs ks v_is k_is)

pub array_is : (v : HlValue) (k : HlType) (vs : List HlValue) (item got : HlType) (count : ℕ) (old more : List Kind) (rows : List TermRow) (source : ℕ) (ids some : List ℕ) → v ≡ value.Array vs → k ≡ kind.Array item count → got ≡ item → some ≡ ids →
    IsGrown old more → source < length old → AreMade more rows ids (all_values (map value_term vs) got (kind_at old source)) → tuple (kind_at more source) (terms_at more rows some) ≡ value_term v k (kind_at old source)
array_is v k vs item got count old more rows source ids some v_is k_is got_is same grown within made =
    let a = kind_at old source in
    ap (λ b. tuple b (terms_at more rows some)) (kind_later old more source grown within)
    ∙ ap (λ is. tuple a (terms_at more rows is)) same
    ∙ ap (tuple a) made.are
    ∙ ap (λ i. tuple a (all_values (map value_term vs) i a)) got_is
    ∙ sym (term-Array v k a vs item count v_is k_is)

pub list_is : (v : HlValue) (k : HlType) (vs : List HlValue) (item got formed : HlType) (bound : ℕ) (old one two : List Kind) (rows : List TermRow) (source id : ℕ) (ids some : List ℕ) → v ≡ value.List vs → k ≡ kind.List item bound → got ≡ item → formed ≡ item → some ≡ ids →
    IsGrown old one → IsGrown one two → source < length old → source < length one → Means one id (form formed) → AreMade two rows ids (all_values (map value_term vs) got (kind_at one source)) →
    list_term (kind_at two source) (kind_at two id) (bound_level bound) (terms_at two rows some) ≡ value_term v k (kind_at old source)
list_is v k vs item got formed bound old one two rows source id ids some v_is k_is got_is formed_is same grown more within within_one means made =
    let a = kind_at old source in
    let here = kind_later old one source grown within in
    ap (λ b. list_term b (kind_at two id) (bound_level bound) (terms_at two rows some)) (kind_later one two source more within_one ∙ here)
    ∙ ap (λ b. list_term a b (bound_level bound) (terms_at two rows some)) (means_later one two id (form formed) more means ∙ ap form formed_is)
    ∙ ap (λ is. list_term a (form item) (bound_level bound) (terms_at two rows is)) same
    ∙ ap (list_term a (form item) (bound_level bound)) (made.are ∙ ap (λ b. all_values (map value_term vs) got b) here ∙ ap (λ i. all_values (map value_term vs) i a) got_is)
    ∙ sym (term-List v k a vs item bound v_is k_is)

pub nothing_is : (v : HlValue) (k item got : HlType) (old one : List Kind) (source id : ℕ) → v ≡ value.Nothing → k ≡ kind.Option item → got ≡ item → IsGrown old one → source < length old → Means one id (form got) →
    to_left (kind_at one id) (unit (kind_at one source)) ≡ value_term v k (kind_at old source)
nothing_is v k item got old one source id v_is k_is got_is grown within means =
    ap (λ b. to_left b (unit (kind_at one source))) (means.is ∙ ap form got_is) ∙ ap (λ b. to_left (form item) (unit b)) (kind_later old one source grown within) ∙ sym (term-Nothing v k (kind_at old source) item v_is k_is)

-- the term of what a tag holds
module _ (old one two : List Kind) (rows : List TermRow) (source id : ℕ) (u got : HlValue) (k got_kind : HlType) (got_is : got ≡ u) (kind_is : got_kind ≡ k) (grown : IsGrown old one) (within : source < length old)
    (made : MeansTerm two rows id (value_term got got_kind (kind_at one source))) where
  held_is : term_at two rows id ≡ value_term u k (kind_at old source)
  held_is = made.is ∙ ap (λ x. value_term x got_kind (kind_at one source)) got_is ∙ ap (λ x. value_term u x (kind_at one source)) kind_is ∙ ap (value_term u k) (kind_later old one source grown within)

pub left_is : (v : HlValue) (k : HlType) (u got : HlValue) (left right got_left got_right : HlType) (old one two : List Kind) (rows : List TermRow) (source other id : ℕ) → v ≡ value.Left u → k ≡ kind.Either left right → got ≡ u → got_left ≡ left → got_right ≡ right →
    IsGrown old one → IsGrown one two → source < length old → Means one other (form got_right) → MeansTerm two rows id (value_term got got_left (kind_at one source)) → to_left (kind_at two other) (term_at two rows id) ≡ value_term v k (kind_at old source)
left_is v k u got left right got_left got_right old one two rows source other id v_is k_is got_is on_left on_right grown more within means made =
    ap (λ b. to_left b (term_at two rows id)) (means_later one two other (form got_right) more means ∙ ap form on_right)
    ∙ ap (to_left (form right)) (held_is old one two rows source id u got left got_left got_is on_left grown within made)
    ∙ sym (term-Left v k (kind_at old source) u left right v_is k_is)

pub right_is : (v : HlValue) (k : HlType) (u got : HlValue) (left right got_left got_right : HlType) (old one two : List Kind) (rows : List TermRow) (source other id : ℕ) → v ≡ value.Right u → k ≡ kind.Either left right → got ≡ u → got_left ≡ left → got_right ≡ right →
    IsGrown old one → IsGrown one two → source < length old → Means one other (form got_left) → MeansTerm two rows id (value_term got got_right (kind_at one source)) → to_right (kind_at two other) (term_at two rows id) ≡ value_term v k (kind_at old source)
right_is v k u got left right got_left got_right old one two rows source other id v_is k_is got_is on_left on_right grown more within means made =
    ap (λ b. to_right b (term_at two rows id)) (means_later one two other (form got_left) more means ∙ ap form on_left)
    ∙ ap (to_right (form left)) (held_is old one two rows source id u got right got_right got_is on_right grown within made)
    ∙ sym (term-Right v k (kind_at old source) u left right v_is k_is)
