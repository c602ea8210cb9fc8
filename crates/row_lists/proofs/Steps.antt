-- One more row in the list.
use Rattle.std.proofs.Common.{◌≡◌, ℕ, zero, suc, ◌+◌, ◌<◌, ◌≤◌, List, [], ◌∷◌, ◌++◌, length, refl, sym, ap, ◌∙◌, subst, arith, Option, Some, None, slice_get, length-append}
use Rattle.std.proofs.lemmas.List.{append-nil}
use Rattle.std.proofs.lemmas.Option.{slice_get_within}
use Rattle.simplicity.specs.Nodes as node
use Rattle.simplicity.specs.Nodes.{Node, AreUnder, IsShown, AreCaseSides, CanFollow, witness_number, count_after}
use Rattle.simplicity.proofs.Unfold.{get_front, get_last}
use Rattle.sharing.proofs.Unfolded.{number_next}
use Rattle.infer_cells.specs.declared.typing.NodeArrow.{NodeArrow}
use Rattle.term_core.specs.declared.table_node.Node.{Node as RowNode}
use Rattle.term_core.specs.declared.table_node.Node.TheVariants as code
use Rattle.term_core.specs.declared.table_node.TermRow.{TermRow}
use Rattle.term_core.specs.Terms.{child_ids}
use Rattle.row_lists.specs.Rows.{place_at, listed, hidden_nodes, hidden_arrows, own_names, SideAt, NameAt, RowAt}

-- a row's node is never hidden
pub listed_shown : (n : RowNode) (place : ℕ → ℕ) (hidden : ℕ) → IsShown (Some (listed place hidden n))
listed_shown code.Iden place hidden = tt
listed_shown code.Unit place hidden = tt
listed_shown (code.Injl i) place hidden = tt
listed_shown (code.Injr i) place hidden = tt
listed_shown (code.Take i) place hidden = tt
listed_shown (code.Drop i) place hidden = tt
listed_shown (code.Comp i j) place hidden = tt
listed_shown (code.Case i j) place hidden = tt
listed_shown (code.Pair i j) place hidden = tt
listed_shown (code.AssertL i b) place hidden = tt
listed_shown (code.AssertR b i) place hidden = tt
listed_shown code.Fail place hidden = tt
listed_shown (code.Witness n) place hidden = tt
listed_shown (code.Word w) place hidden = tt

-- only its children's places matter
pub listed_same : (n : RowNode) (f g : ℕ → ℕ) (hidden k : ℕ) → AreUnder k (child_ids n) → ((i : ℕ) → i < k → f i ≡ g i) → listed f hidden n ≡ listed g hidden n
listed_same code.Iden f g hidden k under same = refl
listed_same code.Unit f g hidden k under same = refl
listed_same (code.Injl i) f g hidden k under same = ap node.Injl (same i under.0)
listed_same (code.Injr i) f g hidden k under same = ap node.Injr (same i under.0)
listed_same (code.Take i) f g hidden k under same = ap node.Take (same i under.0)
listed_same (code.Drop i) f g hidden k under same = ap node.Drop (same i under.0)
listed_same (code.Comp i j) f g hidden k under same = let e = same i under.0 in let f = same j under.1.0 in cc
listed_same (code.Case i j) f g hidden k under same = let e = same i under.0 in let f = same j under.1.0 in cc
listed_same (code.Pair i j) f g hidden k under same = let e = same i under.0 in let f = same j under.1.0 in cc
listed_same (code.AssertL i b) f g hidden k under same = ap (λ (x : ℕ). node.Case x hidden) (same i under.0)
listed_same (code.AssertR b i) f g hidden k under same = ap (node.Case hidden) (same i under.0)
listed_same code.Fail f g hidden k under same = refl
listed_same (code.Witness n) f g hidden k under same = refl
listed_same (code.Word w) f g hidden k under same = refl

-- the sides of a case
both_sides : (a b : Option Node) → IsShown a → IsShown b → AreCaseSides a b
both_sides None b h g = absurd h
both_sides (Some s) None h g = absurd g
both_sides (Some s) (Some t) h g = with s t h g
  where
    with : (s t : Node) → IsShown (Some s) → IsShown (Some t) → AreCaseSides (Some s) (Some t)
    with (node.Hidden b) t h g = absurd h
    with node.Iden t h g = tt
    with node.UnitNode t h g = tt
    with (node.Injl i) t h g = tt
    with (node.Injr i) t h g = tt
    with (node.Take i) t h g = tt
    with (node.Drop i) t h g = tt
    with (node.Comp i j) t h g = tt
    with (node.Case i j) t h g = tt
    with (node.Pair i j) t h g = tt
    with (node.Fail b) t h g = tt
    with node.Witness t h g = tt
    with (node.Word k m) t h g = tt

hidden_right : (a b : Option Node) (bytes : List ℕ) → IsShown a → b ≡ Some (node.Hidden bytes) → AreCaseSides a b
hidden_right None b bytes h e = absurd h
hidden_right (Some s) b bytes h e = subst (λ (o : Option Node). AreCaseSides (Some s) o) (sym e) (with s h)
  where
    with : (s : Node) → IsShown (Some s) → AreCaseSides (Some s) (Some (node.Hidden bytes))
    with (node.Hidden b) h = absurd h
    with node.Iden h = tt
    with node.UnitNode h = tt
    with (node.Injl i) h = tt
    with (node.Injr i) h = tt
    with (node.Take i) h = tt
    with (node.Drop i) h = tt
    with (node.Comp i j) h = tt
    with (node.Case i j) h = tt
    with (node.Pair i j) h = tt
    with (node.Fail b) h = tt
    with node.Witness h = tt
    with (node.Word k m) h = tt

hidden_left : (a b : Option Node) (bytes : List ℕ) → a ≡ Some (node.Hidden bytes) → IsShown b → AreCaseSides a b
hidden_left a None bytes e h = absurd h
hidden_left a (Some t) bytes e h = subst (λ (o : Option Node). AreCaseSides o (Some t)) (sym e) h

-- a side of an assertion is hidden
abbrev pub HiddenThere : List Node → ℕ → RowNode → Type 0
HiddenThere ns place (code.AssertL i b) = slice_get ns place ≡ Some (node.Hidden b)
HiddenThere ns place (code.AssertR b i) = slice_get ns place ≡ Some (node.Hidden b)
HiddenThere ns place _ = Unit {0}

pub row_follows : (n : RowNode) (ns : List Node) (place : ℕ → ℕ) (hidden id : ℕ) → AreUnder id (child_ids n) → ((i : ℕ) → i < id → IsShown (slice_get ns (place i))) → HiddenThere ns hidden n →
    CanFollow ns (listed place hidden n)
row_follows code.Iden ns place hidden id under shown side = tt
row_follows code.Unit ns place hidden id under shown side = tt
row_follows (code.Injl i) ns place hidden id under shown side = shown i under.0
row_follows (code.Injr i) ns place hidden id under shown side = shown i under.0
row_follows (code.Take i) ns place hidden id under shown side = shown i under.0
row_follows (code.Drop i) ns place hidden id under shown side = shown i under.0
row_follows (code.Comp i j) ns place hidden id under shown side = (shown i under.0, shown j under.1.0)
row_follows (code.Case i j) ns place hidden id under shown side = both_sides (slice_get ns (place i)) (slice_get ns (place j)) (shown i under.0) (shown j under.1.0)
row_follows (code.Pair i j) ns place hidden id under shown side = (shown i under.0, shown j under.1.0)
row_follows (code.AssertL i b) ns place hidden id under shown side = hidden_right (slice_get ns (place i)) (slice_get ns hidden) b (shown i under.0) side
row_follows (code.AssertR b i) ns place hidden id under shown side = hidden_left (slice_get ns hidden) (slice_get ns (place i)) b side (shown i under.0)
row_follows code.Fail ns place hidden id under shown side = tt
row_follows (code.Witness n) ns place hidden id under shown side = tt
row_follows (code.Word w) ns place hidden id under shown side = tt

pub hidden_there : (n : RowNode) (ns : List Node) → HiddenThere (ns ++ hidden_nodes n) (length ns) n
hidden_there code.Iden ns = tt
hidden_there code.Unit ns = tt
hidden_there (code.Injl i) ns = tt
hidden_there (code.Injr i) ns = tt
hidden_there (code.Take i) ns = tt
hidden_there (code.Drop i) ns = tt
hidden_there (code.Comp i j) ns = tt
hidden_there (code.Case i j) ns = tt
hidden_there (code.Pair i j) ns = tt
hidden_there (code.AssertL i b) ns = get_last ns (node.Hidden b)
hidden_there (code.AssertR b i) ns = get_last ns (node.Hidden b)
hidden_there code.Fail ns = tt
hidden_there (code.Witness n) ns = tt
hidden_there (code.Word w) ns = tt

-- what stands there stays
pub get_more : {A : Type 0} (xs ys : List A) (i : ℕ) (x : A) → slice_get xs i ≡ Some x → slice_get (xs ++ ys) i ≡ Some x
get_more xs ys i x h = get_front xs ys i (slice_get_within xs i x h) ∙ h

pub number_front : (ns ms : List Node) (i : ℕ) → i ≤ length ns → witness_number (ns ++ ms) i ≡ witness_number ns i
number_front [] [] zero h = refl
number_front [] (m ∷ ms) zero h = refl
number_front [] ms (suc i) h = absurd (omega (arith, h))
number_front (n ∷ ns) ms zero h = refl
number_front (n ∷ ns) ms (suc i) h = ap (count_after n) (number_front ns ms i (omega (arith, h)))

pub side_more : (n : RowNode) (ns ms : List Node) (arrows more : List (Option NodeArrow)) (place : ℕ) → SideAt ns arrows place n → SideAt (ns ++ ms) (arrows ++ more) place n
side_more code.Iden ns ms arrows more place side = tt
side_more code.Unit ns ms arrows more place side = tt
side_more (code.Injl i) ns ms arrows more place side = tt
side_more (code.Injr i) ns ms arrows more place side = tt
side_more (code.Take i) ns ms arrows more place side = tt
side_more (code.Drop i) ns ms arrows more place side = tt
side_more (code.Comp i j) ns ms arrows more place side = tt
side_more (code.Case i j) ns ms arrows more place side = tt
side_more (code.Pair i j) ns ms arrows more place side = tt
side_more (code.AssertL i b) ns ms arrows more place side = (get_more ns ms place (node.Hidden b) side.0, get_more arrows more place None side.1)
side_more (code.AssertR b i) ns ms arrows more place side = (get_more ns ms place (node.Hidden b) side.0, get_more arrows more place None side.1)
side_more code.Fail ns ms arrows more place side = tt
side_more (code.Witness n) ns ms arrows more place side = tt
side_more (code.Word w) ns ms arrows more place side = tt

name_more : (n : RowNode) (ns ms : List Node) (names more : List ℕ) (place : ℕ) → place < length ns → NameAt ns names place n → NameAt (ns ++ ms) (names ++ more) place n
name_more code.Iden ns ms names more place within name = tt
name_more code.Unit ns ms names more place within name = tt
name_more (code.Injl i) ns ms names more place within name = tt
name_more (code.Injr i) ns ms names more place within name = tt
name_more (code.Take i) ns ms names more place within name = tt
name_more (code.Drop i) ns ms names more place within name = tt
name_more (code.Comp i j) ns ms names more place within name = tt
name_more (code.Case i j) ns ms names more place within name = tt
name_more (code.Pair i j) ns ms names more place within name = tt
name_more (code.AssertL i b) ns ms names more place within name = tt
name_more (code.AssertR b i) ns ms names more place within name = tt
name_more code.Fail ns ms names more place within name = tt
name_more (code.Witness n) ns ms names more place within name = ap (slice_get (names ++ more)) (number_front ns ms place (omega (arith, within))) ∙ get_more names more (witness_number ns place) n name
name_more (code.Word w) ns ms names more place within name = tt

pub row_more : (ns ms : List Node) (arrows more : List (Option NodeArrow)) (names more_names : List ℕ) (f g : ℕ → ℕ) (id : ℕ) (row : TermRow) → AreUnder id (child_ids row.node) → ((i : ℕ) → i ≤ id → f i ≡ g i) →
    RowAt ns arrows names f id row → RowAt (ns ++ ms) (arrows ++ more) (names ++ more_names) g id row
row_more ns ms arrows more names more_names f g id row under same at = record {
  hidden = at.hidden;
  node =
      ap (slice_get (ns ++ ms)) (sym (same id (omega arith))) ∙ get_more ns ms (f id) (listed f at.hidden row.node) at.node
      ∙ ap Some (listed_same row.node f g at.hidden id under (λ i l. same i (omega (arith, l))));
  arrow = ap (slice_get (arrows ++ more)) (sym (same id (omega arith))) ∙ get_more arrows more (f id) (Some (record { source = row.source; target = row.target })) at.arrow;
  side = side_more row.node ns ms arrows more at.hidden at.side;
  name =
      let within = slice_get_within ns (f id) (listed f at.hidden row.node) at.node in
      subst (λ (p : ℕ). NameAt (ns ++ ms) (names ++ more_names) p row.node) (same id (omega arith)) (name_more row.node ns ms names more_names (f id) within at.name);
}

-- how many witness nodes there are
abbrev pub total : (ns : List Node) → ℕ
total ns = witness_number ns (length ns)

pub total_last : (ns : List Node) (n : Node) → total (ns ++ n ∷ []) ≡ count_after n (total ns)
total_last ns n =
    let long : length (ns ++ n ∷ []) ≡ suc (length ns) = omega (arith, length-append ns (n ∷ [])) in
    ap (witness_number (ns ++ n ∷ [])) long ∙ number_next (ns ++ n ∷ []) (length ns) n (get_last ns n) ∙ ap (count_after n) (number_front ns (n ∷ []) (length ns) (omega arith))

pub hidden_total : (n : RowNode) (ns : List Node) → total (ns ++ hidden_nodes n) ≡ total ns
hidden_total code.Iden ns = ap total (append-nil ns)
hidden_total code.Unit ns = ap total (append-nil ns)
hidden_total (code.Injl i) ns = ap total (append-nil ns)
hidden_total (code.Injr i) ns = ap total (append-nil ns)
hidden_total (code.Take i) ns = ap total (append-nil ns)
hidden_total (code.Drop i) ns = ap total (append-nil ns)
hidden_total (code.Comp i j) ns = ap total (append-nil ns)
hidden_total (code.Case i j) ns = ap total (append-nil ns)
hidden_total (code.Pair i j) ns = ap total (append-nil ns)
hidden_total (code.AssertL i b) ns = total_last ns (node.Hidden b)
hidden_total (code.AssertR b i) ns = total_last ns (node.Hidden b)
hidden_total code.Fail ns = ap total (append-nil ns)
hidden_total (code.Witness n) ns = ap total (append-nil ns)
hidden_total (code.Word w) ns = ap total (append-nil ns)

pub row_total : (n : RowNode) (place : ℕ → ℕ) (hidden count : ℕ) → count_after (listed place hidden n) count ≡ count + length (own_names n)
row_total code.Iden place hidden count = omega arith
row_total code.Unit place hidden count = omega arith
row_total (code.Injl i) place hidden count = omega arith
row_total (code.Injr i) place hidden count = omega arith
row_total (code.Take i) place hidden count = omega arith
row_total (code.Drop i) place hidden count = omega arith
row_total (code.Comp i j) place hidden count = omega arith
row_total (code.Case i j) place hidden count = omega arith
row_total (code.Pair i j) place hidden count = omega arith
row_total (code.AssertL i b) place hidden count = omega arith
row_total (code.AssertR b i) place hidden count = omega arith
row_total code.Fail place hidden count = omega arith
row_total (code.Witness n) place hidden count = omega arith
row_total (code.Word w) place hidden count = omega arith

pub hidden_long : (n : RowNode) → length (hidden_arrows n) ≡ length (hidden_nodes n)
hidden_long code.Iden = refl
hidden_long code.Unit = refl
hidden_long (code.Injl i) = refl
hidden_long (code.Injr i) = refl
hidden_long (code.Take i) = refl
hidden_long (code.Drop i) = refl
hidden_long (code.Comp i j) = refl
hidden_long (code.Case i j) = refl
hidden_long (code.Pair i j) = refl
hidden_long (code.AssertL i b) = refl
hidden_long (code.AssertR b i) = refl
hidden_long code.Fail = refl
hidden_long (code.Witness n) = refl
hidden_long (code.Word w) = refl

pub side_there : (n : RowNode) (ns : List Node) (arrows : List (Option NodeArrow)) → length arrows ≡ length ns → SideAt (ns ++ hidden_nodes n) (arrows ++ hidden_arrows n) (length ns) n
side_there code.Iden ns arrows count = tt
side_there code.Unit ns arrows count = tt
side_there (code.Injl i) ns arrows count = tt
side_there (code.Injr i) ns arrows count = tt
side_there (code.Take i) ns arrows count = tt
side_there (code.Drop i) ns arrows count = tt
side_there (code.Comp i j) ns arrows count = tt
side_there (code.Case i j) ns arrows count = tt
side_there (code.Pair i j) ns arrows count = tt
side_there (code.AssertL i b) ns arrows count = (get_last ns (node.Hidden b), ap (slice_get (arrows ++ None ∷ [])) (sym count) ∙ get_last arrows None)
side_there (code.AssertR b i) ns arrows count = (get_last ns (node.Hidden b), ap (slice_get (arrows ++ None ∷ [])) (sym count) ∙ get_last arrows None)
side_there code.Fail ns arrows count = tt
side_there (code.Witness n) ns arrows count = tt
side_there (code.Word w) ns arrows count = tt

pub name_there : (n : RowNode) (ns : List Node) (names : List ℕ) (p : ℕ) → length names ≡ witness_number ns p → NameAt ns (names ++ own_names n) p n
name_there code.Iden ns names p count = tt
name_there code.Unit ns names p count = tt
name_there (code.Injl i) ns names p count = tt
name_there (code.Injr i) ns names p count = tt
name_there (code.Take i) ns names p count = tt
name_there (code.Drop i) ns names p count = tt
name_there (code.Comp i j) ns names p count = tt
name_there (code.Case i j) ns names p count = tt
name_there (code.Pair i j) ns names p count = tt
name_there (code.AssertL i b) ns names p count = tt
name_there (code.AssertR b i) ns names p count = tt
name_there code.Fail ns names p count = tt
name_there (code.Witness n) ns names p count = ap (slice_get (names ++ n ∷ [])) (sym count) ∙ get_last names n
name_there (code.Word w) ns names p count = tt

pub place_front : (xs : List ℕ) (y i : ℕ) → i < length xs → place_at (xs ++ y ∷ []) i ≡ place_at xs i
place_front [] y i h = absurd (omega (arith, h))
place_front (x ∷ xs) y zero h = refl
place_front (x ∷ xs) y (suc i) h = place_front xs y i (omega (arith, h))

pub place_last : (xs : List ℕ) (y : ℕ) → place_at (xs ++ y ∷ []) (length xs) ≡ y
place_last [] y = refl
place_last (x ∷ xs) y = place_last xs y
