-- The bounds of a list, node by node.
use Rattle.std.proofs.Common.{◌≡◌, ℕ, zero, suc, ◌+◌, ◌-◌, ◌≤◌, min, List, [], ◌∷◌, ◌++◌, length, take, Option, Some, refl, sym, ap, ◌∙◌, arith, add-one}
use Rattle.std.specs.Prelude.{slice_get, option_map}
use Rattle.std.proofs.lemmas.List.{map_push}
use Rattle.simplicity.specs.Nodes.{Node}
use Rattle.simplicity.specs.Types.{size}
use Rattle.simplicity.specs.Typing.{Typing, Arrow, arrow_of}
use Rattle.simplicity.specs.Bounds.{Bounds, stated, entry_bounds, bounds_at, bounds_from, node_list_bounds, bounds}
use Rattle.cost_bound.specs.Numbers.{stated_entries, beside_frames}
use Rattle.cost_bound.proofs.Capped.{entry_of_stated, at_stated, stated_beside}

-- the entries of the first nodes
abbrev pub first_bounds : Typing → ℕ → List Node → List (Option Bounds)
first_bounds ts i ns = bounds_from ts [] (take i ns) (take i ts)

from_next : (ts : Typing) (bs : List (Option Bounds)) (ns : List Node) (es : Typing) (i : ℕ) (n : Node) (e : Option Arrow) → slice_get ns i ≡ Some n → slice_get es i ≡ Some e →
    bounds_from ts bs (take (suc i) ns) (take (suc i) es)
    ≡ bounds_from ts bs (take i ns) (take i es) ++ entry_bounds ts (bounds_from ts bs (take i ns) (take i es)) n e ∷ []
from_next ts bs [] es i n e is has = absurd (cc)
from_next ts bs (m ∷ ns) [] i n e is has = absurd (cc)
from_next ts bs (m ∷ ns) (d ∷ es) zero n e is has =
    let f : m ≡ n = cc in let g : d ≡ e = cc in ap (λ x. bs ++ entry_bounds ts bs x d ∷ []) f ∙ ap (λ x. bs ++ entry_bounds ts bs n x ∷ []) g
from_next ts bs (m ∷ ns) (d ∷ es) (suc i) n e is has = from_next ts (bs ++ entry_bounds ts bs m d ∷ []) ns es i n e is has

-- one more entry, from those that are there
pub more_bounds : (ts : Typing) (ns : List Node) (i : ℕ) (n : Node) (e : Option Arrow) (bs cs : List (Option Bounds)) (b : Option Bounds) →
    slice_get ns i ≡ Some n → slice_get ts i ≡ Some e → bs ≡ stated_entries (first_bounds ts i ns) → b ≡ option_map stated (entry_bounds ts bs n e) → cs ≡ bs ++ b ∷ [] →
    cs ≡ stated_entries (first_bounds ts (i + 1) ns)
more_bounds ts ns i n e bs cs b is has before entry after =
    let at : b ≡ option_map stated (entry_bounds ts (first_bounds ts i ns) n e) =
    entry ∙ ap (λ x. option_map stated (entry_bounds ts x n e)) before ∙ entry_of_stated ts (first_bounds ts i ns) n e in
    let whole : stated_entries (first_bounds ts (suc i) ns) ≡ stated_entries (first_bounds ts i ns) ++ option_map stated (entry_bounds ts (first_bounds ts i ns) n e) ∷ [] =
    ap stated_entries (from_next ts [] ns ts i n e is has) ∙ map_push (option_map stated) (first_bounds ts i ns) (entry_bounds ts (first_bounds ts i ns) n e) in
    rw add-one (after ∙ ap (λ x. x ++ b ∷ []) before ∙ ap (λ x. stated_entries (first_bounds ts i ns) ++ x ∷ []) at ∙ sym whole)

from_all : (ts : Typing) (bs : List (Option Bounds)) (ns : List Node) (es : Typing) (i : ℕ) → min (length ns) (length es) ≤ i →
    bounds_from ts bs (take i ns) (take i es) ≡ bounds_from ts bs ns es
from_all ts bs [] es zero h = refl
from_all ts bs [] es (suc i) h = refl
from_all ts bs (n ∷ ns) [] zero h = refl
from_all ts bs (n ∷ ns) [] (suc i) h = refl
from_all ts bs (n ∷ ns) (e ∷ es) zero h = absurd (omega arith)
from_all ts bs (n ∷ ns) (e ∷ es) (suc i) h = from_all ts (bs ++ entry_bounds ts bs n e ∷ []) ns es i (omega arith)

pub all_bounds : (ts : Typing) (ns : List Node) (i : ℕ) → min (length ns) (length ts) ≤ i → first_bounds ts i ns ≡ node_list_bounds ns ts
all_bounds ts ns i h = from_all ts [] ns ts i h

-- the bounds of a run, from the entries and the sizes at the root
pub whole_by : (ns : List Node) (ts : Typing) (bs : List (Option Bounds)) (root m n : ℕ) (b r : Bounds) → bs ≡ stated_entries (node_list_bounds ns ts) → root ≡ length ns - 1 →
    b ≡ bounds_at bs root → m ≡ size (arrow_of (slice_get ts root)).source → n ≡ size (arrow_of (slice_get ts root)).target → r ≡ stated (beside_frames m n b) →
    r ≡ stated (bounds ns ts)
whole_by ns ts bs root m n b r entries at is source target gives =
    let all : List (Option Bounds) = node_list_bounds ns ts in
    let here : b ≡ stated (bounds_at all root) = is ∙ ap (λ xs. bounds_at xs root) entries ∙ at_stated all root in
    gives ∙ ap (λ x. stated (beside_frames m n x)) here ∙ stated_beside m n (bounds_at all root)
    ∙ ap (λ x. stated (beside_frames x n (bounds_at all root))) source
    ∙ ap (λ x. stated (beside_frames (size (arrow_of (slice_get ts root)).source) x (bounds_at all root))) target
    ∙ ap (λ i. stated (beside_frames (size (arrow_of (slice_get ts i)).source) (size (arrow_of (slice_get ts i)).target) (bounds_at all i))) at
