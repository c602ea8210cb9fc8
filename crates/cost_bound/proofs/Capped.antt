-- Bounds made of numbers that are capped already are those made of the numbers themselves, once capped.
use Rattle.std.proofs.Common.{◌≡◌, ℕ, ◌+◌, List, [], ◌∷◌, zero, suc, Option, Some, None, refl, ap, ◌∙◌, arith}
use Rattle.std.specs.Prelude.{slice_get, option_map}
use Rattle.simplicity.specs.Types.{Kind, Sum, size, pad_left, pad_right}
use Rattle.simplicity.specs.Nodes.{Node}
use Rattle.simplicity.specs.Nodes as node
use Rattle.simplicity.specs.Typing.{Typing, Arrow, target_at}
use Rattle.simplicity.specs.Bounds.{Bounds, stated, above, both, either, through, bounds_of, bounds_at, case_bounds, node_bounds, entry_bounds}
use Rattle.cost_bound.specs.Numbers.{beside_frames, stated_entries}

-- bounds with equal numbers
pub same_bounds : {w x y z a b c d : ℕ} → w ≡ a → x ≡ b → y ≡ c → z ≡ d →
    (let s : Bounds = record { work = w; cells = x; frames = y; depth = z } in let t : Bounds = record { work = a; cells = b; frames = c; depth = d } in s ≡ t)
same_bounds {x = x} {y = y} {z = z} {a = a} {b = b} {c = c} e f g h =
    ap (λ (n : ℕ). let s : Bounds = record { work = n; cells = x; frames = y; depth = z } in s) e
    ∙ ap (λ (n : ℕ). let s : Bounds = record { work = a; cells = n; frames = y; depth = z } in s) f
    ∙ ap (λ (n : ℕ). let s : Bounds = record { work = a; cells = b; frames = n; depth = z } in s) g
    ∙ ap (λ (n : ℕ). let s : Bounds = record { work = a; cells = b; frames = c; depth = n } in s) h

pub stated_twice : (t : Bounds) → stated (stated t) ≡ stated t
stated_twice t = same_bounds (omega arith) (omega arith) (omega arith) (omega arith)

pub stated_above : (n : ℕ) (t : Bounds) → stated (above n (stated t)) ≡ stated (above n t)
stated_above n t = same_bounds (omega arith) (omega arith) (omega arith) (omega arith)

pub stated_both : (s t : Bounds) → stated (both (stated s) (stated t)) ≡ stated (both s t)
stated_both s t = same_bounds (omega arith) (omega arith) (omega arith) (omega arith)

pub stated_either : (s t : Bounds) → stated (either (stated s) (stated t)) ≡ stated (either s t)
stated_either s t = same_bounds (omega arith) (omega arith) (omega arith) (omega arith)

pub stated_through : (n : ℕ) (s t : Bounds) → stated (through n (stated s) (stated t)) ≡ stated (through n s t)
stated_through n s t = same_bounds (omega arith) (omega arith) (omega arith) (omega arith)

pub stated_beside : (m n : ℕ) (t : Bounds) → stated (beside_frames m n (stated t)) ≡ stated (beside_frames m n t)
stated_beside m n t = same_bounds (omega arith) (omega arith) (omega arith) (omega arith)

-- an entry of capped bounds is the capped entry
pub entry_stated : (bs : List (Option Bounds)) (i : ℕ) → slice_get (stated_entries bs) i ≡ option_map (option_map stated) (slice_get bs i)
entry_stated [] i = refl
entry_stated (b ∷ bs) zero = refl
entry_stated (b ∷ bs) (suc i) = entry_stated bs i

of_stated : (o : Option (Option Bounds)) → bounds_of (option_map (option_map stated) o) ≡ stated (bounds_of o)
of_stated (Some (Some b)) = refl
of_stated (Some None) = refl
of_stated None = refl

pub at_stated : (bs : List (Option Bounds)) (i : ℕ) → bounds_at (stated_entries bs) i ≡ stated (bounds_at bs i)
at_stated bs i = ap bounds_of (entry_stated bs i) ∙ of_stated (slice_get bs i)

case_stated : (o r : Option (Option Bounds)) → stated (case_bounds (option_map (option_map stated) o) (option_map (option_map stated) r)) ≡ stated (case_bounds o r)
case_stated (Some (Some s)) (Some (Some t)) = stated_either s t
case_stated (Some (Some s)) (Some None) = stated_above 3 s
case_stated (Some (Some s)) None = stated_above 3 s
case_stated (Some None) r = ap (λ b. stated (above 3 b)) (of_stated r) ∙ stated_above 3 (bounds_of r)
case_stated None r = ap (λ b. stated (above 3 b)) (of_stated r) ∙ stated_above 3 (bounds_of r)

-- the bounds of a node over capped entries, once capped, are those over the entries
pub node_stated : (ts : Typing) (bs : List (Option Bounds)) (n : Node) (a b : Kind) → stated (node_bounds ts (stated_entries bs) n a b) ≡ stated (node_bounds ts bs n a b)
node_stated ts bs (node.Injl t) a (Sum b c) = ap (λ s. stated (above (2 + pad_left b c) s)) (at_stated bs t) ∙ stated_above (2 + pad_left b c) (bounds_at bs t)
node_stated ts bs (node.Injr t) a (Sum b c) = ap (λ s. stated (above (2 + pad_right b c) s)) (at_stated bs t) ∙ stated_above (2 + pad_right b c) (bounds_at bs t)
node_stated ts bs (node.Take t) a b = ap (λ s. stated (above 0 s)) (at_stated bs t) ∙ stated_above 0 (bounds_at bs t)
node_stated ts bs (node.Drop t) a b = ap (λ s. stated (above 2 s)) (at_stated bs t) ∙ stated_above 2 (bounds_at bs t)
node_stated ts bs (node.Pair s t) a b =
    ap (λ x. stated (both x (bounds_at (stated_entries bs) t))) (at_stated bs s) ∙ ap (λ x. stated (both (stated (bounds_at bs s)) x)) (at_stated bs t)
    ∙ stated_both (bounds_at bs s) (bounds_at bs t)
node_stated ts bs (node.Case s t) a b =
    ap (λ x. stated (case_bounds x (slice_get (stated_entries bs) t))) (entry_stated bs s)
    ∙ ap (λ x. stated (case_bounds (option_map (option_map stated) (slice_get bs s)) x)) (entry_stated bs t) ∙ case_stated (slice_get bs s) (slice_get bs t)
node_stated ts bs (node.Comp s t) a b =
    ap (λ x. stated (through (size (target_at ts s)) x (bounds_at (stated_entries bs) t))) (at_stated bs s)
    ∙ ap (λ x. stated (through (size (target_at ts s)) (stated (bounds_at bs s)) x)) (at_stated bs t)
    ∙ stated_through (size (target_at ts s)) (bounds_at bs s) (bounds_at bs t)
node_stated ts bs _ a b = refl

pub entry_of_stated : (ts : Typing) (bs : List (Option Bounds)) (n : Node) (e : Option Arrow) →
    option_map stated (entry_bounds ts (stated_entries bs) n e) ≡ option_map stated (entry_bounds ts bs n e)
entry_of_stated ts bs n None = refl
entry_of_stated ts bs n (Some a) = ap (λ b. Some b) (node_stated ts bs n a.source a.target)
