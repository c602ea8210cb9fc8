-- Nodes are refused after fewer nodes that stand in the bits.
use Rattle.std.proofs.Common.{◌≡◌, refl, ap, sym, subst, ◌∙◌, ℕ, zero, suc, ◌+◌, ◌<◌, ◌⊎◌, inl, inr, Bool, List, [], ◌∷◌, ◌++◌, length, arith, append_assoc, append-nil, length-append}
use Rattle.simplicity.specs.Nodes.{Node}
use Rattle.simplicity.specs.Spelling.{node_bits, nodes_bits}
use Rattle.spelling.specs.Reading.{Read, Got, Refused, Refusal, then, read_node, in_place, read_nodes}
use Rattle.spelling.specs.Stops.{IsNextRefused, Stops, NodesStop}
use Rattle.spelling.proofs.Basics.{got_apart}
use Rattle.spelling.proofs.Nodes.{node_only}
use Rattle.spelling.proofs.Places.{place_only}
use Rattle.spelling.proofs.Refusals.{then_refused}
use Rattle.spelling.proofs.Counted.{node_ends}

stops_here : (count : ℕ) (before : List Node) (at : ℕ) (bits : List Bool) (r : Refusal) → IsNextRefused before at bits r → Stops (suc count) before at bits r
stops_here count before at bits r h =
    record {
      list = [];
      now = before;
      is = sym (append-nil before);
      place = at;
      rest = bits;
      placed = tt;
      fits = tt;
      fewer = omega arith;
      bits_are = refl;
      place_is = omega arith;
      next = h;
    }

pub nodes_stop : NodesStop
nodes_stop zero before at bits r e = absurd (cc)
nodes_stop (suc count) before at bits r e =
    elim (then_refused (read_node (length before) at bits) (λ n at' bits'. then (in_place before n at' bits') (λ n' at'' bits''. read_nodes count (before ++ n' ∷ []) at'' bits'')) r e) [
      | inl g ↦ stops_here count before at bits r (inl g)
      | inr g ↦ elim (then_refused (in_place before g.0 g.1 g.2) (λ n' at'' bits''. read_nodes count (before ++ n' ∷ []) at'' bits'') r g.4) [
        | inl k ↦ stops_here count before at bits r (inr (g.0, g.1, g.2, g.3, k))
        | inr k ↦ (let n : Node = g.0 in
            let i : ℕ = length before in
            let first = node_only i at g.1 bits g.2 n g.3 in
            let ends = node_ends i at g.1 bits g.2 n g.3 in
            let place = place_only before n k.0 g.1 k.1 g.2 k.2 first.under k.3 in
            let same = got_apart n k.0 g.1 k.1 g.2 k.2 place.1 in
            let there : read_nodes count (before ++ n ∷ []) k.1 k.2 ≡ Refused r = ap (λ x. read_nodes count (before ++ x ∷ []) k.1 k.2) same.0 ∙ k.4 in
            let inner = nodes_stop count (before ++ n ∷ []) k.1 k.2 r there in
            let longer : length (before ++ n ∷ []) ≡ i + 1 = length-append before (n ∷ []) in
            let stands : bits ≡ (node_bits i n ++ nodes_bits (i + 1) inner.list) ++ inner.rest =
            first.bits_are ∙ ap (λ u. node_bits i n ++ u) (same.2 ∙ inner.bits_are ∙ ap (λ j. nodes_bits j inner.list ++ inner.rest) longer) ∙
            sym (append_assoc (node_bits i n) (nodes_bits (i + 1) inner.list) inner.rest) in
            let start : k.1 ≡ at + length (node_bits i n) = sym same.1 ∙ ends in
            let far : inner.place ≡ k.1 + length (nodes_bits (i + 1) inner.list) = inner.place_is ∙ ap (λ j. k.1 + length (nodes_bits j inner.list)) longer in
            let long : length (node_bits i n ++ nodes_bits (i + 1) inner.list) ≡ length (node_bits i n) + length (nodes_bits (i + 1) inner.list) =
            length-append (node_bits i n) (nodes_bits (i + 1) inner.list) in
            let less : length inner.list < count = inner.fewer in
            record {
              list = n ∷ inner.list;
              now = inner.now;
              is = inner.is ∙ append_assoc before (n ∷ []) inner.list;
              place = inner.place;
              rest = inner.rest;
              placed = (place.0, inner.placed);
              fits = (first.fits, inner.fits);
              fewer = omega (arith, less);
              bits_are = stands;
              place_is = omega (arith, start, far, long);
              next = inner.next;
            })
      ]
    ]
