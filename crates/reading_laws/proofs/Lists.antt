-- Nodes that stand one after the other are read, and then more of them.
use Rattle.std.proofs.Common.{◌≡◌, refl, ap, sym, ◌∙◌, ℕ, zero, suc, ◌+◌, ◌<◌, ◌^◌, Bool, List, [], ◌∷◌, ◌++◌, length, arith, append_assoc, append-nil, length-append}
use Rattle.simplicity.specs.Nodes.{Node, PlacedAfter}
use Rattle.simplicity.specs.Carried.{AreCarried}
use Rattle.simplicity.specs.Spelling.{node_bits, nodes_bits}
use Rattle.spelling.specs.Reading.{Got, then, read_node, in_place, read_nodes}
use Rattle.spelling.proofs.Basics.{got_apart, then_got, then_gets}
use Rattle.spelling.proofs.Counted.{node_ends}
use Rattle.spelling.proofs.Nodes.{node_gets, node_only}
use Rattle.spelling.proofs.Places.{place_gets, place_only, follow_under}

pub nodes_run : (list before : List Node) (more at : ℕ) (rest : List Bool) → PlacedAfter before list → AreCarried list →
    length before + length list < 2 ^ 32 →
    read_nodes (length list + more) before at (nodes_bits (length before) list ++ rest) ≡ read_nodes more (before ++ list) (at + length
    (nodes_bits (length before) list)) rest
nodes_run [] before more at rest h c few =
    ap (λ k. read_nodes k before at rest) (omega arith) ∙ ap (λ l. read_nodes more l at rest) (sym (append-nil before))
    ∙ ap (λ k. read_nodes more (before ++ []) k rest) (omega arith)
nodes_run (n ∷ ns) before more at rest h c few =
    let i : ℕ = length before in
    let behind : List Bool = nodes_bits (i + 1) ns ++ rest in
    let first = node_gets i n at behind (follow_under before n h.0) c.0 (omega arith) in
    let ends = node_ends i at first.0 (node_bits i n ++ behind) behind n first.1 in
    let place = place_gets before n first.0 behind h.0 in
    let longer : length (before ++ n ∷ []) ≡ i + 1 = length-append before (n ∷ []) in
    let inner = nodes_run ns (before ++ n ∷ []) more first.0 rest h.1 c.1 (omega (arith, longer, few)) in
    let far : at + length (node_bits i n ++ nodes_bits (i + 1) ns) ≡ first.0 + length (nodes_bits (i + 1) ns) =
    omega (arith, ends, length-append (node_bits i n) (nodes_bits (i + 1) ns)) in
    let there : read_nodes (length ns + more) (before ++ n ∷ []) first.0 behind ≡ read_nodes more (before ++ n ∷ ns) (at + length
    (node_bits i n ++ nodes_bits (i + 1) ns)) rest =
    ap (λ k. read_nodes (length ns + more) (before ++ n ∷ []) first.0 (nodes_bits k ns ++ rest)) (sym longer) ∙ inner
    ∙ ap (λ k. read_nodes more ((before ++ n ∷ []) ++ ns) (first.0 + length (nodes_bits k ns)) rest) longer
    ∙ ap (λ l. read_nodes more l (first.0 + length (nodes_bits (i + 1) ns)) rest) (append_assoc before (n ∷ []) ns)
    ∙ ap (λ k. read_nodes more (before ++ n ∷ ns) k rest) (sym far) in
    let counted : suc (length ns) + more ≡ suc (length ns + more) = omega arith in
    ap (λ k. read_nodes k before at ((node_bits i n ++ nodes_bits (i + 1) ns) ++ rest)) counted
    ∙ ap (read_nodes (suc (length ns + more)) before at) (append_assoc (node_bits i n) (nodes_bits (i + 1) ns) rest)
    ∙ then_gets (read_node i at (node_bits i n ++ behind)) (λ m at' bits'. then (in_place before m at' bits') (λ m' at'' bits''. read_nodes
    (length ns + more) (before ++ m' ∷ []) at'' bits''))
    n first.0 behind (read_nodes more (before ++ n ∷ ns) (at + length (node_bits i n ++ nodes_bits (i + 1) ns)) rest) first.1
    (then_gets (in_place before n first.0 behind) (λ m' at'' bits''. read_nodes (length ns + more) (before ++ m' ∷ []) at'' bits'')
    n first.0 behind (read_nodes more (before ++ n ∷ ns) (at + length (node_bits i n ++ nodes_bits (i + 1) ns)) rest) place there)

-- so many nodes that were read
pub record Listed (count : ℕ) (before ms : List Node) (at end : ℕ) (bits rest : List Bool) : Type 0 where
  pub list : List Node
  pub joined : ms ≡ before ++ list
  pub counted : length list ≡ count
  pub placed : PlacedAfter before list
  pub fits : AreCarried list
  pub stands : bits ≡ nodes_bits (length before) list ++ rest
  pub ends : end ≡ at + length (nodes_bits (length before) list)

pub nodes_got : (count : ℕ) (before ms : List Node) (at end : ℕ) (bits rest : List Bool) → read_nodes count before at bits ≡ Got ms end rest →
    Listed count before ms at end bits rest
nodes_got zero before ms at end bits rest e =
    let same = got_apart before ms at end bits rest e in
    record {
      list = [];
      joined = sym same.0 ∙ sym (append-nil before);
      counted = refl;
      placed = tt;
      fits = tt;
      stands = same.2;
      ends = omega
          (arith, same.1);
    }
nodes_got (suc count) before ms at end bits rest e =
    let i : ℕ = length before in
    let got = then_got (read_node i at bits) (λ m at' bits'. then (in_place before m at' bits') (λ m' at'' bits''. read_nodes count
    (before ++ m' ∷ []) at'' bits'')) ms end rest e in
    let n : Node = got.0 in
    let more = then_got (in_place before n got.1 got.2) (λ m' at'' bits''. read_nodes count (before ++ m' ∷ []) at'' bits'') ms end rest got.4 in
    let first = node_only i at got.1 bits got.2 n got.3 in
    let ends = node_ends i at got.1 bits got.2 n got.3 in
    let place = place_only before n more.0 got.1 more.1 got.2 more.2 first.under more.3 in
    let same = got_apart n more.0 got.1 more.1 got.2 more.2 place.1 in
    let there : read_nodes count (before ++ n ∷ []) more.1 more.2 ≡ Got ms end rest = ap (λ x. read_nodes count
    (before ++ x ∷ []) more.1 more.2) same.0 ∙ more.4 in
    let inner = nodes_got count (before ++ n ∷ []) ms more.1 end more.2 rest there in
    let longer : length (before ++ n ∷ []) ≡ i + 1 = length-append before (n ∷ []) in
    let stands : bits ≡ (node_bits i n ++ nodes_bits (i + 1) inner.list) ++ rest =
    first.bits_are ∙ ap (λ u. node_bits i n ++ u) (same.2 ∙ inner.stands ∙ ap (λ k. nodes_bits k inner.list ++ rest) longer) ∙
    sym (append_assoc (node_bits i n) (nodes_bits (i + 1) inner.list) rest) in
    let start : more.1 ≡ at + length (node_bits i n) = sym same.1 ∙ ends in
    let far : end ≡ more.1 + length (nodes_bits (i + 1) inner.list) = inner.ends ∙ ap (λ k. more.1 + length (nodes_bits k inner.list)) longer in
    record {
      list = n ∷ inner.list;
      joined = inner.joined ∙ append_assoc before (n ∷ []) inner.list;
      counted = ap suc inner.counted;
      placed = (place.0, inner.placed);
      fits = (first.fits, inner.fits);
      stands = stands;
      ends = omega (arith, start, far, length-append (node_bits i n) (nodes_bits (i + 1) inner.list));
    }
