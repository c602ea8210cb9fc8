-- A program is read exactly where its bytes spell a list of few nodes.
use Rattle.std.proofs.Common.{◌≡◌, refl, ap, sym, subst, ◌∙◌, ℕ, zero, suc, ◌+◌, ◌-◌, ◌*◌, ◌/◌, ◌<◌, ◌≤◌, Bool, true, false, cond, nat_le, nat_lt, List, [], ◌∷◌, ◌++◌, length, replicate, slice_get, arith, append_assoc, append-nil, length-append, leb-true, le-leb, ltb-true, lt-ltb}
use Rattle.simplicity.specs.Nodes.{Node, IsPlaced, PlacedAfter, IsShown}
use Rattle.simplicity.specs.Carried.{AreCarried}
use Rattle.simplicity.specs.Spelling.{byte_bits, natural, node_bits, nodes_bits, program_bits, Spelled}
use Rattle.simplicity.specs.Limits.{most_nodes}
use Rattle.spelling.specs.Reading.{Got, Refused, Refusal, TooManyNodes, HiddenRoot, BadPadding, then, give_if, read_natural, read_count, read_node, in_place, is_hidden, read_nodes, shown_root, padding_after, padding, read_list, read_program}
use Rattle.spelling.specs.Laws.{ProgramsAreRead}
use Rattle.spelling.proofs.Basics.{got_apart, then_got, then_gets, cond_got, unless_got, give_gets}
use Rattle.spelling.proofs.Numbers.{natural_gets, natural_stands}
use Rattle.spelling.proofs.Nodes.{given, node_gets, node_only}
use Rattle.spelling.proofs.Places.{get_there, not_hidden, shown_of, place_gets, place_only, follow_under}

-- so many nodes
nodes_gets : (ns before : List Node) (at : ℕ) (rest : List Bool) → PlacedAfter before ns → AreCarried ns → length before + length ns ≤ most_nodes →
    (end : ℕ) × (read_nodes (length ns) before at (nodes_bits (length before) ns ++ rest) ≡ Got (before ++ ns) end rest)
nodes_gets [] before at rest h c few = (at, ap (λ l. Got l at rest) (sym (append-nil before)))
nodes_gets (n ∷ ns) before at rest h c few =
    let i : ℕ = length before in
    let after : List Bool = nodes_bits (i + 1) ns ++ rest in
    let first = node_gets i n at after (follow_under before n h.0) c.0 (omega arith) in
    let place = place_gets before n first.0 after h.0 in
    let longer : length (before ++ n ∷ []) ≡ i + 1 = length-append before (n ∷ []) in
    let more = nodes_gets ns (before ++ n ∷ []) first.0 rest h.1 c.1 (omega (arith, longer, few)) in
    let there : read_nodes (length ns) (before ++ n ∷ []) first.0 after ≡ Got (before ++ n ∷ ns) more.0 rest =
    ap (λ k. read_nodes (length ns) (before ++ n ∷ []) first.0 (nodes_bits k ns ++ rest)) (sym longer) ∙ more.1 ∙ ap (λ l. Got l more.0 rest) (append_assoc before (n ∷ []) ns) in
    let grouped : (node_bits i n ++ nodes_bits (i + 1) ns) ++ rest ≡ node_bits i n ++ after = append_assoc (node_bits i n) (nodes_bits (i + 1) ns) rest in (
      more.0,
      ap (read_nodes (length (n ∷ ns)) before at) grouped ∙
          then_gets (read_node i at (node_bits i n ++ after)) (λ n' at' bits'. then (in_place before n' at' bits') (λ n'' at'' bits''. read_nodes (length ns) (before ++ n'' ∷ []) at'' bits''))
          n first.0 after (Got (before ++ n ∷ ns) more.0 rest) first.1
          (then_gets (in_place before n first.0 after) (λ n'' at'' bits''. read_nodes (length ns) (before ++ n'' ∷ []) at'' bits'') n first.0 after
          (Got (before ++ n ∷ ns) more.0 rest) place there),
    )

record NodesStand (count : ℕ) (before ms : List Node) (bits rest : List Bool) : Type 0 where
  list : List Node
  joined : ms ≡ before ++ list
  counted : length list ≡ count
  placed : PlacedAfter before list
  fits : AreCarried list
  bits_are : bits ≡ nodes_bits (length before) list ++ rest

nodes_only : (count : ℕ) (before ms : List Node) (at end : ℕ) (bits rest : List Bool) → read_nodes count before at bits ≡ Got ms end rest → NodesStand count before ms bits rest
nodes_only zero before ms at end bits rest e =
    let same = got_apart before ms at end bits rest e in
    record { list = []; joined = sym same.0 ∙ sym (append-nil before); counted = refl; placed = tt; fits = tt; bits_are = same.2 }
nodes_only (suc count) before ms at end bits rest e =
    let i : ℕ = length before in
    let got = then_got (read_node i at bits) (λ n' at' bits'. then (in_place before n' at' bits') (λ n'' at'' bits''. read_nodes count (before ++ n'' ∷ []) at'' bits'')) ms end rest e in
    let n : Node = got.0 in
    let more = then_got (in_place before n got.1 got.2) (λ n'' at'' bits''. read_nodes count (before ++ n'' ∷ []) at'' bits'') ms end rest got.4 in
    let first = node_only i at got.1 bits got.2 n got.3 in
    let place = place_only before n more.0 got.1 more.1 got.2 more.2 first.under more.3 in
    let same = got_apart n more.0 got.1 more.1 got.2 more.2 place.1 in
    let there : read_nodes count (before ++ n ∷ []) more.1 more.2 ≡ Got ms end rest = ap (λ x. read_nodes count (before ++ x ∷ []) more.1 more.2) same.0 ∙ more.4 in
    let inner = nodes_only count (before ++ n ∷ []) ms more.1 end more.2 rest there in
    let longer : length (before ++ n ∷ []) ≡ i + 1 = length-append before (n ∷ []) in
    let stands : bits ≡ (node_bits i n ++ nodes_bits (i + 1) inner.list) ++ rest =
    first.bits_are ∙ ap (λ u. node_bits i n ++ u) (same.2 ∙ inner.bits_are ∙ ap (λ k. nodes_bits k inner.list ++ rest) longer) ∙
    sym (append_assoc (node_bits i n) (nodes_bits (i + 1) inner.list) rest) in
    record {
      list = n ∷ inner.list;
      joined = inner.joined ∙ append_assoc before (n ∷ []) inner.list;
      counted = ap suc inner.counted;
      placed = (place.0, inner.placed);
      fits = (first.fits, inner.fits);
      bits_are = stands;
    }

-- the padding
padding_gets : {A : Type 0} (start seen n at : ℕ) (a : A) → seen + n < 8 → (end : ℕ) × (padding_after start seen a at (replicate n false) ≡ Got a end [])
padding_gets start seen zero at a h = (at, ap (λ t. cond t (Got a at []) (Refused (BadPadding (8 * ((start + 7) / 8))))) (lt-ltb seen 8 (omega arith)))
padding_gets start seen (suc n) at a h = padding_gets start (suc seen) n (suc at) a (omega arith)

padding_only : {A : Type 0} (start seen at end : ℕ) (a b : A) (bits rest : List Bool) → padding_after start seen a at bits ≡ Got b end rest →
    (n : ℕ) × (seen + n < 8) × (bits ≡ replicate n false) × (a ≡ b)
padding_only start seen at end a b [] rest e =
    let test = cond_got (nat_lt seen 8) (Got a at []) (BadPadding (8 * ((start + 7) / 8))) b end rest e in
    let few : seen < 8 = ltb-true seen 8 test.0 in
    (0, omega arith, refl, (got_apart a b at end [] rest test.1).0)
padding_only start seen at end a b (true ∷ bits) rest e = absurd (cc)
padding_only start seen at end a b (false ∷ bits) rest e =
    let more = padding_only start (suc seen) (suc at) end a b bits rest e in
    let few : suc seen + more.0 < 8 = more.1 in
    (suc more.0, omega (arith, few), ap (λ l. false ∷ l) more.2, more.3)

-- the number of nodes
count_gets : (n at : ℕ) (rest : List Bool) → 0 < n → n ≤ most_nodes → read_count at (natural n ++ rest) ≡ Got n (at + length (natural n)) rest
count_gets n at rest h few =
    then_gets (read_natural at (natural n ++ rest)) (λ k. give_if (nat_le k most_nodes) TooManyNodes k) n (at + length (natural n)) rest (Got n (at + length (natural n)) rest)
    (natural_gets n at rest h (omega arith)) (give_gets (nat_le n most_nodes) TooManyNodes n (at + length (natural n)) rest (le-leb n most_nodes few))

count_only : (n at end : ℕ) (bits rest : List Bool) → read_count at bits ≡ Got n end rest → (0 < n) × (n ≤ most_nodes) × (bits ≡ natural n ++ rest)
count_only n at end bits rest e =
    let got = then_got (read_natural at bits) (λ k. give_if (nat_le k most_nodes) TooManyNodes k) n end rest e in
    let test = given (nat_le got.0 most_nodes) TooManyNodes got.0 n got.1 end got.2 rest got.4 in
    let stands = natural_stands got.0 at got.1 bits got.2 got.3 in (
      subst (λ k. 0 < k) test.1 stands.0,
      subst (λ k. k ≤ most_nodes) test.1 (leb-true got.0 most_nodes test.0),
      stands.2 ∙ ap (λ k. natural k ++ got.2) test.1 ∙ ap (λ r. natural n ++ r) test.3,
    )

-- the whole
program_gets : (bytes : List ℕ) (ns : List Node) → Spelled bytes ns → length ns ≤ most_nodes → (end : ℕ) × (rest : List Bool) × (read_program bytes ≡ Got ns end rest)
program_gets bytes ns s few =
    let zs : List Bool = replicate s.padded.zeros false in
    let grouped : byte_bits bytes ≡ natural (length ns) ++ (nodes_bits 0 ns ++ zs) = s.padded.same ∙ append_assoc (natural (length ns)) (nodes_bits 0 ns) zs in
    let mid : ℕ = 0 + length (natural (length ns)) in
    let count = count_gets (length ns) 0 (nodes_bits 0 ns ++ zs) s.rooted.1 few in
    let nodes = nodes_gets ns [] mid zs s.placed s.carried (omega arith) in
    let root : shown_root ns nodes.0 zs ≡ Got ns nodes.0 zs = ap (λ t. cond t (Refused HiddenRoot) (Got ns nodes.0 zs)) (not_hidden (slice_get ns (length ns - 1)) s.rooted.0) in
    let few_zeros : s.padded.zeros < 8 = s.padded.few in
    let tail = padding_gets nodes.0 0 s.padded.zeros nodes.0 ns (omega arith) in
    let list : read_list 0 (byte_bits bytes) ≡ Got ns nodes.0 zs =
    ap (read_list 0) grouped ∙
    then_gets (read_count 0 (natural (length ns) ++ (nodes_bits 0 ns ++ zs))) (λ c at' bits'. then (read_nodes c [] at' bits') shown_root) (length ns) mid (nodes_bits 0 ns ++ zs)
    (Got ns nodes.0 zs) count
    (then_gets (read_nodes (length ns) [] mid (nodes_bits 0 ns ++ zs)) shown_root ns nodes.0 zs (Got ns nodes.0 zs) nodes.1 root) in
    (tail.0, [], then_gets (read_list 0 (byte_bits bytes)) padding ns nodes.0 zs (Got ns tail.0 []) list tail.1)

program_only : (bytes : List ℕ) (ns : List Node) (end : ℕ) (rest : List Bool) → read_program bytes ≡ Got ns end rest → Spelled bytes ns × (length ns ≤ most_nodes)
program_only bytes ns end rest e =
    let whole = then_got (read_list 0 (byte_bits bytes)) padding ns end rest e in
    let tail = padding_only whole.1 0 whole.1 end whole.0 ns whole.2 rest whole.4 in
    let below : 0 + tail.0 < 8 = tail.1 in
    let list : read_list 0 (byte_bits bytes) ≡ Got ns whole.1 whole.2 = whole.3 ∙ ap (λ l. Got l whole.1 whole.2) tail.3 in
    let got = then_got (read_count 0 (byte_bits bytes)) (λ c at' bits'. then (read_nodes c [] at' bits') shown_root) ns whole.1 whole.2 list in
    let more = then_got (read_nodes got.0 [] got.1 got.2) shown_root ns whole.1 whole.2 got.4 in
    let test = unless_got (is_hidden (slice_get more.0 (length more.0 - 1))) (Got more.0 more.1 more.2) HiddenRoot ns whole.1 whole.2 more.4 in
    let same = got_apart more.0 ns more.1 whole.1 more.2 whole.2 test.1 in
    let count = count_only got.0 0 got.1 (byte_bits bytes) got.2 got.3 in
    let nodes = nodes_only got.0 [] more.0 got.1 more.1 got.2 more.2 more.3 in
    let is : nodes.list ≡ ns = sym nodes.joined ∙ same.0 in
    let long : length ns ≡ got.0 = ap length (sym is) ∙ nodes.counted in
    let some : 0 < length ns = subst (λ k. 0 < k) (sym long) count.0 in
    let shown : IsShown (slice_get ns (length ns - 1)) =
    shown_of (slice_get ns (length ns - 1)) (get_there ns (length ns - 1) (omega arith)) (ap (λ l. is_hidden (slice_get l (length l - 1))) (sym same.0) ∙ test.0) in
    let stands : byte_bits bytes ≡ program_bits ns ++ replicate tail.0 false =
    count.2 ∙ ap (λ u. natural got.0 ++ u) (nodes.bits_are ∙ ap (λ l. nodes_bits 0 l ++ more.2) is ∙ ap (λ u. nodes_bits 0 ns ++ u) (same.2 ∙ tail.2)) ∙
    ap (λ k. natural k ++ (nodes_bits 0 ns ++ replicate tail.0 false)) (sym long) ∙ sym (append_assoc (natural (length ns)) (nodes_bits 0 ns) (replicate tail.0 false)) in (
      record {
        placed = subst IsPlaced is nodes.placed;
        rooted = (shown, some);
        carried = subst AreCarried is nodes.fits;
        padded = record { zeros = tail.0; few = omega (arith, below); same = stands };
      },
      subst (λ k. k ≤ most_nodes) (sym long) count.1,
    )

program_none : (bytes : List ℕ) (r : Refusal) (ns : List Node) → read_program bytes ≡ Refused r → Spelled bytes ns → length ns ≤ most_nodes → ⊥
program_none bytes r ns e s few =
    let got = program_gets bytes ns s few in
    let clash : Refused r ≡ Got ns got.0 got.1 = sym e ∙ got.2 in
    absurd (cc)

pub programs_are_read : ProgramsAreRead
programs_are_read = record { gets = program_gets; only = program_only; none = program_none }
