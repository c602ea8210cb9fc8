-- Every reading counts its bits.
use Rattle.std.proofs.Common.{◌≡◌, refl, ap, subst, ◌∙◌, ℕ, zero, suc, ◌+◌, ◌-◌, ◌*◌, ◌/◌, ◌^◌, Bool, true, false, cond, ◌&&◌, nat_lt, nat_le, List, [], ◌∷◌, ◌++◌, length, slice_get, arith, length-append}
use Rattle.simplicity.specs.Nodes as node
use Rattle.simplicity.specs.Nodes.{Node, children}
use Rattle.simplicity.specs.Spelling.{byte_bits, node_bits}
use Rattle.simplicity.specs.Limits.{most_nodes}
use Rattle.simplicity.proofs.Bits.{bytes_length}
use Rattle.spelling.specs.Reading.{Read, Got, Refused, EndOfBits, NaturalTooLarge, TooManyNodes, BadDistance, WordTooWide, HiddenPlace, BothHidden, HiddenRoot, BadPadding, Reading, then, give, give_if, number, power, natural_from, read_natural, read_bytes, read_count, read_child, one_child, two_children, read_level, read_word, carried, read_node, is_hidden, some_hidden, in_place, read_nodes, shown_root, padding_after, padding, read_list, read_program}
use Rattle.spelling.specs.Places.{IsOf, PlacesCount}
use Rattle.spelling.proofs.Nodes.{node_only}

-- one reading after another
of_then : {A B : Type 0} (all : ℕ) (r : Read A) (f : A → Reading B) → IsOf all r → ((a : A) (at : ℕ) (mid : List Bool) → at + length mid ≡ all → IsOf all (f a at mid)) → IsOf all (then r f)
of_then all (Got a at mid) f h g = g a at mid h
of_then all (Refused (EndOfBits at)) f h g = h
of_then all (Refused _) f h g = tt

of_cond : {A : Type 0} (all : ℕ) (t : Bool) (r s : Read A) → IsOf all r → IsOf all s → IsOf all (cond t r s)
of_cond all true r s h g = h
of_cond all false r s h g = g

of_number : (n at all : ℕ) (bits : List Bool) → at + length bits ≡ all → IsOf all (number n at bits)
of_number zero at all bits h = h
of_number (suc n) at all [] h = omega arith
of_number (suc n) at all (b ∷ bits) h = of_then all (number n (suc at) bits) (λ m. give (cond b (2 ^ n) 0 + m)) (of_number n (suc at) all bits (omega arith)) (λ m at' mid g. g)

of_power : (start n at all : ℕ) (bits : List Bool) → at + length bits ≡ all → IsOf all (power start n at bits)
of_power start n at all bits h =
    of_then all (give_if (nat_lt n 32) (NaturalTooLarge start) n at bits) (λ n' at' bits'. then (number n' at' bits') (λ m. give (2 ^ n' + m)))
    (of_cond all (nat_lt n 32) (Got n at bits) (Refused (NaturalTooLarge start)) h tt)
    (λ n' at' mid g. of_then all (number n' at' mid) (λ m. give (2 ^ n' + m)) (of_number n' at' all mid g) (λ m at'' mid' k. k))

of_natural : (start at all : ℕ) (bits : List Bool) → at + length bits ≡ all → IsOf all (natural_from start at bits)
of_natural start at all [] h = omega arith
of_natural start at all (false ∷ bits) h = omega arith
of_natural start at all (true ∷ bits) h =
    of_then all (natural_from start (suc at) bits) (power start) (of_natural start (suc at) all bits (omega arith)) (λ n at' mid g. of_power start n at' all mid g)

of_bytes : (n at all : ℕ) (bits : List Bool) → at + length bits ≡ all → IsOf all (read_bytes n at bits)
of_bytes zero at all bits h = h
of_bytes (suc n) at all bits h =
    of_then all (number 8 at bits) (λ b at' bits'. then (read_bytes n at' bits') (λ bs. give (b ∷ bs))) (of_number 8 at all bits h)
    (λ b at' mid g. of_then all (read_bytes n at' mid) (λ bs. give (b ∷ bs)) (of_bytes n at' all mid g) (λ bs at'' mid' k. k))

of_child : (i at all : ℕ) (bits : List Bool) → at + length bits ≡ all → IsOf all (read_child i at bits)
of_child i at all bits h = of_then all (read_natural at bits) (λ d. give_if (nat_le d i) (BadDistance i) (i - d)) (of_natural at at all bits h)
    (λ d at' mid g. of_cond all (nat_le d i) (Got (i - d) at' mid) (Refused (BadDistance i)) g tt)

of_one : (i at all : ℕ) (make : ℕ → Node) (bits : List Bool) → at + length bits ≡ all → IsOf all (one_child i make at bits)
of_one i at all make bits h = of_then all (read_child i at bits) (λ l. give (make l)) (of_child i at all bits h) (λ l at' mid g. g)

of_two : (i at all : ℕ) (make : ℕ → ℕ → Node) (bits : List Bool) → at + length bits ≡ all → IsOf all (two_children i make at bits)
of_two i at all make bits h = of_then all (read_child i at bits) (λ l at' bits'. one_child i (make l) at' bits') (of_child i at all bits h) (λ l at' mid g. of_one i at' all (make l) mid g)

of_word : (i at all : ℕ) (bits : List Bool) → at + length bits ≡ all → IsOf all (read_word i at bits)
of_word i at all bits h = of_then all (read_level i at bits) (λ k at' bits'. then (number (2 ^ k) at' bits') (λ n. give (node.Word k n)))
    (of_then all (read_natural at bits) (λ n. give_if (nat_le (n - 1) 8) (WordTooWide i) (n - 1)) (of_natural at at all bits h)
    (λ n at' mid g. of_cond all (nat_le (n - 1) 8) (Got (n - 1) at' mid) (Refused (WordTooWide i)) g tt))
    (λ k at' mid g. of_then all (number (2 ^ k) at' mid) (λ n. give (node.Word k n)) (of_number (2 ^ k) at' all mid g) (λ n at'' mid' j. j))

of_carried : (n at all : ℕ) (make : List ℕ → Node) (bits : List Bool) → at + length bits ≡ all → IsOf all (carried n make at bits)
of_carried n at all make bits h = of_then all (read_bytes n at bits) (λ bs. give (make bs)) (of_bytes n at all bits h) (λ bs at' mid g. g)

pub of_node : (i at all : ℕ) (bits : List Bool) → at + length bits ≡ all → IsOf all (read_node i at bits)
of_node i at all (false ∷ false ∷ false ∷ false ∷ false ∷ bits) h = of_two i (at + 5) all node.Comp bits (omega arith)
of_node i at all (false ∷ false ∷ false ∷ false ∷ true ∷ bits) h = of_two i (at + 5) all node.Case bits (omega arith)
of_node i at all (false ∷ false ∷ false ∷ true ∷ false ∷ bits) h = of_two i (at + 5) all node.Pair bits (omega arith)
of_node i at all (false ∷ false ∷ false ∷ true ∷ true ∷ bits) h = tt
of_node i at all (false ∷ false ∷ true ∷ false ∷ false ∷ bits) h = of_one i (at + 5) all node.Injl bits (omega arith)
of_node i at all (false ∷ false ∷ true ∷ false ∷ true ∷ bits) h = of_one i (at + 5) all node.Injr bits (omega arith)
of_node i at all (false ∷ false ∷ true ∷ true ∷ false ∷ bits) h = of_one i (at + 5) all node.Take bits (omega arith)
of_node i at all (false ∷ false ∷ true ∷ true ∷ true ∷ bits) h = of_one i (at + 5) all node.Drop bits (omega arith)
of_node i at all (false ∷ true ∷ false ∷ false ∷ false ∷ bits) h = omega arith
of_node i at all (false ∷ true ∷ false ∷ false ∷ true ∷ bits) h = omega arith
of_node i at all (false ∷ true ∷ false ∷ true ∷ false ∷ bits) h = of_carried 64 (at + 5) all node.Fail bits (omega arith)
of_node i at all (false ∷ true ∷ false ∷ true ∷ true ∷ bits) h = tt
of_node i at all (false ∷ true ∷ true ∷ false ∷ bits) h = of_carried 32 (at + 4) all node.Hidden bits (omega arith)
of_node i at all (false ∷ true ∷ true ∷ true ∷ bits) h = omega arith
of_node i at all (true ∷ false ∷ bits) h = of_word i (at + 2) all bits (omega arith)
of_node i at all (true ∷ true ∷ bits) h = tt
of_node i at all _ h = h

of_place : (ns : List Node) (n : Node) (at all : ℕ) (bits : List Bool) → at + length bits ≡ all → IsOf all (in_place ns n at bits)
of_place ns (node.Case l r) at all bits h = of_cond all (is_hidden (slice_get ns l) && is_hidden (slice_get ns r)) (Refused (BothHidden (length ns))) (Got (node.Case l r) at bits) tt h
of_place ns n at all bits h = of_cond all (some_hidden ns (children n)) (Refused (HiddenPlace (length ns))) (Got n at bits) tt h

of_nodes : (count : ℕ) (ns : List Node) (at all : ℕ) (bits : List Bool) → at + length bits ≡ all → IsOf all (read_nodes count ns at bits)
of_nodes zero ns at all bits h = h
of_nodes (suc count) ns at all bits h =
    of_then all (read_node (length ns) at bits) (λ n at' bits'. then (in_place ns n at' bits') (λ n' at'' bits''. read_nodes count (ns ++ n' ∷ []) at'' bits''))
    (of_node (length ns) at all bits h)
    (λ n at' mid g. of_then all (in_place ns n at' mid) (λ n' at'' bits''. read_nodes count (ns ++ n' ∷ []) at'' bits'') (of_place ns n at' all mid g)
    (λ n' at'' mid' k. of_nodes count (ns ++ n' ∷ []) at'' all mid' k))

of_padding : {A : Type 0} (start seen at all : ℕ) (a : A) (bits : List Bool) → at + length bits ≡ all → IsOf all (padding_after start seen a at bits)
of_padding start seen at all a [] h = of_cond all (nat_lt seen 8) (Got a at []) (Refused (BadPadding (8 * ((start + 7) / 8)))) h tt
of_padding start seen at all a (true ∷ bits) h = tt
of_padding start seen at all a (false ∷ bits) h = of_padding start (suc seen) (suc at) all a bits (omega arith)

of_list : (at all : ℕ) (bits : List Bool) → at + length bits ≡ all → IsOf all (read_list at bits)
of_list at all bits h =
    of_then all (read_count at bits) (λ count at' bits'. then (read_nodes count [] at' bits') shown_root)
    (of_then all (read_natural at bits) (λ n. give_if (nat_le n most_nodes) TooManyNodes n) (of_natural at at all bits h)
    (λ n at' mid g. of_cond all (nat_le n most_nodes) (Got n at' mid) (Refused TooManyNodes) g tt))
    (λ count at' mid g. of_then all (read_nodes count [] at' mid) shown_root (of_nodes count [] at' all mid g)
    (λ ns at'' mid' k. of_cond all (is_hidden (slice_get ns (length ns - 1))) (Refused HiddenRoot) (Got ns at'' mid') tt k))

of_program : (bytes : List ℕ) → IsOf (8 * length bytes) (read_program bytes)
of_program bytes =
    let long : length (byte_bits bytes) ≡ 8 * length bytes = bytes_length bytes in
    of_then (8 * length bytes) (read_list 0 (byte_bits bytes)) padding (of_list 0 (8 * length bytes) (byte_bits bytes) (omega arith))
    (λ ns at mid g. of_padding at 0 at (8 * length bytes) ns mid g)

pub node_ends : (i at end : ℕ) (bits rest : List Bool) (n : Node) → read_node i at bits ≡ Got n end rest → end ≡ at + length (node_bits i n)
node_ends i at end bits rest n e =
    let stands = node_only i at end bits rest n e in
    let long : length bits ≡ length (node_bits i n) + length rest = ap length stands.bits_are ∙ length-append (node_bits i n) rest in
    let counted : end + length rest ≡ at + length bits = subst (λ r. IsOf (at + length bits) r) e (of_node i at (at + length bits) bits refl) in
    omega arith

pub places_count : PlacesCount
places_count = record {
  ends = λ bytes at e. subst (λ r. IsOf (8 * length bytes) r) e (of_program bytes);
  whole = λ bytes ns end rest e. subst (λ r. IsOf (8 * length bytes) r) e (of_program bytes);
  nodes = node_ends;
}
