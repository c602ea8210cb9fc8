-- Nodes one after the other, and a whole program.
use Rattle.std.proofs.Common.{◌≡◌, refl, ap, sym, subst, ◌∙◌, ℕ, zero, suc, ◌+◌, ◌-◌, ◌<◌, ◌≤◌, Bool, true, false, cond, nat_lt, List, [], ◌∷◌, ◌++◌, length, drop, slice_get, Result, Ok, Err, arith, length-append}
use Rattle.std.specs.Prelude.{IfErr}
use Rattle.std.specs.Result.{IsErr, IsErrAnd}
use Rattle.simplicity.specs.Nodes.{Node, CanFollow, AreUnder, children}
use Rattle.simplicity.specs.Spelling.{byte_bits, Spelled}
use Rattle.spelling.specs.Reading.{Read, Got, Refused, Refusal, HiddenRoot, BadPadding, Reading, then, give, read_node, in_place, is_hidden, read_count, read_nodes, shown_root, padding_after, padding, read_list, read_program}
use Rattle.spelling.proofs.Nodes.{node_only}
use Rattle.spelling.proofs.Places.{place_gets}
use Rattle.spelling.proofs.Programs.{programs_are_read}
use Rattle.cell_bits.specs.Places.{Place, rest}
use Rattle.cell_bits.specs.Places as place
use Rattle.cell_bits.specs.declared.refusal.BitRefusal.{BitRefusal}
use Rattle.bit_codec.specs.declared.refusal.CodecRefusal.{CodecRefusal}
use Rattle.bit_codec.specs.Answers.{of_bits, Refuses}
use Rattle.bit_codec.proofs.Fields.{refuses_bits, refuses_then, refuses_same}

-- what follows a node that was read
abbrev pub onward : ℕ → List Node → Node → Reading (List Node)
onward more ns n at bits = then (in_place ns n at bits) (λ n' at' bits'. read_nodes more (ns ++ n' ∷ []) at' bits')

module _ (count index i : ℕ) (ns : List Node) (old mid : Place) (near : index < count) (is : i ≡ length ns)
    (here : read_nodes count [] old.at (rest old) ≡ read_nodes (count - index) ns mid.at (rest mid)) where
  opened : read_nodes count [] old.at (rest old) ≡ then (read_node i mid.at (rest mid)) (onward (count - (index + 1)) ns)
  opened =
      let left : count - index ≡ suc (count - (index + 1)) = omega arith in
      here ∙ ap (λ k. read_nodes k ns mid.at (rest mid)) left ∙ ap (λ k. then (read_node k mid.at (rest mid)) (onward (count - (index + 1)) ns)) (sym is)

  pub node_stops : (e : CodecRefusal) → Refuses e (read_node i mid.at (rest mid)) → Refuses e (read_nodes count [] old.at (rest old))
  node_stops e h =
      refuses_same e (read_nodes count [] old.at (rest old)) (then (read_node i mid.at (rest mid)) (onward (count - (index + 1)) ns)) opened
      (refuses_then e (read_node i mid.at (rest mid)) (onward (count - (index + 1)) ns) h)

  pub place_stops : (e : CodecRefusal) (n : Node) (end : ℕ) (bits : List Bool) → read_node i mid.at (rest mid) ≡ Got n end bits → Refuses e (in_place ns n end bits) →
      Refuses e (read_nodes count [] old.at (rest old))
  place_stops e n end bits got h =
      refuses_same e (read_nodes count [] old.at (rest old)) (onward (count - (index + 1)) ns n end bits)
      (opened ∙ ap (λ r. then r (onward (count - (index + 1)) ns)) got)
      (refuses_then e (in_place ns n end bits) (λ n' at' bits'. read_nodes (count - (index + 1)) (ns ++ n' ∷ []) at' bits') h)

  pub node_more : (n : Node) (new : List Node) (next : Place) → read_node i mid.at (rest mid) ≡ Got n next.at (rest next) → CanFollow ns n → new ≡ ns ++ n ∷ [] →
      read_nodes count [] old.at (rest old) ≡ read_nodes (count - (index + 1)) new next.at (rest next)
  node_more n new next got fits pushed =
      opened ∙ ap (λ r. then r (onward (count - (index + 1)) ns)) got
      ∙ ap (λ r. then r (λ n' at' bits'. read_nodes (count - (index + 1)) (ns ++ n' ∷ []) at' bits')) (place_gets ns n next.at (rest next) fits)
      ∙ ap (λ l. read_nodes (count - (index + 1)) l next.at (rest next)) (sym pushed)

  pub node_under : (n : Node) (end : ℕ) (bits : List Bool) → read_node i mid.at (rest mid) ≡ Got n end bits → AreUnder (length ns) (children n)
  node_under n end bits got = subst (λ (k : ℕ). AreUnder k (children n)) is (node_only i mid.at end (rest mid) bits n got).under

pub longer : (ns new : List Node) (n : Node) (index : ℕ) → new ≡ ns ++ n ∷ [] → length ns ≡ index → length new ≡ index + 1
longer ns new n index pushed is = ap length pushed ∙ length-append ns (n ∷ []) ∙ ap (λ k. k + 1) is

-- the padding, whatever was read before it
padding_cond : {A : Type 0} (a : A) (t : Bool) (at : ℕ) (r : Refusal) → cond t (Got a at []) (Refused r) ≡ then (cond t (Got (tt {0}) at []) (Refused r)) (λ u. give a)
padding_cond a true at r = refl
padding_cond a false at r = refl

padding_any : {A : Type 0} (a : A) (end seen at : ℕ) (bits : List Bool) → padding_after end seen a at bits ≡ then (padding_after end seen (tt {0}) at bits) (λ u. give a)
padding_any a end seen at [] = padding_cond a (nat_lt seen 8) at _
padding_any a end seen at (true ∷ bits) = refl
padding_any a end seen at (false ∷ bits) = padding_any a end (suc seen) (suc at) bits

-- a program whose nodes were read and whose root is shown
module _ (bytes : List ℕ) (start one two : Place) (count : ℕ) (nodes : List Node) (begins : start ≡ record { bits = byte_bits bytes; at = 0 })
    (counted : read_count start.at (rest start) ≡ Got count one.at (rest one)) (listed : read_nodes count [] one.at (rest one) ≡ Got nodes two.at (rest two))
    (long : length nodes ≡ count) (shown : is_hidden (slice_get nodes (count - 1)) ≡ false) where
  whole : read_program bytes ≡ padding nodes two.at (rest two)
  whole =
      let first : read_count 0 (byte_bits bytes) ≡ Got count one.at (rest one) = ap (λ (p : Place). read_count p.at (rest p)) (sym begins) ∙ counted in
      let root : is_hidden (slice_get nodes (length nodes - 1)) ≡ false = ap (λ k. is_hidden (slice_get nodes (k - 1))) long ∙ shown in
      ap (λ r. then (then r (λ c at' bits'. then (read_nodes c [] at' bits') shown_root)) padding) first
      ∙ ap (λ r. then (then r shown_root) padding) listed
      ∙ ap (λ t. then (cond t (Refused HiddenRoot) (Got nodes two.at (rest two))) padding) root

  pub tail_stops : {X : Type 0} (result : Result X CodecRefusal) (b : BitRefusal) → IsErr result × IsErrAnd result (λ e. e ≡ of_bits b) →
      padding (tt {0}) two.at (rest two) ≡ Refused (place.cause b) → IfErr result (λ e. Refuses e (read_program bytes))
  tail_stops (Ok x) b h e = absurd (cc)
  tail_stops (Err c) b h e =
      subst (λ d. Refuses d (read_program bytes)) (sym h.1)
      (refuses_bits (read_program bytes) b (whole ∙ padding_any nodes two.at 0 two.at (rest two) ∙ ap (λ r. then r (λ u. give nodes)) e))

  pub spelled : (end : ℕ) → padding (tt {0}) two.at (rest two) ≡ Got (tt {0}) end [] → Spelled bytes nodes
  spelled end e =
      (programs_are_read.only bytes nodes end [] (whole ∙ padding_any nodes two.at 0 two.at (rest two) ∙ ap (λ r. then r (λ u. give nodes)) e)).0
