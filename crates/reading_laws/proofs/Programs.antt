-- A program is refused exactly as its fields say.
use Rattle.std.proofs.Common.{◌≡◌, refl, ap, sym, subst, ◌∙◌, ℕ, zero, suc, ◌+◌, ◌-◌, ◌*◌, ◌/◌, ◌<◌, ◌≤◌, inl, inr, Bool, true, false, cond, nat_le, nat_lt, List, [], ◌∷◌, ◌++◌, length, replicate, slice_get, arith, le-leb, leb-true, ltb-false}
use Rattle.std.proofs.lemmas.Bool.{leb-false, lt-leb, le-ltb}
use Rattle.simplicity.specs.Nodes.{Node, IsShown}
use Rattle.simplicity.specs.Limits.{most_nodes}
use Rattle.simplicity.specs.Spelling.{byte_bits, natural, nodes_bits}
use Rattle.spelling.specs.Reading.{Got, Refused, Refusal, TooManyNodes, HiddenRoot, BadPadding, Reading, then, give_if, read_natural, read_count, read_nodes, is_hidden, shown_root, padding_after, padding, read_list, read_program}
use Rattle.spelling.proofs.Numbers.{naturals_are_read}
use Rattle.spelling.proofs.NamedNodes.{refusals_are_named}
use Rattle.spelling.proofs.Refusals.{then_refused}
use Rattle.spelling.proofs.Nodes.{given}
use Rattle.spelling.proofs.Basics.{then_got, got_apart, unless_got}
use Rattle.spelling.proofs.Places.{get_there, not_hidden, shown_of}
use Rattle.spelling.proofs.Stopped.{nodes_stop}
use Rattle.reading_laws.specs.Programs.{Begins, last_of, ProgramStops, NextStops, CountRefused, CountPasses, NextRefused, RootHidden, PaddingHasOne, PaddingLong, ProgramsAreRefused}
use Rattle.reading_laws.proofs.Places.{is_so, hidden_of, cond_refused, next_only, next_gets}
use Rattle.reading_laws.proofs.Lists.{nodes_run, Listed, nodes_got}

-- what comes after the number of nodes
abbrev onward : ℕ → Reading (List Node)
onward count at bits = then (read_nodes count [] at bits) shown_root

-- the padding
data PaddingStops (start seen at : ℕ) (bits : List Bool) (r : Refusal) : Type 0 where
  One : (zeros : ℕ) (more : List Bool) → bits ≡ replicate zeros false ++ true ∷ more → r ≡ BadPadding (at + zeros) → PaddingStops start seen at bits r
  Long : (zeros : ℕ) → bits ≡ replicate zeros false → 8 ≤ seen + zeros → r ≡ BadPadding (8 * ((start + 7) / 8)) → PaddingStops start seen at bits r

unless_less : {A : Type 0} (t : Bool) (q r : Refusal) (a : A) (at : ℕ) (bits : List Bool) → cond t (Got a at bits) (Refused q) ≡ Refused r →
    (t ≡ false) × (r ≡ q)
unless_less true q r a at bits e = absurd (cc)
unless_less false q r a at bits e = (refl, cc)

one_more : (start seen at : ℕ) (bits : List Bool) (r : Refusal) → PaddingStops start (suc seen) (suc at) bits r →
    PaddingStops start seen at (false ∷ bits) r
one_more start seen at bits r (One zeros more is e) = One (suc zeros) more (ap (λ l. false ∷ l) is) (e ∙ ap BadPadding (omega arith))
one_more start seen at bits r (Long zeros is far e) = Long (suc zeros) (ap (λ l. false ∷ l) is) (omega (arith, far)) e

padding_refused : {A : Type 0} (start seen at : ℕ) (a : A) (bits : List Bool) (r : Refusal) → padding_after start seen a at bits ≡ Refused r →
    PaddingStops start seen at bits r
padding_refused start seen at a [] r e =
    let test = unless_less (nat_lt seen 8) (BadPadding (8 * ((start + 7) / 8))) r a at [] e in
    let far : 8 ≤ seen = ltb-false seen 8 test.0 in
    Long 0 refl (omega (arith, far)) test.1
padding_refused start seen at a (true ∷ bits) r e =
    let same : BadPadding at ≡ r = cc in
    One 0 bits refl (sym same ∙ ap BadPadding (omega arith))
padding_refused start seen at a (false ∷ bits) r e = one_more start seen at bits r (padding_refused start (suc seen) (suc at) a bits r e)

padding_one : {A : Type 0} (start seen at zeros : ℕ) (a : A) (more : List Bool) →
    padding_after start seen a at (replicate zeros false ++ true ∷ more) ≡ Refused (BadPadding (at + zeros))
padding_one start seen at zero a more = ap (λ k. Refused (BadPadding k)) (omega arith)
padding_one start seen at (suc zeros) a more = padding_one start (suc seen) (suc at) zeros a more ∙ ap (λ k. Refused (BadPadding k)) (omega arith)

padding_long : {A : Type 0} (start seen at zeros : ℕ) (a : A) → 8 ≤ seen + zeros →
    padding_after start seen a at (replicate zeros false) ≡ Refused (BadPadding (8 * ((start + 7) / 8)))
padding_long start seen at zero a far =
    ap (λ t. cond t (Got a at []) (Refused (BadPadding (8 * ((start + 7) / 8))))) (le-ltb seen 8 (omega (arith, far)))
padding_long start seen at (suc zeros) a far = padding_long start (suc seen) (suc at) zeros a (omega (arith, far))

tail_at : (bits : List Bool) (ns : List Node) (two : ℕ) (r : Refusal) → IsShown (slice_get ns (last_of ns)) → (rest : List Bool) →
    Begins (length ns) ns bits rest two →
    PaddingStops two 0 two rest r → ProgramStops bits r
tail_at bits ns two r shown rest b (One zeros more is e) =
    subst (λ (x : Refusal). ProgramStops bits x) (sym e) (PaddingHasOne two zeros ns more (subst (λ (l : List Bool). Begins
    (length ns) ns bits l two) is b) shown)
tail_at bits ns two r shown rest b (Long zeros is far e) =
    subst (λ (x : Refusal). ProgramStops bits x) (sym e) (PaddingLong two zeros ns (subst (λ (l : List Bool). Begins
    (length ns) ns bits l two) is b) shown (omega (arith, far)))

-- the number of nodes and the nodes after it, which were read
module _ (count one : ℕ) (bits mid : List Bool) (got : read_count 0 bits ≡ Got count one mid) where
  record Counted : Type 0 where
    some : 0 < count
    few : count ≤ most_nodes
    stands : bits ≡ natural count ++ mid
    place : one ≡ length (natural count)

  counted : Counted
  counted =
      let first = then_got (read_natural 0 bits) (λ n. give_if (nat_le n most_nodes) TooManyNodes n) count one mid got in
      let test = given (nat_le first.0 most_nodes) TooManyNodes first.0 count first.1 one first.2 mid first.4 in
      let there = naturals_are_read.only first.0 0 first.1 bits first.2 first.3 in
      let few : first.0 ≤ most_nodes = leb-true first.0 most_nodes test.0 in
      let same : first.0 ≡ count = test.1 in
      let ends : first.1 ≡ 0 + length (natural first.0) = there.3 in
      let long : length (natural first.0) ≡ length (natural count) = ap (λ k. length (natural k)) test.1 in
      let next : first.1 ≡ one = test.2 in
      record {
        some = subst (λ k. 0 < k) test.1 there.0;
        few = subst (λ k. k ≤ most_nodes) test.1 few;
        stands = there.2 ∙ ap (λ k. natural k ++ first.2) test.1 ∙ ap (λ l. natural count ++ l) test.3;
        place = omega (arith, ends, long, next);
      }

  begun : (list : List Node) (two : ℕ) (rest : List Bool) → Listed count [] list one two mid rest → Begins count list bits rest two
  begun list two rest l =
      let same : list ≡ l.list = l.joined in
      let start : one ≡ length (natural count) = counted.place in
      let far : two ≡ one + length (nodes_bits 0 l.list) = l.ends in
      subst (λ (ns : List Node). Begins count ns bits rest two) (sym same) (record {
        some = counted.some;
        few = counted.few;
        placed = l.placed;
        fits = l.fits;
        stands = counted.stands ∙ ap (λ b. natural count ++ b) l.stands;
        place = omega (arith, start, far);
      })

  next_refused : (r : Refusal) → read_nodes count [] one mid ≡ Refused r → ProgramStops bits r
  next_refused r e =
      let s = nodes_stop count [] one mid r e in
      let start : one ≡ length (natural count) = counted.place in
      let far : s.place ≡ one + length (nodes_bits 0 s.list) = s.place_is in
      let same : s.now ≡ s.list = s.is in
      NextRefused count s.place s.list s.rest r (record {
        some = counted.some;
        few = counted.few;
        placed = s.placed;
        fits = s.fits;
        stands = counted.stands ∙ ap (λ b. natural count ++ b) s.bits_are;
        place = omega (arith, start, far);
      }) s.fewer (subst (λ (ns : List Node). NextStops ns s.place s.rest r) same (next_only s.now s.place s.rest r s.next))

  -- all nodes were read
  module _ (ns : List Node) (two : ℕ) (rest : List Bool) (listed : read_nodes count [] one mid ≡ Got ns two rest) where
    whole : Listed count [] ns one two mid rest
    whole = nodes_got count [] ns one two mid rest listed

    long : length ns ≡ count
    long = ap length whole.joined ∙ whole.counted

    begins : Begins (length ns) ns bits rest two
    begins = subst (λ k. Begins k ns bits rest two) (sym long) (begun ns two rest whole)

    root_refused : (r : Refusal) → shown_root ns two rest ≡ Refused r → ProgramStops bits r
    root_refused r e =
        let test = cond_refused (is_hidden (slice_get ns (length ns - 1))) HiddenRoot r ns two rest e in
        subst (λ (x : Refusal). ProgramStops bits x) (sym test.1) (RootHidden two ns rest begins (hidden_of (slice_get ns (length ns - 1)) test.0))

    tail_refused : (r : Refusal) → is_hidden (slice_get ns (length ns - 1)) ≡ false → PaddingStops two 0 two rest r → ProgramStops bits r
    tail_refused r root stops =
        let some : 0 < count = counted.some in
        let shown : IsShown (slice_get ns (last_of ns)) = shown_of (slice_get ns (length ns - 1)) (get_there ns (length ns - 1) (omega
        (arith, some, long))) root in
        tail_at bits ns two r shown rest begins stops

-- a natural that is no number of nodes
count_refused : (bits : List Bool) (r : Refusal) → read_count 0 bits ≡ Refused r → ProgramStops bits r
count_refused bits r e =
    elim (then_refused (read_natural 0 bits) (λ n. give_if (nat_le n most_nodes) TooManyNodes n) r e) [
      | inl g ↦ CountRefused r (refusals_are_named.natural_only 0 bits r g)
      | inr g ↦ (let test = unless_less (nat_le g.0 most_nodes) TooManyNodes r g.0 g.1 g.2 g.4 in
          let there = naturals_are_read.only g.0 0 g.1 bits g.2 g.3 in
          subst (λ (x : Refusal). ProgramStops bits x) (sym test.1) (CountPasses g.0 g.2 there.2 (leb-false g.0 most_nodes test.0) there.1))
    ]

only : (bytes : List ℕ) (r : Refusal) → read_program bytes ≡ Refused r → ProgramStops (byte_bits bytes) r
only bytes r e =
    elim (then_refused (read_list 0 (byte_bits bytes)) padding r e) [
      | inl g ↦ elim (then_refused (read_count 0 (byte_bits bytes)) onward r g) [
        | inl h ↦ count_refused (byte_bits bytes) r h
        | inr h ↦ elim (then_refused (read_nodes h.0 [] h.1 h.2) shown_root r h.4) [
          | inl k ↦ next_refused h.0 h.1 (byte_bits bytes) h.2 h.3 r k
          | inr k ↦ root_refused h.0 h.1 (byte_bits bytes) h.2 h.3 k.0 k.1 k.2 k.3 r k.4
        ]
      ]
      | inr g ↦ (let first = then_got (read_count 0 (byte_bits bytes)) onward g.0 g.1 g.2 g.3 in
          let next = then_got (read_nodes first.0 [] first.1 first.2) shown_root g.0 g.1 g.2 first.4 in
          let test = unless_got (is_hidden (slice_get next.0 (length next.0 - 1))) (Got next.0 next.1 next.2) HiddenRoot g.0 g.1 g.2 next.4 in
          let same = got_apart next.0 g.0 next.1 g.1 next.2 g.2 test.1 in
          let root : is_hidden (slice_get g.0 (length g.0 - 1)) ≡ false = ap (λ l. is_hidden (slice_get l (length l - 1))) (sym same.0) ∙ test.0 in
          let listed : read_nodes first.0 [] first.1 first.2 ≡ Got g.0 g.1 g.2 = next.3 ∙ test.1 in
          tail_refused first.0 first.1 (byte_bits bytes) first.2 first.3 g.0 g.1 g.2 listed r root (padding_refused g.1 0 g.1 g.0 g.2 r g.4))
    ]

-- a program that begins so is read up to there
module _ (count at : ℕ) (ns : List Node) (bits rest : List Bool) (b : Begins count ns bits rest at) where
  count_read : read_list 0 bits ≡ onward count (length (natural count)) (nodes_bits 0 ns ++ rest)
  count_read =
      let some : 0 < count = b.some in let few : count ≤ most_nodes = b.few in
      ap (read_list 0) b.stands
      ∙ ap (λ x. then (then x (λ n. give_if (nat_le n most_nodes) TooManyNodes n)) onward) (naturals_are_read.gets count 0
      (nodes_bits 0 ns ++ rest) b.some (omega (arith, few)))
      ∙ ap (λ t. then (cond t (Got count (0 + length (natural count)) (nodes_bits 0 ns ++ rest)) (Refused TooManyNodes)) onward)
      (le-leb count most_nodes b.few)
      ∙ ap (λ k. onward count k (nodes_bits 0 ns ++ rest)) (omega arith)

  listed : (more : ℕ) → count ≡ length ns + more → read_list 0 bits ≡ then (read_nodes more ns at rest) shown_root
  listed more is =
      let few : count ≤ most_nodes = b.few in
      let place : at ≡ length (natural count) + length (nodes_bits 0 ns) = b.place in
      count_read ∙ ap (λ k. then (read_nodes k [] (length (natural count)) (nodes_bits 0 ns ++ rest)) shown_root) is
      ∙ ap (λ x. then x shown_root) (nodes_run ns [] more (length (natural count)) rest b.placed b.fits (omega (arith, few, is)))
      ∙ ap (λ k. then (read_nodes more ns k rest) shown_root) (sym place)

-- all nodes stand
all_listed : (at : ℕ) (ns : List Node) (bits rest : List Bool) → Begins (length ns) ns bits rest at → read_list 0 bits ≡ shown_root ns at rest
all_listed at ns bits rest b = listed (length ns) at ns bits rest b 0 (omega arith)

all_shown : (at : ℕ) (ns : List Node) (bits rest : List Bool) → Begins (length ns) ns bits rest at → IsShown (slice_get ns (last_of ns)) →
    read_list 0 bits ≡ Got ns at rest
all_shown at ns bits rest b shown =
    all_listed at ns bits rest b ∙ ap (λ t. cond t (Refused HiddenRoot) (Got ns at rest)) (not_hidden (slice_get ns (length ns - 1)) shown)

gets : (bytes : List ℕ) (r : Refusal) → ProgramStops (byte_bits bytes) r → read_program bytes ≡ Refused r
gets bytes _ (CountRefused r h) =
    ap (λ x. then (then (then x (λ n. give_if (nat_le n most_nodes) TooManyNodes n)) onward) padding) (refusals_are_named.natural_gets 0
    (byte_bits bytes) r h)
gets bytes _ (CountPasses n rest is far fits) =
    ap (λ b. then (read_list 0 b) padding) is
    ∙ ap (λ x. then (then (then x (λ k. give_if (nat_le k most_nodes) TooManyNodes k)) onward) padding) (naturals_are_read.gets n 0 rest (omega
    (arith, far)) fits)
    ∙ ap (λ t. then (then (cond t (Got n (0 + length (natural n)) rest) (Refused TooManyNodes)) onward) padding) (lt-leb n most_nodes far)
gets bytes _ (NextRefused count at ns rest r b fewer h) =
    let few : count ≤ most_nodes = b.few in
    let left : count ≡ length ns + suc (count - (length ns + 1)) = omega (arith, fewer) in
    ap (λ x. then x padding) (listed count at ns (byte_bits bytes) rest b (suc (count - (length ns + 1))) left)
    ∙ ap (λ x. then (then x shown_root) padding) (next_gets ns at rest r (λ m at' bits'. read_nodes (count - (length ns + 1))
    (ns ++ m ∷ []) at' bits') (omega (arith, few, fewer)) h)
gets bytes _ (RootHidden at ns rest b h) =
    ap (λ x. then x padding) (all_listed at ns (byte_bits bytes) rest b)
    ∙ ap (λ t. then (cond t (Refused HiddenRoot) (Got ns at rest)) padding) (is_so (slice_get ns (length ns - 1)) h)
gets bytes _ (PaddingHasOne at zeros ns more b shown) =
    ap (λ x. then x padding) (all_shown at ns (byte_bits bytes) (replicate zeros false ++ true ∷ more) b shown) ∙ padding_one at 0 at zeros ns more
gets bytes _ (PaddingLong at zeros ns b shown far) =
    ap (λ x. then x padding) (all_shown at ns (byte_bits bytes) (replicate zeros false) b shown) ∙ padding_long at 0 at zeros ns (omega (arith, far))

pub programs_are_refused : ProgramsAreRefused
programs_are_refused = record { only = only; gets = gets }
