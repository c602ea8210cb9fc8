-- The fields of a node, as the code reads them, and the node that they are.
use Rattle.std.proofs.Common.{◌≡◌, refl, ap, sym, subst, ◌∙◌, ℕ, zero, suc, ◌+◌, ◌-◌, ◌*◌, ◌/◌, ◌%◌, ◌^◌, ◌<◌, ◌≤◌, Bool, true, false, cond, nat_lt, nat_le, List, [], ◌∷◌, ◌++◌, length, Result, Ok, Err, take, set, length-set, arith, lt-ltb, le-leb, leb-true, append_assoc, add-mul}
use Rattle.std.proofs.lemmas.Nat.{pow-add}
use Rattle.std.proofs.Math.Nat.{pow-succ'}
use Rattle.std.proofs.Math.Pow.{pow_mono}
use Rattle.std.specs.Int.{from_bool}
use Rattle.std.specs.Result.{IsErr, IsErrAnd}
use Rattle.std.proofs.lemmas.List.{take_more_set}
use Rattle.simplicity.specs.Nodes as node
use Rattle.simplicity.specs.Nodes.{Node}
use Rattle.spelling.specs.Reading as reading
use Rattle.spelling.specs.Reading.{Read, Got, Refused, Refusal, EndOfBits, JetCode, Disconnect, Reserved, BadDistance, WordTooWide, Reading, then, give, give_if, one_bit, number, read_natural, read_bytes, read_child, one_child, two_children, read_level, read_word, carried, read_node}
use Rattle.jets.specs.Unsigned.{Unsigned, IsUnsigned, is_width}
use Rattle.simplicity.specs.Widths.{level_of}
use Rattle.spelling.proofs.Numbers.{number_only}
use Rattle.spelling.proofs.Basics.{got_apart}
use Rattle.spelling.proofs.Parts.{then_then, then_same, then_give}
use Rattle.cell_bits.specs.Places.{Place, rest}
use Rattle.cell_bits.specs.Places as place
use Rattle.cell_bits.specs.declared.refusal.BitRefusal.{BitRefusal}
use Rattle.cell_bits.specs.declared.refusal.BitRefusal.TheVariants as bit
use Rattle.bit_codec.specs.declared.refusal.CodecRefusal.{CodecRefusal}
use Rattle.bit_codec.specs.declared.refusal.CodecRefusal.TheVariants as codec
use Rattle.bit_codec.specs.Answers.{of_bits, Refuses, Gives, Behind}

-- a reader's refusal is one of the program
pub refuses_bits : {A : Type 0} (r : Read A) (b : BitRefusal) → r ≡ Refused (place.cause b) → Refuses (of_bits b) r
refuses_bits r (bit.EndOfBits at) h = h
refuses_bits r (bit.NaturalTooLarge at) h = h
refuses_bits r (bit.BadPadding at) h = h

-- a refusal stays, whatever would have been read after it
pub refuses_then : {A B : Type 0} (e : CodecRefusal) (r : Read A) (f : A → Reading B) → Refuses e r → Refuses e (then r f)
refuses_then (codec.EndOfBits at) r f h = ap (λ x. then x f) h
refuses_then (codec.NaturalTooLarge at) r f h = ap (λ x. then x f) h
refuses_then codec.TooManyNodes r f h = ap (λ x. then x f) h
refuses_then (codec.JetCode at) r f h = ap (λ x. then x f) h
refuses_then (codec.Disconnect at) r f h = ap (λ x. then x f) h
refuses_then (codec.Reserved at) r f h = ap (λ x. then x f) h
refuses_then (codec.BadDistance i) r f h = ap (λ x. then x f) h
refuses_then (codec.WordTooWide i) r f h = ap (λ x. then x f) h
refuses_then (codec.HiddenPlace i) r f h = ap (λ x. then x f) h
refuses_then (codec.BothHidden i) r f h = ap (λ x. then x f) h
refuses_then codec.HiddenRoot r f h = ap (λ x. then x f) h
refuses_then (codec.BadPadding at) r f h = ap (λ x. then x f) h
refuses_then codec.OutOfMemory r f h = tt

pub refuses_same : {A : Type 0} (e : CodecRefusal) (r s : Read A) → r ≡ s → Refuses e s → Refuses e r
refuses_same e r s same h = subst (λ x. Refuses e x) (sym same) h

-- a reading that is another one from the next place on
pub gives_from : {X A : Type 0} (view : X → A) (r s : Reading A) (result : Result X CodecRefusal) (old mid new : Place) →
    r old.at (rest old) ≡ s mid.at (rest mid) → mid.bits ≡ old.bits → Gives view s result mid new → Gives view r result old new
gives_from view r s (Ok x) old mid new e same h = (e ∙ h.0, h.1 ∙ same)
gives_from view r s (Err c) old mid new e same h = refuses_same c (r old.at (rest old)) (s mid.at (rest mid)) e h

-- the first two bits of a node
two_bits : (at mid end : ℕ) (b c : Bool) (bits more rest' : List Bool) → one_bit at bits ≡ Got b mid more → one_bit mid more ≡ Got c end rest' →
    (bits ≡ b ∷ c ∷ rest') × (end ≡ at + 2)
two_bits at mid end b c [] more rest' e f = absurd (cc)
two_bits at mid end b c (x ∷ bits) [] rest' e f = absurd (cc)
two_bits at mid end b c (x ∷ bits) (y ∷ more) rest' e f =
    let first = got_apart x b (suc at) mid bits (y ∷ more) e in
    let second = got_apart y c (suc mid) end more rest' f in
    (ap (λ z. z ∷ bits) first.0 ∙ ap (λ l. b ∷ l) (first.2 ∙ ap (λ z. z ∷ more) second.0 ∙ ap (λ l. c ∷ l) second.2), omega (arith, first.1, second.1))

pub first_bit_ends : (i at : ℕ) (bits : List Bool) (r : Refusal) → one_bit at bits ≡ Refused r → read_node i at bits ≡ Refused r
first_bit_ends i at [] r e =
    let same : EndOfBits at ≡ r = cc in
    let none : at + 0 ≡ at = omega arith in
    ap (λ k. Refused (EndOfBits k)) none ∙ ap Refused same
first_bit_ends i at (x ∷ bits) r e = absurd (cc)

pub second_bit_ends : (i at mid : ℕ) (b : Bool) (bits more : List Bool) (r : Refusal) → one_bit at bits ≡ Got b mid more → one_bit mid more ≡ Refused r → read_node i at bits ≡ Refused r
second_bit_ends i at mid b [] more r e f = absurd (cc)
second_bit_ends i at mid b (x ∷ bits) (y ∷ more) r e f = absurd (cc)
second_bit_ends i at mid b (true ∷ []) [] r e f =
    let next : suc at ≡ mid = cc in
    let same : EndOfBits mid ≡ r = cc in
    let one : at + 1 ≡ mid = omega (arith, next) in
    ap (λ k. Refused (EndOfBits k)) one ∙ ap Refused same
second_bit_ends i at mid b (false ∷ []) [] r e f =
    let next : suc at ≡ mid = cc in
    let same : EndOfBits mid ≡ r = cc in
    let one : at + 1 ≡ mid = omega (arith, next) in
    ap (λ k. Refused (EndOfBits k)) one ∙ ap Refused same
second_bit_ends i at mid b (x ∷ y ∷ bits) [] r e f = absurd (cc)

pub jet_there : (i at mid end : ℕ) (bits more rest' : List Bool) → one_bit at bits ≡ Got true mid more → one_bit mid more ≡ Got true end rest' → read_node i at bits ≡ Refused (JetCode at)
jet_there i at mid end bits more rest' e f = ap (read_node i at) (two_bits at mid end true true bits more rest' e f).0

pub word_there : (i at mid end : ℕ) (bits more rest' : List Bool) → one_bit at bits ≡ Got true mid more → one_bit mid more ≡ Got false end rest' → read_node i at bits ≡ read_word i end rest'
word_there i at mid end bits more rest' e f =
    let found = two_bits at mid end true false bits more rest' e f in
    ap (read_node i at) found.0 ∙ ap (λ k. read_word i k rest') (sym found.1)

pub others_there : (i at mid end : ℕ) (b : Bool) (bits more rest' : List Bool) → one_bit at bits ≡ Got false mid more → one_bit mid more ≡ Got b end rest' →
    (read_node i at bits ≡ Behind (read_node i) at (false ∷ b ∷ []) end rest') × (end ≡ at + 2)
others_there i at mid end b bits more rest' e f =
    let found = two_bits at mid end false b bits more rest' e f in
    (ap (read_node i at) found.0, found.1)

-- the code of a node with children
abbrev pub parent : ℕ → ℕ → ℕ → Reading Node
parent i start zero at bits = two_children i node.Comp at bits
parent i start (suc zero) at bits = two_children i node.Case at bits
parent i start (suc (suc zero)) at bits = two_children i node.Pair at bits
parent i start (suc (suc (suc zero))) at bits = Refused (Disconnect start)
parent i start (suc (suc (suc (suc zero)))) at bits = one_child i node.Injl at bits
parent i start (suc (suc (suc (suc (suc zero))))) at bits = one_child i node.Injr at bits
parent i start (suc (suc (suc (suc (suc (suc zero)))))) at bits = one_child i node.Take at bits
parent i start (suc (suc (suc (suc (suc (suc (suc more))))))) at bits = one_child i node.Drop at bits

moved : (f : ℕ → Reading Node) (c d at end : ℕ) (us vs : List Bool) → c ≡ d → at ≡ end → us ≡ vs → f c at us ≡ f d end vs
moved f c d at end us vs e g h = ap (λ k. f k at us) e ∙ ap (λ k. f d k us) g ∙ ap (λ l. f d end l) h

pub parent_there : (i start at c end : ℕ) (bits more : List Bool) → at ≡ start + 2 → number 3 at bits ≡ Got c end more →
    Behind (read_node i) start (false ∷ false ∷ []) at bits ≡ parent i start c end more
parent_there i start at c end [] more is e = absurd (cc)
parent_there i start at c end (x ∷ []) more is e = absurd (cc)
parent_there i start at c end (x ∷ y ∷ []) more is e = absurd (cc)
parent_there i start at c end (false ∷ false ∷ false ∷ bits) more is e =
    let same = got_apart 0 c (suc (suc (suc at))) end bits more e in moved (parent i start) 0 c (start + 5) end bits more same.0 (omega (arith, same.1, is)) same.2
parent_there i start at c end (false ∷ false ∷ true ∷ bits) more is e =
    let same = got_apart 1 c (suc (suc (suc at))) end bits more e in moved (parent i start) 1 c (start + 5) end bits more same.0 (omega (arith, same.1, is)) same.2
parent_there i start at c end (false ∷ true ∷ false ∷ bits) more is e =
    let same = got_apart 2 c (suc (suc (suc at))) end bits more e in moved (parent i start) 2 c (start + 5) end bits more same.0 (omega (arith, same.1, is)) same.2
parent_there i start at c end (false ∷ true ∷ true ∷ bits) more is e =
    let same = got_apart 3 c (suc (suc (suc at))) end bits more e in moved (parent i start) 3 c (start + 5) end bits more same.0 (omega (arith, same.1, is)) same.2
parent_there i start at c end (true ∷ false ∷ false ∷ bits) more is e =
    let same = got_apart 4 c (suc (suc (suc at))) end bits more e in moved (parent i start) 4 c (start + 5) end bits more same.0 (omega (arith, same.1, is)) same.2
parent_there i start at c end (true ∷ false ∷ true ∷ bits) more is e =
    let same = got_apart 5 c (suc (suc (suc at))) end bits more e in moved (parent i start) 5 c (start + 5) end bits more same.0 (omega (arith, same.1, is)) same.2
parent_there i start at c end (true ∷ true ∷ false ∷ bits) more is e =
    let same = got_apart 6 c (suc (suc (suc at))) end bits more e in moved (parent i start) 6 c (start + 5) end bits more same.0 (omega (arith, same.1, is)) same.2
parent_there i start at c end (true ∷ true ∷ true ∷ bits) more is e =
    let same = got_apart 7 c (suc (suc (suc at))) end bits more e in moved (parent i start) 7 c (start + 5) end bits more same.0 (omega (arith, same.1, is)) same.2

-- the bits end within a code
ends_as : {A : Type 0} (at end : ℕ) (r : Refusal) (x : Read A) → x ≡ Refused (EndOfBits at) → EndOfBits end ≡ r → at ≡ end → x ≡ Refused r
ends_as at end r x e f same = e ∙ ap (λ k. Refused (EndOfBits k)) same ∙ ap Refused f

pub parent_ends : (i start at : ℕ) (bits : List Bool) (r : Refusal) → at ≡ start + 2 → number 3 at bits ≡ Refused r → Behind (read_node i) start (false ∷ false ∷ []) at bits ≡ Refused r
parent_ends i start at [] r is e =
    let same : EndOfBits at ≡ r = cc in ends_as (start + 2) at r (Behind (read_node i) start (false ∷ false ∷ []) at []) refl same (omega (arith, is))
parent_ends i start at (false ∷ []) r is e =
    let same : EndOfBits (suc at) ≡ r = cc in ends_as (start + 3) (suc at) r (Behind (read_node i) start (false ∷ false ∷ []) at (false ∷ [])) refl same (omega (arith, is))
parent_ends i start at (true ∷ []) r is e =
    let same : EndOfBits (suc at) ≡ r = cc in ends_as (start + 3) (suc at) r (Behind (read_node i) start (false ∷ false ∷ []) at (true ∷ [])) refl same (omega (arith, is))
parent_ends i start at (false ∷ false ∷ []) r is e =
    let same : EndOfBits (suc (suc at)) ≡ r = cc in ends_as (start + 4) (suc (suc at)) r (Behind (read_node i) start (false ∷ false ∷ []) at (false ∷ false ∷ [])) refl same (omega (arith, is))
parent_ends i start at (false ∷ true ∷ []) r is e =
    let same : EndOfBits (suc (suc at)) ≡ r = cc in ends_as (start + 4) (suc (suc at)) r (Behind (read_node i) start (false ∷ false ∷ []) at (false ∷ true ∷ [])) refl same (omega (arith, is))
parent_ends i start at (true ∷ false ∷ []) r is e =
    let same : EndOfBits (suc (suc at)) ≡ r = cc in ends_as (start + 4) (suc (suc at)) r (Behind (read_node i) start (false ∷ false ∷ []) at (true ∷ false ∷ [])) refl same (omega (arith, is))
parent_ends i start at (true ∷ true ∷ []) r is e =
    let same : EndOfBits (suc (suc at)) ≡ r = cc in ends_as (start + 4) (suc (suc at)) r (Behind (read_node i) start (false ∷ false ∷ []) at (true ∷ true ∷ [])) refl same (omega (arith, is))
parent_ends i start at (x ∷ y ∷ z ∷ bits) r is e = absurd (cc)

-- the code of a node without children
abbrev pub leaf : ℕ → ℕ → Reading Node
leaf start zero at bits = Got node.Iden at bits
leaf start (suc zero) at bits = Got node.UnitNode at bits
leaf start (suc (suc zero)) at bits = carried 64 node.Fail at bits
leaf start (suc (suc (suc more))) at bits = Refused (Reserved start)

pub leaf_there : (i start at mid c end : ℕ) (bits more rest' : List Bool) → at ≡ start + 2 → one_bit at bits ≡ Got false mid more → number 2 mid more ≡ Got c end rest' →
    Behind (read_node i) start (false ∷ true ∷ []) at bits ≡ leaf start c end rest'
leaf_there i start at mid c end [] more rest' is e f = absurd (cc)
leaf_there i start at mid c end (true ∷ bits) more rest' is e f = absurd (cc)
leaf_there i start at mid c end (false ∷ bits) [] rest' is e f = absurd (cc)
leaf_there i start at mid c end (false ∷ bits) (x ∷ []) rest' is e f = absurd (cc)
leaf_there i start at mid c end (false ∷ bits) (false ∷ false ∷ more) rest' is e f =
    let first = got_apart false false (suc at) mid bits (false ∷ false ∷ more) e in
    let same = got_apart 0 c (suc (suc mid)) end more rest' f in
    ap (λ l. read_node i start (false ∷ true ∷ false ∷ l)) first.2 ∙ moved (leaf start) 0 c (start + 5) end more rest' same.0 (omega (arith, first.1, same.1, is)) same.2
leaf_there i start at mid c end (false ∷ bits) (false ∷ true ∷ more) rest' is e f =
    let first = got_apart false false (suc at) mid bits (false ∷ true ∷ more) e in
    let same = got_apart 1 c (suc (suc mid)) end more rest' f in
    ap (λ l. read_node i start (false ∷ true ∷ false ∷ l)) first.2 ∙ moved (leaf start) 1 c (start + 5) end more rest' same.0 (omega (arith, first.1, same.1, is)) same.2
leaf_there i start at mid c end (false ∷ bits) (true ∷ false ∷ more) rest' is e f =
    let first = got_apart false false (suc at) mid bits (true ∷ false ∷ more) e in
    let same = got_apart 2 c (suc (suc mid)) end more rest' f in
    ap (λ l. read_node i start (false ∷ true ∷ false ∷ l)) first.2 ∙ moved (leaf start) 2 c (start + 5) end more rest' same.0 (omega (arith, first.1, same.1, is)) same.2
leaf_there i start at mid c end (false ∷ bits) (true ∷ true ∷ more) rest' is e f =
    let first = got_apart false false (suc at) mid bits (true ∷ true ∷ more) e in
    let same = got_apart 3 c (suc (suc mid)) end more rest' f in
    ap (λ l. read_node i start (false ∷ true ∷ false ∷ l)) first.2 ∙ moved (leaf start) 3 c (start + 5) end more rest' same.0 (omega (arith, first.1, same.1, is)) same.2

pub leaf_code_ends : (i start at mid : ℕ) (bits more : List Bool) (r : Refusal) → at ≡ start + 2 → one_bit at bits ≡ Got false mid more → number 2 mid more ≡ Refused r →
    Behind (read_node i) start (false ∷ true ∷ []) at bits ≡ Refused r
leaf_code_ends i start at mid [] more r is e f = absurd (cc)
leaf_code_ends i start at mid (true ∷ bits) more r is e f = absurd (cc)
leaf_code_ends i start at mid (false ∷ bits) (x ∷ y ∷ more) r is e f = absurd (cc)
leaf_code_ends i start at mid (false ∷ bits) [] r is e f =
    let first = got_apart false false (suc at) mid bits [] e in
    let same : EndOfBits mid ≡ r = cc in
    ends_as (start + 3) mid r (read_node i start (false ∷ true ∷ false ∷ bits)) (ap (λ l. read_node i start (false ∷ true ∷ false ∷ l)) first.2) same (omega (arith, first.1, is))
leaf_code_ends i start at mid (false ∷ bits) (false ∷ []) r is e f =
    let first = got_apart false false (suc at) mid bits (false ∷ []) e in
    let same : EndOfBits (suc mid) ≡ r = cc in
    ends_as (start + 4) (suc mid) r (read_node i start (false ∷ true ∷ false ∷ bits)) (ap (λ l. read_node i start (false ∷ true ∷ false ∷ l)) first.2) same (omega (arith, first.1, is))
leaf_code_ends i start at mid (false ∷ bits) (true ∷ []) r is e f =
    let first = got_apart false false (suc at) mid bits (true ∷ []) e in
    let same : EndOfBits (suc mid) ≡ r = cc in
    ends_as (start + 4) (suc mid) r (read_node i start (false ∷ true ∷ false ∷ bits)) (ap (λ l. read_node i start (false ∷ true ∷ false ∷ l)) first.2) same (omega (arith, first.1, is))

pub leaf_bit_ends : (i start at : ℕ) (bits : List Bool) (r : Refusal) → at ≡ start + 2 → one_bit at bits ≡ Refused r → Behind (read_node i) start (false ∷ true ∷ []) at bits ≡ Refused r
leaf_bit_ends i start at [] r is e = let same : EndOfBits at ≡ r = cc in ends_as (start + 2) at r (read_node i start (false ∷ true ∷ [])) refl same (sym is)
leaf_bit_ends i start at (x ∷ bits) r is e = absurd (cc)

pub wide_leaf_ends : (i start at mid : ℕ) (bits more : List Bool) (r : Refusal) → at ≡ start + 2 → one_bit at bits ≡ Got true mid more → one_bit mid more ≡ Refused r →
    Behind (read_node i) start (false ∷ true ∷ []) at bits ≡ Refused r
wide_leaf_ends i start at mid [] more r is e f = absurd (cc)
wide_leaf_ends i start at mid (false ∷ bits) more r is e f = absurd (cc)
wide_leaf_ends i start at mid (true ∷ bits) (x ∷ more) r is e f = absurd (cc)
wide_leaf_ends i start at mid (true ∷ bits) [] r is e f =
    let first = got_apart true true (suc at) mid bits [] e in
    let same : EndOfBits mid ≡ r = cc in
    ends_as (start + 3) mid r (read_node i start (false ∷ true ∷ true ∷ bits)) (ap (λ l. read_node i start (false ∷ true ∷ true ∷ l)) first.2) same (omega (arith, first.1, is))

pub witness_there : (i start at mid end : ℕ) (bits more rest' : List Bool) → at ≡ start + 2 → one_bit at bits ≡ Got true mid more → one_bit mid more ≡ Got true end rest' →
    Behind (read_node i) start (false ∷ true ∷ []) at bits ≡ Got node.Witness end rest'
witness_there i start at mid end bits more rest' is e f =
    let found = two_bits at mid end true true bits more rest' e f in
    ap (λ l. read_node i start (false ∷ true ∷ l)) found.0 ∙ ap (λ k. Got node.Witness k rest') (omega (arith, found.1, is))

pub hidden_there : (i start at mid end : ℕ) (bits more rest' : List Bool) → at ≡ start + 2 → one_bit at bits ≡ Got true mid more → one_bit mid more ≡ Got false end rest' →
    Behind (read_node i) start (false ∷ true ∷ []) at bits ≡ carried 32 node.Hidden end rest'
hidden_there i start at mid end bits more rest' is e f =
    let found = two_bits at mid end true false bits more rest' e f in
    let place : start + 4 ≡ end = omega (arith, found.1, is) in
    ap (λ l. read_node i start (false ∷ true ∷ l)) found.0 ∙ ap (λ k. carried 32 node.Hidden k rest') place

-- children
pub one_done : (i l at end : ℕ) (make : ℕ → Node) (bits more : List Bool) → read_child i at bits ≡ Got l end more → one_child i make at bits ≡ Got (make l) end more
one_done i l at end make bits more e = ap (λ r. then r (λ k. give (make k))) e

pub one_left : (i l at end : ℕ) (make : ℕ → ℕ → Node) (bits more : List Bool) → read_child i at bits ≡ Got l end more → two_children i make at bits ≡ one_child i (make l) end more
one_left i l at end make bits more e = ap (λ r. then r (λ k at' bits'. one_child i (make k) at' bits')) e

not_within : (d i : ℕ) (t : Bool) → nat_le d i ≡ t → i < d → nat_le d i ≡ false
not_within d i false e h = e
not_within d i true e h = let less : d ≤ i = leb-true d i e in absurd (omega (arith, less, h))

pub child_far : (i d at end : ℕ) (bits more : List Bool) → read_natural at bits ≡ Got d end more → i < d → read_child i at bits ≡ Refused (BadDistance i)
child_far i d at end bits more e h =
    ap (λ r. then r (λ k. give_if (nat_le k i) (BadDistance i) (i - k))) e ∙ ap (λ t. cond t (Got (i - d) end more) (Refused (BadDistance i))) (not_within d i (nat_le d i) refl h)

pub child_near : (i d at end : ℕ) (bits more : List Bool) → read_natural at bits ≡ Got d end more → d ≤ i → read_child i at bits ≡ Got (i - d) end more
child_near i d at end bits more e h =
    ap (λ r. then r (λ k. give_if (nat_le k i) (BadDistance i) (i - k))) e ∙ ap (λ t. cond t (Got (i - d) end more) (Refused (BadDistance i))) (le-leb d i h)

pub level_far : (i n at end : ℕ) (bits more : List Bool) → read_natural at bits ≡ Got n end more → 8 < n - 1 → read_level i at bits ≡ Refused (WordTooWide i)
level_far i n at end bits more e h =
    ap (λ r. then r (λ k. give_if (nat_le (k - 1) 8) (WordTooWide i) (k - 1))) e ∙ ap (λ t. cond t (Got (n - 1) end more) (Refused (WordTooWide i))) (not_within (n - 1) 8 (nat_le (n - 1) 8) refl h)

pub level_near : (i n at end : ℕ) (bits more : List Bool) → read_natural at bits ≡ Got n end more → n - 1 ≤ 8 → read_level i at bits ≡ Got (n - 1) end more
level_near i n at end bits more e h =
    ap (λ r. then r (λ k. give_if (nat_le (k - 1) 8) (WordTooWide i) (k - 1))) e ∙ ap (λ t. cond t (Got (n - 1) end more) (Refused (WordTooWide i))) (le-leb (n - 1) 8 h)

-- bytes, so many before
abbrev pub bytes_from : List ℕ → ℕ → Reading (List ℕ)
bytes_from done left at bits = then (read_bytes left at bits) (λ bs. give (done ++ bs))

pub bytes_start : (n at : ℕ) (bits : List Bool) → read_bytes n at bits ≡ bytes_from [] n at bits
bytes_start n at bits = sym (then_same (read_bytes n at bits) (λ bs. give bs) give (λ a at' bits'. refl) ∙ then_give (read_bytes n at bits))

pub byte_more : (done : List ℕ) (left b at end : ℕ) (bits more : List Bool) → number 8 at bits ≡ Got b end more → bytes_from done (suc left) at bits ≡ bytes_from (done ++ b ∷ []) left end more
byte_more done left b at end bits more e =
    ap (λ r. then (then r (λ b' at' bits'. then (read_bytes left at' bits') (λ bs'. give (b' ∷ bs')))) (λ bs. give (done ++ bs))) e
    ∙ then_then (read_bytes left end more) (λ bs'. give (b ∷ bs')) (λ bs. give (done ++ bs))
    ∙ then_same (read_bytes left end more) (λ bs. give (done ++ b ∷ bs)) (λ bs. give ((done ++ b ∷ []) ++ bs)) (λ a at' bits'. ap (λ l. Got l at' bits') (sym (append_assoc done (b ∷ []) a)))

pub byte_ends : (done : List ℕ) (left at : ℕ) (bits : List Bool) (r : Refusal) → number 8 at bits ≡ Refused r → bytes_from done (suc left) at bits ≡ Refused r
byte_ends done left at bits r e =
    ap (λ x. then (then x (λ b' at' bits'. then (read_bytes left at' bits') (λ bs'. give (b' ∷ bs')))) (λ bs. give (done ++ bs))) e

joined : (x : Bool) (p q r h l : ℕ) → r ≡ p * q → cond x r 0 + (h * q + l) ≡ (cond x p 0 + h) * q + l
joined true p q r h l e = rw e (omega (arith, add-mul p h q))
joined false p q r h l e = omega arith

-- a number in two parts
pub number_split : (a b at : ℕ) (bits : List Bool) → number (a + b) at bits ≡ then (number a at bits) (λ h at' bits'. then (number b at' bits') (λ l. give (h * 2 ^ b + l)))
number_split zero b at bits =
    let none : 0 + b ≡ b = omega arith in
    ap (λ k. number k at bits) none ∙ sym (then_same (number b at bits) (λ l. give (0 * 2 ^ b + l)) give (λ l at' bits'. ap (λ k. Got k at' bits') (omega arith)) ∙ then_give (number b at bits))
number_split (suc a) b at [] =
    let more : suc a + b ≡ suc (a + b) = omega arith in
    ap (λ k. number k at []) more
number_split (suc a) b at (x ∷ bits) =
    let more : suc a + b ≡ suc (a + b) = omega arith in
    ap (λ k. number k at (x ∷ bits)) more
    ∙ ap (λ r. then r (λ m. give (cond x (2 ^ (a + b)) 0 + m))) (number_split a b (suc at) bits)
    ∙ then_then (number a (suc at) bits) (λ h at' bits'. then (number b at' bits') (λ l. give (h * 2 ^ b + l))) (λ m. give (cond x (2 ^ (a + b)) 0 + m))
    ∙ then_same (number a (suc at) bits) (λ h at' bits'. then (then (number b at' bits') (λ l. give (h * 2 ^ b + l))) (λ m. give (cond x (2 ^ (a + b)) 0 + m)))
    (λ h at' bits'. then (number b at' bits') (λ l. give ((cond x (2 ^ a) 0 + h) * 2 ^ b + l)))
    (λ h at' bits'. then_then (number b at' bits') (λ l. give (h * 2 ^ b + l)) (λ m. give (cond x (2 ^ (a + b)) 0 + m))
    ∙ then_same (number b at' bits') (λ l. give (cond x (2 ^ (a + b)) 0 + (h * 2 ^ b + l))) (λ l. give ((cond x (2 ^ a) 0 + h) * 2 ^ b + l))
    (λ l at'' bits''. ap (λ k. Got k at'' bits'') (joined x (2 ^ a) (2 ^ b) (2 ^ (a + b)) h l (pow-add 2 a b))))
    ∙ sym (then_then (number a (suc at) bits) (λ m. give (cond x (2 ^ a) 0 + m)) (λ h at' bits'. then (number b at' bits') (λ l. give (h * 2 ^ b + l))))

-- room for one digit more
pub half_room : (width left half : ℕ) → half < 2 ^ (width - left) → 1 ≤ left → left ≤ width → width ≤ 128 → half * 2 + 1 < 2 ^ 128
half_room width left half h some near most =
    let up : suc (width - left) ≤ 128 = omega arith in
    let limit : 2 ^ suc (width - left) ≤ 2 ^ 128 = pow_mono up in
    let double : 2 ^ suc (width - left) ≡ 2 * 2 ^ (width - left) = pow-succ' 2 (width - left) in
    omega (arith, h, limit, double)

pub bit_below : (b : Bool) → from_bool b < 2
bit_below true = omega arith
bit_below false = omega arith

-- a `?` that ends a function: a reader's refusal, or one of the program
pub err_bits : {X A : Type 0} (view : X → A) (reading : Reading A) (result : Result X CodecRefusal) (old new : Place) (b : BitRefusal) →
    IsErr result × IsErrAnd result (λ e. e ≡ of_bits b) → reading old.at (rest old) ≡ Refused (place.cause b) → Gives view reading result old new
err_bits view reading (Ok x) old new b h e = absurd (cc)
err_bits view reading (Err c) old new b h e = subst (λ d. Refuses d (reading old.at (rest old))) (sym h.1) (refuses_bits (reading old.at (rest old)) b e)

pub err_codec : {X A : Type 0} (view : X → A) (reading : Reading A) (result : Result X CodecRefusal) (old new : Place) (d : CodecRefusal) →
    IsErr result × IsErrAnd result (λ e. e ≡ d) → Refuses d (reading old.at (rest old)) → Gives view reading result old new
err_codec view reading (Ok x) old new d h e = absurd (cc)
err_codec view reading (Err c) old new d h e = subst (λ k. Refuses k (reading old.at (rest old))) (sym h.1) e

-- a byte more, in a loop
pub fill_more : (n place b : ℕ) (bytes : List ℕ) (old mid new : Place) → place < n →
    (read_bytes n old.at (rest old) ≡ bytes_from (take place bytes) (n - place) mid.at (rest mid)) × (mid.bits ≡ old.bits) × (length bytes ≡ n) →
    number 8 mid.at (rest mid) ≡ Got b new.at (rest new) → new.bits ≡ mid.bits →
    (read_bytes n old.at (rest old) ≡ bytes_from (take (place + 1) (set bytes place b)) (n - (place + 1)) new.at (rest new)) × (new.bits ≡ old.bits) × (length (set bytes place b) ≡ n)
fill_more n place b bytes old mid new near h e same =
    let left : n - place ≡ suc (n - (place + 1)) = omega arith in (
      h.0 ∙ ap (λ k. bytes_from (take place bytes) k mid.at (rest mid)) left ∙ byte_more (take place bytes) (n - (place + 1)) b mid.at new.at (rest mid) (rest new) e
          ∙ ap (λ l. bytes_from l (n - (place + 1)) new.at (rest new)) (sym (take_more_set bytes place b (omega (arith, near, h.2)))),
      same ∙ h.1,
      length-set bytes place b ∙ h.2,
    )

pub fill_ends : (n place : ℕ) (bytes : List ℕ) (old mid : Place) (r : Refusal) → place < n →
    read_bytes n old.at (rest old) ≡ bytes_from (take place bytes) (n - place) mid.at (rest mid) → number 8 mid.at (rest mid) ≡ Refused r → read_bytes n old.at (rest old) ≡ Refused r
fill_ends n place bytes old mid r near h e =
    let left : n - place ≡ suc (n - (place + 1)) = omega arith in
    h ∙ ap (λ k. bytes_from (take place bytes) k mid.at (rest mid)) left ∙ byte_ends (take place bytes) (n - (place + 1)) mid.at (rest mid) r e

-- two parts of a number
pub split_low : (w at end : ℕ) (h : ℕ) (bits more : List Bool) → 128 ≤ w → number (w - 128) at bits ≡ Got h end more →
    number w at bits ≡ then (number 128 end more) (λ l. give (h * 2 ^ 128 + l))
split_low w at end h bits more wide e =
    let whole : w ≡ (w - 128) + 128 = omega arith in
    ap (λ k. number k at bits) whole ∙ number_split (w - 128) 128 at bits ∙ ap (λ r. then r (λ h' at' bits'. then (number 128 at' bits') (λ l. give (h' * 2 ^ 128 + l)))) e

pub split_ends : (w at : ℕ) (bits : List Bool) (e : CodecRefusal) → 128 ≤ w → Refuses e (number (w - 128) at bits) → Refuses e (number w at bits)
split_ends w at bits e wide h =
    let whole : w ≡ (w - 128) + 128 = omega arith in
    refuses_same e (number w at bits) (then (number (w - 128) at bits) (λ h' at' bits'. then (number 128 at' bits') (λ l. give (h' * 2 ^ 128 + l))))
    (ap (λ k. number k at bits) whole ∙ number_split (w - 128) 128 at bits)
    (refuses_then e (number (w - 128) at bits) (λ h' at' bits'. then (number 128 at' bits') (λ l. give (h' * 2 ^ 128 + l))) h)

-- a first child that is refused, whatever the code with children
pub parent_stops : (i start c at : ℕ) (bits : List Bool) (e : CodecRefusal) → ¬ (c ≡ 3) → Refuses e (read_child i at bits) → Refuses e (parent i start c at bits)
parent_stops i start zero at bits e n h = refuses_then e (read_child i at bits) (λ l at' bits'. one_child i (node.Comp l) at' bits') h
parent_stops i start (suc zero) at bits e n h = refuses_then e (read_child i at bits) (λ l at' bits'. one_child i (node.Case l) at' bits') h
parent_stops i start (suc (suc zero)) at bits e n h = refuses_then e (read_child i at bits) (λ l at' bits'. one_child i (node.Pair l) at' bits') h
parent_stops i start (suc (suc (suc zero))) at bits e n h = absurd (n refl)
parent_stops i start (suc (suc (suc (suc zero)))) at bits e n h = refuses_then e (read_child i at bits) (λ l. give (node.Injl l)) h
parent_stops i start (suc (suc (suc (suc (suc zero))))) at bits e n h = refuses_then e (read_child i at bits) (λ l. give (node.Injr l)) h
parent_stops i start (suc (suc (suc (suc (suc (suc zero)))))) at bits e n h = refuses_then e (read_child i at bits) (λ l. give (node.Take l)) h
parent_stops i start (suc (suc (suc (suc (suc (suc (suc more))))))) at bits e n h = refuses_then e (read_child i at bits) (λ l. give (node.Drop l)) h

-- a second child that is refused
pub two_stops : (i l at end : ℕ) (make : ℕ → ℕ → Node) (bits more : List Bool) (e : CodecRefusal) → read_child i at bits ≡ Got l end more → Refuses e (read_child i end more) →
    Refuses e (two_children i make at bits)
two_stops i l at end make bits more e got h =
    refuses_same e (two_children i make at bits) (one_child i (make l) end more) (one_left i l at end make bits more got) (refuses_then e (read_child i end more) (λ k. give (make l k)) h)

-- the width of a word by its level
pub width_is : (level : ℕ) → level ≤ 8 → (1 * 2 ^ level) % 65536 ≡ 2 ^ level
width_is zero h = refl
width_is (suc zero) h = refl
width_is (suc (suc zero)) h = refl
width_is (suc (suc (suc zero))) h = refl
width_is (suc (suc (suc (suc zero)))) h = refl
width_is (suc (suc (suc (suc (suc zero))))) h = refl
width_is (suc (suc (suc (suc (suc (suc zero)))))) h = refl
width_is (suc (suc (suc (suc (suc (suc (suc zero))))))) h = refl
width_is (suc (suc (suc (suc (suc (suc (suc (suc zero)))))))) h = refl
width_is (suc (suc (suc (suc (suc (suc (suc (suc (suc more))))))))) h = absurd (omega arith)

is_word_width : (level : ℕ) → level ≤ 8 → is_width (2 ^ level) ≡ true
is_word_width zero h = refl
is_word_width (suc zero) h = refl
is_word_width (suc (suc zero)) h = refl
is_word_width (suc (suc (suc zero))) h = refl
is_word_width (suc (suc (suc (suc zero)))) h = refl
is_word_width (suc (suc (suc (suc (suc zero))))) h = refl
is_word_width (suc (suc (suc (suc (suc (suc zero)))))) h = refl
is_word_width (suc (suc (suc (suc (suc (suc (suc zero))))))) h = refl
is_word_width (suc (suc (suc (suc (suc (suc (suc (suc zero)))))))) h = refl
is_word_width (suc (suc (suc (suc (suc (suc (suc (suc (suc more))))))))) h = absurd (omega arith)

level_is : (level : ℕ) → level ≤ 8 → level_of (2 ^ level) ≡ level
level_is zero h = refl
level_is (suc zero) h = refl
level_is (suc (suc zero)) h = refl
level_is (suc (suc (suc zero))) h = refl
level_is (suc (suc (suc (suc zero)))) h = refl
level_is (suc (suc (suc (suc (suc zero))))) h = refl
level_is (suc (suc (suc (suc (suc (suc zero)))))) h = refl
level_is (suc (suc (suc (suc (suc (suc (suc zero))))))) h = refl
level_is (suc (suc (suc (suc (suc (suc (suc (suc zero)))))))) h = refl
level_is (suc (suc (suc (suc (suc (suc (suc (suc (suc more))))))))) h = absurd (omega arith)

pub word_fits : (level x at end : ℕ) (bits more : List Bool) → level ≤ 8 → number ((1 * 2 ^ level) % 65536) at bits ≡ Got x end more →
    IsUnsigned (record { width = (1 * 2 ^ level) % 65536; number = x })
word_fits level x at end bits more h e =
    record { width = ap is_width (width_is level h) ∙ is_word_width level h; fits = (number_only ((1 * 2 ^ level) % 65536) at x end bits more e).0 }

pub word_read : (i level at mid x end : ℕ) (bits more rest' : List Bool) (word : Unsigned) → level ≤ 8 → read_level i at bits ≡ Got level mid more →
    number ((1 * 2 ^ level) % 65536) mid more ≡ Got x end rest' → word ≡ record { width = (1 * 2 ^ level) % 65536; number = x } →
    read_word i at bits ≡ Got (node.Word (level_of word.width) word.number) end rest'
word_read i level at mid x end bits more rest' word h e f is =
    let width : word.width ≡ 2 ^ level = ap (λ (u : Unsigned). u.width) is ∙ width_is level h in
    let same : level_of word.width ≡ level = ap level_of width ∙ level_is level h in
    let inside : number (2 ^ level) mid more ≡ Got x end rest' = ap (λ k. number k mid more) (sym (width_is level h)) ∙ f in
    ap (λ r. then r (λ k at' bits'. then (number (2 ^ k) at' bits') (λ n. give (node.Word k n)))) e
    ∙ ap (λ r. then r (λ n. give (node.Word level n))) inside
    ∙ ap (λ k. Got (node.Word k x) end rest') (sym same) ∙ ap (λ n. Got (node.Word (level_of word.width) n) end rest') (sym (ap (λ (u : Unsigned). u.number) is))

pub word_ends : (i level at mid : ℕ) (bits more : List Bool) (e : CodecRefusal) → level ≤ 8 → read_level i at bits ≡ Got level mid more →
    Refuses e (number ((1 * 2 ^ level) % 65536) mid more) → Refuses e (read_word i at bits)
word_ends i level at mid bits more e h got stops =
    refuses_same e (read_word i at bits) (then (number (2 ^ level) mid more) (λ n. give (node.Word level n)))
    (ap (λ r. then r (λ k at' bits'. then (number (2 ^ k) at' bits') (λ n. give (node.Word k n)))) got)
    (refuses_then e (number (2 ^ level) mid more) (λ n. give (node.Word level n)) (subst (λ k. Refuses e (number k mid more)) (width_is level h) stops))
