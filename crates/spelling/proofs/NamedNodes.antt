-- The refusals of a node while it is read, by its fields.
use Rattle.std.proofs.Common.{◌≡◌, refl, ap, sym, subst, ◌∙◌, ℕ, zero, suc, ◌+◌, ◌-◌, ◌*◌, ◌^◌, ◌<◌, ◌≤◌, ◌⊎◌, inl, inr, Bool, true, false, cond, nat_le, List, [], ◌∷◌, ◌++◌, length, arith, append_assoc, length-append, leb-true, leb-false, le-leb}
use Rattle.simplicity.specs.Nodes as node
use Rattle.simplicity.specs.Nodes.{Node}
use Rattle.simplicity.specs.Spelling.{number_bits, natural}
use Rattle.spelling.specs.Reading.{Read, Got, Refused, Refusal, EndOfBits, JetCode, Disconnect, Reserved, BadDistance, WordTooWide, Reading, then, give, give_if, number, read_natural, read_bytes, read_child, one_child, two_children, read_level, read_word, carried, read_node}
use Rattle.spelling.specs.Places.{IsOf}
use Rattle.spelling.specs.Refusals.{NaturalStops, ChildStops, DistanceStops, DistanceFar, IsOneCode, InjlCode, InjrCode, TakeCode, DropCode, IsTwoCode, CompCode, CaseCode, PairCode, code_width, NodeStops, CodeEnds, JetStands, DisconnectStands, ReservedStands, ChildRefused, LeftRefused, RightRefused, HiddenEnds, FailEnds, LevelRefused, LevelFar, WordEnds, RefusalsAreNamed}
use Rattle.spelling.proofs.Basics.{then_got, cond_got, got_apart}
use Rattle.spelling.proofs.Numbers.{number_only, natural_gets, natural_stands}
use Rattle.spelling.proofs.Nodes.{given, level_only}
use Rattle.spelling.proofs.Refusals.{then_refused, number_refused}
use Rattle.spelling.proofs.Named as natural
use Rattle.spelling.proofs.Named.{number_short}
use Rattle.spelling.proofs.Counted.{of_node}

-- a refusal of a test
test_refused : {A : Type 0} (t : Bool) (r otherwise : Refusal) (a : A) (at : ℕ) (bits : List Bool) → give_if t otherwise a at bits ≡ Refused r → (t ≡ false) × (r ≡ otherwise)
test_refused true r otherwise a at bits e = absurd (cc)
test_refused false r otherwise a at bits e = let same : otherwise ≡ r = cc in (refl, sym same)

-- a child
child_named : (i at : ℕ) (bits : List Bool) (r : Refusal) → read_child i at bits ≡ Refused r → ChildStops i at bits r
child_named i at bits r e =
    elim (then_refused (read_natural at bits) (λ d. give_if (nat_le d i) (BadDistance i) (i - d)) r e) [
      | inl g ↦ DistanceStops r (natural.named at bits r g)
      | inr g ↦ (let test = test_refused (nat_le g.0 i) r (BadDistance i) (i - g.0) g.1 g.2 g.4 in
          let stands = natural_stands g.0 at g.1 bits g.2 g.3 in
          subst (λ (x : Refusal). ChildStops i at bits x) (sym test.1) (DistanceFar g.0 g.2 stands.2 (leb-false g.0 i test.0) stands.1))
    ]

not_within : (d i : ℕ) (t : Bool) → nat_le d i ≡ t → i < d → nat_le d i ≡ false
not_within d i false e h = e
not_within d i true e h = let less : d ≤ i = leb-true d i e in absurd (omega (arith, less, h))

child_refused : (i at : ℕ) (bits : List Bool) (r : Refusal) → ChildStops i at bits r → read_child i at bits ≡ Refused r
child_refused i at bits r (DistanceStops _ h) = ap (λ x. then x (λ d. give_if (nat_le d i) (BadDistance i) (i - d))) (natural.gets at bits r h)
child_refused i at bits _ (DistanceFar d rest is far few) =
    ap (read_child i at) is
    ∙ ap (λ x. then x (λ d'. give_if (nat_le d' i) (BadDistance i) (i - d'))) (natural_gets d at rest (omega arith) few)
    ∙ ap (λ t. cond t (Got (i - d) (at + length (natural d)) rest) (Refused (BadDistance i))) (not_within d i (nat_le d i) refl far)

child_got : (i d at : ℕ) (rest : List Bool) → 0 < d → d ≤ i → d < 2 ^ 32 → read_child i at (natural d ++ rest) ≡ Got (i - d) (at + length (natural d)) rest
child_got i d at rest some near few =
    ap (λ x. then x (λ d'. give_if (nat_le d' i) (BadDistance i) (i - d'))) (natural_gets d at rest some few)
    ∙ ap (λ t. cond t (Got (i - d) (at + length (natural d)) rest) (Refused (BadDistance i))) (le-leb d i near)

one_named : (i at : ℕ) (make : ℕ → Node) (bits : List Bool) (r : Refusal) → one_child i make at bits ≡ Refused r → ChildStops i at bits r
one_named i at make bits r e =
    elim (then_refused (read_child i at bits) (λ l. give (make l)) r e) [
      | inl g ↦ child_named i at bits r g
      | inr g ↦ (let clash : Got (make g.0) g.1 g.2 ≡ Refused r = g.4 in absurd (cc))
    ]

-- the second of two children, behind the first
record Second (i at : ℕ) (bits : List Bool) (r : Refusal) : Type 0 where
  distance : ℕ
  rest : List Bool
  some : 0 < distance
  near : distance ≤ i
  few : distance < 2 ^ 32
  is : bits ≡ natural distance ++ rest
  stops : ChildStops i (at + length (natural distance)) rest r

two_named : (i at : ℕ) (make : ℕ → ℕ → Node) (bits : List Bool) (r : Refusal) → two_children i make at bits ≡ Refused r → ChildStops i at bits r ⊎ Second i at bits r
two_named i at make bits r e =
    elim (then_refused (read_child i at bits) (λ l at' bits'. one_child i (make l) at' bits') r e) [
      | inl g ↦ inl (child_named i at bits r g)
      | inr g ↦ (let got = then_got (read_natural at bits) (λ d. give_if (nat_le d i) (BadDistance i) (i - d)) g.0 g.1 g.2 g.3 in
          let test = given (nat_le got.0 i) (BadDistance i) (i - got.0) g.0 got.1 g.1 got.2 g.2 got.4 in
          let stands = natural_stands got.0 at got.1 bits got.2 got.3 in
          let place : g.1 ≡ at + length (natural got.0) = sym test.2 ∙ stands.3 in
          inr (record {
            distance = got.0;
            rest = g.2;
            some = stands.0;
            near = leb-true got.0 i test.0;
            few = stands.1;
            is = stands.2 ∙ ap (λ l. natural got.0 ++ l) test.3;
            stops = subst (λ (k : ℕ). ChildStops i k g.2 r) place (one_named i g.1 (make g.0) g.2 r g.4);
          }))
    ]

-- bytes
bytes_short : (n at : ℕ) (bits : List Bool) (r : Refusal) → read_bytes n at bits ≡ Refused r → (length bits < 8 * n) × (r ≡ EndOfBits (at + length bits))
bytes_short zero at bits r e = absurd (cc)
bytes_short (suc n) at bits r e =
    elim (then_refused (number 8 at bits) (λ b at' bits'. then (read_bytes n at' bits') (λ bs. give (b ∷ bs))) r e) [
      | inl g ↦ (let less = number_short 8 at bits r g in (omega (arith, less), number_refused 8 at bits r g))
      | inr g ↦ elim (then_refused (read_bytes n g.1 g.2) (λ bs. give (g.0 ∷ bs)) r g.4) [
        | inl k ↦ (let inner = bytes_short n g.1 g.2 r k in
            let stands = number_only 8 at g.0 g.1 bits g.2 g.3 in
            let long : length bits ≡ 8 + length g.2 = ap length stands.1 ∙ length-append (number_bits 8 g.0) g.2 in
            (omega (arith, inner.0, long), inner.1 ∙ ap EndOfBits (omega (arith, long, stands.2))))
        | inr k ↦ (let clash : Got (g.0 ∷ k.0) k.1 k.2 ≡ Refused r = k.4 in absurd (cc))
      ]
    ]

carried_short : (n at : ℕ) (make : List ℕ → Node) (bits : List Bool) (r : Refusal) → carried n make at bits ≡ Refused r → (length bits < 8 * n) × (r ≡ EndOfBits (at + length bits))
carried_short n at make bits r e =
    elim (then_refused (read_bytes n at bits) (λ bs. give (make bs)) r e) [
      | inl g ↦ bytes_short n at bits r g
      | inr g ↦ (let clash : Got (make g.0) g.1 g.2 ≡ Refused r = g.4 in absurd (cc))
    ]

number_ends : (n at : ℕ) (bits : List Bool) → length bits < n → number n at bits ≡ Refused (EndOfBits (at + length bits))
number_ends zero at bits h = absurd (omega arith)
number_ends (suc n) at [] h = ap (λ k. Refused (EndOfBits k)) (omega arith)
number_ends (suc n) at (b ∷ bits) h =
    ap (λ r. then r (λ m. give (cond b (2 ^ n) 0 + m))) (number_ends n (suc at) bits (omega arith)) ∙ ap (λ k. Refused (EndOfBits k)) (omega arith)

bytes_end_by : (n at : ℕ) (bits : List Bool) (x : Read ℕ) → ((at' : ℕ) (bits' : List Bool) → length bits' < 8 * n → read_bytes n at' bits' ≡ Refused (EndOfBits (at' + length bits'))) →
    number 8 at bits ≡ x → length bits < 8 * suc n → then x (λ b at' bits'. then (read_bytes n at' bits') (λ bs. give (b ∷ bs))) ≡ Refused (EndOfBits (at + length bits))
bytes_end_by n at bits (Refused r) more e h = ap Refused (number_refused 8 at bits r e)
bytes_end_by n at bits (Got b end rest) more e h =
    let stands = number_only 8 at b end bits rest e in
    let long : length bits ≡ 8 + length rest = ap length stands.1 ∙ length-append (number_bits 8 b) rest in
    ap (λ x. then x (λ bs. give (b ∷ bs))) (more end rest (omega (arith, h, long))) ∙ ap (λ k. Refused (EndOfBits k)) (omega (arith, long, stands.2))

bytes_end : (n at : ℕ) (bits : List Bool) → length bits < 8 * n → read_bytes n at bits ≡ Refused (EndOfBits (at + length bits))
bytes_end zero at bits h = absurd (omega arith)
bytes_end (suc n) at bits h = bytes_end_by n at bits (number 8 at bits) (λ at' bits' h'. bytes_end n at' bits' h') refl h

-- where the bits end in a node, they are all read
ends_last : (i at : ℕ) (bits : List Bool) (e : ℕ) → read_node i at bits ≡ Refused (EndOfBits e) → e ≡ at + length bits
ends_last i at bits e h = subst (λ x. IsOf (at + length bits) x) h (of_node i at (at + length bits) bits refl)

-- a word
word_named : (i at : ℕ) (bits : List Bool) (r : Refusal) → read_word i (at + 2) bits ≡ Refused r → (whole : read_node i at (true ∷ false ∷ bits) ≡ Refused r) → NodeStops i at (true ∷ false ∷ bits) r
word_named i at bits r e whole =
    elim (then_refused (read_level i (at + 2) bits) (λ k at' bits'. then (number (2 ^ k) at' bits') (λ n. give (node.Word k n))) r e) [
      | inl g ↦ elim (then_refused (read_natural (at + 2) bits) (λ n. give_if (nat_le (n - 1) 8) (WordTooWide i) (n - 1)) r g) [
        | inl k ↦ LevelRefused bits r refl (natural.named (at + 2) bits r k)
        | inr k ↦ (let test = test_refused (nat_le (k.0 - 1) 8) r (WordTooWide i) (k.0 - 1) k.1 k.2 k.4 in
            let stands = natural_stands k.0 (at + 2) k.1 bits k.2 k.3 in
            let far : 8 < k.0 - 1 = leb-false (k.0 - 1) 8 test.0 in
            subst (λ (x : Refusal). NodeStops i at (true ∷ false ∷ bits) x) (sym test.1) (LevelFar k.0 k.2 (ap (λ l. true ∷ false ∷ l) stands.2) (omega (arith, far)) stands.1))
      ]
      | inr g ↦ elim (then_refused (number (2 ^ g.0) g.1 g.2) (λ n. give (node.Word g.0 n)) r g.4) [
        | inl k ↦ (let level = level_only i g.0 (at + 2) g.1 bits g.2 g.3 in
            let short = number_short (2 ^ g.0) g.1 g.2 r k in
            let is : r ≡ EndOfBits (g.1 + length g.2) = number_refused (2 ^ g.0) g.1 g.2 r k in
            let last = ends_last i at (true ∷ false ∷ bits) (g.1 + length g.2) (whole ∙ ap Refused is) in
            subst (λ (x : Refusal). NodeStops i at (true ∷ false ∷ bits) x) (sym (is ∙ ap EndOfBits last)) (WordEnds g.0 g.2 (ap (λ l. true ∷ false ∷ l) level.1) level.0 short))
        | inr k ↦ (let clash : Got (node.Word g.0 k.0) k.1 k.2 ≡ Refused r = k.4 in absurd (cc))
      ]
    ]

pub node_named : (i at : ℕ) (bits : List Bool) (r : Refusal) → read_node i at bits ≡ Refused r → NodeStops i at bits r
node_named i at (false ∷ false ∷ false ∷ false ∷ false ∷ bits) r e =
    elim (two_named i (at + 5) node.Comp bits r e) [
      | inl g ↦ LeftRefused 0 bits r CompCode refl g
      | inr g ↦ RightRefused 0 g.distance g.rest r CompCode g.some g.near g.few (ap (λ l. false ∷ false ∷ false ∷ false ∷ false ∷ l) g.is) g.stops
    ]
node_named i at (false ∷ false ∷ false ∷ false ∷ true ∷ bits) r e =
    elim (two_named i (at + 5) node.Case bits r e) [
      | inl g ↦ LeftRefused 1 bits r CaseCode refl g
      | inr g ↦ RightRefused 1 g.distance g.rest r CaseCode g.some g.near g.few (ap (λ l. false ∷ false ∷ false ∷ false ∷ true ∷ l) g.is) g.stops
    ]
node_named i at (false ∷ false ∷ false ∷ true ∷ false ∷ bits) r e =
    elim (two_named i (at + 5) node.Pair bits r e) [
      | inl g ↦ LeftRefused 2 bits r PairCode refl g
      | inr g ↦ RightRefused 2 g.distance g.rest r PairCode g.some g.near g.few (ap (λ l. false ∷ false ∷ false ∷ true ∷ false ∷ l) g.is) g.stops
    ]
node_named i at (false ∷ false ∷ false ∷ true ∷ true ∷ bits) r e = let same : Disconnect at ≡ r = cc in subst (λ (x : Refusal). NodeStops i at (false ∷ false ∷ false ∷ true ∷ true ∷ bits) x) same (DisconnectStands bits refl)
node_named i at (false ∷ false ∷ true ∷ false ∷ false ∷ bits) r e = ChildRefused 4 bits r InjlCode refl (one_named i (at + 5) node.Injl bits r e)
node_named i at (false ∷ false ∷ true ∷ false ∷ true ∷ bits) r e = ChildRefused 5 bits r InjrCode refl (one_named i (at + 5) node.Injr bits r e)
node_named i at (false ∷ false ∷ true ∷ true ∷ false ∷ bits) r e = ChildRefused 6 bits r TakeCode refl (one_named i (at + 5) node.Take bits r e)
node_named i at (false ∷ false ∷ true ∷ true ∷ true ∷ bits) r e = ChildRefused 7 bits r DropCode refl (one_named i (at + 5) node.Drop bits r e)
node_named i at (false ∷ true ∷ false ∷ false ∷ false ∷ bits) r e = absurd (cc)
node_named i at (false ∷ true ∷ false ∷ false ∷ true ∷ bits) r e = absurd (cc)
node_named i at (false ∷ true ∷ false ∷ true ∷ false ∷ bits) r e =
    let short = carried_short 64 (at + 5) node.Fail bits r e in
    subst (λ (x : Refusal). NodeStops i at (false ∷ true ∷ false ∷ true ∷ false ∷ bits) x) (sym (short.1 ∙ ap EndOfBits (omega arith))) (FailEnds bits refl short.0)
node_named i at (false ∷ true ∷ false ∷ true ∷ true ∷ bits) r e = let same : Reserved at ≡ r = cc in subst (λ (x : Refusal). NodeStops i at (false ∷ true ∷ false ∷ true ∷ true ∷ bits) x) same (ReservedStands bits refl)
node_named i at (false ∷ true ∷ true ∷ false ∷ bits) r e =
    let short = carried_short 32 (at + 4) node.Hidden bits r e in
    subst (λ (x : Refusal). NodeStops i at (false ∷ true ∷ true ∷ false ∷ bits) x) (sym (short.1 ∙ ap EndOfBits (omega arith))) (HiddenEnds bits refl short.0)
node_named i at (false ∷ true ∷ true ∷ true ∷ bits) r e = absurd (cc)
node_named i at (true ∷ false ∷ bits) r e = word_named i at bits r e e
node_named i at (true ∷ true ∷ bits) r e = let same : JetCode at ≡ r = cc in subst (λ (x : Refusal). NodeStops i at (true ∷ true ∷ bits) x) same (JetStands bits refl)
node_named i at [] r e = let same : EndOfBits (at + 0) ≡ r = cc in subst (λ (x : Refusal). NodeStops i at [] x) same (CodeEnds (omega arith))
node_named i at (true ∷ []) r e = let same : EndOfBits (at + 1) ≡ r = cc in subst (λ (x : Refusal). NodeStops i at (true ∷ []) x) same (CodeEnds (omega arith))
node_named i at (false ∷ []) r e = let same : EndOfBits (at + 1) ≡ r = cc in subst (λ (x : Refusal). NodeStops i at (false ∷ []) x) same (CodeEnds (omega arith))
node_named i at (false ∷ false ∷ []) r e = let same : EndOfBits (at + 2) ≡ r = cc in subst (λ (x : Refusal). NodeStops i at (false ∷ false ∷ []) x) same (CodeEnds (omega arith))
node_named i at (false ∷ true ∷ []) r e = let same : EndOfBits (at + 2) ≡ r = cc in subst (λ (x : Refusal). NodeStops i at (false ∷ true ∷ []) x) same (CodeEnds (omega arith))
node_named i at (false ∷ true ∷ true ∷ []) r e = let same : EndOfBits (at + 3) ≡ r = cc in subst (λ (x : Refusal). NodeStops i at (false ∷ true ∷ true ∷ []) x) same (CodeEnds (omega arith))
node_named i at (false ∷ false ∷ false ∷ []) r e = let same : EndOfBits (at + 3) ≡ r = cc in subst (λ (x : Refusal). NodeStops i at (false ∷ false ∷ false ∷ []) x) same (CodeEnds (omega arith))
node_named i at (false ∷ false ∷ true ∷ []) r e = let same : EndOfBits (at + 3) ≡ r = cc in subst (λ (x : Refusal). NodeStops i at (false ∷ false ∷ true ∷ []) x) same (CodeEnds (omega arith))
node_named i at (false ∷ true ∷ false ∷ []) r e = let same : EndOfBits (at + 3) ≡ r = cc in subst (λ (x : Refusal). NodeStops i at (false ∷ true ∷ false ∷ []) x) same (CodeEnds (omega arith))
node_named i at (false ∷ false ∷ false ∷ false ∷ []) r e = let same : EndOfBits (at + 4) ≡ r = cc in subst (λ (x : Refusal). NodeStops i at (false ∷ false ∷ false ∷ false ∷ []) x) same (CodeEnds (omega arith))
node_named i at (false ∷ false ∷ false ∷ true ∷ []) r e = let same : EndOfBits (at + 4) ≡ r = cc in subst (λ (x : Refusal). NodeStops i at (false ∷ false ∷ false ∷ true ∷ []) x) same (CodeEnds (omega arith))
node_named i at (false ∷ false ∷ true ∷ false ∷ []) r e = let same : EndOfBits (at + 4) ≡ r = cc in subst (λ (x : Refusal). NodeStops i at (false ∷ false ∷ true ∷ false ∷ []) x) same (CodeEnds (omega arith))
node_named i at (false ∷ false ∷ true ∷ true ∷ []) r e = let same : EndOfBits (at + 4) ≡ r = cc in subst (λ (x : Refusal). NodeStops i at (false ∷ false ∷ true ∷ true ∷ []) x) same (CodeEnds (omega arith))
node_named i at (false ∷ true ∷ false ∷ false ∷ []) r e = let same : EndOfBits (at + 4) ≡ r = cc in subst (λ (x : Refusal). NodeStops i at (false ∷ true ∷ false ∷ false ∷ []) x) same (CodeEnds (omega arith))
node_named i at (false ∷ true ∷ false ∷ true ∷ []) r e = let same : EndOfBits (at + 4) ≡ r = cc in subst (λ (x : Refusal). NodeStops i at (false ∷ true ∷ false ∷ true ∷ []) x) same (CodeEnds (omega arith))

-- a code that ends early
code_ends : (i at : ℕ) (bits : List Bool) → length bits < code_width bits → read_node i at bits ≡ Refused (EndOfBits (at + length bits))
code_ends i at (false ∷ false ∷ false ∷ false ∷ false ∷ bits) h = absurd (omega arith)
code_ends i at (false ∷ false ∷ false ∷ false ∷ true ∷ bits) h = absurd (omega arith)
code_ends i at (false ∷ false ∷ false ∷ true ∷ false ∷ bits) h = absurd (omega arith)
code_ends i at (false ∷ false ∷ false ∷ true ∷ true ∷ bits) h = absurd (omega arith)
code_ends i at (false ∷ false ∷ true ∷ false ∷ false ∷ bits) h = absurd (omega arith)
code_ends i at (false ∷ false ∷ true ∷ false ∷ true ∷ bits) h = absurd (omega arith)
code_ends i at (false ∷ false ∷ true ∷ true ∷ false ∷ bits) h = absurd (omega arith)
code_ends i at (false ∷ false ∷ true ∷ true ∷ true ∷ bits) h = absurd (omega arith)
code_ends i at (false ∷ true ∷ false ∷ false ∷ false ∷ bits) h = absurd (omega arith)
code_ends i at (false ∷ true ∷ false ∷ false ∷ true ∷ bits) h = absurd (omega arith)
code_ends i at (false ∷ true ∷ false ∷ true ∷ false ∷ bits) h = absurd (omega arith)
code_ends i at (false ∷ true ∷ false ∷ true ∷ true ∷ bits) h = absurd (omega arith)
code_ends i at (false ∷ true ∷ true ∷ false ∷ bits) h = absurd (omega arith)
code_ends i at (false ∷ true ∷ true ∷ true ∷ bits) h = absurd (omega arith)
code_ends i at (true ∷ false ∷ bits) h = absurd (omega arith)
code_ends i at (true ∷ true ∷ bits) h = absurd (omega arith)
code_ends i at [] h = refl
code_ends i at (true ∷ []) h = refl
code_ends i at (false ∷ []) h = refl
code_ends i at (false ∷ false ∷ []) h = refl
code_ends i at (false ∷ true ∷ []) h = refl
code_ends i at (false ∷ true ∷ true ∷ []) h = refl
code_ends i at (false ∷ false ∷ false ∷ []) h = refl
code_ends i at (false ∷ false ∷ true ∷ []) h = refl
code_ends i at (false ∷ true ∷ false ∷ []) h = refl
code_ends i at (false ∷ false ∷ false ∷ false ∷ []) h = refl
code_ends i at (false ∷ false ∷ false ∷ true ∷ []) h = refl
code_ends i at (false ∷ false ∷ true ∷ false ∷ []) h = refl
code_ends i at (false ∷ false ∷ true ∷ true ∷ []) h = refl
code_ends i at (false ∷ true ∷ false ∷ false ∷ []) h = refl
code_ends i at (false ∷ true ∷ false ∷ true ∷ []) h = refl

one_of : (i at c : ℕ) (rest : List Bool) (r : Refusal) → IsOneCode c → read_child i (at + 5) rest ≡ Refused r → read_node i at (number_bits 5 c ++ rest) ≡ Refused r
one_of i at _ rest r InjlCode e = ap (λ x. then x (λ l. give (node.Injl l))) e
one_of i at _ rest r InjrCode e = ap (λ x. then x (λ l. give (node.Injr l))) e
one_of i at _ rest r TakeCode e = ap (λ x. then x (λ l. give (node.Take l))) e
one_of i at _ rest r DropCode e = ap (λ x. then x (λ l. give (node.Drop l))) e

left_of : (i at c : ℕ) (rest : List Bool) (r : Refusal) → IsTwoCode c → read_child i (at + 5) rest ≡ Refused r → read_node i at (number_bits 5 c ++ rest) ≡ Refused r
left_of i at _ rest r CompCode e = ap (λ x. then x (λ l at' bits'. one_child i (node.Comp l) at' bits')) e
left_of i at _ rest r CaseCode e = ap (λ x. then x (λ l at' bits'. one_child i (node.Case l) at' bits')) e
left_of i at _ rest r PairCode e = ap (λ x. then x (λ l at' bits'. one_child i (node.Pair l) at' bits')) e

right_of : (i at c l end : ℕ) (bits rest : List Bool) (r : Refusal) → IsTwoCode c → read_child i (at + 5) bits ≡ Got l end rest → read_child i end rest ≡ Refused r →
    read_node i at (number_bits 5 c ++ bits) ≡ Refused r
right_of i at _ l end bits rest r CompCode e f = ap (λ x. then x (λ l' at' bits'. one_child i (node.Comp l') at' bits')) e ∙ ap (λ x. then x (λ k. give (node.Comp l k))) f
right_of i at _ l end bits rest r CaseCode e f = ap (λ x. then x (λ l' at' bits'. one_child i (node.Case l') at' bits')) e ∙ ap (λ x. then x (λ k. give (node.Case l k))) f
right_of i at _ l end bits rest r PairCode e f = ap (λ x. then x (λ l' at' bits'. one_child i (node.Pair l') at' bits')) e ∙ ap (λ x. then x (λ k. give (node.Pair l k))) f

level_of : (i k at : ℕ) (rest : List Bool) → k ≤ 8 → read_level i at (natural (k + 1) ++ rest) ≡ Got k (at + length (natural (k + 1))) rest
level_of i k at rest h =
    let back : (k + 1) - 1 ≡ k = omega arith in
    ap (λ x. then x (λ n. give_if (nat_le (n - 1) 8) (WordTooWide i) (n - 1))) (natural_gets (k + 1) at rest (omega arith) (omega arith))
    ∙ ap (λ t. cond t (Got ((k + 1) - 1) (at + length (natural (k + 1))) rest) (Refused (WordTooWide i))) (le-leb ((k + 1) - 1) 8 (omega arith))
    ∙ ap (λ j. Got j (at + length (natural (k + 1))) rest) back

pub node_refused : (i at : ℕ) (bits : List Bool) (r : Refusal) → NodeStops i at bits r → read_node i at bits ≡ Refused r
node_refused i at bits _ (CodeEnds h) = code_ends i at bits h
node_refused i at bits _ (JetStands rest is) = ap (read_node i at) is
node_refused i at bits _ (DisconnectStands rest is) = ap (read_node i at) is
node_refused i at bits _ (ReservedStands rest is) = ap (read_node i at) is
node_refused i at bits r (ChildRefused c rest _ code is h) = ap (read_node i at) is ∙ one_of i at c rest r code (child_refused i (at + 5) rest r h)
node_refused i at bits r (LeftRefused c rest _ code is h) = ap (read_node i at) is ∙ left_of i at c rest r code (child_refused i (at + 5) rest r h)
node_refused i at bits r (RightRefused c d rest _ code some near few is h) =
    ap (read_node i at) is
    ∙ right_of i at c (i - d) (at + 5 + length (natural d)) (natural d ++ rest) rest r code (child_got i d (at + 5) rest some near few) (child_refused i (at + 5 + length (natural d)) rest r h)
node_refused i at bits _ (HiddenEnds rest is short) =
    let long : length bits ≡ 4 + length rest = ap length is ∙ length-append (number_bits 4 6) rest in
    ap (read_node i at) is ∙ ap (λ x. then x (λ bs. give (node.Hidden bs))) (bytes_end 32 (at + 4) rest short) ∙ ap (λ k. Refused (EndOfBits k)) (omega (arith, long))
node_refused i at bits _ (FailEnds rest is short) =
    let long : length bits ≡ 5 + length rest = ap length is ∙ length-append (number_bits 5 10) rest in
    ap (read_node i at) is ∙ ap (λ x. then x (λ bs. give (node.Fail bs))) (bytes_end 64 (at + 5) rest short) ∙ ap (λ k. Refused (EndOfBits k)) (omega (arith, long))
node_refused i at bits r (LevelRefused rest _ is h) =
    ap (read_node i at) is ∙ ap (λ x. then (then x (λ n. give_if (nat_le (n - 1) 8) (WordTooWide i) (n - 1))) (λ k at' bits'. then (number (2 ^ k) at' bits') (λ n. give (node.Word k n)))) (natural.gets (at + 2) rest r h)
node_refused i at bits _ (LevelFar n rest is far few) =
    ap (read_node i at) is
    ∙ ap (λ x. then (then x (λ n'. give_if (nat_le (n' - 1) 8) (WordTooWide i) (n' - 1))) (λ k at' bits'. then (number (2 ^ k) at' bits') (λ n'. give (node.Word k n')))) (natural_gets n (at + 2) rest (omega arith) few)
    ∙ ap (λ t. then (cond t (Got (n - 1) (at + 2 + length (natural n)) rest) (Refused (WordTooWide i))) (λ k at' bits'. then (number (2 ^ k) at' bits') (λ n'. give (node.Word k n'))))
    (not_within (n - 1) 8 (nat_le (n - 1) 8) refl (omega arith))
node_refused i at bits _ (WordEnds k rest is near short) =
    let long : length bits ≡ 2 + length (natural (k + 1)) + length rest =
    ap length is ∙ length-append (number_bits 2 2) (natural (k + 1) ++ rest) ∙ ap (λ j. 2 + j) (length-append (natural (k + 1)) rest) ∙ omega arith in
    ap (read_node i at) is
    ∙ ap (λ x. then x (λ k' at' bits'. then (number (2 ^ k') at' bits') (λ n. give (node.Word k' n)))) (level_of i k (at + 2) rest near)
    ∙ ap (λ x. then x (λ n. give (node.Word k n))) (number_ends (2 ^ k) (at + 2 + length (natural (k + 1))) rest short)
    ∙ ap (λ j. Refused (EndOfBits j)) (omega (arith, long))

pub refusals_are_named : RefusalsAreNamed
refusals_are_named = record { natural_only = natural.named; natural_gets = natural.gets; node_only = node_named; node_gets = node_refused }
