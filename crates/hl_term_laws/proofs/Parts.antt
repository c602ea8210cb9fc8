-- Parts of a tuple: their terms together are the term of the tuple.
use Rattle.std.proofs.Common.{◌≡◌, Bool, true, false, ◌||◌, List, [], ◌∷◌, length, map, Option, Some, None, refl, sym, ap, ◌∙◌, subst}
use Rattle.hl_data.specs.declared.value.HlValue.{HlValue}
use Rattle.hl_syntax.specs.declared.kinds.HlType.{HlType}
use Rattle.hl_syntax.specs.declared.kinds.TypedName.{TypedName}
use Rattle.hl_meaning.specs.Answer.{Answer, gives, fails, stuck, and_then}
use Rattle.hl_meaning.specs.Mean.{Meaning, all_in}
use Rattle.hl_meaning.specs.Scopes.{Binding}
use Rattle.hl_meaning.specs.Values.{encoded, at_each, beside}
use Rattle.simplicity.specs.Canon.{Declared, erased}
use Rattle.simplicity.specs.Terms as bare
use Rattle.simplicity.specs.Terms.{meaning, paired}
use Rattle.simplicity.specs.Tuples.{halves, tuple_value, tuple_kind}
use Rattle.simplicity.specs.Types.{Kind, One, Product, Value, UnitValue, Pair}
use Rattle.simplicityhl.specs.Kinds.{form}
use Rattle.simplicity.specs.Arrows.{IsTypedTerm}
use Rattle.simplicity.specs.Arrows as row
use Rattle.hl_term_laws.specs.Renders.{Computes, Scoped, Renders, AreGiven}
use Rattle.simplicity.specs.Arrows.{source, target}
use Rattle.simplicity.specs.Makes.{unit, pair, tuple}
use Rattle.hl_terms.specs.Shapes.{Shape, kind_of}
use Rattle.simplicity.proofs.Arrows.{typed_pair}
use Rattle.simplicity.proofs.Tuples.{halves_map, halves_right, from_right}

-- answers of several parts

abbrev pub is_none : Option Value → Bool
is_none None = true
is_none (Some v) = false

abbrev pub any_none : List (Option Value) → Bool
any_none os = from_right false ◌||◌ (map is_none os)

pub record EncodesAll (vs : List HlValue) (ks : List HlType) (os : List (Option Value)) : Type 0 where
  pub cores : List Value
  pub encodes : at_each (map encoded vs) ks ≡ Some cores
  pub are : os ≡ map Some cores

abbrev pub ComputesAll : List HlType → Answer (List HlValue) → List (Option Value) → Type 0
ComputesAll ks (gives vs) os = EncodesAll vs ks os
ComputesAll ks fails os = any_none os ≡ true
ComputesAll ks stuck os = Unit {0}

and_computes : (k : HlType) (ks : List HlType) (a : Answer HlValue) (d : Option Value) (b : Answer (List HlValue)) (os : List (Option Value)) → Computes k a d → ComputesAll ks b os →
    ComputesAll (k ∷ ks) (and_then a (λ v. and_then b (λ vs. gives (v ∷ vs)))) (d ∷ os)
and_computes k ks (gives v) d (gives vs) os e f = record {
  cores = e.core ∷ f.cores;
  encodes = ap (λ o. beside (λ c cs. c ∷ cs) o (at_each (map encoded vs) ks)) e.encodes ∙ ap (beside (λ c cs. c ∷ cs) (Some e.core)) f.encodes;
  are = ap (λ o. o ∷ os) e.is ∙ ap (λ l. Some e.core ∷ l) f.are;
}
and_computes k ks (gives v) d fails os e f = rw (e.is, f) refl
and_computes k ks (gives v) d stuck os e f = tt
and_computes k ks fails d b os e f = rw e refl
and_computes k ks stuck d b os e f = tt

-- an answer beside whether some part of it fails
record Flagged : Type 0 where
  answer : Option Value
  flag : Bool
  law : flag ≡ true → answer ≡ None

both_none : (a b : Option Value) (f g : Bool) → (f ≡ true → a ≡ None) → (g ≡ true → b ≡ None) → (f || g) ≡ true → paired a b ≡ None
both_none a b true g h k e = rw (h refl) refl
both_none None b false g h k e = refl
both_none (Some v) b false g h k e = rw (k e) refl

none_is : (o : Option Value) → is_none o ≡ true → o ≡ None
none_is None e = refl
none_is (Some v) e = absurd (cc)

abbrev flagged : Option Value → Flagged
flagged o = record { answer = o; flag = is_none o; law = none_is o }

abbrev both_flagged : Flagged → Flagged → Flagged
both_flagged a b = record { answer = paired a.answer b.answer; flag = a.flag || b.flag; law = both_none a.answer b.answer a.flag b.flag a.law b.law }

pub or_assoc : (a b c : Bool) → ((a || b) || c) ≡ (a || (b || c))
or_assoc true b c = refl
or_assoc false b c = refl

or_false : (a : Bool) → (a || false) ≡ a
or_false true = refl
or_false false = refl

answers_of : (os : List (Option Value)) → map (λ (a : Flagged). a.answer) (map flagged os) ≡ os
answers_of [] = refl
answers_of (o ∷ os) = ap (λ l. o ∷ l) (answers_of os)

flags_of : (os : List (Option Value)) → map (λ (a : Flagged). a.flag) (map flagged os) ≡ map is_none os
flags_of [] = refl
flags_of (o ∷ os) = ap (λ l. is_none o ∷ l) (flags_of os)

no_flag_law : false ≡ true → Some UnitValue ≡ None
no_flag_law e = absurd (cc)

abbrev no_flag : Flagged
no_flag = record { answer = Some UnitValue; flag = false; law = no_flag_law }

abbrev pub answer_tuple : List (Option Value) → Option Value
answer_tuple os = halves (length os) (Some UnitValue) paired os

pub none_fails : (os : List (Option Value)) → any_none os ≡ true → answer_tuple os ≡ None
none_fails os e =
    let fs = map flagged os in
    let whole = halves (length fs) no_flag both_flagged fs in
    let a : whole.answer ≡ answer_tuple os = halves_map (λ (a : Flagged). a.answer) no_flag both_flagged (Some UnitValue) paired refl (λ a b. refl) fs ∙ ap answer_tuple (answers_of os) in
    let f : whole.flag ≡ any_none os = halves_map (λ (a : Flagged). a.flag) no_flag both_flagged false ◌||◌ refl (λ a b. refl) fs ∙ ap (λ l. halves (length l) false ◌||◌ l) (flags_of os) ∙ halves_right false ◌||◌ or_assoc (λ a. refl) or_false (map is_none os) in
    sym a ∙ whole.law (f ∙ e)

pub all_some : (cs : List Value) → answer_tuple (map Some cs) ≡ Some (tuple_value cs)
all_some cs = sym (halves_map Some UnitValue Pair (Some UnitValue) paired refl (λ a b. refl) cs)

-- what comes of all the parts
pub all_then : (ks : List HlType) (k : HlType) (r : Answer (List HlValue)) (os : List (Option Value)) (next : List HlValue → Answer HlValue) (run : Value → Option Value) → ComputesAll ks r os →
    ((vs : List HlValue) (cs : List Value) → at_each (map encoded vs) ks ≡ Some cs → Computes k (next vs) (run (tuple_value cs))) → Computes k (and_then r next) (bare.and_then (answer_tuple os) run)
all_then ks k (gives vs) os next run e h = rw (ap answer_tuple e.are ∙ all_some e.cores) (h vs e.cores e.encodes)
all_then ks k fails os next run e h = rw (none_fails os e) refl
all_then ks k stuck os next run e h = tt

-- terms of parts

pub record Piece (a : Kind) : Type 0 where
  pub term : Declared
  pub kind : Kind
  pub from : source term ≡ a
  pub to : target term ≡ kind
  pub typed : IsTypedTerm term

abbrev no_piece : (a : Kind) → Piece a
no_piece a = record { term = unit a; kind = One; from = refl; to = refl; typed = row.UnitTerm a }

abbrev both_pieces : (a : Kind) → Piece a → Piece a → Piece a
both_pieces a p q = record {
  term = pair p.term q.term;
  kind = Product p.kind q.kind;
  from = p.from;
  to = ap (λ k. Product k (target q.term)) p.to ∙ ap (Product p.kind) q.to;
  typed = typed_pair p.term q.term p.typed q.typed (q.from ∙ sym p.from);
}

pub record Pieces (a : Kind) (ts : List Declared) (ks : List Kind) : Type 0 where
  pub pieces : List (Piece a)
  pub terms : map (λ (p : Piece a). p.term) pieces ≡ ts
  pub kinds : map (λ (p : Piece a). p.kind) pieces ≡ ks

pub record TupleRight (a : Kind) (ks : List Kind) (t : Declared) : Type 0 where
  pub from : source t ≡ a
  pub to : target t ≡ tuple_kind ks
  pub typed : IsTypedTerm t

pub tuple_right : (a : Kind) (ts : List Declared) (ks : List Kind) → Pieces a ts ks → TupleRight a ks (tuple a ts)
tuple_right a ts ks ps =
    let whole = halves (length ps.pieces) (no_piece a) (both_pieces a) ps.pieces in
    let t : whole.term ≡ tuple a ts = halves_map (λ (p : Piece a). p.term) (no_piece a) (both_pieces a) (unit a) pair refl (λ p q. refl) ps.pieces ∙ ap (tuple a) ps.terms in
    let k : whole.kind ≡ tuple_kind ks = halves_map (λ (p : Piece a). p.kind) (no_piece a) (both_pieces a) One Product refl (λ p q. refl) ps.pieces ∙ ap tuple_kind ps.kinds in
    subst (TupleRight a ks) t (record { from = whole.from; to = whole.to ∙ k; typed = whole.typed })

pub tuple_meaning : (a : Kind) (w : List Value) (c : Value) (ts : List Declared) → meaning (erased (tuple a ts)) w c ≡ answer_tuple (map (λ t. meaning (erased t) w c) ts)
tuple_meaning a w c ts = halves_map (λ t. meaning (erased t) w c) (unit a) pair (Some UnitValue) paired refl (λ s t. refl) ts

-- parts that are right at their types

module _ (named : List TypedName) (given : List Binding) (w : List Value) (scope : Shape) where
  abbrev pub AreRendered : List HlType → List Meaning → List Declared → Type 0
  AreRendered [] [] [] = Unit {0}
  AreRendered (k ∷ ks) (m ∷ ms) (t ∷ ts) = Renders named given w scope k m t × AreRendered ks ms ts
  AreRendered _ _ _ = ⊥

  pieces_of : (ks : List HlType) (ms : List Meaning) (ts : List Declared) → AreRendered ks ms ts → Pieces (kind_of scope) ts (map form ks)
  pieces_of [] [] [] h = record { pieces = []; terms = refl; kinds = refl }
  pieces_of (k ∷ ks) (m ∷ ms) (t ∷ ts) h =
      let rest = pieces_of ks ms ts h.1 in
      record {
        pieces = record { term = t; kind = form k; from = h.0.from; to = h.0.to; typed = h.0.typed } ∷ rest.pieces;
        terms = ap (λ l. t ∷ l) rest.terms;
        kinds = ap (λ l. form k ∷ l) rest.kinds;
      }
  pieces_of [] [] (t ∷ ts) h = absurd h
  pieces_of [] (m ∷ ms) ts h = absurd h
  pieces_of (k ∷ ks) [] ts h = absurd h
  pieces_of (k ∷ ks) (m ∷ ms) [] h = absurd h

  pub parts_compute : (ks : List HlType) (ms : List Meaning) (ts : List Declared) → AreRendered ks ms ts → AreGiven named given w → (values : List Binding) (c : Value) → Scoped given scope values c →
      ComputesAll ks (all_in ms values) (map (λ t. meaning (erased t) w c) ts)
  parts_compute [] [] [] h told values c s = record { cores = []; encodes = refl; are = refl }
  parts_compute (k ∷ ks) (m ∷ ms) (t ∷ ts) h told values c s = and_computes k ks (m values) (meaning (erased t) w c) (all_in ms values) (map (λ t. meaning (erased t) w c) ts) (h.0.computes told values c s) (parts_compute ks ms ts h.1 told values c s)
  parts_compute [] [] (t ∷ ts) h told values c s = absurd h
  parts_compute [] (m ∷ ms) ts h told values c s = absurd h
  parts_compute (k ∷ ks) [] ts h told values c s = absurd h
  parts_compute (k ∷ ks) (m ∷ ms) [] h told values c s = absurd h

  pub parts_typed : (ks : List HlType) (ms : List Meaning) (ts : List Declared) → AreRendered ks ms ts → TupleRight (kind_of scope) (map form ks) (tuple (kind_of scope) ts)
  parts_typed ks ms ts h = tuple_right (kind_of scope) ts (map form ks) (pieces_of ks ms ts h)

  pub parts_then : (ks : List HlType) (ms : List Meaning) (ts : List Declared) (k : HlType) (next : List HlValue → Answer HlValue) (run : Value → Option Value) → AreRendered ks ms ts →
      ((vs : List HlValue) (cs : List Value) → at_each (map encoded vs) ks ≡ Some cs → Computes k (next vs) (run (tuple_value cs))) →
      AreGiven named given w → (values : List Binding) (c : Value) → Scoped given scope values c → Computes k (and_then (all_in ms values) next) (bare.and_then (meaning (erased (tuple (kind_of scope) ts)) w c) run)
  parts_then ks ms ts k next run h g told values c s =
      subst (λ d. Computes k (and_then (all_in ms values) next) (bare.and_then d run)) (sym (tuple_meaning (kind_of scope) w c ts))
      (all_then ks k (all_in ms values) (map (λ t. meaning (erased t) w c) ts) next run (parts_compute ks ms ts h told values c s) g)
