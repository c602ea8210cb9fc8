-- Tuples and lists of parts that are encoded one to one.
use Rattle.std.proofs.Common.{◌≡◌, ℕ, zero, suc, ◌/◌, ◌<◌, ◌≤◌, List, [], ◌∷◌, ◌++◌, length, map, take, drop, replicate, Option, Some, refl, sym, ap, ◌∙◌, arith, length-take, length-drop}
use Rattle.std.proofs.lemmas.List.{take-map, drop-map, take-append-drop, length-map}
use Rattle.std.proofs.Math.Seq.{take-append_seam, drop-append_seam}
use Rattle.hl_data.specs.declared.value.HlValue.{HlValue}
use Rattle.simplicity.specs.Types.{Kind, One, Product, Value, UnitValue, Inl, Inr, Pair, IsOf}
use Rattle.simplicity.specs.Tuples.{tuple_value, tuple_kind}
use Rattle.simplicity.proofs.Tuples.{tuple_pair, tuple_kind_pair}
use Rattle.hl_meaning.specs.Values.{Decoding, untupled, beside}

-- how values of a type are encoded and decoded, and the form
pub record Codec : Type 0 where
  pub encode : HlValue → Option Value
  pub decode : Value → Option HlValue
  pub kind : Kind

-- a value that is encoded in a core value
pub record Found (p : Codec) (c : Value) : Type 0 where
  pub value : HlValue
  pub decoded : p.decode c ≡ Some value
  pub encoded : p.encode value ≡ Some c

-- what is encoded is of the form and is decoded again, and each value of the form is decoded
pub record Good (p : Codec) : Type 0 where
  pub there : (v : HlValue) (c : Value) → p.encode v ≡ Some c → IsOf c p.kind × (p.decode c ≡ Some v)
  pub back : (c : Value) → IsOf c p.kind → Found p c

pub data AllGood : List Codec → Type 0 where
  no_good : AllGood []
  more_good : (p : Codec) (ps : List Codec) → Good p → AllGood ps → AllGood (p ∷ ps)

-- values are encoded one by one
pub data Encodes : List Codec → List HlValue → List Value → Type 0 where
  no_parts : Encodes [] [] []
  more_parts : (p : Codec) (ps : List Codec) (v : HlValue) (vs : List HlValue) (c : Value) (cs : List Value) → p.encode v ≡ Some c → Encodes ps vs cs → Encodes (p ∷ ps) (v ∷ vs) (c ∷ cs)

abbrev pub decoders : List Codec → List Decoding
decoders ps = map (λ (p : Codec). p.decode) ps

abbrev pub kinds : List Codec → List Kind
kinds ps = map (λ (p : Codec). p.kind) ps

pub good_take : (n : ℕ) (ps : List Codec) → AllGood ps → AllGood (take n ps)
good_take zero _ no_good = no_good
good_take zero _ (more_good p ps g gs) = no_good
good_take (suc n) _ no_good = no_good
good_take (suc n) _ (more_good p ps g gs) = more_good p (take n ps) g (good_take n ps gs)

pub good_drop : (n : ℕ) (ps : List Codec) → AllGood ps → AllGood (drop n ps)
good_drop zero _ no_good = no_good
good_drop zero _ (more_good p ps g gs) = more_good p ps g gs
good_drop (suc n) _ no_good = no_good
good_drop (suc n) _ (more_good p ps g gs) = good_drop n ps gs

pub good_copies : (n : ℕ) (p : Codec) → Good p → AllGood (replicate n p)
good_copies zero p g = no_good
good_copies (suc n) p g = more_good p (replicate n p) g (good_copies n p g)

pub encodes_take : (n : ℕ) (ps : List Codec) (vs : List HlValue) (cs : List Value) → Encodes ps vs cs → Encodes (take n ps) (take n vs) (take n cs)
encodes_take zero _ _ _ no_parts = no_parts
encodes_take zero _ _ _ (more_parts p ps v vs c cs h hs) = no_parts
encodes_take (suc n) _ _ _ no_parts = no_parts
encodes_take (suc n) _ _ _ (more_parts p ps v vs c cs h hs) = more_parts p (take n ps) v (take n vs) c (take n cs) h (encodes_take n ps vs cs hs)

pub encodes_drop : (n : ℕ) (ps : List Codec) (vs : List HlValue) (cs : List Value) → Encodes ps vs cs → Encodes (drop n ps) (drop n vs) (drop n cs)
encodes_drop zero _ _ _ no_parts = no_parts
encodes_drop zero _ _ _ (more_parts p ps v vs c cs h hs) = more_parts p ps v vs c cs h hs
encodes_drop (suc n) _ _ _ no_parts = no_parts
encodes_drop (suc n) _ _ _ (more_parts p ps v vs c cs h hs) = encodes_drop n ps vs cs hs

pub encodes_append : (ps qs : List Codec) (vs ws : List HlValue) (cs ds : List Value) → Encodes ps vs cs → Encodes qs ws ds → Encodes (ps ++ qs) (vs ++ ws) (cs ++ ds)
encodes_append _ qs _ ws _ ds no_parts gs = gs
encodes_append _ qs _ ws _ ds (more_parts p ps v vs c cs h hs) gs = more_parts p (ps ++ qs) v (vs ++ ws) c (cs ++ ds) h (encodes_append ps qs vs ws cs ds hs gs)

pub encodes_length : (ps : List Codec) (vs : List HlValue) (cs : List Value) → Encodes ps vs cs → (length vs ≡ length ps) × (length cs ≡ length ps)
encodes_length _ _ _ no_parts = (refl, refl)
encodes_length _ _ _ (more_parts p ps v vs c cs h hs) = let e = encodes_length ps vs cs hs in (ap suc e.0, ap suc e.1)

-- Tuples.

abbrev half : List Codec → ℕ
half ps = length ps / 2

-- decoding more than one part
untupled_pair : (turns : ℕ) (ps : List Codec) (a b : Value) → 1 < length ps →
    untupled (suc turns) (decoders ps) (Pair a b) ≡ beside (λ xs ys. xs ++ ys) (untupled turns (decoders (take (half ps) ps)) a) (untupled turns (decoders (drop (half ps) ps)) b)
untupled_pair turns [] a b long = absurd (omega arith)
untupled_pair turns (p ∷ []) a b long = absurd (omega arith)
untupled_pair turns (p ∷ q ∷ ps) a b long =
    let h : length (decoders (p ∷ q ∷ ps)) / 2 ≡ length (p ∷ q ∷ ps) / 2 = ap (λ n. n / 2) (length-map (p ∷ q ∷ ps) (λ (r : Codec). r.decode)) in
    let front : take (length (decoders (p ∷ q ∷ ps)) / 2) (decoders (p ∷ q ∷ ps)) ≡ decoders (take (length (p ∷ q ∷ ps) / 2) (p ∷ q ∷ ps)) = ap (λ n. take n (decoders (p ∷ q ∷ ps))) h ∙ take-map (λ (r : Codec). r.decode) (length (p ∷ q ∷ ps) / 2) (p ∷ q ∷ ps) in
    let back : drop (length (decoders (p ∷ q ∷ ps)) / 2) (decoders (p ∷ q ∷ ps)) ≡ decoders (drop (length (p ∷ q ∷ ps) / 2) (p ∷ q ∷ ps)) = ap (λ n. drop n (decoders (p ∷ q ∷ ps))) h ∙ drop-map (λ (r : Codec). r.decode) (length (p ∷ q ∷ ps) / 2) (p ∷ q ∷ ps) in
    ap (λ ds. beside (λ xs ys. xs ++ ys) (untupled turns ds a) (untupled turns (drop (length (decoders (p ∷ q ∷ ps)) / 2) (decoders (p ∷ q ∷ ps))) b)) front
    ∙ ap (λ ds. beside (λ xs ys. xs ++ ys) (untupled turns (decoders (take (length (p ∷ q ∷ ps) / 2) (p ∷ q ∷ ps))) a) (untupled turns ds b)) back

kind_pair : (ps : List Codec) → 1 < length ps → tuple_kind (kinds ps) ≡ Product (tuple_kind (kinds (take (half ps) ps))) (tuple_kind (kinds (drop (half ps) ps)))
kind_pair ps long =
    let n : length (kinds ps) ≡ length ps = length-map ps (λ (r : Codec). r.kind) in
    tuple_kind_pair (kinds ps) (omega (arith, n))
    ∙ ap (λ m. Product (tuple_kind (take (m / 2) (kinds ps))) (tuple_kind (drop (m / 2) (kinds ps)))) n
    ∙ ap (λ ks. Product (tuple_kind ks) (tuple_kind (drop (length ps / 2) (kinds ps)))) (take-map (λ (r : Codec). r.kind) (length ps / 2) ps)
    ∙ ap (λ ks. Product (tuple_kind (kinds (take (length ps / 2) ps))) (tuple_kind ks)) (drop-map (λ (r : Codec). r.kind) (length ps / 2) ps)

-- the tuple is of the form, and is taken apart again
pub record TupleThere (turns : ℕ) (ps : List Codec) (vs : List HlValue) (cs : List Value) : Type 0 where
  pub is_of : IsOf (tuple_value cs) (tuple_kind (kinds ps))
  pub decoded : untupled turns (decoders ps) (tuple_value cs) ≡ Some vs

value_pair : (ps : List Codec) (vs : List HlValue) (cs : List Value) → 1 < length ps → Encodes ps vs cs → tuple_value cs ≡ Pair (tuple_value (take (half ps) cs)) (tuple_value (drop (half ps) cs))
value_pair ps vs cs long e =
    let n = (encodes_length ps vs cs e).1 in
    tuple_pair cs (omega arith) ∙ ap (λ m. Pair (tuple_value (take (m / 2) cs)) (tuple_value (drop (m / 2) cs))) n

there_pair : (turns : ℕ) (ps : List Codec) (vs : List HlValue) (cs : List Value) → 1 < length ps → Encodes ps vs cs → TupleThere turns (take (half ps) ps) (take (half ps) vs) (take (half ps) cs) →
    TupleThere turns (drop (half ps) ps) (drop (half ps) vs) (drop (half ps) cs) → TupleThere (suc turns) ps vs cs
there_pair turns ps vs cs long e a b =
    let pair = value_pair ps vs cs long e in
    let kind = kind_pair ps long in
    record {
      is_of = rw (pair, kind) (a.is_of, b.is_of);
      decoded = ap (untupled (suc turns) (decoders ps)) pair ∙ untupled_pair turns ps (tuple_value (take (half ps) cs)) (tuple_value (drop (half ps) cs)) long
          ∙ rw (a.decoded, b.decoded) (ap Some (take-append-drop (half ps) vs));
    }

pub tuple_there : (turns : ℕ) (ps : List Codec) (vs : List HlValue) (cs : List Value) → length ps ≤ turns → AllGood ps → Encodes ps vs cs → TupleThere turns ps vs cs
tuple_there turns _ _ _ few no_good no_parts = record { is_of = tt; decoded = refl }
tuple_there turns _ _ _ few (more_good _ _ g no_good) (more_parts p _ v _ c _ h no_parts) =
    let one = g.there v c h in record { is_of = one.0; decoded = rw one.1 refl }
tuple_there zero _ _ _ few (more_good _ _ g (more_good _ _ g' gs)) (more_parts p _ v _ c _ h (more_parts q ps w vs d cs h' hs)) = absurd (omega arith)
tuple_there (suc turns) _ _ _ few (more_good _ _ g (more_good _ _ g' gs)) (more_parts p _ v _ c _ h (more_parts q ps w vs d cs h' hs)) =
    let all_good : AllGood (p ∷ q ∷ ps) = more_good p (q ∷ ps) g (more_good q ps g' gs) in
    let all : Encodes (p ∷ q ∷ ps) (v ∷ w ∷ vs) (c ∷ d ∷ cs) = more_parts p (q ∷ ps) v (w ∷ vs) c (d ∷ cs) h (more_parts q ps w vs d cs h' hs) in
    let front : length (take (half (p ∷ q ∷ ps)) (p ∷ q ∷ ps)) ≤ turns = omega (arith, length-take (half (p ∷ q ∷ ps)) (p ∷ q ∷ ps)) in
    let back : length (drop (half (p ∷ q ∷ ps)) (p ∷ q ∷ ps)) ≤ turns = omega (arith, length-drop (half (p ∷ q ∷ ps)) (p ∷ q ∷ ps)) in
    there_pair turns (p ∷ q ∷ ps) (v ∷ w ∷ vs) (c ∷ d ∷ cs) (omega arith) all
    (tuple_there turns (take (half (p ∷ q ∷ ps)) (p ∷ q ∷ ps)) (take (half (p ∷ q ∷ ps)) (v ∷ w ∷ vs)) (take (half (p ∷ q ∷ ps)) (c ∷ d ∷ cs)) front
    (good_take (half (p ∷ q ∷ ps)) (p ∷ q ∷ ps) all_good) (encodes_take (half (p ∷ q ∷ ps)) (p ∷ q ∷ ps) (v ∷ w ∷ vs) (c ∷ d ∷ cs) all))
    (tuple_there turns (drop (half (p ∷ q ∷ ps)) (p ∷ q ∷ ps)) (drop (half (p ∷ q ∷ ps)) (v ∷ w ∷ vs)) (drop (half (p ∷ q ∷ ps)) (c ∷ d ∷ cs)) back
    (good_drop (half (p ∷ q ∷ ps)) (p ∷ q ∷ ps) all_good) (encodes_drop (half (p ∷ q ∷ ps)) (p ∷ q ∷ ps) (v ∷ w ∷ vs) (c ∷ d ∷ cs) all))

-- a core value of a tuple's form is the tuple of its parts
pub record TupleBack (turns : ℕ) (ps : List Codec) (c : Value) : Type 0 where
  pub values : List HlValue
  pub parts : List Value
  pub decoded : untupled turns (decoders ps) c ≡ Some values
  pub encoded : Encodes ps values parts
  pub is : tuple_value parts ≡ c

back_pair : (turns : ℕ) (ps : List Codec) (a b : Value) → 1 < length ps → TupleBack turns (take (half ps) ps) a → TupleBack turns (drop (half ps) ps) b → TupleBack (suc turns) ps (Pair a b)
back_pair turns ps a b long x y =
    let e = encodes_append (take (half ps) ps) (drop (half ps) ps) x.values y.values x.parts y.parts x.encoded y.encoded in
    let all : Encodes ps (x.values ++ y.values) (x.parts ++ y.parts) = rw take-append-drop at e in
    let n = (encodes_length (take (half ps) ps) x.values x.parts x.encoded).1 in
    let front : half ps ≡ length x.parts = omega (arith, length-take (half ps) ps) in
    record {
      values = x.values ++ y.values;
      parts = x.parts ++ y.parts;
      decoded = untupled_pair turns ps a b long ∙ rw (x.decoded, y.decoded) refl;
      encoded = all;
      is = value_pair ps (x.values ++ y.values) (x.parts ++ y.parts) long all
          ∙ ap (λ m. Pair (tuple_value (take m (x.parts ++ y.parts))) (tuple_value (drop m (x.parts ++ y.parts)))) front
          ∙ ap (λ cs. Pair (tuple_value cs) (tuple_value (drop (length x.parts) (x.parts ++ y.parts)))) (take-append_seam x.parts y.parts)
          ∙ ap (λ cs. Pair (tuple_value x.parts) (tuple_value cs)) (drop-append_seam x.parts y.parts)
          ∙ ap (λ c. Pair c (tuple_value y.parts)) x.is ∙ ap (Pair a) y.is;
    }

pub product_parts : (c : Value) (k l : Kind) → IsOf c (Product k l) → (a : Value) × (b : Value) × (c ≡ Pair a b) × IsOf a k × IsOf b l
product_parts (Pair a b) k l h = (a, b, refl, h.0, h.1)
product_parts UnitValue k l h = absurd h
product_parts (Inl a) k l h = absurd h
product_parts (Inr a) k l h = absurd h

pub one_parts : (c : Value) → IsOf c One → c ≡ UnitValue
one_parts UnitValue h = refl
one_parts (Pair a b) h = absurd h
one_parts (Inl a) h = absurd h
one_parts (Inr a) h = absurd h

pub tuple_back : (turns : ℕ) (ps : List Codec) (c : Value) → length ps ≤ turns → AllGood ps → IsOf c (tuple_kind (kinds ps)) → TupleBack turns ps c
tuple_back turns [] c few gs h =
    let e = one_parts c h in record { values = []; parts = []; decoded = rw e refl; encoded = no_parts; is = sym e }
tuple_back turns (p ∷ []) c few (more_good _ _ g no_good) h =
    let f = g.back c h in
    record { values = f.value ∷ []; parts = c ∷ []; decoded = rw f.decoded refl; encoded = more_parts p [] f.value [] c [] f.encoded no_parts; is = refl }
tuple_back zero (p ∷ q ∷ ps) c few gs h = absurd (omega arith)
tuple_back (suc turns) (p ∷ q ∷ ps) c few gs h =
    let front : length (take (half (p ∷ q ∷ ps)) (p ∷ q ∷ ps)) ≤ turns = omega (arith, length-take (half (p ∷ q ∷ ps)) (p ∷ q ∷ ps)) in
    let back : length (drop (half (p ∷ q ∷ ps)) (p ∷ q ∷ ps)) ≤ turns = omega (arith, length-drop (half (p ∷ q ∷ ps)) (p ∷ q ∷ ps)) in
    let long : 1 < length (p ∷ q ∷ ps) = omega arith in
    let kind = kind_pair (p ∷ q ∷ ps) long in
    let parts = product_parts c _ _ (rw kind at h) in
    let x = tuple_back turns (take (half (p ∷ q ∷ ps)) (p ∷ q ∷ ps)) parts.0 front (good_take (half (p ∷ q ∷ ps)) (p ∷ q ∷ ps) gs) parts.3 in
    let y = tuple_back turns (drop (half (p ∷ q ∷ ps)) (p ∷ q ∷ ps)) parts.1 back (good_drop (half (p ∷ q ∷ ps)) (p ∷ q ∷ ps) gs) parts.4 in
    rw parts.2 (back_pair turns (p ∷ q ∷ ps) parts.0 parts.1 long x y)
