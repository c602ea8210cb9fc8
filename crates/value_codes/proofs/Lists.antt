-- Arrays and lists of items that are encoded one to one.
use Rattle.std.proofs.Common.{◌≡◌, ℕ, zero, suc, ◌^◌, ◌<◌, ◌≤◌, true, false, List, [], ◌∷◌, ◌++◌, length, map, take, drop, replicate, Option, Some, None, option_map, refl, ap, ◌∙◌, arith, length-append, length-take, nat_lt}
use Rattle.std.proofs.lemmas.Bool.{ltb-false, lt-ltb, le-ltb}
use Rattle.std.proofs.lemmas.List.{take-append-drop, length-replicate}
use Rattle.std.proofs.Math.Seq.{take-append_seam, drop-append_seam}
use Rattle.std.proofs.Math.Nat.{pow-succ'}
use Rattle.hl_data.specs.declared.value.HlValue.{HlValue}
use Rattle.simplicity.specs.Types.{Value, UnitValue, Inl, Inr, Pair, IsOf}
use Rattle.simplicity.specs.Tuples.{tuple_value, tuple_kind, copies_kind}
use Rattle.simplicityhl.specs.Kinds.{list_kind}
use Rattle.hl_meaning.specs.Values.{list_value, items_of, copies_of}
use Rattle.value_codes.proofs.Codecs.{Codec, Good, Encodes, no_parts, more_parts, decoders, kinds, encodes_length, good_copies, tuple_there, tuple_back, one_parts}

-- items are encoded one by one
pub data Each (p : Codec) : List HlValue → List Value → Type 0 where
  no_items : Each p [] []
  more_items : (v : HlValue) (vs : List HlValue) (c : Value) (cs : List Value) → p.encode v ≡ Some c → Each p vs cs → Each p (v ∷ vs) (c ∷ cs)

pub each_encodes : (p : Codec) (vs : List HlValue) (cs : List Value) → Each p vs cs → Encodes (replicate (length cs) p) vs cs
each_encodes p _ _ no_items = no_parts
each_encodes p _ _ (more_items v vs c cs h hs) = more_parts p (replicate (length cs) p) v vs c cs h (each_encodes p vs cs hs)

pub encodes_each : (n : ℕ) (p : Codec) (vs : List HlValue) (cs : List Value) → Encodes (replicate n p) vs cs → Each p vs cs
encodes_each zero p _ _ no_parts = no_items
encodes_each (suc n) p _ _ (more_parts _ _ v vs c cs h hs) = more_items v vs c cs h (encodes_each n p vs cs hs)

pub each_length : (p : Codec) (vs : List HlValue) (cs : List Value) → Each p vs cs → length vs ≡ length cs
each_length p _ _ no_items = refl
each_length p _ _ (more_items v vs c cs h hs) = ap suc (each_length p vs cs hs)

each_take : (n : ℕ) (p : Codec) (vs : List HlValue) (cs : List Value) → Each p vs cs → Each p (take n vs) (take n cs)
each_take zero p _ _ no_items = no_items
each_take zero p _ _ (more_items v vs c cs h hs) = no_items
each_take (suc n) p _ _ no_items = no_items
each_take (suc n) p _ _ (more_items v vs c cs h hs) = more_items v (take n vs) c (take n cs) h (each_take n p vs cs hs)

each_drop : (n : ℕ) (p : Codec) (vs : List HlValue) (cs : List Value) → Each p vs cs → Each p (drop n vs) (drop n cs)
each_drop zero p _ _ no_items = no_items
each_drop zero p _ _ (more_items v vs c cs h hs) = more_items v vs c cs h hs
each_drop (suc n) p _ _ no_items = no_items
each_drop (suc n) p _ _ (more_items v vs c cs h hs) = each_drop n p vs cs hs

each_append : (p : Codec) (vs ws : List HlValue) (cs ds : List Value) → Each p vs cs → Each p ws ds → Each p (vs ++ ws) (cs ++ ds)
each_append p _ ws _ ds no_items g = g
each_append p _ ws _ ds (more_items v vs c cs h hs) g = more_items v (vs ++ ws) c (cs ++ ds) h (each_append p vs ws cs ds hs g)

map-replicate : {A B : Type 0} (f : A → B) (n : ℕ) (a : A) → map f (replicate n a) ≡ replicate n (f a)
map-replicate f zero a = refl
map-replicate f (suc n) a = ap (λ bs. f a ∷ bs) (map-replicate f n a)

-- so many copies
pub record CopiesThere (n : ℕ) (p : Codec) (vs : List HlValue) (cs : List Value) : Type 0 where
  pub is_of : IsOf (tuple_value cs) (copies_kind n p.kind)
  pub decoded : copies_of n p.decode (tuple_value cs) ≡ Some vs

pub copies_there : (n : ℕ) (p : Codec) (vs : List HlValue) (cs : List Value) → Good p → n ≡ length cs → Each p vs cs → CopiesThere n p vs cs
copies_there n p vs cs g long e =
    let few : length (replicate n p) ≤ n = omega (arith, length-replicate n p) in
    let all : Encodes (replicate n p) vs cs = rw long (each_encodes p vs cs e) in
    let t = tuple_there n (replicate n p) vs cs few (good_copies n p g) all in
    let ks : kinds (replicate n p) ≡ replicate n p.kind = map-replicate (λ (r : Codec). r.kind) n p in
    let ds : decoders (replicate n p) ≡ replicate n p.decode = map-replicate (λ (r : Codec). r.decode) n p in
    record { is_of = rw ks at t.is_of; decoded = rw ds at t.decoded }

pub record CopiesBack (n : ℕ) (p : Codec) (c : Value) : Type 0 where
  pub values : List HlValue
  pub parts : List Value
  pub decoded : copies_of n p.decode c ≡ Some values
  pub encoded : Each p values parts
  pub count : length parts ≡ n
  pub is : tuple_value parts ≡ c

pub copies_back : (n : ℕ) (p : Codec) (c : Value) → Good p → IsOf c (copies_kind n p.kind) → CopiesBack n p c
copies_back n p c g h =
    let few : length (replicate n p) ≤ n = omega (arith, length-replicate n p) in
    let ks : kinds (replicate n p) ≡ replicate n p.kind = map-replicate (λ (r : Codec). r.kind) n p in
    let ds : decoders (replicate n p) ≡ replicate n p.decode = map-replicate (λ (r : Codec). r.decode) n p in
    let h' : IsOf c (tuple_kind (kinds (replicate n p))) = rw ks h in
    let t = tuple_back n (replicate n p) c few (good_copies n p g) h' in
    record {
      values = t.values;
      parts = t.parts;
      decoded = rw ds at t.decoded;
      encoded = encodes_each n p t.values t.parts t.encoded;
      count = (encodes_length (replicate n p) t.values t.parts t.encoded).1 ∙ length-replicate n p;
      is = t.is;
    }

-- what a map of an option came from
pub record Mapped {A B : Type 0} (f : A → B) (o : Option A) (b : B) : Type 0 where
  pub from : A
  pub was : o ≡ Some from
  pub is : b ≡ f from

pub mapped : {A B : Type 0} (f : A → B) (o : Option A) (b : B) → option_map f o ≡ Some b → Mapped f o b
mapped f (Some a) b h = record { from = a; was = refl; is = cc }
mapped f None b h = absurd (cc)

-- Lists.

pub record ListThere (level : ℕ) (p : Codec) (vs : List HlValue) (c : Value) : Type 0 where
  pub is_of : IsOf c (list_kind level p.kind)
  pub decoded : items_of level p.decode c ≡ Some vs

abbrev block_size : ℕ → ℕ
block_size level = 2 ^ suc level

-- shorter than the block
list_short : (level : ℕ) (p : Codec) (vs : List HlValue) (c x : Value) → c ≡ Pair (Inl UnitValue) x → ListThere level p vs x → ListThere (suc level) p vs c
list_short level p vs c x is t = record { is_of = rw is (tt, t.is_of); decoded = rw is t.decoded }

-- a whole block
list_long : (level : ℕ) (p : Codec) (vs : List HlValue) (c block x : Value) → c ≡ Pair (Inr block) x → IsOf block (copies_kind (block_size level) p.kind) →
    copies_of (block_size level) p.decode block ≡ Some (take (block_size level) vs) → ListThere level p (drop (block_size level) vs) x → ListThere (suc level) p vs c
list_long level p vs c block x is of read t = record {
  is_of = rw is (of, t.is_of);
  decoded = rw is (rw (read, t.decoded) (ap Some (take-append-drop (block_size level) vs)));
}

pub list_there : (level : ℕ) (p : Codec) (vs : List HlValue) (cs : List Value) (c : Value) → Good p → Each p vs cs → list_value level cs ≡ Some c → ListThere level p vs c
list_there zero p _ _ c g no_items e = let is : c ≡ Inl UnitValue = cc in record { is_of = rw is tt; decoded = rw is refl }
list_there zero p _ _ c g (more_items v _ d _ h no_items) e =
    let is : c ≡ Inr d = cc in let one = g.there v d h in record { is_of = rw is one.0; decoded = rw (is, one.1) refl }
list_there zero p _ _ c g (more_items v _ d _ h (more_items _ _ _ _ _ _)) e = absurd (cc)
list_there (suc level) p vs cs c g each e =
    elim (nat_lt (length cs) (block_size level)) as (λ b. nat_lt (length cs) (block_size level) ≡ b → ListThere (suc level) p vs c) [
      | true ↦ λ less.
          let e' : option_map (Pair (Inl UnitValue)) (list_value level cs) ≡ Some c = rw less at e in
          let m = mapped (Pair (Inl UnitValue)) (list_value level cs) c e' in
          list_short level p vs c m.from m.is (list_there level p vs cs m.from g each m.was)
      | false ↦ λ more.
          let e' : option_map (Pair (Inr (tuple_value (take (block_size level) cs)))) (list_value level (drop (block_size level) cs)) ≡ Some c = rw more at e in
          let m = mapped (Pair (Inr (tuple_value (take (block_size level) cs)))) (list_value level (drop (block_size level) cs)) c e' in
          let long : block_size level ≡ length (take (block_size level) cs) = omega (arith, ltb-false _ _ more, length-take (block_size level) cs) in
          let block = copies_there (block_size level) p (take (block_size level) vs) (take (block_size level) cs) g long (each_take (block_size level) p vs cs each) in
          list_long level p vs c (tuple_value (take (block_size level) cs)) m.from m.is block.is_of block.decoded
          (list_there level p (drop (block_size level) vs) (drop (block_size level) cs) m.from g (each_drop (block_size level) p vs cs each) m.was)
    ] refl

pub record ListBack (level : ℕ) (p : Codec) (c : Value) : Type 0 where
  pub values : List HlValue
  pub parts : List Value
  pub decoded : items_of level p.decode c ≡ Some values
  pub each : Each p values parts
  pub encoded : list_value level parts ≡ Some c
  pub short : length parts < 2 ^ suc level

back_short : (level : ℕ) (p : Codec) (x : Value) → ListBack level p x → ListBack (suc level) p (Pair (Inl UnitValue) x)
back_short level p x t =
    let less = lt-ltb (length t.parts) (block_size level) t.short in
    let twice = pow-succ' 2 (suc level) in
    record { values = t.values; parts = t.parts; decoded = t.decoded; each = t.each; encoded = rw (less, t.encoded) refl; short = omega (arith, t.short) }

back_long : (level : ℕ) (p : Codec) (block x : Value) → CopiesBack (block_size level) p block → ListBack level p x → ListBack (suc level) p (Pair (Inr block) x)
back_long level p block x b t =
    let n = length-append b.parts t.parts in
    let more = le-ltb (length (b.parts ++ t.parts)) (block_size level) (omega (arith, b.count)) in
    let twice = pow-succ' 2 (suc level) in
    let front : take (block_size level) (b.parts ++ t.parts) ≡ b.parts = rw (← b.count) (take-append_seam b.parts t.parts) in
    let back : drop (block_size level) (b.parts ++ t.parts) ≡ t.parts = rw (← b.count) (drop-append_seam b.parts t.parts) in
    record {
      values = b.values ++ t.values;
      parts = b.parts ++ t.parts;
      decoded = rw (b.decoded, t.decoded) refl;
      each = each_append p b.values t.values b.parts t.parts b.encoded t.each;
      encoded = rw (more, front, back, t.encoded, b.is) refl;
      short = omega (arith, n, b.count, t.short);
    }

pub list_back : (level : ℕ) (p : Codec) (c : Value) → Good p → IsOf c (list_kind level p.kind) → ListBack level p c
list_back zero p (Inl u) g h = let e = one_parts u h in
    record { values = []; parts = []; decoded = rw e refl; each = no_items; encoded = rw e refl; short = omega arith }
list_back zero p (Inr d) g h = let f = g.back d h in
    record { values = f.value ∷ []; parts = d ∷ []; decoded = rw f.decoded refl; each = more_items f.value [] d [] f.encoded no_items; encoded = refl; short = omega arith }
list_back zero p UnitValue g h = absurd h
list_back zero p (Pair a b) g h = absurd h
list_back (suc level) p (Pair (Inl u) x) g h = let e = one_parts u h.0 in rw e (back_short level p x (list_back level p x g h.1))
list_back (suc level) p (Pair (Inr block) x) g h = back_long level p block x (copies_back (block_size level) p block g h.0) (list_back level p x g h.1)
list_back (suc level) p (Pair UnitValue x) g h = absurd h.0
list_back (suc level) p (Pair (Pair a b) x) g h = absurd h.0
list_back (suc level) p UnitValue g h = absurd h
list_back (suc level) p (Inl a) g h = absurd h
list_back (suc level) p (Inr a) g h = absurd h
