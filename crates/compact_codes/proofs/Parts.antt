-- The codes of the parts of a value that are left, the last one first.
use Rattle.std.proofs.Common.{◌≡◌, refl, ap, sym, ◌∙◌, ℕ, ◌+◌, ◌<◌, List, [], ◌∷◌, ◌++◌, Bool, length, take, arith, append_assoc, append-nil}
use denote.Bor.{Bor}
use Rattle.simplicity.specs.Types.{code}
use Rattle.core_data.specs.Data.{value_of}
use Rattle.core_data.specs.Loads.{load}
use Rattle.core_data.specs.declared.data.CoreValue.{CoreValue}

abbrev pub codes_left : List (Bor CoreValue) → List Bool
codes_left [] = []
codes_left (part ∷ parts) = codes_left parts ++ code (value_of part.now)

-- how many turns parts are worth at most
abbrev pub load_left : List (Bor CoreValue) → ℕ
load_left [] = 0
load_left (part ∷ parts) = load (value_of part.now) + load_left parts

pub codes-push : (parts : List (Bor CoreValue)) (part : Bor CoreValue) → codes_left (parts ++ part ∷ []) ≡ code (value_of part.now) ++ codes_left parts
codes-push [] part = sym (append-nil (code (value_of part.now)))
codes-push (first ∷ parts) part = ap (λ l. l ++ code (value_of first.now)) (codes-push parts part) ∙ append_assoc (code (value_of part.now)) (codes_left parts) (code (value_of first.now))

pub load-push : (parts : List (Bor CoreValue)) (part : Bor CoreValue) → load_left (parts ++ part ∷ []) ≡ load (value_of part.now) + load_left parts
load-push [] part = refl
load-push (first ∷ parts) part = omega (arith, load-push parts part)

module _ (bits : List Bool) (old rest : List (Bor CoreValue)) (part : Bor CoreValue) (popped : old ≡ rest ++ part ∷ []) (whole : List Bool) (is : bits ++ codes_left old ≡ whole) where
  open_part : bits ++ (code (value_of part.now) ++ codes_left rest) ≡ whole
  open_part = ap (λ l. bits ++ l) (sym (ap codes_left popped ∙ codes-push rest part)) ∙ is

  pub left_out : code (value_of part.now) ≡ [] → bits ++ codes_left rest ≡ whole
  left_out none = ap (λ l. bits ++ (l ++ codes_left rest)) (sym none) ∙ open_part

  pub tagged : (tag : Bool) (inner : Bor CoreValue) (now : List Bool) (new : List (Bor CoreValue)) → code (value_of part.now) ≡ tag ∷ code (value_of inner.now) →
      now ≡ bits ++ tag ∷ [] → new ≡ rest ++ inner ∷ [] → now ++ codes_left new ≡ whole
  tagged tag inner now new same grown pushed =
      ap (λ l. l ++ codes_left new) grown ∙ append_assoc bits (tag ∷ []) (codes_left new)
      ∙ ap (λ l. bits ++ (tag ∷ l)) (ap codes_left pushed ∙ codes-push rest inner) ∙ ap (λ l. bits ++ (l ++ codes_left rest)) (sym same) ∙ open_part

  pub paired : (first second : Bor CoreValue) (mid new : List (Bor CoreValue)) → code (value_of part.now) ≡ code (value_of first.now) ++ code (value_of second.now) →
      mid ≡ rest ++ second ∷ [] → new ≡ mid ++ first ∷ [] → bits ++ codes_left new ≡ whole
  paired first second mid new same pushed again =
      ap (λ l. bits ++ l) (ap codes_left again ∙ codes-push mid first ∙ ap (λ l. code (value_of first.now) ++ l) (ap codes_left pushed ∙ codes-push rest second)
      ∙ sym (append_assoc (code (value_of first.now)) (code (value_of second.now)) (codes_left rest)) ∙ ap (λ l. l ++ codes_left rest) (sym same)) ∙ open_part

-- a part gone, and its own parts after it
module _ (old rest : List (Bor CoreValue)) (part : Bor CoreValue) (popped : old ≡ rest ++ part ∷ []) where
  pub less_one : (inner : Bor CoreValue) (new : List (Bor CoreValue)) → load (value_of inner.now) < load (value_of part.now) → new ≡ rest ++ inner ∷ [] → load_left new < load_left old
  less_one inner new less pushed =
      let before = ap load_left popped ∙ load-push rest part in let now = ap load_left pushed ∙ load-push rest inner in
      omega (arith, before, now, less)

  pub less_two : (first second : Bor CoreValue) (mid new : List (Bor CoreValue)) → load (value_of first.now) + load (value_of second.now) < load (value_of part.now) →
      mid ≡ rest ++ second ∷ [] → new ≡ mid ++ first ∷ [] → load_left new < load_left old
  less_two first second mid new less pushed again =
      let before = ap load_left popped ∙ load-push rest part in let one = ap load_left pushed ∙ load-push rest second in let now = ap load_left again ∙ load-push mid first in
      omega (arith, before, one, now, less)

  pub less_none : 0 < load (value_of part.now) → load_left rest < load_left old
  less_none some = let before = ap load_left popped ∙ load-push rest part in omega (arith, before, some)

-- what stood first stands first
pub kept : (old bits : List Bool) (tag : Bool) → take (length old) bits ≡ old → take (length old) (bits ++ tag ∷ []) ≡ old
kept [] bits tag h = refl
kept (first ∷ old) [] tag h = absurd (cc)
kept (first ∷ old) (bit ∷ bits) tag h =
    let head : bit ≡ first = cc in
    let rest : take (length old) bits ≡ old = cc in
    let more = kept old bits tag rest in
    cc
