-- What adding entries keeps: the old ones in front, children before their parents, the plan's own entry last or nothing new.
use Rattle.std.proofs.Common.{◌≡◌, ℕ, ◌<◌, ◌≤◌, List, [], ◌∷◌, ◌++◌, length, slice_get, Some, sym, ap, ◌∙◌, arith, length-append, append_assoc, append-nil, ◌⊎◌, inl, inr}
use Rattle.simplicity.specs.Nodes.{AreUnder, children}
use Rattle.small_terms.specs.declared.entries.Entry.{Entry}
use Rattle.small_terms.specs.Emitting.{Adds, found, added, Emits, whole, first, rest, both}
use Rattle.small_terms.specs.Entries.{AreBelow, entry_node}
use Rattle.small_terms.specs.Plan.{Plan}
use Rattle.small_terms.proofs.Lists.{get_more, get_next, get_one_more, get_within}

-- the old entries are in front
abbrev pub IsGrown : List Entry → List Entry → Type 0
IsGrown old new = (more : List Entry) × (new ≡ old ++ more)

pub grown_same : (es : List Entry) → IsGrown es es
grown_same es = ([], sym (append-nil es))

pub grown_on : (a b c : List Entry) → IsGrown a b → IsGrown b c → IsGrown a c
grown_on a b c p q = (p.0 ++ q.0, q.1 ∙ ap (λ t. t ++ q.0) p.1 ∙ append_assoc a p.0 q.0)

pub grown_length : (a b : List Entry) → IsGrown a b → length a ≤ length b
grown_length a b p = omega (arith, ap length p.1, length-append a p.0)

pub grown_get : (a b : List Entry) (i : ℕ) (e : Entry) → IsGrown a b → slice_get a i ≡ Some e → slice_get b i ≡ Some e
grown_get a b i e p there = rw p.1 (get_more a p.0 i e there)

pub adds_grown : {old new : List Entry} {entry : Entry} {at : ℕ} → Adds old entry new at → IsGrown old new
adds_grown (found {old} {new} there is) = ([], is ∙ sym (append-nil old))
adds_grown (added {old} {new} {entry} none at is) = (entry ∷ [], is)

-- the entry is where it was added
pub adds_there : {old new : List Entry} {entry : Entry} {at : ℕ} → Adds old entry new at → slice_get new at ≡ Some entry
adds_there (found there is) = rw is there
adds_there (added {old} {new} {entry} none at is) = rw (at, is) (get_next old [] entry)

pub emits_grown : {old new : List Entry} {plan : Plan} {at : ℕ} → Emits old plan new at → IsGrown old new
emits_grown (whole a) = adds_grown a
emits_grown (first p a) = grown_on _ _ _ (emits_grown p) (adds_grown a)
emits_grown (rest p a) = grown_on _ _ _ (emits_grown p) (adds_grown a)
emits_grown (both p q a) = grown_on _ _ _ (emits_grown p) (grown_on _ _ _ (emits_grown q) (adds_grown a))

pub emits_within : {old new : List Entry} {plan : Plan} {at : ℕ} → Emits old plan new at → at < length new
emits_within {old} {new} {plan} {at} (whole a) = get_within new at _ (adds_there a)
emits_within {old} {new} {plan} {at} (first p a) = get_within new at _ (adds_there a)
emits_within {old} {new} {plan} {at} (rest p a) = get_within new at _ (adds_there a)
emits_within {old} {new} {plan} {at} (both p q a) = get_within new at _ (adds_there a)

-- an entry whose children are there keeps children before their parents
pub adds_below : {old new : List Entry} {entry : Entry} {at : ℕ} → AreBelow old → AreUnder (length old) (children (entry_node entry)) → Adds old entry new at → AreBelow new
adds_below below fits (found there is) = rw is below
adds_below {old} {new} {entry} {at} below fits (added none here is) = record { below = λ i e there. in_new i e (get_one_more old entry i e (rw is at there)) }
  where
    in_new : (i : ℕ) (e : Entry) → (slice_get old i ≡ Some e) ⊎ ((i ≡ length old) × (e ≡ entry)) → AreUnder i (children (entry_node e))
    in_new i e (inl h) = below.below i e h
    in_new i e (inr h) = rw (h.0, h.1) fits

pub emits_below : {old new : List Entry} {plan : Plan} {at : ℕ} → AreBelow old → Emits old plan new at → AreBelow new
emits_below below (whole a) = adds_below below tt a
emits_below below (first p a) = adds_below (emits_below below p) (emits_within p, tt) a
emits_below below (rest p a) = adds_below (emits_below below p) (emits_within p, tt) a
emits_below below (both {one = one} {two = two} p q a) =
    adds_below (emits_below (emits_below below p) q) (omega (arith, emits_within p, grown_length one two (emits_grown q)), (emits_within q, tt)) a
