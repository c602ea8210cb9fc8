-- Witnesses that were met, one more of them, and the list of them by edition.
use Rattle.std.proofs.Common.{◌≡◌, ℕ, Bool, true, false, nat_eq, cond, List, [], ◌∷◌, ◌++◌, bytes_eq, find, Option, Some, None, option_map, refl, sym, ap, ◌∙◌, if◌then◌else◌}
use Rattle.std.proofs.lemmas.Slice.Eq.{bytes_eq-Decides}
use Rattle.hl_syntax.specs.declared.kinds.HlType.{HlType}
use Rattle.hl_syntax.specs.declared.kinds.TypedName.{TypedName}
use Rattle.hl_rules.specs.Exprs.{may_stand, stands_again}
use Rattle.hl_rules.specs.Places.{has_name, variable_type}
use Rattle.hl_rules.specs.Same.{same_type}
use Rattle.hl_rules.specs.Witnesses.{first_witnesses, listed_witnesses}
use Rattle.hl_typing.specs.Patterns.{Once}
use Rattle.hl_typing.proofs.Every.{Every, every_join}
use Rattle.hl_typing.proofs.Once.{once_more}
use Rattle.hl_typing.proofs.Same.{same_equal, both_true}
use Rattle.hl_typing.proofs.Steps.{Apart}

-- the type of a name where the first of the names is another, or is it

type_past : (n : TypedName) (names : List TypedName) (name : List ℕ) → bytes_eq name n.name ≡ false → variable_type (n ∷ names) name ≡ variable_type names name
type_past n names name other = ap (λ b. option_map (λ (k : TypedName). k.kind) (cond b (Some n) (find (λ k. bytes_eq name k.name) names))) other

type_here : (n : TypedName) (names : List TypedName) (name : List ℕ) → bytes_eq name n.name ≡ true → variable_type (n ∷ names) name ≡ Some n.kind
type_here n names name this = ap (λ b. option_map (λ (k : TypedName). k.kind) (cond b (Some n) (find (λ k. bytes_eq name k.name) names))) this

-- one more witness

kept_type : (met : List TypedName) (w : TypedName) (name : List ℕ) (k : HlType) → variable_type met name ≡ Some k → variable_type (met ++ w ∷ []) name ≡ Some k
kept_type [] w name k h = absurd (cc)
kept_type (m ∷ met) w name k h = go (bytes_eq name m.name) refl (λ r. kept_type met w name k r)
  where
    go : (b : Bool) → bytes_eq name m.name ≡ b → (variable_type met name ≡ Some k → variable_type (met ++ w ∷ []) name ≡ Some k) → variable_type (m ∷ (met ++ w ∷ [])) name ≡ Some k
    go true this rest = type_here m (met ++ w ∷ []) name this ∙ sym (type_here m met name this) ∙ h
    go false other rest = type_past m (met ++ w ∷ []) name other ∙ rest (sym (type_past m met name other) ∙ h)

new_type : (met : List TypedName) (w : TypedName) → variable_type met w.name ≡ None → variable_type (met ++ w ∷ []) w.name ≡ Some w.kind
new_type [] w none = type_here w [] w.name ((bytes_eq-Decides w.name w.name).1 refl)
new_type (m ∷ met) w none = go (bytes_eq w.name m.name) refl (λ r. new_type met w r)
  where
    go : (b : Bool) → bytes_eq w.name m.name ≡ b → (variable_type met w.name ≡ None → variable_type (met ++ w ∷ []) w.name ≡ Some w.kind) → variable_type (m ∷ (met ++ w ∷ [])) w.name ≡ Some w.kind
    go true this rest = let wrong = sym (type_here m met w.name this) ∙ none in absurd (cc)
    go false other rest = type_past m (met ++ w ∷ []) w.name other ∙ rest (sym (type_past m met w.name other) ∙ none)

pub no_type : (met : List TypedName) (name : List ℕ) → variable_type met name ≡ None → has_name met name ≡ false
no_type [] name none = refl
no_type (m ∷ met) name none = go (bytes_eq name m.name) refl (λ r. no_type met name r)
  where
    go : (b : Bool) → bytes_eq name m.name ≡ b → (variable_type met name ≡ None → has_name met name ≡ false) → has_name (m ∷ met) name ≡ false
    go true this rest = let wrong = sym (type_here m met name this) ∙ none in absurd (cc)
    go false other rest = rw other (rest (sym (type_past m met name other) ∙ none))

every_kept : (met : List TypedName) (w : TypedName) (some : List TypedName) → Every (λ (n : TypedName). variable_type met n.name ≡ Some n.kind) some → Every (λ (n : TypedName). variable_type (met ++ w ∷ []) n.name ≡ Some n.kind) some
every_kept met w [] h = tt
every_kept met w (n ∷ some) h = (kept_type met w n.name n.kind h.0, every_kept met w some h.1)

-- what a witness that may stand is among those that were met: new, or of the type that its name has there in edition 2
data Stands (edition : ℕ) (met : List TypedName) (w : TypedName) : Type 0 where
  fresh : variable_type met w.name ≡ None → Stands edition met w
  again : nat_eq edition 2 ≡ true → variable_type met w.name ≡ Some w.kind → Stands edition met w

stands : (edition : ℕ) (met : List TypedName) (w : TypedName) → may_stand edition met w.name w.kind ≡ true → Stands edition met w
stands edition met w may = go (variable_type met w.name) refl
  where
    go : (known : Option HlType) → variable_type met w.name ≡ known → Stands edition met w
    go None is = fresh is
    go (Some first) is =
        let both = both_true (nat_eq edition 2) (same_type first w.kind) (ap (stands_again edition w.kind) (sym is) ∙ may) in
        again both.0 (is ∙ ap Some (same_equal first w.kind both.1))

pub apart_more : (edition : ℕ) (met : List TypedName) (w : TypedName) → may_stand edition met w.name w.kind ≡ true → Apart edition met → Apart edition (met ++ w ∷ [])
apart_more edition met w may a = go (stands edition met w may)
  where
    all : variable_type (met ++ w ∷ []) w.name ≡ Some w.kind → Every (λ (n : TypedName). variable_type (met ++ w ∷ []) n.name ≡ Some n.kind) (met ++ w ∷ [])
    all last = every_join (λ (n : TypedName). variable_type (met ++ w ∷ []) n.name ≡ Some n.kind) met (w ∷ []) (every_kept met w met a.agree) (last, tt)

    go : Stands edition met w → Apart edition (met ++ w ∷ [])
    go (fresh none) = record { once = λ first. once_more met w (a.once first) (no_type met w.name none); agree = all (new_type met w none) }
    go (again second known) = record { once = λ first. absurd (cc); agree = all (kept_type met w w.name w.kind known) }

-- each at its first place

has_past : (before : List TypedName) (w : TypedName) (name : List ℕ) → has_name before name ≡ true → has_name (before ++ w ∷ []) name ≡ true
has_past [] w name h = absurd (cc)
has_past (m ∷ before) w name h = go (bytes_eq name m.name) refl (λ r. has_past before w name r)
  where
    go : (b : Bool) → bytes_eq name m.name ≡ b → (has_name before name ≡ true → has_name (before ++ w ∷ []) name ≡ true) → has_name (m ∷ (before ++ w ∷ [])) name ≡ true
    go true this rest = rw this refl
    go false other rest = rw other (rest (rw other at h))

has_last : (before : List TypedName) (w : TypedName) → has_name (before ++ w ∷ []) w.name ≡ true
has_last [] w = rw ((bytes_eq-Decides w.name w.name).1 refl) refl
has_last (m ∷ before) w = go (bytes_eq w.name m.name) refl (has_last before w)
  where
    go : (b : Bool) → bytes_eq w.name m.name ≡ b → has_name (before ++ w ∷ []) w.name ≡ true → has_name (m ∷ (before ++ w ∷ [])) w.name ≡ true
    go true this rest = rw this refl
    go false other rest = rw other rest

has_not : (before : List TypedName) (w : TypedName) (name : List ℕ) → has_name before name ≡ false → bytes_eq name w.name ≡ false → has_name (before ++ w ∷ []) name ≡ false
has_not [] w name h other = rw other refl
has_not (m ∷ before) w name h other = go (bytes_eq name m.name) refl (λ r. has_not before w name r other)
  where
    go : (b : Bool) → bytes_eq name m.name ≡ b → (has_name before name ≡ false → has_name (before ++ w ∷ []) name ≡ false) → has_name (m ∷ (before ++ w ∷ [])) name ≡ false
    go true this rest = let wrong = rw this at h in absurd (cc)
    go false past rest = rw past (rest (rw past at h))

-- a name that stands before is none of those that stand first after it
first_apart : (before met : List TypedName) (name : List ℕ) → has_name before name ≡ true → has_name (first_witnesses before met) name ≡ false
first_apart before [] name h = refl
first_apart before (w ∷ met) name h = go (has_name before w.name) refl (first_apart before met name h) (first_apart (before ++ w ∷ []) met name (has_past before w name h))
  where
    differs : has_name before w.name ≡ false → (b : Bool) → bytes_eq name w.name ≡ b → bytes_eq name w.name ≡ false
    differs none false other = other
    differs none true this = let wrong = sym h ∙ ap (has_name before) ((bytes_eq-Decides name w.name).0 this) ∙ none in absurd (cc)

    go : (b : Bool) → has_name before w.name ≡ b → has_name (first_witnesses before met) name ≡ false → has_name (first_witnesses (before ++ w ∷ []) met) name ≡ false → has_name (first_witnesses before (w ∷ met)) name ≡ false
    go true there skip take = rw there skip
    go false none skip take = rw (none, differs none (bytes_eq name w.name) refl) take

first_once : (before met : List TypedName) → Once (first_witnesses before met)
first_once before [] = tt
first_once before (w ∷ met) = go (has_name before w.name) refl (first_once before met) (first_once (before ++ w ∷ []) met)
  where
    go : (b : Bool) → has_name before w.name ≡ b → Once (first_witnesses before met) → Once (first_witnesses (before ++ w ∷ []) met) → Once (first_witnesses before (w ∷ met))
    go true there skip take = rw there skip
    go false none skip take = rw none (first_apart (before ++ w ∷ []) met w.name (has_last before w), take)

-- a name has the type that it has at its first place
first_type : (before met : List TypedName) (name : List ℕ) → has_name before name ≡ false → variable_type (first_witnesses before met) name ≡ variable_type met name
first_type before [] name h = refl
first_type before (w ∷ met) name h = go (has_name before w.name) refl (bytes_eq name w.name) refl (first_type before met name h) (λ other. first_type (before ++ w ∷ []) met name (has_not before w name h other))
  where
    go : (b : Bool) → has_name before w.name ≡ b → (c : Bool) → bytes_eq name w.name ≡ c → variable_type (first_witnesses before met) name ≡ variable_type met name →
        (bytes_eq name w.name ≡ false → variable_type (first_witnesses (before ++ w ∷ []) met) name ≡ variable_type met name) → variable_type (first_witnesses before (w ∷ met)) name ≡ variable_type (w ∷ met) name
    go true there true this skip take = let wrong = sym h ∙ ap (has_name before) ((bytes_eq-Decides name w.name).0 this) ∙ there in absurd (cc)
    go true there false other skip take = rw there (skip ∙ sym (type_past w met name other))
    go false none true this skip take = rw none (type_here w (first_witnesses (before ++ w ∷ []) met) name this ∙ sym (type_here w met name this))
    go false none false other skip take = rw none (type_past w (first_witnesses (before ++ w ∷ []) met) name other ∙ take other ∙ sym (type_past w met name other))

-- the witnesses of a program: none is named twice, and those that were met are of their types

pub listed_once : (edition : ℕ) (met : List TypedName) → Apart edition met → Once (listed_witnesses edition met)
listed_once edition met a = go (nat_eq edition 2) refl
  where
    go : (b : Bool) → nat_eq edition 2 ≡ b → Once (if b then first_witnesses [] met else met)
    go true second = first_once [] met
    go false first = a.once first

pub listed_type : (edition : ℕ) (met : List TypedName) (name : List ℕ) → variable_type (listed_witnesses edition met) name ≡ variable_type met name
listed_type edition met name = go (nat_eq edition 2)
  where
    go : (b : Bool) → variable_type (if b then first_witnesses [] met else met) name ≡ variable_type met name
    go true = first_type [] met name refl
    go false = refl

pub listed_agree : (edition : ℕ) (met some : List TypedName) → Every (λ (n : TypedName). variable_type met n.name ≡ Some n.kind) some → Every (λ (n : TypedName). variable_type (listed_witnesses edition met) n.name ≡ Some n.kind) some
listed_agree edition met [] h = tt
listed_agree edition met (n ∷ some) h = (listed_type edition met n.name ∙ h.0, listed_agree edition met some h.1)
