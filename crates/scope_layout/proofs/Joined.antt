-- What is said of two parts is said of the pair; and of many of their tuple.
use Rattle.std.proofs.Common.{◌≡◌, Bool, true, false, cond, List, [], ◌∷◌, ◌++◌, length, map, find, Option, Some, None, option_map, refl, ap, ◌∙◌, subst}
use Rattle.hl_data.specs.declared.value.HlValue.{HlValue}
use Rattle.hl_syntax.specs.declared.kinds.HlType.{HlType}
use Rattle.simplicity.specs.Tuples.{halves, tuple_kind, tuple_value}
use Rattle.simplicity.specs.Types.{Kind, One, Product, Value, UnitValue, Pair}
use Rattle.simplicity.proofs.Tuples.{halves_map, halves_right, from_right}
use Rattle.scope_layout.specs.Paths.{Way, in_either, among}
use Rattle.scope_layout.specs.Leads.{IsTypedWay, LeadsTo}
use Rattle.scope_layout.specs.Leads as leads
use Rattle.scope_layout.specs.declared.path.Step.TheVariants as step

-- the first that is there
abbrev pub first_of : {A : Type 0} → Option A → Option A → Option A
first_of (Some x) other = Some x
first_of None other = other

first_assoc : {A : Type 0} (a b c : Option A) → first_of (first_of a b) c ≡ first_of a (first_of b c)
first_assoc (Some x) b c = refl
first_assoc None b c = refl

first_none : {A : Type 0} (a : Option A) → first_of a None ≡ a
first_none (Some x) = refl
first_none None = refl

pub found_append : {A B : Type 0} (g : A → B) (test : A → Bool) (xs ys : List A) →
    option_map g (find test (xs ++ ys)) ≡ first_of (option_map g (find test xs)) (option_map g (find test ys))
found_append g test [] ys = refl
found_append g test (x ∷ xs) ys =
    elim (test x) as (λ b. option_map g (cond b (Some x) (find test (xs ++ ys))) ≡ first_of (option_map g (cond b (Some x) (find test xs))) (option_map g (find test ys))) [
      | true ↦ refl
      | false ↦ found_append g test xs ys
    ]

-- two parts
pub typed_pair : (a b : Kind) (o q : Way) (s t : Option HlType) → IsTypedWay a o s → IsTypedWay b q t → IsTypedWay (Product a b) (in_either o q) (first_of s t)
typed_pair a b _ _ _ _ leads.IsTypedWay.nowhere leads.IsTypedWay.nowhere = leads.IsTypedWay.nowhere
typed_pair a b _ _ _ _ leads.IsTypedWay.nowhere (leads.IsTypedWay.there path k starts is) = leads.IsTypedWay.there (step.Drop ∷ path) k (refl, starts) is
typed_pair a b _ q _ t (leads.IsTypedWay.there path k starts is) other = leads.IsTypedWay.there (step.Take ∷ path) k (refl, starts) is

pub leads_pair : (c d : Value) (o q : Way) (s t : Option HlType) (u v : Option HlValue) → LeadsTo c o s u → LeadsTo d q t v →
    LeadsTo (Pair c d) (in_either o q) (first_of s t) (first_of u v)
leads_pair c d _ _ _ _ _ _ leads.LeadsTo.nowhere leads.LeadsTo.nowhere = leads.LeadsTo.nowhere
leads_pair c d _ _ _ _ _ _ leads.LeadsTo.nowhere (leads.LeadsTo.there path k v part is gives) = leads.LeadsTo.there (step.Drop ∷ path) k v part is gives
leads_pair c d _ q _ t _ v (leads.LeadsTo.there path k u part is gives) other = leads.LeadsTo.there (step.Take ∷ path) k u part is gives

-- many, with their types
record TypedPart : Type 0 where
  pub kind : Kind
  pub way : Way
  pub found : Option HlType
  pub typed : IsTypedWay kind way found

abbrev no_part : TypedPart
no_part = record { kind = One; way = None; found = None; typed = leads.IsTypedWay.nowhere }

abbrev two_parts : TypedPart → TypedPart → TypedPart
two_parts a b = record { kind = Product a.kind b.kind; way = in_either a.way b.way; found = first_of a.found b.found; typed = typed_pair a.kind b.kind a.way b.way a.found b.found a.typed b.typed }

pub record TypedParts (kinds : List Kind) (ways : List Way) (found : Option HlType) : Type 0 where
  parts : List TypedPart
  kinds_are : map (λ (p : TypedPart). p.kind) parts ≡ kinds
  ways_are : map (λ (p : TypedPart). p.way) parts ≡ ways
  found_is : from_right None first_of (map (λ (p : TypedPart). p.found) parts) ≡ found

pub no_typed : TypedParts [] [] None
no_typed = record { parts = []; kinds_are = refl; ways_are = refl; found_is = refl }

pub more_typed : (kind : Kind) (way : Way) (s : Option HlType) (kinds : List Kind) (ways : List Way) (t : Option HlType) → IsTypedWay kind way s → TypedParts kinds ways t →
    TypedParts (kind ∷ kinds) (way ∷ ways) (first_of s t)
more_typed kind way s kinds ways t typed rest = record {
  parts = record { kind = kind; way = way; found = s; typed = typed } ∷ rest.parts;
  kinds_are = ap (λ l. kind ∷ l) rest.kinds_are;
  ways_are = ap (λ l. way ∷ l) rest.ways_are;
  found_is = ap (first_of s) rest.found_is;
}

pub typed_tuple : (kinds : List Kind) (ways : List Way) (found : Option HlType) → TypedParts kinds ways found → IsTypedWay (tuple_kind kinds) (among ways) found
typed_tuple kinds ways found l =
    let whole = halves (length l.parts) no_part two_parts l.parts in
    let a : whole.kind ≡ tuple_kind kinds = halves_map (λ (p : TypedPart). p.kind) no_part two_parts One Product refl (λ a b. refl) l.parts ∙ ap tuple_kind l.kinds_are in
    let b : whole.way ≡ among ways = halves_map (λ (p : TypedPart). p.way) no_part two_parts None in_either refl (λ a b. refl) l.parts ∙ ap among l.ways_are in
    let c : whole.found ≡ found =
    halves_map (λ (p : TypedPart). p.found) no_part two_parts None first_of refl (λ a b. refl) l.parts
    ∙ halves_right None first_of first_assoc (λ a. refl) first_none (map (λ (p : TypedPart). p.found) l.parts) ∙ l.found_is in
    subst (λ k. IsTypedWay k (among ways) found) a (subst (λ o. IsTypedWay whole.kind o found) b (subst (IsTypedWay whole.kind whole.way) c whole.typed))

-- many, with their values
record LeadPart : Type 0 where
  pub core : Value
  pub way : Way
  pub found : Option HlType
  pub value : Option HlValue
  pub leads : LeadsTo core way found value

abbrev no_lead : LeadPart
no_lead = record { core = UnitValue; way = None; found = None; value = None; leads = leads.LeadsTo.nowhere }

abbrev two_leads : LeadPart → LeadPart → LeadPart
two_leads a b = record {
  core = Pair a.core b.core;
  way = in_either a.way b.way;
  found = first_of a.found b.found;
  value = first_of a.value b.value;
  leads = leads_pair a.core b.core a.way b.way a.found b.found a.value b.value a.leads b.leads;
}

pub record LeadParts (cores : List Value) (ways : List Way) (found : Option HlType) (value : Option HlValue) : Type 0 where
  parts : List LeadPart
  cores_are : map (λ (p : LeadPart). p.core) parts ≡ cores
  ways_are : map (λ (p : LeadPart). p.way) parts ≡ ways
  found_is : from_right None first_of (map (λ (p : LeadPart). p.found) parts) ≡ found
  value_is : from_right None first_of (map (λ (p : LeadPart). p.value) parts) ≡ value

pub no_leads : LeadParts [] [] None None
no_leads = record { parts = []; cores_are = refl; ways_are = refl; found_is = refl; value_is = refl }

pub more_leads : (core : Value) (way : Way) (s : Option HlType) (u : Option HlValue) (cores : List Value) (ways : List Way) (t : Option HlType) (v : Option HlValue) → LeadsTo core way s u → LeadParts cores ways t v →
    LeadParts (core ∷ cores) (way ∷ ways) (first_of s t) (first_of u v)
more_leads core way s u cores ways t v lead rest = record {
  parts = record { core = core; way = way; found = s; value = u; leads = lead } ∷ rest.parts;
  cores_are = ap (λ l. core ∷ l) rest.cores_are;
  ways_are = ap (λ l. way ∷ l) rest.ways_are;
  found_is = ap (first_of s) rest.found_is;
  value_is = ap (first_of u) rest.value_is;
}

pub leads_tuple : (cores : List Value) (ways : List Way) (found : Option HlType) (value : Option HlValue) → LeadParts cores ways found value → LeadsTo (tuple_value cores) (among ways) found value
leads_tuple cores ways found value l =
    let whole = halves (length l.parts) no_lead two_leads l.parts in
    let a : whole.core ≡ tuple_value cores = halves_map (λ (p : LeadPart). p.core) no_lead two_leads UnitValue Pair refl (λ a b. refl) l.parts ∙ ap tuple_value l.cores_are in
    let b : whole.way ≡ among ways = halves_map (λ (p : LeadPart). p.way) no_lead two_leads None in_either refl (λ a b. refl) l.parts ∙ ap among l.ways_are in
    let c : whole.found ≡ found =
    halves_map (λ (p : LeadPart). p.found) no_lead two_leads None first_of refl (λ a b. refl) l.parts
    ∙ halves_right None first_of first_assoc (λ a. refl) first_none (map (λ (p : LeadPart). p.found) l.parts) ∙ l.found_is in
    let d : whole.value ≡ value =
    halves_map (λ (p : LeadPart). p.value) no_lead two_leads None first_of refl (λ a b. refl) l.parts
    ∙ halves_right None first_of first_assoc (λ a. refl) first_none (map (λ (p : LeadPart). p.value) l.parts) ∙ l.value_is in
    subst (λ k. LeadsTo k (among ways) found value) a (subst (λ o. LeadsTo whole.core o found value) b
    (subst (λ s. LeadsTo whole.core whole.way s value) c (subst (LeadsTo whole.core whole.way whole.found) d whole.leads)))
