-- The arrow at every place of a plain term, from its source downward (this project's own); a tag's other side is the unit type.
use Rattle.std.specs.Prelude.{◌≡◌, Bool, true, false}
use Rattle.simplicity.specs.Types.{Kind, One, Sum, Product, word_kind}
use Rattle.simplicity.specs.Typing.{arrow}
use Rattle.simplicity.specs.Terms.{Term}
use Rattle.simplicity.specs.Terms as plain
use Rattle.simplicity.specs.Canon.{Declared}
use Rattle.simplicity.specs.Canon as term
use Rattle.simplicity.specs.Arrows.{target}
use Rattle.simplicity.specs.Makes.{first_of, second_of, left_of, right_of, iden, unit}

-- where the sides of a case start
abbrev pub left_source : Kind → Kind
left_source a = Product (left_of (first_of a)) (second_of a)

abbrev pub right_source : Kind → Kind
right_source a = Product (right_of (first_of a)) (second_of a)

-- terms that wait for their source
abbrev pub take_at : (Kind → Declared) → Kind → Declared
take_at f a = let t = f (first_of a) in term.Take (arrow a (target t)) t

abbrev pub drop_at : (Kind → Declared) → Kind → Declared
drop_at f a = let t = f (second_of a) in term.Drop (arrow a (target t)) t

abbrev pub comp_at : (Kind → Declared) → (Kind → Declared) → Kind → Declared
comp_at f g a = let s = f a in let t = g (target s) in term.Comp (arrow a (target t)) s t

abbrev pub pair_at : (Kind → Declared) → (Kind → Declared) → Kind → Declared
pair_at f g a = let s = f a in let t = g a in term.PairTerm (arrow a (Product (target s) (target t))) s t

abbrev pub case_at : (Kind → Declared) → (Kind → Declared) → Kind → Declared
case_at f g a = let s = f (left_source a) in let t = g (right_source a) in term.Case (arrow a (target s)) s t

abbrev pub injl_at : (Kind → Declared) → Kind → Declared
injl_at f a = let t = f a in term.Injl (arrow a (Sum (target t) One)) t

abbrev pub injr_at : (Kind → Declared) → Kind → Declared
injr_at f a = let t = f a in term.Injr (arrow a (Sum One (target t))) t

abbrev pub bit_at : Bool → Kind → Declared
bit_at false a = injl_at unit a
bit_at true a = injr_at unit a

-- the term with the arrow at every place
abbrev pub flowed : Term → Kind → Declared
flowed plain.Iden a = iden a
flowed plain.UnitTerm a = unit a
flowed (plain.Comp s t) a = comp_at (flowed s) (flowed t) a
flowed (plain.Injl t) a = injl_at (flowed t) a
flowed (plain.Injr t) a = injr_at (flowed t) a
flowed (plain.Case s t) a = case_at (flowed s) (flowed t) a
flowed (plain.PairTerm s t) a = pair_at (flowed s) (flowed t) a
flowed (plain.Take t) a = take_at (flowed t) a
flowed (plain.Drop t) a = drop_at (flowed t) a
flowed (plain.Word k n) a = term.Word (arrow a (word_kind k)) k n
flowed (plain.Witness n) a = term.Witness (arrow a One) n
flowed (plain.AssertL s h) a = let t = flowed s (left_source a) in term.AssertL (arrow a (target t)) t h
flowed (plain.AssertR h s) a = let t = flowed s (right_source a) in term.AssertR (arrow a (target t)) h t
flowed (plain.Fail e) a = term.Fail (arrow a One) e

-- where a term leads from a source
abbrev pub leads_to : Term → Kind → Kind
leads_to t a = target (flowed t a)

-- a product, and a product whose first part is a sum
abbrev pub IsPair : Kind → Type 0
IsPair a = a ≡ Product (first_of a) (second_of a)

abbrev pub IsTagged : Kind → Type 0
IsTagged a = a ≡ Product (Sum (left_of (first_of a)) (right_of (first_of a))) (second_of a)

-- a term without witnesses can start from a type
abbrev pub StartsFrom : Term → Kind → Type 0
StartsFrom plain.Iden a = Unit {0}
StartsFrom plain.UnitTerm a = Unit {0}
StartsFrom (plain.Comp s t) a = StartsFrom s a × StartsFrom t (leads_to s a)
StartsFrom (plain.Injl t) a = StartsFrom t a
StartsFrom (plain.Injr t) a = StartsFrom t a
StartsFrom (plain.Case s t) a =
    IsTagged a × StartsFrom s (left_source a) × StartsFrom t (right_source a) × (leads_to s (left_source a) ≡ leads_to t (right_source a))
StartsFrom (plain.PairTerm s t) a = StartsFrom s a × StartsFrom t a
StartsFrom (plain.Take t) a = IsPair a × StartsFrom t (first_of a)
StartsFrom (plain.Drop t) a = IsPair a × StartsFrom t (second_of a)
StartsFrom (plain.Word k n) a = a ≡ One
StartsFrom (plain.AssertL s h) a = IsTagged a × StartsFrom s (left_source a)
StartsFrom (plain.AssertR h t) a = IsTagged a × StartsFrom t (right_source a)
StartsFrom (plain.Fail e) a = Unit {0}
StartsFrom (plain.Witness n) a = ⊥
