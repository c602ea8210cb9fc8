-- Terms with arrows, each arrow made from those of the parts (this project's own); a part's own arrow stays what it is.
use Rattle.std.specs.Prelude.{ℕ, List, length, replicate}
use Rattle.simplicity.specs.Types.{Kind, One, Sum, Product, word_kind}
use Rattle.simplicity.specs.Tuples.{halves}
use Rattle.simplicity.specs.Typing.{arrow}
use Rattle.simplicity.specs.Terms as bare
use Rattle.simplicity.specs.Roots.{root}
use Rattle.simplicity.specs.Canon.{Declared}
use Rattle.simplicity.specs.Canon as term
use Rattle.simplicity.specs.Arrows.{source, target}

-- the parts of a type; the unit type where it has none
abbrev pub first_of : Kind → Kind
first_of (Product a b) = a
first_of _ = One

abbrev pub second_of : Kind → Kind
second_of (Product a b) = b
second_of _ = One

abbrev pub left_of : Kind → Kind
left_of (Sum a b) = a
left_of _ = One

abbrev pub right_of : Kind → Kind
right_of (Sum a b) = b
right_of _ = One

abbrev pub iden : Kind → Declared
iden a = term.Iden (arrow a a)

abbrev pub unit : Kind → Declared
unit a = term.UnitTerm (arrow a One)

abbrev pub comp : Declared → Declared → Declared
comp s t = term.Comp (arrow (source s) (target t)) s t

abbrev pub pair : Declared → Declared → Declared
pair s t = term.PairTerm (arrow (source s) (Product (target s) (target t))) s t

-- on the first part of a pair whose second is of a type, and the other way round
abbrev pub on_first : Kind → Declared → Declared
on_first b t = term.Take (arrow (Product (source t) b) (target t)) t

abbrev pub on_second : Kind → Declared → Declared
on_second a t = term.Drop (arrow (Product a (source t)) (target t)) t

-- as the left of a sum whose right is of a type, and the other way round
abbrev pub to_left : Kind → Declared → Declared
to_left b t = term.Injl (arrow (source t) (Sum (target t) b)) t

abbrev pub to_right : Kind → Declared → Declared
to_right a t = term.Injr (arrow (source t) (Sum a (target t))) t

-- by the tag of the first part
abbrev pub by_tag : (a b c : Kind) (s t : Declared) → Declared
by_tag a b c s t = term.Case (arrow (Product (Sum a b) c) (target s)) s t

-- the failure, and its root in place of a side that is never taken
abbrev pub zero_bytes : List ℕ
zero_bytes = replicate 64 0

unfoldable pub fail_root : List ℕ
fail_root = root (bare.Fail zero_bytes)

abbrev pub fail : (a b : Kind) → Declared
fail a b = term.Fail (arrow a b) zero_bytes

abbrev pub only_left : (a b c : Kind) (s : Declared) → Declared
only_left a b c s = term.AssertL (arrow (Product (Sum a b) c) (target s)) s fail_root

abbrev pub only_right : (a b c : Kind) (t : Declared) → Declared
only_right a b c t = term.AssertR (arrow (Product (Sum a b) c) (target t)) fail_root t

abbrev pub word : (k n : ℕ) → Declared
word k n = term.Word (arrow One (word_kind k)) k n

abbrev pub witness : (a b : Kind) (n : ℕ) → Declared
witness a b n = term.Witness (arrow a b) n

-- the tuple of terms on an input of a type
abbrev pub tuple : Kind → List Declared → Declared
tuple a ts = halves (length ts) (unit a) pair ts
