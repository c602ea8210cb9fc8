-- The arrows of terms that have one declared at every place, and when these keep to the typing table
-- (Simplicity Technical Report, "Core Simplicity", types of terms; that each place has its arrow is this project's own).
use Rattle.std.specs.Prelude.{◌≡◌, ℕ, List, slice_get, Some}
use Rattle.simplicity.specs.Types.{Kind, One, Sum, Product, word_kind}
use Rattle.simplicity.specs.Typing.{Arrow, arrow}
use Rattle.simplicity.specs.Canon.{Declared}
use Rattle.simplicity.specs.Canon as term

-- the arrow at the root of a term
abbrev pub declared_arrow : Declared → Arrow
declared_arrow (term.Iden a) = a
declared_arrow (term.Comp a s t) = a
declared_arrow (term.UnitTerm a) = a
declared_arrow (term.Injl a t) = a
declared_arrow (term.Injr a t) = a
declared_arrow (term.Case a s t) = a
declared_arrow (term.PairTerm a s t) = a
declared_arrow (term.Take a t) = a
declared_arrow (term.Drop a t) = a
declared_arrow (term.Witness a n) = a
declared_arrow (term.Word a k n) = a
declared_arrow (term.AssertL a s h) = a
declared_arrow (term.AssertR a h t) = a
declared_arrow (term.Fail a e) = a

abbrev pub source : Declared → Kind
source t = (declared_arrow t).source

abbrev pub target : Declared → Kind
target t = (declared_arrow t).target

-- the typing table at the root of a term: its arrow goes with those of its parts
pub data MeetsRow : Declared → Type 0 where
  Iden : (a : Kind) → MeetsRow (term.Iden (arrow a a))
  UnitTerm : (a : Kind) → MeetsRow (term.UnitTerm (arrow a One))
  Injl : (t : Declared) (a b c : Kind) → declared_arrow t ≡ arrow a b → MeetsRow (term.Injl (arrow a (Sum b c)) t)
  Injr : (t : Declared) (a b c : Kind) → declared_arrow t ≡ arrow a c → MeetsRow (term.Injr (arrow a (Sum b c)) t)
  Take : (t : Declared) (a b c : Kind) → declared_arrow t ≡ arrow a c → MeetsRow (term.Take (arrow (Product a b) c) t)
  Drop : (t : Declared) (a b c : Kind) → declared_arrow t ≡ arrow b c → MeetsRow (term.Drop (arrow (Product a b) c) t)
  Comp : (s t : Declared) (a b c : Kind) → declared_arrow s ≡ arrow a b → declared_arrow t ≡ arrow b c → MeetsRow (term.Comp (arrow a c) s t)
  Case : (s t : Declared) (a b c d : Kind) → declared_arrow s ≡ arrow (Product a c) d → declared_arrow t ≡ arrow (Product b c) d →
      MeetsRow (term.Case (arrow (Product (Sum a b) c) d) s t)
  AssertL : (s : Declared) (h : List ℕ) (a b c d : Kind) → declared_arrow s ≡ arrow (Product a c) d → MeetsRow (term.AssertL (arrow (Product (Sum a b) c) d) s h)
  AssertR : (h : List ℕ) (t : Declared) (a b c d : Kind) → declared_arrow t ≡ arrow (Product b c) d → MeetsRow (term.AssertR (arrow (Product (Sum a b) c) d) h t)
  Pair : (s t : Declared) (a b c : Kind) → declared_arrow s ≡ arrow a b → declared_arrow t ≡ arrow a c → MeetsRow (term.PairTerm (arrow a (Product b c)) s t)
  Fail : (e : List ℕ) (a b : Kind) → MeetsRow (term.Fail (arrow a b) e)
  Witness : (n : ℕ) (a b : Kind) → MeetsRow (term.Witness (arrow a b) n)
  Word : (k n : ℕ) → MeetsRow (term.Word (arrow One (word_kind k)) k n)

-- the typing table at every place of a term
abbrev pub IsTypedTerm : Declared → Type 0
IsTypedTerm (term.Comp a s t) = MeetsRow (term.Comp a s t) × IsTypedTerm s × IsTypedTerm t
IsTypedTerm (term.Injl a t) = MeetsRow (term.Injl a t) × IsTypedTerm t
IsTypedTerm (term.Injr a t) = MeetsRow (term.Injr a t) × IsTypedTerm t
IsTypedTerm (term.Case a s t) = MeetsRow (term.Case a s t) × IsTypedTerm s × IsTypedTerm t
IsTypedTerm (term.PairTerm a s t) = MeetsRow (term.PairTerm a s t) × IsTypedTerm s × IsTypedTerm t
IsTypedTerm (term.Take a t) = MeetsRow (term.Take a t) × IsTypedTerm t
IsTypedTerm (term.Drop a t) = MeetsRow (term.Drop a t) × IsTypedTerm t
IsTypedTerm (term.AssertL a s h) = MeetsRow (term.AssertL a s h) × IsTypedTerm s
IsTypedTerm (term.AssertR a h t) = MeetsRow (term.AssertR a h t) × IsTypedTerm t
IsTypedTerm t = MeetsRow t

-- the term is typed at every place, from the one type to the other
pub record IsTypedFrom (t : Declared) (a b : Kind) : Type 0 where
  pub from : source t ≡ a
  pub to : target t ≡ b
  pub typed : IsTypedTerm t

-- each witness has the type that its places declare
abbrev pub AreWitnesses : List Kind → Declared → Type 0
AreWitnesses ws (term.Comp a s t) = AreWitnesses ws s × AreWitnesses ws t
AreWitnesses ws (term.Injl a t) = AreWitnesses ws t
AreWitnesses ws (term.Injr a t) = AreWitnesses ws t
AreWitnesses ws (term.Case a s t) = AreWitnesses ws s × AreWitnesses ws t
AreWitnesses ws (term.PairTerm a s t) = AreWitnesses ws s × AreWitnesses ws t
AreWitnesses ws (term.Take a t) = AreWitnesses ws t
AreWitnesses ws (term.Drop a t) = AreWitnesses ws t
AreWitnesses ws (term.AssertL a s h) = AreWitnesses ws s
AreWitnesses ws (term.AssertR a h t) = AreWitnesses ws t
AreWitnesses ws (term.Witness a n) = slice_get ws n ≡ Some a.target
AreWitnesses ws _ = Unit {0}
