-- From a level to the widths of a jet, from digits to numbers, and over a jet's arguments.
use Rattle.std.proofs.Common.{◌≡◌, ℕ, ◌^◌, ◌<◌, List, [], ◌∷◌, Bool, true, false, refl, sym, ap, ◌∙◌, subst, ◌⊎◌, inl, inr}
use Rattle.std.specs.Prelude.{IsTrue, nat_eq, ◌&&◌, ◌||◌}
use Rattle.std.specs.List.{list_any}
use Rattle.std.proofs.lemmas.Bool.{eqb-true}
use Rattle.simplicity.specs.Types.{Kind, Value, UnitValue, Pair, word_value, word_count}
use Rattle.simplicity.specs.Terms.{Term, Answer, meaning}
use Rattle.simplicity.specs.Canon.{erased}
use Rattle.simplicity.specs.Widths.{level_of}
use Rattle.jets.specs.Jet.{Jet, is_jet, sizes}
use Rattle.simplicity.specs.Flowed.{flowed}
use Rattle.jet_terms.specs.Laws.{AreNumbers}
use Rattle.simplicity.proofs.Flowed.{arrows_erase}
use Rattle.jets.specs.Jet as jet

-- what holds at each size holds at the sizes of a jet
abbrev pub AllSizes : (ℕ → ℕ → Type 0) → List (ℕ × ℕ) → Type 0
AllSizes P [] = Unit {0}
AllSizes P (s ∷ ss) = P s.0 s.1 × AllSizes P ss

either : (b c d : Bool) → IsTrue ((b && c) || d) → ((b ≡ true) × (c ≡ true)) ⊎ IsTrue d
either true true d h = inl (refl, refl)
either true false d h = inr h
either false c d h = inr h

pub sized : (P : ℕ → ℕ → Type 0) (ss : List (ℕ × ℕ)) → AllSizes P ss → (n w : ℕ) → IsTrue (list_any (λ s. nat_eq s.0 n && nat_eq s.1 w) ss) → P n w
sized P [] all n w h = cc
sized P (s ∷ ss) all n w h =
    elim (either (nat_eq s.0 n) (nat_eq s.1 w) (list_any (λ s. nat_eq s.0 n && nat_eq s.1 w) ss) h)
    [ inl e ↦ subst (λ m. P m w) (eqb-true s.0 n e.0) (subst (λ v. P s.0 v) (eqb-true s.1 w e.1) all.0) | inr g ↦ sized P ss all.1 n w g ]

abbrev pub HasLevel : ℕ → ℕ → Type 0
HasLevel n w = n ≡ 2 ^ level_of n

pub usual_level : (n w : ℕ) → IsTrue (is_jet jet.Add n w) → n ≡ 2 ^ level_of n
usual_level n w is = sized HasLevel (sizes jet.Add) (refl, (refl, (refl, (refl, tt)))) n w is

pub gate_level : (n w : ℕ) → IsTrue (is_jet jet.And n w) → n ≡ 2 ^ level_of n
gate_level n w is = sized HasLevel (sizes jet.And) (refl, (refl, (refl, (refl, (refl, tt))))) n w is

-- over the arguments
pub args0 : (P : List ℕ → Type 0) → P [] → (xs : List ℕ) → AreNumbers [] xs → P xs
args0 P go [] all = go
args0 P go (a ∷ more) all = absurd all

pub args1 : (k1 : jet.Kind) (P : List ℕ → Type 0) → ((a : ℕ) → a < 2 ^ jet.width_of k1 → P (a ∷ [])) → (xs : List ℕ) → AreNumbers (k1 ∷ []) xs → P xs
args1 k1 P go [] all = absurd all
args1 k1 P go (a ∷ b ∷ more) all = absurd all.1
args1 k1 P go (a ∷ []) all = go a all.0

pub args2 : (k1 k2 : jet.Kind) (P : List ℕ → Type 0) → ((a b : ℕ) → a < 2 ^ jet.width_of k1 → b < 2 ^ jet.width_of k2 → P (a ∷ b ∷ [])) → (xs : List ℕ) → AreNumbers (k1 ∷ k2 ∷ []) xs → P xs
args2 k1 k2 P go [] all = absurd all
args2 k1 k2 P go (a ∷ []) all = absurd all.1
args2 k1 k2 P go (a ∷ b ∷ c ∷ more) all = absurd all.1.1
args2 k1 k2 P go (a ∷ b ∷ []) all = go a b all.0 all.1.0

pub args3 : (k1 k2 k3 : jet.Kind) (P : List ℕ → Type 0) → ((a b c : ℕ) → a < 2 ^ jet.width_of k1 → b < 2 ^ jet.width_of k2 → c < 2 ^ jet.width_of k3 → P (a ∷ b ∷ c ∷ []))
    → (xs : List ℕ) → AreNumbers (k1 ∷ k2 ∷ k3 ∷ []) xs → P xs
args3 k1 k2 k3 P go [] all = absurd all
args3 k1 k2 k3 P go (a ∷ []) all = absurd all.1
args3 k1 k2 k3 P go (a ∷ b ∷ []) all = absurd all.1.1
args3 k1 k2 k3 P go (a ∷ b ∷ c ∷ d ∷ more) all = absurd all.1.1.1
args3 k1 k2 k3 P go (a ∷ b ∷ c ∷ []) all = go a b c all.0 all.1.0 all.1.1.0

pub args4 : (k1 k2 k3 k4 : jet.Kind) (P : List ℕ → Type 0)
    → ((a b c d : ℕ) → a < 2 ^ jet.width_of k1 → b < 2 ^ jet.width_of k2 → c < 2 ^ jet.width_of k3 → d < 2 ^ jet.width_of k4 → P (a ∷ b ∷ c ∷ d ∷ []))
    → (xs : List ℕ) → AreNumbers (k1 ∷ k2 ∷ k3 ∷ k4 ∷ []) xs → P xs
args4 k1 k2 k3 k4 P go [] all = absurd all
args4 k1 k2 k3 k4 P go (a ∷ []) all = absurd all.1
args4 k1 k2 k3 k4 P go (a ∷ b ∷ []) all = absurd all.1.1
args4 k1 k2 k3 k4 P go (a ∷ b ∷ c ∷ []) all = absurd all.1.1.1
args4 k1 k2 k3 k4 P go (a ∷ b ∷ c ∷ d ∷ e ∷ more) all = absurd all.1.1.1.1
args4 k1 k2 k3 k4 P go (a ∷ b ∷ c ∷ d ∷ []) all = go a b c d all.0 all.1.0 all.1.1.0 all.1.1.1.0

-- a term at a level, with its arrows, at the width of the level. F is the level's answer
pub with_arrows : (t : Term) (source : Kind) (ws : List Value) (v : Value) (r : Answer) → meaning t ws v ≡ r → meaning (erased (flowed t source)) ws v ≡ r
with_arrows t source ws v r e = ap (λ u. meaning u ws v) (arrows_erase t source) ∙ e

pub at0 : (t : ℕ → Term) (F : ℕ → ℕ → Answer) → ((k : ℕ) (ws : List Value) → meaning (t k) ws UnitValue ≡ F (2 ^ k) k)
    → (n k : ℕ) → n ≡ 2 ^ k → (source : Kind) (ws : List Value) → meaning (erased (flowed (t k) source)) ws UnitValue ≡ F n k
at0 t F law n k e source ws = with_arrows (t k) source ws UnitValue (F n k) (law k ws ∙ ap (λ m. F m k) (sym e))

pub at1 : (t : ℕ → Term) (F : ℕ → ℕ → ℕ → Answer) → ((k : ℕ) (ws : List Value) (a : ℕ) → a < word_count k → meaning (t k) ws (word_value k a) ≡ F (2 ^ k) k a)
    → (n k : ℕ) → n ≡ 2 ^ k → (source : Kind) (ws : List Value) (a : ℕ) → a < 2 ^ n → meaning (erased (flowed (t k) source)) ws (word_value k a) ≡ F n k a
at1 t F law n k e source ws a f =
    with_arrows (t k) source ws (word_value k a) (F n k a) (law k ws a (subst (λ m. a < 2 ^ m) e f) ∙ ap (λ m. F m k a) (sym e))

pub at2 : (t : ℕ → Term) (F : ℕ → ℕ → ℕ → ℕ → Answer)
    → ((k : ℕ) (ws : List Value) (a b : ℕ) → a < word_count k → b < word_count k → meaning (t k) ws (Pair (word_value k a) (word_value k b)) ≡ F (2 ^ k) k a b)
    → (n k : ℕ) → n ≡ 2 ^ k → (source : Kind) (ws : List Value) (a b : ℕ) → a < 2 ^ n → b < 2 ^ n
    → meaning (erased (flowed (t k) source)) ws (Pair (word_value k a) (word_value k b)) ≡ F n k a b
at2 t F law n k e source ws a b f g =
    with_arrows (t k) source ws (Pair (word_value k a) (word_value k b)) (F n k a b)
    (law k ws a b (subst (λ m. a < 2 ^ m) e f) (subst (λ m. b < 2 ^ m) e g) ∙ ap (λ m. F m k a b) (sym e))

pub at3 : (t : ℕ → Term) (F : ℕ → ℕ → ℕ → ℕ → ℕ → Answer)
    → ((k : ℕ) (ws : List Value) (a b c : ℕ) → a < word_count k → b < word_count k → c < word_count k → meaning (t k) ws (Pair (word_value k a) (Pair (word_value k b) (word_value k c))) ≡ F (2 ^ k) k a b c)
    → (n k : ℕ) → n ≡ 2 ^ k → (source : Kind) (ws : List Value) (a b c : ℕ) → a < 2 ^ n → b < 2 ^ n → c < 2 ^ n
    → meaning (erased (flowed (t k) source)) ws (Pair (word_value k a) (Pair (word_value k b) (word_value k c))) ≡ F n k a b c
at3 t F law n k e source ws a b c f g h =
    with_arrows (t k) source ws (Pair (word_value k a) (Pair (word_value k b) (word_value k c))) (F n k a b c)
    (law k ws a b c (subst (λ m. a < 2 ^ m) e f) (subst (λ m. b < 2 ^ m) e g) (subst (λ m. c < 2 ^ m) e h) ∙ ap (λ m. F m k a b c) (sym e))

-- with a bit in front
pub at_bit1 : (t : ℕ → Term) (F : ℕ → ℕ → ℕ → ℕ → Answer)
    → ((k : ℕ) (ws : List Value) (c a : ℕ) → c < word_count 0 → a < word_count k → meaning (t k) ws (Pair (word_value 0 c) (word_value k a)) ≡ F (2 ^ k) k c a)
    → (n k : ℕ) → n ≡ 2 ^ k → (source : Kind) (ws : List Value) (c a : ℕ) → c < 2 ^ 1 → a < 2 ^ n
    → meaning (erased (flowed (t k) source)) ws (Pair (word_value 0 c) (word_value k a)) ≡ F n k c a
at_bit1 t F law n k e source ws c a f g =
    with_arrows (t k) source ws (Pair (word_value 0 c) (word_value k a)) (F n k c a)
    (law k ws c a f (subst (λ m. a < 2 ^ m) e g) ∙ ap (λ m. F m k c a) (sym e))

pub at_bit2 : (t : ℕ → Term) (F : ℕ → ℕ → ℕ → ℕ → ℕ → Answer)
    → ((k : ℕ) (ws : List Value) (c a b : ℕ) → c < word_count 0 → a < word_count k → b < word_count k → meaning (t k) ws (Pair (word_value 0 c) (Pair (word_value k a) (word_value k b))) ≡ F (2 ^ k) k c a b)
    → (n k : ℕ) → n ≡ 2 ^ k → (source : Kind) (ws : List Value) (c a b : ℕ) → c < 2 ^ 1 → a < 2 ^ n → b < 2 ^ n
    → meaning (erased (flowed (t k) source)) ws (Pair (word_value 0 c) (Pair (word_value k a) (word_value k b))) ≡ F n k c a b
at_bit2 t F law n k e source ws c a b f g h =
    with_arrows (t k) source ws (Pair (word_value 0 c) (Pair (word_value k a) (word_value k b))) (F n k c a b)
    (law k ws c a b f (subst (λ m. a < 2 ^ m) e g) (subst (λ m. b < 2 ^ m) e h) ∙ ap (λ m. F m k c a b) (sym e))
