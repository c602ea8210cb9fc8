-- What terms and types mean once the tables have grown.
use Rattle.std.proofs.Common.{◌≡◌, ℕ, ◌<◌, List, length, sym, ap, subst, arith, Result}
use Rattle.std.specs.Prelude.{IfOk}
use Rattle.std.specs.declared.alloc.AllocError.{AllocError}
use Rattle.simplicity.specs.Canon.{Declared}
use Rattle.simplicity.specs.Arrows.{IsTypedTerm}
use Rattle.simplicity.specs.Makes.{iden, unit, comp, pair, on_second, by_tag, only_left, only_right}
use Rattle.simplicity.specs.Types.{Kind}
use Rattle.term_recipes.specs.Shapes.{beside, bound_in, tested_by}
use Rattle.type_table.specs.Kinds.{kind_at, IsGrown}
use Rattle.type_table.proofs.Growth.{kind_at-grown, grown_length}
use Rattle.term_core.specs.declared.table_node.TermRow.{TermRow}
use Rattle.term_core.specs.Terms.{term_at, StandsOver, MeansTerm, KeepsRows}
use Rattle.term_core.proofs.Growth.{kept_length, standing_stays, terms_stay}

pub stands_later : (kinds more : List Kind) (rows : List TermRow) → StandsOver kinds rows → IsGrown kinds more → StandsOver more rows
stands_later kinds more rows stands grown = standing_stays kinds more rows stands grown

-- a term that was there is the same
pub term_later : (kinds more : List Kind) (rows later : List TermRow) (id : ℕ) → StandsOver kinds rows → IsGrown kinds more → KeepsRows rows later → id < length rows →
    term_at more later id ≡ term_at kinds rows id
term_later kinds more rows later id stands grown kept within = terms_stay kinds more rows later id stands grown kept within

pub kind_later : (kinds more : List Kind) (id : ℕ) → IsGrown kinds more → id < length kinds → kind_at more id ≡ kind_at kinds id
kind_later kinds more id grown within = kind_at-grown kinds more id grown within

-- an id that was there is there
pub row_later : (rows later : List TermRow) (id : ℕ) → KeepsRows rows later → id < length rows → id < length later
row_later rows later id kept within = let longer = kept_length rows later kept in omega arith

pub type_later : (kinds more : List Kind) (id : ℕ) → IsGrown kinds more → id < length kinds → id < length more
type_later kinds more id grown within = let longer = grown_length kinds more grown in omega arith

-- what is made is the term that is wanted
pub made_is : (kinds : List Kind) (rows : List TermRow) (r : Result ℕ AllocError) (t u : Declared) → t ≡ u → IfOk r (λ id. MeansTerm kinds rows id t) → IfOk r (λ id. MeansTerm kinds rows id u)
made_is kinds rows r t u is h = subst (λ (v : Declared). IfOk r (λ id. MeansTerm kinds rows id v)) is h

-- the same of several terms at once
pub pair_same : (s t u v : Declared) → s ≡ u → t ≡ v → pair s t ≡ pair u v
pair_same s t u v e f = cc

pub comp_same : (s t u v : Declared) → s ≡ u → t ≡ v → comp s t ≡ comp u v
comp_same s t u v e f = cc

pub beside_same : (r s t u v w : Declared) → r ≡ u → s ≡ v → t ≡ w → beside r s t ≡ beside u v w
beside_same r s t u v w e f g = comp_same (pair r s) t (pair u v) w (pair_same r s u v e f) g

pub typed_same : (t u : Declared) → t ≡ u → IsTypedTerm u → IsTypedTerm t
typed_same t u is h = subst IsTypedTerm (sym is) h

pub bound_same : (s t u v : Declared) (a b : Kind) → s ≡ u → a ≡ b → t ≡ v → bound_in s a t ≡ bound_in u b v
bound_same s t u v a b e f g = beside_same s (iden a) t u (iden b) v e (ap iden f) g

pub tested_same : (s t u v : Declared) (a b : Kind) → s ≡ u → a ≡ b → t ≡ v → tested_by s a t ≡ tested_by u b v
tested_same s t u v a b e f g = beside_same s (unit a) t u (unit b) v e (ap unit f) g

pub second_same : (a b k : Kind) (t : Declared) → a ≡ b → t ≡ iden k → (l : Kind) → k ≡ l → on_second a t ≡ on_second b (iden l)
second_same a b k t e f l g = cc

pub tag_same : (a b c k l m : Kind) (s t u v : Declared) → a ≡ k → b ≡ l → c ≡ m → s ≡ u → t ≡ v → by_tag a b c s t ≡ by_tag k l m u v
tag_same a b c k l m s t u v e f g h i = cc

pub only_left_same : (a b c k l m : Kind) (s u : Declared) → a ≡ k → b ≡ l → c ≡ m → s ≡ u → only_left a b c s ≡ only_left k l m u
only_left_same a b c k l m s u e f g h = cc

pub only_right_same : (a b c k l m : Kind) (s u : Declared) → a ≡ k → b ≡ l → c ≡ m → s ≡ u → only_right a b c s ≡ only_right k l m u
only_right_same a b c k l m s u e f g h = cc
