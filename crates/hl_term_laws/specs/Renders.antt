-- When a term renders a meaning: it has the arrow of its scope and type, keeps to the typing table at every place, and computes the
-- encoding of what the source gives.
use Rattle.std.specs.Prelude.{◌≡◌, ℕ, ◌^◌, List, [], ◌∷◌, ◌++◌, map, Option, Some, None, IsTrue}
use Rattle.hl_data.specs.declared.typed.TypedFunction.{TypedFunction}
use Rattle.hl_data.specs.declared.value.HlValue.{HlValue}
use Rattle.hl_data.specs.declared.value.HlValue.TheOpen.{HlValue-F}
use Rattle.hl_data.specs.declared.value.HlValue.TheViews.{out-HlValue}
use Rattle.hl_syntax.specs.declared.kinds.HlType.{HlType}
use Rattle.hl_syntax.specs.declared.kinds.HlType.TheVariants as kind
use Rattle.hl_syntax.specs.declared.kinds.TypedName.{TypedName}
use Rattle.jets.specs.Jet.{Row}
use Rattle.simplicity.specs.Arrows.{source, target, IsTypedTerm}
use Rattle.simplicity.specs.Canon.{Declared, erased}
use Rattle.simplicity.specs.Terms.{meaning}
use Rattle.simplicity.specs.Tuples.{tuple_value, tuple_kind}
use Rattle.simplicity.specs.Types.{Kind, Product, Value, Pair}
use Rattle.simplicityhl.specs.Kinds.{form, is_bound, IsSound}
use Rattle.hl_meaning.specs.Answer.{Answer, gives, fails, stuck, and_then, known}
use Rattle.hl_meaning.specs.Jets.{jet_answer}
use Rattle.hl_meaning.specs.Loops.{Calls, folded, counted, is_counter_width}
use Rattle.hl_meaning.specs.Mean.{Meaning, Function, items_in_list, items_in_array}
use Rattle.hl_meaning.specs.Scopes.{Binding, meant}
use Rattle.hl_meaning.specs.Values.{encoded, decoded, at_each}
use Rattle.hl_rules.specs.Exprs.{param_types, jet_named, jet_arguments, jet_result}
use Rattle.hl_terms.specs.Shapes.{Shape, Ignored, Variable, Witness, Both, kind_of}
use Rattle.hl_terms.specs.Translated.{Expansions, FunctionTerm}

-- a core value that is the encoding of a value at a type
pub record Encodes (v : HlValue) (k : HlType) (d : Option Value) : Type 0 where
  pub core : Value
  pub encodes : encoded v k ≡ Some core
  pub is : d ≡ Some core

-- the encoding of the value that is given, and failure exactly where it fails; that there is an answer is a law of its own
abbrev pub Computes : HlType → Answer HlValue → Option Value → Type 0
Computes k (gives v) d = Encodes v k d
Computes k fails d = d ≡ None
Computes k stuck d = Unit {0}

-- a scope of values stands in a core value: the names with their values in order, each value's encoding at its place, and so for the
-- witnesses that are bound
pub data Scoped (given : List Binding) : Shape → List Binding → Value → Type 0 where
  ScopedIgnored : (k : Kind) (c : Value) → Scoped given (Ignored k) [] c
  ScopedVariable : (name : List ℕ) (k : HlType) (v : HlValue) (c : Value) → encoded v k ≡ Some c →
      Scoped given (Variable name k) (record { name = name; value = v } ∷ []) c
  ScopedWitness : (name : List ℕ) (k : HlType) (v : HlValue) (c : Value) → meant name given ≡ Some v → encoded v k ≡ Some c →
      Scoped given (Witness name k) [] c
  ScopedBoth : (a b : Shape) (us vs ws : List Binding) (c d : Value) → Scoped given a us c → Scoped given b vs d → ws ≡ us ++ vs →
      Scoped given (Both a b) ws (Pair c d)

-- a witness has a value of its declared type, which this core value encodes
pub record IsGiven (given : List Binding) (witness : TypedName) (core : Value) : Type 0 where
  pub value : HlValue
  pub is : meant witness.name given ≡ Some value
  pub encodes : encoded value witness.kind ≡ Some core

-- the first of the core values are those of the witnesses, in their order
abbrev pub AreGiven : List TypedName → List Binding → List Value → Type 0
AreGiven [] given w = Unit {0}
AreGiven (t ∷ ts) given [] = ⊥
AreGiven (t ∷ ts) given (c ∷ w) = IsGiven given t c × AreGiven ts given w

-- the term of an expression in a scope, where the expression may name these witnesses
pub record Renders (named : List TypedName) (given : List Binding) (w : List Value) (scope : Shape) (k : HlType) (m : Meaning) (t : Declared) : Type 0 where
  pub from : source t ≡ kind_of scope
  pub to : target t ≡ form k
  pub typed : IsTypedTerm t
  pub computes : AreGiven named given w → (values : List Binding) (c : Value) → Scoped given scope values c →
      Computes k (m values) (meaning (erased t) w c)

-- on the tuple of the encodings of arguments the term computes what is given for them
abbrev pub Runs : List Value → List HlType → HlType → Calls → Declared → Type 0
Runs w ks k run t =
    (vs : List HlValue) (cs : List Value) → at_each (map encoded vs) ks ≡ Some cs → Computes k (run vs) (meaning (erased t) w (tuple_value cs))

-- the term of what is called with arguments of these types
pub record RendersCall (w : List Value) (ks : List HlType) (k : HlType) (run : Calls) (t : Declared) : Type 0 where
  pub from : source t ≡ tuple_kind (map form ks)
  pub to : target t ≡ form k
  pub typed : IsTypedTerm t
  pub runs : Runs w ks k run t

-- the term of a function that may name these witnesses
pub record RendersFunction (named : List TypedName) (given : List Binding) (w : List Value) (f : TypedFunction) (g : Function) (t : FunctionTerm) : Type 0 where
  pub meant_name : g.name ≡ f.name
  pub meant_params : g.params ≡ f.params
  pub made_name : t.name ≡ f.name
  pub made_params : t.params ≡ f.params
  pub from : source t.term ≡ tuple_kind (map form (param_types f))
  pub to : target t.term ≡ form f.result
  pub typed : IsTypedTerm t.term
  pub runs : AreGiven named given w → Runs w (param_types f) f.result g.run t.term

-- What the terms of jets and of loops owe.

pub record HasJet (x : Expansions) (w : List Value) (word : List ℕ) (row : Row) : Type 0 where
  pub term : Declared
  pub is : x.jet word ≡ Some term
  pub renders : RendersCall w (jet_arguments row) (jet_result row) (jet_answer word) term

-- each jet has a term that does what the jet does
abbrev pub JetsRendered : Expansions → Type 0
JetsRendered x = (w : List Value) (word : List ℕ) (row : Row) → jet_named word ≡ Some row → HasJet x w word row

-- the term of what takes two values
pub record RendersLoop (w : List Value) (i j k : HlType) (run : HlValue → HlValue → Answer HlValue) (t : Declared) : Type 0 where
  pub from : source t ≡ Product (form i) (form j)
  pub to : target t ≡ form k
  pub typed : IsTypedTerm t
  pub runs : (u v : HlValue) (c d : Value) → encoded u i ≡ Some c → encoded v j ≡ Some d → Computes k (run u v) (meaning (erased t) w (Pair c d))

-- a fold over the items of the first value, which starts with the second
abbrev pub over_items : (HlValue-F HlValue → Option (List HlValue)) → Calls → HlValue → HlValue → Answer HlValue
over_items items_in run u v = and_then (known (items_in (out-HlValue u))) (λ found. folded run found v)

-- the term of a loop does what the loop does, where the term of its function does what the function does
pub record LoopsRendered (x : Expansions) : Type 0 where
  pub lists : (w : List Value) (item k : HlType) (bound : ℕ) (run : Calls) (t : Declared) → RendersCall w (item ∷ k ∷ []) k run t →
      IsTrue (is_bound bound) → RendersLoop w (kind.List item bound) k k (over_items items_in_list run) (x.list_fold t bound)
  pub arrays : (w : List Value) (item k : HlType) (count : ℕ) (run : Calls) (t : Declared) → RendersCall w (item ∷ k ∷ []) k run t →
      RendersLoop w (kind.Array item count) k k (over_items items_in_array run) (x.array_fold t count)
  pub whiles : (w : List Value) (total context end : HlType) (width : ℕ) (run : Calls) (t : Declared) →
      RendersCall w (total ∷ context ∷ kind.UInt width ∷ []) (kind.Either end total) run t → IsTrue (is_counter_width width) →
      RendersLoop w total context (kind.Either end total) (λ made given. counted run width given (2 ^ width) 0 made) (x.for_while t width)

-- What values owe: what is encoded at one sound type and decoded at another of the same form is encoded there in the same core value.
abbrev pub Recodes : Type 0
Recodes =
    (from to : HlType) (v u : HlValue) (c : Value) → IsSound from → IsSound to → form from ≡ form to →
    encoded v from ≡ Some c → decoded to c ≡ Some u → encoded u to ≡ Some c
