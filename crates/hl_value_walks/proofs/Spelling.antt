-- Typed trees of each form of values: which value each means, by those that its parts mean.
use Rattle.std.proofs.Common.{◌≡◌, ℕ, zero, suc, ◌^◌, ◌<◌, true, false, nat_eq, nat_lt, eqb-true, ltb-true, List, [], ◌∷◌, map, arith, refl, sym, ap, ◌∙◌, subst, IsTrue}
use Rattle.hl_data.specs.declared.typed.TypedExpr.{TypedExpr}
use Rattle.hl_data.specs.declared.typed.TypedForm.{TypedForm}
use Rattle.hl_data.specs.declared.typed.TypedForm.TheVariants as typed
use Rattle.hl_data.specs.declared.value.HlValue.{HlValue}
use Rattle.hl_data.specs.declared.value.HlValue.TheVariants as value
use Rattle.hl_syntax.specs.declared.kinds.HlType.{HlType}
use Rattle.hl_syntax.specs.declared.kinds.HlType.TheOpen.{HlType-F}
use Rattle.hl_syntax.specs.declared.kinds.HlType.TheViews.{out-HlType}
use Rattle.jets.specs.Unsigned as jets
use Rattle.simplicity.specs.Widths.{level_of}
use Rattle.simplicityhl.specs.Kinds.{is_width}
use Rattle.hl_meaning.specs.Answer.{Answer, gives, and_then}
use Rattle.hl_meaning.specs.Literals.{literal_value}
use Rattle.hl_meaning.specs.Mean.{Function, mean, all_in}
use Rattle.hl_meaning.specs.Scopes.{Binding, Scope}
use Rattle.hl_meaning.specs.Values.{word_of}
use Rattle.hl_meaning.proofs.Forms.{mean-Tuple, mean-Array, mean-List, mean-Left, mean-Right, mean-Some, mean-Nothing, mean-True, mean-False, mean-Literal}
use Rattle.hl_value_walks.specs.Agree.{Spells}
use Rattle.hl_value_walks.proofs.Layers.{both_true}

-- Widths of types are those of the machine's words.

past : (level : ℕ) → suc (suc (suc (suc (suc (suc (suc (suc (suc level)))))))) < 9 → ⊥
past level h = omega arith

few : (level : ℕ) → nat_lt level 9 ≡ true → jets.is_width (2 ^ level) ≡ true
few zero h = refl
few (suc zero) h = refl
few (suc (suc zero)) h = refl
few (suc (suc (suc zero))) h = refl
few (suc (suc (suc (suc zero)))) h = refl
few (suc (suc (suc (suc (suc zero))))) h = refl
few (suc (suc (suc (suc (suc (suc zero)))))) h = refl
few (suc (suc (suc (suc (suc (suc (suc zero))))))) h = refl
few (suc (suc (suc (suc (suc (suc (suc (suc zero)))))))) h = refl
few (suc (suc (suc (suc (suc (suc (suc (suc (suc level))))))))) h = absurd (past level (ltb-true _ _ h))

word_width : (width : ℕ) → IsTrue (is_width width) → jets.is_width width ≡ true
word_width width h =
    let both = both_true (nat_lt (level_of width) 9) (nat_eq width (2 ^ level_of width)) h in
    subst (λ w. jets.is_width w ≡ true) (sym (eqb-true width (2 ^ level_of width) both.1)) (few (level_of width) both.0)

-- a typed tree of a form at a type
abbrev pub at_type : HlType → TypedForm → TypedExpr
at_type k form = record { kind = k; form = form }

-- the typed trees mean the values, each in its place
pub record AllSpell (found : List TypedExpr) (vs : List HlValue) : Type 0 where
  pub means : (functions : List Function) (witness : List Binding) (scope : Scope) →
      all_in (map (mean functions witness) found) scope ≡ gives vs

pub none_spell : AllSpell [] []
none_spell = record { means = λ fs ws scope. refl }

pub more_spell : (e : TypedExpr) (l : HlType) (v : HlValue) (es : List TypedExpr) (vs : List HlValue) → Spells e l v → AllSpell es vs →
    AllSpell (e ∷ es) (v ∷ vs)
more_spell e l v es vs h hs = record { means = λ fs ws scope. rw (h.means fs ws scope, hs.means fs ws scope) refl }

gives_then : {A : Type 0} (make : A → HlValue) (a : Answer A) (x : A) → a ≡ gives x → and_then a (λ x. gives (make x)) ≡ gives (make x)
gives_then make a x h = rw h refl

module _ (k : HlType) where
  -- a typed tree of a form spells a value that it means
  made : (form : TypedForm) (v : HlValue) →
      ((functions : List Function) (witness : List Binding) (scope : Scope) → mean functions witness (at_type k form) scope ≡ gives v) →
      Spells (at_type k form) k v
  made form v h = record { typed = refl; means = h }

  pub true_spells : Spells (at_type k typed.True) k (value.Bool true)
  true_spells = made typed.True (value.Bool true) (λ fs ws scope. mean-True fs ws (at_type k typed.True) refl scope)

  pub false_spells : Spells (at_type k typed.False) k (value.Bool false)
  false_spells = made typed.False (value.Bool false) (λ fs ws scope. mean-False fs ws (at_type k typed.False) refl scope)

  pub nothing_spells : Spells (at_type k typed.Nothing) k value.Nothing
  nothing_spells = made typed.Nothing value.Nothing (λ fs ws scope. mean-Nothing fs ws (at_type k typed.Nothing) refl scope)

  pub literal_spells : (width : ℕ) (word : List ℕ) → out-HlType k ≡ HlType-F.UInt width → IsTrue (is_width width) →
      nat_lt (literal_value word) (2 ^ width) ≡ true → Spells (at_type k (typed.Literal word)) k (word_of width (literal_value word))
  literal_spells width word is wide less =
      made (typed.Literal word) (word_of width (literal_value word))
      (λ fs ws scope. mean-Literal fs ws (at_type k (typed.Literal word)) word refl scope ∙ rw (is, word_width width wide, less) refl)

  module _ (e : TypedExpr) (l : HlType) (v : HlValue) (h : Spells e l v) where
    pub some_spells : Spells (at_type k (typed.Some e)) k (value.Some v)
    some_spells =
        made (typed.Some e) (value.Some v)
        (λ fs ws scope. mean-Some fs ws (at_type k (typed.Some e)) e refl scope ∙ gives_then value.Some _ v (h.means fs ws scope))

    pub left_spells : Spells (at_type k (typed.Left e)) k (value.Left v)
    left_spells =
        made (typed.Left e) (value.Left v)
        (λ fs ws scope. mean-Left fs ws (at_type k (typed.Left e)) e refl scope ∙ gives_then value.Left _ v (h.means fs ws scope))

    pub right_spells : Spells (at_type k (typed.Right e)) k (value.Right v)
    right_spells =
        made (typed.Right e) (value.Right v)
        (λ fs ws scope. mean-Right fs ws (at_type k (typed.Right e)) e refl scope ∙ gives_then value.Right _ v (h.means fs ws scope))

  module _ (es : List TypedExpr) (vs : List HlValue) (h : AllSpell es vs) where
    pub tuple_spells : Spells (at_type k (typed.Tuple es)) k (value.Tuple vs)
    tuple_spells =
        made (typed.Tuple es) (value.Tuple vs)
        (λ fs ws scope. mean-Tuple fs ws (at_type k (typed.Tuple es)) es refl scope ∙ gives_then value.Tuple _ vs (h.means fs ws scope))

    pub array_spells : Spells (at_type k (typed.Array es)) k (value.Array vs)
    array_spells =
        made (typed.Array es) (value.Array vs)
        (λ fs ws scope. mean-Array fs ws (at_type k (typed.Array es)) es refl scope ∙ gives_then value.Array _ vs (h.means fs ws scope))

    pub list_spells : Spells (at_type k (typed.List es)) k (value.List vs)
    list_spells =
        made (typed.List es) (value.List vs)
        (λ fs ws scope. mean-List fs ws (at_type k (typed.List es)) es refl scope ∙ gives_then value.List _ vs (h.means fs ws scope))
