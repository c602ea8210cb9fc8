-- Functions that calls and loops name.
use Rattle.std.proofs.Common.{◌≡◌, ℕ, Bool, true, false, List, [], ◌∷◌, find, cond, bytes_eq, Some, refl, ap, ◌∙◌, subst, IsTrue}
use Rattle.std.proofs.lemmas.Slice.Eq.{bytes_eq-Decides}
use Rattle.std.specs.List.{AllZip}
use Rattle.hl_data.specs.declared.typed.TypedFunction.{TypedFunction}
use Rattle.hl_data.specs.declared.value.HlValue.{HlValue}
use Rattle.hl_syntax.specs.declared.kinds.TypedName.{TypedName}
use Rattle.hl_meaning.specs.Mean.{Function}
use Rattle.hl_meaning.specs.Scopes.{Binding}
use Rattle.hl_rules.specs.Exprs.{param_types}
use Rattle.hl_rules.specs.Places.{is_main}
use Rattle.hl_typing.specs.Typing.{Around, IsCalled}
use Rattle.hl_progress.specs.Held.{HasAnswer, AreValuesOf}
use Rattle.hl_progress.proofs.Scopes.{HaveValues}

-- a function as it is typed and as it is called; `main` needs values of the witnesses
pub record FunctionFits (witness : List Binding) (witnesses : List TypedName) (f : TypedFunction) (g : Function) : Type 0 where
  pub name : g.name ≡ f.name
  pub params : g.params ≡ f.params
  pub runs : (IsTrue (is_main f.name) → HaveValues witness witnesses) → (arguments : List HlValue) → AreValuesOf arguments (param_types f) → HasAnswer f.result (g.run arguments)

module _ (witness : List Binding) (witnesses : List TypedName) where
  abbrev pub FunctionsFit : List TypedFunction → List Function → Type 0
  FunctionsFit fs gs = AllZip (FunctionFits witness witnesses) fs gs

  pub record FoundFits (gs : List Function) (name : List ℕ) (f : TypedFunction) : Type 0 where
    pub run : Function
    pub there : find (λ g. bytes_eq name g.name) gs ≡ Some run
    pub fits : FunctionFits witness witnesses f run
    pub is : name ≡ f.name

  pub found_fits : (fs : List TypedFunction) (gs : List Function) (name : List ℕ) (f : TypedFunction) → FunctionsFit fs gs → find (λ g. bytes_eq name g.name) fs ≡ Some f → FoundFits gs name f
  found_fits [] [] name f fit is = absurd (cc)
  found_fits [] (g ∷ gs) name f fit is = absurd fit
  found_fits (x ∷ fs) [] name f fit is = absurd fit
  found_fits (x ∷ fs) (g ∷ gs) name f fit is =
      let same : bytes_eq name g.name ≡ bytes_eq name x.name = ap (bytes_eq name) fit.0.name in
      elim (bytes_eq name x.name) as (λ t. bytes_eq name x.name ≡ t → cond t (Some x) (find (λ h. bytes_eq name h.name) fs) ≡ Some f → FoundFits (g ∷ gs) name f) [
        | true ↦ λ here found.
            let is_f : x ≡ f = cc in
            subst (FoundFits (g ∷ gs) name) is_f
            (record { run = g; there = ap (λ t. cond t (Some g) (find (λ h. bytes_eq name h.name) gs)) (same ∙ here); fits = fit.0; is = (bytes_eq-Decides name x.name).0 here })
        | false ↦ λ past found.
            let r = found_fits fs gs name f fit.1 found in
            record { run = r.run; there = ap (λ t. cond t (Some g) (find (λ h. bytes_eq name h.name) gs)) (same ∙ past) ∙ r.there; fits = r.fits; is = r.is }
      ] refl is

apart : (b : Bool) → b ≡ true → b ≡ false → ⊥
apart true h k = absurd (cc)
apart false h k = absurd (cc)

-- a function that is named, as it is called
pub record Called (functions : List Function) (name : List ℕ) (f : TypedFunction) : Type 0 where
  pub run : Function
  pub there : find (λ g. bytes_eq name g.name) functions ≡ Some run
  pub params : run.params ≡ f.params
  pub runs : (arguments : List HlValue) → AreValuesOf arguments (param_types f) → HasAnswer f.result (run.run arguments)

pub called : (witness : List Binding) (witnesses : List TypedName) (around : Around) (functions : List Function) → FunctionsFit witness witnesses around.functions functions →
    (name : List ℕ) (f : TypedFunction) → IsCalled around name f → Called functions name f
called witness witnesses around functions fit name f h =
    let r = found_fits witness witnesses around.functions functions name f fit h.is in
    record {
      run = r.run;
      there = r.there;
      params = r.fits.params;
      runs = r.fits.runs (λ main. absurd (apart (is_main name) (ap is_main r.is ∙ main) h.not_main));
    }
