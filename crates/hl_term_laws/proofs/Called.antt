-- Functions that calls and loops name, with what they give and with their terms.
use Rattle.std.proofs.Common.{◌≡◌, ℕ, Bool, true, false, List, [], ◌∷◌, find, cond, map, bytes_eq, Some, refl, sym, ap, ◌∙◌, subst, IsTrue}
use Rattle.std.specs.Prelude.{if◌then◌else◌}
use Rattle.std.proofs.lemmas.Slice.Eq.{bytes_eq-Decides}
use Rattle.hl_data.specs.declared.typed.TypedFunction.{TypedFunction}
use Rattle.hl_syntax.specs.declared.kinds.HlType.{HlType}
use Rattle.hl_syntax.specs.declared.kinds.HlType.TheVariants as kind
use Rattle.hl_syntax.specs.declared.kinds.HlType.TheViews.{out-HlType}
use Rattle.hl_syntax.specs.declared.kinds.TypedName.{TypedName}
use Rattle.simplicity.specs.Types.{Value}
use Rattle.hl_meaning.specs.Loops.{is_counter_width}
use Rattle.hl_meaning.specs.Mean.{Function, counter_width, number_width}
use Rattle.hl_meaning.specs.Scopes.{Binding}
use Rattle.hl_rules.specs.Exprs.{param_types}
use Rattle.hl_rules.specs.Places.{is_main}
use Rattle.hl_typing.specs.Programs as programs
use Rattle.hl_typing.specs.Typing.{Around, IsCalled}
use Rattle.hl_terms.specs.Translated.{FunctionTerm}
use Rattle.hl_term_laws.specs.Laws.{AllRendered}
use Rattle.hl_term_laws.specs.Renders.{AreGiven, RendersCall, RendersFunction}

-- a function that is named, as it is called and as it is translated
pub record Called (w : List Value) (functions : List Function) (terms : List FunctionTerm) (name : List ℕ) (f : TypedFunction) : Type 0 where
  pub run : Function
  pub there : find (λ g. bytes_eq name g.name) functions ≡ Some run
  pub run_params : run.params ≡ f.params
  pub made : FunctionTerm
  pub stands : find (λ t. bytes_eq name t.name) terms ≡ Some made
  pub made_params : made.params ≡ f.params
  pub renders : RendersCall w (param_types f) f.result run.run made.term

module _ (witnesses : List TypedName) (given : List Binding) (w : List Value) where
  pub record FoundRendered (gs : List Function) (ts : List FunctionTerm) (name : List ℕ) (f : TypedFunction) : Type 0 where
    pub run : Function
    pub there : find (λ g. bytes_eq name g.name) gs ≡ Some run
    pub made : FunctionTerm
    pub stands : find (λ t. bytes_eq name t.name) ts ≡ Some made
    pub renders : RendersFunction (programs.witnesses_of f.name witnesses) given w f run made
    pub is : name ≡ f.name

  pub found_rendered : (fs : List TypedFunction) (gs : List Function) (ts : List FunctionTerm) (name : List ℕ) (f : TypedFunction) → AllRendered witnesses given w fs gs ts → find (λ g. bytes_eq name g.name) fs ≡ Some f →
      FoundRendered gs ts name f
  found_rendered [] gs ts name f all is = absurd (cc)
  found_rendered (x ∷ fs) [] ts name f all is = absurd all
  found_rendered (x ∷ fs) (g ∷ gs) [] name f all is = absurd all
  found_rendered (x ∷ fs) (g ∷ gs) (t ∷ ts) name f all is =
      let same_g : bytes_eq name g.name ≡ bytes_eq name x.name = ap (bytes_eq name) all.0.meant_name in
      let same_t : bytes_eq name t.name ≡ bytes_eq name x.name = ap (bytes_eq name) all.0.made_name in
      elim (bytes_eq name x.name) as (λ b. bytes_eq name x.name ≡ b → cond b (Some x) (find (λ h. bytes_eq name h.name) fs) ≡ Some f → FoundRendered (g ∷ gs) (t ∷ ts) name f) [
        | true ↦ λ here found.
            let is_f : x ≡ f = cc in
            subst (FoundRendered (g ∷ gs) (t ∷ ts) name) is_f (record {
              run = g;
              there = ap (λ b. cond b (Some g) (find (λ h. bytes_eq name h.name) gs)) (same_g ∙ here);
              made = t;
              stands = ap (λ b. cond b (Some t) (find (λ h. bytes_eq name h.name) ts)) (same_t ∙ here);
              renders = all.0;
              is = (bytes_eq-Decides name x.name).0 here;
            })
        | false ↦ λ past found.
            let r = found_rendered fs gs ts name f all.1 found in
            record {
              run = r.run;
              there = ap (λ b. cond b (Some g) (find (λ h. bytes_eq name h.name) gs)) (same_g ∙ past) ∙ r.there;
              made = r.made;
              stands = ap (λ b. cond b (Some t) (find (λ h. bytes_eq name h.name) ts)) (same_t ∙ past) ∙ r.stands;
              renders = r.renders;
              is = r.is;
            }
      ] refl is

  -- none of the witnesses may be named outside `main`
  none_named : (main : Bool) → main ≡ false → AreGiven (if main then witnesses else []) given w
  none_named true h = absurd (cc)
  none_named false h = tt

  pub called : (around : Around) (gs : List Function) (ts : List FunctionTerm) → AllRendered witnesses given w around.functions gs ts → (name : List ℕ) (f : TypedFunction) → IsCalled around name f → Called w gs ts name f
  called around gs ts all name f h =
      let r = found_rendered around.functions gs ts name f all h.is in
      record {
        run = r.run;
        there = r.there;
        run_params = r.renders.meant_params;
        made = r.made;
        stands = r.stands;
        made_params = r.renders.made_params;
        renders = record { from = r.renders.from; to = r.renders.to; typed = r.renders.typed; runs = r.renders.runs (none_named (is_main f.name) (ap is_main (sym r.is) ∙ h.not_main)) };
      }

-- the width of a loop's counter, the third of the parameters
pub width_there : (params : List TypedName) (one two : HlType) (width : ℕ) → map (λ p. p.kind) params ≡ one ∷ two ∷ kind.UInt width ∷ [] → IsTrue (is_counter_width width) → counter_width params ≡ Some width
width_there (a ∷ b ∷ c ∷ []) one two width are counts =
    let same : c.kind ≡ kind.UInt width = cc in ap number_width (ap out-HlType same ∙ kind.outs-UInt width) ∙ rw counts refl
width_there [] one two width are counts = absurd (cc)
width_there (a ∷ []) one two width are counts = absurd (cc)
width_there (a ∷ b ∷ []) one two width are counts = absurd (cc)
width_there (a ∷ b ∷ c ∷ d ∷ es) one two width are counts = absurd (cc)
