-- The terms of typed expressions are typed, and what made them of the terms of their parts.
use Rattle.std.proofs.Common.{◌≡◌, ℕ, zero, suc, ◌≤◌, ◌<◌, length, List, [], ◌∷◌, ◌++◌, map, take, drop, reverse, Option, Some, None, option_map, refl, sym, ap, ◌∙◌, subst, arith}
use Rattle.hl_data.specs.declared.typed.TypedExpr.{TypedExpr}
use Rattle.hl_expansions.specs.Expansions.{expansions}
use Rattle.hl_syntax.specs.declared.kinds.HlType.{HlType}
use Rattle.hl_syntax.specs.declared.kinds.TypedName.{TypedName}
use Rattle.hl_terms.specs.Shapes.{kind_of, variables_of}
use Rattle.hl_terms.specs.Translated.{translated}
use Rattle.hl_typing.specs.Typing.{Typed, ExprAt}
use Rattle.layout_laws.proofs.Scopes.{layouts_stand}
use Rattle.layout_laws.specs.Laws.{StandsFor}
use Rattle.layout_laws.specs.Scopes.{scope_shape}
use Rattle.scope_layout.specs.Layers.{Scopes}
use Rattle.simplicity.specs.Arrows.{IsTypedFrom, IsTypedTerm}
use Rattle.simplicity.specs.Canon.{Declared}
use Rattle.simplicityhl.specs.Kinds.{form}
use Rattle.translate.specs.Fits.{Known, Stands, FitsAt, Fits}
use Rattle.translate.specs.Here.{around_of, name_of, witnesses_in, before_of, IsReady, term_in}
use Rattle.translate.specs.declared.place.Place.{Place}

module _ (p : Place) (scopes : Scopes) where
  pub typed_at : (names : List TypedName) → Stands p scopes names → (k : HlType) (e : TypedExpr) → Typed (around_of p) (ExprAt names k e) → IsTypedFrom (term_in p (scope_shape scopes) e) (kind_of (scope_shape scopes)) (form k)
  typed_at names s k e h =
      let same = (layouts_stand scopes names s.bound s.variables s.witnesses).variables_are in
      s.known.law p.program.now.edition (witnesses_in p) (before_of p) (name_of p) (scope_shape scopes) k e s.known.typed s.binds (subst (λ ns. Typed (around_of p) (ExprAt ns k e)) (sym same) h)

  pub typed_here : (e : TypedExpr) → Fits p scopes e → IsTypedTerm (term_in p (scope_shape scopes) e)
  typed_here e f = (typed_at f.names f.stands e.kind e f.typed).typed
