-- The walk of an expression at a place of the program.
use Rattle.std.proofs.Common.{◌≡◌, ℕ, ◌&&◌, Bool, true, false, not, List, [], ◌∷◌, ◌++◌, length, map, flat_map, bytes_eq, option_map, refl, sym, ap, ◌∙◌, subst, append_assoc, append-nil, arith, length-append, if◌then◌else◌}
use Rattle.std.proofs.lemmas.List.{map-append, length-map}
use Rattle.hl_syntax.specs.declared.kinds.HlType.{HlType}
use Rattle.hl_syntax.specs.declared.kinds.TypedName.{TypedName}
use Rattle.hl_syntax.specs.declared.rules.Rule.{Rule}
use Rattle.hl_syntax.specs.declared.rules.Rule.TheVariants.{K6, K23}
use Rattle.hl_syntax.specs.declared.token.Mark.{Mark}
use Rattle.hl_syntax.specs.declared.token.Span.{Span}
use Rattle.hl_syntax.specs.declared.tree.Expr.{Expr}
use Rattle.hl_syntax.specs.declared.tree.ExprForm.{ExprForm}
use Rattle.hl_syntax.specs.declared.tree.ExprForm.TheVariants as exprs
use Rattle.hl_syntax.specs.declared.tree.Item.{Item}
use Rattle.hl_data.specs.declared.typed.TypedFunction.{TypedFunction}
use Rattle.hl_data.specs.declared.value.Entry.{Entry}
use Rattle.simplicityhl.specs.Written.{Broken, breaks_rule}
use Rattle.hl_rules.specs.Before.{Signature, signature_named}
use Rattle.hl_rules.specs.Breaks.{Breaks, Misfits, k6, k23}
use Rattle.hl_rules.specs.Exprs.{FormWalk, expr_walk, parts_walk, items_walk}
use Rattle.hl_rules.specs.Occurs.{Place, Occurs, HasParts, part}
use Rattle.hl_rules.specs.Places.{Context, Scope, function_named, is_main}
use Rattle.hl_rules.specs.Witnesses.{Names, expr_names}
use Rattle.hl_rules.proofs.Fine.{Fine, then_fine}
use Rattle.hl_rules.proofs.Names.{names_of, flat_more}

abbrev pub signature_of : TypedFunction → Signature
signature_of f = record { name = f.name; params = f.params; result = f.result }

pub signature_found : (functions : List TypedFunction) (name : List ℕ) → signature_named (map signature_of functions) name ≡ option_map signature_of (function_named functions name)
signature_found [] name = refl
signature_found (f ∷ functions) name = go (bytes_eq name f.name && not (is_main f.name)) refl (signature_found functions name)
  where
    go : (b : Bool) → (bytes_eq name f.name && not (is_main f.name)) ≡ b → signature_named (map signature_of functions) name ≡ option_map signature_of (function_named functions name) →
        signature_named (map signature_of (f ∷ functions)) name ≡ option_map signature_of (function_named (f ∷ functions) name)
    go true e rest = rw e refl
    go false e rest = rw e rest

-- the rule by which an expression is named
abbrev pub rule_of : Bool → Rule
rule_of alone = if alone then K23 else K6

-- each witness that was met stands at a place of the program, at its type and after those that were met before it
pub data AreMet (program : List Item) : List TypedName → Type 0 where
  none_met : AreMet program []
  one_met : (met : List TypedName) (at : Place) (mark : Mark) (span : Span) → AreMet program met → Occurs program at (exprs.Witness mark) span →
      at.witnesses ≡ names_of met → AreMet program (met ++ record { name = mark.text; kind = at.expected } ∷ [])

-- the witnesses that were met: their names, and that they stand there
pub record Met (program : List Item) (names : Names) (met : List TypedName) : Type 0 where
  pub named : names_of met ≡ names
  pub stand : AreMet program met

pub nothing_met : (program : List Item) → Met program [] []
nothing_met program = record { named = refl; stand = none_met }

-- the same by other words for their names
infixl 2 ◌⊙◌
pub ◌⊙◌ : {program : List Item} {names others : Names} {met : List TypedName} → Met program names met → names ≡ others → Met program others met
m ⊙ same = record { named = m.named ∙ same; stand = m.stand }

-- what moves on the way through a body: the place, and the witnesses that were met
pub record Here (program : List Item) : Type 0 where
  pub scope : Scope
  pub expected : HlType
  pub alone : Bool
  pub before : Names
  pub met : List TypedName
  pub named : Met program before met

-- the witnesses that were met are of these names now
abbrev pub Meets : {A : Type 0} → List Item → Names → A × List TypedName → Type 0
Meets program names found = Met program names found.1

-- what stays: the program, what it is asked for, and what is known at a function's body
pub record Setting : Type 0 where
  pub program : List Item
  pub asked : List ℕ
  pub entries : List Entry
  pub end : ℕ
  pub aliases : List TypedName
  pub functions : List TypedFunction
  pub in_main : Bool
  pub edition : ℕ

module _ (s : Setting) where
  abbrev pub Bad : Broken → Type 0
  Bad = Breaks s.program s.asked s.entries s.edition s.end

  abbrev pub context : Context
  context = record { aliases = s.aliases; functions = s.functions; entries = s.entries; in_main = s.in_main; edition = s.edition }

  abbrev pub place : Here s.program → Place
  place h = record { aliases = s.aliases; functions = map signature_of s.functions; in_main = s.in_main; scope = h.scope; expected = h.expected; stands_alone = h.alone; witnesses = h.before }

  abbrev pub At : FormWalk → Names → ExprForm → Type 0
  At walk names form = (span : Span) (h : Here s.program) → Occurs s.program (place h) form span → Fine Bad (Meets s.program (h.before ++ names)) (walk span h.scope h.expected (rule_of h.alone) h.met)

  abbrev pub Claim : Expr → Type 0
  Claim e = (h : Here s.program) → Occurs s.program (place h) e.form e.span → Fine Bad (Meets s.program (h.before ++ expr_names e)) (expr_walk context e h.scope h.expected (rule_of h.alone) h.met)

  abbrev pub Proved : Type 0
  Proved = (e : Expr) × Claim e

  abbrev pub expr_of : Proved → Expr
  expr_of p = p.0

  abbrev pub exprs_of : List Proved → List Expr
  exprs_of ps = map expr_of ps

  pub misfit : (span : Span) (h : Here s.program) (form : ExprForm) → Occurs s.program (place h) form span → Misfits (place h) form → Bad (breaks_rule (rule_of h.alone) span)
  misfit span h form at wrong = go h.alone refl
    where
      go : (b : Bool) → h.alone ≡ b → Bad (breaks_rule (rule_of h.alone) span)
      go true e = rw e (k23 (place h) form span at wrong e)
      go false e = rw e (k6 (place h) form span at wrong e)

  -- a part that is checked at a type
  pub one_part : (span : Span) (h : Here s.program) (form : ExprForm) → Occurs s.program (place h) form span → (p : Proved) (kind : HlType) → HasParts (place h) form (p.0 ∷ []) (kind ∷ []) →
      Fine Bad (Meets s.program (h.before ++ expr_names p.0)) (expr_walk context p.0 h.scope kind K6 h.met)
  one_part span h form at p kind has =
      p.1 (record { scope = h.scope; expected = kind; alone = false; before = h.before; met = h.met; named = h.named })
      (subst (λ (names : Names). Occurs s.program (record { aliases = s.aliases; functions = map signature_of s.functions; in_main = s.in_main; scope = h.scope; expected = kind; stands_alone = false; witnesses = names }) (p.0).form (p.0).span)
      (append-nil h.before) (part (place h) form span [] [] p.0 [] [] kind at has refl))

  -- parts from a place on, after those before
  pub parts_fine : (span : Span) (h : Here s.program) (form : ExprForm) → Occurs s.program (place h) form span → (whole : List Expr) (kinds : List HlType) → HasParts (place h) form whole kinds →
      (before : List Expr) (parts : List Proved) (past left : List HlType) → whole ≡ before ++ exprs_of parts → kinds ≡ past ++ left → length before ≡ length past → length parts ≡ length left →
      (met : List TypedName) → Met s.program (h.before ++ flat_map expr_names before) met → Fine Bad (Meets s.program (h.before ++ flat_map expr_names whole)) (parts_walk (map (expr_walk context) (exprs_of parts)) left h.scope met)
  parts_fine span h form at whole kinds has before [] past left is these long short met named = named ⊙ ap (λ es. h.before ++ flat_map expr_names es) (sym (is ∙ append-nil before))
  parts_fine span h form at whole kinds has before (p ∷ ps) past [] is these long short met named = absurd (omega arith)
  parts_fine span h form at whole kinds has before (p ∷ ps) past (k ∷ ks) is these long short met named =
      then_fine Bad (Meets s.program ((h.before ++ flat_map expr_names before) ++ expr_names p.0)) (Meets s.program (h.before ++ flat_map expr_names whole)) (expr_walk context p.0 h.scope k K6 met) _
      (p.1 (record { scope = h.scope; expected = k; alone = false; before = h.before ++ flat_map expr_names before; met = met; named = named })
      (part (place h) form span before (exprs_of ps) p.0 past ks k at (subst (λ (es : List Expr). HasParts (place h) form es (past ++ k ∷ ks)) is (subst (λ (kinds : List HlType). HasParts (place h) form whole kinds) these has)) long))
      (λ first after. then_fine Bad (Meets s.program (h.before ++ flat_map expr_names whole)) (Meets s.program (h.before ++ flat_map expr_names whole)) (parts_walk (map (expr_walk context) (exprs_of ps)) ks h.scope first.1) _
      (parts_fine span h form at whole kinds has (before ++ p.0 ∷ []) ps (past ++ k ∷ []) ks (is ∙ sym (append_assoc before (p.0 ∷ []) (exprs_of ps))) (these ∙ sym (append_assoc past (k ∷ []) ks))
      (omega (arith, length-append before (p.0 ∷ []), length-append past (k ∷ []))) (omega arith) first.1 (after ⊙ flat_more expr_names before p.0 h.before))
      (λ rest done. done))

  pub items_fine : (span : Span) (h : Here s.program) (form : ExprForm) → Occurs s.program (place h) form span → (whole : List Expr) (item : HlType) → HasParts (place h) form whole (map (λ _. item) whole) →
      (before : List Expr) (parts : List Proved) → whole ≡ before ++ exprs_of parts →
      (met : List TypedName) → Met s.program (h.before ++ flat_map expr_names before) met → Fine Bad (Meets s.program (h.before ++ flat_map expr_names whole)) (items_walk (map (expr_walk context) (exprs_of parts)) item h.scope met)
  items_fine span h form at whole item has before [] is met named = named ⊙ ap (λ es. h.before ++ flat_map expr_names es) (sym (is ∙ append-nil before))
  items_fine span h form at whole item has before (p ∷ ps) is met named =
      then_fine Bad (Meets s.program ((h.before ++ flat_map expr_names before) ++ expr_names p.0)) (Meets s.program (h.before ++ flat_map expr_names whole)) (expr_walk context p.0 h.scope item K6 met) _
      (p.1 (record { scope = h.scope; expected = item; alone = false; before = h.before ++ flat_map expr_names before; met = met; named = named })
      (part (place h) form span before (exprs_of ps) p.0 (map (λ _. item) before) (map (λ _. item) (exprs_of ps)) item at
      (subst (λ (es : List Expr). HasParts (place h) form es (map (λ _. item) before ++ item ∷ map (λ _. item) (exprs_of ps))) is
      (subst (λ (kinds : List HlType). HasParts (place h) form whole kinds) (ap (map (λ _. item)) is ∙ map-append (λ _. item) before (p.0 ∷ exprs_of ps)) has))
      (sym (length-map before (λ _. item)))))
      (λ first after. then_fine Bad (Meets s.program (h.before ++ flat_map expr_names whole)) (Meets s.program (h.before ++ flat_map expr_names whole)) (items_walk (map (expr_walk context) (exprs_of ps)) item h.scope first.1) _
      (items_fine span h form at whole item has (before ++ p.0 ∷ []) ps (is ∙ sym (append_assoc before (p.0 ∷ []) (exprs_of ps))) first.1 (after ⊙ flat_more expr_names before p.0 h.before))
      (λ rest done. done))
