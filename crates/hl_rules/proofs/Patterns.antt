-- What the walk of a pattern answers is broken there, and it binds the pattern's names.
use Rattle.std.proofs.Common.{◌≡◌, ℕ, Bool, true, false, not, nat_eq, List, [], ◌∷◌, ◌++◌, length, map, flat_map, Some, refl, sym, ap, ◌∙◌, subst, append_assoc, append-nil, arith, length-append}
use Rattle.std.proofs.lemmas.Bool.{eqb-true, eqb-false}
use Rattle.std.proofs.lemmas.List.{length-map}
use Rattle.hl_syntax.specs.declared.kinds.HlType.{HlType}
use Rattle.hl_syntax.specs.declared.rules.Rule.TheVariants.{K5, K6, K8, K24}
use Rattle.hl_syntax.specs.declared.token.Span.{Span}
use Rattle.hl_syntax.specs.declared.tree.Item.{Item}
use Rattle.hl_syntax.specs.declared.tree.Pattern.{Pattern, roll-Pattern}
use Rattle.hl_syntax.specs.declared.tree.PatternForm.{PatternForm, roll-PatternForm}
use Rattle.hl_syntax.specs.declared.tree.PatternForm.TheFolds.{fold-PatternForm, fold-roll-PatternForm, fold_out-Pattern, ind-Pattern, map-PatternForm}
use Rattle.hl_syntax.specs.declared.tree.PatternForm.TheOpen.{PatternForm-F, Pattern-F}
use Rattle.hl_syntax.specs.declared.tree.PatternForm.TheVariants as patterns
use Rattle.hl_data.specs.declared.value.Entry.{Entry}
use Rattle.simplicityhl.specs.Grammar.{is_among}
use Rattle.simplicityhl.specs.Written.{Broken}
use Rattle.hl_rules.specs.Breaks.{Breaks, k5_pattern, k6_tuple_pattern, k6_array_pattern, k8_tuple_pattern, k8_array_pattern, k24_pattern}
use Rattle.hl_rules.specs.Names.{is_reserved, variable_words}
use Rattle.hl_rules.specs.Written.{IsMatched, by_tuple, by_array, pattern_names, pattern_names_step}
use Rattle.hl_rules.specs.Patterns.{PatternWalk, pattern_walk, pattern_step, patterns_walk, items_walk}
use Rattle.hl_rules.specs.Places.{Scope, has_name}
use Rattle.hl_rules.specs.Same.{parts_of, array_of}
use Rattle.hl_rules.specs.Witnesses.{Names, joined}
use Rattle.hl_rules.proofs.Fine.{Fine, then_fine, after_needs, after_wants}
use Rattle.hl_rules.proofs.Names.{names_of, has_among, named_more, joined_map, flat_more}

module _ (program : List Item) (asked : List ℕ) (entries : List Entry) (edition end : ℕ) where
  abbrev Bad : Broken → Type 0
  Bad = Breaks program asked entries edition end

  abbrev form_walk : PatternForm → Span → PatternWalk
  form_walk form = fold-PatternForm (Span → PatternWalk) PatternWalk pattern_step (λ p. p.form p.span) form

  abbrev form_names : PatternForm → Names
  form_names form = fold-PatternForm Names Names pattern_names_step (λ p. p.form) form

  abbrev Binds : Names → Scope → Type 0
  Binds names found = names_of found ≡ names

  abbrev At : (Span → PatternWalk) → Names → PatternForm → Type 0
  At walk names form = (span : Span) (kind : HlType) (bound : Scope) (before : Names) → names_of bound ≡ before → IsMatched program form span kind before → Fine Bad (Binds (before ++ names)) (walk span kind bound)

  abbrev FormClaim : PatternForm → Type 0
  FormClaim form = At (form_walk form) (form_names form) form

  abbrev Claim : Pattern → Type 0
  Claim p = (kind : HlType) (bound : Scope) (before : Names) → names_of bound ≡ before → IsMatched program p.form p.span kind before → Fine Bad (Binds (before ++ pattern_names p)) (pattern_walk p kind bound)

  abbrev ProvedForm : Type 0
  ProvedForm = (form : PatternForm) × FormClaim form

  abbrev Proved : Type 0
  Proved = (p : Pattern) × Claim p

  abbrev pattern_of : Proved → Pattern
  pattern_of p = p.0

  abbrev form_of : ProvedForm → PatternForm
  form_of p = p.0

  abbrev patterns_of : List Proved → List Pattern
  patterns_of ps = map pattern_of ps

  -- a form by its parts
  made : (layer : PatternForm-F PatternForm Pattern) (form : PatternForm) → roll-PatternForm layer ≡ form →
      At (pattern_step (map-PatternForm PatternForm Pattern (Span → PatternWalk) PatternWalk form_walk pattern_walk layer)) (pattern_names_step (map-PatternForm PatternForm Pattern Names Names form_names pattern_names layer)) form →
      FormClaim (roll-PatternForm layer)
  made layer form is h =
      let walks = fold-roll-PatternForm (Span → PatternWalk) PatternWalk pattern_step (λ p. p.form p.span) layer in
      let names = fold-roll-PatternForm Names Names pattern_names_step (λ p. p.form) layer in
      subst (λ (w : Span → PatternWalk). At w (form_names (roll-PatternForm layer)) (roll-PatternForm layer)) (sym walks)
      (subst (λ (n : Names). At (pattern_step (map-PatternForm PatternForm Pattern (Span → PatternWalk) PatternWalk form_walk pattern_walk layer)) n (roll-PatternForm layer)) (sym names)
      (subst (At (pattern_step (map-PatternForm PatternForm Pattern (Span → PatternWalk) PatternWalk form_walk pattern_walk layer)) (pattern_names_step (map-PatternForm PatternForm Pattern Names Names form_names pattern_names layer))) (sym is) h))

  module _ (span : Span) (kind : HlType) (names : Names) (whole : List Pattern) where
    -- the names of all parts
    all_named : (before : List Pattern) → whole ≡ before ++ [] → (bound : Scope) → names_of bound ≡ names ++ flat_map pattern_names before → names_of bound ≡ names ++ joined (map pattern_names whole)
    all_named before is bound named = named ∙ ap (λ ns. names ++ ns) (ap (flat_map pattern_names) (sym (is ∙ append-nil before)) ∙ sym (joined_map pattern_names whole))

    tuple_fine : (kinds : List HlType) → IsMatched program (patterns.Tuple whole) span kind names → parts_of kind ≡ Some kinds → (before : List Pattern) (parts : List Proved) (past left : List HlType) →
        whole ≡ before ++ patterns_of parts → kinds ≡ past ++ left → length before ≡ length past → length parts ≡ length left → (bound : Scope) → names_of bound ≡ names ++ flat_map pattern_names before →
        Fine Bad (Binds (names ++ joined (map pattern_names whole))) (patterns_walk (map pattern_walk (patterns_of parts)) left bound)
    tuple_fine kinds at shape before [] past left is these long short bound named = all_named before is bound named
    tuple_fine kinds at shape before (p ∷ ps) past [] is these long short bound named = absurd (omega arith)
    tuple_fine kinds at shape before (p ∷ ps) past (k ∷ ks) is these long short bound named =
        then_fine Bad (Binds ((names ++ flat_map pattern_names before) ++ pattern_names p.0)) (Binds (names ++ joined (map pattern_names whole))) (pattern_walk p.0 k bound) _
        (p.1 k bound (names ++ flat_map pattern_names before) named
        (by_tuple before (patterns_of ps) p.0 span kind k past ks names (subst (λ (parts : List Pattern). IsMatched program (patterns.Tuple parts) span kind names) is at) (shape ∙ ap Some these) long))
        (λ more found. tuple_fine kinds at shape (before ++ p.0 ∷ []) ps (past ++ k ∷ []) ks (is ∙ sym (append_assoc before (p.0 ∷ []) (patterns_of ps))) (these ∙ sym (append_assoc past (k ∷ []) ks)) (omega (arith, length-append before (p.0 ∷ []), length-append past (k ∷ []))) (omega arith) more
        (found ∙ flat_more pattern_names before p.0 names))

    array_fine : (item : HlType) (count : ℕ) → IsMatched program (patterns.Array whole) span kind names → array_of kind ≡ Some (item, count) → (before : List Pattern) (parts : List Proved) →
        whole ≡ before ++ patterns_of parts → (bound : Scope) → names_of bound ≡ names ++ flat_map pattern_names before →
        Fine Bad (Binds (names ++ joined (map pattern_names whole))) (items_walk (map pattern_walk (patterns_of parts)) item bound)
    array_fine item count at shape before [] is bound named = all_named before is bound named
    array_fine item count at shape before (p ∷ ps) is bound named =
        then_fine Bad (Binds ((names ++ flat_map pattern_names before) ++ pattern_names p.0)) (Binds (names ++ joined (map pattern_names whole))) (pattern_walk p.0 item bound) _
        (p.1 item bound (names ++ flat_map pattern_names before) named
        (by_array before (patterns_of ps) p.0 span kind item count names (subst (λ (parts : List Pattern). IsMatched program (patterns.Array parts) span kind names) is at) shape))
        (λ more found. array_fine item count at shape (before ++ p.0 ∷ []) ps (is ∙ sym (append_assoc before (p.0 ∷ []) (patterns_of ps))) more (found ∙ flat_more pattern_names before p.0 names))

  not_false : (b : Bool) → not b ≡ false → b ≡ true
  not_false true e = refl
  not_false false e = cc

  form_claim : (y : PatternForm-F ProvedForm Proved) → FormClaim (roll-PatternForm (map-PatternForm ProvedForm Proved PatternForm Pattern form_of pattern_of y))
  form_claim (PatternForm-F.Name name) =
      made (PatternForm-F.Name name) (patterns.Name name) (patterns.rolls-Name name)
      (λ span kind bound before named at. after_needs Bad (Binds (before ++ name ∷ [])) (not (is_reserved variable_words name)) K24 span _ (λ e. k24_pattern name span kind before at (not_false (is_reserved variable_words name) e))
      (λ _. after_needs Bad (Binds (before ++ name ∷ [])) (not (has_name bound name)) K5 span _
      (λ e. k5_pattern name span kind before at (ap (λ ns. is_among ns name) (sym named) ∙ sym (has_among bound name) ∙ not_false (has_name bound name) e))
      (λ _. named_more bound (record { name = name; kind = kind }) before named)))
  form_claim PatternForm-F.Ignore = made PatternForm-F.Ignore patterns.Ignore patterns.rolls-Ignore (λ span kind bound before named at. named ∙ sym (append-nil before))
  form_claim (PatternForm-F.Tuple parts) =
      made (PatternForm-F.Tuple (patterns_of parts)) (patterns.Tuple (patterns_of parts)) (patterns.rolls-Tuple (patterns_of parts))
      (λ span kind bound before named at. after_wants Bad (Binds (before ++ joined (map pattern_names (patterns_of parts)))) (parts_of kind) K6 span _ (k6_tuple_pattern (patterns_of parts) span kind before at)
      (λ kinds shape. after_needs Bad (Binds (before ++ joined (map pattern_names (patterns_of parts)))) (nat_eq (length (map pattern_walk (patterns_of parts))) (length kinds)) K8 span _
      (λ e. k8_tuple_pattern (patterns_of parts) span kind before kinds at shape (let other = eqb-false _ _ e in rw (length-map (patterns_of parts) pattern_walk) at other))
      (λ e. tuple_fine span kind before (patterns_of parts) kinds at shape [] parts [] kinds refl refl refl (sym (length-map parts pattern_of) ∙ sym (length-map (patterns_of parts) pattern_walk) ∙ eqb-true _ _ e) bound (named ∙ sym (append-nil before)))))
  form_claim (PatternForm-F.Array parts) =
      made (PatternForm-F.Array (patterns_of parts)) (patterns.Array (patterns_of parts)) (patterns.rolls-Array (patterns_of parts))
      (λ span kind bound before named at. after_wants Bad (Binds (before ++ joined (map pattern_names (patterns_of parts)))) (array_of kind) K6 span _ (k6_array_pattern (patterns_of parts) span kind before at)
      (λ array shape. after_needs Bad (Binds (before ++ joined (map pattern_names (patterns_of parts)))) (nat_eq (length (map pattern_walk (patterns_of parts))) array.1) K8 span _
      (λ e. k8_array_pattern (patterns_of parts) span kind before array.0 array.1 at shape (let other = eqb-false _ _ e in rw (length-map (patterns_of parts) pattern_walk) at other))
      (λ e. array_fine span kind before (patterns_of parts) array.0 array.1 at shape [] parts refl bound (named ∙ sym (append-nil before)))))

  pattern_claim : (p : Pattern) → FormClaim p.form → Claim p
  pattern_claim p claim kind bound before named at =
      let walks = fold_out-Pattern (Span → PatternWalk) PatternWalk pattern_step (λ p. p.form p.span) p in
      let names = fold_out-Pattern Names Names pattern_names_step (λ p. p.form) p in
      subst (λ (w : PatternWalk). Fine Bad (Binds (before ++ pattern_names p)) (w kind bound)) (sym walks)
      (subst (λ (n : Names). Fine Bad (Binds (before ++ n)) (form_walk p.form p.span kind bound)) (sym names) (claim p.span kind bound before named at))

  pub pattern_fine : (p : Pattern) → Claim p
  pattern_fine = ind-Pattern FormClaim Claim (λ x y is. subst (λ z. FormClaim (roll-PatternForm z)) is (form_claim y)) (λ x y is. pattern_claim (roll-Pattern x) (subst (λ (p : Pattern-F PatternForm Pattern). FormClaim p.form) is y.form.1))
