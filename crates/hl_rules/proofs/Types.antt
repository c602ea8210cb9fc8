-- What the walk of a written type answers is broken there.
use Rattle.std.proofs.Common.{◌≡◌, ◌<◌, ℕ, Bool, true, false, nat_lt, List, [], ◌∷◌, ◌++◌, map, Option, Some, None, Ok, Err, refl, sym, ap, ◌∙◌, subst, append_assoc, arith, ltb-false, ltb-true}
use Rattle.hl_syntax.specs.declared.kinds.HlType.{HlType}
use Rattle.hl_syntax.specs.declared.kinds.TypedName.{TypedName}
use Rattle.hl_syntax.specs.declared.rules.Limit.TheVariants.{L4}
use Rattle.hl_syntax.specs.declared.token.Mark.{Mark}
use Rattle.hl_syntax.specs.declared.token.Span.{Span}
use Rattle.hl_syntax.specs.declared.tree.Item.{Item}
use Rattle.hl_syntax.specs.declared.tree.TypeForm.{TypeForm, roll-TypeForm}
use Rattle.hl_syntax.specs.declared.tree.TypeForm.TheFolds.{fold-roll-TypeForm, fold_out-TypeText, ind-TypeText, map-TypeForm}
use Rattle.hl_syntax.specs.declared.tree.TypeForm.TheOpen.{TypeForm-F, TypeText-F}
use Rattle.hl_syntax.specs.declared.tree.TypeForm.TheVariants as types
use Rattle.hl_syntax.specs.declared.tree.TypeText.{TypeText, roll-TypeText}
use Rattle.hl_data.specs.declared.value.Entry.{Entry}
use Rattle.simplicity.specs.Limits.{most_weight}
use Rattle.simplicity.specs.Types.{weight}
use Rattle.simplicityhl.specs.Kinds.{form, is_bound, is_count}
use Rattle.simplicityhl.specs.Tokens.{decimal_value}
use Rattle.simplicityhl.specs.Written.{Broken, breaks_limit, Walked, walk, walk_step, then_walk, in_turn, counted, bounded, light, known, named}
use Rattle.hl_rules.specs.Written.{IsWritten, in_tuple, in_array, in_list, in_option, in_left, in_right}
use Rattle.hl_rules.specs.Breaks.{Breaks, made_type, array_length, list_bound, k2, k10, l4_type, l5}
use Rattle.hl_rules.proofs.Fine.{Fine, then_fine}

abbrev pub Any : {A : Type 0} → A → Type 0
Any x = Unit {0}

-- a number above the greatest count
pub counted_fine : (Bad : Broken → Type 0) (mark : Mark) → (65536 < decimal_value mark.text → Bad (breaks_limit L4 mark.span)) → Fine Bad (λ count. count ≡ decimal_value mark.text) (counted mark)
counted_fine Bad mark h = go (is_count (decimal_value mark.text)) refl
  where
    go : (b : Bool) → is_count (decimal_value mark.text) ≡ b → Fine Bad (λ count. count ≡ decimal_value mark.text) (counted mark)
    go true e = rw e refl
    go false e = rw e (h (omega (arith, ltb-false _ _ e)))

module _ (program : List Item) (asked : List ℕ) (entries : List Entry) (edition end : ℕ) (aliases : List TypedName) where
  abbrev Bad : Broken → Type 0
  Bad = Breaks program asked entries edition end

  abbrev FormClaim : TypeForm → Type 0
  FormClaim text = (span : Span) → IsWritten program aliases text span → Fine Bad Any (made_type aliases text span)

  abbrev Claim : TypeText → Type 0
  Claim text = IsWritten program aliases text.form text.span → Fine Bad Any (walk aliases text)

  abbrev ProvedForm : Type 0
  ProvedForm = (text : TypeForm) × FormClaim text

  abbrev Proved : Type 0
  Proved = (text : TypeText) × Claim text

  abbrev text_of : Proved → TypeText
  text_of p = p.0

  abbrev form_of : ProvedForm → TypeForm
  form_of p = p.0

  -- a form by its parts
  made : (layer : TypeForm-F TypeForm TypeText) (text : TypeForm) → roll-TypeForm layer ≡ text →
      ((span : Span) → IsWritten program aliases text span → Fine Bad Any (walk_step aliases (map-TypeForm TypeForm TypeText (Span → Walked) Walked (made_type aliases) (walk aliases) layer) span)) → FormClaim (roll-TypeForm layer)
  made layer text is h =
      subst FormClaim (sym is) (λ span w. subst (λ (f : Span → Walked). Fine Bad Any (f span)) (sym (ap (made_type aliases) (sym is) ∙ fold-roll-TypeForm (Span → Walked) Walked (walk_step aliases) (λ t. then_walk (t.form t.span) (light t.span)) layer)) (h span w))

  parts_fine : (span : Span) (before : List TypeText) (parts : List Proved) (whole : List TypeText) → IsWritten program aliases (types.Tuple whole) span → whole ≡ before ++ map text_of parts →
      Fine Bad Any (in_turn (map (walk aliases) (map text_of parts)))
  parts_fine span before [] whole w is = tt
  parts_fine span before (p ∷ ps) whole w is =
      then_fine Bad Any Any (walk aliases p.0) _
      (p.1 (in_tuple before (map text_of ps) p.0 span (subst (λ (parts : List TypeText). IsWritten program aliases (types.Tuple parts) span) is w)))
      (λ _ _. then_fine Bad Any Any (in_turn (map (walk aliases) (map text_of ps))) _ (parts_fine span (before ++ p.0 ∷ []) ps whole w (is ∙ sym (append_assoc before (p.0 ∷ []) (map text_of ps)))) (λ _ _. tt))

  bounded_fine : (item : TypeText) (bound : Mark) (span : Span) → IsWritten program aliases (types.List item bound) span → (count : ℕ) → count ≡ decimal_value bound.text → Fine Bad Any (bounded bound count)
  bounded_fine item bound span w count is = go (is_bound count) refl
    where
      go : (b : Bool) → is_bound count ≡ b → Fine Bad Any (bounded bound count)
      go true e = rw e tt
      go false e = rw e (k10 aliases item bound span w (rw (sym is, e) refl))

  form_claim : (y : TypeForm-F ProvedForm Proved) → FormClaim (roll-TypeForm (map-TypeForm ProvedForm Proved TypeForm TypeText form_of text_of y))
  form_claim (TypeForm-F.Tuple parts) =
      made (TypeForm-F.Tuple (map text_of parts)) (types.Tuple (map text_of parts)) (types.rolls-Tuple (map text_of parts))
      (λ span w. then_fine Bad Any Any (in_turn (map (walk aliases) (map text_of parts))) _ (parts_fine span [] parts (map text_of parts) w refl) (λ _ _. tt))
  form_claim (TypeForm-F.Array item length) =
      made (TypeForm-F.Array item.0 length) (types.Array item.0 length) (types.rolls-Array item.0 length)
      (λ span w. then_fine Bad Any Any (walk aliases item.0) _ (item.1 (in_array item.0 length span w))
      (λ _ _. then_fine Bad (λ count. count ≡ decimal_value length.text) Any (counted length) _ (counted_fine Bad length (l4_type aliases (types.Array item.0 length) span length w (array_length item.0 length))) (λ _ _. tt)))
  form_claim (TypeForm-F.List item bound) =
      made (TypeForm-F.List item.0 bound) (types.List item.0 bound) (types.rolls-List item.0 bound)
      (λ span w. then_fine Bad Any Any (walk aliases item.0) _ (item.1 (in_list item.0 bound span w))
      (λ _ _. then_fine Bad (λ count. count ≡ decimal_value bound.text) Any (counted bound) _ (counted_fine Bad bound (l4_type aliases (types.List item.0 bound) span bound w (list_bound item.0 bound)))
      (λ count is. then_fine Bad Any Any (bounded bound count) _ (bounded_fine item.0 bound span w count is) (λ _ _. tt))))
  form_claim (TypeForm-F.Option item) =
      made (TypeForm-F.Option item.0) (types.Option item.0) (types.rolls-Option item.0)
      (λ span w. then_fine Bad Any Any (walk aliases item.0) _ (item.1 (in_option item.0 span w)) (λ _ _. tt))
  form_claim (TypeForm-F.Either left right) =
      made (TypeForm-F.Either left.0 right.0) (types.Either left.0 right.0) (types.rolls-Either left.0 right.0)
      (λ span w. then_fine Bad Any Any (walk aliases left.0) _ (left.1 (in_left left.0 right.0 span w))
      (λ _ _. then_fine Bad Any Any (walk aliases right.0) _ (right.1 (in_right left.0 right.0 span w)) (λ _ _. tt)))
  form_claim (TypeForm-F.Name name) =
      made (TypeForm-F.Name name) (types.Name name) (types.rolls-Name name) (λ span w. go span w (named aliases name) refl)
    where
      go : (span : Span) → IsWritten program aliases (types.Name name) span → (found : Option HlType) → named aliases name ≡ found → Fine Bad Any (known span found)
      go span w (Some k) e = tt
      go span w None e = k2 aliases name span w e

  heavy : (text : TypeForm) (span : Span) → IsWritten program aliases text span → (k : HlType) → made_type aliases text span ≡ Ok k → Fine Bad Any (light span k)
  heavy text span w k made = go (nat_lt most_weight (weight (form k))) refl
    where
      go : (b : Bool) → nat_lt most_weight (weight (form k)) ≡ b → Fine Bad Any (light span k)
      go true e = rw e (l5 aliases text span k w made (ltb-true _ _ e))
      go false e = rw e tt

  text_claim : (text : TypeText) → FormClaim text.form → Claim text
  text_claim text claim w = rw (fold_out-TypeText (Span → Walked) Walked (walk_step aliases) (λ t. then_walk (t.form t.span) (light t.span)) text) (go (made_type aliases text.form text.span) refl)
    where
      go : (r : Walked) → made_type aliases text.form text.span ≡ r → Fine Bad Any (then_walk r (light text.span))
      go (Ok k) e = heavy text.form text.span w k e
      go (Err b) e = let h = claim text.span w in rw e at h

  pub type_fine : (text : TypeText) → Claim text
  type_fine = ind-TypeText FormClaim Claim (λ x y is. subst (λ z. FormClaim (roll-TypeForm z)) is (form_claim y)) (λ x y is. text_claim (roll-TypeText x) (subst (λ (t : TypeText-F TypeForm TypeText). FormClaim t.form) is y.form.1))
