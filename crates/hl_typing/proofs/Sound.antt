-- Types that are written are sound.
use Rattle.std.proofs.Common.{◌≡◌, ℕ, Bool, true, false, ◌&&◌, nat_lt, List, [], ◌∷◌, map, find, Option, Some, None, option_map, bytes_eq, Ok, Err, refl, sym, ap, ◌∙◌, subst, IsTrue, codes, if◌then◌else◌}
use Rattle.std.specs.List.{list_all}
use Rattle.hl_syntax.specs.declared.kinds.HlType.{HlType}
use Rattle.hl_syntax.specs.declared.kinds.HlType.TheOpen.{HlType-F}
use Rattle.hl_syntax.specs.declared.kinds.HlType.TheFolds.{fold_out-HlType}
use Rattle.hl_syntax.specs.declared.kinds.HlType.TheViews.{out-HlType}
use Rattle.hl_syntax.specs.declared.kinds.HlType.TheVariants as kind
use Rattle.hl_syntax.specs.declared.kinds.HlType.{map-HlType}
use Rattle.hl_syntax.specs.declared.kinds.TypedName.{TypedName}
use Rattle.hl_syntax.specs.declared.token.Mark.{Mark}
use Rattle.hl_syntax.specs.declared.token.Span.{Span}
use Rattle.hl_syntax.specs.declared.tree.TypeForm.{TypeForm, roll-TypeForm, map-TypeForm}
use Rattle.hl_syntax.specs.declared.tree.TypeText.{TypeText, roll-TypeText, map-TypeText}
use Rattle.hl_syntax.specs.declared.tree.TypeForm.TheOpen.{TypeForm-F, TypeText-F}
use Rattle.hl_syntax.specs.declared.tree.TypeForm.TheFolds.{fold-TypeForm, fold-roll-TypeForm, fold-roll-TypeText, ind-TypeText}
use Rattle.simplicity.specs.Types.{weight}
use Rattle.simplicityhl.specs.Kinds.{form, IsSound, sound_step, is_width, is_count, is_bound}
use Rattle.simplicityhl.specs.Tokens.{decimal_value}
use Rattle.simplicityhl.specs.Written.{Broken, Walked, walk, walk_step, then_walk, in_turn, counted, bounded, light, known, named, or_else, width_names}
use Rattle.simplicityhl.specs.Kinds.{is_sound}
use Rattle.hl_typing.proofs.Every.{Every, every_found}
use Rattle.hl_typing.proofs.Same.{both_true}
use Rattle.hl_typing.proofs.Steps.{ran, ok_same}

pub and_true : (a b : Bool) → a ≡ true → b ≡ true → a && b ≡ true
and_true true b h k = k
and_true false b h k = cc

-- a type by one layer of it

sound_layer : (x : HlType-F HlType) (k : HlType) → out-HlType k ≡ x → is_sound k ≡ sound_step (map-HlType HlType Bool is_sound x)
sound_layer x k is = fold_out-HlType Bool sound_step k ∙ ap (λ y. sound_step (map-HlType HlType Bool is_sound y)) is

pub closed_sound : (x : HlType-F HlType) (k : HlType) → out-HlType k ≡ x → IsTrue (sound_step (map-HlType HlType Bool is_sound x)) → IsSound k
closed_sound x k is h = sound_layer x k is ∙ h

pub opened_sound : (x : HlType-F HlType) (k : HlType) → out-HlType k ≡ x → IsSound k → IsTrue (sound_step (map-HlType HlType Bool is_sound x))
opened_sound x k is h = sym (sound_layer x k is) ∙ h

pub bool_sound : IsSound kind.Bool
bool_sound = closed_sound HlType-F.Bool kind.Bool kind.outs-Bool refl

pub unit_sound : IsSound (kind.Tuple [])
unit_sound = closed_sound (HlType-F.Tuple []) (kind.Tuple []) (kind.outs-Tuple []) refl

pub word_sound : (width : ℕ) → IsTrue (is_width width) → IsSound (kind.UInt width)
word_sound width h = closed_sound (HlType-F.UInt width) (kind.UInt width) (kind.outs-UInt width) h

pub option_sound : (item : HlType) → IsSound item → IsSound (kind.Option item)
option_sound item h = closed_sound (HlType-F.Option item) (kind.Option item) (kind.outs-Option item) h

pub either_sound : (left right : HlType) → IsSound left → IsSound right → IsSound (kind.Either left right)
either_sound left right h k = closed_sound (HlType-F.Either left right) (kind.Either left right) (kind.outs-Either left right) (and_true (is_sound left) (is_sound right) h k)

pub list_sound : (item : HlType) (bound : ℕ) → IsSound item → IsTrue (is_bound bound) → IsSound (kind.List item bound)
list_sound item bound h k = closed_sound (HlType-F.List item bound) (kind.List item bound) (kind.outs-List item bound) (and_true (is_sound item) (is_bound bound) h k)

pub array_sound : (item : HlType) (count : ℕ) → IsSound item → IsTrue (is_count count) → IsSound (kind.Array item count)
array_sound item count h k = closed_sound (HlType-F.Array item count) (kind.Array item count) (kind.outs-Array item count) (and_true (is_sound item) (is_count count) h k)

pub parts_sound : (ks : List HlType) → IsTrue (list_all (λ part. part) (map is_sound ks)) → Every IsSound ks
parts_sound [] h = tt
parts_sound (k ∷ ks) h = let both = both_true (is_sound k) (list_all (λ part. part) (map is_sound ks)) h in (both.0, parts_sound ks both.1)

all_sound : (ks : List HlType) → Every IsSound ks → IsTrue (list_all (λ part. part) (map is_sound ks))
all_sound [] h = refl
all_sound (k ∷ ks) h = and_true (is_sound k) (list_all (λ part. part) (map is_sound ks)) h.0 (all_sound ks h.1)

-- The walk of a written type.

if_ok : {A : Type 0} (b : Bool) (x y : A) (broken : Broken) → (if b then Ok x else Err broken) ≡ Ok y → (b ≡ true) × (x ≡ y)
if_ok true x y broken h = (refl, ok_same h)
if_ok false x y broken h = absurd (cc)

if_not : {A : Type 0} (b : Bool) (x y : A) (broken : Broken) → (if b then Err broken else Ok x) ≡ Ok y → x ≡ y
if_not true x y broken h = absurd (cc)
if_not false x y broken h = ok_same h

pub counted_is : (mark : Mark) (n : ℕ) → counted mark ≡ Ok n → IsTrue (is_count n)
counted_is mark n h = let t = if_ok (is_count (decimal_value mark.text)) (decimal_value mark.text) n _ h in subst (λ m. IsTrue (is_count m)) t.1 t.0

bounded_is : (mark : Mark) (m n : ℕ) → bounded mark m ≡ Ok n → IsTrue (is_bound n)
bounded_is mark m n h = let t = if_ok (is_bound m) m n _ h in subst (λ m. IsTrue (is_bound m)) t.1 t.0

abbrev SoundKnown : Option HlType → Type 0
SoundKnown o = (k : HlType) → o ≡ Some k → IsSound k

some_same : {A : Type 0} (x y : A) → Some x ≡ Some y → x ≡ y
some_same x y h = cc

mapped_from : {A B : Type 0} (f : A → B) (o : Option A) (b : B) → option_map f o ≡ Some b → (a : A) × (o ≡ Some a) × (f a ≡ b)
mapped_from f (Some a) b h = (a, refl, cc)
mapped_from f None b h = absurd (cc)

or_sound : (a b : Option HlType) → SoundKnown a → SoundKnown b → SoundKnown (or_else a b)
or_sound (Some x) b h g = h
or_sound None b h g = g

if_sound : (c : Bool) (a b : Option HlType) → SoundKnown a → SoundKnown b → SoundKnown (if c then a else b)
if_sound true a b h g = h
if_sound false a b h g = g

widths : Every (λ (entry : List ℕ × ℕ). IsTrue (is_width entry.1)) width_names
widths = (refl, (refl, (refl, (refl, (refl, (refl, (refl, (refl, (refl, tt)))))))))

module _ (aliases : List TypedName) (sound : Every (λ (a : TypedName). IsSound a.kind) aliases) where
  named_sound : (name : List ℕ) → SoundKnown (named aliases name)
  named_sound name = if_sound (bytes_eq name (codes "bool")) (Some kind.Bool) (or_else (option_map (λ (entry : List ℕ × ℕ). kind.UInt entry.1) (find (λ entry. bytes_eq name entry.0) width_names)) (option_map (λ (a : TypedName). a.kind) (find (λ alias. bytes_eq name alias.name) aliases)))
      (λ k is. subst IsSound (some_same kind.Bool k is) bool_sound)
      (or_sound (option_map (λ (entry : List ℕ × ℕ). kind.UInt entry.1) (find (λ entry. bytes_eq name entry.0) width_names)) (option_map (λ (a : TypedName). a.kind) (find (λ alias. bytes_eq name alias.name) aliases))
      (λ k is. let m = mapped_from (λ (entry : List ℕ × ℕ). kind.UInt entry.1) (find (λ entry. bytes_eq name entry.0) width_names) k is in
      subst IsSound m.2 (word_sound m.0.1 (every_found (λ (entry : List ℕ × ℕ). IsTrue (is_width entry.1)) (λ entry. bytes_eq name entry.0) width_names m.0 widths m.1).0))
      (λ k is. let m = mapped_from (λ (a : TypedName). a.kind) (find (λ (a : TypedName). bytes_eq name a.name) aliases) k is in
      subst IsSound m.2 (every_found (λ (a : TypedName). IsSound a.kind) (λ a. bytes_eq name a.name) aliases m.0 sound m.1).0))

  known_sound : (span : Span) (o : Option HlType) → SoundKnown o → (k : HlType) → known span o ≡ Ok k → IsSound k
  known_sound span (Some x) h k e = h k (ap Some (ok_same e))
  known_sound span None h k e = absurd (cc)

  abbrev text_step : TypeText-F (Span → Walked) Walked → Walked
  text_step t = then_walk (t.form t.span) (light t.span)

  abbrev walk_form : TypeForm → Span → Walked
  walk_form f = fold-TypeForm (Span → Walked) Walked (walk_step aliases) text_step f

  abbrev Gives : Walked → Type 0
  Gives w = (k : HlType) → w ≡ Ok k → IsSound k

  abbrev OfForm : TypeForm → Type 0
  OfForm f = (span : Span) → Gives (walk_form f span)

  abbrev OfText : TypeText → Type 0
  OfText t = Gives (walk aliases t)

  abbrev Forms : Type 0
  Forms = (f : TypeForm) × OfForm f

  abbrev Texts : Type 0
  Texts = (t : TypeText) × OfText t

  turns_sound : (parts : List Texts) (ks : List HlType) → in_turn (map (walk aliases) (map (λ (e : Texts). e.0) parts)) ≡ Ok ks → Every IsSound ks
  turns_sound [] ks h = subst (Every IsSound) (ok_same h) tt
  turns_sound (e ∷ parts) ks h =
      let one = ran (walk aliases e.0) _ ks h in
      let rest = ran (in_turn (map (walk aliases) (map (λ (e : Texts). e.0) parts))) _ ks one.is in
      subst (Every IsSound) (ok_same rest.is) (e.1 one.from one.was, turns_sound parts rest.from rest.was)

  form_sound : (y : TypeForm-F Forms Texts) (span : Span) →
      Gives (walk_step aliases (map-TypeForm TypeForm TypeText (Span → Walked) Walked walk_form (walk aliases) (map-TypeForm Forms Texts TypeForm TypeText (λ e. e.0) (λ e. e.0) y)) span)
  form_sound (TypeForm-F.Tuple parts) span k h =
      let r = ran (in_turn (map (walk aliases) (map (λ (e : Texts). e.0) parts))) _ k h in
      subst IsSound (ok_same r.is) (closed_sound (HlType-F.Tuple r.from) (kind.Tuple r.from) (kind.outs-Tuple r.from) (all_sound r.from (turns_sound parts r.from r.was)))
  form_sound (TypeForm-F.Array item mark) span k h =
      let r = ran (walk aliases item.0) _ k h in let c = ran (counted mark) _ k r.is in
      subst IsSound (ok_same c.is) (array_sound r.from c.from (item.1 r.from r.was) (counted_is mark c.from c.was))
  form_sound (TypeForm-F.List item mark) span k h =
      let r = ran (walk aliases item.0) _ k h in let c = ran (counted mark) _ k r.is in let b = ran (bounded mark c.from) _ k c.is in
      subst IsSound (ok_same b.is) (list_sound r.from b.from (item.1 r.from r.was) (bounded_is mark c.from b.from b.was))
  form_sound (TypeForm-F.Option item) span k h =
      let r = ran (walk aliases item.0) _ k h in subst IsSound (ok_same r.is) (option_sound r.from (item.1 r.from r.was))
  form_sound (TypeForm-F.Either left right) span k h =
      let r = ran (walk aliases left.0) _ k h in let s = ran (walk aliases right.0) _ k r.is in
      subst IsSound (ok_same s.is) (either_sound r.from s.from (left.1 r.from r.was) (right.1 s.from s.was))
  form_sound (TypeForm-F.Name name) span k h = known_sound span (named aliases name) (named_sound name) k h

  form_rolled : (y : TypeForm-F Forms Texts) → OfForm (roll-TypeForm (map-TypeForm Forms Texts TypeForm TypeText (λ e. e.0) (λ e. e.0) y))
  form_rolled y span =
      let x : TypeForm-F TypeForm TypeText = map-TypeForm Forms Texts TypeForm TypeText (λ e. e.0) (λ e. e.0) y in
      subst Gives (sym (ap (λ (f : Span → Walked). f span) (fold-roll-TypeForm (Span → Walked) Walked (walk_step aliases) text_step x))) (form_sound y span)

  text_rolled : (y : TypeText-F Forms Texts) → OfText (roll-TypeText (map-TypeText Forms Texts TypeForm TypeText (λ e. e.0) (λ e. e.0) y))
  text_rolled y k h =
      let x : TypeText-F TypeForm TypeText = map-TypeText Forms Texts TypeForm TypeText (λ e. e.0) (λ e. e.0) y in
      let r = ran (walk_form y.form.0 y.span) (light y.span) k (sym (fold-roll-TypeText (Span → Walked) Walked (walk_step aliases) text_step x) ∙ h) in
      let same : r.from ≡ k = if_not (nat_lt 4194304 (weight (form r.from))) r.from k _ r.is in
      subst IsSound same (y.form.1 y.span r.from r.was)

  pub walk_sound : (text : TypeText) (k : HlType) → walk aliases text ≡ Ok k → IsSound k
  walk_sound text = ind-TypeText OfForm OfText (λ x y is. subst (λ z. OfForm (roll-TypeForm z)) is (form_rolled y)) (λ x y is. subst (λ z. OfText (roll-TypeText z)) is (text_rolled y)) text
