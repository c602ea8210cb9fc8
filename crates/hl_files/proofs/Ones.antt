-- A text and names have one answer at most.
use Rattle.std.proofs.Common.{◌≡◌, ◌≢◌, ℕ, List, true, Option, Some, None, Result, Ok, Err, refl, sym, ap, ◌∙◌, subst}
use Rattle.hl_data.specs.declared.value.Entry.{Entry}
use Rattle.hl_data.specs.declared.value.HlValue.{HlValue}
use Rattle.hl_syntax.specs.declared.kinds.HlType.{HlType}
use Rattle.hl_syntax.specs.declared.kinds.TypedName.{TypedName}
use Rattle.hl_values.specs.Reads.{IsNoValueText}
use Rattle.hl_values.specs.Written.{IsValueText, written}
use Rattle.simplicityhl.specs.Grammar as grammar
use Rattle.simplicityhl.specs.Grammar.{most_depth}
use Rattle.hl_grammar.specs.Read as read
use Rattle.hl_grammar.proofs.Exprs.{expr_at}
use Rattle.hl_grammar.proofs.Whole.{one_tree}
use Rattle.serde_json.specs.Data.{Data}
use Rattle.serde_json.specs.Find.{get}
use Rattle.hl_files.specs.declared.refusal.TextRefusal.{TextRefusal}
use Rattle.hl_files.specs.declared.refusal.TextRefusal.TheVariants as refusal
use Rattle.hl_files.specs.declared.refusal.WantedRefusal.{WantedRefusal}
use Rattle.hl_files.specs.declared.refusal.WantedRefusal.TheVariants as wanted
use Rattle.hl_files.specs.Entries.{IsTyped, HasValue, HasOtherType}
use Rattle.hl_files.specs.Objects.{IsObject}
use Rattle.hl_files.specs.Reads.{AtName, FindsAt, WantedAt, IsOneReading, IsOneWantedReading}
use Rattle.hl_files.specs.Turns.{Always, InTurn}
use Rattle.hl_files.proofs.Turning.{one_in_turn}
use Rattle.hl_type_texts.proofs.Typing.{one_type_text}

-- a text is a value text of a type for one value at most
one_value : (text : List ℕ) (kind : HlType) (v w : HlValue) → IsValueText text kind v → IsValueText text kind w → v ≡ w
one_value text kind v w h k =
    let lexed = sym h.lexed ∙ k.lexed in
    let same : h.found ≡ k.found = cc in
    let one = one_tree grammar.value read.value (expr_at true) k.found h.tree k.tree (most_depth, rw same at h.stands) (most_depth, k.stands) in
    let e = sym h.walked ∙ ap (λ tree. written tree kind) one ∙ k.walked in
    cc

one_kind : (entry : Data) (j k : HlType) (s t : List ℕ) → IsTyped entry j s → IsTyped entry k t → j ≡ k
one_kind entry j k s t h g =
    let e = sym h.type ∙ g.type in
    let same : h.type_text ≡ g.type_text = cc in
    one_type_text g.type_text j k (rw same at h.typed) g.typed

one_text : (entry : Data) (j k : HlType) (s t : List ℕ) → IsTyped entry j s → IsTyped entry k t → s ≡ t
one_text entry j k s t h g = let e = sym h.valued ∙ g.valued in cc

one_held : (entry : Data) (j k : HlType) (v w : HlValue) → HasValue entry j v → HasValue entry k w → v ≡ w
one_held entry j k v w h g =
    let kinds = one_kind entry j k h.text g.text h.typed g.typed in
    let texts = one_text entry j k h.text g.text h.typed g.typed in
    one_value g.text k v w (rw (kinds, texts) at h.valued) g.valued

entry_of : List ℕ → HlType → HlValue → Entry
entry_of n k v = record { name = n; kind = k; value = v }

same_entry : (a b : Entry) → a.name ≡ b.name → a.kind ≡ b.kind → a.value ≡ b.value → a ≡ b
unfolding entry_of
same_entry a b n k v = ap (λ x. entry_of x a.kind a.value) n ∙ ap (λ x. entry_of b.name x a.value) k ∙ ap (λ x. entry_of b.name b.kind x) v

-- what can't be held at once
no_value : (entry : Data) (j k : HlType) (v : HlValue) (t : List ℕ) → HasValue entry j v → IsTyped entry k t → IsNoValueText t k → ⊥
no_value entry j k v t h g none =
    let kinds = one_kind entry j k h.text t h.typed g in
    let texts = one_text entry j k h.text t h.typed g in
    none.none v (rw (kinds, texts) at h.valued)

other_type : (entry : Data) (k : HlType) (t : List ℕ) → HasOtherType entry k → IsTyped entry k t → ⊥
other_type entry k t h g = h.other (one_kind entry h.kind k h.text t h.typed g)

-- claims on the entry of one name are claims on one entry
both : {X : Type 0} (file : Data) (name : List ℕ) (P Q : Data → Type 0) → AtName file name P → AtName file name Q → ((entry : Data) → P entry → Q entry → X) → X
both file name P Q h k f =
    let e = sym k.there ∙ h.there in
    let same : k.entry ≡ h.entry = cc in
    f h.entry h.holds (subst Q same k.holds)

absent : {X : Type 0} (file : Data) (name : List ℕ) (P : Data → Type 0) → get name file ≡ None → AtName file name P → X
absent file name P none h = let e = sym none ∙ h.there in absurd (cc)

module _ (file : Data) where
  one_found : (name : List ℕ) (r s : Result (Option Entry) TextRefusal) → FindsAt file name r → FindsAt file name s → r ≢ Err refusal.OutOfMemory → s ≢ Err refusal.OutOfMemory → r ≡ s
  one_found name (Err refusal.OutOfMemory) s h k m n = absurd (m refl)
  one_found name (Err refusal.NotJson) s h k m n = absurd h
  one_found name r (Err refusal.OutOfMemory) h k m n = absurd (n refl)
  one_found name r (Err refusal.NotJson) h k m n = absurd k
  one_found name (Ok None) (Ok None) h k m n = refl
  one_found name (Ok None) (Ok (Some b)) h k m n = absent file name _ h k.1
  one_found name (Ok None) (Err (refusal.BadEntry b)) h k m n = absent file name _ h k.1
  one_found name (Ok None) (Err (refusal.BadValue b)) h k m n = absent file name _ h k.1
  one_found name (Ok (Some a)) (Ok None) h k m n = absent file name _ k h.1
  one_found name (Ok (Some a)) (Ok (Some b)) h k m n =
      let names : a.name ≡ b.name = h.0 ∙ sym k.0 in
      let kinds : a.kind ≡ b.kind = both file name _ _ h.1 k.1 (λ entry p q. one_kind entry a.kind b.kind p.text q.text p.typed q.typed) in
      let values : a.value ≡ b.value = both file name _ _ h.1 k.1 (λ entry p q. one_held entry a.kind b.kind a.value b.value p q) in
      ap (λ x. Ok (Some x)) (same_entry a b names kinds values)
  one_found name (Ok (Some a)) (Err (refusal.BadEntry b)) h k m n = absurd (both {X = ⊥} file name _ _ h.1 k.1 (λ entry p q. q.none a.kind p.text p.typed))
  one_found name (Ok (Some a)) (Err (refusal.BadValue b)) h k m n = absurd (both {X = ⊥} file name _ _ h.1 k.1 (λ entry p q. no_value entry a.kind q.kind a.value q.text p q.typed q.none))
  one_found name (Err (refusal.BadEntry a)) (Ok None) h k m n = absent file name _ k h.1
  one_found name (Err (refusal.BadEntry a)) (Ok (Some b)) h k m n = absurd (both {X = ⊥} file name _ _ h.1 k.1 (λ entry p q. p.none b.kind q.text q.typed))
  one_found name (Err (refusal.BadEntry a)) (Err (refusal.BadEntry b)) h k m n = let same : a ≡ b = h.0 ∙ sym k.0 in ap (λ x. Err (refusal.BadEntry x)) same
  one_found name (Err (refusal.BadEntry a)) (Err (refusal.BadValue b)) h k m n = absurd (both {X = ⊥} file name _ _ h.1 k.1 (λ entry p q. p.none q.kind q.text q.typed))
  one_found name (Err (refusal.BadValue a)) (Ok None) h k m n = absent file name _ k h.1
  one_found name (Err (refusal.BadValue a)) (Ok (Some b)) h k m n = absurd (both {X = ⊥} file name _ _ h.1 k.1 (λ entry p q. no_value entry b.kind p.kind b.value p.text q p.typed p.none))
  one_found name (Err (refusal.BadValue a)) (Err (refusal.BadEntry b)) h k m n = absurd (both {X = ⊥} file name _ _ h.1 k.1 (λ entry p q. q.none p.kind p.text p.typed))
  one_found name (Err (refusal.BadValue a)) (Err (refusal.BadValue b)) h k m n = let same : a ≡ b = h.0 ∙ sym k.0 in ap (λ x. Err (refusal.BadValue x)) same

  one_wanted : (asked : TypedName) (r s : Result (Option Entry) WantedRefusal) → Always (WantedAt file) asked r → Always (WantedAt file) asked s →
      r ≢ Err wanted.OutOfMemory → s ≢ Err wanted.OutOfMemory → r ≡ s
  one_wanted asked (Err wanted.OutOfMemory) s h k m n = absurd (m refl)
  one_wanted asked (Err wanted.NotJson) s h k m n = absurd h
  one_wanted asked (Ok None) s h k m n = absurd h
  one_wanted asked r (Err wanted.OutOfMemory) h k m n = absurd (n refl)
  one_wanted asked r (Err wanted.NotJson) h k m n = absurd k
  one_wanted asked r (Ok None) h k m n = absurd k
  one_wanted asked (Err (wanted.Missing a)) (Err (wanted.Missing b)) h k m n = let same : a ≡ b = h.0 ∙ sym k.0 in ap (λ x. Err (wanted.Missing x)) same
  one_wanted asked (Err (wanted.Missing a)) (Ok (Some b)) h k m n = absent file asked.name _ h.1 k.2
  one_wanted asked (Err (wanted.Missing a)) (Err (wanted.BadEntry b)) h k m n = absent file asked.name _ h.1 k.1
  one_wanted asked (Err (wanted.Missing a)) (Err (wanted.TypeDiffers b)) h k m n = absent file asked.name _ h.1 k.1
  one_wanted asked (Err (wanted.Missing a)) (Err (wanted.BadValue b)) h k m n = absent file asked.name _ h.1 k.1
  one_wanted asked (Ok (Some a)) (Err (wanted.Missing b)) h k m n = absent file asked.name _ k.1 h.2
  one_wanted asked (Ok (Some a)) (Ok (Some b)) h k m n =
      let values : a.value ≡ b.value = both file asked.name _ _ h.2 k.2 (λ entry p q. one_held entry asked.kind asked.kind a.value b.value p q) in
      ap (λ x. Ok (Some x)) (same_entry a b (h.0 ∙ sym k.0) (h.1 ∙ sym k.1) values)
  one_wanted asked (Ok (Some a)) (Err (wanted.BadEntry b)) h k m n = absurd (both {X = ⊥} file asked.name _ _ h.2 k.1 (λ entry p q. q.none asked.kind p.text p.typed))
  one_wanted asked (Ok (Some a)) (Err (wanted.TypeDiffers b)) h k m n = absurd (both {X = ⊥} file asked.name _ _ h.2 k.1 (λ entry p q. other_type entry asked.kind p.text q p.typed))
  one_wanted asked (Ok (Some a)) (Err (wanted.BadValue b)) h k m n = absurd (both {X = ⊥} file asked.name _ _ h.2 k.1 (λ entry p q. no_value entry asked.kind asked.kind a.value q.text p q.typed q.none))
  one_wanted asked (Err (wanted.BadEntry a)) (Err (wanted.Missing b)) h k m n = absent file asked.name _ k.1 h.1
  one_wanted asked (Err (wanted.BadEntry a)) (Ok (Some b)) h k m n = absurd (both {X = ⊥} file asked.name _ _ h.1 k.2 (λ entry p q. p.none asked.kind q.text q.typed))
  one_wanted asked (Err (wanted.BadEntry a)) (Err (wanted.BadEntry b)) h k m n = let same : a ≡ b = h.0 ∙ sym k.0 in ap (λ x. Err (wanted.BadEntry x)) same
  one_wanted asked (Err (wanted.BadEntry a)) (Err (wanted.TypeDiffers b)) h k m n = absurd (both {X = ⊥} file asked.name _ _ h.1 k.1 (λ entry p q. p.none q.kind q.text q.typed))
  one_wanted asked (Err (wanted.BadEntry a)) (Err (wanted.BadValue b)) h k m n = absurd (both {X = ⊥} file asked.name _ _ h.1 k.1 (λ entry p q. p.none asked.kind q.text q.typed))
  one_wanted asked (Err (wanted.TypeDiffers a)) (Err (wanted.Missing b)) h k m n = absent file asked.name _ k.1 h.1
  one_wanted asked (Err (wanted.TypeDiffers a)) (Ok (Some b)) h k m n = absurd (both {X = ⊥} file asked.name _ _ h.1 k.2 (λ entry p q. other_type entry asked.kind q.text p q.typed))
  one_wanted asked (Err (wanted.TypeDiffers a)) (Err (wanted.BadEntry b)) h k m n = absurd (both {X = ⊥} file asked.name _ _ h.1 k.1 (λ entry p q. q.none p.kind p.text p.typed))
  one_wanted asked (Err (wanted.TypeDiffers a)) (Err (wanted.TypeDiffers b)) h k m n = let same : a ≡ b = h.0 ∙ sym k.0 in ap (λ x. Err (wanted.TypeDiffers x)) same
  one_wanted asked (Err (wanted.TypeDiffers a)) (Err (wanted.BadValue b)) h k m n = absurd (both {X = ⊥} file asked.name _ _ h.1 k.1 (λ entry p q. other_type entry asked.kind q.text p q.typed))
  one_wanted asked (Err (wanted.BadValue a)) (Err (wanted.Missing b)) h k m n = absent file asked.name _ k.1 h.1
  one_wanted asked (Err (wanted.BadValue a)) (Ok (Some b)) h k m n = absurd (both {X = ⊥} file asked.name _ _ h.1 k.2 (λ entry p q. no_value entry asked.kind asked.kind b.value p.text q p.typed p.none))
  one_wanted asked (Err (wanted.BadValue a)) (Err (wanted.BadEntry b)) h k m n = absurd (both {X = ⊥} file asked.name _ _ h.1 k.1 (λ entry p q. q.none asked.kind p.text p.typed))
  one_wanted asked (Err (wanted.BadValue a)) (Err (wanted.TypeDiffers b)) h k m n = absurd (both {X = ⊥} file asked.name _ _ h.1 k.1 (λ entry p q. other_type entry asked.kind p.text q p.typed))
  one_wanted asked (Err (wanted.BadValue a)) (Err (wanted.BadValue b)) h k m n = let same : a ≡ b = h.0 ∙ sym k.0 in ap (λ x. Err (wanted.BadValue x)) same

-- the readings

same_file : (text : List ℕ) (a b : Data) → IsObject text a → IsObject text b → a ≡ b
same_file text a b h k = let e = sym h.reads ∙ k.reads in cc

one_in_file : (text : List ℕ) (names : List (List ℕ)) (a b : Data) (r s : Result (List Entry) TextRefusal) → IsObject text a → IsObject text b → InTurn (FindsAt a) names r → InTurn (FindsAt b) names s →
    r ≢ Err refusal.OutOfMemory → s ≢ Err refusal.OutOfMemory → r ≡ s
one_in_file text names a b r s p q h k m n =
    let same = same_file text b a q p in
    one_in_turn refusal.OutOfMemory (FindsAt a) (one_found a) names r s h (subst (λ file. InTurn (FindsAt file) names s) same k) m n

one_wanted_in_file : (text : List ℕ) (asked : List TypedName) (a b : Data) (r s : Result (List Entry) WantedRefusal) → IsObject text a → IsObject text b →
    InTurn (Always (WantedAt a)) asked r → InTurn (Always (WantedAt b)) asked s → r ≢ Err wanted.OutOfMemory → s ≢ Err wanted.OutOfMemory → r ≡ s
one_wanted_in_file text asked a b r s p q h k m n =
    let same = same_file text b a q p in
    one_in_turn wanted.OutOfMemory (Always (WantedAt a)) (one_wanted a) asked r s h (subst (λ file. InTurn (Always (WantedAt file)) asked s) same k) m n

pub one_reading : IsOneReading
one_reading text names (Err refusal.OutOfMemory) s h k m n = absurd (m refl)
one_reading text names r (Err refusal.OutOfMemory) h k m n = absurd (n refl)
one_reading text names (Err refusal.NotJson) (Err refusal.NotJson) h k m n = refl
one_reading text names (Err refusal.NotJson) s h k m n = absurd (h.none k.0 k.1)
one_reading text names r (Err refusal.NotJson) h k m n = absurd (k.none h.0 h.1)
one_reading text names r s h k m n = one_in_file text names h.0 k.0 r s h.1 k.1 h.2 k.2 m n

pub one_wanted_reading : IsOneWantedReading
one_wanted_reading text asked (Err wanted.OutOfMemory) s h k m n = absurd (m refl)
one_wanted_reading text asked r (Err wanted.OutOfMemory) h k m n = absurd (n refl)
one_wanted_reading text asked (Err wanted.NotJson) (Err wanted.NotJson) h k m n = refl
one_wanted_reading text asked (Err wanted.NotJson) s h k m n = absurd (h.none k.0 k.1)
one_wanted_reading text asked r (Err wanted.NotJson) h k m n = absurd (k.none h.0 h.1)
one_wanted_reading text asked r s h k m n = one_wanted_in_file text asked h.0 k.0 r s h.1 k.1 h.2 k.2 m n
