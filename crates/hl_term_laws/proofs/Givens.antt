-- The path of a bound witness leads to the encoding of its value.
use Rattle.std.proofs.Common.{◌≡◌, ℕ, Bool, true, false, cond, List, bytes_eq, Option, Some, None, option_map, refl, sym, ap, ◌∙◌, subst}
use Rattle.std.proofs.lemmas.Slice.Eq.{bytes_eq-Decides}
use Rattle.hl_data.specs.declared.value.HlValue.{HlValue}
use Rattle.hl_syntax.specs.declared.kinds.HlType.{HlType}
use Rattle.hl_meaning.specs.Scopes.{Binding, meant}
use Rattle.hl_meaning.specs.Values.{encoded}
use Rattle.simplicity.specs.Canon.{Declared, erased}
use Rattle.simplicity.specs.Terms.{meaning}
use Rattle.simplicity.specs.Types.{Product, Value}
use Rattle.simplicityhl.specs.Kinds.{form}
use Rattle.simplicity.specs.Arrows.{IsTypedTerm}
use Rattle.simplicity.specs.Arrows as row
use Rattle.hl_term_laws.specs.Renders.{Scoped, ScopedWitness, ScopedBoth}
use Rattle.simplicity.specs.Arrows.{source, target}
use Rattle.simplicity.specs.Makes.{iden, on_first, on_second}
use Rattle.hl_terms.specs.Shapes.{Shape, Ignored, Variable, Witness, Both, kind_of, witnesses_of}
use Rattle.hl_terms.specs.Paths.{witness_term}
use Rattle.hl_rules.specs.Places.{variable_type}
use Rattle.hl_syntax.specs.declared.kinds.TypedName.{TypedName}
use Rattle.hl_term_laws.proofs.Led.{first_path, first_type, both_witness, both_type}
use Rattle.simplicity.proofs.Arrows.{typed_first, typed_second}

module _ (given : List Binding) (w : List Value) (name : List ℕ) where
  pub record Held (k : HlType) (d : Option Value) : Type 0 where
    pub value : HlValue
    pub is : meant name given ≡ Some value
    pub core : Value
    pub encodes : encoded value k ≡ Some core
    pub leads : d ≡ Some core

  pub record Holds (scope : Shape) (k : HlType) : Type 0 where
    pub term : Declared
    pub is : witness_term name scope ≡ Some term
    pub from : source term ≡ kind_of scope
    pub to : target term ≡ form k
    pub typed : IsTypedTerm term
    pub leads : (bs : List Binding) (c : Value) → Scoped given scope bs c → Held k (meaning (erased term) w c)

  same_bytes : (n : List ℕ) → bytes_eq name n ≡ true → name ≡ n
  same_bytes n h = (bytes_eq-Decides name n).0 h

  given_held : (n : List ℕ) (k : HlType) (bs : List Binding) (c : Value) → bytes_eq name n ≡ true → Scoped given (Witness n k) bs c → Held k (Some c)
  given_held n k _ c is (ScopedWitness _ _ v _ m e) = record { value = v; is = ap (λ l. meant l given) (same_bytes n is) ∙ m; core = c; encodes = e; leads = refl }

  first_held : (a b : Shape) (k : HlType) (bs : List Binding) (c : Value) (l : Holds a k) → Scoped given (Both a b) bs c → Held k (meaning (erased (on_first (kind_of b) l.term)) w c)
  first_held a b k _ _ l (ScopedBoth _ _ us vs ws c d s t is) = l.leads us c s

  second_held : (a b : Shape) (k : HlType) (bs : List Binding) (c : Value) (l : Holds b k) → Scoped given (Both a b) bs c → Held k (meaning (erased (on_second (kind_of a) l.term)) w c)
  second_held a b k _ _ l (ScopedBoth _ _ us vs ws c d s t is) = l.leads vs d t

  given_leads : (n : List ℕ) (l k : HlType) (t : Bool) → bytes_eq name n ≡ t → (option_map (λ (x : TypedName). x.kind) (cond t (Some (record { name = n; kind = l })) None)) ≡ Some k → Holds (Witness n l) k
  given_leads n l k true is h =
      let same : l ≡ k = cc in
      subst (Holds (Witness n l)) same (record { term = iden (form l); is = rw is refl; from = refl; to = refl; typed = row.Iden (form l); leads = λ bs c s. given_held n l bs c is s })
  given_leads n l k false is h = absurd (cc)

  given_misses : (n : List ℕ) (l : HlType) (t : Bool) → bytes_eq name n ≡ t → (option_map (λ (x : TypedName). x.kind) (cond t (Some (record { name = n; kind = l })) None)) ≡ None → witness_term name (Witness n l) ≡ None
  given_misses n l true is h = absurd (cc)
  given_misses n l false is h = rw is refl

  miss_by : (a b : Shape) (o : Option HlType) → variable_type (witnesses_of a) name ≡ o → (variable_type (witnesses_of a) name ≡ None → witness_term name a ≡ None) → (variable_type (witnesses_of b) name ≡ None → witness_term name b ≡ None) → first_type o (variable_type (witnesses_of b) name) ≡ None →
      witness_term name (Both a b) ≡ None
  miss_by a b (Some l) is ga gb h = absurd (cc)
  miss_by a b None is ga gb h = both_witness name a b ∙ ap (λ o. first_path (kind_of a) (kind_of b) o (witness_term name b)) (ga is) ∙ ap (first_path (kind_of a) (kind_of b) None) (gb h)

  pub not_given : (scope : Shape) → variable_type (witnesses_of scope) name ≡ None → witness_term name scope ≡ None
  not_given (Ignored k) h = refl
  not_given (Variable n l) h = refl
  not_given (Witness n l) h = given_misses n l (bytes_eq name n) refl h
  not_given (Both a b) h = miss_by a b (variable_type (witnesses_of a) name) refl (not_given a) (not_given b) (sym (both_type (witnesses_of a) (witnesses_of b) name) ∙ h)

  lead_by : (a b : Shape) (k : HlType) (o : Option HlType) → variable_type (witnesses_of a) name ≡ o → (variable_type (witnesses_of a) name ≡ Some k → Holds a k) → (variable_type (witnesses_of b) name ≡ Some k → Holds b k) → first_type o (variable_type (witnesses_of b) name) ≡ Some k → Holds (Both a b) k
  lead_by a b k (Some l) is ga gb h =
      let same : Some l ≡ Some k = h in
      let f = ga (is ∙ same) in
      record {
        term = on_first (kind_of b) f.term;
        is = both_witness name a b ∙ ap (λ o. first_path (kind_of a) (kind_of b) o (witness_term name b)) f.is;
        from = ap (λ j. Product j (kind_of b)) f.from;
        to = f.to;
        typed = typed_first (kind_of b) f.term f.typed;
        leads = λ bs c s. first_held a b k bs c f s;
      }
  lead_by a b k None is ga gb h =
      let m = not_given a is in let f = gb h in
      record {
        term = on_second (kind_of a) f.term;
        is = both_witness name a b ∙ ap (λ o. first_path (kind_of a) (kind_of b) o (witness_term name b)) m ∙ ap (first_path (kind_of a) (kind_of b) None) f.is;
        from = ap (Product (kind_of a)) f.from;
        to = f.to;
        typed = typed_second (kind_of a) f.term f.typed;
        leads = λ bs c s. second_held a b k bs c f s;
      }

  pub holds_at : (scope : Shape) (k : HlType) → variable_type (witnesses_of scope) name ≡ Some k → Holds scope k
  holds_at (Ignored _) k h = absurd (cc)
  holds_at (Variable n l) k h = absurd (cc)
  holds_at (Witness n l) k h = given_leads n l k (bytes_eq name n) refl h
  holds_at (Both a b) k h = lead_by a b k (variable_type (witnesses_of a) name) refl (holds_at a k) (holds_at b k) (sym (both_type (witnesses_of a) (witnesses_of b) name) ∙ h)
