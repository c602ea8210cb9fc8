-- The path of a name leads to the encoding of its first value.
use Rattle.std.proofs.Common.{◌≡◌, ℕ, Bool, true, false, cond, List, [], ◌∷◌, ◌++◌, bytes_eq, find, Option, Some, None, option_map, refl, sym, ap, ◌∙◌, subst}
use Rattle.hl_syntax.specs.declared.kinds.HlType.{HlType}
use Rattle.hl_meaning.specs.Scopes.{Binding}
use Rattle.hl_meaning.specs.Values.{encoded}
use Rattle.simplicity.specs.Canon.{Declared, erased}
use Rattle.simplicity.specs.Terms.{meaning}
use Rattle.simplicity.specs.Types.{Kind, Product, Value}
use Rattle.simplicityhl.specs.Kinds.{form}
use Rattle.simplicity.specs.Arrows.{IsTypedTerm}
use Rattle.simplicity.specs.Arrows as row
use Rattle.hl_term_laws.specs.Renders.{Scoped, ScopedIgnored, ScopedVariable, ScopedWitness, ScopedBoth}
use Rattle.simplicity.specs.Arrows.{source, target}
use Rattle.simplicity.specs.Makes.{iden, on_first, on_second}
use Rattle.hl_terms.specs.Shapes.{Shape, Ignored, Variable, Witness, Both, kind_of, variables_of}
use Rattle.hl_terms.specs.Paths.{variable_term}
use Rattle.hl_rules.specs.Places.{variable_type}
use Rattle.hl_syntax.specs.declared.kinds.TypedName.{TypedName}
use Rattle.hl_term_laws.proofs.Led.{first_path, first_type, both_path, both_type}
use Rattle.simplicity.proofs.Arrows.{typed_first, typed_second}

find_front : {A : Type 0} (test : A → Bool) (xs ys : List A) (x : A) → find test xs ≡ Some x → find test (xs ++ ys) ≡ Some x
find_front test [] ys x e = absurd (cc)
find_front test (z ∷ xs) ys x e = elim (test z) as (λ b. cond b (Some z) (find test xs) ≡ Some x → cond b (Some z) (find test (xs ++ ys)) ≡ Some x) [
  | true ↦ λ e. e
  | false ↦ λ e. find_front test xs ys x e
] e

find_past : {A : Type 0} (test : A → Bool) (xs ys : List A) → find test xs ≡ None → find test (xs ++ ys) ≡ find test ys
find_past test [] ys e = refl
find_past test (z ∷ xs) ys e = elim (test z) as (λ b. cond b (Some z) (find test xs) ≡ None → cond b (Some z) (find test (xs ++ ys)) ≡ find test ys) [
  | true ↦ λ e. absurd (cc)
  | false ↦ λ e. find_past test xs ys e
] e

module _ (given : List Binding) (w : List Value) (name : List ℕ) where
  abbrev test : Binding → Bool
  test b = bytes_eq name b.name

  pub record Found (bs : List Binding) (k : HlType) (d : Option Value) : Type 0 where
    pub binding : Binding
    pub is : find test bs ≡ Some binding
    pub core : Value
    pub encodes : encoded binding.value k ≡ Some core
    pub leads : d ≡ Some core

  pub record Leads (scope : Shape) (k : HlType) : Type 0 where
    pub term : Declared
    pub is : variable_term name scope ≡ Some term
    pub from : source term ≡ kind_of scope
    pub to : target term ≡ form k
    pub typed : IsTypedTerm term
    pub leads : (bs : List Binding) (c : Value) → Scoped given scope bs c → Found bs k (meaning (erased term) w c)

  pub record Misses (scope : Shape) : Type 0 where
    pub is : variable_term name scope ≡ None
    pub misses : (bs : List Binding) (c : Value) → Scoped given scope bs c → find test bs ≡ None

  variable_found : (n : List ℕ) (k : HlType) (bs : List Binding) (c : Value) → bytes_eq name n ≡ true → Scoped given (Variable n k) bs c → Found bs k (Some c)
  variable_found n k _ c is (ScopedVariable _ _ v _ e) = record { binding = record { name = n; value = v }; is = rw is refl; core = c; encodes = e; leads = refl }

  variable_missed : (n : List ℕ) (k : HlType) (bs : List Binding) (c : Value) → bytes_eq name n ≡ false → Scoped given (Variable n k) bs c → find test bs ≡ None
  variable_missed n k _ c is (ScopedVariable _ _ v _ e) = rw is refl

  ignored_missed : (k : Kind) (bs : List Binding) (c : Value) → Scoped given (Ignored k) bs c → find test bs ≡ None
  ignored_missed k _ c (ScopedIgnored _ _) = refl

  given_missed : (n : List ℕ) (k : HlType) (bs : List Binding) (c : Value) → Scoped given (Witness n k) bs c → find test bs ≡ None
  given_missed n k _ c (ScopedWitness _ _ v _ m e) = refl

  both_missed : (a b : Shape) (bs : List Binding) (c : Value) → Misses a → Misses b → Scoped given (Both a b) bs c → find test bs ≡ None
  both_missed a b _ _ m n (ScopedBoth _ _ us vs ws c d s t is) = ap (find test) is ∙ find_past test us vs (m.misses us c s) ∙ n.misses vs d t

  first_found : (a b : Shape) (k : HlType) (bs : List Binding) (c : Value) (l : Leads a k) → Scoped given (Both a b) bs c → Found bs k (meaning (erased (on_first (kind_of b) l.term)) w c)
  first_found a b k _ _ l (ScopedBoth _ _ us vs ws c d s t is) =
      let f = l.leads us c s in
      record { binding = f.binding; is = ap (find test) is ∙ find_front test us vs f.binding f.is; core = f.core; encodes = f.encodes; leads = f.leads }

  second_found : (a b : Shape) (k : HlType) (bs : List Binding) (c : Value) (m : Misses a) (l : Leads b k) → Scoped given (Both a b) bs c → Found bs k (meaning (erased (on_second (kind_of a) l.term)) w c)
  second_found a b k _ _ m l (ScopedBoth _ _ us vs ws c d s t is) =
      let f = l.leads vs d t in
      record { binding = f.binding; is = ap (find test) is ∙ find_past test us vs (m.misses us c s) ∙ f.is; core = f.core; encodes = f.encodes; leads = f.leads }

  variable_leads : (n : List ℕ) (l k : HlType) (t : Bool) → bytes_eq name n ≡ t → (option_map (λ (x : TypedName). x.kind) (cond t (Some (record { name = n; kind = l })) None)) ≡ Some k → Leads (Variable n l) k
  variable_leads n l k true is h =
      let same : l ≡ k = cc in
      subst (Leads (Variable n l)) same (record { term = iden (form l); is = rw is refl; from = refl; to = refl; typed = row.Iden (form l); leads = λ bs c s. variable_found n l bs c is s })
  variable_leads n l k false is h = absurd (cc)

  variable_misses : (n : List ℕ) (l : HlType) (t : Bool) → bytes_eq name n ≡ t → (option_map (λ (x : TypedName). x.kind) (cond t (Some (record { name = n; kind = l })) None)) ≡ None → Misses (Variable n l)
  variable_misses n l true is h = absurd (cc)
  variable_misses n l false is h = record { is = rw is refl; misses = λ bs c s. variable_missed n l bs c is s }

  miss_by : (a b : Shape) (o : Option HlType) → variable_type (variables_of a) name ≡ o → (variable_type (variables_of a) name ≡ None → Misses a) → (variable_type (variables_of b) name ≡ None → Misses b) → first_type o (variable_type (variables_of b) name) ≡ None → Misses (Both a b)
  miss_by a b (Some l) is ga gb h = absurd (cc)
  miss_by a b None is ga gb h =
      let m = ga is in let n = gb h in
      record { is = both_path name a b ∙ ap (λ o. first_path (kind_of a) (kind_of b) o (variable_term name b)) m.is ∙ ap (first_path (kind_of a) (kind_of b) None) n.is; misses = λ bs c s. both_missed a b bs c m n s }

  pub misses_at : (scope : Shape) → variable_type (variables_of scope) name ≡ None → Misses scope
  misses_at (Ignored k) h = record { is = refl; misses = ignored_missed k }
  misses_at (Variable n l) h = variable_misses n l (bytes_eq name n) refl h
  misses_at (Witness n l) h = record { is = refl; misses = given_missed n l }
  misses_at (Both a b) h = miss_by a b (variable_type (variables_of a) name) refl (misses_at a) (misses_at b) (sym (both_type (variables_of a) (variables_of b) name) ∙ h)

  lead_by : (a b : Shape) (k : HlType) (o : Option HlType) → variable_type (variables_of a) name ≡ o → (variable_type (variables_of a) name ≡ Some k → Leads a k) → (variable_type (variables_of b) name ≡ Some k → Leads b k) → first_type o (variable_type (variables_of b) name) ≡ Some k → Leads (Both a b) k
  lead_by a b k (Some l) is ga gb h =
      let same : Some l ≡ Some k = h in
      let f = ga (is ∙ same) in
      record {
        term = on_first (kind_of b) f.term;
        is = both_path name a b ∙ ap (λ o. first_path (kind_of a) (kind_of b) o (variable_term name b)) f.is;
        from = ap (λ j. Product j (kind_of b)) f.from;
        to = f.to;
        typed = typed_first (kind_of b) f.term f.typed;
        leads = λ bs c s. first_found a b k bs c f s;
      }
  lead_by a b k None is ga gb h =
      let m = misses_at a is in let f = gb h in
      record {
        term = on_second (kind_of a) f.term;
        is = both_path name a b ∙ ap (λ o. first_path (kind_of a) (kind_of b) o (variable_term name b)) m.is ∙ ap (first_path (kind_of a) (kind_of b) None) f.is;
        from = ap (Product (kind_of a)) f.from;
        to = f.to;
        typed = typed_second (kind_of a) f.term f.typed;
        leads = λ bs c s. second_found a b k bs c m f s;
      }

  pub leads_at : (scope : Shape) (k : HlType) → variable_type (variables_of scope) name ≡ Some k → Leads scope k
  leads_at (Ignored _) k h = absurd (cc)
  leads_at (Variable n l) k h = variable_leads n l k (bytes_eq name n) refl h
  leads_at (Witness n l) k h = absurd (cc)
  leads_at (Both a b) k h = lead_by a b k (variable_type (variables_of a) name) refl (leads_at a k) (leads_at b k) (sym (both_type (variables_of a) (variables_of b) name) ∙ h)
