-- What holds of all that a walk gives.
use Rattle.std.proofs.Common.{◌≡◌, ℕ, nat_eq, Bool, true, false, List, Option, Some, None, Result, Ok, Err, refl, sym, ap, subst, IsTrue}
use Rattle.hl_syntax.specs.declared.kinds.TypedName.{TypedName}
use Rattle.hl_syntax.specs.declared.rules.Rule.{Rule}
use Rattle.hl_syntax.specs.declared.token.Span.{Span}
use Rattle.simplicityhl.specs.Written.{Broken, then_walk}
use Rattle.hl_rules.specs.Places.{Context, variable_type}
use Rattle.hl_rules.specs.Steps as steps
use Rattle.hl_rules.specs.Steps.{Step}
use Rattle.hl_rules.specs.Walks.{Walk}
use Rattle.hl_typing.specs.Patterns.{Once}
use Rattle.hl_typing.proofs.Every.{Every}

pub ok_same : {A : Type 0} {x y : A} → ◌≡◌ {A = Result A Broken} (Ok x) (Ok y) → x ≡ y
ok_same e = cc

-- the first part of a walk that breaks nothing, and the rest
pub record Ran {A B : Type 0} (w : Result A Broken) (next : A → Result B Broken) (y : B) : Type 0 where
  pub from : A
  pub was : w ≡ Ok from
  pub is : next from ≡ Ok y

pub ran : {A B : Type 0} (w : Result A Broken) (next : A → Result B Broken) (y : B) → then_walk w next ≡ Ok y → Ran w next y
ran (Ok x) next y h = record { from = x; was = refl; is = h }
ran (Err broken) next y h = absurd (cc)

pub needs_ok : (b : Bool) (rule : Rule) (span : Span) (u : Unit {0}) → steps.needs b rule span ≡ Ok u → b ≡ true
needs_ok true rule span u h = refl
needs_ok false rule span u h = absurd (cc)

pub wants_ok : {A : Type 0} (o : Option A) (rule : Rule) (span : Span) (x : A) → steps.wants o rule span ≡ Ok x → o ≡ Some x
wants_ok (Some y) rule span x h = ap Some (ok_same h)
wants_ok None rule span x h = absurd (cc)

-- witnesses that were met: each is of the type that its name has among them, and in an edition other than 2 none is named twice
pub record Apart (edition : ℕ) (met : List TypedName) : Type 0 where
  pub once : nat_eq edition 2 ≡ false → Once met
  pub agree : Every (λ (n : TypedName). variable_type met n.name ≡ Some n.kind) met

module _ (c : Context) (P : TypedName → Type 0) where
  abbrev pub Given : List TypedName → Type 0
  Given met = IsTrue c.in_main → Every P met

  -- of all that the walk gives this holds, where the witnesses of `main` that it has met have values of their types; it meets none
  -- that may not stand
  pub record Good {A : Type 0} (w : Walk A) (Q : A → Type 0) : Type 0 where
    pub kept : (met after : List TypedName) (x : A) → w met ≡ Ok (x, after) → Every P after → Every P met
    pub once : (met after : List TypedName) (x : A) → w met ≡ Ok (x, after) → Apart c.edition met → Apart c.edition after
    pub holds : (met after : List TypedName) (x : A) → w met ≡ Ok (x, after) → Given after → Q x

  pub then_good : {A B : Type 0} {p : Walk A} {q : A → Walk B} {Q : A → Type 0} {R : B → Type 0} → Good p Q → ((x : A) → Good (q x) (λ y. Q x → R y)) → Good (λ met. then_walk (p met) (λ found. q found.0 found.1)) R
  then_good {p = p} {q = q} g h = record {
    kept = λ met after y e v. let r = ran (p met) (λ found. q found.0 found.1) (y, after) e in
        g.kept met r.from.1 r.from.0 r.was ((h r.from.0).kept r.from.1 after y r.is v);
    once = λ met after y e v. let r = ran (p met) (λ found. q found.0 found.1) (y, after) e in
        (h r.from.0).once r.from.1 after y r.is (g.once met r.from.1 r.from.0 r.was v);
    holds = λ met after y e v. let r = ran (p met) (λ found. q found.0 found.1) (y, after) e in
        (h r.from.0).holds r.from.1 after y r.is v (g.holds met r.from.1 r.from.0 r.was (λ is. (h r.from.0).kept r.from.1 after y r.is (v is)));
  }

  -- a step that meets no witness, and then the rest
  pub step_good : {A B : Type 0} (step : Step A) {q : A → List TypedName → Result (B × List TypedName) Broken} {R : B → Type 0} → ((x : A) → step ≡ Ok x → Good (q x) R) →
      Good (λ met. then_walk (then_walk {A = A} {B = A × List TypedName} step (λ x. Ok (x, met))) (λ found. q found.0 found.1)) R
  step_good (Ok x) {q = q} h = let g = h x refl in record { kept = g.kept; once = g.once; holds = g.holds }
  step_good (Err broken) {q = q} h = record { kept = λ met after y e v. absurd (cc); once = λ met after y e v. absurd (cc); holds = λ met after y e v. absurd (cc) }

  pub needs_good : {B : Type 0} (b : Bool) (rule : Rule) (span : Span) (q : Walk B) {R : B → Type 0} → (b ≡ true → Good q R) →
      Good (λ met. then_walk (then_walk {A = Unit {0}} {B = Unit {0} × List TypedName} (steps.needs b rule span) (λ x. Ok (x, met))) (λ found. q found.1)) R
  needs_good true rule span q h = let g = h refl in record { kept = g.kept; once = g.once; holds = g.holds }
  needs_good false rule span q h = record { kept = λ met after y e v. absurd (cc); once = λ met after y e v. absurd (cc); holds = λ met after y e v. absurd (cc) }

  pub wants_good : {A B : Type 0} (o : Option A) (rule : Rule) (span : Span) (q : A → Walk B) {R : B → Type 0} → ((x : A) → o ≡ Some x → Good (q x) R) →
      Good (λ met. then_walk (then_walk {A = A} {B = A × List TypedName} (steps.wants o rule span) (λ x. Ok (x, met))) (λ found. q found.0 found.1)) R
  wants_good (Some x) rule span q h = let g = h x refl in record { kept = g.kept; once = g.once; holds = g.holds }
  wants_good None rule span q h = record { kept = λ met after y e v. absurd (cc); once = λ met after y e v. absurd (cc); holds = λ met after y e v. absurd (cc) }

  pub done_good : {A : Type 0} {x : A} {R : A → Type 0} → R x → Good (λ met. Ok (x, met)) R
  done_good {x = x} {R = R} h = record {
    kept = λ met after y e v. subst (Every P) (sym (ap (λ p. p.1) (ok_same e))) v;
    once = λ met after y e v. subst (Apart c.edition) (ap (λ p. p.1) (ok_same e)) v;
    holds = λ met after y e v. subst R (ap (λ p. p.0) (ok_same e)) h;
  }

  pub refuse_good : {A : Type 0} {broken : Broken} {R : A → Type 0} → Good (λ met. Err broken) R
  refuse_good = record { kept = λ met after y e v. absurd (cc); once = λ met after y e v. absurd (cc); holds = λ met after y e v. absurd (cc) }
