-- Reading from the front of a list of tokens: what readers are made of.
use Rattle.std.specs.Prelude.{ℕ, zero, suc, Bool, true, false, List, [], ◌∷◌, length, Option, Some, None, if◌then◌else◌}
use Rattle.hl_syntax.specs.declared.token.Span.{Span}
use Rattle.hl_syntax.specs.declared.token.Token.{Token}
use Rattle.hl_syntax.specs.declared.token.TokenKind.{TokenKind}
use Rattle.simplicityhl.specs.Parts.{span_between}

-- what was read and the tokens after it; or the tokens from the one on that is refused; or the tokens from the one on that begins what is nested too deep
pub data Outcome (A : Type 0) : Type 0 where
  got : A → List Token → Outcome A
  dead : List Token → Outcome A
  too_deep : List Token → Outcome A

abbrev pub Reader : Type 0 → Type 0
Reader A = List Token → Outcome A

abbrev pub and_then : {A B : Type 0} → Outcome A → (A → Reader B) → Outcome B
and_then (got a rest) q = q a rest
and_then (dead rest) q = dead rest
and_then (too_deep rest) q = too_deep rest

infixl 10 ◌>>=◌
abbrev pub ◌>>=◌ : {A B : Type 0} → Reader A → (A → Reader B) → Reader B
p >>= q = λ ts. and_then (p ts) q

infixl 10 ◌>>◌
abbrev pub ◌>>◌ : {A B : Type 0} → Reader A → Reader B → Reader B
p >> q = p >>= (λ _. q)

abbrev pub done : {A : Type 0} → A → Reader A
done a = λ ts. got a ts

abbrev pub here : Reader (List Token)
here = λ ts. got ts ts

abbrev pub refuse : {A : Type 0} → Reader A
refuse = λ ts. dead ts

-- the first token, if there is one and it passes a test
abbrev pub first_is : (TokenKind → Bool) → List Token → Bool
first_is test [] = false
first_is test (t ∷ ts) = test t.kind

abbrev pub is_end : List Token → Bool
is_end [] = true
is_end (t ∷ ts) = false

abbrev pub end : Reader (Unit {0})
end = λ ts. if is_end ts then got tt ts else dead ts

abbrev pub one : {A : Type 0} → (TokenKind → Bool) → (Token → A) → Reader A
one test value [] = dead []
one test value (t ∷ ts) = if test t.kind then got (value t) ts else dead (t ∷ ts)

-- one of two readers, by a test of the tokens ahead
abbrev pub choose : {A : Type 0} → (List Token → Bool) → Reader A → Reader A → Reader A
choose test p q = λ ts. if test ts then p ts else q ts

abbrev pub pick_by : {L A : Type 0} → Option L → (L → Reader A) → Reader A
pick_by None p = refuse
pick_by (Some l) p = p l

-- one of many readers, by the label that the tokens ahead have
abbrev pub pick : {L A : Type 0} → (List Token → Option L) → (L → Reader A) → Reader A
pick label p = λ ts. pick_by (label ts) p ts

unfoldable pub turns : {X A : Type 0} → ((X → Reader A) → X → Reader A) → ℕ → X → Reader A
turns turn zero found = refuse
turns turn (suc more) found = turn (turns turn more) found

-- a repetition; each turn takes a token
abbrev pub turning : {X A : Type 0} → ((X → Reader A) → X → Reader A) → X → Reader A
turning turn found = λ ts. turns turn (suc (length ts)) found ts

abbrev pub spanned : {A B : Type 0} → (A → Span → B) → Reader A → Reader B
spanned make p = do
  first ← here
  a ← p
  after ← here
  done (make a (span_between first after))

abbrev pub with_span : {B : Type 0} → Reader (Span → B) → Reader B
with_span {B} p = spanned {A = Span → B} (λ make span. make span) p

-- what begins where nothing may be nested any more
abbrev pub brink : {A : Type 0} → (List Token → Bool) → Reader A
brink begins = λ ts. if begins ts then too_deep ts else dead ts

-- the first of two readers where a test holds, else the second
abbrev pub chosen : {A : Type 0} → Bool → Reader A → Reader A → Reader A
chosen true p q = p
chosen false p q = q

-- a reader, and nothing after what it reads
abbrev pub whole : {A : Type 0} → Reader A → Reader A
whole p = p >>= (λ a. end >> done a)
