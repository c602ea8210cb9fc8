-- A source has one answer where its trees have one, and it is settled where theirs are.
use Rattle.std.proofs.Common.{◌≡◌, ℕ, ◌+◌, ◌<◌, List, [], ◌∷◌, ◌++◌, length, Ok, Err, refl, sym, ap, ◌∙◌, arith, IsUtf8, subst}
use Rattle.std.proofs.Math.Seq.{take-length}
use Rattle.std.proofs.lemmas.List.{append_assoc}
use Rattle.std.specs.Str.{IsValidUpTo}
use Rattle.hl_syntax.specs.declared.token.Span as token
use Rattle.hl_syntax.specs.declared.token.Token.{Token}
use Rattle.hl_syntax.specs.declared.tree.Item.{Item}
use Rattle.simplicityhl.specs.Grammar.{Stands, most_depth, program}
use Rattle.simplicityhl.specs.Tokens.{Fault, Lexed, tokens}
use Rattle.simplicityhl.specs.Tokens as fault
use Rattle.simplicityhl.specs.Viable.{IsFirstDeep, IsSyntaxError}
use Rattle.hl_grammar.specs.Laws.{HasFronts, IsOne as IsOneTree}
use Rattle.command_outcome.specs.declared.names.SourceCause.TheVariants as causes
use Rattle.command_outcome.specs.declared.status.Status.{Status}
use Rattle.command_outcome.specs.Answer.{Answer, Never, IsRefusal, IsDone, IsOneIn, IsSettled, AreSettled}
use Rattle.command_outcome.specs.Source.{IsFault, IsParsed, IsLexed, IsSource, IsProgram, too_deep, syntax, parsed, not_utf8, is_text}
use Rattle.command_outcome.specs.Texts.{source_line}

-- two refusals with one line
pub same_refusal : (part : List ℕ → List ℕ) (refused : Status) (line other : List ℕ) → line ≡ other → (s t : Status) (o p e f : List ℕ) → IsRefusal refused line s o e → IsRefusal refused other t p f → (s ≡ t) × ((part o ≡ part p) × (e ≡ f))
same_refusal part refused line other same s t o p e f a b = (a.status_is ∙ sym b.status_is, (ap part (a.nothing ∙ sym b.nothing), a.line_is ∙ same ∙ sym b.line_is))

pub one_refusal : (part : List ℕ → List ℕ) (refused : Status) (line : List ℕ) → IsOneIn part (IsRefusal refused line)
one_refusal part refused line s t o p e f a b = same_refusal part refused line line refl s t o p e f a b

pub one_done : (part : List ℕ → List ℕ) (text : List ℕ) → IsOneIn part (IsDone text)
one_done part text s t o p e f a b = (a.status_is ∙ sym b.status_is, (ap part (a.text_is ∙ sym b.text_is), a.nothing ∙ sym b.nothing))

pub settled_refusal : (refused : Status) (line : List ℕ) → IsSettled refused → AreSettled (IsRefusal refused line)
settled_refusal refused line is s o e a = rw a.status_is is

pub settled_done : (text : List ℕ) → AreSettled (IsDone text)
settled_done text s o e a = rw a.status_is tt

one_fault : (part : List ℕ → List ℕ) (r : Fault) (span : token.Span) → IsOneIn part (IsFault r span)
one_fault part fault.bad_character span s t o p e f a b = one_refusal part _ _ s t o p e f a b
one_fault part fault.open_comment span s t o p e f a b = one_refusal part _ _ s t o p e f a b
one_fault part fault.literal_too_large span s t o p e f a b = one_refusal part _ _ s t o p e f a b

settled_fault : (r : Fault) (span : token.Span) → AreSettled (IsFault r span)
settled_fault fault.bad_character span s o e a = settled_refusal _ _ tt s o e a
settled_fault fault.open_comment span s o e a = settled_refusal _ _ tt s o e a
settled_fault fault.literal_too_large span s o e a = settled_refusal _ _ tt s o e a

-- tokens that go too deep are no program as deep as is allowed, nor are they dead at a place alone
deep_tree : HasFronts program → (ts : List Token) (at : token.Span) (tree : List Item) → IsFirstDeep program ts at → Stands program most_depth ts tree → ⊥
deep_tree law ts at tree f is = law.too_far (f.before ++ f.token ∷ []) f.after tree f.deep (subst (λ us. Stands program most_depth us tree) (f.are ∙ sym (append_assoc f.before (f.token ∷ []) f.after)) is)

deep_dead : (ts : List Token) (end : ℕ) (at dead : token.Span) → IsFirstDeep program ts at → IsSyntaxError program ts end dead → ⊥
deep_dead ts end at dead f e = e.shallow (f.before ++ f.token ∷ []) f.after (f.are ∙ sym (append_assoc f.before (f.token ∷ []) f.after)) f.deep

dead_tree : (ts : List Token) (end : ℕ) (at : token.Span) (tree : List Item) → IsSyntaxError program ts end at → Stands program most_depth ts tree → ⊥
dead_tree ts end at tree e is = e.none tree (most_depth, is)

same_place : (a b : token.Span) → a ≡ b → source_line causes.Syntax a.start a.end ≡ source_line causes.Syntax b.start b.end
same_place a b same = ap (λ (at : token.Span). source_line causes.Syntax at.start at.end) same

one_parsed : (part : List ℕ → List ℕ) → HasFronts program → IsOneTree program → (Next : List Item → Answer) → ((tree : List Item) → IsOneIn part (Next tree)) → (found : List Token) (end : ℕ) → IsOneIn part (IsParsed found end Next)
one_parsed part law one Next each found end s t o p e f (too_deep at d a) (too_deep at' d' b) = one_refusal part _ _ s t o p e f a b
one_parsed part law one Next each found end s t o p e f (too_deep at d a) (syntax dead x b) = absurd (deep_dead found end at dead d x)
one_parsed part law one Next each found end s t o p e f (too_deep at d a) (parsed tree is b) = absurd (deep_tree law found at tree d is)
one_parsed part law one Next each found end s t o p e f (syntax at x a) (too_deep at' d b) = absurd (deep_dead found end at' at d x)
one_parsed part law one Next each found end s t o p e f (syntax at x a) (syntax at' y b) = same_refusal part _ _ _ (same_place at at' (law.one_place found end at at' x.dead y.dead)) s t o p e f a b
one_parsed part law one Next each found end s t o p e f (syntax at x a) (parsed tree is b) = absurd (dead_tree found end at tree x is)
one_parsed part law one Next each found end s t o p e f (parsed tree is a) (too_deep at d b) = absurd (deep_tree law found at tree d is)
one_parsed part law one Next each found end s t o p e f (parsed tree is a) (syntax at x b) = absurd (dead_tree found end at tree x is)
one_parsed part law one Next each found end s t o p e f (parsed tree is a) (parsed tree' is' b) =
    each tree s t o p e f a (subst (λ u. Next u t p f) (one found tree' tree (most_depth, is') (most_depth, is)) b)

settled_parsed : (Next : List Item → Answer) → ((tree : List Item) → AreSettled (Next tree)) → (found : List Token) (end : ℕ) → AreSettled (IsParsed found end Next)
settled_parsed Next each found end s o e (too_deep at d a) = settled_refusal _ _ tt s o e a
settled_parsed Next each found end s o e (syntax at x a) = settled_refusal _ _ tt s o e a
settled_parsed Next each found end s o e (parsed tree is a) = each tree s o e a

one_lexed : (part : List ℕ → List ℕ) → HasFronts program → IsOneTree program → (Next : List Item → Answer) → ((tree : List Item) → IsOneIn part (Next tree)) → (lexed : Lexed) (end : ℕ) → IsOneIn part (IsLexed lexed end Next)
one_lexed part law one Next each (Ok found) end s t o p e f a b = one_parsed part law one Next each found end s t o p e f a b
one_lexed part law one Next each (Err r) end s t o p e f a b = one_fault part r.fault r.span s t o p e f a b

settled_lexed : (Next : List Item → Answer) → ((tree : List Item) → AreSettled (Next tree)) → (lexed : Lexed) (end : ℕ) → AreSettled (IsLexed lexed end Next)
settled_lexed Next each (Ok found) end s o e a = settled_parsed Next each found end s o e a
settled_lexed Next each (Err r) end s o e a = settled_fault r.fault r.span s o e a

-- the longest front that is UTF-8 is one
no_longer : (text : List ℕ) (at : ℕ) → IsValidUpTo text at → ¬ IsUtf8 text
no_longer text at valid utf8 = valid.longest (length text) valid.short (subst IsUtf8 (sym (take-length text)) utf8)

one_front : (text : List ℕ) (i j : ℕ) → IsValidUpTo text i → IsValidUpTo text j → i ≡ j
one_front text i j a b =
    let one : ¬ (i < j) = λ less. a.longest j less b.front in
    let two : ¬ (j < i) = λ less. b.longest i less a.front in
    omega (arith, one, two)

pub one_source : (part : List ℕ → List ℕ) → HasFronts program → IsOneTree program → (Next : List Item → Answer) → ((tree : List Item) → IsOneIn part (Next tree)) → (text : List ℕ) → IsOneIn part (IsSource text Next)
one_source part law one Next each text s t o p e f (not_utf8 i valid a) (not_utf8 j valid' b) =
    same_refusal part _ _ _ (ap (λ n. source_line causes.NotUtf8 n (n + 1)) (one_front text i j valid valid')) s t o p e f a b
one_source part law one Next each text s t o p e f (not_utf8 i valid a) (is_text utf8 b) = absurd (no_longer text i valid utf8)
one_source part law one Next each text s t o p e f (is_text utf8 a) (not_utf8 i valid b) = absurd (no_longer text i valid utf8)
one_source part law one Next each text s t o p e f (is_text utf8 a) (is_text utf8' b) = one_lexed part law one Next each (tokens text) (length text) s t o p e f a b

pub settled_source : (Next : List Item → Answer) → ((tree : List Item) → AreSettled (Next tree)) → (text : List ℕ) → AreSettled (IsSource text Next)
settled_source Next each text s o e (not_utf8 i valid a) = settled_refusal _ _ tt s o e a
settled_source Next each text s o e (is_text utf8 a) = settled_lexed Next each (tokens text) (length text) s o e a

-- refusals of a source come whatever comes after its tree
further_lexed : (Next : List Item → Answer) (lexed : Lexed) (end : ℕ) (s : Status) (o e : List ℕ) → IsLexed lexed end (λ _. Never) s o e → IsLexed lexed end Next s o e
further_lexed Next (Ok found) end s o e (too_deep at d a) = too_deep at d a
further_lexed Next (Ok found) end s o e (syntax at x a) = syntax at x a
further_lexed Next (Ok found) end s o e (parsed tree is a) = absurd a
further_lexed Next (Err r) end s o e a = a

pub further_source : (Next : List Item → Answer) (text : List ℕ) (s : Status) (o e : List ℕ) → IsSource text (λ _. Never) s o e → IsSource text Next s o e
further_source Next text s o e (not_utf8 i valid a) = not_utf8 i valid a
further_source Next text s o e (is_text utf8 a) = is_text utf8 (further_lexed Next (tokens text) (length text) s o e a)

-- a program goes on with what comes after its tree
pub read_source : (Next : List Item → Answer) (text : List ℕ) (tree : List Item) (s : Status) (o e : List ℕ) → IsProgram text tree → Next tree s o e → IsSource text Next s o e
read_source Next text tree s o e is a = is_text is.utf8 (rw is.lexed (parsed tree is.stands a))
