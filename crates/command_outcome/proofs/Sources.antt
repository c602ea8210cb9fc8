-- The answers to a source.
use Rattle.std.proofs.Common.{◌≡◌, ℕ, ◌+◌, List, [], length, Ok, Err, refl, subst, IsUtf8}
use Rattle.std.specs.Prelude.{Result}
use Rattle.std.specs.Str.{IsValidUpTo}
use Rattle.hl_syntax.specs.declared.rules.Limit.TheVariants.{L2}
use Rattle.hl_syntax.specs.declared.token.Span.{Span}
use Rattle.hl_syntax.specs.declared.token.Token.{Token}
use Rattle.hl_syntax.specs.declared.tree.Item.{Item}
use Rattle.simplicityhl.specs.Grammar.{Stands, most_depth, program}
use Rattle.simplicityhl.specs.Viable.{IsFirstDeep, IsSyntaxError}
use Rattle.simplicityhl.specs.Tokens.{Refusal, tokens, bad_character, open_comment, literal_too_large}
use Rattle.hl_lex.specs.declared.refusal.LexRefusal.{LexRefusal}
use Rattle.hl_lex.specs.declared.refusal.LexRefusal.TheVariants as refusal
use Rattle.hl_lex.specs.Lexes.{IsRefusalOf}
use Rattle.command_outcome.specs.declared.names.SourceCause.TheVariants as causes
use Rattle.command_outcome.specs.declared.status.Status.{Status}
use Rattle.command_outcome.specs.declared.stop.Stop.{Stop}
use Rattle.command_outcome.specs.declared.stop.Stop.TheVariants as stops
use Rattle.command_outcome.specs.Answer.{Answer, Never}
use Rattle.command_outcome.specs.Refusals.{IsBroken, IsPassed, IsRefusedAt}
use Rattle.command_outcome.specs.Source.{IsFault, IsParsed, IsLexed, IsSource, IsProgram, too_deep, syntax, parsed, not_utf8, is_text}
use Rattle.command_outcome.specs.Stops.{Stops, IsTree, IsRead, IsUnlexed}
use Rattle.command_outcome.proofs.Stopping.{stops_in}

pub no_text : (text : List ℕ) (at : ℕ) (stop : Stop) → IsValidUpTo text at → Stops (IsRefusedAt causes.NotUtf8 at (at + 1)) stop → Stops (IsSource text (λ _. Never)) stop
no_text text at stop valid is = stops_in (IsRefusedAt causes.NotUtf8 at (at + 1)) (IsSource text (λ _. Never)) stop (λ s o e r. not_utf8 at valid r) is

pub dead_tokens : (found : List Token) (end : ℕ) (at : Span) (stop : Stop) → IsSyntaxError program found end at → Stops (IsBroken causes.Syntax at) stop → Stops (IsParsed found end (λ _. Never)) stop
dead_tokens found end at stop dead is = stops_in (IsBroken causes.Syntax at) (IsParsed found end (λ _. Never)) stop (λ s o e r. syntax at dead r) is

pub deep_tokens : (found : List Token) (end : ℕ) (at : Span) (stop : Stop) → IsFirstDeep program found at → Stops (IsPassed L2) stop → Stops (IsParsed found end (λ _. Never)) stop
deep_tokens found end at stop deep is = stops_in (IsPassed L2) (IsParsed found end (λ _. Never)) stop (λ s o e r. too_deep at deep r) is

-- the first fault of a text's tokens, and what comes of its tokens
lexed_refusal : (text : List ℕ) (r : Refusal) → IsUtf8 text → tokens text ≡ Err r → (s : Status) (o e : List ℕ) → IsFault r.fault r.span s o e → IsSource text (λ _. Never) s o e
lexed_refusal text r utf8 lexed s o e is = is_text utf8 (rw lexed is)

lexed_tokens : (text : List ℕ) (found : List Token) → IsUtf8 text → tokens text ≡ Ok found → (s : Status) (o e : List ℕ) → IsParsed found (length text) (λ _. Never) s o e → IsSource text (λ _. Never) s o e
lexed_tokens text found utf8 lexed s o e is = is_text utf8 (rw lexed is)

pub first_fault : (text : List ℕ) (r : LexRefusal) (stop : Stop) → IsUtf8 text → IsRefusalOf (tokens text) r → Stops (IsUnlexed r) stop → Stops (IsSource text (λ _. Never)) stop
first_fault text r stop utf8 lexed is = stops_in (IsUnlexed r) (IsSource text (λ _. Never)) stop (faults r lexed) is
  where
    faults : (r : LexRefusal) → IsRefusalOf (tokens text) r → (s : Status) (o e : List ℕ) → IsUnlexed r s o e → IsSource text (λ _. Never) s o e
    faults (refusal.BadCharacter span) lexed s o e a = lexed_refusal text (record { fault = bad_character; span = span }) utf8 lexed s o e a
    faults (refusal.OpenComment span) lexed s o e a = lexed_refusal text (record { fault = open_comment; span = span }) utf8 lexed s o e a
    faults (refusal.LiteralTooLarge span) lexed s o e a = lexed_refusal text (record { fault = literal_too_large; span = span }) utf8 lexed s o e a
    faults refusal.OutOfMemory lexed s o e a = absurd a

-- what comes of the tokens of a text
pub token_tree : (text : List ℕ) (found : List Token) (end : ℕ) (r : Result (List Item) Stop) → IsUtf8 text → tokens text ≡ Ok found → end ≡ length text → IsTree found end r → IsRead text r
token_tree text found end (Ok tree) utf8 lexed whole is = record { utf8 = utf8; found = found; lexed = lexed; stands = is }
token_tree text found end (Err stop) utf8 lexed whole is =
    stops_in (IsParsed found (length text) (λ _. Never)) (IsSource text (λ _. Never)) stop (λ s o e a. lexed_tokens text found utf8 lexed s o e a) (subst (λ n. Stops (IsParsed found n (λ _. Never)) stop) whole is)
