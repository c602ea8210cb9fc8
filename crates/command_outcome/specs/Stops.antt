-- What the code answers before it writes.
use Rattle.std.specs.Prelude.{ℕ, List, [], Result, Ok, Err, string_bytes}
use Rattle.std.specs.declared.string.String.{String}
use Rattle.hl_syntax.specs.declared.rules.Limit.TheVariants.{L3}
use Rattle.hl_syntax.specs.declared.token.Token.{Token}
use Rattle.hl_syntax.specs.declared.tree.Item.{Item}
use Rattle.simplicityhl.specs.Grammar.{Stands, most_depth, program}
use Rattle.command_outcome.specs.declared.names.SourceCause.TheVariants as causes
use Rattle.command_outcome.specs.declared.status.Status.TheVariants.{Done}
use Rattle.command_outcome.specs.declared.stop.Stop.{Stop}
use Rattle.command_outcome.specs.declared.stop.Stop.TheVariants.{Refused, OutOfMemory}
use Rattle.hl_lex.specs.declared.refusal.LexRefusal.{LexRefusal}
use Rattle.hl_lex.specs.declared.refusal.LexRefusal.TheVariants as refusal
use Rattle.command_outcome.specs.Answer.{Answer, Never}
use Rattle.command_outcome.specs.Refusals.{IsBroken, IsPassed}
use Rattle.command_outcome.specs.Source.{IsParsed, IsProgram, IsSource}

-- it is an answer with nothing on `out`, or memory was short
abbrev pub Stops : Answer → Stop → Type 0
Stops A (Refused status line) = A status [] (string_bytes line)
Stops A OutOfMemory = Unit {0}

-- a text for `out`, or another status, is an answer, or memory was short
abbrev pub GivesLine : {G : Type 0} → Answer → Result (String G) Stop → Type 0
GivesLine A (Ok text) = A Done (string_bytes text) []
GivesLine A (Err stop) = Stops A stop

-- the tree of tokens that are a program, in a text that ends there, or why they are none
abbrev pub IsTree : List Token → ℕ → Result (List Item) Stop → Type 0
IsTree found end (Ok tree) = Stands program most_depth found tree
IsTree found end (Err stop) = Stops (IsParsed found end (λ _. Never)) stop

-- the tree of a source, or why it has none
abbrev pub IsRead : List ℕ → Result (List Item) Stop → Type 0
IsRead text (Ok tree) = IsProgram text tree
IsRead text (Err stop) = Stops (IsSource text (λ _. Never)) stop

-- a fault of the tokens, as an answer
abbrev pub IsUnlexed : LexRefusal → Answer
IsUnlexed (refusal.BadCharacter span) = IsBroken causes.BadCharacter span
IsUnlexed (refusal.OpenComment span) = IsBroken causes.OpenComment span
IsUnlexed (refusal.LiteralTooLarge span) = IsPassed L3
IsUnlexed refusal.OutOfMemory = Never
