-- The answer to the bytes of a source: they are refused, or they are a program, and the next answer is that of its tree.
use Rattle.std.specs.Prelude.{◌≡◌, ℕ, ◌+◌, List, length, Ok, Err, IsUtf8}
use Rattle.std.specs.Str.{IsValidUpTo}
use Rattle.hl_syntax.specs.declared.rules.Limit.TheVariants.{L2, L3}
use Rattle.hl_syntax.specs.declared.token.Span.{Span}
use Rattle.hl_syntax.specs.declared.token.Token.{Token}
use Rattle.hl_syntax.specs.declared.tree.Item.{Item}
use Rattle.simplicityhl.specs.Grammar.{Stands, most_depth, program}
use Rattle.simplicityhl.specs.Tokens.{Fault, Lexed, tokens}
use Rattle.simplicityhl.specs.Tokens as fault
use Rattle.simplicityhl.specs.Viable.{IsFirstDeep, IsSyntaxError}
use Rattle.command_outcome.specs.declared.names.SourceCause.TheVariants as causes
use Rattle.command_outcome.specs.declared.status.Status.{Status}
use Rattle.command_outcome.specs.Answer.{Answer}
use Rattle.command_outcome.specs.Refusals.{IsBroken, IsPassed, IsRefusedAt}

-- of a text whose first fault this is
abbrev pub IsFault : Fault → Span → Answer
IsFault fault.bad_character span = IsBroken causes.BadCharacter span
IsFault fault.open_comment span = IsBroken causes.OpenComment span
IsFault fault.literal_too_large span = IsPassed L3

-- of tokens, in a text that ends there: something in them is nested too deep, or they are no program, or they are one
pub data IsParsed (found : List Token) (end : ℕ) (Next : List Item → Answer) (status : Status) (out err : List ℕ) : Type 0 where
  too_deep : (at : Span) → IsFirstDeep program found at → IsPassed L2 status out err → IsParsed found end Next status out err
  syntax : (at : Span) → IsSyntaxError program found end at → IsBroken causes.Syntax at status out err → IsParsed found end Next status out err
  parsed : (tree : List Item) → Stands program most_depth found tree → Next tree status out err → IsParsed found end Next status out err

-- of a text that ends there, by its tokens or its first fault
abbrev pub IsLexed : Lexed → ℕ → (List Item → Answer) → Answer
IsLexed (Ok found) end Next = IsParsed found end Next
IsLexed (Err refusal) end Next = IsFault refusal.fault refusal.span

-- of the bytes of a source: they are refused from the longest front on that is UTF-8, or they are text
pub data IsSource (text : List ℕ) (Next : List Item → Answer) (status : Status) (out err : List ℕ) : Type 0 where
  not_utf8 : (at : ℕ) → IsValidUpTo text at → IsRefusedAt causes.NotUtf8 at (at + 1) status out err → IsSource text Next status out err
  is_text : IsUtf8 text → IsLexed (tokens text) (length text) Next status out err → IsSource text Next status out err

-- the bytes are a program with this tree
pub record IsProgram (text : List ℕ) (tree : List Item) : Type 0 where
  pub utf8 : IsUtf8 text
  pub found : List Token
  pub lexed : tokens text ≡ Ok found
  pub stands : Stands program most_depth found tree
