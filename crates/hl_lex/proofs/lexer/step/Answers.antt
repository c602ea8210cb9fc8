-- Answers to the goals of `step`: reads what stands at a place, puts a token at the end of the list, and
-- gives the place after it.
use Rattle.std.proofs.Common.{◌≡◌, sym, ◌∙◌, ap, ℕ, ◌+◌, List, [], ◌∷◌, ◌++◌, drop}
use Rattle.hl_syntax.specs.declared.token.Token.{Token}
use Rattle.hl_syntax.specs.declared.token.TokenKind.{TokenKind}
use Rattle.simplicityhl.specs.Tokens.{Lexed, dropped, token, front, tokens_after}
use Rattle.hl_lex.specs.Seen.{reading_of}
use Rattle.hl_lex.specs.Lexes.{tokens_then}
use Rattle.hl_lex.proofs.Steps.{known_front, dropped_ends, dropped_on, token_ends, token_on}
use Rattle.hl_lex.proofs.lexer.step.Goals as goal

dropped_here : (c : goal.In-Dropped) → front (drop c.args.at c.args.text.now) ≡ record { reading = dropped; size = c.in_ok-front.front.size }
dropped_here c = known_front c.in_ok-front.front dropped _ _ c.in_ok-front.ensures.found c.split_at.ensures.back (ap reading_of c.in-Dropped.is)

pub returns-in-Dropped-clause-within : goal.returns-in-Dropped-clause-within
returns-in-Dropped-clause-within c = (dropped_ends c.args.text.now c.args.at c.in_ok-front.front.size c.requires (dropped_here c)).within

pub returns-in-Dropped-clause-onward : goal.returns-in-Dropped-clause-onward
returns-in-Dropped-clause-onward c = (dropped_ends c.args.text.now c.args.at c.in_ok-front.front.size c.requires (dropped_here c)).onward

pub returns-in-Dropped-clause-read : goal.returns-in-Dropped-clause-read
returns-in-Dropped-clause-read c = ap (λ (x : Lexed). tokens_then c.args.found.now x) (dropped_on c.args.text.now c.args.at c.in_ok-front.front.size c.requires (dropped_here c))

token_here : (c : goal.In_ok-push-in-Token) → front (drop c.args.at c.args.text.now) ≡ record { reading = token c.in-Token.kind; size = c.in_ok-front.front.size }
token_here c = known_front c.in_ok-front.front (token c.in-Token.kind) _ _ c.in_ok-front.ensures.found c.split_at.ensures.back (ap reading_of c.in-Token.is)

pub returns-in_ok-push-in-Token-clause-onward : goal.returns-in_ok-push-in-Token-clause-onward
returns-in_ok-push-in-Token-clause-onward c = (token_ends c.args.text.now c.args.at c.in_ok-front.front.size c.in-Token.kind c.requires (token_here c)).onward

pub returns-in_ok-push-in-Token-clause-within : goal.returns-in_ok-push-in-Token-clause-within
returns-in_ok-push-in-Token-clause-within c = (token_ends c.args.text.now c.args.at c.in_ok-front.front.size c.in-Token.kind c.requires (token_here c)).within

pub returns-in_ok-push-in-Token-clause-read : goal.returns-in_ok-push-in-Token-clause-read
returns-in_ok-push-in-Token-clause-read c =
    let end : ℕ = c.args.at + c.in_ok-front.front.size in
    let placed = λ (k : TokenKind). c.args.found.now ++ record { kind = k; span = record { start = c.args.at; end = end } } ∷ [] in
    let pushed : c.push.new.self ≡ placed c.in-Token.kind = c.in_ok-push-in-Token.ensures.ok ∙ ap placed c.in-Token.kind-is in
    token_on c.args.text.now c.args.at c.in_ok-front.front.size c.in-Token.kind c.args.found.now c.requires (token_here c)
    ∙ ap (λ (ts : List Token). tokens_then ts (tokens_after 0 end (drop end c.args.text.now))) (sym pushed)
