-- A text is a value text for one value at most.
use Rattle.std.proofs.Common.{◌≡◌, List, ℕ, Some, Ok, sym, ap, ◌∙◌, subst, true}
use Rattle.hl_syntax.specs.declared.token.Token.{Token}
use Rattle.simplicityhl.specs.Grammar as grammar
use Rattle.simplicityhl.specs.Grammar.{Stands, Is, most_depth}
use Rattle.simplicityhl.specs.Tokens.{tokens}
use Rattle.hl_grammar.specs.Laws.{IsOne}
use Rattle.hl_grammar.specs.Read as read
use Rattle.hl_grammar.proofs.Exprs.{expr_at}
use Rattle.hl_grammar.proofs.Whole.{one_tree}
use Rattle.hl_texts.specs.RoundTrip.{TextIsOne}
use Rattle.hl_values.specs.Written.{written}

pub one_value : IsOne grammar.value
one_value = one_tree grammar.value read.value (expr_at true)

pub same_tokens : (text : List ℕ) (ts us : List Token) → tokens text ≡ Ok ts → tokens text ≡ Ok us → ts ≡ us
same_tokens text ts us h g = let e = sym h ∙ g in cc

pub text_is_one : TextIsOne
text_is_one text kind v w h g =
    let same = same_tokens text h.found g.found h.lexed g.lexed in
    let stands : Stands grammar.value most_depth g.found h.tree = subst (λ ts. Stands grammar.value most_depth ts h.tree) same h.stands in
    let tree = one_value g.found h.tree g.tree (most_depth, stands) (most_depth, g.stands) in
    let e : Some v ≡ Some w = sym h.walked ∙ ap (λ e. written e kind) tree ∙ g.walked in
    cc
