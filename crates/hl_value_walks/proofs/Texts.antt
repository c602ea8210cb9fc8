-- A text that is an expression of forms of values is a value text of a type, or none, as it is checked at the type.
use Rattle.std.proofs.Common.{◌≡◌, false, List, ℕ, Option, Some, None, Result, Ok, refl, sym, ap, ◌∙◌, subst, IsTrue}
use Rattle.hl_data.specs.declared.typed.TypedExpr.{TypedExpr}
use Rattle.hl_data.specs.declared.value.HlValue.{HlValue}
use Rattle.hl_syntax.specs.declared.kinds.HlType.{HlType}
use Rattle.hl_syntax.specs.declared.kinds.TypedName.{TypedName}
use Rattle.hl_syntax.specs.declared.token.Token.{Token}
use Rattle.hl_syntax.specs.declared.tree.Expr.{Expr}
use Rattle.simplicityhl.specs.Grammar as grammar
use Rattle.simplicityhl.specs.Grammar.{Stands, most_depth}
use Rattle.simplicityhl.specs.Tokens.{tokens}
use Rattle.simplicityhl.specs.Written.{Broken}
use Rattle.hl_grammar.specs.Laws.{IsOne}
use Rattle.hl_grammar.specs.Read as read
use Rattle.hl_grammar.proofs.Exprs.{expr_at}
use Rattle.hl_grammar.proofs.Whole.{one_tree}
use Rattle.hl_rules.specs.Exprs.{expr_walk}
use Rattle.hl_values.specs.Reads.{IsNoValueText}
use Rattle.hl_values.specs.Written.{written}
use Rattle.hl_value_walks.specs.Agree.{is_value, Agree, same, neither}
use Rattle.hl_value_walks.specs.Laws.{TextsAgree, TextAgrees, a_value, no_value}
use Rattle.hl_value_walks.proofs.AsTexts.{exprs_drop}
use Rattle.hl_value_walks.proofs.AsExpressions.{texts_lift}
use Rattle.hl_value_walks.proofs.Walking.{agree}

one_expr : IsOne grammar.expr
one_expr = one_tree grammar.expr read.expr (expr_at false)

same_tokens : (text : List ℕ) (ts us : List Token) → tokens text ≡ Ok ts → tokens text ≡ Ok us → ts ≡ us
same_tokens text ts us h g = let e = sym h ∙ g in cc

abbrev IsExpr : List Token → Expr → Type 0
IsExpr = Stands grammar.expr most_depth

module _ (text : List ℕ) (ts : List Token) (tree : Expr) (kind : HlType) (met : List TypedName)
    (lexed : tokens text ≡ Ok ts) (stands : IsExpr ts tree) (value : IsTrue (is_value tree)) where
  no_text : written tree kind ≡ None → IsNoValueText text kind
  no_text none = record {
    none = λ v is.
        let same = same_tokens text is.found ts is.lexed lexed in
        let lifted : IsExpr ts is.tree = subst (λ us. IsExpr us is.tree) same (texts_lift most_depth is.found is.tree is.stands).stands in
        let one = one_expr ts tree is.tree (most_depth, stands) (most_depth, lifted) in
        let e : None ≡ Some v = sym none ∙ ap (λ e. written e kind) one ∙ is.walked in
        absurd (cc);
  }

  text_agrees : (o : Option HlValue) (r : Result (TypedExpr × List TypedName) Broken) → Agree kind met o r → written tree kind ≡ o →
      TextAgrees text kind met r
  text_agrees _ _ (same v found spells) is =
      a_value v found (record { found = ts; tree = tree; lexed = lexed; stands = exprs_drop most_depth ts tree value stands; walked = is }) spells
  text_agrees _ _ (neither rule span) is = no_value rule span (no_text is)

pub texts_agree : TextsAgree
texts_agree text ts tree kind c scope rule met lexed stands value sound =
    text_agrees text ts tree kind met lexed stands value (written tree kind) (expr_walk c tree scope kind rule met)
    (agree c scope met kind sound tree value rule) refl
