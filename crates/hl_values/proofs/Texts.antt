-- Reading a text by its tokens and their tree.
use Rattle.std.proofs.Common.{◌≡◌, List, ℕ, Some, Ok, Err, sym, ap, ◌∙◌, subst}
use Rattle.hl_data.specs.declared.value.HlValue.{HlValue}
use Rattle.hl_syntax.specs.declared.kinds.HlType.{HlType}
use Rattle.hl_syntax.specs.declared.token.Token.{Token}
use Rattle.hl_syntax.specs.declared.tree.Expr.{Expr}
use Rattle.simplicityhl.specs.Tokens.{tokens, Refusal}
use Rattle.hl_values.specs.declared.refusal.ValueRefusal.{ValueRefusal}
use Rattle.hl_values.specs.declared.refusal.ValueRefusal.TheVariants.{NotValue, OutOfMemory}
use Rattle.hl_values.specs.Written.{IsValueText, written}
use Rattle.hl_values.specs.Reads.{AnswersValue, Lexes, HasNoTokens, Parses, IsTheTree, HasTree, IsTreeOf, ReadsValue}

pub no_tokens : (text : List ℕ) (e : Refusal) → tokens text ≡ Err e → HasNoTokens text
no_tokens text e h = record { none = λ ts is. let k = sym h ∙ is in absurd (cc) }

pub tree_found : (text : List ℕ) (ts : List Token) (tree : Expr) → tokens text ≡ Ok ts → IsTheTree ts tree → IsTreeOf text tree
tree_found text ts tree lexed is = record { found = ts; lexed = lexed; is = is }

tree_refused : (text : List ℕ) (ts : List Token) (e : ValueRefusal) → tokens text ≡ Ok ts → Parses ts (Err e) → HasTree text (Err e)
tree_refused text ts NotValue lexed h = record {
  none = λ us tree is stands. let e = sym is ∙ lexed in let same : us ≡ ts = cc in h.none tree (rw same at stands);
}
tree_refused text ts OutOfMemory lexed h = tt

pub lex_refused : (text : List ℕ) (e : ValueRefusal) → Lexes text (Err e) → HasTree text (Err e)
lex_refused text NotValue h = record { none = λ us tree is stands. h.none us is }
lex_refused text OutOfMemory h = tt

pub value_found : (text : List ℕ) (kind : HlType) (tree : Expr) (v : HlValue) → IsTreeOf text tree → written tree kind ≡ Some v → IsValueText text kind v
value_found text kind tree v t walked = record { found = t.found; tree = tree; lexed = t.lexed; stands = t.is.stands; walked = walked }

value_refused : (text : List ℕ) (kind : HlType) (tree : Expr) (e : ValueRefusal) → IsTreeOf text tree → AnswersValue {A = HlValue} (written tree kind) (Err e) → ReadsValue text kind (Err e)
value_refused text kind tree NotValue t h = record {
  none = λ v is.
      let e = sym is.lexed ∙ t.lexed in
      let same : is.found ≡ t.found = cc in
      let one = t.is.one is.tree (rw same at is.stands) in
      let w : written tree kind ≡ Some v = ap (λ e. written e kind) one ∙ is.walked in
      let k = sym h ∙ w in absurd (cc);
}
value_refused text kind tree OutOfMemory t h = tt

pub text_refused : (text : List ℕ) (kind : HlType) (e : ValueRefusal) → HasTree text (Err e) → ReadsValue text kind (Err e)
text_refused text kind NotValue h = record { none = λ v is. h.none is.found is.tree is.lexed is.stands }
text_refused text kind OutOfMemory h = tt

pub tree_refused_at : (text : List ℕ) (ts us : List Token) (e : ValueRefusal) → tokens text ≡ Ok ts → us ≡ ts → Parses us (Err e) → HasTree text (Err e)
tree_refused_at text ts us e lexed same h = tree_refused text ts e lexed (subst (λ ws. Parses ws (Err e)) same h)

pub value_refused_at : (text : List ℕ) (kind : HlType) (tree other : Expr) (e : ValueRefusal) → IsTreeOf text tree → other ≡ tree → AnswersValue {A = HlValue} (written other kind) (Err e) → ReadsValue text kind (Err e)
value_refused_at text kind tree other e t same h = value_refused text kind tree e t (subst (λ x. AnswersValue {A = HlValue} (written x kind) (Err e)) same h)
