-- Type texts by their tokens and their tree.
use Rattle.std.proofs.Common.{◌≡◌, ℕ, List, [], Result, Ok, Err, sym, ap, ◌∙◌}
use Rattle.hl_syntax.specs.declared.kinds.HlType.{HlType}
use Rattle.hl_syntax.specs.declared.token.Token.{Token}
use Rattle.hl_syntax.specs.declared.tree.TypeText.{TypeText}
use Rattle.simplicityhl.specs.Grammar as grammar
use Rattle.simplicityhl.specs.Grammar.{Stands, most_depth}
use Rattle.simplicityhl.specs.Tokens.{tokens}
use Rattle.simplicityhl.specs.Written.{walk}
use Rattle.hl_grammar.specs.Read as read
use Rattle.hl_grammar.proofs.Types.{type_at}
use Rattle.hl_grammar.proofs.Whole.{one_tree}
use Rattle.hl_type_texts.specs.declared.refusal.TypeTextRefusal.{TypeTextRefusal}
use Rattle.hl_type_texts.specs.declared.refusal.TypeTextRefusal.TheVariants.{NotType, OutOfMemory}
use Rattle.hl_type_texts.specs.Answers.{AnswersText}
use Rattle.hl_type_texts.specs.Texts.{IsTypeText}

abbrev IsTree : List Token → TypeText → Type 0
IsTree ts tree = Stands grammar.type most_depth ts tree

one_type : (ts : List Token) (a b : TypeText) → IsTree ts a → IsTree ts b → a ≡ b
one_type ts a b h k = one_tree grammar.type read.type type_at ts a b (most_depth, h) (most_depth, k)

same_tokens : (text : List ℕ) (ts us : List Token) → tokens text ≡ Ok ts → tokens text ≡ Ok us → ts ≡ us
same_tokens text ts us h k = let e = sym h ∙ k in cc

-- the tree of a type text
the_tree : (text : List ℕ) (ts : List Token) (tree : TypeText) (kind : HlType) → tokens text ≡ Ok ts → IsTree ts tree → IsTypeText text kind → walk [] tree ≡ Ok kind
the_tree text ts tree kind lexed stands is =
    let same = same_tokens text is.found ts is.lexed lexed in
    let one = one_type ts is.tree tree (rw same at is.stands) stands in
    ap (λ t. walk [] t) (sym one) ∙ is.walked

-- a text is a type text for one type at most
pub one_type_text : (text : List ℕ) (a b : HlType) → IsTypeText text a → IsTypeText text b → a ≡ b
one_type_text text a b h k = let e = sym h.walked ∙ the_tree text h.found h.tree b h.lexed h.stands k in cc

-- what the walk of the tree answers, and what reading the text does
pub type_answered : (text : List ℕ) (ts us : List Token) (tree other : TypeText) (r : Result HlType TypeTextRefusal) → tokens text ≡ Ok ts → us ≡ ts → IsTree us tree → other ≡ tree →
    AnswersText (λ kind. walk [] other ≡ Ok kind) r → AnswersText (IsTypeText text) r
type_answered text ts us tree other (Ok kind) lexed same stands is h =
    record { found = us; tree = other; lexed = lexed ∙ ap Ok (sym same); stands = rw is stands; walked = h }
type_answered text ts us tree other (Err NotType) lexed same stands is h =
    record { none = λ kind k. h.none kind (the_tree text us other kind (lexed ∙ ap Ok (sym same)) (rw is stands) k) }
type_answered text ts us tree other (Err OutOfMemory) lexed same stands is h = tt

-- tokens without a tree
pub tree_refused : (text : List ℕ) (ts us : List Token) (e : TypeTextRefusal) → tokens text ≡ Ok ts → us ≡ ts → AnswersText (IsTree us) (Err e) → AnswersText (IsTypeText text) (Err e)
tree_refused text ts us NotType lexed same h =
    record { none = λ kind k. h.none k.tree (rw (same_tokens text k.found us k.lexed (lexed ∙ ap Ok (sym same))) at k.stands) }
tree_refused text ts us OutOfMemory lexed same h = tt
