-- Printed values that are read, one by one and one after the other.
use Rattle.std.proofs.Common.{◌≡◌, ℕ, suc, ◌+◌, Bool, true, false, List, [], ◌∷◌, ◌++◌, length, map, Some, Ok, refl, sym, ap, ◌∙◌, append_assoc, append-nil, subst}
use Rattle.std.specs.List.{list_all}
use Rattle.hl_data.specs.declared.value.HlValue.{HlValue}
use Rattle.hl_syntax.specs.declared.kinds.HlType.{HlType}
use Rattle.hl_syntax.specs.declared.token.Span.{Span}
use Rattle.hl_syntax.specs.declared.token.Token.{Token}
use Rattle.hl_syntax.specs.declared.token.TokenKind.{TokenKind}
use Rattle.hl_syntax.specs.declared.token.TokenKind.TheVariants as kind
use Rattle.hl_syntax.specs.declared.token.Symbol.{Symbol}
use Rattle.hl_syntax.specs.declared.token.Symbol.TheVariants as symbol
use Rattle.hl_syntax.specs.declared.tree.Expr.{Expr}
use Rattle.hl_syntax.specs.declared.tree.ExprForm.{ExprForm}
use Rattle.simplicityhl.specs.Grammar as grammar
use Rattle.simplicityhl.specs.Grammar.{is_symbol, expr_of}
use Rattle.simplicityhl.specs.Parts.{span_between}
use Rattle.simplicityhl.specs.Tokens.{is_word_byte, token, tokens_after, with_token, word_reading}
use Rattle.hl_values.specs.Printed.{printed, joined}
use Rattle.hl_values.specs.Written.{written, each_at}
use Rattle.hl_texts.proofs.Pieces.{Begins, goes_on, placed, word_read, open_read, close_read, comma_read, comma_space_read}
use Rattle.hl_texts.proofs.Standing.{Items, no_more, last_item, next_item}

-- a text at a place is a value of a type, nested at most so deep, and then these tokens
pub record Read (at depth : ℕ) (text : List ℕ) (us : List Token) (k : HlType) (v : HlValue) : Type 0 where
  pub found : List Token
  pub tree : Expr
  pub lexed : tokens_after 0 at text ≡ Ok found
  pub stands : (grammar.value depth).Whole found tree us
  pub walked : written tree k ≡ Some v

-- so is a text before every other that goes on with no word
pub record ReadAt (at depth : ℕ) (text : List ℕ) (k : HlType) (v : HlValue) : Type 0 where
  pub end : ℕ
  pub reads : (rest : List ℕ) (us : List Token) → goes_on rest ≡ false → tokens_after 0 end rest ≡ Ok us → Read at depth (text ++ rest) us k v

-- One word.

pub leaf : (first : ℕ) (others : List ℕ) (word : TokenKind) (form : ExprForm) (at depth : ℕ) (k : HlType) (v : HlValue) → Begins first → list_all is_word_byte others ≡ true → word_reading (first ∷ others) ≡ token word →
    ((us : List Token) → let t : Token = placed word at (at + length (first ∷ others)) in (grammar.value (suc depth)).Whole (t ∷ us) (expr_of form (span_between (t ∷ us) us)) us) → ((span : Span) → written (expr_of form span) k ≡ Some v) →
    ReadAt at (suc depth) (first ∷ others) k v
leaf first others word form at depth k v begins all read stands walked = record {
  end = suc at + length others;
  reads = λ rest us apart lexed.
      let t : Token = placed word at (at + length (first ∷ others)) in
      record {
        found = t ∷ us;
        tree = expr_of form (span_between (t ∷ us) us);
        lexed = word_read first others rest word at begins all read apart ∙ ap (with_token t) lexed;
        stands = stands us;
        walked = walked (span_between (t ∷ us) us);
      };
}

-- A word before a value in parentheses.

pub applied : (first : ℕ) (others : List ℕ) (word : TokenKind) (form : Expr → ExprForm) (part : List ℕ) (at depth : ℕ) (k l : HlType) (v w : HlValue) → Begins first → list_all is_word_byte others ≡ true → word_reading (first ∷ others) ≡ token word →
    ((b : ℕ) → ReadAt b depth part l w) →
    ((t o : Token) (inner : List Token) (e : Expr) (c : Token) (us : List Token) → is_symbol symbol.OpenParenthesis o.kind ≡ true → (grammar.value depth).Whole inner e (c ∷ us) → is_symbol symbol.CloseParenthesis c.kind ≡ true → t.kind ≡ word →
    (grammar.value (suc depth)).Whole (t ∷ o ∷ inner) (expr_of (form e) (span_between (t ∷ o ∷ inner) us)) us) →
    ((e : Expr) (span : Span) → written e l ≡ Some w → written (expr_of (form e) span) k ≡ Some v) →
    ReadAt at (suc depth) ((first ∷ others) ++ 40 ∷ (part ++ 41 ∷ [])) k v
applied first others word form part at depth k l v w begins all read inner stands walked =
    let before : ℕ = suc at + length others in
    let p = inner (suc before) in
    record {
      end = suc p.end;
      reads = λ rest us apart lexed.
          let t : Token = placed word at (at + length (first ∷ others)) in
          let o : Token = placed (kind.Symbol symbol.OpenParenthesis) before (before + 1) in
          let c : Token = placed (kind.Symbol symbol.CloseParenthesis) p.end (p.end + 1) in
          let r = p.reads (41 ∷ rest) (c ∷ us) refl (close_read p.end rest ∙ ap (with_token c) lexed) in
          let whole : ((first ∷ others) ++ 40 ∷ (part ++ 41 ∷ [])) ++ rest ≡ (first ∷ others) ++ 40 ∷ (part ++ 41 ∷ rest) =
          append_assoc (first ∷ others) (40 ∷ (part ++ 41 ∷ [])) rest ∙ ap (λ z. (first ∷ others) ++ 40 ∷ z) (append_assoc part (41 ∷ []) rest) in
          record {
            found = t ∷ o ∷ r.found;
            tree = expr_of (form r.tree) (span_between (t ∷ o ∷ r.found) us);
            lexed = ap (tokens_after 0 at) whole ∙ word_read first others (40 ∷ (part ++ 41 ∷ rest)) word at begins all read refl
                ∙ ap (with_token t) (open_read before (part ++ 41 ∷ rest) ∙ ap (with_token o) r.lexed);
            stands = stands t o r.found r.tree c us refl r.stands refl refl;
            walked = walked r.tree (span_between (t ∷ o ∷ r.found) us) r.walked;
          };
    }

-- Values one after the other.

-- each is read at the type at its place
abbrev pub AllRead : ℕ → List HlValue → List HlType → Type 0
AllRead depth [] [] = Unit {0}
AllRead depth (v ∷ vs) (k ∷ ks) = ((at : ℕ) → ReadAt at depth (printed v) k v) × AllRead depth vs ks
AllRead depth _ _ = ⊥

pub record ItemsRead (close : Symbol) (is_open : Bool) (at depth : ℕ) (text : List ℕ) (us : List Token) (ks : List HlType) (vs : List HlValue) : Type 0 where
  pub found : List Token
  pub trees : List Expr
  pub turns : ℕ
  pub count : length trees ≡ length vs
  pub lexed : tokens_after 0 at text ≡ Ok found
  pub stands : (before : List Expr) → Items close (grammar.value depth) turns before found (record { items = before ++ trees; is_open = is_open }) us
  pub walked : each_at (map written trees) ks ≡ Some vs

-- a text that ends with the closing symbol
pub record ItemsAt (close : Symbol) (is_open : Bool) (at depth : ℕ) (text : List ℕ) (ks : List HlType) (vs : List HlValue) : Type 0 where
  pub end : ℕ
  pub reads : (rest : List ℕ) (us : List Token) → tokens_after 0 end rest ≡ Ok us → ItemsRead close is_open at depth (text ++ rest) us ks vs

-- a symbol that closes
pub record Closes (close : Symbol) (c : ℕ) : Type 0 where
  pub read : (at : ℕ) (rest : List ℕ) → tokens_after 0 at (c ∷ rest) ≡ with_token (placed (kind.Symbol close) at (at + 1)) (tokens_after 0 (suc at) rest)
  pub is : is_symbol close (kind.Symbol close) ≡ true
  pub apart : is_word_byte c ≡ false

module _ (close : Symbol) (c : ℕ) (closes : Closes close c) (depth : ℕ) where
  pub no_items : (at : ℕ) → ItemsAt close true at depth (c ∷ []) [] []
  no_items at = record {
    end = suc at;
    reads = λ rest us lexed.
        let t : Token = placed (kind.Symbol close) at (at + 1) in
        record {
          found = t ∷ us;
          trees = [];
          turns = 1;
          count = refl;
          lexed = closes.read at rest ∙ ap (with_token t) lexed;
          stands = λ before. subst (λ es. Items close (grammar.value depth) 1 before (t ∷ us) (record { items = es; is_open = true }) us) (sym (append-nil before)) (no_more close (grammar.value depth) 0 before t us closes.is);
          walked = refl;
        };
  }

  pub one_and_comma : (v : HlValue) (k : HlType) → ((at : ℕ) → ReadAt at depth (printed v) k v) → (at : ℕ) → ItemsAt close true at depth (printed v ++ 44 ∷ c ∷ []) (k ∷ []) (v ∷ [])
  one_and_comma v k h at =
      let p = h at in
      record {
        end = suc (suc p.end);
        reads = λ rest us lexed.
            let s : Token = placed (kind.Symbol symbol.Comma) p.end (p.end + 1) in
            let t : Token = placed (kind.Symbol close) (suc p.end) (suc p.end + 1) in
            let r = p.reads (44 ∷ c ∷ rest) (s ∷ t ∷ us) refl (comma_read p.end (c ∷ rest) ∙ ap (with_token s) (closes.read (suc p.end) rest ∙ ap (with_token t) lexed)) in
            let one = r.walked in
            record {
              found = r.found;
              trees = r.tree ∷ [];
              turns = 2;
              count = refl;
              lexed = ap (tokens_after 0 at) (append_assoc (printed v) (44 ∷ c ∷ []) rest) ∙ r.lexed;
              stands = λ before. next_item close (grammar.value depth) 1 before r.tree r.found s (t ∷ us) us (record { items = before ++ r.tree ∷ []; is_open = true }) r.stands refl
                  (no_more close (grammar.value depth) 0 (before ++ r.tree ∷ []) t us closes.is);
              walked = rw one refl;
            };
      }

  pub all_items : (v : HlValue) (vs : List HlValue) (k : HlType) (ks : List HlType) → AllRead depth (v ∷ vs) (k ∷ ks) → (at : ℕ) → ItemsAt close false at depth (joined (map printed (v ∷ vs)) ++ c ∷ []) (k ∷ ks) (v ∷ vs)
  all_items v [] k [] h at =
      let p = h.0 at in
      record {
        end = suc p.end;
        reads = λ rest us lexed.
            let t : Token = placed (kind.Symbol close) p.end (p.end + 1) in
            let r = p.reads (c ∷ rest) (t ∷ us) closes.apart (closes.read p.end rest ∙ ap (with_token t) lexed) in
            let one = r.walked in
            record {
              found = r.found;
              trees = r.tree ∷ [];
              turns = 1;
              count = refl;
              lexed = ap (tokens_after 0 at) (append_assoc (printed v) (c ∷ []) rest) ∙ r.lexed;
              stands = λ before. last_item close (grammar.value depth) 0 before r.tree r.found t us r.stands closes.is;
              walked = rw one refl;
            };
      }
  all_items v [] k (l ∷ ks) h at = absurd h.1
  all_items v (w ∷ vs) k [] h at = absurd h.1
  all_items v (w ∷ vs) k (l ∷ ks) h at =
      let p = h.0 at in
      let q = all_items w vs l ks h.1 (suc (suc p.end)) in
      let others : List ℕ = joined (map printed (w ∷ vs)) in
      record {
        end = q.end;
        reads = λ rest us lexed.
            let more = q.reads rest us lexed in
            let s : Token = placed (kind.Symbol symbol.Comma) p.end (p.end + 1) in
            let r = p.reads (44 ∷ 32 ∷ ((others ++ c ∷ []) ++ rest)) (s ∷ more.found) refl (comma_space_read p.end ((others ++ c ∷ []) ++ rest) ∙ ap (with_token s) more.lexed) in
            let whole : (((printed v ++ 44 ∷ 32 ∷ []) ++ others) ++ c ∷ []) ++ rest ≡ printed v ++ 44 ∷ 32 ∷ ((others ++ c ∷ []) ++ rest) =
            ap (λ z. (z ++ c ∷ []) ++ rest) (append_assoc (printed v) (44 ∷ 32 ∷ []) others) ∙ ap (λ z. z ++ rest) (append_assoc (printed v) (44 ∷ 32 ∷ others) (c ∷ [])) ∙ append_assoc (printed v) (44 ∷ 32 ∷ (others ++ c ∷ [])) rest in
            let one = r.walked in
            let rest_walked = more.walked in
            record {
              found = r.found;
              trees = r.tree ∷ more.trees;
              turns = suc more.turns;
              count = ap suc more.count;
              lexed = ap (tokens_after 0 at) whole ∙ r.lexed;
              stands = λ before. next_item close (grammar.value depth) more.turns before r.tree r.found s more.found us (record { items = before ++ r.tree ∷ more.trees; is_open = false }) r.stands refl
                  (subst (λ es. Items close (grammar.value depth) more.turns (before ++ r.tree ∷ []) more.found (record { items = es; is_open = false }) us) (append_assoc before (r.tree ∷ []) more.trees) (more.stands (before ++ r.tree ∷ [])));
              walked = rw (one, rest_walked) refl;
            };
      }
