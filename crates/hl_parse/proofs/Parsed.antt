-- From what reading gives to what the grammar says.
use Rattle.std.proofs.Common.{ℕ, suc, List, length, Result, Ok, Err, IfOk, sym, ◌∙◌}
use Rattle.hl_syntax.specs.declared.token.Token.{Token}
use Rattle.hl_parse.specs.declared.parser.ParseRefusal.{ParseRefusal}
use Rattle.hl_parse.specs.declared.parser.ParseRefusal.TheVariants.{Syntax, TooDeep, OutOfMemory}
use Rattle.simplicityhl.specs.Parts.{Part}
use Rattle.simplicityhl.specs.Grammar.{Stands}
use Rattle.hl_grammar.specs.Readers.{Reader, whole}
use Rattle.hl_grammar.proofs.Exact.{Exact, got-same}
use Rattle.hl_grammar.proofs.Tokens.{calm}
use Rattle.hl_grammar.proofs.Whole.{whole-sound, whole-read}
use Rattle.hl_parse.specs.Answers.{AnswersTree, Finds}

pub parsed : {A : Type 0} {least : ℕ} (part : ℕ → Part A) (depth : ℕ) (reader : Reader A) → ((bound : ℕ) → Exact calm depth depth least bound (part depth) (part depth) reader) → (ts : List Token) (end : ℕ) (result : Result A ParseRefusal) → AnswersTree (whole reader ts) end result → IfOk result (λ tree. Stands part depth ts tree)
parsed part depth reader exact ts end (Ok tree) h = record { is = whole-sound (exact 0) ts tree h.0 h.1 }
parsed part depth reader exact ts end (Err e) h = tt

pub found : {A : Type 0} {least : ℕ} (part : ℕ → Part A) (depth : ℕ) (reader : Reader A) → ((bound : ℕ) → Exact calm depth depth least bound (part depth) (part depth) reader) → (ts : List Token) (end : ℕ) (result : Result A ParseRefusal) → AnswersTree (whole reader ts) end result → (tree : A) → Stands part depth ts tree → Finds tree result
found part depth reader exact ts end (Ok other) h tree w = let e = whole-read ts (exact (suc (length ts))) tree w.is in (got-same (sym h.1 ∙ e)).0
found part depth reader exact ts end (Err (Syntax at)) h tree w = let e = whole-read ts (exact (suc (length ts))) tree w.is in let k = h.1 in let no : ⊥ = cc (e, k) in no
found part depth reader exact ts end (Err (TooDeep at)) h tree w = let e = whole-read ts (exact (suc (length ts))) tree w.is in let k = h.1 in let no : ⊥ = cc (e, k) in no
found part depth reader exact ts end (Err OutOfMemory) h tree w = tt
