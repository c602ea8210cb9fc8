-- Answers to the goals of `read_small`: reads a small source for the asked name.
use Rattle.std.proofs.Common.{◌≡◌, List, ℕ, true, Result, Ok, Err, IfOk, ◌∙◌, sym}
use Rattle.small_source.specs.declared.small.SmallFunction.{SmallFunction}
use Rattle.small_source.specs.declared.small.SmallRefusal.{SmallRefusal}
use Rattle.small_source.specs.Names.{names_function}
use Rattle.small_source.specs.Small.{IsSmall, NamesStandIn}
use Rattle.small_source.specs.Tokens.{tokens_from}
use Rattle.small_source.specs.Read.{function_read}
use Rattle.small_source.specs.View.{body_of, small_of, Reads}
use Rattle.small_source.proofs.Stands.{names_stand}
use Rattle.small_source.proofs.Sound.{small_from_read}
use Rattle.small_source.proofs.read.read_small.Goals as goal

-- what was read of a text is a small source
read_is_small : (read : Result SmallFunction SmallRefusal) (text asked : List ℕ) → names_function asked ≡ true → Reads (function_read asked (tokens_from 0 0 text)) read → IfOk read (λ f. IsSmall text asked (small_of f))
read_is_small (Ok f) text asked named e = small_from_read text asked (small_of f) named e
read_is_small (Err e) text asked named g = tt

-- and the names of its body stand at their places
read_stands : (read : Result SmallFunction SmallRefusal) (text asked : List ℕ) → IfOk read (λ f. IsSmall text asked (small_of f)) → IfOk read (λ f. NamesStandIn text (body_of f.body))
read_stands (Ok f) text asked small = names_stand text asked (small_of f) small
read_stands (Err e) text asked small = tt

pub returns-clause-small : goal.returns-clause-small
returns-clause-small c =
    read_is_small c.function.result c.args.text.now c.args.asked.now (sym c.names_function.ensures ∙ c.if-not-names_function.false) (rw c.new.ensures at c.function.ensures)

pub returns-clause-places : goal.returns-clause-places
returns-clause-places c =
    read_stands c.function.result c.args.text.now c.args.asked.now (returns-clause-small c)
