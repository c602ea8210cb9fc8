-- Answers to the goals of `call_jet` in `jet_calls`.
use Rattle.std.proofs.Common.{find, bytes_eq, option_map, ap, sym, ◌∙◌}
use Rattle.jets.specs.Formula.{typed, numbers}
use Rattle.jet_table.specs.Rows.{row_of}
use Rattle.word_math.specs.Answer.{numbers_of}
use Rattle.hl_meaning.specs.Answer.{gives}
use Rattle.hl_meaning.specs.Jets.{result_of}
use Rattle.hl_eval.proofs.Exits.{exits}
use Rattle.hl_eval.proofs.Results.{jet_missing, jet_unlike, jet_fails, jet_gives}
use Rattle.hl_eval.proofs.Rising.{first_named, named_at, none_named}
use Rattle.hl_eval.proofs.jet_calls.call_jet.Goals as goal

pub returns-in_default : goal.returns-in_default
returns-in_default c =
    jet_missing c.args.name.now c.args.arguments
    (ap (find (λ row. bytes_eq c.args.name.now row.name)) (sym c.requires.is) ∙ none_named c.args.name.now c.args.jets.now (rw c.as_str.ensures at c.in_default.ensures.absent))

pub returns-in_err-words : goal.returns-in_err-words
returns-in_err-words c =
    let row = row_of c.row-row.result.now in
    let named = named_at c.args.jets.now c.in-Some.place row c.args.name.now c.row-row.ensures.there (rw c.as_str.ensures at c.in-Some.ensures.there) in
    let found = ap (find (λ row. bytes_eq c.args.name.now row.name)) (sym c.requires.is) ∙ first_named c.args.name.now c.args.jets.now c.in-Some.place row c.requires.rising c.row-row.ensures.there named in
    exits _ _ _ c.from_residual.ensures.1 (jet_unlike c.args.name.now c.args.arguments row found _ (rw c.as_slice.ensures at c.in_err-words.ensures))

pub returns-in_err-results : goal.returns-in_err-results
returns-in_err-results c =
    let row = row_of c.row-row.result.now in
    let named = named_at c.args.jets.now c.in-Some.place row c.args.name.now c.row-row.ensures.there (rw c.as_str.ensures at c.in-Some.ensures.there) in
    let found = ap (find (λ row. bytes_eq c.args.name.now row.name)) (sym c.requires.is) ∙ first_named c.args.name.now c.args.jets.now c.in-Some.place row c.requires.rising c.row-row.ensures.there named in
    let kinds = ap (λ q. q.results) (c.row-row.ensures.jet c.requires.is).typed in
    let is = rw c.as_slice-2.ensures.value at c.formula-answer.ensures in
    let outcome = is ∙ ap (λ ks. option_map (typed ks) (numbers row.jet row.narrow row.wide (numbers_of c.in_ok-words.words.items))) (sym kinds) in
    exits _ _ _ c.from_residual-in_err-results.ensures.1
    (jet_fails c.args.name.now c.args.arguments row found (numbers_of c.in_ok-words.words.items) (rw c.as_slice.ensures at c.in_ok-words.ensures.numbers) _ (rw outcome at c.in_err-results.ensures))

pub returns : goal.returns
returns c =
    let row = row_of c.row-row.result.now in
    let named = named_at c.args.jets.now c.in-Some.place row c.args.name.now c.row-row.ensures.there (rw c.as_str.ensures at c.in-Some.ensures.there) in
    let found = ap (find (λ row. bytes_eq c.args.name.now row.name)) (sym c.requires.is) ∙ first_named c.args.name.now c.args.jets.now c.in-Some.place row c.requires.rising c.row-row.ensures.there named in
    let kinds = ap (λ q. q.results) (c.row-row.ensures.jet c.requires.is).typed in
    let is = rw c.as_slice-2.ensures.value at c.formula-answer.ensures in
    let outcome = is ∙ ap (λ ks. option_map (typed ks) (numbers row.jet row.narrow row.wide (numbers_of c.in_ok-words.words.items))) (sym kinds) in
    let values = rw c.as_slice-3.ensures.value at c.in_ok-values.ensures in
    jet_gives c.args.name.now c.args.arguments row found (numbers_of c.in_ok-words.words.items) (rw c.as_slice.ensures at c.in_ok-words.ensures.numbers) c.in_ok-results.results.items (sym outcome ∙ c.in_ok-results.ensures)
    ∙ ap (λ vs. gives (result_of vs)) (sym values) ∙ ap gives (sym c.result_of.ensures)
