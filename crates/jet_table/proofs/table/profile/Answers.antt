-- Answers to the goals of `profile`: all jets of the language, in the order of their names' bytes.
use Rattle.std.proofs.Common.{rules, ◌≡◌, ◌≤◌, [], length, sym, ap, ◌∙◌, arith}
use Rattle.std.proofs.lemmas.List.{take_all}
use Rattle.jet_table.specs.Rows.{rows_of}
use Rattle.jet_table.proofs.Written.{seven_in_turn}
use Rattle.jet_table.proofs.table.profile.Goals as goal

pub returns-clause-rows : goal.returns-clause-rows
returns-clause-rows c =
    let count : length c.seventh.new.rows ≡ 269 = search rules in
    let end : length c.seventh.new.rows ≤ c.seventh.result =
    omega (arith, count, c.first-at.ensures.place, c.second-at.ensures.place, c.third-at.ensures.place, c.fourth-at.ensures.place, c.fifth-at.ensures.place, c.sixth-at.ensures.place, c.seventh.ensures.place) in
    let whole =
    seven_in_turn [] _ _ _ _ _ _ _ _ _ _ _ _ _ _
    c.first-at.ensures.written
    c.second-at.ensures.written
    c.third-at.ensures.written
    c.fourth-at.ensures.written
    c.fifth-at.ensures.written
    c.sixth-at.ensures.written
    c.seventh.ensures.written in
    ap rows_of (sym (take_all c.seventh.result c.seventh.new.rows end)) ∙ whole
