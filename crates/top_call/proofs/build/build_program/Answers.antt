-- Answers to the goals of `build_program`: the line of a function of a source that is a program.
use Rattle.std.proofs.Common.{string_bytes}
use Rattle.top_call.specs.Build.{IsBuild}
use Rattle.top_call.proofs.Small.{line_given, no_small_stops, unknown_stops}
use Rattle.top_call.proofs.build.build_program.Goals as goal

pub returns-in-Line : goal.returns-in-Line
returns-in-Line c =
    let b : IsBuild c.args.source.now c.args.function.now (string_bytes c.in-Line.line) = rw c.in-Line.is at c.in_ok-line.ensures in
    line_given c.args.source.now c.args.function.now (string_bytes c.in-Line.line) b

pub returns-in-UnknownName : goal.returns-in-UnknownName
returns-in-UnknownName c =
    unknown_stops c.args.source.now c.args.function.now c.in-UnknownName.start c.in-UnknownName.length c.refused_source.result (rw c.in-UnknownName.is at c.in_ok-line.ensures) c.refused_source.ensures

pub returns-in-NotSmall : goal.returns-in-NotSmall
returns-in-NotSmall c = no_small_stops c.args.source.now c.args.function.now c.refused_source-in-NotSmall.result (rw c.in-NotSmall.is at c.in_ok-line.ensures) c.refused_source-in-NotSmall.ensures
