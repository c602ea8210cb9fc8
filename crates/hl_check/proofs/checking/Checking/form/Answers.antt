-- Answers to the goals of `form`: the form of an expression.
use Rattle.std.proofs.Common.{map, option_map}
use Rattle.hl_syntax.specs.declared.tree.ExprForm.TheOpen.{ExprForm-F}
use Rattle.hl_rules.specs.Exprs.{expr_walk, statement_walk, form_step}
use Rattle.hl_check.specs.Arms.{arm_walk}
use Rattle.hl_check.proofs.Rolled.{walked, walk-Block, walk-Match, walk-Tuple, walk-Array, walk-List, walk-Jet, walk-Call, walk-Fold, walk-ArrayFold, walk-ForWhile}
use Rattle.hl_check.proofs.checking.Checking.form.Goals as goal

pub returns-in-Block-clause-gives : goal.returns-in-Block-clause-gives
returns-in-Block-clause-gives g c =
    let k = c.args.self.now.checker.now in
    walked k c.args.form.now (form_step k (ExprForm-F.Block (map (statement_walk k) c.as_slice.result.now) (option_map (expr_walk k) c.in-Block.last))) c.args.asked.span c.args.body.now.scope c.args.asked.expected.now c.args.asked.rule c.args.body.now.met c.block.new.body.met c.block.result
    (walk-Block k c.args.form.now c.in-Block.statements c.as_slice.result.now c.in-Block.last c.in-Block.is c.as_slice.ensures) c.block.ensures.gives

pub returns-in-Match-clause-gives : goal.returns-in-Match-clause-gives
returns-in-Match-clause-gives g c =
    let k = c.args.self.now.checker.now in
    walked k c.args.form.now (form_step k (ExprForm-F.Match (expr_walk k c.get.result.now) (map (arm_walk k) c.as_slice-in-Match.result.now))) c.args.asked.span c.args.body.now.scope c.args.asked.expected.now c.args.asked.rule c.args.body.now.met c.matching.new.body.met c.matching.result
    (walk-Match k c.args.form.now c.in-Match.e c.get.result.now c.in-Match.arms c.as_slice-in-Match.result.now c.in-Match.is c.get.ensures c.as_slice-in-Match.ensures) c.matching.ensures.gives

pub returns-in-Tuple-clause-gives : goal.returns-in-Tuple-clause-gives
returns-in-Tuple-clause-gives g c =
    let k = c.args.self.now.checker.now in
    walked k c.args.form.now (form_step k (ExprForm-F.Tuple (map (expr_walk k) c.as_slice-in-Tuple.result.now))) c.args.asked.span c.args.body.now.scope c.args.asked.expected.now c.args.asked.rule c.args.body.now.met c.tuple.new.body.met c.tuple.result
    (walk-Tuple k c.args.form.now c.in-Tuple.parts c.as_slice-in-Tuple.result.now c.in-Tuple.is c.as_slice-in-Tuple.ensures) c.tuple.ensures.gives

pub returns-in-Array-clause-gives : goal.returns-in-Array-clause-gives
returns-in-Array-clause-gives g c =
    let k = c.args.self.now.checker.now in
    walked k c.args.form.now (form_step k (ExprForm-F.Array (map (expr_walk k) c.as_slice-in-Array.result.now))) c.args.asked.span c.args.body.now.scope c.args.asked.expected.now c.args.asked.rule c.args.body.now.met c.array.new.body.met c.array.result
    (walk-Array k c.args.form.now c.in-Array.parts c.as_slice-in-Array.result.now c.in-Array.is c.as_slice-in-Array.ensures) c.array.ensures.gives

pub returns-in-List-clause-gives : goal.returns-in-List-clause-gives
returns-in-List-clause-gives g c =
    let k = c.args.self.now.checker.now in
    walked k c.args.form.now (form_step k (ExprForm-F.List (map (expr_walk k) c.as_slice-in-List.result.now))) c.args.asked.span c.args.body.now.scope c.args.asked.expected.now c.args.asked.rule c.args.body.now.met c.list.new.body.met c.list.result
    (walk-List k c.args.form.now c.in-List.parts c.as_slice-in-List.result.now c.in-List.is c.as_slice-in-List.ensures) c.list.ensures.gives

pub returns-in-Jet-clause-gives : goal.returns-in-Jet-clause-gives
returns-in-Jet-clause-gives g c =
    let k = c.args.self.now.checker.now in
    walked k c.args.form.now (form_step k (ExprForm-F.Jet c.in-Jet.name (map (expr_walk k) c.as_slice-in-Jet.result.now))) c.args.asked.span c.args.body.now.scope c.args.asked.expected.now c.args.asked.rule c.args.body.now.met c.jet.new.body.met c.jet.result
    (walk-Jet k c.args.form.now c.in-Jet.name c.in-Jet.parts c.as_slice-in-Jet.result.now c.in-Jet.is c.as_slice-in-Jet.ensures) c.jet.ensures.gives

pub returns-in-Call-clause-gives : goal.returns-in-Call-clause-gives
returns-in-Call-clause-gives g c =
    let k = c.args.self.now.checker.now in
    walked k c.args.form.now (form_step k (ExprForm-F.Call c.in-Call.name (map (expr_walk k) c.as_slice-in-Call.result.now))) c.args.asked.span c.args.body.now.scope c.args.asked.expected.now c.args.asked.rule c.args.body.now.met c.call.new.body.met c.call.result
    (walk-Call k c.args.form.now c.in-Call.name c.in-Call.parts c.as_slice-in-Call.result.now c.in-Call.is c.as_slice-in-Call.ensures) c.call.ensures.gives

pub returns-in-Fold-clause-gives : goal.returns-in-Fold-clause-gives
returns-in-Fold-clause-gives g c =
    let k = c.args.self.now.checker.now in
    walked k c.args.form.now (form_step k (ExprForm-F.Fold c.in-Fold.name c.in-Fold.count (expr_walk k c.get-in-Fold.result.now) (expr_walk k c.get-in-Fold-2.result.now))) c.args.asked.span c.args.body.now.scope c.args.asked.expected.now c.args.asked.rule c.args.body.now.met c.fold.new.body.met c.fold.result
    (walk-Fold k c.args.form.now c.in-Fold.name c.in-Fold.count c.in-Fold.list c.get-in-Fold.result.now c.in-Fold.total c.get-in-Fold-2.result.now c.in-Fold.is c.get-in-Fold.ensures c.get-in-Fold-2.ensures) c.fold.ensures.gives

pub returns-in-ArrayFold-clause-gives : goal.returns-in-ArrayFold-clause-gives
returns-in-ArrayFold-clause-gives g c =
    let k = c.args.self.now.checker.now in
    walked k c.args.form.now (form_step k (ExprForm-F.ArrayFold c.in-ArrayFold.name c.in-ArrayFold.count (expr_walk k c.get-in-ArrayFold.result.now) (expr_walk k c.get-in-ArrayFold-2.result.now))) c.args.asked.span c.args.body.now.scope c.args.asked.expected.now c.args.asked.rule c.args.body.now.met c.array_fold.new.body.met c.array_fold.result
    (walk-ArrayFold k c.args.form.now c.in-ArrayFold.name c.in-ArrayFold.count c.in-ArrayFold.array c.get-in-ArrayFold.result.now c.in-ArrayFold.total c.get-in-ArrayFold-2.result.now c.in-ArrayFold.is c.get-in-ArrayFold.ensures c.get-in-ArrayFold-2.ensures) c.array_fold.ensures.gives

pub returns-in-ForWhile-clause-gives : goal.returns-in-ForWhile-clause-gives
returns-in-ForWhile-clause-gives g c =
    let k = c.args.self.now.checker.now in
    walked k c.args.form.now (form_step k (ExprForm-F.ForWhile c.in-ForWhile.name (expr_walk k c.get-in-ForWhile.result.now) (expr_walk k c.get-in-ForWhile-2.result.now))) c.args.asked.span c.args.body.now.scope c.args.asked.expected.now c.args.asked.rule c.args.body.now.met c.for_while.new.body.met c.for_while.result
    (walk-ForWhile k c.args.form.now c.in-ForWhile.name c.in-ForWhile.total c.get-in-ForWhile.result.now c.in-ForWhile.context c.get-in-ForWhile-2.result.now c.in-ForWhile.is c.get-in-ForWhile.ensures c.get-in-ForWhile-2.ensures) c.for_while.ensures.gives
