-- Answers to the goals of `same_form`: whether the forms of two types are the same.
use Rattle.simplicityhl.specs.Kinds.{form}
use Rattle.hl_types.proofs.Alike.{ids_same}
use Rattle.hl_types.proofs.same.same_form.Goals as goal

pub returns : goal.returns
returns c = ids_same c.structure.new.types c.structure-2.new.types c.in_ok-one.one c.in_ok-other.other (form c.args.one.now) (form c.args.other.now) c.structure-2.ensures.grown c.structure-2.ensures.distinct c.in_ok-one.ensures.ok c.in_ok-other.ensures.ok
