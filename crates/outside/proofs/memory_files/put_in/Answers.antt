-- Answers to the goals of `put_in`: puts a file in the place of the one of its name, or behind the others.
use Rattle.std.proofs.Common.{◌≡◌, Some, None, position, rules, refl}
use Rattle.outside.specs.MemoryFiles.{has_name}
use Rattle.outside.proofs.HeldFiles.{HoldsAt-set, HoldsAt-push}
use Rattle.outside.proofs.memory_files.put_in.Goals as goal

pub returns-in-Some-clause-ok : goal.returns-in-Some-clause-ok
returns-in-Some-clause-ok c =
    let first : position (has_name c.args.name.now) c.args.files.now.items ≡ Some c.in-Some.place = search rules in
    HoldsAt-set _ _ c.index_mut-file.result.now _ _ first c.index_mut-file.ensures.value refl

pub returns-in_ok-push-in-None-clause-ok : goal.returns-in_ok-push-in-None-clause-ok
returns-in_ok-push-in-None-clause-ok c =
    let none : position (has_name c.args.name.now) c.args.files.now.items ≡ None = search rules in
    rw c.in_ok-push-in-None.ensures.items (HoldsAt-push _ _ _ none c.in_ok-name-in-None.ensures.ok)
