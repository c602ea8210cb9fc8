-- Answers to the goals of `emit_body`: adds the nodes of a body.
use Rattle.small_source.specs.View.{body_of}
use Rattle.small_terms.proofs.Lists.{get_within}
use Rattle.small_terms.proofs.Emitted.{emits_paired, unknown_named, known_named}
use Rattle.small_terms.proofs.build.+emit_body.Goals as goal

pub returns-in_default-clause-unknown : goal.returns-in_default-clause-unknown
returns-in_default-clause-unknown t c =
    rw (c.in-Named.is, c.as_bytes-length.ensures) (unknown_named c.args.parameters.now c.in-Named.name c.in-Named.start (rw c.as_bytes.ensures at c.in_default.ensures.none))

pub emit_path-requires : goal.emit_path-requires
emit_path-requires t c = get_within c.args.parameters.now c.in-Some.place c.as_bytes.result.now c.in-Some.ensures.found

pub returns-in_ok-emit_path-in-Named-clause-known : goal.returns-in_ok-emit_path-in-Named-clause-known
returns-in_ok-emit_path-in-Named-clause-known t c =
    rw c.in-Named.is (known_named c.args.parameters.now c.in-Named.name c.in-Named.start c.in-Some.place (rw c.as_bytes.ensures at c.in-Some.ensures.found))

pub returns-in_ok-add-in-Paired-clause-emitted : goal.returns-in_ok-add-in-Paired-clause-emitted
returns-in_ok-add-in-Paired-clause-emitted t c =
    rw c.in-Paired.is (emits_paired c.args.parameters.now (body_of c.in-Paired.left.value) (body_of c.in-Paired.right.value) _ _ _ _ _ _ _ (rw c.deref.ensures at c.in_ok-left-in-Paired.ensures.emitted) (rw c.deref-in-Paired.ensures at c.in_ok-right-in-Paired.ensures.emitted) c.in_ok-add-in-Paired.ensures)
