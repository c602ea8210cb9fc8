-- Answers to the goals of `resolve`: the type that a written type stands for, after the aliases before it.
use Rattle.std.proofs.Common.{[], ◌∷◌, map}
use Rattle.std.proofs.lemmas.List.Elements.{All-append}
use Rattle.simplicityhl.specs.Kinds.{IsSound}
use Rattle.simplicityhl.specs.Written.{in_turn, walk}
use Rattle.hl_types.proofs.Walked.{part_found, one_sound, tuple_sound}
use Rattle.hl_types.proofs.written.+resolve.Goals as goal

pub resolve_form-returns-in_ok-kinds-in-Tuple-clause-sound :
    goal.resolve_form-returns-in_ok-kinds-in-Tuple-clause-sound
resolve_form-returns-in_ok-kinds-in-Tuple-clause-sound t c = tuple_sound c.in_ok-kinds-in-Tuple.kinds c.in_ok-kinds-in-Tuple.ensures.sound

pub resolve_parts-parts-preserved : goal.resolve_parts-parts-preserved
resolve_parts-parts-preserved t c =
    let kind = c.in_ok-kind.kind in
    record {
      found = rw c.in_ok-push.ensures.ok (part_found c.args.aliases.now c.as_slice-text-items.result.now c.parts.text-index c.text-item.result c.parts.kinds kind
          (in_turn (map (walk c.args.aliases.now) c.args.texts.now)) c.parts-test.true c.text-item.is c.in_ok-kind.ensures.answers c.parts.invariant.found);
      sound = rw c.in_ok-push.ensures.ok (All-append IsSound c.parts.kinds (kind ∷ []) c.parts.invariant.sound (one_sound kind c.in_ok-kind.ensures.sound));
    }
