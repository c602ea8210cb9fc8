-- Invariants of `decode` in `decode`.
use Rattle.std.proofs.Common.{◌+◌, ◌*◌}
use denote.Param.Weighed.{most}
use Rattle.hl_syntax.specs.declared.kinds.HlType.{size-HlType}
use Rattle.hl_values.proofs.Decoding.{HasDecodedItems, HasDecodedParts}
use Rattle.hl_values.proofs.decode.+decode.Given as goal

abbrev pub decreases-decode : goal.decreases-decode
decreases-decode l = 2 * size-HlType l.kind.now

abbrev pub decreases-decode_items : goal.decreases-decode_items
decreases-decode_items l = 2 * size-HlType l.kind.now + 1

abbrev pub decreases-decode_parts : goal.decreases-decode_parts
decreases-decode_parts l = 2 * most size-HlType l.kinds.now + 1

abbrev pub invariant-decode_items-leaves : goal.invariant-decode_items-leaves
invariant-decode_items-leaves l = HasDecodedItems l.leaves l.kind l.leaf-index l.values

abbrev pub invariant-decode_parts-kinds : goal.invariant-decode_parts-kinds
invariant-decode_parts-kinds l = HasDecodedParts l.leaves l.kind-items l.place l.values
