-- Invariants of `encode` in `encode`.
use Rattle.std.proofs.Common.{◌≡◌, map, drop}
use Rattle.hl_meaning.specs.Values.{encoded, at_all, at_each}
use Rattle.hl_values.proofs.Encoding.{ahead}
use Rattle.hl_values.proofs.encode.+encode.Given as goal

abbrev pub invariant-encode_items-items : goal.invariant-encode_items-items
invariant-encode_items-items l = ahead l.cores.items (at_all (map encoded (drop l.item-index l.item-items)) l.kind) ≡ at_all (map encoded l.fn.items) l.kind

abbrev pub invariant-encode_parts-parts : goal.invariant-encode_parts-parts
invariant-encode_parts-parts l = ahead l.cores.items (at_each (map encoded (drop l.place l.part-items)) (drop l.place l.kinds)) ≡ at_each (map encoded l.fn.parts) l.fn.kinds
