-- Invariants of `to_layer` in `bound`.
use Rattle.std.proofs.Common.{◌≡◌, None, drop, map, reverse}
use Rattle.scope_layout.specs.Layers.{layer_of, layer_path, within}
use Rattle.scope_layout.proofs.Depths.{deeper}
use Rattle.scope_layout.proofs.bound.to_layer.Given as goal

abbrev pub invariant-layers : goal.invariant-layers
invariant-layers l =
    let ways = map (layer_path l.sort l.name) (reverse (map layer_of l.layers)) in
    within ways None ≡ deeper l.depth (within (drop l.depth ways) None)
