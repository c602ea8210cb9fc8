-- Answers to the goals of `to_layer` in `bound`.
use Rattle.std.proofs.Common.{◌++◌, map, replicate, reverse, None, Some, ap, sym, ◌∙◌, arith}
use Rattle.scope_layout.specs.Layers.{layer_of, layer_path, within}
use Rattle.scope_layout.specs.declared.path.Step.TheVariants as step
use Rattle.scope_layout.proofs.Depths.{at_layer, past_layer, from_end}
use Rattle.scope_layout.proofs.bound.to_layer.Goals as goal

pub returns-in-Some : goal.returns-in-Some
returns-in-Some c =
    let way = layer_path c.args.sort c.args.name.now in
    let ways = map way (reverse (map layer_of c.args.layers.now)) in
    ap Some (c.in_ok-drop_layers.ensures ∙ ap (λ p. replicate c.layers.depth step.Drop ++ p) c.in_ok-precede.ensures)
    ∙ sym (at_layer ways c.layers.depth (within ways None) c.in-Some.route
    (from_end way layer_of c.args.layers.now c.layers.depth c.index-layers-layers.result (omega (arith, c.layers-test.true)) c.index-layers-layers.is ∙ ap Some (sym c.in_ok-route.ensures ∙ c.in-Some.is))
    c.layers.invariant)

pub layers-preserved : goal.layers-preserved
layers-preserved c =
    let way = layer_path c.args.sort c.args.name.now in
    let ways = map way (reverse (map layer_of c.args.layers.now)) in
    past_layer ways c.layers.depth (within ways None)
    (from_end way layer_of c.args.layers.now c.layers.depth c.index-layers-layers.result (omega (arith, c.layers-test.true)) c.index-layers-layers.is ∙ ap Some (sym c.in_ok-route.ensures ∙ c.in_default.is))
    c.layers.invariant
