-- Answers to the goals of `route_to` in `layout`.
use Rattle.std.proofs.Common.{map, reverse, ap, sym, ◌∙◌}
use Rattle.scope_layout.specs.Layers.{layer_of, layer_path, path_of}
use Rattle.scope_layout.proofs.Depths.{found_before, found_outside, as_many}
use Rattle.scope_layout.proofs.layout.Layout.route_to.Goals as goal

pub returns-in-Some : goal.returns-in-Some
returns-in-Some c =
    let way = layer_path c.args.sort c.args.name.now in
    let ways = map way (reverse (map layer_of c.self.inside.bound.items)) in
    let found = rw c.as_slice.ensures.value at c.in_ok-route.ensures in
    sym (found_before ways (way (layer_of c.self.inside.root)) c.in-Some.route (sym found ∙ c.in-Some.is)) ∙ ap (path_of c.args.sort c.args.name.now) c.self.view_is

pub returns : goal.returns
returns c =
    let way = layer_path c.args.sort c.args.name.now in
    let ways = map way (reverse (map layer_of c.self.inside.bound.items)) in
    let found = rw c.as_slice.ensures.value at c.in_ok-route.ensures in
    let many = as_many way layer_of c.self.inside.bound.items in
    found_outside ways (way (layer_of c.self.inside.root)) c.len.result c.in-Some-2.route c.drop_layers.new.route (sym found ∙ c.in_default.is) (sym c.in_ok-route-2.ensures ∙ c.in-Some-2.is)
    (c.len.ensures ∙ c.self.inside.bound.ok.0 ∙ sym many) c.in_ok-drop_layers.ensures
    ∙ ap (path_of c.args.sort c.args.name.now) c.self.view_is
