-- Answers to the goals of `make`: the id of a cell's least type, from those of its parts.
use Rattle.infer_cells.proofs.Paths.{cell_there, made_free, made_one, made_link, made_sum, made_product}
use Rattle.infer_cells.proofs.walk.make.Goals as goal

pub id_at-requires : goal.id_at-requires
id_at-requires c = c.requires.done _ (cell_there c.args.cells.now c.args.top _ _ c.requires.within c.in-Link.is)

pub id_at-requires-in-Sum : goal.id_at-requires-in-Sum
id_at-requires-in-Sum c = (c.requires.done _ (cell_there c.args.cells.now c.args.top _ _ c.requires.within c.in-Sum.is)).0

pub id_at-requires-in-Sum-2 : goal.id_at-requires-in-Sum-2
id_at-requires-in-Sum-2 c = (c.requires.done _ (cell_there c.args.cells.now c.args.top _ _ c.requires.within c.in-Sum.is)).1

pub sum-requires-clause-left : goal.sum-requires-clause-left
sum-requires-clause-left c = (c.requires.mean _ _ c.id_at-in-Sum.ensures).within

pub sum-requires-clause-right : goal.sum-requires-clause-right
sum-requires-clause-right c = (c.requires.mean _ _ c.id_at-in-Sum-2.ensures).within

pub id_at-requires-in-Product : goal.id_at-requires-in-Product
id_at-requires-in-Product c = (c.requires.done _ (cell_there c.args.cells.now c.args.top _ _ c.requires.within c.in-Product.is)).0

pub id_at-requires-in-Product-2 : goal.id_at-requires-in-Product-2
id_at-requires-in-Product-2 c = (c.requires.done _ (cell_there c.args.cells.now c.args.top _ _ c.requires.within c.in-Product.is)).1

pub product-requires-clause-left : goal.product-requires-clause-left
product-requires-clause-left c = (c.requires.mean _ _ c.id_at-in-Product.ensures).within

pub product-requires-clause-right : goal.product-requires-clause-right
product-requires-clause-right c = (c.requires.mean _ _ c.id_at-in-Product-2.ensures).within

pub returns-in_ok-unit-in-Free-clause-id : goal.returns-in_ok-unit-in-Free-clause-id
returns-in_ok-unit-in-Free-clause-id c = made_free c.args.cells.now c.args.types.now _ c.args.top _ (cell_there c.args.cells.now c.args.top _ _ c.requires.within c.in-Free.is) c.in_ok-unit-in-Free.ensures.ok

pub returns-in_ok-unit-in-One-clause-id : goal.returns-in_ok-unit-in-One-clause-id
returns-in_ok-unit-in-One-clause-id c = made_one c.args.cells.now c.args.types.now _ c.args.top _ (cell_there c.args.cells.now c.args.top _ _ c.requires.within c.in-One.is) c.in_ok-unit-in-One.ensures.ok

pub returns-in-Link-clause-id : goal.returns-in-Link-clause-id
returns-in-Link-clause-id c =
    made_link c.args.cells.now c.args.types.now c.args.types.now c.args.top _ c.in-Link.other (cell_there c.args.cells.now c.args.top _ _ c.requires.within c.in-Link.is)
    (c.requires.mean _ _ c.id_at.ensures)

pub returns-in_ok-sum-in-Sum-clause-id : goal.returns-in_ok-sum-in-Sum-clause-id
returns-in_ok-sum-in-Sum-clause-id c =
    made_sum c.args.cells.now c.args.types.now _ c.args.top _ c.in-Sum.first c.in-Sum.second _ _ (cell_there c.args.cells.now c.args.top _ _ c.requires.within c.in-Sum.is)
    (c.requires.mean _ _ c.id_at-in-Sum.ensures) (c.requires.mean _ _ c.id_at-in-Sum-2.ensures) c.in_ok-sum-in-Sum.ensures.ok

pub returns-in_ok-product-in-Product-clause-id : goal.returns-in_ok-product-in-Product-clause-id
returns-in_ok-product-in-Product-clause-id c =
    made_product c.args.cells.now c.args.types.now _ c.args.top _ c.in-Product.first c.in-Product.second _ _
    (cell_there c.args.cells.now c.args.top _ _ c.requires.within c.in-Product.is) (c.requires.mean _ _ c.id_at-in-Product.ensures)
    (c.requires.mean _ _ c.id_at-in-Product-2.ensures) c.in_ok-product-in-Product.ensures.ok
