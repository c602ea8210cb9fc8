-- Answers to the goals of `order_places_law`: each node of an ordered list is in its place.
use Rattle.simplicity.proofs.More.{order_places}
use Rattle.simplicity.proofs.order_places_law.Goals as goal

pub returns : goal.returns
returns c = order_places
