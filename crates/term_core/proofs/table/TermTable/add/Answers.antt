-- Answers to the goals of `add`: the id of a node with an arrow over the terms that its children mean.
use Rattle.std.proofs.Common.{◌≡◌, ◌⊎◌, ◌∙◌, ap, sym, length}
use Rattle.term_core.specs.declared.table_node.TermRow.{TermRow}
use Rattle.term_core.specs.Keys.{rows_of, turn_of}
use Rattle.term_core.specs.Rows.{row_of}
use Rattle.term_core.proofs.Adding.{AfterAdd, after_add, nowhere}
use Rattle.term_core.proofs.Keys.{Found, Added, inserted, is_new, keyed_after}
use Rattle.term_core.proofs.table.TermTable.add.Goals as goal

-- the key's turn is that of a row at the end
turn : (c : goal.In_ok-id) → c.keyed_row-key.result.turn ≡ turn_of c.keyed_row-key.result.row.node (length c.self.inside.rows.keys)
turn c =
    c.keyed_row-key.ensures.turn ∙ ap (turn_of c.args.node) c.len.ensures.len
    ∙ ap (λ (r : TermRow). turn_of r.node (length c.self.inside.rows.keys)) (sym c.keyed_row-key.ensures.row)

outcome : (c : goal.In_ok-id) → Found c.self.inside.rows.keys c.insert_full.new.self.keys c.keyed_row-key.result c.in_ok-id.id ⊎ Added c.self.inside.rows.keys c.insert_full.new.self.keys c.keyed_row-key.result c.in_ok-id.id
outcome c = inserted c.self.inside.rows.keys c.keyed_row-key.result c.self.invariant (turn c) _ _ c.in_ok-id.ensures.keys c.in_ok-id.ensures.index

after : (c : goal.In_ok-id) → AfterAdd c.args.types.now c.args.self.now (rows_of c.insert_full.new.self.keys) (row_of c.args.node c.args.source c.args.target) c.in_ok-id.id
after c =
    after_add c.args.types.now c.self.inside.rows.keys c.insert_full.new.self.keys c.args.self.now c.keyed_row-key.result c.in_ok-id.id c.self.view_is c.self.invariant
    (row_of c.args.node c.args.source c.args.target) c.keyed_row-key.ensures.row c.requires.stands c.requires.follows (outcome c)

-- only a row that is found nowhere may want memory
pub returns-in_err-id-clause-found : goal.returns-in_err-id-clause-found
returns-in_err-id-clause-found c id found =
    let its_turn =
    c.keyed_row-key.ensures.turn ∙ ap (turn_of c.args.node) c.len.ensures.len
    ∙ ap (λ (r : TermRow). turn_of r.node (length c.self.inside.rows.keys)) (sym c.keyed_row-key.ensures.row) in
    let absent = is_new c.self.inside.rows.keys c.keyed_row-key.result c.self.invariant its_turn c.in_err-id.ensures.absent in
    absurd (nowhere c.args.types.now c.self.inside.rows.keys c.self.inside.rows.keys c.args.self.now c.keyed_row-key.result id c.self.view_is c.self.invariant _ c.keyed_row-key.ensures.row absent id found)

pub invariant_of-self-2 : goal.invariant_of-self-2
invariant_of-self-2 c = keyed_after _ _ _ _ c.self.invariant (turn c) (outcome c)

pub returns-clause-ok : goal.returns-clause-ok
returns-clause-ok c = (after c).means

pub returns-clause-row : goal.returns-clause-row
returns-clause-row c = (after c).at

pub returns-clause-found : goal.returns-clause-found
returns-clause-found c = (after c).found

pub returns-clause-added : goal.returns-clause-added
returns-clause-added c = (after c).added

pub returns-clause-kept : goal.returns-clause-kept
returns-clause-kept c = (after c).kept

pub returns-clause-stands : goal.returns-clause-stands
returns-clause-stands c = (after c).stands

pub returns-clause-distinct : goal.returns-clause-distinct
returns-clause-distinct c = (after c).distinct
