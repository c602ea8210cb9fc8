-- Answers to the goals of `id_of`: the id of a shape, which is added where it isn't there yet.
use Rattle.std.proofs.Common.{◌≡◌, [], ◌∷◌, ◌++◌, ◌∙◌, None}
use Rattle.indexmap.specs.IndexMap.{get}
use Rattle.indexmap.proofs.CallerLemmas.{insert_entry-new}
use Rattle.type_table.proofs.Places.{same, found_at, not_there, absent_from}
use Rattle.type_table.proofs.Tables.{Follows, found_in, follows_in, table-push, added_means, added_grown}
use Rattle.type_table.proofs.table.TypeTable.id_of.Goals as goal

pub returns-in-Some-clause-ok : goal.returns-in-Some-clause-ok
returns-in-Some-clause-ok c = found_in _ _ c.self.view_is c.self.invariant _ _ (found_at _ _ _ c.in-Some.ensures.index)

-- no row has the shape
absent : (c : goal.In_ok-insert-in-None) → get same c.self.inside.rows c.args.shape ≡ None
absent c = not_there c.self.inside.rows.entries c.args.shape c.in-None.ensures.index

-- the new row is the last, and follows those that were there
entries : (c : goal.In_ok-insert-in-None) → c.insert.new.self.entries ≡ c.self.inside.rows.entries ++ (c.args.shape, c.measures_of-measures.result) ∷ []
entries c = c.in_ok-insert-in-None.ensures.entries ∙ insert_entry-new same c.self.inside.rows _ _ (absent c)

follows : (c : goal.In_ok-insert-in-None) → Follows c.self.inside.rows.entries (c.args.shape, c.measures_of-measures.result)
follows c =
    let measures = c.measures_of-measures.ensures in
    follows_in _ _ c.self.view_is c.self.invariant _ c.requires measures.size measures.weight (absent_from c.self.inside.rows.entries c.args.shape (absent c))

pub invariant_of-self-in-None : goal.invariant_of-self-in-None
invariant_of-self-in-None c = rw (entries c) (table-push _ _ c.self.invariant (follows c))

pub returns-in_ok-insert-in-None-clause-ok : goal.returns-in_ok-insert-in-None-clause-ok
returns-in_ok-insert-in-None-clause-ok c = rw (entries c) (added_means _ _ c.self.view_is c.self.invariant _ _ (follows c) c.len-id.ensures.len)

pub returns-in_ok-insert-in-None-clause-grown : goal.returns-in_ok-insert-in-None-clause-grown
returns-in_ok-insert-in-None-clause-grown c = rw (entries c) (added_grown _ _ c.self.view_is c.self.invariant _ (follows c))

pub returns-in_ok-insert-in-None-clause-distinct : goal.returns-in_ok-insert-in-None-clause-distinct
returns-in_ok-insert-in-None-clause-distinct c = rw (entries c) (table-push _ _ c.self.invariant (follows c)).distinct
