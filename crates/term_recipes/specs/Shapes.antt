-- Several terms of a table by their ids, and the shapes of what constructs become that the definition of terms writes out in place.
use Rattle.std.specs.Prelude.{ℕ, ◌^◌, ◌<◌, nat_lt, List, [], ◌∷◌, length, map, if◌then◌else◌}
use Rattle.std.specs.List.{All}
use Rattle.simplicity.specs.Arrows.{target}
use Rattle.simplicity.specs.Canon.{Declared}
use Rattle.simplicity.specs.Makes.{first_of, second_of, iden, unit, comp, pair, on_first, on_second, by_tag, only_left, only_right, to_left, to_right, tuple}
use Rattle.simplicity.specs.Tuples.{copies_kind}
use Rattle.simplicity.specs.Types.{Kind, One, Product}
use Rattle.term_core.specs.declared.table_node.TermRow.{TermRow}
use Rattle.term_core.specs.Terms.{term_at}
use Rattle.hl_terms.specs.Paths.{Step, ToFirst, ToSecond}
use Rattle.hl_terms.specs.Translated.{true_term, false_term}

-- the terms that ids mean, and that each id is in the table
abbrev pub terms_at : List Kind → List TermRow → List ℕ → List Declared
terms_at kinds rows ids = map (term_at kinds rows) ids

abbrev pub AreThere : List TermRow → List ℕ → Type 0
AreThere rows ids = All (λ id. id < length rows) ids

-- a value beside another one, and what comes after the two
abbrev pub beside : Declared → Declared → Declared → Declared
beside value other rest = comp (pair value other) rest

-- a value bound before its scope `a`, in what comes after it
abbrev pub bound_in : Declared → Kind → Declared → Declared
bound_in value a rest = beside value (iden a) rest

-- a value whose result is dropped, and what comes after it
abbrev pub followed_by : Declared → Declared → Declared
followed_by value rest = beside value rest (on_second (target value) (iden (target rest)))

-- a match: the value bound before its scope `a`, and one of two arms by its tag
abbrev pub matched : Declared → (left right a : Kind) → Declared → Declared → Declared
matched value left right a first second = bound_in value a (by_tag left right a first second)

-- a value of a type `a` beside the unit value, before a test of the two
abbrev pub tested_by : Declared → Kind → Declared → Declared
tested_by value a test = beside value (unit a) test

-- what a tag holds, beside the unit value
abbrev pub held : Kind → Declared
held k = on_first One (iden k)

-- the tests: the right tag alone of a truth value, and what either tag holds, and failure at the other
abbrev pub true_alone : Declared
true_alone = only_right One One One (unit (Product One One))

abbrev pub left_alone : Kind → Kind → Declared
left_alone left right = only_left left right One (held left)

abbrev pub right_alone : Kind → Kind → Declared
right_alone left right = only_right left right One (held right)

-- whether an option holds nothing
abbrev pub none_test : Kind → Declared
none_test item = by_tag One item One (true_term (Product One One)) (false_term (Product item One))

-- how many of so many items go into the block of a level: as many as it holds, or none where they don't fill it
abbrev pub in_block : (level count : ℕ) → ℕ
in_block level count = if nat_lt count (2 ^ level) then 0 else 2 ^ level

-- the block of a level, of items of a type on inputs of a type `a`: none, or its items
abbrev pub block_term : Kind → Kind → ℕ → List Declared → Declared
block_term a item level [] = to_left (copies_kind (2 ^ level) item) (unit a)
block_term a item level (t ∷ ts) = to_right One (tuple a (t ∷ ts))

-- the part of a type that a step leads to, and that steps lead to
abbrev pub part_at : Kind → Step → Kind
part_at k ToFirst = first_of k
part_at k ToSecond = second_of k

abbrev pub end_of : Kind → List Step → Kind
end_of k [] = k
end_of k (s ∷ ss) = end_of (part_at k s) ss

-- a term on the part of a type that a step leads to, and that steps lead to
abbrev pub on_part : Kind → Step → Declared → Declared
on_part k ToFirst t = on_first (second_of k) t
on_part k ToSecond t = on_second (first_of k) t

abbrev pub along : Kind → List Step → Declared → Declared
along k [] t = t
along k (s ∷ ss) t = on_part k s (along (part_at k s) ss t)
