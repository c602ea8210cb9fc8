-- The parts of this compiler that the terms of programs are given: what jets and loops become.
use Rattle.std.specs.Prelude.{option_map}
use Rattle.simplicity.specs.Canon.{Declared}
use Rattle.simplicity.specs.Widths.{level_of}
use Rattle.simplicityhl.specs.Kinds.{bound_level}
use Rattle.jets.specs.Jet.{Row}
use Rattle.hl_rules.specs.Exprs.{jet_named}
use Rattle.jet_terms.specs.Expansions.{jet_term}
use Rattle.loop_laws.specs.Trees.{array_fold, list_fold, while_at}
use Rattle.hl_terms.specs.Translated.{Expansions}

abbrev pub row_term : Row → Declared
row_term row = jet_term row.jet row.narrow row.wide

-- the term of a jet by its name; a list by the level of its bound, and a counter by that of its width
unfoldable pub expansions : Expansions
expansions = record {
  jet = λ name. option_map row_term (jet_named name);
  array_fold = array_fold;
  list_fold = λ f bound. list_fold f (bound_level bound);
  for_while = λ f width. while_at (level_of width) f;
}
