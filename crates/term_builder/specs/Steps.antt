-- What each call of a builder does to its state.
use Rattle.std.specs.Prelude.{ℕ, ◌≤◌, List, [], ◌∷◌, ◌++◌, length, take, drop, reverse}
use Rattle.std.specs.List.{slice_index_or}
use Rattle.simplicity.specs.Arrows.{IsTypedTerm}
use Rattle.simplicity.specs.Canon.{Declared}
use Rattle.simplicity.specs.Makes.{comp, unit, tuple, to_left, to_right}
use Rattle.simplicity.specs.Types.{Kind, One, Product}
use Rattle.simplicityhl.specs.Kinds.{form, bound_level, IsSound}
use Rattle.hl_terms.specs.Translated.{asserted, unwrapped_left, unwrapped_right, none_tested, list_term}
use Rattle.term_recipes.specs.Shapes.{bound_in, followed_by, matched}
use Rattle.term_builder.specs.State.{State}
use Rattle.term_builder.specs.declared.core_type.CoreType.{CoreType}
use Rattle.term_builder.specs.declared.core_type.CoreType.TheVariants as core

-- the core type, and that it is the form of a sound type
abbrev pub kind_of_core : CoreType → Kind
kind_of_core core.Unit = One
kind_of_core (core.Form k) = form k.now

abbrev pub IsSoundCore : CoreType → Type 0
IsSoundCore core.Unit = Unit {0}
IsSoundCore (core.Form k) = IsSound k.now

-- other terms in place of those that were made
abbrev pub with_made : List Declared → State → State
with_made ts s = record { here = s.here; outer = s.outer; made = ts; kept = s.kept }

-- one term more
abbrev pub with_term : Declared → State → State
with_term t s = with_made (t ∷ s.made) s

-- a scope with a part of a type bound before it, and the scope around one
abbrev pub entered : Kind → State → State
entered k s = record { here = Product k s.here; outer = s.here ∷ s.outer; made = s.made; kept = s.kept }

abbrev pub to_outer : List Kind → State → State
to_outer [] s = s
to_outer (k ∷ ks) s = record { here = k; outer = ks; made = s.made; kept = s.kept }

-- the scope of a function, in no other
abbrev pub begun : Kind → State → State
begun k s = record { here = k; outer = []; made = s.made; kept = s.kept }

-- of the last term that was made; of the last two, and of the last three, the last one last
abbrev pub on_last : (Declared → Declared) → List Declared → List Declared
on_last f [] = []
on_last f (t ∷ ts) = f t ∷ ts

abbrev pub on_last_two : (Declared → Declared → Declared) → List Declared → List Declared
on_last_two f (t ∷ s ∷ ts) = f s t ∷ ts
on_last_two f ts = ts

abbrev pub on_last_three : (Declared → Declared → Declared → Declared) → List Declared → List Declared
on_last_three f (t ∷ s ∷ r ∷ ts) = f r s t ∷ ts
on_last_three f ts = ts

-- of so many, in the order in which they were made
abbrev pub on_last_many : ℕ → (List Declared → Declared) → List Declared → List Declared
on_last_many count f ts = f (reverse (take count ts)) ∷ drop count ts

-- the term that was made last is typed
abbrev pub IsLastTyped : List Declared → Type 0
IsLastTyped [] = Unit {0}
IsLastTyped (t ∷ ts) = IsTypedTerm t

-- so many terms were made, and what is made of them is typed
pub record MayMake (count : ℕ) (before after : State) : Type 0 where
  pub enough : count ≤ length before.made
  pub typed : IsLastTyped after.made

-- Tests and parts of the last term.

abbrev pub assert_last : State → State
assert_last s = with_made (on_last (λ t. asserted t s.here) s.made) s

abbrev pub unwrap_left_last : Kind → Kind → State → State
unwrap_left_last l r s = with_made (on_last (λ t. unwrapped_left l r t s.here) s.made) s

abbrev pub unwrap_right_last : Kind → Kind → State → State
unwrap_right_last l r s = with_made (on_last (λ t. unwrapped_right l r t s.here) s.made) s

abbrev pub test_none_last : Kind → State → State
test_none_last item s = with_made (on_last (λ t. none_tested item t s.here) s.made) s

abbrev pub to_left_last : Kind → State → State
to_left_last r s = with_made (on_last (to_left r) s.made) s

abbrev pub to_right_last : Kind → State → State
to_right_last l s = with_made (on_last (to_right l) s.made) s

-- The last terms as parts.

abbrev pub tuple_last : ℕ → State → State
tuple_last count s = with_made (on_last_many count (tuple s.here) s.made) s

abbrev pub list_last : Kind → ℕ → ℕ → State → State
list_last item bound count s = with_made (on_last_many count (list_term s.here item (bound_level bound)) s.made) s

-- a call of a kept term, by its place, with parts as a tuple
abbrev pub kept_at : List Declared → ℕ → Declared
kept_at kept place = slice_index_or kept place (unit One)

abbrev pub call_last : ℕ → ℕ → State → State
call_last place count s = with_made (on_last_many count (λ parts. comp (tuple s.here parts) (kept_at s.kept place)) s.made) s

-- The last terms one after the other: a value that is bound before the scope in what comes after it, one that is dropped, and a match.

abbrev pub bind_last : State → State
bind_last s = with_made (on_last_two (λ value rest. bound_in value s.here rest) s.made) s

abbrev pub follow_last : State → State
follow_last s = with_made (on_last_two followed_by s.made) s

abbrev pub match_last : Kind → Kind → State → State
match_last l r s = with_made (on_last_three (λ value first second. matched value l r s.here first second) s.made) s

-- the last term among those that are kept
abbrev pub keep_last : State → State
keep_last s = record { here = s.here; outer = s.outer; made = drop 1 s.made; kept = s.kept ++ take 1 s.made }
