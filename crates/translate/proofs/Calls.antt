-- Functions and witnesses by their places.
use Rattle.std.proofs.Common.{Bor, ◌≡◌, reverse, drop, ℕ, zero, suc, ◌+◌, ◌<◌, ◌≤◌, Bool, true, false, cond, not, List, [], ◌∷◌, ◌++◌, map, length, take, find, position, bytes_eq, Option, Some, None, option_map, refl, sym, ap, ◌∙◌, subst, arith}
use Rattle.std.specs.Prelude.{slice_get, nat_lt}
use Rattle.std.specs.List.{position_or_len, slice_index_or}
use Rattle.std.proofs.lemmas.List.{length-take-le}
use Rattle.std.proofs.lemmas.List.Folds.{find_at}
use Rattle.std.proofs.lemmas.Option.{slice_get_past, slice_get-get_or}
use Rattle.std.proofs.lemmas.Bool.Decides.{nat_tests}
use Rattle.hl_data.specs.declared.typed.TypedFunction.{TypedFunction}
use Rattle.hl_expansions.specs.Expansions.{expansions}
use Rattle.lists.specs.declared.text.Text.{Text}
use Rattle.hl_syntax.specs.declared.kinds.HlType.{HlType}
use Rattle.hl_syntax.specs.declared.kinds.TypedName.{TypedName}
use Rattle.hl_terms.specs.Programs.{function_term, functions_after, program_terms}
use Rattle.hl_terms.specs.Translated.{FunctionTerm, called, function_named, witness_number}
use Rattle.simplicity.specs.Canon.{Declared}
use Rattle.simplicity.specs.Makes.{comp, tuple}
use Rattle.simplicity.specs.Types.{Kind}
use Rattle.term_builder.specs.State.{State}
use Rattle.term_builder.specs.Steps.{with_made, kept_at, call_last}
use Rattle.translate.specs.Forms.{gather_last}
use Rattle.translate.specs.declared.gather.Gather.TheVariants as all
use Rattle.translate.specs.Here.{before_of, terms_of, witnesses_in}
use Rattle.translate.specs.declared.place.Place.{Place}

pub placed : (n len p : ℕ) → cond (nat_lt n len) (Some n) None ≡ Some p → (n ≡ p) × (p < len)
placed n len p e = (grind (arith, nat_tests), grind (arith, nat_tests))

pub past : (n len : ℕ) → cond (nat_lt n len) (Some n) None ≡ None → len ≤ n
past n len e = grind (arith, nat_tests)

-- the number of a witness, by the place of its name
at_most : (name : List ℕ) (ws : List TypedName) → position_or_len (λ w. bytes_eq name w.name) ws ≤ length ws
at_most name [] = omega arith
at_most name (w ∷ ws) = let rest = at_most name ws in by_test (bytes_eq name w.name) rest
  where
    by_test : (b : Bool) → position_or_len (λ w. bytes_eq name w.name) ws ≤ length ws → cond (not b) (1 + position_or_len (λ w. bytes_eq name w.name) ws) 0 ≤ suc (length ws)
    by_test true h = omega arith
    by_test false h = omega (arith, h)

pub number_there : (name : List ℕ) (ws : List TypedName) (p : ℕ) → position (λ w. bytes_eq name w.name) ws ≡ Some p → p ≡ witness_number ws name
number_there name ws p e = sym (placed (position_or_len (λ w. bytes_eq name w.name) ws) (length ws) p e).0

pub number_past : (name : List ℕ) (ws : List TypedName) → position (λ w. bytes_eq name w.name) ws ≡ None → length ws ≡ witness_number ws name
number_past name ws e = omega (arith, past (position_or_len (λ w. bytes_eq name w.name) ws) (length ws) e, at_most name ws)

module _ (edition : ℕ) (witnesses : List TypedName) where
  same_place : (name : List ℕ) (before : List FunctionTerm) (fs : List TypedFunction) →
      position_or_len (λ (t : FunctionTerm). bytes_eq name t.name) (functions_after expansions edition witnesses before fs) ≡ position_or_len (λ (f : TypedFunction). bytes_eq name f.name) fs
  same_place name before [] = refl
  same_place name before (f ∷ fs) = ap (λ n. cond (not (bytes_eq name f.name)) (1 + n) 0) (same_place name (before ++ function_term expansions edition witnesses before f ∷ []) fs)

  same_length : (before : List FunctionTerm) (fs : List TypedFunction) → length (functions_after expansions edition witnesses before fs) ≡ length fs
  same_length before [] = refl
  same_length before (f ∷ fs) = ap suc (same_length (before ++ function_term expansions edition witnesses before f ∷ []) fs)

  pub terms_place : (name : List ℕ) (fs : List TypedFunction) → position_or_len (λ (t : FunctionTerm). bytes_eq name t.name) (program_terms expansions edition witnesses fs) ≡ position_or_len (λ (f : TypedFunction). bytes_eq name f.name) fs
  unfolding program_terms
  terms_place name fs = same_place name [] fs

  pub terms_length : (fs : List TypedFunction) → length (program_terms expansions edition witnesses fs) ≡ length fs
  unfolding program_terms
  terms_length fs = same_length [] fs

-- a kept term by its place
kept_is : (ts : List FunctionTerm) (i : ℕ) → i < length ts → (t : FunctionTerm) × (slice_get ts i ≡ Some t) × (kept_at (map (λ (f : FunctionTerm). f.term) ts) i ≡ t.term)
kept_is [] i h = absurd (omega (arith, h))
kept_is (t ∷ ts) zero h = (t, refl, refl)
kept_is (t ∷ ts) (suc i) h = kept_is ts i (omega (arith, h))

map_length : (ts : List FunctionTerm) → length (map (λ (f : FunctionTerm). f.term) ts) ≡ length ts
map_length [] = refl
map_length (t ∷ ts) = ap suc (map_length ts)

module _ (p : Place) (name : List ℕ) (index : ℕ) (e : position (λ (f : TypedFunction). bytes_eq name f.name) (before_of p) ≡ Some index) where
  at_index : (position_or_len (λ (f : TypedFunction). bytes_eq name f.name) (before_of p) ≡ index) × (index < length (before_of p))
  at_index = placed (position_or_len (λ (f : TypedFunction). bytes_eq name f.name) (before_of p)) (length (before_of p)) index e

  index_within : index < length (terms_of p)
  index_within = omega (arith, at_index.1, terms_length p.program.now.edition (witnesses_in p) (before_of p))

  pub call_within : (kept : List Declared) → kept ≡ map (λ (f : FunctionTerm). f.term) (terms_of p) → index < length kept
  call_within kept is = omega (arith, index_within, ap length is, map_length (terms_of p))

  pub call_is : (kept : List Declared) → kept ≡ map (λ (f : FunctionTerm). f.term) (terms_of p) → (k : HlType) (a : Kind) (ts : List Declared) →
      called (option_map (λ (f : FunctionTerm). f.term) (function_named expansions (terms_of p) (witnesses_in p) name)) (tuple a ts) k ≡ comp (tuple a ts) (kept_at kept index)
  call_is kept is k a ts =
      let there = kept_is (terms_of p) index index_within in
      let found : function_named expansions (terms_of p) (witnesses_in p) name ≡ Some there.0 =
      find_at (λ (t : FunctionTerm). bytes_eq name t.name) (terms_of p) ∙ ap (slice_get (terms_of p)) (terms_place p.program.now.edition (witnesses_in p) name (before_of p) ∙ at_index.0) ∙ there.1 in
      ap (λ o. called (option_map (λ (f : FunctionTerm). f.term) o) (tuple a ts) k) found ∙ ap (comp (tuple a ts)) (sym there.2 ∙ ap (λ l. kept_at l index) (sym is))

  -- what a builder does with a call
  pub call_state : (s : State) → s.kept ≡ map (λ (f : FunctionTerm). f.term) (terms_of p) → (word : Bor Text) → word.now ≡ name → (k : HlType) (count : ℕ) →
      gather_last p (all.Call word) k count s ≡ call_last index count s
  call_state s is word same k count =
      ap (λ n. with_made (called (option_map (λ (f : FunctionTerm). f.term) (function_named expansions (terms_of p) (witnesses_in p) n)) (tuple s.here (reverse (take count s.made))) k ∷ drop count s.made) s) same
      ∙ ap (λ t. with_made (t ∷ drop count s.made) s) (call_is s.kept is k s.here (reverse (take count s.made)))

-- what is found has a place
pub not_missing : (name : List ℕ) (fs : List TypedFunction) (f : TypedFunction) → find (λ (g : TypedFunction). bytes_eq name g.name) fs ≡ Some f → position (λ (g : TypedFunction). bytes_eq name g.name) fs ≡ None → ⊥
not_missing name fs f is e =
    let far = past (position_or_len (λ (g : TypedFunction). bytes_eq name g.name) fs) (length fs) e in
    let none = find_at (λ (g : TypedFunction). bytes_eq name g.name) fs ∙ slice_get_past fs (position_or_len (λ (g : TypedFunction). bytes_eq name g.name) fs) far in
    cc
