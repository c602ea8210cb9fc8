-- The lines of the parts that were found so far.
use Rattle.std.proofs.Common.{◌≡◌, refl, sym, ap, ◌∙◌, ℕ, List, [], ◌∷◌, ◌++◌, length, Bool, true, false, if◌then◌else◌, Option, None, Some, arith, inl, inr, Bor, eqb-true}
use Rattle.std.specs.Prelude.{map, ◌==◌, ◌≢◌, ◌⊎◌, option_map}
use Rattle.std.specs.List.{slice_split}
use Rattle.std.specs.Option.{unwrap_or}
use Rattle.std.proofs.lemmas.List.{map-append, length-append, append-nil}
use Rattle.std.proofs.lemmas.List.Splits.{length-slice_split}
use Rattle.bundle_lines.specs.Lines.{lines_of}
use Rattle.std.specs.Str.Lines.{lines_of_parts, strip_carriage_return}

-- what a last part gives
abbrev pub last_line : List ℕ → List (List ℕ)
last_line part = if length part == 0 then [] else part ∷ []

-- all parts but the last are lines, less their carriage returns; the last is left open
abbrev pub IsCut : List (List ℕ) → List (List ℕ) → Option (List ℕ) → Type 0
IsCut parts lines None = (parts ≡ []) × (lines ≡ [])
IsCut parts lines (Some last) = (ended : List (List ℕ)) × (parts ≡ ended ++ last ∷ []) × (lines ≡ map strip_carriage_return ended)

-- the line of a part that is ended
abbrev pub ended_line : Option (List ℕ) → List (List ℕ)
ended_line None = []
ended_line (Some part) = strip_carriage_return part ∷ []

pub last_is_open : (ended : List (List ℕ)) (last : List ℕ) → lines_of_parts (ended ++ last ∷ []) ≡ map strip_carriage_return ended ++ last_line last
last_is_open [] last = refl
last_is_open (part ∷ []) last = refl
last_is_open (part ∷ next ∷ more) last = ap (λ (l : List (List ℕ)). strip_carriage_return part ∷ l) (last_is_open (next ∷ more) last)

-- one more part: what was open is ended
pub one_more : (parts lines : List (List ℕ)) (part : List ℕ) (last : Option (List ℕ)) → IsCut parts lines last → IsCut (parts ++ part ∷ []) (lines ++ ended_line last) (Some part)
one_more parts lines part None cut = ([], ap (λ (l : List (List ℕ)). l ++ part ∷ []) cut.0, ap (λ (l : List (List ℕ)). l ++ []) cut.1)
one_more parts lines part (Some last) (ended, parts_are, lines_are) = (
  ended ++ last ∷ [],
  ap (λ (l : List (List ℕ)). l ++ part ∷ []) parts_are,
  ap (λ (l : List (List ℕ)). l ++ strip_carriage_return last ∷ []) lines_are ∙ sym (map-append strip_carriage_return ended (last ∷ [])),
)

-- there is a part
some_part : (text : List ℕ) → slice_split (λ c. c == 10) text ≡ [] → ⊥
some_part text none = let more = length-slice_split (λ c. c == 10) text in absurd (omega (arith, more, ap length none))

-- the lines of a file that isn't empty
pub all_lines : (c : ℕ) (text : List ℕ) (lines : List (List ℕ)) (last : Option (List ℕ)) → IsCut (slice_split (λ c. c == 10) (c ∷ text)) lines last →
    lines ++ last_line (unwrap_or last []) ≡ lines_of (c ∷ text)
all_lines c text lines None cut = absurd (some_part (c ∷ text) cut.0)
all_lines c text lines (Some last) (ended, parts_are, lines_are) =
    ap (λ (l : List (List ℕ)). l ++ last_line last) lines_are ∙ sym (last_is_open ended last) ∙ ap lines_of_parts (sym parts_are)

-- the one line of an empty file
pub empty_line : (lines : List (List ℕ)) (last : Option (List ℕ)) → IsCut ([] ∷ []) lines last → lines ++ unwrap_or last [] ∷ [] ≡ [] ∷ []
empty_line lines None cut = absurd (cc)
empty_line lines (Some last) ([], parts_are, lines_are) = ap (λ (l : List (List ℕ)). l ++ last ∷ []) lines_are ∙ sym parts_are
empty_line lines (Some last) (first ∷ more, parts_are, lines_are) = absurd (omega (arith, ap length parts_are, length-append more (last ∷ [])))

-- the last part is a line where it isn't empty, or is all that there is
pub finished : (text : List ℕ) (lines whole : List (List ℕ)) (last : Option (List ℕ)) → IsCut (slice_split (λ c. c == 10) text) lines last →
    ((whole ≡ lines ++ unwrap_or last [] ∷ []) × ((false ≡ (length (unwrap_or last []) == 0)) ⊎ (true ≡ (length text == 0))))
    ⊎ ((whole ≡ lines) × (true ≡ (length (unwrap_or last []) == 0)) × (false ≡ (length text == 0))) → whole ≡ lines_of text
finished [] lines whole last cut (inl pushed) = pushed.0 ∙ empty_line lines last cut
finished [] lines whole last cut (inr kept) = absurd (cc)
finished (c ∷ text) lines whole last cut (inl (is, inl some)) =
    is ∙ ap (λ b. lines ++ (if b then [] else unwrap_or last [] ∷ [])) some ∙ all_lines c text lines last cut
finished (c ∷ text) lines whole last cut (inl (is, inr none)) = absurd (omega (arith, eqb-true (length (c ∷ text)) 0 (sym none)))
finished (c ∷ text) lines whole last cut (inr (is, none, some)) =
    is ∙ sym (append-nil lines) ∙ ap (λ b. lines ++ (if b then [] else unwrap_or last [] ∷ [])) none ∙ all_lines c text lines last cut

-- what an option's borrow shows
pub shown_or : (last : Option (Bor (List ℕ))) (other : Bor (List ℕ)) → other.now ≡ [] → (unwrap_or last other).now ≡ unwrap_or (option_map (λ part. part.now) last) []
shown_or None other is = is
shown_or (Some part) other is = refl
