-- The spans of a stack, the last first.
use Rattle.std.proofs.Common.{◌≡◌, ℕ, zero, suc, ◌+◌, ◌-◌, ◌<◌, ◌≤◌, List, ◌∷◌, length, get_or, set, drop, refl, sym, ap, ◌∙◌, arith}
use Rattle.std.proofs.lemmas.List.{get_or-set_same, get_or-set_other, length-set, get_or_default}
use Rattle.frame_stack.specs.Tops.{span, tops, Spans}
use Rattle.frame_stack.specs.declared.span.Span.{Span}

pub tops_length : (ss : List Span) (n : ℕ) → length (tops ss n) ≡ n
tops_length ss zero = refl
tops_length ss (suc n) = ap suc (tops_length ss n)

-- a write past the spans changes none of them
pub tops_set : (ss : List Span) (n i : ℕ) (s : Span) → n ≤ i → tops (set ss i s) n ≡ tops ss n
tops_set ss zero i s h = refl
tops_set ss (suc n) i s h =
    ap (λ (x : Span). x ∷ tops (set ss i s) n) (get_or-set_other ss i n s (span 0 0 0) (λ e. absurd (omega arith)))
    ∙ ap (λ (x : List Span). get_or ss n (span 0 0 0) ∷ x) (tops_set ss n i s (omega arith))

pub tops_push : (ss : List Span) (n : ℕ) (s : Span) → n < length ss → tops (set ss n s) (suc n) ≡ s ∷ tops ss n
tops_push ss n s h =
    ap (λ (x : Span). x ∷ tops (set ss n s) n) (get_or-set_same ss n s (span 0 0 0) h) ∙ ap (λ (x : List Span). s ∷ x) (tops_set ss n n s (omega arith))

record_is : (ss rr : List Span) (m n : ℕ) → ss ≡ rr → m ≡ n → (let a : Spans = record { tops = ss; places = m } in let b : Spans = record { tops = rr; places = n } in a ≡ b)
record_is ss rr m n e f = ap (λ (x : List Span). let a : Spans = record { tops = x; places = m } in a) e ∙ ap (λ (x : ℕ). let a : Spans = record { tops = rr; places = x } in a) f

abbrev pub spans_of : List Span → ℕ → Spans
spans_of ss n = record { tops = tops ss n; places = length ss }

pub fits : (ss : List Span) (n : ℕ) (old : Spans) → spans_of ss n ≡ old → length old.tops < old.places → n < length ss
fits ss n old is room = omega (arith, ap (λ (x : Spans). length x.tops) is, ap (λ (x : Spans). x.places) is, tops_length ss n)

pub pushed : (ss : List Span) (n : ℕ) (s : Span) (old : Spans) → spans_of ss n ≡ old → length old.tops < old.places →
    spans_of (set ss n s) (n + 1) ≡ record old { tops = s ∷ old.tops }
pushed ss n s old is room =
    record_is (tops (set ss n s) (n + 1)) (s ∷ old.tops) (length (set ss n s)) old.places
    (ap (tops (set ss n s)) (let e : n + 1 ≡ suc n = omega arith in e) ∙ tops_push ss n s (fits ss n old is room) ∙ ap (λ (x : Spans). s ∷ x.tops) is)
    (length-set ss n s ∙ ap (λ (x : Spans). x.places) is)

-- with a span on top, the number of spans is the next of another
pub one_less : (ss : List Span) (n : ℕ) (old : Spans) → spans_of ss n ≡ old → 0 < length old.tops → suc (n - 1) ≡ n
one_less ss n old is some = omega (arith, ap (λ (x : Spans). length x.tops) is, tops_length ss n)

pub top_is : (ss : List Span) (n : ℕ) (x : Span) (old : Spans) → spans_of ss n ≡ old → n ≤ length ss → 0 < length old.tops → x ≡ get_or ss (n - 1) x →
    old.tops ≡ x ∷ drop 1 old.tops
top_is ss n x old is fits some read =
    let e : suc (n - 1) ≡ n = one_less ss n old is some in
    let value : x ≡ get_or ss (n - 1) (span 0 0 0) = read ∙ get_or_default ss (n - 1) x (span 0 0 0) (omega arith) in
    let open_ : tops ss n ≡ get_or ss (n - 1) (span 0 0 0) ∷ tops ss (n - 1) = ap (tops ss) (sym e) in
    let whole : old.tops ≡ x ∷ tops ss (n - 1) = ap (λ (y : Spans). y.tops) (sym is) ∙ open_ ∙ ap (λ (y : Span). y ∷ tops ss (n - 1)) (sym value) in
    whole ∙ ap (λ (y : List Span). x ∷ drop 1 y) (sym whole)

pub popped : (ss : List Span) (n : ℕ) (old : Spans) → spans_of ss n ≡ old → 0 < length old.tops → spans_of ss (n - 1) ≡ record old { tops = drop 1 old.tops }
popped ss n old is some =
    let e : suc (n - 1) ≡ n = one_less ss n old is some in
    record_is (tops ss (n - 1)) (drop 1 old.tops) (length ss) old.places
    (ap (λ (k : ℕ). drop 1 (tops ss k)) e ∙ ap (λ (x : Spans). drop 1 x.tops) is) (ap (λ (x : Spans). x.places) is)

pub replaced : (ss : List Span) (n : ℕ) (s : Span) (old : Spans) → spans_of ss n ≡ old → n ≤ length ss → 0 < length old.tops →
    spans_of (set ss (n - 1) s) n ≡ record old { tops = s ∷ drop 1 old.tops }
replaced ss n s old is fits some =
    let e : suc (n - 1) ≡ n = one_less ss n old is some in
    record_is (tops (set ss (n - 1) s) n) (s ∷ drop 1 old.tops) (length (set ss (n - 1) s)) old.places
    (ap (tops (set ss (n - 1) s)) (sym e) ∙ tops_push ss (n - 1) s (omega arith) ∙ ap (λ (x : Spans). s ∷ x.tops) (popped ss n old is some))
    (length-set ss (n - 1) s ∙ ap (λ (x : Spans). x.places) is)
