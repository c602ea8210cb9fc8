-- A term that fits is typed.
use Rattle.std.proofs.Common.{◌≡◌, ℕ, zero, suc, ◌+◌, ◌-◌, ◌^◌, ◌≤◌, List, [], ◌∷◌, refl, sym, ap, ◌∙◌, subst, arith}
use Rattle.std.specs.Prelude.{◌++◌, map, length, take, drop}
use Rattle.std.proofs.lemmas.List.{length-append, length-map, length-drop}
use Rattle.simplicity.specs.Types.{Kind, One, Product, word_kind}
use Rattle.simplicity.specs.Terms.{Term, PairTerm, Injl, Injr, UnitTerm, Case}
use Rattle.jet_terms.specs.Trees.{lift1, lift2, lift3, not_1, and_1, or_1, xor_1, maj_1, xor_xor_1, ch_1, complement, zeros, ones, verify, some_bit, all_bits, is_zero, is_one, eq, lt, le, least, greatest, median, full_add, add, full_subtract, subtract, full_increment, increment, full_decrement, decrement, negate, full_multiply, multiply, div_step, division, div_mod, divide, modulo, divides, leftmost, rightmost, left_pad, right_pad, left_extend, right_extend, cond, bit_paths, nested, bits, any_of, fill, or_fill, shifted_left, shifted_right, left_shift_with, right_shift_with, left_shift, right_shift, left_rotate, right_rotate, ◌⨾◌, O, I, H}
use Rattle.jet_terms.proofs.PartLaws.{up, up_is, up_zero}
use Rattle.simplicity.specs.Flowed.{leads_to, StartsFrom}

-- from this type to that
abbrev pub Leads : Term → Kind → Kind → Type 0
Leads t a b = StartsFrom t a × (leads_to t a ≡ b)

abbrev pub bit_kind : Kind
bit_kind = word_kind 0

abbrev pub words : ℕ → Kind
words k = Product (word_kind k) (word_kind k)

abbrev pub sum_source : ℕ → Kind
sum_source k = Product bit_kind (words k)

abbrev pub sum_kind : ℕ → Kind
sum_kind k = Product bit_kind (word_kind k)

pub zeros_lead : (k : ℕ) (a : Kind) → Leads (zeros k) a (word_kind k)
zeros_lead k a = ((tt, refl), refl)

pub comp_leads : (s t : Term) (a b c : Kind) → Leads s a b → Leads t b c → Leads (s ⨾ t) a c
comp_leads s t a b c h i = ((h.0, subst (λ x. StartsFrom t x) (sym h.1) i.0), ap (leads_to t) h.1 ∙ i.1)

pub pair_leads : (s t : Term) (a b c : Kind) → Leads s a b → Leads t a c → Leads (PairTerm s t) a (Product b c)
pair_leads s t a b c h i = ((h.0, i.0), rw (h.1, i.1) refl)

pub cond_leads : (b l r : Term) (a c : Kind) → Leads b a bit_kind → Leads l a c → Leads r a c → Leads (cond b l r) a c
cond_leads b l r a c f g h =
    ((assumption f.0, subst (λ x. StartsFrom (Case (I l) (I r)) (Product x a)) (sym f.1) (refl, (refl, g.0), (refl, h.0), g.1 ∙ sym h.1)), g.1)

zero_first : (t : Term) (a b : Kind) → Leads t (Product bit_kind a) b → Leads (PairTerm (Injl UnitTerm) H ⨾ t) a b
zero_first t a b h = comp_leads (PairTerm (Injl UnitTerm) H) t a (Product bit_kind a) b (assumption refl, refl) h

one_first : (t : Term) (a b : Kind) → Leads t (Product bit_kind a) b → Leads (PairTerm (Injr UnitTerm) H ⨾ t) a b
one_first t a b h = comp_leads (PairTerm (Injr UnitTerm) H) t a (Product bit_kind a) b (assumption refl, refl) h

pub not_1_leads : Leads not_1 bit_kind bit_kind
not_1_leads = (assumption refl, refl)

pub and_1_leads : Leads and_1 (words 0) bit_kind
and_1_leads = (assumption refl, refl)

pub or_1_leads : Leads or_1 (words 0) bit_kind
or_1_leads = (assumption refl, refl)

pub xor_1_leads : Leads xor_1 (words 0) bit_kind
xor_1_leads = (assumption refl, refl)

pub maj_1_leads : Leads maj_1 (sum_source 0) bit_kind
maj_1_leads = (assumption refl, refl)

pub xor_xor_1_leads : Leads xor_xor_1 (sum_source 0) bit_kind
xor_xor_1_leads = (assumption refl, refl)

pub ch_1_leads : Leads ch_1 (sum_source 0) bit_kind
ch_1_leads = (assumption refl, refl)

pub lift1_leads : (t : Term) → Leads t bit_kind bit_kind → (k : ℕ) → Leads (lift1 t k) (word_kind k) (word_kind k)
lift1_leads t h zero = h
lift1_leads t h (suc k) = let i = lift1_leads t h k in (assumption (i.0, refl), rw (i.1) refl)

pub lift2_leads : (t : Term) → Leads t (words 0) bit_kind → (k : ℕ) → Leads (lift2 t k) (words k) (word_kind k)
lift2_leads t h zero = h
lift2_leads t h (suc k) = let i = lift2_leads t h k in (assumption (i.0, refl), rw (i.1) refl)

pub lift3_leads : (t : Term) → Leads t (Product bit_kind (words 0)) bit_kind → (k : ℕ) → Leads (lift3 t k) (Product (word_kind k) (words k)) (word_kind k)
lift3_leads t h zero = h
lift3_leads t h (suc k) = let i = lift3_leads t h k in (assumption (i.0, refl), rw (i.1) refl)

pub some_leads : (k : ℕ) → Leads (some_bit k) (word_kind k) bit_kind
some_leads zero = (tt, refl)
some_leads (suc k) = let i = some_leads k in (rw (i.1) (assumption (i.0, i.1, refl)), rw (i.1) refl)

pub all_leads : (k : ℕ) → Leads (all_bits k) (word_kind k) bit_kind
all_leads zero = (tt, refl)
all_leads (suc k) = let i = all_leads k in (rw (i.1) (assumption (i.0, i.1, refl)), refl)

pub is_zero_leads : (k : ℕ) → Leads (is_zero k) (word_kind k) bit_kind
is_zero_leads k = let i = some_leads k in (rw (i.1) (assumption (i.0, refl)), refl)

pub is_one_leads : (k : ℕ) → Leads (is_one k) (word_kind k) bit_kind
is_one_leads zero = (tt, refl)
is_one_leads (suc k) = let s = some_leads k in let i = is_one_leads k in (rw (s.1) (rw (i.1) (assumption (s.0, i.0, refl))), rw (i.1) refl)

pub eq_leads : (k : ℕ) → Leads (eq k) (words k) bit_kind
eq_leads zero = (assumption refl, refl)
eq_leads (suc k) = let i = eq_leads k in (rw (i.1) (assumption (i.0, refl)), refl)

pub lt_leads : (k : ℕ) → Leads (lt k) (words k) bit_kind
lt_leads zero = (assumption refl, refl)
lt_leads (suc k) = let e = eq_leads k in let i = lt_leads k in (rw (e.1) (rw (i.1) (assumption (e.0, i.0, refl))), rw (i.1) refl)

pub le_leads : (k : ℕ) → Leads (le k) (words k) bit_kind
le_leads k = let i = lt_leads k in (rw (i.1) (assumption (i.0, refl)), refl)

pub least_leads : (k : ℕ) → Leads (least k) (words k) (word_kind k)
least_leads k = let i = lt_leads k in (rw (i.1) (assumption (i.0, refl)), refl)

pub greatest_leads : (k : ℕ) → Leads (greatest k) (words k) (word_kind k)
greatest_leads k = let i = lt_leads k in (rw (i.1) (assumption (i.0, refl)), refl)

pub median_leads : (k : ℕ) → Leads (median k) (Product (word_kind k) (words k)) (word_kind k)
median_leads k = let i = lt_leads k in (rw (i.1) (assumption (i.0, refl)), refl)

pub full_add_leads : (k : ℕ) → Leads (full_add k) (sum_source k) (sum_kind k)
full_add_leads zero = (assumption refl, refl)
full_add_leads (suc k) = let i = full_add_leads k in (rw (i.1) (rw (i.1) (assumption (i.0, refl))), rw (i.1) (rw (i.1) refl))

pub add_leads : (k : ℕ) → Leads (add k) (words k) (sum_kind k)
add_leads k = let i = full_add_leads k in (assumption (i.0, refl), rw (i.1) refl)

pub full_increment_leads : (k : ℕ) → Leads (full_increment k) (sum_kind k) (sum_kind k)
full_increment_leads k = let i = full_add_leads k in (assumption (i.0, refl), rw (i.1) refl)

pub increment_leads : (k : ℕ) → Leads (increment k) (word_kind k) (sum_kind k)
increment_leads k = let i = full_add_leads k in (assumption (i.0, refl), rw (i.1) refl)

pub full_subtract_leads : (k : ℕ) → Leads (full_subtract k) (sum_source k) (sum_kind k)
full_subtract_leads k =
    let c = lift1_leads not_1 not_1_leads k in
    comp_leads (PairTerm (O not_1) (PairTerm (I (O H)) (I (I H) ⨾ complement k)) ⨾ full_add k) (PairTerm (O not_1) (I H)) (sum_source k) (sum_kind k) (sum_kind k)
    (comp_leads (PairTerm (O not_1) (PairTerm (I (O H)) (I (I H) ⨾ complement k))) (full_add k) (sum_source k) (sum_source k) (sum_kind k) (assumption (c.0, refl), rw (c.1) refl) (full_add_leads k))
    (assumption refl, refl)

pub subtract_leads : (k : ℕ) → Leads (subtract k) (words k) (sum_kind k)
subtract_leads k = zero_first (full_subtract k) (words k) (sum_kind k) (full_subtract_leads k)

pub full_decrement_leads : (k : ℕ) → Leads (full_decrement k) (sum_kind k) (sum_kind k)
full_decrement_leads k =
    comp_leads (PairTerm (O H) (PairTerm (I H) (zeros k))) (full_subtract k) (sum_kind k) (sum_source k) (sum_kind k) (assumption refl, refl) (full_subtract_leads k)

pub decrement_leads : (k : ℕ) → Leads (decrement k) (word_kind k) (sum_kind k)
decrement_leads k = one_first (full_decrement k) (word_kind k) (sum_kind k) (full_decrement_leads k)

pub negate_leads : (k : ℕ) → Leads (negate k) (word_kind k) (sum_kind k)
negate_leads k = comp_leads (PairTerm (zeros k) H) (subtract k) (word_kind k) (words k) (sum_kind k) (assumption refl, refl) (subtract_leads k)

pub full_multiply_leads : (k : ℕ) → Leads (full_multiply k) (Product (words k) (words k)) (words k)
full_multiply_leads zero = (assumption refl, refl)
full_multiply_leads (suc k) = let i = full_multiply_leads k in (rw (i.1) (rw (i.1) (rw (i.1) (assumption (i.0, refl)))), rw (i.1) (rw (i.1) (rw (i.1) (rw (i.1) refl))))

pub multiply_leads : (k : ℕ) → Leads (multiply k) (words k) (words k)
multiply_leads k = let i = full_multiply_leads k in (assumption (i.0, refl), rw (i.1) refl)

pub step_leads : (k : ℕ) → Leads (div_step k) (sum_source k) (sum_kind k)
step_leads k =
    let i = full_add_leads k in
    comp_leads (PairTerm (PairTerm (O H) (PairTerm (I (O H)) (I (O H))) ⨾ full_add k) (I (I H)) ⨾ PairTerm (O H) (PairTerm (O (I H)) (I H) ⨾ subtract k))
    (cond (PairTerm (O (O H)) (I (O H) ⨾ not_1) ⨾ or_1) (PairTerm (Injl UnitTerm) (O (I H))) (PairTerm (Injr UnitTerm) (I (I H))))
    (sum_source k) (Product (sum_kind k) (sum_kind k)) (sum_kind k)
    (comp_leads (PairTerm (PairTerm (O H) (PairTerm (I (O H)) (I (O H))) ⨾ full_add k) (I (I H))) (PairTerm (O H) (PairTerm (O (I H)) (I H) ⨾ subtract k))
    (sum_source k) (Product (sum_kind k) (word_kind k)) (Product (sum_kind k) (sum_kind k)) (assumption (i.0, refl), rw (i.1) refl)
    (pair_leads (O H) (PairTerm (O (I H)) (I H) ⨾ subtract k) (Product (sum_kind k) (word_kind k)) (sum_kind k) (sum_kind k) (assumption refl, refl)
    (comp_leads (PairTerm (O (I H)) (I H)) (subtract k) (Product (sum_kind k) (word_kind k)) (words k) (sum_kind k) (assumption refl, refl) (subtract_leads k))))
    (assumption refl, refl)

pub division_leads : (j k : ℕ) → Leads (division j k) (Product (word_kind j) (words k)) (Product (word_kind j) (word_kind k))
division_leads zero k = step_leads k
division_leads (suc j) k = let i = division_leads j k in (rw (i.1) (rw (i.1) (assumption (i.0, refl))), rw (i.1) (rw (i.1) refl))

pub div_mod_leads : (k : ℕ) → Leads (div_mod k) (words k) (words k)
div_mod_leads k = let s = some_leads k in let d = division_leads k k in (rw (s.1) (rw (d.1) (assumption (s.0, d.0, refl))), refl)

pub divide_leads : (k : ℕ) → Leads (divide k) (words k) (word_kind k)
divide_leads k = let s = some_leads k in let d = division_leads k k in (rw (s.1) (rw (d.1) (assumption (s.0, d.0, refl))), refl)

pub modulo_leads : (k : ℕ) → Leads (modulo k) (words k) (word_kind k)
modulo_leads k = let s = some_leads k in let d = division_leads k k in (rw (s.1) (rw (d.1) (assumption (s.0, d.0, refl))), refl)

pub divides_leads : (k : ℕ) → Leads (divides k) (words k) bit_kind
divides_leads k = let s = some_leads k in let d = division_leads k k in (rw (s.1) (rw (d.1) (assumption (s.0, d.0, refl))), refl)

pub verify_leads : (h : List ℕ) → Leads (verify h) bit_kind One
verify_leads h = (assumption refl, refl)

pub leftmost_leads : (k d : ℕ) → Leads (leftmost d) (word_kind (up k d)) (word_kind k)
leftmost_leads k zero = (tt, refl)
leftmost_leads k (suc d) = let i = leftmost_leads k d in ((refl, i.0), i.1)

pub rightmost_leads : (k d : ℕ) → Leads (rightmost d) (word_kind (up k d)) (word_kind k)
rightmost_leads k zero = (tt, refl)
rightmost_leads k (suc d) = let i = rightmost_leads k d in ((refl, i.0), i.1)

pub left_pad_leads : (filled : ℕ → Term) → ((m : ℕ) (a : Kind) → Leads (filled m) a (word_kind m)) → (k d : ℕ) → Leads (left_pad filled k d) (word_kind k) (word_kind (up k d))
left_pad_leads filled h k zero = (tt, refl)
left_pad_leads filled h k (suc d) = let z = h (k + d) (word_kind k) in let i = left_pad_leads filled h k d in ((z.0, i.0), rw (z.1, i.1, up_is k d) refl)

pub right_pad_leads : (filled : ℕ → Term) → ((m : ℕ) (a : Kind) → Leads (filled m) a (word_kind m)) → (k d : ℕ) → Leads (right_pad filled k d) (word_kind k) (word_kind (up k d))
right_pad_leads filled h k zero = (tt, refl)
right_pad_leads filled h k (suc d) = let z = h (k + d) (word_kind k) in let i = right_pad_leads filled h k d in ((i.0, z.0), rw (z.1, i.1, up_is k d) refl)

pub ones_lead : (k : ℕ) (a : Kind) → Leads (ones k) a (word_kind k)
ones_lead k a = ((tt, refl), refl)

pub left_extend_leads : (k d : ℕ) → Leads (left_extend k d) (word_kind k) (word_kind (up k d))
left_extend_leads k d =
    cond_leads (leftmost k) (left_pad zeros k d) (left_pad ones k d) (word_kind k) (word_kind (up k d))
    (subst (λ m. Leads (leftmost k) (word_kind m) bit_kind) (up_zero k) (leftmost_leads 0 k)) (left_pad_leads zeros zeros_lead k d) (left_pad_leads ones ones_lead k d)

pub right_extend_leads : (k d : ℕ) → Leads (right_extend k d) (word_kind k) (word_kind (up k d))
right_extend_leads k d =
    cond_leads (rightmost k) (right_pad zeros k d) (right_pad ones k d) (word_kind k) (word_kind (up k d))
    (subst (λ m. Leads (rightmost k) (word_kind m) bit_kind) (up_zero k) (rightmost_leads 0 k)) (right_pad_leads zeros zeros_lead k d) (right_pad_leads ones ones_lead k d)

-- lists of bits
abbrev pub bits_kind : ℕ → Kind
bits_kind zero = One
bits_kind (suc n) = Product bit_kind (bits_kind n)

abbrev pub AllLead : List Term → Kind → Type 0
AllLead [] a = Unit {0}
AllLead (p ∷ ps) a = Leads p a bit_kind × AllLead ps a

lead_first : (ps : List Term) (a b : Kind) → AllLead ps a → AllLead (map O ps) (Product a b)
lead_first [] a b h = tt
lead_first (p ∷ ps) a b h = (((refl, h.0.0), h.0.1), lead_first ps a b h.1)

lead_second : (ps : List Term) (a b : Kind) → AllLead ps b → AllLead (map I ps) (Product a b)
lead_second [] a b h = tt
lead_second (p ∷ ps) a b h = (((refl, h.0.0), h.0.1), lead_second ps a b h.1)

lead_both : (ps qs : List Term) (a : Kind) → AllLead ps a → AllLead qs a → AllLead (ps ++ qs) a
lead_both [] qs a h i = i
lead_both (p ∷ ps) qs a h i = (h.0, lead_both ps qs a h.1 i)

lead_taken : (e : ℕ) (ps : List Term) (a : Kind) → AllLead ps a → AllLead (take e ps) a
lead_taken zero ps a h = tt
lead_taken (suc e) [] a h = tt
lead_taken (suc e) (p ∷ ps) a h = (h.0, lead_taken e ps a h.1)

lead_dropped : (e : ℕ) (ps : List Term) (a : Kind) → AllLead ps a → AllLead (drop e ps) a
lead_dropped zero ps a h = h
lead_dropped (suc e) [] a h = tt
lead_dropped (suc e) (p ∷ ps) a h = lead_dropped e ps a h.1

paths_lead : (j : ℕ) → AllLead (bit_paths j) (word_kind j)
paths_lead zero = ((tt, refl), tt)
paths_lead (suc j) =
    lead_both (map O (bit_paths j)) (map I (bit_paths j)) (word_kind (suc j)) (lead_first (bit_paths j) (word_kind j) (word_kind j) (paths_lead j)) (lead_second (bit_paths j) (word_kind j) (word_kind j) (paths_lead j))

paths_length : (j : ℕ) → length (bit_paths j) ≡ 2 ^ j
paths_length zero = refl
paths_length (suc j) =
    length-append (map O (bit_paths j)) (map I (bit_paths j))
    ∙ (let e = length-map (bit_paths j) O in let f = length-map (bit_paths j) I in let i = paths_length j in let q : 2 ^ suc j ≡ 2 ^ j + 2 ^ j = omega arith in omega (arith, e, f, i, q))

nested_leads : (ps : List Term) (a : Kind) → AllLead ps a → Leads (nested ps) a (bits_kind (length ps))
nested_leads [] a h = (tt, refl)
nested_leads (p ∷ ps) a h = let i = nested_leads ps a h.1 in ((h.0.0, i.0), rw (h.0.1, i.1) refl)

pub bits_lead : (j k : ℕ) → k ≤ 2 ^ j → Leads (bits j k) (word_kind j) (bits_kind k)
bits_lead j k h =
    let p = paths_length j in
    let e : length (drop (2 ^ j - k) (bit_paths j)) ≡ k = length-drop (2 ^ j - k) (bit_paths j) ∙ omega (arith, p, h) in
    subst (λ n. Leads (bits j k) (word_kind j) (bits_kind n)) e (nested_leads (drop (2 ^ j - k) (bit_paths j)) (word_kind j) (lead_dropped (2 ^ j - k) (bit_paths j) (word_kind j) (paths_lead j)))

any_leads : (p : Term) (ps : List Term) (a : Kind) → Leads p a bit_kind → AllLead ps a → Leads (any_of p ps) a bit_kind
any_leads p [] a g h = g
any_leads p (q ∷ qs) a g h = any_leads (PairTerm p q ⨾ or_1) qs a (rw (g.1) (rw (h.0.1) (assumption (g.0, h.0.0, refl))), rw (h.0.1) refl) h.1

or_fill_leads : (j k : ℕ) (ps : List Term) (middle : Term) → AllLead ps (word_kind j) → Leads middle (Product bit_kind (Product (word_kind j) (word_kind k))) (word_kind k)
    → Leads (or_fill k ps middle) (Product bit_kind (Product (word_kind j) (word_kind k))) (word_kind k)
or_fill_leads j k [] middle h m = m
or_fill_leads j k (p ∷ ps) middle h m =
    let a = any_leads p ps (word_kind j) h.0 h.1 in
    cond_leads (I (O H) ⨾ any_of p ps) middle (fill k) (Product bit_kind (Product (word_kind j) (word_kind k))) (word_kind k) (assumption (a.0, refl), a.1) m (assumption refl, refl)

pub lefts_lead : (k : ℕ) → Leads (shifted_left k) (Product (bits_kind k) (words k)) (word_kind k)
lefts_lead zero = (assumption refl, refl)
lefts_lead (suc k) = let i = lefts_lead k in (assumption (i.0, refl), rw (i.1) refl)

pub rights_lead : (k : ℕ) → Leads (shifted_right k) (Product (bits_kind k) (words k)) (word_kind k)
rights_lead zero = (assumption refl, refl)
rights_lead (suc k) = let i = rights_lead k in (assumption (i.0, refl), rw (i.1) refl)

-- over any terms for the bits and the shift
left_middle_leads : (b g : Term) (j k : ℕ) → Leads b (word_kind j) (bits_kind k) → Leads g (Product (bits_kind k) (words k)) (word_kind k)
    → Leads (PairTerm (I (O H) ⨾ b) (PairTerm (I (I H)) (fill k)) ⨾ g) (Product bit_kind (Product (word_kind j) (word_kind k))) (word_kind k)
left_middle_leads b g j k e f =
    comp_leads (PairTerm (I (O H) ⨾ b) (PairTerm (I (I H)) (fill k))) g (Product bit_kind (Product (word_kind j) (word_kind k))) (Product (bits_kind k) (words k)) (word_kind k)
    (pair_leads (I (O H) ⨾ b) (PairTerm (I (I H)) (fill k)) (Product bit_kind (Product (word_kind j) (word_kind k))) (bits_kind k) (words k) (assumption (e.0, refl), e.1) (assumption refl, refl)) f

right_middle_leads : (b g : Term) (j k : ℕ) → Leads b (word_kind j) (bits_kind k) → Leads g (Product (bits_kind k) (words k)) (word_kind k)
    → Leads (PairTerm (I (O H) ⨾ b) (PairTerm (fill k) (I (I H))) ⨾ g) (Product bit_kind (Product (word_kind j) (word_kind k))) (word_kind k)
right_middle_leads b g j k e f =
    comp_leads (PairTerm (I (O H) ⨾ b) (PairTerm (fill k) (I (I H)))) g (Product bit_kind (Product (word_kind j) (word_kind k))) (Product (bits_kind k) (words k)) (word_kind k)
    (pair_leads (I (O H) ⨾ b) (PairTerm (fill k) (I (I H))) (Product bit_kind (Product (word_kind j) (word_kind k))) (bits_kind k) (words k) (assumption (e.0, refl), e.1) (assumption refl, refl)) f

rotate_leads : (b g : Term) (j k : ℕ) → Leads b (word_kind j) (bits_kind k) → Leads g (Product (bits_kind k) (words k)) (word_kind k)
    → Leads (PairTerm (O H ⨾ b) (PairTerm (I H) (I H)) ⨾ g) (Product (word_kind j) (word_kind k)) (word_kind k)
rotate_leads b g j k e f =
    comp_leads (PairTerm (O H ⨾ b) (PairTerm (I H) (I H))) g (Product (word_kind j) (word_kind k)) (Product (bits_kind k) (words k)) (word_kind k)
    (pair_leads (O H ⨾ b) (PairTerm (I H) (I H)) (Product (word_kind j) (word_kind k)) (bits_kind k) (words k) (assumption (e.0, refl), e.1) (assumption refl, refl)) f

pub left_shift_with_leads : (j k : ℕ) → k ≤ 2 ^ j → Leads (left_shift_with j k) (Product bit_kind (Product (word_kind j) (word_kind k))) (word_kind k)
left_shift_with_leads j k h =
    or_fill_leads j k (take (2 ^ j - k) (bit_paths j)) (PairTerm (I (O H) ⨾ bits j k) (PairTerm (I (I H)) (fill k)) ⨾ shifted_left k) (lead_taken (2 ^ j - k) (bit_paths j) (word_kind j) (paths_lead j))
    (left_middle_leads (bits j k) (shifted_left k) j k (bits_lead j k h) (lefts_lead k))

pub right_shift_with_leads : (j k : ℕ) → k ≤ 2 ^ j → Leads (right_shift_with j k) (Product bit_kind (Product (word_kind j) (word_kind k))) (word_kind k)
right_shift_with_leads j k h =
    or_fill_leads j k (take (2 ^ j - k) (bit_paths j)) (PairTerm (I (O H) ⨾ bits j k) (PairTerm (fill k) (I (I H))) ⨾ shifted_right k) (lead_taken (2 ^ j - k) (bit_paths j) (word_kind j) (paths_lead j))
    (right_middle_leads (bits j k) (shifted_right k) j k (bits_lead j k h) (rights_lead k))

pub left_shift_leads : (j k : ℕ) → k ≤ 2 ^ j → Leads (left_shift j k) (Product (word_kind j) (word_kind k)) (word_kind k)
left_shift_leads j k h = zero_first (left_shift_with j k) (Product (word_kind j) (word_kind k)) (word_kind k) (left_shift_with_leads j k h)

pub right_shift_leads : (j k : ℕ) → k ≤ 2 ^ j → Leads (right_shift j k) (Product (word_kind j) (word_kind k)) (word_kind k)
right_shift_leads j k h = zero_first (right_shift_with j k) (Product (word_kind j) (word_kind k)) (word_kind k) (right_shift_with_leads j k h)

pub left_rotate_leads : (j k : ℕ) → k ≤ 2 ^ j → Leads (left_rotate j k) (Product (word_kind j) (word_kind k)) (word_kind k)
left_rotate_leads j k h = rotate_leads (bits j k) (shifted_left k) j k (bits_lead j k h) (lefts_lead k)

pub right_rotate_leads : (j k : ℕ) → k ≤ 2 ^ j → Leads (right_rotate j k) (Product (word_kind j) (word_kind k)) (word_kind k)
right_rotate_leads j k h = rotate_leads (bits j k) (shifted_right k) j k (bits_lead j k h) (rights_lead k)
