-- A row of the typing table continues a solution by types for a node's cells.
use Rattle.std.proofs.Common.{◌≡◌, ℕ, zero, suc, ◌+◌, ◌<◌, List, [], ◌∷◌, ◌++◌, length, Option, Some, None, slice_get, refl, ap, sym, subst, ◌∙◌, arith}
use Rattle.simplicity.specs.Types.{Kind, One, Sum, Product, word_kind}
use Rattle.simplicity.specs.Nodes as node
use Rattle.simplicity.specs.Nodes.{Node, IsHidden}
use Rattle.simplicity.specs.Typing as row
use Rattle.simplicity.specs.Typing.{Typing, Arrow, arrow, HasArrow, HasNoArrow, Meets, EntryMeets, source_of, target_of}
use Rattle.infer_cells.specs.declared.cell.Place.{Place}
use Rattle.infer_cells.specs.Cells.{Assignment, FitFrom, AreEqual}
use Rattle.infer_cells.specs.Emission.{Emission, place_at, doubles, case_cells, emitted, emit_case, entry, ArePlacesWithin}
use Rattle.infer_cells.proofs.Grown.{given, given_old, given_new, place_within_at, same_arrow}
use Rattle.infer_cells.proofs.Ready.{Shown, Sides, Both, NoRight, NoLeft, Ready, child_at}

-- types for the cells of an emission, under which it has an arrow
pub record Continues (vs : List Kind) (e : Emission) (a b : Kind) : Type 0 where
  pub more : List Kind
  pub count : length more ≡ length e.cells
  pub fits : FitFrom (given (vs ++ more)) (length vs) e.cells
  pub equal : AreEqual (given (vs ++ more)) e.equations
  pub at : entry (given (vs ++ more)) e.at ≡ Some (arrow a b)

-- the places have the arrows of a typing
pub record Agrees (vs : List Kind) (ps : List (Option Place)) (ts : Typing) : Type 0 where
  pub shown : (t : ℕ) (p : Place) → slice_get ps t ≡ Some (Some p) → HasArrow ts t (given vs p.source) (given vs p.target)
  pub hidden : (t : ℕ) → slice_get ps t ≡ Some None → HasNoArrow ts t

one_source : (ts : Typing) (t : ℕ) (a b c d : Kind) → HasArrow ts t a b → HasArrow ts t c d → a ≡ c
one_source ts t a b c d g h = ap source_of (sym g ∙ h)

one_target : (ts : Typing) (t : ℕ) (a b c d : Kind) → HasArrow ts t a b → HasArrow ts t c d → b ≡ d
one_target ts t a b c d g h = ap target_of (sym g ∙ h)

never_both : (ts : Typing) (t : ℕ) (a b : Kind) (P : Type 0) → HasArrow ts t a b → HasNoArrow ts t → P
never_both ts t a b P g h = absurd (cc)

product_fits : (g : Assignment) (i j k : ℕ) (x y : Kind) → g i ≡ Product x y → g j ≡ x → g k ≡ y → g i ≡ Product (g j) (g k)
product_fits g i j k x y e h m = cc

sum_fits : (g : Assignment) (i j k : ℕ) (x y : Kind) → g i ≡ Sum x y → g j ≡ x → g k ≡ y → g i ≡ Sum (g j) (g k)
sum_fits g i j k x y e h m = cc

-- the types of the words up to one
words : ℕ → ℕ → List Kind
words zero j = []
words (suc k) j = word_kind (suc j) ∷ words k (suc j)

length-words : (k j : ℕ) → length (words k j) ≡ k
unfolding words
length-words zero j = refl
length-words (suc k) j = ap suc (length-words k (suc j))

length-doubles : (k i : ℕ) → length (doubles k i) ≡ k
length-doubles zero i = refl
length-doubles (suc k) i = ap suc (length-doubles k (suc i))

append-one : (xs : List Kind) (y : Kind) (ys : List Kind) → (xs ++ y ∷ []) ++ ys ≡ xs ++ y ∷ ys
append-one [] y ys = refl
append-one (x ∷ xs) y ys = ap (λ zs. x ∷ zs) (append-one xs y ys)

length-one : (xs : List Kind) (y : Kind) → length (xs ++ y ∷ []) ≡ suc (length xs)
length-one [] y = refl
length-one (x ∷ xs) y = ap suc (length-one xs y)

-- the doublings after a cell of a word's type, and the last of them
words_fit : (vs : List Kind) (k i j : ℕ) → length vs ≡ suc i → given vs i ≡ word_kind j →
    FitFrom (given (vs ++ words k j)) (suc i) (doubles k i) × (given (vs ++ words k j) (i + k) ≡ word_kind (j + k))
unfolding words
words_fit vs zero i j long is =
    let here : i + 0 ≡ i = omega arith in
    let there : j + 0 ≡ j = omega arith in
    (tt, ap (given (vs ++ [])) here ∙ given_old vs [] i (omega arith) ∙ is ∙ ap word_kind (sym there))
words_fit vs (suc k) i j long is =
    let next : List Kind = vs ++ word_kind (suc j) ∷ [] in
    let longer : length (vs ++ word_kind (suc j) ∷ []) ≡ suc (suc i) = length-one vs (word_kind (suc j)) ∙ ap suc long in
    let last : given (vs ++ word_kind (suc j) ∷ []) (suc i) ≡ word_kind (suc j) = given_new vs (word_kind (suc j) ∷ []) (suc i) 0 (omega arith) in
    let rest = words_fit (vs ++ word_kind (suc j) ∷ []) k (suc i) (suc j) longer last in
    let same = append-one vs (word_kind (suc j)) (words k (suc j)) in
    let here : suc i + k ≡ i + suc k = omega arith in
    let there : suc j + k ≡ j + suc k = omega arith in
    let P : List Kind → Type 0 = λ xs. FitFrom (given xs) (suc (suc i)) (doubles k (suc i)) in
    let Q : List Kind → Type 0 = λ xs. given xs (suc i + k) ≡ word_kind (suc j + k) in
    let old : given (vs ++ words (suc k) j) i ≡ word_kind j = given_old vs (words (suc k) j) i (omega arith) ∙ is in
    let new : given (vs ++ words (suc k) j) (suc i) ≡ word_kind (suc j) = given_new vs (words (suc k) j) (suc i) 0 (omega arith) in (
      (product_fits (given (vs ++ words (suc k) j)) (suc i) i i (word_kind j) (word_kind j) new old old, subst P same rest.0),
      ap (given (vs ++ words (suc k) j)) (sym here) ∙ subst Q same rest.1 ∙ ap word_kind there,
    )

module _ (vs : List Kind) (ps : List (Option Place)) (ts : Typing) (within : ArePlacesWithin (length vs) ps) (agrees : Agrees vs ps ts) where
  abbrev n : ℕ
  n = length vs

  old : (more : List Kind) (i : ℕ) (x : Kind) → i < length vs → given vs i ≡ x → given (vs ++ more) i ≡ x
  old more i x h e = given_old vs more i h ∙ e

  new : (more : List Kind) (i j : ℕ) → i ≡ length vs + j → given (vs ++ more) i ≡ given more j
  new more i j h = given_new vs more i j h

  at_arrow : (more : List Kind) (i j : ℕ) (a b : Kind) → given (vs ++ more) i ≡ a → given (vs ++ more) j ≡ b →
      Some (arrow (given (vs ++ more) i) (given (vs ++ more) j)) ≡ Some (arrow a b)
  at_arrow more i j a b e h = ap Some (same_arrow _ _ _ _ e h)

  -- the types at a child's place
  pub record ChildIs (t : ℕ) (p : Place) (a b : Kind) : Type 0 where
    pub source_within : p.source < length vs
    pub target_within : p.target < length vs
    pub source : given vs p.source ≡ a
    pub target : given vs p.target ≡ b

  place_is : (t : ℕ) (p : Place) (a b : Kind) → slice_get ps t ≡ Some (Some p) → HasArrow ts t a b → ChildIs t p a b
  place_is t p a b is h =
      let w = place_within_at (length vs) ps t p within is in
      let g = agrees.shown t p is in
      record { source_within = w.0; target_within = w.1; source = one_source ts t _ _ _ _ g h; target = one_target ts t _ _ _ _ g h }

  child_is : (t : ℕ) (a b : Kind) → Shown ps t → HasArrow ts t a b → ChildIs t (place_at ps t) a b
  child_is t a b s h = place_is t (place_at ps t) a b (child_at ps t s) h

  iden_continues : (a b : Kind) → Meets ts node.Iden a b → Continues vs (emitted n ps node.Iden) a b
  iden_continues _ _ (row.Iden a) =
      let here : given (vs ++ a ∷ []) n ≡ a = new (a ∷ []) n 0 (omega arith) in
      record { more = a ∷ []; count = refl; fits = (tt, tt); equal = tt; at = at_arrow (a ∷ []) n n a a here here }

  unit_continues : (a b : Kind) → Meets ts node.UnitNode a b → Continues vs (emitted n ps node.UnitNode) a b
  unit_continues _ _ (row.UnitNode a) =
      let more : List Kind = a ∷ One ∷ [] in
      record {
        more = a ∷ One ∷ [];
        count = refl;
        fits = (tt, (new (a ∷ One ∷ []) (suc n) 1 (omega arith), tt));
        equal = tt;
        at = at_arrow (a ∷ One ∷ []) n (n + 1) a One (new (a ∷ One ∷ []) n 0 (omega arith)) (new (a ∷ One ∷ []) (n + 1) 1 refl);
      }

  injl_continues : (t : ℕ) (a b : Kind) → Shown ps t → Meets ts (node.Injl t) a b → Continues vs (emitted n ps (node.Injl t)) a b
  injl_continues _ _ _ s (row.Injl t a b c h) =
      let p = child_is t a b s h in
      let more : List Kind = c ∷ Sum b c ∷ [] in
      record {
        more = c ∷ Sum b c ∷ [];
        count = refl;
        fits = (
          tt,
          (
            sum_fits (given (vs ++ c ∷ Sum b c ∷ [])) (suc n) (place_at ps t).target n b c (new (c ∷ Sum b c ∷ []) (suc n) 1 (omega arith))
                (old (c ∷ Sum b c ∷ []) (place_at ps t).target b p.target_within p.target) (new (c ∷ Sum b c ∷ []) n 0 (omega arith)),
            tt,
          ),
        );
        equal = tt;
        at = at_arrow (c ∷ Sum b c ∷ []) (place_at ps t).source (n + 1) a (Sum b c) (old (c ∷ Sum b c ∷ []) (place_at ps t).source a p.source_within p.source)
            (new (c ∷ Sum b c ∷ []) (n + 1) 1 refl);
      }

  injr_continues : (t : ℕ) (a b : Kind) → Shown ps t → Meets ts (node.Injr t) a b → Continues vs (emitted n ps (node.Injr t)) a b
  injr_continues _ _ _ s (row.Injr t a b c h) =
      let p = child_is t a c s h in
      record {
        more = b ∷ Sum b c ∷ [];
        count = refl;
        fits = (
          tt,
          (
            sum_fits (given (vs ++ b ∷ Sum b c ∷ [])) (suc n) n (place_at ps t).target b c (new (b ∷ Sum b c ∷ []) (suc n) 1 (omega arith))
                (new (b ∷ Sum b c ∷ []) n 0 (omega arith)) (old (b ∷ Sum b c ∷ []) (place_at ps t).target c p.target_within p.target),
            tt,
          ),
        );
        equal = tt;
        at = at_arrow (b ∷ Sum b c ∷ []) (place_at ps t).source (n + 1) a (Sum b c) (old (b ∷ Sum b c ∷ []) (place_at ps t).source a p.source_within p.source)
            (new (b ∷ Sum b c ∷ []) (n + 1) 1 refl);
      }

  take_continues : (t : ℕ) (a b : Kind) → Shown ps t → Meets ts (node.Take t) a b → Continues vs (emitted n ps (node.Take t)) a b
  take_continues _ _ _ s (row.Take t a b c h) =
      let p = child_is t a c s h in
      record {
        more = b ∷ Product a b ∷ [];
        count = refl;
        fits = (
          tt,
          (
            product_fits (given (vs ++ b ∷ Product a b ∷ [])) (suc n) (place_at ps t).source n a b (new (b ∷ Product a b ∷ []) (suc n) 1 (omega arith))
                (old (b ∷ Product a b ∷ []) (place_at ps t).source a p.source_within p.source) (new (b ∷ Product a b ∷ []) n 0 (omega arith)),
            tt,
          ),
        );
        equal = tt;
        at = at_arrow (b ∷ Product a b ∷ []) (n + 1) (place_at ps t).target (Product a b) c (new (b ∷ Product a b ∷ []) (n + 1) 1 refl)
            (old (b ∷ Product a b ∷ []) (place_at ps t).target c p.target_within p.target);
      }

  drop_continues : (t : ℕ) (a b : Kind) → Shown ps t → Meets ts (node.Drop t) a b → Continues vs (emitted n ps (node.Drop t)) a b
  drop_continues _ _ _ s (row.Drop t a b c h) =
      let p = child_is t b c s h in
      record {
        more = a ∷ Product a b ∷ [];
        count = refl;
        fits = (
          tt,
          (
            product_fits (given (vs ++ a ∷ Product a b ∷ [])) (suc n) n (place_at ps t).source a b (new (a ∷ Product a b ∷ []) (suc n) 1 (omega arith))
                (new (a ∷ Product a b ∷ []) n 0 (omega arith)) (old (a ∷ Product a b ∷ []) (place_at ps t).source b p.source_within p.source),
            tt,
          ),
        );
        equal = tt;
        at = at_arrow (a ∷ Product a b ∷ []) (n + 1) (place_at ps t).target (Product a b) c (new (a ∷ Product a b ∷ []) (n + 1) 1 refl)
            (old (a ∷ Product a b ∷ []) (place_at ps t).target c p.target_within p.target);
      }

  comp_continues : (s t : ℕ) (a b : Kind) → Shown ps s → Shown ps t → Meets ts (node.Comp s t) a b → Continues vs (emitted n ps (node.Comp s t)) a b
  comp_continues _ _ _ _ u v (row.Comp s t a b c g h) =
      let p = child_is s a b u g in
      let q = child_is t b c v h in
      record {
        more = [];
        count = refl;
        fits = tt;
        equal = (old [] (place_at ps s).target b p.target_within p.target ∙ sym (old [] (place_at ps t).source b q.source_within q.source), tt);
        at = at_arrow [] (place_at ps s).source (place_at ps t).target a c (old [] (place_at ps s).source a p.source_within p.source)
            (old [] (place_at ps t).target c q.target_within q.target);
      }

  pair_continues : (s t : ℕ) (a b : Kind) → Shown ps s → Shown ps t → Meets ts (node.Pair s t) a b → Continues vs (emitted n ps (node.Pair s t)) a b
  pair_continues _ _ _ _ u v (row.Pair s t a b c g h) =
      let p = child_is s a b u g in
      let q = child_is t a c v h in
      record {
        more = Product b c ∷ [];
        count = refl;
        fits = (
          product_fits (given (vs ++ Product b c ∷ [])) n (place_at ps s).target (place_at ps t).target b c (new (Product b c ∷ []) n 0 (omega arith))
              (old (Product b c ∷ []) (place_at ps s).target b p.target_within p.target) (old (Product b c ∷ []) (place_at ps t).target c q.target_within q.target),
          tt,
        );
        equal = (old (Product b c ∷ []) (place_at ps s).source a p.source_within p.source ∙ sym (old (Product b c ∷ []) (place_at ps t).source a q.source_within q.source), tt);
        at = at_arrow (Product b c ∷ []) (place_at ps s).source n a (Product b c) (old (Product b c ∷ []) (place_at ps s).source a p.source_within p.source)
            (new (Product b c ∷ []) n 0 (omega arith));
      }

  fail_continues : (e : List ℕ) (a b : Kind) → Continues vs (emitted n ps (node.Fail e)) a b
  fail_continues e a b = record {
    more = a ∷ b ∷ [];
    count = refl;
    fits = (tt, (tt, tt));
    equal = tt;
    at = at_arrow (a ∷ b ∷ []) n (n + 1) a b (new (a ∷ b ∷ []) n 0 (omega arith)) (new (a ∷ b ∷ []) (n + 1) 1 refl);
  }

  word_continues : (k m : ℕ) (a b : Kind) → Meets ts (node.Word k m) a b → Continues vs (emitted n ps (node.Word k m)) a b
  unfolding words
  word_continues _ _ _ _ (row.Word k m) =
      let base : List Kind = vs ++ One ∷ word_kind 0 ∷ [] in
      let long : length (vs ++ One ∷ word_kind 0 ∷ []) ≡ suc (suc n) = Rattle.std.proofs.Common.length-append vs (One ∷ word_kind 0 ∷ []) ∙ (let e : length vs + 2 ≡ suc (suc n) = omega arith in e) in
      let bit : given (vs ++ One ∷ word_kind 0 ∷ []) (suc n) ≡ word_kind 0 = given_new vs (One ∷ word_kind 0 ∷ []) (suc n) 1 (omega arith) in
      let rest = words_fit (vs ++ One ∷ word_kind 0 ∷ []) k (suc n) 0 long bit in
      let same : (vs ++ One ∷ word_kind 0 ∷ []) ++ words k 0 ≡ vs ++ One ∷ word_kind 0 ∷ words k 0 = Rattle.std.proofs.Common.append_assoc vs (One ∷ word_kind 0 ∷ []) (words k 0) in
      let more : List Kind = One ∷ word_kind 0 ∷ words k 0 in
      let unit : given (vs ++ One ∷ word_kind 0 ∷ words k 0) n ≡ One = given_new vs (One ∷ word_kind 0 ∷ words k 0) n 0 (omega arith) in
      let first : given (vs ++ One ∷ word_kind 0 ∷ words k 0) (suc n) ≡ word_kind 0 = given_new vs (One ∷ word_kind 0 ∷ words k 0) (suc n) 1 (omega arith) in
      let P : List Kind → Type 0 = λ xs. FitFrom (given xs) (suc (suc n)) (doubles k (suc n)) in
      let Q : List Kind → Type 0 = λ xs. given xs (suc n + k) ≡ word_kind (0 + k) in
      let here : n + 1 + k ≡ suc n + k = omega arith in
      let there : 0 + k ≡ k = omega arith in
      let long_words = length-words k 0 in
      let long_cells = length-doubles k (suc n) in
      record {
        more = One ∷ word_kind 0 ∷ words k 0;
        count = omega arith;
        fits = (unit, (sum_fits (given (vs ++ One ∷ word_kind 0 ∷ words k 0)) (suc n) n n One One first unit unit, subst P same rest.0));
        equal = tt;
        at = at_arrow (One ∷ word_kind 0 ∷ words k 0) n (n + 1 + k) One (word_kind k) unit
            (ap (given (vs ++ One ∷ word_kind 0 ∷ words k 0)) here ∙ subst Q same rest.1 ∙ ap word_kind there);
      }

  -- the types of the cells of a case
  abbrev case_kinds : Kind → Kind → Kind → List Kind
  case_kinds a b c = a ∷ b ∷ c ∷ Product a c ∷ Product b c ∷ Sum a b ∷ Product (Sum a b) c ∷ []

  case_fits : (a b c : Kind) → FitFrom (given (vs ++ case_kinds a b c)) n (case_cells n)
  case_fits a b c =
      let g : Assignment = given (vs ++ case_kinds a b c) in
      let first : given (vs ++ case_kinds a b c) n ≡ a = new (case_kinds a b c) n 0 (omega arith) in
      let second : given (vs ++ case_kinds a b c) (n + 1) ≡ b = new (case_kinds a b c) (n + 1) 1 refl in
      let beside : given (vs ++ case_kinds a b c) (n + 2) ≡ c = new (case_kinds a b c) (n + 2) 2 refl in
      let both : given (vs ++ case_kinds a b c) (n + 5) ≡ Sum a b = new (case_kinds a b c) (n + 5) 5 refl in (
        tt,
        (
          tt,
          (
            tt,
            (
              product_fits (given (vs ++ case_kinds a b c)) (suc (suc (suc n))) n (n + 2) a c (new (case_kinds a b c) (suc (suc (suc n))) 3 (omega arith)) first beside,
              (
                product_fits (given (vs ++ case_kinds a b c)) (suc (suc (suc (suc n)))) (n + 1) (n + 2) b c (new (case_kinds a b c) (suc (suc (suc (suc n)))) 4 (omega arith)) second beside,
                (
                  sum_fits (given (vs ++ case_kinds a b c)) (suc (suc (suc (suc (suc n))))) n (n + 1) a b (new (case_kinds a b c) (suc (suc (suc (suc (suc n))))) 5 (omega arith)) first second,
                  (
                    product_fits (given (vs ++ case_kinds a b c)) (suc (suc (suc (suc (suc (suc n)))))) (n + 5) (n + 2) (Sum a b) c
                        (new (case_kinds a b c) (suc (suc (suc (suc (suc (suc n)))))) 6 (omega arith)) both beside,
                    tt,
                  ),
                ),
              ),
            ),
          ),
        ),
      )

  both_continues : (s t : ℕ) (p q : Place) (a b : Kind) → slice_get ps s ≡ Some (Some p) → slice_get ps t ≡ Some (Some q) → Meets ts (node.Case s t) a b →
      Continues vs (emit_case n (Some (Some p)) (Some (Some q))) a b
  both_continues _ _ p q _ _ u v (row.Case s t a b c d g h) =
      let x = place_is s p (Product a c) d u g in
      let y = place_is t q (Product b c) d v h in
      record {
        more = case_kinds a b c;
        count = refl;
        fits = case_fits a b c;
        equal = (
          old (case_kinds a b c) p.source (Product a c) x.source_within x.source ∙ sym (new (case_kinds a b c) (n + 3) 3 refl),
          (
            old (case_kinds a b c) q.source (Product b c) y.source_within y.source ∙ sym (new (case_kinds a b c) (n + 4) 4 refl),
            (old (case_kinds a b c) p.target d x.target_within x.target ∙ sym (old (case_kinds a b c) q.target d y.target_within y.target), tt),
          ),
        );
        at = at_arrow (case_kinds a b c) (n + 6) p.target (Product (Sum a b) c) d (new (case_kinds a b c) (n + 6) 6 refl)
            (old (case_kinds a b c) p.target d x.target_within x.target);
      }
  both_continues _ _ p q _ _ u v (row.AssertL s t a b c d g h) = never_both ts t (given vs q.source) (given vs q.target) _ (agrees.shown t q v) h
  both_continues _ _ p q _ _ u v (row.AssertR s t a b c d g h) = never_both ts s (given vs p.source) (given vs p.target) _ (agrees.shown s p u) g

  left_continues : (s t : ℕ) (p : Place) (a b : Kind) → slice_get ps s ≡ Some (Some p) → slice_get ps t ≡ Some None → Meets ts (node.Case s t) a b →
      Continues vs (emit_case n (Some (Some p)) (Some None)) a b
  left_continues _ _ p _ _ u v (row.Case s t a b c d g h) = never_both ts t (Product b c) d _ h (agrees.hidden t v)
  left_continues _ _ p _ _ u v (row.AssertL s t a b c d g h) =
      let x = place_is s p (Product a c) d u g in
      record {
        more = case_kinds a b c;
        count = refl;
        fits = case_fits a b c;
        equal = (old (case_kinds a b c) p.source (Product a c) x.source_within x.source ∙ sym (new (case_kinds a b c) (n + 3) 3 refl), tt);
        at = at_arrow (case_kinds a b c) (n + 6) p.target (Product (Sum a b) c) d (new (case_kinds a b c) (n + 6) 6 refl)
            (old (case_kinds a b c) p.target d x.target_within x.target);
      }
  left_continues _ _ p _ _ u v (row.AssertR s t a b c d g h) = never_both ts t (Product b c) d _ h (agrees.hidden t v)

  right_continues : (s t : ℕ) (q : Place) (a b : Kind) → slice_get ps s ≡ Some None → slice_get ps t ≡ Some (Some q) → Meets ts (node.Case s t) a b →
      Continues vs (emit_case n (Some None) (Some (Some q))) a b
  right_continues _ _ q _ _ u v (row.Case s t a b c d g h) = never_both ts s (Product a c) d _ g (agrees.hidden s u)
  right_continues _ _ q _ _ u v (row.AssertL s t a b c d g h) = never_both ts s (Product a c) d _ g (agrees.hidden s u)
  right_continues _ _ q _ _ u v (row.AssertR s t a b c d g h) =
      let y = place_is t q (Product b c) d v h in
      record {
        more = case_kinds a b c;
        count = refl;
        fits = case_fits a b c;
        equal = (old (case_kinds a b c) q.source (Product b c) y.source_within y.source ∙ sym (new (case_kinds a b c) (n + 4) 4 refl), tt);
        at = at_arrow (case_kinds a b c) (n + 6) q.target (Product (Sum a b) c) d (new (case_kinds a b c) (n + 6) 6 refl)
            (old (case_kinds a b c) q.target d y.target_within y.target);
      }

  sides_along : (s t : ℕ) (o u : Option (Option Place)) (a b : Kind) → slice_get ps s ≡ o → slice_get ps t ≡ u → Continues vs (emit_case n o u) a b →
      Continues vs (emit_case n (slice_get ps s) (slice_get ps t)) a b
  sides_along s t o u a b g h c =
      let P : Option (Option Place) → Type 0 = λ x. Continues vs (emit_case n x u) a b in
      let Q : Option (Option Place) → Type 0 = λ x. Continues vs (emit_case n (slice_get ps s) x) a b in
      subst Q (sym h) (subst P (sym g) c)

  case_continues : (s t : ℕ) (a b : Kind) → Sides ps s t → Meets ts (node.Case s t) a b → Continues vs (emitted n ps (node.Case s t)) a b
  case_continues s t a b (Both g h) m = sides_along s t _ _ a b g.1 h.1 (both_continues s t g.0 h.0 a b g.1 h.1 m)
  case_continues s t a b (NoRight g h) m = sides_along s t _ _ a b g.1 h (left_continues s t g.0 a b g.1 h m)
  case_continues s t a b (NoLeft g h) m = sides_along s t _ _ a b g h.1 (right_continues s t h.0 a b g h.1 m)

  hidden_never : (h : List ℕ) (a b : Kind) → Meets ts (node.Hidden h) a b → ⊥
  hidden_never h a b m = elim m [ ]

  pub node_continues : (m : Node) (a b : Kind) → Ready ps m → Meets ts m a b → Continues vs (emitted n ps m) a b
  node_continues (node.Hidden h) a b ready m = absurd (hidden_never h a b m)
  node_continues (node.Case s t) a b ready m = case_continues s t a b ready m
  node_continues node.Iden a b ready m = iden_continues a b m
  node_continues node.UnitNode a b ready m = unit_continues a b m
  node_continues (node.Injl t) a b ready m = injl_continues t a b ready m
  node_continues (node.Injr t) a b ready m = injr_continues t a b ready m
  node_continues (node.Take t) a b ready m = take_continues t a b ready m
  node_continues (node.Drop t) a b ready m = drop_continues t a b ready m
  node_continues (node.Comp s t) a b ready m = comp_continues s t a b ready.0 ready.1 m
  node_continues (node.Pair s t) a b ready m = pair_continues s t a b ready.0 ready.1 m
  node_continues (node.Fail e) a b ready m = fail_continues e a b
  node_continues node.Witness a b ready m = fail_continues [] a b
  node_continues (node.Word k w) a b ready m = word_continues k w a b m
