-- A solution of a node's cells and equations gives its row of the typing table.
use Rattle.std.proofs.Common.{◌≡◌, ℕ, zero, suc, ◌+◌, List, [], ◌∷◌, ◌++◌, Option, Some, None, slice_get, refl, ap, sym, subst, ◌∙◌, arith}
use Rattle.simplicity.specs.Types.{Kind, One, Sum, Product, word_kind}
use Rattle.simplicity.specs.Nodes as node
use Rattle.simplicity.specs.Nodes.{Node}
use Rattle.simplicity.specs.Typing as row
use Rattle.simplicity.specs.Typing.{Typing, Arrow, arrow, HasArrow, HasNoArrow, Meets, EntryMeets}
use Rattle.infer_cells.specs.declared.cell.Cell.TheVariants as cell
use Rattle.infer_cells.specs.declared.cell.Place.{Place}
use Rattle.infer_cells.specs.Cells.{Assignment, FitFrom, AreEqual}
use Rattle.infer_cells.specs.Emission.{Emission, place_at, doubles, emitted, emit_case, case_cells, entry, entries}
use Rattle.infer_cells.proofs.Fitting.{fit_at}
use Rattle.infer_cells.proofs.Grown.{entry_at}
use Rattle.infer_cells.proofs.Ready.{Shown, Sides, Both, NoRight, NoLeft, Ready, child_at}

pub get_more : {A : Type 0} (xs ys : List A) (i : ℕ) (x : A) → slice_get xs i ≡ Some x → slice_get (xs ++ ys) i ≡ Some x
get_more [] ys i x h = absurd (cc)
get_more (y ∷ xs) ys zero x h = h
get_more (y ∷ xs) ys (suc i) x h = get_more xs ys i x h

-- what is emitted for a node gives its row
abbrev pub SoundAt : Typing → Assignment → ℕ → Node → Emission → Type 0
SoundAt ts f n m e = FitFrom f n e.cells → AreEqual f e.equations → EntryMeets ts m (entry f e.at)

doubled : (f : Assignment) (k i j : ℕ) → f i ≡ word_kind j → FitFrom f (suc i) (doubles k i) → f (i + k) ≡ word_kind (j + k)
doubled f zero i j is h = let here : i + 0 ≡ i = omega arith in let there : j + 0 ≡ j = omega arith in ap f here ∙ is ∙ ap word_kind (sym there)
doubled f (suc k) i j is h =
    let next : f (suc i) ≡ word_kind (suc j) = h.0 ∙ ap (λ x. Product x x) is in
    let here : i + suc k ≡ suc i + k = omega arith in
    let there : suc j + k ≡ j + suc k = omega arith in
    ap f here ∙ doubled f k (suc i) (suc j) next h.1 ∙ ap word_kind there

module _ (f : Assignment) (n : ℕ) (ps : List (Option Place)) (more : Typing) where
  abbrev ts : Typing
  ts = entries f ps ++ more

  child_arrow : (t : ℕ) → Shown ps t → HasArrow ts t (f (place_at ps t).source) (f (place_at ps t).target)
  child_arrow t h = get_more (entries f ps) more t _ (entry_at f ps t (Some (place_at ps t)) (child_at ps t h))

  place_arrow : (t : ℕ) (p : Place) → slice_get ps t ≡ Some (Some p) → HasArrow ts t (f p.source) (f p.target)
  place_arrow t p is = get_more (entries f ps) more t _ (entry_at f ps t (Some p) is)

  no_arrow : (t : ℕ) → slice_get ps t ≡ Some None → HasNoArrow ts t
  no_arrow t is = get_more (entries f ps) more t None (entry_at f ps t None is)

  arrow_along : (t : ℕ) (a b c d : Kind) → HasArrow ts t a b → a ≡ c → b ≡ d → HasArrow ts t c d
  arrow_along t a b c d h e g = subst (HasArrow ts t c) g (subst (λ (x : Kind). HasArrow ts t x b) e h)

  sound_injl : (t : ℕ) → Shown ps t → SoundAt ts f n (node.Injl t) (emitted n ps (node.Injl t))
  sound_injl t ready fits equal =
      let e : f (n + 1) ≡ Sum (f (place_at ps t).target) (f n) = fit_at f n (emitted n ps (node.Injl t)).cells 1 (cell.Sum (place_at ps t).target n) fits refl in
      rw e (row.Injl t _ _ (f n) (child_arrow t ready))

  sound_injr : (t : ℕ) → Shown ps t → SoundAt ts f n (node.Injr t) (emitted n ps (node.Injr t))
  sound_injr t ready fits equal =
      let e : f (n + 1) ≡ Sum (f n) (f (place_at ps t).target) = fit_at f n (emitted n ps (node.Injr t)).cells 1 (cell.Sum n (place_at ps t).target) fits refl in
      rw e (row.Injr t _ (f n) _ (child_arrow t ready))

  sound_take : (t : ℕ) → Shown ps t → SoundAt ts f n (node.Take t) (emitted n ps (node.Take t))
  sound_take t ready fits equal =
      let e : f (n + 1) ≡ Product (f (place_at ps t).source) (f n) = fit_at f n (emitted n ps (node.Take t)).cells 1 (cell.Product (place_at ps t).source n) fits refl in
      rw e (row.Take t _ (f n) _ (child_arrow t ready))

  sound_drop : (t : ℕ) → Shown ps t → SoundAt ts f n (node.Drop t) (emitted n ps (node.Drop t))
  sound_drop t ready fits equal =
      let e : f (n + 1) ≡ Product (f n) (f (place_at ps t).source) = fit_at f n (emitted n ps (node.Drop t)).cells 1 (cell.Product n (place_at ps t).source) fits refl in
      rw e (row.Drop t (f n) _ _ (child_arrow t ready))

  sound_comp : (s t : ℕ) → Shown ps s → Shown ps t → SoundAt ts f n (node.Comp s t) (emitted n ps (node.Comp s t))
  sound_comp s t g h fits equal = row.Comp s t _ _ _ (arrow_along s _ _ _ _ (child_arrow s g) refl equal.0) (child_arrow t h)

  sound_pair : (s t : ℕ) → Shown ps s → Shown ps t → SoundAt ts f n (node.Pair s t) (emitted n ps (node.Pair s t))
  sound_pair s t g h fits equal =
      let here : n + 0 ≡ n = omega arith in
      let e : f n ≡ Product (f (place_at ps s).target) (f (place_at ps t).target) = ap f (sym here) ∙ fit_at f n (emitted n ps (node.Pair s t)).cells 0 (cell.Product (place_at ps s).target (place_at ps t).target) fits refl in
      rw e (row.Pair s t _ _ _ (child_arrow s g) (arrow_along t _ _ _ _ (child_arrow t h) (sym equal.0) refl))

  sound_both : (s t : ℕ) (p q : Place) → slice_get ps s ≡ Some (Some p) → slice_get ps t ≡ Some (Some q) →
      SoundAt ts f n (node.Case s t) (emit_case n (Some (Some p)) (Some (Some q)))
  sound_both s t p q g h fits equal =
      let left : f (n + 3) ≡ Product (f n) (f (n + 2)) = fit_at f n (case_cells n) 3 (cell.Product n (n + 2)) fits refl in
      let right : f (n + 4) ≡ Product (f (n + 1)) (f (n + 2)) = fit_at f n (case_cells n) 4 (cell.Product (n + 1) (n + 2)) fits refl in
      let both : f (n + 5) ≡ Sum (f n) (f (n + 1)) = fit_at f n (case_cells n) 5 (cell.Sum n (n + 1)) fits refl in
      let whole : f (n + 6) ≡ Product (f (n + 5)) (f (n + 2)) = fit_at f n (case_cells n) 6 (cell.Product (n + 5) (n + 2)) fits refl in
      let e : f (n + 6) ≡ Product (Sum (f n) (f (n + 1))) (f (n + 2)) = whole ∙ ap (λ x. Product x (f (n + 2))) both in
      rw e
      (row.Case s t (f n) (f (n + 1)) (f (n + 2)) (f p.target) (arrow_along s _ _ _ _ (place_arrow s p g) (equal.0 ∙ left) refl)
      (arrow_along t _ _ _ _ (place_arrow t q h) (equal.1.0 ∙ right) (sym equal.1.1.0)))

  sound_left : (s t : ℕ) (p : Place) → slice_get ps s ≡ Some (Some p) → slice_get ps t ≡ Some None →
      SoundAt ts f n (node.Case s t) (emit_case n (Some (Some p)) (Some None))
  sound_left s t p g h fits equal =
      let left : f (n + 3) ≡ Product (f n) (f (n + 2)) = fit_at f n (case_cells n) 3 (cell.Product n (n + 2)) fits refl in
      let both : f (n + 5) ≡ Sum (f n) (f (n + 1)) = fit_at f n (case_cells n) 5 (cell.Sum n (n + 1)) fits refl in
      let whole : f (n + 6) ≡ Product (f (n + 5)) (f (n + 2)) = fit_at f n (case_cells n) 6 (cell.Product (n + 5) (n + 2)) fits refl in
      let e : f (n + 6) ≡ Product (Sum (f n) (f (n + 1))) (f (n + 2)) = whole ∙ ap (λ x. Product x (f (n + 2))) both in
      rw e
      (row.AssertL s t (f n) (f (n + 1)) (f (n + 2)) (f p.target) (arrow_along s _ _ _ _ (place_arrow s p g) (equal.0 ∙ left) refl) (no_arrow t h))

  sound_right : (s t : ℕ) (q : Place) → slice_get ps s ≡ Some None → slice_get ps t ≡ Some (Some q) →
      SoundAt ts f n (node.Case s t) (emit_case n (Some None) (Some (Some q)))
  sound_right s t q g h fits equal =
      let right : f (n + 4) ≡ Product (f (n + 1)) (f (n + 2)) = fit_at f n (case_cells n) 4 (cell.Product (n + 1) (n + 2)) fits refl in
      let both : f (n + 5) ≡ Sum (f n) (f (n + 1)) = fit_at f n (case_cells n) 5 (cell.Sum n (n + 1)) fits refl in
      let whole : f (n + 6) ≡ Product (f (n + 5)) (f (n + 2)) = fit_at f n (case_cells n) 6 (cell.Product (n + 5) (n + 2)) fits refl in
      let e : f (n + 6) ≡ Product (Sum (f n) (f (n + 1))) (f (n + 2)) = whole ∙ ap (λ x. Product x (f (n + 2))) both in
      rw e
      (row.AssertR s t (f n) (f (n + 1)) (f (n + 2)) (f q.target) (no_arrow s g) (arrow_along t _ _ _ _ (place_arrow t q h) (equal.0 ∙ right) refl))

  along : (s t : ℕ) (o u : Option (Option Place)) → slice_get ps s ≡ o → slice_get ps t ≡ u → SoundAt ts f n (node.Case s t) (emit_case n o u) →
      SoundAt ts f n (node.Case s t) (emit_case n (slice_get ps s) (slice_get ps t))
  along s t o u g h sound =
      let P : Option (Option Place) → Type 0 = λ x. SoundAt ts f n (node.Case s t) (emit_case n x u) in
      let Q : Option (Option Place) → Type 0 = λ x. SoundAt ts f n (node.Case s t) (emit_case n (slice_get ps s) x) in
      subst Q (sym h) (subst P (sym g) sound)

  sound_case : (s t : ℕ) → Sides ps s t → SoundAt ts f n (node.Case s t) (emitted n ps (node.Case s t))
  sound_case s t (Both g h) = along s t _ _ g.1 h.1 (sound_both s t g.0 h.0 g.1 h.1)
  sound_case s t (NoRight g h) = along s t _ _ g.1 h (sound_left s t g.0 g.1 h)
  sound_case s t (NoLeft g h) = along s t _ _ g h.1 (sound_right s t h.0 g h.1)

  sound_word : (k m : ℕ) → SoundAt ts f n (node.Word k m) (emitted n ps (node.Word k m))
  sound_word k m fits equal =
      let one : f n ≡ One = fits.0 in
      let bit : f (suc n) ≡ word_kind 0 = fits.1.0 ∙ ap (λ x. Sum x x) one in
      let here : n + 1 + k ≡ suc n + k = omega arith in
      let there : 0 + k ≡ k = omega arith in
      let e : f (n + 1 + k) ≡ word_kind k = ap f here ∙ doubled f k (suc n) 0 bit fits.1.1 ∙ ap word_kind there in
      rw (one, e) (row.Word k m)

  pub sound_node : (m : Node) → Ready ps m → SoundAt ts f n m (emitted n ps m)
  sound_node (node.Hidden h) ready fits equal = tt
  sound_node (node.Case s t) ready fits equal = sound_case s t ready fits equal
  sound_node node.Iden ready fits equal = row.Iden (f n)
  sound_node node.UnitNode ready fits equal =
      let e : f (n + 1) ≡ One = fit_at f n (emitted n ps node.UnitNode).cells 1 cell.One fits refl in
      rw e (row.UnitNode (f n))
  sound_node (node.Injl t) ready fits equal = sound_injl t ready fits equal
  sound_node (node.Injr t) ready fits equal = sound_injr t ready fits equal
  sound_node (node.Take t) ready fits equal = sound_take t ready fits equal
  sound_node (node.Drop t) ready fits equal = sound_drop t ready fits equal
  sound_node (node.Comp s t) ready fits equal = sound_comp s t ready.0 ready.1 fits equal
  sound_node (node.Pair s t) ready fits equal = sound_pair s t ready.0 ready.1 fits equal
  sound_node (node.Fail e) ready fits equal = row.Fail e (f n) (f (n + 1))
  sound_node node.Witness ready fits equal = row.Witness (f n) (f (n + 1))
  sound_node (node.Word k m) ready fits equal = sound_word k m fits equal
