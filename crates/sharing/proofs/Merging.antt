-- Merging nodes of equal kind, children and least arrow changes no least arrow.
use Rattle.std.proofs.Common.{◌≡◌, refl, ap, sym, subst, ◌∙◌, ℕ, zero, suc, ◌+◌, ◌-◌, ◌<◌, List, [], ◌∷◌, length, Option, Some, None, arith}
use Rattle.std.specs.Prelude.{slice_get, unwrap_or}
use Rattle.simplicity.specs.Types.{Kind}
use Rattle.simplicity.specs.Nodes as node
use Rattle.simplicity.specs.Nodes.{Node, AreUnder, children, IsHidden}
use Rattle.simplicity.specs.Typing as row
use Rattle.simplicity.specs.Typing.{Typing, Arrow, HasArrow, HasNoArrow, Meets, EntryMeets, EntriesMeet, IsTyping, IsTypingAt, IsEntryBelow, IsTypingBelow, IsLeast}
use Rattle.simplicity.specs.Pruning.{renamed, IsMerged}
use Rattle.simplicity.proofs.Typings.{typing_length, entry_at, some_entry}
use Rattle.sharing.specs.Laws.{MergingKeepsLeast}

pub within_of : {A : Type 0} (xs : List A) (i : ℕ) (x : A) → slice_get xs i ≡ Some x → i < length xs
within_of [] i x h = absurd (cc)
within_of (y ∷ xs) zero x h = omega arith
within_of (y ∷ xs) (suc i) x h = let rest = within_of xs i x h in omega arith

pub there_at : {A : Type 0} (xs : List A) (i : ℕ) → i < length xs → (x : A) × (slice_get xs i ≡ Some x)
there_at [] i h = absurd (omega arith)
there_at (x ∷ xs) zero h = (x, refl)
there_at (x ∷ xs) (suc i) h = there_at xs i (omega arith)

-- entries go along
abbrev Along : (ℕ → ℕ) → Typing → Typing → Type 0
Along f ts us = (k : ℕ) (e : Option Arrow) → slice_get ts k ≡ Some e → slice_get us (f k) ≡ Some e

meets_along : (f : ℕ → ℕ) (ts us : Typing) (n : Node) (a b : Kind) → Along f ts us → Meets ts n a b → Meets us (renamed f n) a b
meets_along f ts us _ _ _ on (row.Iden a) = row.Iden a
meets_along f ts us _ _ _ on (row.UnitNode a) = row.UnitNode a
meets_along f ts us _ _ _ on (row.Injl t a b c h) = row.Injl (f t) a b c (on t _ h)
meets_along f ts us _ _ _ on (row.Injr t a b c h) = row.Injr (f t) a b c (on t _ h)
meets_along f ts us _ _ _ on (row.Take t a b c h) = row.Take (f t) a b c (on t _ h)
meets_along f ts us _ _ _ on (row.Drop t a b c h) = row.Drop (f t) a b c (on t _ h)
meets_along f ts us _ _ _ on (row.Comp s t a b c h g) = row.Comp (f s) (f t) a b c (on s _ h) (on t _ g)
meets_along f ts us _ _ _ on (row.Case s t a b c d h g) = row.Case (f s) (f t) a b c d (on s _ h) (on t _ g)
meets_along f ts us _ _ _ on (row.AssertL s t a b c d h g) = row.AssertL (f s) (f t) a b c d (on s _ h) (on t None g)
meets_along f ts us _ _ _ on (row.AssertR s t a b c d h g) = row.AssertR (f s) (f t) a b c d (on s None h) (on t _ g)
meets_along f ts us _ _ _ on (row.Pair s t a b c h g) = row.Pair (f s) (f t) a b c (on s _ h) (on t _ g)
meets_along f ts us _ _ _ on (row.Fail e a b) = row.Fail e a b
meets_along f ts us _ _ _ on (row.Witness a b) = row.Witness a b
meets_along f ts us _ _ _ on (row.Word k n) = row.Word k n

-- the children of a node that meets an arrow have entries
under_typed : (ts : Typing) (n : Node) (a b : Kind) → Meets ts n a b → AreUnder (length ts) (children n)
under_typed ts _ _ _ (row.Iden a) = tt
under_typed ts _ _ _ (row.UnitNode a) = tt
under_typed ts _ _ _ (row.Injl t a b c h) = (within_of ts t _ h, tt)
under_typed ts _ _ _ (row.Injr t a b c h) = (within_of ts t _ h, tt)
under_typed ts _ _ _ (row.Take t a b c h) = (within_of ts t _ h, tt)
under_typed ts _ _ _ (row.Drop t a b c h) = (within_of ts t _ h, tt)
under_typed ts _ _ _ (row.Comp s t a b c h g) = (within_of ts s _ h, (within_of ts t _ g, tt))
under_typed ts _ _ _ (row.Case s t a b c d h g) = (within_of ts s _ h, (within_of ts t _ g, tt))
under_typed ts _ _ _ (row.AssertL s t a b c d h g) = (within_of ts s _ h, (within_of ts t None g, tt))
under_typed ts _ _ _ (row.AssertR s t a b c d h g) = (within_of ts s None h, (within_of ts t _ g, tt))
under_typed ts _ _ _ (row.Pair s t a b c h g) = (within_of ts s _ h, (within_of ts t _ g, tt))
under_typed ts _ _ _ (row.Fail e a b) = tt
under_typed ts _ _ _ (row.Witness a b) = tt
under_typed ts _ _ _ (row.Word k n) = tt

-- entries come back, below a number
abbrev pub Back : ℕ → (ℕ → ℕ) → Typing → Typing → Type 0
Back n f ws vs = (k : ℕ) → k < n → (e : Option Arrow) → slice_get vs (f k) ≡ Some e → slice_get ws k ≡ Some e

meets_back : (m : ℕ) (f : ℕ → ℕ) (ws vs : Typing) (n : Node) (a b : Kind) → Back m f ws vs → AreUnder m (children n) → Meets vs (renamed f n) a b → Meets ws n a b
meets_back m f ws vs node.Iden _ _ on u (row.Iden a) = row.Iden a
meets_back m f ws vs node.UnitNode _ _ on u (row.UnitNode a) = row.UnitNode a
meets_back m f ws vs (node.Injl t) _ _ on u (row.Injl _ a b c h) = row.Injl t a b c (on t u.0 _ h)
meets_back m f ws vs (node.Injr t) _ _ on u (row.Injr _ a b c h) = row.Injr t a b c (on t u.0 _ h)
meets_back m f ws vs (node.Take t) _ _ on u (row.Take _ a b c h) = row.Take t a b c (on t u.0 _ h)
meets_back m f ws vs (node.Drop t) _ _ on u (row.Drop _ a b c h) = row.Drop t a b c (on t u.0 _ h)
meets_back m f ws vs (node.Comp s t) _ _ on u (row.Comp _ _ a b c h g) = row.Comp s t a b c (on s u.0 _ h) (on t u.1.0 _ g)
meets_back m f ws vs (node.Case s t) _ _ on u (row.Case _ _ a b c d h g) = row.Case s t a b c d (on s u.0 _ h) (on t u.1.0 _ g)
meets_back m f ws vs (node.Case s t) _ _ on u (row.AssertL _ _ a b c d h g) = row.AssertL s t a b c d (on s u.0 _ h) (on t u.1.0 None g)
meets_back m f ws vs (node.Case s t) _ _ on u (row.AssertR _ _ a b c d h g) = row.AssertR s t a b c d (on s u.0 None h) (on t u.1.0 _ g)
meets_back m f ws vs (node.Pair s t) _ _ on u (row.Pair _ _ a b c h g) = row.Pair s t a b c (on s u.0 _ h) (on t u.1.0 _ g)
meets_back m f ws vs (node.Hidden h) a b on u met = elim met [ ]
meets_back m f ws vs (node.Fail e) _ _ on u (row.Fail _ a b) = row.Fail e a b
meets_back m f ws vs node.Witness _ _ on u (row.Witness a b) = row.Witness a b
meets_back m f ws vs (node.Word k n) _ _ on u (row.Word _ _) = row.Word k n

pub hidden_along : (f : ℕ → ℕ) (n : Node) → IsHidden (Some n) → IsHidden (Some (renamed f n))
hidden_along f (node.Hidden h) is = tt
hidden_along f node.Iden is = elim is [ ]
hidden_along f node.UnitNode is = elim is [ ]
hidden_along f (node.Injl i) is = elim is [ ]
hidden_along f (node.Injr i) is = elim is [ ]
hidden_along f (node.Take i) is = elim is [ ]
hidden_along f (node.Drop i) is = elim is [ ]
hidden_along f (node.Comp i j) is = elim is [ ]
hidden_along f (node.Case i j) is = elim is [ ]
hidden_along f (node.Pair i j) is = elim is [ ]
hidden_along f (node.Fail e) is = elim is [ ]
hidden_along f node.Witness is = elim is [ ]
hidden_along f (node.Word k m) is = elim is [ ]

hidden_back : (f : ℕ → ℕ) (n : Node) → IsHidden (Some (renamed f n)) → IsHidden (Some n)
hidden_back f (node.Hidden h) is = tt
hidden_back f node.Iden is = elim is [ ]
hidden_back f node.UnitNode is = elim is [ ]
hidden_back f (node.Injl i) is = elim is [ ]
hidden_back f (node.Injr i) is = elim is [ ]
hidden_back f (node.Take i) is = elim is [ ]
hidden_back f (node.Drop i) is = elim is [ ]
hidden_back f (node.Comp i j) is = elim is [ ]
hidden_back f (node.Case i j) is = elim is [ ]
hidden_back f (node.Pair i j) is = elim is [ ]
hidden_back f (node.Fail e) is = elim is [ ]
hidden_back f node.Witness is = elim is [ ]
hidden_back f (node.Word k m) is = elim is [ ]

entry_along : (f : ℕ → ℕ) (ts us : Typing) (n : Node) (e : Option Arrow) → Along f ts us → EntryMeets ts n e → EntryMeets us (renamed f n) e
entry_along f ts us n None on h = hidden_along f n h
entry_along f ts us n (Some a) on h = meets_along f ts us n a.source a.target on h

under_entry : (ts : Typing) (n : Node) (e : Option Arrow) → EntryMeets ts n e → AreUnder (length ts) (children n)
under_entry ts n (Some a) h = under_typed ts n a.source a.target h
under_entry ts (node.Hidden h) None is = tt
under_entry ts node.Iden None is = elim is [ ]
under_entry ts node.UnitNode None is = elim is [ ]
under_entry ts (node.Injl i) None is = elim is [ ]
under_entry ts (node.Injr i) None is = elim is [ ]
under_entry ts (node.Take i) None is = elim is [ ]
under_entry ts (node.Drop i) None is = elim is [ ]
under_entry ts (node.Comp i j) None is = elim is [ ]
under_entry ts (node.Case i j) None is = elim is [ ]
under_entry ts (node.Pair i j) None is = elim is [ ]
under_entry ts (node.Fail e) None is = elim is [ ]
under_entry ts node.Witness None is = elim is [ ]
under_entry ts (node.Word k m) None is = elim is [ ]

pub entry_back : (m : ℕ) (f : ℕ → ℕ) (ws vs : Typing) (n : Node) (e : Option Arrow) → Back m f ws vs → AreUnder m (children n) → EntryMeets vs (renamed f n) e → EntryMeets ws n e
entry_back m f ws vs n None on u h = hidden_back f n h
entry_back m f ws vs n (Some a) on u h = meets_back m f ws vs n a.source a.target on u h

-- entries meet where each does
pub meets_by : (ts : Typing) (ns : List Node) (es : Typing) → length ns ≡ length es →
    ((i : ℕ) (n : Node) (e : Option Arrow) → slice_get ns i ≡ Some n → slice_get es i ≡ Some e → EntryMeets ts n e) → EntriesMeet ts ns es
meets_by ts [] [] l on = tt
meets_by ts [] (e ∷ es) l on = absurd (omega arith)
meets_by ts (n ∷ ns) [] l on = absurd (omega arith)
meets_by ts (n ∷ ns) (e ∷ es) l on = (on 0 n e refl refl, meets_by ts ns es (omega arith) (λ i m d h g. on (suc i) m d h g))

below_by : (ts us : Typing) → length ts ≡ length us →
    ((i : ℕ) (d e : Option Arrow) → slice_get ts i ≡ Some d → slice_get us i ≡ Some e → IsEntryBelow d e) → IsTypingBelow ts us
below_by [] [] l on = tt
below_by [] (e ∷ es) l on = absurd (omega arith)
below_by (d ∷ ds) [] l on = absurd (omega arith)
below_by (d ∷ ds) (e ∷ es) l on = (on 0 d e refl refl, below_by ds es (omega arith) (λ i a b h g. on (suc i) a b h g))

below_at : (ts us : Typing) (i : ℕ) (d e : Option Arrow) → IsTypingBelow ts us → slice_get ts i ≡ Some d → slice_get us i ≡ Some e → IsEntryBelow d e
below_at [] us i d e b h g = absurd (cc)
below_at (c ∷ ts) [] i d e b h g = absurd (cc)
below_at (c ∷ ts) (f ∷ us) zero d e b h g =
    let p : c ≡ d = cc in
    let q : f ≡ e = cc in
    rw (← p, ← q) b.0
below_at (c ∷ ts) (f ∷ us) (suc i) d e b h g = below_at ts us i d e b.1 h g

-- a typing pulled back along places
abbrev pub pulled_from : (ℕ → ℕ) → Typing → ℕ → ℕ → Typing
pulled_from f vs low zero = []
pulled_from f vs low (suc n) = unwrap_or (slice_get vs (f low)) None ∷ pulled_from f vs (suc low) n

pub pulled_length : (f : ℕ → ℕ) (vs : Typing) (low n : ℕ) → length (pulled_from f vs low n) ≡ n
pulled_length f vs low zero = refl
pulled_length f vs low (suc n) = ap suc (pulled_length f vs (suc low) n)

pub pulled_at : (f : ℕ → ℕ) (vs : Typing) (low n k : ℕ) (e : Option Arrow) → k < n → slice_get vs (f (low + k)) ≡ Some e → slice_get (pulled_from f vs low n) k ≡ Some e
pulled_at f vs low zero k e l h = absurd (omega arith)
pulled_at f vs low (suc n) zero e l h =
    let same : low + 0 ≡ low = omega arith in
    let there : slice_get vs (f low) ≡ Some e = ap (λ (x : ℕ). slice_get vs (f x)) (sym same) ∙ h in
    rw there refl
pulled_at f vs low (suc n) (suc k) e l h =
    let same : suc low + k ≡ low + suc k = omega arith in
    pulled_at f vs (suc low) n k e (omega arith) (ap (λ (x : ℕ). slice_get vs (f x)) same ∙ h)

pub pulled_there : (f : ℕ → ℕ) (vs : Typing) (n k : ℕ) (e : Option Arrow) → k < n → f k < length vs → slice_get (pulled_from f vs 0 n) k ≡ Some e → slice_get vs (f k) ≡ Some e
pulled_there f vs n k e l inside h =
    let found = there_at vs (f k) inside in
    let zero_more : 0 + k ≡ k = omega arith in
    let back = pulled_at f vs 0 n k found.0 l (ap (λ (x : ℕ). slice_get vs (f x)) zero_more ∙ found.1) in
    found.1 ∙ sym back ∙ h

pub merged_entry : (ns ms : List Node) (ts us : Typing) (f : ℕ → ℕ) → length ts ≡ length ns → IsMerged ns ts ms us f → Along f ts us
merged_entry ns ms ts us f l merged k e h =
    let inside = within_of ts k e h in
    merged.arrows k (omega arith) ∙ h

pub merged_within : (ns ms : List Node) (ts us : Typing) (f : ℕ → ℕ) (i : ℕ) → IsMerged ns ts ms us f → i < length ns → f i < length ms
merged_within ns ms ts us f i merged l =
    let n = there_at ns i l in
    within_of ms (f i) (renamed f n.0) (merged.nodes i n.0 n.1)

-- a typing of the merged list is pulled back to one of the list
pulled_typed : (ns ms : List Node) (ts us vs : Typing) (f : ℕ → ℕ) → IsTyping ns ts → IsMerged ns ts ms us f → IsTyping ms vs → IsTyping ns (pulled_from f vs 0 (length ns))
pulled_typed ns ms ts us vs f typed merged vs_typed =
    let ws = pulled_from f vs 0 (length ns) in
    let long = typing_length vs ms vs vs_typed in
    let ts_long = typing_length ts ns ts typed in
    meets_by ws ns ws (sym (pulled_length f vs 0 (length ns)))
    (λ i n e h g.
    let inside = within_of ns i n h in
    let to = merged_within ns ms ts us f i merged inside in
    let there = pulled_there f vs (length ns) i e inside (omega arith) g in
    let met = entry_at vs ms vs (f i) (renamed f n) e vs_typed (merged.nodes i n h) there in
    let old = some_entry ts ns ts i n typed h in
    let u = under_entry ts n old.0 (entry_at ts ns ts i n old.0 typed h old.1) in
    entry_back (length ns) f ws vs n e (λ k l d p. pulled_at f vs 0 (length ns) k d l (let same : 0 + k ≡ k = omega arith in ap (λ (x : ℕ). slice_get vs (f x)) same ∙ p))
    (subst (λ (x : ℕ). AreUnder x (children n)) ts_long u) met)

pub merging_keeps_least : MergingKeepsLeast
merging_keeps_least ns ms ts us f root least merged onto long =
    let typed = least.typing.typed in
    let ts_long = typing_length ts ns ts typed in
    let last = within_of ts (length ns - 1) (Some root) least.typing.rooted in
    let along = merged_entry ns ms ts us f ts_long merged in
    let rooted : slice_get us (length ms - 1) ≡ Some (Some root) =
    ap (λ (x : ℕ). slice_get us x) (sym merged.root) ∙ along (length ns - 1) (Some root) least.typing.rooted in
    record {
      typing = record {
        typed = meets_by us ms us (sym long)
            (λ j m e h g.
            let from = onto j (within_of ms j m h) in
            let n = there_at ns from.0 from.1 in
            let old = some_entry ts ns ts from.0 n.0 typed n.1 in
            let met = entry_along f ts us n.0 old.0 along (entry_at ts ns ts from.0 n.0 old.0 typed n.1 old.1) in
            let node_is : renamed f n.0 ≡ m =
            let e1 = merged.nodes from.0 n.0 n.1 in let e2 = ap (λ (x : ℕ). slice_get ms x) from.2 in cc in
            let entry_is : old.0 ≡ e =
            let e1 = along from.0 old.0 old.1 in let e2 = ap (λ (x : ℕ). slice_get us x) from.2 in cc in
            rw (← node_is, ← entry_is) met);
        rooted = rooted;
      };
      least = λ vs h.
          let vs_long = typing_length vs ms vs h.typed in
          let ws = pulled_from f vs 0 (length ns) in
          let same : 0 + (length ns - 1) ≡ length ns - 1 = omega arith in
          let ws_rooted : slice_get ws (length ns - 1) ≡ Some (Some root) =
          pulled_at f vs 0 (length ns) (length ns - 1) (Some root) (omega arith)
          (ap (λ (x : ℕ). slice_get vs (f x)) same ∙ ap (λ (x : ℕ). slice_get vs x) merged.root ∙ h.rooted) in
          let below = least.least ws (record { typed = pulled_typed ns ms ts us vs f typed merged h.typed; rooted = ws_rooted }) in
          below_by us vs (omega arith)
          (λ j d e p q.
          let from = onto j (let x = within_of us j d p in omega arith) in
          let old = there_at ts from.0 (let x = from.1 in omega arith) in
          let d_is : old.0 ≡ d =
          let e1 = along from.0 old.0 old.1 in let e2 = ap (λ (x : ℕ). slice_get us x) from.2 in cc in
          let zero_more : 0 + from.0 ≡ from.0 = omega arith in
          let there : slice_get ws from.0 ≡ Some e =
          pulled_at f vs 0 (length ns) from.0 e from.1
          (ap (λ (x : ℕ). slice_get vs (f x)) zero_more ∙ ap (λ (x : ℕ). slice_get vs x) from.2 ∙ q) in
          subst (λ (x : Option Arrow). IsEntryBelow x e) d_is (below_at ts ws from.0 old.0 e below old.1 there));
    }
