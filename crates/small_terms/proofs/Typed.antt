-- Emitted entries have a typing.
use Rattle.std.proofs.Common.{◌≡◌, ℕ, ◌-◌, ◌/◌, List, [], ◌∷◌, ◌++◌, length, slice_get, Option, Some, None, refl, sym, ap, ◌∙◌, append_assoc, append-nil, length-append, ◌⊎◌, inl, inr}
use Rattle.std.proofs.lemmas.List.{map-append}
use Rattle.simplicity.specs.Types.{Kind, Product, word_kind}
use Rattle.simplicity.specs.Nodes as node
use Rattle.simplicity.specs.Nodes.{Node}
use Rattle.simplicity.specs.Typing as row
use Rattle.simplicity.specs.Typing.{Arrow, arrow, Typing, HasArrow, HasNoArrow, Meets, EntryMeets, EntriesMeet, IsTyping, source_of, target_of}
use Rattle.simplicity.proofs.Inversion.{iden_meets, take_meets, drop_meets, pair_meets}
use Rattle.simplicity.proofs.Typings.{meets_at}
use Rattle.small_terms.specs.Kinds.{node_of}
use Rattle.small_terms.specs.declared.entries.SmallNode.{SmallNode}
use Rattle.small_terms.specs.declared.entries.SmallNode.TheVariants as code
use Rattle.small_terms.specs.declared.entries.Entry.{Entry}
use Rattle.small_terms.specs.Emitting.{Adds, found, added, Emits, whole, first, rest, both}
use Rattle.small_terms.specs.Entries.{entry_node, entry_nodes}
use Rattle.small_terms.specs.Plan.{Plan, count_of}
use Rattle.small_terms.specs.Tuples.{bytes_kind}
use Rattle.small_terms.proofs.ByteKinds.{bytes_pair}
use Rattle.small_terms.proofs.Lists.{get_more, get_next, get_one_more}
use Rattle.small_terms.proofs.Ordered.{nodes_get}
use Rattle.small_terms.proofs.Sized.{Fits}
use Rattle.small_terms.proofs.Sized as sized

-- a node has one arrow
pub one_arrow : (ts : Typing) (i : ℕ) (a b c d : Kind) → HasArrow ts i a b → HasArrow ts i c d → (a ≡ c) × (b ≡ d)
one_arrow ts i a b c d h g = (ap source_of (sym h ∙ g), ap target_of (sym h ∙ g))

-- rows of the typing table stay as a typing grows
meets_more : (ts more : Typing) (n : Node) (a b : Kind) → Meets ts n a b → Meets (ts ++ more) n a b
meets_more ts more _ _ _ (row.Iden a) = row.Iden a
meets_more ts more _ _ _ (row.UnitNode a) = row.UnitNode a
meets_more ts more _ _ _ (row.Injl t a b c h) = row.Injl t a b c (get_more ts more t _ h)
meets_more ts more _ _ _ (row.Injr t a b c h) = row.Injr t a b c (get_more ts more t _ h)
meets_more ts more _ _ _ (row.Take t a b c h) = row.Take t a b c (get_more ts more t _ h)
meets_more ts more _ _ _ (row.Drop t a b c h) = row.Drop t a b c (get_more ts more t _ h)
meets_more ts more _ _ _ (row.Comp s t a b c g h) = row.Comp s t a b c (get_more ts more s _ g) (get_more ts more t _ h)
meets_more ts more _ _ _ (row.Case s t a b c d g h) = row.Case s t a b c d (get_more ts more s _ g) (get_more ts more t _ h)
meets_more ts more _ _ _ (row.AssertL s t a b c d g h) = row.AssertL s t a b c d (get_more ts more s _ g) (get_more ts more t _ h)
meets_more ts more _ _ _ (row.AssertR s t a b c d g h) = row.AssertR s t a b c d (get_more ts more s _ g) (get_more ts more t _ h)
meets_more ts more _ _ _ (row.Pair s t a b c g h) = row.Pair s t a b c (get_more ts more s _ g) (get_more ts more t _ h)
meets_more ts more _ _ _ (row.Fail e a b) = row.Fail e a b
meets_more ts more _ _ _ (row.Witness a b) = row.Witness a b
meets_more ts more _ _ _ (row.Word k n) = row.Word k n

entry_meets_more : (ts more : Typing) (n : Node) (e : Option Arrow) → EntryMeets ts n e → EntryMeets (ts ++ more) n e
entry_meets_more ts more n None h = h
entry_meets_more ts more n (Some a) h = meets_more ts more n a.source a.target h

-- a typing with one entry more, for one node more
entries_next : (ts more : Typing) (ns : List Node) (es : Typing) (n : Node) (e : Option Arrow) → EntriesMeet ts ns es → EntryMeets (ts ++ more) n e → EntriesMeet (ts ++ more) (ns ++ n ∷ []) (es ++ e ∷ [])
entries_next ts more [] [] n e h last = (last, tt)
entries_next ts more [] (f ∷ es) n e h last = elim h [ ]
entries_next ts more (m ∷ ns) [] n e h last = elim h [ ]
entries_next ts more (m ∷ ns) (f ∷ es) n e h last = (entry_meets_more ts more m f h.0, entries_next ts more ns es n e h.1 last)

-- a typing in which each entry is given as many bytes as it says
pub record IsTypedBy (ts : Typing) (es : List Entry) : Type 0 where
  pub typed : IsTyping (entry_nodes es) ts
  pub long : length ts ≡ length es
  pub sources : (i : ℕ) (e : Entry) → slice_get es i ≡ Some e → (b : Kind) × HasArrow ts i (bytes_kind e.count) b

pub none_typed : IsTypedBy [] []
none_typed = record { typed = tt; long = refl; sources = λ i e there. cc }

-- what a typing of old entries becomes once a plan is emitted
pub record IsTypedOn (ts : Typing) (new : List Entry) (at : ℕ) (source target : Kind) : Type 0 where
  pub typing : Typing
  pub by : IsTypedBy typing new
  pub more : Typing
  pub grown : typing ≡ ts ++ more
  pub here : HasArrow typing at source target

-- the target of one of these nodes follows from its source
one_target : (ts : Typing) (n : SmallNode) (a b c : Kind) → Meets ts (node_of n) a b → Meets ts (node_of n) a c → b ≡ c
one_target ts code.Iden a b c g h = sym (iden_meets ts a b g) ∙ iden_meets ts a c h
one_target ts (code.Take i) a b c g h = (one_arrow ts i _ _ _ _ (take_meets ts i a b g).3 (take_meets ts i a c h).3).1
one_target ts (code.Drop i) a b c g h = (one_arrow ts i _ _ _ _ (drop_meets ts i a b g).3 (drop_meets ts i a c h).3).1
one_target ts (code.Pair i j) a b c g h =
    let p = pair_meets ts i j a b g in
    let q = pair_meets ts i j a c h in
    let left : p.0 ≡ q.0 = (one_arrow ts i _ _ _ _ p.3 q.3).1 in
    let right : p.1 ≡ q.1 = (one_arrow ts j _ _ _ _ p.4 q.4).1 in
    cc

adds_typed : {one new : List Entry} {entry : Entry} {at : ℕ} (ts : Typing) (b : Kind) → IsTypedBy ts one → Adds one entry new at → Meets ts (entry_node entry) (bytes_kind entry.count) b → IsTypedOn ts new at (bytes_kind entry.count) b
adds_typed {one} {new} {entry} {at} ts b by (found there is) meets =
    let s : (c : Kind) × HasArrow ts at (bytes_kind entry.count) c = by.sources at entry there in
    let m : Meets ts (entry_node entry) (bytes_kind entry.count) s.0 = meets_at ts (entry_nodes one) at (entry_node entry) _ _ by.typed (nodes_get one at entry there) s.1 in
    let same : s.0 ≡ b = one_target ts entry.node _ _ _ m meets in
    record { typing = ts; by = rw is by; more = []; grown = sym (append-nil ts); here = rw same at s.1 }
adds_typed {one} {new} {entry} {at} ts b by (added none here is) meets =
    let last : Option Arrow = Some (arrow (bytes_kind entry.count) b) in
    let arrow_here : HasArrow (ts ++ Some (arrow (bytes_kind entry.count) b) ∷ []) at (bytes_kind entry.count) b = rw (here, ← by.long) (get_next ts [] (Some (arrow (bytes_kind entry.count) b))) in
    record {
      typing = ts ++ Some (arrow (bytes_kind entry.count) b) ∷ [];
      by = rw is (record {
        typed = rw map-append (entries_next ts (Some (arrow (bytes_kind entry.count) b) ∷ []) (entry_nodes one) ts (entry_node entry) (Some (arrow (bytes_kind entry.count) b)) by.typed (meets_more ts (Some (arrow (bytes_kind entry.count) b) ∷ []) (entry_node entry) (bytes_kind entry.count) b meets));
        long = rw (length-append, length-append, by.long) refl;
        sources = λ i e there. source_at i e (get_one_more one entry i e there);
      });
      more = Some (arrow (bytes_kind entry.count) b) ∷ [];
      grown = refl;
      here = arrow_here;
    }
  where
    source_at : (i : ℕ) (e : Entry) → (slice_get one i ≡ Some e) ⊎ ((i ≡ length one) × (e ≡ entry)) → (c : Kind) × HasArrow (ts ++ Some (arrow (bytes_kind entry.count) b) ∷ []) i (bytes_kind e.count) c
    source_at i e (inl old) =
        let s : (c : Kind) × HasArrow ts i (bytes_kind e.count) c = by.sources i e old in
        (s.0, get_more ts (Some (arrow (bytes_kind entry.count) b) ∷ []) i _ s.1)
    source_at i e (inr new) =
        let n : length ts ≡ i = by.long ∙ sym new.0 in
        (b, rw (new.1, ← n) (get_next ts [] (Some (arrow (bytes_kind entry.count) b))))

-- entries are typed further
typed_on : (ts us : Typing) (new : List Entry) (at : ℕ) (a b : Kind) → (m : Typing) → us ≡ ts ++ m → IsTypedOn us new at a b → IsTypedOn ts new at a b
typed_on ts us new at a b m is t =
    record { typing = t.typing; by = t.by; more = m ++ t.more; grown = t.grown ∙ ap (λ xs. xs ++ t.more) is ∙ append_assoc ts m t.more; here = t.here }

pub emits_typed : {old new : List Entry} {plan : Plan} {at : ℕ} → Emits old plan new at → Fits plan → (ts : Typing) → IsTypedBy ts old → IsTypedOn ts new at (bytes_kind (count_of plan)) (sized.target_of plan)
emits_typed (whole a) fits ts by = adds_typed ts (word_kind 3) by a (row.Iden (word_kind 3))
emits_typed (first {one = one} {new = new} {count = count} {child = child} {at = at} {part = part} p a) fits ts by =
    let t : IsTypedOn ts one child (bytes_kind (count_of part)) (sized.target_of part) = emits_typed p fits.2 ts by in
    let h : HasArrow t.typing child (bytes_kind (count / 2)) (sized.target_of part) = rw fits.1 at t.here in
    let m : Meets t.typing (node.Take child) (bytes_kind count) (sized.target_of part) = rw (bytes_pair count fits.0) (row.Take child _ _ _ h) in
    typed_on ts t.typing new at _ _ t.more t.grown (adds_typed t.typing (sized.target_of part) t.by a m)
emits_typed (rest {one = one} {new = new} {count = count} {child = child} {at = at} {part = part} p a) fits ts by =
    let t : IsTypedOn ts one child (bytes_kind (count_of part)) (sized.target_of part) = emits_typed p fits.2 ts by in
    let h : HasArrow t.typing child (bytes_kind (count - count / 2)) (sized.target_of part) = rw fits.1 at t.here in
    let m : Meets t.typing (node.Drop child) (bytes_kind count) (sized.target_of part) = rw (bytes_pair count fits.0) (row.Drop child _ _ _ h) in
    typed_on ts t.typing new at _ _ t.more t.grown (adds_typed t.typing (sized.target_of part) t.by a m)
emits_typed (both {one = one} {two = two} {new = new} {count = count} {left = left} {right = right} {at = at} {l = l} {r = r} p q a) fits ts by =
    let t : IsTypedOn ts one left (bytes_kind (count_of l)) (sized.target_of l) = emits_typed p fits.2 ts by in
    let u : IsTypedOn t.typing two right (bytes_kind (count_of r)) (sized.target_of r) = emits_typed q fits.3 t.typing t.by in
    let g : HasArrow u.typing left (bytes_kind count) (sized.target_of l) = rw u.grown (get_more t.typing u.more left _ (rw fits.0 at t.here)) in
    let h : HasArrow u.typing right (bytes_kind count) (sized.target_of r) = rw fits.1 at u.here in
    let m : Meets u.typing (node.Pair left right) (bytes_kind count) (Product (sized.target_of l) (sized.target_of r)) = row.Pair left right _ _ _ g h in
    typed_on ts t.typing new at _ _ t.more t.grown (typed_on t.typing u.typing new at _ _ u.more u.grown (adds_typed u.typing (Product (sized.target_of l) (sized.target_of r)) u.by a m))
