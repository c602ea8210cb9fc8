-- The terms of loops do what the loops do, where the terms of their functions do what the functions do.
use Rattle.std.proofs.Common.{◌≡◌, ℕ, zero, suc, ◌+◌, ◌-◌, ◌^◌, ◌<◌, Bool, true, false, nat_eq, List, [], ◌∷◌, length, map, Option, Some, None, option_map, refl, sym, ap, ◌∙◌, subst, arith, IsTrue, eqb-true}
use Rattle.std.specs.Prelude.{if◌then◌else◌, ◌||◌}
use Rattle.std.specs.List.{list_any}
use Rattle.std.proofs.Math.Pow.{pow_pos}
use Rattle.hl_data.specs.declared.value.HlValue.{HlValue}
use Rattle.hl_data.specs.declared.value.HlValue.TheOpen.{HlValue-F}
use Rattle.hl_data.specs.declared.value.HlValue.TheVariants as value
use Rattle.hl_data.specs.declared.value.HlValue.TheViews.{out-HlValue}
use Rattle.hl_syntax.specs.declared.kinds.HlType.{HlType}
use Rattle.hl_syntax.specs.declared.kinds.HlType.TheOpen.{HlType-F}
use Rattle.hl_syntax.specs.declared.kinds.HlType.TheVariants as kind
use Rattle.simplicity.specs.Arrows.{IsTypedFrom}
use Rattle.simplicity.specs.Canon.{Declared, erased}
use Rattle.simplicity.specs.Loops as loop
use Rattle.simplicity.specs.Loops.{core_folded, core_go_on, core_ran}
use Rattle.simplicity.specs.Terms.{meaning}
use Rattle.simplicity.specs.Tuples.{tuple_value}
use Rattle.simplicity.specs.Types.{Kind, Sum, Product, Value, Inl, Inr, Pair, word_kind, word_value}
use Rattle.simplicity.specs.Widths.{level_of}
use Rattle.simplicityhl.specs.Kinds.{form, bound_level}
use Rattle.hl_meaning.specs.Answer.{Answer, gives, fails, stuck, and_then, known}
use Rattle.hl_meaning.specs.Loops.{Calls, folded, counted, is_counter_width, source_answering, source_side, source_sides}
use Rattle.hl_meaning.specs.Mean.{items_in_list, items_in_array}
use Rattle.hl_meaning.specs.Values.{encoded, at_all, list_value, word_of}
use Rattle.hl_term_laws.specs.Renders.{Computes, Runs, RendersCall, RendersLoop, over_items, LoopsRendered}
use Rattle.hl_term_laws.proofs.Encoded.{form_at, layer_value, opened, mapped, EitherOf, OfLeft, OfRight, either_of, enc_left, enc_right, enc_word}
use Rattle.loop_laws.specs.Laws.{on_items, at_count}
use Rattle.loop_laws.specs.Trees.{array_fold, list_fold, while_at}
use Rattle.loop_laws.proofs.Arrowed.{folds_typed, whiles_typed}
use Rattle.loop_laws.proofs.Folds.{arrays_fold, lists_fold}
use Rattle.loop_laws.proofs.Turns.{whiles_run}
use Rattle.hl_expansions.specs.Expansions.{expansions}
use Rattle.hl_expansions.proofs.Encodings.{split, then_there, one_more, all_long, after}

list_is : (xs : List Value) (ys : List Value) → Some xs ≡ Some ys → xs ≡ ys
list_is xs ys e = cc

-- the arrow of a term by equal types
moved : (t : Declared) (a b c d : Kind) → a ≡ c → b ≡ d → IsTypedFrom t a b → IsTypedFrom t c d
moved t a b c d e f h = record { from = h.from ∙ e; to = h.to ∙ f; typed = h.typed }

module _ (w : List Value) (item k : HlType) (run : Calls) (t : Declared) where
  fold_computes : Runs w (item ∷ k ∷ []) k run t → (us : List HlValue) (cs : List Value) (v : HlValue) (d : Value) → at_all (map encoded us) item ≡ Some cs → encoded v k ≡ Some d →
      Computes k (folded run us v) (core_folded (on_items w t) cs d)
  fold_computes h [] cs v d e f = subst (λ l. Computes k (gives v) (core_folded (on_items w t) l d)) (list_is [] cs e) (record { core = d; encodes = f; is = refl })
  fold_computes h (u ∷ us) cs v d e f =
      let s = split (encoded u item) (at_all (map encoded us) item) cs e in
      subst (λ l. Computes k (folded run (u ∷ us) v) (core_folded (on_items w t) l d)) s.are
      (after k k (run (u ∷ v ∷ [])) (folded run us) (on_items w t s.one d) (core_folded (on_items w t) s.more)
      (h (u ∷ v ∷ []) (s.one ∷ d ∷ []) (one_more u (v ∷ []) item (k ∷ []) s.one (d ∷ []) s.one_is (one_more v [] k [] d [] f refl)))
      (λ made c g. fold_computes h us s.more made c s.more_are g))

  module _ (r : RendersCall w (item ∷ k ∷ []) k run t) where
    taken : IsTypedFrom t (Product (form item) (form k)) (form k)
    taken = record { from = r.from; to = r.to; typed = r.typed }

    list_runs : (bound : ℕ) (x : HlValue-F HlValue) (v : HlValue) (c d : Value) → layer_value x (HlType-F.List item bound) ≡ Some c → encoded v k ≡ Some d →
        Computes k (and_then (known (items_in_list x)) (λ found. folded run found v)) (meaning (erased (list_fold t (bound_level bound))) w (Pair c d))
    list_runs bound (HlValue-F.List vs) v c d e f =
        let m = then_there (at_all (map encoded vs) item) (list_value (bound_level bound)) c e in
        subst (Computes k (folded run vs v)) (sym (lists_fold w t (bound_level bound) m.from c d m.is)) (fold_computes r.runs vs m.from v d m.was f)
    list_runs bound _ v c d e f = absurd (cc)

    pub list_loop : (bound : ℕ) → RendersLoop w (kind.List item bound) k k (over_items items_in_list run) (list_fold t (bound_level bound))
    list_loop bound =
        let made = moved (list_fold t (bound_level bound)) _ _ (Product (form (kind.List item bound)) (form k)) (form k)
        (ap (λ a. Product a (form k)) (sym (form_at (kind.List item bound) (HlType-F.List item bound) (kind.outs-List item bound)))) refl
        ((folds_typed t (form item) (form k) taken).1 (bound_level bound)) in
        record {
          from = made.from;
          to = made.to;
          typed = made.typed;
          runs = λ u v c d e f. list_runs bound (out-HlValue u) v c d (opened u (kind.List item bound) (HlType-F.List item bound) c (kind.outs-List item bound) e) f;
        }

    array_by : (count : ℕ) (vs : List HlValue) (v : HlValue) (c d : Value) (b : Bool) → nat_eq (length (map encoded vs)) count ≡ b →
        (if b then option_map tuple_value (at_all (map encoded vs) item) else None) ≡ Some c → encoded v k ≡ Some d →
        Computes k (folded run vs v) (meaning (erased (array_fold t count)) w (Pair c d))
    array_by count vs v c d true same e f =
        let m = mapped tuple_value (at_all (map encoded vs) item) c e in
        let long : length m.from ≡ count = all_long vs item m.from m.was ∙ eqb-true (length (map encoded vs)) count same in
        subst (λ x. Computes k (folded run vs v) (meaning (erased (array_fold t count)) w (Pair x d))) m.is
        (subst (λ n. Computes k (folded run vs v) (meaning (erased (array_fold t n)) w (Pair (tuple_value m.from) d))) long
        (subst (Computes k (folded run vs v)) (sym (arrays_fold w t m.from d)) (fold_computes r.runs vs m.from v d m.was f)))
    array_by count vs v c d false same e f = absurd (cc)

    array_runs : (count : ℕ) (x : HlValue-F HlValue) (v : HlValue) (c d : Value) → layer_value x (HlType-F.Array item count) ≡ Some c → encoded v k ≡ Some d →
        Computes k (and_then (known (items_in_array x)) (λ found. folded run found v)) (meaning (erased (array_fold t count)) w (Pair c d))
    array_runs count (HlValue-F.Array vs) v c d e f = array_by count vs v c d (nat_eq (length (map encoded vs)) count) refl e f
    array_runs count _ v c d e f = absurd (cc)

    pub array_loop : (count : ℕ) → RendersLoop w (kind.Array item count) k k (over_items items_in_array run) (array_fold t count)
    array_loop count =
        let made = moved (array_fold t count) _ _ (Product (form (kind.Array item count)) (form k)) (form k)
        (ap (λ a. Product a (form k)) (sym (form_at (kind.Array item count) (HlType-F.Array item count) (kind.outs-Array item count)))) refl
        ((folds_typed t (form item) (form k) taken).0 count) in
        record {
          from = made.from;
          to = made.to;
          typed = made.typed;
          runs = λ u v c d e f. array_runs count (out-HlValue u) v c d (opened u (kind.Array item count) (HlType-F.Array item count) c (kind.outs-Array item count) e) f;
        }

-- A loop with a counter.

module _ (end total : HlType) where
  abbrev turn : HlType
  turn = kind.Either end total

  on_left : (u : HlValue) (c : Value) → encoded u end ≡ Some c → Computes turn (gives (value.Left u)) (Some (Inl c))
  on_left u c e = record { core = Inl c; encodes = enc_left u turn end total c (kind.outs-Either end total) e; is = refl }

  by_side : (x : HlValue-F HlValue) (c : Value) (next : HlValue → Answer HlValue) (run : Value → Option Value) → EitherOf end total x c →
      ((u : HlValue) (b : Value) → encoded u total ≡ Some b → Computes turn (next u) (run b)) → Computes turn (loop.go_on source_answering source_sides next (source_side x)) (core_go_on run c)
  by_side _ _ next run (OfLeft u c e) g = on_left u c e
  by_side _ _ next run (OfRight u c e) g = g u c e

  ended : (x : HlValue-F HlValue) (c : Value) → EitherOf end total x c → Computes turn (loop.go_on source_answering source_sides (λ u. gives (value.Right u)) (source_side x)) (Some c)
  ended _ _ (OfLeft u c e) = on_left u c e
  ended _ _ (OfRight u c e) = record { core = Inr c; encodes = enc_right u turn end total c (kind.outs-Either end total) e; is = refl }

  last : (a : Answer HlValue) (d : Option Value) → Computes turn a d →
      Computes turn (and_then a (λ v. loop.go_on source_answering source_sides (λ u. gives (value.Right u)) (source_side (out-HlValue v)))) d
  last (gives v) d h = rw h.is (ended (out-HlValue v) h.core (either_of v turn end total h.core (kind.outs-Either end total) h.encodes))
  last fails d h = h
  last stuck d h = tt

  module _ (f : ℕ → HlValue → Answer HlValue) (step : ℕ → Value → Option Value) (bound : ℕ)
      (each : (n : ℕ) (v : HlValue) (c : Value) → n < bound → encoded v total ≡ Some c → Computes turn (f n v) (step n c)) where
    count_computes : (more n : ℕ) (v : HlValue) (c : Value) → n + more < bound → encoded v total ≡ Some c →
        Computes turn (loop.counted source_answering source_sides f (suc more) n v) (core_ran step more n c)
    count_computes zero n v c less e = last (f n v) (step n c) (each n v c (omega (arith, less)) e)
    count_computes (suc more) n v c less e =
        after turn turn (f n v) (λ u. loop.go_on source_answering source_sides (loop.counted source_answering source_sides f (suc more) (n + 1)) (source_side (out-HlValue u))) (step n c)
        (core_go_on (core_ran step more (n + 1))) (each n v c (omega (arith, less)) e)
        (λ u d g. by_side (out-HlValue u) d (loop.counted source_answering source_sides f (suc more) (n + 1)) (core_ran step more (n + 1)) (either_of u turn end total d (kind.outs-Either end total) g)
        (λ made b h. count_computes more (n + 1) made b (omega (arith, less)) h))

-- the widths of counters are those of words
abbrev AllOf : (ℕ → Type 0) → List ℕ → Type 0
AllOf P [] = Unit {0}
AllOf P (n ∷ ns) = P n × AllOf P ns

any_of : (P : ℕ → Type 0) (n : ℕ) (ns : List ℕ) → AllOf P ns → IsTrue (list_any (nat_eq n) ns) → P n
any_of P n [] all h = absurd (cc)
any_of P n (m ∷ ns) all h = by_test (nat_eq n m) refl (any_of P n ns all.1) h
  where
    by_test : (b : Bool) → nat_eq n m ≡ b → (IsTrue (list_any (nat_eq n) ns) → P n) → IsTrue (b || list_any (nat_eq n) ns) → P n
    by_test true same later g = subst P (sym (eqb-true n m same)) all.0
    by_test false same later g = later g

counter_level : (width : ℕ) → IsTrue (is_counter_width width) → width ≡ 2 ^ level_of width
counter_level width h = any_of (λ n. n ≡ 2 ^ level_of n) width (1 ∷ 2 ∷ 4 ∷ 8 ∷ 16 ∷ []) (refl, (refl, (refl, (refl, (refl, tt))))) h

module _ (w : List Value) (total context end : HlType) (width : ℕ) (run : Calls) (t : Declared) (r : RendersCall w (total ∷ context ∷ kind.UInt width ∷ []) (kind.Either end total) run t)
    (wide : width ≡ 2 ^ level_of width) where
  abbrev k : ℕ
  k = level_of width

  turns_computed : (u v : HlValue) (c d : Value) (more : ℕ) → 2 ^ width ≡ suc more → encoded u total ≡ Some c → encoded v context ≡ Some d →
      Computes (kind.Either end total) (counted run width v (2 ^ width) 0 u) (meaning (erased (while_at k t)) w (Pair c d))
  turns_computed u v c d more turns e f =
      subst (λ n. Computes (kind.Either end total) (counted run width v n 0 u) (meaning (erased (while_at k t)) w (Pair c d))) (sym turns)
      (subst (Computes (kind.Either end total) (counted run width v (suc more) 0 u)) (sym (whiles_run w k t d c more (sym turns ∙ ap (λ n. 2 ^ n) wide)))
      (count_computes end total (λ counter made. run (made ∷ v ∷ word_of width counter ∷ [])) (at_count w t k d) (2 ^ width)
      (λ n made b less g. r.runs (made ∷ v ∷ word_of width n ∷ []) (b ∷ d ∷ word_value k n ∷ [])
      (one_more made (v ∷ word_of width n ∷ []) total (context ∷ kind.UInt width ∷ []) b (d ∷ word_value k n ∷ []) g
      (one_more v (word_of width n ∷ []) context (kind.UInt width ∷ []) d (word_value k n ∷ []) f
      (one_more (word_of width n) [] (kind.UInt width) [] (word_value k n) [] (enc_word width n (kind.UInt width) (kind.outs-UInt width) less) refl))))
      more 0 u c (omega (arith, turns)) e))

  pub while_loop : RendersLoop w total context (kind.Either end total) (λ made given. counted run width given (2 ^ width) 0 made) (while_at k t)
  while_loop =
      let sum : form (kind.Either end total) ≡ Sum (form end) (form total) = form_at (kind.Either end total) (HlType-F.Either end total) (kind.outs-Either end total) in
      let counter : form (kind.UInt width) ≡ word_kind k = form_at (kind.UInt width) (HlType-F.UInt width) (kind.outs-UInt width) in
      let taken : IsTypedFrom t (Product (form total) (Product (form context) (word_kind k))) (Sum (form end) (form total)) =
      record { from = r.from ∙ ap (λ n. Product (form total) (Product (form context) n)) counter; to = r.to ∙ sum; typed = r.typed } in
      let made = whiles_typed k t (form total) (form context) (form end) taken in
      record {
        from = made.from;
        to = made.to ∙ sym sum;
        typed = made.typed;
        runs = λ u v c d e f. turns_computed u v c d (2 ^ width - 1) (omega (arith, pow_pos width)) e f;
      }

pub loops_rendered : LoopsRendered expansions
unfolding expansions
loops_rendered = record {
  lists = λ w item k bound run t r bounds. list_loop w item k run t r bound;
  arrays = λ w item k count run t r. array_loop w item k run t r count;
  whiles = λ w total context end width run t r counts. while_loop w total context end width run t r (counter_level width counts);
}
