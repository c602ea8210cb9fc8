-- Each printed value is read, layer by layer.
use Rattle.std.proofs.Common.{◌≡◌, ℕ, zero, suc, ◌+◌, ◌*◌, ◌^◌, ◌<◌, ◌≤◌, Bool, true, false, ◌&&◌, nat_eq, nat_lt, List, [], ◌∷◌, ◌++◌, length, map, drop, replicate, Option, Some, None, option_map, Ok, Err, inl, inr, refl, sym, ap, ◌∙◌, arith, subst, IsTrue, eqb-true, eq-eqb, lt-ltb, ltb-true, length-drop, append-nil, codes}
use Rattle.std.proofs.lemmas.Bool.Decides.{nat_tests}
use Rattle.std.proofs.lemmas.List.{length-map}
use Rattle.std.proofs.Math.Nat.{pow-succ', pow-le-pow_right}
use Rattle.std.specs.Prelude.{IsSome}
use Rattle.std.specs.List.{list_all}
use Rattle.std.specs.Fmt.{decimal}
use Rattle.std.specs.Char.{is_ascii_digit}
use Rattle.hl_data.specs.declared.value.HlValue.{HlValue, map-HlValue, roll-HlValue}
use Rattle.hl_data.specs.declared.value.HlValue.TheOpen.{HlValue-F}
use Rattle.hl_data.specs.declared.value.HlValue.TheFolds.{ind-HlValue, fold-roll-HlValue}
use Rattle.hl_data.specs.declared.value.HlValue.TheVariants as value
use Rattle.hl_syntax.specs.declared.kinds.HlType.{HlType, map-HlType}
use Rattle.hl_syntax.specs.declared.kinds.HlType.TheOpen.{HlType-F}
use Rattle.hl_syntax.specs.declared.kinds.HlType.TheViews.{roll-HlType, out-HlType, roll-out-HlType}
use Rattle.hl_syntax.specs.declared.kinds.HlType.TheFolds.{fold-roll-HlType}
use Rattle.hl_syntax.specs.declared.token.Span.{Span}
use Rattle.hl_syntax.specs.declared.token.Token.{Token}
use Rattle.hl_syntax.specs.declared.token.TokenKind.TheVariants as kind
use Rattle.hl_syntax.specs.declared.token.Symbol.TheVariants as symbol
use Rattle.hl_syntax.specs.declared.tree.Expr.{Expr}
use Rattle.hl_syntax.specs.declared.tree.ExprForm.TheOpen.{ExprForm-F}
use Rattle.hl_syntax.specs.declared.tree.ExprForm.TheVariants as exprs
use Rattle.jets.specs.Unsigned.{Unsigned}
use Rattle.simplicity.specs.Types.{Value}
use Rattle.simplicity.specs.Widths.{level_of}
use Rattle.simplicityhl.specs.Grammar as grammar
use Rattle.simplicityhl.specs.Grammar.{expr_of, alone_or, most_depth, Stands}
use Rattle.simplicityhl.specs.Kinds.{sound_step, bound_level, is_width, is_bound, IsSound}
use Rattle.simplicityhl.specs.Parts.{span_between}
use Rattle.simplicityhl.specs.Tokens.{tokens, tokens_after, with_token}
use Rattle.hl_types.proofs.Parts.{bound_parts}
use Rattle.hl_meaning.specs.Literals.{literal_value}
use Rattle.hl_meaning.specs.Values.{Encoding, encoded, encode_at, at_each, at_all, beside, list_value, is_number_of}
use Rattle.simplicityhl.specs.Kinds.{is_sound}
use Rattle.hl_meaning.specs.Entries.{IsValueOf}
use Rattle.hl_values.specs.Printed.{printed, print_step, joined, number_text, hexadecimal}
use Rattle.hl_texts.specs.RoundTrip.{nesting, nesting_step, greatest, PrintedIsRead, DeeperIsNoText, ReadsAgain}
use Rattle.hl_values.specs.Written.{AtType, written, each_at, all_at}
use Rattle.hl_values.specs.declared.refusal.ValueRefusal.TheVariants.{NotValue, OutOfMemory}
use Rattle.hl_values.proofs.Coding.{encode_rolled}
use Rattle.hl_texts.proofs.Layers.{written_rolled}
use Rattle.hl_texts.proofs.Numbers.{Spells, decimal_spells, hexadecimal_spells}
use Rattle.hl_texts.proofs.Parts.{ReadAt, AllRead, ItemsAt, Closes, leaf, applied, no_items, one_and_comma, all_items}
use Rattle.hl_texts.proofs.One.{one_value, same_tokens, text_is_one}
use Rattle.hl_texts.proofs.Pieces.{Begins, placed, word_read, open_read, close_read, open_bracket_read, close_bracket_read, exclamation_read}
use Rattle.hl_texts.proofs.Shallow.{shallow}
use Rattle.hl_texts.proofs.Standing.{true_stands, false_stands, nothing_stands, literal_stands, some_stands, left_stands, right_stands, tuple_stands, array_stands, list_stands}

abbrev Claim : HlValue → Type 0
Claim v = (k : HlType) → IsTrue (is_sound k) → IsValueOf v k → (depth : ℕ) → nesting v ≤ depth → (at : ℕ) → ReadAt at depth (printed v) k v

abbrev Proved : Type 0
Proved = (v : HlValue) × Claim v

abbrev first_of : Proved → HlValue
first_of e = e.0

abbrev layer_of : HlValue-F Proved → HlValue-F HlValue
layer_of y = map-HlValue Proved HlValue first_of y

-- the claim for a layer of a value at a layer of a type
abbrev Layer : HlValue-F Proved → HlType-F HlType → Type 0
Layer y x = IsTrue (sound_step (map-HlType HlType Bool is_sound x)) → IsSome (encode_at (map-HlValue HlValue Encoding encoded (layer_of y)) x) → (depth : ℕ) → nesting_step (map-HlValue HlValue ℕ nesting (layer_of y)) ≤ depth →
    (at : ℕ) → ReadAt at depth (print_step (map-HlValue HlValue (List ℕ) printed (layer_of y))) (roll-HlType x) (roll-HlValue (layer_of y))

-- What is there came from what is there.

both_true : (a b : Bool) → IsTrue (a && b) → IsTrue a × IsTrue b
both_true true b h = (refl, h)
both_true false b h = cc

beside_there : {A B C : Type 0} (join : A → B → C) (a : Option A) (b : Option B) → IsSome (beside join a b) → IsSome a × IsSome b
beside_there join (Some a) (Some b) h = (refl, refl)
beside_there join (Some a) None h = absurd (cc)
beside_there join None b h = absurd (cc)

map_there : {A B : Type 0} (f : A → B) (o : Option A) → IsSome (option_map f o) → IsSome o
map_there f (Some a) h = refl
map_there f None h = absurd (cc)

-- Truth values and None.

bool_layer : (b : Bool) (x : HlType-F HlType) → Layer (HlValue-F.Bool b) x
bool_layer b HlType-F.Bool s h zero deep at = absurd (omega arith)
bool_layer true HlType-F.Bool s h (suc depth) deep at =
    leaf 116 (codes "rue") (kind.Name (codes "true")) exprs.True at depth (roll-HlType HlType-F.Bool) (roll-HlValue (HlValue-F.Bool true)) (record { solid = refl; no_comment = refl; in_word = refl }) refl refl
    (λ us. true_stands depth (placed (kind.Name (codes "true")) at (at + length (codes "true"))) us refl)
    (λ span. written_rolled ExprForm-F.True HlType-F.Bool exprs.True span (roll-HlType HlType-F.Bool) exprs.rolls-True refl ∙ ap Some (sym (value.rolls-Bool true)))
bool_layer false HlType-F.Bool s h (suc depth) deep at =
    leaf 102 (codes "alse") (kind.Name (codes "false")) exprs.False at depth (roll-HlType HlType-F.Bool) (roll-HlValue (HlValue-F.Bool false)) (record { solid = refl; no_comment = refl; in_word = refl }) refl refl
    (λ us. false_stands depth (placed (kind.Name (codes "false")) at (at + length (codes "false"))) us refl)
    (λ span. written_rolled ExprForm-F.False HlType-F.Bool exprs.False span (roll-HlType HlType-F.Bool) exprs.rolls-False refl ∙ ap Some (sym (value.rolls-Bool false)))
bool_layer b _ s h depth deep at = absurd (cc)

nothing_layer : (x : HlType-F HlType) → Layer HlValue-F.Nothing x
nothing_layer (HlType-F.Option item) s h zero deep at = absurd (omega arith)
nothing_layer (HlType-F.Option item) s h (suc depth) deep at =
    leaf 78 (codes "one") (kind.Name (codes "None")) exprs.Nothing at depth (roll-HlType (HlType-F.Option item)) (roll-HlValue HlValue-F.Nothing) (record { solid = refl; no_comment = refl; in_word = refl }) refl refl
    (λ us. nothing_stands depth (placed (kind.Name (codes "None")) at (at + length (codes "None"))) us refl)
    (λ span. written_rolled ExprForm-F.Nothing (HlType-F.Option item) exprs.Nothing span (roll-HlType (HlType-F.Option item)) exprs.rolls-Nothing refl ∙ ap Some (sym value.rolls-Nothing))
nothing_layer _ s h depth deep at = absurd (cc)

-- Some, Left and Right.

some_layer : (p : Proved) (x : HlType-F HlType) → Layer (HlValue-F.Some p) x
some_layer p (HlType-F.Option item) s h zero deep at = absurd (omega arith)
some_layer p (HlType-F.Option item) s h (suc depth) deep at =
    applied 83 (codes "ome") (kind.Name (codes "Some")) exprs.Some (printed p.0) at depth (roll-HlType (HlType-F.Option item)) item (roll-HlValue (HlValue-F.Some p.0)) p.0 (record { solid = refl; no_comment = refl; in_word = refl }) refl refl
    (p.1 item s (map_there _ (encoded p.0 item) h) depth (omega arith))
    (λ t o inner e c us opens stands closes is. some_stands depth t o inner e c us opens stands closes (ap (grammar.is_word (codes "Some")) is))
    (λ e span one. written_rolled (ExprForm-F.Some e) (HlType-F.Option item) (exprs.Some e) span (roll-HlType (HlType-F.Option item)) (exprs.rolls-Some e) refl ∙ ap (option_map value.Some) one ∙ ap Some (sym (value.rolls-Some p.0)))
some_layer p _ s h depth deep at = absurd (cc)

left_layer : (p : Proved) (x : HlType-F HlType) → Layer (HlValue-F.Left p) x
left_layer p (HlType-F.Either one other) s h zero deep at = absurd (omega arith)
left_layer p (HlType-F.Either one other) s h (suc depth) deep at =
    let k : HlType = roll-HlType (HlType-F.Either one other) in
    applied 76 (codes "eft") (kind.Name (codes "Left")) exprs.Left (printed p.0) at depth k one (roll-HlValue (HlValue-F.Left p.0)) p.0 (record { solid = refl; no_comment = refl; in_word = refl }) refl refl
    (p.1 one (both_true (is_sound one) (is_sound other) s).0 (map_there _ (encoded p.0 one) h) depth (omega arith))
    (λ t o inner e c us opens stands closes is. left_stands depth t o inner e c us opens stands closes (ap (grammar.is_word (codes "Left")) is))
    (λ e span h. written_rolled (ExprForm-F.Left e) (HlType-F.Either one other) (exprs.Left e) span k (exprs.rolls-Left e) refl ∙ ap (option_map value.Left) h ∙ ap Some (sym (value.rolls-Left p.0)))
left_layer p _ s h depth deep at = absurd (cc)

right_layer : (p : Proved) (x : HlType-F HlType) → Layer (HlValue-F.Right p) x
right_layer p (HlType-F.Either one other) s h zero deep at = absurd (omega arith)
right_layer p (HlType-F.Either one other) s h (suc depth) deep at =
    let k : HlType = roll-HlType (HlType-F.Either one other) in
    applied 82 (codes "ight") (kind.Name (codes "Right")) exprs.Right (printed p.0) at depth k other (roll-HlValue (HlValue-F.Right p.0)) p.0 (record { solid = refl; no_comment = refl; in_word = refl }) refl refl
    (p.1 other (both_true (is_sound one) (is_sound other) s).1 (map_there _ (encoded p.0 other) h) depth (omega arith))
    (λ t o inner e c us opens stands closes is. right_stands depth t o inner e c us opens stands closes (ap (grammar.is_word (codes "Right")) is))
    (λ e span h. written_rolled (ExprForm-F.Right e) (HlType-F.Either one other) (exprs.Right e) span k (exprs.rolls-Right e) refl ∙ ap (option_map value.Right) h ∙ ap Some (sym (value.rolls-Right p.0)))
right_layer p _ s h depth deep at = absurd (cc)

-- Numbers.

digit_begins : (c : ℕ) → is_ascii_digit c ≡ true → Begins c
digit_begins c h = record { solid = grind (arith, nat_tests); no_comment = grind (arith, nat_tests); in_word = grind (arith, nat_tests) }

number_read : (word : List ℕ) (u : Unsigned) (width : ℕ) → Spells word u.number → u.width ≡ width → u.number < 2 ^ width → (at depth : ℕ) → ReadAt at (suc depth) word (roll-HlType (HlType-F.UInt width)) (roll-HlValue (HlValue-F.Number u))
number_read word u width spells same fits at depth =
    let k : HlType = roll-HlType (HlType-F.UInt width) in
    let w : List ℕ = spells.first ∷ spells.others in
    let less = lt-ltb (literal_value w) (2 ^ width) (omega (arith, spells.spelled, fits)) in
    let is : (let n : Unsigned = record { width = width; number = literal_value w } in n) ≡ u = λ i. record { width = (sym same) i; number = spells.spelled i } in
    subst (λ word. ReadAt at (suc depth) word k (roll-HlValue (HlValue-F.Number u))) (sym spells.begins)
    (leaf spells.first spells.others (kind.Literal w) (exprs.Literal w) at depth k (roll-HlValue (HlValue-F.Number u)) (digit_begins spells.first spells.digit) spells.in_word spells.read
    (λ us. literal_stands depth (placed (kind.Literal w) at (at + length w)) us refl)
    (λ span. written_rolled (ExprForm-F.Literal w) (HlType-F.UInt width) (exprs.Literal w) span k (exprs.rolls-Literal w) refl ∙ rw less (ap (λ n. Some (value.Number n)) is) ∙ ap Some (sym (value.rolls-Number u))))

narrow : (width n : ℕ) → IsTrue (is_width width) → nat_eq width 256 ≡ false → n < 2 ^ width → n < 2 ^ 128
narrow width n s other fits =
    let parts = both_true (nat_lt (level_of width) 9) (nat_eq width (2 ^ level_of width)) s in
    let level = ltb-true (level_of width) 9 parts.0 in
    let is : width ≡ 2 ^ level_of width = eqb-true width (2 ^ level_of width) parts.1 in
    let few : level_of width ≤ 7 = last (level_of width) level is in
    let two : 0 < 2 = omega arith in
    let small : 2 ^ level_of width ≤ 2 ^ 7 = pow-le-pow_right two few in
    let low : width ≤ 128 = omega (arith, is, small) in
    let most : 2 ^ width ≤ 2 ^ 128 = pow-le-pow_right two low in
    omega (arith, most, fits)
  where
    last : (level : ℕ) → level < 9 → width ≡ 2 ^ level → level ≤ 7
    last level less is = elim (nat_eq level 8) as (λ t. nat_eq level 8 ≡ t → level ≤ 7) [
      | true ↦ λ e. let eight = eqb-true level 8 e in let no : width ≡ 256 = is ∙ ap (λ l. 2 ^ l) eight in absurd (let t = sym other ∙ eq-eqb width 256 no in cc)
      | false ↦ λ e. grind (arith, nat_tests)
    ] refl

number_layer : (u : Unsigned) (x : HlType-F HlType) → Layer (HlValue-F.Number u) x
number_layer u (HlType-F.UInt width) s h zero deep at = absurd (omega arith)
number_layer u (HlType-F.UInt width) s h (suc depth) deep at = there (is_number_of width u) refl
  where
    wide : (t : Bool) → nat_eq u.width 256 ≡ t → u.width ≡ width → u.number < 2 ^ width → ReadAt at (suc depth) (number_text u) (roll-HlType (HlType-F.UInt width)) (roll-HlValue (HlValue-F.Number u))
    wide true e same fits =
        let full : u.number < 2 ^ 256 = subst (λ w. u.number < 2 ^ w) (sym same ∙ eqb-true u.width 256 e) fits in
        rw e (number_read (codes "0x" ++ hexadecimal 64 u.number) u width (hexadecimal_spells 63 u.number full) same fits at depth)
    wide false e same fits =
        let other : nat_eq width 256 ≡ false = ap (λ w. nat_eq w 256) (sym same) ∙ e in
        rw e (number_read (decimal u.number) u width (decimal_spells u.number (narrow width u.number s other fits)) same fits at depth)

    there : (t : Bool) → is_number_of width u ≡ t → ReadAt at (suc depth) (number_text u) (roll-HlType (HlType-F.UInt width)) (roll-HlValue (HlValue-F.Number u))
    there true e = let parts = both_true (nat_eq u.width width) (nat_lt u.number (2 ^ width)) e in wide (nat_eq u.width 256) refl (eqb-true _ _ parts.0) (ltb-true _ _ parts.1)
    there false e = let h' = rw e at h in absurd (cc)
number_layer u _ s h depth deep at = absurd (cc)

-- Parts that are read at the types at their places.

each_read : (depth : ℕ) (ps : List Proved) (ks : List HlType) → IsTrue (list_all (λ part. part) (map is_sound ks)) → IsSome (at_each (map encoded (map first_of ps)) ks) → greatest (map nesting (map first_of ps)) ≤ depth → AllRead depth (map first_of ps) ks
each_read depth [] [] s h deep = tt
each_read depth [] (k ∷ ks) s h deep = absurd (cc)
each_read depth (p ∷ ps) [] s h deep = absurd (cc)
each_read depth (p ∷ ps) (k ∷ ks) s h deep =
    let both = both_true (is_sound k) (list_all (λ part. part) (map is_sound ks)) s in
    let there = beside_there (λ v vs. v ∷ vs) (encoded p.0 k) (at_each (map encoded (map first_of ps)) ks) h in
    (p.1 k both.0 there.0 depth (omega arith), each_read depth ps ks both.1 there.1 (omega arith))

all_read : (depth : ℕ) (ps : List Proved) (k : HlType) → IsTrue (is_sound k) → IsSome (at_all (map encoded (map first_of ps)) k) → greatest (map nesting (map first_of ps)) ≤ depth → AllRead depth (map first_of ps) (replicate (length ps) k)
all_read depth [] k s h deep = tt
all_read depth (p ∷ ps) k s h deep =
    let there = beside_there (λ v vs. v ∷ vs) (encoded p.0 k) (at_all (map encoded (map first_of ps)) k) h in
    (p.1 k s there.0 depth (omega arith), all_read depth ps k s there.1 (omega arith))

at_one_type : (es : List AtType) (k : HlType) → each_at es (replicate (length es) k) ≡ all_at es k
at_one_type [] k = refl
at_one_type (e ∷ es) k = ap (beside (λ v vs. v ∷ vs) (e k)) (at_one_type es k)

closes_parenthesis : Closes symbol.CloseParenthesis 41
closes_parenthesis = record { read = close_read; is = refl; apart = refl }

closes_bracket : Closes symbol.CloseBracket 93
closes_bracket = record { read = close_bracket_read; is = refl; apart = refl }

-- Tuples.

alone : (tuple : List Expr → Expr) (es : List Expr) (is_open : Bool) → (length es ≡ 1 → is_open ≡ true) → alone_or tuple es is_open ≡ tuple es
alone tuple [] is_open h = refl
alone tuple (e ∷ []) is_open h = rw (h refl) refl
alone tuple (e ∷ f ∷ es) is_open h = refl

in_parentheses : (text : List ℕ) (is_open : Bool) (ks : List HlType) (vs : List HlValue) (at depth : ℕ) → (length vs ≡ 1 → is_open ≡ true) → ItemsAt symbol.CloseParenthesis is_open (suc at) depth text ks vs →
    ReadAt at (suc depth) (40 ∷ text) (roll-HlType (HlType-F.Tuple ks)) (roll-HlValue (HlValue-F.Tuple vs))
in_parentheses text is_open ks vs at depth single items = record {
  end = items.end;
  reads = λ rest us apart lexed.
      let o : Token = placed (kind.Symbol symbol.OpenParenthesis) at (at + 1) in
      let r = items.reads rest us lexed in
      let span : Span = span_between (o ∷ r.found) us in
      record {
        found = o ∷ r.found;
        tree = expr_of (exprs.Tuple r.trees) span;
        lexed = open_read at (text ++ rest) ∙ ap (with_token o) r.lexed;
        stands = subst (λ e. (grammar.value (suc depth)).Whole (o ∷ r.found) e us) (alone (λ es. expr_of (exprs.Tuple es) span) r.trees is_open (λ one. single (sym r.count ∙ one)))
            (tuple_stands depth o r.found (record { items = r.trees; is_open = is_open }) us r.turns refl (r.stands []));
        walked = written_rolled (ExprForm-F.Tuple r.trees) (HlType-F.Tuple ks) (exprs.Tuple r.trees) span (roll-HlType (HlType-F.Tuple ks)) (exprs.rolls-Tuple r.trees) refl ∙ ap (option_map value.Tuple) r.walked ∙ ap Some (sym (value.rolls-Tuple vs));
      };
}

tuple_read : (vs : List HlValue) (ks : List HlType) (at depth : ℕ) → AllRead depth vs ks → ReadAt at (suc depth) (print_step (HlValue-F.Tuple (map printed vs))) (roll-HlType (HlType-F.Tuple ks)) (roll-HlValue (HlValue-F.Tuple vs))
tuple_read [] [] at depth all = in_parentheses (41 ∷ []) true [] [] at depth (λ one. refl) (no_items symbol.CloseParenthesis 41 closes_parenthesis depth (suc at))
tuple_read [] (k ∷ ks) at depth all = absurd all
tuple_read (v ∷ vs) [] at depth all = absurd all
tuple_read (v ∷ []) (k ∷ []) at depth all = in_parentheses (printed v ++ 44 ∷ 41 ∷ []) true (k ∷ []) (v ∷ []) at depth (λ one. refl) (one_and_comma symbol.CloseParenthesis 41 closes_parenthesis depth v k all.0 (suc at))
tuple_read (v ∷ []) (k ∷ l ∷ ks) at depth all = absurd all.1
tuple_read (v ∷ w ∷ vs) (k ∷ []) at depth all = absurd all.1
tuple_read (v ∷ w ∷ vs) (k ∷ l ∷ ks) at depth all =
    let many : nat_eq (suc (suc (length (map printed vs)))) 1 ≡ false = grind (arith, nat_tests) in
    rw many (in_parentheses (joined (map printed (v ∷ w ∷ vs)) ++ 41 ∷ []) false (k ∷ l ∷ ks) (v ∷ w ∷ vs) at depth (λ one. absurd (omega arith)) (all_items symbol.CloseParenthesis 41 closes_parenthesis depth v (w ∷ vs) k (l ∷ ks) all (suc at)))

tuple_layer : (ps : List Proved) (x : HlType-F HlType) → Layer (HlValue-F.Tuple ps) x
tuple_layer ps (HlType-F.Tuple ks) s h zero deep at = absurd (omega arith)
tuple_layer ps (HlType-F.Tuple ks) s h (suc depth) deep at = tuple_read (map first_of ps) ks at depth (each_read depth ps ks s (map_there _ (at_each (map encoded (map first_of ps)) ks) h) (omega arith))
tuple_layer ps _ s h depth deep at = absurd (cc)

-- Arrays and lists.

record Bracketed (at depth : ℕ) (ks : List HlType) (vs : List HlValue) : Type 0 where
  is_open : Bool
  items : ItemsAt symbol.CloseBracket is_open at depth (joined (map printed vs) ++ 93 ∷ []) ks vs

bracketed : (vs : List HlValue) (ks : List HlType) (at depth : ℕ) → AllRead depth vs ks → Bracketed at depth ks vs
bracketed [] [] at depth all = record { is_open = true; items = no_items symbol.CloseBracket 93 closes_bracket depth at }
bracketed [] (k ∷ ks) at depth all = absurd all
bracketed (v ∷ vs) [] at depth all = absurd all
bracketed (v ∷ vs) (k ∷ ks) at depth all = record { is_open = false; items = all_items symbol.CloseBracket 93 closes_bracket depth v vs k ks all at }

copies_length : (ps : List Proved) → length (map first_of ps) ≡ length ps
copies_length ps = length-map ps first_of

-- items that were read are all at their one type
all_walked : (trees : List Expr) (k : HlType) (n : ℕ) (vs : List HlValue) → length trees ≡ n → each_at (map written trees) (replicate n k) ≡ Some vs → all_at (map written trees) k ≡ Some vs
all_walked trees k n vs count h =
    let long : length (map written trees) ≡ n = length-map trees written ∙ count in
    sym (at_one_type (map written trees) k) ∙ ap (λ n. each_at (map written trees) (replicate n k)) long ∙ h

array_read : (vs : List HlValue) (item : HlType) (count at depth : ℕ) → AllRead depth vs (replicate count item) → length vs ≡ count → ReadAt at (suc depth) (91 ∷ (joined (map printed vs) ++ 93 ∷ [])) (roll-HlType (HlType-F.Array item count)) (roll-HlValue (HlValue-F.Array vs))
array_read vs item count at depth all long =
    let b = bracketed vs (replicate count item) (suc at) depth all in
    record {
      end = b.items.end;
      reads = λ rest us apart lexed.
          let o : Token = placed (kind.Symbol symbol.OpenBracket) at (at + 1) in
          let r = b.items.reads rest us lexed in
          let span : Span = span_between (o ∷ r.found) us in
          let same = eq-eqb (length (map written r.trees)) count (length-map r.trees written ∙ r.count ∙ long) in
          let walked = all_walked r.trees item count vs (r.count ∙ long) r.walked in
          record {
            found = o ∷ r.found;
            tree = expr_of (exprs.Array r.trees) span;
            lexed = open_bracket_read at ((joined (map printed vs) ++ 93 ∷ []) ++ rest) ∙ ap (with_token o) r.lexed;
            stands = array_stands depth o r.found (record { items = r.trees; is_open = b.is_open }) us r.turns refl (r.stands []);
            walked = written_rolled (ExprForm-F.Array r.trees) (HlType-F.Array item count) (exprs.Array r.trees) span (roll-HlType (HlType-F.Array item count)) (exprs.rolls-Array r.trees) refl
                ∙ rw same (ap (option_map value.Array) walked) ∙ ap Some (sym (value.rolls-Array vs));
          };
    }

array_layer : (ps : List Proved) (x : HlType-F HlType) → Layer (HlValue-F.Array ps) x
array_layer ps (HlType-F.Array item count) s h zero deep at = absurd (omega arith)
array_layer ps (HlType-F.Array item count) s h (suc depth) deep at = there (nat_eq (length (map encoded (map first_of ps))) count) refl
  where
    there : (t : Bool) → nat_eq (length (map encoded (map first_of ps))) count ≡ t → ReadAt at (suc depth) (91 ∷ (joined (map printed (map first_of ps)) ++ 93 ∷ [])) (roll-HlType (HlType-F.Array item count)) (roll-HlValue (HlValue-F.Array (map first_of ps)))
    there true e =
        let h' = map_there _ (at_all (map encoded (map first_of ps)) item) (rw e at h) in
        let long : length (map first_of ps) ≡ count = sym (length-map (map first_of ps) encoded) ∙ eqb-true _ _ e in
        let all = all_read depth ps item (both_true (is_sound item) _ s).0 h' (omega arith) in
        array_read (map first_of ps) item count at depth (subst (λ n. AllRead depth (map first_of ps) (replicate n item)) (sym (copies_length ps) ∙ long) all) long
    there false e = let h' = rw e at h in absurd (cc)
array_layer ps _ s h depth deep at = absurd (cc)

beside_long : (vs : List HlValue) (a : Option Value) (b : Option (List Value)) (cs : List Value) → ((ds : List Value) → b ≡ Some ds → length ds ≡ length vs) → beside (λ c cs. c ∷ cs) a b ≡ Some cs → length cs ≡ suc (length vs)
beside_long vs (Some c) (Some ds) cs rest h = let e : cs ≡ c ∷ ds = cc in rw e (ap suc (rest ds refl))
beside_long vs (Some c) None cs rest h = absurd (cc)
beside_long vs None b cs rest h = absurd (cc)

all_long : (vs : List HlValue) (k : HlType) (cs : List Value) → at_all (map encoded vs) k ≡ Some cs → length cs ≡ length vs
all_long [] k cs h = let e : cs ≡ [] = cc in rw e refl
all_long (v ∷ vs) k cs h = beside_long vs (encoded v k) (at_all (map encoded vs) k) cs (λ ds is. all_long vs k ds is) h

list_few : (level : ℕ) (cs : List Value) → IsSome (list_value level cs) → length cs < 2 ^ suc level
list_few zero [] h = omega arith
list_few zero (c ∷ []) h = omega arith
list_few zero (c ∷ d ∷ cs) h = absurd (cc)
list_few (suc level) cs h =
    let twice : 2 ^ suc (suc level) ≡ 2 * 2 ^ suc level = pow-succ' 2 (suc level) in
    elim (nat_lt (length cs) (2 ^ suc level)) as (λ b. nat_lt (length cs) (2 ^ suc level) ≡ b → length cs < 2 ^ suc (suc level)) [
      | true ↦ λ e. omega (arith, ltb-true _ _ e)
      | false ↦ λ e.
          let h' = rw e at h in
          let rest = list_few level (drop (2 ^ suc level) cs) (map_there _ (list_value level (drop (2 ^ suc level) cs)) h') in
          omega (arith, rest, length-drop (2 ^ suc level) cs)
    ] refl

list_read : (vs : List HlValue) (item : HlType) (bound at depth : ℕ) → AllRead depth vs (replicate (length vs) item) → length vs < bound →
    ReadAt at (suc depth) (codes "list!" ++ 91 ∷ (joined (map printed vs) ++ 93 ∷ [])) (roll-HlType (HlType-F.List item bound)) (roll-HlValue (HlValue-F.List vs))
list_read vs item bound at depth all few =
    let before : ℕ = suc at + length (codes "ist") in
    let b = bracketed vs (replicate (length vs) item) (suc (suc before)) depth all in
    record {
      end = b.items.end;
      reads = λ rest us apart lexed.
          let t : Token = placed (kind.Name (codes "list")) at (at + length (codes "list")) in
          let e : Token = placed (kind.Symbol symbol.Exclamation) before (before + 1) in
          let o : Token = placed (kind.Symbol symbol.OpenBracket) (suc before) (suc before + 1) in
          let r = b.items.reads rest us lexed in
          let text : List ℕ = (joined (map printed vs) ++ 93 ∷ []) ++ rest in
          let span : Span = span_between (t ∷ e ∷ o ∷ r.found) us in
          let less = lt-ltb (length (map written r.trees)) bound (omega (arith, length-map r.trees written, r.count, few)) in
          let walked = all_walked r.trees item (length vs) vs r.count r.walked in
          record {
            found = t ∷ e ∷ o ∷ r.found;
            tree = expr_of (exprs.List r.trees) span;
            lexed = word_read 108 (codes "ist") (33 ∷ 91 ∷ text) (kind.Name (codes "list")) at (record { solid = refl; no_comment = refl; in_word = refl }) refl refl refl
                ∙ ap (with_token t) (exclamation_read before (91 ∷ text) ∙ ap (with_token e) (open_bracket_read (suc before) text ∙ ap (with_token o) r.lexed));
            stands = list_stands depth o r.found (record { items = r.trees; is_open = b.is_open }) us r.turns t e refl refl refl (r.stands []);
            walked = written_rolled (ExprForm-F.List r.trees) (HlType-F.List item bound) (exprs.List r.trees) span (roll-HlType (HlType-F.List item bound)) (exprs.rolls-List r.trees) refl
                ∙ rw less (ap (option_map value.List) walked) ∙ ap Some (sym (value.rolls-List vs));
          };
    }

list_layer : (ps : List Proved) (x : HlType-F HlType) → Layer (HlValue-F.List ps) x
list_layer ps (HlType-F.List item bound) s h zero deep at = absurd (omega arith)
list_layer ps (HlType-F.List item bound) s h (suc depth) deep at = there (at_all (map encoded (map first_of ps)) item) refl
  where
    there : (found : Option (List Value)) → at_all (map encoded (map first_of ps)) item ≡ found →
        ReadAt at (suc depth) (codes "list!" ++ 91 ∷ (joined (map printed (map first_of ps)) ++ 93 ∷ [])) (roll-HlType (HlType-F.List item bound)) (roll-HlValue (HlValue-F.List (map first_of ps)))
    there (Some cs) e =
        let h' = rw e at h in
        let parts = both_true (is_sound item) (is_bound bound) s in
        let few = list_few (bound_level bound) cs h' in
        let long = all_long (map first_of ps) item cs e in
        let all = all_read depth ps item parts.0 (rw e refl) (omega arith) in
        list_read (map first_of ps) item bound at depth (subst (λ n. AllRead depth (map first_of ps) (replicate n item)) (sym (copies_length ps)) all) (omega (arith, few, long, (bound_parts bound parts.1).1))
    there None e = let h' = rw e at h in absurd (cc)
list_layer ps _ s h depth deep at = absurd (cc)

-- All layers.

layer : (y : HlValue-F Proved) (x : HlType-F HlType) → Layer y x
layer (HlValue-F.Bool b) x = bool_layer b x
layer (HlValue-F.Number u) x = number_layer u x
layer (HlValue-F.Tuple ps) x = tuple_layer ps x
layer (HlValue-F.Array ps) x = array_layer ps x
layer (HlValue-F.List ps) x = list_layer ps x
layer HlValue-F.Nothing x = nothing_layer x
layer (HlValue-F.Some p) x = some_layer p x
layer (HlValue-F.Left p) x = left_layer p x
layer (HlValue-F.Right p) x = right_layer p x

rolled : (y : HlValue-F Proved) (x : HlType-F HlType) → IsTrue (is_sound (roll-HlType x)) → IsValueOf (roll-HlValue (layer_of y)) (roll-HlType x) → (depth : ℕ) → nesting (roll-HlValue (layer_of y)) ≤ depth → (at : ℕ) →
    ReadAt at depth (printed (roll-HlValue (layer_of y))) (roll-HlType x) (roll-HlValue (layer_of y))
rolled y x s h depth deep at =
    let s' = rw (fold-roll-HlType Bool sound_step x) at s in
    let h' = rw (encode_rolled (layer_of y) x (roll-HlValue (layer_of y)) (roll-HlType x) refl refl) at h in
    let deep' = rw (fold-roll-HlValue ℕ nesting_step (layer_of y)) at deep in
    subst (λ text. ReadAt at depth text (roll-HlType x) (roll-HlValue (layer_of y))) (sym (fold-roll-HlValue (List ℕ) print_step (layer_of y))) (layer y x s' h' depth deep' at)

proved_layer : (y : HlValue-F Proved) → Claim (roll-HlValue (layer_of y))
proved_layer y k = subst (λ k. IsTrue (is_sound k) → IsValueOf (roll-HlValue (layer_of y)) k → (depth : ℕ) → nesting (roll-HlValue (layer_of y)) ≤ depth → (at : ℕ) → ReadAt at depth (printed (roll-HlValue (layer_of y))) k (roll-HlValue (layer_of y)))
    (roll-out-HlType k) (rolled y (out-HlType k))

value_read : (v : HlValue) → Claim v
value_read = ind-HlValue Claim (λ x y is. subst (λ z. Claim (roll-HlValue z)) is (proved_layer y))

-- the whole text of a value, nested at most so deep
record Whole (depth : ℕ) (k : HlType) (v : HlValue) : Type 0 where
  found : List Token
  tree : Expr
  lexed : tokens (printed v) ≡ Ok found
  stands : Stands grammar.value depth found tree
  walked : written tree k ≡ Some v

whole_read : (k : HlType) (v : HlValue) → IsSound k → IsValueOf v k → (depth : ℕ) → nesting v ≤ depth → Whole depth k v
whole_read k v sound is depth deep =
    let p = value_read v k sound is depth deep 0 in
    let r = p.reads [] [] refl refl in
    record { found = r.found; tree = r.tree; lexed = ap (tokens_after 0 0) (sym (append-nil (printed v))) ∙ r.lexed; stands = record { is = r.stands }; walked = r.walked }

pub printed_is_read : PrintedIsRead
printed_is_read k v sound is deep = let w = whole_read k v sound is most_depth deep in record { found = w.found; tree = w.tree; lexed = w.lexed; stands = w.stands; walked = w.walked }

pub deeper_is_no_text : DeeperIsNoText
deeper_is_no_text k v sound is deep = record {
  none = λ u text.
      let w = whole_read k v sound is (nesting v) (omega arith) in
      let same = same_tokens (printed v) w.found text.found w.lexed text.lexed in
      let stands : Stands grammar.value (nesting v) text.found w.tree = subst (λ ts. Stands grammar.value (nesting v) ts w.tree) same w.stands in
      let tree = one_value text.found w.tree text.tree (nesting v, stands) (most_depth, text.stands) in
      let walked : written text.tree k ≡ Some v = ap (λ e. written e k) (sym tree) ∙ w.walked in
      omega (arith, shallow most_depth text.found text.tree [] text.stands.is k v walked, deep);
}

pub reads_again : ReadsAgain
reads_again k v (Ok w) sound is deep h = inl (ap Ok (text_is_one (printed v) k w v h (printed_is_read k v sound is deep)))
reads_again k v (Err NotValue) sound is deep h = absurd (h.none v (printed_is_read k v sound is deep))
reads_again k v (Err OutOfMemory) sound is deep h = inr refl
