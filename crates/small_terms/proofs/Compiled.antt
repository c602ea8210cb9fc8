-- What the entries of a body are once all are emitted.
use Rattle.std.proofs.Common.{◌≡◌, ℕ, zero, suc, ◌+◌, ◌-◌, ◌*◌, ◌^◌, ◌<◌, ◌≤◌, List, [], ◌∷◌, length, slice_get, None, sym, ap, ◌∙◌, arith, length-append, append-nil, inl, inr}
use Rattle.std.proofs.Math.Nat.{pow-le-pow_right}
use Rattle.simplicity.specs.Nodes.{Node, IsShown, tree_of_node}
use Rattle.simplicity.specs.Shared.{IsCanonical}
use Rattle.simplicity.specs.Typing.{IsTypingAt}
use Rattle.simplicity.proofs.Below.{typing_below_self}
use Rattle.simplicity.proofs.Typings.{typing_length}
use Rattle.small_source.specs.Small.{Small, nesting}
use Rattle.small_terms.specs.declared.entries.Entry.{Entry}
use Rattle.small_terms.specs.Compiled.{IsCompiled, IsModest, HasOneTyping, arrow_of}
use Rattle.small_terms.specs.Emitting.{Adds, found, added, Emits, whole, first, rest, both}
use Rattle.small_terms.specs.Entries.{AreBelow, entry_nodes}
use Rattle.small_terms.specs.Plan.{Plan, Makes, term_of}
use Rattle.small_terms.specs.Result.{first_unknown}
use Rattle.small_terms.specs.Tuples.{bytes_kind, result_kind}
use Rattle.small_terms.proofs.Alone.{Agree, emits_agree, same_entries, emits_distinct, none_distinct, shared}
use Rattle.small_terms.proofs.Sized.{makes_count, makes_fits, makes_target}
use Rattle.small_terms.proofs.Typed.{IsTypedOn, none_typed, emits_typed}
use Rattle.small_terms.proofs.Grown.{emits_within, emits_below}
use Rattle.small_terms.proofs.Lists.{upto}
use Rattle.small_terms.proofs.Listed.{shown_node, placed}
use Rattle.small_terms.proofs.Ordered.{IsLast, emits_last, emits_order}
use Rattle.small_terms.proofs.Planned.{planned, made_value, made_few, node_count}
use Rattle.small_terms.proofs.Trees.{emits_tree, length-entry_nodes}

pub none_below : AreBelow []
none_below = record { below = λ at e there. cc }

adds_few : {old new : List Entry} {entry : Entry} {at : ℕ} → Adds old entry new at → length new ≤ length old + 1
adds_few (found there is) = omega (arith, ap length is)
adds_few (added {old = old} {entry = entry} none here is) = omega (arith, ap length is, length-append old (entry ∷ []))

-- no more nodes are added than the plan has
emits_few : {old new : List Entry} {plan : Plan} {at : ℕ} → Emits old plan new at → length new ≤ length old + node_count plan
emits_few (whole a) = adds_few a
emits_few (first p a) = omega (arith, emits_few p, adds_few a)
emits_few (rest p a) = omega (arith, emits_few p, adds_few a)
emits_few (both p q a) = omega (arith, emits_few p, emits_few q, adds_few a)

last_of : (new : List Entry) (at : ℕ) → at < length new → IsLast [] new at → length new - 1 ≡ at
last_of new at within (inl none) = absurd (omega (arith, ap length none))
last_of new at within (inr last) = omega (arith, last)

shown_at : (es : List Entry) (at : ℕ) → at < length es → IsShown (slice_get (entry_nodes es) at)
shown_at [] at within = absurd (omega arith)
shown_at (e ∷ es) zero within = shown_node e.node
shown_at (e ∷ es) (suc at) within = shown_at es at (omega arith)

-- a plan of the body, and where it was emitted
record Made (f : Small) (new : List Entry) (at : ℕ) : Type 0 where
  plan : Plan
  makes : Makes f.parameters f.body plan
  emits : Emits [] plan new at

made : (f : Small) (old new : List Entry) (at : ℕ) → old ≡ [] → first_unknown f.parameters f.body ≡ None → ((p : Plan) → Makes f.parameters f.body p → Emits old p new at) → Made f new at
made f old new at empty known emits =
    let p : (plan : Plan) × Makes f.parameters f.body plan = planned f.parameters f.body known in
    record { plan = p.0; makes = p.1; emits = rw empty at (emits p.0 p.1) }

pub made_below : (f : Small) (old new : List Entry) (at : ℕ) → old ≡ [] → first_unknown f.parameters f.body ≡ None → ((p : Plan) → Makes f.parameters f.body p → Emits old p new at) → AreBelow new
made_below f old new at empty known emits = emits_below none_below (made f old new at empty known emits).emits

made_typed : (f : Small) (new : List Entry) (at : ℕ) → Made f new at → IsTypedOn [] new at (bytes_kind (length f.parameters)) (result_kind f.body)
made_typed f new at m =
    rw (← makes_count m.makes, ← makes_target m.makes) (emits_typed m.emits (makes_fits m.makes) [] none_typed)

-- the root's place is the last
made_last : (f : Small) (new : List Entry) (at : ℕ) → Made f new at → length (entry_nodes new) - 1 ≡ at
made_last f new at m =
    ap (λ n. n - 1) (length-entry_nodes new) ∙ last_of new at (emits_within m.emits) (emits_last none_below m.emits)

made_alone : (f : Small) (new : List Entry) (at : ℕ) → Made f new at → HasOneTyping (entry_nodes new) (arrow_of f)
made_alone f new at m ts us t u =
    let last : length (entry_nodes new) - 1 ≡ at = made_last f new at m in
    let long : length ts ≡ length new = typing_length ts (entry_nodes new) ts t.typed ∙ length-entry_nodes new in
    let long' : length us ≡ length new = typing_length us (entry_nodes new) us u.typed ∙ length-entry_nodes new in
    let agree : Agree ts us 0 (length new) = emits_agree none_below m.emits ts us (entry_nodes new) [] t.typed u.typed (sym (append-nil (entry_nodes new))) (bytes_kind (length f.parameters)) (result_kind f.body) (rw last at t.rooted) (rw last at u.rooted) in
    same_entries ts us (long ∙ sym long') (rw long agree)

made_canonical : (f : Small) (new : List Entry) (at : ℕ) → Made f new at → IsCanonical (entry_nodes new) (arrow_of f)
made_canonical f new at m =
    let t : IsTypedOn [] new at (bytes_kind (length f.parameters)) (result_kind f.body) = made_typed f new at m in
    let long : length (entry_nodes new) ≡ length new = length-entry_nodes new in
    let last : length (entry_nodes new) - 1 ≡ at = made_last f new at m in
    let within : at < length new = emits_within m.emits in
    let typing : IsTypingAt (entry_nodes new) (arrow_of f) t.typing = record { typed = t.by.typed; rooted = rw last t.here } in (
      t.typing,
      record {
        placed = placed new (emits_below none_below m.emits);
        ordered = rw last (emits_order none_below m.emits (entry_nodes new) [] (sym (append-nil (entry_nodes new))) (length (entry_nodes new)) (omega arith) ∙ ap upto (sym long));
        least = record { typing = typing; least = λ us other. rw (made_alone f new at m us t.typing other typing) (typing_below_self t.typing) };
        shared = shared new t.typing (emits_distinct none_distinct m.emits) t.by;
      },
    )

compiled_at : (f : Small) (new : List Entry) (at : ℕ) (nodes : List Node) → Made f new at → nodes ≡ entry_nodes new → IsCompiled nodes f
compiled_at f new at nodes m is =
    let within : at < length new = emits_within m.emits in
    let long : length (entry_nodes new) ≡ length new = length-entry_nodes new in
    let last : length (entry_nodes new) - 1 ≡ at = made_last f new at m in
    let tree : tree_of_node (entry_nodes new) at ≡ term_of m.plan = emits_tree none_below m.emits in
    rw is (record {
      rooted = (rw last (shown_at new at within), omega arith);
      canonical = made_canonical f new at m;
      one_typing = made_alone f new at m;
      gives = λ bytes same. rw (last, tree) (made_value m.makes bytes same);
    })

pub compiled : (f : Small) (old new : List Entry) (at : ℕ) (nodes : List Node) → old ≡ [] → first_unknown f.parameters f.body ≡ None → ((p : Plan) → Makes f.parameters f.body p → Emits old p new at) → nodes ≡ entry_nodes new → IsCompiled nodes f
compiled f old new at nodes empty known emits is = compiled_at f new at nodes (made f old new at empty known emits) is

pub few_nodes : (f : Small) (old new : List Entry) (at : ℕ) (nodes : List Node) → old ≡ [] → IsModest f → first_unknown f.parameters f.body ≡ None → ((p : Plan) → Makes f.parameters f.body p → Emits old p new at) → nodes ≡ entry_nodes new → length nodes < 2 ^ 32
few_nodes f old new at nodes empty modest known emits is =
    let m : Made f new at = made f old new at empty known emits in
    let few : length new ≤ node_count m.plan = omega (arith, emits_few m.emits) in
    let count : node_count m.plan + 1 ≤ 9 * 2 ^ nesting f.body = made_few m.makes modest.parameters in
    let deep : 2 ^ nesting f.body ≤ 256 = pow-le-pow_right (omega arith) {i = nesting f.body} {j = 8} modest.nested in
    omega (arith, few, count, deep, length-entry_nodes new, ap length is)
