-- Values by their codes: what was read, and that it is read back.
use Rattle.std.proofs.Common.{◌≡◌, ap, sym, ◌∙◌, ℕ, ◌+◌, ◌-◌, ◌<◌, ◌≤◌, List, [], ◌++◌, Bool, length, subst, Result, Ok, Err, arith, append_assoc, append-nil, length-append}
use Rattle.std.specs.Prelude.{IfOk, IfErr}
use Rattle.std.specs.Result.{IsErr, IsErrAnd}
use Rattle.std.proofs.lemmas.List.{length-drop}
use Rattle.simplicity.specs.Types.{Kind, Value, code}
use Rattle.simplicity.proofs.Values.{code_apart}
use Rattle.spelling.specs.Reading.{Read, Got, EndOfBits}
use Rattle.spelling.specs.Values.{read_value}
use Rattle.spelling.proofs.Values.{values_are_read, values_are_refused}
use Rattle.cell_bits.specs.Places.{Place, rest}
use Rattle.compact_codes.specs.Codes.{IsReadAt, Ends, CodesAreInverse}
use Rattle.compact_codes.specs.Frames.{Stops, GoesOn}
use Rattle.core_data.specs.Data.{value_of}
use Rattle.core_data.specs.declared.data.CoreValue.{CoreValue}
use Rattle.compact_codes.specs.declared.refusal.CompactRefusal.{CompactRefusal}
use Rattle.compact_codes.specs.declared.refusal.CompactRefusal.TheVariants as refusal

same_place : (place : Place) (bits : List Bool) (at : ℕ) → place.bits ≡ bits → place.at ≡ at → place ≡ record { bits = bits; at = at }
same_place place bits at e f = ap (λ b. record { bits = b; at = place.at }) e ∙ ap (λ a. record { bits = bits; at = a }) f

pub is_read : (k : Kind) (v : Value) (old new : Place) → read_value k old.at (rest old) ≡ Got v new.at (rest new) → new.bits ≡ old.bits → IsReadAt k v old new
is_read k v old new e stays =
    let there = values_are_read.only k v old.at new.at (rest old) (rest new) e in
    record { is_of = there.0; stands = there.1; place = same_place new old.bits (old.at + length (code v)) stays there.2 }

pub is_ended : (refused : CompactRefusal) (k : Kind) (place : Place) → place.at ≤ length place.bits → Stops refused (read_value k place.at (rest place)) → Ends refused k place
is_ended (refusal.EndOfBits at) k place within e =
    let there = values_are_refused.only k place.at (rest place) (EndOfBits at) e in
    let same : at ≡ place.at + length (rest place) = cc in
    let long : length (rest place) ≡ length place.bits - place.at = length-drop place.at place.bits in
    (omega (arith, same, long, within), there.1)
is_ended refusal.OutOfMemory k place within e = tt

-- the same of whatever was answered
pub read_if : (result : Result CoreValue CompactRefusal) (k : Kind) (old new : Place) → IfOk result (λ v. read_value k old.at (rest old) ≡ Got (value_of v) new.at (rest new)) → GoesOn old new →
    IfOk result (λ v. IsReadAt k (value_of v) old new)
read_if (Ok v) k old new h on = is_read k (value_of v) old new h on.0
read_if (Err r) k old new h on = tt

pub ended_if : (result : Result CoreValue CompactRefusal) (k : Kind) (place : Place) → place.at ≤ length place.bits → IfErr result (λ r. Stops r (read_value k place.at (rest place))) →
    IfErr result (λ r. Ends r k place)
ended_if (Ok v) k place within h = tt
ended_if (Err r) k place within h = is_ended r k place within h

pub err_stops : (result : Result CoreValue CompactRefusal) (e : CompactRefusal) (read : Read Value) → IsErr result × IsErrAnd result (λ d. d ≡ e) → Stops e read → IfErr result (λ d. Stops d read)
err_stops (Ok v) e read h stops = tt
err_stops (Err d) e read h stops = subst (λ r. Stops r read) (sym h.1) stops

pub stops_same : (e : CompactRefusal) (r s : Read Value) → r ≡ s → Stops e r → Stops e s
stops_same e r s is h = subst (λ x. Stops e x) is h

-- back where reading began
pub is_back : (old mid new : Place) (start : ℕ) → start ≡ old.at → mid.bits ≡ old.bits → new ≡ record { bits = mid.bits; at = start } → new ≡ old
is_back old mid new start is stays e = e ∙ ap (λ b. record { bits = b; at = start }) stays ∙ ap (λ a. record { bits = old.bits; at = a }) is

pub codes_are_inverse : CodesAreInverse
codes_are_inverse = record {
  same = λ k v w more old new is_of stands h. code_apart k w v (rest new) more h.is_of is_of (sym h.stands ∙ stands);
  whole = λ k v more place is_of stands cut. (
      let whole : code cut.value ++ [] ≡ code v ++ (more ++ cut.more) =
      append-nil (code cut.value) ∙ cut.stands ∙ ap (λ l. l ++ cut.more) stands ∙ append_assoc (code v) more cut.more in
      let apart = code_apart k cut.value v [] (more ++ cut.more) cut.is_of is_of whole in
      let none : 0 ≡ length (more ++ cut.more) = ap length apart.1 in
      let some : 0 < length cut.more = cut.some in
      absurd (omega (arith, none, some, length-append more cut.more)));
}
