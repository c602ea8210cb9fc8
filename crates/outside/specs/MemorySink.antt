-- What a sink in memory has taken, and which of its calls fail.
use Rattle.std.specs.Prelude.{◌≡◌, ℕ, ◌-◌, List, length, Option, Some}
use Rattle.outside.specs.Counts.{raised}
use Rattle.outside.specs.Sink.{SinkState}
use Rattle.outside.specs.Plans.{kept_in}
use Rattle.outside.specs.declared.memory_sink.MemorySink.{MemorySink}

-- the bytes that the sink has taken
abbrev pub taken_bytes : MemorySink → List ℕ
taken_bytes sink = sink.taken.items

-- how many bytes it may take in all
abbrev pub room_of : MemorySink → ℕ
room_of sink = sink.room

-- how many bytes it may still take
abbrev pub room_left : MemorySink → ℕ
room_left sink = sink.room - length sink.taken.items

-- how many calls of `put` with a piece that isn't empty there were
abbrev pub call_count : MemorySink → ℕ
call_count sink = sink.calls

-- how many of them failed
abbrev pub fault_count : MemorySink → ℕ
fault_count sink = sink.faults

-- how many bytes the call of this number is to keep, where it is to fail
abbrev pub planned_fault : MemorySink → ℕ → Option ℕ
planned_fault sink = kept_in sink.planned.items

-- how many bytes the next call with a piece is to keep, where it is to fail
abbrev pub next_fault : MemorySink → Option ℕ
next_fault sink = planned_fault sink (raised (call_count sink))

-- it tells all that it took
abbrev pub state_of : MemorySink → SinkState
state_of sink = record { contents = Some (taken_bytes sink); faults = fault_count sink }

-- the same bytes were taken by the same calls
pub record SameCalls (old new : MemorySink) : Type 0 where
  pub taken : taken_bytes new ≡ taken_bytes old
  pub room : room_of new ≡ room_of old
  pub calls : call_count new ≡ call_count old
  pub faults : fault_count new ≡ fault_count old
