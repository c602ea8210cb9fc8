-- The stream and the count of a sink over a stream.
use Rattle.std.specs.Prelude.{ℕ, None}
use Rattle.outside.specs.Sink.{SinkState}
use Rattle.outside.specs.declared.std_sink.StdSink.{StdSink}

-- the stream that the sink writes to
abbrev pub stream_of : {W : Type 0} → StdSink W → W
stream_of sink = sink.stream

-- how many calls of `put` failed
abbrev pub fault_count : {W : Type 0} → StdSink W → ℕ
fault_count sink = sink.faults

-- it tells nothing that it took
abbrev pub state_of : {W : Type 0} → StdSink W → SinkState
state_of sink = record { contents = None; faults = sink.faults }
