-- What writing a text answers.
use Rattle.std.specs.Prelude.{◌≡◌, ◌⊎◌, List, ℕ}
use Rattle.outside.specs.Sink.{SinkState}
use Rattle.command_outcome.specs.declared.status.Status.{Status}
use Rattle.command_outcome.specs.declared.status.Status.TheVariants.{Done, WriteFault}
use Rattle.command_outcome.specs.Texts.{write_line}
use Rattle.top_call.specs.Answer.{Took, Failed, TookOrFailed}

-- a text was put: the status stands where the sink took it, and is WriteFault where it failed
abbrev pub IsPut : Status → SinkState → SinkState → List ℕ → Status → Type 0
IsPut answer before after text result = ((result ≡ answer) × Took before after text) ⊎ ((result ≡ WriteFault) × Failed before after text)

-- a text was put on `out`, where it failed `write` on `err`
abbrev pub IsDelivered : SinkState → SinkState → SinkState → SinkState → List ℕ → Status → Type 0
IsDelivered out out' err err' text result =
    ((result ≡ Done) × Took out out' text × (err' ≡ err)) ⊎ ((result ≡ WriteFault) × Failed out out' text × TookOrFailed err err' write_line)
