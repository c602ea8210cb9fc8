-- Entries as bindings.
use Rattle.std.specs.Prelude.{List, map}
use Rattle.hl_data.specs.declared.value.Entry.{Entry}
use Rattle.hl_meaning.specs.Scopes.{Binding}

-- the values of the entries by their names
abbrev pub bindings_of : List Entry → List Binding
bindings_of = map (λ e. record { name = e.name; value = e.value })
