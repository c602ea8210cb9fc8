-- What reading a file answers.
use Rattle.std.proofs.Common.{◌≡◌, ℕ, zero, suc, ◌<◌, ◌≤◌, List, [], ◌∷◌, length, Option, Some, None, IfSome, IsSomeAnd, refl, subst, arith}
use Rattle.std.specs.Vec.{vec_len}
use Rattle.std.specs.declared.vec.Vec.{Vec}
use Rattle.outside.specs.Counts.{HasRisen}
use Rattle.outside.specs.Files.{Held, IsAbsent, HasBytes}
use Rattle.command_outcome.specs.declared.stop.Stop.{Stop}
use Rattle.command_outcome.specs.Refusals.{IsPassed, IsUnreadable}
use Rattle.command_outcome.specs.Stops.{Stops}
use Rattle.command_outcome.proofs.Stopping.{stops_in}
use Rattle.command_files.specs.Files.{File, Holds, not_held, too_long}
use Rattle.command_files.specs.Reads.{IsUnread, fault, refused}

held_bytes : (held : Held) (name text : List ℕ) → HasBytes held name text → Holds held name (Some text)
held_bytes (Some contents_of) name text has = has
held_bytes None name text has = refl

pub file_read : {G : Type 0} (held : Held) (name : List ℕ) (most : ℕ) (bytes : Vec ℕ G) → HasBytes held name bytes.items → vec_len bytes ≤ most → Holds held name (Some bytes.items) × (length bytes.items ≤ most)
file_read held name most bytes has few = (held_bytes held name bytes.items has, subst (λ n. n ≤ most) bytes.ok.0 few)

pub absent_stops : (held : Held) (file : File) (before after : ℕ) (stop : Stop) → IsAbsent held file.name → Stops (IsUnreadable file.name) stop → Stops (IsUnread held file before after) stop
absent_stops (Some contents_of) file before after stop absent is = stops_in (IsUnreadable file.name) (IsUnread (Some contents_of) file before after) stop (λ s o e a. refused None absent (not_held refl a)) is
absent_stops None file before after stop absent is = absurd absent

pub risen_stops : (held : Held) (file : File) (before after : ℕ) (stop : Stop) → HasRisen before after → Stops (IsUnreadable file.name) stop → Stops (IsUnread held file before after) stop
risen_stops held file before after stop risen is = stops_in (IsUnreadable file.name) (IsUnread held file before after) stop (λ s o e a. fault risen a) is

-- there are longer texts than any number
longer_text : (n : ℕ) → (text : List ℕ) × (n < length text)
longer_text zero = (0 ∷ [], omega arith)
longer_text (suc n) = let t : (text : List ℕ) × (n < length text) = longer_text n in (0 ∷ t.0, omega (arith, t.1))

long_file : (contents_of : List ℕ → Option (List ℕ)) (file : File) (before after : ℕ) (stop : Stop) (content : Option (List ℕ)) → contents_of file.name ≡ content → IsSomeAnd content (λ bytes. file.most < length bytes) → Stops (IsPassed file.limit) stop → Stops (IsUnread (Some contents_of) file before after) stop
long_file contents_of file before after stop (Some text) here long is = stops_in (IsPassed file.limit) (IsUnread (Some contents_of) file before after) stop (λ s o e a. refused (Some text) here (too_long text refl long a)) is
long_file contents_of file before after stop None here long is = absurd long

pub long_stops : (held : Held) (file : File) (before after : ℕ) (stop : Stop) → IfSome held (λ contents_of. IsSomeAnd (contents_of file.name) (λ bytes. file.most < length bytes)) → Stops (IsPassed file.limit) stop → Stops (IsUnread held file before after) stop
long_stops (Some contents_of) file before after stop long is = long_file contents_of file before after stop (contents_of file.name) refl long is
long_stops None file before after stop long is =
    let t : (text : List ℕ) × (file.most < length text) = longer_text file.most in
    stops_in (IsPassed file.limit) (IsUnread None file before after) stop (λ s o e a. refused (Some t.0) refl (too_long t.0 refl t.1 a)) is
