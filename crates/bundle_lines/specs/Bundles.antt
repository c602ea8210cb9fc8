-- What a bundle's lines say.
use Rattle.std.specs.Prelude.{◌≡◌, ℕ, List, [], ◌∷◌, ◌++◌, length, Option, Some, None, Ok, IsErr}
use Rattle.std.specs.List.{AllPass}
use Rattle.base64.specs.Engines.{standard}
use Rattle.base64.specs.GeneralPurpose.{encode_of, decode_of}
use Rattle.hex.specs.Hex.{encode_lower, decode_sized, is_hex_digit}
use Rattle.bundle_lines.specs.declared.refusal.LineRefusal.{LineRefusal}
use Rattle.bundle_lines.specs.declared.refusal.LineRefusal.TheVariants as refusal

-- a text as a line, with its end
abbrev pub line : List ℕ → List ℕ
line text = text ++ 10 ∷ []

-- the third line, where there is a stream
abbrev pub stream_line : Option (List ℕ) → List ℕ
stream_line None = []
stream_line (Some stream) = line (encode_of standard stream)

-- a program in base64, its root in hexadecimal digits and its witness stream in base64
abbrev pub bundle : List ℕ → List ℕ → Option (List ℕ) → List ℕ
bundle program root stream = line (encode_of standard program) ++ line (encode_lower root) ++ stream_line stream

-- a line that is base64 of these bytes
abbrev pub Decodes : List ℕ → List ℕ → Type 0
Decodes text bytes = decode_of standard text ≡ Ok bytes

-- 64 hexadecimal digits, in either case, and the bytes that they spell
abbrev pub IsRoot : List ℕ → List ℕ → Type 0
IsRoot text root = decode_sized text 32 ≡ Ok root

-- why a line isn't read as base64
abbrev pub RefusesBits : List ℕ → LineRefusal → Type 0
RefusesBits text refusal.NotBase64 = IsErr (decode_of standard text)
RefusesBits text refusal.NotHex = ⊥
RefusesBits text refusal.OutOfMemory = Unit {0}

-- why a line isn't read as a root; that takes no memory
abbrev pub RefusesRoot : List ℕ → LineRefusal → Type 0
RefusesRoot text refusal.NotBase64 = ⊥
RefusesRoot text refusal.NotHex = (length text ≡ 64) × AllPass is_hex_digit text → ⊥
RefusesRoot text refusal.OutOfMemory = ⊥
