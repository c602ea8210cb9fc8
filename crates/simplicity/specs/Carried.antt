-- The bits that nodes carry fit their fields (Simplicity Technical Report, "Serialization"; that a word has at most 2 ^ 8 bits is this project's own).
use Rattle.std.specs.Prelude.{◌≡◌, ℕ, ◌<◌, ◌≤◌, List, [], ◌∷◌, length}
use Rattle.simplicity.specs.Types.{word_count}
use Rattle.simplicity.specs.Nodes.{Node, Hidden, Fail, Word}

-- so many bytes
abbrev pub AreBelow256 : List ℕ → Type 0
AreBelow256 [] = Unit {0}
AreBelow256 (b ∷ bs) = (b < 256) × AreBelow256 bs

abbrev pub AreBytes : ℕ → List ℕ → Type 0
AreBytes n bs = (length bs ≡ n) × AreBelow256 bs

-- a hidden node has 32 bytes, a failure 64, a word a number of its at most 2 ^ 8 bits
abbrev pub IsCarried : Node → Type 0
IsCarried (Hidden h) = AreBytes 32 h
IsCarried (Fail e) = AreBytes 64 e
IsCarried (Word k n) = (k ≤ 8) × (n < word_count k)
IsCarried _ = Unit {0}

-- of each node of a list
abbrev pub AreCarried : List Node → Type 0
AreCarried [] = Unit {0}
AreCarried (n ∷ ns) = IsCarried n × AreCarried ns
