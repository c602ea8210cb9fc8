-- Each refusal on a program, with its place.
use Rattle.std.proofs.Common.{◌≡◌, refl, [], ◌∷◌, ◌++◌, replicate}
use Rattle.simplicity.specs.Nodes as node
use Rattle.spelling.specs.Reading.{Got, Refused, EndOfBits, NaturalTooLarge, TooManyNodes, JetCode, Disconnect, Reserved, BadDistance, WordTooWide, HiddenPlace, BothHidden, HiddenRoot, BadPadding, read_program}

unit_alone : read_program (36 ∷ []) ≡ Got (node.UnitNode ∷ []) 8 []
unit_alone = refl

no_bits : read_program ([]) ≡ Refused (EndOfBits 0)
no_bits = refl

half_a_list : read_program (140 ∷ []) ≡ Refused (EndOfBits 8)
half_a_list = refl

large_count : read_program (241 ∷ 0 ∷ []) ≡ Refused (NaturalTooLarge 0)
large_count = refl

many_nodes : read_program (240 ∷ 64 ∷ 0 ∷ 1 ∷ []) ≡ Refused TooManyNodes
many_nodes = refl

jet : read_program (96 ∷ []) ≡ Refused (JetCode 1)
jet = refl

disconnect : read_program (12 ∷ []) ≡ Refused (Disconnect 1)
disconnect = refl

reserved : read_program (44 ∷ []) ≡ Refused (Reserved 1)
reserved = refl

bad_distance : read_program (16 ∷ []) ≡ Refused (BadDistance 0)
bad_distance = refl

wide_word : read_program (90 ∷ 128 ∷ []) ≡ Refused (WordTooWide 0)
wide_word = refl

hidden_child : read_program (140 ∷ (replicate 32 0 ++ 64 ∷ [])) ≡ Refused (HiddenPlace 1)
hidden_child = refl

both_hidden : read_program (140 ∷ (replicate 32 0 ++ 16 ∷ [])) ≡ Refused (BothHidden 1)
both_hidden = refl

hidden_root : read_program (48 ∷ replicate 32 0) ≡ Refused HiddenRoot
hidden_root = refl

one_in_padding : read_program (38 ∷ []) ≡ Refused (BadPadding 6)
one_in_padding = refl

whole_byte : read_program (36 ∷ 0 ∷ []) ≡ Refused (BadPadding 8)
whole_byte = refl
