-- Roots checked by computing SHA-256 itself; the digests were found with Python's hashlib.
use Rattle.std.proofs.Common.{◌≡◌, refl, [], ◌∷◌, replicate}
use Rattle.sha2.specs.Sha256.{sha256, digest_bytes, hash_after, compress, rounds, schedule, first_words}
use Rattle.simplicity.specs.Terms as term
use Rattle.simplicity.specs.Nodes.{tree_of, tree_of_node}
use Rattle.simplicity.specs.Roots.{root}
use Rattle.simplicity.proofs.Rows.{fail_root, assert_nodes}
use Rattle.simplicity.proofs.RowWitness.{drop_true_root, false_root, left_root, either_witness_nodes}

unit_digest : root term.UnitTerm ≡
    13 ∷ 41 ∷ 193 ∷ 248 ∷ 165 ∷ 211 ∷ 222 ∷ 227 ∷ 179 ∷ 244 ∷ 27 ∷ 155 ∷ 101 ∷ 67 ∷ 251 ∷ 167 ∷ 137 ∷ 219 ∷ 159 ∷ 22 ∷ 62 ∷ 11 ∷ 55 ∷ 186 ∷
    18 ∷ 181 ∷ 196 ∷ 241 ∷ 62 ∷ 81 ∷ 210 ∷ 104 ∷ []
unfolding sha256 digest_bytes hash_after compress rounds schedule first_words
unit_digest = refl

fail_digest : root (term.Fail (replicate 64 0)) ≡ fail_root
unfolding sha256 digest_bytes hash_after compress rounds schedule first_words
fail_digest = refl

-- the root of the list that asserts the truth
assert_digest : root (tree_of assert_nodes) ≡
    92 ∷ 247 ∷ 60 ∷ 242 ∷ 21 ∷ 145 ∷ 193 ∷ 27 ∷ 171 ∷ 197 ∷ 254 ∷ 24 ∷ 63 ∷ 60 ∷ 156 ∷ 78 ∷ 209 ∷ 147 ∷ 249 ∷ 213 ∷ 40 ∷ 22 ∷ 205 ∷ 55 ∷
    91 ∷ 4 ∷ 62 ∷ 81 ∷ 186 ∷ 227 ∷ 90 ∷ 188 ∷ []
unfolding sha256 digest_bytes hash_after compress rounds schedule first_words
assert_digest = refl

-- the hidden sides of the pruned programs
drop_true_digest : root (term.Drop (term.Injr term.UnitTerm)) ≡ drop_true_root
unfolding sha256 digest_bytes hash_after compress rounds schedule first_words
drop_true_digest = refl

false_digest : root (term.Injl term.UnitTerm) ≡ false_root
unfolding sha256 digest_bytes hash_after compress rounds schedule first_words
false_digest = refl

left_digest : root (tree_of_node either_witness_nodes 48) ≡ left_root
unfolding sha256 digest_bytes hash_after compress rounds schedule first_words
left_digest = refl
