-- Commitment roots (after the Simplicity Technical Report, "Commitment Merkle Root", with SHA-256 of FIPS 180-4; the tags and the layout of the hashed bytes are this project's own).
use Rattle.std.specs.Prelude.{ℕ, zero, suc, ◌/◌, ◌%◌, List, ◌++◌, take, drop, replicate, map, codes, Bool, true, false}
use Rattle.sha2.specs.Sha256.{sha256}
use Rattle.simplicity.specs.Types.{is_odd, word_count}
use Rattle.simplicity.specs.Terms.{Term}
use Rattle.simplicity.specs.Terms as term
use Rattle.simplicity.specs.Nodes.{Node, Part, Tree, HiddenSide, parts}

-- 32 zero bytes, in place of a part that a root doesn't have
abbrev pub absent : List ℕ
absent = replicate 32 0

-- the digest of the tag's digest twice and then two parts
abbrev pub under : List ℕ → List ℕ → List ℕ → List ℕ
under tag_digest a b = sha256 (tag_digest ++ (tag_digest ++ (a ++ b)))

abbrev pub tagged : List ℕ → List ℕ → List ℕ → List ℕ
tagged tag a b = under (sha256 tag) a b

-- the roots of the terms, from those of their parts
abbrev pub unit_root : List ℕ
unit_root = tagged (codes "simphl/unit") absent absent

abbrev pub injl_root : List ℕ → List ℕ
injl_root r = tagged (codes "simphl/injl") r absent

abbrev pub injr_root : List ℕ → List ℕ
injr_root r = tagged (codes "simphl/injr") r absent

abbrev pub pair_root : List ℕ → List ℕ → List ℕ
pair_root r s = tagged (codes "simphl/pair") r s

abbrev pub case_root : List ℕ → List ℕ → List ℕ
case_root r s = tagged (codes "simphl/case") r s

-- the root of a bit as a term, and of a word as the term that pairs its halves
abbrev pub bit_root : Bool → List ℕ
bit_root false = injl_root unit_root
bit_root true = injr_root unit_root

abbrev pub word_root : ℕ → ℕ → List ℕ
word_root zero n = bit_root (is_odd n)
word_root (suc k) n = pair_root (word_root k (n / word_count k)) (word_root k (n % word_count k))

-- the root of a term: no type and no witness value goes into it, and a hidden side's bytes stand for its root
abbrev pub root : Term → List ℕ
root term.Iden = tagged (codes "simphl/iden") absent absent
root (term.Comp s t) = tagged (codes "simphl/comp") (root s) (root t)
root term.UnitTerm = unit_root
root (term.Injl t) = injl_root (root t)
root (term.Injr t) = injr_root (root t)
root (term.Case s t) = case_root (root s) (root t)
root (term.PairTerm s t) = pair_root (root s) (root t)
root (term.Take t) = tagged (codes "simphl/take") (root t) absent
root (term.Drop t) = tagged (codes "simphl/drop") (root t) absent
root (term.Witness number) = tagged (codes "simphl/witness") absent absent
root (term.Word k n) = word_root k n
root (term.AssertL s h) = case_root (root s) h
root (term.AssertR h t) = case_root h (root t)
root (term.Fail e) = tagged (codes "simphl/fail") (take 32 e) (drop 32 e)

-- the term of a word: a bit is a tagged unit, a wider word the pair of its halves
abbrev pub bit_term : Bool → Term
bit_term false = term.Injl term.UnitTerm
bit_term true = term.Injr term.UnitTerm

abbrev pub word_term : ℕ → ℕ → Term
word_term zero n = bit_term (is_odd n)
word_term (suc k) n = term.PairTerm (word_term k (n / word_count k)) (word_term k (n % word_count k))

-- the root of what a node stands for
abbrev pub part_root : Part → List ℕ
part_root (Tree t) = root t
part_root (HiddenSide h) = h

-- the root of each node of a list
abbrev pub roots : List Node → List (List ℕ)
roots ns = map part_root (parts ns)
