-- A list of types written as a list of numbers and read back, by which two lists are told apart.
use Rattle.std.specs.Prelude.{◌≡◌, ℕ, zero, suc, List, [], ◌∷◌, ◌++◌, refl}
use Rattle.std.specs.Coded.{Coded, code_by, coded_list, coded_ℕ}
use Rattle.std.proofs.Common.{ap, ◌∙◌, append_assoc}
use Rattle.simplicity.specs.Types.{Kind, One, Sum, Product}

-- a type as a list of numbers: what it is, and then its parts
abbrev written : Kind → List ℕ
written One = 0 ∷ []
written (Sum a b) = 1 ∷ (written a ++ written b)
written (Product a b) = 2 ∷ (written a ++ written b)

abbrev all_written : List Kind → List ℕ
all_written [] = []
all_written (k ∷ ks) = written k ++ all_written ks

-- a number before the types that were read after it
abbrev read_on : ℕ → List Kind → List Kind
read_on (suc zero) (a ∷ b ∷ ks) = Sum a b ∷ ks
read_on (suc (suc more)) (a ∷ b ∷ ks) = Product a b ∷ ks
read_on _ ks = One ∷ ks

abbrev read : List ℕ → List Kind
read [] = []
read (n ∷ ns) = read_on n (read ns)

pub read-written : (k : Kind) (rest : List ℕ) → read (written k ++ rest) ≡ k ∷ read rest
read-written One rest = refl
read-written (Sum a b) rest =
    ap (λ ns. read_on 1 (read ns)) (append_assoc (written a) (written b) rest) ∙ ap (read_on 1) (read-written a (written b ++ rest) ∙ ap (λ ks. a ∷ ks) (read-written b rest))
read-written (Product a b) rest =
    ap (λ ns. read_on 2 (read ns)) (append_assoc (written a) (written b) rest) ∙ ap (read_on 2) (read-written a (written b ++ rest) ∙ ap (λ ks. a ∷ ks) (read-written b rest))

pub read-all_written : (ks : List Kind) → read (all_written ks) ≡ ks
read-all_written [] = refl
read-all_written (k ∷ ks) = read-written k (all_written ks) ∙ ap (λ rest. k ∷ rest) (read-all_written ks)

abbrev pub coded_kinds : Coded (List Kind)
coded_kinds = code_by (List ℕ) (coded_list coded_ℕ) all_written read read-all_written
