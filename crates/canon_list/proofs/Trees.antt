-- The tree of a canonical list, with its witnesses named.
use Rattle.std.proofs.Common.{◌≡◌, refl, ap, sym, subst, ◌∙◌, ℕ, ◌-◌, ◌<◌, List, length}
use Rattle.std.specs.Prelude.{slice_get}
use Rattle.std.proofs.lemmas.Option.{get_or_from_slice_get}
use Rattle.simplicity.specs.Terms as term
use Rattle.simplicity.specs.Terms.{Term}
use Rattle.simplicity.specs.Nodes as node
use Rattle.simplicity.specs.Nodes.{Node, IsShown, IsPlaced, HasRoot, witness_number, tree_of, tree_of_node, Unfolds}
use Rattle.simplicity.specs.Typing.{Typing}
use Rattle.simplicity.specs.Canon as declared
use Rattle.simplicity.specs.Canon.{Declared, Stands, erased}
use Rattle.simplicity.proofs.Trees.{nodes_unfold}
use Rattle.sharing.specs.Laws.{renumbered}
use Rattle.sharing.proofs.Unfolded.{unfolds_one}
use Rattle.canon_list.specs.Canons.{name_at}
use Rattle.canon_list.proofs.Counting.{number_below}

-- a node that stands for a term isn't hidden
pub stands_shown : (ns : List Node) (ds : Typing) (names : List ℕ) (i : ℕ) (t : Declared) → Stands ns ds names i t → IsShown (slice_get ns i)
stands_shown ns ds names _ _ (declared.StandsIden i a is d) = subst IsShown (sym is) tt
stands_shown ns ds names _ _ (declared.StandsUnit i a is d) = subst IsShown (sym is) tt
stands_shown ns ds names _ _ (declared.StandsInjl i j a t is d s) = subst IsShown (sym is) tt
stands_shown ns ds names _ _ (declared.StandsInjr i j a t is d s) = subst IsShown (sym is) tt
stands_shown ns ds names _ _ (declared.StandsTake i j a t is d s) = subst IsShown (sym is) tt
stands_shown ns ds names _ _ (declared.StandsDrop i j a t is d s) = subst IsShown (sym is) tt
stands_shown ns ds names _ _ (declared.StandsComp i j k a t u is d s r) = subst IsShown (sym is) tt
stands_shown ns ds names _ _ (declared.StandsCase i j k a t u is d s r) = subst IsShown (sym is) tt
stands_shown ns ds names _ _ (declared.StandsPair i j k a t u is d s r) = subst IsShown (sym is) tt
stands_shown ns ds names _ _ (declared.StandsAssertL i j k a t h is d s there none) = subst IsShown (sym is) tt
stands_shown ns ds names _ _ (declared.StandsAssertR i j k a h t is d there none s) = subst IsShown (sym is) tt
stands_shown ns ds names _ _ (declared.StandsFail i a e is d) = subst IsShown (sym is) tt
stands_shown ns ds names _ _ (declared.StandsWitness i number a is d name) = subst IsShown (sym is) tt
stands_shown ns ds names _ _ (declared.StandsWord i k n a is d) = subst IsShown (sym is) tt

-- what a node unfolds to is the term that it stands for, once its witnesses are named
record Named (ns : List Node) (names : List ℕ) (i : ℕ) (t : Declared) : Type 0 where
  tree : Term
  unfolds : Unfolds ns i tree
  is : erased t ≡ renumbered (name_at names) tree

named : (ns : List Node) (ds : Typing) (names : List ℕ) (i : ℕ) (t : Declared) → Stands ns ds names i t → Named ns names i t
named ns ds names _ _ (declared.StandsIden i a is d) = record { tree = term.Iden; unfolds = node.UnfoldIden i is; is = refl }
named ns ds names _ _ (declared.StandsUnit i a is d) = record { tree = term.UnitTerm; unfolds = node.UnfoldUnit i is; is = refl }
named ns ds names _ _ (declared.StandsInjl i j a t is d s) =
    let x = named ns ds names j t s in
    record { tree = term.Injl x.tree; unfolds = node.UnfoldInjl i j x.tree is x.unfolds; is = ap term.Injl x.is }
named ns ds names _ _ (declared.StandsInjr i j a t is d s) =
    let x = named ns ds names j t s in
    record { tree = term.Injr x.tree; unfolds = node.UnfoldInjr i j x.tree is x.unfolds; is = ap term.Injr x.is }
named ns ds names _ _ (declared.StandsTake i j a t is d s) =
    let x = named ns ds names j t s in
    record { tree = term.Take x.tree; unfolds = node.UnfoldTake i j x.tree is x.unfolds; is = ap term.Take x.is }
named ns ds names _ _ (declared.StandsDrop i j a t is d s) =
    let x = named ns ds names j t s in
    record { tree = term.Drop x.tree; unfolds = node.UnfoldDrop i j x.tree is x.unfolds; is = ap term.Drop x.is }
named ns ds names _ _ (declared.StandsComp i j k a t u is d s r) =
    let x = named ns ds names j t s in
    let y = named ns ds names k u r in
    record { tree = term.Comp x.tree y.tree; unfolds = node.UnfoldComp i j k x.tree y.tree is x.unfolds y.unfolds; is = ap (λ (z : Term). term.Comp z (erased u)) x.is ∙ ap (term.Comp (renumbered (name_at names) x.tree)) y.is }
named ns ds names _ _ (declared.StandsCase i j k a t u is d s r) =
    let x = named ns ds names j t s in
    let y = named ns ds names k u r in
    record { tree = term.Case x.tree y.tree; unfolds = node.UnfoldCase i j k x.tree y.tree is x.unfolds y.unfolds; is = ap (λ (z : Term). term.Case z (erased u)) x.is ∙ ap (term.Case (renumbered (name_at names) x.tree)) y.is }
named ns ds names _ _ (declared.StandsPair i j k a t u is d s r) =
    let x = named ns ds names j t s in
    let y = named ns ds names k u r in
    record { tree = term.PairTerm x.tree y.tree; unfolds = node.UnfoldPair i j k x.tree y.tree is x.unfolds y.unfolds; is = ap (λ (z : Term). term.PairTerm z (erased u)) x.is ∙ ap (term.PairTerm (renumbered (name_at names) x.tree)) y.is }
named ns ds names _ _ (declared.StandsAssertL i j k a t h is d s there none) =
    let x = named ns ds names j t s in
    record { tree = term.AssertL x.tree h; unfolds = node.UnfoldAssertL i j k x.tree h is x.unfolds there; is = ap (λ (z : Term). term.AssertL z h) x.is }
named ns ds names _ _ (declared.StandsAssertR i j k a h t is d there none s) =
    let x = named ns ds names k t s in
    record { tree = term.AssertR h x.tree; unfolds = node.UnfoldAssertR i j k h x.tree is there x.unfolds; is = ap (term.AssertR h) x.is }
named ns ds names _ _ (declared.StandsFail i a e is d) = record { tree = term.Fail e; unfolds = node.UnfoldFail i e is; is = refl }
named ns ds names _ _ (declared.StandsWitness i number a is d name) =
    record { tree = term.Witness (witness_number ns i); unfolds = node.UnfoldWitness i is; is = ap term.Witness (sym (get_or_from_slice_get names (witness_number ns i) number 0 name)) }
named ns ds names _ _ (declared.StandsWord i k n a is d) = record { tree = term.Word k n; unfolds = node.UnfoldWord i k n is; is = refl }

-- the tree of a list whose root stands for a term
pub named_tree : (ns : List Node) (ds : Typing) (names : List ℕ) (t : Declared) → IsPlaced ns → Stands ns ds names (length ns - 1) t → erased t ≡ renumbered (name_at names) (tree_of ns)
named_tree ns ds names t placed stands =
    let x = named ns ds names (length ns - 1) t stands in
    x.is ∙ ap (renumbered (name_at names)) (sym (unfolds_one ns (length ns - 1) x.tree placed x.unfolds))

-- maps of numbers that agree on those of the witness nodes
module _ (ns : List Node) (f g : ℕ → ℕ) (same : (k : ℕ) → k < witness_number ns (length ns) → f k ≡ g k) where
  numbers_same : (i : ℕ) (t : Term) → Unfolds ns i t → renumbered f t ≡ renumbered g t
  numbers_same _ _ (node.UnfoldIden i is) = refl
  numbers_same _ _ (node.UnfoldUnit i is) = refl
  numbers_same _ _ (node.UnfoldInjl i j t is on) = ap term.Injl (numbers_same j t on)
  numbers_same _ _ (node.UnfoldInjr i j t is on) = ap term.Injr (numbers_same j t on)
  numbers_same _ _ (node.UnfoldTake i j t is on) = ap term.Take (numbers_same j t on)
  numbers_same _ _ (node.UnfoldDrop i j t is on) = ap term.Drop (numbers_same j t on)
  numbers_same _ _ (node.UnfoldComp i j k s t is a b) = ap (λ (x : Term). term.Comp x (renumbered f t)) (numbers_same j s a) ∙ ap (term.Comp (renumbered g s)) (numbers_same k t b)
  numbers_same _ _ (node.UnfoldCase i j k s t is a b) = ap (λ (x : Term). term.Case x (renumbered f t)) (numbers_same j s a) ∙ ap (term.Case (renumbered g s)) (numbers_same k t b)
  numbers_same _ _ (node.UnfoldAssertL i j k s e is a b) = ap (λ (x : Term). term.AssertL x e) (numbers_same j s a)
  numbers_same _ _ (node.UnfoldAssertR i j k e t is a b) = ap (term.AssertR e) (numbers_same k t b)
  numbers_same _ _ (node.UnfoldPair i j k s t is a b) = ap (λ (x : Term). term.PairTerm x (renumbered f t)) (numbers_same j s a) ∙ ap (term.PairTerm (renumbered g s)) (numbers_same k t b)
  numbers_same _ _ (node.UnfoldFail i e is) = refl
  numbers_same _ _ (node.UnfoldWitness i is) = ap term.Witness (same (witness_number ns i) (number_below ns i is))
  numbers_same _ _ (node.UnfoldWord i k n is) = refl

  pub tree_same : IsPlaced ns → HasRoot ns → renumbered f (tree_of ns) ≡ renumbered g (tree_of ns)
  tree_same placed rooted = numbers_same (length ns - 1) (tree_of ns) (nodes_unfold ns (length ns - 1) placed rooted.0)

pub renumbered_twice : (f g : ℕ → ℕ) (t : Term) → renumbered f (renumbered g t) ≡ renumbered (λ k. f (g k)) t
renumbered_twice f g term.Iden = refl
renumbered_twice f g (term.Comp s t) = ap (λ (x : Term). term.Comp x (renumbered f (renumbered g t))) (renumbered_twice f g s) ∙ ap (term.Comp (renumbered (λ k. f (g k)) s)) (renumbered_twice f g t)
renumbered_twice f g term.UnitTerm = refl
renumbered_twice f g (term.Injl t) = ap term.Injl (renumbered_twice f g t)
renumbered_twice f g (term.Injr t) = ap term.Injr (renumbered_twice f g t)
renumbered_twice f g (term.Case s t) = ap (λ (x : Term). term.Case x (renumbered f (renumbered g t))) (renumbered_twice f g s) ∙ ap (term.Case (renumbered (λ k. f (g k)) s)) (renumbered_twice f g t)
renumbered_twice f g (term.PairTerm s t) =
    ap (λ (x : Term). term.PairTerm x (renumbered f (renumbered g t))) (renumbered_twice f g s) ∙ ap (term.PairTerm (renumbered (λ k. f (g k)) s)) (renumbered_twice f g t)
renumbered_twice f g (term.Take t) = ap term.Take (renumbered_twice f g t)
renumbered_twice f g (term.Drop t) = ap term.Drop (renumbered_twice f g t)
renumbered_twice f g (term.Witness n) = refl
renumbered_twice f g (term.Word k n) = refl
renumbered_twice f g (term.AssertL s h) = ap (λ (x : Term). term.AssertL x h) (renumbered_twice f g s)
renumbered_twice f g (term.AssertR h t) = ap (term.AssertR h) (renumbered_twice f g t)
renumbered_twice f g (term.Fail e) = refl
