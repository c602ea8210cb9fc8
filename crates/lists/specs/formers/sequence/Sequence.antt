-- A `Sequence` as a type that may hold the type that holds it: it is the list of what it holds.
use mathlib.Core.Path.{◌≡◌, refl, sym}
use mathlib.Core.List.{List, []}
use mathlib.Core.Former.{Former, this, list, via, children}
use base.Stored.{code_map}
use denote.RattleType.{RattleType}
use denote.HoleLaws.{Alike}
use denote.HolePlaces.{Recodes, struct_places, laid}
use denote.Hole.Carrier.{listed, list-listed}
use denote.Hole.Fix.{over}
use denote.Param.Weighed.{Weighed, w_list}
use denote.Model.Placed.{view_places}
use Rattle.std.specs.formers.vec.Vec as vec
use Rattle.std.specs.declared.alloc.Global.{Global}
use Rattle.std.specs.contracts.alloc.Global as heap
use Rattle.std.specs.contracts.impls.GlobalAllocator.TheImpl.{ghosts}
use Rattle.lists.specs.declared.sequence.Sequence.TheInside.{Inside}
use Rattle.lists.specs.declared.sequence.Sequence.TheView.{view, invariant}
use Rattle.lists.specs.contracts.sequence.Sequence as rows
use Rattle.lists.specs.contracts.sequence.Sequence.TheInside as inside

abbrev pub the_former : Former {0} → Former {0}
the_former item = list item

abbrev pub the_weighed : {item : Former {0}} → Weighed item → Weighed (the_former item)
the_weighed weights = w_list weights

pub the_empty : List ⊥
the_empty = []

abbrev pub the_items : (T : Type 0) → List T → List T
the_items T items = items

pub the_items_listed : (T : Type 0) (items : List T) → listed _ (children (the_former this) T items) ≡ the_items T items
the_items_listed T items = list-listed T items

abbrev fields : Former {0}
fields = via (vec.the_former this Global) Inside (λ T a. a.items) (λ T v. record { items = v }) (λ T a. refl) (λ T v. refl)

module _ (R S : RattleType) (along : R.Denot → S.Denot) where
  pub the_places : Alike R S along → Alike (rows.the_row R) (rows.the_row S) ((the_former this).map R.Denot S.Denot along)
  the_places alike = view_places fields (list this) view (λ X Y k u. refl) (λ X u. refl) R.Denot S.Denot along
      (rows.the_row R).coded (rows.the_row S).coded
      (invariant R.Denot) (invariant S.Denot) (λ u p q. refl) (λ u p q. refl) (λ u e. tt) (λ u e. tt)
      (over (inside.the_row R)) (over (inside.the_row S))
      (struct_places (inside.the_type R) (inside.the_type S) (vec.mapped along, tt) _ (λ d. refl) refl
      (laid _ _ _ (vec.the_places heap.the_row ghosts R S along alike), tt))

  pub the_codes_placed : Recodes R S along → Recodes (rows.the_row R) (rows.the_row S) ((the_former this).map R.Denot S.Denot along)
  the_codes_placed recodes items = sym (code_map R.coded.code S.coded.code along (λ x. sym (recodes x)) items)
