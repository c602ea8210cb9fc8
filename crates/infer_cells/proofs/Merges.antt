-- Making two cells one.
use Rattle.std.proofs.Common.{◌≡◌, ℕ, ◌<◌, true, length, Some, None, refl, arith}
use Rattle.simplicity.specs.Types.{Kind}
use Rattle.infer_cells.specs.declared.cell.Cell.{Cell}
use Rattle.infer_cells.specs.declared.cell.Cell.TheVariants as cell
use Rattle.infer_cells.specs.Cells.{Assignment, Fits, AreEqual, IsPlacedCell, AreWithin, is_root}
use Rattle.infer_cells.specs.Merged.{merged, merged_parts}

-- what one type goes with, goes with what is made of both
pub merge_forth : (f : Assignment) (x : Kind) (c d e : Cell) → merged c d ≡ Some e → Fits f x c → Fits f x d → Fits f x e × AreEqual f (merged_parts c d)
merge_forth f x cell.Free cell.Free e is g h = let same : cell.Free ≡ e = cc in (rw (← same) h, tt)
merge_forth f x cell.Free (cell.Link u) e is g h = let same : (cell.Link u) ≡ e = cc in (rw (← same) h, tt)
merge_forth f x cell.Free cell.One e is g h = let same : cell.One ≡ e = cc in (rw (← same) h, tt)
merge_forth f x cell.Free (cell.Sum u v) e is g h = let same : (cell.Sum u v) ≡ e = cc in (rw (← same) h, tt)
merge_forth f x cell.Free (cell.Product u v) e is g h = let same : (cell.Product u v) ≡ e = cc in (rw (← same) h, tt)
merge_forth f x (cell.Link a) cell.Free e is g h = absurd (cc)
merge_forth f x (cell.Link a) (cell.Link u) e is g h = absurd (cc)
merge_forth f x (cell.Link a) cell.One e is g h = absurd (cc)
merge_forth f x (cell.Link a) (cell.Sum u v) e is g h = absurd (cc)
merge_forth f x (cell.Link a) (cell.Product u v) e is g h = absurd (cc)
merge_forth f x cell.One cell.Free e is g h = let same : cell.One ≡ e = cc in (rw (← same) g, tt)
merge_forth f x cell.One (cell.Link u) e is g h = absurd (cc)
merge_forth f x cell.One cell.One e is g h = let same : cell.One ≡ e = cc in (rw (← same) g, tt)
merge_forth f x cell.One (cell.Sum u v) e is g h = absurd (cc)
merge_forth f x cell.One (cell.Product u v) e is g h = absurd (cc)
merge_forth f x (cell.Sum a b) cell.Free e is g h = let same : (cell.Sum a b) ≡ e = cc in (rw (← same) g, tt)
merge_forth f x (cell.Sum a b) (cell.Link u) e is g h = absurd (cc)
merge_forth f x (cell.Sum a b) cell.One e is g h = absurd (cc)
merge_forth f x (cell.Sum a b) (cell.Sum u v) e is g h = let same : (cell.Sum a b) ≡ e = cc in let first : f a ≡ f u = cc in let second : f b ≡ f v = cc in (rw (← same) g, (first, (second, tt)))
merge_forth f x (cell.Sum a b) (cell.Product u v) e is g h = absurd (cc)
merge_forth f x (cell.Product a b) cell.Free e is g h = let same : (cell.Product a b) ≡ e = cc in (rw (← same) g, tt)
merge_forth f x (cell.Product a b) (cell.Link u) e is g h = absurd (cc)
merge_forth f x (cell.Product a b) cell.One e is g h = absurd (cc)
merge_forth f x (cell.Product a b) (cell.Sum u v) e is g h = absurd (cc)
merge_forth f x (cell.Product a b) (cell.Product u v) e is g h = let same : (cell.Product a b) ≡ e = cc in let first : f a ≡ f u = cc in let second : f b ≡ f v = cc in (rw (← same) g, (first, (second, tt)))

-- and back, where the parts have equal types
pub merge_back : (f : Assignment) (x : Kind) (c d e : Cell) → merged c d ≡ Some e → Fits f x e → AreEqual f (merged_parts c d) → Fits f x c × Fits f x d
merge_back f x cell.Free cell.Free e is h p = let same : e ≡ cell.Free = cc in (tt, rw same at h)
merge_back f x cell.Free (cell.Link u) e is h p = let same : e ≡ (cell.Link u) = cc in (tt, rw same at h)
merge_back f x cell.Free cell.One e is h p = let same : e ≡ cell.One = cc in (tt, rw same at h)
merge_back f x cell.Free (cell.Sum u v) e is h p = let same : e ≡ (cell.Sum u v) = cc in (tt, rw same at h)
merge_back f x cell.Free (cell.Product u v) e is h p = let same : e ≡ (cell.Product u v) = cc in (tt, rw same at h)
merge_back f x (cell.Link a) cell.Free e is h p = absurd (cc)
merge_back f x (cell.Link a) (cell.Link u) e is h p = absurd (cc)
merge_back f x (cell.Link a) cell.One e is h p = absurd (cc)
merge_back f x (cell.Link a) (cell.Sum u v) e is h p = absurd (cc)
merge_back f x (cell.Link a) (cell.Product u v) e is h p = absurd (cc)
merge_back f x cell.One cell.Free e is h p = let same : e ≡ cell.One = cc in let g : Fits f x cell.One = rw same at h in (g, tt)
merge_back f x cell.One (cell.Link u) e is h p = absurd (cc)
merge_back f x cell.One cell.One e is h p = let same : e ≡ cell.One = cc in let g : Fits f x cell.One = rw same at h in (g, g)
merge_back f x cell.One (cell.Sum u v) e is h p = absurd (cc)
merge_back f x cell.One (cell.Product u v) e is h p = absurd (cc)
merge_back f x (cell.Sum a b) cell.Free e is h p = let same : e ≡ (cell.Sum a b) = cc in let g : Fits f x (cell.Sum a b) = rw same at h in (g, tt)
merge_back f x (cell.Sum a b) (cell.Link u) e is h p = absurd (cc)
merge_back f x (cell.Sum a b) cell.One e is h p = absurd (cc)
merge_back f x (cell.Sum a b) (cell.Sum u v) e is h p = let same : e ≡ (cell.Sum a b) = cc in let g : Fits f x (cell.Sum a b) = rw same at h in let first = p.0 in let second = p.1.0 in (g, (cc))
merge_back f x (cell.Sum a b) (cell.Product u v) e is h p = absurd (cc)
merge_back f x (cell.Product a b) cell.Free e is h p = let same : e ≡ (cell.Product a b) = cc in let g : Fits f x (cell.Product a b) = rw same at h in (g, tt)
merge_back f x (cell.Product a b) (cell.Link u) e is h p = absurd (cc)
merge_back f x (cell.Product a b) cell.One e is h p = absurd (cc)
merge_back f x (cell.Product a b) (cell.Sum u v) e is h p = absurd (cc)
merge_back f x (cell.Product a b) (cell.Product u v) e is h p = let same : e ≡ (cell.Product a b) = cc in let g : Fits f x (cell.Product a b) = rw same at h in let first = p.0 in let second = p.1.0 in (g, (cc))

-- no type goes with two cells of which none is made
pub merge_none : (f : Assignment) (x : Kind) (c d : Cell) → is_root c ≡ true → is_root d ≡ true → merged c d ≡ None → Fits f x c → Fits f x d → ⊥
merge_none f x cell.Free cell.Free r s is g h = absurd (cc)
merge_none f x cell.Free (cell.Link u) r s is g h = absurd (cc)
merge_none f x cell.Free cell.One r s is g h = absurd (cc)
merge_none f x cell.Free (cell.Sum u v) r s is g h = absurd (cc)
merge_none f x cell.Free (cell.Product u v) r s is g h = absurd (cc)
merge_none f x (cell.Link a) cell.Free r s is g h = absurd (cc)
merge_none f x (cell.Link a) (cell.Link u) r s is g h = absurd (cc)
merge_none f x (cell.Link a) cell.One r s is g h = absurd (cc)
merge_none f x (cell.Link a) (cell.Sum u v) r s is g h = absurd (cc)
merge_none f x (cell.Link a) (cell.Product u v) r s is g h = absurd (cc)
merge_none f x cell.One cell.Free r s is g h = absurd (cc)
merge_none f x cell.One (cell.Link u) r s is g h = absurd (cc)
merge_none f x cell.One cell.One r s is g h = absurd (cc)
merge_none f x cell.One (cell.Sum u v) r s is g h = absurd (cc)
merge_none f x cell.One (cell.Product u v) r s is g h = absurd (cc)
merge_none f x (cell.Sum a b) cell.Free r s is g h = absurd (cc)
merge_none f x (cell.Sum a b) (cell.Link u) r s is g h = absurd (cc)
merge_none f x (cell.Sum a b) cell.One r s is g h = absurd (cc)
merge_none f x (cell.Sum a b) (cell.Sum u v) r s is g h = absurd (cc)
merge_none f x (cell.Sum a b) (cell.Product u v) r s is g h = absurd (cc)
merge_none f x (cell.Product a b) cell.Free r s is g h = absurd (cc)
merge_none f x (cell.Product a b) (cell.Link u) r s is g h = absurd (cc)
merge_none f x (cell.Product a b) cell.One r s is g h = absurd (cc)
merge_none f x (cell.Product a b) (cell.Sum u v) r s is g h = absurd (cc)
merge_none f x (cell.Product a b) (cell.Product u v) r s is g h = absurd (cc)

-- its parts are those of the two
pub merge_placed : (n i j : ℕ) (c d e : Cell) → is_root d ≡ true → merged c d ≡ Some e → IsPlacedCell n i c → IsPlacedCell n j d → IsPlacedCell n i e
merge_placed n i j cell.Free cell.Free e s is g h = let same : e ≡ cell.Free = cc in rw same tt
merge_placed n i j cell.Free (cell.Link u) e s is g h = absurd (cc)
merge_placed n i j cell.Free cell.One e s is g h = let same : e ≡ cell.One = cc in rw same tt
merge_placed n i j cell.Free (cell.Sum u v) e s is g h = let same : e ≡ (cell.Sum u v) = cc in rw same h
merge_placed n i j cell.Free (cell.Product u v) e s is g h = let same : e ≡ (cell.Product u v) = cc in rw same h
merge_placed n i j (cell.Link a) cell.Free e s is g h = absurd (cc)
merge_placed n i j (cell.Link a) (cell.Link u) e s is g h = absurd (cc)
merge_placed n i j (cell.Link a) cell.One e s is g h = absurd (cc)
merge_placed n i j (cell.Link a) (cell.Sum u v) e s is g h = absurd (cc)
merge_placed n i j (cell.Link a) (cell.Product u v) e s is g h = absurd (cc)
merge_placed n i j cell.One cell.Free e s is g h = let same : e ≡ cell.One = cc in rw same tt
merge_placed n i j cell.One (cell.Link u) e s is g h = absurd (cc)
merge_placed n i j cell.One cell.One e s is g h = let same : e ≡ cell.One = cc in rw same tt
merge_placed n i j cell.One (cell.Sum u v) e s is g h = absurd (cc)
merge_placed n i j cell.One (cell.Product u v) e s is g h = absurd (cc)
merge_placed n i j (cell.Sum a b) cell.Free e s is g h = let same : e ≡ (cell.Sum a b) = cc in rw same g
merge_placed n i j (cell.Sum a b) (cell.Link u) e s is g h = absurd (cc)
merge_placed n i j (cell.Sum a b) cell.One e s is g h = absurd (cc)
merge_placed n i j (cell.Sum a b) (cell.Sum u v) e s is g h = let same : e ≡ (cell.Sum a b) = cc in rw same g
merge_placed n i j (cell.Sum a b) (cell.Product u v) e s is g h = absurd (cc)
merge_placed n i j (cell.Product a b) cell.Free e s is g h = let same : e ≡ (cell.Product a b) = cc in rw same g
merge_placed n i j (cell.Product a b) (cell.Link u) e s is g h = absurd (cc)
merge_placed n i j (cell.Product a b) cell.One e s is g h = absurd (cc)
merge_placed n i j (cell.Product a b) (cell.Sum u v) e s is g h = absurd (cc)
merge_placed n i j (cell.Product a b) (cell.Product u v) e s is g h = let same : e ≡ (cell.Product a b) = cc in rw same g

pub parts_within : (n i j : ℕ) (c d : Cell) → IsPlacedCell n i c → IsPlacedCell n j d → AreWithin n (merged_parts c d)
parts_within n i j cell.Free cell.Free g h = tt
parts_within n i j cell.Free (cell.Link u) g h = tt
parts_within n i j cell.Free cell.One g h = tt
parts_within n i j cell.Free (cell.Sum u v) g h = tt
parts_within n i j cell.Free (cell.Product u v) g h = tt
parts_within n i j (cell.Link a) cell.Free g h = tt
parts_within n i j (cell.Link a) (cell.Link u) g h = tt
parts_within n i j (cell.Link a) cell.One g h = tt
parts_within n i j (cell.Link a) (cell.Sum u v) g h = tt
parts_within n i j (cell.Link a) (cell.Product u v) g h = tt
parts_within n i j cell.One cell.Free g h = tt
parts_within n i j cell.One (cell.Link u) g h = tt
parts_within n i j cell.One cell.One g h = tt
parts_within n i j cell.One (cell.Sum u v) g h = tt
parts_within n i j cell.One (cell.Product u v) g h = tt
parts_within n i j (cell.Sum a b) cell.Free g h = tt
parts_within n i j (cell.Sum a b) (cell.Link u) g h = tt
parts_within n i j (cell.Sum a b) cell.One g h = tt
parts_within n i j (cell.Sum a b) (cell.Sum u v) g h = (g.0, h.0, (g.1, h.1, tt))
parts_within n i j (cell.Sum a b) (cell.Product u v) g h = tt
parts_within n i j (cell.Product a b) cell.Free g h = tt
parts_within n i j (cell.Product a b) (cell.Link u) g h = tt
parts_within n i j (cell.Product a b) cell.One g h = tt
parts_within n i j (cell.Product a b) (cell.Sum u v) g h = tt
parts_within n i j (cell.Product a b) (cell.Product u v) g h = (g.0, h.0, (g.1, h.1, tt))

pub parts_few : (c d : Cell) → length (merged_parts c d) < 3
parts_few cell.Free cell.Free = omega arith
parts_few cell.Free (cell.Link u) = omega arith
parts_few cell.Free cell.One = omega arith
parts_few cell.Free (cell.Sum u v) = omega arith
parts_few cell.Free (cell.Product u v) = omega arith
parts_few (cell.Link a) cell.Free = omega arith
parts_few (cell.Link a) (cell.Link u) = omega arith
parts_few (cell.Link a) cell.One = omega arith
parts_few (cell.Link a) (cell.Sum u v) = omega arith
parts_few (cell.Link a) (cell.Product u v) = omega arith
parts_few cell.One cell.Free = omega arith
parts_few cell.One (cell.Link u) = omega arith
parts_few cell.One cell.One = omega arith
parts_few cell.One (cell.Sum u v) = omega arith
parts_few cell.One (cell.Product u v) = omega arith
parts_few (cell.Sum a b) cell.Free = omega arith
parts_few (cell.Sum a b) (cell.Link u) = omega arith
parts_few (cell.Sum a b) cell.One = omega arith
parts_few (cell.Sum a b) (cell.Sum u v) = omega arith
parts_few (cell.Sum a b) (cell.Product u v) = omega arith
parts_few (cell.Product a b) cell.Free = omega arith
parts_few (cell.Product a b) (cell.Link u) = omega arith
parts_few (cell.Product a b) cell.One = omega arith
parts_few (cell.Product a b) (cell.Sum u v) = omega arith
parts_few (cell.Product a b) (cell.Product u v) = omega arith

pub merge_root : (c d e : Cell) → is_root d ≡ true → merged c d ≡ Some e → is_root e ≡ true
merge_root cell.Free cell.Free e s is = let same : e ≡ cell.Free = cc in rw same refl
merge_root cell.Free (cell.Link u) e s is = absurd (cc)
merge_root cell.Free cell.One e s is = let same : e ≡ cell.One = cc in rw same refl
merge_root cell.Free (cell.Sum u v) e s is = let same : e ≡ (cell.Sum u v) = cc in rw same refl
merge_root cell.Free (cell.Product u v) e s is = let same : e ≡ (cell.Product u v) = cc in rw same refl
merge_root (cell.Link a) cell.Free e s is = absurd (cc)
merge_root (cell.Link a) (cell.Link u) e s is = absurd (cc)
merge_root (cell.Link a) cell.One e s is = absurd (cc)
merge_root (cell.Link a) (cell.Sum u v) e s is = absurd (cc)
merge_root (cell.Link a) (cell.Product u v) e s is = absurd (cc)
merge_root cell.One cell.Free e s is = let same : e ≡ cell.One = cc in rw same refl
merge_root cell.One (cell.Link u) e s is = absurd (cc)
merge_root cell.One cell.One e s is = let same : e ≡ cell.One = cc in rw same refl
merge_root cell.One (cell.Sum u v) e s is = absurd (cc)
merge_root cell.One (cell.Product u v) e s is = absurd (cc)
merge_root (cell.Sum a b) cell.Free e s is = let same : e ≡ (cell.Sum a b) = cc in rw same refl
merge_root (cell.Sum a b) (cell.Link u) e s is = absurd (cc)
merge_root (cell.Sum a b) cell.One e s is = absurd (cc)
merge_root (cell.Sum a b) (cell.Sum u v) e s is = let same : e ≡ (cell.Sum a b) = cc in rw same refl
merge_root (cell.Sum a b) (cell.Product u v) e s is = absurd (cc)
merge_root (cell.Product a b) cell.Free e s is = let same : e ≡ (cell.Product a b) = cc in rw same refl
merge_root (cell.Product a b) (cell.Link u) e s is = absurd (cc)
merge_root (cell.Product a b) cell.One e s is = absurd (cc)
merge_root (cell.Product a b) (cell.Sum u v) e s is = absurd (cc)
merge_root (cell.Product a b) (cell.Product u v) e s is = let same : e ≡ (cell.Product a b) = cc in rw same refl
