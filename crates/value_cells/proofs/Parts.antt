-- The parts of a value that are left to write.
use Rattle.std.proofs.Common.{◌≡◌, ℕ, ◌+◌, ◌<◌, ◌≤◌, Bool, true, false, List, [], ◌∷◌, ◌++◌, length, refl, sym, ap, subst, ◌∙◌, arith, append_assoc}
use Rattle.std.proofs.lemmas.List.{append-nil, map_push, replicate_more}
use Rattle.simplicity.specs.Types.{Kind, Sum, Product, Value, UnitValue, Inl, Inr, Pair, IsOf, weight, pad_left, pad_right}
use Rattle.simplicity.specs.Limits.{most_weight}
use Rattle.simplicity.specs.Cells as spec
use Rattle.simplicity.specs.Cells.{Bit, Undefined, undefined, cells}
use Rattle.core_data.specs.Data.{value_of}
use Rattle.core_data.specs.Loads.{load}
use Rattle.type_table.specs.Kinds.{kind_at, HasShape}
use Rattle.type_table.specs.declared.shape.Shape.TheVariants as shape
use Rattle.frame_stack.specs.declared.cells.Cell.{Cell}
use Rattle.frame_stack.specs.declared.cells.Cell.TheVariants as code
use Rattle.frame_stack.specs.Bits.{cell_of, cells_of}
use Rattle.value_cells.specs.declared.write.Part.{Part}
use Rattle.value_cells.specs.Parts.{part_cells, cells_left, load_left, IsPart, AreParts}

module _ (kinds : List Kind) where
  left_push : (ps : List Part) (p : Part) → cells_left kinds (ps ++ p ∷ []) ≡ part_cells kinds p ++ cells_left kinds ps
  left_push [] p = sym (append-nil (part_cells kinds p))
  left_push (q ∷ ps) p =
      ap (λ (l : List spec.Cell). l ++ part_cells kinds q) (left_push ps p) ∙ append_assoc (part_cells kinds p) (cells_left kinds ps) (part_cells kinds q)

  parts_push : (ps : List Part) (p : Part) → AreParts kinds ps → IsPart kinds p → AreParts kinds (ps ++ p ∷ [])
  parts_push [] p h is = (is, tt)
  parts_push (q ∷ ps) p h is = (h.0, parts_push ps p h.1 is)

  parts_pop : (ps : List Part) (p : Part) → AreParts kinds (ps ++ p ∷ []) → AreParts kinds ps × IsPart kinds p
  parts_pop [] p h = (tt, h.0)
  parts_pop (q ∷ ps) p h = let more = parts_pop ps p h.1 in ((h.0, more.0), more.1)

  pub one_more : (ps qs : List Part) (p : Part) → qs ≡ ps ++ p ∷ [] → AreParts kinds ps → IsPart kinds p → AreParts kinds qs
  one_more ps qs p is h part = subst (λ (x : List Part). AreParts kinds x) (sym is) (parts_push ps p h part)

  pub popped : (items ps : List Part) (p : Part) → items ≡ ps ++ p ∷ [] → AreParts kinds items → AreParts kinds ps × IsPart kinds p
  popped items ps p is h = parts_pop ps p (subst (λ (x : List Part). AreParts kinds x) is h)

  -- a tag with what it is before
  pub tagged_cells : (old new : List spec.Cell) (p q : Part) (ps qs : List Part) (b : Bool) (n : ℕ) → part_cells kinds p ≡ Bit b ∷ (undefined n ++ part_cells kinds q) →
      new ≡ old ++ (Bit b ∷ undefined n) → qs ≡ ps ++ q ∷ [] → new ++ cells_left kinds qs ≡ old ++ (part_cells kinds p ++ cells_left kinds ps)
  tagged_cells old new p q ps qs b n made written pushed =
      ap (λ (l : List spec.Cell). l ++ cells_left kinds qs) written ∙ append_assoc old (Bit b ∷ undefined n) (cells_left kinds qs)
      ∙ ap (λ (x : List Part). old ++ (Bit b ∷ (undefined n ++ cells_left kinds x))) pushed ∙ ap (λ (l : List spec.Cell). old ++ (Bit b ∷ (undefined n ++ l))) (left_push ps q)
      ∙ ap (λ (l : List spec.Cell). old ++ (Bit b ∷ l)) (sym (append_assoc (undefined n) (part_cells kinds q) (cells_left kinds ps)))
      ∙ ap (λ (l : List spec.Cell). old ++ (l ++ cells_left kinds ps)) (sym made)

  pub paired_cells : (old : List spec.Cell) (p first second : Part) (ps qs rs : List Part) → part_cells kinds p ≡ part_cells kinds first ++ part_cells kinds second →
      qs ≡ ps ++ second ∷ [] → rs ≡ qs ++ first ∷ [] → old ++ cells_left kinds rs ≡ old ++ (part_cells kinds p ++ cells_left kinds ps)
  paired_cells old p first second ps qs rs made pushed next =
      ap (λ (l : List spec.Cell). old ++ l)
      (ap (cells_left kinds) next ∙ left_push qs first ∙ ap (λ (x : List Part). part_cells kinds first ++ cells_left kinds x) pushed
      ∙ ap (λ (l : List spec.Cell). part_cells kinds first ++ l) (left_push ps second)
      ∙ sym (append_assoc (part_cells kinds first) (part_cells kinds second) (cells_left kinds ps)) ∙ ap (λ (l : List spec.Cell). l ++ cells_left kinds ps) (sym made))

  -- a step of the loop
  pub next_cells : (old new whole : List spec.Cell) (items ps qs : List Part) (p : Part) → items ≡ ps ++ p ∷ [] → old ++ cells_left kinds items ≡ whole →
      new ++ cells_left kinds qs ≡ old ++ (part_cells kinds p ++ cells_left kinds ps) → new ++ cells_left kinds qs ≡ whole
  next_cells old new whole items ps qs p is before step =
      step ∙ ap (λ (l : List spec.Cell). old ++ l) (sym (left_push ps p) ∙ ap (cells_left kinds) (sym is)) ∙ before

  -- what a part with a tag is made of
  pub record IsTagged (p q : Part) (b : Bool) (n : ℕ) : Type 0 where
    pub cells : part_cells kinds p ≡ Bit b ∷ (undefined n ++ part_cells kinds q)
    pub part : IsPart kinds q
    pub less : load (value_of q.value.now) < load (value_of p.value.now)

  pub on_left : (p q : Part) (l r n : ℕ) → IsPart kinds p → HasShape kinds p.kind (shape.Sum l r) → l < length kinds → value_of p.value.now ≡ Inl (value_of q.value.now) → q.kind ≡ l →
      (weight (kind_at kinds l) + weight (kind_at kinds r) ≤ most_weight → n ≡ pad_left (kind_at kinds l) (kind_at kinds r)) → IsTagged p q false n
  on_left p q l r n part has within value kind pads =
      let a : Kind = kind_at kinds l in
      let b : Kind = kind_at kinds r in
      let is : kind_at kinds p.kind ≡ Sum a b = has.is in
      let heavy : weight (Sum a b) ≤ most_weight = subst (λ (k : Kind). weight k ≤ most_weight) is part.light in
      let of : IsOf (Inl (value_of q.value.now)) (Sum a b) = subst (λ (v : Value). IsOf v (Sum a b)) value (subst (λ (k : Kind). IsOf (value_of p.value.now) k) is part.of) in
      let same : kind_at kinds q.kind ≡ a = ap (kind_at kinds) kind in
      record {
        cells = ap (λ (k : Kind). cells k (value_of p.value.now)) is ∙ ap (cells (Sum a b)) value
            ∙ ap (λ (m : ℕ). Bit false ∷ (undefined m ++ cells a (value_of q.value.now))) (sym (pads (omega arith)))
            ∙ ap (λ (k : Kind). Bit false ∷ (undefined n ++ cells k (value_of q.value.now))) (sym same);
        part = record {
          there = rw kind within;
          light = subst (λ (k : Kind). weight k ≤ most_weight) (sym same) (omega arith);
          of = subst (λ (k : Kind). IsOf (value_of q.value.now) k) (sym same) of;
        };
        less = omega (arith, ap load value);
      }

  pub on_right : (p q : Part) (l r n : ℕ) → IsPart kinds p → HasShape kinds p.kind (shape.Sum l r) → r < length kinds → value_of p.value.now ≡ Inr (value_of q.value.now) → q.kind ≡ r →
      (weight (kind_at kinds l) + weight (kind_at kinds r) ≤ most_weight → n ≡ pad_right (kind_at kinds l) (kind_at kinds r)) → IsTagged p q true n
  on_right p q l r n part has within value kind pads =
      let a : Kind = kind_at kinds l in
      let b : Kind = kind_at kinds r in
      let is : kind_at kinds p.kind ≡ Sum a b = has.is in
      let heavy : weight (Sum a b) ≤ most_weight = subst (λ (k : Kind). weight k ≤ most_weight) is part.light in
      let of : IsOf (Inr (value_of q.value.now)) (Sum a b) = subst (λ (v : Value). IsOf v (Sum a b)) value (subst (λ (k : Kind). IsOf (value_of p.value.now) k) is part.of) in
      let same : kind_at kinds q.kind ≡ b = ap (kind_at kinds) kind in
      record {
        cells = ap (λ (k : Kind). cells k (value_of p.value.now)) is ∙ ap (cells (Sum a b)) value
            ∙ ap (λ (m : ℕ). Bit true ∷ (undefined m ++ cells b (value_of q.value.now))) (sym (pads (omega arith)))
            ∙ ap (λ (k : Kind). Bit true ∷ (undefined n ++ cells k (value_of q.value.now))) (sym same);
        part = record {
          there = rw kind within;
          light = subst (λ (k : Kind). weight k ≤ most_weight) (sym same) (omega arith);
          of = subst (λ (k : Kind). IsOf (value_of q.value.now) k) (sym same) of;
        };
        less = omega (arith, ap load value);
      }

  pub record IsPaired (p first second : Part) : Type 0 where
    pub cells : part_cells kinds p ≡ part_cells kinds first ++ part_cells kinds second
    pub one : IsPart kinds first
    pub other : IsPart kinds second
    pub less : load (value_of first.value.now) + load (value_of second.value.now) < load (value_of p.value.now)

  pub as_pair : (p first second : Part) (l r : ℕ) → IsPart kinds p → HasShape kinds p.kind (shape.Product l r) → l < length kinds → r < length kinds →
      value_of p.value.now ≡ Pair (value_of first.value.now) (value_of second.value.now) → first.kind ≡ l → second.kind ≡ r → IsPaired p first second
  as_pair p first second l r part has below above value left right =
      let a : Kind = kind_at kinds l in
      let b : Kind = kind_at kinds r in
      let is : kind_at kinds p.kind ≡ Product a b = has.is in
      let heavy : weight (Product a b) ≤ most_weight = subst (λ (k : Kind). weight k ≤ most_weight) is part.light in
      let of : IsOf (Pair (value_of first.value.now) (value_of second.value.now)) (Product a b) =
      subst (λ (v : Value). IsOf v (Product a b)) value (subst (λ (k : Kind). IsOf (value_of p.value.now) k) is part.of) in
      let same : kind_at kinds first.kind ≡ a = ap (kind_at kinds) left in
      let like : kind_at kinds second.kind ≡ b = ap (kind_at kinds) right in
      record {
        cells = ap (λ (k : Kind). cells k (value_of p.value.now)) is ∙ ap (cells (Product a b)) value
            ∙ ap (λ (k : Kind). cells k (value_of first.value.now) ++ cells b (value_of second.value.now)) (sym same)
            ∙ ap (λ (k : Kind). part_cells kinds first ++ cells k (value_of second.value.now)) (sym like);
        one = record {
          there = rw left below;
          light = subst (λ (k : Kind). weight k ≤ most_weight) (sym same) (omega arith);
          of = subst (λ (k : Kind). IsOf (value_of first.value.now) k) (sym same) of.0;
        };
        other = record {
          there = rw right above;
          light = subst (λ (k : Kind). weight k ≤ most_weight) (sym like) (omega arith);
          of = subst (λ (k : Kind). IsOf (value_of second.value.now) k) (sym like) of.1;
        };
        less = omega (arith, ap load value);
      }

load_push : (ps : List Part) (p : Part) → load_left (ps ++ p ∷ []) ≡ load (value_of p.value.now) + load_left ps
load_push [] p = refl
load_push (q ∷ ps) p = omega (arith, load_push ps p)

pub load_more : (ps qs : List Part) (p : Part) → qs ≡ ps ++ p ∷ [] → load_left qs ≡ load (value_of p.value.now) + load_left ps
load_more ps qs p is = ap load_left is ∙ load_push ps p

pub some_load : (v : Value) → 0 < load v
some_load UnitValue = omega arith
some_load (Inl a) = omega arith
some_load (Inr b) = omega arith
some_load (Pair a b) = omega arith

pub tag_first : (olds news : List Cell) (tag : Cell) → news ≡ olds ++ tag ∷ [] → cells_of news ≡ cells_of olds ++ (cell_of tag ∷ undefined 0)
tag_first olds news tag is = ap cells_of is ∙ map_push cell_of olds tag

pub blank_next : (olds nows news : List Cell) (tag : Cell) (n : ℕ) → cells_of nows ≡ cells_of olds ++ (cell_of tag ∷ undefined n) → news ≡ nows ++ code.Undefined ∷ [] →
    cells_of news ≡ cells_of olds ++ (cell_of tag ∷ undefined (n + 1))
blank_next olds nows news tag n before is =
    ap cells_of is ∙ map_push cell_of nows code.Undefined ∙ ap (λ (l : List spec.Cell). l ++ Undefined ∷ []) before
    ∙ append_assoc (cells_of olds) (cell_of tag ∷ undefined n) (Undefined ∷ [])
    ∙ ap (λ (l : List spec.Cell). cells_of olds ++ (cell_of tag ∷ l)) (replicate_more n Undefined)
