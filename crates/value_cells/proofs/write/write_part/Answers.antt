-- Answers to the goals of `write_part`.
use Rattle.std.proofs.Common.{◌∙◌, ap, sym, refl, arith, true, false}
use Rattle.simplicity.specs.Types.{Inl, Inr, Pair}
use Rattle.core_data.specs.Data.{value_of}
use Rattle.core_data.specs.declared.data.CoreValue.{CoreValue}
use Rattle.frame_stack.specs.Bits.{cells_of}
use Rattle.value_cells.specs.declared.write.Part.{Part}
use Rattle.value_cells.proofs.Parts.{IsTagged, IsPaired, one_more, tagged_cells, paired_cells, on_left, on_right, as_pair, load_more, some_load}
use Rattle.value_cells.proofs.write.write_part.Goals as goal

pub returns-in-One-clause-less : goal.returns-in-One-clause-less
returns-in-One-clause-less c = omega (arith, some_load (value_of c.args.part.value.now))

pub returns-in_ok-push-in-Left-clause-cells : goal.returns-in_ok-push-in-Left-clause-cells
returns-in_ok-push-in-Left-clause-cells c =
    let q : Part = record { value = c.deref.result; kind = c.in-Sum.left } in
    let made : IsTagged c.args.types.now c.args.part q false c.pads.result.0 = on_left c.args.types.now c.args.part q c.in-Sum.left c.in-Sum.right c.pads.result.0 c.requires.part c.in-Sum.ensures.shape (omega (arith, c.in-Sum.ensures.shape.parts, c.requires.part.there)) (ap value_of c.in-Left.is ∙ ap (λ (v : CoreValue). Inl (value_of v)) (sym c.deref.ensures)) refl c.pads.ensures.left in
    tagged_cells c.args.types.now (cells_of c.args.cells.now.items) (cells_of c.write_tag.new.cells.items) c.args.part q c.args.parts.now.items c.push.new.self.items false c.pads.result.0 made.cells
    c.in_ok-write_tag-in-Left.ensures c.in_ok-push-in-Left.ensures.items

pub returns-in_ok-push-in-Left-clause-parts : goal.returns-in_ok-push-in-Left-clause-parts
returns-in_ok-push-in-Left-clause-parts c =
    let q : Part = record { value = c.deref.result; kind = c.in-Sum.left } in
    let made : IsTagged c.args.types.now c.args.part q false c.pads.result.0 = on_left c.args.types.now c.args.part q c.in-Sum.left c.in-Sum.right c.pads.result.0 c.requires.part c.in-Sum.ensures.shape (omega (arith, c.in-Sum.ensures.shape.parts, c.requires.part.there)) (ap value_of c.in-Left.is ∙ ap (λ (v : CoreValue). Inl (value_of v)) (sym c.deref.ensures)) refl c.pads.ensures.left in
    one_more c.args.types.now c.args.parts.now.items c.push.new.self.items q c.in_ok-push-in-Left.ensures.items c.requires.parts made.part

pub returns-in_ok-push-in-Left-clause-less : goal.returns-in_ok-push-in-Left-clause-less
returns-in_ok-push-in-Left-clause-less c =
    let q : Part = record { value = c.deref.result; kind = c.in-Sum.left } in
    let made : IsTagged c.args.types.now c.args.part q false c.pads.result.0 = on_left c.args.types.now c.args.part q c.in-Sum.left c.in-Sum.right c.pads.result.0 c.requires.part c.in-Sum.ensures.shape (omega (arith, c.in-Sum.ensures.shape.parts, c.requires.part.there)) (ap value_of c.in-Left.is ∙ ap (λ (v : CoreValue). Inl (value_of v)) (sym c.deref.ensures)) refl c.pads.ensures.left in
    omega (arith, made.less, load_more c.args.parts.now.items c.push.new.self.items q c.in_ok-push-in-Left.ensures.items)

pub returns-in_ok-push-in-Right-clause-cells : goal.returns-in_ok-push-in-Right-clause-cells
returns-in_ok-push-in-Right-clause-cells c =
    let q : Part = record { value = c.deref-in-Right.result; kind = c.in-Sum.right } in
    let made : IsTagged c.args.types.now c.args.part q true c.pads-in-Right.result.1 = on_right c.args.types.now c.args.part q c.in-Sum.left c.in-Sum.right c.pads-in-Right.result.1 c.requires.part c.in-Sum.ensures.shape (omega (arith, c.in-Sum.ensures.shape.parts, c.requires.part.there)) (ap value_of c.in-Right.is ∙ ap (λ (v : CoreValue). Inr (value_of v)) (sym c.deref-in-Right.ensures)) refl c.pads-in-Right.ensures.right in
    tagged_cells c.args.types.now (cells_of c.args.cells.now.items) (cells_of c.write_tag-in-Right.new.cells.items) c.args.part q c.args.parts.now.items c.push-in-Right.new.self.items true c.pads-in-Right.result.1 made.cells
    c.in_ok-write_tag-in-Right.ensures c.in_ok-push-in-Right.ensures.items

pub returns-in_ok-push-in-Right-clause-parts : goal.returns-in_ok-push-in-Right-clause-parts
returns-in_ok-push-in-Right-clause-parts c =
    let q : Part = record { value = c.deref-in-Right.result; kind = c.in-Sum.right } in
    let made : IsTagged c.args.types.now c.args.part q true c.pads-in-Right.result.1 = on_right c.args.types.now c.args.part q c.in-Sum.left c.in-Sum.right c.pads-in-Right.result.1 c.requires.part c.in-Sum.ensures.shape (omega (arith, c.in-Sum.ensures.shape.parts, c.requires.part.there)) (ap value_of c.in-Right.is ∙ ap (λ (v : CoreValue). Inr (value_of v)) (sym c.deref-in-Right.ensures)) refl c.pads-in-Right.ensures.right in
    one_more c.args.types.now c.args.parts.now.items c.push-in-Right.new.self.items q c.in_ok-push-in-Right.ensures.items c.requires.parts made.part

pub returns-in_ok-push-in-Right-clause-less : goal.returns-in_ok-push-in-Right-clause-less
returns-in_ok-push-in-Right-clause-less c =
    let q : Part = record { value = c.deref-in-Right.result; kind = c.in-Sum.right } in
    let made : IsTagged c.args.types.now c.args.part q true c.pads-in-Right.result.1 = on_right c.args.types.now c.args.part q c.in-Sum.left c.in-Sum.right c.pads-in-Right.result.1 c.requires.part c.in-Sum.ensures.shape (omega (arith, c.in-Sum.ensures.shape.parts, c.requires.part.there)) (ap value_of c.in-Right.is ∙ ap (λ (v : CoreValue). Inr (value_of v)) (sym c.deref-in-Right.ensures)) refl c.pads-in-Right.ensures.right in
    omega (arith, made.less, load_more c.args.parts.now.items c.push-in-Right.new.self.items q c.in_ok-push-in-Right.ensures.items)

pub returns-in_ok-push-in-Pair-value-2-clause-cells : goal.returns-in_ok-push-in-Pair-value-2-clause-cells
returns-in_ok-push-in-Pair-value-2-clause-cells c =
    let first : Part = record { value = c.deref-in-Pair-value-2.result; kind = c.in-Product.left } in
    let second : Part = record { value = c.deref-in-Pair-value.result; kind = c.in-Product.right } in
    let made : IsPaired c.args.types.now c.args.part first second =
    as_pair c.args.types.now c.args.part first second c.in-Product.left c.in-Product.right c.requires.part c.in-Product.ensures.shape (omega (arith, c.in-Product.ensures.shape.parts, c.requires.part.there))
    (omega (arith, c.in-Product.ensures.shape.parts, c.requires.part.there))
    (ap value_of c.in-Pair-value.is ∙ ap (λ (v : CoreValue). Pair (value_of v) (value_of c.in-Pair-value.second.value)) (sym c.deref-in-Pair-value-2.ensures)
    ∙ ap (λ (v : CoreValue). Pair (value_of c.deref-in-Pair-value-2.result.now) (value_of v)) (sym c.deref-in-Pair-value.ensures)) refl refl in
    paired_cells c.args.types.now (cells_of c.args.cells.now.items) c.args.part first second c.args.parts.now.items c.push-in-Pair-value.new.self.items c.push-in-Pair-value-2.new.self.items made.cells
    c.in_ok-push-in-Pair-value.ensures.items c.in_ok-push-in-Pair-value-2.ensures.items

pub returns-in_ok-push-in-Pair-value-2-clause-parts : goal.returns-in_ok-push-in-Pair-value-2-clause-parts
returns-in_ok-push-in-Pair-value-2-clause-parts c =
    let first : Part = record { value = c.deref-in-Pair-value-2.result; kind = c.in-Product.left } in
    let second : Part = record { value = c.deref-in-Pair-value.result; kind = c.in-Product.right } in
    let made : IsPaired c.args.types.now c.args.part first second =
    as_pair c.args.types.now c.args.part first second c.in-Product.left c.in-Product.right c.requires.part c.in-Product.ensures.shape (omega (arith, c.in-Product.ensures.shape.parts, c.requires.part.there))
    (omega (arith, c.in-Product.ensures.shape.parts, c.requires.part.there))
    (ap value_of c.in-Pair-value.is ∙ ap (λ (v : CoreValue). Pair (value_of v) (value_of c.in-Pair-value.second.value)) (sym c.deref-in-Pair-value-2.ensures)
    ∙ ap (λ (v : CoreValue). Pair (value_of c.deref-in-Pair-value-2.result.now) (value_of v)) (sym c.deref-in-Pair-value.ensures)) refl refl in
    one_more c.args.types.now c.push-in-Pair-value.new.self.items c.push-in-Pair-value-2.new.self.items first c.in_ok-push-in-Pair-value-2.ensures.items
    (one_more c.args.types.now c.args.parts.now.items c.push-in-Pair-value.new.self.items second c.in_ok-push-in-Pair-value.ensures.items c.requires.parts made.other) made.one

pub returns-in_ok-push-in-Pair-value-2-clause-less : goal.returns-in_ok-push-in-Pair-value-2-clause-less
returns-in_ok-push-in-Pair-value-2-clause-less c =
    let first : Part = record { value = c.deref-in-Pair-value-2.result; kind = c.in-Product.left } in
    let second : Part = record { value = c.deref-in-Pair-value.result; kind = c.in-Product.right } in
    let made : IsPaired c.args.types.now c.args.part first second =
    as_pair c.args.types.now c.args.part first second c.in-Product.left c.in-Product.right c.requires.part c.in-Product.ensures.shape (omega (arith, c.in-Product.ensures.shape.parts, c.requires.part.there))
    (omega (arith, c.in-Product.ensures.shape.parts, c.requires.part.there))
    (ap value_of c.in-Pair-value.is ∙ ap (λ (v : CoreValue). Pair (value_of v) (value_of c.in-Pair-value.second.value)) (sym c.deref-in-Pair-value-2.ensures)
    ∙ ap (λ (v : CoreValue). Pair (value_of c.deref-in-Pair-value-2.result.now) (value_of v)) (sym c.deref-in-Pair-value.ensures)) refl refl in
    omega (
      arith,
      made.less,
      load_more c.args.parts.now.items c.push-in-Pair-value.new.self.items second c.in_ok-push-in-Pair-value.ensures.items,
      load_more c.push-in-Pair-value.new.self.items c.push-in-Pair-value-2.new.self.items first c.in_ok-push-in-Pair-value-2.ensures.items,
    )
