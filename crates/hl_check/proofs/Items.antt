-- Items one after the other.
use Rattle.std.proofs.Common.{◌≡◌, ℕ, ◌+◌, ◌<◌, ◌≤◌, List, length, drop, get_or, refl, Ok, [], arith}
use Rattle.hl_syntax.specs.declared.kinds.TypedName.{TypedName}
use Rattle.simplicityhl.specs.Written.{then_walk}
use Rattle.hl_syntax.specs.declared.tree.Item.{Item}
use Rattle.hl_data.specs.declared.value.Entry.{Entry}
use Rattle.hl_rules.specs.Programs.{Known, item_walk, items_walk}
use Rattle.hl_check.specs.Knowns.{IsSoundKnown}
use Rattle.hl_types.proofs.Drops.{drop_item, drop_past}

pub item_next : (entries : List Entry) (edition : ℕ) (known : Known) (items : List Item) (i : ℕ) (item : Item) (met : List TypedName) → i < length items → item ≡ get_or items i item →
    items_walk entries edition known (drop i items) met ≡ then_walk (item_walk entries edition known item met) (λ next. items_walk entries edition next.0 (drop (i + 1) items) next.1)
item_next entries edition known items i item met less is = let e = drop_item items i item less is in rw e refl

pub no_item : (entries : List Entry) (edition : ℕ) (known : Known) (items : List Item) (i : ℕ) (met : List TypedName) → length items ≤ i → items_walk entries edition known (drop i items) met ≡ Ok (known, met)
no_item entries edition known items i met past = let e = drop_past i items past in rw e refl

pub nothing_sound : IsSoundKnown (record { aliases = []; functions = [] })
nothing_sound = record { aliases = λ i d less. absurd (omega arith); functions = λ i d less. absurd (omega arith) }
