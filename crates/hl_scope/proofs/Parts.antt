-- Parts of patterns one after the other.
use Rattle.std.proofs.Common.{◌≡◌, ℕ, ◌+◌, ◌<◌, ◌≤◌, List, length, map, drop, get_or, refl, Ok}
use Rattle.hl_syntax.specs.declared.kinds.HlType.{HlType}
use Rattle.hl_syntax.specs.declared.kinds.TypedName.{TypedName}
use Rattle.hl_syntax.specs.declared.tree.Pattern.{Pattern}
use Rattle.simplicityhl.specs.Written.{then_walk}
use Rattle.hl_rules.specs.Patterns.{pattern_walk, patterns_walk, items_walk}
use Rattle.hl_types.proofs.Drops.{drop_item, drop_past}

pub pattern_next : (parts : List Pattern) (kinds : List HlType) (i : ℕ) (part : Pattern) (kind : HlType) (bound : List TypedName) →
    i < length parts → part ≡ get_or parts i part → i < length kinds → kind ≡ get_or kinds i kind →
    patterns_walk (map pattern_walk (drop i parts)) (drop i kinds) bound
    ≡ then_walk (pattern_walk part kind bound) (λ more. patterns_walk (map pattern_walk (drop (i + 1) parts)) (drop (i + 1) kinds) more)
pattern_next parts kinds i part kind bound less is within at = let e = drop_item parts i part less is in let k = drop_item kinds i kind within at in rw (e, k) refl

pub no_pattern : (parts : List Pattern) (kinds : List HlType) (i : ℕ) (bound : List TypedName) → length parts ≤ i →
    patterns_walk (map pattern_walk (drop i parts)) (drop i kinds) bound ≡ Ok bound
no_pattern parts kinds i bound past = let e = drop_past i parts past in rw e refl

pub item_next : (parts : List Pattern) (item : HlType) (i : ℕ) (part : Pattern) (bound : List TypedName) → i < length parts → part ≡ get_or parts i part →
    items_walk (map pattern_walk (drop i parts)) item bound ≡ then_walk (pattern_walk part item bound) (λ more. items_walk (map pattern_walk (drop (i + 1) parts)) item more)
item_next parts item i part bound less is = let e = drop_item parts i part less is in rw e refl

pub no_item : (parts : List Pattern) (item : HlType) (i : ℕ) (bound : List TypedName) → length parts ≤ i → items_walk (map pattern_walk (drop i parts)) item bound ≡ Ok bound
no_item parts item i bound past = let e = drop_past i parts past in rw e refl
