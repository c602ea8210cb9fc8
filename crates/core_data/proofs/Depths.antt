-- Trees with more to do than a leaf are deeper than one.
use Rattle.std.proofs.Common.{◌<◌, arith}
use Rattle.core_data.specs.Data.{kind_of, value_of}
use Rattle.core_data.specs.Loads.{load, kind_load}
use Rattle.core_data.specs.declared.data.CoreType.{CoreType, size-CoreType}
use Rattle.core_data.specs.declared.data.CoreType.TheVariants as kind
use Rattle.core_data.specs.declared.data.CoreType.TheViews as kind_views
use Rattle.core_data.specs.declared.data.CoreValue.{CoreValue, size-CoreValue}
use Rattle.core_data.specs.declared.data.CoreValue.TheVariants as value
use Rattle.core_data.specs.declared.data.CoreValue.TheViews as value_views

value_depth : (v : CoreValue) → 0 < size-CoreValue v
value_depth value.Unit = omega (arith, value_views.deep-Unit)
value_depth (value.Left' p a) = omega (arith, value_views.deep-Left' p a)
value_depth (value.Right' p a) = omega (arith, value_views.deep-Right' p a)
value_depth (value.Pair' p a q b) = omega (arith, value_views.deep-Pair' p a q b)

pub deep_value : (v : CoreValue) → 1 < load (value_of v) → 1 < size-CoreValue v
deep_value value.Unit h = absurd (omega arith)
deep_value (value.Left' p a) h = omega (arith, value_views.deep-Left' p a, value_depth a)
deep_value (value.Right' p a) h = omega (arith, value_views.deep-Right' p a, value_depth a)
deep_value (value.Pair' p a q b) h = omega (arith, value_views.deep-Pair' p a q b, value_depth a)

kind_depth : (k : CoreType) → 0 < size-CoreType k
kind_depth kind.One = omega (arith, kind_views.deep-One)
kind_depth (kind.Sum' p a q b) = omega (arith, kind_views.deep-Sum' p a q b)
kind_depth (kind.Product' p a q b) = omega (arith, kind_views.deep-Product' p a q b)

pub deep_kind : (k : CoreType) → 1 < kind_load (kind_of k) → 1 < size-CoreType k
deep_kind kind.One h = absurd (omega arith)
deep_kind (kind.Sum' p a q b) h = omega (arith, kind_views.deep-Sum' p a q b, kind_depth a)
deep_kind (kind.Product' p a q b) h = omega (arith, kind_views.deep-Product' p a q b, kind_depth a)
