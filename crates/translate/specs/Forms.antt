-- What is made of the terms of parts, for forms that have one part, and for those that have several.
use Rattle.std.specs.Prelude.{◌≡◌, ◌<◌, ℕ, ◌^◌, List, map, Some, find, bytes_eq, option_map}
use Rattle.hl_data.specs.declared.typed.TypedExpr.{TypedExpr}
use Rattle.hl_data.specs.declared.typed.TypedForm.{TypedForm}
use Rattle.hl_data.specs.declared.typed.TypedForm.TheVariants as form
use Rattle.hl_data.specs.declared.typed.TypedFunction.{TypedFunction}
use Rattle.hl_meaning.specs.Literals.{literal_value}
use Rattle.hl_syntax.specs.declared.kinds.HlType.{HlType}
use Rattle.hl_syntax.specs.declared.kinds.HlType.TheVariants as kind
use Rattle.hl_syntax.specs.declared.kinds.HlType.TheViews.{out-HlType}
use Rattle.hl_terms.specs.Translated.{asserted, unwrapped_left, unwrapped_right, none_tested, left_of, right_of, list_at, called, function_named}
use Rattle.hl_expansions.specs.Expansions.{expansions}
use Rattle.simplicity.specs.Canon.{Declared}
use Rattle.simplicity.specs.Makes.{tuple, to_left, to_right}
use Rattle.simplicity.specs.Types.{Kind, One}
use Rattle.simplicityhl.specs.Kinds as kinds
use Rattle.simplicityhl.specs.Kinds.{IsSound}
use Rattle.term_builder.specs.State.{State}
use Rattle.term_builder.specs.Steps.{with_made, on_last, on_last_many}
use Rattle.translate.specs.Here.{terms_of, witnesses_in, before_of}
use Rattle.translate.specs.declared.finish.Finish.{Finish}
use Rattle.translate.specs.declared.finish.Finish.TheVariants as how
use Rattle.translate.specs.declared.gather.Gather.{Gather}
use Rattle.translate.specs.declared.gather.Gather.TheVariants as all
use Rattle.translate.specs.declared.place.Place.{Place}

-- One part.

abbrev pub form_of : Finish → TypedExpr → TypedForm
form_of how.Assert e = form.Assert e
form_of how.Dbg e = form.Dbg e
form_of (how.Into from) e = form.Into from.now e
form_of how.Unwrap e = form.Unwrap e
form_of (how.UnwrapLeft other) e = form.UnwrapLeft other.now e
form_of (how.UnwrapRight other) e = form.UnwrapRight other.now e
form_of (how.IsNone item) e = form.IsNone item.now e
form_of how.Left e = form.Left e
form_of how.Right e = form.Right e
form_of how.Some e = form.Some e

abbrev pub finished : Finish → HlType → Kind → Declared → Declared
finished how.Assert k a t = asserted t a
finished how.Dbg k a t = t
finished (how.Into from) k a t = t
finished how.Unwrap k a t = unwrapped_right One (kinds.form k) t a
finished (how.UnwrapLeft other) k a t = unwrapped_left (kinds.form k) (kinds.form other.now) t a
finished (how.UnwrapRight other) k a t = unwrapped_right (kinds.form other.now) (kinds.form k) t a
finished (how.IsNone item) k a t = none_tested (kinds.form item.now) t a
finished how.Left k a t = to_left (right_of (out-HlType k)) t
finished how.Right k a t = to_right (left_of (out-HlType k)) t
finished how.Some k a t = to_right One t

abbrev pub finish_last : Finish → HlType → State → State
finish_last how k s = with_made (on_last (finished how k s.here) s.made) s

-- the types that the form names are sound
abbrev pub IsSoundFinish : Finish → Type 0
IsSoundFinish (how.UnwrapLeft other) = IsSound other.now
IsSoundFinish (how.UnwrapRight other) = IsSound other.now
IsSoundFinish (how.IsNone item) = IsSound item.now
IsSoundFinish _ = Unit {0}

-- Several parts.

abbrev pub form_of_all : Gather → List TypedExpr → TypedForm
form_of_all all.Tuple es = form.Tuple es
form_of_all all.Array es = form.Array es
form_of_all all.List es = form.List es
form_of_all (all.Call name) es = form.Call name.now es

abbrev pub gathered : Place → Gather → HlType → Kind → List Declared → Declared
gathered p all.Tuple k a ts = tuple a ts
gathered p all.Array k a ts = tuple a ts
gathered p all.List k a ts = list_at (out-HlType k) a ts
gathered p (all.Call name) k a ts = called (option_map (λ f. f.term) (function_named expansions (terms_of p) (witnesses_in p) name.now)) (tuple a ts) k

abbrev pub gather_last : Place → Gather → HlType → ℕ → State → State
gather_last p how k count s = with_made (on_last_many count (gathered p how k s.here) s.made) s

-- the type is that of a list, and the function is there
abbrev pub MayGather : Place → Gather → HlType → Type 0
MayGather p all.List k = (item : HlType) × (bound : ℕ) × (k ≡ kind.List item bound)
MayGather p (all.Call name) k = (f : TypedFunction) × (find (λ g. bytes_eq name.now g.name) (before_of p) ≡ Some f)
MayGather p _ k = Unit {0}

-- a number's type and a word that spells a number of its width
abbrev pub IsSpelled : HlType → List ℕ → Type 0
IsSpelled k word = (width : ℕ) × (k ≡ kind.UInt width) × (literal_value word < 2 ^ width)
