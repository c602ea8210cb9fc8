-- What an answer tells of a text.
use Rattle.std.specs.Prelude.{Result, Ok, Err}
use Rattle.hl_scope.specs.declared.refusal.CheckRefusal.{CheckRefusal}
use Rattle.hl_scope.specs.declared.refusal.CheckRefusal.TheVariants.{Rule, Limit, OutOfMemory}
use Rattle.simplicityhl.specs.Written.{Broken, breaks_rule, breaks_limit}

-- the rule or limit that was answered is broken
abbrev pub TellsBroken : {X : Type 0} → (Broken → Type 0) → Result X CheckRefusal → Type 0
TellsBroken IsBroken (Ok x) = Unit {0}
TellsBroken IsBroken (Err (Rule rule span)) = IsBroken (breaks_rule rule span)
TellsBroken IsBroken (Err (Limit limit span)) = IsBroken (breaks_limit limit span)
TellsBroken IsBroken (Err OutOfMemory) = Unit {0}
