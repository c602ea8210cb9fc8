-- What the parts of the code take and answer.
use Rattle.std.specs.Option.{option_copied}
use Rattle.hl_scope.specs.declared.refusal.CheckRefusal.{CheckRefusal}
use Rattle.hl_scope.specs.declared.refusal.CheckRefusal.TheVariants.{Rule, Limit, OutOfMemory}
use Rattle.simplicityhl.specs.Written.{breaks_rule, breaks_limit}
use Rattle.command_outcome.specs.Answer.{Answer, Never}
use Rattle.checked_source.specs.declared.source.AskedSource.{AskedSource}
use Rattle.checked_source.specs.Steps.{Asked, IsBadProgram}

abbrev pub asking_of : AskedSource → Asked
asking_of a = record { function = a.function.now; edition = a.edition; args = option_copied a.args }

-- a refusal of the checker, as an answer
abbrev pub IsUnchecked : CheckRefusal → Answer
IsUnchecked (Rule rule span) = IsBadProgram (breaks_rule rule span)
IsUnchecked (Limit limit span) = IsBadProgram (breaks_limit limit span)
IsUnchecked OutOfMemory = Never
