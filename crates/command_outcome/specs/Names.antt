-- The names of rules, of limits, and of what is wrong with a source or with data, as they are printed.
use Rattle.std.specs.Prelude.{ℕ, List, codes}
use Rattle.hl_syntax.specs.declared.rules.Limit.{Limit}
use Rattle.hl_syntax.specs.declared.rules.Limit.TheVariants as limit
use Rattle.hl_syntax.specs.declared.rules.Rule.{Rule}
use Rattle.hl_syntax.specs.declared.rules.Rule.TheVariants as rule
use Rattle.command_outcome.specs.declared.names.DataCause.{DataCause}
use Rattle.command_outcome.specs.declared.names.DataCause.TheVariants as data_causes
use Rattle.command_outcome.specs.declared.names.SourceCause.{SourceCause}
use Rattle.command_outcome.specs.declared.names.SourceCause.TheVariants as causes

abbrev pub rule_name : Rule → List ℕ
rule_name rule.K1 = codes "K1"
rule_name rule.K2 = codes "K2"
rule_name rule.K3 = codes "K3"
rule_name rule.K4 = codes "K4"
rule_name rule.K5 = codes "K5"
rule_name rule.K6 = codes "K6"
rule_name rule.K7 = codes "K7"
rule_name rule.K8 = codes "K8"
rule_name rule.K9 = codes "K9"
rule_name rule.K10 = codes "K10"
rule_name rule.K11 = codes "K11"
rule_name rule.K12 = codes "K12"
rule_name rule.K13 = codes "K13"
rule_name rule.K14 = codes "K14"
rule_name rule.K15 = codes "K15"
rule_name rule.K16 = codes "K16"
rule_name rule.K17 = codes "K17"
rule_name rule.K18 = codes "K18"
rule_name rule.K19 = codes "K19"
rule_name rule.K20 = codes "K20"
rule_name rule.K21 = codes "K21"
rule_name rule.K22 = codes "K22"
rule_name rule.K23 = codes "K23"
rule_name rule.K24 = codes "K24"

abbrev pub limit_name : Limit → List ℕ
limit_name limit.L1 = codes "L1"
limit_name limit.L2 = codes "L2"
limit_name limit.L3 = codes "L3"
limit_name limit.L4 = codes "L4"
limit_name limit.L5 = codes "L5"
limit_name limit.L6 = codes "L6"
limit_name limit.L7 = codes "L7"
limit_name limit.L8 = codes "L8"
limit_name limit.L9 = codes "L9"
limit_name limit.L10 = codes "L10"

abbrev pub source_cause : SourceCause → List ℕ
source_cause causes.NotUtf8 = codes "NotUtf8"
source_cause causes.BadCharacter = codes "BadCharacter"
source_cause causes.OpenComment = codes "OpenComment"
source_cause causes.Syntax = codes "Syntax"
source_cause (causes.Broken rule) = rule_name rule
source_cause causes.NotYet = codes "NotYet"

abbrev pub data_cause : DataCause → List ℕ
data_cause data_causes.NotJson = codes "NotJson"
data_cause data_causes.Missing = codes "Missing"
data_cause data_causes.BadEntry = codes "BadEntry"
data_cause data_causes.TypeDiffers = codes "TypeDiffers"
data_cause data_causes.BadValue = codes "BadValue"
data_cause data_causes.NotValue = codes "NotValue"
