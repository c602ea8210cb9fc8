-- What the steps lead to.
use Rattle.std.proofs.Common.{◌≡◌, ℕ, List, length, Option, Some, None, Result, Ok, Err, refl, sym, ap, ◌∙◌, subst}
use Rattle.hl_data.specs.declared.value.Entry.{Entry}
use Rattle.hl_files.specs.Params.{param_names}
use Rattle.hl_files.specs.Reads.{ReadsEntries, ReadsWanted}
use Rattle.hl_files.specs.declared.refusal.TextRefusal.{TextRefusal}
use Rattle.hl_files.specs.declared.refusal.WantedRefusal.{WantedRefusal}
use Rattle.hl_rules.specs.Programs.{Checked, checked}
use Rattle.hl_scope.specs.Checks as checks
use Rattle.hl_scope.specs.declared.refusal.CheckRefusal.{CheckRefusal}
use Rattle.hl_scope.specs.declared.refusal.CheckRefusal.TheVariants as refusal
use Rattle.hl_syntax.specs.declared.kinds.TypedName.{TypedName}
use Rattle.hl_syntax.specs.declared.tree.Item.{Item}
use Rattle.simplicityhl.specs.Written.{Broken, breaks_rule, breaks_limit}
use Rattle.command_outcome.specs.declared.status.Status.{Status}
use Rattle.command_outcome.specs.declared.stop.Stop.{Stop}
use Rattle.command_outcome.specs.Answer.{Answer, Never}
use Rattle.command_outcome.specs.Leads.{Step, Exactly, Leads}
use Rattle.command_outcome.specs.Source.{IsSource}
use Rattle.command_outcome.specs.Stops.{Stops, IsRead}
use Rattle.command_outcome.proofs.Leading.{Grows, Then, led_then, stopped_then, grows_then, grows_source, source_leads}
use Rattle.command_outcome.proofs.Stopping.{stops_in}
use Rattle.checked_source.specs.Parts.{IsUnchecked}
use Rattle.checked_source.specs.Steps.{AfterArgs, AfterRules, AfterWitnesses, Asked, FromArgs, FromRules, IsArgs, IsBadArgs, IsBadProgram, IsBadWitnesses, IsCheckedSource, IsGivenWitnesses, IsWitnesses, object_of}

-- The parameters' entries.
pub grows_args : (file : List ℕ) (names : List (List ℕ)) → Grows (IsArgs file names)
grows_args file names A B s o e more a = record { found = a.found; read = a.read; answer = after a.found a.answer }
  where
    after : (found : Result (List Entry) TextRefusal) → AfterArgs found A s o e → AfterArgs found B s o e
    after (Ok entries) is = more entries is
    after (Err refusal) is = is

args_read : (file : List ℕ) (names : List (List ℕ)) (entries : List Entry) → ReadsEntries file names (Ok entries) → Leads (IsArgs file names) (Ok entries)
args_read file names entries read = λ s o e. record { found = Ok entries; read = read; answer = refl }

args_stop : (file : List ℕ) (names : List (List ℕ)) (refusal : TextRefusal) (stop : Stop) → ReadsEntries file names (Err refusal) → Stops (IsBadArgs refusal) stop → Leads {X = List Entry} (IsArgs file names) (Err stop)
args_stop file names refusal stop read is = stops_in (IsBadArgs refusal) (IsArgs file names (λ _. Never)) stop (λ s o e a. record { found = Err refusal; read = read; answer = a }) is

-- Rules and limits.
pub grows_rules : (found : Result Checked Broken) → Grows (AfterRules found)
grows_rules (Ok program) A B s o e more a = more program a
grows_rules (Err broken) A B s o e more a = a

pub rules_pass : (found : Result Checked Broken) (program : Checked) → found ≡ Ok program → Leads (AfterRules found) (Ok program)
rules_pass found program is = rw is (λ s o e. refl)

pub rules_stop : (found : Result Checked Broken) (r : CheckRefusal) (stop : Stop) → checks.Checks {A = Checked} found (Err r) → Stops (IsUnchecked r) stop → Leads {X = Checked} (AfterRules found) (Err stop)
rules_stop found (refusal.Rule rule span) stop read is = rw read is
rules_stop found (refusal.Limit limit span) stop read is = rw read is
rules_stop found refusal.OutOfMemory stop read is = stops_in Never (AfterRules found (λ _. Never)) stop (λ s o e a. absurd a) is

-- From the entries on.
pub entries_lead : (asked : Asked) (end : ℕ) (tree : List Item) (file : List ℕ) (names : List (List ℕ)) (entries : List Entry) (r : Result Checked Stop) → file ≡ object_of asked.args → names ≡ param_names tree → ReadsEntries file names (Ok entries) → Leads (FromRules asked end tree entries) r → Leads (FromArgs asked end tree) r
entries_lead asked end tree file names entries r same equal read rest =
    let read_is : ReadsEntries (object_of asked.args) (param_names tree) (Ok entries) = subst (λ f. ReadsEntries f (param_names tree) (Ok entries)) same (subst (λ ns. ReadsEntries file ns (Ok entries)) equal read) in
    led_then (IsArgs (object_of asked.args) (param_names tree)) (FromRules asked end tree) entries r (grows_args (object_of asked.args) (param_names tree)) (args_read (object_of asked.args) (param_names tree) entries read_is) rest

pub entries_stop : (asked : Asked) (end : ℕ) (tree : List Item) (file : List ℕ) (names : List (List ℕ)) (refusal : TextRefusal) (stop : Stop) → file ≡ object_of asked.args → names ≡ param_names tree → ReadsEntries file names (Err refusal) → Stops (IsBadArgs refusal) stop → Leads {X = Checked} (FromArgs asked end tree) (Err stop)
entries_stop asked end tree file names refusal stop same equal read is =
    let read_is : ReadsEntries (object_of asked.args) (param_names tree) (Err refusal) = subst (λ f. ReadsEntries f (param_names tree) (Err refusal)) same (subst (λ ns. ReadsEntries file ns (Err refusal)) equal read) in
    stopped_then (IsArgs (object_of asked.args) (param_names tree)) (FromRules asked end tree) stop (grows_args (object_of asked.args) (param_names tree)) (args_stop (object_of asked.args) (param_names tree) refusal stop read_is is)

-- From the source on.
pub grows_checked : (asked : Asked) (text : List ℕ) → Grows (IsCheckedSource asked text)
grows_checked asked text =
    grows_then (IsSource text) (FromArgs asked (length text)) (grows_source text) (λ tree. grows_then (IsArgs (object_of asked.args) (param_names tree)) (FromRules asked (length text) tree) (grows_args (object_of asked.args) (param_names tree)) (λ params. grows_rules (checked tree asked.function params asked.edition (length text))))

pub tree_leads : (asked : Asked) (text : List ℕ) (end : ℕ) (tree : List Item) (r : Result Checked Stop) → IsRead text (Ok tree) → end ≡ length text → Leads (FromArgs asked end tree) r → Leads (IsCheckedSource asked text) r
tree_leads asked text end tree r is whole rest =
    led_then (IsSource text) (FromArgs asked (length text)) tree r (grows_source text) (source_leads text (Ok tree) is) (subst (λ n. Leads (FromArgs asked n tree) r) whole rest)

pub source_stops : (asked : Asked) (text : List ℕ) (stop : Stop) → IsRead text (Err stop) → Leads {X = Checked} (IsCheckedSource asked text) (Err stop)
source_stops asked text stop is = stopped_then (IsSource text) (FromArgs asked (length text)) stop (grows_source text) (source_leads text (Err stop) is)

-- The witnesses' entries.
pub grows_witnesses : (file : List ℕ) (names : List TypedName) → Grows (IsWitnesses file names)
grows_witnesses file names A B s o e more a = record { found = a.found; read = a.read; answer = after a.found a.answer }
  where
    after : (found : Result (List Entry) WantedRefusal) → AfterWitnesses found A s o e → AfterWitnesses found B s o e
    after (Ok entries) is = more entries is
    after (Err refusal) is = is

pub witnesses_read : (file : List ℕ) (names wanted : List TypedName) (entries : List Entry) → names ≡ wanted → ReadsWanted file names (Ok entries) → Leads (IsWitnesses file wanted) (Ok entries)
witnesses_read file names wanted entries same read = λ s o e. record { found = Ok entries; read = subst (λ ns. ReadsWanted file ns (Ok entries)) same read; answer = refl }

pub witnesses_stop : (file : List ℕ) (names wanted : List TypedName) (refusal : WantedRefusal) (stop : Stop) → names ≡ wanted → ReadsWanted file names (Err refusal) → Stops (IsBadWitnesses refusal) stop → Leads {X = List Entry} (IsWitnesses file wanted) (Err stop)
witnesses_stop file names wanted refusal stop same read is =
    stops_in (IsBadWitnesses refusal) (IsWitnesses file wanted (λ _. Never)) stop (λ s o e a. record { found = Err refusal; read = subst (λ ns. ReadsWanted file ns (Err refusal)) same read; answer = a }) is

pub given_read : (file : Option (List ℕ)) (bytes : List ℕ) (names : List TypedName) (entries : List Entry) → file ≡ Some bytes → Leads (IsWitnesses bytes names) (Ok entries) → Leads (IsGivenWitnesses file names) (Ok (Some entries))
given_read file bytes names entries is leads =
    let read : Leads (IsGivenWitnesses (Some bytes) names) (Ok (Some entries)) = λ s o e. grows_witnesses bytes names (Exactly entries) (λ found. Exactly (Some entries) (Some found)) s o e (λ found same. ap Some same) (leads s o e) in
    subst (λ f. Leads (IsGivenWitnesses f names) (Ok (Some entries))) (sym is) read

pub given_stop : (file : Option (List ℕ)) (bytes : List ℕ) (names : List TypedName) (stop : Stop) → file ≡ Some bytes → Leads {X = List Entry} (IsWitnesses bytes names) (Err stop) → Leads {X = Option (List Entry)} (IsGivenWitnesses file names) (Err stop)
given_stop file bytes names stop is stopped = subst (λ f. Leads {X = Option (List Entry)} (IsGivenWitnesses f names) (Err stop)) (sym is) stopped
