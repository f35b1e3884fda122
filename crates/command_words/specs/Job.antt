-- What the words of a command line ask.
use Rattle.std.specs.Prelude.{◌≡◌, ◌≤◌, ◌⊎◌, ℕ, false, List, [], ◌∷◌, length, Option, Some, None, option_map, option_and_then, codes, nat_le, if◌then◌else◌}
use Rattle.std.specs.Str.{bytes_eq}
use mathlib.Core.Logic.{inl, inr}
use Rattle.refusals.specs.declared.refusal.Refusal.{Refusal}
use Rattle.refusals.specs.declared.refusal.Refusal.TheVariants.{Usage, OutOfMemory}
use Rattle.clap.specs.Walk.{Row, first_of}
use Rattle.clap.specs.Simple.{App}
use Rattle.text_forms.specs.Digits.{digits_at_most}
use Rattle.command_words.specs.declared.job.CommandName.{CommandName}
use Rattle.command_words.specs.declared.job.CommandName.TheVariants as name
use Rattle.command_words.specs.Words.{rows_of_words}
use Rattle.command_words.specs.Given.{one_of_two, repeated_words}
use Rattle.command_words.specs.Arguments.{command_app, option_rule, optional_word_rule, repeated_rule, word_rule}

-- the names of three sheets and of a dump, and the name of a parameter
pub record ValuesWords : Type 0 where
  pub parameters : List ℕ
  pub calibrations : List ℕ
  pub containers : List ℕ
  pub dump : List ℕ
  pub name : List ℕ

-- the names of three sheets, and of a script that creates tables, where one is given
pub record CreateWords : Type 0 where
  pub parameters : List ℕ
  pub calibrations : List ℕ
  pub containers : List ℕ
  pub script : Option (List ℕ)

-- the names of dumps, the number of the first one's link, how many fillers there are, and the names of a sheet of asks
-- and of a script that routes, where they are given
pub record LoadWords : Type 0 where
  pub dumps : List (List ℕ)
  pub link : ℕ
  pub fillers : ℕ
  pub asks : Option (List ℕ)
  pub route : Option (List ℕ)

-- a job of the archive's program, with the words that it was given
pub data Job : Type 0 where
  Scan : List ℕ → Job
  Values : ValuesWords → Job
  Create : CreateWords → Job
  Load : LoadWords → Job
  -- by the name of a sheet of asks
  Query : List ℕ → Job
  -- by the name of a script
  Sql : List ℕ → Job
  Recover : Job
  Verify : Job
  -- by the seed of the packets that are made
  Make : ℕ → Job

-- ---- what each command's words ask

-- the job of `values`, where each of its words is there
abbrev pub values_words : Option (List ℕ) → Option (List ℕ) → Option (List ℕ) → Option (List ℕ) → Option (List ℕ) → Option Job
values_words (Some parameters) (Some calibrations) (Some containers) (Some dump) (Some name) =
    Some (Values (record { parameters = parameters; calibrations = calibrations; containers = containers; dump = dump; name = name }))
values_words parameters calibrations containers dump name = None

-- the job of `create`, where the sheets are there; there may be a script
abbrev pub create_words : Option (List ℕ) → Option (List ℕ) → Option (List ℕ) → Option (List ℕ) → Option Job
create_words (Some parameters) (Some calibrations) (Some containers) script =
    Some (Create (record { parameters = parameters; calibrations = calibrations; containers = containers; script = script }))
create_words parameters calibrations containers script = None

-- the numbers from 1 on
abbrev pub from_one : ℕ → Option ℕ
from_one n = if nat_le 1 n then Some n else None

-- the number, from 1 on, that 1 to 19 digits spell, or 1 where none is given
abbrev pub number_or_one : Option (List ℕ) → Option ℕ
number_or_one None = Some 1
number_or_one (Some word) = option_and_then from_one (digits_at_most 19 word)

-- the job of `load`, where there are dumps, and the numbers of a link and of fillers; there may be a sheet of asks, and
-- a script that routes
abbrev pub load_words : Option (List (List ℕ)) → Option ℕ → Option ℕ → Option (List ℕ) → Option (List ℕ) → Option Job
load_words (Some dumps) (Some link) (Some fillers) asks route =
    Some (Load (record { dumps = dumps; link = link; fillers = fillers; asks = asks; route = route }))
load_words dumps link fillers asks route = None

-- the job of `query`, by the name of a script or of a sheet of asks
abbrev pub query_words : List ℕ ⊎ List ℕ → Job
query_words (inl script) = Sql script
query_words (inr asks) = Query asks

-- the numbers of 32 bits
abbrev pub of_32_bits : ℕ → Option ℕ
of_32_bits n = if nat_le n 4294967295 then Some n else None

-- the number of 32 bits that 1 to 19 digits spell
abbrev pub seed_of : List ℕ → Option ℕ
seed_of word = option_and_then of_32_bits (digits_at_most 19 word)

-- ---- the commands

-- the command that a word asks for
abbrev pub command_named : List ℕ → Option CommandName
command_named word =
    if bytes_eq word (codes "scan") then Some name.Scan
    else if bytes_eq word (codes "values") then Some name.Values
    else if bytes_eq word (codes "create") then Some name.Create
    else if bytes_eq word (codes "load") then Some name.Load
    else if bytes_eq word (codes "query") then Some name.Query
    else if bytes_eq word (codes "recover") then Some name.Recover
    else if bytes_eq word (codes "verify") then Some name.Verify
    else if bytes_eq word (codes "make") then Some name.Make
    else None

-- the words that a command takes: `scan DUMP`, `values PARAMETERS CALIBRATIONS CONTAINERS DUMP NAME`, `create
-- PARAMETERS CALIBRATIONS CONTAINERS [SCRIPT]`, `load [--route FILE] [--ask FILE] [--fillers N] [--link N] DUMP..`,
-- `query --sql FILE` or `query --ask FILE`, `recover`, `verify`,
-- `make NUMBER`
abbrev pub app_of_command : CommandName → App
app_of_command name.Scan = command_app (codes "scan") (word_rule (codes "dump") ∷ [])
app_of_command name.Values =
    command_app (codes "values")
    (word_rule (codes "parameters") ∷ word_rule (codes "calibrations") ∷ word_rule (codes "containers") ∷ word_rule (codes "dump") ∷ word_rule (codes "name") ∷ [])
app_of_command name.Create =
    command_app (codes "create") (word_rule (codes "parameters") ∷ word_rule (codes "calibrations") ∷ word_rule (codes "containers") ∷ optional_word_rule (codes "script") ∷ [])
app_of_command name.Load =
    command_app (codes "load")
    (repeated_rule (codes "dump") ∷ option_rule (codes "link") false ∷ option_rule (codes "fillers") false
    ∷ option_rule (codes "ask") false ∷ option_rule (codes "route") false ∷ [])
app_of_command name.Query = command_app (codes "query") (option_rule (codes "sql") false ∷ option_rule (codes "ask") false ∷ [])
app_of_command name.Recover = command_app (codes "recover") []
app_of_command name.Verify = command_app (codes "verify") []
app_of_command name.Make = command_app (codes "make") (word_rule (codes "number") ∷ [])

-- the job of a command, by the words that clap found
abbrev pub job_in : CommandName → List Row → Option Job
job_in name.Scan rows = option_map Scan (first_of (codes "dump") rows)
job_in name.Values rows =
    values_words (first_of (codes "parameters") rows) (first_of (codes "calibrations") rows) (first_of (codes "containers") rows) (first_of (codes "dump") rows) (first_of (codes "name") rows)
job_in name.Create rows =
    create_words (first_of (codes "parameters") rows) (first_of (codes "calibrations") rows) (first_of (codes "containers") rows) (first_of (codes "script") rows)
job_in name.Load rows =
    load_words (repeated_words (codes "dump") rows) (number_or_one (first_of (codes "link") rows))
    (number_or_one (first_of (codes "fillers") rows)) (first_of (codes "ask") rows)
    (first_of (codes "route") rows)
job_in name.Query rows = option_map query_words (one_of_two (first_of (codes "sql") rows) (first_of (codes "ask") rows))
job_in name.Recover rows = Some Recover
job_in name.Verify rows = Some Verify
job_in name.Make rows = option_map Make (option_and_then seed_of (first_of (codes "number") rows))

-- the job of the words behind a command, where they are one
abbrev pub command_job : CommandName → List (List ℕ) → Option Job
command_job command words = option_and_then (job_in command) (rows_of_words (app_of_command command) words)

-- the job of the words, where they are one: the command, and behind it what it wants
abbrev pub job_of : List (List ℕ) → Option Job
job_of [] = None
job_of (word ∷ words) = option_and_then (λ command. command_job command words) (command_named word)

-- Words of a load have a dump or more, and the numbers of links and of fillers begin at 1.
pub record AreLoadWords (words : LoadWords) : Type 0 where
  pub dumps : 1 ≤ length words.dumps
  pub link : 1 ≤ words.link
  pub fillers : 1 ≤ words.fillers

-- where packets are loaded, the words are those of a load
abbrev pub HasLoadWords : Job → Type 0
HasLoadWords (Load words) = AreLoadWords words
HasLoadWords other = Unit {0}

-- why there is no job: the words are none, or want of memory
abbrev pub IsNoJob : Option Job → Refusal → Type 0
IsNoJob job Usage = job ≡ None
IsNoJob job OutOfMemory = Unit {0}
IsNoJob job other = ⊥
