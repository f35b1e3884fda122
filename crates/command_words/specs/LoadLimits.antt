-- The limits that the words of a load may pass.
use Rattle.std.specs.Prelude.{ℕ, ◌+◌, ◌-◌, length, Option, Some, None, nat_lt, if◌then◌else◌}
use Rattle.refusals.specs.declared.refusal.Refusal.{Refusal}
use Rattle.refusals.specs.declared.refusal.Refusal.TheVariants.{Limit}
use Rattle.refusals.specs.declared.refusal.Which.{Which}
use Rattle.refusals.specs.declared.refusal.Which.TheVariants.{Dumps, Fillers, Links}
use Rattle.refusals.specs.Limits.{limit_of}
use Rattle.command_words.specs.Job.{LoadWords}

-- the refusal of a quantity that passes its limit
abbrev pub limit_refusal : Which → ℕ → Option Refusal
limit_refusal which n = if nat_lt (limit_of which) n then Some (Limit which (limit_of which)) else None

-- the first of two refusals
abbrev pub first_refusal : Option Refusal → Option Refusal → Option Refusal
first_refusal (Some refusal) other = Some refusal
first_refusal None other = other

-- why the words are refused before anything is opened: they name too many dumps, or else ask for too many fillers
abbrev pub load_limit_refusal : LoadWords → Option Refusal
load_limit_refusal words =
    first_refusal (limit_refusal Dumps (length words.dumps)) (limit_refusal Fillers words.fillers)

-- the number of the last dump's link
abbrev pub last_link : LoadWords → ℕ
last_link words = words.link + (length words.dumps - 1)

-- why there are no links of such numbers: the last one's is too great
abbrev pub links_refusal : LoadWords → Option Refusal
links_refusal words = limit_refusal Links (last_link words)
