-- Which reply each event has in a state, and which state comes next.
use Rattle.std.specs.Prelude.{◌≡◌, ℕ, List, Some}
use Rattle.asks.specs.declared.ask.ReplayRequest.{ReplayRequest}
use Rattle.asks.specs.declared.ask.Request.{Request}
use Rattle.intervals.specs.declared.interval.Interval.{Interval}
use Rattle.arch_types.specs.declared.row.Row.{Row}
use Rattle.archive_core.specs.declared.reply.Reply.{Reply}
use Rattle.archive_core.specs.declared.reply.Reply.TheVariants.{Ingested, NoTask, Task, Void, Installed, Abandoned, Answered, Replayed, Refused}
use Rattle.archive_core.specs.Asks.{IsAnswered, IsReplayed}
use Rattle.asks.specs.Refusals.{replay_refusal, request_refusal}
use Rattle.interval_fills.specs.Steps.{MachineState, Ingests, AllLateInFlight, BeginsFill, IsFillBase, InstallsFill, given_up}
use Rattle.mdb_items.specs.Database.{Database}
use Rattle.mdb_items.specs.Texts.{Text}

-- to rows that come in: what became of each
abbrev pub RepliesToIngest : MachineState → List Row → Reply → MachineState → Type 0
RepliesToIngest old rows (Ingested outcomes) new = Ingests old rows outcomes new
RepliesToIngest old rows _ new = ⊥

-- to who asks for a task: the next interval to fill, or that each late interval is in flight
abbrev pub RepliesToBegin : ℕ → MachineState → Reply → MachineState → Type 0
RepliesToBegin exponent old NoTask new = AllLateInFlight exponent old × (new ≡ old)
RepliesToBegin exponent old (Task interval base rows) new = BeginsFill exponent old interval base rows new
RepliesToBegin exponent old _ new = ⊥

-- to a fill that is there: what became of it, or that no fill could have its base
abbrev pub RepliesToInstall : ℕ → MachineState → Interval → ℕ → Reply → MachineState → Type 0
RepliesToInstall exponent old interval base Void new = (IsFillBase exponent interval base old.history → ⊥) × (new ≡ old)
RepliesToInstall exponent old interval base (Installed became) new =
    IsFillBase exponent interval base old.history × InstallsFill exponent old interval base became new
RepliesToInstall exponent old interval base _ new = ⊥

-- to a task that is given up
abbrev pub RepliesToAbandon : MachineState → Interval → Reply → MachineState → Type 0
RepliesToAbandon old interval Abandoned new = new ≡ given_up interval old
RepliesToAbandon old interval _ new = ⊥

-- to who asks for values
abbrev pub RepliesToRequest : Database → ℕ → List Row → Request → Reply → Type 0
RepliesToRequest db front rows request (Answered answer) = IsAnswered db front rows request answer
RepliesToRequest db front rows request (Refused refusal) = request_refusal db request ≡ Some refusal
RepliesToRequest db front rows request _ = ⊥

-- to who asks for rows
abbrev pub RepliesToReplay : List Text → List Text → ℕ → List Row → ReplayRequest → Reply → Type 0
RepliesToReplay tables names front history request (Replayed told rows) =
    IsReplayed tables names front history request told rows
RepliesToReplay tables names front history request (Refused refusal) = replay_refusal tables request ≡ Some refusal
RepliesToReplay tables names front history request _ = ⊥
