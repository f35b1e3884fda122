-- The machine over all events.
use Rattle.std.specs.Prelude.{◌≡◌, ℕ, List, [], ◌∷◌, length}
use Rattle.archive_core.specs.declared.event.Event.{Event}
use Rattle.archive_core.specs.declared.event.Event.TheVariants.{Ingest, Begin, Install, Abandon, Retrieve, Replay}
use Rattle.archive_core.specs.declared.reply.Reply.{Reply}
use Rattle.archive_core.specs.Replies.{RepliesToIngest, RepliesToBegin, RepliesToInstall, RepliesToAbandon, RepliesToRequest, RepliesToReplay}
use Rattle.history_items.specs.Items.{rows_in}
use Rattle.history_items.specs.Databases.{database_in, names_in}
use Rattle.interval_fills.specs.Steps.{MachineState}
use Rattle.mdb_items.specs.Database.{Database}

-- In state `old` of an archive whose head has these tables and this database the event has this reply, and `new` comes
-- next. Who calls makes no difference, and who asks changes nothing, and is answered by the database in force, or by the
-- packet names of the history.
abbrev pub MachineStep : ℕ → List (List ℕ) → Database → MachineState → Event → Reply → MachineState → Type 0
MachineStep exponent tables db old (Ingest caller rows) reply new = RepliesToIngest old rows reply new
MachineStep exponent tables db old (Begin caller) reply new = RepliesToBegin exponent old reply new
MachineStep exponent tables db old (Install caller interval base) reply new =
    RepliesToInstall exponent old interval base reply new
MachineStep exponent tables db old (Abandon caller interval) reply new = RepliesToAbandon old interval reply new
MachineStep exponent tables db old (Retrieve caller request) reply new =
    RepliesToRequest (database_in db old.history) (length old.history) (rows_in old.history) request reply × (new ≡ old)
MachineStep exponent tables db old (Replay caller request) reply new =
    RepliesToReplay tables (names_in db old.history) (length old.history) (rows_in old.history) request reply
    × (new ≡ old)

-- these events have these replies, one after the other
abbrev pub MachineRun : ℕ → List (List ℕ) → Database → MachineState → List Event → List Reply → MachineState → Type 0
MachineRun exponent tables db old [] [] new = new ≡ old
MachineRun exponent tables db old [] (reply ∷ replies) new = ⊥
MachineRun exponent tables db old (event ∷ events) [] new = ⊥
MachineRun exponent tables db old (event ∷ events) (reply ∷ replies) new =
    (mid : MachineState) × MachineStep exponent tables db old event reply mid
    × MachineRun exponent tables db mid events replies new
