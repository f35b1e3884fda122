-- How a sheet of asks is answered.
use Rattle.std.specs.Prelude.{◌≡◌, ◌⊎◌, List, Result, Option, IsSomeAnd}
use Rattle.arch_disk.specs.Disk.{Device}
use Rattle.asks.specs.declared.ask.Ask.{Ask}
use Rattle.refusals.specs.declared.refusal.Refusal.{Refusal}
use Rattle.archive_store.specs.StoreView.{StoreView, archive_of, filled_of}
use Rattle.outer_traits.specs.States.{OutputState}
use Rattle.ask_answers.specs.Asks.{AreAnswerable, AreRefused, archive_asks_text}
use Rattle.command_runs.specs.Reading.{IsRowsText, WasRead}

-- how a sheet of asks is answered over a store, and what that leaves: it is refused, nothing was written and nothing
-- read, or its answers are printed
abbrev pub IsSheetReply : {D : Type 0} → Device D → StoreView D → StoreView D → Result (List Ask) Refusal
    → Option Refusal → OutputState → OutputState → Type 0
IsSheetReply device old new sheet refusal before after =
    (IsSomeAnd refusal (AreRefused (archive_of old) sheet) × (after ≡ before) × (new ≡ old))
    ⊎ ((asks : List Ask) × AreAnswerable (archive_of old) sheet asks
    × IsRowsText device old refusal before after (archive_asks_text (filled_of old) 1 asks)
    × WasRead device old new refusal)
