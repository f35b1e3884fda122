-- What a filler's works come to.
use Rattle.std.proofs.Common.{Result, IfErr, OnOk}
use Rattle.arch_disk.specs.Disk.{Device}
use Rattle.refusals.specs.declared.refusal.Refusal.{Refusal}
use Rattle.history_items.specs.declared.fills.Fill.{Fill}
use Rattle.history_items.specs.declared.items.Item.{Item}
use Rattle.backfiller.proofs.Steps.{woken_cause, woken_step}
use Rattle.turn_cell.specs.Pass.{PassView}
use Rattle.archive_store.specs.StoreView.{StoreView}
use Rattle.live_fills.specs.Filler.{AreWorksDone, FillsAlone, IsLastRefused, IsRefusalOf}
use Rattle.live_fills.specs.LiveTarget.{BeginsInTurn, InstallsInTurn}
use Rattle.live_fills.proofs.Alone.{alone_on, alone_same, begin_alone, install_alone}
use Rattle.live_fills.proofs.Causes.{begin_cause, install_cause}

module _ {D T X : Type 0} (device : Device D) (first : StoreView D) (old new : PassView Item Fill T) (answer : Result X Refusal) where
  pub run_alone : OnOk answer (AreWorksDone device first old new) → IfErr answer (IsLastRefused device first old new) → FillsAlone first old new
  run_alone done last =
      woken_step (BeginsInTurn device first) (InstallsInTurn device first) (FillsAlone first) (alone_same first) (alone_on first)
      (λ a b began turn. begin_alone device first a b began turn)
      (λ a b task became turn. install_alone device first a b task became turn)
      old new answer done last

  pub run_cause : IfErr answer (IsLastRefused device first old new) → IfErr answer (IsRefusalOf device first new)
  run_cause last =
      woken_cause (BeginsInTurn device first) (InstallsInTurn device first) (IsRefusalOf device first)
      (λ a b refusal turn. begin_cause device first a b refusal turn)
      (λ a b task refusal turn. install_cause device first a b task refusal turn)
      old new answer last
