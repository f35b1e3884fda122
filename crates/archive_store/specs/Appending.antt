-- What an append of an entry leaves where a write failed.
use Rattle.std.specs.Prelude.{◌≡◌, ℕ, ◌-◌, ◌^◌, true, List, [], ◌∷◌, ◌++◌, min}
use Rattle.arch_disk.specs.Disk.{Device}
use Rattle.disk_journal.specs.Calls.{IsAppendFailed}
use Rattle.disk_journal.specs.declared.journal.Journal.{Journal}
use Rattle.history_items.specs.declared.fills.Addition.{Addition}
use Rattle.history_items.specs.declared.fills.Fill.{Fill}
use Rattle.history_items.specs.declared.fills.Fill.TheVariants.{Fault}

-- a write of a record failed, and the fill list has a fault more, at this count, which holds what would have been added
pub record NotesFailure {D : Type 0} (device : Device D) (old new : Journal) (before after : D) (body : List ℕ)
    (fills noted : List Fill) (addition : Addition) (count : ℕ) : Type 0 where
  pub failed : IsAppendFailed device old new before after body
  pub count_is : count ≡ min (device.fault_count after) (2 ^ 64 - 1)
  pub fault : noted ≡ fills ++ Fault count true addition ∷ []
