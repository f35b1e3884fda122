-- What an opening finds, where the disk is transparent.
use Rattle.std.proofs.Common.{◌≡◌, ◌∙◌, ℕ, refl, sym, ap}
use Rattle.std.specs.Prelude.{IsTrue}
use Rattle.arch_disk.specs.Disk.{Device, LeavesOnly}
use Rattle.arch_disk.specs.Image.{Image}
use Rattle.disk_journal.specs.Calls.{CountsNeverFall}
use Rattle.archive_store.specs.Calls.{IsStoreOpened}
use Rattle.archive_store.specs.StoreView.{StoreView}
use Rattle.archive_store.specs.Entries.{FilledArchive}
use Rattle.archive_store.specs.Stands.{StandsFilled, StandsFor}
use Rattle.archive_store.proofs.Exact.{damaged_once, filled_not_damaged, filled_once, none_not_damaged, none_not_stands}
use Rattle.command_plans.specs.Plan.{EachEnd, IsDetermined}
use Rattle.command_runs.specs.Command.{OpeningResult, NoneFound, DamageFound, ArchiveFound, IsOpeningResult, opening_plan, after_opening}
use Rattle.command_runs.specs.Opened.{IsOpenedOn}
use Rattle.command_runs.proofs.OverInputs.{HasRead}

-- what `Store::open` says of a store
pub opened_on : {D : Type 0} {device : Device D} {disk : D} {store : StoreView D} → IsStoreOpened device disk store → device.reads store.disk ≡ device.reads disk
    → LeavesOnly device disk store.opened (device.images disk) → CountsNeverFall device disk store.opened → IsOpenedOn device disk store
opened_on opened reads crash counts = record { opened = opened; reads = reads; crash = crash; counts = counts }

-- with its fills an archive is there, and so without
pub plain_stands : (image : Image) (filled : FilledArchive) → StandsFilled image filled → StandsFor image filled.plain
plain_stands image filled stands = record { filled = filled; plain_is = refl; stands = stands }

-- a disk has one answer to it
pub held_once : {D : Type 0} (device : Device D) (disk : D) (a b : OpeningResult) → IsOpeningResult (device.reads disk) a → IsOpeningResult (device.reads disk) b → a ≡ b
held_once device disk NoneFound NoneFound h k = refl
held_once device disk NoneFound (DamageFound file at) h k = absurd (none_not_damaged (device.reads disk) at h k.1)
held_once device disk NoneFound (ArchiveFound filled) h k = absurd (none_not_stands (device.reads disk) filled.plain h (plain_stands (device.reads disk) filled k))
held_once device disk (DamageFound file at) NoneFound h k = absurd (none_not_damaged (device.reads disk) at k h.1)
held_once device disk (DamageFound file at) (DamageFound other there) h k =
    let one : file ≡ other = h.0 ∙ sym k.0 in let two : at ≡ there = damaged_once (device.reads disk) at there h.1 k.1 in cc
held_once device disk (DamageFound file at) (ArchiveFound filled) h k = absurd (filled_not_damaged (device.reads disk) filled at k h.1)
held_once device disk (ArchiveFound filled) NoneFound h k = absurd (none_not_stands (device.reads disk) filled.plain k (plain_stands (device.reads disk) filled h))
held_once device disk (ArchiveFound filled) (DamageFound file at) h k = absurd (filled_not_damaged (device.reads disk) filled at h k.1)
held_once device disk (ArchiveFound filled) (ArchiveFound other) h k = ap ArchiveFound (filled_once (device.reads disk) filled other h k)

-- an opening is determined where the disk is transparent
pub opens_determined : {D : Type 0} (sources : ℕ) (device : Device D) (disk : D) → IsTrue device.is_transparent → IsDetermined (opening_plan sources device disk)
opens_determined sources device disk known = (λ a b h k. held_once device disk a b (h known) (k known), λ held h. each held)
  where
    each : (held : OpeningResult) → IsDetermined (after_opening sources held)
    each NoneFound = tt
    each (DamageFound file at) = tt
    each (ArchiveFound filled) = tt

-- it asks nothing of the inputs, of which so many sources were given before
pub opening_reads : {D : Type 0} (sources : ℕ) (device : Device D) (disk : D) → EachEnd (HasRead sources) (opening_plan sources device disk)
opening_reads sources device disk = ((refl, refl), ((refl, refl), λ held h. each held))
  where
    each : (held : OpeningResult) → EachEnd (HasRead sources) (after_opening sources held)
    each NoneFound = (refl, refl)
    each (DamageFound file at) = (refl, refl)
    each (ArchiveFound filled) = tt
