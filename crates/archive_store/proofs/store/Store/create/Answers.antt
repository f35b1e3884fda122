use Rattle.std.proofs.Common.{◌≡◌, ◌⊎◌, ◌∷◌, [], List, length, ℕ, None, inl, refl, sym, subst}
use Rattle.std.specs.Prelude.{IsTrue}
use Rattle.std.specs.Arc.{arc_value}
use Rattle.arch_disk.proofs.Moments.{weakens, started}
use Rattle.history_items.specs.declared.fills.Fill.{Fill}
use Rattle.history_items.specs.declared.items.Item.{Item}
use Rattle.history_items.specs.Databases.{database_in}
use Rattle.disk_journal.specs.Format.{HasRecords, HoldsNone}
use Rattle.disk_journal.specs.State.{HasOnDisk as JournalHasOnDisk}
use Rattle.intervals.specs.Interval.{format_1_exponent}
use Rattle.fill_tracker.specs.FillTracker.{AreMarksOf}
use Rattle.archive_images.specs.declared.head.Head.{Head}
use Rattle.archive_store.specs.Inside.{StoreInvariant}
use Rattle.archive_store.specs.Calls.{IsStoreCreateRefusal}
use Rattle.archive_images.specs.Stands.{IsSoundImage}
use Rattle.store_fills.proofs.Bases.{none_filled}
use Rattle.archive_reading.proofs.Fillable.{holds_none}
use Rattle.archive_store.proofs.Opened.{kept_made, made_sound, making}
use Rattle.archive_store.proofs.Refusals.{making_refused}
use Rattle.archive_store.proofs.store.Store.create.Goals as goal

pub invariant_of-result : goal.invariant_of-result
invariant_of-result g c =
    let device = g.D.Disk.device in
    let disk = c.create.new.disk in
    let j = c.in-Ok-create.journal in
    let f = c.in-Ok.new_archive in
    let e = c.in-Ok.ensures in
    let keeps = λ (transparent : IsTrue device.is_transparent). subst (λ (b : List ℕ). JournalHasOnDisk device j (b ∷ []) [] disk) e.0 (c.in-Ok-create.ensures.created.records transparent) in
    let done = kept_made device disk j c.args.head c.new-sets.result.filled (none_filled c.new-sets.result.filled c.new-sets.ensures) c.requires.head c.in-Ok-create.ensures.created.no_pending_fault c.in-Ok-create.ensures.created.in_file keeps in (
      subst (λ o. StoreInvariant device disk o j f.head f.history.exponent f.history.items c.new-tracker.result.fills c.new-sets.result.filled None) (sym c.of-opened.ensures)
          (subst (λ (l : List Fill). StoreInvariant device disk disk j f.head f.history.exponent f.history.items l c.new-sets.result.filled None) (sym c.new-tracker.ensures.fills)
          (subst (λ (n : ℕ). StoreInvariant device disk disk j f.head n f.history.items [] c.new-sets.result.filled None) (sym e.3.1)
          (subst (λ (l : List Item). StoreInvariant device disk disk j f.head format_1_exponent l [] c.new-sets.result.filled None) (sym e.4)
          (subst (λ (h : Head). StoreInvariant device disk disk j h format_1_exponent [] [] c.new-sets.result.filled None) (sym e.1) done)))),
      subst (λ (h : Head). f.history.tables ≡ length h.tables) (sym e.1) e.3.0,
      subst (λ (l : List Item). arc_value f.mdb ≡ database_in f.head.mdb l) (sym e.4) (subst (λ (h : Head). arc_value f.mdb ≡ h.mdb) (sym e.1) e.2),
      subst (λ (l : List Item). AreMarksOf f.history.exponent l c.new-tracker.result.fills c.new-tracker.result.marks) (sym e.4) (c.new-tracker.ensures.marks f.history.exponent),
      holds_none f.head f.history.exponent f.history.items c.new-tracker.result.fills c.new-sets.result.filled c.new-tracker.ensures.fills (none_filled c.new-sets.result.filled c.new-sets.ensures),
    )

pub returns-in-Ok-create-clause-crash : goal.returns-in-Ok-create-clause-crash
returns-in-Ok-create-clause-crash g c transparent none =
    let device = g.D.Disk.device in
    weakens device c.args.disk c.create.new.disk _ _ (c.create.ensures.crash transparent none)
    (λ c' e. making (device.images c.args.disk) c.args.head c' c.requires.head (subst (λ (b : List ℕ). device.images c.args.disk c' ⊎ (HoldsNone (c' 0) ⊎ HasRecords (c' 0) (b ∷ []))) c.in-Ok.ensures.0 e))

pub returns-clause-crash : goal.returns-clause-crash
returns-clause-crash g c transparent none =
    let device = g.D.Disk.device in
    weakens device c.args.disk c.create.new.disk _ _ (c.create.ensures.crash transparent none)
    (λ c' e. making (device.images c.args.disk) c.args.head c' c.requires.head (subst (λ (b : List ℕ). device.images c.args.disk c' ⊎ (HoldsNone (c' 0) ⊎ HasRecords (c' 0) (b ∷ []))) c.in-Ok.ensures.0 e))

pub returns-in_default-clause-kept : goal.returns-in_default-clause-kept
returns-in_default-clause-kept g c transparent begins =
    let device = g.D.Disk.device in
    record { reads_same = refl; moments = started device c.args.disk (device.images c.args.disk) (λ c' left. left); images = λ c' left. left }

pub returns-in_default-clause-crash : goal.returns-in_default-clause-crash
returns-in_default-clause-crash g c transparent none = started g.D.Disk.device c.args.disk _ (λ c' left. inl left)

pub returns-clause-refused : goal.returns-clause-refused
returns-clause-refused g c =
    subst (IsStoreCreateRefusal g.D.Disk.device c.args.disk c.create.new.disk) (sym c.refusal_of_create.ensures) (making_refused g.D.Disk.device c.args.disk c.create.new.disk c.in-Err.fault c.in-Err.ensures.refused c.in-Err.ensures.told.refused)

pub returns-in-Ok-create-clause-created : goal.returns-in-Ok-create-clause-created
returns-in-Ok-create-clause-created g c =
    let device = g.D.Disk.device in
    let disk = c.create.new.disk in
    let j = c.in-Ok-create.journal in
    let e = c.in-Ok.ensures in
    let created = c.in-Ok-create.ensures.created in
    record {
      none = created.none;
      history = e.4;
      fills = c.new-tracker.ensures.fills;
      filled = none_filled c.new-sets.result.filled c.new-sets.ensures;
      sound = λ transparent. subst (λ (d : g.row.D.Denot). IsSoundImage (device.reads d)) (sym c.of-opened.ensures)
          (made_sound device disk j c.args.head c.requires.head created.no_pending_fault created.in_file
          (subst (λ (b : List ℕ). JournalHasOnDisk device j (b ∷ []) [] disk) e.0 (created.records transparent)));
      head_is = e.1;
      exponent = e.3.1;
      records = created.count;
      sealed = refl;
      opened = c.of-opened.ensures;
      no_failed_write = created.no_failed_write;
      no_fault = c.in-Ok-create.ensures.told.done;
    }
