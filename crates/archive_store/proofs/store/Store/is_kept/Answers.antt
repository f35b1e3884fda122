use Rattle.std.proofs.Common.{◌<◌, ◌≤◌, ◌^◌, length, subst, arith}
use Rattle.history_items.specs.Databases.{names_in}
use Rattle.mdb_model.proofs.Counts.{counts}
use Rattle.archive_store.specs.Inside.{view_of}
use Rattle.archive_store.specs.Keeping.{IsKept}
use Rattle.archive_store.specs.StoreView.{StoreView}
use Rattle.archive_store.proofs.KeptFills.{kept_now, records_now}
use Rattle.archive_store.proofs.PlainLog.{crash_of, sound_of}
use Rattle.archive_images.proofs.RowsAlone.{few_names}
use Rattle.archive_store.proofs.store.Store.is_kept.Goals as goal

pub returns : goal.returns
returns g c =
    let device = g.D.Disk.device in
    let s = c.self.inside in
    let of_store = c.self.invariant.0 in
    let most : length s.head.mdb.containers ≤ 4096 = (counts s.head.mdb c.is_sound.ensures.small).containers in
    let few : length (names_in s.head.mdb s.history.items) < 2 ^ 16 = omega (arith, most, few_names s.head.mdb s.history.items of_store.alone) in
    let all : IsKept device (view_of s.disk s.opened.value s.journal s.head s.history.exponent s.history.items s.tracker.fills s.sets.filled) = record {
      head = of_store.head_is;
      few_names = few;
      history = (c.is_kept.ensures.history, c.is_kept.ensures.within);
      rows = of_store.rows;
      bases = c.self.invariant.4.bases;
      sound = sound_of device s.disk s.opened.value s.journal s.head s.history.exponent s.history.items s.tracker.fills s.sets.filled s.pending_fault of_store;
      faults = of_store.faults;
      images = crash_of device s.disk s.opened.value s.journal s.head s.history.exponent s.history.items s.tracker.fills s.sets.filled s.pending_fault of_store;
      kept = λ known healed. kept_now device s.disk s.opened.value s.journal s.head s.history.exponent s.history.items s.tracker.fills s.sets.filled s.pending_fault of_store healed known;
      records = λ known. records_now device s.disk s.opened.value s.journal s.head s.history.exponent s.history.items s.tracker.fills s.sets.filled s.pending_fault of_store known;
    } in
    subst (λ (x : StoreView g.row.D.Denot). IsKept device x) c.self.view_is all
