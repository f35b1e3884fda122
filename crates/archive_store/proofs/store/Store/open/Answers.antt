use Rattle.std.proofs.Common.{None, refl, sym, subst, ap, ◌∙◌, length, map}
use Rattle.std.specs.Prelude.{IsTrue}
use Rattle.arch_disk.specs.Disk.{LeavesOnly}
use Rattle.arch_disk.specs.Image.{Image}
use Rattle.disk_journal.specs.Format.{HasRecords}
use Rattle.disk_journal.proofs.Bodies.{length-extents}
use Rattle.field_codec.specs.Spelling.{entry_octets}
use Rattle.archive_store.specs.Calls.{IsStoreOpenRefusal}
use Rattle.archive_reading.specs.PartialArchive.{filled_made}
use Rattle.archive_images.specs.Stands.{StandsFilled}
use Rattle.archive_store.specs.Inside.{StoreInvariant}
use Rattle.archive_reading.proofs.Archives.{begins_open, none_read, whole_read}
use Rattle.archive_store.proofs.Calls.{decided_refused, decided_opened}
use Rattle.archive_store.proofs.Opened.{kept_open, stands_found, stands_since}
use Rattle.archive_images.proofs.RowsAlone.{in_force}
use Rattle.archive_store.proofs.Refusals.{begin_refused, read_refused}
use Rattle.archive_store.proofs.store.Store.open.Goals as goal

pub returns-in-Err-clause-refused : goal.returns-in-Err-clause-refused
returns-in-Err-clause-refused g c =
    let device = g.D.Disk.device in
    subst (IsStoreOpenRefusal device c.args.disk c.begin.new.disk) (sym c.refusal_of.ensures) (begin_refused device c.args.disk c.begin.new.disk c.in-Err.fault c.in-Err.ensures.refused c.in-Err.ensures.told.refused)

pub returns-in-Err-clause-decided : goal.returns-in-Err-clause-decided
returns-in-Err-clause-decided g c transparent =
    let device = g.D.Disk.device in
    decided_refused device c.args.disk c.begin.new.disk c.refusal_of.result transparent
    (subst (IsStoreOpenRefusal device c.args.disk c.begin.new.disk) (sym c.refusal_of.ensures) (begin_refused device c.args.disk c.begin.new.disk c.in-Err.fault c.in-Err.ensures.refused c.in-Err.ensures.told.refused))

pub read_archive-requires-clause-begun : goal.read_archive-requires-clause-begun
read_archive-requires-clause-begun g c = begins_open g.D.Disk.device c.args.disk c.begin.new.disk c.in-Ok.opening c.in-Ok.ensures.begun c.begin.ensures.untouched.reads_same

pub read_archive-requires-clause-first : goal.read_archive-requires-clause-first
read_archive-requires-clause-first g c transparent none = none_read g.D.Disk.device c.args.disk c.begin.new.disk c.in-Ok.opening c.in-Ok.ensures.begun c.begin.ensures.untouched.reads_same transparent

pub returns-in-Err-read_archive-clause-refused : goal.returns-in-Err-read_archive-clause-refused
returns-in-Err-read_archive-clause-refused g c =
    let device = g.D.Disk.device in
    let mid = c.begin.new.disk in
    let begun = c.in-Ok.ensures.begun in
    let same = c.begin.ensures.untouched.reads_same in
    read_refused device c.in-Ok.opening c.args.disk mid c.read_archive.new.disk c.in-Err-read_archive.refusal c.in-Err-read_archive.ensures.refused begun.in_file (none_read device c.args.disk mid c.in-Ok.opening begun same) same c.in-Ok.ensures.told.done
    (c.read_archive.ensures.looked.no_write ∙ c.in-Ok.ensures.begun.no_failed_write)

pub returns-in-Err-read_archive-clause-decided : goal.returns-in-Err-read_archive-clause-decided
returns-in-Err-read_archive-clause-decided g c transparent =
    let device = g.D.Disk.device in
    let mid = c.begin.new.disk in
    let begun = c.in-Ok.ensures.begun in
    let same = c.begin.ensures.untouched.reads_same in
    decided_refused device c.args.disk c.read_archive.new.disk c.in-Err-read_archive.refusal transparent
    (read_refused device c.in-Ok.opening c.args.disk mid c.read_archive.new.disk c.in-Err-read_archive.refusal c.in-Err-read_archive.ensures.refused begun.in_file (none_read device c.args.disk mid c.in-Ok.opening begun same) same c.in-Ok.ensures.told.done
    (c.read_archive.ensures.looked.no_write ∙ c.in-Ok.ensures.begun.no_failed_write))

pub invariant_of-result : goal.invariant_of-result
invariant_of-result g c =
    let device = g.D.Disk.device in
    let disk = c.read_archive.new.disk in
    let mid = c.begin.new.disk in
    let f = c.in-Ok-read_archive.found in
    let r = c.in-Ok-read_archive.ensures.read in
    let begun = c.in-Ok.ensures.begun in
    let whole = whole_read device c.args.disk mid c.in-Ok.opening begun c.begin.ensures.untouched.reads_same f r in
    let done = kept_open device disk mid f.journal f.made.head f.made.history.exponent f.made.history.items f.made.tracker.fills f.made.sets.filled r.marks.3 r.tables.1 r.rows whole r.marks.0 r.no_pending_fault (r.in_file ∙ begun.in_file) begun.durable c.read_archive.ensures.looked in (
      subst (λ o. StoreInvariant device disk o f.journal f.made.head f.made.history.exponent f.made.history.items f.made.tracker.fills f.made.sets.filled None) (sym c.of-opened.ensures) done,
      r.tables.0.0,
      c.in-Ok-shared.ensures ∙ sym (in_force f.made.head.mdb f.made.history.items r.marks.3),
      r.marks.1,
      r.marks.2,
    )

pub returns-clause-opened : goal.returns-clause-opened
returns-clause-opened g c =
    let device = g.D.Disk.device in
    let reads = device.reads c.args.disk in
    let same = c.begin.ensures.untouched.reads_same in
    let made = c.in-Ok-read_archive.found.made in
    let found = whole_read device c.args.disk c.begin.new.disk c.in-Ok.opening c.in-Ok.ensures.begun same c.in-Ok-read_archive.found c.in-Ok-read_archive.ensures.read in
    let stands = λ (transparent : IsTrue device.is_transparent). stands_found reads (device.reads c.begin.new.disk 0) c.in-Ok-read_archive.found.journal (filled_made made) (ap (λ (x : Image). x 0) (sym same)) (found transparent) in
    record {
      stands = λ transparent. record { filled = filled_made made; plain_is = refl; stands = stands transparent };
      records = λ transparent. let f = found transparent in (map entry_octets f.entries, subst (λ (x : Image). HasRecords (x 0) (map entry_octets f.entries)) same f.has, ap length f.extents ∙ length-extents 0 (map entry_octets f.entries));
      exponent = c.in-Ok-read_archive.ensures.read.tables.0.1;
      fills = c.in-Ok-read_archive.ensures.read.marks.0;
      dones = λ transparent. let f = found transparent in (f.entries, subst (λ (x : Image). HasRecords (x 0) (map entry_octets f.entries)) same f.has, c.in-Ok-read_archive.ensures.read.dones transparent);
      filled = stands;
      opening = ap device.reads c.of-opened.ensures ∙ same;
      since = λ transparent. subst (λ o. LeavesOnly device o c.read_archive.new.disk (λ (x : Image). StandsFilled x (filled_made made))) (sym c.of-opened.ensures)
          (stands_since device c.read_archive.new.disk c.begin.new.disk c.in-Ok-read_archive.found.journal (filled_made made) (found transparent) c.in-Ok.ensures.begun.durable c.read_archive.ensures.looked);
      no_failed_write = c.read_archive.ensures.looked.no_write ∙ c.in-Ok.ensures.begun.no_failed_write;
      no_fault = c.in-Ok-read_archive.ensures.no_fault ∙ c.in-Ok.ensures.told.done;
    }

pub returns-clause-decided : goal.returns-clause-decided
returns-clause-decided g c transparent =
    let device = g.D.Disk.device in
    let reads = device.reads c.args.disk in
    let same = c.begin.ensures.untouched.reads_same in
    let made = c.in-Ok-read_archive.found.made in
    let found = whole_read device c.args.disk c.begin.new.disk c.in-Ok.opening c.in-Ok.ensures.begun same c.in-Ok-read_archive.found c.in-Ok-read_archive.ensures.read transparent in
    let stands = stands_found reads (device.reads c.begin.new.disk 0) c.in-Ok-read_archive.found.journal (filled_made made) (ap (λ (x : Image). x 0) (sym same)) found in
    decided_opened device reads _ (record { filled = filled_made made; plain_is = refl; stands = stands })
