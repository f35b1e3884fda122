use Rattle.std.proofs.Common.{◌≡◌, ◌++◌, [], ◌∷◌, ℕ, List, None, Some, map, refl, sym, ◌∙◌, ap, subst, append-nil, append_assoc}
use Rattle.arch_disk.proofs.Moments.{looked_none, looked_on}
use Rattle.refusals.specs.declared.refusal.Refusal.TheVariants.{Damaged}
use Rattle.disk_journal.specs.Calls.{content_read, read_so_far}
use Rattle.disk_journal.specs.Format.{HasRecords}
use Rattle.disk_journal.specs.Reading.{IsAt, IsCutShortAt, IsReadJournal, file_read}
use Rattle.history_items.specs.declared.fills.Fill.{Fill}
use Rattle.field_codec.specs.declared.entry.Entry.{Entry}
use Rattle.field_codec.specs.Spelling.{entry_octets}
use Rattle.archive_images.specs.Entries.{HasArchivedRows, Replays, dones_of}
use Rattle.archive_reading.specs.PartialArchive.{archive_made, fills_made, read_refusal, IsArchiveRead, IsArchiveReadRefusal}
use Rattle.archive_images.specs.Stands.{IsFileDamagedAt}
use Rattle.archive_images.proofs.Archived.{applied_archived}
use Rattle.archive_reading.proofs.Archives.{dones-append, no_base, no_entries, opens_some, damaged_short, damaged_wrong, found_is, gate_now, marks_found, read_now, rows_found, tables_found}
use Rattle.archive_reading.proofs.Refusals.{next_refused, only_refusal}
use Rattle.archive_images.proofs.PendingFaults.{replays_next, bodies_more}
use Rattle.archive_history.proofs.Steps.{if_ok}
use Rattle.archive_reading.proofs.records.read_archive.Goals as goal

pub entries-init : goal.entries-init
entries-init g c =
    let device = g.D.Disk.device in
    let first = c.args.opening in
    let was = c.args.disk.now in
    let beginning = read_so_far device first was in record {
      file = refl;
      tables = c.requires.base.0;
      marks = c.requires.base.1;
      rows = c.requires.base.2;
      looked = looked_none device was;
      no_fault = refl;
      so_far = λ transparent. (
        [],
        subst (IsAt first (content_read device first was)) (sym (append-nil beginning)) (c.requires.at_gate transparent),
        refl,
        sym (append-nil (fills_made c.args.base)),
      );
    }

pub next-requires : goal.next-requires
next-requires g c = record {
  at_gate = λ transparent.
      let device = g.D.Disk.device in
      let inv = c.entries.invariant in
      let first = c.args.opening in
      let was = c.args.disk.now in
      let s = inv.so_far transparent in
      gate_now device first c.entries.opening was c.entries.disk (read_so_far device first was ++ map entry_octets s.0) inv.looked.reads_same inv.file s.1;
}

pub returns-in-Ok-None-clause-read : goal.returns-in-Ok-None-clause-read
returns-in-Ok-None-clause-read g c =
    let device = g.D.Disk.device in
    let inv = c.entries.invariant in
    let first = c.args.opening in
    let was = c.args.disk.now in
    let content = content_read device first was in
    let beginning = read_so_far device first was in
    let new = c.next.new.self in
    let x = rw c.in-Ok-None.field-0-is at c.in-Ok-None.ensures.next in
    if_ok c.finished.result (λ f. (Some f.made ≡ c.entries.made) × IsReadJournal new f.journal) (IsArchiveRead device was first c.args.base)
    (λ f p. record {
      archive_is = λ transparent.
          let s = inv.so_far transparent in
          let bodies : List (List ℕ) = beginning ++ map entry_octets s.0 in
          let here = read_now device first c.entries.opening was c.entries.disk bodies inv.looked.reads_same inv.file s.1 in
          found_is content beginning (archive_made c.args.base) new s.0 c.entries.made f p.0 p.1 (here HasRecords (x.has transparent)) (here (IsAt new) (x.stays transparent)) s.2;
      dones = λ transparent. ap fills_made p.0 ∙ (inv.so_far transparent).3;
      in_file = p.1.file ∙ c.next.ensures.file ∙ inv.file;
      no_pending_fault = p.1.no_pending_fault;
      tables = tables_found c.entries.made f p.0 inv.tables;
      marks = marks_found c.entries.made f p.0 inv.marks;
      rows = rows_found c.entries.made f p.0 inv.rows;
    })
    c.finished.ensures.ok

-- a file that begins with an open gate has entries, or a base
pub returns-in-Ok-None-clause-refused : goal.returns-in-Ok-None-clause-refused
returns-in-Ok-None-clause-refused g c =
    let device = g.D.Disk.device in
    let inv = c.entries.invariant in
    let first = c.args.opening in
    let was = c.args.disk.now in
    let content = content_read device first was in
    let beginning = read_so_far device first was in
    let new = c.next.new.self in
    let x = rw c.in-Ok-None.field-0-is at c.in-Ok-None.ensures.next in
    only_refusal c.finished.result (c.entries.made ≡ None) (Damaged (file_read new) 0) (IsArchiveReadRefusal device was c.next.new.disk first c.args.base) c.finished.ensures.none
    (λ none. (
      λ transparent.
          let s = inv.so_far transparent in
          let bodies : List (List ℕ) = beginning ++ map entry_octets s.0 in
          let has : HasRecords content bodies = read_now device first c.entries.opening was c.entries.disk bodies inv.looked.reads_same inv.file s.1 HasRecords (x.has transparent) in
          let nothing = no_entries (archive_made c.args.base) (archive_made c.entries.made) s.0 s.2 (ap archive_made none) in
          let begins : beginning ≡ [] = c.requires.first transparent (no_base c.args.base nothing.0) in
          let empty : bodies ≡ [] = ap (λ (l : List (List ℕ)). l ++ map entry_octets s.0) begins ∙ ap (λ (es : List Entry). map entry_octets es) nothing.1 in
          absurd (opens_some content (c.requires.begun transparent).1 (subst (HasRecords content) empty has)),
      c.in-Ok-None.ensures.told.done ∙ inv.no_fault,
    ))

pub returns-in-Err-clause-refused : goal.returns-in-Err-clause-refused
returns-in-Err-clause-refused g c =
    let device = g.D.Disk.device in
    let inv = c.entries.invariant in
    let first = c.args.opening in
    let was = c.args.disk.now in
    let beginning = read_so_far device first was in
    let old = c.entries.opening in
    let fault = c.in-Err.fault in
    let refused = next_refused device first old c.args.base was c.entries.disk c.next.new.disk fault c.in-Err.ensures.refused c.in-Err.ensures.told.refused inv.no_fault
    (λ transparent at cut.
    let s = inv.so_far transparent in
    let bodies : List (List ℕ) = beginning ++ map entry_octets s.0 in
    let short = read_now device first old was c.entries.disk bodies inv.looked.reads_same inv.file s.1 IsCutShortAt cut.1 in
    damaged_short (device.reads was) (file_read first) beginning (archive_made c.args.base) (archive_made c.entries.made) at old s.0 (c.requires.begun transparent).0 s.1 s.2 cut.0 short) in
    subst (IsArchiveReadRefusal device was c.next.new.disk first c.args.base) (ap (λ (file : ℕ). read_refusal file fault) (sym c.file-file.ensures) ∙ sym c.refusal_of.ensures) refused

pub returns-in-Ok-false-clause-refused : goal.returns-in-Ok-false-clause-refused
returns-in-Ok-false-clause-refused g c = (
  λ transparent.
      let device = g.D.Disk.device in
      let inv = c.entries.invariant in
      let first = c.args.opening in
      let was = c.args.disk.now in
      let beginning = read_so_far device first was in
      let old = c.entries.opening in
      let new = c.next.new.self in
      let s = inv.so_far transparent in
      let bodies : List (List ℕ) = beginning ++ map entry_octets s.0 in
      let body : List ℕ = c.in-Ok-Some.body in
      let x = rw c.in-Ok-Some.field-0-is at c.in-Ok-Some.ensures.next in
      let y = c.in-Ok-false.ensures.no c.in-Ok-false.field-0-test in
      let next = read_now device first old was c.entries.disk bodies inv.looked.reads_same inv.file s.1 (λ content so_far. IsAt new content (so_far ++ body ∷ [])) (x.read transparent) in
      let damaged = damaged_wrong (device.reads was) (file_read first) beginning (archive_made c.args.base) (archive_made c.entries.made) c.place-at.result old new s.0 body (c.requires.begun transparent).0 s.1 next s.2 c.place-at.ensures x.short y in
      (c.file-file.ensures, subst (λ (file : ℕ). IsFileDamagedAt (device.reads was) file beginning (archive_made c.args.base) c.place-at.result) (sym c.file-file.ensures) damaged),
  c.in-Ok-Some.ensures.told.done ∙ c.entries.invariant.no_fault,
)

pub entries-preserved : goal.entries-preserved
entries-preserved g c =
    let device = g.D.Disk.device in
    let inv = c.entries.invariant in
    let first = c.args.opening in
    let was = c.args.disk.now in
    let content = content_read device first was in
    let beginning = read_so_far device first was in
    let old = c.entries.opening in
    let new = c.next.new.self in
    let y = c.in-Ok-true.ensures.yes c.in-Ok-true.field-0-test in
    record {
      file = c.next.ensures.file ∙ inv.file;
      tables = c.take_in.ensures.tables;
      marks = c.in-Ok-true.ensures.marks c.in-Ok-true.field-0-test;
      rows = subst HasArchivedRows (sym y.3) (applied_archived (archive_made c.entries.made) y.0 y.2 inv.rows y.4);
      looked = looked_on device was c.entries.disk c.next.new.disk inv.looked c.next.ensures.looked;
      no_fault = c.in-Ok-Some.ensures.told.done ∙ inv.no_fault;
      so_far = λ transparent.
          let s = inv.so_far transparent in
          let es : List Entry = s.0 in
          let bodies : List (List ℕ) = beginning ++ map entry_octets es in
          let x = rw c.in-Ok-Some.field-0-is at c.in-Ok-Some.ensures.next in
          let body : List ℕ = c.in-Ok-Some.body in
          let entry : Entry = y.0 in
          let next = read_now device first old was c.entries.disk bodies inv.looked.reads_same inv.file s.1 (λ content so_far. IsAt new content (so_far ++ body ∷ [])) (x.read transparent) in
          let now : bodies ++ body ∷ [] ≡ beginning ++ map entry_octets (es ++ entry ∷ []) =
          append_assoc beginning (map entry_octets es) (body ∷ []) ∙ ap (λ (l : List (List ℕ)). beginning ++ l) (ap (λ (b : List ℕ). map entry_octets es ++ b ∷ []) y.1 ∙ sym (bodies_more es entry)) in
          let told = fills_made c.args.base in (
            es ++ entry ∷ [],
            subst (IsAt new content) now next,
            subst (Replays (archive_made c.args.base) (es ++ entry ∷ [])) (sym y.3) (replays_next (archive_made c.args.base) (archive_made c.entries.made) y.2 es entry s.2 y.4),
            y.5 ∙ ap (λ (l : List Fill). l ++ dones_of (entry ∷ [])) s.3 ∙ append_assoc told (dones_of es) (dones_of (entry ∷ []))
                ∙ ap (λ (l : List Fill). told ++ l) (sym (dones-append es (entry ∷ []))),
          );
    }

pub returns-in-Ok-false-clause-looked : goal.returns-in-Ok-false-clause-looked
returns-in-Ok-false-clause-looked g c = looked_on g.D.Disk.device c.args.disk.now c.entries.disk c.next.new.disk c.entries.invariant.looked c.next.ensures.looked

pub returns-in-Err-take_in-clause-looked : goal.returns-in-Err-take_in-clause-looked
returns-in-Err-take_in-clause-looked g c = looked_on g.D.Disk.device c.args.disk.now c.entries.disk c.next.new.disk c.entries.invariant.looked c.next.ensures.looked
