use Rattle.std.proofs.Common.{◌++◌, [], ◌∷◌, ℕ, List, refl, sym, ◌∙◌, ap, subst, append-nil, append_assoc}
use Rattle.arch_disk.proofs.Moments.{looked_none, looked_on}
use Rattle.disk_journal.specs.Calls.{content_read, read_so_far}
use Rattle.disk_journal.specs.Format.{HasRecords}
use Rattle.disk_journal.specs.Reading.{IsAt, IsCutShortAt}
use Rattle.archive_reading.specs.PartialArchive.{read_refusal}
use Rattle.archive_reading.proofs.Archives.{gate_now, read_now}
use Rattle.sealed_opening.specs.ReadRefusals.{IsReadRefusal}
use Rattle.sealed_opening.specs.Records.{IsStop}
use Rattle.sealed_opening.proofs.Reading.{next_stops, reads_more, stops_short, stops_wrong}
use Rattle.sealed_opening.proofs.records.read_records.Goals as goal

pub records-init : goal.records-init
records-init g c =
    let device = g.D.Disk.device in
    let first = c.args.opening in
    let was = c.args.disk.now in
    let beginning = read_so_far device first was in record {
      file = refl;
      looked = looked_none device was;
      no_fault = refl;
      kept = c.requires.kept;
      so_far = ([], refl, λ transparent. subst (IsAt first (content_read device first was)) (sym (append-nil beginning)) (c.requires.at_gate transparent));
    }

pub next-requires : goal.next-requires
next-requires g c = record {
  at_gate = λ transparent.
      let device = g.D.Disk.device in
      let inv = c.records.invariant in
      let first = c.args.opening in
      let was = c.args.disk.now in
      gate_now device first c.records.opening was c.records.disk (read_so_far device first was ++ inv.so_far.0) inv.looked.reads_same inv.file (inv.so_far.2 transparent);
}

pub returns-in-Ok-None-clause-read : goal.returns-in-Ok-None-clause-read
returns-in-Ok-None-clause-read g c =
    let device = g.D.Disk.device in
    let inv = c.records.invariant in
    let first = c.args.opening in
    let was = c.args.disk.now in
    let bodies : List (List ℕ) = read_so_far device first was ++ inv.so_far.0 in
    let new = c.next.new.self in
    let x = rw c.in-Ok-None.field-0-is at c.in-Ok-None.ensures.next in
    let finished = c.finish.ensures in
    record {
      bodies = inv.so_far.0;
      reads = inv.so_far.1;
      has = λ transparent. read_now device first c.records.opening was c.records.disk bodies inv.looked.reads_same inv.file (inv.so_far.2 transparent) HasRecords (x.has transparent);
      extents = λ transparent.
          let here = read_now device first c.records.opening was c.records.disk bodies inv.looked.reads_same inv.file (inv.so_far.2 transparent) (IsAt new) (x.stays transparent) in
          finished.extents ∙ here.extents;
      end = λ transparent.
          let here = read_now device first c.records.opening was c.records.disk bodies inv.looked.reads_same inv.file (inv.so_far.2 transparent) (IsAt new) (x.stays transparent) in
          finished.end ∙ here.up_to.at_is;
      in_file = finished.file ∙ c.next.ensures.file ∙ inv.file;
      no_pending_fault = finished.no_pending_fault;
    }

pub returns-in-Err-clause-refused : goal.returns-in-Err-clause-refused
returns-in-Err-clause-refused g c =
    let device = g.D.Disk.device in
    let May = g.R.RecordRules.may_follow in
    let Follows = g.R.RecordRules.follows in
    let inv = c.records.invariant in
    let first = c.args.opening in
    let was = c.args.disk.now in
    let beginning = read_so_far device first was in
    let old = c.records.opening in
    let fault = c.in-Err.fault in
    let refused = next_stops May Follows device first old c.args.rules was c.records.disk c.next.new.disk fault c.in-Err.ensures.refused c.in-Err.ensures.told.refused inv.no_fault
    (λ transparent at cut.
    let bodies : List (List ℕ) = beginning ++ inv.so_far.0 in
    let short = read_now device first old was c.records.disk bodies inv.looked.reads_same inv.file (inv.so_far.2 transparent) IsCutShortAt cut.1 in
    stops_short May Follows (content_read device first was) beginning inv.so_far.0 c.args.rules c.records.so_far (c.requires.begun transparent).0 inv.so_far.1 at old (inv.so_far.2 transparent) cut.0 short) in
    subst (IsReadRefusal (IsStop May Follows device was first c.args.rules) device was c.next.new.disk) (ap (λ (file : ℕ). read_refusal file fault) (sym c.file-file.ensures) ∙ sym c.refusal_of.ensures) refused

pub returns-in-Ok-None-take-clause-refused : goal.returns-in-Ok-None-take-clause-refused
returns-in-Ok-None-take-clause-refused g c = (
  λ transparent.
      let device = g.D.Disk.device in
      let May = g.R.RecordRules.may_follow in
      let Follows = g.R.RecordRules.follows in
      let inv = c.records.invariant in
      let first = c.args.opening in
      let was = c.args.disk.now in
      let beginning = read_so_far device first was in
      let old = c.records.opening in
      let new = c.next.new.self in
      let bodies : List (List ℕ) = beginning ++ inv.so_far.0 in
      let body : List ℕ = c.in-Ok-Some.body in
      let x = rw c.in-Ok-Some.field-0-is at c.in-Ok-Some.ensures.next in
      let y = rw c.in-Ok-None-take.field-0-is at c.in-Ok-None-take.ensures.none in
      let next = read_now device first old was c.records.disk bodies inv.looked.reads_same inv.file (inv.so_far.2 transparent) (λ content so_far. IsAt new content (so_far ++ body ∷ [])) (x.read transparent) in
      (c.file-file.ensures, stops_wrong May Follows (content_read device first was) beginning inv.so_far.0 c.args.rules c.records.so_far (c.requires.begun transparent).0 inv.so_far.1 c.place-at.result old new body (inv.so_far.2 transparent) next c.place-at.ensures x.short y),
  c.in-Ok-Some.ensures.told.done ∙ c.records.invariant.no_fault,
)

pub records-preserved : goal.records-preserved
records-preserved g c =
    let device = g.D.Disk.device in
    let Follows = g.R.RecordRules.follows in
    let inv = c.records.invariant in
    let first = c.args.opening in
    let was = c.args.disk.now in
    let beginning = read_so_far device first was in
    let old = c.records.opening in
    let new = c.next.new.self in
    let body : List ℕ = c.in-Ok-Some.body in
    let bodies : List (List ℕ) = beginning ++ inv.so_far.0 in
    let x = rw c.in-Ok-Some.field-0-is at c.in-Ok-Some.ensures.next in
    let y = rw c.in-Ok-Some-take.field-0-is at c.in-Ok-Some-take.ensures.taken in
    let z = rw c.in-Ok-Some-take.field-0-is at c.in-Ok-Some-take.ensures.kept in
    record {
      file = c.next.ensures.file ∙ inv.file;
      looked = looked_on device was c.records.disk c.next.new.disk inv.looked c.next.ensures.looked;
      no_fault = c.in-Ok-Some.ensures.told.done ∙ inv.no_fault;
      kept = z;
      so_far = (
        inv.so_far.0 ++ body ∷ [],
        reads_more Follows c.args.rules c.records.so_far c.in-Ok-Some-take.now inv.so_far.0 body inv.so_far.1 y,
        λ transparent.
            let next = read_now device first old was c.records.disk bodies inv.looked.reads_same inv.file (inv.so_far.2 transparent) (λ content so_far. IsAt new content (so_far ++ body ∷ [])) (x.read transparent) in
            subst (IsAt new (content_read device first was)) (append_assoc beginning inv.so_far.0 (body ∷ [])) next,
      );
    }
