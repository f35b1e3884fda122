use Rattle.std.proofs.Common.{ℕ, List, Option, sym, ◌∙◌, subst, arith}
use Rattle.std.specs.Prelude.{IfSome}
use Rattle.arch_disk.proofs.Moments.{looked_on}
use Rattle.disk_journal.specs.Calls.{IsReadWholeRefusal}
use Rattle.disk_journal.specs.Format.{IsDamagedAt}
use Rattle.disk_journal.specs.Reading.{IsAt, IsWholeAt, file_read}
use Rattle.disk_journal.specs.declared.journal.Extent.{Extent}
use Rattle.disk_journal.proofs.Calls.{handed_on, not_whole}
use Rattle.disk_journal.proofs.Opened.{content_same, cut_short}
use Rattle.disk_journal.proofs.Told.{fault_behind, told_on}
use Rattle.disk_journal.proofs.opening.Opening.finish_all.Goals as goal

pub returns-in_err-extent-clause-refused : goal.returns-in_err-extent-clause-refused
returns-in_err-extent-clause-refused g c =
    let device = g.D.Disk.device in
    let reads = device.reads in
    let here = c.records.self in
    let inv = c.records.invariant in
    let fault = c.in_err-extent.field-0.0 in
    let e = c.in_err-extent.ensures in
    let same = content_same (reads c.records.disk) (reads c.args.disk.now) (file_read here) (file_read c.args.self) inv.looked.reads_same inv.file in
    handed_on c.from_residual.result fault (IsReadWholeRefusal device c.args.self c.args.disk.now c.read_header.new.disk) c.from_residual.ensures.1
    (not_whole device c.args.self c.args.disk.now c.read_header.new.disk fault e.only (λ is. omega (arith, e.cause (cc (is)), inv.looked.later))
    (λ transparent at is.
    let so_far = inv.so_far transparent in
    let there = subst (λ (l : List ℕ). IsAt here l so_far.0) (sym same) so_far.1 in
    subst (λ (l : List ℕ). IsDamagedAt l at) same (cut_short (reads c.records.disk (file_read here)) here so_far.0 at there (e.damaged transparent so_far.0 there at (cc (is))))))

pub records-preserved : goal.records-preserved
records-preserved g c = record {
  file = c.in_ok-advance.ensures.file ∙ c.in_ok-extent.ensures.place.1 ∙ c.records.invariant.file;
  looked = looked_on g.D.Disk.device c.args.disk.now c.records.disk c.read_header.new.disk c.records.invariant.looked c.read_header.ensures.looked;
  no_fault = c.in_ok-extent.ensures.told.done ∙ c.records.invariant.no_fault;
  so_far = λ transparent.
      let reads = g.D.Disk.device.reads in
      let here = c.records.self in
      let so_far = c.records.invariant.so_far transparent in
      let content = reads c.args.disk.now (file_read c.args.self) in
      let same = content_same (reads c.records.disk) (reads c.args.disk.now) (file_read here) (file_read c.args.self) c.records.invariant.looked.reads_same c.records.invariant.file in
      let is = subst (λ (l : List ℕ). IsAt here l so_far.0) (sym same) so_far.1 in
      let stays = subst (λ (l : List ℕ). IsAt c.read_header.new.self l so_far.0) same (c.in_ok-extent.ensures.stays transparent so_far.0 is) in
      let looked = subst (λ (o : Option Extent). IfSome o (λ e. IsWholeAt (reads c.records.disk (file_read here)) here.at e)) c.in-Some.is (c.in_ok-extent.ensures.some transparent) in
      let whole = subst (λ (l : List ℕ). IsWholeAt l here.at c.in-Some.extent) same looked in
      let next = subst (λ (n : ℕ). IsWholeAt content n c.in-Some.extent) (sym c.in_ok-extent.ensures.place.0) whole in
      (_, c.in_ok-advance.ensures.at content so_far.0 stays next);
}

pub returns-in_err-extent-clause-told : goal.returns-in_err-extent-clause-told
returns-in_err-extent-clause-told g c =
    let device = g.D.Disk.device in
    let fault = c.in_err-extent.field-0.0 in
    told_on device c.from_residual.result fault c.args.disk.now c.read_header.new.disk c.from_residual.ensures.1
    (fault_behind device fault c.args.disk.now c.records.disk c.read_header.new.disk c.records.invariant.no_fault c.in_err-extent.ensures.told.refused)
