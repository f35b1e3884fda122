use Rattle.std.proofs.Common.{ℕ, ◌∙◌, sym, subst}
use Rattle.disk_journal.specs.Calls.{IsNextRefusal, content_read, read_so_far}
use Rattle.disk_journal.specs.Reading.{IsWholeAt}
use Rattle.disk_journal.proofs.Calls.{handed_on, no_header, stands_at_gate}
use Rattle.disk_journal.proofs.Told.{told_on}
use Rattle.disk_journal.proofs.opening.Opening.next.Goals as goal

pub returns-in_err-read_header-clause-refused : goal.returns-in_err-read_header-clause-refused
returns-in_err-read_header-clause-refused g c =
    let device = g.D.Disk.device in
    let old = c.args.disk.now in
    let fault = c.in_err-read_header.field-0.0 in
    let e = c.in_err-read_header.ensures in
    handed_on c.from_residual.result fault (IsNextRefusal device c.args.self.now old c.read_header.new.disk) c.from_residual.ensures.1
    (no_header device c.args.self.now old c.read_header.new.disk fault e.only (λ is. e.cause (cc (is)))
    (λ transparent at is. e.damaged transparent (read_so_far device c.args.self.now old) (c.requires.at_gate transparent) at (cc (is))))

pub returns-in_ok-advance-in-Some-clause-at_gate : goal.returns-in_ok-advance-in-Some-clause-at_gate
returns-in_ok-advance-in-Some-clause-at_gate g c =
    let device = g.D.Disk.device in
    let self = c.args.self.now in
    let old = c.args.disk.now in
    let header = c.in_ok-read_header.ensures in
    stands_at_gate device self c.advance.new.self old c.octets.new.disk _ (c.advance.ensures.file ∙ header.place.1) (c.octets.ensures.looked.reads_same ∙ header.looked.reads_same)
    (λ transparent.
    let content = content_read device self old in
    let whole = rw c.in-Some.is at (header.some transparent) in
    c.in_ok-advance-in-Some.ensures.at content (read_so_far device self old) (header.stays transparent (read_so_far device self old) (c.requires.at_gate transparent))
    (subst (λ (n : ℕ). IsWholeAt content n c.in-Some.extent) (sym header.place.0) whole))

pub returns-in_err-read_header-clause-told : goal.returns-in_err-read_header-clause-told
returns-in_err-read_header-clause-told g c =
    told_on g.D.Disk.device c.from_residual.result c.in_err-read_header.field-0.0 c.args.disk.now c.read_header.new.disk c.from_residual.ensures.1 c.in_err-read_header.ensures.told.refused
