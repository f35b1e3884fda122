use Rattle.std.proofs.Common.{◌≤◌, refl, sym, ◌∙◌, subst, arith}
use Rattle.run_files.specs.Opening.{IsNextPage, IsOpenRefusal, index_pages, pages_read}
use Rattle.run_files.specs.declared.opening.RunOpening.{RunOpening}
use Rattle.run_files.specs.declared.fault.RunFault.TheVariants.{Limit}
use Rattle.run_files.proofs.OpenCalls.{handed_on, not_begun, opened, too_many}
use Rattle.run_files.proofs.opening.open_run.Goals as goal

pub returns-in_err-opening-clause-refused : goal.returns-in_err-opening-clause-refused
returns-in_err-opening-clause-refused g c =
    let device = g.D.Disk.device in
    let fault = c.in_err-opening.field-0.0 in
    handed_on c.from_residual.result fault (IsOpenRefusal device c.args.file c.args.disk.now c.begin.new.disk) c.from_residual.ensures.1
    (not_begun device c.args.file c.args.disk.now c.begin.new.disk fault c.in_err-opening.ensures.refused)

pub returns-then-opening-gt-MAX_ROWS-clause-refused : goal.returns-then-opening-gt-MAX_ROWS-clause-refused
returns-then-opening-gt-MAX_ROWS-clause-refused g c =
    let device = g.D.Disk.device in
    let begun = c.in_ok-opening.ensures in
    let so_far = c.pages.invariant in
    let next = c.in_ok-next.ensures in
    let none = subst (IsNextPage device c.pages.opening c.next.new.self c.pages.disk) c.in_default.is next.page in
    let all : index_pages c.next.new.self ≤ pages_read c.next.new.self = subst (λ (o : RunOpening). index_pages o ≤ pages_read o) (sym none.1) none.0 in
    too_many device c.args.file c.next.new.self c.args.disk.now c.next.new.disk Limit (next.file ∙ so_far.file ∙ begun.begun.in_file) (next.looked.reads_same ∙ so_far.looked.reads_same ∙ begun.untouched.reads_same)
    (next.told ∙ so_far.no_fault ∙ begun.told) (next.looked.no_write ∙ so_far.looked.no_write ∙ begun.begun.no_failed_write) next.reading all refl (omega (arith, c.if-opening-gt-MAX_ROWS.true))

pub returns-clause-opened : goal.returns-clause-opened
returns-clause-opened g c =
    let device = g.D.Disk.device in
    let begun = c.in_ok-opening.ensures in
    let so_far = c.pages.invariant in
    let next = c.in_ok-next.ensures in
    opened device c.args.file c.next.new.self c.finish.result c.args.disk.now c.begin.new.disk c.next.new.disk (next.file ∙ so_far.file ∙ begun.begun.in_file) (next.looked.reads_same ∙ so_far.looked.reads_same)
    (λ d now. so_far.looked.images d (next.looked.images d now)) begun.begun.durable (next.looked.no_write ∙ so_far.looked.no_write ∙ begun.begun.no_failed_write) next.reading (omega (arith, c.if-opening-gt-MAX_ROWS.false)) c.finish.ensures
