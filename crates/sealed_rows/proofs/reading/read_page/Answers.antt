use Rattle.std.proofs.Common.{sym, subst}
use Rattle.sealed_rows.specs.Calls.{IsReadFault}
use Rattle.sealed_rows.proofs.Faults.{page_fault}
use Rattle.sealed_rows.proofs.reading.read_page.Goals as goal

pub returns-in-Err-clause-refused : goal.returns-in-Err-clause-refused
returns-in-Err-clause-refused g c =
    let device = g.D.Disk.device in
    subst (IsReadFault device c.args.disk.now c.rows_of.new.disk) (sym c.row_fault.ensures) (page_fault device c.args.run.now c.args.disk.now c.rows_of.new.disk c.in-Err.fault c.in-Err.ensures.refused)
