use Rattle.std.proofs.Common.{sym, ◌∙◌, subst}
use Rattle.arch_disk.proofs.Moments.{looked_none}
use Rattle.sealed_rows.specs.Calls.{IsReadFault}
use Rattle.sealed_rows.proofs.Faults.{page_fault}
use Rattle.sealed_rows.proofs.KeyPlaces.{in_other_run, in_run}
use Rattle.sealed_rows.proofs.places.position_in.Goals as goal

pub returns-then-table-clause-place : goal.returns-then-table-clause-place
returns-then-table-clause-place g c = λ transparent.
    in_other_run g.D.Disk.device c.args.disk.now c.args.run.now c.args.table c.args.key (λ of. c.if-table.true (c.table.ensures ∙ of)) (c.requires.held transparent)

pub returns-then-table-clause-looked : goal.returns-then-table-clause-looked
returns-then-table-clause-looked g c = looked_none g.D.Disk.device c.args.disk.now

pub returns-in-Ok-clause-place : goal.returns-in-Ok-clause-place
returns-in-Ok-clause-place g c = λ transparent.
    let held = c.requires.held transparent in
    in_run g.D.Disk.device c.args.disk.now c.args.run.now c.args.table c.args.key (sym c.table.ensures ∙ c.if-table.false) held c.in-Ok.position (c.in-Ok.ensures.position transparent held.0 held.1)

pub returns-in-Err-clause-refused : goal.returns-in-Err-clause-refused
returns-in-Err-clause-refused g c =
    let device = g.D.Disk.device in
    subst (IsReadFault device c.args.disk.now c.position.new.disk) (sym c.row_fault.ensures) (page_fault device c.args.run.now c.args.disk.now c.position.new.disk c.in-Err.fault c.in-Err.ensures.refused)
