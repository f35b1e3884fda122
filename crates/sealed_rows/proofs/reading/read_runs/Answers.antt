use Rattle.arch_types.specs.declared.row_fault.RowFault.TheVariants.{OutOfMemory}
use Rattle.joined_rows.proofs.SameRows.{each_at, each_by}
use Rattle.sealed_rows.specs.Calls.{IsReadFault}
use Rattle.sealed_rows.specs.Wanted.{IsRowWanted}
use Rattle.sealed_rows.specs.Sealed.{sealed_state}
use Rattle.sealed_rows.proofs.Faults.{passed_on}
use Rattle.sealed_rows.proofs.Told.{runs_given, runs_told}
use Rattle.sealed_rows.proofs.reading.read_runs.Goals as goal

pub gather-requires : goal.gather-requires
gather-requires g c = record { held = λ transparent. (c.requires transparent).held }

pub returns-clause-rows : goal.returns-clause-rows
returns-clause-rows g c = λ transparent.
    let firsts = c.in_ok-rising_by_key.ensures in
    runs_told g.D.Disk.device c.args.disk.now c.args.wanted c.args.runs.now (c.requires transparent) c.in_ok-rows.rows.items c.in_ok-rising_by_key.field-0 (c.in_ok-rows.ensures.rows transparent) firsts.rising firsts.no_others firsts.each_key

pub returns-clause-given : goal.returns-clause-given
returns-clause-given g c =
    let firsts = c.in_ok-rising_by_key.ensures in
    each_by (sealed_state g.D.Disk.device c.args.runs.now c.args.disk.now).may_give c.in_ok-rising_by_key.field-0 (λ row has transparent.
    runs_given g.D.Disk.device c.args.disk.now c.args.wanted c.args.runs.now (c.requires transparent) c.in_ok-rows.rows.items c.in_ok-rising_by_key.field-0 (c.in_ok-rows.ensures.rows transparent) firsts.no_others row has)

pub returns-clause-each : goal.returns-clause-each
returns-clause-each g c = each_by (IsRowWanted c.args.wanted) c.in_ok-rising_by_key.field-0 (λ row has. each_at (IsRowWanted c.args.wanted) c.in_ok-rows.rows.items row c.in_ok-rows.ensures.each (c.in_ok-rising_by_key.ensures.no_others row has))

-- there was no memory to put them in order
pub returns-in_err-rising_by_key-clause-refused : goal.returns-in_err-rising_by_key-clause-refused
returns-in_err-rising_by_key-clause-refused g c =
    passed_on c.from_residual-in_err-rising_by_key.result OutOfMemory (IsReadFault g.D.Disk.device c.args.disk.now c.gather.new.disk) c.from_residual-in_err-rising_by_key.ensures.1 c.in_ok-rows.ensures.told
