use Rattle.std.proofs.Common.{subst}
use Rattle.std.specs.Prelude.{Err}
use Rattle.mdb_items.specs.declared.fault.MdbFault.{MdbFault}
use Rattle.mdb_items.specs.declared.fault.MdbFault.TheVariants.{Bad}
use Rattle.mdb_items.specs.declared.sheet.RawMdb.{RawMdb}
use Rattle.mdb_model.specs.Sheets.{IsCheckResult}
use Rattle.dump_maker.specs.Sheets.{made_sheets}
use Rattle.dump_maker.proofs.MadeSheets.{no_fault}
use Rattle.make_command.proofs.prepared.database.Goals as goal

pub unreachable-requires : goal.unreachable-requires
unreachable-requires c =
    let is : IsCheckResult made_sheets (Err (Bad c.in-Err-Bad.field-0-0 c.in-Err-Bad.field-0-1 c.in-Err-Bad.field-0-2)) =
    subst (λ (fault : MdbFault). IsCheckResult made_sheets (Err fault)) c.in-Err-Bad.field-0-is
    (subst (λ (sheets : RawMdb). IsCheckResult sheets (Err c.in-Err-Bad.field-0)) c.in_ok-sheets.ensures c.in-Err-Bad.ensures) in
    absurd (cc (is, no_fault))
