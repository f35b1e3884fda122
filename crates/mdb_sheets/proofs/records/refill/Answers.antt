use Rattle.std.proofs.Common.{◌∙◌, refl, ap, Bor}
use Rattle.csv.specs.Records.{Row}
use Rattle.mdb_sheets.proofs.Fields.{field_end, field_more}
use Rattle.mdb_sheets.proofs.records.refill.Goals as goal

pub loop-octets-init : goal.loop-octets-init
loop-octets-init c =
    let start = c.into_iter-octets-iterator.ensures.into_iter_gives in
    rw (start.1, c.clear.ensures) (start.0, refl)

pub loop-octets-preserved : goal.loop-octets-preserved
loop-octets-preserved c =
    let inv = c.loop-octets.invariant in
    let step = rw c.in-Some.is at c.next.ensures.steps in (
      ap (λ (r : Bor Row). r.now) step.0 ∙ inv.0,
      field_more _ _ _ _ _ _ inv.1 (rw inv.0 at step.1) step.2 c.in_ok-push.ensures.pushed,
    )

pub returns : goal.returns
returns c =
    let inv = c.loop-octets.invariant in
    let step = rw c.in-None.is at c.next.ensures.steps in
    inv.1 ∙ field_end _ _ (rw inv.0 at step.1)
