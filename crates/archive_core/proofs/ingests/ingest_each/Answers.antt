use Rattle.std.proofs.Common.{◌≡◌, List, Some, length, refl, ◌∙◌, ap, arith}
use Rattle.std.specs.Prelude.{slice_get, take}
use Rattle.std.proofs.lemmas.Option.{slice_get_read}
use Rattle.arch_types.specs.declared.row.Row.{Row}
use Rattle.archive_core.proofs.Ingested.{outcomes_more, rows_more, still_first, longer}
use Rattle.archive_core.proofs.ingests.ingest_each.Goals as goal

pub loop-row-preserved : goal.loop-row-preserved
loop-row-preserved c =
    let batch : List Row = c.args.batch.now in
    let i = c.loop-row.row-index in
    let row : Row = c.row-item.result in
    let at : slice_get batch i ≡ Some row = slice_get_read batch (length batch) i row refl (omega (arith, c.loop-row-test.true)) c.row-item.is in
    let inv = c.loop-row.invariant in
    let rows = c.loop-row.rows.items in
    let grown = c.ingest_row.new.rows.items in
    let grows = c.in_ok-outcome.ensures.rows in
    let before : List Row = c.args.rows.now.items in record {
      outcomes = outcomes_more c.loop-row.outcomes.items c.push.new.self.items rows grown batch i row c.in_ok-outcome.outcome at c.in_ok-outcome.ensures.outcome grows c.in_ok-push.ensures.items ∙ inv.outcomes;
      rows = rows_more rows grown batch i row at grows ∙ inv.rows;
      first = ap (take (length before)) grows ∙ still_first before rows row inv.first inv.within;
      within = omega (arith, inv.within, longer rows row, ap length grows);
    }
