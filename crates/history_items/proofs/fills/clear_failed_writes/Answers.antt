use Rattle.std.proofs.Common.{ap, set, ◌∙◌, sym}
use Rattle.std.proofs.lemmas.List.Edits.{map_over_more}
use Rattle.history_items.specs.declared.fills.Fill.{Fill}
use Rattle.history_items.specs.Fills.{cleared}
use Rattle.history_items.proofs.fills.clear_failed_writes.Goals as goal

pub loop-i-preserved : goal.loop-i-preserved
loop-i-preserved c =
    ap (λ (f : Fill). set c.loop-i.fills c.loop-i.i f) c.clear_failed_write.ensures ∙ ap (λ (f : Fill). set c.loop-i.fills c.loop-i.i (cleared f)) (sym c.index-fills-i.is)
    ∙ map_over_more cleared c.args.fills.now c.loop-i.fills c.loop-i.i c.index-fills-i.result c.loop-i-test.true c.loop-i.invariant c.index-fills-i.is
