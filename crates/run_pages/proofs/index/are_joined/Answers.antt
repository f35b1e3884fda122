use Rattle.std.proofs.Common.{pos, sym, ◌∙◌, arith}
use Rattle.run_pages.specs.declared.index.PageEntry.{PageEntry}
use Rattle.run_pages.proofs.Joins.{passes}
use Rattle.run_pages.proofs.index.are_joined.Goals as goal

pub returns-in_default : goal.returns-in_default
returns-in_default c =
    let d : PageEntry = record { first = record { time = pos 0; seq = 0 }; at = 0; len = 0 } in
    sym (passes c.loop-entry.at c.args.end c.loop-entry.last c.args.entries.now c.loop-entry.entry-index d c.loop-entry-test.true (omega (arith, c.from.ensures, c.in_default.ensures))) ∙ c.loop-entry.invariant
