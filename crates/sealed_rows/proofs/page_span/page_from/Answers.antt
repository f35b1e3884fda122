use Rattle.std.proofs.Common.{subst}
use Rattle.run_files.specs.Lookup.{IsPageFor}
use Rattle.sealed_rows.proofs.Spans.{before_found}
use Rattle.sealed_rows.proofs.page_span.page_from.Goals as goal

pub returns-in-Some : goal.returns-in-Some
returns-in-Some c = λ content rows k.
    let run = c.args.run.now in
    before_found content run rows k c.args.key c.in-Some.page (subst (IsPageFor run.index.entries.items c.args.key) c.in-Some.is c.page_of.ensures)

pub returns-in-None : goal.returns-in-None
returns-in-None c = λ content rows k. tt
