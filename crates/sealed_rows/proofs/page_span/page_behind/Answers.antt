use Rattle.std.proofs.Common.{subst, arith}
use Rattle.std.proofs.lemmas.Option.{slice_get_within}
use Rattle.run_files.specs.Lookup.{IsLastNotAbove, IsPageFor}
use Rattle.sealed_rows.proofs.Spans.{all_behind, behind_found}
use Rattle.sealed_rows.proofs.page_span.page_behind.Goals as goal

pub overflow_add-result : goal.overflow_add-result
overflow_add-result c =
    let run = c.args.run.now in
    let may : IsLastNotAbove run.index.entries.items c.args.key c.in-Some.page = subst (IsPageFor run.index.entries.items c.args.key) c.in-Some.is c.page_of.ensures in
    omega (arith, run.index.few, slice_get_within run.index.entries.items c.in-Some.page may.entry may.there)

pub returns-in-Some-clause-within : goal.returns-in-Some-clause-within
returns-in-Some-clause-within c =
    let run = c.args.run.now in
    let may : IsLastNotAbove run.index.entries.items c.args.key c.in-Some.page = subst (IsPageFor run.index.entries.items c.args.key) c.in-Some.is c.page_of.ensures in
    omega (arith, slice_get_within run.index.entries.items c.in-Some.page may.entry may.there)

pub returns-in-Some-clause-above : goal.returns-in-Some-clause-above
returns-in-Some-clause-above c = λ content rows k.
    let run = c.args.run.now in
    behind_found content run rows k c.args.key c.in-Some.page (subst (IsPageFor run.index.entries.items c.args.key) c.in-Some.is c.page_of.ensures)

pub returns-in-None-clause-above : goal.returns-in-None-clause-above
returns-in-None-clause-above c = λ content rows k.
    let run = c.args.run.now in
    all_behind content run rows k c.args.key (subst (IsPageFor run.index.entries.items c.args.key) c.in-None.is c.page_of.ensures)
