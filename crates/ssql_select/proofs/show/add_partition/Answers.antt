use Rattle.std.proofs.Common.{◌≢◌, ◌<◌, ◌++◌, List, length, ◌∙◌, ap, sym, arith}
use Rattle.std.proofs.lemmas.Bool.{eqb-false}
use Rattle.ssql_select.specs.declared.show.ShowLine.{ShowLine}
use Rattle.ssql_select.proofs.ShownRows.{first_keyed, line_is}
use Rattle.ssql_select.proofs.show.add_partition.Goals as goal

pub day_name-day-requires : goal.day_name-day-requires
day_name-day-requires c =
    let none : length c.args.rows.now ≢ 0 = eqb-false _ _ (sym c.is_empty.ensures ∙ c.if-is_empty.false) in
    let some : 0 < length c.args.rows.now = omega (arith, none) in
    first_keyed c.args.table c.args.partition.now c.args.rows.now c.index-rows-0.result some c.index-rows-0.is c.requires

pub returns : goal.returns
returns c =
    let lines = c.args.lines.now.items in
    let none : length c.args.rows.now ≢ 0 = eqb-false _ _ (sym c.is_empty.ensures ∙ c.if-is_empty.false) in
    let some : 0 < length c.args.rows.now = omega (arith, none) in
    c.in_ok-push.ensures.items ∙ ap (λ (more : List ShowLine). lines ++ more) (rw c.day_name-day.ensures (line_is c.args.table c.args.partition.now c.args.rows.now c.index-rows-0.result some c.index-rows-0.is c.requires))
