use Rattle.replay_merge.specs.RowSource.{IsRowOf}
use Rattle.joined_rows.proofs.Both.{each_of_both, given_of_both, partition_told}
use Rattle.joined_rows.proofs.joined.JoinedRowsRowSource.rows.Goals as goal

pub returns-clause-told : goal.returns-clause-told
returns-clause-told g c =
    let inside = c.self.inside in
    let m = c.in_ok-merged.ensures in
    rw (← c.self.view_is) (partition_told c.args.table c.args.partition.now (g.A.RowSource.state inside.first.now).history (g.B.RowSource.state inside.second.now).history c.args.front c.in_ok-rows.rows c.in_ok-more.more c.in_ok-merged.field-0 c.self.invariant
    c.in_ok-rows.ensures.told c.in_ok-more.ensures.told (record { rising = m.rising; no_others = m.no_others; each_key = m.each_key }))

pub returns-clause-given : goal.returns-clause-given
returns-clause-given g c =
    let inside = c.self.inside in
    let m = c.in_ok-merged.ensures in
    rw (← c.self.view_is) (given_of_both (g.A.RowSource.state inside.first.now).may_give (g.B.RowSource.state inside.second.now).may_give c.in_ok-rows.rows c.in_ok-more.more c.in_ok-merged.field-0
    c.in_ok-rows.ensures.given c.in_ok-more.ensures.given (record { rising = m.rising; no_others = m.no_others; each_key = m.each_key }))

pub returns-clause-each : goal.returns-clause-each
returns-clause-each g c =
    let m = c.in_ok-merged.ensures in
    let each = each_of_both (IsRowOf c.args.table c.args.partition.now) c.in_ok-rows.rows c.in_ok-more.more c.in_ok-merged.field-0 c.in_ok-rows.ensures.each.each c.in_ok-more.ensures.each.each (record { rising = m.rising; no_others = m.no_others; each_key = m.each_key }) in
    record { each = each; rising = m.rising }
