use Rattle.std.proofs.Common.{w64}
use Rattle.std.proofs.lemmas.Int.{to_z-of_z}
use Rattle.replay_merge.specs.RowSource.{IsRowBetween}
use Rattle.joined_rows.proofs.Both.{each_of_both, given_of_both, keys_in_order, parts_told}
use Rattle.joined_rows.proofs.joined.JoinedRowsRowSource.rows_between.Goals as goal

pub returns-clause-told : goal.returns-clause-told
returns-clause-told g c =
    let inside = c.self.inside in
    let m = c.in_ok-merged.ensures in
    let low = to_z-of_z w64 c.args.from c.ranges.from in
    let high = to_z-of_z w64 c.args.to c.ranges.to in
    rw (← c.self.view_is) (parts_told c.args.table c.args.parts.now c.args.from c.args.to (g.A.RowSource.state inside.first.now).history (g.B.RowSource.state inside.second.now).history c.args.front c.in_ok-rows.rows c.in_ok-more.more c.in_ok-merged.field-0 c.self.invariant
    (rw (low, high) at c.in_ok-rows.ensures.told) (rw (low, high) at c.in_ok-more.ensures.told) (record { rising = m.rising; no_others = m.no_others; each_key = m.each_key }))

pub returns-clause-given : goal.returns-clause-given
returns-clause-given g c =
    let inside = c.self.inside in
    let m = c.in_ok-merged.ensures in
    rw (← c.self.view_is) (given_of_both (g.A.RowSource.state inside.first.now).may_give (g.B.RowSource.state inside.second.now).may_give c.in_ok-rows.rows c.in_ok-more.more c.in_ok-merged.field-0
    c.in_ok-rows.ensures.given c.in_ok-more.ensures.given (record { rising = m.rising; no_others = m.no_others; each_key = m.each_key }))

pub returns-clause-each : goal.returns-clause-each
returns-clause-each g c =
    let m = c.in_ok-merged.ensures in
    let low = to_z-of_z w64 c.args.from c.ranges.from in
    let high = to_z-of_z w64 c.args.to c.ranges.to in
    let each = each_of_both (IsRowBetween c.args.table c.args.parts.now c.args.from c.args.to) c.in_ok-rows.rows c.in_ok-more.more c.in_ok-merged.field-0 (rw (low, high) at c.in_ok-rows.ensures.each) (rw (low, high) at c.in_ok-more.ensures.each) (record { rising = m.rising; no_others = m.no_others; each_key = m.each_key }) in
    each

pub returns-clause-in_key_order : goal.returns-clause-in_key_order
returns-clause-in_key_order g c = keys_in_order c.in_ok-merged.field-0 c.in_ok-merged.ensures.rising
