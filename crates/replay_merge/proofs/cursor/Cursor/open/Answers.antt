use Rattle.std.proofs.Common.{refl}
use Rattle.replay_merge.proofs.Opening.{opened_is_replay}
use Rattle.replay_merge.proofs.Pieces.{standing}
use Rattle.replay_merge.proofs.cursor.Cursor.open.Goals as goal

pub returns-clause-replays : goal.returns-clause-replays
returns-clause-replays c = λ history hold.
    let asked = c.by.ensures in
    let limit = c.args.request.now.limit in
    opened_is_replay c.args.request.now c.args.table c.args.front c.args.parts c.args.names (standing c.by.result limit c.in_order-parts.result.items c.new-ahead.result)
    (record {
      of_table = asked.of_table;
      at_front = asked.at_front;
      starts = asked.starts;
      ends = asked.ends;
      limit = refl;
      listed = asked.listed;
      same_parts = c.in_order-parts.ensures.same;
      rising = c.in_order-parts.ensures.rising;
      unread = c.new-ahead.ensures;
    })
    history hold
