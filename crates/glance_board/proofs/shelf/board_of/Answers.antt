use Rattle.std.proofs.Common.{drop}
use Rattle.glance_board.proofs.Following.{first_shown, shows_on}
use Rattle.glance_board.proofs.Shelving.{opened_follows, opened_pending, opened_seen, opened_shown}
use Rattle.glance_board.proofs.shelf.board_of.Goals as goal

pub new-requires-clause-rule : goal.new-requires-clause-rule
new-requires-clause-rule g c = first_shown c.args.first

pub publish_as-board-requires : goal.publish_as-board-requires
publish_as-board-requires g c = λ next same.
    let w = c.in_ok-board.board in
    shows_on w.desk.place.id w.desk.place.me.0.client w.desk.shown.value next (opened_follows w.desk.shown.value next (drop w.behind w.log.items) c.in_ok-board.ensures.1 same)

pub returns-in-Ok-clause-shown : goal.returns-in-Ok-clause-shown
returns-in-Ok-clause-shown g c =
    let w = c.in_ok-board.board in
    let p = c.publish_as-board.result.0 in
    opened_shown w.desk.place.me.0.client p.desk.place.me.0.client c.args.first w.desk.shown.value p.desk.shown.value (drop w.behind w.log.items) (drop p.behind p.log.items) c.publish_as-board.result.1
    c.in-Ok.is c.in_ok-board.ensures.0 c.in_ok-board.ensures.1 c.publish_as-board.ensures.values

pub returns-in-Ok-clause-seen : goal.returns-in-Ok-clause-seen
returns-in-Ok-clause-seen g c =
    let w = c.in_ok-board.board in
    let p = c.publish_as-board.result.0 in
    opened_seen w.desk.place.me.0.client p.desk.place.me.0.client c.args.first w.desk.shown.value p.desk.shown.value (drop w.behind w.log.items) (drop p.behind p.log.items) c.publish_as-board.result.1
    c.in-Ok.is c.in_ok-board.ensures.0 c.in_ok-board.ensures.1 c.publish_as-board.ensures.values c.publish_as-board.ensures.rule

pub returns-in-Ok-clause-pending : goal.returns-in-Ok-clause-pending
returns-in-Ok-clause-pending g c =
    let w = c.in_ok-board.board in
    let p = c.publish_as-board.result.0 in
    opened_pending w.desk.place.me.0.client p.desk.place.me.0.client c.args.first w.desk.shown.value p.desk.shown.value (drop w.behind w.log.items) (drop p.behind p.log.items) c.publish_as-board.result.1
    c.in-Ok.is c.publish_as-board.ensures.values
