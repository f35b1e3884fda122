use Rattle.std.proofs.Common.{◌≡◌, ◌∙◌, ◌++◌, None, drop, refl}
use Rattle.std.specs.Option.{option_to_list}
use Rattle.glance_log.specs.Sightings.{IsFollowedBy}
use Rattle.glance_log.proofs.Chains.{follows_self}
use Rattle.glance_board.specs.Shelves.{IsShelf, last_to_show}
use Rattle.glance_board.proofs.Following.{shows_on}
use Rattle.glance_board.proofs.Shelving.{handed_follows, handed_only, is_shown, later_shown, still_shelf}
use Rattle.glance_board.proofs.shelf.Shelf.show.Goals as goal

pub returns-in-Err-clause-later : goal.returns-in-Err-clause-later
returns-in-Err-clause-later g c = rw (c.append_waiting.ensures.desk) (rw (← c.self.view_is) (follows_self c.self.inside.board.desk.shown.value))

pub publish_as-board-requires : goal.publish_as-board-requires
publish_as-board-requires g c = λ next same.
    let b = c.self.inside.board in
    let n = c.append_waiting.new.board in
    let all : last_to_show n.desk.shown.value (drop n.behind n.log.items) ≡ last_to_show b.desk.shown.value (drop b.behind b.log.items ++ option_to_list c.self.inside.waiting) = rw (c.in-Ok.ensures.desk, c.in-Ok.ensures.pending) refl in
    let on = handed_follows b.desk.place.me.0.client b.desk.shown.value (drop b.behind b.log.items) c.self.inside.waiting c.self.inside.publisher c.self.invariant.0 next (same ∙ all) in
    let from : IsFollowedBy n.desk.shown.value next = rw (c.in-Ok.ensures.desk) on in
    shows_on n.desk.place.id n.desk.place.me.0.client n.desk.shown.value next from

pub invariant_of-shelf : goal.invariant_of-shelf
invariant_of-shelf g c =
    let b = c.self.inside.board in
    let n = c.append_waiting.new.board in
    let p = c.publish_as-board.result.0 in
    let made = c.self.inside.publisher in
    let handed : IsShelf n.desk.place.me.0.client n.desk.shown.value (drop n.behind n.log.items) None made
    = rw (c.in-Ok.ensures.desk, c.in-Ok.ensures.pending) (handed_only b.desk.place.me.0.client b.desk.shown.value (drop b.behind b.log.items) c.self.inside.waiting made c.self.invariant.0) in (
      still_shelf n.desk.place.me.0.client p.desk.place.me.0.client n.desk.shown.value p.desk.shown.value (drop n.behind n.log.items) (drop p.behind p.log.items) made c.publish_as-board.result.1
          c.publish_as-board.ensures.values c.publish_as-board.ensures.rule handed,
      c.self.invariant.1,
    )

pub returns-in-Ok-clause-shown : goal.returns-in-Ok-clause-shown
returns-in-Ok-clause-shown g c =
    let b = c.self.inside.board in
    let n = c.append_waiting.new.board in
    let p = c.publish_as-board.result.0 in
    let made = c.self.inside.publisher in
    let handed : IsShelf n.desk.place.me.0.client n.desk.shown.value (drop n.behind n.log.items) None made
    = rw (c.in-Ok.ensures.desk, c.in-Ok.ensures.pending) (handed_only b.desk.place.me.0.client b.desk.shown.value (drop b.behind b.log.items) c.self.inside.waiting made c.self.invariant.0) in
    is_shown n.desk.place.me.0.client p.desk.place.me.0.client n.desk.shown.value p.desk.shown.value (drop n.behind n.log.items) (drop p.behind p.log.items) made c.publish_as-board.result.1
    c.publish_as-board.ensures.values handed.last

pub returns-in-Ok-clause-later : goal.returns-in-Ok-clause-later
returns-in-Ok-clause-later g c =
    let b = c.self.inside.board in
    let n = c.append_waiting.new.board in
    let p = c.publish_as-board.result.0 in
    let made = c.self.inside.publisher in
    let handed : IsShelf n.desk.place.me.0.client n.desk.shown.value (drop n.behind n.log.items) None made
    = rw (c.in-Ok.ensures.desk, c.in-Ok.ensures.pending) (handed_only b.desk.place.me.0.client b.desk.shown.value (drop b.behind b.log.items) c.self.inside.waiting made c.self.invariant.0) in
    let later : IsFollowedBy n.desk.shown.value p.desk.shown.value = later_shown n.desk.place.me.0.client p.desk.place.me.0.client n.desk.shown.value p.desk.shown.value (drop n.behind n.log.items) (drop p.behind p.log.items)
    c.publish_as-board.result.1 c.publish_as-board.ensures.values handed.pends in
    let from : IsFollowedBy b.desk.shown.value p.desk.shown.value = rw (← c.in-Ok.ensures.desk) later in
    rw (← c.self.view_is) from
