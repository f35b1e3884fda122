use Rattle.std.proofs.Common.{◌∙◌, Option, subst}
use Rattle.glance_log.specs.Sightings.{Sighting}
use Rattle.archive_store.specs.StoreView.{filled_of}
use Rattle.live_archive.proofs.Going.{prefix_trans}
use Rattle.store_shelf.specs.declared.kept.Kept.{Kept}
use Rattle.live_asks.specs.LiveAsks.{AreAsked, disk_facts, every_fourth, reader_view}
use Rattle.live_asks.proofs.Each.{are_answered_since, asked_are_answered, none_kept}
use Rattle.live_asks.proofs.Looking.{glances_stay}
use Rattle.live_asks.proofs.Sees.{noted_later, noted_since, sees_on}
use Rattle.live_asks.proofs.Settled.{settled_are_answered}
use Rattle.live_asks.proofs.reader.settled_answers.Goals as goal

pub is_settled-requires-clause-glance : goal.is_settled-requires-clause-glance
is_settled-requires-clause-glance g c =
    glances_stay c.args.live.now.cell.first c.args.glance c.answers_by-answers.new.glance c.requires.glance c.answers_by-answers.ensures.later

pub returns-then-is_settled-clause-sees : goal.returns-then-is_settled-clause-sees
returns-then-is_settled-clause-sees g c = sees_on c.args.pass.now c.answers_by-answers.new.pass c.is_settled.new.pass c.answers_by-answers.ensures.sees c.is_settled.ensures.sees

pub returns-then-is_settled-clause-answered : goal.returns-then-is_settled-clause-answered
returns-then-is_settled-clause-answered g c =
    let first = c.args.live.now.cell.first.store in
    let old = c.args.pass.now in
    let mid = c.answers_by-answers.new.pass in
    let new = c.is_settled.new.pass in
    let sees = c.answers_by-answers.ensures.sees in
    let more = c.is_settled.ensures.sees in
    settled_are_answered g.D.Disk.device first c.answers_by-answers.new.glance old mid new c.args.steps.now c.answers_by-answers.new.steps (every_fourth c.args.before c.args.asks.now) c.answers_by-answers.result.0 c.answers_by-answers.result.1
    c.requires.seen (prefix_trans old.history.seen mid.history.seen new.history.seen sees.begins more.begins) more.begins (c.is_settled.ensures.settled c.if-is_settled.true) c.answers_by-answers.ensures.asked

pub returns-clause-sees : goal.returns-clause-sees
returns-clause-sees g c =
    sees_on c.args.pass.now c.is_settled.new.pass c.answers_by.new.pass
    (sees_on c.args.pass.now c.answers_by-answers.new.pass c.is_settled.new.pass c.answers_by-answers.ensures.sees c.is_settled.ensures.sees) c.answers_by.ensures.sees

-- asked again, without a glance
pub returns-clause-answered : goal.returns-clause-answered
returns-clause-answered g c =
    let device = g.D.Disk.device in
    let first = c.args.live.now.cell.first.store in
    let old = c.args.pass.now in
    let mid = c.is_settled.new.pass in
    let new = c.answers_by.new.pass in
    let asks = every_fourth c.args.before c.args.asks.now in
    let sees = sees_on old c.answers_by-answers.new.pass mid c.answers_by-answers.ensures.sees c.is_settled.ensures.sees in
    let before = reader_view mid c.answers_by-answers.new.steps in
    let after = reader_view new c.answers_by.new.steps in
    let asked = subst (λ (o : Option (Sighting (Kept _))). AreAsked device first o before after asks c.answers_by.result.0 c.answers_by.result.1) c.answers_by.ensures.later c.answers_by.ensures.asked in
    are_answered_since (disk_facts device first.opened first.sealed) (filled_of first) old.history.seen mid.history.seen new.history.seen asks c.answers_by.result.0 c.answers_by.result.1 sees.begins
    (asked_are_answered device first before after asks c.answers_by.result.0 c.answers_by.result.1 asked)

pub returns-then-is_settled-clause-noted : goal.returns-then-is_settled-clause-noted
returns-then-is_settled-clause-noted g c failed =
    noted_later c.args.pass.now c.answers_by-answers.new.pass c.is_settled.new.pass (c.answers_by-answers.ensures.noted failed) c.is_settled.ensures.sees

pub returns-clause-noted : goal.returns-clause-noted
returns-clause-noted g c failed =
    noted_since c.args.pass.now c.is_settled.new.pass c.answers_by.new.pass
    (sees_on c.args.pass.now c.answers_by-answers.new.pass c.is_settled.new.pass c.answers_by-answers.ensures.sees c.is_settled.ensures.sees) (c.answers_by.ensures.noted failed)

pub returns-then-is_settled-clause-silent : goal.returns-then-is_settled-clause-silent
returns-then-is_settled-clause-silent g c none = c.is_settled.ensures.silent ∙ c.answers_by-answers.ensures.silent none

pub returns-clause-silent : goal.returns-clause-silent
returns-clause-silent g c none = c.answers_by.ensures.silent none ∙ (c.is_settled.ensures.silent ∙ c.answers_by-answers.ensures.silent c.in-None.is)

-- one wasn't answered

pub returns-in-Some-clause-sees : goal.returns-in-Some-clause-sees
returns-in-Some-clause-sees g c = sees_on c.args.pass.now c.answers_by-answers.new.pass c.is_settled.new.pass c.answers_by-answers.ensures.sees c.is_settled.ensures.sees

pub returns-in-Some-clause-answered : goal.returns-in-Some-clause-answered
returns-in-Some-clause-answered g c =
    let device = g.D.Disk.device in
    let first = c.args.live.now.cell.first.store in
    let old = c.args.pass.now in
    let mid = c.answers_by-answers.new.pass in
    let asks = every_fourth c.args.before c.args.asks.now in
    let before = reader_view old c.args.steps.now in
    let after = reader_view mid c.answers_by-answers.new.steps in
    let asked = subst (AreAsked device first c.answers_by-answers.new.glance before after asks c.answers_by-answers.result.0) c.in-Some.is c.answers_by-answers.ensures.asked in
    rw c.new.ensures (none_kept device first c.answers_by-answers.new.glance before after old.history.seen c.is_settled.new.pass.history.seen asks c.answers_by-answers.result.0 c.in-Some.refusal asked)

pub returns-in-Some-clause-noted : goal.returns-in-Some-clause-noted
returns-in-Some-clause-noted g c failed =
    noted_later c.args.pass.now c.answers_by-answers.new.pass c.is_settled.new.pass (c.answers_by-answers.ensures.noted (c.in-Some.is ∙ failed)) c.is_settled.ensures.sees

pub returns-in-Some-clause-silent : goal.returns-in-Some-clause-silent
returns-in-Some-clause-silent g c none = absurd (cc none)
