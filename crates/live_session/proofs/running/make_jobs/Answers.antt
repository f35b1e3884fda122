use Rattle.std.proofs.Common.{◌≡◌, ◌∙◌, ◌≤◌, ◌^◌, ℕ, ◌∷◌, length, vec_len, refl, sym, ap, subst, arith}
use Rattle.std.specs.List.{AllByRecursion}
use Rattle.turn_passes.proofs.Joining.{all_push, halved}
use Rattle.live_session.specs.Jobs.{IsNumbered, job_setting}
use Rattle.live_session.proofs.Coming.{may_do}
use Rattle.live_session.proofs.Lists.{all_made, all_none, left_more, no_items, none_left}
use Rattle.live_asks.specs.LiveAsks.{IsGlanceAt}
use Rattle.live_session.proofs.Making.{given_seen_is, glance_taken, lasts, none_split, one_split}
use Rattle.live_session.proofs.running.make_jobs.Goals as goal

pub loop-order-init : goal.loop-order-init
loop-order-init g c =
    let gives : c.into_iter-order-iterator.result.rest.items ≡ c.args.orders.items = let s = c.into_iter-order-iterator.ensures.into_iter_gives in cc in
    let many = ap length gives in
    let none = ap length c.requires.none in
    let here = c.args.jobs.now.ok in
    let ordered = c.args.orders.ok in
    record {
      free = c.requires.free;
      left = none_left (λ job. job.order) c.args.jobs.now.items c.into_iter-order-iterator.result.rest.items c.args.orders.items c.requires.none gives;
      count = omega (arith, many, none, here, ordered);
      capacity = refl;
      share = let last = c.requires.share in let e : length c.into_iter-order-iterator.result.rest.items ≡ vec_len c.args.orders = omega (arith, many, ordered) in subst (λ (n : ℕ). 2 ^ n ≤ c.args.pass.now.share) (sym e) last;
      numbered = subst (AllByRecursion IsNumbered) (sym gives) c.requires.numbered;
      glances = c.requires.glances;
      here = all_none _ c.args.jobs.now.items c.requires.none;
      may = all_none _ c.args.jobs.now.items c.requires.none;
      split = none_split (λ job. job.pass) c.args.pass.now c.args.jobs.now.items c.requires.none;
    }

pub split-own-requires-clause-share : goal.split-own-requires-clause-share
split-own-requires-clause-share g c =
    let step : c.loop-order.order-iterator.rest.items ≡ c.in-Some.order ∷ c.next.new.self.rest.items = let s = c.in-Some.ensures.steps in cc in
    (halved (length c.next.new.self.rest.items) c.loop-order.pass.share (lasts _ _ _ _ step c.loop-order.invariant.share)).0

pub loop-order-preserved : goal.loop-order-preserved
loop-order-preserved g c =
    let step : c.loop-order.order-iterator.rest.items ≡ c.in-Some.order ∷ c.next.new.self.rest.items = let s = c.in-Some.ensures.steps in cc in
    let inv = c.loop-order.invariant in
    let rest = c.next.new.self.rest.items in
    let is = c.push_reserved.ensures.items in
    let half = (halved (length rest) c.loop-order.pass.share (lasts _ _ _ _ step inv.share)).1 in
    let kept = ap (λ p. p.share) c.split-own.ensures.kept in
    let sees = given_seen_is c.args.pass.now c.loop-order.pass c.split-own.result inv.split.same.0 c.split-own.ensures.given in
    let numbered = subst (AllByRecursion IsNumbered) step inv.numbered in
    let setting = c.args.setting.now in
    let taken = glance_taken (IsGlanceAt c.args.live.now.cell.first) c.loop-order.glances c.glance_for-glance.new.glances c.glance_for-glance.result c.glance_for-glance.ensures inv.glances in
    record {
      free = c.split-own.ensures.free.0;
      left = left_more (λ job. job.order) _ _ _ c.in-Some.order c.loop-order.order-iterator.rest.items rest c.args.orders.items is refl step inv.left;
      count = let n = inv.count in let l = c.push_reserved.ensures.len in let s = ap length step in omega (arith, n, l, s);
      capacity = c.push_reserved.ensures.capacity ∙ inv.capacity;
      share = subst (λ (s : ℕ). 2 ^ length rest ≤ s) (sym kept) half;
      numbered = numbered.1;
      glances = taken.1;
      here = rw is (all_push _ _ _ inv.here (refl, refl));
      may = rw is (all_push _ _ _ inv.may (
        c.split-own.ensures.free.1,
        taken.0,
        may_do c.args.live.now.cell.first.store (job_setting setting.head.now setting.graph.now setting.moment setting.asks.now) c.split-own.result c.in-Some.order c.requires.fit (sees.0 ∙ c.requires.seen) sees.1 numbered.0,
      ));
      split = one_split (λ job. job.pass) c.args.pass.now c.loop-order.pass c.split-own.new.pass c.split-own.result _ _ _ is refl c.split-own.ensures.kept c.split-own.ensures.given inv.split;
    }

pub returns : goal.returns
returns g c =
    let inv = c.loop-order.invariant in
    let rest = c.loop-order.order-iterator.rest.items in
    let none = no_items rest (omega (arith, c.in-None.ensures.steps.0, c.loop-order.order-iterator.rest.ok.0)) in
    let count = inv.count in
    let nothing = ap length none in
    record {
      free = inv.free;
      orders = all_made (λ job. job.order) c.loop-order.jobs.items rest c.args.orders.items none inv.left;
      here = inv.here;
      may = inv.may;
      split = inv.split;
      room = (omega (arith, count, nothing), inv.capacity);
    }
