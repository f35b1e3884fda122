use Rattle.std.proofs.Common.{arith}
use Rattle.live_session.proofs.Interleaved.{all_interleaved, none_wants, one_interleaved, pushed}
use Rattle.live_session.proofs.Lists.{no_items}
use Rattle.live_session.proofs.interleaving.interleave.Goals as goal

pub returns-in_default : goal.returns-in_default
returns-in_default c =
    let none = no_items c.loop.next.rest.items (omega (arith, c.in_default.ensures.cases.0, c.loop.next.rest.ok.0)) in
    record {
      interleaved = λ many. absurd (none_wants c.args.asks.now c.loop.counter c.loop.next.rest.items c.loop.second.rest.items c.loop.third.rest.items c.loop.fourth.rest.items (omega (arith, c.loop-test.true)) none (c.loop.invariant.many many));
    }

pub loop-preserved : goal.loop-preserved
loop-preserved c =
    let inv = c.loop.invariant in
    let next = c.loop.next.rest.items in
    let is = c.in-Some.ensures.items in
    record {
      many = λ many. one_interleaved c.args.asks.now c.loop.counter next c.loop.second.rest.items c.loop.third.rest.items c.loop.fourth.rest.items c.in-Some.answer c.next.new.self.rest.items (omega (arith, c.loop-test.true)) is (inv.many many);
      interleaved = pushed c.args.asks.now c.loop.counter next c.loop.second.rest.items c.loop.third.rest.items c.loop.fourth.rest.items c.loop.answers.items c.push_reserved.new.self.items c.in-Some.answer c.next.new.self.rest.items
          c.args.first c.args.second c.args.third c.args.fourth is c.push_reserved.ensures.items inv.interleaved;
      count = let n = inv.count in let l = c.push_reserved.ensures.len in omega (arith, n, l);
      capacity = let k = c.push_reserved.ensures.capacity in let m = inv.capacity in omega (arith, k, m);
    }

pub returns : goal.returns
returns c =
    let inv = c.loop.invariant in
    record {
      interleaved = λ many. all_interleaved c.args.asks.now c.loop.counter c.loop.next.rest.items c.loop.second.rest.items c.loop.third.rest.items c.loop.fourth.rest.items c.loop.answers.items c.args.first c.args.second c.args.third c.args.fourth
          (omega (arith, c.loop-test.false)) (inv.many many) inv.interleaved;
    }
