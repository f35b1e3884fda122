use Rattle.std.proofs.Common.{◌≡◌, ◌∷◌, length, refl, ap, arith}
use Rattle.live_session.proofs.Lists.{no_items, taken_all, taken_more, taken_none}
use Rattle.live_session.proofs.running.take_apart.Goals as goal

pub loop-one-init : goal.loop-one-init
loop-one-init g c =
    let gives : c.into_iter-left.result.rest.items ≡ c.args.done.items = let s = c.into_iter-left.ensures.rest in cc in
    let many = ap length gives in
    let done = c.args.done.ok in
    let room = c.requires.room in
    record {
      passes = taken_none (λ one. one.pass) c.args.passes.now.items c.into_iter-left.result.rest.items c.args.done.items gives;
      ends = taken_none (λ one. one.end) c.args.ends.now.items c.into_iter-left.result.rest.items c.args.done.items gives;
      room = omega (arith, many, done, room);
      ends_room = omega (arith, many, done, room);
    }

pub loop-one-preserved : goal.loop-one-preserved
loop-one-preserved g c =
    let step : c.loop-one.left.rest.items ≡ c.in-Some.one ∷ c.next.new.self.rest.items = c.in-Some.ensures.items in
    let inv = c.loop-one.invariant in
    let many = ap length step in
    record {
      passes = taken_more (λ one. one.pass) c.loop-one.passes.items c.push_reserved.new.self.items c.in-Some.one _ c.loop-one.left.rest.items c.next.new.self.rest.items _ c.push_reserved.ensures.items refl step inv.passes;
      ends = taken_more (λ one. one.end) c.loop-one.ends.items c.push_reserved-in-Some.new.self.items c.in-Some.one _ c.loop-one.left.rest.items c.next.new.self.rest.items _ c.push_reserved-in-Some.ensures.items refl step inv.ends;
      room = let r = inv.room in let l = c.push_reserved.ensures.len in let k = c.push_reserved.ensures.capacity in omega (arith, r, l, k, many);
      ends_room = let r = inv.ends_room in let l = c.push_reserved-in-Some.ensures.len in let k = c.push_reserved-in-Some.ensures.capacity in omega (arith, r, l, k, many);
    }

pub returns : goal.returns
returns g c =
    let inv = c.loop-one.invariant in
    let rest = c.loop-one.left.rest.items in
    let none = no_items rest (omega (arith, c.in_default.ensures.cases.0, c.loop-one.left.rest.ok.0)) in
    record {
      passes = taken_all (λ one. one.pass) c.loop-one.passes.items rest _ none inv.passes;
      ends = taken_all (λ one. one.end) c.loop-one.ends.items rest _ none inv.ends;
    }
