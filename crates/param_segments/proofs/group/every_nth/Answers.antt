use Rattle.std.proofs.Common.{◌∙◌, sym, pos, get_or, arith, rules, FitsSigned}
use Rattle.std.specs.Int.{w128}
use Rattle.std.proofs.lemmas.Int.{to_z-of_z}
use Rattle.param_segments.proofs.Columns.{more_rows, every_nth_more}
use Rattle.param_segments.proofs.group.every_nth.Goals as goal

pub loop-preserved : goal.loop-preserved
loop-preserved c =
    let rows = more_rows c.args.count c.loop.counter c.args.width c.loop-test.true in
    let fits : FitsSigned w128 (get_or c.loop.rest.now c.args.from (pos 0)) = search rules in
    record {
      all = rw (c.push_reserved.ensures.items, c.split_at.ensures.back, to_z-of_z w128 (get_or c.loop.rest.now c.args.from (pos 0)) fits) (sym (every_nth_more c.loop.column.items c.args.from c.args.width c.args.count c.loop.counter c.loop.rest.now (pos 0) c.loop-test.true (omega (arith, rows, c.loop.invariant.len, c.requires.from))) ∙ c.loop.invariant.all);
      len = omega (arith, rows, c.loop.invariant.len, c.split_at.ensures.back_len);
      room = omega (arith, c.push_reserved.ensures.len, c.push_reserved.ensures.capacity, c.loop.invariant.room, c.loop-test.true);
    }
