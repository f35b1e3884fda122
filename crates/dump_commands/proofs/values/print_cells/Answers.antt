use Rattle.std.proofs.Common.{◌≡◌, ◌∙◌, ◌++◌, ◌∷◌, length, ap, arith, refl}
use Rattle.std.specs.Prelude.{flat_map}
use Rattle.std.proofs.lemmas.Result.{err_from_is_err_and}
use Rattle.arch_types.specs.Table.{sorted}
use Rattle.yarch_table.specs.Stored.{rows_of}
use Rattle.line_buffer.specs.Output.{IsBuffered}
use Rattle.dump_commands.specs.ValuesPrinting.{line_of, lines_of_cells}
use Rattle.dump_commands.proofs.CellCounts.{cells_few, count_next}
use Rattle.line_buffer.proofs.LineBuffers.{buffered_front, buffered_more, buffered_none, buffered_some, regroup}
use Rattle.dump_commands.proofs.Visible.{seen-all}
use Rattle.dump_commands.proofs.values.print_cells.Goals as goal

pub loop-row-init : goal.loop-row-init
loop-row-init g c =
    let seen = seen-all 18446744073709551615 c.args.table.now.stored (omega arith) c.requires.shown in record {
      buffered = rw (c.requires.empty, c.into_iter-row-iterator.ensures.into_iter_gives, c.rows_at-row-items.ensures, seen)
          (buffered_none (g.K.Sink.state c.args.sink.now).written (lines_of_cells c.args.known.now.mdb c.args.known.now.number c.args.table.now.stored));
      room = rw c.requires.empty (omega arith);
      counted = rw (c.into_iter-row-iterator.ensures.into_iter_gives, c.rows_at-row-items.ensures, seen) (omega arith);
      steps = rw (c.into_iter-row-iterator.ensures.into_iter_gives, c.rows_at-row-items.ensures, seen) (omega arith);
      no_fault = refl;
    }

pub overflow_add-count : goal.overflow_add-count
overflow_add-count g c =
    let db = c.args.known.now.mdb in
    let number = c.args.known.now.number in
    let step : c.loop-row.row-iterator ≡ c.in-Some.row.now ∷ c.next.new.self = let s = c.in-Some.ensures.steps in cc in
    let total = rw step at c.loop-row.invariant.counted in
    let next = count_next db number c.in-Some.row.now c.next.new.self in
    let few = cells_few db number (sorted (rows_of c.args.table.now.stored)) in
    omega (arith, total, next, few, c.put_cell_of-count.ensures.count, c.requires.few)

pub loop-row-preserved : goal.loop-row-preserved
loop-row-preserved g c =
    let db = c.args.known.now.mdb in
    let number = c.args.known.now.number in
    let first = (g.K.Sink.state c.args.sink.now).written in
    let lines = lines_of_cells db number c.args.table.now.stored in
    let step : c.loop-row.row-iterator ≡ c.in-Some.row.now ∷ c.next.new.self = let s = c.in-Some.ensures.steps in cc in
    let before = regroup (line_of db number) first (g.K.Sink.state c.loop-row.sink).written lines c.loop-row.line_buffer c.loop-row.row-iterator c.next.new.self c.in-Some.row.now step c.loop-row.invariant.buffered in
    let flushed : IsBuffered (g.K.Sink.state c.loop-row.sink).written (g.K.Sink.state c.flush_if_full.new.sink).written (c.loop-row.line_buffer ++ line_of db number c.in-Some.row.now) c.flush_if_full.new.self =
    rw c.put_cell_of-count.ensures.line at c.in_ok-flush_if_full.ensures.buffered in
    let total = rw step at c.loop-row.invariant.counted in
    let left = ap length step in
    let next = count_next db number c.in-Some.row.now c.next.new.self in record {
      buffered = buffered_more first (g.K.Sink.state c.loop-row.sink).written (g.K.Sink.state c.flush_if_full.new.sink).written lines (c.loop-row.line_buffer ++ line_of db number c.in-Some.row.now) c.flush_if_full.new.self
          (flat_map (line_of db number) c.next.new.self) before flushed;
      room = c.in_ok-flush_if_full.ensures.room;
      counted = omega (arith, total, next, c.put_cell_of-count.ensures.count);
      steps = omega (arith, left, c.put_cell_of-count.ensures.step, c.loop-row.invariant.steps);
      no_fault = c.in_ok-flush_if_full.ensures.no_fault ∙ c.loop-row.invariant.no_fault;
    }

pub returns-clause-steps : goal.returns-clause-steps
returns-clause-steps g c = omega (arith, c.loop-row.invariant.steps)

pub returns-in_err-flush_if_full-clause-steps : goal.returns-in_err-flush_if_full-clause-steps
returns-in_err-flush_if_full-clause-steps g c =
    let step : c.loop-row.row-iterator ≡ c.in-Some.row.now ∷ c.next.new.self = let s = c.in-Some.ensures.steps in cc in
    let left = ap length step in
    omega (arith, left, c.put_cell_of-count.ensures.step, c.loop-row.invariant.steps)

pub returns-in_err-extractor-clause-printed : goal.returns-in_err-extractor-clause-printed
returns-in_err-extractor-clause-printed g c =
    let first = (g.K.Sink.state c.args.sink.now).written in
    let lines = lines_of_cells c.args.known.now.mdb c.args.known.now.number c.args.table.now.stored in
    let p = err_from_is_err_and c.from_residual.result c.from_residual.ensures.1 in
    rw (p.1, p.2) (record { some = buffered_front first first lines lines (buffered_none first lines); no_fault = refl })

pub returns-in_err-flush_if_full-clause-printed : goal.returns-in_err-flush_if_full-clause-printed
returns-in_err-flush_if_full-clause-printed g c =
    let db = c.args.known.now.mdb in
    let number = c.args.known.now.number in
    let first = (g.K.Sink.state c.args.sink.now).written in
    let lines = lines_of_cells db number c.args.table.now.stored in
    let step : c.loop-row.row-iterator ≡ c.in-Some.row.now ∷ c.next.new.self = let s = c.in-Some.ensures.steps in cc in
    let before = regroup (line_of db number) first (g.K.Sink.state c.loop-row.sink).written lines c.loop-row.line_buffer c.loop-row.row-iterator c.next.new.self c.in-Some.row.now step c.loop-row.invariant.buffered in
    let some = rw c.put_cell_of-count.ensures.line at c.in_err-flush_if_full.ensures.some in
    let same = c.loop-row.invariant.no_fault in
    let later = c.in_err-flush_if_full.ensures.later in
    let p = err_from_is_err_and c.from_residual-in_err-flush_if_full.result c.from_residual-in_err-flush_if_full.ensures.1 in
    rw (p.1, p.2) (record {
      some = buffered_some first (g.K.Sink.state c.loop-row.sink).written (g.K.Sink.state c.flush_if_full.new.sink).written lines (c.loop-row.line_buffer ++ line_of db number c.in-Some.row.now)
          (flat_map (line_of db number) c.next.new.self) before some;
      later = omega (arith, same, later);
      failed = λ small. let risen = c.in_err-flush_if_full.ensures.failed small in omega (arith, same, risen);
    })
