use Rattle.std.proofs.Common.{◌≡◌, ◌∷◌, ◌++◌, [], length-append, arith}
use Rattle.octet_fields.proofs.Times.{ends, goes_on, is_done}
use Rattle.run_pages.specs.Placed.{row_placed, placed_rows}
use Rattle.run_pages.specs.Pages.{placed_at, rows_of_page}
use Rattle.run_pages.proofs.Beside.{placed_rows-push}
use Rattle.run_pages.proofs.page.some_placed_at.Goals as goal

pub loop-preserved : goal.loop-preserved
loop-preserved c =
    let positions = c.loop.positions in
    let rows = c.loop.rows in
    let position = c.in_ok-position.position in
    let row = c.in_ok-position.row in
    let pushed : placed_rows c.push.new.self c.push-in-loop.new.self ≡ placed_rows positions rows ++ row_placed position row ∷ [] = rw (c.in_ok-push.ensures.ok, c.in_ok-push-2.ensures.ok) (placed_rows-push positions rows position row c.loop.invariant.beside) in
    record {
      read = goes_on placed_at (placed_rows positions rows) _ c.args.count c.loop.counter c.loop.rest.now (row_placed position row) c.in_ok-position.after.now _ pushed c.loop-test.true c.in_ok-position.ensures.gives c.loop.invariant.read;
      end = c.in_ok-position.ensures.rest;
      beside = rw (c.in_ok-push.ensures.ok, c.in_ok-push-2.ensures.ok) (omega (arith, length-append positions (position ∷ []), length-append rows (row ∷ []), c.loop.invariant.beside));
    }

pub returns-in_err-position : goal.returns-in_err-position
returns-in_err-position c = ends placed_at (λ x. (rows_of_page x.0, x.1.now)) c.from_residual-in_err-position.result _ _ c.args.count c.loop.counter c.loop.rest.now _ c.from_residual-in_err-position.ensures.1 c.loop-test.true c.in_err-position.ensures.gives c.loop.invariant.read

pub returns : goal.returns
returns c = is_done placed_at _ c.args.count c.loop.counter c.loop.rest.now _ c.loop-test.false c.loop.invariant.read
