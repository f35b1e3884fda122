use Rattle.std.proofs.Common.{◌+◌, ◌≤◌, List, length, sym, ap, ◌∙◌, arith}
use Rattle.std.specs.List.{flat_map}
use Rattle.std.proofs.lemmas.List.{take_all}
use Rattle.arch_types.specs.declared.row.Row.{Row}
use Rattle.row_codec.proofs.Ends.{size_more}
use Rattle.run_pages.proofs.Lengths.{at_zero, length-page, length-placed}
use Rattle.run_pages.proofs.page.page_len.Goals as goal

pub loop-row-preserved : goal.loop-row-preserved
loop-row-preserved c =
    let more = size_more at_zero c.args.rows.now c.loop-row.row-index c.row-item.result c.loop-row-test.true c.row-item.is in
    let here = length-placed 0 c.row-item.result in
    record {
      size = omega (arith, more, here, c.row_len.ensures.value, c.loop-row.invariant.size);
      most = omega (arith, c.row_len.ensures.bound, c.loop-row.invariant.most);
    }

pub returns-clause-value : goal.returns-clause-value
returns-clause-value c = λ positions beside.
    let rows = c.args.rows.now in
    let all : length rows ≤ c.loop-row.row-index = omega (arith, c.loop-row-test.false) in
    c.loop-row.invariant.size ∙ ap (λ (l : List Row). 2 + length (flat_map at_zero l)) (take_all c.loop-row.row-index rows all) ∙ sym (length-page positions rows beside)
