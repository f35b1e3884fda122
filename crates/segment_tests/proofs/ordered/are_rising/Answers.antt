use Rattle.std.proofs.Common.{◌≡◌, ◌∙◌, ◌+◌, ◌<◌, [], ap, arith, get_or, length, map, pos}
use Rattle.std.proofs.Math.ListN.{get_or-map}
use Rattle.std.proofs.lemmas.List.{length-map}
use Rattle.std.proofs.lemmas.Map.Keys.{sorted_from_all_adjacent}
use Rattle.arch_types.specs.declared.key.Key.{Key}
use Rattle.arch_types.specs.declared.row.Row.{Row}
use Rattle.arch_types.specs.Order.{key_cmp}
use Rattle.arch_types.proofs.Ranks.{key_cmp_total}
use Rattle.segment_tests.proofs.ordered.are_rising.Goals as goal

no_row : Row
no_row = record { key = record { time = pos 0; seq = 0 }; rectime = pos 0; packet = []; link = 0; pname = 0; table = 0 }

pub returns : goal.returns
returns c = λ _.
    let rows = c.args.rows.now in
    let key : Row → Key = λ row. row.key in
    let len : length (map key rows) ≡ length rows = length-map rows key in
    sorted_from_all_adjacent key_cmp_total (map key rows) no_row.key (λ k lt.
    let inside : k + 1 < c.loop-i.i = omega (arith, len, lt, c.loop-i-test.false) in
    ap (λ (a : Key). key_cmp a (get_or (map key rows) (k + 1) no_row.key)) (get_or-map key rows k no_row)
    ∙ ap (key_cmp (get_or rows k no_row).key) (get_or-map key rows (k + 1) no_row) ∙ c.loop-i.invariant k no_row inside)
