use Rattle.std.proofs.Common.{◌≡◌, ◌∙◌, ℕ, ℤ, List, Some, ap, rules, arith, take, drop, FitsSigned}
use Rattle.std.specs.Prelude.{map, replicate}
use Rattle.std.specs.Int.{w8, w128}
use Rattle.std.proofs.lemmas.Grind.{common_steps}
use Rattle.std.proofs.lemmas.Result.{IfOk-weaker}
use Rattle.std.proofs.lemmas.Int.{to_z-of_z}
use Rattle.octet_fields.specs.Reading.{number_at}
use Rattle.segment_codec.specs.Bits.{packed_at}
use Rattle.segment_codec.specs.RawColumn.{value_above}
use Rattle.segment_codec.proofs.ColumnRows.{part_above, same_rows, varied_rows}
use Rattle.segment_codec.proofs.raw_column.values_in_rows.Goals as goal

pub returns-then-form-eq0 : goal.returns-then-form-eq0
returns-then-form-eq0 c = λ values after e.
    let low = c.in_ok-low.low in
    let zero : c.in_ok-form.form ≡ 0 = omega arith in
    let form : number_at w8 c.args.octets.now ≡ Some (0, c.in_ok-form.rest.now) = c.in_ok-form.ensures ∙ ap (λ (n : ℕ). Some (n, c.in_ok-form.rest.now)) zero in
    let items : c.in_ok-values.values.items ≡ replicate c.args.count low = first_of (search rules, grind (arith, common_steps, to_z-of_z)) in
    c.from_vec.ensures ∙ items ∙ same_rows c.args.rows c.args.first c.args.count c.args.octets.now c.in_ok-form.rest.now c.in_ok-low.rest.now after values low c.requires.within form c.in_ok-low.ensures e

pub returns : goal.returns
returns c = λ values after e.
    let low = c.in_ok-low.low in
    let width = c.in_ok-width.width in
    let rest = c.in_ok-width.rest.now in
    let fits : FitsSigned w128 low = search rules in
    let v = varied_rows c.args.rows c.args.octets.now c.in_ok-form.rest.now c.in_ok-low.rest.now rest after values c.in_ok-form.form low width fits (λ zero. let other = c.if-form-eq0.false in omega arith) c.in_ok-form.ensures c.in_ok-low.ensures c.in_ok-width.ensures e in
    let read : packed_at c.from.result c.from-rows.result rest ≡ Some (v.0, after) = ap (λ (k : ℕ). packed_at k c.from-rows.result rest) c.from.ensures ∙ ap (λ (n : ℕ). packed_at width n rest) c.from-rows.ensures ∙ v.1 in
    IfOk-weaker c.unpacked_rows.result (λ (found : List ℤ). found ≡ map (value_above low) (take c.args.count (drop c.args.first v.0))) (λ found. found ≡ take c.args.count (drop c.args.first values))
    (λ found is. is ∙ part_above low c.args.first c.args.count values v.0 v.2) (simp to_z-of_z at (c.unpacked_rows.ensures v.0 after read))
