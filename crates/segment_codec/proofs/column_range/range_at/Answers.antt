use Rattle.std.proofs.Common.{◌≡◌, ◌∙◌, ℕ, ℤ, List, Option, Some, FitsSigned, ap, of_z, rules, subst, sym, to_z}
use Rattle.std.specs.Int.{w8, w128}
use Rattle.std.proofs.lemmas.Int.{to_z-of_z}
use Rattle.std.proofs.lemmas.Result.{err_from_is_err_and}
use Rattle.octet_fields.specs.Answers.{Gives}
use Rattle.octet_fields.specs.Reading.{number_at}
use Rattle.segment_codec.specs.Outline.{value_range}
use Rattle.segment_codec.specs.declared.column_range.ColumnRange.{ColumnRange}
use Rattle.segment_codec.proofs.Outlines.{range_none, range_same, range_varied}
use Rattle.segment_codec.proofs.column_range.range_at.Goals as goal

pub returns-in_err-low : goal.returns-in_err-low
returns-in_err-low c =
    let p = err_from_is_err_and c.from_residual-in_err-low.result c.from_residual-in_err-low.ensures.1 in
    rw (p.1, p.2) (range_none c.args.rows c.args.octets.now c.in_ok-form.rest.now c.in_ok-form.form c.in_ok-form.ensures c.in_err-low.ensures)

pub returns-in-0 : goal.returns-in-0
returns-in-0 c =
    let low = c.in_ok-low.low in
    let rest = c.in_ok-low.rest.now in
    let fits : FitsSigned w128 low = search rules in
    let m = to_z-of_z w128 low fits in
    let form : number_at w8 c.args.octets.now ≡ Some (0, c.in_ok-form.rest.now) = c.in_ok-form.ensures ∙ ap (λ (n : ℕ). Some (n, c.in_ok-form.rest.now)) c.in-0.is in
    range_same c.args.rows c.args.octets.now c.in_ok-form.rest.now rest low c.requires.some form c.in_ok-low.ensures
    ∙ ap (λ (z : ℤ). Some (value_range z low, rest)) (sym m) ∙ ap (λ (z : ℤ). Some (value_range (to_z w128 (of_z w128 low)) z, rest)) (sym m)

pub returns-in-1 : goal.returns-in-1
returns-in-1 c =
    let low = c.in_ok-low.low in
    let fits : FitsSigned w128 low = search rules in
    let form : number_at w8 c.args.octets.now ≡ Some (1, c.in_ok-form.rest.now) = c.in_ok-form.ensures ∙ ap (λ (n : ℕ). Some (n, c.in_ok-form.rest.now)) c.in-1.is in
    let there = range_varied c.args.rows c.args.octets.now c.in_ok-form.rest.now c.in_ok-low.rest.now low form c.in_ok-low.ensures in
    subst (λ (read : Option (ColumnRange × List ℕ)). Gives (λ x. (x.0, x.1.now)) c.varied_range_at.result read) (sym there) (simp to_z-of_z at c.varied_range_at.ensures)
