use Rattle.std.proofs.Common.{FitsSigned, arith, rules, subst, sym, ◌∙◌}
use Rattle.std.specs.Prelude.{ℤ}
use Rattle.std.specs.Int.{w128}
use Rattle.std.proofs.lemmas.Int.{to_z-of_z}
use Rattle.mdb_items.specs.declared.parameter.Parameter.{Parameter}
use Rattle.mdb_model.proofs.Structure.{structured}
use Rattle.calibration.specs.Admitted.{IsInWidth}
use Rattle.container_extract.proofs.Widths.{width_bounds}
use Rattle.octet_fields.proofs.Exact.{some_is}
use Rattle.param_segments.proofs.asking.is_raw_value.Goals as goal

pub returns-then-count-parameter : goal.returns-then-count-parameter
returns-then-count-parameter c = (λ e. absurd cc, λ is. absurd (let known = is.known in omega (arith, known, c.parameters-count.ensures, c.if-count-parameter.true)))

pub is_in_width-requires : goal.is_in_width-requires
is_in_width-requires c =
    let p = c.parameter.result.now in
    let own = (structured c.args.mdb.now c.is_sound.ensures).parameters c.args.value.parameter p c.parameter.ensures in
    let bounds = width_bounds p.coding p.bits own.width in
    record { some = bounds.0; few = bounds.1 }

pub returns : goal.returns
returns c =
    let db = c.args.mdb.now in
    let v = c.args.value in
    let p = c.parameter.result.now in
    let fits : FitsSigned w128 v.raw = search rules in
    let same = to_z-of_z w128 v.raw fits in
    let InWidth : ℤ → Type 0 = λ z. IsInWidth p.coding p.bits z in (
      λ e. record {
        known = omega (arith, c.parameters-count.ensures, c.if-count-parameter.false);
        in_width = λ q is. subst (λ (x : Parameter). IsInWidth x.coding x.bits v.raw) (some_is p q (sym c.parameter.ensures ∙ is)) (subst InWidth same (c.is_in_width.ensures.0 e));
      },
      λ is. c.is_in_width.ensures.1 (subst InWidth (sym same) (is.in_width p c.parameter.ensures)),
    )
