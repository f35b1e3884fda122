-- Halving finds the first label that is not below the raw number.
use Rattle.std.proofs.Common.{◌≡◌, ◌∙◌, ℕ, rules, ap, sym, to_z, of_z, FitsSigned}
use Rattle.std.specs.Prelude.{ℤ, int_lt}
use Rattle.std.specs.Int.{w128}
use Rattle.std.proofs.lemmas.Int.{to_z-of_z}
use Rattle.std.proofs.lemmas.List.Sorted.{IsPartitionPoint-from_clause}
use Rattle.mdb_lookups.specs.LabelOrder.{label_row}
use Rattle.mdb_lookups.proofs.LabelsInOrder.{none_past_all, none_there, parted_below, stands_there}
use Rattle.mdb_lookups.proofs.label_order.label_row.Goals as goal

pub returns-in_err-number : goal.returns-in_err-number
returns-in_err-number c = λ labels o.
    let order = c.args.order.now in
    let raw = to_z w128 (of_z w128 c.args.raw) in
    let same : raw ≡ c.args.raw = to_z-of_z w128 c.args.raw c.ranges.raw in
    let part = IsPartitionPoint-from_clause (λ (p : ℤ × ℕ). int_lt p.0 raw) order _ c.partition_point-place.ensures.partitioned (parted_below labels order raw o) (λ a r q k. search rules) in
    c.from_residual.ensures ∙ sym (none_past_all labels order raw o c.partition_point-place.result part c.in_err-number.ensures.lookup.0) ∙ ap (label_row labels) same

pub returns-then-number-raw : goal.returns-then-number-raw
returns-then-number-raw c = λ labels o.
    let order = c.args.order.now in
    let raw = to_z w128 (of_z w128 c.args.raw) in
    let same : raw ≡ c.args.raw = to_z-of_z w128 c.args.raw c.ranges.raw in
    let part = IsPartitionPoint-from_clause (λ (p : ℤ × ℕ). int_lt p.0 raw) order _ c.partition_point-place.ensures.partitioned (parted_below labels order raw o) (λ a r q k. search rules) in
    let e = c.in_ok-number.field-0.now in
    let fits : FitsSigned w128 e.0 = search rules in
    let equal : e.0 ≡ raw = sym (to_z-of_z w128 e.0 fits) ∙ ap (to_z w128) c.if-number-raw.true in
    sym (stands_there labels order raw o c.partition_point-place.result part e c.in_ok-number.ensures.lookup.0 c.in_ok-number.ensures.lookup.1 equal) ∙ ap (label_row labels) same

pub returns-else-number-raw : goal.returns-else-number-raw
returns-else-number-raw c = λ labels o.
    let order = c.args.order.now in
    let raw = to_z w128 (of_z w128 c.args.raw) in
    let same : raw ≡ c.args.raw = to_z-of_z w128 c.args.raw c.ranges.raw in
    let part = IsPartitionPoint-from_clause (λ (p : ℤ × ℕ). int_lt p.0 raw) order _ c.partition_point-place.ensures.partitioned (parted_below labels order raw o) (λ a r q k. search rules) in
    let e = c.in_ok-number.field-0.now in
    sym (none_there labels order raw o c.partition_point-place.result part e c.in_ok-number.ensures.lookup.0 c.in_ok-number.ensures.lookup.1 (λ equal. c.if-number-raw.false (ap (of_z w128) (equal ∙ same)))) ∙ ap (label_row labels) same
