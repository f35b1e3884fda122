use Rattle.std.proofs.Common.{◌≡◌, Result, Ok, Err, true, w64, SFits, rules}
use Rattle.std.specs.Prelude.{IfOk, IfSome}
use Rattle.std.specs.List.{AllByRecursion}
use Rattle.std.proofs.lemmas.Int.{to_z-of_z}
use Rattle.arch_types.specs.declared.row.Row.{Row}
use Rattle.arch_types.specs.Table.{is_in_time_range}
use Rattle.partitions.specs.Rows.{is_of_parts}
use Rattle.replay_merge.specs.RowSource.{IsRowBetween, range_of_parts}
use Rattle.replay_merge.proofs.Cut.{each_cut, told_cut}
use Rattle.replay_merge.proofs.day_range.rows_on_days.Goals as goal

at_ok : {T E : Type 0} (r : Result T E) (P Q : T → Type 0) → ((x : T) → P x → Q x) → IfOk r P → IfOk r Q
at_ok (Ok x) P Q goes p = goes x p
at_ok (Err e) P Q goes p = p

pub returns-clause-told : goal.returns-clause-told
returns-clause-told g c =
    let told = (g.R.RowSource.state c.args.source.now).history in
    let parts = c.args.parts.now in
    let from = c.args.from in
    let to = c.args.to in
    let low = c.cut_to_days-start.result.0 in
    let high = c.cut_to_days-start.result.1 in
    let low_fits : SFits w64 low = search rules in
    let high_fits : SFits w64 high = search rules in
    let same : (row : Row) → is_of_parts parts row ≡ true → is_in_time_range low high row ≡ is_in_time_range from to row = rw (to_z-of_z w64 from c.ranges.from, to_z-of_z w64 to c.ranges.to) at c.cut_to_days-start.ensures in
    at_ok c.rows_between.result (λ rows. IfSome told (λ history. rows ≡ range_of_parts c.args.table parts low high (history c.args.front))) (λ rows. IfSome told (λ history. rows ≡ range_of_parts c.args.table parts from to (history c.args.front)))
    (λ rows got. told_cut told c.args.front c.args.table parts low high from to same rows got) (rw (to_z-of_z w64 low low_fits, to_z-of_z w64 high high_fits) at c.rows_between.ensures.told)

pub returns-clause-each : goal.returns-clause-each
returns-clause-each g c =
    let parts = c.args.parts.now in
    let from = c.args.from in
    let to = c.args.to in
    let low = c.cut_to_days-start.result.0 in
    let high = c.cut_to_days-start.result.1 in
    let low_fits : SFits w64 low = search rules in
    let high_fits : SFits w64 high = search rules in
    let same : (row : Row) → is_of_parts parts row ≡ true → is_in_time_range low high row ≡ is_in_time_range from to row = rw (to_z-of_z w64 from c.ranges.from, to_z-of_z w64 to c.ranges.to) at c.cut_to_days-start.ensures in
    at_ok c.rows_between.result (AllByRecursion (IsRowBetween c.args.table parts low high)) (AllByRecursion (IsRowBetween c.args.table parts from to))
    (λ rows all. each_cut c.args.table parts low high from to same rows all) (rw (to_z-of_z w64 low low_fits, to_z-of_z w64 high high_fits) at c.rows_between.ensures.each)
