use Rattle.std.proofs.Common.{◌≡◌, List, take, w64, SFits, ◌∙◌, subst, rules}
use Rattle.std.specs.Prelude.{filter}
use Rattle.std.specs.List.{AllByRecursion}
use Rattle.std.proofs.lemmas.Int.{to_z-of_z}
use Rattle.partitions.specs.declared.partition.Partition.{Partition}
use Rattle.replay_merge.specs.Replay.{is_listed_name}
use Rattle.replay_merge.specs.RowSource.{IsRowBetween}
use Rattle.replay_merge.proofs.Reading.{day_read, each_listed, listed_rise}
use Rattle.replay_merge.proofs.fetch.read_day.Goals as goal

pub rows_on_days-requires : goal.rows_on_days-requires
rows_on_days-requires g c =
    let wanted = c.args.wanted.now in
    let parts = c.args.parts.now in
    let count = c.first_day-count.result in
    let slice = c.as_slice.result.now in
    let is : slice ≡ filter (λ partition. is_listed_name wanted.names partition.pname) (take count parts) = c.as_slice.ensures.value ∙ c.in_ok-listed.ensures in
    listed_rise wanted.names count parts slice c.requires.rising is

pub returns-clause-rows : goal.returns-clause-rows
returns-clause-rows g c =
    let told = (g.R.RowSource.state c.args.source.now).history in
    let wanted = c.args.wanted.now in
    let parts = c.args.parts.now in
    let count = c.first_day-count.result in
    let slice = c.as_slice.result.now in
    let is : slice ≡ filter (λ partition. is_listed_name wanted.names partition.pname) (take count parts) = c.as_slice.ensures.value ∙ c.in_ok-listed.ensures in
    let from_fits : SFits w64 wanted.from = search rules in
    let to_fits : SFits w64 wanted.to = search rules in
    day_read told wanted parts slice count c.in_ok-rows.rows c.first_day-count.ensures.day is (rw (to_z-of_z w64 wanted.from from_fits, to_z-of_z w64 wanted.to to_fits) at c.in_ok-rows.ensures.told)

pub returns-clause-each : goal.returns-clause-each
returns-clause-each g c =
    let wanted = c.args.wanted.now in
    let parts = c.args.parts.now in
    let count = c.first_day-count.result in
    let slice = c.as_slice.result.now in
    let is : slice ≡ filter (λ partition. is_listed_name wanted.names partition.pname) (take count parts) = c.as_slice.ensures.value ∙ c.in_ok-listed.ensures in
    let from_fits : SFits w64 wanted.from = search rules in
    let to_fits : SFits w64 wanted.to = search rules in
    each_listed wanted (take count parts) c.in_ok-rows.rows
    (subst (λ (ps : List Partition). AllByRecursion (IsRowBetween wanted.table ps wanted.from wanted.to) c.in_ok-rows.rows) is
    (rw (to_z-of_z w64 wanted.from from_fits, to_z-of_z w64 wanted.to to_fits) at c.in_ok-rows.ensures.each))
