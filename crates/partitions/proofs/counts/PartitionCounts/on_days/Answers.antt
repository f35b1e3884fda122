use Rattle.std.proofs.Common.{◌≡◌, ◌∙◌, ap}
use Rattle.std.specs.Prelude.{List, filter}
use Rattle.std.specs.Map.{keys_of}
use Rattle.std.proofs.lemmas.Result.{IfOk-weaker}
use Rattle.partitions.specs.declared.partition.Partition.{Partition}
use Rattle.partitions.specs.Counts.{PartitionCountsView, rows_counted}
use Rattle.partitions.specs.Partitions.{AreRising}
use Rattle.partitions.specs.NameDayFilter.{is_on_days}
use Rattle.partitions.proofs.RowNumbers.{counted_keys}
use Rattle.partitions.proofs.Members.{filter_exactly, filter_rises}
use Rattle.partitions.proofs.counts.PartitionCounts.on_days.Goals as goal

pub on_days-requires : goal.on_days-requires
on_days-requires c = c.self.invariant.rising

pub returns-clause-exactly : goal.returns-clause-exactly
returns-clause-exactly c =
    let test = is_on_days c.args.days.now in
    let es = c.self.inside.counts.entries in
    IfOk-weaker c.on_days.result (λ (parts : List Partition). parts ≡ filter test (keys_of es)) _
    (λ given same. λ noted are. rw same (filter_exactly test (keys_of es) noted (counted_keys es noted c.self.invariant (λ q. ap (λ (m : PartitionCountsView). rows_counted m.counts q) c.self.view_is ∙ are q)))) c.on_days.ensures

pub returns-clause-rising : goal.returns-clause-rising
returns-clause-rising c =
    let test = is_on_days c.args.days.now in
    let es = c.self.inside.counts.entries in
    IfOk-weaker c.on_days.result (λ (parts : List Partition). parts ≡ filter test (keys_of es)) AreRising (λ given same. rw same (filter_rises test es c.self.invariant.rising)) c.on_days.ensures
