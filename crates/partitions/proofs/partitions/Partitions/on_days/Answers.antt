use Rattle.std.proofs.Common.{◌≡◌, ap}
use Rattle.std.specs.Prelude.{List, filter}
use Rattle.std.specs.Map.{keys_of}
use Rattle.std.proofs.lemmas.Result.{IfOk-weaker}
use Rattle.partitions.specs.declared.partition.Partition.{Partition}
use Rattle.partitions.specs.Partitions.{AreRising, PartitionsView}
use Rattle.partitions.specs.Links.{noted_in}
use Rattle.partitions.specs.NameDayFilter.{is_on_days}
use Rattle.partitions.proofs.Members.{filter_exactly, filter_rises}
use Rattle.partitions.proofs.Noting.{day_keys}
use Rattle.partitions.proofs.partitions.Partitions.on_days.Goals as goal

pub on_days-requires : goal.on_days-requires
on_days-requires c = c.self.invariant.indexed.by_day_rises

pub returns-clause-exactly : goal.returns-clause-exactly
returns-clause-exactly c =
    let days = c.args.days.now in
    let fields = c.self.inside in
    let keys = keys_of fields.by_day.entries in
    let noted = noted_in fields.links.items in
    let held : noted ≡ c.args.self.now.noted = ap (λ (h : PartitionsView). h.noted) c.self.view_is in
    IfOk-weaker c.on_days.result (λ (parts : List Partition). parts ≡ filter (is_on_days days) keys) _ (λ given same. rw (same, ← held) (filter_exactly (is_on_days days) keys noted (day_keys fields.by_day fields.by_name noted c.self.invariant.indexed))) c.on_days.ensures

pub returns-clause-rising : goal.returns-clause-rising
returns-clause-rising c =
    let days = c.args.days.now in
    let entries = c.self.inside.by_day.entries in
    IfOk-weaker c.on_days.result (λ (parts : List Partition). parts ≡ filter (is_on_days days) (keys_of entries)) AreRising (λ given same. rw same (filter_rises (is_on_days days) entries c.self.invariant.indexed.by_day_rises)) c.on_days.ensures
