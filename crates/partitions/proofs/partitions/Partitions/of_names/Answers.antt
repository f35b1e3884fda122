use Rattle.std.proofs.Common.{◌≡◌, ap}
use Rattle.partitions.specs.Partitions.{PartitionsView}
use Rattle.partitions.specs.Links.{noted_in}
use Rattle.partitions.specs.NameDayFilter.{passes_filter}
use Rattle.partitions.proofs.Members.{sorted_exactly, sorted_rises}
use Rattle.partitions.proofs.partitions.Partitions.of_names.Goals as goal

pub returns-clause-exactly : goal.returns-clause-exactly
returns-clause-exactly c =
    let fields = c.self.inside in
    let noted = noted_in fields.links.items in
    let held : noted ≡ c.args.self.now.noted = ap (λ (h : PartitionsView). h.noted) c.self.view_is in
    rw (← held) (sorted_exactly (passes_filter c.args.name_day_filter.now) fields.by_name.entries c.in_ok-parts.parts c.in_order.result c.in_ok-parts.ensures c.in_order.ensures.same noted c.self.invariant.indexed.names)

pub returns-clause-rising : goal.returns-clause-rising
returns-clause-rising c = sorted_rises (passes_filter c.args.name_day_filter.now) c.self.inside.by_name.entries c.in_ok-parts.parts c.in_order.result c.in_ok-parts.ensures c.in_order.ensures.same c.self.invariant.indexed.by_name_rises c.in_order.ensures.sorted
