use Rattle.std.proofs.Common.{ℕ, ap, arith}
use Rattle.block_map.specs.Index.{Listing}
use Rattle.partitions.specs.declared.partition.Partition.{Partition}
use Rattle.partitions.specs.declared.name_day.NameDay.{NameDay}
use Rattle.partitions.specs.Links.{noted_in}
use Rattle.partitions.proofs.Noting.{roomier}
use Rattle.partitions.proofs.partitions.Partitions.reserve.Goals as goal

pub invariant_of-self-in_err-reserve-3 : goal.invariant_of-self-in_err-reserve-3
invariant_of-self-in_err-reserve-3 c =
    let fields = c.self.inside in
    let are = c.self.invariant in
    let links = c.reserve.ensures in
    let day = c.in_ok-reserve-2.ensures.ok in
    let name = c.in_err-reserve-3.ensures.err in
    let held = ap noted_in links.items in
    record {
      indexed = rw links.items (roomier fields.by_day c.reserve-2.new.self fields.by_name c.reserve-3.new.self (noted_in fields.links.items) are.indexed (ap (λ (l : Listing Partition ℕ). l.entries) day) (ap (λ (l : Listing NameDay Unit). l.entries) name));
      chained = rw links.items are.chained;
      room_by_day = rw day (omega (arith, are.room_by_day));
      room_by_name = rw name are.room_by_name;
      room_in_links = omega (arith, links.len, links.capacity, are.room_in_links);
      has_places = omega (arith, links.len, are.has_places);
    }

pub invariant_of-self-2 : goal.invariant_of-self-2
invariant_of-self-2 c =
    let fields = c.self.inside in
    let are = c.self.invariant in
    let links = c.in_ok-reserve.ensures in
    let day = c.in_ok-reserve-2.ensures.ok in
    let name = c.in_ok-reserve-3.ensures.ok in
    record {
      indexed = rw links.items (roomier fields.by_day c.reserve-2.new.self fields.by_name c.reserve-3.new.self (noted_in fields.links.items) are.indexed (ap (λ (l : Listing Partition ℕ). l.entries) day) (ap (λ (l : Listing NameDay Unit). l.entries) name));
      chained = rw links.items are.chained;
      room_by_day = rw day (omega arith);
      room_by_name = rw name (omega arith);
      room_in_links = omega (arith, links.len, links.ok);
      has_places = omega (arith, c.in-Some.ensures.1, c.if-total.true, c.len.ensures, links.len);
    }
