use Rattle.std.proofs.Common.{◌≡◌, ◌-◌, ◌^◌, ◌++◌, ◌∷◌, [], ℕ, length, ap, sym, ◌∙◌, arith}
use Rattle.partitions.specs.declared.partition.Partition.{Partition}
use Rattle.partitions.specs.Partitions.{PartitionsView}
use Rattle.partitions.specs.Places.{last_place_below}
use Rattle.partitions.specs.Links.{noted_in, place_of_word}
use Rattle.partitions.proofs.LastPlaces.{chained_push, last_within, length-noted, noted_push}
use Rattle.partitions.proofs.partitions.Partitions.add.Goals as goal

pub new-requires : goal.new-requires
new-requires c =
    let fields = c.self.inside in
    let links = fields.links.items in
    let partition = c.partition_of-partition.result in
    let last = c.put_last-before.ensures.before ∙ c.self.invariant.indexed.last partition in
    let len = fields.links.ok.0 in
    let room = ap (λ (h : PartitionsView). h.room) c.self.view_is in
    rw last (last_within (length (noted_in links)) partition (noted_in links) (2 ^ 32 - 1) (omega (arith, length-noted links, len, c.self.invariant.has_places, c.requires, room)))

pub invariant_of-self : goal.invariant_of-self
invariant_of-self c =
    let fields = c.self.inside in
    let are = c.self.invariant in
    let links = fields.links.items in
    let noted = noted_in links in
    let partition = c.partition_of-partition.result in
    let link = c.new.result in
    let put = c.put_last-before.ensures in
    let len = fields.links.ok.0 in
    let place : c.len-place.result ≡ length links = cc in
    let room = ap (λ (h : PartitionsView). h.room) c.self.view_is in
    let push = c.push_reserved.ensures in
    let indexed = put.indexed noted are.indexed (place ∙ sym (length-noted links)) in
    let now : noted_in (links ++ link ∷ []) ≡ noted ++ partition ∷ [] = noted_push links link ∙ ap (λ (p : Partition). noted ++ p ∷ []) c.new.ensures.noted in
    let last : place_of_word link.earlier ≡ last_place_below (length links) link.noted.value noted =
    c.new.ensures.earlier ∙ put.before ∙ are.indexed.last partition ∙ ap (λ (n : ℕ). last_place_below n partition noted) (length-noted links) ∙ ap (λ (p : Partition). last_place_below (length links) p noted) (sym c.new.ensures.noted) in
    record {
      indexed = rw (push.items, now) indexed;
      chained = rw push.items (chained_push links link are.chained last);
      room_by_day = omega (arith, put.left_by_day, are.room_by_day);
      room_by_name = omega (arith, put.left_by_name, are.room_by_name);
      room_in_links = omega (arith, push.len, push.capacity, are.room_in_links, c.requires, room);
      has_places = omega (arith, push.len, are.has_places, c.requires, room);
    }
