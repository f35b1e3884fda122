use Rattle.std.proofs.Common.{length}
use Rattle.std.proofs.lemmas.List.{length-append, length-map}
use Rattle.mdb_items.proofs.Records.{ends_append, ends_push, later_ends, records_push}
use Rattle.mdb_items.proofs.sheet.Sheet.push.Goals as goal

pub invariant_of-self-2 : goal.invariant_of-self-2
invariant_of-self-2 c =
    let s = c.self.inside in
    let r = c.row.inside in
    rw (
      c.in_ok-extend_from_slice.ensures.items,
      c.push_reserved.ensures.items,
      c.push_ends.ensures,
      c.in_ok-reserve.ensures.items,
      c.in_ok-reserve-2.ensures.items,
      c.in_ok-record_end.ensures,
      c.as_slice-start.ensures.value,
      c.as_slice-octets.ensures.value,
      c.as_slice-ends.ensures.value,
      c.as_slice.ensures.value,
      length-append s.octets.items r.octets.items,
      length-append s.field_ends.items (later_ends (length s.octets.items) r.ends.items),
      length-map,
    ) (
      ends_append 0 s.field_ends.items (length s.octets.items) r.ends.items (length r.octets.items) c.self.invariant.0 c.row.invariant,
      ends_push 0 s.record_ends.items (length s.field_ends.items) (length r.ends.items) c.self.invariant.1,
    )

pub returns-clause-pushed : goal.returns-clause-pushed
returns-clause-pushed c =
    let s = c.self.inside in
    let r = c.row.inside in
    rw (
      c.in_ok-extend_from_slice.ensures.items,
      c.push_reserved.ensures.items,
      c.push_ends.ensures,
      c.in_ok-reserve.ensures.items,
      c.in_ok-reserve-2.ensures.items,
      c.in_ok-record_end.ensures,
      c.as_slice-start.ensures.value,
      c.as_slice-octets.ensures.value,
      c.as_slice-ends.ensures.value,
      c.as_slice.ensures.value,
      ← c.self.view_is,
      ← c.row.view_is,
    )
    (records_push s.record_ends.items s.field_ends.items s.octets.items r.ends.items r.octets.items c.self.invariant.1 c.self.invariant.0)
