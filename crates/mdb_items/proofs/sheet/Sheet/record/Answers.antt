use Rattle.std.proofs.Common.{◌≡◌, ◌∙◌, ◌<◌, ℕ, List, length, get_or, refl, ap, sym, arith}
use Rattle.mdb_items.specs.Records.{parts_from, start_at}
use Rattle.mdb_items.proofs.Records.{bounds_at, ends_of_record, length-parts, record_in, start_within}
use Rattle.mdb_items.proofs.sheet.Sheet.record.Goals as goal

-- a place among the records is one among their ends
place_in : (record_ends field_ends octets : List ℕ) (sheet : List (List (List ℕ))) (i : ℕ) → parts_from 0 record_ends (parts_from 0 field_ends octets) ≡ sheet → i < length sheet → i < length record_ends
place_in record_ends field_ends octets sheet i is lt =
    let same : length sheet ≡ length record_ends = sym (ap length is) ∙ length-parts 0 record_ends (parts_from 0 field_ends octets) in
    omega (arith, lt, same)

pub start_of-first-requires : goal.start_of-first-requires
start_of-first-requires c =
    let s = c.self.inside in
    let lt = place_in s.record_ends.items s.field_ends.items s.octets.items c.args.self.now c.args.place c.self.view_is c.requires in
    rw c.as_slice-record_ends.ensures.value (omega (arith, lt))

pub offset_bounds-record_ends-place : goal.offset_bounds-record_ends-place
offset_bounds-record_ends-place c =
    let s = c.self.inside in
    let lt = place_in s.record_ends.items s.field_ends.items s.octets.items c.args.self.now c.args.place c.self.view_is c.requires in
    omega (arith, lt, s.record_ends.ok.0)

pub bounds-record_ends-place : goal.bounds-record_ends-place
bounds-record_ends-place c =
    let s = c.self.inside in
    rw c.as_slice-record_ends.ensures.value
    (place_in s.record_ends.items s.field_ends.items s.octets.items c.args.self.now c.args.place c.self.view_is c.requires)

pub start_of-end-requires : goal.start_of-end-requires
start_of-end-requires c =
    let s = c.self.inside in
    let lt = place_in s.record_ends.items s.field_ends.items s.octets.items c.args.self.now c.args.place c.self.view_is c.requires in
    rw (c.as_slice-record_ends.ensures.value, c.as_slice-field_ends.ensures.value)
    ((bounds_at 0 s.record_ends.items (length s.field_ends.items) c.args.place c.self.invariant.1 lt).1)

pub slice-requires : goal.slice-requires
slice-requires c =
    let s = c.self.inside in
    let lt = place_in s.record_ends.items s.field_ends.items s.octets.items c.args.self.now c.args.place c.self.view_is c.requires in
    let within = (bounds_at 0 s.record_ends.items (length s.field_ends.items) c.args.place c.self.invariant.1 lt).1 in
    rw (c.start_of-end.ensures, c.as_slice-record_ends.ensures.value, c.as_slice-field_ends.ensures.value, c.as_slice.ensures.value)
    (omega arith, start_within 0 s.field_ends.items (length s.octets.items) _ c.self.invariant.0 within)

pub slice-requires-2 : goal.slice-requires-2
slice-requires-2 c =
    let s = c.self.inside in
    let lt = place_in s.record_ends.items s.field_ends.items s.octets.items c.args.self.now c.args.place c.self.view_is c.requires in
    rw (c.start_of-first.ensures, c.as_slice-record_ends.ensures.value, c.as_slice-field_ends.ensures.value)
    (bounds_at 0 s.record_ends.items (length s.field_ends.items) c.args.place c.self.invariant.1 lt)

pub start_of-requires : goal.start_of-requires
start_of-requires c =
    let s = c.self.inside in
    let lt = place_in s.record_ends.items s.field_ends.items s.octets.items c.args.self.now c.args.place c.self.view_is c.requires in
    let bounds = bounds_at 0 s.record_ends.items (length s.field_ends.items) c.args.place c.self.invariant.1 lt in
    let first : c.start_of-first.result ≡ start_at 0 s.record_ends.items c.args.place = rw c.as_slice-record_ends.ensures.value at c.start_of-first.ensures in
    rw c.as_slice-field_ends.ensures.value (omega (arith, first, bounds.0, bounds.1))

pub new-requires : goal.new-requires
new-requires c =
    let s = c.self.inside in
    let lt = place_in s.record_ends.items s.field_ends.items s.octets.items c.args.self.now c.args.place c.self.view_is c.requires in
    let first : c.start_of-first.result ≡ start_at 0 s.record_ends.items c.args.place = rw c.as_slice-record_ends.ensures.value at c.start_of-first.ensures in
    let end : c.start_of-end.result ≡ start_at 0 s.field_ends.items (get_or s.record_ends.items c.args.place 0) = rw (c.as_slice-record_ends.ensures.value, c.as_slice-field_ends.ensures.value) at c.start_of-end.ensures in
    rw (c.slice.ensures, c.slice-2.ensures, c.start_of.ensures, c.as_slice-record_ends.ensures.value, c.as_slice-field_ends.ensures.value, c.as_slice.ensures.value)
    (ends_of_record s.record_ends.items s.field_ends.items s.octets.items c.args.place c.start_of-first.result (get_or s.record_ends.items c.args.place 0) c.start_of-end.result c.self.invariant.1 c.self.invariant.0 lt first refl end)

pub returns : goal.returns
returns c =
    let s = c.self.inside in
    let lt = place_in s.record_ends.items s.field_ends.items s.octets.items c.args.self.now c.args.place c.self.view_is c.requires in
    let first : c.start_of-first.result ≡ start_at 0 s.record_ends.items c.args.place = rw c.as_slice-record_ends.ensures.value at c.start_of-first.ensures in
    let end : c.start_of-end.result ≡ start_at 0 s.field_ends.items (get_or s.record_ends.items c.args.place 0) = rw (c.as_slice-record_ends.ensures.value, c.as_slice-field_ends.ensures.value) at c.start_of-end.ensures in
    rw (← c.self.view_is, c.new.ensures, c.slice.ensures, c.slice-2.ensures, c.start_of.ensures, c.as_slice-record_ends.ensures.value, c.as_slice-field_ends.ensures.value, c.as_slice.ensures.value)
    (record_in s.record_ends.items s.field_ends.items s.octets.items c.args.place c.start_of-first.result (get_or s.record_ends.items c.args.place 0) c.start_of-end.result c.self.invariant.1 c.self.invariant.0 lt first refl end)
