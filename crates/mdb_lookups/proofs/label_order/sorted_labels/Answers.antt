use Rattle.std.proofs.Common.{◌≡◌, List, length, map, subst, arith}
use Rattle.std.specs.Prelude.{ℤ, pos}
use Rattle.std.specs.Ordering.{int_cmp}
use Rattle.std.proofs.lemmas.List.{length-map}
use Rattle.mdb_items.specs.declared.calibration.EnumRow.{EnumRow}
use Rattle.mdb_lookups.proofs.SortedKeys.{AreNumbered, keys_sorted}
use Rattle.mdb_lookups.proofs.label_order.sorted_labels.Goals as goal

pub returns : goal.returns
returns c =
    let numbers : List ℤ = map (λ (row : EnumRow). row.x) c.args.labels.now in
    let size : length numbers ≡ length c.args.labels.now = length-map c.args.labels.now (λ (row : EnumRow). row.x) in
    let full : c.loop-row.row ≡ length numbers = omega (arith, size) in
    let numbered = subst (λ n. AreNumbered (pos 0) numbers n c.loop-row.numbered.items) full c.loop-row.invariant in
    keys_sorted int_cmp (pos 0) numbers c.loop-row.numbered.items c.sort_unstable.new.self.items numbered c.sort_unstable.ensures.permutation c.sort_unstable.ensures.sorted
