use Rattle.std.proofs.Common.{arith, ◌≡◌, ℕ, true, false, length, sym, ◌∙◌, ap, subst, refl}
use Rattle.std.specs.Prelude.{slice_index_or}
use Rattle.std.specs.Option.{is_some}
use Rattle.std.specs.List.{list_any}
use Rattle.arch_types.specs.History.{has_key}
use Rattle.arch_types.specs.declared.key.Key.{Key}
use Rattle.block_map.specs.Index.{Listing}
use Rattle.yarch_table.specs.Stored.{rows_of, TableView}
use Rattle.yarch_table.specs.declared.table.Stored.{Stored}
use Rattle.yarch_table.proofs.Insertion.{found_row, any-rows, index-insert}
use Rattle.yarch_table.proofs.table.Table.insert.Goals as goal

pub index-requires : goal.index-requires
index-requires c =
    let row = found_row c.args.row.key c.self.inside.stored.items c.self.inside.index.entries c.in-Some.i c.self.invariant.names.each (sym (rw c.of.ensures at c.in-Some.ensures.found)) in
    let len = c.self.inside.stored.ok.0 in
    omega (arith, row.0)

pub returns-in-Some-clause-inserted : goal.returns-in-Some-clause-inserted
returns-in-Some-clause-inserted c =
    let stored = c.self.inside.stored.items in
    let found = sym (rw c.of.ensures at c.in-Some.ensures.found) in
    let row = found_row c.args.row.key stored c.self.inside.index.entries c.in-Some.i c.self.invariant.names.each found in
    let d : Stored = record { row = c.args.row; position = c.args.position } in
    let any : list_any (has_key c.args.row.key) (rows_of stored) ≡ true = any-rows c.args.row.key d stored c.self.inside.index.entries c.self.invariant.names ∙ ap is_some found in
    let found_at = c.index.result.now in
    let is : slice_index_or stored c.in-Some.i found_at ≡ found_at = sym c.index.ensures in
    let P : Stored → Type 0 = λ s. has_key c.args.row.key s.row ≡ true in
    let key : has_key c.args.row.key found_at.row ≡ true = subst P is (row.1 found_at) in
    let same = ap (λ (i : Listing Key ℕ). let h : TableView = record { stored = stored; room = i.room } in h) c.in-Some.ensures.present ∙ c.self.view_is in
    (rw (← c.self.view_is) any, rw (← c.self.view_is) (c.in-Some.i, found_at, row.0, is, (key, refl)), same)

pub invariant_of-self-in-None : goal.invariant_of-self-in-None
invariant_of-self-in-None c =
    let stored = c.self.inside.stored.items in
    let s : Stored = record { row = c.args.row; position = c.args.position } in
    let index = index-insert stored s c.self.inside.index.entries c.self.invariant.names (sym (rw c.of.ensures at c.in-None.ensures.found)) in
    let len = c.self.inside.stored.ok.0 in
    let n : c.len-place.result ≡ length stored = cc in
    record {
      names = rw (c.push_reserved.ensures.items, c.in-None.ensures.absent.0, c.of.ensures, n) index;
      has_room = omega (arith, c.push_reserved.ensures.len, c.push_reserved.ensures.capacity, c.in-None.ensures.absent.1, c.self.invariant.has_room);
      short_places = omega (arith, c.push_reserved.ensures.len, c.in-None.ensures.absent.1, c.self.invariant.short_places);
    }

pub returns-in-None-clause-inserted : goal.returns-in-None-clause-inserted
returns-in-None-clause-inserted c =
    let stored = c.self.inside.stored.items in
    let d : Stored = record { row = c.args.row; position = c.args.position } in
    let any : list_any (has_key c.args.row.key) (rows_of stored) ≡ false = any-rows c.args.row.key d stored c.self.inside.index.entries c.self.invariant.names ∙ ap is_some (sym (rw c.of.ensures at c.in-None.ensures.found)) in
    (rw (← c.self.view_is) any, refl, rw (← c.self.view_is) c.push_reserved.ensures.items, rw (← c.self.view_is) c.in-None.ensures.absent.1)
