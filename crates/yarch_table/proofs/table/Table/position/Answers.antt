use Rattle.std.proofs.Common.{[], pos, ◌≡◌, true, false, sym, ◌∙◌, ap, subst, refl, arith}
use Rattle.std.specs.Prelude.{slice_index_or}
use Rattle.std.specs.Option.{is_some}
use Rattle.std.specs.List.{list_any}
use Rattle.arch_types.specs.History.{has_key}
use Rattle.arch_types.specs.declared.row.Row.{Row}
use Rattle.yarch_table.specs.Stored.{rows_of}
use Rattle.yarch_table.specs.declared.table.Stored.{Stored}
use Rattle.yarch_table.proofs.Insertion.{found_row, any-rows}
use Rattle.yarch_table.proofs.table.Table.position.Goals as goal

pub index-requires : goal.index-requires
index-requires c =
    let row = found_row c.args.key c.self.inside.stored.items c.self.inside.index.entries c.in-Some.i c.self.invariant.names.each (sym (rw c.of.ensures at c.get.ensures) ∙ c.in-Some.is) in
    let len = c.self.inside.stored.ok.0 in
    omega (arith, row.0)

pub returns-in-Some-clause-some : goal.returns-in-Some-clause-some
returns-in-Some-clause-some c =
    let stored = c.self.inside.stored.items in
    let row = found_row c.args.key stored c.self.inside.index.entries c.in-Some.i c.self.invariant.names.each (sym (rw c.of.ensures at c.get.ensures) ∙ c.in-Some.is) in
    let found_at = c.index.result.now in
    let is : slice_index_or stored c.in-Some.i found_at ≡ found_at = sym c.index.ensures in
    let P : Stored → Type 0 = λ s. has_key c.args.key s.row ≡ true in
    let key : has_key c.args.key found_at.row ≡ true = subst P is (row.1 found_at) in
    rw (← c.self.view_is) (c.in-Some.i, found_at, row.0, is, (key, refl))

pub returns-in-None-clause-none : goal.returns-in-None-clause-none
returns-in-None-clause-none c =
    let stored = c.self.inside.stored.items in
    let row : Row = record { key = c.args.key; rectime = pos 0; packet = []; link = 0; pname = 0; table = 0 } in
    let d : Stored = record { row = row; position = 0 } in
    let any : list_any (has_key c.args.key) (rows_of stored) ≡ false = any-rows c.args.key d stored c.self.inside.index.entries c.self.invariant.names ∙ ap is_some (sym (rw c.of.ensures at c.get.ensures) ∙ c.in-None.is) in
    rw (← c.self.view_is) any
