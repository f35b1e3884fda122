use Rattle.std.proofs.Common.{◌≡◌, List, Some, length, refl, sym, ◌∙◌, arith}
use Rattle.std.specs.Prelude.{slice_get}
use Rattle.std.proofs.lemmas.Option.{slice_get_read}
use Rattle.arch_types.specs.declared.row.Row.{Row}
use Rattle.arch_types.specs.History.{is_duplicate_of}
use Rattle.archive_core.proofs.Ingested.{first_is, first_hit, first_none, row_new, row_there}
use Rattle.archive_core.proofs.ingests.place_of_key.Goals as goal

found : goal.returns-then-has_key_of-clause-place
found c =
    let rows : List Row = c.args.rows.now in
    let i = c.loop-i.i in
    let other : Row = c.index-rows-i.result in
    let at : slice_get rows i ≡ Some other = slice_get_read rows (length rows) i other refl (omega (arith, c.loop-i-test.true)) c.index-rows-i.is in
    first_hit (is_duplicate_of c.args.row.now) rows i other at (sym c.has_key_of.ensures ∙ c.if-has_key_of.true) ∙ c.loop-i.invariant ∙ first_is (is_duplicate_of c.args.row.now) rows

pub returns-then-has_key_of-clause-place : goal.returns-then-has_key_of-clause-place
returns-then-has_key_of-clause-place c = found c

pub returns-then-has_key_of-clause-there : goal.returns-then-has_key_of-clause-there
returns-then-has_key_of-clause-there c = row_there c.args.rows.now c.args.row.now c.loop-i.i (sym (found c))

nowhere : goal.returns-clause-place
nowhere c =
    let rows : List Row = c.args.rows.now in
    first_none (is_duplicate_of c.args.row.now) rows c.loop-i.i (omega (arith, c.loop-i-test.false)) ∙ c.loop-i.invariant ∙ first_is (is_duplicate_of c.args.row.now) rows

pub returns-clause-place : goal.returns-clause-place
returns-clause-place c = nowhere c

pub returns-clause-new : goal.returns-clause-new
returns-clause-new c = row_new c.args.rows.now c.args.row.now (sym (nowhere c))
