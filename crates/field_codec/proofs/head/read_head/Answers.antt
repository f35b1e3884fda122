use Rattle.std.proofs.Common.{ap, ◌∙◌, sym, arith, ◌≡◌, List, ℕ}
use Rattle.std.proofs.lemmas.Result.{err_from_is_err_and}
use Rattle.mdb_items.specs.Database.{Database}
use Rattle.field_codec.proofs.EntryKinds.{head_whole, opening_memory, opening_read}
use Rattle.field_codec.proofs.head.read_head.Goals as goal

pub returns-in_err-tables-clause-each : goal.returns-in_err-tables-clause-each
returns-in_err-tables-clause-each c = λ a fits is.
    let p = err_from_is_err_and c.from_residual.result c.from_residual.ensures.1 in
    rw (p.1, p.2) (opening_memory c.args.octets.now c.in_err-tables.field-0.0 a c.in_err-tables.ensures fits is)

pub returns-in_err-mdb-clause-each : goal.returns-in_err-mdb-clause-each
returns-in_err-mdb-clause-each c = λ a fits is.
    let o = opening_read c.args.octets.now c.in_ok-tables.tables c.in_ok-tables.rest.now a c.in_ok-tables.ensures fits is in
    let p = err_from_is_err_and c.from_residual-in_err-mdb.result c.from_residual-in_err-mdb.ensures.1 in
    rw (p.1, p.2) (c.in_err-mdb.ensures.each a.1 fits.1 o.1)

pub returns-clause-spelled : goal.returns-clause-spelled
returns-clause-spelled c = head_whole c.args.octets.now c.in_ok-tables.tables c.in_ok-tables.rest.now c.in_ok-mdb.mdb (λ i. omega (arith, c.type_inv.octets i)) c.in_ok-tables.ensures c.in_ok-mdb.ensures.spelled

pub returns-clause-each : goal.returns-clause-each
returns-clause-each c = λ a fits is.
    let o = opening_read c.args.octets.now c.in_ok-tables.tables c.in_ok-tables.rest.now a c.in_ok-tables.ensures fits is in
    ap (λ (t : List (List ℕ)). (t, c.in_ok-mdb.mdb)) o.0 ∙ ap (λ (d : Database). (a.0, d)) (c.in_ok-mdb.ensures.each a.1 fits.1 o.1)
