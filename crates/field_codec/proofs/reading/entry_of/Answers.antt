use Rattle.std.proofs.Common.{[], ◌∙◌, sym, arith, rules}
use Rattle.std.specs.Int.{w8}
use Rattle.std.proofs.lemmas.Result.{err_from_is_err_and}
use Rattle.row_codec.proofs.Ends.{behind_number}
use Rattle.field_codec.specs.declared.entry.Entry.TheVariants as entries
use Rattle.field_codec.proofs.EntryKinds.{body_memory, body_read, entry_of_fields, kind_read, no_kind, no_other, of_fill, of_head, of_log_head, of_rows, of_seal, spelled_as}
use Rattle.field_codec.proofs.reading.entry_of.Goals as goal

pub returns-in_err-kind-clause-each : goal.returns-in_err-kind-clause-each
returns-in_err-kind-clause-each c = λ a fits is. absurd (no_kind c.args.octets.now a c.in_err-kind.ensures is)

pub returns-in_err-tables-in-1-clause-each : goal.returns-in_err-tables-in-1-clause-each
returns-in_err-tables-in-1-clause-each c = λ a fits is.
    let p = err_from_is_err_and c.from_residual-in_err-tables-in-1.result c.from_residual-in_err-tables-in-1.ensures.1 in
    let k = kind_read c.args.octets.now c.in_ok-kind.kind c.in_ok-kind.rest.now a c.in_ok-kind.ensures is in
    rw (p.1, p.2) (body_memory c.in_ok-kind.rest.now c.in_err-tables-in-1.field-0.0 a (of_head a fits (sym c.in-1.is ∙ k.0)) c.in_err-tables-in-1.ensures.each k.1)

pub returns-in_ok-tables-in-1-clause-spelled : goal.returns-in_ok-tables-in-1-clause-spelled
returns-in_ok-tables-in-1-clause-spelled c =
    spelled_as c.args.octets.now c.in_ok-kind.rest.now c.in_ok-kind.kind (entries.Head c.in_ok-tables-in-1.tables c.in_ok-tables-in-1.mdb) (λ i. omega (arith, c.type_inv.octets i)) c.in_ok-kind.ensures c.in-1.is c.in_ok-tables-in-1.ensures.spelled

pub returns-in_ok-tables-in-1-clause-each : goal.returns-in_ok-tables-in-1-clause-each
returns-in_ok-tables-in-1-clause-each c = λ a fits is.
    let k = kind_read c.args.octets.now c.in_ok-kind.kind c.in_ok-kind.rest.now a c.in_ok-kind.ensures is in
    body_read c.in_ok-kind.rest.now (c.in_ok-tables-in-1.tables, c.in_ok-tables-in-1.mdb) a (of_head a fits (sym c.in-1.is ∙ k.0)) c.in_ok-tables-in-1.ensures.each k.1

pub read_rows-requires : goal.read_rows-requires
read_rows-requires c = behind_number w8 c.args.block.now c.args.octets.now (c.in_ok-kind.kind, c.in_ok-kind.rest.now) ([], sym c.requires) c.in_ok-kind.ensures

pub returns-in_err-read_rows-in-2-clause-each : goal.returns-in_err-read_rows-in-2-clause-each
returns-in_err-read_rows-in-2-clause-each c = λ a fits is.
    let p = err_from_is_err_and c.from_residual-in_err-read_rows-in-2.result c.from_residual-in_err-read_rows-in-2.ensures.1 in
    let k = kind_read c.args.octets.now c.in_ok-kind.kind c.in_ok-kind.rest.now a c.in_ok-kind.ensures is in
    rw (p.1, p.2) (body_memory c.in_ok-kind.rest.now c.in_err-read_rows-in-2.field-0.0 a (of_rows a fits (sym c.in-2.is ∙ k.0)) c.in_err-read_rows-in-2.ensures.each k.1)

pub returns-in_ok-read_rows-in-2-clause-spelled : goal.returns-in_ok-read_rows-in-2-clause-spelled
returns-in_ok-read_rows-in-2-clause-spelled c =
    spelled_as c.args.octets.now c.in_ok-kind.rest.now c.in_ok-kind.kind (entries.Rows c.in_ok-read_rows-in-2.field-0) (λ i. omega (arith, c.type_inv.octets i)) c.in_ok-kind.ensures c.in-2.is c.in_ok-read_rows-in-2.ensures.spelled

pub returns-in_ok-read_rows-in-2-clause-each : goal.returns-in_ok-read_rows-in-2-clause-each
returns-in_ok-read_rows-in-2-clause-each c = λ a fits is.
    let k = kind_read c.args.octets.now c.in_ok-kind.kind c.in_ok-kind.rest.now a c.in_ok-kind.ensures is in
    body_read c.in_ok-kind.rest.now c.in_ok-read_rows-in-2.field-0 a (of_rows a fits (sym c.in-2.is ∙ k.0)) c.in_ok-read_rows-in-2.ensures.each k.1

pub read_fill-requires : goal.read_fill-requires
read_fill-requires c = behind_number w8 c.args.block.now c.args.octets.now (c.in_ok-kind.kind, c.in_ok-kind.rest.now) ([], sym c.requires) c.in_ok-kind.ensures

pub returns-in_err-interval-in-3-clause-each : goal.returns-in_err-interval-in-3-clause-each
returns-in_err-interval-in-3-clause-each c = λ a fits is.
    let p = err_from_is_err_and c.from_residual-in_err-interval-in-3.result c.from_residual-in_err-interval-in-3.ensures.1 in
    let k = kind_read c.args.octets.now c.in_ok-kind.kind c.in_ok-kind.rest.now a c.in_ok-kind.ensures is in
    rw (p.1, p.2) (body_memory c.in_ok-kind.rest.now c.in_err-interval-in-3.field-0.0 a (of_fill a fits (sym c.in-3.is ∙ k.0)) c.in_err-interval-in-3.ensures.each k.1)

pub returns-in_ok-interval-in-3-clause-spelled : goal.returns-in_ok-interval-in-3-clause-spelled
returns-in_ok-interval-in-3-clause-spelled c =
    spelled_as c.args.octets.now c.in_ok-kind.rest.now c.in_ok-kind.kind (entry_of_fields (c.in_ok-interval-in-3.interval.0, (c.in_ok-interval-in-3.base, c.in_ok-interval-in-3.set))) (λ i. omega (arith, c.type_inv.octets i)) c.in_ok-kind.ensures c.in-3.is c.in_ok-interval-in-3.ensures.spelled

pub returns-in_ok-interval-in-3-clause-each : goal.returns-in_ok-interval-in-3-clause-each
returns-in_ok-interval-in-3-clause-each c = λ a fits is.
    let k = kind_read c.args.octets.now c.in_ok-kind.kind c.in_ok-kind.rest.now a c.in_ok-kind.ensures is in
    body_read c.in_ok-kind.rest.now (c.in_ok-interval-in-3.interval.0, (c.in_ok-interval-in-3.base, c.in_ok-interval-in-3.set)) a (of_fill a fits (sym c.in-3.is ∙ k.0)) c.in_ok-interval-in-3.ensures.each k.1

pub returns-in_err-read_seal-in-4-clause-each : goal.returns-in_err-read_seal-in-4-clause-each
returns-in_err-read_seal-in-4-clause-each c = λ a fits is.
    let p = err_from_is_err_and c.from_residual-in_err-read_seal-in-4.result c.from_residual-in_err-read_seal-in-4.ensures.1 in
    let k = kind_read c.args.octets.now c.in_ok-kind.kind c.in_ok-kind.rest.now a c.in_ok-kind.ensures is in
    rw (p.1, p.2) (body_memory c.in_ok-kind.rest.now c.in_err-read_seal-in-4.field-0.0 a (of_seal a fits (sym c.in-4.is ∙ k.0)) c.in_err-read_seal-in-4.ensures.each k.1)

pub returns-in_ok-read_seal-in-4-clause-spelled : goal.returns-in_ok-read_seal-in-4-clause-spelled
returns-in_ok-read_seal-in-4-clause-spelled c =
    spelled_as c.args.octets.now c.in_ok-kind.rest.now c.in_ok-kind.kind (entries.Seal c.in_ok-read_seal-in-4.field-0) (λ i. omega (arith, c.type_inv.octets i)) c.in_ok-kind.ensures c.in-4.is c.in_ok-read_seal-in-4.ensures.spelled

pub returns-in_ok-read_seal-in-4-clause-each : goal.returns-in_ok-read_seal-in-4-clause-each
returns-in_ok-read_seal-in-4-clause-each c = λ a fits is.
    let k = kind_read c.args.octets.now c.in_ok-kind.kind c.in_ok-kind.rest.now a c.in_ok-kind.ensures is in
    body_read c.in_ok-kind.rest.now c.in_ok-read_seal-in-4.field-0 a (of_seal a fits (sym c.in-4.is ∙ k.0)) c.in_ok-read_seal-in-4.ensures.each k.1

pub returns-in_err-read_log_head-in-5-clause-each : goal.returns-in_err-read_log_head-in-5-clause-each
returns-in_err-read_log_head-in-5-clause-each c = λ a fits is.
    let p = err_from_is_err_and c.from_residual-in_err-read_log_head-in-5.result c.from_residual-in_err-read_log_head-in-5.ensures.1 in
    let k = kind_read c.args.octets.now c.in_ok-kind.kind c.in_ok-kind.rest.now a c.in_ok-kind.ensures is in
    rw (p.1, p.2) (body_memory c.in_ok-kind.rest.now c.in_err-read_log_head-in-5.field-0.0 a (of_log_head a fits (sym c.in-5.is ∙ k.0)) c.in_err-read_log_head-in-5.ensures.each k.1)

pub returns-in_ok-read_log_head-in-5-clause-spelled : goal.returns-in_ok-read_log_head-in-5-clause-spelled
returns-in_ok-read_log_head-in-5-clause-spelled c =
    spelled_as c.args.octets.now c.in_ok-kind.rest.now c.in_ok-kind.kind (entries.LogHead c.in_ok-read_log_head-in-5.field-0) (λ i. omega (arith, c.type_inv.octets i)) c.in_ok-kind.ensures c.in-5.is c.in_ok-read_log_head-in-5.ensures.spelled

pub returns-in_ok-read_log_head-in-5-clause-each : goal.returns-in_ok-read_log_head-in-5-clause-each
returns-in_ok-read_log_head-in-5-clause-each c = λ a fits is.
    let k = kind_read c.args.octets.now c.in_ok-kind.kind c.in_ok-kind.rest.now a c.in_ok-kind.ensures is in
    body_read c.in_ok-kind.rest.now c.in_ok-read_log_head-in-5.field-0 a (of_log_head a fits (sym c.in-5.is ∙ k.0)) c.in_ok-read_log_head-in-5.ensures.each k.1

pub returns-in_default-clause-each : goal.returns-in_default-clause-each
returns-in_default-clause-each c = λ a fits is.
    let k = kind_read c.args.octets.now c.in_ok-kind.kind c.in_ok-kind.rest.now a c.in_ok-kind.ensures is in
    absurd (no_other a c.in_ok-kind.kind k.0 (λ e. search rules) (λ e. search rules) (λ e. search rules) (λ e. search rules) (λ e. search rules))
