use Rattle.std.proofs.Common.{sym, ◌∙◌}
use Rattle.field_codec.specs.declared.entry.Entry.TheVariants as entries
use Rattle.field_codec.proofs.EntryKinds.{one_spelling}
use Rattle.sealed_opening.proofs.zero.seal_of.Goals as goal

pub returns-then-not-begin_as_seal-clause-none : goal.returns-then-not-begin_as_seal-clause-none
returns-then-not-begin_as_seal-clause-none c seal fits same = c.begin_as_seal.ensures c.if-not-begin_as_seal.true seal (c.as_slice.ensures ∙ same)

pub returns-in-Err-Malformed-clause-none : goal.returns-in-Err-Malformed-clause-none
returns-in-Err-Malformed-clause-none c seal fits same =
    let each = rw c.in-Err-Malformed.field-0-is at c.in-Err-Malformed.ensures.each in
    let bad = each (entries.Seal seal) fits same in
    absurd (cc (bad))

pub returns-clause-none : goal.returns-clause-none
returns-clause-none c seal fits same =
    let spelled = c.in-Ok.ensures.spelled in
    c.in_default.not-Seal seal (one_spelling c.in-Ok.entry (entries.Seal seal) spelled.0 fits (sym spelled.1 ∙ same))

pub returns-in-Seal-clause-some : goal.returns-in-Seal-clause-some
returns-in-Seal-clause-some c = rw c.in-Seal.is at c.in-Ok.ensures.spelled
