use Rattle.std.proofs.Common.{ℕ, List, sym, ◌∙◌, subst}
use Rattle.field_codec.proofs.EntryKinds.{one_spelling}
use Rattle.archive_images.specs.SealFiles.{StoredFill, fill_entry, fill_record}
use Rattle.sealed_opening.specs.Fills.{IsFillTaken, IsSealedFillBy, MayBeFill, NothingIsKept, stored_fill}
use Rattle.sealed_opening.proofs.Answered.{none_as, some_as}
use Rattle.sealed_opening.proofs.TakenFills.{same_fill}
use Rattle.sealed_opening.proofs.fills.FillRecordsRecordRules.take.Goals as goal

pub with_fill-requires : goal.with_fill-requires
with_fill-requires c = let spelled = rw c.in-Fill.is at c.in-Ok.ensures.spelled in spelled.0

pub returns-in-Err-Malformed-clause-none : goal.returns-in-Err-Malformed-clause-none
returns-in-Err-Malformed-clause-none c may =
    let each = rw c.in-Err-Malformed.field-0-is at c.in-Err-Malformed.ensures.each in
    let bad = each (fill_entry may.0) may.2.fits may.1 in
    absurd (cc (bad))

pub returns-in-Fill-clause-taken : goal.returns-in-Fill-clause-taken
returns-in-Fill-clause-taken c =
    let spelled = rw c.in-Fill.is at c.in-Ok.ensures.spelled in
    let fill : StoredFill = stored_fill c.in-Fill.interval c.in-Fill.base c.in-Fill.set in
    some_as c.with_fill.result (IsFillTaken c.args.self (fill_record fill)) (IsFillTaken c.args.self c.args.body.now)
    (λ now t. subst (λ (b : List ℕ). IsFillTaken c.args.self b now) (sym spelled.1) t) c.with_fill.ensures.taken

pub returns-in-Fill-clause-kept : goal.returns-in-Fill-clause-kept
returns-in-Fill-clause-kept c =
    let fill : StoredFill = stored_fill c.in-Fill.interval c.in-Fill.base c.in-Fill.set in
    some_as c.with_fill.result (IsFillTaken c.args.self (fill_record fill)) NothingIsKept (λ now t. tt) c.with_fill.ensures.taken

pub returns-in-Fill-clause-none : goal.returns-in-Fill-clause-none
returns-in-Fill-clause-none c =
    let spelled = rw c.in-Fill.is at c.in-Ok.ensures.spelled in
    let fill : StoredFill = stored_fill c.in-Fill.interval c.in-Fill.base c.in-Fill.set in
    none_as c.with_fill.result (IsSealedFillBy c.args.self fill → ⊥) (MayBeFill c.args.self c.args.body.now → ⊥)
    (λ never may. never (subst (IsSealedFillBy c.args.self) (same_fill may.0 fill (one_spelling (fill_entry may.0) (fill_entry fill) may.2.fits spelled.0 (sym may.1 ∙ spelled.1))) may.2))
    c.with_fill.ensures.none

pub returns-clause-none : goal.returns-clause-none
returns-clause-none c may =
    let spelled = c.in-Ok.ensures.spelled in
    c.in_default.not-Fill may.0.interval may.0.base may.0.octets (one_spelling c.in-Ok.entry (fill_entry may.0) spelled.0 may.2.fits (sym spelled.1 ∙ may.1))
