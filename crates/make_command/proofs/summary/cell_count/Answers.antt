use Rattle.std.proofs.Common.{◌∙◌, inl, refl, subst, sym}
use Rattle.arch_types.specs.declared.row_fault.RowFault.TheVariants as unread
use Rattle.asks.specs.declared.ask.Request.{Request}
use Rattle.asks.specs.Refusals.{request_refusal}
use Rattle.refusals.specs.Refusal.{refusal_of_rows}
use Rattle.refusals.specs.declared.refusal.Refusal.TheVariants.{OutOfMemory}
use Rattle.history_items.specs.Databases.{database_in}
use Rattle.store_fills.specs.LastFills.{fillings_in}
use Rattle.archive_store.specs.Finding.{IsNotFound}
use Rattle.archive_store.specs.UnreadRows.{IsLeftByRefusal, IsReadRefusal}
use Rattle.archive_store.proofs.Calls.{passed_on}
use Rattle.make_command.proofs.SummaryTexts.{cells_counted, known_found, left_handed}
use Rattle.make_command.proofs.summary.cell_count.Goals as goal

-- no memory for the request
pub returns-in_err-request-clause-refused : goal.returns-in_err-request-clause-refused
returns-in_err-request-clause-refused g c =
    passed_on c.from_residual.result OutOfMemory (IsReadRefusal g.D.Disk.device c.args.store.now c.args.store.now) c.from_residual.ensures.1 (unread.OutOfMemory, tt, refl)

pub returns-in_err-request-clause-same : goal.returns-in_err-request-clause-same
returns-in_err-request-clause-same g c =
    left_handed g.D.Disk.device c.args.store.now c.args.store.now c.from_residual.result OutOfMemory c.from_residual.ensures.1 (inl refl)

-- the parameter is there, so memory was wanting
pub returns-in_err-found-clause-refused : goal.returns-in_err-found-clause-refused
returns-in_err-found-clause-refused g c =
    let db = database_in c.args.store.now.head.mdb c.args.store.now.history in
    let refusal = c.in_err-found.field-0.0 in
    let refused = subst (λ (r : Request). IsNotFound (request_refusal db r) refusal) c.in_ok-request.ensures c.in_err-found.ensures.refused in
    passed_on c.from_residual-in_err-found.result refusal (IsReadRefusal g.D.Disk.device c.args.store.now c.args.store.now) c.from_residual-in_err-found.ensures.1
    (unread.OutOfMemory, tt, known_found db c.args.name.now refusal c.requires.known refused)

pub returns-in_err-found-clause-same : goal.returns-in_err-found-clause-same
returns-in_err-found-clause-same g c =
    let db = database_in c.args.store.now.head.mdb c.args.store.now.history in
    let refusal = c.in_err-found.field-0.0 in
    let refused = subst (λ (r : Request). IsNotFound (request_refusal db r) refusal) c.in_ok-request.ensures c.in_err-found.ensures.refused in
    left_handed g.D.Disk.device c.args.store.now c.args.store.now c.from_residual-in_err-found.result refusal c.from_residual-in_err-found.ensures.1
    (subst (IsLeftByRefusal g.D.Disk.device c.args.store.now c.args.store.now) (sym (known_found db c.args.name.now refusal c.requires.known refused)) (inl refl))

-- rows weren't read
pub returns-in_err-answer-clause-refused : goal.returns-in_err-answer-clause-refused
returns-in_err-answer-clause-refused g c =
    let fault = c.in_err-answer.field-0.0 in
    passed_on c.from_residual-in_err-answer.result (refusal_of_rows fault) (IsReadRefusal g.D.Disk.device c.args.store.now c.answer_request.new.store) c.from_residual-in_err-answer.ensures.1
    (fault, c.in_err-answer.ensures.refused, refl)

pub returns-in_err-answer-clause-same : goal.returns-in_err-answer-clause-same
returns-in_err-answer-clause-same g c =
    left_handed g.D.Disk.device c.args.store.now c.answer_request.new.store c.from_residual-in_err-answer.result (refusal_of_rows c.in_err-answer.field-0.0) c.from_residual-in_err-answer.ensures.1 c.in_err-answer.ensures.same

pub returns-clause-count : goal.returns-clause-count
returns-clause-count g c = λ told.
    let store = c.args.store.now in
    c.len.ensures ∙ cells_counted (database_in store.head.mdb store.history) store.exponent store.history (fillings_in store.filled) c.args.name.now c.in_ok-found.found.request c.in_ok-answer.answer
    (c.in_ok-found.ensures.asked ∙ c.in_ok-request.ensures) (c.in_ok-answer.ensures.filled told)

pub returns-clause-same : goal.returns-clause-same
returns-clause-same g c = c.in_ok-answer.ensures.same
