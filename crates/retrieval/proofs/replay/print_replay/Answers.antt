use Rattle.std.proofs.Common.{◌≡◌, ◌++◌, ◌<◌, ◌∙◌, ℕ, List, Ok, Err, arith, length, ap, refl, subst, sym}
use Rattle.std.proofs.lemmas.Result.{err_from_is_err_and}
use Rattle.arch_disk.specs.Disk.{Device}
use Rattle.history_items.specs.Databases.{names_in}
use Rattle.archive_store.specs.Pages.{TellsRows}
use Rattle.archive_store.specs.PrintFaults.{IsPrintFault}
use Rattle.archive_store.specs.Replays.{rows_below}
use Rattle.archive_store.specs.StoreView.{StoreView}
use Rattle.archive_store.specs.UnreadRows.{IsReadOn}
use Rattle.archive_store.proofs.Calls.{passed_on}
use Rattle.archive_store.specs.ReadOn.{read_none}
use Rattle.line_buffer.specs.Printed.{IsCutOff, IsPrinted, PrintsRows}
use Rattle.line_buffer.proofs.LineBuffers.{buffered_front, buffered_none}
use Rattle.line_buffer.proofs.PrintedTexts.{rows_unread}
use Rattle.outer_traits.specs.declared.print_fault.PrintFault.{PrintFault}
use Rattle.replay_merge.specs.Cursor.{rest_of}
use Rattle.retrieval.specs.AnswerText.{end_line, front_line}
use Rattle.retrieval.specs.ReplayText.{packet_lines, replay_text}
use Rattle.retrieval.proofs.Replays.{few_rest}
use Rattle.retrieval.proofs.ReplayTexts.{all_done, end_failed, front_failed, rest_failed}
use Rattle.retrieval.proofs.replay.print_replay.Goals as goal

pub returns-in_err-cursor-clause-printed : goal.returns-in_err-cursor-clause-printed
returns-in_err-cursor-clause-printed g c =
    let device = g.D.Disk.device in
    let store = c.args.store.now in
    let first = g.K.Sink.state c.args.sink.now in
    let w0 = first.written in
    let lines = replay_text store.head store.history c.args.k c.args.found.now.request in
    let text = c.args.line_buffer.now ++ lines in
    let p = err_from_is_err_and c.from_residual.result c.from_residual.ensures.1 in
    rows_unread (TellsRows device store) c.from_residual.result first c.args.line_buffer.now lines c.args.line_buffer.now
    (rw (p.1, p.2) (record { some = buffered_front w0 w0 text text (buffered_none w0 text); no_fault = refl }))

pub returns-in_err-names-clause-printed : goal.returns-in_err-names-clause-printed
returns-in_err-names-clause-printed g c =
    let device = g.D.Disk.device in
    let store = c.args.store.now in
    let first = g.K.Sink.state c.args.sink.now in
    let w0 = first.written in
    let lines = replay_text store.head store.history c.args.k c.args.found.now.request in
    let text = c.args.line_buffer.now ++ lines in
    let p = err_from_is_err_and c.from_residual-in_err-names.result c.from_residual-in_err-names.ensures.1 in
    rows_unread (TellsRows device store) c.from_residual-in_err-names.result first c.args.line_buffer.now lines c.args.line_buffer.now
    (rw (p.1, p.2) (record { some = buffered_front w0 w0 text text (buffered_none w0 text); no_fault = refl }))

-- ---- no memory

pub returns-in_err-cursor-clause-refused : goal.returns-in_err-cursor-clause-refused
returns-in_err-cursor-clause-refused g c =
    let p = err_from_is_err_and c.from_residual.result c.from_residual.ensures.1 in
    rw (p.1, p.2) (ap (λ (s : StoreView g.row.D.Denot). g.D.Disk.device.fault_count s.disk) c.replay_open.ensures.same)

pub returns-in_err-cursor-clause-same : goal.returns-in_err-cursor-clause-same
returns-in_err-cursor-clause-same g c = rw c.replay_open.ensures.same (read_none g.D.Disk.device c.args.store.now)

pub returns-in_err-names-clause-refused : goal.returns-in_err-names-clause-refused
returns-in_err-names-clause-refused g c =
    let p = err_from_is_err_and c.from_residual-in_err-names.result c.from_residual-in_err-names.ensures.1 in
    rw (p.1, p.2) (ap (λ (s : StoreView g.row.D.Denot). g.D.Disk.device.fault_count s.disk) c.replay_open.ensures.same)

pub returns-in_err-names-clause-same : goal.returns-in_err-names-clause-same
returns-in_err-names-clause-same g c = rw c.replay_open.ensures.same (read_none g.D.Disk.device c.args.store.now)

-- ---- what reading leaves

-- the replay was opened over the same store
rest_on : {D : Type 0} (device : Device D) (old mid new : StoreView D) → mid ≡ old → IsReadOn device mid new → IsReadOn device old new
rest_on {D = D} device old mid new same on = subst (λ (s : StoreView D). IsReadOn device s new) same on

pub print_rest-requires-clause-few : goal.print_rest-requires-clause-few
print_rest-requires-clause-few g c =
    let few = few_rest c.args.store.now.head c.args.store.now.history c.args.found.now.request c.in_ok-cursor.cursor c.in_ok-cursor.ensures.opened in
    subst (λ (x : StoreView g.row.D.Denot). length (rest_of c.in_ok-cursor.cursor (rows_below x.history)) < 18446744073709551616) (sym c.in_ok-cursor.ensures.same)
    (omega (arith, few, c.in_ok-cursor.ensures.opened.front, c.front.ensures))

-- ---- the first line

pub returns-in_err-flush_if_full-clause-printed : goal.returns-in_err-flush_if_full-clause-printed
returns-in_err-flush_if_full-clause-printed g c =
    let device = g.D.Disk.device in
    let store = c.args.store.now in
    let held = c.args.line_buffer.now in
    let k = c.args.k in
    let request = c.args.found.now.request in
    let cursor = c.in_ok-cursor.cursor in
    let told = TellsRows device store in
    let s0 = g.K.Sink.state c.args.sink.now in
    let s1 = g.K.Sink.state c.flush_if_full.new.sink in
    let put : c.put_front.new.line_buffer ≡ held ++ front_line k cursor.front = rw c.front.ensures at c.put_front.ensures in
    let cut : IsCutOff s0 s1 (held ++ front_line k cursor.front) = subst (IsCutOff s0 s1) put c.in_err-flush_if_full.ensures in
    let p = err_from_is_err_and c.from_residual-in_err-flush_if_full.result c.from_residual-in_err-flush_if_full.ensures.1 in
    front_failed told store.head store.history k request cursor c.in_ok-cursor.ensures.opened held c.from_residual-in_err-flush_if_full.result s0 s1 c.flush_if_full.new.self (p.1 ∙ ap (λ (e : PrintFault). Err e) p.2) cut

pub returns-in_err-flush_if_full-clause-refused : goal.returns-in_err-flush_if_full-clause-refused
returns-in_err-flush_if_full-clause-refused g c =
    let p = err_from_is_err_and c.from_residual-in_err-flush_if_full.result c.from_residual-in_err-flush_if_full.ensures.1 in
    rw (p.1, p.2) (ap (λ (s : StoreView g.row.D.Denot). g.D.Disk.device.fault_count s.disk) c.replay_open.ensures.same)

pub returns-in_err-flush_if_full-clause-same : goal.returns-in_err-flush_if_full-clause-same
returns-in_err-flush_if_full-clause-same g c = rw c.replay_open.ensures.same (read_none g.D.Disk.device c.args.store.now)

-- ---- the rows

pub returns-in_err-count-clause-printed : goal.returns-in_err-count-clause-printed
returns-in_err-count-clause-printed g c =
    let device = g.D.Disk.device in
    let store = c.args.store.now in
    let held = c.args.line_buffer.now in
    let k = c.args.k in
    let request = c.args.found.now.request in
    let cursor = c.in_ok-cursor.cursor in
    let told = TellsRows device store in
    let s0 = g.K.Sink.state c.args.sink.now in
    let s1 = g.K.Sink.state c.flush_if_full.new.sink in
    let put : c.put_front.new.line_buffer ≡ held ++ front_line k cursor.front = rw c.front.ensures at c.put_front.ensures in
    let s2 = g.K.Sink.state c.print_rest.new.sink in
    let left = c.flush_if_full.new.self in
    let last = c.print_rest.new.line_buffer in
    let printed : IsPrinted s0 s1 (held ++ front_line k cursor.front) left = subst (λ (t : List ℕ). IsPrinted s0 s1 t left) put c.in_ok-flush_if_full.ensures in
    let p = err_from_is_err_and c.from_residual-in_err-count.result c.from_residual-in_err-count.ensures.1 in
    let failed = subst (λ (x : StoreView g.row.D.Denot). PrintsRows {X = ℕ} (TellsRows device x) (Err p.0) s1 s2 left (packet_lines (names_in x.head.mdb x.history) request.table (rest_of cursor (rows_below x.history))) last) c.in_ok-cursor.ensures.same (rw p.2 (rw c.in_ok-names.ensures at c.in_err-count.ensures.printed)) in
    rest_failed told store.head store.history k request cursor c.in_ok-cursor.ensures.opened held ℕ c.from_residual-in_err-count.result p.0 s0 s1 s2 left last p.1 printed failed

pub returns-in_err-count-clause-refused : goal.returns-in_err-count-clause-refused
returns-in_err-count-clause-refused g c =
    let device = g.D.Disk.device in
    passed_on c.from_residual-in_err-count.result c.in_err-count.field-0.0 (IsPrintFault device c.args.store.now c.print_rest.new.store) c.from_residual-in_err-count.ensures.1
    (subst (λ (s : StoreView g.row.D.Denot). IsPrintFault device s c.print_rest.new.store c.in_err-count.field-0.0) c.in_ok-cursor.ensures.same c.in_err-count.ensures.refused)

pub returns-in_err-count-clause-same : goal.returns-in_err-count-clause-same
returns-in_err-count-clause-same g c = rest_on g.D.Disk.device c.args.store.now c.replay_open.new.self c.print_rest.new.store c.in_ok-cursor.ensures.same c.print_rest.ensures.same

-- ---- the last line

pub returns-in_err-flush_if_full-2-clause-printed : goal.returns-in_err-flush_if_full-2-clause-printed
returns-in_err-flush_if_full-2-clause-printed g c =
    let device = g.D.Disk.device in
    let store = c.args.store.now in
    let held = c.args.line_buffer.now in
    let k = c.args.k in
    let request = c.args.found.now.request in
    let cursor = c.in_ok-cursor.cursor in
    let told = TellsRows device store in
    let s0 = g.K.Sink.state c.args.sink.now in
    let s1 = g.K.Sink.state c.flush_if_full.new.sink in
    let put : c.put_front.new.line_buffer ≡ held ++ front_line k cursor.front = rw c.front.ensures at c.put_front.ensures in
    let s2 = g.K.Sink.state c.print_rest.new.sink in
    let left = c.flush_if_full.new.self in
    let last = c.print_rest.new.line_buffer in
    let printed : IsPrinted s0 s1 (held ++ front_line k cursor.front) left = subst (λ (t : List ℕ). IsPrinted s0 s1 t left) put c.in_ok-flush_if_full.ensures in
    let s3 = g.K.Sink.state c.flush_if_full-2.new.sink in
    let count = c.in_ok-count.count in
    let rest = subst (λ (x : StoreView g.row.D.Denot). PrintsRows {X = ℕ} (TellsRows device x) (Ok count) s1 s2 left (packet_lines (names_in x.head.mdb x.history) request.table (rest_of cursor (rows_below x.history))) last) c.in_ok-cursor.ensures.same (rw c.in_ok-names.ensures at c.in_ok-count.ensures.printed) in
    let counted : told → count ≡ length (rest_of cursor (rows_below store.history)) = λ tells. subst (λ (x : StoreView g.row.D.Denot). TellsRows device x → count ≡ length (rest_of cursor (rows_below x.history))) c.in_ok-cursor.ensures.same c.in_ok-count.ensures.count tells in
    let p = err_from_is_err_and c.from_residual-in_err-flush_if_full-2.result c.from_residual-in_err-flush_if_full-2.ensures.1 in
    let cut : IsCutOff s2 s3 (last ++ end_line count) = subst (IsCutOff s2 s3) c.put_end.ensures c.in_err-flush_if_full-2.ensures in
    end_failed told store.head store.history k request cursor c.in_ok-cursor.ensures.opened held s0 s1 s2 s3 left last count printed rest counted c.from_residual-in_err-flush_if_full-2.result c.flush_if_full-2.new.self (p.1 ∙ ap (λ (e : PrintFault). Err e) p.2) cut

pub returns-in_err-flush_if_full-2-clause-refused : goal.returns-in_err-flush_if_full-2-clause-refused
returns-in_err-flush_if_full-2-clause-refused g c =
    let p = err_from_is_err_and c.from_residual-in_err-flush_if_full-2.result c.from_residual-in_err-flush_if_full-2.ensures.1 in
    rw (p.1, p.2) (c.in_ok-count.ensures.no_fault ∙ ap (λ (s : StoreView g.row.D.Denot). g.D.Disk.device.fault_count s.disk) c.in_ok-cursor.ensures.same)

pub returns-in_err-flush_if_full-2-clause-same : goal.returns-in_err-flush_if_full-2-clause-same
returns-in_err-flush_if_full-2-clause-same g c = rest_on g.D.Disk.device c.args.store.now c.replay_open.new.self c.print_rest.new.store c.in_ok-cursor.ensures.same c.print_rest.ensures.same

-- ---- all of it

pub returns-clause-printed : goal.returns-clause-printed
returns-clause-printed g c =
    let device = g.D.Disk.device in
    let store = c.args.store.now in
    let held = c.args.line_buffer.now in
    let k = c.args.k in
    let request = c.args.found.now.request in
    let cursor = c.in_ok-cursor.cursor in
    let told = TellsRows device store in
    let s0 = g.K.Sink.state c.args.sink.now in
    let s1 = g.K.Sink.state c.flush_if_full.new.sink in
    let put : c.put_front.new.line_buffer ≡ held ++ front_line k cursor.front = rw c.front.ensures at c.put_front.ensures in
    let s2 = g.K.Sink.state c.print_rest.new.sink in
    let left = c.flush_if_full.new.self in
    let last = c.print_rest.new.line_buffer in
    let printed : IsPrinted s0 s1 (held ++ front_line k cursor.front) left = subst (λ (t : List ℕ). IsPrinted s0 s1 t left) put c.in_ok-flush_if_full.ensures in
    let s3 = g.K.Sink.state c.flush_if_full-2.new.sink in
    let count = c.in_ok-count.count in
    let rest = subst (λ (x : StoreView g.row.D.Denot). PrintsRows {X = ℕ} (TellsRows device x) (Ok count) s1 s2 left (packet_lines (names_in x.head.mdb x.history) request.table (rest_of cursor (rows_below x.history))) last) c.in_ok-cursor.ensures.same (rw c.in_ok-names.ensures at c.in_ok-count.ensures.printed) in
    let counted : told → count ≡ length (rest_of cursor (rows_below store.history)) = λ tells. subst (λ (x : StoreView g.row.D.Denot). TellsRows device x → count ≡ length (rest_of cursor (rows_below x.history))) c.in_ok-cursor.ensures.same c.in_ok-count.ensures.count tells in
    let done : IsPrinted s2 s3 (last ++ end_line count) c.flush_if_full-2.new.self = subst (λ (t : List ℕ). IsPrinted s2 s3 t c.flush_if_full-2.new.self) c.put_end.ensures c.in_ok-flush_if_full-2.ensures in
    all_done told store.head store.history k request cursor c.in_ok-cursor.ensures.opened held s0 s1 s2 s3 left last count printed rest counted (tt {0}) c.flush_if_full-2.new.self done

pub returns-clause-no_fault : goal.returns-clause-no_fault
returns-clause-no_fault g c = c.in_ok-count.ensures.no_fault ∙ ap (λ (s : StoreView g.row.D.Denot). g.D.Disk.device.fault_count s.disk) c.in_ok-cursor.ensures.same

pub returns-clause-same : goal.returns-clause-same
returns-clause-same g c = rest_on g.D.Disk.device c.args.store.now c.replay_open.new.self c.print_rest.new.store c.in_ok-cursor.ensures.same c.print_rest.ensures.same
