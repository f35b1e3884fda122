use Rattle.std.proofs.Common.{◌≡◌, ◌∙◌, ◌++◌, List, [], Err, append-nil, ap, arith, length, refl, sym, subst}
use Rattle.std.proofs.lemmas.Result.{err_from_is_err_and}
use Rattle.arch_types.specs.declared.row.Row.{Row}
use Rattle.archive_store.specs.Pages.{TellsRows}
use Rattle.archive_store.specs.PrintFaults.{IsPrintFault}
use Rattle.archive_store.specs.Replays.{rows_below}
use Rattle.archive_store.specs.StoreView.{StoreView}
use Rattle.archive_store.proofs.Calls.{passed_on}
use Rattle.archive_store.specs.ReadOn.{read_more, read_none}
use Rattle.archive_store.proofs.ReadOn.{left_on, reads_calm, reads_on, told_after}
use Rattle.line_buffer.specs.Printed.{IsCutOff, IsPrinted}
use Rattle.line_buffer.proofs.PrintedTexts.{nothing_printed}
use Rattle.outer_traits.specs.declared.print_fault.PrintFault.{PrintFault}
use Rattle.refusals.specs.Refusal.{refusal_of_print}
use Rattle.replay_merge.specs.Cursor.{rest_of}
use Rattle.retrieval.specs.ReplayText.{packet_lines}
use Rattle.retrieval.proofs.PrintFaults.{print_fault_then, print_is, unprinted_print, unread_part}
use Rattle.retrieval.proofs.Replays.{all_counted, nothing_left, rows_cut, rows_ended, rows_on, rows_part, step_counted}
use Rattle.retrieval.proofs.replay.print_rest.Goals as goal

pub steps-init : goal.steps-init
steps-init g c = record {
  text = ([], λ told. refl, rw (append-nil c.args.line_buffer.now) (nothing_printed (g.K.Sink.state c.args.sink.now) c.args.line_buffer.now c.requires.room));
  counted = λ told. omega arith;
  read = read_none g.D.Disk.device c.args.store.now;
  calm = refl;
}

-- ---- rows aren't read

pub returns-in_err-rows-clause-printed : goal.returns-in_err-rows-clause-printed
returns-in_err-rows-clause-printed g c =
    let device = g.D.Disk.device in
    let old = c.args.store.now in
    let mid = c.steps.store in
    let inv = c.steps.invariant in
    let names = c.args.names.now in
    let table = c.args.table.now in
    let history = rows_below old.history in
    let left = rest_of c.steps.cursor history in
    let all = rest_of c.args.cursor history in
    let told = TellsRows device old in
    let first = g.K.Sink.state c.args.sink.now in
    let now = g.K.Sink.state c.steps.sink in
    let part = rows_part told names table first now c.args.line_buffer.now inv.text.0 c.steps.line_buffer left all inv.text.1 inv.text.2 in
    let p = err_from_is_err_and c.from_residual.result c.from_residual.ensures.1 in
    let is = print_is c.in_err-rows.field-0.0 c.in_err-rows.ensures.refused.0 c.in_err-rows.ensures.refused.2 in
    (part.0, part.1, unread_part c.from_residual.result c.in_err-rows.ensures.refused.0 first now (c.args.line_buffer.now ++ part.0) c.steps.line_buffer (p.1 ∙ ap (λ (e : PrintFault). Err e) (p.2 ∙ is)) part.2)

pub returns-in_err-rows-clause-refused : goal.returns-in_err-rows-clause-refused
returns-in_err-rows-clause-refused g c =
    let device = g.D.Disk.device in
    let old = c.args.store.now in
    let mid = c.steps.store in
    let new = c.next_rows.new.store in
    let e = c.in_err-rows.ensures in
    passed_on c.from_residual.result c.in_err-rows.field-0.0 (IsPrintFault device old new) c.from_residual.ensures.1
    (print_fault_then device old mid new c.in_err-rows.field-0.0 c.steps.invariant.read c.steps.invariant.calm (unprinted_print device mid new c.in_err-rows.field-0.0 e.refused e.same))

pub returns-in_err-rows-clause-same : goal.returns-in_err-rows-clause-same
returns-in_err-rows-clause-same g c =
    let device = g.D.Disk.device in
    let mid = c.steps.store in
    let new = c.next_rows.new.store in
    let e = c.in_err-rows.ensures in
    read_more device c.args.store.now mid new c.steps.invariant.read (left_on device mid new (refusal_of_print c.in_err-rows.field-0.0) e.refused e.same)

-- ---- none is left

pub returns-then-len-eq0-clause-printed : goal.returns-then-len-eq0-clause-printed
returns-then-len-eq0-clause-printed g c =
    let device = g.D.Disk.device in
    let old = c.args.store.now in
    let mid = c.steps.store in
    let inv = c.steps.invariant in
    let names = c.args.names.now in
    let table = c.args.table.now in
    let history = rows_below old.history in
    let left = rest_of c.steps.cursor history in
    let all = rest_of c.args.cursor history in
    let told = TellsRows device old in
    let first = g.K.Sink.state c.args.sink.now in
    let now = g.K.Sink.state c.steps.sink in
    let rows = c.in_ok-rows.rows in
    let rest = rest_of c.next_rows.new.cursor history in
    let step : told → rows ++ rest ≡ left = λ tells.
    subst (λ (x : StoreView g.row.D.Denot). rows ++ rest_of c.next_rows.new.cursor (rows_below x.history) ≡ rest_of c.steps.cursor (rows_below x.history)) inv.read.same (c.in_ok-rows.ensures.rows (told_after device old mid inv.read tells)) in
    let end = subst (λ (x : StoreView g.row.D.Denot). rows ≡ [] → rest_of c.next_rows.new.cursor (rows_below x.history) ≡ []) inv.read.same c.in_ok-rows.ensures.end in
    let none : told → left ≡ [] = λ tells. nothing_left rows rest left (step tells) (sym c.len.ensures ∙ c.if-len-eq0.true) end in
    (inv.text.0, rows_ended told names table first now c.args.line_buffer.now inv.text.0 c.steps.line_buffer left all inv.text.1 inv.text.2 none, inv.text.2)

pub returns-then-len-eq0-clause-count : goal.returns-then-len-eq0-clause-count
returns-then-len-eq0-clause-count g c =
    let device = g.D.Disk.device in
    let old = c.args.store.now in
    let mid = c.steps.store in
    let inv = c.steps.invariant in
    let names = c.args.names.now in
    let table = c.args.table.now in
    let history = rows_below old.history in
    let left = rest_of c.steps.cursor history in
    let all = rest_of c.args.cursor history in
    let told = TellsRows device old in
    let first = g.K.Sink.state c.args.sink.now in
    let now = g.K.Sink.state c.steps.sink in
    let rows = c.in_ok-rows.rows in
    let rest = rest_of c.next_rows.new.cursor history in
    let step : told → rows ++ rest ≡ left = λ tells.
    subst (λ (x : StoreView g.row.D.Denot). rows ++ rest_of c.next_rows.new.cursor (rows_below x.history) ≡ rest_of c.steps.cursor (rows_below x.history)) inv.read.same (c.in_ok-rows.ensures.rows (told_after device old mid inv.read tells)) in
    let end = subst (λ (x : StoreView g.row.D.Denot). rows ≡ [] → rest_of c.next_rows.new.cursor (rows_below x.history) ≡ []) inv.read.same c.in_ok-rows.ensures.end in
    let none : told → left ≡ [] = λ tells. nothing_left rows rest left (step tells) (sym c.len.ensures ∙ c.if-len-eq0.true) end in
    λ tells. all_counted c.steps.count (length all) left (none tells) (inv.counted tells)

pub returns-then-len-eq0-clause-no_fault : goal.returns-then-len-eq0-clause-no_fault
returns-then-len-eq0-clause-no_fault g c = reads_calm g.D.Disk.device c.steps.store c.next_rows.new.store c.in_ok-rows.ensures.same ∙ c.steps.invariant.calm

pub returns-then-len-eq0-clause-same : goal.returns-then-len-eq0-clause-same
returns-then-len-eq0-clause-same g c =
    let device = g.D.Disk.device in
    let new = c.next_rows.new.store in
    read_more device c.args.store.now c.steps.store new c.steps.invariant.read (reads_on device c.steps.store new c.in_ok-rows.ensures.same)

-- ---- a step more

pub steps-preserved : goal.steps-preserved
steps-preserved g c =
    let device = g.D.Disk.device in
    let old = c.args.store.now in
    let mid = c.steps.store in
    let inv = c.steps.invariant in
    let names = c.args.names.now in
    let table = c.args.table.now in
    let history = rows_below old.history in
    let left = rest_of c.steps.cursor history in
    let all = rest_of c.args.cursor history in
    let told = TellsRows device old in
    let first = g.K.Sink.state c.args.sink.now in
    let now = g.K.Sink.state c.steps.sink in
    let rows = c.in_ok-rows.rows in
    let rest = rest_of c.next_rows.new.cursor history in
    let step : told → rows ++ rest ≡ left = λ tells.
    subst (λ (x : StoreView g.row.D.Denot). rows ++ rest_of c.next_rows.new.cursor (rows_below x.history) ≡ rest_of c.steps.cursor (rows_below x.history)) inv.read.same (c.in_ok-rows.ensures.rows (told_after device old mid inv.read tells)) in
    let next = c.next_rows.new.store in
    let new = g.K.Sink.state c.print_rows.new.sink in
    let last = c.print_rows.new.line_buffer in
    let put : IsPrinted now new (c.steps.line_buffer ++ packet_lines names table rows) last = rw c.as_slice.ensures at c.in_ok-print_rows.ensures in
    record {
      text = rows_on told names table first now c.args.line_buffer.now inv.text.0 c.steps.line_buffer left all inv.text.1 inv.text.2 rows rest step new last put;
      counted = λ tells.
          (let counted = step_counted c.steps.count (length all) rows rest left (step tells) (inv.counted tells) in
          let most = c.requires.few in
          omega (arith, counted, most, c.len-in-steps.ensures, c.saturating_add-count.ensures));
      read = read_more device old mid next inv.read (reads_on device mid next c.in_ok-rows.ensures.same);
      calm = reads_calm device mid next c.in_ok-rows.ensures.same ∙ inv.calm;
    }

pub steps-smaller : goal.steps-smaller
steps-smaller g c = c.in_ok-rows.ensures.nearer (λ none. c.if-len-eq0.false (c.len.ensures ∙ ap (λ (rows : List Row). length rows) none))

-- ---- a write failed

pub returns-in_err-print_rows-clause-printed : goal.returns-in_err-print_rows-clause-printed
returns-in_err-print_rows-clause-printed g c =
    let device = g.D.Disk.device in
    let old = c.args.store.now in
    let mid = c.steps.store in
    let inv = c.steps.invariant in
    let names = c.args.names.now in
    let table = c.args.table.now in
    let history = rows_below old.history in
    let left = rest_of c.steps.cursor history in
    let all = rest_of c.args.cursor history in
    let told = TellsRows device old in
    let first = g.K.Sink.state c.args.sink.now in
    let now = g.K.Sink.state c.steps.sink in
    let rows = c.in_ok-rows.rows in
    let rest = rest_of c.next_rows.new.cursor history in
    let step : told → rows ++ rest ≡ left = λ tells.
    subst (λ (x : StoreView g.row.D.Denot). rows ++ rest_of c.next_rows.new.cursor (rows_below x.history) ≡ rest_of c.steps.cursor (rows_below x.history)) inv.read.same (c.in_ok-rows.ensures.rows (told_after device old mid inv.read tells)) in
    let new = g.K.Sink.state c.print_rows.new.sink in
    let cut : IsCutOff now new (c.steps.line_buffer ++ packet_lines names table rows) = rw c.as_slice.ensures at c.in_err-print_rows.ensures in
    let part = rows_cut told names table first now c.args.line_buffer.now inv.text.0 c.steps.line_buffer left all inv.text.1 inv.text.2 rows rest step new cut in
    let p = err_from_is_err_and c.from_residual-in_err-print_rows.result c.from_residual-in_err-print_rows.ensures.1 in
    rw (p.1, p.2) (part.0, part.1, part.2)

pub returns-in_err-print_rows-clause-refused : goal.returns-in_err-print_rows-clause-refused
returns-in_err-print_rows-clause-refused g c =
    let p = err_from_is_err_and c.from_residual-in_err-print_rows.result c.from_residual-in_err-print_rows.ensures.1 in
    rw (p.1, p.2) (reads_calm g.D.Disk.device c.steps.store c.next_rows.new.store c.in_ok-rows.ensures.same ∙ c.steps.invariant.calm)

pub returns-in_err-print_rows-clause-same : goal.returns-in_err-print_rows-clause-same
returns-in_err-print_rows-clause-same g c =
    let device = g.D.Disk.device in
    let new = c.next_rows.new.store in
    read_more device c.args.store.now c.steps.store new c.steps.invariant.read (reads_on device c.steps.store new c.in_ok-rows.ensures.same)
