use Rattle.std.proofs.Common.{◌≡◌, ℕ, ℤ, ◌+◌, ◌<◌, List, [], ◌++◌, length, map, take, get_or, append-nil, append_assoc, sym, ap, ◌∙◌, subst, arith}
use Rattle.std.specs.Prelude.{IfOk}
use Rattle.std.proofs.lemmas.List.{length-map}
use Rattle.arch_types.specs.declared.spans.Span.{Span}
use Rattle.histogram.specs.Spans.{span_of}
use Rattle.histogram.specs.Times.{HistogramView, spans_of, spans_of_times}
use Rattle.run_pages.specs.Placed.{rows_of_placed}
use Rattle.sealed_sums.proofs.OrderBlind.{in_table-append, times_in_table}
use Rattle.sealed_history.specs.SealedHistory.{SealedHistoryView, rows_told}
use Rattle.sealed_history.proofs.Pieces.{all_more, all_of, all_there, each_one_span, one_at, pieces_in_order, spans_with_pieces}
use Rattle.sealed_history.proofs.TableRows.{table_sums}
use Rattle.sealed_history.proofs.history.SealedHistory.spans.Goals as goal

pub loop-span-init : goal.loop-span-init
loop-span-init c =
    let s = c.self.inside in
    let t = c.args.table in
    let times = times_in_table t c.args.pname in
    let within : t < s.log.tables = omega (arith, c.requires, ap (λ (v : SealedHistoryView). v.tables) c.self.view_is) in
    let those = table_sums (rows_told s.told.items) s.base s.sums s.log c.tables.result.now t c.index-tables-table.result c.self.invariant c.tables.ensures within c.index-tables-table.is in
    c.in_ok-histogram.ensures.same ∙ ap (λ (h : HistogramView). spans_of c.args.pname h) c.spans-2.ensures ∙ those.spans c.args.pname
    ∙ ap (λ (v : SealedHistoryView). spans_of_times (times (rows_of_placed v.placed))) c.self.view_is
    ∙ ap spans_of_times (sym (append-nil (times (rows_of_placed c.args.self.now.placed))))

pub add_span-requires : goal.add_span-requires
add_span-requires c =
    let times = times_in_table c.args.table c.args.pname in
    let pieces = pieces_in_order (times c.args.self.now.log) in
    let items : c.as_slice-span-items.result.now ≡ map span_of pieces =
    c.as_slice-span-items.ensures ∙ c.in_ok-of_log.ensures ∙ ap (λ (v : SealedHistoryView). spans_of_times (times v.log)) c.self.view_is in
    (get_or pieces c.loop-span.span-index [], one_at pieces c.as_slice-span-items.result.now c.loop-span.span-index _ items (each_one_span (times c.args.self.now.log)) c.loop-span-test.true)

pub loop-span-preserved : goal.loop-span-preserved
loop-span-preserved c =
    let times = times_in_table c.args.table c.args.pname in
    let runs = times (rows_of_placed c.args.self.now.placed) in
    let pieces = pieces_in_order (times c.args.self.now.log) in
    let i = c.loop-span.span-index in
    let items : c.as_slice-span-items.result.now ≡ map span_of pieces =
    c.as_slice-span-items.ensures ∙ c.in_ok-of_log.ensures ∙ ap (λ (v : SealedHistoryView). spans_of_times (times v.log)) c.self.view_is in
    let piece = one_at pieces c.as_slice-span-items.result.now i _ items (each_one_span (times c.args.self.now.log)) c.loop-span-test.true in
    let within : i < length pieces = omega (arith, ap length items, length-map pieces span_of, c.loop-span-test.true) in
    c.in_ok-add_span.ensures.added (runs ++ all_of (take i pieces)) (get_or pieces i []) c.loop-span.invariant piece
    ∙ ap spans_of_times (append_assoc runs (all_of (take i pieces)) (get_or pieces i []) ∙ ap (λ (l : List ℤ). runs ++ l) (sym (all_more pieces i [] within)))

pub returns : goal.returns
returns c =
    let times = times_in_table c.args.table c.args.pname in
    let in_runs = rows_of_placed c.args.self.now.placed in
    let log = c.args.self.now.log in
    let pieces = pieces_in_order (times log) in
    let items : c.as_slice-span-items.result.now ≡ map span_of pieces =
    c.as_slice-span-items.ensures ∙ c.in_ok-of_log.ensures ∙ ap (λ (v : SealedHistoryView). spans_of_times (times v.log)) c.self.view_is in
    let all : spans_of c.args.pname c.loop-span.histogram ≡ spans_of_times (times (in_runs ++ log)) =
    c.loop-span.invariant
    ∙ ap (λ (l : List ℤ). spans_of_times (times in_runs ++ l)) (all_there pieces c.as_slice-span-items.result.now c.loop-span.span-index items c.loop-span-test.false)
    ∙ spans_with_pieces (times in_runs) (times log)
    ∙ ap spans_of_times (sym (in_table-append c.args.table c.args.pname in_runs log)) in
    subst (λ (l : List Span). IfOk c.records.result (λ spans. spans ≡ l)) all c.records.ensures.records
