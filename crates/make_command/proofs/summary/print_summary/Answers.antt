use Rattle.std.proofs.Common.{List, ℕ, sym, subst}
use Rattle.std.specs.Prelude.{Err}
use Rattle.history_items.specs.Databases.{database_in}
use Rattle.archive_store.specs.Pages.{HasPages}
use Rattle.archive_store.specs.StoreView.{StoreView, filled_of}
use Rattle.archive_store.proofs.ReadOn.{reads_more, reads_on, told_after}
use Rattle.archive_commands.proofs.Comparing.{read_finished, refused_so, verify_read}
use Rattle.line_buffer.specs.Printed.{IsPrinted, PrintsText}
use Rattle.make_command.specs.Summary.{summary_text}
use Rattle.make_command.specs.Summing.{AreCellCounts, IsSummedUp, KnowsParameters}
use Rattle.make_command.proofs.SummaryTexts.{counted_of, lines_read, refused_behind, summed_part, summed_to_end, unread_behind, unread_so, unsummed}
use Rattle.make_command.proofs.summary.print_summary.Goals as goal

-- comparing was refused
pub returns-in-Err : goal.returns-in-Err
returns-in-Err g c =
    let device = g.D.Disk.device in
    let store = c.args.store.now in
    let e = c.in-Err.ensures in record {
      reply = λ told. unsummed device store told c.args.seed c.args.counts c.verify.new.store c.in-Err.refusal (g.K.Sink.state c.args.sink.now) e.refused;
      read = verify_read device store c.verify.new.store c.in-Err.refusal e.refused e.same;
    }

pub cell_counts-requires-clause-known : goal.cell_counts-requires-clause-known
cell_counts-requires-clause-known g c =
    let read = reads_on g.D.Disk.device c.args.store.now c.verify.new.store c.in-Ok.ensures.same in
    subst (λ (s : StoreView g.row.D.Denot). KnowsParameters (database_in s.head.mdb s.history)) (sym read.same) c.requires.known

-- rows weren't read
pub returns-in-Err-cell_counts : goal.returns-in-Err-cell_counts
returns-in-Err-cell_counts g c =
    let device = g.D.Disk.device in
    let store = c.args.store.now in
    let mid = c.verify.new.store in
    let new = c.cell_counts.new.store in
    let refusal = c.in-Err-cell_counts.refusal in
    let reads = c.in-Ok.ensures.same in
    let e = c.in-Err-cell_counts.ensures in record {
      reply = λ told. unread_so device store told c.args.seed c.args.counts refusal (g.K.Sink.state c.args.sink.now) (refused_so device store new refusal (refused_behind device store mid new reads refusal e.refused));
      read = unread_behind device store mid new reads refusal e.refused e.same;
    }

-- all was printed, or not to its end
pub returns-in-Ok-print_lines : goal.returns-in-Ok-print_lines
returns-in-Ok-print_lines g c =
    let device = g.D.Disk.device in
    let store = c.args.store.now in
    let mid = c.verify.new.store in
    let last = c.cell_counts.new.store in
    let first = g.K.Sink.state c.args.sink.now in
    let now = g.K.Sink.state c.print_lines.new.sink in
    let new = g.K.Sink.state c.finish.new.sink in
    let left = c.print_lines.new.line_buffer in
    let here = reads_on device store mid c.in-Ok.ensures.same in
    let reads = reads_more device store mid last c.in-Ok.ensures.same c.in-Ok-cell_counts.ensures.same in
    let both = reads_on device store last reads in
    let lines = c.in-Ok-print_lines.ensures in
    record {
      reply = λ told.
          (let values = subst (λ (s : StoreView g.row.D.Denot). AreCellCounts (filled_of s) c.in-Ok-cell_counts.cells) here.same (c.in-Ok-cell_counts.ensures.counts (told_after device store mid here told)) in
          let summed = subst (λ (s : StoreView g.row.D.Denot). IsSummedUp (filled_of s) c.in-Ok.sound c.in-Ok-cell_counts.cells) (sym both.same)
          (record { counts = counted_of store c.in-Ok.sound c.in-Ok.ensures.counted c.is_kept.ensures.bases; values = values }) in
          let printed = subst (λ (t : List ℕ). IsPrinted first now t left) (lines.1 summed) lines.2 in
          let text_is = subst (λ (s : StoreView g.row.D.Denot). IsPrinted first now (summary_text c.args.seed c.args.counts.packets c.args.counts.duplicates (filled_of s)) left) both.same printed in
          summed_to_end (HasPages store) c.args.seed c.args.counts (filled_of store) c.finish.result first now new left (c.in-Ok.ensures.sound told) text_is c.finish.ensures);
      read = read_finished device store last c.finish.result now new left reads c.finish.ensures;
    }

-- or the lines weren't
pub returns-in-Err-print_lines : goal.returns-in-Err-print_lines
returns-in-Err-print_lines g c =
    let device = g.D.Disk.device in
    let store = c.args.store.now in
    let mid = c.verify.new.store in
    let last = c.cell_counts.new.store in
    let first = g.K.Sink.state c.args.sink.now in
    let new = g.K.Sink.state c.print_lines.new.sink in
    let left = c.print_lines.new.line_buffer in
    let fault = c.in-Err-print_lines.fault in
    let here = reads_on device store mid c.in-Ok.ensures.same in
    let reads = reads_more device store mid last c.in-Ok.ensures.same c.in-Ok-cell_counts.ensures.same in
    let both = reads_on device store last reads in
    let lines = c.in-Err-print_lines.ensures in
    record {
      reply = λ told.
          (let values = subst (λ (s : StoreView g.row.D.Denot). AreCellCounts (filled_of s) c.in-Ok-cell_counts.cells) here.same (c.in-Ok-cell_counts.ensures.counts (told_after device store mid here told)) in
          let summed = subst (λ (s : StoreView g.row.D.Denot). IsSummedUp (filled_of s) c.in-Ok.sound c.in-Ok-cell_counts.cells) (sym both.same)
          (record { counts = counted_of store c.in-Ok.sound c.in-Ok.ensures.counted c.is_kept.ensures.bases; values = values }) in
          let printed = subst (λ (t : List ℕ). PrintsText {X = Unit {0}} (Err fault) first new t left) (lines.1 summed) lines.2 in
          let text_is = subst (λ (s : StoreView g.row.D.Denot). PrintsText {X = Unit {0}} (Err fault) first new (summary_text c.args.seed c.args.counts.packets c.args.counts.duplicates (filled_of s)) left) both.same printed in
          rw c.from.ensures (summed_part (HasPages store) c.args.seed c.args.counts (filled_of store) fault first new left (c.in-Ok.ensures.sound told) text_is));
      read = rw c.from.ensures (lines_read device store last fault first new lines.0 left reads lines.2);
    }
