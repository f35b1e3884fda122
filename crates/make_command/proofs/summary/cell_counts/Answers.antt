use Rattle.std.proofs.Common.{◌≡◌, codes, sym, subst}
use Rattle.history_items.specs.Databases.{database_in}
use Rattle.archive_store.specs.StoreView.{StoreView, filled_of}
use Rattle.archive_store.specs.UnreadRows.{IsReadRefusal}
use Rattle.archive_store.proofs.Calls.{passed_on}
use Rattle.archive_store.proofs.ReadOn.{left_after, reads_more, reads_on, told_after}
use Rattle.make_command.specs.Summary.{cell_count}
use Rattle.make_command.specs.Summing.{KnowsParameters}
use Rattle.make_command.proofs.SummaryTexts.{left_handed, refused_behind}
use Rattle.make_command.proofs.summary.cell_counts.Goals as goal

-- ---- rows were read

pub cell_count-requires-2-clause-known : goal.cell_count-requires-2-clause-known
cell_count-requires-2-clause-known g c =
    let read = reads_on g.D.Disk.device c.args.store.now c.cell_count.new.store c.in_ok-cell_count.ensures.same in
    (subst (λ (s : StoreView g.row.D.Denot). KnowsParameters (database_in s.head.mdb s.history)) (sym read.same) c.requires.known).1.0

pub cell_count-requires-3-clause-known : goal.cell_count-requires-3-clause-known
cell_count-requires-3-clause-known g c =
    let device = g.D.Disk.device in
    let store = c.args.store.now in
    let both = reads_more device store c.cell_count.new.store c.cell_count-2.new.store c.in_ok-cell_count.ensures.same c.in_ok-cell_count-2.ensures.same in
    let read = reads_on device store c.cell_count-2.new.store both in
    (subst (λ (s : StoreView g.row.D.Denot). KnowsParameters (database_in s.head.mdb s.history)) (sym read.same) c.requires.known).1.1.0

pub returns-clause-counts : goal.returns-clause-counts
returns-clause-counts g c = λ told.
    let device = g.D.Disk.device in
    let store = c.args.store.now in
    let mid = c.cell_count.new.store in
    let later = c.cell_count-2.new.store in
    let first = reads_on device store mid c.in_ok-cell_count.ensures.same in
    let both = reads_on device store later (reads_more device store mid later c.in_ok-cell_count.ensures.same c.in_ok-cell_count-2.ensures.same) in record {
      apid = c.in_ok-cell_count.ensures.count told;
      temp = subst (λ (s : StoreView g.row.D.Denot). c.in_ok-cell_count-2.field-0 ≡ cell_count (filled_of s) (codes "temp")) first.same (c.in_ok-cell_count-2.ensures.count (told_after device store mid first told));
      level = subst (λ (s : StoreView g.row.D.Denot). c.in_ok-cell_count-3.field-0 ≡ cell_count (filled_of s) (codes "level")) both.same (c.in_ok-cell_count-3.ensures.count (told_after device store later both told));
    }

pub returns-clause-same : goal.returns-clause-same
returns-clause-same g c =
    let device = g.D.Disk.device in
    let store = c.args.store.now in
    let mid = c.cell_count.new.store in
    let later = c.cell_count-2.new.store in
    let last = c.cell_count-3.new.store in
    reads_more device store later last (reads_more device store mid later c.in_ok-cell_count.ensures.same c.in_ok-cell_count-2.ensures.same) c.in_ok-cell_count-3.ensures.same

-- ---- or weren't

pub returns-in_err-cell_count-clause-refused : goal.returns-in_err-cell_count-clause-refused
returns-in_err-cell_count-clause-refused g c =
    passed_on c.from_residual.result c.in_err-cell_count.field-0.0 (IsReadRefusal g.D.Disk.device c.args.store.now c.cell_count.new.store) c.from_residual.ensures.1 c.in_err-cell_count.ensures.refused

pub returns-in_err-cell_count-clause-same : goal.returns-in_err-cell_count-clause-same
returns-in_err-cell_count-clause-same g c =
    left_handed g.D.Disk.device c.args.store.now c.cell_count.new.store c.from_residual.result c.in_err-cell_count.field-0.0 c.from_residual.ensures.1 c.in_err-cell_count.ensures.same

pub returns-in_err-cell_count-2-clause-refused : goal.returns-in_err-cell_count-2-clause-refused
returns-in_err-cell_count-2-clause-refused g c =
    let device = g.D.Disk.device in
    let store = c.args.store.now in
    let mid = c.cell_count.new.store in
    let new = c.cell_count-2.new.store in
    let refusal = c.in_err-cell_count-2.field-0.0 in
    passed_on c.from_residual-in_err-cell_count-2.result refusal (IsReadRefusal device store new) c.from_residual-in_err-cell_count-2.ensures.1
    (refused_behind device store mid new c.in_ok-cell_count.ensures.same refusal c.in_err-cell_count-2.ensures.refused)

pub returns-in_err-cell_count-2-clause-same : goal.returns-in_err-cell_count-2-clause-same
returns-in_err-cell_count-2-clause-same g c =
    let device = g.D.Disk.device in
    let store = c.args.store.now in
    let mid = c.cell_count.new.store in
    let new = c.cell_count-2.new.store in
    let refusal = c.in_err-cell_count-2.field-0.0 in
    left_handed device store new c.from_residual-in_err-cell_count-2.result refusal c.from_residual-in_err-cell_count-2.ensures.1
    (left_after device store mid new c.in_ok-cell_count.ensures.same refusal c.in_err-cell_count-2.ensures.same)

pub returns-in_err-cell_count-3-clause-refused : goal.returns-in_err-cell_count-3-clause-refused
returns-in_err-cell_count-3-clause-refused g c =
    let device = g.D.Disk.device in
    let store = c.args.store.now in
    let mid = c.cell_count.new.store in
    let later = c.cell_count-2.new.store in
    let new = c.cell_count-3.new.store in
    let refusal = c.in_err-cell_count-3.field-0.0 in
    let both = reads_more device store mid later c.in_ok-cell_count.ensures.same c.in_ok-cell_count-2.ensures.same in
    passed_on c.from_residual-in_err-cell_count-3.result refusal (IsReadRefusal device store new) c.from_residual-in_err-cell_count-3.ensures.1
    (refused_behind device store later new both refusal c.in_err-cell_count-3.ensures.refused)

pub returns-in_err-cell_count-3-clause-same : goal.returns-in_err-cell_count-3-clause-same
returns-in_err-cell_count-3-clause-same g c =
    let device = g.D.Disk.device in
    let store = c.args.store.now in
    let mid = c.cell_count.new.store in
    let later = c.cell_count-2.new.store in
    let new = c.cell_count-3.new.store in
    let refusal = c.in_err-cell_count-3.field-0.0 in
    let both = reads_more device store mid later c.in_ok-cell_count.ensures.same c.in_ok-cell_count-2.ensures.same in
    left_handed device store new c.from_residual-in_err-cell_count-3.result refusal c.from_residual-in_err-cell_count-3.ensures.1
    (left_after device store later new both refusal c.in_err-cell_count-3.ensures.same)
