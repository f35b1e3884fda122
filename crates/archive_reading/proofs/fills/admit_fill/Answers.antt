use Rattle.std.proofs.Common.{ℕ, List, None, Some, sym, true≢false, ◌∙◌, ap, subst}
use Rattle.std.specs.Arc.{arc_value}
use Rattle.std.specs.List.{AllByRecursion}
use Rattle.history_items.specs.declared.fills.Fill.TheVariants.{Done}
use Rattle.store_fills.specs.Faults.{IsDone}
use Rattle.store_fills.proofs.Faults.{all_done}
use Rattle.archive_history.specs.History.{HistoryView}
use Rattle.fill_tracker.specs.FillTracker.{AreMarksOf}
use Rattle.param_segments.specs.Extracted.{IsSetOf}
use Rattle.param_segments.specs.Octets.{rows_in_octets, set_octets}
use Rattle.param_segments.specs.Rows.{SetRow}
use Rattle.store_fills.specs.LastFills.{fill_over, fillings_in}
use Rattle.store_fills.specs.Sound.{with_filling}
use Rattle.mdb_items.specs.Database.{Database}
use Rattle.archive_images.specs.declared.head.Head.{Head}
use Rattle.archive_images.specs.Entries.{filled_archive}
use Rattle.archive_reading.specs.PartialArchive.{HoldsFills, IsSetRead}
use Rattle.history_items.specs.Items.{databases_in}
use Rattle.archive_reading.proofs.Fillable.{holds_done}
use Rattle.archive_images.proofs.RowsAlone.{in_force_below}
use Rattle.archive_reading.proofs.fills.admit_fill.Goals as goal

pub note_fill-requires : goal.note_fill-requires
note_fill-requires c = c.may_fill.ensures.rows c.if-not-may_fill.false

pub returns-then-not-may_fill-clause-no : goal.returns-then-not-may_fill-clause-no
returns-then-not-may_fill-clause-no c refused fillable = true≢false (sym (c.may_fill.ensures.based.1 fillable.based) ∙ c.if-not-may_fill.true)

pub returns-in_default-clause-no : goal.returns-in_default-clause-no
returns-in_default-clause-no c refused fillable =
    let none : IsSetRead c.args.made.now.head.mdb c.args.made.now.history.exponent c.args.interval c.args.octets None = subst (λ (e : ℕ). IsSetRead c.args.made.now.head.mdb e c.args.interval c.args.octets None) c.exponent.ensures (subst (IsSetRead c.args.made.now.head.mdb c.exponent.result c.args.interval c.args.octets) c.in_default.is c.in_ok-found.ensures) in
    let made = c.args.made.now in
    let below = in_force_below made.head.mdb c.args.base made.history.items c.requires.marks.3 in
    none (rows_in_octets c.args.octets) (subst (λ (db : Database). IsSetOf db made.history.exponent c.args.interval.0 (rows_in_octets c.args.octets)) below fillable.set) fillable.spelled

pub returns-clause-yes : goal.returns-clause-yes
returns-clause-yes c ok =
    let made = c.args.made.now in
    let new = c.note_fill.new.made in
    let i = c.args.interval in
    let base = c.args.base in
    let octets = c.args.octets in
    let read : IsSetRead made.head.mdb made.history.exponent i octets (Some c.in-Some.set) = subst (λ (e : ℕ). IsSetRead made.head.mdb e i octets (Some c.in-Some.set)) c.exponent.ensures (subst (IsSetRead made.head.mdb c.exponent.result i octets) c.in-Some.is c.in_ok-found.ensures) in
    let rest = c.note_fill.ensures.rest in (
      (
        record {
          fits = c.requires.entry;
          based = c.may_fill.ensures.based.0 c.if-not-may_fill.false;
          set = subst (λ (db : Database). IsSetOf db made.history.exponent i.0 (rows_in_octets octets)) (sym (in_force_below made.head.mdb base made.history.items c.requires.marks.3))
              (subst (IsSetOf made.head.mdb made.history.exponent i.0) read.2 read.0);
          spelled = read.1 ∙ ap set_octets read.2;
        },
        ap (λ (h : Head). filled_archive h new.history.exponent new.history.items (fillings_in new.sets.filled)) rest.0
            ∙ ap (λ (h : HistoryView). filled_archive made.head h.exponent h.items (fillings_in new.sets.filled)) rest.1
            ∙ ap (filled_archive made.head made.history.exponent made.history.items)
            (c.in_ok-note_fill.ensures.sets ∙ ap (λ (s : List SetRow). with_filling (fillings_in made.sets.filled) i (fill_over base s)) (c.in_ok-shared.ensures.ok ∙ read.2)),
      ),
      c.in_ok-note_fill.ensures.fills,
    )

pub returns-clause-marks : goal.returns-clause-marks
returns-clause-marks c ok =
    let made = c.args.made.now in
    let new = c.note_fill.new.made in
    let i = c.args.interval in
    let base = c.args.base in
    let octets = c.args.octets in
    let read : IsSetRead made.head.mdb made.history.exponent i octets (Some c.in-Some.set) = subst (λ (e : ℕ). IsSetRead made.head.mdb e i octets (Some c.in-Some.set)) c.exponent.ensures (subst (IsSetRead made.head.mdb c.exponent.result i octets) c.in-Some.is c.in_ok-found.ensures) in
    let rest = c.note_fill.ensures.rest in
    let fills = c.in_ok-note_fill.ensures.fills in
    let set : List SetRow = arc_value c.in_ok-shared.shared in
    let is : IsSetOf made.head.mdb made.history.exponent i.0 set = subst (IsSetOf made.head.mdb made.history.exponent i.0) (sym c.in_ok-shared.ensures.ok) read.0 in
    let fits = subst (λ (db : Database). IsSetOf db made.history.exponent i.0 set) (sym (in_force_below made.head.mdb base made.history.items c.requires.marks.3)) is in (
      subst (AllByRecursion IsDone) (sym fills) (all_done made.tracker.fills (Done i base) c.requires.marks.0 tt),
      subst (λ (h : HistoryView). AreMarksOf h.exponent h.items new.tracker.fills new.tracker.marks) (sym rest.1) (c.in_ok-note_fill.ensures.marks made.history.exponent made.history.items c.requires.marks.1),
      subst (λ (h : HistoryView). HoldsFills new.head h.exponent h.items new.tracker.fills new.sets.filled) (sym rest.1)
          (subst (λ (h : Head). HoldsFills h made.history.exponent made.history.items new.tracker.fills new.sets.filled) (sym rest.0)
          (holds_done made.head made.history.exponent made.history.items made.tracker.fills new.tracker.fills made.sets.filled new.sets.filled i base set c.requires.marks.2 fills c.in_ok-note_fill.ensures.sets fits)),
      ap (λ (h : HistoryView). databases_in h.items) rest.1 ∙ c.requires.marks.3,
    )
