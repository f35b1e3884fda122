-- The fills of a fill file, one more at a time.
use Rattle.std.proofs.Common.{◌≡◌, ◌⊎◌, inl, inr, ℕ, List, [], ◌∷◌, ◌++◌, map, refl, sym, ◌∙◌, ap, subst, append_assoc, append-nil}
use Rattle.std.specs.List.{AllByRecursion}
use Rattle.arch_disk.specs.Disk.{Device}
use Rattle.arch_disk.specs.Image.{Image}
use Rattle.arch_types.specs.declared.row.Row.{Row}
use Rattle.disk_journal.specs.Calls.{content_read, read_so_far}
use Rattle.disk_journal.specs.Format.{HasRecords}
use Rattle.disk_journal.specs.Reading.{file_read}
use Rattle.disk_journal.specs.declared.opening.Opening.{Opening}
use Rattle.intervals.specs.declared.interval.Interval.{Interval}
use Rattle.late_marks.specs.Marks.{Marks}
use Rattle.run_pages.specs.Placed.{Placed, behind_positions, rows_of_placed}
use Rattle.seal_codec.specs.declared.seal.Seal.{Seal}
use Rattle.history_items.specs.declared.fills.Fill.{Fill}
use Rattle.history_items.specs.declared.fills.Fill.TheVariants.{Done}
use Rattle.fill_tracker.specs.FillTracker.{FillTrackerView}
use Rattle.fill_tracker.specs.Placed.{AreMarksOfPlaced, KeepsMarksOfPlaced}
use Rattle.field_codec.specs.Entries.{IsArchiveEntry}
use Rattle.param_segments.specs.Rows.{SetRow}
use Rattle.store_fills.specs.LastFills.{fillings_in}
use Rattle.store_fills.specs.Sound.{Fillings}
use Rattle.archive_images.specs.Below.{IsSealedFill}
use Rattle.archive_images.specs.declared.head.Head.{Head}
use Rattle.archive_images.specs.Entries.{Archive}
use Rattle.archive_images.specs.SealFiles.{StoredFill, fill_entry, fill_record, log_head_record}
use Rattle.archive_images.specs.Stands.{IsCutShort}
use Rattle.sealed_images.specs.Damage.{AreFillsIn, FollowsInFills}
use Rattle.sealed_images.specs.Records.{CanFollow, IsRecordDamagedAt, MayNotFollow, ReadsTo, StopsAt}
use Rattle.sealed_images.proofs.Places.{fills_read}
use Rattle.sealed_opening.specs.Fills.{IsFillTaken, IsInFillFile, IsSealedFillBy, MayBeFill, after_fills, bare, dones_of_stored}
use Rattle.sealed_opening.specs.Records.{IsStop}
use Rattle.sealed_opening.specs.SoFar.{rows_so_far}
use Rattle.sealed_opening.specs.declared.fills.FillRecords.{FillRecords}
use Rattle.sealed_opening.specs.declared.so_far.SealedSoFar.{SealedSoFar}
use Rattle.sealed_opening.proofs.IntervalRows.{marks_have, row_some, rows_behind, some_row}

-- marks that were kept while room was made
pub keeps_roomier : (old mid new : FillTrackerView) → (mid.fills ≡ old.fills) × (mid.marks ≡ old.marks) → KeepsMarksOfPlaced mid new → KeepsMarksOfPlaced old new
keeps_roomier old mid new same keeps = λ exponent placed are.
    keeps exponent placed (subst (λ (m : Marks). AreMarksOfPlaced exponent placed mid.fills m) (sym same.1) (subst (λ (l : List Fill). AreMarksOfPlaced exponent placed l old.marks) (sym same.0) are))

pub same_fill : (f g : StoredFill) → fill_entry f ≡ fill_entry g → f ≡ g
same_fill f g is =
    let interval : f.interval ≡ g.interval = cc in
    let base : f.base ≡ g.base = cc in
    let octets : f.octets ≡ g.octets = cc in
    ap (λ (i : Interval). let s : StoredFill = record { interval = i; base = f.base; octets = f.octets } in s) interval
    ∙ ap (λ (b : ℕ). let s : StoredFill = record { interval = g.interval; base = b; octets = f.octets } in s) base
    ∙ ap (λ (o : List ℕ). let s : StoredFill = record { interval = g.interval; base = g.base; octets = o } in s) octets

-- rows behind positions, without them
rows_alone : (placed : List Placed) → rows_behind (behind_positions placed) ≡ rows_of_placed placed
rows_alone [] = refl
rows_alone (at ∷ placed) = ap (λ (l : List Row). at.row ∷ l) (rows_alone placed)

module _ (was : FillRecords) (placed : List (ℕ × Row)) (are : AreMarksOfPlaced was.exponent placed was.tracker.fills was.tracker.marks) where
  -- by marks and by rows it is one rule
  pub by_rows : (fill : StoredFill) → IsSealedFillBy was fill → IsSealedFill (bare was.head.now was.exponent) was.rows (rows_behind placed) fill
  by_rows fill may = record {
    base = may.base;
    row = some_row was.exponent fill.interval placed (sym (marks_have was.exponent fill.interval placed was.tracker.fills was.tracker.marks are) ∙ may.row);
    set = may.set;
    spelled = may.spelled;
  }

  pub by_marks : (fill : StoredFill) → IsArchiveEntry (fill_entry fill) → IsSealedFill (bare was.head.now was.exponent) was.rows (rows_behind placed) fill → IsSealedFillBy was fill
  by_marks fill fits may = record {
    fits = fits;
    base = may.base;
    row = marks_have was.exponent fill.interval placed was.tracker.fills was.tracker.marks are ∙ row_some was.exponent fill.interval placed may.row;
    set = may.set;
    spelled = may.spelled;
  }

  pub may_by_marks : (body : List ℕ) → CanFollow (FollowsInFills (bare was.head.now was.exponent) was.rows (rows_behind placed)) tt body → MayBeFill was body
  may_by_marks body can = (can.1.fill, can.1.body_is, by_marks can.1.fill can.1.fits can.1.may)

-- these records are fills, each of which was noted
pub record AreFillRecords (was : FillRecords) (bodies : List (List ℕ)) (now : FillRecords) : Type 0 where
  pub fills : List StoredFill
  pub bodies_are : bodies ≡ map fill_record fills
  pub fit : AllByRecursion (λ fill. IsArchiveEntry (fill_entry fill)) fills
  pub dones : now.tracker.fills ≡ was.tracker.fills ++ dones_of_stored fills
  pub marks : KeepsMarksOfPlaced was.tracker now.tracker
  pub sets : fillings_in now.sets.filled ≡ after_fills (fillings_in was.sets.filled) fills
  pub head : now.head.now ≡ was.head.now
  pub exponent : now.exponent ≡ was.exponent
  pub rows : now.rows ≡ was.rows
  pub may : (placed : List (ℕ × Row)) → AreMarksOfPlaced was.exponent placed was.tracker.fills was.tracker.marks →
      AllByRecursion (IsSealedFill (bare was.head.now was.exponent) was.rows (rows_behind placed)) fills

one_fill : (was now : FillRecords) (body : List ℕ) (t : IsFillTaken was body now) (placed : List (ℕ × Row)) → AreMarksOfPlaced was.exponent placed was.tracker.fills was.tracker.marks → AreMarksOfPlaced now.exponent placed now.tracker.fills now.tracker.marks
one_fill was now body t placed are =
    subst (λ (e : ℕ). AreMarksOfPlaced e placed now.tracker.fills now.tracker.marks) (sym t.exponent) (t.marks was.exponent placed are)

-- the rule of a later record is that of the first
same_rule : (was now : FillRecords) (body : List ℕ) (t : IsFillTaken was body now) (rows : List Row) (fill : StoredFill) → IsSealedFill (bare now.head.now now.exponent) now.rows rows fill → IsSealedFill (bare was.head.now was.exponent) was.rows rows fill
same_rule was now body t rows fill may =
    subst (λ (n : ℕ). IsSealedFill (bare was.head.now was.exponent) n rows fill) t.rows
    (subst (λ (e : ℕ). IsSealedFill (bare was.head.now e) now.rows rows fill) t.exponent
    (subst (λ (h : Head). IsSealedFill (bare h now.exponent) now.rows rows fill) t.head may))

all_same : (P Q : StoredFill → Type 0) (fills : List StoredFill) → ((fill : StoredFill) → P fill → Q fill) → AllByRecursion P fills → AllByRecursion Q fills
all_same P Q [] same all = tt
all_same P Q (fill ∷ fills) same all = (same fill all.0, all_same P Q fills same all.1)

pub all_fills : (was now : FillRecords) (bodies : List (List ℕ)) → ReadsTo IsFillTaken was bodies now → AreFillRecords was bodies now
all_fills was now [] is = record {
  fills = [];
  bodies_are = refl;
  fit = tt;
  dones = ap (λ (r : FillRecords). r.tracker.fills) is ∙ sym (append-nil was.tracker.fills);
  marks = subst (λ (r : FillRecords). KeepsMarksOfPlaced was.tracker r.tracker) (sym is) (λ exponent placed are. are);
  sets = ap (λ (r : FillRecords). fillings_in r.sets.filled) is;
  head = ap (λ (r : FillRecords). r.head.now) is;
  exponent = ap (λ (r : FillRecords). r.exponent) is;
  rows = ap (λ (r : FillRecords). r.rows) is;
  may = λ placed are. tt;
}
all_fills was now (body ∷ bodies) (mid, t, rest) =
    let r = all_fills mid now bodies rest in
    record {
      fills = t.fill ∷ r.fills;
      bodies_are = ap (λ (b : List ℕ). b ∷ bodies) t.body_is ∙ ap (λ (l : List (List ℕ)). fill_record t.fill ∷ l) r.bodies_are;
      fit = (t.may.fits, r.fit);
      dones = r.dones ∙ ap (λ (l : List Fill). l ++ dones_of_stored r.fills) t.fills ∙ append_assoc was.tracker.fills (Done t.fill.interval t.fill.base ∷ []) (dones_of_stored r.fills);
      marks = λ exponent placed are. r.marks exponent placed (t.marks exponent placed are);
      sets = r.sets ∙ ap (λ (f : Fillings (List SetRow)). after_fills f r.fills) t.sets;
      head = r.head ∙ t.head;
      exponent = r.exponent ∙ t.exponent;
      rows = r.rows ∙ t.rows;
      may = λ placed are. (
        by_rows was placed are t.fill t.may,
        all_same (IsSealedFill (bare mid.head.now mid.exponent) mid.rows (rows_behind placed)) (IsSealedFill (bare was.head.now was.exponent) was.rows (rows_behind placed)) r.fills
            (same_rule was mid body t (rows_behind placed)) (r.may placed (one_fill was mid body t placed are)),
      );
    }

-- ---- a fill file

-- a record that may not follow by the marks may not follow by the rows
fills_stop : (was : FillRecords) (content : List ℕ) (beginning : List (List ℕ)) (at : ℕ) (placed : List (ℕ × Row)) → AreMarksOfPlaced was.exponent placed was.tracker.fills was.tracker.marks
    → StopsAt MayBeFill IsFillTaken content beginning was at → IsRecordDamagedAt (FollowsInFills (bare was.head.now was.exponent) was.rows (rows_behind placed)) content beginning tt at
fills_stop was content beginning at placed are p = record {
  bodies = p.bodies;
  now = tt;
  rest = p.rest;
  long = p.long;
  small = p.small;
  reads = subst (λ (l : List (List ℕ)). ReadsTo (FollowsInFills (bare was.head.now was.exponent) was.rows (rows_behind placed)) tt l tt) (sym all.bodies_are)
      (fills_read (λ (file : ℕ). content) (bare was.head.now was.exponent) was.rows (rows_behind placed) all.fills all.fit (all.may placed are));
  content_is = p.content_is;
  at_is = p.at_is;
  bad = bad p.bad;
}
  where
    all : AreFillRecords was p.bodies p.now
    all = all_fills was p.now p.bodies p.reads

    marked : AreMarksOfPlaced p.now.exponent placed p.now.tracker.fills p.now.tracker.marks
    marked = subst (λ (e : ℕ). AreMarksOfPlaced e placed p.now.tracker.fills p.now.tracker.marks) (sym all.exponent) (all.marks was.exponent placed are)

    still : (body : List ℕ) → CanFollow (FollowsInFills (bare was.head.now was.exponent) was.rows (rows_behind placed)) tt body → MayBeFill p.now body
    still body can =
        let fill : StoredFill = can.1.fill in (
          fill,
          can.1.body_is,
          by_marks p.now placed marked fill can.1.fits
              (subst (λ (n : ℕ). IsSealedFill (bare p.now.head.now p.now.exponent) n (rows_behind placed) fill) (sym all.rows)
              (subst (λ (e : ℕ). IsSealedFill (bare p.now.head.now e) was.rows (rows_behind placed) fill) (sym all.exponent)
              (subst (λ (h : Head). IsSealedFill (bare h was.exponent) was.rows (rows_behind placed) fill) (sym all.head) can.1.may))),
        )

    bad : IsCutShort p.rest ⊎ MayNotFollow MayBeFill p.now p.rest → IsCutShort p.rest ⊎ MayNotFollow (CanFollow (FollowsInFills (bare was.head.now was.exponent) was.rows (rows_behind placed))) tt p.rest
    bad (inl short) = inl short
    bad (inr q) = inr (record { body = q.body; more = q.more; small = q.small; some = q.some; is = q.is; breaks = λ can. q.breaks (still q.body can) })

module _ {D : Type 0} (device : Device D) (was mid : D) (head : Head) (seal : Seal) (so_far : SealedSoFar) (start : FillRecords) (opening : Opening)
    (head_is : start.head.now ≡ head) (exponent_is : start.exponent ≡ so_far.sums.exponent) (rows_is : start.rows ≡ seal.rows) (tracker_is : start.tracker ≡ so_far.tracker)
    (in_file : file_read opening ≡ seal.fills) (reads : device.reads mid ≡ device.reads was) (read : read_so_far device opening mid ≡ log_head_record seal.rows ∷ []) where
  -- behind the head nothing is read yet
  here : (P : List ℕ → List (List ℕ) → Type 0) → P (content_read device opening mid) (read_so_far device opening mid) → P (device.reads was seal.fills) (log_head_record seal.rows ∷ [])
  here P is =
      subst (λ (l : List (List ℕ)). P (device.reads was seal.fills) l) read
      (subst (λ (f : ℕ). P (device.reads was f) (read_so_far device opening mid)) in_file
      (subst (λ (image : Image). P (image (file_read opening)) (read_so_far device opening mid)) reads is))

  -- the rule of the first record is that of the seal over the rows so far
  as_named : (P : Archive → ℕ → List Row → Type 0) → P (bare start.head.now start.exponent) start.rows (rows_behind (behind_positions (rows_so_far so_far))) → P (bare head so_far.sums.exponent) seal.rows (rows_of_placed (rows_so_far so_far))
  as_named P is =
      subst (λ (l : List Row). P (bare head so_far.sums.exponent) seal.rows l) (rows_alone (rows_so_far so_far))
      (subst (λ (n : ℕ). P (bare head so_far.sums.exponent) n (rows_behind (behind_positions (rows_so_far so_far)))) rows_is
      (subst (λ (e : ℕ). P (bare head e) start.rows (rows_behind (behind_positions (rows_so_far so_far)))) exponent_is
      (subst (λ (h : Head). P (bare h start.exponent) start.rows (rows_behind (behind_positions (rows_so_far so_far)))) head_is is)))

  own_marks : AreMarksOfPlaced so_far.sums.exponent (behind_positions (rows_so_far so_far)) so_far.tracker.fills so_far.tracker.marks → AreMarksOfPlaced start.exponent (behind_positions (rows_so_far so_far)) start.tracker.fills start.tracker.marks
  own_marks are =
      subst (λ (e : ℕ). AreMarksOfPlaced e (behind_positions (rows_so_far so_far)) start.tracker.fills start.tracker.marks) (sym exponent_is)
      (subst (λ (t : FillTrackerView). AreMarksOfPlaced so_far.sums.exponent (behind_positions (rows_so_far so_far)) t.fills t.marks) (sym tracker_is) are)

  pub stop_in_fills : (file at : ℕ) → IsStop MayBeFill IsFillTaken device mid opening start file at → IsInFillFile (device.reads was) head seal so_far file at
  stop_in_fills file at stop are = (
    stop.0 ∙ in_file,
    inr (as_named (λ (old : Archive) (sealed : ℕ) (rows : List Row). IsRecordDamagedAt (FollowsInFills old sealed rows) (device.reads was seal.fills) (log_head_record seal.rows ∷ []) tt at)
        (fills_stop start (device.reads was seal.fills) (log_head_record seal.rows ∷ []) at (behind_positions (rows_so_far so_far)) (own_marks are)
        (here (λ (content : List ℕ) (beginning : List (List ℕ)). StopsAt MayBeFill IsFillTaken content beginning start at) stop.1))),
  )

  pub fills_of_file : (now : FillRecords) (bodies : List (List ℕ)) (reads_to : ReadsTo IsFillTaken start bodies now) → HasRecords (content_read device opening mid) (read_so_far device opening mid ++ bodies)
      → AreMarksOfPlaced so_far.sums.exponent (behind_positions (rows_so_far so_far)) so_far.tracker.fills so_far.tracker.marks
      → AreFillsIn (device.reads was) (bare head so_far.sums.exponent) (rows_of_placed (rows_so_far so_far)) seal (all_fills start now bodies reads_to).fills
  fills_of_file now bodies reads_to has are =
      let all = all_fills start now bodies reads_to in
      record {
        has = record {
          has = subst (λ (l : List (List ℕ)). HasRecords (device.reads was seal.fills) (log_head_record seal.rows ∷ l)) all.bodies_are (here (λ (content : List ℕ) (beginning : List (List ℕ)). HasRecords content (beginning ++ bodies)) has);
          fit = all.fit;
        };
        may = as_named (λ (old : Archive) (sealed : ℕ) (rows : List Row). AllByRecursion (IsSealedFill old sealed rows) all.fills) (all.may (behind_positions (rows_so_far so_far)) (own_marks are));
      }
