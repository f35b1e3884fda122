-- The records of a log over the rows of runs, and the entries of the log over the archive that those make.
use Rattle.std.proofs.Common.{◌≡◌, inl, inr, ⊎_elim, ℕ, zero, suc, ◌+◌, ◌<◌, List, [], ◌∷◌, ◌++◌, length, map, Bool, true, false, Some, refl, sym, ◌∙◌, ap, subst, arith, append_assoc, append-nil, length-append}
use Rattle.std.specs.Prelude.{slice_get, ◌||◌}
use Rattle.std.specs.List.{AllByRecursion, list_any}
use Rattle.std.proofs.lemmas.List.Folds.{list_any-append}
use Rattle.arch_types.specs.declared.row.Row.{Row}
use Rattle.arch_types.specs.History.{is_duplicate_of}
use Rattle.mdb_items.specs.Database.{Database}
use Rattle.history_items.specs.declared.items.Item.{Item}
use Rattle.history_items.specs.Items.{databases_in, is_of_interval, is_row_of_interval, is_row_with, items_of, prefix, row_item, rows_in}
use Rattle.history_items.specs.Late.{HasRow}
use Rattle.history_items.specs.Databases.{database_in}
use Rattle.history_items.proofs.ItemLists.{any_row_of, items_of-append, length-items_of, no_databases, rows_of_rows}
use Rattle.history_items.proofs.Late.{no_row, some_row}
use Rattle.intervals.specs.declared.interval.Interval.{Interval}
use Rattle.archive_history.specs.Limits.{IsWithin, IsWithinOver, interval_rows, octets_of}
use Rattle.archive_history.proofs.Sums.{interval_rows-append, octets-append}
use Rattle.disk_journal.specs.Format.{HasRecords}
use Rattle.field_codec.specs.declared.entry.Entry.{Entry}
use Rattle.field_codec.specs.declared.entry.Entry.TheVariants as entries
use Rattle.field_codec.specs.Entries.{IsArchiveEntry}
use Rattle.field_codec.specs.Spelling.{entry_octets}
use Rattle.param_segments.specs.Extracted.{IsSetOf}
use Rattle.param_segments.specs.Octets.{rows_in_octets}
use Rattle.param_segments.specs.Rows.{SetRow}
use Rattle.run_pages.specs.Placed.{Placed, behind_positions, rows_of_placed}
use Rattle.seal_codec.specs.declared.seal.Seal.{Seal}
use Rattle.sealed_sums.specs.InOrder.{AreInOrder}
use Rattle.store_fills.specs.Sound.{Fillings}
use Rattle.archive_images.specs.declared.head.Head.{Head}
use Rattle.archive_images.specs.Entries.{AreAdmitted, Archive, FilledArchive, IsFillable, IsPlaced, Replays, archive, filled_archive}
use Rattle.archive_images.specs.SealFiles.{HasSeals, HaveParts, Part, StoredFill, fill_entry, fill_record, log_head_record}
use Rattle.archive_images.specs.Below.{IsSealedFill, PartsMake, after_fill, fillings_of, rows_of_parts}
use Rattle.archive_images.proofs.RowsAlone.{few_names, in_force_below}
use Rattle.sealed_images.specs.Records.{ReadsTo}
use Rattle.sealed_images.specs.Damage.{AreRowsInLog, FollowsInLog, IsFillInLog, MayAdd}
use Rattle.sealed_images.specs.Laws.{LogReads, ReadImagesStand}
use Rattle.sealed_images.specs.Sealing.{AreOfEntries, rows_of_entries}
use Rattle.sealed_images.proofs.LogRows.{any_blind, fresh_same, interval_blind, octets_blind}

-- ---- what looks at the rows of a history, and not at their order

-- tables and packet names are those of the head
pub placed_same : (head : Head) (h k : List Item) → databases_in h ≡ [] → databases_in k ≡ [] → (rows : List Row) → AllByRecursion (IsPlaced head h) rows → AllByRecursion (IsPlaced head k) rows
placed_same head h k alone too [] placed = tt
placed_same head h k alone too (row ∷ rows) placed = (
  record { table = placed.0.table; pname = omega (arith, placed.0.pname, few_names head.mdb h alone, few_names head.mdb k too) },
  placed_same head h k alone too rows placed.1,
)

has_row_same : (e : ℕ) (interval : Interval) (h k : List Item) → list_any (is_row_of_interval e interval) h ≡ list_any (is_row_of_interval e interval) k → HasRow e interval h → HasRow e interval k
has_row_same e interval h k same has = by (list_any (is_row_of_interval e interval) h) refl
  where
    by : (b : Bool) → list_any (is_row_of_interval e interval) h ≡ b → HasRow e interval k
    by true is = some_row e interval k (sym same ∙ is)
    by false is = absurd (no_row e interval h has.position is has.stands)

pub there_below : {X : Type 0} (xs : List X) (p : ℕ) (x : X) → slice_get xs p ≡ Some x → p < length xs
there_below [] p x is = absurd cc
there_below (y ∷ xs) zero x is = omega arith
there_below (y ∷ xs) (suc p) x is = omega (arith, there_below xs p x is)

-- ---- rows of runs at their positions, and the same rows in the order of those

module _ (old : Archive) (sealed : ℕ) (placed : List Placed) (rows : List Row) (order : AreInOrder (behind_positions placed) rows) (count : length rows ≡ sealed) where
  abbrev in_runs : List Row
  in_runs = rows_of_placed placed

  -- the archive of these rows and of others behind them
  abbrev over : List Row → Fillings (List SetRow) → FilledArchive
  over was fillings = filled_archive old.head old.exponent (items_of (rows ++ was)) fillings

  any_same : (test : Row → Bool) (was : List Row) → list_any (is_row_with test) (items_of (rows ++ was)) ≡ list_any (is_row_with test) (items_of (in_runs ++ was))
  any_same test was =
      any_row_of test (rows ++ was) ∙ list_any-append test rows was
      ∙ ap (λ (b : Bool). b || list_any test was) (sym (any_blind placed rows order test))
      ∙ sym (list_any-append test in_runs was) ∙ sym (any_row_of test (in_runs ++ was))

  more_items : (was more : List Row) → items_of (rows ++ was) ++ items_of more ≡ items_of (rows ++ (was ++ more))
  more_items was more = sym (items_of-append (rows ++ was) more) ∙ ap items_of (append_assoc rows was more)

  octets_same : (was more : List Row) → octets_of (in_runs ++ (was ++ more)) ≡ octets_of ((rows ++ was) ++ more)
  octets_same was more = omega (arith, octets-append (rows ++ was) more, octets-append rows was, octets-append in_runs (was ++ more), octets-append was more, octets_blind placed rows order)

  interval_same : (was more : List Row) (i : Interval) → interval_rows old.exponent i (in_runs ++ (was ++ more)) ≡ interval_rows old.exponent i ((rows ++ was) ++ more)
  interval_same was more i =
      let e = old.exponent in
      omega (arith, interval_rows-append e i (rows ++ was) more, interval_rows-append e i rows was, interval_rows-append e i in_runs (was ++ more), interval_rows-append e i was more, interval_blind placed rows order e i)

  count_same : (was more : List Row) → sealed + length (was ++ more) ≡ length ((rows ++ was) ++ more)
  count_same was more = omega (arith, count, length-append (rows ++ was) more, length-append rows was, length-append was more)

  within_over : (was more : List Row) → IsWithin old.exponent (rows_in (items_of (rows ++ was)) ++ more) → IsWithinOver old.exponent sealed in_runs (was ++ more)
  within_over was more w =
      let it = subst (λ (l : List Row). IsWithin old.exponent (l ++ more)) (rows_of_rows (rows ++ was)) w in
      record {
        few = omega (arith, it.few, count_same was more);
        octets = omega (arith, it.octets, octets_same was more);
        intervals = λ i. omega (arith, it.intervals i, interval_same was more i);
      }

  over_within : (was more : List Row) → IsWithinOver old.exponent sealed in_runs (was ++ more) → IsWithin old.exponent (rows_in (items_of (rows ++ was)) ++ more)
  over_within was more w =
      subst (λ (l : List Row). IsWithin old.exponent (l ++ more)) (sym (rows_of_rows (rows ++ was)))
      (record {
        few = omega (arith, w.few, count_same was more);
        octets = omega (arith, w.octets, octets_same was more);
        intervals = λ i. omega (arith, w.intervals i, interval_same was more i);
      })

  -- ---- one record

  may_add : (was more : List Row) → AreAdmitted (archive old.head old.exponent (items_of (rows ++ was))) more → MayAdd old sealed in_runs was more
  may_add was more may = record {
    spelled = may.spelled;
    placed = placed_same old.head (items_of (rows ++ was)) (items_of (in_runs ++ was)) (no_databases (rows ++ was)) (no_databases (in_runs ++ was)) more may.placed;
    octets = may.octets;
    fresh = fresh_same (items_of (rows ++ was)) (items_of (in_runs ++ was)) more (λ row. any_same (is_duplicate_of row) was) may.fresh;
    within = within_over was more may.within;
  }

  admitted : (was more : List Row) → MayAdd old sealed in_runs was more → AreAdmitted (archive old.head old.exponent (items_of (rows ++ was))) more
  admitted was more may = record {
    spelled = may.spelled;
    placed = placed_same old.head (items_of (in_runs ++ was)) (items_of (rows ++ was)) (no_databases (in_runs ++ was)) (no_databases (rows ++ was)) more may.placed;
    octets = may.octets;
    fresh = fresh_same (items_of (in_runs ++ was)) (items_of (rows ++ was)) more (λ row. sym (any_same (is_duplicate_of row) was)) may.fresh;
    within = over_within was more may.within;
  }

  -- how many items there are
  as_many : (was : List Row) → length (items_of (rows ++ was)) ≡ sealed + length was
  as_many was = omega (arith, length-items_of (rows ++ was), length-append rows was, count)

  in_force_of_head : (was : List Row) (base : ℕ) → database_in old.head.mdb (prefix base (items_of (rows ++ was))) ≡ old.head.mdb
  in_force_of_head was base = in_force_below old.head.mdb base (items_of (rows ++ was)) (no_databases (rows ++ was))

  may_fill : (was : List Row) (fillings : Fillings (List SetRow)) (fill : StoredFill) → IsFillable (over was fillings) fill.interval fill.base fill.octets → IsSealedFill old (sealed + length was) (in_runs ++ was) fill
  may_fill was fillings fill may = record {
    base = omega (arith, may.based.within, as_many was);
    row = has_row_same old.exponent fill.interval (items_of (rows ++ was)) (items_of (in_runs ++ was)) (any_same (is_of_interval old.exponent fill.interval) was)
        (record { position = may.based.row.position; stands = may.based.row.stands });
    set = subst (λ (db : Database). IsSetOf db old.exponent fill.interval.0 (rows_in_octets fill.octets)) (in_force_of_head was fill.base) may.set;
    spelled = may.spelled;
  }

  fillable : (was : List Row) (fillings : Fillings (List SetRow)) (fill : StoredFill) → IsArchiveEntry (fill_entry fill) → IsSealedFill old (sealed + length was) (in_runs ++ was) fill → IsFillable (over was fillings) fill.interval fill.base fill.octets
  fillable was fillings fill fits may =
      let row = has_row_same old.exponent fill.interval (items_of (in_runs ++ was)) (items_of (rows ++ was)) (sym (any_same (is_of_interval old.exponent fill.interval) was)) may.row in
      record {
        fits = fits;
        based = record {
          within = omega (arith, may.base, as_many was);
          row = record { position = row.position; stands = row.stands; below = there_below (items_of (rows ++ was)) row.position (row_item row.stands.row) row.stands.there };
        };
        set = subst (λ (db : Database). IsSetOf db old.exponent fill.interval.0 (rows_in_octets fill.octets)) (sym (in_force_of_head was fill.base)) may.set;
        spelled = may.spelled;
      }

  -- ---- all records

  reads_from : (was : List Row) (fillings : Fillings (List SetRow)) (es : List Entry) (filled : FilledArchive) → Replays (Some (over was fillings)) es (Some filled)
      → ReadsTo (FollowsInLog old sealed in_runs) was (map entry_octets es) (was ++ rows_of_entries es)
  reads_from was fillings [] filled r = append-nil was
  reads_from was fillings (entries.Head tables mdb ∷ es) filled r = absurd r.1
  reads_from was fillings (entries.Seal seal ∷ es) filled r = absurd r.1
  reads_from was fillings (entries.LogHead n ∷ es) filled r = absurd r.1
  reads_from was fillings (entries.Rows more ∷ es) filled r =
      let next : r.0 ≡ over (was ++ more) fillings = r.1.1 ∙ ap (λ (h : List Item). filled_archive old.head old.exponent h fillings) (more_items was more) in (
        was ++ more,
        inl (record { rows = more; body_is = refl; may = may_add was more r.1.0; now_is = refl }),
        subst (λ (l : List Row). ReadsTo (FollowsInLog old sealed in_runs) (was ++ more) (map entry_octets es) l) (append_assoc was more (rows_of_entries es))
            (reads_from (was ++ more) fillings es filled (subst (λ (a : FilledArchive). Replays (Some a) es (Some filled)) next r.2)),
      )
  reads_from was fillings (entries.Fill interval base octets ∷ es) filled r =
      let fill : StoredFill = record { interval = interval; base = base; octets = octets } in (
        was,
        inr (record { fill = fill; body_is = refl; fits = r.1.0.fits; may = may_fill was fillings fill r.1.0; now_is = refl }),
        reads_from was (after_fill fillings fill) es filled (subst (λ (a : FilledArchive). Replays (Some a) es (Some filled)) r.1.1 r.2),
      )

  entries_from : (was : List Row) (fillings : Fillings (List SetRow)) (bodies : List (List ℕ)) (now : List Row) → ReadsTo (FollowsInLog old sealed in_runs) was bodies now
      → (added : List Row) × (now ≡ was ++ added) × AreOfEntries (over was fillings) bodies added
  entries_from was fillings [] now r = ([], r ∙ sym (append-nil was), record { es = []; filled = over was fillings; bodies_are = refl; rows_are = refl; replays = refl })
  entries_from was fillings (body ∷ bodies) now r = ⊎_elim
      (λ (p : AreRowsInLog old sealed in_runs was body r.0).
      let rest = entries_from (was ++ p.rows) fillings bodies now (subst (λ (l : List Row). ReadsTo (FollowsInLog old sealed in_runs) l bodies now) p.now_is r.2) in
      let mid : over (was ++ p.rows) fillings ≡ filled_archive old.head old.exponent (items_of (rows ++ was) ++ items_of p.rows) fillings =
      ap (λ (h : List Item). filled_archive old.head old.exponent h fillings) (sym (more_items was p.rows)) in (
        p.rows ++ rest.0,
        rest.1 ∙ append_assoc was p.rows rest.0,
        record {
          es = entries.Rows p.rows ∷ rest.2.es;
          filled = rest.2.filled;
          bodies_are = ap (λ (b : List ℕ). b ∷ bodies) p.body_is ∙ ap (λ (l : List (List ℕ)). entry_octets (entries.Rows p.rows) ∷ l) rest.2.bodies_are;
          rows_are = ap (λ (l : List Row). p.rows ++ l) rest.2.rows_are;
          replays = (over (was ++ p.rows) fillings, (admitted was p.rows p.may, mid), rest.2.replays);
        },
      ))
      (λ (p : IsFillInLog old sealed in_runs was body r.0).
      let rest = entries_from was (after_fill fillings p.fill) bodies now (subst (λ (l : List Row). ReadsTo (FollowsInLog old sealed in_runs) l bodies now) p.now_is r.2) in (
        rest.0,
        rest.1,
        record {
          es = fill_entry p.fill ∷ rest.2.es;
          filled = rest.2.filled;
          bodies_are = ap (λ (b : List ℕ). b ∷ bodies) p.body_is ∙ ap (λ (l : List (List ℕ)). fill_record p.fill ∷ l) rest.2.bodies_are;
          rows_are = rest.2.rows_are;
          replays = (over was (after_fill fillings p.fill), (fillable was fillings p.fill p.fits p.may, refl), rest.2.replays);
        },
      ))
      r.1

-- ---- over the archive that parts make

start : (old : Archive) (all : List Seal) (sealed : ℕ) (parts : List Part) (made : FilledArchive) (make : PartsMake old all sealed parts made) → made ≡ filled_archive old.head old.exponent (items_of (make.rows ++ [])) (fillings_of parts)
start old all sealed parts made make =
    make.made_is ∙ ap (λ (l : List Row). filled_archive old.head old.exponent (items_of l) (fillings_of parts)) (sym (append-nil make.rows))

-- its entries are read as records of the log, by their rows
pub entries_read_as_log : (old : Archive) (all : List Seal) (sealed : ℕ) (parts : List Part) (made : FilledArchive) → PartsMake old all sealed parts made → (es : List Entry) (filled : FilledArchive)
    → Replays (Some made) es (Some filled) → ReadsTo (FollowsInLog old sealed (rows_of_placed (rows_of_parts parts))) [] (map entry_octets es) (rows_of_entries es)
entries_read_as_log old all sealed parts made make es filled replays =
    reads_from old sealed (rows_of_parts parts) make.rows make.in_order make.count [] (fillings_of parts) es filled
    (subst (λ (a : FilledArchive). Replays (Some a) es (Some filled)) (start old all sealed parts made make) replays)

-- and records of the log are those of entries
pub log_is_of_entries : (old : Archive) (all : List Seal) (sealed : ℕ) (parts : List Part) (made : FilledArchive) → PartsMake old all sealed parts made → (bodies : List (List ℕ)) (rows : List Row)
    → ReadsTo (FollowsInLog old sealed (rows_of_placed (rows_of_parts parts))) [] bodies rows → AreOfEntries made bodies rows
log_is_of_entries old all sealed parts made make bodies rows reads =
    let found = entries_from old sealed (rows_of_parts parts) make.rows make.in_order make.count [] (fillings_of parts) bodies rows reads in
    record {
      es = found.2.es;
      filled = found.2.filled;
      bodies_are = found.2.bodies_are;
      rows_are = found.1 ∙ found.2.rows_are;
      replays = subst (λ (a : FilledArchive). Replays (Some a) found.2.es (Some found.2.filled)) (sym (start old all sealed parts made make)) found.2.replays;
    }

pub log_reads : LogReads
log_reads old all sealed parts made bodies rows make = (
  λ reads. log_is_of_entries old all sealed parts made make bodies rows reads,
  λ of. subst (λ (b : List (List ℕ)). ReadsTo (FollowsInLog old sealed (rows_of_placed (rows_of_parts parts))) [] b rows) (sym of.bodies_are)
      (subst (λ (l : List Row). ReadsTo (FollowsInLog old sealed (rows_of_placed (rows_of_parts parts))) [] (map entry_octets of.es) l) (sym of.rows_are)
      (entries_read_as_log old all sealed parts made make of.es of.filled of.replays)),
)

-- ---- an image that was read whole

pub read_images_stand : ReadImagesStand
read_images_stand image m parts made rows read =
    let found = log_is_of_entries m.old.plain m.all read.last.rows parts made read.make read.log.bodies rows read.log.reads in (
      found,
      record {
        log = read.last.log;
        beginning = log_head_record read.last.rows ∷ [];
        base = Some made;
        entries = found.es;
        has_base = inr (record {
          before = m.before;
          old = m.old;
          earlier = read.earlier;
          last = read.last;
          parts = parts;
          made = made;
          manifest = subst (λ (l : List Seal). HasSeals (image 0) m.before l) read.split read.says.has;
          replays = read.says.replays;
          have = subst (λ (l : List Seal). HaveParts image l parts) read.split read.have;
          make = subst (λ (l : List Seal). PartsMake m.old.plain l read.last.rows parts made) read.split read.make;
          log_is = refl;
          beginning_is = refl;
          base_is = refl;
        });
        has = subst (λ (b : List (List ℕ)). HasRecords (image read.last.log) (log_head_record read.last.rows ∷ b)) found.bodies_are read.log.has;
        replays = found.replays;
      },
    )
