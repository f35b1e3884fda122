-- A mark of a store with the set that the store has of its interval, and the contents of its publication.
use Rattle.std.proofs.Common.{◌≡◌, ◌⊎◌, ◌<ℤ◌, ℕ, [], ◌∷◌, ◌++◌, List, true, false, true≢false, length, Option, Some, None, refl, sym, ◌∙◌, ap, append_assoc, subst, ⊎_elim}
use Rattle.std.specs.Prelude.{IfNone, IfSome, IsSomeAnd, option_map}
use Rattle.std.specs.Arc.{arc_value}
use Rattle.std.specs.List.{AllByRecursion, list_any}
use Rattle.std.specs.Option.{option_map_or}
use Rattle.std.proofs.lemmas.List.{append-nil, map-append}
use Rattle.intervals.specs.declared.interval.Interval.{Interval}
use Rattle.late_marks.specs.Mark.{is_late_by}
use Rattle.history_items.specs.Databases.{database_in}
use Rattle.history_items.specs.Fills.{base_in, is_same}
use Rattle.history_items.specs.Late.{IsLate, StandsIn, is_late_in, last_in}
use Rattle.history_items.proofs.Late.{late_by_last}
use Rattle.interval_walks.specs.Turns.{IntervalsRise}
use Rattle.param_segments.specs.Extracted.{IsSetOf}
use Rattle.param_segments.specs.Rows.{SetRow}
use Rattle.store_fills.specs.LastFills.{fillings_in}
use Rattle.store_fills.specs.Sound.{Filling, base_of_filling}
use Rattle.archive_store.specs.CurrentSets.{IsCurrentSet}
use Rattle.archive_store.specs.StoreView.{StoreView}
use Rattle.arch_disk.specs.Disk.{Device}
use Rattle.shared_items.specs.Order.{AllBelow, with_item}
use Rattle.shared_items.proofs.Order.{all_both, all_second, with_behind}
use Rattle.glance_board.specs.declared.contents.Contents.{Contents}
use Rattle.glance_board.specs.declared.contents.PublishedMark.{PublishedMark}
use Rattle.glance_board.specs.Listings.{AreListedMarks, IsMarkOf, intervals_of}
use Rattle.store_shelf.specs.Publications.{AreContentsOf, kept_of, staying_of}

module _ {D : Type 0} (store : StoreView D) (i : Interval) (last : ℕ) (base : Option ℕ) where
  never_late : last_in store.exponent i store.history ≡ Some last → base_in i store.fills ≡ base → is_late_by last base ≡ false → IsLate store.exponent i store.history store.fills → ⊥
  never_late is_last is_base in_time late =
      let by : is_late_in store.exponent i store.history store.fills ≡ true = (late_by_last store.exponent i store.history store.fills).1 late in
      let is : is_late_in store.exponent i store.history store.fills ≡ is_late_by last base =
      ap (λ (o : Option ℕ). option_map_or (λ l. is_late_by l (base_in i store.fills)) o false) is_last ∙ ap (λ (b : Option ℕ). is_late_by last b) is_base in
      true≢false (sym by ∙ is ∙ in_time)

  never_filled : base ≡ base_of_filling (fillings_in store.filled) i → is_late_by last base ≡ false → fillings_in store.filled i ≡ None → ⊥
  never_filled bases in_time none =
      let no_base : base ≡ None = bases ∙ ap (λ (o : Option (Filling (List SetRow))). option_map (λ g. g.base) o) none in
      true≢false (sym (ap (λ (b : Option ℕ). is_late_by last b) no_base) ∙ in_time)

  -- an interval that isn't late was filled, so its set is there
  pub has_set : {T : Type 0} (rows : T → List SetRow) (o : Option T) → last_in store.exponent i store.history ≡ Some last → base_in i store.fills ≡ base → base_in i store.fills ≡ base_of_filling (fillings_in store.filled) i
      → IfSome o (λ set. IsCurrentSet store i (rows set)) → IfNone o (IsLate store.exponent i store.history store.fills ⊎ (fillings_in store.filled i ≡ None))
      → is_late_by last base ≡ false → IsSomeAnd o (λ set. IsSetOf (database_in store.head.mdb store.history) store.exponent i.0 (rows set))
  has_set rows (Some set) is_last is_base bases some none in_time = some.fits
  has_set rows None is_last is_base bases some none in_time = absurd (⊎_elim (never_late is_last is_base in_time) (never_filled (sym is_base ∙ bases) in_time) none)

-- contents with the marks of a store are those of its publication
module _ {D : Type 0} (device : Device D) (store : StoreView D) (contents : Contents) where
  pub contents_with : contents.front ≡ length store.history → contents.fills ≡ length store.fills → contents.exponent ≡ store.exponent → arc_value contents.mdb ≡ database_in store.head.mdb store.history
      → AreListedMarks (staying_of device store) store.history store.fills contents.marks → AreContentsOf device store contents
  contents_with front fills exponent database marks book last = record {
    archive = kept_of store;
    fixed = refl;
    front = front;
    fills = fills;
    exponent = exponent;
    database = database;
    marks = marks;
  }

  -- the same by their intervals
  pub are_contents : (intervals : List Interval) → contents.front ≡ length store.history → contents.fills ≡ length store.fills → contents.exponent ≡ store.exponent → arc_value contents.mdb ≡ database_in store.head.mdb store.history
      → AllByRecursion (IsMarkOf (staying_of device store) store.history store.fills) contents.marks → intervals_of contents.marks ≡ intervals → IntervalsRise intervals
      → ((i : Interval) (position : ℕ) → StandsIn store.exponent i position store.history → list_any (is_same i) intervals ≡ true) → AreContentsOf device store contents
  are_contents intervals front fills exponent database each same rising cover = contents_with front fills exponent database (record {
    each = each;
    rising = subst IntervalsRise (sym same) rising;
    cover = λ i position stands. subst (λ (is : List Interval). list_any (is_same i) is ≡ true) (sym same) (cover i position stands);
  })

-- ---- marks in the order of their intervals

-- a mark behind others whose intervals are before its own
pub put_last : (marks : List PublishedMark) (new : PublishedMark) (later : List Interval) → IntervalsRise (intervals_of marks ++ new.interval ∷ later)
    → with_item (λ (mark : PublishedMark). mark.interval.0) new marks ≡ marks ++ new ∷ []
put_last marks new later rise =
    let number_of = λ (mark : PublishedMark). mark.interval.0 in
    ap (with_item number_of new) (sym (append-nil marks)) ∙ with_behind number_of new marks [] (below marks rise)
  where
    below : (ms : List PublishedMark) → IntervalsRise (intervals_of ms ++ new.interval ∷ later) → AllBelow (λ (mark : PublishedMark). mark.interval.0) new.interval.0 ms
    below [] up = tt
    below (m ∷ ms) up = ((all_second (λ (other : Interval). other.0) (λ (other : Interval). m.interval.0 <ℤ other.0) (intervals_of ms) (new.interval ∷ later) up.0).0, below ms up.1)

-- so each mark that is put comes behind the others
pub more_marks : (P : PublishedMark → Type 0) (was new : List PublishedMark) (one : PublishedMark) (i : Interval) (rest all : List Interval) → one.interval ≡ i → IntervalsRise all → intervals_of was ++ i ∷ rest ≡ all
    → new ≡ with_item (λ (mark : PublishedMark). mark.interval.0) one was → AllByRecursion P was → P one → AllByRecursion P new × (intervals_of new ++ rest ≡ all)
more_marks P was new one i rest all is rise same put each here =
    let ahead : intervals_of was ++ one.interval ∷ rest ≡ all = ap (λ (j : Interval). intervals_of was ++ j ∷ rest) is ∙ same in
    let last : new ≡ was ++ one ∷ [] = put ∙ put_last was one rest (subst IntervalsRise (sym ahead) rise) in (
      subst (AllByRecursion P) (sym last) (all_both (λ (mark : PublishedMark). mark.interval.0) P was (one ∷ []) each (here, tt)),
      ap (λ (l : List PublishedMark). intervals_of l ++ rest) last ∙ ap (λ (l : List Interval). l ++ rest) (map-append (λ (mark : PublishedMark). mark.interval) was (one ∷ []))
          ∙ append_assoc (intervals_of was) (one.interval ∷ []) rest ∙ ahead,
    )
