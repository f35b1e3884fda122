-- A mark stays right over longer lists, where neither a change nor a fill came to its interval.
use Rattle.std.proofs.Common.{◌≡◌, inl, inr, ℕ, ◌<◌, ◌≤◌, le_refl, Bool, true, false, List, [], ◌∷◌, ◌++◌, length, Option, Some, None, refl, sym, ◌∙◌, ap, subst, arith, append_assoc}
use Rattle.std.specs.Prelude.{◌||◌, IfSome, IsSomeAnd, if◌then◌else◌}
use Rattle.std.specs.Arc.{arc_value}
use Rattle.std.specs.List.{list_any}
use Rattle.std.proofs.lemmas.List.{append-nil, take-append-le, take_all}
use Rattle.std.proofs.lemmas.List.Folds.{list_any-append}
use Rattle.std.proofs.lemmas.Option.{slice_get_within}
use Rattle.intervals.specs.declared.interval.Interval.{Interval}
use Rattle.arch_types.specs.declared.row.Row.{Row}
use Rattle.history_items.specs.declared.fills.Fill.{Fill}
use Rattle.history_items.specs.declared.items.Item.{Item}
use Rattle.history_items.specs.Databases.{database_in}
use Rattle.history_items.specs.Fills.{base_in}
use Rattle.history_items.specs.Items.{changes_interval, database_item, is_database, is_row_of_interval, prefix, row_item}
use Rattle.history_items.specs.Late.{ChangesAt, IsLastIn, last_in}
use Rattle.history_items.specs.Places.{last_place}
use Rattle.history_items.proofs.Late.{last_is_greatest}
use Rattle.history_items.proofs.Places.{last_push}
use Rattle.interval_fills.specs.Intervals.{NoneSince, rows_of_interval}
use Rattle.interval_fills.proofs.Intervals.{database_below, rows_below}
use Rattle.mdb_items.specs.Database.{Database}
use Rattle.param_segments.specs.Extracted.{IsSetOf}
use Rattle.store_fills.specs.Filled.{HoldsRows}
use Rattle.glance_board.specs.declared.contents.PublishedMark.{PublishedMark}
use Rattle.glance_board.specs.Listings.{IsMarkOf, StayingFacts, database_of}
use Rattle.store_shelf.specs.Laws.{LeaveInterval}

module _ (e : ℕ) (i : Interval) where
  neither : (row other : Bool) → (row || other) ≡ false → (row || false) ≡ false
  neither true other is = is
  neither false other is = refl

  or_none : (b : Bool) → (b || false) ≡ b
  or_none true = refl
  or_none false = refl

  last_one : (history : List Item) (item : Item) → changes_interval e i item ≡ false → last_in e i (history ++ item ∷ []) ≡ last_in e i history
  last_one history item leaves =
      let rows : list_any (is_row_of_interval e i) (history ++ item ∷ []) ≡ list_any (is_row_of_interval e i) history =
      list_any-append (is_row_of_interval e i) history (item ∷ [])
      ∙ ap (λ (b : Bool). list_any (is_row_of_interval e i) history || b) (neither (is_row_of_interval e i item) (is_database item) leaves)
      ∙ or_none (list_any (is_row_of_interval e i) history) in
      let place : last_place (changes_interval e i) (history ++ item ∷ []) ≡ last_place (changes_interval e i) history =
      last_push (changes_interval e i) history item ∙ ap (λ (b : Bool). if b then Some (length history) else last_place (changes_interval e i) history) leaves in
      ap (λ (b : Bool). if b then last_place (changes_interval e i) (history ++ item ∷ []) else None) rows
      ∙ ap (λ (o : Option ℕ). if list_any (is_row_of_interval e i) history then o else None) place

  -- so its last change stays
  pub last_stays : (history more : List Item) → LeaveInterval e i more → last_in e i (history ++ more) ≡ last_in e i history
  last_stays history [] leave = ap (last_in e i) (append-nil history)
  last_stays history (item ∷ more) leave =
      ap (last_in e i) (sym (append_assoc history (item ∷ []) more)) ∙ last_stays (history ++ item ∷ []) more leave.1 ∙ last_one history item leave.0

  within : (history : List Item) (position : ℕ) → ChangesAt e i position history → position < length history
  within history position (inl row) = slice_get_within history position (row_item row.row) row.there
  within history position (inr database) = slice_get_within history position (database_item database.0) database.1

  none_behind : (history more : List Item) (last : ℕ) → last_in e i history ≡ Some last → LeaveInterval e i more → NoneSince e i (length history) (history ++ more)
  none_behind history more last is leave position changes =
      let before = subst (IsLastIn e i history) is (last_is_greatest e i history) in
      let behind = subst (IsLastIn e i (history ++ more)) (last_stays history more leave ∙ is) (last_is_greatest e i (history ++ more)) in
      let least : last < length history = within history last before.1 in
      let most : position ≤ last = behind.2 position changes in
      omega (arith, least, most)

  whole : (history more : List Item) → prefix (length history) (history ++ more) ≡ history
  whole history more = take-append-le (length history) history more (le_refl (length history)) ∙ take_all (length history) history (le_refl (length history))

  -- and its rows, and the database in force
  pub rows_stay : (history more : List Item) (last : ℕ) → last_in e i history ≡ Some last → LeaveInterval e i more → rows_of_interval e i (history ++ more) ≡ rows_of_interval e i history
  rows_stay history more last is leave = rows_below e i (length history) (history ++ more) (none_behind history more last is leave) ∙ ap (rows_of_interval e i) (whole history more)

  pub database_stays : (first : Database) (history more : List Item) (last : ℕ) → last_in e i history ≡ Some last → LeaveInterval e i more → database_in first (history ++ more) ≡ database_in first history
  database_stays first history more last is leave = database_below first e i (length history) (history ++ more) (none_behind history more last is leave) ∙ ap (database_in first) (whole history more)

-- so a mark, with its set
pub mark_stays : (archive : StayingFacts) (history more : List Item) (fills later : List Fill) (mark : PublishedMark) → IsMarkOf archive history fills mark → LeaveInterval archive.exponent mark.interval more
    → base_in mark.interval later ≡ base_in mark.interval fills → IsMarkOf archive (history ++ more) later mark
mark_stays archive history more fills later mark was leave base =
    let e = archive.exponent in
    let i = mark.interval in
    let database = database_stays e i archive.first history more mark.last was.last leave in
    let rows = rows_stay e i history more mark.last was.last leave in record {
      last = last_stays e i history more leave ∙ was.last;
      base = base ∙ was.base;
      fits = λ in_time. subst (λ (db : Database). IsSomeAnd mark.set (λ set. IsSetOf db e i.0 (arc_value set))) (sym database) (was.fits in_time);
      holds = λ in_time sound. subst (λ (db : Database). IfSome mark.set (λ set. HoldsRows db (arc_value set) (rows_of_interval e i (history ++ more)))) (sym database)
          (subst (λ (rs : List Row). IfSome mark.set (λ set. HoldsRows (database_of archive history) (arc_value set) rs)) (sym rows) (was.holds in_time sound));
    }
