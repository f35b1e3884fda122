-- Marks that are taken from the publication before, and marks that are made anew.
use Rattle.std.proofs.Common.{◌≡◌, ◌⊎◌, inl, inr, ℕ, zero, suc, ◌≤◌, ℤ, ◌<ℤ◌, Bool, true, false, true≢false, List, [], ◌∷◌, ◌++◌, length, drop, Option, Some, None, refl, sym, ◌∙◌, ap, subst, arith}
use Rattle.std.specs.Prelude.{Contains, ◌||◌, ◌&&◌, ◌==◌, slice_get, fold, map, IsSomeAnd, if◌then◌else◌, Result, Ok, Err, OnOk}
use Rattle.std.specs.List.{list_any, flat_map, AllByRecursion}
use Rattle.std.specs.Ordering.{int_eq}
use Rattle.std.proofs.Math.Seq.{drop-append_seam}
use Rattle.std.proofs.lemmas.List.{drop_all}
use Rattle.std.proofs.lemmas.Option.{same_Some}
use Rattle.std.proofs.lemmas.Bool.{or_parts}
use Rattle.std.proofs.lemmas.Bool.Decides.{Decides-int_eq}
use Rattle.std.proofs.lemmas.List.Folds.{list_any-append}
use Rattle.std.proofs.lemmas.List.Sums.{fold-append}
use mathlib.Core.List.{IsPrefix}
use Rattle.intervals.specs.declared.interval.Interval.{Interval}
use Rattle.intervals.specs.Interval.{interval_of}
use Rattle.arch_disk.specs.Disk.{Device}
use Rattle.arch_types.specs.declared.row.Row.{Row}
use Rattle.history_items.specs.declared.fills.Fill.{Fill}
use Rattle.history_items.specs.declared.fills.Fill.TheVariants.{Begun, Done, Freed, Fault, Closed}
use Rattle.history_items.specs.declared.items.Item.{Item}
use Rattle.history_items.specs.declared.items.Item.TheVariants as items
use Rattle.history_items.specs.Fills.{base_after, base_in, is_same}
use Rattle.history_items.specs.Items.{changes_interval, items_of, row_item, row_of_item}
use Rattle.history_items.specs.Late.{HasRow, IsLastIn, StandsIn, last_in}
use Rattle.history_items.proofs.Late.{last_is_greatest}
use Rattle.interval_walks.specs.Turns.{IntervalsRise}
use Rattle.archive_store.specs.declared.batch.Arrival.{Arrival}
use Rattle.archive_store.specs.Batches.{arrival_rows, in_table}
use Rattle.archive_store.specs.StoreView.{StoreView}
use Rattle.shared_items.specs.Order.{AllAbove, RiseBy, with_item}
use Rattle.shared_items.proofs.Order.{with_each, with_has, with_rises}
use Rattle.glance_log.specs.Sightings.{Sighting}
use Rattle.glance_board.specs.declared.contents.Contents.{Contents}
use Rattle.glance_board.specs.declared.contents.PublishedMark.{PublishedMark}
use Rattle.glance_board.specs.Listings.{AreListedMarks, IsListing, IsMarkOf, StayingFacts, intervals_of}
use Rattle.store_shelf.specs.declared.kept.Kept.{Kept}
use Rattle.store_shelf.specs.Laws.{LeaveInterval}
use Rattle.store_shelf.specs.Publications.{BeginsStore, kept_of, staying_by, staying_of}
use Rattle.store_shelf.specs.Renewing.{AreMarksBut, AreStoreMarksBut, CameBy, ComeTo, IsAmong, arrived_intervals, filled_intervals, interval_at}
use Rattle.store_shelf.proofs.Staying.{mark_stays}

-- ---- an interval among others

same_is : (a b : Interval) → is_same a b ≡ true → a ≡ b
same_is a b e = ap (λ (n : ℤ). let i : Interval = record { 0 = n } in i) ((Decides-int_eq a.0 b.0).0 e)

is_itself : (a : Interval) → is_same a a ≡ true
is_itself a = (Decides-int_eq a.0 a.0).1 refl

or_behind : (b c : Bool) → c ≡ true → (b || c) ≡ true
or_behind true c e = refl
or_behind false c e = e

among_or_not : (is : List Interval) (i : Interval) → IsAmong is i ⊎ (list_any (is_same i) is ≡ false)
among_or_not is i = go (list_any (is_same i) is) refl
  where
    go : (b : Bool) → list_any (is_same i) is ≡ b → IsAmong is i ⊎ (list_any (is_same i) is ≡ false)
    go true e = inl e
    go false e = inr e

-- it is the first of these, or among those behind it
among_head : (j i : Interval) (left : List Interval) → IsAmong (i ∷ left) j → (j ≡ i) ⊎ IsAmong left j
among_head j i left among = go (is_same j i) refl among
  where
    go : (b : Bool) → is_same j i ≡ b → (b || list_any (is_same j) left) ≡ true → (j ≡ i) ⊎ IsAmong left j
    go true e any = inl (same_is j i e)
    go false e any = inr any

among_first : (j i : Interval) (left : List Interval) → j ≡ i → IsAmong (i ∷ left) j
among_first j i left same = ap (λ (b : Bool). b || list_any (is_same j) left) (subst (λ (k : Interval). is_same j k ≡ true) same (is_itself j))

-- twice is once
pub among_once : (i : Interval) (left : List Interval) (j : Interval) → IsAmong (i ∷ i ∷ left) j → IsAmong (i ∷ left) j
among_once i left j among = go (among_head j i (i ∷ left) among)
  where
    go : (j ≡ i) ⊎ IsAmong (i ∷ left) j → IsAmong (i ∷ left) j
    go (inl same) = among_first j i left same
    go (inr rest) = rest

among_left : (is js : List Interval) (i : Interval) → IsAmong is i → IsAmong (is ++ js) i
among_left is js i among = list_any-append (is_same i) is js ∙ ap (λ (b : Bool). b || list_any (is_same i) js) among

not_among : (is js : List Interval) (i : Interval) → list_any (is_same i) (is ++ js) ≡ false → (list_any (is_same i) is ≡ false) × (list_any (is_same i) js ≡ false)
not_among is js i none = or_parts (list_any (is_same i) is) (list_any (is_same i) js) (sym (list_any-append (is_same i) is js) ∙ none)

-- ---- marks by their numbers

abbrev number : PublishedMark → ℤ
number mark = mark.interval.0

rise_numbers : (ms : List PublishedMark) → IntervalsRise (intervals_of ms) → RiseBy number ms
rise_numbers [] rise = tt
rise_numbers (m ∷ ms) rise = (above ms rise.0, rise_numbers ms rise.1)
  where
    above : (xs : List PublishedMark) → AllByRecursion (λ (other : Interval). m.interval.0 <ℤ other.0) (intervals_of xs) → AllAbove number m.interval.0 xs
    above [] all = tt
    above (x ∷ xs) all = (all.0, above xs all.1)

rise_intervals : (ms : List PublishedMark) → RiseBy number ms → IntervalsRise (intervals_of ms)
rise_intervals [] rise = tt
rise_intervals (m ∷ ms) rise = (above ms rise.0, rise_intervals ms rise.1)
  where
    above : (xs : List PublishedMark) → AllAbove number m.interval.0 xs → AllByRecursion (λ (other : Interval). m.interval.0 <ℤ other.0) (intervals_of xs)
    above [] all = tt
    above (x ∷ xs) all = (all.0, above xs all.1)

eq_back : (a b : ℤ) → int_eq a b ≡ int_eq b a
eq_back a b = go (int_eq a b) refl (int_eq b a) refl
  where
    go : (s : Bool) → int_eq a b ≡ s → (t : Bool) → int_eq b a ≡ t → s ≡ t
    go true e true f = refl
    go false e false f = refl
    go true e false f = absurd (true≢false (sym ((Decides-int_eq b a).1 (sym ((Decides-int_eq a b).0 e))) ∙ f))
    go false e true f = absurd (true≢false (sym ((Decides-int_eq a b).1 (sym ((Decides-int_eq b a).0 f))) ∙ e))

among_numbers : (j : Interval) (ms : List PublishedMark) → list_any (is_same j) (intervals_of ms) ≡ list_any (λ (m : PublishedMark). int_eq (number m) j.0) ms
among_numbers j [] = refl
among_numbers j (m ∷ ms) =
    ap (λ (b : Bool). b || list_any (is_same j) (intervals_of ms)) (eq_back j.0 m.interval.0) ∙ ap (λ (b : Bool). int_eq m.interval.0 j.0 || b) (among_numbers j ms)

-- the intervals of marks with one more
among_with : (j : Interval) (new : PublishedMark) (ms : List PublishedMark) → list_any (is_same j) (intervals_of (with_item number new ms)) ≡ (is_same j new.interval || list_any (is_same j) (intervals_of ms))
among_with j new ms =
    among_numbers j (with_item number new ms) ∙ with_has number j.0 new ms
    ∙ ap (λ (b : Bool). b || list_any (λ (m : PublishedMark). int_eq (number m) j.0) ms) (eq_back new.interval.0 j.0)
    ∙ ap (λ (b : Bool). is_same j new.interval || b) (sym (among_numbers j ms))

-- ---- an interval that is marked anew

module _ (archive : StayingFacts) (history : List Item) (fills : List Fill) where
  abbrev Right : List Interval → PublishedMark → Type 0
  Right left m = IsAmong left m.interval ⊎ IsMarkOf archive history fills m

  has_row : (m : PublishedMark) → IsMarkOf archive history fills m → HasRow archive.exponent m.interval history
  has_row m is = (subst (IsLastIn archive.exponent m.interval history) is.last (last_is_greatest archive.exponent m.interval history)).0

  -- marks but for some are marks but for more
  pub left_more : (left more : List Interval) (ms : List PublishedMark) → ((j : Interval) → IsAmong left j → IsAmong more j) → AreMarksBut archive history fills left ms → AreMarksBut archive history fills more ms
  left_more left more ms wider but = record { some = but.some; each = each ms but.each; rising = but.rising; cover = λ j position stands. covered j (but.cover j position stands) }
    where
      one : (m : PublishedMark) → Right left m → Right more m
      one m (inl among) = inl (wider m.interval among)
      one m (inr right) = inr right

      each : (xs : List PublishedMark) → AllByRecursion (Right left) xs → AllByRecursion (Right more) xs
      each [] all = tt
      each (x ∷ xs) all = (one x all.0, each xs all.1)

      covered : (j : Interval) → IsAmong left j ⊎ IsAmong (intervals_of ms) j → IsAmong more j ⊎ IsAmong (intervals_of ms) j
      covered j (inl among) = inl (wider j among)
      covered j (inr among) = inr among

  -- where it has rows, its new mark is put to its place
  pub marked : (left : List Interval) (i : Interval) (new : PublishedMark) (ms : List PublishedMark) → new.interval ≡ i → IsMarkOf archive history fills new
      → AreMarksBut archive history fills (i ∷ left) ms → AreMarksBut archive history fills left (with_item number new ms)
  marked left i new ms is right but =
      let rise = rise_numbers ms but.rising in record {
        some = with_each number (λ (m : PublishedMark). HasRow archive.exponent m.interval history) new ms rise (has_row new right) (others ms but.some);
        each = with_each number (Right left) new ms rise (inr right) (rest ms but.each);
        rising = rise_intervals (with_item number new ms) (with_rises number new ms rise);
        cover = λ j position stands. covered j (but.cover j position stands);
      }
    where
      others : (xs : List PublishedMark) → AllByRecursion (λ (m : PublishedMark). HasRow archive.exponent m.interval history) xs
          → AllByRecursion (λ (m : PublishedMark). (number m ≡ number new → ⊥) → HasRow archive.exponent m.interval history) xs
      others [] all = tt
      others (x ∷ xs) all = (λ other. all.0, others xs all.1)

      head : (m : PublishedMark) → (number m ≡ number new → ⊥) → (m.interval ≡ i) ⊎ IsAmong left m.interval → Right left m
      head m other (inl same) = absurd (other (ap (λ (k : Interval). k.0) (same ∙ sym is)))
      head m other (inr among) = inl among

      one : (m : PublishedMark) → Right (i ∷ left) m → (number m ≡ number new → ⊥) → Right left m
      one m (inl among) other = head m other (among_head m.interval i left among)
      one m (inr right) other = inr right

      rest : (xs : List PublishedMark) → AllByRecursion (Right (i ∷ left)) xs → AllByRecursion (λ (m : PublishedMark). (number m ≡ number new → ⊥) → Right left m) xs
      rest [] all = tt
      rest (x ∷ xs) all = (one x all.0, rest xs all.1)

      here : (j : Interval) → (j ≡ i) ⊎ IsAmong left j → IsAmong left j ⊎ IsAmong (intervals_of (with_item number new ms)) j
      here j (inl same) = inr (among_with j new ms ∙ ap (λ (b : Bool). b || list_any (is_same j) (intervals_of ms)) (subst (λ (k : Interval). is_same j k ≡ true) (same ∙ sym is) (is_itself j)))
      here j (inr among) = inl among

      covered : (j : Interval) → IsAmong (i ∷ left) j ⊎ IsAmong (intervals_of ms) j → IsAmong left j ⊎ IsAmong (intervals_of (with_item number new ms)) j
      covered j (inl among) = here j (among_head j i left among)
      covered j (inr among) = inr (among_with j new ms ∙ or_behind (is_same j new.interval) (list_any (is_same j) (intervals_of ms)) among)

  -- where it has none, no mark is of it
  pub unmarked : (left : List Interval) (i : Interval) (ms : List PublishedMark) → last_in archive.exponent i history ≡ None
      → AreMarksBut archive history fills (i ∷ left) ms → AreMarksBut archive history fills left ms
  unmarked left i ms none but = record { some = but.some; each = each ms but.some but.each; rising = but.rising; cover = λ j position stands. covered j (record { position = position; stands = stands }) (but.cover j position stands) }
    where
      no_row : HasRow archive.exponent i history → ⊥
      no_row = subst (IsLastIn archive.exponent i history) none (last_is_greatest archive.exponent i history)

      other : (j : Interval) → HasRow archive.exponent j history → (j ≡ i) ⊎ IsAmong left j → IsAmong left j
      other j row (inl same) = absurd (no_row (subst (λ (k : Interval). HasRow archive.exponent k history) same row))
      other j row (inr among) = among

      one : (m : PublishedMark) → HasRow archive.exponent m.interval history → Right (i ∷ left) m → Right left m
      one m row (inl among) = inl (other m.interval row (among_head m.interval i left among))
      one m row (inr right) = inr right

      each : (xs : List PublishedMark) → AllByRecursion (λ (m : PublishedMark). HasRow archive.exponent m.interval history) xs → AllByRecursion (Right (i ∷ left)) xs → AllByRecursion (Right left) xs
      each [] rows all = tt
      each (x ∷ xs) rows all = (one x rows.0 all.0, each xs rows.1 all.1)

      covered : (j : Interval) → HasRow archive.exponent j history → IsAmong (i ∷ left) j ⊎ IsAmong (intervals_of ms) j → IsAmong left j ⊎ IsAmong (intervals_of ms) j
      covered j row (inl among) = inl (other j row (among_head j i left among))
      covered j row (inr among) = inr among

  -- marks but for none are all
  pub none_left : (ms : List PublishedMark) → AreMarksBut archive history fills [] ms → AreListedMarks archive history fills ms
  none_left ms but = record { each = each ms but.each; rising = but.rising; cover = λ j position stands. covered j (but.cover j position stands) }
    where
      one : (m : PublishedMark) → Right [] m → IsMarkOf archive history fills m
      one m (inl among) = absurd (true≢false (sym among))
      one m (inr right) = right

      each : (xs : List PublishedMark) → AllByRecursion (Right []) xs → AllByRecursion (IsMarkOf archive history fills) xs
      each [] all = tt
      each (x ∷ xs) all = (one x all.0, each xs all.1)

      covered : (j : Interval) → IsAmong [] j ⊎ IsAmong (intervals_of ms) j → list_any (is_same j) (intervals_of ms) ≡ true
      covered j (inl among) = absurd (true≢false (sym among))
      covered j (inr among) = among

-- ---- items at places

still_there : {X : Type 0} (xs more : List X) (k : ℕ) (x : X) → slice_get xs k ≡ Some x → slice_get (xs ++ more) k ≡ Some x
still_there [] more k x there = absurd (cc there)
still_there (y ∷ xs) more zero x there = there
still_there (y ∷ xs) more (suc k) x there = still_there xs more k x there

before_or_behind : {X : Type 0} (xs more : List X) (k : ℕ) (x : X) → slice_get (xs ++ more) k ≡ Some x → (slice_get xs k ≡ Some x) ⊎ ((n : ℕ) × (slice_get more n ≡ Some x))
before_or_behind [] more k x there = inr (k, there)
before_or_behind (y ∷ xs) more zero x there = inl there
before_or_behind (y ∷ xs) more (suc k) x there = before_or_behind xs more k x there

at_place : {X : Type 0} (P : X → Type 0) (xs : List X) (k : ℕ) (x : X) → AllByRecursion P xs → slice_get xs k ≡ Some x → P x
at_place P [] k x all there = absurd (cc there)
at_place P (y ∷ xs) zero x all there = subst P (same_Some y x there) all.0
at_place P (y ∷ xs) (suc k) x all there = at_place P xs k x all.1 there

-- ---- what no row and no fill came to

and_none : (b : Bool) → ((b && false) || false) ≡ false
and_none true = refl
and_none false = refl

leaves_one : (e : ℕ) (came : List Interval) (i : Interval) (item : Item) → list_any (is_same i) came ≡ false
    → IsSomeAnd (row_of_item item) (λ row. IsAmong came (interval_at e row.key.time)) → changes_interval e i item ≡ false
leaves_one e came i (items.Row row) none among = go (int_eq (interval_of e row.key.time) i.0) refl
  where
    go : (b : Bool) → int_eq (interval_of e row.key.time) i.0 ≡ b → (((row.table == 0) && b) || false) ≡ false
    go true same = absurd (true≢false (sym (subst (IsAmong came) (same_is (interval_at e row.key.time) i same) among) ∙ none))
    go false other = and_none (row.table == 0)
leaves_one e came i (items.Mdb database) none among = absurd among

leaves : (e : ℕ) (came : List Interval) (i : Interval) (more : List Item) → list_any (is_same i) came ≡ false → ComeTo e came more → LeaveInterval e i more
leaves e came i [] none all = tt
leaves e came i (item ∷ more) none all = (leaves_one e came i item none all.0, leaves e came i more none all.1)

base_stays : (i : Interval) (later : List Fill) (base : Option ℕ) → list_any (is_same i) (filled_intervals later) ≡ false → fold (base_after i) base later ≡ base
base_stays i [] base none = refl
base_stays i (Begun j b ∷ later) base none = base_stays i later base none
base_stays i (Done j b ∷ later) base none =
    let parts = or_parts (is_same i j) (list_any (is_same i) (filled_intervals later)) none in
    ap (λ (o : Option ℕ). fold (base_after i) o later) (ap (λ (t : Bool). if t then Some b else base) parts.0) ∙ base_stays i later base parts.1
base_stays i (Freed j ∷ later) base none = base_stays i later base none
base_stays i (Closed ∷ later) base none = base_stays i later base none
base_stays i (Fault count wrote addition ∷ later) base none = base_stays i later base none

-- ---- the marks of the publication before, over longer lists

module _ (archive : StayingFacts) (before more : List Item) (fills later : List Fill) (came : List Interval) (rows : ComeTo archive.exponent came more) where
  abbrev Left : List Interval
  Left = came ++ filled_intervals later

  row_stays : (i : Interval) → HasRow archive.exponent i before → HasRow archive.exponent i (before ++ more)
  row_stays i has = record {
    position = has.position;
    stands = record { row = has.stands.row; there = still_there before more has.position (row_item has.stands.row) has.stands.there; table = has.stands.table; time = has.stands.time };
  }

  one_stays : (m : PublishedMark) → IsMarkOf archive before fills m → IsAmong Left m.interval ⊎ IsMarkOf archive (before ++ more) (fills ++ later) m
  one_stays m was = go (among_or_not Left m.interval)
    where
      go : IsAmong Left m.interval ⊎ (list_any (is_same m.interval) Left ≡ false) → IsAmong Left m.interval ⊎ IsMarkOf archive (before ++ more) (fills ++ later) m
      go (inl among) = inl among
      go (inr none) =
          let parts = not_among came (filled_intervals later) m.interval none in
          inr (mark_stays archive before more fills (fills ++ later) m was (leaves archive.exponent came m.interval more parts.0 rows)
          (fold-append (base_after m.interval) None fills later ∙ base_stays m.interval later (base_in m.interval fills) parts.1))

  all_have : (ms : List PublishedMark) → AllByRecursion (IsMarkOf archive before fills) ms → AllByRecursion (λ (m : PublishedMark). HasRow archive.exponent m.interval (before ++ more)) ms
  all_have [] all = tt
  all_have (m ∷ ms) all = (row_stays m.interval (has_row archive before fills m all.0), all_have ms all.1)

  all_stay : (ms : List PublishedMark) → AllByRecursion (IsMarkOf archive before fills) ms
      → AllByRecursion (λ (m : PublishedMark). IsAmong Left m.interval ⊎ IsMarkOf archive (before ++ more) (fills ++ later) m) ms
  all_stay [] all = tt
  all_stay (m ∷ ms) all = (one_stays m all.0, all_stay ms all.1)

  marks_left : (ms : List PublishedMark) → AreListedMarks archive before fills ms → AreMarksBut archive (before ++ more) (fills ++ later) Left ms
  marks_left ms were = record { some = all_have ms were.each; each = all_stay ms were.each; rising = were.rising; cover = λ j position stands. covered j position stands (before_or_behind before more position (row_item stands.row) stands.there) }
    where
      covered : (j : Interval) (position : ℕ) (stands : StandsIn archive.exponent j position (before ++ more))
          → (slice_get before position ≡ Some (row_item stands.row)) ⊎ ((n : ℕ) × (slice_get more n ≡ Some (row_item stands.row))) → IsAmong Left j ⊎ IsAmong (intervals_of ms) j
      covered j position stands (inl there) = inr (were.cover j position (record { row = stands.row; there = there; table = stands.table; time = stands.time }))
      covered j position stands (inr behind) =
          let among = at_place (λ (item : Item). IsSomeAnd (row_of_item item) (λ row. IsAmong came (interval_at archive.exponent row.key.time))) more behind.0 (row_item stands.row) rows behind.1 in
          let is : interval_at archive.exponent stands.row.key.time ≡ j = ap (λ (n : ℤ). let i : Interval = record { 0 = n } in i) stands.time in
          inl (among_left came (filled_intervals later) j (subst (IsAmong came) is among))

-- the same by what begins the lists
pub taken_marks : (archive : StayingFacts) (before history : List Item) (first fills : List Fill) (came : List Interval) (ms : List PublishedMark) → IsPrefix before history → IsPrefix first fills
    → ComeTo archive.exponent came (drop (length before) history) → AreListedMarks archive before first ms → AreMarksBut archive history fills (came ++ filled_intervals (drop (length first) fills)) ms
taken_marks archive before history first fills came ms more later rows were =
    let rows_more : ComeTo archive.exponent came more.0 = subst (ComeTo archive.exponent came) (ap (drop (length before)) (sym more.1) ∙ drop-append_seam before more.0) rows in
    let fills_more : later.0 ≡ drop (length first) fills = sym (drop-append_seam first later.0) ∙ ap (drop (length first)) later.1 in
    subst (λ (h : List Item). AreMarksBut archive h fills (came ++ filled_intervals (drop (length first) fills)) ms) more.1
    (subst (λ (f : List Fill). AreMarksBut archive (before ++ more.0) f (came ++ filled_intervals (drop (length first) fills)) ms) later.1
    (subst (λ (l : List Fill). AreMarksBut archive (before ++ more.0) (first ++ later.0) (came ++ filled_intervals l) ms) fills_more
    (marks_left archive before more.0 first later.0 came rows_more ms were)))

-- those of a listing over the store that it begins
pub listing_left : {D : Type 0} (device : Device D) (store : StoreView D) (made : Sighting (Kept D)) (contents : Contents) (came : List Interval) → IsListing (staying_by device) made contents → BeginsStore made store
    → ComeTo store.exponent came (drop (length made.history) store.history) → AreStoreMarksBut device store (came ++ filled_intervals (drop contents.fills store.fills)) contents.marks
listing_left {D} device store made contents came is begins rows =
    let same : is.archive ≡ kept_of store = cc (is.fixed, begins.fixed) in
    let were : AreListedMarks (staying_of device store) made.history made.fills contents.marks =
    subst (λ (k : Kept D). AreListedMarks (staying_by device k) made.history made.fills contents.marks) same is.marks in
    subst (λ (n : ℕ). AreStoreMarksBut device store (came ++ filled_intervals (drop n store.fills)) contents.marks) (sym is.fills)
    (taken_marks (staying_of device store) made.history store.history made.fills store.fills came contents.marks begins.history begins.fills rows were)

-- ---- what comes by packets

all_append : {X : Type 0} (P : X → Type 0) (xs ys : List X) → AllByRecursion P xs → AllByRecursion P ys → AllByRecursion P (xs ++ ys)
all_append P [] ys left right = right
all_append P (x ∷ xs) ys left right = (left.0, all_append P xs ys left.1 right)

all_wider : {X : Type 0} (P Q : X → Type 0) (xs : List X) → ((x : X) → P x → Q x) → AllByRecursion P xs → AllByRecursion Q xs
all_wider P Q [] wider all = tt
all_wider P Q (x ∷ xs) wider all = (wider x all.0, all_wider P Q xs wider all.1)

-- the rows of packets are of the intervals of these
rows_among : (e : ℕ) (arrivals : List Arrival) → AllByRecursion (λ (row : Row). IsAmong (arrived_intervals e arrivals) (interval_at e row.key.time)) (flat_map arrival_rows arrivals)
rows_among e [] = tt
rows_among e (a ∷ arrivals) =
    let first = interval_at e a.row.key.time in
    let others = arrived_intervals e arrivals in
    all_append (λ (row : Row). IsAmong (first ∷ others) (interval_at e row.key.time)) (arrival_rows a) (flat_map arrival_rows arrivals) (here a.tables)
    (all_wider (λ (row : Row). IsAmong others (interval_at e row.key.time)) (λ (row : Row). IsAmong (first ∷ others) (interval_at e row.key.time)) (flat_map arrival_rows arrivals)
    (λ row among. or_behind (is_same (interval_at e row.key.time) first) (list_any (is_same (interval_at e row.key.time)) others) among) (rows_among e arrivals))
  where
    here : (tables : List ℕ) → AllByRecursion (λ (row : Row). IsAmong (interval_at e a.row.key.time ∷ arrived_intervals e arrivals) (interval_at e row.key.time)) (map (in_table a.row) tables)
    here [] = tt
    here (table ∷ tables) = (among_first (interval_at e a.row.key.time) (interval_at e a.row.key.time) (arrived_intervals e arrivals) refl, here tables)

-- so are some of them
member : {X : Type 0} (P : X → Type 0) (xs : List X) (x : X) → AllByRecursion P xs → Contains xs x → P x
member P [] x all (i, low, is) = absurd (omega (arith, low))
member P (y ∷ ys) x all (zero, low, is) = subst P is all.0
member P (y ∷ ys) x all (suc i, low, is) = member P ys x all.1 (i, omega (arith, low), is)

some_come : (P : Row → Type 0) (rows some : List Row) → AllByRecursion P rows → AllByRecursion (Contains rows) some → AllByRecursion (λ (item : Item). IsSomeAnd (row_of_item item) P) (items_of some)
some_come P rows [] all are = tt
some_come P rows (row ∷ some) all are = (member P rows row all are.0, some_come P rows some all are.1)

module _ {D : Type 0} where
  -- nothing came
  pub came_none : (store : StoreView D) (front : ℕ) (arrivals : List Arrival) → length store.history ≤ front → CameBy store front arrivals
  came_none store front arrivals all =
      subst (ComeTo store.exponent (arrived_intervals store.exponent arrivals)) (sym (drop_all front store.history all)) tt

  pub came_same : (old new : StoreView D) (arrivals : List Arrival) → new.history ≡ old.history → CameBy new (length old.history) arrivals
  came_same old new arrivals same = let lengths = ap length same in let all : length new.history ≤ length old.history = omega (arith, lengths) in came_none new (length old.history) arrivals all

  -- some of the rows of packets came
  pub came_rows : (old new : StoreView D) (arrivals : List Arrival) (some : List Row) → AllByRecursion (Contains (flat_map arrival_rows arrivals)) some → new.history ≡ old.history ++ items_of some → CameBy new (length old.history) arrivals
  came_rows old new arrivals some are after =
      let behind : drop (length old.history) new.history ≡ items_of some = ap (drop (length old.history)) after ∙ drop-append_seam old.history (items_of some) in
      subst (ComeTo new.exponent (arrived_intervals new.exponent arrivals)) (sym behind)
      (some_come (λ (row : Row). IsAmong (arrived_intervals new.exponent arrivals) (interval_at new.exponent row.key.time)) (flat_map arrival_rows arrivals) some (rows_among new.exponent arrivals) are)

-- ---- what is said where a call isn't refused

pub where_ok : {X E P Q : Type 0} (r : Result X E) → OnOk r P → (P → Q) → OnOk r Q
where_ok (Ok x) p f = f p
where_ok (Err e) p f = tt
