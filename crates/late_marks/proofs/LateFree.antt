-- The second index follows the first.
use Rattle.std.proofs.Common.{◌≡◌, ℕ, ◌+◌, ◌<◌, ◌≤◌, List, [], ◌∷◌, length, Bool, true, false, not, cond, Option, Some, None, inl, inr, refl, sym, ◌∙◌, ap, subst, arith}
use Rattle.std.specs.Prelude.{filter, slice_get, option_map, max, OnOk, OnErr, Result, Ok, Err, ◌≤ℤ◌}
use Rattle.std.specs.declared.alloc.AllocError.{AllocError}
use Rattle.std.specs.BTreeMap.Range.{entries_from}
use Rattle.std.specs.Option.{is_some, option_map_or}
use Rattle.std.specs.Ordering.{is_eq, match_ordering}
use Rattle.std.specs.Cmp.{IsTotalOrder}
use Rattle.std.specs.declared.cmp.Ordering.{Ordering}
use Rattle.std.specs.declared.cmp.Ordering.TheVariants.{Less, Equal, Greater}
use Rattle.std.specs.Map.{lookup, remove_entry}
use Rattle.std.specs.BTreeMap.{is_at, insert_entry}
use Rattle.std.proofs.lemmas.Bool.{cases_Bool}
use Rattle.block_map.specs.Index.{Listing}
use Rattle.block_map.specs.Rising.{IsRising, IsBelow}
use Rattle.block_map.proofs.Rising.{below_all}
use Rattle.block_map.proofs.KeyedLists.{lookup-insert_entry_same, lookup-insert_entry_other, lookup-remove_entry_same, lookup-remove_entry_other, rising-insert_entry, rising-remove_entry}
use Rattle.intervals.specs.declared.interval.Interval.{Interval}
use Rattle.late_marks.specs.declared.mark.Mark.{Mark}
use Rattle.late_marks.specs.Mark.{is_late_mark, is_late_free_mark}
use Rattle.intervals.specs.Interval.{interval_cmp}
use Rattle.late_marks.specs.Marks.{Marks, mark_in, mark_of, has_rows, is_late_free, Marked, IsLeast, one_if}
use Rattle.late_marks.specs.MarkIndexes.{found_in, some_if, not_late_free, AreConsistent, IsUpdatedAt}
use Rattle.intervals.proofs.Ranks.{interval_cmp_total}
use Rattle.late_marks.proofs.IntervalOrder.{Found, same_at, apart, least_first, found_from, from_found, IsLeast-same}

-- ---- entries that pass a test of their values

module _ {K V : Type 0} {cmp : K → K → Ordering} (o : IsTotalOrder cmp) (test : V → Bool) where
  abbrev count : List (K × V) → ℕ
  count es = length (filter (λ e. test e.1) es)

  lookup_below : (k : K) (es : List (K × V)) → IsBelow cmp k es → lookup (is_at (cmp k)) es ≡ None
  lookup_below k [] below = refl
  lookup_below k (e ∷ es) below = rw below.0 (lookup_below k es below.1)

  more : (b : Bool) (e : K × V) (es : List (K × V)) → length (cond b (e ∷ es) es) ≡ one_if b + length es
  more true e es = omega arith
  more false e es = omega arith

  -- a new entry
  pub count-added : (k : K) (v : V) (es : List (K × V)) → lookup (is_at (cmp k)) es ≡ None → count (insert_entry cmp es k v) ≡ count es + one_if (test v)
  count-added k v [] none = omega (arith, more (test v) (k, v) [])
  count-added k v (e ∷ es) none = by (cmp k e.0) none (count-added k v es)
    where
      by : (r : Ordering) → cond (is_eq r) (Some e.1) (lookup (is_at (cmp k)) es) ≡ None → (lookup (is_at (cmp k)) es ≡ None → count (insert_entry cmp es k v) ≡ count es + one_if (test v)) →
          count (match_ordering r ((k, v) ∷ e ∷ es) ((e.0, v) ∷ es) (e ∷ insert_entry cmp es k v)) ≡ count (e ∷ es) + one_if (test v)
      by Less none later = omega (arith, more (test v) (k, v) (filter (λ x. test x.1) (e ∷ es)))
      by Equal none later = cc
      by Greater none later = omega (arith, later none, more (test e.1) e (filter (λ x. test x.1) (insert_entry cmp es k v)), more (test e.1) e (filter (λ x. test x.1) es))

  -- an entry with another value
  pub count-changed : (k : K) (v w : V) (es : List (K × V)) → IsRising cmp es → lookup (is_at (cmp k)) es ≡ Some w → count (insert_entry cmp es k v) + one_if (test w) ≡ count es + one_if (test v)
  count-changed k v w [] up found = cc
  count-changed k v w (e ∷ es) up found = by (cmp k e.0) refl found (count-changed k v w es up.1)
    where
      by : (r : Ordering) → cmp k e.0 ≡ r → cond (is_eq r) (Some e.1) (lookup (is_at (cmp k)) es) ≡ Some w → (lookup (is_at (cmp k)) es ≡ Some w → count (insert_entry cmp es k v) + one_if (test w) ≡ count es + one_if (test v)) →
          count (match_ordering r ((k, v) ∷ e ∷ es) ((e.0, v) ∷ es) (e ∷ insert_entry cmp es k v)) + one_if (test w) ≡ count (e ∷ es) + one_if (test v)
      by Less less found later = let none = lookup_below k es (below_all o k e.0 es less up.0) in cc
      by Equal same found later =
          let value : e.1 ≡ w = cc in
          omega (arith, more (test v) (e.0, v) (filter (λ x. test x.1) es), more (test e.1) e (filter (λ x. test x.1) es), ap (λ (x : V). one_if (test x)) value)
      by Greater above found later = omega (arith, later found, more (test e.1) e (filter (λ x. test x.1) (insert_entry cmp es k v)), more (test e.1) e (filter (λ x. test x.1) es))

  -- an entry put at its key
  pub count-put : (k : K) (v : V) (es : List (K × V)) → IsRising cmp es → count (insert_entry cmp es k v) + one_if (option_map_or test (lookup (is_at (cmp k)) es) false) ≡ count es + one_if (test v)
  count-put k v es up = by (lookup (is_at (cmp k)) es) refl
    where
      by : (o : Option V) → lookup (is_at (cmp k)) es ≡ o → count (insert_entry cmp es k v) + one_if (option_map_or test o false) ≡ count es + one_if (test v)
      by None e = omega (arith, count-added k v es e)
      by (Some w) e = count-changed k v w es up e

  -- some entry passes
  pub count-some : (k : K) (w : V) (es : List (K × V)) → lookup (is_at (cmp k)) es ≡ Some w → test w ≡ true → 0 < count es
  count-some k w [] found passed = cc
  count-some k w (e ∷ es) found passed = by (is_at (cmp k) e.0) found (count-some k w es)
    where
      by : (b : Bool) → cond b (Some e.1) (lookup (is_at (cmp k)) es) ≡ Some w → (lookup (is_at (cmp k)) es ≡ Some w → test w ≡ true → 0 < count es) → 0 < count (e ∷ es)
      by true found later =
          let value : w ≡ e.1 = cc in
          let yes : test e.1 ≡ true = rw value at passed in
          omega (arith, more (test e.1) e (filter (λ x. test x.1) es), ap one_if yes)
      by false found later = omega (arith, later found passed, more (test e.1) e (filter (λ x. test x.1) es))

-- ---- one interval comes to those that are late and free, or leaves them

pub updated_at-insert : (old new : Listing Interval (Unit {0})) (interval : Interval) → IsRising interval_cmp old.entries → new.entries ≡ insert_entry interval_cmp old.entries interval tt → new.room + 1 ≡ old.room → IsUpdatedAt old new interval false true
updated_at-insert old new interval up e room = record {
  set = rw e (lookup-insert_entry_same interval_cmp_total interval tt old.entries);
  others = λ other ne. rw e (lookup-insert_entry_other interval_cmp_total other interval tt old.entries ne);
  rising = rw e (rising-insert_entry interval_cmp_total interval tt old.entries up);
  room = omega (arith, room);
}

pub updated_at-remove : (old new : Listing Interval (Unit {0})) (interval : Interval) → IsRising interval_cmp old.entries → new.entries ≡ remove_entry (is_at (interval_cmp interval)) old.entries → new.room ≡ old.room + 1 → IsUpdatedAt old new interval true false
updated_at-remove old new interval up e room = record {
  set = rw e (lookup-remove_entry_same interval_cmp_total interval old.entries up);
  others = λ other ne. rw e (lookup-remove_entry_other interval_cmp_total other interval old.entries up ne);
  rising = rw e (rising-remove_entry (is_at (interval_cmp interval)) interval_cmp old.entries up);
  room = omega (arith, room);
}

pub updated_at-same : (old : Listing Interval (Unit {0})) (interval : Interval) (was is : Bool) → IsRising interval_cmp old.entries → was ≡ is → found_in old.entries interval ≡ some_if was → IsUpdatedAt old old interval was is
updated_at-same old interval was is up same found = record {
  set = rw same at found;
  others = λ other ne. refl;
  rising = up;
  room = omega (arith, ap one_if same);
}

-- ---- the indexes after a change

places : (b : Bool) → one_if b + one_if (not b) ≡ 1
places true = refl
places false = refl

exactly-after : (marks : List (Interval × Mark)) (old new : Listing Interval (Unit {0})) (interval : Interval) (mark : Mark) (was : Bool) → ((i : Interval) → found_in old.entries i ≡ some_if (option_map_or is_late_free_mark (mark_in marks i) false)) → IsUpdatedAt old new interval was (is_late_free_mark mark) →
    (i : Interval) → found_in new.entries i ≡ some_if (option_map_or is_late_free_mark (mark_in (insert_entry interval_cmp marks interval mark) i) false)
exactly-after marks old new interval mark was exactly updated_at i =
    elim (cases_Bool (is_at (interval_cmp interval) i)) [
      | inl here ↦
          let same : interval ≡ i = same_at interval i here in
          let now : mark_in (insert_entry interval_cmp marks interval mark) interval ≡ Some mark = lookup-insert_entry_same interval_cmp_total interval mark marks in
          subst (λ (j : Interval). found_in new.entries j ≡ some_if (option_map_or is_late_free_mark (mark_in (insert_entry interval_cmp marks interval mark) j) false)) same
          (updated_at.set ∙ ap (λ (m : Option Mark). some_if (option_map_or is_late_free_mark m false)) (sym now))
      | inr elsewhere ↦
          let now : mark_in (insert_entry interval_cmp marks interval mark) i ≡ mark_in marks i = lookup-insert_entry_other interval_cmp_total i interval mark marks elsewhere in
          updated_at.others i elsewhere ∙ exactly i ∙ ap (λ (m : Option Mark). some_if (option_map_or is_late_free_mark m false)) (sym now)
    ]

pub AreConsistent-changed : (marks new_marks : Listing Interval Mark) (late_free new_late_free : Listing Interval (Unit {0})) (interval : Interval) (old mark : Mark) → AreConsistent marks late_free → mark_in marks.entries interval ≡ Some old → new_marks.entries ≡ insert_entry interval_cmp marks.entries interval mark → new_marks.room ≡ marks.room → IsUpdatedAt late_free new_late_free interval (is_late_free_mark old) (is_late_free_mark mark) → AreConsistent new_marks new_late_free
AreConsistent-changed marks new_marks late_free new_late_free interval old mark indexes found e room updated_at =
    let count = count-changed interval_cmp_total (λ (m : Mark). not (is_late_free_mark m)) interval mark old marks.entries indexes.rising found in
    record {
      rising = rw e (rising-insert_entry interval_cmp_total interval mark marks.entries indexes.rising);
      late_free_rising = updated_at.rising;
      exactly = rw e (exactly-after marks.entries late_free new_late_free interval mark (is_late_free_mark old) indexes.exactly updated_at);
      has_room = rw (e, room) (omega (arith, count, places (is_late_free_mark old), places (is_late_free_mark mark), updated_at.room, indexes.has_room));
    }

pub AreConsistent-added : (marks new_marks : Listing Interval Mark) (late_free new_late_free : Listing Interval (Unit {0})) (interval : Interval) (mark : Mark) → AreConsistent marks late_free → mark_in marks.entries interval ≡ None → new_marks.entries ≡ insert_entry interval_cmp marks.entries interval mark → new_marks.room + 1 ≡ marks.room → IsUpdatedAt late_free new_late_free interval false (is_late_free_mark mark) → AreConsistent new_marks new_late_free
AreConsistent-added marks new_marks late_free new_late_free interval mark indexes none e room updated_at =
    let count = count-added interval_cmp_total (λ (m : Mark). not (is_late_free_mark m)) interval mark marks.entries none in
    record {
      rising = rw e (rising-insert_entry interval_cmp_total interval mark marks.entries indexes.rising);
      late_free_rising = updated_at.rising;
      exactly = rw e (exactly-after marks.entries late_free new_late_free interval mark false indexes.exactly updated_at);
      has_room = rw e (omega (arith, count, places (is_late_free_mark mark), updated_at.room, indexes.has_room, room));
    }

-- a mark that isn't late and free has a place kept for it
pub room-kept : (marks : Listing Interval Mark) (late_free : Listing Interval (Unit {0})) (interval : Interval) (old : Mark) → AreConsistent marks late_free → mark_in marks.entries interval ≡ Some old → is_late_free_mark old ≡ false → 0 < late_free.room
room-kept marks late_free interval old indexes found rests =
    let some = count-some interval_cmp_total (λ (m : Mark). not (is_late_free_mark m)) interval old marks.entries found (ap not rests) in
    omega (arith, some, indexes.has_room)

not_late_free_few : (marks : List (Interval × Mark)) → not_late_free marks ≤ length marks
not_late_free_few [] = omega arith
not_late_free_few (e ∷ marks) = omega (arith, more interval_cmp_total (λ (m : Mark). not (is_late_free_mark m)) (not (is_late_free_mark e.1)) e (filter (λ x. not (is_late_free_mark x.1)) marks), not_late_free_few marks, places (is_late_free_mark e.1))

-- what became of an index whose room was to be made larger
reserved : (old new : Listing Interval Mark) (n : ℕ) (r : Result (Unit {0}) AllocError) → OnOk r (new ≡ record { entries = old.entries; room = max old.room n }) → OnErr r (new ≡ old) → (new.entries ≡ old.entries) × (new.room ≤ max old.room n)
reserved old new n (Ok x) ok err = (ap (λ (l : Listing Interval Mark). l.entries) ok, omega (arith, ap (λ (l : Listing Interval Mark). l.room) ok))
reserved old new n (Err e) ok err = (ap (λ (l : Listing Interval Mark). l.entries) err, omega (arith, ap (λ (l : Listing Interval Mark). l.room) err))

pub AreConsistent-reserved : (marks new_marks : Listing Interval Mark) (late_free new_late_free : Listing Interval (Unit {0})) (n : ℕ) (r : Result (Unit {0}) AllocError) → AreConsistent marks late_free → new_late_free ≡ record { entries = late_free.entries; room = max late_free.room (length marks.entries + n) } → OnOk r (new_marks ≡ record { entries = marks.entries; room = max marks.room n }) → OnErr r (new_marks ≡ marks) → AreConsistent new_marks new_late_free
AreConsistent-reserved marks new_marks late_free new_late_free n r indexes made ok err =
    let is = reserved marks new_marks n r ok err in
    let entries = ap (λ (l : Listing Interval (Unit {0})). l.entries) made in
    record {
      rising = rw is.0 indexes.rising;
      late_free_rising = rw entries indexes.late_free_rising;
      exactly = rw (is.0, entries) indexes.exactly;
      has_room = rw is.0 (omega (arith, is.1, ap (λ (l : Listing Interval (Unit {0})). l.room) made, not_late_free_few marks.entries, indexes.has_room));
    }

-- ---- what contracts see

none_from : {X : Type 0} (o : Option X) → is_some o ≡ false → o ≡ None
none_from None none = refl
none_from (Some x) none = cc

pub fresh_from : (m : Marks) (marks : List (Interval × Mark)) (interval : Interval) → m.marks ≡ marks → has_rows m interval ≡ false → mark_in marks interval ≡ None
fresh_from m marks interval same none = rw (← same) (none_from (mark_of m interval) none)

pub Marked-insert : (old new : Marks) (marks : List (Interval × Mark)) (interval : Interval) (mark : Mark) → IsRising interval_cmp marks → old.marks ≡ marks → new.marks ≡ insert_entry interval_cmp marks interval mark → Marked old new interval mark
Marked-insert old new marks interval mark up before after =
    let set = lookup-insert_entry_same interval_cmp_total interval mark marks in
    record {
      set = rw after set;
      others = λ other ne. rw (after, before) (lookup-insert_entry_other interval_cmp_total other interval mark marks (apart interval other ne));
      late = rw (after, before, set) (count-put interval_cmp_total is_late_mark interval mark marks up);
    }

is_some-some_if : (b : Bool) → is_some (some_if b) ≡ b
is_some-some_if true = refl
is_some-some_if false = refl

-- the first of those that are late and free
pub first_late_free : (m : Marks) (marks : Listing Interval Mark) (late_free : Listing Interval (Unit {0})) (o : Option (Interval × Unit {0})) → AreConsistent marks late_free → marks.entries ≡ m.marks → o ≡ slice_get late_free.entries 0 → IsLeast (λ i. is_late_free m i ≡ true) (option_map (λ e. e.0) o)
first_late_free m marks late_free o indexes same first =
    IsLeast-same (Found late_free.entries) (λ i. is_late_free m i ≡ true) (option_map (λ e. e.0) o)
    (λ i found. rw (← same) (sym (ap is_some (indexes.exactly i) ∙ is_some-some_if _) ∙ found))
    (λ i free. ap is_some (indexes.exactly i) ∙ is_some-some_if _ ∙ (rw (← same) at free))
    (least_first late_free.entries indexes.late_free_rising o first)

-- the first from an interval on
pub next_from : (m : Marks) (marks : List (Interval × Mark)) (from : Interval) (o : Option (Interval × Mark)) → IsRising interval_cmp (entries_from (interval_cmp from) marks) → marks ≡ m.marks → o ≡ slice_get (entries_from (interval_cmp from) marks) 0 → IsLeast (λ i. (from.0 ≤ℤ i.0) × (has_rows m i ≡ true)) (option_map (λ e. e.0) o)
next_from m marks from o up same first =
    IsLeast-same (Found (entries_from (interval_cmp from) marks)) (λ i. (from.0 ≤ℤ i.0) × (has_rows m i ≡ true)) (option_map (λ e. e.0) o)
    (λ i found. let is = found_from from i marks found in (is.0, rw (← same) is.1))
    (λ i has. from_found from i marks has.0 (rw (← same) at has.1))
    (least_first (entries_from (interval_cmp from) marks) up o first)
