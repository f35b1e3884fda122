-- Marks that are those of a history and a fill list.
use Rattle.std.proofs.Common.{◌≡◌, inl, inr, ℕ, ◌+◌, ◌<◌, ◌≤◌, List, [], ◌∷◌, ◌++◌, length, take, drop, Bool, true, false, true≢false, eqb, Option, Some, None, refl, sym, ap, subst, ◌∙◌, arith}
use Rattle.std.specs.Prelude.{◌≢◌, ◌&&◌, ◌↔◌, ◌≤ℤ◌, max, IfSome, IsSome}
use Rattle.std.specs.Option.{is_some, option_map_or, option_map}
use Rattle.std.specs.Ordering.{int_eq}
use Rattle.std.proofs.lemmas.Bool.{and_parts}
use Rattle.std.proofs.lemmas.Bool.Decides.{Decides-int_eq, nat_tests}
use Rattle.std.proofs.lemmas.List.{length-map}
use Rattle.std.proofs.lemmas.Option.{slice_get_within}
use Rattle.std.proofs.Math.Seq.{take-append_seam}
use Rattle.intervals.specs.declared.interval.Interval.{Interval}
use Rattle.arch_types.specs.declared.row.Row.{Row}
use Rattle.intervals.specs.Interval.{interval_of}
use Rattle.history_items.specs.declared.fills.Addition.{Addition}
use Rattle.history_items.specs.declared.fills.Fill.{Fill}
use Rattle.history_items.specs.declared.fills.Fill.TheVariants.{Begun, Done, Freed, Fault, Closed}
use Rattle.history_items.specs.declared.items.Item.{Item}
use Rattle.history_items.specs.Items.{database_item, is_of_interval, items_of, row_item}
use Rattle.history_items.specs.Fills.{is_same, base_in, base_after, in_flight, flight_after, reopened, cleared as fill_cleared}
use Rattle.history_items.specs.Late.{ChangesAt, IsLate, IsLastIn, last_in, is_late_in}
use Rattle.history_items.proofs.FillLists.{base_after_item, flight_after_item, base_in-reopened, in_flight-reopened}
use Rattle.history_items.proofs.Late.{last_is_greatest, late_by_last}
use Rattle.fill_tracker.specs.FillTracker.{AreMarksOf, AreOfOneInterval, mark_by}
use Rattle.fill_tracker.specs.Placed.{AreMarksOfPlaced, last_placed}
use Rattle.fill_tracker.proofs.Runs.{last_behind, like_first}
use Rattle.interval_fills.specs.Steps.{IsLateFree, IsNextToFill, state_of}
use Rattle.interval_fills.proofs.Freed.{is_itself}
use Rattle.interval_fills.proofs.Steps.{same_interval}
use Rattle.late_marks.specs.declared.mark.Mark.{Mark}
use Rattle.late_marks.specs.Mark.{is_late_by, is_late_mark, is_late_free_mark, touched}
use Rattle.late_marks.specs.Marks.{Marks, mark_of, has_rows, last_position, is_late_free, Marked, IsLeast}

-- ---- lateness by a mark

abbrev mark : ℕ → Option ℕ → Bool → Mark
mark last base taken = record { last = last; base = base; taken = taken }

-- whether an interval is late, by its last row and the base of its last fill
abbrev late_at : Option ℕ → Option ℕ → Bool
late_at last base = option_map_or (λ l. is_late_by l base) last false

free_is : (o b f : Option ℕ) → option_map_or is_late_free_mark (mark_by o b (is_some f)) false ≡ true → (late_at o b ≡ true) × (f ≡ None)
free_is None b f e = absurd cc
free_is (Some last) b None e = ((and_parts (is_late_by last b) true e).0, refl)
free_is (Some last) b (Some x) e = let p = and_parts (is_late_by last b) false e in absurd (true≢false (sym p.1))

and_true : (a : Bool) → a ≡ true → (a && true) ≡ true
and_true a e = rw e refl

free_back : (o b f : Option ℕ) → late_at o b ≡ true → f ≡ None → option_map_or is_late_free_mark (mark_by o b (is_some f)) false ≡ true
free_back None b f late free = absurd cc
free_back (Some last) b None late free = and_true (is_late_by last b) late
free_back (Some last) b (Some x) late free = absurd cc

late_of_mark : (o b : Option ℕ) (taken : Bool) → option_map_or is_late_mark (mark_by o b taken) false ≡ late_at o b
late_of_mark None b taken = refl
late_of_mark (Some last) b taken = refl

last_of_mark : (o b : Option ℕ) (taken : Bool) → option_map (λ (m : Mark). m.last) (mark_by o b taken) ≡ o
last_of_mark None b taken = refl
last_of_mark (Some last) b taken = refl

row_of_mark : (o b : Option ℕ) (taken : Bool) → is_some (mark_by o b taken) ≡ true → IsSome o
row_of_mark None b taken has = absurd cc
row_of_mark (Some last) b taken has = refl

mark_of_row : (o b : Option ℕ) (taken : Bool) → IsSome o → is_some (mark_by o b taken) ≡ true
mark_of_row None b taken has = absurd cc
mark_of_row (Some last) b taken has = refl

pub mapped_is_some : (m : Option Mark) → is_some (option_map (λ (k : Mark). k.last) m) ≡ is_some m
mapped_is_some None = refl
mapped_is_some (Some m) = refl

-- ---- the last change

last_below : (e : ℕ) (i : Interval) (history : List Item) (last : ℕ) → last_in e i history ≡ Some last → last < length history
last_below e i history last is =
    let p = subst (IsLastIn e i history) is (last_is_greatest e i history) in
    within p.1
  where
    within : ChangesAt e i last history → last < length history
    within (inl s) = slice_get_within history last (row_item s.row) s.there
    within (inr d) = slice_get_within history last (database_item d.0) d.1

module _ (e : ℕ) (history : List Item) (fills : List Fill) (marks : Marks) (are : AreMarksOf e history fills marks) where
  late_free : (i : Interval) → is_late_free marks i ≡ true → IsLateFree e i (state_of history fills)
  late_free i is =
      let p = free_is (last_in e i history) (base_in i fills) (in_flight i fills) (ap (λ (m : Option Mark). option_map_or is_late_free_mark m false) (sym (are.each i)) ∙ is) in
      record { late = (late_by_last e i history fills).0 p.0; free = p.1 }

  free_late : (i : Interval) → IsLateFree e i (state_of history fills) → is_late_free marks i ≡ true
  free_late i f =
      ap (λ (m : Option Mark). option_map_or is_late_free_mark m false) (are.each i)
      ∙ free_back (last_in e i history) (base_in i fills) (in_flight i fills) ((late_by_last e i history fills).1 f.late) f.free

  pub next_is : (result : Option Interval) → IsLeast (λ i. is_late_free marks i ≡ true) result → IsNextToFill e (state_of history fills) result
  next_is None none = λ i late free. none i (free_late i (record { late = late; free = free }))
  next_is (Some i) least = (late_free i least.0, λ j f. least.1 j (free_late j f))

  is_late_is : (i : Interval) → option_map_or is_late_mark (mark_of marks i) false ≡ is_late_in e i history fills
  is_late_is i = ap (λ (m : Option Mark). option_map_or is_late_mark m false) (are.each i) ∙ late_of_mark (last_in e i history) (base_in i fills) (is_some (in_flight i fills))

  pub late_true : (i : Interval) (r : Bool) → r ≡ option_map_or is_late_mark (mark_of marks i) false → (r ≡ true) ↔ IsLate e i history fills
  late_true i r is = (
    λ t. (late_by_last e i history fills).0 (sym (is_late_is i) ∙ sym is ∙ t),
    λ late. is ∙ is_late_is i ∙ (late_by_last e i history fills).1 late,
  )

  pub last_is : (i : Interval) → last_position marks i ≡ last_in e i history
  last_is i = ap (option_map (λ (m : Mark). m.last)) (are.each i) ∙ last_of_mark (last_in e i history) (base_in i fills) (is_some (in_flight i fills))

  marked_has_row : (i : Interval) → has_rows marks i ≡ true → IsSome (last_in e i history)
  marked_has_row i has = row_of_mark (last_in e i history) (base_in i fills) (is_some (in_flight i fills)) (sym (ap is_some (are.each i)) ∙ has)

  row_has_mark : (i : Interval) → IsSome (last_in e i history) → has_rows marks i ≡ true
  row_has_mark i has = ap is_some (are.each i) ∙ mark_of_row (last_in e i history) (base_in i fills) (is_some (in_flight i fills)) has

  pub touched_is : (from : Interval) (result : Option Interval) → IsLeast (λ i. (from.0 ≤ℤ i.0) × (has_rows marks i ≡ true)) result → IsLeast (λ i. (from.0 ≤ℤ i.0) × IsSome (last_in e i history)) result
  touched_is from None none = λ i p. none i (p.0, row_has_mark i p.1)
  touched_is from (Some i) least = ((least.0.0, marked_has_row i least.0.1), λ j p. least.1 j (p.0, row_has_mark j p.1))

  has_mark : (i : Interval) (last : ℕ) → last_in e i history ≡ Some last → mark_of marks i ≡ Some (mark last (base_in i fills) (is_some (in_flight i fills)))
  has_mark i last is = are.each i ∙ ap (λ (o : Option ℕ). mark_by o (base_in i fills) (is_some (in_flight i fills))) is

-- ---- one item more

-- one interval has this mark from now on, and all others the mark that they had
pub record Sets (old new : Marks) (interval : Interval) (now : Mark) : Type 0 where
  pub set : mark_of new interval ≡ Some now
  pub others : (other : Interval) → other ≢ interval → mark_of new other ≡ mark_of old other

sets : (old new : Marks) (i : Interval) (now : Mark) → Marked old new i now → Sets old new i now
sets old new i now marked = record { set = marked.set; others = marked.others }

if_some : {A : Type 0} (P : A → Type 0) (o : Option A) (x : A) → o ≡ Some x → IfSome o P → P x
if_some P o x is p = subst (λ (k : Option _). IfSome k P) is p

-- an item changes nothing of other intervals
abbrev pub LeavesOthers : Interval → Fill → Type 0
LeavesOthers i item = (j : Interval) → is_same j i ≡ false → (b : Option ℕ) → (base_after j b item ≡ b) × (flight_after j b item ≡ b)

apart : (j i : Interval) → is_same j i ≡ false → j ≢ i
apart j i is same = true≢false (sym (subst (λ (k : Interval). is_same j k ≡ true) same (is_itself j)) ∙ is)

-- the marks are those of intervals whose last changes are these, and of these fills
pub record AreMarksBy (lasts : Interval → Option ℕ) (fills : List Fill) (marks : Marks) : Type 0 where
  pub each : (i : Interval) → mark_of marks i ≡ mark_by (lasts i) (base_in i fills) (is_some (in_flight i fills))
  pub known : (i : Interval) → lasts i ≡ None → (base_in i fills ≡ None) × (in_flight i fills ≡ None)

module _ (lasts : Interval → Option ℕ) (fills : List Fill) (marks : Marks) (are : AreMarksBy lasts fills marks) where
  -- an interval that has a mark has a row
  last_by : (i : Interval) → has_rows marks i ≡ true → (last : ℕ) × (lasts i ≡ Some last)
  last_by i has = go (lasts i) refl
    where
      go : (o : Option ℕ) → lasts i ≡ o → (last : ℕ) × (o ≡ Some last)
      go None is = absurd (true≢false (sym (sym (ap is_some (are.each i ∙ ap (λ (o : Option ℕ). mark_by o (base_in i fills) (is_some (in_flight i fills))) is)) ∙ has)))
      go (Some last) is = (last, refl)

  its_mark : (i : Interval) (last : ℕ) → lasts i ≡ Some last → mark_of marks i ≡ Some (mark last (base_in i fills) (is_some (in_flight i fills)))
  its_mark i last is = are.each i ∙ ap (λ (o : Option ℕ). mark_by o (base_in i fills) (is_some (in_flight i fills))) is

-- the marks after an item that changes the mark of its interval as the list then tells it
marked_by : (lasts : Interval → Option ℕ) (fills : List Fill) (old new : Marks) (item : Fill) (i : Interval) (last : ℕ) → AreMarksBy lasts fills old → lasts i ≡ Some last
    → Sets old new i (mark last (base_after i (base_in i fills) item) (is_some (flight_after i (in_flight i fills) item)))
    → LeavesOthers i item → AreMarksBy lasts (fills ++ item ∷ []) new
marked_by lasts fills old new item i last are is marked others = record { each = λ j. at j (is_same j i) refl; known = λ j none. known_at j (is_same j i) refl none }
  where
    here : mark_of new i ≡ mark_by (lasts i) (base_in i (fills ++ item ∷ [])) (is_some (in_flight i (fills ++ item ∷ [])))
    here = rw (base_after_item i fills item, flight_after_item i fills item, is) marked.set

    at : (j : Interval) (b : Bool) → is_same j i ≡ b → mark_of new j ≡ mark_by (lasts j) (base_in j (fills ++ item ∷ [])) (is_some (in_flight j (fills ++ item ∷ [])))
    at j true same = subst (λ (k : Interval). mark_of new k ≡ mark_by (lasts k) (base_in k (fills ++ item ∷ [])) (is_some (in_flight k (fills ++ item ∷ [])))) (sym (same_interval j i same)) here
    at j false same =
        rw (base_after_item j fills item, flight_after_item j fills item, (others j same (base_in j fills)).0, (others j same (in_flight j fills)).1)
        (marked.others j (apart j i same) ∙ are.each j)

    known_at : (j : Interval) (b : Bool) → is_same j i ≡ b → lasts j ≡ None → (base_in j (fills ++ item ∷ []) ≡ None) × (in_flight j (fills ++ item ∷ []) ≡ None)
    known_at j true same none = absurd (let no : Some last ≡ None = sym is ∙ subst (λ (k : Interval). lasts k ≡ None) (same_interval j i same) none in cc)
    known_at j false same none = (
      base_after_item j fills item ∙ (others j same (base_in j fills)).0 ∙ (are.known j none).0,
      flight_after_item j fills item ∙ (others j same (in_flight j fills)).1 ∙ (are.known j none).1,
    )

-- those of a history
marked_item : (e : ℕ) (history : List Item) (fills : List Fill) (old new : Marks) (item : Fill) (i : Interval) (last : ℕ) → AreMarksOf e history fills old → last_in e i history ≡ Some last
    → Sets old new i (mark last (base_after i (base_in i fills) item) (is_some (flight_after i (in_flight i fills) item)))
    → LeavesOthers i item → AreMarksOf e history (fills ++ item ∷ []) new
marked_item e history fills old new item i last are is marked others =
    let now = marked_by (λ k. last_in e k history) fills old new item i last (record { each = are.each; known = are.known }) is marked others in
    record { each = now.each; known = now.known }

-- what an item says of its own interval, and of others
others_begun : (i : Interval) (base : ℕ) → LeavesOthers i (Begun i base)
others_begun i base j same b = (refl, rw same refl)

others_done : (i : Interval) (base : ℕ) → LeavesOthers i (Done i base)
others_done i base j same b = (rw same refl, rw same refl)

others_freed : (i : Interval) → LeavesOthers i (Freed i)
others_freed i j same b = (refl, rw same refl)

pub begun : (e : ℕ) (history : List Item) (fills : List Fill) (old new : Marks) (i : Interval) (base : ℕ) → AreMarksOf e history fills old → is_late_free old i ≡ true
    → IfSome (mark_of old i) (λ m. Marked old new i (record m { taken = true })) → AreMarksOf e history (fills ++ Begun i base ∷ []) new
begun e history fills old new i base are free marked =
    let last = late_last (last_in e i history) refl (free_is (last_in e i history) (base_in i fills) (in_flight i fills) (ap (λ (m : Option Mark). option_map_or is_late_free_mark m false) (sym (are.each i)) ∙ free)).0 in
    let same = is_itself i in
    let one = if_some (λ m. Marked old new i (record m { taken = true })) (mark_of old i) _ (has_mark e history fills old are i last.0 last.1) marked in
    marked_item e history fills old new (Begun i base) i last.0 are last.1
    (rw same (record { set = one.set; others = one.others }))
    (others_begun i base)
  where
    late_last : (o : Option ℕ) → last_in e i history ≡ o → late_at o (base_in i fills) ≡ true → (last : ℕ) × (last_in e i history ≡ Some last)
    late_last None is late = absurd cc
    late_last (Some last) is late = (last, is)

pub finished_by : (lasts : Interval → Option ℕ) (fills : List Fill) (old mid new : Marks) (i : Interval) (base : ℕ) → AreMarksBy lasts fills old → has_rows old i ≡ true
    → IfSome (mark_of old i) (λ m. Marked old mid i (record m { base = Some base })) → IfSome (mark_of mid i) (λ m. Marked mid new i (record m { taken = false })) → AreMarksBy lasts (fills ++ Done i base ∷ []) new
finished_by lasts fills old mid new i base are rows first second =
    let last = last_by lasts fills old are i rows in
    let same = is_itself i in
    let one = if_some (λ m. Marked old mid i (record m { base = Some base })) (mark_of old i) _ (its_mark lasts fills old are i last.0 last.1) first in
    let two = if_some (λ m. Marked mid new i (record m { taken = false })) (mark_of mid i) _ one.set second in
    marked_by lasts fills old new (Done i base) i last.0 are last.1
    (rw same (record { set = two.set; others = λ j ne. two.others j ne ∙ one.others j ne }))
    (others_done i base)

pub finished : (e : ℕ) (history : List Item) (fills : List Fill) (old mid new : Marks) (i : Interval) (base : ℕ) → AreMarksOf e history fills old → has_rows old i ≡ true
    → IfSome (mark_of old i) (λ m. Marked old mid i (record m { base = Some base })) → IfSome (mark_of mid i) (λ m. Marked mid new i (record m { taken = false })) → AreMarksOf e history (fills ++ Done i base ∷ []) new
finished e history fills old mid new i base are rows first second =
    let now = finished_by (λ k. last_in e k history) fills old mid new i base (record { each = are.each; known = are.known }) rows first second in
    record { each = now.each; known = now.known }

pub finished_placed : (e : ℕ) (placed : List (ℕ × Row)) (fills : List Fill) (old mid new : Marks) (i : Interval) (base : ℕ) → AreMarksOfPlaced e placed fills old → has_rows old i ≡ true
    → IfSome (mark_of old i) (λ m. Marked old mid i (record m { base = Some base })) → IfSome (mark_of mid i) (λ m. Marked mid new i (record m { taken = false })) → AreMarksOfPlaced e placed (fills ++ Done i base ∷ []) new
finished_placed e placed fills old mid new i base are rows first second =
    let now = finished_by (λ k. last_placed e k placed) fills old mid new i base (record { each = are.each; known = are.known }) rows first second in
    record { each = now.each; known = now.known }

pub let_go : (e : ℕ) (history : List Item) (fills : List Fill) (old new : Marks) (i : Interval) → AreMarksOf e history fills old → is_some (in_flight i fills) ≡ true
    → IfSome (mark_of old i) (λ m. Marked old new i (record m { taken = false })) → AreMarksOf e history (fills ++ Freed i ∷ []) new
let_go e history fills old new i are flies marked =
    let last = there (last_in e i history) refl in
    let same = is_itself i in
    let one = if_some (λ m. Marked old new i (record m { taken = false })) (mark_of old i) _ (has_mark e history fills old are i last.0 last.1) marked in
    marked_item e history fills old new (Freed i) i last.0 are last.1
    (rw same (record { set = one.set; others = one.others }))
    (others_freed i)
  where
    there : (o : Option ℕ) → last_in e i history ≡ o → (last : ℕ) × (last_in e i history ≡ Some last)
    there None is = absurd (true≢false (sym flies ∙ ap is_some (are.known i is).1))
    there (Some last) is = (last, is)

pub faulted : (e : ℕ) (history : List Item) (fills : List Fill) (marks : Marks) (count : ℕ) (wrote : Bool) (unacknowledged : Addition) → AreMarksOf e history fills marks
    → AreMarksOf e history (fills ++ Fault count wrote unacknowledged ∷ []) marks
faulted e history fills marks count wrote unacknowledged are = record {
  each = λ j. rw (base_after_item j fills (Fault count wrote unacknowledged), flight_after_item j fills (Fault count wrote unacknowledged)) (are.each j);
  known = λ j none. (base_after_item j fills (Fault count wrote unacknowledged) ∙ (are.known j none).0, flight_after_item j fills (Fault count wrote unacknowledged) ∙ (are.known j none).1);
}

pub closed : (e : ℕ) (history : List Item) (fills : List Fill) (marks : Marks) → AreMarksOf e history fills marks → AreMarksOf e history (fills ++ Closed ∷ []) marks
closed e history fills marks are = record {
  each = λ j. rw (base_after_item j fills Closed, flight_after_item j fills Closed) (are.each j);
  known = λ j none. (base_after_item j fills Closed ∙ (are.known j none).0, flight_after_item j fills Closed ∙ (are.known j none).1);
}

pub cleared : (e : ℕ) (history : List Item) (fills : List Fill) (marks : Marks) → AreMarksOf e history fills marks → AreMarksOf e history (reopened fills) marks
cleared e history fills marks are = record {
  each = λ j. rw (base_in-reopened j fills, in_flight-reopened j fills) (are.each j);
  known = λ j none. (base_in-reopened j fills ∙ (are.known j none).0, in_flight-reopened j fills ∙ (are.known j none).1);
}

-- a list written whole in place of the items
pub all_written : (n : ℕ) (items written : List Fill) → n ≡ length items → written ≡ reopened items → take n (written ++ drop (length written) items) ≡ reopened items
all_written n items written all is =
    let same : n ≡ length written = all ∙ sym (length-map items fill_cleared) ∙ sym (ap length is) in
    ap (λ (k : ℕ). take k (written ++ drop (length written) items)) same ∙ take-append_seam written (drop (length written) items) ∙ is

-- ---- a run of rows more

pub elsewhere : (table : ℕ) → (table ≡ 0 → ⊥) → eqb table 0 ≡ false
elsewhere table other = grind (arith, nat_tests, other)

pub in_first : (table : ℕ) → table ≡ 0 → eqb table 0 ≡ true
in_first table is = rw is refl

pub untouched : (e : ℕ) (history : List Item) (fills : List Fill) (marks : Marks) (first : Row) (rest : List Row) → AreOfOneInterval e (first ∷ rest) → (first.table ≡ 0 → ⊥) → AreMarksOf e history fills marks
    → AreMarksOf e (history ++ items_of (first ∷ rest)) fills marks
untouched e history fills marks first rest run other are = record {
  each = λ j. are.each j ∙ ap (λ (o : Option ℕ). mark_by o (base_in j fills) (is_some (in_flight j fills))) (sym (same j));
  known = λ j none. are.known j (sym (same j) ∙ none);
}
  where
    same : (j : Interval) → last_in e j (history ++ items_of (first ∷ rest)) ≡ last_in e j history
    same j = last_behind e j history first rest (like_first e j first rest run) ∙ (let not_tm = elsewhere first.table other in rw not_tm refl)

pub touches : (e : ℕ) (history : List Item) (fills : List Fill) (old new : Marks) (first : Row) (rest : List Row) (i : Interval) (last : ℕ) → last ≡ length history + length rest → AreOfOneInterval e (first ∷ rest)
    → first.table ≡ 0 → i.0 ≡ interval_of e first.key.time → AreMarksOf e history fills old → Marked old new i (touched (mark_of old i) last) → AreMarksOf e (history ++ items_of (first ∷ rest)) fills new
touches e history fills old new first rest i last end run table time are marked = record { each = λ j. at j (is_same j i) refl; known = λ j none. known_at j (is_same j i) refl none }
  where
    in_tm : eqb first.table 0 ≡ true
    in_tm = in_first first.table table

    passes : is_of_interval e i first ≡ true
    passes = let same : int_eq (interval_of e first.key.time) i.0 ≡ true = (Decides-int_eq (interval_of e first.key.time) i.0).1 (sym time) in rw (in_tm, same) refl

    last_here : last_in e i (history ++ items_of (first ∷ rest)) ≡ Some last
    last_here = last_behind e i history first rest (like_first e i first rest run) ∙ (rw passes (ap Some (sym end)))

    fails : (j : Interval) → is_same j i ≡ false → is_of_interval e j first ≡ false
    fails j same = go (int_eq (interval_of e first.key.time) j.0) refl
      where
        go : (b : Bool) → int_eq (interval_of e first.key.time) j.0 ≡ b → is_of_interval e j first ≡ false
        go true is = absurd (true≢false (sym ((Decides-int_eq j.0 i.0).1 (sym ((Decides-int_eq (interval_of e first.key.time) j.0).0 is) ∙ sym time)) ∙ same))
        go false is = rw (in_tm, is) refl

    last_there : (j : Interval) → is_same j i ≡ false → last_in e j (history ++ items_of (first ∷ rest)) ≡ last_in e j history
    last_there j same = last_behind e j history first rest (like_first e j first rest run) ∙ (let is = fails j same in rw is refl)

    marked_as : (o b f : Option ℕ) → (o ≡ None → (b ≡ None) × (f ≡ None)) → ((before : ℕ) → o ≡ Some before → before < length history) → Some (touched (mark_by o b (is_some f)) last) ≡ mark_by (Some last) b (is_some f)
    marked_as None b f none below =
        let p = none refl in
        ap (λ (x : Option ℕ). Some (mark last x false)) (sym p.0) ∙ ap (λ (x : Option ℕ). Some (mark last b (is_some x))) (sym p.1)
    marked_as (Some before) b f none below =
        let most : max before last ≡ last = omega (arith, below before refl, end) in
        ap (λ (n : ℕ). Some (mark n b (is_some f))) most

    here : mark_of new i ≡ mark_by (last_in e i (history ++ items_of (first ∷ rest))) (base_in i fills) (is_some (in_flight i fills))
    here =
        marked.set ∙ ap (λ (m : Option Mark). Some (touched m last)) (are.each i)
        ∙ marked_as (last_in e i history) (base_in i fills) (in_flight i fills) (are.known i) (λ before is. last_below e i history before is)
        ∙ ap (λ (o : Option ℕ). mark_by o (base_in i fills) (is_some (in_flight i fills))) (sym last_here)

    at : (j : Interval) (b : Bool) → is_same j i ≡ b → mark_of new j ≡ mark_by (last_in e j (history ++ items_of (first ∷ rest))) (base_in j fills) (is_some (in_flight j fills))
    at j true same = subst (λ (k : Interval). mark_of new k ≡ mark_by (last_in e k (history ++ items_of (first ∷ rest))) (base_in k fills) (is_some (in_flight k fills))) (sym (same_interval j i same)) here
    at j false same = marked.others j (apart j i same) ∙ are.each j ∙ ap (λ (o : Option ℕ). mark_by o (base_in j fills) (is_some (in_flight j fills))) (sym (last_there j same))

    known_at : (j : Interval) (b : Bool) → is_same j i ≡ b → last_in e j (history ++ items_of (first ∷ rest)) ≡ None → (base_in j fills ≡ None) × (in_flight j fills ≡ None)
    known_at j true same none = absurd (let no : Some last ≡ None = sym last_here ∙ subst (λ (k : Interval). last_in e k (history ++ items_of (first ∷ rest)) ≡ None) (same_interval j i same) none in cc)
    known_at j false same none = are.known j (sym (last_there j same) ∙ none)
