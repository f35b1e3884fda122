-- The last change of an interval decides whether it is late.
use Rattle.std.proofs.Common.{◌≡◌, inl, inr, ℕ, zero, suc, ◌+◌, ◌≤◌, List, [], ◌∷◌, ◌++◌, length, Bool, true, false, eqb, true≢false, Option, Some, None, option_map, refl, sym, ap, subst, ◌∙◌, arith, add-one}
use Rattle.std.specs.Prelude.{slice_get, if◌then◌else◌, ◌↔◌, ◌||◌, IsTrue, MatchOption, ⊤}
use Rattle.std.specs.List.{list_any}
use Rattle.std.specs.Option.{option_map_or}
use Rattle.std.specs.Ordering.{int_eq}
use Rattle.std.proofs.lemmas.Option.{same_Some}
use Rattle.std.proofs.lemmas.Bool.{eqb-true, and_parts}
use Rattle.std.proofs.lemmas.Bool.Decides.{Decides-int_eq, nat_tests}
use Rattle.std.proofs.lemmas.List.Folds.{list_any-append}
use Rattle.intervals.specs.declared.interval.Interval.{Interval}
use Rattle.intervals.specs.Interval.{interval_of}
use Rattle.arch_types.specs.declared.row.Row.{Row}
use Rattle.late_marks.specs.Mark.{is_late_by}
use Rattle.mdb_items.specs.Database.{Database}
use Rattle.history_items.specs.declared.fills.Fill.{Fill}
use Rattle.history_items.specs.declared.items.Item.{Item}
use Rattle.history_items.specs.declared.items.Item.TheVariants as items
use Rattle.history_items.specs.Items.{changes_interval, database_item, is_of_interval, is_row_of_interval, row_item}
use Rattle.history_items.specs.Fills.{base_in}
use Rattle.history_items.specs.Places.{last_place, last_with}
use Rattle.history_items.specs.Late.{StandsIn, ChangesAt, HasRow, IsChangedSince, IsLate, IsLastIn, last_in, is_late_in}
use Rattle.history_items.proofs.Places.{last_push}

or_none : (b : Bool) → (b || false) ≡ b
or_none true = refl
or_none false = refl

-- a row that passes is of the interval
row_of : (exponent : ℕ) (interval : Interval) (history : List Item) (position : ℕ) (row : Row) → slice_get history position ≡ Some (row_item row) → is_of_interval exponent interval row ≡ true → StandsIn exponent interval position history
row_of exponent interval history position row at passes =
    let p = and_parts (eqb row.table 0) (int_eq (interval_of exponent row.key.time) interval.0) passes in
    record { row = row; there = at; table = eqb-true row.table 0 p.0; time = (Decides-int_eq (interval_of exponent row.key.time) interval.0).0 p.1 }

-- an item that passes stands in the interval
stands_here : (exponent : ℕ) (interval : Interval) (history : List Item) (position : ℕ) (item : Item) → slice_get history position ≡ Some item → is_row_of_interval exponent interval item ≡ true → StandsIn exponent interval position history
stands_here exponent interval history position (items.Row row) at passes = row_of exponent interval history position row at passes
stands_here exponent interval history position (items.Mdb database) at passes = absurd (true≢false (sym passes))

-- an item that passes changes the interval
changes_here : (exponent : ℕ) (interval : Interval) (history : List Item) (position : ℕ) (item : Item) → slice_get history position ≡ Some item → changes_interval exponent interval item ≡ true → ChangesAt exponent interval position history
changes_here exponent interval history position (items.Row row) at passes = inl (row_of exponent interval history position row at (sym (or_none (is_of_interval exponent interval row)) ∙ passes))
changes_here exponent interval history position (items.Mdb database) at passes = inr (database, at)

-- a row that stands in the interval passes
passes_there : (exponent : ℕ) (interval : Interval) (row : Row) → row.table ≡ 0 → interval_of exponent row.key.time ≡ interval.0 → is_of_interval exponent interval row ≡ true
passes_there exponent interval row table time =
    let one : eqb row.table 0 ≡ true = grind (arith, nat_tests) in
    let two : int_eq (interval_of exponent row.key.time) interval.0 ≡ true = (Decides-int_eq (interval_of exponent row.key.time) interval.0).1 time in
    rw (one, two) refl

-- what changes an interval passes
change_passes : (exponent : ℕ) (interval : Interval) (item : Item) (xs : List Item) → ChangesAt exponent interval 0 (item ∷ xs) → changes_interval exponent interval item ≡ true
change_passes exponent interval item xs (inl s) =
    let same : item ≡ row_item s.row = same_Some item (row_item s.row) s.there in
    ap (changes_interval exponent interval) same ∙ ap (λ (b : Bool). b || false) (passes_there exponent interval s.row s.table s.time)
change_passes exponent interval item xs (inr d) = let same : item ≡ database_item d.0 = same_Some item (database_item d.0) d.1 in ap (changes_interval exponent interval) same

-- a row of the interval passes
row_passes : (exponent : ℕ) (interval : Interval) (item : Item) (xs : List Item) → StandsIn exponent interval 0 (item ∷ xs) → is_row_of_interval exponent interval item ≡ true
row_passes exponent interval item xs s =
    let same : item ≡ row_item s.row = same_Some item (row_item s.row) s.there in
    ap (is_row_of_interval exponent interval) same ∙ passes_there exponent interval s.row s.table s.time

-- ---- an item in front

behind : (exponent : ℕ) (interval : Interval) (x : Item) (xs : List Item) (position : ℕ) → StandsIn exponent interval (suc position) (x ∷ xs) → StandsIn exponent interval position xs
behind exponent interval x xs position s = record { row = s.row; there = s.there; table = s.table; time = s.time }

change_behind : (exponent : ℕ) (interval : Interval) (x : Item) (xs : List Item) (position : ℕ) → ChangesAt exponent interval (suc position) (x ∷ xs) → ChangesAt exponent interval position xs
change_behind exponent interval x xs position (inl s) = inl (behind exponent interval x xs position s)
change_behind exponent interval x xs position (inr d) = inr d

ahead : (exponent : ℕ) (interval : Interval) (x : Item) (xs : List Item) (position : ℕ) → StandsIn exponent interval position xs → StandsIn exponent interval (position + 1) (x ∷ xs)
ahead exponent interval x xs position s = record { row = s.row; there = ap (λ (p : ℕ). slice_get (x ∷ xs) p) (add-one position) ∙ s.there; table = s.table; time = s.time }

change_ahead : (exponent : ℕ) (interval : Interval) (x : Item) (xs : List Item) (position : ℕ) → ChangesAt exponent interval position xs → ChangesAt exponent interval (position + 1) (x ∷ xs)
change_ahead exponent interval x xs position (inl s) = inl (ahead exponent interval x xs position s)
change_ahead exponent interval x xs position (inr d) = inr (d.0, ap (λ (p : ℕ). slice_get (x ∷ xs) p) (add-one position) ∙ d.1)

-- ---- whether an interval has a row

pub some_row : (exponent : ℕ) (interval : Interval) (history : List Item) → list_any (is_row_of_interval exponent interval) history ≡ true → HasRow exponent interval history
some_row exponent interval [] any = absurd (true≢false (sym any))
some_row exponent interval (x ∷ xs) any = go (is_row_of_interval exponent interval x) refl any (some_row exponent interval xs)
  where
    go : (b : Bool) → is_row_of_interval exponent interval x ≡ b → (b || list_any (is_row_of_interval exponent interval) xs) ≡ true → (list_any (is_row_of_interval exponent interval) xs ≡ true → HasRow exponent interval xs) → HasRow exponent interval (x ∷ xs)
    go true is some deep = record { position = 0; stands = stands_here exponent interval (x ∷ xs) 0 x refl is }
    go false is some deep = let row = deep some in record { position = row.position + 1; stands = ahead exponent interval x xs row.position row.stands }

pub no_row : (exponent : ℕ) (interval : Interval) (history : List Item) (position : ℕ) → list_any (is_row_of_interval exponent interval) history ≡ false → StandsIn exponent interval position history → ⊥
no_row exponent interval [] position none s = let at = s.there in absurd cc
no_row exponent interval (x ∷ xs) position none s = go (is_row_of_interval exponent interval x) refl none position s (λ p. no_row exponent interval xs p)
  where
    go : (b : Bool) → is_row_of_interval exponent interval x ≡ b → (b || list_any (is_row_of_interval exponent interval) xs) ≡ false → (p : ℕ) → StandsIn exponent interval p (x ∷ xs)
        → ((p : ℕ) → list_any (is_row_of_interval exponent interval) xs ≡ false → StandsIn exponent interval p xs → ⊥) → ⊥
    go true is others p here deep = true≢false others
    go false is others zero here deep = true≢false (sym (row_passes exponent interval x xs here) ∙ is)
    go false is others (suc p) here deep = deep p others (behind exponent interval x xs p here)

-- ---- the last change

-- nothing changes the interval, or its last change stands at this position
abbrev IsLastChange : ℕ → Interval → List Item → Option ℕ → Type 0
IsLastChange exponent interval history None = (position : ℕ) → ChangesAt exponent interval position history → ⊥
IsLastChange exponent interval history (Some last) = ChangesAt exponent interval last history × ((position : ℕ) → ChangesAt exponent interval position history → position ≤ last)

last_change : (exponent : ℕ) (interval : Interval) (history : List Item) → IsLastChange exponent interval history (last_place (changes_interval exponent interval) history)
last_change exponent interval [] = λ position c. nowhere position c
  where
    nowhere : (position : ℕ) → ChangesAt exponent interval position [] → ⊥
    nowhere position (inl s) = let at = s.there in absurd cc
    nowhere position (inr d) = let at = d.1 in absurd cc
last_change exponent interval (x ∷ xs) = go (changes_interval exponent interval x) refl (last_place (changes_interval exponent interval) xs) (last_change exponent interval xs)
  where
    greatest : (last : ℕ) → ((position : ℕ) → ChangesAt exponent interval position xs → position ≤ last) → (position : ℕ) → ChangesAt exponent interval position (x ∷ xs) → position ≤ last + 1
    greatest last most zero c = omega arith
    greatest last most (suc position) c = omega (arith, most position (change_behind exponent interval x xs position c))

    only : ((position : ℕ) → ChangesAt exponent interval position xs → ⊥) → (position : ℕ) → ChangesAt exponent interval position (x ∷ xs) → position ≤ 0
    only none zero c = omega arith
    only none (suc position) c = absurd (none position (change_behind exponent interval x xs position c))

    nowhere : changes_interval exponent interval x ≡ false → ((position : ℕ) → ChangesAt exponent interval position xs → ⊥) → (position : ℕ) → ChangesAt exponent interval position (x ∷ xs) → ⊥
    nowhere fails none zero c = true≢false (sym (change_passes exponent interval x xs c) ∙ fails)
    nowhere fails none (suc position) c = none position (change_behind exponent interval x xs position c)

    go : (b : Bool) → changes_interval exponent interval x ≡ b → (o : Option ℕ) → IsLastChange exponent interval xs o → IsLastChange exponent interval (x ∷ xs) (last_with b o)
    go b is (Some last) is_last = (change_ahead exponent interval x xs last is_last.0, greatest last is_last.1)
    go true is None is_last = (changes_here exponent interval (x ∷ xs) 0 x refl is, only is_last)
    go false is None is_last = nowhere is is_last

pub last_is_greatest : (exponent : ℕ) (interval : Interval) (history : List Item) → IsLastIn exponent interval history (last_in exponent interval history)
last_is_greatest exponent interval history = go (list_any (is_row_of_interval exponent interval) history) refl (last_place (changes_interval exponent interval) history) (last_change exponent interval history)
  where
    go : (b : Bool) → list_any (is_row_of_interval exponent interval) history ≡ b → (o : Option ℕ) → IsLastChange exponent interval history o → IsLastIn exponent interval history (if b then o else None)
    go false is o is_last = λ row. no_row exponent interval history row.position is row.stands
    go true is None is_last = λ row. is_last row.position (inl row.stands)
    go true is (Some last) is_last = (some_row exponent interval history is, is_last.0, is_last.1)

-- ---- one item more

pub last_after_row : (exponent : ℕ) (interval : Interval) (history : List Item) (row : Row) →
    last_in exponent interval (history ++ row_item row ∷ []) ≡ (if is_of_interval exponent interval row then Some (length history) else last_in exponent interval history)
last_after_row exponent interval history row =
    ap (λ (b : Bool). if b then last_place (changes_interval exponent interval) (history ++ row_item row ∷ []) else None) (list_any-append (is_row_of_interval exponent interval) history (row_item row ∷ []))
    ∙ ap (λ (o : Option ℕ). if list_any (is_row_of_interval exponent interval) history || (is_of_interval exponent interval row || false) then o else None) (last_push (changes_interval exponent interval) history (row_item row))
    ∙ go (list_any (is_row_of_interval exponent interval) history) (is_of_interval exponent interval row)
  where
    before : Option ℕ
    before = last_place (changes_interval exponent interval) history

    go : (any b : Bool) → (if any || (b || false) then (if b || false then Some (length history) else before) else None) ≡ (if b then Some (length history) else (if any then before else None))
    go true true = refl
    go true false = refl
    go false true = refl
    go false false = refl

pub last_after_database : (exponent : ℕ) (interval : Interval) (history : List Item) (database : Database) →
    last_in exponent interval (history ++ database_item database ∷ []) ≡ option_map (λ last. length history) (last_in exponent interval history)
last_after_database exponent interval history database =
    ap (λ (b : Bool). if b then last_place (changes_interval exponent interval) (history ++ database_item database ∷ []) else None) (list_any-append (is_row_of_interval exponent interval) history (database_item database ∷ []))
    ∙ ap (λ (o : Option ℕ). if list_any (is_row_of_interval exponent interval) history || false then o else None) (last_push (changes_interval exponent interval) history (database_item database))
    ∙ go (list_any (is_row_of_interval exponent interval) history) refl (last_place (changes_interval exponent interval) history) (last_change exponent interval history)
  where
    go : (b : Bool) → list_any (is_row_of_interval exponent interval) history ≡ b → (o : Option ℕ) → IsLastChange exponent interval history o →
        (if b || false then Some (length history) else None) ≡ option_map (λ last. length history) (if b then o else None)
    go false is o is_last = refl
    go true is None is_last = let row = some_row exponent interval history is in absurd (is_last row.position (inl row.stands))
    go true is (Some last) is_last = refl

-- ---- lateness

pub late_by_last : (exponent : ℕ) (interval : Interval) (history : List Item) (fills : List Fill) → IsTrue (is_late_in exponent interval history fills) ↔ IsLate exponent interval history fills
late_by_last exponent interval history fills = (there (last_in exponent interval history) (last_is_greatest exponent interval history) (base_in interval fills) refl, back (last_in exponent interval history) (last_is_greatest exponent interval history) (base_in interval fills) refl)
  where
    there : (o : Option ℕ) → IsLastIn exponent interval history o → (base : Option ℕ) → base_in interval fills ≡ base → IsTrue (option_map_or (λ last. is_late_by last base) o false) → IsLate exponent interval history fills
    there None is_last base is late = absurd (true≢false (sym late))
    there (Some last) is_last None is late = record { row = is_last.0; unseen = subst (λ (o : Option ℕ). MatchOption o ⊤ (λ base. IsChangedSince exponent interval base history)) (sym is) tt }
    there (Some last) is_last (Some base) is late =
        let since : base ≤ last = grind arith in
        record {
          row = is_last.0;
          unseen = subst (λ (o : Option ℕ). MatchOption o ⊤ (λ base. IsChangedSince exponent interval base history)) (sym is) (record { position = last; changes = is_last.1; since = since });
        }

    back : (o : Option ℕ) → IsLastIn exponent interval history o → (base : Option ℕ) → base_in interval fills ≡ base → IsLate exponent interval history fills → IsTrue (option_map_or (λ last. is_late_by last base) o false)
    back None is_last base is late = absurd (is_last late.row)
    back (Some last) is_last None is late = refl
    back (Some last) is_last (Some base) is late =
        let changed : IsChangedSince exponent interval base history = subst (λ (o : Option ℕ). MatchOption o ⊤ (λ base. IsChangedSince exponent interval base history)) is late.unseen in
        let le : base ≤ last = omega (arith, changed.since, is_last.2 changed.position changed.changes) in
        grind arith
