-- The least interval that is late and free, looked for row by row.
use Rattle.std.proofs.Common.{◌≡◌, ◌⊎◌, inl, inr, ⊎_elim, ℕ, ℤ, ◌+◌, ◌<◌, ◌≤◌, ◌≤ℤ◌, List, length, Bool, true, false, true≢false, eqb, Option, Some, None, refl, sym, ◌∙◌, ap, subst, arith}
use Rattle.std.specs.Prelude.{slice_get, MatchOption, ⊤, ◌&&◌, not, int_lt, if◌then◌else◌}
use Rattle.std.specs.Option.{is_some}
use Rattle.std.proofs.lemmas.Int.{ints}
use Rattle.std.proofs.lemmas.Bool.{eqb-true, and_parts, cases_lt}
use Rattle.std.proofs.lemmas.Bool.Decides.{nat_tests}
use Rattle.std.proofs.lemmas.Option.{same_Some, slice_get_within}
use Rattle.intervals.specs.declared.interval.Interval.{Interval}
use Rattle.history_items.specs.declared.fills.Fill.{Fill}
use Rattle.arch_types.specs.declared.row.Row.{Row}
use Rattle.history_items.specs.Items.{items_of}
use Rattle.history_items.specs.Fills.{base_in, in_flight}
use Rattle.history_items.specs.Late.{ChangesAt, HasRow, IsChangedSince, IsLate, StandsIn}
use Rattle.archive_core.proofs.OfRows.{get_item, get_row, no_database}
use Rattle.archive_core.specs.RowTests.{interval_at, shows_late_free, is_below_least}
use Rattle.interval_fills.specs.Steps.{IsLateFree, IsNextToFill, state_of}
use Rattle.late_marks.specs.Mark.{is_late_by}

-- ---- what a row shows

none_is : (o : Option ℕ) → not (is_some o) ≡ true → o ≡ None
none_is None e = refl
none_is (Some x) e = absurd cc

none_back : (o : Option ℕ) → o ≡ None → not (is_some o) ≡ true
none_back o e = rw e refl

unseen_back : (position : ℕ) (o : Option ℕ) → MatchOption o ⊤ (λ base. base ≤ position) → is_late_by position o ≡ true
unseen_back position None u = refl
unseen_back position (Some base) u = grind (arith, nat_tests)

in_table : (a : ℕ) → a ≡ 0 → eqb a 0 ≡ true
in_table a e = rw e refl

module _ (e : ℕ) (rows : List Row) (fills : List Fill) where
  shown : (position : ℕ) (row : Row) → slice_get rows position ≡ Some row → shows_late_free e fills position row ≡ true → IsLateFree e (interval_at e row) (state_of (items_of rows) fills)
  shown position row at shows =
      let i = interval_at e row in
      let p = and_parts (eqb row.table 0 && is_late_by position (base_in i fills)) (not (is_some (in_flight i fills))) shows in
      let q = and_parts (eqb row.table 0) (is_late_by position (base_in i fills)) p.0 in
      let stands : StandsIn e i position (items_of rows) = record { row = row; there = get_item rows position row at; table = eqb-true row.table 0 q.0; time = refl } in
      let some : HasRow e i (items_of rows) = record { position = position; stands = stands } in
      let late : IsLate e i (items_of rows) fills = record { row = some; unseen = changed i position stands (base_in i fills) q.1 } in
      record { late = late; free = none_is (in_flight i fills) p.1 }
    where
      changed : (i : Interval) (position : ℕ) → StandsIn e i position (items_of rows) → (o : Option ℕ) → is_late_by position o ≡ true → MatchOption o ⊤ (λ base. IsChangedSince e i base (items_of rows))
      changed i position stands None is = tt
      changed i position stands (Some base) is = let since : base ≤ position = grind (arith, nat_tests) in
          let found : IsChangedSince e i base (items_of rows) = record { position = position; changes = inl stands; since = since } in
          found

  -- a row of an interval, at or after the base of its last fill
  record Shows (i : Interval) : Type 0 where
    position : ℕ
    stands : StandsIn e i position (items_of rows)
    unseen : MatchOption (base_in i fills) ⊤ (λ base. base ≤ position)

  -- nothing but rows changes an interval of rows alone
  row_of_change : (i : Interval) (base : ℕ) → IsChangedSince e i base (items_of rows) → (p : ℕ) × StandsIn e i p (items_of rows) × (base ≤ p)
  row_of_change i base changed = go changed.changes
    where
      go : ChangesAt e i changed.position (items_of rows) → (p : ℕ) × StandsIn e i p (items_of rows) × (base ≤ p)
      go (inl s) = (changed.position, s, changed.since)
      go (inr d) = absurd (no_database rows changed.position d.0 d.1)

  shows_late : (i : Interval) → IsLate e i (items_of rows) fills → Shows i
  shows_late i late = go (base_in i fills) refl
    where
      go : (o : Option ℕ) → base_in i fills ≡ o → Shows i
      go None is = record { position = late.row.position; stands = late.row.stands; unseen = subst (λ (k : Option ℕ). MatchOption k ⊤ (λ base. base ≤ late.row.position)) (sym is) tt }
      go (Some base) is =
          let found = row_of_change i base (subst (λ (k : Option ℕ). MatchOption k ⊤ (λ b. IsChangedSince e i b (items_of rows))) is late.unseen) in
          record { position = found.0; stands = found.1; unseen = subst (λ (k : Option ℕ). MatchOption k ⊤ (λ b. b ≤ found.0)) (sym is) found.2 }

  -- a late interval is shown by some row, where it is free
  shows_it : (i : Interval) (late : Shows i) → in_flight i fills ≡ None → (interval_at e late.stands.row ≡ i) × (shows_late_free e fills late.position late.stands.row ≡ true)
  shows_it i late free = (same, test)
    where
      same : interval_at e late.stands.row ≡ i
      same = ap (λ (n : ℤ). let j : Interval = record { 0 = n } in j) late.stands.time

      table : eqb late.stands.row.table 0 ≡ true
      table = in_table late.stands.row.table late.stands.table

      unseen : is_late_by late.position (base_in (interval_at e late.stands.row) fills) ≡ true
      unseen = subst (λ (j : Interval). is_late_by late.position (base_in j fills) ≡ true) (sym same) (unseen_back late.position (base_in i fills) late.unseen)

      flies : not (is_some (in_flight (interval_at e late.stands.row) fills)) ≡ true
      flies = subst (λ (j : Interval). not (is_some (in_flight j fills)) ≡ true) (sym same) (none_back (in_flight i fills) free)

      test : shows_late_free e fills late.position late.stands.row ≡ true
      test = rw (table, unseen, flies) refl

-- ---- the least so far

-- of the rows below a place none shows an interval below the least, or none shows any
abbrev pub IsLeastSoFar : ℕ → List Row → List Fill → ℕ → Option Interval → Type 0
IsLeastSoFar e rows fills place None = (k : ℕ) (row : Row) → k < place → slice_get rows k ≡ Some row → shows_late_free e fills k row ≡ false
IsLeastSoFar e rows fills place (Some least) =
    IsLateFree e least (state_of (items_of rows) fills)
    × ((k : ℕ) (row : Row) → k < place → slice_get rows k ≡ Some row → shows_late_free e fills k row ≡ true → least.0 ≤ℤ (interval_at e row).0)

pub none_yet : (e : ℕ) (rows : List Row) (fills : List Fill) → IsLeastSoFar e rows fills 0 None
none_yet e rows fills = λ k row under at. absurd (omega (arith, under))

apart : (k place : ℕ) → k < place + 1 → (k < place) ⊎ (k ≡ place)
apart k place under = ⊎_elim (λ lt. inl lt) (λ ge. inr (omega (arith, under, ge))) (cases_lt k place)

not_under : (a b : ℤ) → int_lt a b ≡ false → b ≤ℤ a
not_under a b e = grind (arith, ints)

is_under : (a b : ℤ) → int_lt a b ≡ true → a ≤ℤ b
is_under a b e = grind (arith, ints)

trans_le : (a b c : ℤ) → a ≤ℤ b → b ≤ℤ c → a ≤ℤ c
trans_le a b c one two = omega (arith, ints, one, two)

refl_le : (a : ℤ) → a ≤ℤ a
refl_le a = omega (arith, ints)

module _ (e : ℕ) (rows : List Row) (fills : List Fill) (place : ℕ) (row : Row) (at : slice_get rows place ≡ Some row) where
  -- the row at the place is this one
  here : (k : ℕ) (other : Row) → k ≡ place → slice_get rows k ≡ Some other → row ≡ other
  here k other same there = same_Some row other (sym at ∙ ap (slice_get rows) (sym same) ∙ there)

  fresh : (least : Option Interval) → IsLeastSoFar e rows fills place least → is_below_least least (interval_at e row) ≡ true → shows_late_free e fills place row ≡ true →
      IsLeastSoFar e rows fills (place + 1) (Some (interval_at e row))
  fresh least before under shows = (shown e rows fills place row at shows, λ k other within there passes. by least before under k other (apart k place within) there passes)
    where
      by : (o : Option Interval) → IsLeastSoFar e rows fills place o → is_below_least o (interval_at e row) ≡ true → (k : ℕ) (other : Row) → (k < place) ⊎ (k ≡ place) → slice_get rows k ≡ Some other
          → shows_late_free e fills k other ≡ true → (interval_at e row).0 ≤ℤ (interval_at e other).0
      by o so_far below k other (inr same) there passes = subst (λ (r : Row). (interval_at e row).0 ≤ℤ (interval_at e r).0) (here k other same there) (refl_le (interval_at e row).0)
      by None so_far below k other (inl under) there passes = absurd (true≢false (sym passes ∙ so_far k other under there))
      by (Some l) so_far below k other (inl under) there passes =
          trans_le (interval_at e row).0 l.0 (interval_at e other).0 (is_under (interval_at e row).0 l.0 below) (so_far.1 k other under there passes)

  -- a row that shows nothing
  unshown : (least : Option Interval) → IsLeastSoFar e rows fills place least → shows_late_free e fills place row ≡ false → IsLeastSoFar e rows fills (place + 1) least
  unshown None before fails = λ k other within there. by k other (apart k place within) there
    where
      by : (k : ℕ) (other : Row) → (k < place) ⊎ (k ≡ place) → slice_get rows k ≡ Some other → shows_late_free e fills k other ≡ false
      by k other (inl under) there = before k other under there
      by k other (inr same) there = subst (λ (r : Row). shows_late_free e fills k r ≡ false) (here k other same there) (subst (λ (n : ℕ). shows_late_free e fills n row ≡ false) (sym same) fails)
  unshown (Some l) before fails = (before.0, λ k other within there passes. by k other (apart k place within) there passes)
    where
      by : (k : ℕ) (other : Row) → (k < place) ⊎ (k ≡ place) → slice_get rows k ≡ Some other → shows_late_free e fills k other ≡ true → l.0 ≤ℤ (interval_at e other).0
      by k other (inl under) there passes = before.1 k other under there passes
      by k other (inr same) there passes =
          absurd (true≢false (sym passes ∙ subst (λ (r : Row). shows_late_free e fills k r ≡ false) (here k other same there) (subst (λ (n : ℕ). shows_late_free e fills n row ≡ false) (sym same) fails)))

  -- a row whose interval isn't below the least
  above : (least : Option Interval) → IsLeastSoFar e rows fills place least → is_below_least least (interval_at e row) ≡ false → IsLeastSoFar e rows fills (place + 1) least
  above None before over = absurd (true≢false over)
  above (Some l) before over = (before.0, λ k other within there passes. by k other (apart k place within) there passes)
    where
      by : (k : ℕ) (other : Row) → (k < place) ⊎ (k ≡ place) → slice_get rows k ≡ Some other → shows_late_free e fills k other ≡ true → l.0 ≤ℤ (interval_at e other).0
      by k other (inl under) there passes = before.1 k other under there passes
      by k other (inr same) there passes = subst (λ (r : Row). l.0 ≤ℤ (interval_at e r).0) (here k other same there) (not_under (interval_at e row).0 l.0 over)

  pub least_more : (least : Option Interval) → IsLeastSoFar e rows fills place least →
      IsLeastSoFar e rows fills (place + 1) (if is_below_least least (interval_at e row) && shows_late_free e fills place row then Some (interval_at e row) else least)
  least_more least before = go (is_below_least least (interval_at e row)) (shows_late_free e fills place row) refl refl
    where
      go : (a b : Bool) → is_below_least least (interval_at e row) ≡ a → shows_late_free e fills place row ≡ b → IsLeastSoFar e rows fills (place + 1) (if a && b then Some (interval_at e row) else least)
      go true true below shows = fresh least before below shows
      go true false below shows = unshown least before shows
      go false b below shows = above least before below

-- over all rows it is the next interval to fill
pub least_is : (e : ℕ) (rows : List Row) (fills : List Fill) (n : ℕ) (least : Option Interval) → length rows ≤ n → IsLeastSoFar e rows fills n least → IsNextToFill e (state_of (items_of rows) fills) least
least_is e rows fills n None all before = λ i late free.
    let by = shows_late e rows fills i late in
    let found = shows_it e rows fills i by free in
    let at = get_row rows by.position by.stands.row by.stands.there in
    let within = slice_get_within rows by.position by.stands.row at in
    true≢false (sym found.1 ∙ before by.position by.stands.row (omega (arith, within, all)) at)
least_is e rows fills n (Some l) all before = (before.0, λ other is. under other (shows_late e rows fills other is.late) is.free)
  where
    under : (other : Interval) (by : Shows e rows fills other) → in_flight other fills ≡ None → l.0 ≤ℤ other.0
    under other by free =
        let found = shows_it e rows fills other by free in
        let at = get_row rows by.position by.stands.row by.stands.there in
        let within = slice_get_within rows by.position by.stands.row at in
        subst (λ (i : Interval). l.0 ≤ℤ i.0) found.0 (before.1 by.position by.stands.row (omega (arith, within, all)) at found.1)
