-- Counts of intervals.
use Rattle.std.proofs.Common.{◌≡◌, ℕ, ℤ, ◌+◌, ◌*◌, ◌≤◌, ◌⊎◌, inl, inr, max, List, Bool, true, false, true≢false, nat_le, ◌<◌, refl, sym, ◌∙◌, ap, subst, arith}
use Rattle.std.specs.Prelude.{if◌then◌else◌, ◌≢◌}
use Rattle.std.specs.Ordering.{int_eq}
use Rattle.std.specs.BTreeMap.{is_at, insert_entry}
use Rattle.std.proofs.lemmas.Bool.{false_from_ne_true}
use Rattle.std.proofs.lemmas.Bool.Decides.{Decides-int_eq, nat_tests}
use Rattle.std.proofs.lemmas.Map.Views.{tells_apart}
use Rattle.block_map.proofs.KeyedLists.{lookup-insert_entry_same, lookup-insert_entry_other}
use Rattle.intervals.specs.declared.interval.Interval.{Interval}
use Rattle.intervals.specs.Interval.{interval_cmp}
use Rattle.intervals.proofs.Ranks.{interval_cmp_total, exact_intervals}
use Rattle.block_map.specs.Index.{tally}
use Rattle.archive_history.specs.LimitCounts.{HasAtMost, IsMost, interval_row_count, one_at}

pub together : (a b : Interval) → a.0 ≡ b.0 → a ≡ b
together a b numbers = ap (λ (n : ℤ). let i : Interval = record { 0 = n } in i) numbers

apart : (a b : Interval) → b ≢ a → is_at (interval_cmp a) b ≡ false
apart a b ne = false_from_ne_true _ (λ e. ne (sym (tells_apart exact_intervals a b e)))

-- one interval counts so many more, and all others as many as before
pub counted_many : (es : List (Interval × ℕ)) (i other : Interval) (n v : ℕ) → v ≡ interval_row_count es i + n → interval_row_count (insert_entry interval_cmp es i v) other ≡ interval_row_count es other + one_at i other * n
counted_many es i other n v is = here (int_eq i.0 other.0) refl
  where
    here : (b : Bool) → int_eq i.0 other.0 ≡ b → interval_row_count (insert_entry interval_cmp es i v) other ≡ interval_row_count es other + (if b then 1 else 0) * n
    here true e =
        let same : i ≡ other = together i other ((Decides-int_eq i.0 other.0).0 e) in
        let many : interval_row_count es i + n ≡ interval_row_count es i + 1 * n = omega arith in
        subst (λ (o : Interval). interval_row_count (insert_entry interval_cmp es i v) o ≡ interval_row_count es o + 1 * n) same
        (ap tally (lookup-insert_entry_same interval_cmp_total i v es) ∙ is ∙ many)
    here false e =
        let ne : is_at (interval_cmp i) other ≡ false = apart i other (λ same. true≢false (sym ((Decides-int_eq i.0 other.0).1 (ap (λ (x : Interval). x.0) (sym same))) ∙ e)) in
        let none : interval_row_count es other ≡ interval_row_count es other + 0 * n = omega arith in
        ap tally (lookup-insert_entry_other interval_cmp_total other i v es ne) ∙ none

-- one interval counts one more, and all others as many as before
pub counted : (es : List (Interval × ℕ)) (i other : Interval) (v : ℕ) → v ≡ interval_row_count es i + 1 → interval_row_count (insert_entry interval_cmp es i v) other ≡ interval_row_count es other + one_at i other
counted es i other v is = let one : one_at i other * 1 ≡ one_at i other = omega arith in counted_many es i other 1 v is ∙ ap (λ (m : ℕ). interval_row_count es other + m) one

-- the most rows of an interval, once one interval has so many more
pub at_most_many : (old new : List (Interval × ℕ)) (i : Interval) (n most next : ℕ) → HasAtMost most old → ((other : Interval) → interval_row_count new other ≡ interval_row_count old other + one_at i other * n)
    → interval_row_count old i + n ≤ next → most ≤ next → HasAtMost next new
at_most_many old new i n most next all counts here more other = go (int_eq i.0 other.0) refl
  where
    go : (b : Bool) → int_eq i.0 other.0 ≡ b → interval_row_count new other ≤ next
    go true e =
        let same : i ≡ other = together i other ((Decides-int_eq i.0 other.0).0 e) in
        let many : one_at i other * n ≡ 1 * n = ap (λ (b : Bool). (if b then 1 else 0) * n) e in
        let at_other : interval_row_count old other + n ≤ next = subst (λ (o : Interval). interval_row_count old o + n ≤ next) same here in
        omega (arith, counts other, many, at_other)
    go false e =
        let none : one_at i other * n ≡ 0 * n = ap (λ (b : Bool). (if b then 1 else 0) * n) e in
        omega (arith, counts other, none, all other, more)

-- the number of rows of the interval that has most, once one interval has so many more, and then this many
pub most_of_many : (old new : List (Interval × ℕ)) (i : Interval) (n most rows next : ℕ) → IsMost most old → ((other : Interval) → interval_row_count new other ≡ interval_row_count old other + one_at i other * n)
    → rows ≡ interval_row_count old i + n → next ≡ max most rows → IsMost next new
most_of_many old new i n most rows next is counts here more = record {
  at_most = at_most_many old new i n most next is.at_most counts (omega (arith, here, more)) (omega (arith, more));
  reached = by (nat_le most rows) refl;
}
  where
    there : interval_row_count new i ≡ rows
    there = let one : one_at i i * n ≡ 1 * n = ap (λ (b : Bool). (if b then 1 else 0) * n) ((Decides-int_eq i.0 i.0).1 refl) in omega (arith, counts i, one, here)

    -- the interval that had most is another one
    elsewhere : (b : Bool) (other : Interval) → int_eq i.0 other.0 ≡ b → interval_row_count old other ≡ most → rows < most → interval_row_count new other ≡ most
    elsewhere true other e had fewer =
        let same : i ≡ other = together i other ((Decides-int_eq i.0 other.0).0 e) in
        let at_i : interval_row_count old i ≡ most = subst (λ (o : Interval). interval_row_count old o ≡ most) (sym same) had in
        absurd (omega (arith, at_i, here, fewer))
    elsewhere false other e had fewer =
        let none : one_at i other * n ≡ 0 * n = ap (λ (b : Bool). (if b then 1 else 0) * n) e in
        omega (arith, counts other, none, had)

    kept : (most ≡ 0) ⊎ ((other : Interval) × (interval_row_count old other ≡ most)) → rows < most → (next ≡ 0) ⊎ ((other : Interval) × (interval_row_count new other ≡ next))
    kept (inl none) fewer = absurd (omega (arith, none, fewer))
    kept (inr had) fewer = let same : next ≡ most = omega (arith, more, fewer) in inr (had.0, elsewhere (int_eq i.0 had.0.0) had.0 refl had.1 fewer ∙ sym same)

    by : (b : Bool) → nat_le most rows ≡ b → (next ≡ 0) ⊎ ((other : Interval) × (interval_row_count new other ≡ next))
    by true e = let same : next ≡ rows = grind (arith, nat_tests, more) in inr (i, there ∙ sym same)
    by false e = kept is.reached (grind (arith, nat_tests))

-- once one interval has one more
pub most_of_one : (old new : List (Interval × ℕ)) (i : Interval) (most rows next : ℕ) → IsMost most old → ((other : Interval) → interval_row_count new other ≡ interval_row_count old other + one_at i other)
    → rows ≡ interval_row_count old i + 1 → next ≡ max most rows → IsMost next new
most_of_one old new i most rows next is counts here more =
    let each = λ (other : Interval). let one : one_at i other ≡ one_at i other * 1 = omega arith in counts other ∙ ap (λ (m : ℕ). interval_row_count old other + m) one in
    most_of_many old new i 1 most rows next is each here more
