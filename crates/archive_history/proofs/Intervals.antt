-- The intervals of rows that come to a history.
use Rattle.std.proofs.Common.{◌≡◌, ◌⊎◌, inl, inr, ⊎_elim, ℕ, suc, ◌+◌, ◌<◌, ◌≤◌, List, [], ◌∷◌, ◌++◌, length, take, get_or, Bool, true, false, eqb, refl, sym, ◌∙◌, ap, arith}
use Rattle.std.specs.Prelude.{filter, if◌then◌else◌, ◌&&◌}
use Rattle.std.specs.Ordering.{int_eq}
use Rattle.std.specs.List.{AllByRecursion}
use Rattle.std.proofs.Math.Seq.{take-suc}
use Rattle.std.proofs.lemmas.Bool.{eqb-true}
use Rattle.std.proofs.lemmas.Bool.Decides.{Decides-int_eq}
use Rattle.intervals.specs.declared.interval.Interval.{Interval}
use Rattle.archive_history.specs.declared.row_limit.RowLimit.TheVariants as limits
use Rattle.arch_types.specs.declared.row.Row.{Row}
use Rattle.intervals.specs.Interval.{interval_of}
use Rattle.archive_history.specs.RowLimits.{row_limit}
use Rattle.history_items.specs.Items.{is_of_interval}
use Rattle.archive_history.specs.Limits.{octets_of, interval_rows, IsWithin}
use Rattle.archive_history.proofs.Sums.{octets-append, interval_rows-append, interval_rows-one}

-- ---- one row more

pub take_more : (rows : List Row) (i : ℕ) (d : Row) → i < length rows → take (i + 1) rows ≡ take i rows ++ get_or rows i d ∷ []
take_more rows i d within =
    let next : i + 1 ≡ suc i = omega arith in
    ap (λ (n : ℕ). take n rows) next ∙ take-suc rows i d within

pub octets_more : (rows : List Row) (i : ℕ) (d : Row) → i < length rows → octets_of (take (i + 1) rows) ≡ octets_of (take i rows) + length (get_or rows i d).packet
octets_more rows i d within = omega (arith, ap octets_of (take_more rows i d within), octets-append (take i rows) (get_or rows i d ∷ []))

pub interval_more : (e : ℕ) (interval : Interval) (rows : List Row) (i : ℕ) (d : Row) → i < length rows → interval_rows e interval (take (i + 1) rows) ≡ interval_rows e interval (take i rows) + (if is_of_interval e interval (get_or rows i d) then 1 else 0)
interval_more e interval rows i d within =
    omega (arith, ap (interval_rows e interval) (take_more rows i d within), interval_rows-append e interval (take i rows) (get_or rows i d ∷ []), interval_rows-one e interval (get_or rows i d))

-- ---- each interval of the rows

-- the interval of a row of table `tm` has no more rows than it may
abbrev pub IsCounted : ℕ → List Row → List Row → Row → Type 0
IsCounted e before rows row = row.table ≡ 0 → (interval : Interval) → interval.0 ≡ interval_of e row.key.time → interval_rows e interval (before ++ rows) ≤ row_limit limits.IntervalRows

pub not_more : (a b : ℕ) → (a < b → ⊥) → b ≤ a
not_more a b few = omega (arith, few)

and_true : (a b : Bool) → (a && b) ≡ true → (a ≡ true) × (b ≡ true)
and_true true b e = (refl, e)
and_true false b e = absurd cc

-- an interval has none of these rows, or not too many
none_or_few : (e : ℕ) (interval : Interval) (before : List Row) (all rows : List Row) → AllByRecursion (IsCounted e before all) rows → (interval_rows e interval rows ≡ 0) ⊎ (interval_rows e interval (before ++ all) ≤ row_limit limits.IntervalRows)
none_or_few e interval before all [] each = inl refl
none_or_few e interval before all (row ∷ rows) each = go (is_of_interval e interval row) refl (none_or_few e interval before all rows each.1)
  where
    go : (b : Bool) → is_of_interval e interval row ≡ b → (interval_rows e interval rows ≡ 0) ⊎ (interval_rows e interval (before ++ all) ≤ row_limit limits.IntervalRows)
        → (length (if b then row ∷ filter (is_of_interval e interval) rows else filter (is_of_interval e interval) rows) ≡ 0) ⊎ (interval_rows e interval (before ++ all) ≤ row_limit limits.IntervalRows)
    go true is rest =
        let p = and_true (eqb row.table 0) (int_eq (interval_of e row.key.time) interval.0) is in
        inr (each.0 (eqb-true row.table 0 p.0) interval (sym ((Decides-int_eq (interval_of e row.key.time) interval.0).0 p.1)))
    go false is rest = rest

-- no interval has too many rows after rows whose intervals have not
pub intervals_within : (e : ℕ) (before : List Row) (rows : List Row) → IsWithin e before → AllByRecursion (IsCounted e before rows) rows → (interval : Interval) → interval_rows e interval (before ++ rows) ≤ row_limit limits.IntervalRows
intervals_within e before rows within each interval =
    ⊎_elim (λ none. omega (arith, none, interval_rows-append e interval before rows, within.intervals interval)) (λ few. few) (none_or_few e interval before rows rows each)
