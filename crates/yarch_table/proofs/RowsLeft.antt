-- The rows that the index gives at a front, as the stored rows below the front in the order of their keys.
use Rattle.std.proofs.Common.{◌≡◌, ℕ, ℤ, List, [], ◌∷◌, map, Bool, true, false, cond, Option, Some, None, refl, ◌∙◌, ap, arith}
use Rattle.std.specs.Prelude.{filter, fold, if◌then◌else◌, ◌&&◌, nat_lt}
use Rattle.std.specs.Cmp.{IsStrictWeakOrder}
use Rattle.std.proofs.lemmas.List.Sorted.{ranks_by}
use Rattle.std.specs.List.{AllByRecursion, cons_option}
use Rattle.std.proofs.lemmas.Option.{slice_get-get_or}
use Rattle.arch_types.specs.declared.row.Row.{Row}
use Rattle.arch_types.specs.declared.key.Key.{Key}
use Rattle.arch_types.specs.Order.{order_by, place_by, is_before}
use Rattle.arch_types.specs.Table.{sorted}
use Rattle.arch_types.proofs.Ranks.{key_cmp_total}
use Rattle.arch_types.proofs.Ordered.{filter-order}
use Rattle.yarch_table.specs.declared.table.Stored.{Stored}
use Rattle.yarch_table.specs.Stored.{rows_of, rows_below, seen_at}
use Rattle.yarch_table.specs.Index.{stored_at, comes_before, IsEntryOf, IsKeyIndex, rows_left, is_seen, is_before_end}

-- what is seen, as a filter
cons_cases : (b : Bool) (s : Stored) (seen : List Stored) (rows : List Row) → rows ≡ rows_of seen →
    cons_option (if b then Some s.row else None) rows ≡ rows_of (cond b (s ∷ seen) seen)
cons_cases true s seen rows e = ap (λ (x : List Row). s.row ∷ x) e
cons_cases false s seen rows e = e

rows_left-filter : (stored : List Stored) (d : Stored) (front : ℕ) (end : Option ℤ) (es : List (Key × ℕ)) → AllByRecursion (IsEntryOf stored) es →
    rows_left stored front end es ≡ rows_of (filter (is_seen front end) (map (stored_at stored d) es))
rows_left-filter stored d front end [] all = refl
rows_left-filter stored d front end (e ∷ es) all =
    rw (slice_get-get_or stored e.1 d all.0.0)
    (cons_cases (is_seen front end (stored_at stored d e)) (stored_at stored d e) (filter (is_seen front end) (map (stored_at stored d) es)) (rows_left stored front end es) (rows_left-filter stored d front end es all.1))

-- key_cmp ranks stored rows
ranks : IsStrictWeakOrder comes_before
ranks = ranks_by key_cmp_total (λ (s : Stored). s.row.key)

place_cases : (b : Bool) (x y : Stored) (ys : List Stored) (rows : List Row) → rows_of (place_by comes_before ys x) ≡ rows →
    rows_of (if b then x ∷ y ∷ ys else y ∷ place_by comes_before ys x) ≡ (if b then x.row ∷ y.row ∷ rows_of ys else y.row ∷ rows)
place_cases true x y ys rows e = refl
place_cases false x y ys rows e = ap (λ (r : List Row). y.row ∷ r) e

rows-place : (ys : List Stored) (x : Stored) → rows_of (place_by comes_before ys x) ≡ place_by is_before (rows_of ys) x.row
rows-place [] x = refl
rows-place (y ∷ ys) x = place_cases (comes_before x y) x y ys (place_by is_before (rows_of ys) x.row) (rows-place ys x)

rows-fold : (acc xs : List Stored) → rows_of (fold (place_by comes_before) acc xs) ≡ fold (place_by is_before) (rows_of acc) (rows_of xs)
rows-fold acc [] = refl
rows-fold acc (x ∷ xs) = rw (rows-fold (place_by comes_before acc x) xs, rows-place acc x)

-- the rows of ordered stored rows
pub rows-order : (xs : List Stored) → rows_of (order_by comes_before xs) ≡ sorted (rows_of xs)
rows-order xs = rows-fold [] xs

two_cases : (q : Row → Bool) (b c : Bool) (s : Stored) (both first : List Stored) → q s.row ≡ c → rows_of both ≡ filter q (rows_of first) →
    rows_of (cond (b && c) (s ∷ both) both) ≡ filter q (rows_of (cond b (s ∷ first) first))
two_cases q true true s both first h e = rw (h, e)
two_cases q true false s both first h e = rw (h, e)
two_cases q false c s both first h e = e

filter-filter : (front : ℕ) (end : Option ℤ) (xs : List Stored) → rows_of (filter (is_seen front end) xs) ≡ filter (λ row. is_before_end end row.key.time) (rows_below front xs)
filter-filter front end [] = refl
filter-filter front end (x ∷ xs) =
    two_cases (λ row. is_before_end end row.key.time) (nat_lt x.position front) (is_before_end end x.row.key.time) x (filter (is_seen front end) xs) (filter (λ s. nat_lt s.position front) xs) refl (filter-filter front end xs)

-- all entries give the rows below the front and before the end
pub rows_left-seen : (stored : List Stored) (front : ℕ) (end : Option ℤ) (es : List (Key × ℕ)) → IsKeyIndex stored es →
    rows_left stored front end es ≡ filter (λ row. is_before_end end row.key.time) (seen_at front stored)
rows_left-seen [] front end [] index = refl
rows_left-seen [] front end (e ∷ es) index = let n = index.each.0.0 in absurd (omega arith)
rows_left-seen (s ∷ stored) front end es index =
    rows_left-filter (s ∷ stored) s front end es index.each
    ∙ ap (λ (xs : List Stored). rows_of (filter (is_seen front end) xs)) (index.order s)
    ∙ filter-filter front end (order_by comes_before (s ∷ stored))
    ∙ ap (λ (xs : List Stored). filter (λ row. is_before_end end row.key.time) (rows_of xs)) (filter-order ranks (λ x. nat_lt x.position front) (s ∷ stored))
    ∙ ap (filter (λ row. is_before_end end row.key.time)) (rows-order (filter (λ x. nat_lt x.position front) (s ∷ stored)))

filter-all : (rows : List Row) → filter (λ row. true) rows ≡ rows
filter-all [] = refl
filter-all (row ∷ rows) = ap (λ (r : List Row). row ∷ r) (filter-all rows)

-- without an end they give all rows below the front
pub rows_left-all : (stored : List Stored) (front : ℕ) (es : List (Key × ℕ)) → IsKeyIndex stored es → rows_left stored front None es ≡ seen_at front stored
rows_left-all stored front es index = rows_left-seen stored front None es index ∙ filter-all (seen_at front stored)
