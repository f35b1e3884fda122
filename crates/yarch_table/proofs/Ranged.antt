-- Entries outside a range of times.
use Rattle.std.proofs.Common.{◌≡◌, ℕ, zero, suc, ℤ, ◌<◌, List, [], ◌∷◌, length, Bool, true, false, cond, Option, Some, None, sym, ◌∙◌, ap, subst, refl, arith}
use Rattle.std.specs.Prelude.{int_lt, if◌then◌else◌, ◌&&◌, not, nat_lt, filter}
use Rattle.std.specs.List.{AllByRecursion, cons_option}
use Rattle.std.specs.Ordering.{is_le, nat_cmp, ordering_then}
use Rattle.std.specs.declared.cmp.Ordering.{Ordering}
use Rattle.std.specs.declared.cmp.Ordering.TheVariants.{Less, Equal, Greater}
use Rattle.std.specs.BTreeMap.Range.{entries_from}
use Rattle.std.proofs.lemmas.Bool.Decides.{nat_tests}
use Rattle.std.proofs.lemmas.Int.{ints}
use Rattle.std.proofs.lemmas.Option.{slice_get-get_or}
use Rattle.arch_types.specs.declared.row.Row.{Row}
use Rattle.arch_types.specs.declared.key.Key.{Key}
use Rattle.arch_types.specs.Order.{key_cmp}
use Rattle.arch_types.specs.Table.{is_in_time_range}
use Rattle.block_map.specs.Rising.{IsBelow}
use Rattle.yarch_table.specs.declared.table.Stored.{Stored}
use Rattle.yarch_table.specs.Stored.{seen_at, seen_between}
use Rattle.yarch_table.specs.Index.{IsEntryOf, stored_at, rows_left, is_seen, is_before_end, AreRisingKeys, IsKeyIndex}
use Rattle.yarch_table.proofs.RowsLeft.{rows_left-seen}

-- what the first entry shows
shown_cases : (b : Bool) (front : ℕ) (end : Option ℤ) (s : Stored) (more : List Row) → is_seen front end s ≡ b →
    cons_option (if is_seen front end s then Some s.row else None) more ≡ cond b (s.row ∷ more) more
shown_cases true front end s more e = rw e
shown_cases false front end s more e = rw e

pub rows_left-first : (stored : List Stored) (front : ℕ) (end : Option ℤ) (e : Key × ℕ) (es : List (Key × ℕ)) (d : Stored) (b : Bool) → e.1 < length stored →
    is_seen front end (stored_at stored d e) ≡ b → rows_left stored front end (e ∷ es) ≡ cond b ((stored_at stored d e).row ∷ rows_left stored front end es) (rows_left stored front end es)
rows_left-first stored front end e es d b within seen =
    rw (slice_get-get_or stored e.1 d within) (shown_cases b front end (stored_at stored d e) (rows_left stored front end es) seen)

-- the test of a time and that of a position are all of what is seen
seen_cases : (b c : Bool) → c ≡ true → (b && c) ≡ b
seen_cases true c h = h
seen_cases false c h = refl

pub seen_below : (stored : List Stored) (front : ℕ) (end : Option ℤ) (e : Key × ℕ) (d : Stored) → IsEntryOf stored e → is_before_end end e.0.time ≡ true →
    is_seen front end (stored_at stored d e) ≡ nat_lt (stored_at stored d e).position front
seen_below stored front end e d n within =
    let P : Key → Type 0 = λ k. is_before_end end k.time ≡ true in
    seen_cases (nat_lt (stored_at stored d e).position front) (is_before_end end (stored_at stored d e).row.key.time) (subst P (n.1 d) within)

time_cases : (x y high : ℤ) (p q : Bool) (rest : Ordering) → int_lt x y ≡ p → int_lt y x ≡ q → ordering_then (cond p Less (cond q Greater Equal)) rest ≡ Less → int_lt x high ≡ false → int_lt y high ≡ false
time_cases x y high true q rest ep eq less h = grind (arith, ints)
time_cases x y high false true rest ep eq less h = absurd cc
time_cases x y high false false rest ep eq less h = grind (arith, ints)

-- a later key has no earlier time
later_time : (a b : Key) (end : Option ℤ) → key_cmp a b ≡ Less → is_before_end end a.time ≡ false → is_before_end end b.time ≡ false
later_time a b None less h = absurd cc
later_time a b (Some high) less h = time_cases a.time b.time high (int_lt a.time b.time) (int_lt b.time a.time) (nat_cmp a.seq b.seq) refl refl less h

and_false : (b : Bool) → (b && false) ≡ false
and_false true = refl
and_false false = refl

unseen_past : (front : ℕ) (end : Option ℤ) (s : Stored) → is_before_end end s.row.key.time ≡ false → is_seen front end s ≡ false
unseen_past front end s h = rw h (and_false (nat_lt s.position front))

moved_past : (stored : List Stored) (d : Stored) (e : Key × ℕ) (end : Option ℤ) → IsEntryOf stored e → is_before_end end e.0.time ≡ false → is_before_end end (stored_at stored d e).row.key.time ≡ false
moved_past stored d e end n past = let P : Key → Type 0 = λ k. is_before_end end k.time ≡ false in subst P (n.1 d) past

none_after : (stored : List Stored) (front : ℕ) (end : Option ℤ) (d : Stored) (k : Key) (es : List (Key × ℕ)) → AllByRecursion (IsEntryOf stored) es → IsBelow key_cmp k es → is_before_end end k.time ≡ false →
    rows_left stored front end es ≡ []
none_after stored front end d k [] each below past = refl
none_after stored front end d k (e ∷ es) each below past =
    rows_left-first stored front end e es d false each.0.0 (unseen_past front end (stored_at stored d e) (moved_past stored d e end each.0 (later_time k e.0 end below.0 past)))
    ∙ none_after stored front end d k es each.1 below.1 past

-- no row is seen from an entry on whose time is past the end
pub none_past : (stored : List Stored) (front : ℕ) (end : Option ℤ) (e : Key × ℕ) (es : List (Key × ℕ)) → AreRisingKeys stored (e ∷ es) → is_before_end end e.0.time ≡ false →
    (rows_left stored front end (e ∷ es) ≡ []) × (rows_left stored front end es ≡ [])
none_past [] front end e es up past = let within = up.each.0.0 in absurd (omega arith)
none_past (d ∷ stored) front end e es up past =
    let after = none_after (d ∷ stored) front end d e.0 es up.each.1 up.rising.0 past in
    (rows_left-first (d ∷ stored) front end e es d false up.each.0.0 (unseen_past front end (stored_at (d ∷ stored) d e) (moved_past (d ∷ stored) d e end up.each.0 past)) ∙ after, after)

-- the first key of a time
abbrev pub first_key : ℤ → Key
first_key time = record { time = time; seq = 0 }

from_cases : (low time : ℤ) (n : ℕ) (p q : Bool) → int_lt low time ≡ p → int_lt time low ≡ q → is_le (ordering_then (cond p Less (cond q Greater Equal)) (nat_cmp 0 n)) ≡ not q
from_cases low time n true true ep eq = grind (arith, ints)
from_cases low time n true false ep eq = refl
from_cases low time n false true ep eq = refl
from_cases low time zero false false ep eq = refl
from_cases low time (suc n) false false ep eq = let z : nat_lt 0 (suc n) ≡ true = grind (arith, nat_tests) in rw z

-- the keys that aren't below all those of a time are those of no earlier time
is_from : (low : ℤ) (a : Key) → is_le (key_cmp (first_key low) a) ≡ not (int_lt a.time low)
is_from low a = from_cases low a.time a.seq (int_lt low a.time) (int_lt a.time low) refl refl

skip_cases : (q : Row → Bool) (b c : Bool) (row : Row) (from all : List Row) → q row ≡ b → from ≡ filter q all →
    cond b (cond c (row ∷ from) from) from ≡ filter q (cond c (row ∷ all) all)
skip_cases q true true row from all h e = rw (h, e)
skip_cases q true false row from all h e = e
skip_cases q false true row from all h e = rw (h, e)
skip_cases q false false row from all h e = e

first_cases : (stored : List Stored) (front : ℕ) (end : Option ℤ) (d : Stored) (e : Key × ℕ) (es : List (Key × ℕ)) (b : Bool) → IsEntryOf stored e →
    rows_left stored front end (cond b (e ∷ es) es) ≡ cond b (cond (is_seen front end (stored_at stored d e)) ((stored_at stored d e).row ∷ rows_left stored front end es) (rows_left stored front end es)) (rows_left stored front end es)
first_cases stored front end d e es true n = rows_left-first stored front end e es d (is_seen front end (stored_at stored d e)) n.0 refl
first_cases stored front end d e es false n = refl

from_shows_by : (stored : List Stored) (front : ℕ) (low : ℤ) (end : Option ℤ) (d : Stored) (es : List (Key × ℕ)) → AllByRecursion (IsEntryOf stored) es →
    rows_left stored front end (entries_from (key_cmp (first_key low)) es) ≡ filter (λ row. not (int_lt row.key.time low)) (rows_left stored front end es)
from_shows_by stored front low end d [] each = refl
from_shows_by stored front low end d (e ∷ es) each =
    let s = stored_at stored d e in
    let b = is_le (key_cmp (first_key low) e.0) in
    let from = rows_left stored front end (entries_from (key_cmp (first_key low)) es) in
    let time : not (int_lt s.row.key.time low) ≡ b = ap (λ (k : Key). not (int_lt k.time low)) (sym (each.0.1 d)) ∙ sym (is_from low e.0) in
    first_cases stored front end d e (entries_from (key_cmp (first_key low)) es) b each.0
    ∙ skip_cases (λ row. not (int_lt row.key.time low)) b (is_seen front end s) s.row from (rows_left stored front end es) time (from_shows_by stored front low end d es each.1)
    ∙ ap (filter (λ row. not (int_lt row.key.time low))) (sym (rows_left-first stored front end e es d (is_seen front end s) each.0.0 refl))

-- the entries from a time on show the rows that have no earlier time
from_shows : (stored : List Stored) (front : ℕ) (low : ℤ) (end : Option ℤ) (es : List (Key × ℕ)) → AllByRecursion (IsEntryOf stored) es →
    rows_left stored front end (entries_from (key_cmp (first_key low)) es) ≡ filter (λ row. not (int_lt row.key.time low)) (rows_left stored front end es)
from_shows [] front low end [] each = refl
from_shows [] front low end (e ∷ es) each = let within = each.0.0 in absurd (omega arith)
from_shows (d ∷ stored) front low end es each = from_shows_by (d ∷ stored) front low end d es each

both_cases : (q : Row → Bool) (b c : Bool) (row : Row) (rest both : List Row) → q row ≡ b → filter q rest ≡ both →
    filter q (cond c (row ∷ rest) rest) ≡ cond (b && c) (row ∷ both) both
both_cases q true true row rest both h e = rw (h, e)
both_cases q true false row rest both h e = e
both_cases q false true row rest both h e = rw (h, e)
both_cases q false false row rest both h e = e

in_range : (low high : ℤ) (rows : List Row) → filter (λ row. not (int_lt row.key.time low)) (filter (λ row. int_lt row.key.time high) rows) ≡ filter (is_in_time_range low high) rows
in_range low high [] = refl
in_range low high (row ∷ rows) =
    both_cases (λ r. not (int_lt r.key.time low)) (not (int_lt row.key.time low)) (int_lt row.key.time high) row (filter (λ r. int_lt r.key.time high) rows) (filter (is_in_time_range low high) rows) refl (in_range low high rows)

-- the entries from a time on show, before an end, the rows between them
pub rows_left-between : (stored : List Stored) (front : ℕ) (low high : ℤ) (es : List (Key × ℕ)) → IsKeyIndex stored es →
    rows_left stored front (Some high) (entries_from (key_cmp (first_key low)) es) ≡ seen_between front low high stored
rows_left-between stored front low high es index =
    from_shows stored front low (Some high) es index.each
    ∙ ap (filter (λ row. not (int_lt row.key.time low))) (rows_left-seen stored front (Some high) es index)
    ∙ in_range low high (seen_at front stored)

name_cases : (P : Key × ℕ → Type 0) (e : Key × ℕ) (rest : List (Key × ℕ)) (b : Bool) → P e → AllByRecursion P rest → AllByRecursion P (cond b (e ∷ rest) rest)
name_cases P e rest true one more = (one, more)
name_cases P e rest false one more = more

pub from_names : (P : Key × ℕ → Type 0) (k : Key) (es : List (Key × ℕ)) → AllByRecursion P es → AllByRecursion P (entries_from (key_cmp k) es)
from_names P k [] each = tt
from_names P k (e ∷ es) each = name_cases P e (entries_from (key_cmp k) es) (is_le (key_cmp k e.0)) each.0 (from_names P k es each.1)
