-- The times of rows that a store gives, and of their intervals.
use Rattle.std.proofs.Common.{ℕ, ℤ, pos, ◌+◌, ◌*◌, ◌/◌, ◌<◌, ◌≤◌, List, Bool, true, false, sym, subst, arith}
use Rattle.std.specs.Prelude.{◌^◌, if◌then◌else◌}
use Rattle.std.specs.List.{AllByRecursion}
use Rattle.std.proofs.lemmas.Int.{ints}
use Rattle.std.proofs.Math.Nat.{div-le_self}
use Rattle.intervals.specs.declared.interval.Interval.{Interval}
use Rattle.arch_types.specs.declared.key.Key.{Key}
use Rattle.arch_types.specs.declared.row.Row.{Row}
use Rattle.arch_types.specs.GenerationTime.{generation_time, is_timed, number_of_2, number_of_4}
use Rattle.text_forms.specs.ClockTime.{IsClockTime}
use Rattle.octet_fields.specs.Exact.{IsOctets}
use Rattle.history_items.specs.declared.items.Item.{Item}
use Rattle.history_items.specs.Items.{rows_in}
use Rattle.history_items.specs.Late.{StandsIn}
use Rattle.history_items.proofs.ItemLists.{all_in}
use Rattle.archive_images.specs.declared.head.Head.{Head}
use Rattle.archive_images.specs.Entries.{IsArchivedRow}
use Rattle.intervals.specs.Interval.{HasClockTime}

-- ---- rows

two_small : (p : List ℕ) (i : ℕ) → IsOctets p → number_of_2 p i < 2 ^ 16
two_small p i are = omega (arith, are i, are (i + 1))

four_small : (p : List ℕ) (i : ℕ) → IsOctets p → number_of_4 p i < 2 ^ 32
four_small p i are = omega (arith, two_small p i are, two_small p (i + 2) are)

-- a number of milliseconds below the end of the clock's range
in_clock : (n : ℕ) → n ≤ 253402300799999 → IsClockTime (pos n)
in_clock n few = (omega (arith, ints), omega (arith, ints, few))

pub generated_in_clock : (p : List ℕ) (rectime : ℤ) → IsOctets p → IsClockTime rectime → IsClockTime (generation_time p rectime)
generated_in_clock p rectime are clock = go (is_timed p)
  where
    go : (b : Bool) → IsClockTime (if b then pos (1000 * number_of_4 p 6 + number_of_2 p 10 * 1000 / 2 ^ 16) else rectime)
    go true = in_clock (1000 * number_of_4 p 6 + number_of_2 p 10 * 1000 / 2 ^ 16)
        (omega (arith, four_small p 6 are, two_small p 10 are, div-le_self (number_of_2 p 10 * 1000) (2 ^ 16)))
    go false = clock

pub archived_time : (head : Head) (history : List Item) (row : Row) → IsArchivedRow head history row → IsClockTime row.key.time
archived_time head history row is = subst (λ (k : Key). IsClockTime k.time) (sym is.stored.key) (generated_in_clock row.packet row.rectime is.octets is.stored.rectime)

-- ---- intervals

-- an interval in which a row of an archive stands
pub stands_in_clock : (head : Head) (exponent : ℕ) (history : List Item) (interval : Interval) (position : ℕ) → AllByRecursion (IsArchivedRow head history) (rows_in history) → StandsIn exponent interval position history → HasClockTime exponent interval
stands_in_clock head exponent history interval position all stands = (
  stands.row.key.time,
  archived_time head history stands.row (all_in (IsArchivedRow head history) history position stands.row all stands.there),
  stands.time,
)
