-- What a fill is built of, and what contracts see of one that is built.
use Rattle.std.specs.Prelude.{◌≡◌, ℕ, List, map}
use Rattle.std.specs.List.{AllByRecursion}
use Rattle.std.specs.List.Sorted.{IsStrictlySortedBy}
use Rattle.intervals.specs.declared.interval.Interval.{Interval}
use Rattle.arch_types.specs.declared.row.Row.{Row}
use Rattle.intervals.specs.Interval.{interval_of}
use Rattle.arch_types.specs.Order.{key_cmp}
use Rattle.field_codec.specs.declared.entry.Entry.TheVariants as entries
use Rattle.field_codec.specs.Entries.{IsArchiveEntry}
use Rattle.field_codec.specs.Spelling.{entry_octets}
use Rattle.mdb_items.specs.Database.{Database}
use Rattle.param_segments.specs.Extracted.{IsSetOf}
use Rattle.param_segments.specs.Octets.{rows_in_octets, set_octets}
use Rattle.param_segments.specs.Rows.{SetRow}

-- rows of an interval, in the order of their keys, no key twice
pub record IsTaskRows (exponent : ℕ) (interval : Interval) (rows : List Row) : Type 0 where
  pub rising : IsStrictlySortedBy key_cmp (map (λ row. row.key) rows)
  pub inside : AllByRecursion (λ row. interval_of exponent row.key.time ≡ interval.0) rows

-- a fill that is built, with the exponent of its interval and the database of its set
pub record BuiltFill : Type 0 where
  pub interval : Interval
  pub exponent : ℕ
  pub base : ℕ
  pub mdb : Database
  pub set : List SetRow

-- a fill of this interval, exponent, base, database and set
abbrev pub built_fill : Interval → ℕ → ℕ → Database → List SetRow → BuiltFill
built_fill interval exponent base mdb set = record {
  interval = interval;
  exponent = exponent;
  base = base;
  mdb = mdb;
  set = set;
}

-- its record spells it, and the set is the one that the octets stand for, of the interval and of the database
pub record IsBuilt (interval : Interval) (exponent base : ℕ) (mdb : Database) (set : List SetRow) (frame : List ℕ)
    : Type 0 where
  pub fits : IsArchiveEntry (entries.Fill interval base (set_octets set))
  pub frame_is : frame ≡ entry_octets (entries.Fill interval base (set_octets set))
  pub set_is : rows_in_octets (set_octets set) ≡ set
  pub inside : IsSetOf mdb exponent interval.0 set
