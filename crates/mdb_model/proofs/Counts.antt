-- The limits on the counts of a database.
use Rattle.std.proofs.Common.{◌≡◌, ◌<◌, ◌≤◌, ℕ, List, length, Option, Some, None, Bool, true, false, refl, arith}
use Rattle.std.specs.Prelude.{nat_lt, sum_by, if◌then◌else◌}
use Rattle.std.specs.Str.{bytes_eq}
use Rattle.std.specs.List.{position_or_len}
use Rattle.std.proofs.lemmas.Bool.{ltb-false, ltb-true}
use Rattle.std.proofs.lemmas.Option.{cond_some}
use Rattle.mdb_items.specs.declared.fault.MdbLimit.{MdbLimit}
use Rattle.mdb_items.specs.declared.fault.MdbLimit.TheVariants as limit
use Rattle.mdb_items.specs.Database.{Database, entry_count, limit_passed, passed_or, row_count}
use Rattle.mdb_items.specs.Limits.{database_limit}
use Rattle.mdb_items.specs.Texts.{Text, place_of}

none_passed : {X : Type 0} (b : Bool) (x : X) (rest : Option X) → (if b then Some x else rest) ≡ None → (b ≡ false) × (rest ≡ None)
none_passed true x rest e = cc
none_passed false x rest e = (refl, e)

pub record Counts (d : Database) : Type 0 where
  pub calibrations : length d.calibrations ≤ database_limit limit.Calibrations
  pub rows : sum_by row_count d.calibrations ≤ database_limit limit.CalibrationRows
  pub parameters : length d.parameters ≤ database_limit limit.Parameters
  pub containers : length d.containers ≤ database_limit limit.Containers
  pub entries : sum_by entry_count d.containers ≤ database_limit limit.Entries

abbrev Passed : Type 0
Passed = Option (MdbLimit × ℕ)

-- where nothing is passed a quantity is within its limit, and none of the others is passed
within : (quantity : MdbLimit) (count : ℕ) (others : Passed) → passed_or quantity count others ≡ None → (count ≤ database_limit quantity) × (others ≡ None)
within quantity count others none =
    let p = none_passed (nat_lt (database_limit quantity) count) (quantity, database_limit quantity) others none in
    (ltb-false (database_limit quantity) count p.0, p.1)

-- where no limit is passed each count is within its limit
pub counts : (d : Database) → limit_passed d ≡ None → Counts d
counts d small =
    let e5 : Passed = passed_or limit.Entries (sum_by entry_count d.containers) None in
    let e4 : Passed = passed_or limit.Containers (length d.containers) e5 in
    let e3 : Passed = passed_or limit.Parameters (length d.parameters) e4 in
    let e2 : Passed = passed_or limit.CalibrationRows (sum_by row_count d.calibrations) e3 in
    let a = within limit.Calibrations (length d.calibrations) e2 small in
    let b = within limit.CalibrationRows (sum_by row_count d.calibrations) e3 a.1 in
    let c = within limit.Parameters (length d.parameters) e4 b.1 in
    let k = within limit.Containers (length d.containers) e5 c.1 in
    let e = within limit.Entries (sum_by entry_count d.containers) None k.1 in
    record { calibrations = a.0; rows = b.0; parameters = c.0; containers = k.0; entries = e.0 }

-- the place of a name is within the names
pub place_within : (name : Text) (names : List Text) (n : ℕ) → place_of name names ≡ Some n → n < length names
place_within name names n is =
    let p = cond_some (nat_lt (position_or_len (bytes_eq name) names) (length names)) (position_or_len (bytes_eq name) names) n is in
    let less = ltb-true (position_or_len (bytes_eq name) names) (length names) p.0 in
    let same = p.1 in
    omega arith
