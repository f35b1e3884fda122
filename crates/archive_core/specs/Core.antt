-- What contracts see of a core.
use Rattle.std.specs.Prelude.{ℕ, List}
use Rattle.interval_fills.specs.Steps.{MachineState, first_state}
use Rattle.mdb_items.specs.Database.{Database}

-- the names of its tables and its database, the exponent of its intervals, and the state that the events so far led to
pub record CoreView : Type 0 where
  pub tables : List (List ℕ)
  pub mdb : Database
  pub exponent : ℕ
  pub state : MachineState

-- a core before its first event
abbrev pub first_core : List (List ℕ) → Database → ℕ → CoreView
first_core tables mdb exponent = record { tables = tables; mdb = mdb; exponent = exponent; state = first_state }
