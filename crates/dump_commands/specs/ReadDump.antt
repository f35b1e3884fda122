-- A dump that was received: its packets and its rest.
use Rattle.std.specs.Prelude.{ℕ, ℤ, ◌≤◌, List, length, Option}
use Rattle.refusals.specs.declared.refusal.Which.TheVariants.{DumpOctets}
use Rattle.outer_traits.specs.Outside.{Files}
use Rattle.outer_traits.specs.Whole.{IsInput}
use Rattle.dump_pieces.specs.declared.reading.DumpEnd.{DumpEnd}
use Rattle.dump_pieces.specs.Reading.{IsWholeDump}
use Rattle.command_plans.specs.Inputs.{WasRead, input_plan}
use Rattle.outer_traits.specs.States.{InputsState}
use Rattle.command_runs.specs.Moment.{IsMomentOf}
use Rattle.command_runs.specs.DumpRest.{dump_limit}

-- the named input was read to its end as a dump of these packets, of which this is kept
pub record IsInputReceived (files : Option Files) (name : List ℕ) (keeps : List (List ℕ) → Type 0)
    (end : DumpEnd) : Type 0 where
  pub dump : List ℕ
  pub packets : List (List ℕ)
  pub whole : IsInput files name dump
  pub short : length dump ≤ dump_limit
  pub received : IsWholeDump dump packets end
  pub kept : keeps packets

-- a dump was read by its plan and received at the moment that the clock tells, and this is kept of its packets
pub record IsDumpReceived (files : Option Files) (clock : Option ℤ) (name : List ℕ) (old new : InputsState)
    (keeps : ℤ → List (List ℕ) → Type 0) (end : DumpEnd) : Type 0 where
  pub dump : List ℕ
  pub packets : List (List ℕ)
  pub moment : ℤ
  pub read : WasRead (input_plan files DumpOctets (λ octets. octets) name) dump 1 old new
  pub short : length dump ≤ dump_limit
  pub known : IsMomentOf clock moment
  pub received : IsWholeDump dump packets end
  pub kept : keeps moment packets
