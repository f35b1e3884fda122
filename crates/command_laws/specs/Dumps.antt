-- What is printed of a dump.
use Rattle.std.specs.Prelude.{◌≡◌, ℕ, List, [], ◌++◌, Some}
use Rattle.refusals.specs.declared.refusal.BadKind.{BadKind}
use Rattle.refusals.specs.declared.refusal.Refusal.TheVariants.{BadPacket}
use Rattle.command_runs.specs.DumpRest.{IsBadRest}
use Rattle.command_laws.specs.Calls.{Call, Prints, PrintsSome, Succeeded}

-- What is printed of a dump with this rest: a prefix of these lines and the last one. At status 0 nothing is left of
-- the dump, and all of them are; at a BadPacket, which names the octet at which no packet begins, all but the last
-- line.
pub record IsDumpPrinted {D : Type 0} (e : Call D) (dump rest lines last : List ℕ) : Type 0 where
  pub some : PrintsSome e (lines ++ last)
  pub whole : Succeeded e → (rest ≡ []) × Prints e (lines ++ last)
  pub bad : (at : ℕ) (kind : BadKind) → e.report.refusal ≡ Some (BadPacket at kind)
      → IsBadRest dump rest at kind × Prints e lines
