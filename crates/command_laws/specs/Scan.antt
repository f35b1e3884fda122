-- The clause of `scan`.
use Rattle.std.specs.Prelude.{◌≡◌, ◌⊎◌, ◌<◌, ℕ, ℤ, List, [], length, IsNone, IsSomeAnd, Option, Some}
use Rattle.std.specs.FinMap.{get}
use Rattle.arch_disk.specs.Disk.{Device}
use Rattle.arch_types.specs.Dump.{IsDump}
use Rattle.refusals.specs.declared.refusal.BadKind.{BadKind}
use Rattle.refusals.specs.declared.refusal.Refusal.TheVariants.{BadPacket, Limit, Missing}
use Rattle.refusals.specs.declared.refusal.Which.TheVariants.{DumpOctets}
use Rattle.outer_traits.specs.Outside.{Files}
use Rattle.dump_lines.specs.Text.{last_line, row_lines}
use Rattle.command_words.specs.Job.{Scan}
use Rattle.command_runs.specs.DumpRest.{IsBadRest, dump_limit}
use Rattle.command_runs.specs.Moment.{IsMomentOf}
use Rattle.command_runs.specs.Report.{unopened}
use Rattle.command_laws.specs.Calls.{Call, IsRefusedBy, IsRun, Prints, Succeeded, WasInterrupted}
use Rattle.command_laws.specs.Dumps.{IsDumpPrinted}
use Rattle.command_laws.specs.NamedFiles.{HasFile}

-- what is printed of a dump of these packets and this rest, received at a moment: the lines of the first packet of each
-- key, in the order of the keys, and the line of counts
abbrev pub IsScanPrinted : {D : Type 0} → Call D → List ℕ → List (List ℕ) → List ℕ → ℤ → Type 0
IsScanPrinted e dump packets rest moment =
    IsDumpPrinted e dump rest (row_lines packets moment) (last_line packets moment)

-- The very disk is handed back. Of the dump, received at the moment that the clock tells or at some one moment in its
-- range, the rows are printed. It is missing, too long or has a rest exactly where the refusal says so, and a dump of
-- packets alone is printed whole, but for want of memory and calls that fail.
pub record IsScanned {D : Type 0} (device : Device D) (e : Call D) (files : Files) (clock : Option ℤ)
    (name : List ℕ) : Type 0 where
  pub disk : e.disk' ≡ e.disk
  pub report : e.report ≡ unopened e.report.refusal
  pub printed : (dump rest : List ℕ) (packets : List (List ℕ)) → get files name ≡ Some dump
      → IsDump dump packets rest → (moment : ℤ) × IsMomentOf clock moment × IsScanPrinted e dump packets rest moment
  pub missing : e.report.refusal ≡ Some (Missing name) → IsNone (get files name) × Prints e []
  pub too_long : e.report.refusal ≡ Some (Limit DumpOctets dump_limit)
      → IsSomeAnd (get files name) (λ dump. dump_limit < length dump) × Prints e []
  pub lacking : IsNone (get files name) → IsRefusedBy device e (Missing name)
  pub overlong : IsSomeAnd (get files name) (λ dump. dump_limit < length dump)
      → IsRefusedBy device e (Limit DumpOctets dump_limit)
  pub broken : (dump rest : List ℕ) (packets : List (List ℕ)) (at : ℕ) (kind : BadKind)
      → HasFile files DumpOctets name dump → IsDump dump packets rest → IsBadRest dump rest at kind
      → IsRefusedBy device e (BadPacket at kind)
  pub complete : (dump : List ℕ) (packets : List (List ℕ)) → HasFile files DumpOctets name dump
      → IsDump dump packets [] → Succeeded e ⊎ WasInterrupted device e

-- so it is of each call for this job
abbrev pub ScanClause : {D : Type 0} → Device D → Type 0
ScanClause {D = D} device =
    (e : Call D) (files : Files) (clock : Option ℤ) (name : List ℕ) → IsRun device e files clock (Scan name)
    → IsScanned device e files clock name
