-- Seals: their one spelling, and how they are read.
use Rattle.std.specs.Prelude.{ℕ, ◌<◌, ◌≤◌, ◌^◌, List, length, ◌++◌, Bool, nat_le}
use Rattle.std.specs.Int.{w8, w32, w64}
use Rattle.std.specs.List.{AllByRecursion}
use Rattle.octet_fields.specs.Reading.{Reader, both_at, mapped_at, number_at, tested_at, times_at}
use Rattle.octet_fields.specs.Spelling.{counted, number}
use Rattle.seal_codec.specs.declared.seal.Seal.{Seal}
use Rattle.seal_codec.specs.declared.seal.SealedRun.{SealedRun}

-- ---- what has a spelling

-- a table of 8 bits, a file of 32
pub record IsSealedRun (run : SealedRun) : Type 0 where
  pub table : run.table < 2 ^ 8
  pub file : run.file < 2 ^ 32

-- a number of rows of 64 bits, files of 32, and at most 16 runs
pub record IsSeal (seal : Seal) : Type 0 where
  pub rows : seal.rows < 2 ^ 64
  pub log : seal.log < 2 ^ 32
  pub fills : seal.fills < 2 ^ 32
  pub few : length seal.runs ≤ 16
  pub each : AllByRecursion IsSealedRun seal.runs

-- ---- the spelling

-- u8 table, u32 file
unfoldable pub sealed_run_octets : SealedRun → List ℕ
sealed_run_octets run = number w8 run.table ++ number w32 run.file

-- u64 rows, u32 log, u32 file of the fills, u8 count of runs, and each
unfoldable pub seal_octets : Seal → List ℕ
seal_octets seal =
    number w64 seal.rows ++ (number w32 seal.log ++ (number w32 seal.fills ++ counted w8 sealed_run_octets seal.runs))

-- ---- the reader

-- the run of a table and a file
abbrev pub sealed_run_of : ℕ × ℕ → SealedRun
sealed_run_of f = record { table = f.0; file = f.1 }

-- reads a run
unfoldable pub sealed_run_at : Reader SealedRun
sealed_run_at = mapped_at sealed_run_of (both_at (number_at w8) (λ _. number_at w32))

-- a seal has at most 16 runs
abbrev pub is_run_count : ℕ → Bool
is_run_count n = nat_le n 16

-- reads the runs of a seal, behind their count
unfoldable pub runs_at : Reader (List SealedRun)
runs_at = mapped_at (λ p. p.1) (both_at (tested_at is_run_count (number_at w8)) (λ n. times_at sealed_run_at n))

-- the seal of the fields that were read, in their order
abbrev pub seal_of : ℕ × (ℕ × (ℕ × List SealedRun)) → Seal
seal_of f = record { rows = f.0; log = f.1.0; fills = f.1.1.0; runs = f.1.1.1 }

-- reads the fields of a seal
unfoldable pub seal_at : Reader Seal
seal_at = mapped_at seal_of (both_at (number_at w64) (λ _. both_at (number_at w32) (λ _. both_at (number_at w32) (λ _. runs_at))))
