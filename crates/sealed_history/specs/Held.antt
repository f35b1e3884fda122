-- Runs that have rows on a disk.
use Rattle.std.specs.Prelude.{◌≡◌, List, [], ◌∷◌, ◌++◌}
use Rattle.arch_disk.specs.Disk.{Device}
use Rattle.run_files.specs.Run.{HoldsRun}
use Rattle.run_files.specs.declared.run.Run.{Run}
use Rattle.run_pages.specs.Placed.{Placed}

-- runs have these rows on a disk, run behind run
abbrev pub HoldRuns : {D : Type 0} → Device D → List Run → List Placed → D → Type 0
HoldRuns device [] placed disk = placed ≡ []
HoldRuns device (run ∷ runs) placed disk =
    (rows : List Placed) × (more : List Placed) × (placed ≡ rows ++ more)
    × HoldsRun device run rows disk × HoldRuns device runs more disk
