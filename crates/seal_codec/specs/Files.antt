-- The files that a seal names.
use Rattle.std.specs.Prelude.{ℕ, List, [], ◌∷◌, ◌++◌, map, Bool, true, ◌&&◌, nat_lt}
use Rattle.seal_codec.specs.declared.seal.Seal.{Seal}

-- those of its runs, then that of its fills, then its log
abbrev pub files_named : Seal → List ℕ
files_named seal = map (λ run. run.file) seal.runs ++ seal.fills ∷ seal.log ∷ []

-- whether each is above the one before, and the first above this one
abbrev pub are_rising : ℕ → List ℕ → Bool
are_rising file [] = true
are_rising file (next ∷ files) = nat_lt file next && are_rising next files
