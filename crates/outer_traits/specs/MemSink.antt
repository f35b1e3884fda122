-- The writes of a sink in memory that are to fail.
use Rattle.std.specs.Prelude.{◌==◌, ℕ, Bool, List}
use Rattle.std.specs.List.{list_any}

-- a write is among those that are to fail, by its number
abbrev pub is_failing_write : List ℕ → ℕ → Bool
is_failing_write calls write = list_any (λ call. call == write) calls
