use Rattle.std.proofs.Common.{◌≡◌, ◌<◌, ℕ, get_or, [], false}
use Rattle.std.specs.Str.{bytes_eq}
use Rattle.asks.proofs.refusal.table_number.Given as goal

abbrev pub invariant-loop-i : goal.invariant-loop-i
invariant-loop-i l = (k : ℕ) → k < l.i → bytes_eq l.name (get_or l.tables k []) ≡ false
