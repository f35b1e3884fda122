use Rattle.std.proofs.Common.{◌≡◌, ◌++◌, ◌<◌, ◌≤◌, ◌+◌, ◌^◌, ℕ, suc, vec_len, vec_capacity}
use Rattle.varints.specs.Varint.{varint}
use Rattle.varints.proofs.varint.put_word.Given as goal

-- what is left has so many octets at most, and there's room for them
abbrev pub invariant-loop-rest : goal.invariant-loop-rest
invariant-loop-rest l = (l.out.items ++ varint l.rest ≡ l.initial.out.items ++ varint l.n) × (most : ℕ) × (l.rest < 128 ^ suc most) × (vec_len l.out + suc most ≤ vec_capacity l.out)

abbrev pub decreases-loop-rest : goal.decreases-loop-rest
decreases-loop-rest l = l.rest
