use Rattle.std.specs.Prelude.{ℕ, ◌<◌, List, slice_index}
use Rattle.std.proofs.Common.{subst}
use Rattle.arch_types.proofs.octets.Octets.is_octets.Goals as goal

pub returns : goal.returns
returns c = subst (λ (l : List ℕ). (i : ℕ) → slice_index l i < 256) c.as_slice.ensures c.slice_is_octets.ensures
