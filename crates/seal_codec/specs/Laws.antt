-- What holds of the spellings of seals.
use Rattle.std.specs.Prelude.{◌≡◌, ℕ, List, ◌++◌}
use Rattle.seal_codec.specs.declared.seal.Seal.{Seal}
use Rattle.seal_codec.specs.Seals.{IsSeal, seal_octets}

-- octets begin with the spelling of one seal at most, so that none begins another
abbrev pub SealsAreOne : Type 0
SealsAreOne = (a b : Seal) (x y : List ℕ) → IsSeal a → IsSeal b → seal_octets a ++ x ≡ seal_octets b ++ y → (a ≡ b) × (x ≡ y)
