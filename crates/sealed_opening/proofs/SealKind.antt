-- How the record of a seal begins.
use Rattle.std.proofs.Common.{◌≡◌, ℕ, List, Option, Some, refl, ◌∙◌, ap}
use Rattle.std.specs.Prelude.{slice_get}
use Rattle.octet_fields.specs.Spelling.{number}
use Rattle.seal_codec.specs.declared.seal.Seal.{Seal}
use Rattle.archive_images.specs.SealFiles.{seal_record}

seal_begins : (seal : Seal) → slice_get (seal_record seal) 0 ≡ Some 4
unfolding number
seal_begins seal = refl

pub no_seal_record : (octets : List ℕ) (first : Option ℕ) (seal : Seal) → first ≡ slice_get octets 0 → (first ≡ Some 4 → ⊥) → octets ≡ seal_record seal → ⊥
no_seal_record octets first seal is other same = other (is ∙ ap (λ (l : List ℕ). slice_get l 0) same ∙ seal_begins seal)
