-- Links from each row noted to the one before it of its partition.
use Rattle.std.specs.Prelude.{◌≡◌, ℕ, ◌-◌, ◌^◌, ◌<◌, ◌==◌, pos, List, [], ◌∷◌, length, map, slice_get, slice_index_or, Option, Some, None, IfSome, if◌then◌else◌}
use Rattle.partitions.specs.declared.partition.Partition.{Partition}
use Rattle.partitions.specs.declared.links.Link.{Link}
use Rattle.partitions.specs.Places.{places_below, last_place_below}

-- a place in 32 bits; the greatest number stands for none
abbrev pub place_of_word : ℕ → Option ℕ
place_of_word word = if word == 2 ^ 32 - 1 then None else Some word

-- the partitions of the rows noted, in order
abbrev pub noted_in : List Link → List Partition
noted_in links = map (λ link. link.noted.value) links

-- each link has the last place before it of its partition
abbrev pub AreChained : List Link → Type 0
AreChained links = (i : ℕ) (link : Link) → slice_get links i ≡ Some link →
    place_of_word link.earlier ≡ last_place_below i link.noted.value (noted_in links)

-- links that are chained, and a place among them, if there is one
pub record AreAt (links : List Link) (next : Option ℕ) : Type 0 where
  pub chained : AreChained links
  pub within : IfSome next (λ place. place < length links)

-- the partition noted at a place
abbrev pub noted_partition : List Link → ℕ → Partition
noted_partition links place = slice_index_or (noted_in links) place (record { day = pos 0; pname = 0 })

-- a place and those before it of its partition, the last first; no place has none before it
abbrev pub places_up_to : List Link → Option ℕ → List ℕ
places_up_to links None = []
places_up_to links (Some place) = place ∷ places_below place (noted_partition links place) (noted_in links)
