-- The chain of a packet's containers.
use Rattle.std.specs.Prelude.{◌≡◌, ℕ, zero, suc, ◌==◌, ◌&&◌, Bool, false, List, [], ◌∷◌, ◌++◌, length, map, slice_get, Option, Some, None, unwrap_or, if◌then◌else◌}
use Rattle.std.specs.List.{list_all, filter, position}
use Rattle.mdb_items.specs.declared.container.Container.{Container}
use Rattle.mdb_items.specs.declared.container.ParameterEntry.{ParameterEntry}
use Rattle.mdb_items.specs.Database.{Database}
use Rattle.mdb_items.specs.Lists.{last_of}
use Rattle.container_extract.specs.declared.values.RawValue.{RawValue}
use Rattle.container_extract.specs.Values.{fits, holds, raw_value_of}

-- the entries of a container, or none
abbrev pub container_entries : Option Container → List ParameterEntry
container_entries None = []
container_entries (Some c) = c.entries

-- the entries of the container with a number
abbrev pub entries_at : Database → ℕ → List ParameterEntry
entries_at db n = container_entries (slice_get db.containers n)

-- the number is there, and is this one
abbrev pub is_number : ℕ → Option ℕ → Bool
is_number n None = false
is_number n (Some m) = m == n

-- the container is a child of the one with a number, and its condition holds of raw values
abbrev pub is_taken : ℕ → List RawValue → Container → Bool
is_taken n values c = is_number n c.parent && holds values c.condition

-- the first child in sheet order whose condition holds of raw values
abbrev pub first_child : List Container → ℕ → List RawValue → Option ℕ
first_child containers n values = position (is_taken n values) containers

-- what comes after a container: nothing where one of its entries passes the packet's end, else its first child whose condition holds of
-- the raw values of the entries so far
abbrev pub next_of : Database → List ℕ → List ParameterEntry → ℕ → Option ℕ
next_of db packet entries n = if list_all (fits db packet) (entries_at db n) then first_child db.containers n (map (raw_value_of db packet) entries) else None

-- containers each of which comes after the one before it, below entries further up, and after the last of which nothing comes
abbrev pub IsChainFrom : Database → List ℕ → List ParameterEntry → List ℕ → Type 0
IsChainFrom db packet above [] = ⊥
IsChainFrom db packet above (n ∷ []) = next_of db packet (above ++ entries_at db n) n ≡ None
IsChainFrom db packet above (n ∷ m ∷ chain) = (next_of db packet (above ++ entries_at db n) n ≡ Some m) × IsChainFrom db packet (above ++ entries_at db n) (m ∷ chain)

-- the chain of a packet starts at the root, which is the first container of the sheet
abbrev pub IsChain : Database → List ℕ → List ℕ → Type 0
IsChain db packet [] = ⊥
IsChain db packet (n ∷ chain) = (n ≡ 0) × IsChainFrom db packet [] (n ∷ chain)

-- what comes of a number, or nothing where there is none
abbrev pub if_some : {X : Type 0} → (ℕ → List X) → Option ℕ → List X
if_some f None = []
if_some f (Some n) = f n

-- a container and what comes after it, at most so many containers
abbrev pub chain_from : Database → List ℕ → ℕ → List ParameterEntry → ℕ → List ℕ
chain_from db packet zero above n = []
chain_from db packet (suc most) above n =
    n ∷ if_some (chain_from db packet most (above ++ entries_at db n)) (next_of db packet (above ++ entries_at db n) n)

-- the chain of a packet as a function; the law ChainIsOne says that it is the one chain
unfoldable pub chain_of : Database → List ℕ → List ℕ
chain_of db packet = chain_from db packet (length db.containers) [] 0

-- the container has the archive flag
abbrev pub has_archive : Option Container → Bool
has_archive None = false
has_archive (Some c) = c.archive

-- the last container of a chain with the archive flag, or else the root
abbrev pub name_along : List Container → List ℕ → ℕ
name_along containers chain = unwrap_or (last_of (filter (λ n. has_archive (slice_get containers n)) chain)) 0

-- the packet name
abbrev pub packet_name_of : Database → List ℕ → ℕ
packet_name_of db packet = name_along db.containers (chain_of db packet)
