-- The numbers of a chain, and the packet name, are those of containers.
use Rattle.std.proofs.Common.{◌≡◌, ◌-◌, ◌<◌, ℕ, zero, suc, List, [], ◌∷◌, ◌++◌, length, Bool, true, false, cond, refl, arith, subst, sym}
use Rattle.std.specs.Prelude.{filter, slice_get, unwrap_or}
use Rattle.std.specs.List.{AllByRecursion}
use Rattle.std.proofs.lemmas.List.Elements.{All-from_recursion}
use Rattle.mdb_items.specs.declared.container.Container.{Container}
use Rattle.mdb_items.specs.declared.container.ParameterEntry.{ParameterEntry}
use Rattle.mdb_items.specs.Database.{Database, IsDatabase}
use Rattle.mdb_model.proofs.Structure.{structured}
use Rattle.container_extract.specs.Chain.{IsChain, IsChainFrom, chain_of, entries_at, has_archive}
use Rattle.container_extract.specs.Laws.{ChainIsKnown, PacketNameIsKnown}
use Rattle.container_extract.proofs.Chains.{chain_is_one, child_of}

-- ---- chains

-- what comes after a container of the database is one too
known_from : (db : Database) (packet : List ℕ) (above : List ParameterEntry) (n : ℕ) (chain : List ℕ) → n < length db.containers → IsChainFrom db packet above (n ∷ chain) → AllByRecursion (λ k. k < length db.containers) (n ∷ chain)
known_from db packet above n [] known goes = (known, tt)
known_from db packet above n (m ∷ chain) known goes =
    let below = above ++ entries_at db n in
    let child = child_of db packet below n m goes.0 in
    (known, known_from db packet below m chain child.2 goes.1)

known_along : (db : Database) (packet chain : List ℕ) → IsDatabase db → IsChain db packet chain → AllByRecursion (λ k. k < length db.containers) chain
known_along db packet [] is goes = absurd goes
known_along db packet (n ∷ chain) is goes = known_from db packet [] n chain (subst (λ (k : ℕ). k < length db.containers) (sym goes.0) (structured db is).root) goes.1

pub chain_is_known : ChainIsKnown
chain_is_known = λ db packet is. All-from_recursion (λ (n : ℕ). n < length db.containers) (chain_of db packet) (known_along db packet (chain_of db packet) is (chain_is_one db packet is).0)

-- ---- packet names

there : (containers : List Container) (n : ℕ) → has_archive (slice_get containers n) ≡ true → n < length containers
there [] n is = absurd cc
there (c ∷ containers) zero is = omega arith
there (c ∷ containers) (suc n) is = let less = there containers n is in omega (arith, less)

all_flagged : (containers : List Container) (chain : List ℕ) → AllByRecursion (λ n. has_archive (slice_get containers n) ≡ true) (filter (λ n. has_archive (slice_get containers n)) chain)
all_flagged containers [] = tt
all_flagged containers (n ∷ chain) = go (has_archive (slice_get containers n)) refl (all_flagged containers chain)
  where
    go : (b : Bool) → has_archive (slice_get containers n) ≡ b → AllByRecursion (λ n. has_archive (slice_get containers n) ≡ true) (filter (λ n. has_archive (slice_get containers n)) chain)
        → AllByRecursion (λ n. has_archive (slice_get containers n) ≡ true) (cond b (n ∷ filter (λ n. has_archive (slice_get containers n)) chain) (filter (λ n. has_archive (slice_get containers n)) chain))
    go true is all = (is, all)
    go false is all = all

at_within : (containers : List Container) (numbers : List ℕ) (i : ℕ) → 0 < length containers → AllByRecursion (λ n. has_archive (slice_get containers n) ≡ true) numbers → unwrap_or (slice_get numbers i) 0 < length containers
at_within containers [] i some all = some
at_within containers (n ∷ numbers) zero some all = there containers n all.0
at_within containers (n ∷ numbers) (suc i) some all = at_within containers numbers i some all.1

pub packet_name_is_known : PacketNameIsKnown
packet_name_is_known = λ db packet is.
    let flagged = filter (λ n. has_archive (slice_get db.containers n)) (chain_of db packet) in
    at_within db.containers flagged (length flagged - 1) (structured db is).root (all_flagged db.containers (chain_of db packet))
