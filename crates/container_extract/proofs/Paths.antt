-- A chain goes down one path of containers, so it keeps the rules of a path.
use Rattle.std.proofs.Common.{◌≡◌, ◌∙◌, ◌+◌, ◌<◌, ◌≤◌, ℕ, suc, List, [], ◌∷◌, ◌++◌, length, Option, Some, None, refl, ap, sym, arith, subst, append_assoc, append-nil}
use Rattle.std.specs.Prelude.{flat_map, slice_get}
use Rattle.std.specs.List.{AllByRecursion}
use Rattle.mdb_items.specs.declared.container.Container.{Container}
use Rattle.mdb_items.specs.declared.container.ParameterEntry.{ParameterEntry}
use Rattle.mdb_items.specs.Database.{Database, IsDatabase}
use Rattle.mdb_items.specs.Paths.{ContainerPath, path_at, path_below, paths_of}
use Rattle.mdb_items.specs.Structure.{IsBelowParent, IsEntry, IsPath}
use Rattle.mdb_model.proofs.DatabaseFits.{all_join}
use Rattle.mdb_items.proofs.Ends.{item_at}
use Rattle.mdb_model.proofs.Structure.{structured}
use Rattle.container_extract.specs.Chain.{IsChain, IsChainFrom, chain_of, entries_at, container_entries}
use Rattle.container_extract.proofs.Chains.{chain_is_one, child_of}

-- the path of the container with a number
abbrev pub path_to : Database → ℕ → ContainerPath
path_to db n = path_at (paths_of db.containers) (Some n)

-- so many containers have these entries on their path
abbrev pub a_path : ℕ → List ParameterEntry → ContainerPath
a_path containers entries = record { containers = containers; entries = entries }

-- the last of a chain, whose path has as many containers and the chain's entries
record IsAlong (db : Database) (containers : ℕ) (entries : List ParameterEntry) : Type 0 where
  last : ℕ
  known : last < length db.containers
  path : path_to db last ≡ a_path containers entries

-- the path of a child
pub child_path : (db : Database) (n m : ℕ) (c : Container) (k : ℕ) (entries : List ParameterEntry) → IsDatabase db → slice_get db.containers m ≡ Some c → c.parent ≡ Some n → path_to db n ≡ a_path k entries
    → path_to db m ≡ a_path (suc k) (entries ++ entries_at db m)
child_path db n m c k entries is at parent up =
    let below : path_to db m ≡ path_below (path_at (paths_of db.containers) c.parent) c = ((structured db is).containers m c at).below in
    let over : path_at (paths_of db.containers) c.parent ≡ a_path k entries = ap (path_at (paths_of db.containers)) parent ∙ up in
    let own : c.entries ≡ entries_at db m = ap container_entries (sym at) in
    below ∙ ap (λ (p : ContainerPath). path_below p c) over ∙ ap (λ (es : List ParameterEntry). a_path (suc k) (entries ++ es)) own

along : (db : Database) (packet : List ℕ) (above : List ParameterEntry) (k n : ℕ) (chain : List ℕ) → IsDatabase db → n < length db.containers → IsChainFrom db packet above (n ∷ chain) → path_to db n ≡ a_path (suc k) (above ++ entries_at db n)
    → IsAlong db (k + length (n ∷ chain)) (above ++ flat_map (entries_at db) (n ∷ chain))
along db packet above k n [] is within goes here =
    let count : suc k ≡ k + 1 = omega arith in
    let own : entries_at db n ≡ entries_at db n ++ [] = sym (append-nil (entries_at db n)) in
    record {
      last = n;
      known = within;
      path = here ∙ ap (λ (j : ℕ). a_path j (above ++ entries_at db n)) count ∙ ap (λ (es : List ParameterEntry). a_path (k + 1) (above ++ es)) own;
    }
along db packet above k n (m ∷ chain) is within goes here =
    let below = above ++ entries_at db n in
    let child = child_of db packet below n m goes.0 in
    let there = child_path db n m child.0 (suc k) below is child.1 child.3 here in
    let rest = along db packet below (suc k) m chain is child.2 goes.1 there in
    let count : suc k + length (m ∷ chain) ≡ k + length (n ∷ m ∷ chain) = omega arith in
    let entries = append_assoc above (entries_at db n) (flat_map (entries_at db) (m ∷ chain)) in
    record {
      last = rest.last;
      known = rest.known;
      path = rest.path ∙ ap (λ (j : ℕ). a_path j (below ++ flat_map (entries_at db) (m ∷ chain))) count ∙ ap (a_path (k + length (n ∷ m ∷ chain))) entries;
    }

-- the root's path is itself alone
root_path : (db : Database) (c : Container) (o : Option ℕ) → IsDatabase db → slice_get db.containers 0 ≡ Some c → c.parent ≡ o → IsBelowParent 0 o → path_to db 0 ≡ a_path 1 (entries_at db 0)
root_path db c None is at parent first =
    ((structured db is).containers 0 c at).below ∙ ap (λ (o : Option ℕ). path_below (path_at (paths_of db.containers) o) c) parent ∙ ap (a_path 1) (ap container_entries (sym at))
root_path db c (Some p) is at parent first = absurd (omega (arith, first))

pub root_along : (db : Database) → IsDatabase db → path_to db 0 ≡ a_path 1 (entries_at db 0)
root_along db is =
    let s = structured db is in
    let root = item_at db.containers 0 s.root in
    root_path db root.0 root.0.parent is root.1 refl (s.containers 0 root.0 root.1).parent

chain_along : (db : Database) (packet chain : List ℕ) → IsDatabase db → IsChain db packet chain → IsAlong db (length chain) (flat_map (entries_at db) chain)
chain_along db packet [] is goes = absurd goes
chain_along db packet (n ∷ chain) is goes =
    let s = structured db is in
    let start = root_along db is in
    let here = subst (λ (k : ℕ). path_to db k ≡ a_path 1 (entries_at db k)) (sym goes.0) start in
    let within = subst (λ (k : ℕ). k < length db.containers) (sym goes.0) s.root in
    let count : 0 + length (n ∷ chain) ≡ length (n ∷ chain) = omega arith in
    subst (λ (k : ℕ). IsAlong db k (flat_map (entries_at db) (n ∷ chain))) count (along db packet [] 0 n chain is within goes.1 here)

-- the containers of a chain and their entries keep the rules of a path
pub chain_keeps : (db : Database) (packet : List ℕ) → IsDatabase db → IsPath (a_path (length (chain_of db packet)) (flat_map (entries_at db) (chain_of db packet)))
chain_keeps db packet is =
    let a = chain_along db packet (chain_of db packet) is (chain_is_one db packet is).0 in
    let last = item_at db.containers a.last a.known in
    subst IsPath a.path ((structured db is).containers a.last last.0 last.1).path

pub chain_is_short : (db : Database) (packet : List ℕ) → IsDatabase db → length (chain_of db packet) ≤ 32
chain_is_short db packet is = (chain_keeps db packet is).few_containers

-- each entry of a container is sound
own_known : (db : Database) (n : ℕ) (o : Option Container) → IsDatabase db → slice_get db.containers n ≡ o → AllByRecursion (IsEntry db) (container_entries o)
own_known db n None is at = tt
own_known db n (Some c) is at = ((structured db is).containers n c at).entries

pub all_known : (db : Database) (chain : List ℕ) → IsDatabase db → AllByRecursion (IsEntry db) (flat_map (entries_at db) chain)
all_known db [] is = tt
all_known db (n ∷ chain) is = all_join (IsEntry db) (entries_at db n) (flat_map (entries_at db) chain) (own_known db n (slice_get db.containers n) is refl) (all_known db chain is)
