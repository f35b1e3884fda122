-- The walk as the code takes it.
use Rattle.std.proofs.Common.{◌≡◌, ◌∙◌, ◌+◌, ◌-◌, ◌<◌, ◌≤◌, ℕ, List, [], ◌∷◌, ◌++◌, length, map, Some, None, ap, sym, arith, subst, length-append}
use Rattle.std.specs.Prelude.{flat_map}
use Rattle.std.proofs.lemmas.List.{length-map, map-append}
use Rattle.mdb_items.specs.declared.container.ParameterEntry.{ParameterEntry}
use Rattle.mdb_items.specs.Database.{Database, IsDatabase}
use Rattle.mdb_items.specs.Structure.{IsPath}
use Rattle.mdb_items.proofs.Ends.{item_at}
use Rattle.mdb_lookups.specs.PlacedConditions.{path_parameters}
use Rattle.mdb_model.proofs.Structure.{structured}
use Rattle.container_extract.specs.declared.values.RawValue.{RawValue}
use Rattle.container_extract.specs.Chain.{IsChain, chain_of, entries_at}
use Rattle.container_extract.specs.Extraction.{raw_extraction, raw_values_along}
use Rattle.container_extract.specs.Step.{AreAbove, IsStep, parameters_of_values}
use Rattle.container_extract.specs.Values.{raw_value_of}
use Rattle.container_extract.proofs.Chains.{is_chain_of}
use Rattle.container_extract.proofs.Paths.{a_path}
use Rattle.container_extract.proofs.Placed.{parameters_of_raw}
use Rattle.container_extract.proofs.Walk.{IsWalk, walk_begins, walk_ends, walk_goes_on}

pub begins : (db : Database) (packet chain : List ℕ) (values : List RawValue) → IsDatabase db → chain ≡ [] → values ≡ [] → IsWalk db packet chain values 0
begins db packet chain values is none empty =
    subst (λ (vs : List RawValue). IsWalk db packet chain vs 0) (sym empty) (subst (λ (ns : List ℕ). IsWalk db packet ns [] 0) (sym none) (walk_begins db packet is))

-- the values so far are of the entries above
pub values_above : (db : Database) (packet chain : List ℕ) (values : List RawValue) (n : ℕ) → IsWalk db packet chain values n → AreAbove db n values
values_above db packet chain values n w =
    let above = flat_map (entries_at db) chain in
    let so_far : parameters_of_values values ≡ map (λ (e : ParameterEntry). e.parameter) above = ap parameters_of_values w.taken ∙ parameters_of_raw db packet above in
    ap (λ (ps : List ℕ). ps ++ map (λ (e : ParameterEntry). e.parameter) (entries_at db n)) so_far
    ∙ sym (map-append (λ (e : ParameterEntry). e.parameter) above (entries_at db n)) ∙ ap path_parameters (sym w.path)

-- the path of a container on the walk keeps the rules
path_kept : (db : Database) (packet chain : List ℕ) (values : List RawValue) (n : ℕ) → IsDatabase db → IsWalk db packet chain values n → IsPath (a_path (length chain + 1) (flat_map (entries_at db) chain ++ entries_at db n))
path_kept db packet chain values n is w = let here = item_at db.containers n w.known in subst IsPath w.path ((structured db is).containers n here.0 here.1).path

-- so there is room for the container
pub chain_fits : (db : Database) (packet chain : List ℕ) (values : List RawValue) (n : ℕ) → IsDatabase db → IsWalk db packet chain values n → length chain < 32
chain_fits db packet chain values n is w = omega (arith, (path_kept db packet chain values n is w).few_containers)

-- and for the values of its entries
pub entries_fit : (db : Database) (packet chain : List ℕ) (values : List RawValue) (n : ℕ) → IsDatabase db → IsWalk db packet chain values n → length values + length (entries_at db n) ≤ 256
entries_fit db packet chain values n is w =
    let above = flat_map (entries_at db) chain in
    let so_far : length values ≡ length above = ap length w.taken ∙ length-map above (raw_value_of db packet) in
    omega (arith, so_far, length-append above (entries_at db n), (path_kept db packet chain values n is w).few_entries)

-- the numbers of containers have sixteen bits
pub number_small : (db : Database) (packet chain : List ℕ) (values : List RawValue) (n : ℕ) → IsDatabase db → IsWalk db packet chain values n → n < 65536
number_small db packet chain values n is w = omega (arith, w.known, (structured db is).few_containers)

pub goes_on : (db : Database) (packet chain pushed : List ℕ) (values more : List RawValue) (n m : ℕ) → IsDatabase db → IsWalk db packet chain values n → IsStep db packet values n more (Some m) → pushed ≡ chain ++ n ∷ []
    → IsWalk db packet pushed more m × (n < m) × (m < length db.containers)
goes_on db packet chain pushed values more n m is w s same =
    let next = walk_goes_on db packet chain values more n m is w s in
    (subst (λ (ns : List ℕ). IsWalk db packet ns more m) (sym same) next.0, next.1, next.0.known)

pub is_one : (db : Database) (packet chain pushed : List ℕ) (values more : List RawValue) (n : ℕ) → IsDatabase db → IsWalk db packet chain values n → IsStep db packet values n more None → pushed ≡ chain ++ n ∷ [] → pushed ≡ chain_of db packet
is_one db packet chain pushed values more n is w s same = is_chain_of db packet pushed is (subst (IsChain db packet) (sym same) (walk_ends db packet chain values more n w s).0)

pub is_extraction : (db : Database) (packet chain pushed : List ℕ) (values more : List RawValue) (n : ℕ) → IsDatabase db → IsWalk db packet chain values n → IsStep db packet values n more None → pushed ≡ chain ++ n ∷ [] → more ≡ raw_extraction db packet
is_extraction db packet chain pushed values more n is w s same =
    (walk_ends db packet chain values more n w s).1 ∙ ap (raw_values_along db packet) (sym same ∙ is_one db packet chain pushed values more n is w s same)

-- fewer containers stand after the next one
pub smaller : (all n m : ℕ) → n < m → m < all → all - m < all - n
smaller all n m further within = omega arith
