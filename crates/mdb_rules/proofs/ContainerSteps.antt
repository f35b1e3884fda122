-- What follows where a row of containers breaks no rule.
use Rattle.std.proofs.Common.{◌≡◌, ◌+◌, ◌<◌, ◌≤◌, ℕ, List, [], ◌∷◌, length, map, Option, Some, None, Bool, true, false, refl, arith}
use Rattle.std.specs.Prelude.{is_some, nat_le}
use Rattle.std.proofs.lemmas.Bool.{leb-false, leb-true, ltb-true}
use Rattle.std.proofs.lemmas.Option.{same_Some}
use Rattle.mdb_items.specs.declared.container.Container.{Container}
use Rattle.mdb_items.specs.declared.parameter.Parameter.{Parameter}
use Rattle.mdb_items.specs.declared.rows.NewContainer.{NewContainer}
use Rattle.mdb_items.specs.declared.rows.EntryPosition.TheVariants.{At}
use Rattle.mdb_items.specs.declared.rows.Reference.{Reference}
use Rattle.mdb_items.specs.declared.rows.Reference.TheVariants.{Nothing, Unknown, Known}
use Rattle.mdb_items.specs.Checks.{first_broken}
use Rattle.mdb_items.specs.ContainerRows.{new_container_checks, entry_checks, is_parent}
use Rattle.mdb_items.specs.Paths.{ContainerPath, bits_at, last_number}
use Rattle.mdb_items.specs.ParameterRows.{referenced_number}
use Rattle.mdb_rules.specs.Totals.{IsNumber}
use Rattle.mdb_items.specs.Texts.{place_of}
use Rattle.mdb_rules.proofs.Passing.{all_pass, is_true}

pub none_of : {X : Type 0} (o : Option X) → is_some o ≡ false → o ≡ None
none_of None e = refl
none_of (Some x) e = cc

-- a name, a depth and a parent that break no rule
pub begun_name : (above : List Container) (up : ContainerPath) (b : NewContainer) → first_broken (new_container_checks above up b) ≡ None → place_of b.name (map (λ c. c.name) above) ≡ None
begun_name above up b sound = let p = all_pass (new_container_checks above up b) sound in none_of (place_of b.name (map (λ c. c.name) above)) p.1.0

pub begun_depth : (above : List Container) (up : ContainerPath) (b : NewContainer) → first_broken (new_container_checks above up b) ≡ None → up.containers < 32
begun_depth above up b sound = let p = all_pass (new_container_checks above up b) sound in leb-false 32 up.containers p.1.1.0

pub parent_below : (n : ℕ) (r : Reference) → is_parent n r ≡ true → (p : ℕ) → referenced_number r ≡ Some p → p < n
parent_below n Nothing is p e = cc
parent_below n Unknown is p e = cc
parent_below n (Known k) is p e =
    let same = same_Some k p e in
    let less = ltb-true k n is in
    omega arith

pub begun_parent : (above : List Container) (up : ContainerPath) (b : NewContainer) → first_broken (new_container_checks above up b) ≡ None → (p : ℕ) → referenced_number b.parent ≡ Some p → p < length above
begun_parent above up b sound = let p = all_pass (new_container_checks above up b) sound in parent_below (length above) b.parent (is_true (is_parent (length above) b.parent) p.1.1.1.0)

-- the last number is that of a container
pub last_is_number : (cs : List Container) → IsNumber cs (last_number cs)
last_is_number [] n e = cc
last_is_number (c ∷ cs) n e =
    let same = same_Some (length cs) n e in
    omega arith

-- an entry that breaks no rule has room and ends near enough
pub entry_room : (ps : List Parameter) (path : ContainerPath) (continuing : Bool) (n at : ℕ) → first_broken (entry_checks ps path continuing (Known n) (At at)) ≡ None → length path.entries < 256
entry_room ps path continuing n at sound = let p = all_pass (entry_checks ps path continuing (Known n) (At at)) sound in leb-false 256 (length path.entries) p.1.1.1.0

pub entry_near : (ps : List Parameter) (path : ContainerPath) (continuing : Bool) (n at : ℕ) → first_broken (entry_checks ps path continuing (Known n) (At at)) ≡ None → at + bits_at ps n ≤ 524336
entry_near ps path continuing n at sound =
    let p = all_pass (entry_checks ps path continuing (Known n) (At at)) sound in
    leb-true (at + bits_at ps n) 524336 (is_true (nat_le (at + bits_at ps n) 524336) p.1.1.1.1.1.0)
