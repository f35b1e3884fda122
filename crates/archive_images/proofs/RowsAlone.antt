-- Histories of rows alone, as all are until something adds a database; and packet names as a history grows.
use Rattle.std.proofs.Common.{◌≡◌, ℕ, zero, suc, ◌<◌, List, [], ◌∷◌, ◌++◌, length, refl, ◌∙◌, ap, arith, length-append}
use Rattle.std.specs.Prelude.{Some, fold, slice_get}
use Rattle.std.proofs.lemmas.List.{append-nil, length-map}
use Rattle.arch_types.specs.declared.row.Row.{Row}
use Rattle.mdb_items.specs.Database.{Database}
use Rattle.history_items.specs.declared.items.Item.{Item}
use Rattle.history_items.specs.declared.items.Item.TheVariants as items
use Rattle.history_items.specs.Items.{database_item, databases_in, items_of, prefix}
use Rattle.history_items.specs.Late.{StandsDatabase}
use Rattle.history_items.specs.Databases.{database_in, names_in, names_of_database, with_names_of}
use Rattle.history_items.proofs.Databases.{names_go_on}
use Rattle.history_items.proofs.ItemLists.{databases_in-append, no_databases}

-- ---- no database is among the items

not_alone : (database : Database) (history : List Item) → databases_in (items.Mdb database ∷ history) ≡ [] → ⊥
not_alone database history alone = let some : ◌≡◌ {A = List Database} (database ∷ databases_in history) [] = alone in cc (some)

pub more_alone : (history : List Item) (rows : List Row) → databases_in history ≡ [] → databases_in (history ++ items_of rows) ≡ []
more_alone history rows alone =
    databases_in-append history (items_of rows) ∙ ap (λ (l : List Database). databases_in history ++ l) (no_databases rows) ∙ append-nil (databases_in history) ∙ alone

below_alone : (front : ℕ) (history : List Item) → databases_in history ≡ [] → databases_in (prefix front history) ≡ []
below_alone zero history alone = refl
below_alone (suc front) [] alone = refl
below_alone (suc front) (items.Row row ∷ history) alone = below_alone front history alone
below_alone (suc front) (items.Mdb database ∷ history) alone = absurd (not_alone database history alone)

-- the database in force is the head's
pub in_force : (first : Database) (history : List Item) → databases_in history ≡ [] → database_in first history ≡ first
in_force first [] alone = refl
in_force first (items.Row row ∷ history) alone = in_force first history alone
in_force first (items.Mdb database ∷ history) alone = absurd (not_alone database history alone)

-- and so it is below each front
pub in_force_below : (first : Database) (front : ℕ) (history : List Item) → databases_in history ≡ [] → database_in first (prefix front history) ≡ first
in_force_below first front history alone = in_force first (prefix front history) (below_alone front history alone)

-- the packet names are the head's
pub names_of_head : (first : Database) (history : List Item) → databases_in history ≡ [] → names_in first history ≡ names_of_database first
names_of_head first history alone = ap (fold with_names_of (names_of_database first)) alone

-- as many as its containers
pub few_names : (first : Database) (history : List Item) → databases_in history ≡ [] → length (names_in first history) ≡ length first.containers
few_names first history alone = ap length (names_of_head first history alone) ∙ length-map first.containers (λ container. container.name)

-- no database stands anywhere
never_at : (position : ℕ) (history : List Item) (database : Database) → databases_in history ≡ [] → slice_get history position ≡ Some (database_item database) → ⊥
never_at position [] database alone at = absurd cc
never_at zero (items.Row row ∷ history) database alone at = absurd cc
never_at (suc position) (items.Row row ∷ history) database alone at = never_at position history database alone at
never_at position (items.Mdb first ∷ history) database alone at = absurd (not_alone first history alone)

pub never_database : (position : ℕ) (history : List Item) → databases_in history ≡ [] → StandsDatabase position history → ⊥
never_database position history alone stands = never_at position history stands.0 alone stands.1

-- ---- numbers of packet names stay those of names

pub named_in : (first : Database) (history : List Item) (pname : ℕ) → pname < length first.containers → pname < length (names_in first history)
named_in first history pname within =
    let more = names_go_on first [] history in
    omega (arith, within, ap length more.1, length-append (names_of_database first) more.0, length-map first.containers (λ container. container.name))

pub named_more : (first : Database) (history later : List Item) (pname : ℕ) → pname < length (names_in first history) → pname < length (names_in first (history ++ later))
named_more first history later pname within =
    let more = names_go_on first history later in
    omega (arith, within, ap length more.1, length-append (names_in first history) more.0)
