-- The database in force and the packet names, as a history grows.
use Rattle.std.proofs.Common.{◌≡◌, ℕ, suc, List, [], ◌∷◌, ◌++◌, length, Bool, true, false, true≢false, Option, Some, None, refl, sym, ap, ◌∙◌, append-nil, append_assoc}
use Rattle.std.specs.Prelude.{fold, if◌then◌else◌, ◌||◌}
use Rattle.std.specs.List.{AllByRecursion, cons_option, filter_map, list_any}
use Rattle.std.specs.Str.{bytes_eq}
use Rattle.std.proofs.lemmas.List.{length-map}
use Rattle.std.proofs.lemmas.List.Folds.{list_any-append}
use Rattle.std.proofs.lemmas.List.Sums.{fold-append}
use Rattle.std.proofs.lemmas.Slice.Eq.{bytes_eq-Decides}
use Rattle.arch_types.specs.declared.row.Row.{Row}
use Rattle.mdb_items.specs.Database.{Database}
use Rattle.mdb_items.specs.Texts.{Text, place_of}
use Rattle.mdb_items.proofs.Places.{absent}
use Rattle.history_items.specs.declared.items.Item.{Item}
use Rattle.history_items.specs.declared.items.Item.TheVariants as items
use Rattle.history_items.specs.Items.{databases_in, items_of}
use Rattle.history_items.specs.Databases.{database_after, database_in, names_in, names_of_database, places_in, with_name, with_names_of}
use Rattle.history_items.proofs.ItemLists.{databases_in-append, no_databases}

-- ---- rows

rows_after : (database : Database) (rows : List Row) → fold database_after database (items_of rows) ≡ database
rows_after database [] = refl
rows_after database (row ∷ rows) = rows_after database rows

pub rows_keep_database : (first : Database) (history : List Item) (rows : List Row) → database_in first (history ++ items_of rows) ≡ database_in first history
rows_keep_database first history rows = fold-append database_after first history (items_of rows) ∙ rows_after (database_in first history) rows

pub rows_keep_names : (first : Database) (history : List Item) (rows : List Row) → names_in first (history ++ items_of rows) ≡ names_in first history
rows_keep_names first history rows =
    ap (fold with_names_of (names_of_database first)) (databases_in-append history (items_of rows) ∙ ap (λ (l : List Database). databases_in history ++ l) (no_databases rows) ∙ append-nil (databases_in history))

-- ---- names stand behind those that were there

-- names that begin with these
abbrev GoesOn : List Text → List Text → Type 0
GoesOn old new = (more : List Text) × (new ≡ old ++ more)

goes_on : (old mid new : List Text) → GoesOn old mid → GoesOn mid new → GoesOn old new
goes_on old mid new first second =
    (first.0 ++ second.0, second.1 ∙ ap (λ (l : List Text). l ++ second.0) first.1 ∙ append_assoc old first.0 second.0)

name_goes_on : (names : List Text) (name : Text) → GoesOn names (with_name names name)
name_goes_on names name = go (list_any (bytes_eq name) names)
  where
    go : (b : Bool) → GoesOn names (if b then names else names ++ name ∷ [])
    go true = ([], sym (append-nil names))
    go false = (name ∷ [], refl)

all_go_on : (names more : List Text) → GoesOn names (fold with_name names more)
all_go_on names [] = ([], sym (append-nil names))
all_go_on names (name ∷ more) = goes_on names (with_name names name) (fold with_name (with_name names name) more) (name_goes_on names name) (all_go_on (with_name names name) more)

databases_go_on : (names : List Text) (databases : List Database) → GoesOn names (fold with_names_of names databases)
databases_go_on names [] = ([], sym (append-nil names))
databases_go_on names (database ∷ databases) =
    goes_on names (with_names_of names database) (fold with_names_of (with_names_of names database) databases) (all_go_on names (names_of_database database)) (databases_go_on (with_names_of names database) databases)

pub names_go_on : (first : Database) (history later : List Item) → (more : List Text) × (names_in first (history ++ later) ≡ names_in first history ++ more)
names_go_on first history later =
    let p = databases_go_on (names_in first history) (databases_in later) in
    (p.0, ap (fold with_names_of (names_of_database first)) (databases_in-append history later) ∙ fold-append with_names_of (names_of_database first) (databases_in history) (databases_in later) ∙ p.1)

-- ---- each name of the database in force has a place

-- a name is among names
abbrev IsAmong : List Text → Text → Type 0
IsAmong names name = list_any (bytes_eq name) names ≡ true

-- all of these are
abbrev AreAmong : List Text → List Text → Type 0
AreAmong names some = AllByRecursion (IsAmong names) some

itself : (name : Text) → bytes_eq name name ≡ true
itself name = (bytes_eq-Decides name name).1 refl

or_true : (b : Bool) → (b || true) ≡ true
or_true true = refl
or_true false = refl

stays_among : (old new : List Text) (name : Text) → GoesOn old new → IsAmong old name → IsAmong new name
stays_among old new name g is =
    ap (list_any (bytes_eq name)) g.1 ∙ list_any-append (bytes_eq name) old g.0 ∙ ap (λ (b : Bool). b || list_any (bytes_eq name) g.0) is

stay_among : (old new some : List Text) → GoesOn old new → AreAmong old some → AreAmong new some
stay_among old new [] g are = tt
stay_among old new (name ∷ some) g are = (stays_among old new name g are.0, stay_among old new some g are.1)

name_added : (names : List Text) (name : Text) → IsAmong (with_name names name) name
name_added names name = go (list_any (bytes_eq name) names) refl
  where
    go : (b : Bool) → list_any (bytes_eq name) names ≡ b → IsAmong (if b then names else names ++ name ∷ []) name
    go true is = is
    go false is =
        list_any-append (bytes_eq name) names (name ∷ []) ∙ ap (λ (b : Bool). list_any (bytes_eq name) names || (b || false)) (itself name) ∙ or_true (list_any (bytes_eq name) names)

all_added : (names more : List Text) → AreAmong (fold with_name names more) more
all_added names [] = tt
all_added names (name ∷ more) =
    let next = with_name names name in
    (stays_among next (fold with_name next more) name (all_go_on next more) (name_added names name), all_added next more)

behind : (first : Text) (names some : List Text) → AreAmong names some → AreAmong (first ∷ names) some
behind first names [] are = tt
behind first names (name ∷ some) are = (ap (λ (b : Bool). bytes_eq name first || b) are.0 ∙ or_true (bytes_eq name first), behind first names some are.1)

themselves : (names : List Text) → AreAmong names names
themselves [] = tt
themselves (name ∷ names) = (ap (λ (b : Bool). b || list_any (bytes_eq name) names) (itself name), behind name names names (themselves names))

-- the names of the database in force are among the names of the history
covered : (names : List Text) (database : Database) (history : List Item) → AreAmong names (names_of_database database) →
    AreAmong (fold with_names_of names (databases_in history)) (names_of_database (fold database_after database history))
covered names database [] are = are
covered names database (items.Row row ∷ history) are = covered names database history are
covered names database (items.Mdb next ∷ history) are = covered (with_names_of names next) next history (all_added names (names_of_database next))

all_placed : (names some : List Text) → AreAmong names some → length (filter_map (λ name. place_of name names) some) ≡ length some
all_placed names [] are = refl
all_placed names (name ∷ some) are = go (place_of name names) refl (all_placed names some are.1)
  where
    go : (o : Option ℕ) → place_of name names ≡ o → length (filter_map (λ n. place_of n names) some) ≡ length some → length (cons_option o (filter_map (λ n. place_of n names) some)) ≡ suc (length some)
    go None is rest = absurd (true≢false (sym are.0 ∙ absent (bytes_eq name) names is))
    go (Some place) is rest = ap suc rest

pub each_name_has_place : (first : Database) (history : List Item) → length (places_in first history) ≡ length (database_in first history).containers
each_name_has_place first history =
    all_placed (names_in first history) (names_of_database (database_in first history)) (covered (names_of_database first) first history (themselves (names_of_database first)))
    ∙ length-map (database_in first history).containers _
