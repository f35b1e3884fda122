-- The mission database of a history, and the packet names that its databases bring. `first` is the head's database.
use Rattle.std.specs.Prelude.{ℕ, ◌++◌, ◌∷◌, [], List, map, fold, if◌then◌else◌}
use Rattle.std.specs.List.{filter_map, list_any}
use Rattle.std.specs.Option.{unwrap_or}
use Rattle.std.specs.Str.{bytes_eq}
use Rattle.mdb_items.specs.Database.{Database}
use Rattle.mdb_items.specs.Texts.{Text, place_of}
use Rattle.history_items.specs.declared.items.Item.{Item}
use Rattle.history_items.specs.Items.{database_of_item, databases_in}

-- the database in force behind an item, given the one before it
abbrev pub database_after : Database → Item → Database
database_after before item = unwrap_or (database_of_item item) before

-- the database in force: the last of a history, or the head's
abbrev pub database_in : Database → List Item → Database
database_in first history = fold database_after first history

-- the packet names that a database has, in its order
abbrev pub names_of_database : Database → List Text
names_of_database database = map (λ container. container.name) database.containers

-- names, and one more where it isn't among them
abbrev pub with_name : List Text → Text → List Text
with_name names name = if list_any (bytes_eq name) names then names else names ++ name ∷ []

-- names, and those of a database that aren't among them
abbrev pub with_names_of : List Text → Database → List Text
with_names_of names database = fold with_name names (names_of_database database)

-- the packet names of a history: those of the head's database, then of each database in turn, each at its first place
abbrev pub names_in : Database → List Item → List Text
names_in first history = fold with_names_of (names_of_database first) (databases_in history)

-- the places of the names of the database in force
abbrev pub places_in : Database → List Item → List ℕ
places_in first history =
    filter_map (λ name. place_of name (names_in first history)) (names_of_database (database_in first history))
