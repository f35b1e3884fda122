-- What a link knows of the rows that arrived by it.
use Rattle.std.specs.Prelude.{◌≡◌, ◌⊎◌, List, [], ◌∷◌, true}
use Rattle.std.specs.List.{AllByRecursion, list_any}
use Rattle.arch_types.specs.declared.row.Row.{Row}
use Rattle.arch_types.specs.History.{firsts}
use Rattle.history_items.specs.declared.items.Item.{Item}
use Rattle.history_items.specs.Items.{has_key_of}

-- the first list is some of the second, in its order
abbrev pub AreSomeOf : {X : Type 0} → List X → List X → Type 0
AreSomeOf some [] = some ≡ []
AreSomeOf {X = X} some (x ∷ xs) = AreSomeOf some xs ⊎ ((rest : List X) × (some ≡ x ∷ rest) × AreSomeOf rest xs)

-- the table and key of each of these rows are in the history
abbrev pub AreKept : List Item → List Row → Type 0
AreKept history rows = AllByRecursion (λ row. list_any (has_key_of row) history ≡ true) rows

-- What it put is some of the first of each table and key of those that arrived, and the table and key of each are in
-- the history that it has seen.
pub record HasSent (arrived : List Row) (seen : List Item) (put : List Row) : Type 0 where
  pub some : AreSomeOf put (firsts arrived)
  pub kept : AreKept seen arrived
