-- What an ingest answers.
use Rattle.std.specs.Prelude.{◌≡◌, ℕ, List, [], ◌∷◌, ◌++◌, length, slice_get, Option, Some, None, true}
use Rattle.arch_types.specs.declared.row.Row.{Row}
use Rattle.arch_types.specs.declared.inserted.Inserted.{Inserted}
use Rattle.arch_types.specs.declared.inserted.Inserted.TheVariants.{New, Duplicate}
use Rattle.history_items.specs.declared.items.Item.{Item}
use Rattle.history_items.specs.Items.{after_row, has_key_of, row_item}
use Rattle.history_items.specs.Places.{first_place}

-- by the position of the row that has its table and key, or by the length of the history
abbrev pub outcome_at : Option ℕ → ℕ → Inserted
outcome_at (Some place) length = Duplicate place
outcome_at None length = New length

-- a row is new, and stands at the end of the history, or the row at a position has its table and key
abbrev pub outcome_of : List Item → Row → Inserted
outcome_of history row = outcome_at (first_place (has_key_of row) history) (length history)

-- the outcomes of rows, each after those before it
abbrev pub outcomes_of : List Item → List Row → List Inserted
outcomes_of history [] = []
outcomes_of history (row ∷ rows) = outcome_of history row ∷ outcomes_of (after_row history row) rows

-- what an outcome says of a row that comes to a history: it is appended at this position, or the row at this position
-- has its table and key
abbrev pub Says : List Item → Row → Inserted → Type 0
Says history row (New position) = (after_row history row ≡ history ++ row_item row ∷ []) × (position ≡ length history)
Says history row (Duplicate position) =
    (there : Item) × (slice_get history position ≡ Some there) × (has_key_of row there ≡ true)

-- the rows that are answered New
abbrev pub answered_new : List Inserted → List Row → List Row
answered_new [] rows = []
answered_new (outcome ∷ outcomes) [] = []
answered_new (New position ∷ outcomes) (row ∷ rows) = row ∷ answered_new outcomes rows
answered_new (Duplicate position ∷ outcomes) (row ∷ rows) = answered_new outcomes rows

-- the rows of a batch that are new
abbrev pub fresh_of : List Item → List Row → List Row
fresh_of history rows = answered_new (outcomes_of history rows) rows
