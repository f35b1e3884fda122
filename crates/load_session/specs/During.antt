-- What power lost during a session leaves.
use Rattle.std.specs.Prelude.{◌≡◌, ◌⊎◌, List, ◌++◌, Contains}
use mathlib.Core.List.{IsPrefix}
use Rattle.arch_disk.specs.Image.{Image}
use Rattle.history_items.specs.declared.items.Item.{Item}
use Rattle.archive_store.specs.Entries.{Archive, archive}
use Rattle.archive_store.specs.Stands.{StandsFor}

-- an archive at another history
abbrev pub with_history : Archive → List Item → Archive
with_history before history = archive before.head before.exponent history

-- a history is the whole one that was reached, with the items of a batch in hand
abbrev pub HasBatchInHand : List Item → List (List Item) → List Item → Type 0
HasBatchInHand reached in_hand history =
    (items : List Item) × Contains in_hand items × (history ≡ reached ++ items)

-- An image during a session: it stands for a history from the one before to the one reached, or for the latter with the
-- items of a batch in hand.
pub record IsDuring (before : Archive) (reached : List Item) (in_hand : List (List Item)) (image : Image) : Type 0 where
  pub history : List Item
  pub holds : IsPrefix before.history history
  pub within : IsPrefix history reached ⊎ HasBatchInHand reached in_hand history
  pub stands : StandsFor image (with_history before history)
