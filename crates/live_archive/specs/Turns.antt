-- What a call in its turn does to a pass and to the store.
use Rattle.std.specs.Prelude.{◌≡◌, ℕ, ◌+◌, ◌<◌, List, length, Contains}
use mathlib.Core.List.{IsPrefix}
use Rattle.arch_disk.specs.Disk.{Device}
use Rattle.history_items.specs.declared.fills.Fill.{Fill}
use Rattle.history_items.specs.declared.items.Item.{Item}
use Rattle.interval_fills.specs.Steps.{all_freed}
use Rattle.turn_cell.specs.Lists.{found_seen, left_seen}
use Rattle.turn_cell.specs.Pass.{PassView, Standing}
use Rattle.archive_store.specs.StoreView.{StoreView}
use Rattle.live_archive.specs.GoesOn.{GoesOn}

-- the store that the turns began with, with the history that a pass has seen
abbrev pub as_seen : {D T : Type 0} → StoreView D → PassView Item Fill T → StoreView D
as_seen first pass = record first { history = pass.history.seen }

-- a pass after a turn that found one store and left another
abbrev pub after_turn
    : {D T : Type 0} → PassView Item Fill T → StoreView D → StoreView D → Standing T → PassView Item Fill T
after_turn old before after standing = record old {
  history = left_seen (found_seen old.history before.history) after.history;
  fills = left_seen (found_seen old.fills before.fills) after.fills;
  turns = old.turns + 1;
  standing = standing;
}

-- A turn of a pass found a store that goes on from the first one, with lists that begin with those that the pass had
-- seen, and left one that goes on from that.
pub record Turned {D T : Type 0} (device : Device D) (first before after : StoreView D) (old new : PassView Item Fill T)
    : Type 0 where
  pub found : GoesOn device first before
  pub goes : GoesOn device before after
  pub begins : IsPrefix old.history.seen before.history
  pub fills_begin : IsPrefix old.fills.seen before.fills
  pub pass : new ≡ after_turn old before after new.standing

-- A call took one turn, and `Said` is what the store's own call says of the two stores that it found and left.
pub record TookTurn {D T : Type 0} (device : Device D) (first : StoreView D) (old new : PassView Item Fill T)
    (Said : StoreView D → StoreView D → Type 0) : Type 0 where
  pub before : StoreView D
  pub after : StoreView D
  pub turned : Turned device first before after old new
  pub said : Said before after

-- The store that the last turn left, with each flight ended. Its lists begin with those that the pass has seen, have as
-- many items as the pass has added, and have each at one of its places.
pub record IsClosed {D T : Type 0} (pass : PassView Item Fill T) (store : StoreView D) : Type 0 where
  pub last : List Fill
  pub settled : store.fills ≡ all_freed last
  pub begins : IsPrefix pass.history.seen store.history
  pub fills_begin : IsPrefix pass.fills.seen last
  pub added : length store.history ≡ pass.history.added
  pub fills_added : length last ≡ pass.fills.added
  pub placed : (place : ℕ) → place < length store.history → Contains pass.history.places place
  pub fills_placed : (place : ℕ) → place < length last → Contains pass.fills.places place
