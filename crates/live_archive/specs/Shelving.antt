-- What is published beside a store in turns.
use Rattle.std.specs.Prelude.{◌≡◌, ◌⊎◌, ℕ, Bool, List, [], ◌∷◌, ◌++◌, Option, Some, None, true, false, IfSome, IsSomeAnd, if◌then◌else◌, replicate}
use mathlib.Core.List.{IsPrefix}
use Rattle.arch_disk.specs.Disk.{Device}
use Rattle.history_items.specs.declared.fills.Fill.{Fill}
use Rattle.history_items.specs.declared.fills.Fill.TheVariants.{Closed}
use Rattle.history_items.specs.declared.items.Item.{Item}
use Rattle.turn_cell.specs.Pass.{PassView}
use Rattle.archive_store.specs.StoreView.{StoreView}
use Rattle.glance_board.specs.Shelves.{ShelfView, shelf_view}
use Rattle.glance_log.specs.Sightings.{IsFollowedBy, Sighting}
use Rattle.store_shelf.specs.declared.kept.Kept.{Kept}
use Rattle.store_shelf.specs.Publications.{BeginsStore, made_of, published_of}
use Rattle.live_archive.specs.declared.held.HeldStore.{HeldStore}
use Rattle.live_archive.specs.GoesOn.{GoesOn}
use Rattle.live_archive.specs.Closings.{HasClosed, HasNotClosed, TellsClosing}

-- what was made last is of one log with what was made before and follows it, and begins the store
pub record ShelfGoesOn {D : Type 0} (before now : Sighting (Kept D)) (store : StoreView D) : Type 0 where
  pub log : now.book ≡ before.book
  pub follows : IsFollowedBy before now
  pub begins : BeginsStore now store

-- a store has a shelf where it had one, and that went on
abbrev pub KeepsShelf : {D : Type 0} → Option (ShelfView (Kept D)) → Option (ShelfView (Kept D)) → StoreView D → Type 0
KeepsShelf None now store = now ≡ None
KeepsShelf (Some before) now store = IsSomeAnd now (λ shelf. ShelfGoesOn before.made shelf.made store)

-- the last publication was made only where the closing has come
abbrev pub LastIsClosing : {D : Type 0} → HeldStore D → Type 0
LastIsClosing held = IfSome held.shelf (λ shelf. shelf.made.closed ≡ true → held.has_closing ≡ true)

-- a store in turns goes on from the one that the turns began with, and so does its shelf; it knows of its closing
pub record HeldGoesOn {D : Type 0} (device : Device D) (first now : HeldStore D) : Type 0 where
  pub store : GoesOn device first.store now.store
  pub shelf : KeepsShelf first.shelf now.shelf now.store
  pub closing : TellsClosing first.store now.store.fills now.has_closing
  pub last : LastIsClosing now

-- what was made last begins the store, where there is a shelf
abbrev pub IsBeside : {D : Type 0} → Option (ShelfView (Kept D)) → StoreView D → Type 0
IsBeside shelf store = IfSome shelf (λ s. BeginsStore s.made store)

-- what a store's shelf has made and shown last, once all is published, and for the last time or not
abbrev pub IsPublished : {D : Type 0} → Bool → HeldStore D → Option (ShelfView (Kept D)) → Sighting (Kept D) → Type 0
IsPublished last held shelf note =
    IsSomeAnd held.shelf (λ had. note ≡ made_of last had.made held.store) × (shelf ≡ Some (shelf_view note note))

-- The turns began with a store whose whole lists are shown as one publication, which so many glances have seen.
pub record AreShownFirst {D : Type 0} (first : HeldStore D) (readers : ℕ) (glances : List (Sighting (Kept D)))
    : Type 0 where
  pub at : Sighting (Kept D)
  pub shelf : first.shelf ≡ Some (shelf_view at at)
  pub all : at ≡ published_of at.book false first.store
  pub seen : glances ≡ replicate readers at

-- it is of the log of the archive
abbrev pub IsOfLog : {D : Type 0} → HeldStore D → Sighting (Kept D) → Type 0
IsOfLog first note = IsSomeAnd first.shelf (λ shelf. note.book ≡ shelf.made.book)

-- a store with the closing behind its fill list
abbrev pub with_closing : {D : Type 0} → StoreView D → StoreView D
with_closing store = record store { fills = store.fills ++ Closed ∷ [] }

-- the same where it hasn't come before
abbrev pub closed_once : {D : Type 0} → Bool → StoreView D → StoreView D
closed_once has_closing store = if has_closing then store else with_closing store

-- a store in turns took its closing, unless it had it
pub record TakesClosing {D : Type 0} (old new : HeldStore D) : Type 0 where
  pub store : new.store ≡ closed_once old.has_closing old.store
  pub closing : new.has_closing ≡ true

-- it took none
pub record TakesNoClosing {D : Type 0} (old new : HeldStore D) : Type 0 where
  pub store : new.store ≡ old.store
  pub closing : new.has_closing ≡ old.has_closing

-- The closing hadn't come and came, and nothing else changed; or it had come, and nothing changed.
abbrev pub IsClosedOnce : {D : Type 0} → StoreView D → StoreView D → StoreView D → Type 0
IsClosedOnce first before after =
    (HasNotClosed first before.fills × (after ≡ with_closing before))
    ⊎ (HasClosed first before.fills × (after ≡ before))

-- it may have come where it hadn't, and nothing else changed
abbrev pub MayClose : {D : Type 0} → StoreView D → StoreView D → StoreView D → Type 0
MayClose first before after = (HasNotClosed first before.fills × (after ≡ with_closing before)) ⊎ (after ≡ before)

-- A note that a turn gives of a store: that as it was published; or, behind the last publication, that. There was one
-- only where the closing had come.
pub record IsNoteIn {D : Type 0} (last : Bool) (first : HeldStore D) (store : StoreView D) (note : Sighting (Kept D))
    : Type 0 where
  pub made : Sighting (Kept D)
  pub log : IsOfLog first made
  pub begins : BeginsStore made store
  pub published : note ≡ made_of last made store
  pub closing : made.closed ≡ true → HasClosed first.store store.fills

-- a note that a turn gives of the last publication of the store that it leaves, to which the closing came once
abbrev pub IsClosingNote : {D : Type 0} → HeldStore D → StoreView D → StoreView D → Sighting (Kept D) → Type 0
IsClosingNote first before after note = IsClosedOnce first.store before after × IsNoteIn true first after note

-- A note of what a pass has seen: its lists. Only where its fill list has the closing may they be those of the last
-- publication instead, which begin them.
pub record IsNoteOf {D T : Type 0} (first : StoreView D) (pass : PassView Item Fill T) (note : Sighting (Kept D))
    : Type 0 where
  pub history : IsPrefix note.history pass.history.seen
  pub fills : IsPrefix note.fills pass.fills.seen
  pub all : note.closed ≡ false → (note.history ≡ pass.history.seen) × (note.fills ≡ pass.fills.seen)
  pub closing : note.closed ≡ true → HasClosed first pass.fills.seen
