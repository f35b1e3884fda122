-- What a store publishes, and what contracts see of a store with its shelf.
use Rattle.std.specs.Prelude.{◌≡◌, ◌⊎◌, Bool, Some, IsTrue, if◌then◌else◌}
use mathlib.Core.List.{IsPrefix}
use Rattle.arch_disk.specs.Disk.{Device}
use Rattle.logbook.specs.Pages.{Book}
use Rattle.archive_store.specs.Stands.{IsSoundImage}
use Rattle.archive_store.specs.StoreView.{StoreView}
use Rattle.glance_log.specs.declared.publication.Publication.{Publication}
use Rattle.glance_log.specs.Sightings.{Sighting, sighting}
use Rattle.glance_board.specs.declared.contents.Contents.{Contents}
use Rattle.glance_board.specs.Listings.{IsListing, StayingFacts}
use Rattle.glance_board.specs.Shelves.{ShelfView}
use Rattle.store_shelf.specs.declared.kept.Kept.{Kept}

-- the disk tells what it holds, and read as a sound image when it was opened
abbrev pub IsOpenedSound : {D : Type 0} → Device D → D → Type 0
IsOpenedSound device opened = IsTrue device.is_transparent × IsSoundImage (device.reads opened)

-- what stays of an archive, by what is kept of it
abbrev pub staying_by : {D : Type 0} → Device D → Kept D → StayingFacts
staying_by device kept =
    record { first = kept.head.mdb; exponent = kept.exponent; sound = IsOpenedSound device kept.opened }

-- what is kept of a store's archive
abbrev pub kept_of : {D : Type 0} → StoreView D → Kept D
kept_of store = record { head = store.head; exponent = store.exponent; opened = store.opened }

-- what stays of a store's archive
abbrev pub staying_of : {D : Type 0} → Device D → StoreView D → StayingFacts
staying_of device store = staying_by device (kept_of store)

-- what is published of a store: both lists as they are, and whether it is the last
abbrev pub publication_of : {D : Type 0} → Bool → StoreView D → Publication (Kept D)
publication_of last store =
    record { history = store.history; fills = store.fills; closed = last; fixed = kept_of store }

-- that publication in a log
abbrev pub published_of : {D : Type 0} → Book → Bool → StoreView D → Sighting (Kept D)
published_of book last store = sighting book (publication_of last store)

-- contents are those of a store's publication, in whatever log and whether or not it is the last
abbrev pub AreContentsOf : {D : Type 0} → Device D → StoreView D → Contents → Type 0
AreContentsOf device store contents =
    (book : Book) (last : Bool) → IsListing (staying_by device) (published_of book last store) contents

-- a publication is of a store's archive, and both its lists begin those of the store
pub record BeginsStore {D : Type 0} (made : Sighting (Kept D)) (store : StoreView D) : Type 0 where
  pub history : IsPrefix made.history store.history
  pub fills : IsPrefix made.fills store.fills
  pub fixed : made.fixed ≡ Some (kept_of store)

-- What was made last once a store was to be published, given what was before: the store's publication. Behind the last
-- publication nothing is made.
abbrev pub made_of : {D : Type 0} → Bool → Sighting (Kept D) → StoreView D → Sighting (Kept D)
made_of last before store = if before.closed then before else published_of before.book last store

-- a store, and its shelf
pub record ShelvedView (D : Type 0) : Type 0 where
  pub store : StoreView D
  pub shelf : ShelfView (Kept D)

-- these two
abbrev pub published_view : {D : Type 0} → StoreView D → ShelfView (Kept D) → ShelvedView D
published_view store shelf = record { store = store; shelf = shelf }

-- it was made, or nothing was
abbrev pub IsMadeOrLeft : {D : Type 0} → Bool → ShelvedView D → ShelvedView D → Type 0
IsMadeOrLeft last old new =
    (new.shelf.made ≡ made_of last old.shelf.made old.store) ⊎ (new.shelf.made ≡ old.shelf.made)
