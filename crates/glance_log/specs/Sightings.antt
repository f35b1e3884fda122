-- What contracts see of a publication that was seen.
use Rattle.std.specs.Prelude.{◌≡◌, Bool, true, false, List, [], ◌∷◌, Option, Some, None}
use mathlib.Core.List.{IsPrefix}
use Rattle.history_items.specs.declared.fills.Fill.{Fill}
use Rattle.history_items.specs.declared.items.Item.{Item}
use Rattle.logbook.specs.Pages.{Book}
use Rattle.glance_log.specs.declared.publication.Publication.{Publication}

-- of which log, the history and the fill list, whether nothing is published behind it, and what stays of the archive
pub record Sighting (X : Type 0) : Type 0 where
  pub book : Book
  pub history : List Item
  pub fills : List Fill
  pub closed : Bool
  pub fixed : Option X

-- a publication of a log
abbrev pub sighting : {X : Type 0} → Book → Publication X → Sighting X
sighting book p = record { book = book; history = p.history; fills = p.fills; closed = p.closed; fixed = Some p.fixed }

-- the last of some
abbrev pub sighting_of : {X : Type 0} → Book → List (Publication X) → Sighting X
sighting_of book [] = record { book = book; history = []; fills = []; closed = false; fixed = None }
sighting_of book (p ∷ []) = sighting book p
sighting_of book (p ∷ q ∷ rest) = sighting_of book (q ∷ rest)

-- the second is the first or a later one: both its lists begin with those of the first, and after the last comes none
pub record IsFollowedBy {X : Type 0} (a b : Sighting X) : Type 0 where
  pub book : b.book ≡ a.book
  pub history : IsPrefix a.history b.history
  pub fills : IsPrefix a.fills b.fills
  pub fixed : b.fixed ≡ a.fixed
  pub last : a.closed ≡ true → b ≡ a

-- a publication may come behind the last one
pub record MayFollow {X : Type 0} (a : Sighting X) (p : Publication X) : Type 0 where
  pub history : IsPrefix a.history p.history
  pub fills : IsPrefix a.fills p.fills
  pub fixed : a.fixed ≡ Some p.fixed
  pub unclosed : a.closed ≡ false
