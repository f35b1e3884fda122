-- What contracts see of a shelf.
use Rattle.std.specs.Prelude.{◌≡◌, List, [], ◌∷◌, Option, Some, None, fold}
use Rattle.glance_log.specs.Sightings.{Sighting, IsFollowedBy}
use Rattle.glance_board.specs.declared.rule.Watched.{Watched}

-- the publication that readers see, and the one that was made last
pub record ShelfView (X : Type 0) : Type 0 where
  pub shown : Sighting X
  pub made : Sighting X

-- a shelf that shows one and has made another
abbrev pub shelf_view : {X : Type 0} → Sighting X → Sighting X → ShelfView X
shelf_view shown made = record { shown = shown; made = made }

-- the last of those that the board has still to show, or what is shown
abbrev pub last_to_show : {X : Type 0} → Sighting X → List (Sighting X) → Sighting X
last_to_show shown pending = fold (λ before next. next) shown pending

-- the last that was made is the one that waits, or else the last that the board has
abbrev pub IsLastMade : {X : Type 0} → Sighting X → Option (Sighting X) → Sighting X → Type 0
IsLastMade last None made = last ≡ made
IsLastMade last (Some waiting) made = waiting ≡ made

-- the writer has seen what is shown; that is followed by the last of those to be shown, and that by what was made last
pub record IsShelf {X : Type 0} (v : Watched X) (shown : Sighting X) (pending : List (Sighting X))
    (waiting : Option (Sighting X)) (made : Sighting X) : Type 0 where
  pub seen : v.seen ≡ shown ∷ []
  pub pends : IsFollowedBy shown (last_to_show shown pending)
  pub makes : IsFollowedBy (last_to_show shown pending) made
  pub last : IsLastMade (last_to_show shown pending) waiting made
