-- What holds of passes that were joined.
use Rattle.std.specs.Prelude.{◌≡◌, ℕ, ◌<◌, ◌≤◌, List, [], Contains}
use Rattle.std.specs.List.{range_with_len}
use Rattle.turn_cell.specs.Pass.{PassView}
use Rattle.turn_passes.specs.Passes.{Joins}

module _ (I F T : Type 0) where
  -- where all passes are joined to that of who made a cell over a history of so many items, and the joined one has each place
  -- of a longer history, each place behind the first ones is one of a pass's
  abbrev pub PlacesAreOfPasses : Type 0
  PlacesAreOfPasses = (passes : List (PassView I F T)) (old now : PassView I F T) (first whole : ℕ) →
      Joins passes old now [] → old.history.places ≡ range_with_len 0 first →
      ((place : ℕ) → place < whole → Contains now.history.places place) →
      (place : ℕ) → first ≤ place → place < whole →
      (pass : PassView I F T) × Contains passes pass × Contains pass.history.places place

  -- the same of fill lists
  abbrev pub FillPlacesAreOfPasses : Type 0
  FillPlacesAreOfPasses = (passes : List (PassView I F T)) (old now : PassView I F T) (first whole : ℕ) →
      Joins passes old now [] → old.fills.places ≡ range_with_len 0 first →
      ((place : ℕ) → place < whole → Contains now.fills.places place) →
      (place : ℕ) → first ≤ place → place < whole →
      (pass : PassView I F T) × Contains passes pass × Contains pass.fills.places place
