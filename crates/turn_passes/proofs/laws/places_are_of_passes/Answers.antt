use Rattle.turn_passes.proofs.Joining.{fill_places_of_passes, places_of_passes}
use Rattle.turn_passes.proofs.laws.places_are_of_passes.Goals as goal

pub returns : goal.returns
returns g c = record {
  history = places_of_passes _ _ _;
  fills = fill_places_of_passes _ _ _;
}
