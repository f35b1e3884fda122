use Rattle.history_items.proofs.Flights.{flights_are_in_flight}
use Rattle.history_items.proofs.laws.flights_are_in_flight.Goals as goal

pub returns : goal.returns
returns c = flights_are_in_flight
