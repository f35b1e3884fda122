use Rattle.std.proofs.Common.{◌∙◌, sym}
use Rattle.std.specs.Prelude.{◌==◌}
use Rattle.mdb_lookups.proofs.PathPlaces.{place_found, place_past}
use Rattle.mdb_lookups.proofs.placed_conditions.place_among.Goals as goal

pub returns-in-None : goal.returns-in-None
returns-in-None c = place_past (λ p. p == c.args.parameter) c.args.parameters.now (sym c.found_at.ensures ∙ c.in-None.is)

pub returns-in-Some : goal.returns-in-Some
returns-in-Some c = place_found (λ p. p == c.args.parameter) c.args.parameters.now c.in-Some.place (sym c.found_at.ensures ∙ c.in-Some.is)
