use Rattle.ssql_select.proofs.select.select.Goals as goal

pub returns-clause-given : goal.returns-clause-given
returns-clause-given g c = record { rows = c.in_ok-rows.rows.items; given = c.in_ok-rows.ensures.given; lines = rw c.as_slice.ensures at c.of.ensures }
