use Rattle.std.proofs.Common.{ℕ, List}
use Rattle.outer_traits.specs.Outside.{Stays}
use Rattle.dump_pieces.specs.Reading.{HasGiven, octets_left}
use Rattle.dump_lines.proofs.receiving.receive.Given as goal

abbrev pub invariant-packets : goal.invariant-packets
invariant-packets g l = record {
  given : (packets : List (List ℕ)) × HasGiven l.fn.limit (g.S.Source.state l.fn.source).left (g.S.Source.state l.source).left packets l.reading × g.R.DumpRows.keeps l.rows l.fn.moment packets;
  no_fault : Stays (g.S.Source.state l.fn.source).faults (g.S.Source.state l.source).faults;
  reliable : (g.S.Source.state l.fn.source).never_fails → (g.S.Source.state l.source).never_fails × Stays (g.S.Source.state l.fn.source).faults (g.S.Source.state l.source).faults;
}

abbrev pub decreases-packets : goal.decreases-packets
decreases-packets g l = octets_left l.reading
