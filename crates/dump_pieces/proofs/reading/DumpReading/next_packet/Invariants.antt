use Rattle.std.proofs.Common.{ℕ, ◌≤◌, List}
use Rattle.std.specs.Prelude.{Option}
use Rattle.outer_traits.specs.Outside.{Stays}
use Rattle.dump_pieces.specs.Reading.{HasGiven, octets_left}
use Rattle.dump_pieces.proofs.reading.DumpReading.next_packet.Given as goal

abbrev pub invariant-pieces : goal.invariant-pieces
invariant-pieces g l = record {
  given : (limit : ℕ) (first : Option (List ℕ)) (packets : List (List ℕ)) → HasGiven limit first (g.S.Source.state l.fn.source).left packets l.fn.self
      → HasGiven limit first (g.S.Source.state l.source).left packets l.self;
  left : octets_left l.self ≤ octets_left l.fn.self;
  no_fault : Stays (g.S.Source.state l.fn.source).faults (g.S.Source.state l.source).faults;
  reliable : (g.S.Source.state l.fn.source).never_fails → (g.S.Source.state l.source).never_fails × Stays (g.S.Source.state l.fn.source).faults (g.S.Source.state l.source).faults;
}

abbrev pub decreases-pieces : goal.decreases-pieces
decreases-pieces g l = l.self.room
