-- A dump that isn't received.
use Rattle.std.proofs.Common.{ℕ, List, Option}
use Rattle.outer_traits.specs.declared.whole.ReadFault.{ReadFault}
use Rattle.outer_traits.specs.declared.whole.ReadFault.TheVariants.{Missing, Failed, TooLong, OutOfMemory}
use Rattle.dump_pieces.specs.Reading.{HasGiven, IsNoPacket, Reading}
use Rattle.dump_lines.specs.Receiving.{IsNotReceived}

-- why no packet was given is why it isn't
pub not_received : (limit : ℕ) (first left : Option (List ℕ)) (packets : List (List ℕ)) (reading : Reading) → HasGiven limit first left packets reading →
    (fault : ReadFault) → IsNoPacket left reading fault → IsNotReceived limit first fault
not_received limit first left packets reading h Failed why = tt
not_received limit first left packets reading h TooLong why = why limit first packets h
not_received limit first left packets reading h OutOfMemory why = tt
not_received limit first left packets reading h Missing why = why
