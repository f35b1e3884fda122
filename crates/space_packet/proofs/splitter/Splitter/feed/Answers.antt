use Rattle.std.proofs.Common.{◌≡◌, ℕ, ◌+◌, List, [], ◌∷◌, ◌++◌, length, ap, arith}
use Rattle.space_packet.specs.Waiting.{Waiting}
use Rattle.space_packet.proofs.Pieces.{start_within, octets_more, holds_more}
use Rattle.space_packet.proofs.splitter.Splitter.feed.Goals as goal

pub invariant_of-self-2 : goal.invariant_of-self-2
invariant_of-self-2 c =
    let s = c.self.inside in
    let put : c.push_back.new.self.items ≡ s.pieces.items ++ c.args.piece.now ∷ [] = rw (← c.in_ok-copy.ensures) c.in_ok-push_back.ensures.items in
    let sum : c.in-Some.fed ≡ s.fed + length c.args.piece.now = omega arith in
    rw (put, sum) (holds_more s.pieces.items c.args.piece.now s.start s.at s.fed c.self.invariant (omega arith))

pub returns-clause-ok : goal.returns-clause-ok
returns-clause-ok c =
    let s = c.self.inside in
    let put : c.push_back.new.self.items ≡ s.pieces.items ++ c.args.piece.now ∷ [] = rw (← c.in_ok-copy.ensures) c.in_ok-push_back.ensures.items in
    let more = octets_more s.pieces.items c.args.piece.now s.start (start_within s.pieces.items s.start c.self.invariant.first) in
    let waits : ℕ → List ℕ → Waiting = λ at octets. record { at = at; octets = octets } in
    rw (← c.self.view_is, put) (ap (waits s.at) more)
