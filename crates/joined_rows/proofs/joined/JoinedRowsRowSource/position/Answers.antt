use Rattle.std.proofs.Common.{ℕ, Option, subst}
use Rattle.std.specs.Prelude.{IfSome}
use Rattle.replay_merge.specs.RowSource.{IsPositionOf}
use Rattle.joined_rows.proofs.Places.{second_told}
use Rattle.joined_rows.proofs.joined.JoinedRowsRowSource.position.Goals as goal

pub returns-in-Some-clause-told : goal.returns-in-Some-clause-told
returns-in-Some-clause-told g c =
    let inside = c.self.inside in
    let second = (g.B.RowSource.state inside.second.now).history in
    let found = subst (λ (o : Option ℕ). IfSome second (λ history. IsPositionOf history c.args.table c.args.key o)) c.in-Some.is c.in_ok-position.ensures.told in
    rw (← c.self.view_is) (second_told c.args.table c.args.key (g.A.RowSource.state inside.first.now).history second c.in-Some.position c.self.invariant found)
