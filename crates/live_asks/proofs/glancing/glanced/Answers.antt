use Rattle.std.proofs.Common.{Option, IfSome, sym, subst}
use Rattle.asks.specs.declared.ask.Answer.{Answer}
use Rattle.glance.specs.Answers.{IsNowAnswer}
use Rattle.store_shelf.specs.Publications.{staying_by}
use Rattle.live_asks.proofs.Looking.{ok_is_some}
use Rattle.live_asks.proofs.glancing.glanced.Goals as goal

pub returns-in-Some-clause-answered : goal.returns-in-Some-clause-answered
returns-in-Some-clause-answered g c =
    let at = c.retrieve_now.new.self in
    let request = c.args.request.now in
    subst (λ (o : Option Answer). IfSome o (IsNowAnswer (staying_by g.D.Disk.device) at request)) (sym c.ok.ensures.value)
    (ok_is_some (IsNowAnswer (staying_by g.D.Disk.device) at request) c.retrieve_now.result c.retrieve_now.ensures.answered)
