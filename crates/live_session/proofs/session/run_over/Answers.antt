use Rattle.std.proofs.Common.{◌≡◌, ◌∙◌, ap}
use Rattle.live_session.specs.Jobs.{job_setting}
use Rattle.live_session.proofs.Closing.{session_over, untouched}
use Rattle.live_session.proofs.Lists.{either_way}
use Rattle.live_session.proofs.Making.{share_lasts}
use Rattle.live_session.proofs.session.run_over.Goals as goal

pub run_jobs-result-requires-clause-share : goal.run_jobs-result-requires-clause-share
run_jobs-result-requires-clause-share g c κs within = share_lasts _ _ c.requires.few c.requires.whole

pub run_jobs-result-requires-clause-seen : goal.run_jobs-result-requires-clause-seen
run_jobs-result-requires-clause-seen g c κs within = ap (λ s. s.seen) c.requires.lists.0

pub close_with_glances-store-requires-clause-share : goal.close_with_glances-store-requires-clause-share
close_with_glances-store-requires-clause-share g c =
    either_way c.run_jobs-result.result _ _ (c.run_jobs-result.new.pass.share ≡ 9223372036854775808)
    (λ ends ran. ran.share ∙ c.requires.whole) (λ orders back. ap (λ p. p.share) back.1 ∙ c.requires.whole) c.run_jobs-result.ensures.ran c.run_jobs-result.ensures.back

pub returns-in-Ok-clause-over : goal.returns-in-Ok-clause-over
returns-in-Ok-clause-over g c =
    let s = c.args.setting.now in
    session_over g.D.Disk.device g.S.Source.state c.args.live.cell.first.store c.close_with_glances-store.result (job_setting s.head.now s.graph.now s.moment s.asks.now) c.args.pass c.run_jobs-result.new.pass
    c.requires.lists.0 c.requires.lists.1 c.close_with_glances-store.ensures.value c.close_with_glances-store.ensures.closed c.args.orders.items c.in-Ok.ends.items c.in-Ok.ensures.ran c.close_with_glances-store.ensures.idle

pub returns-in-Err-clause-not_begun : goal.returns-in-Err-clause-not_begun
returns-in-Err-clause-not_begun g c =
    let s = c.args.setting.now in (
      c.in-Err.ensures.back.0,
      untouched g.D.Disk.device g.S.Source.state c.args.live.cell.first.store c.close_with_glances-store.result (job_setting s.head.now s.graph.now s.moment s.asks.now) c.args.pass c.run_jobs-result.new.pass
          c.requires.lists.0 c.requires.lists.1 c.close_with_glances-store.ensures.value c.close_with_glances-store.ensures.closed c.in-Err.ensures.back.1 c.close_with_glances-store.ensures.idle,
    )
