use Rattle.std.proofs.Common.{◌≡◌, ◌+◌, ◌≤◌, ◌^◌, ◌++◌, [], length, map, vec_len, vec_capacity, IfSome}
use Rattle.std.specs.List.{AllByRecursion}
use Rattle.turn_cell.specs.Pass.{IsFree}
use Rattle.turn_passes.specs.Passes.{AreSplitOff}
use Rattle.live_asks.specs.LiveAsks.{IsGlanceAt}
use Rattle.live_session.specs.Jobs.{IsNumbered, MayDo, job_setting}
use Rattle.live_session.proofs.running.make_jobs.Given as goal

-- some jobs were made, and there's room and share for those that are left
abbrev pub invariant-loop-order : goal.invariant-loop-order
invariant-loop-order g l = record {
  free : IsFree l.live.cell l.pass;
  left : map (λ job. job.order) l.jobs.items ++ l.order-iterator.rest.items ≡ l.fn.orders.items;
  count : vec_len l.jobs + length l.order-iterator.rest.items ≡ vec_len l.fn.orders;
  capacity : vec_capacity l.jobs ≡ vec_capacity l.fn.jobs;
  share : 2 ^ length l.order-iterator.rest.items ≤ l.pass.share;
  numbered : AllByRecursion IsNumbered l.order-iterator.rest.items;
  glances : AllByRecursion (IsGlanceAt l.live.cell.first) l.glances;
  here : AllByRecursion (λ job. (job.live.now.cell ≡ l.live.cell)
      × (job_setting job.setting.now.head.now job.setting.now.graph.now job.setting.now.moment job.setting.now.asks.now
      ≡ job_setting l.setting.head.now l.setting.graph.now l.setting.moment l.setting.asks.now)) l.jobs.items;
  may : AllByRecursion (λ job. IsFree job.live.now.cell job.pass × IfSome job.glance (IsGlanceAt job.live.now.cell.first) × MayDo job.live.now.cell.first.store
      (job_setting job.setting.now.head.now job.setting.now.graph.now job.setting.now.moment job.setting.now.asks.now) job.pass job.order) l.jobs.items;
  split : AreSplitOff l.fn.pass l.pass [] (map (λ job. job.pass) l.jobs.items) (length l.jobs.items);
}
