use Rattle.std.proofs.Common.{◌≡◌, ◌∙◌, [], ◌++◌, map, sym, ap, subst}
use Rattle.std.specs.List.{AllByRecursion}
use Rattle.turn_cell.specs.Pass.{IsFree}
use Rattle.turn_passes.specs.Passes.{Joins}
use Rattle.live_session.specs.Jobs.{IsOutcomeOf, job_pass, job_setting}
use Rattle.live_session.specs.Session.{HaveRun}
use Rattle.live_session.proofs.Coming.{all_ends, each_of_ends, have_run}
use Rattle.live_session.proofs.Sending.{goes}
use Rattle.live_session.proofs.running.run_jobs.Goals as goal

pub run_all-requires-send-J : goal.run_all-requires-send-J
run_all-requires-send-J g c κs within =
    let disk = c.type_bounds.send-D in
    let source = c.type_bounds.send-S in
    let gate = c.type_bounds.sync-G in
    search goes depth 60 fits 100000

pub run_all-requires-send-J-Done : goal.run_all-requires-send-J-Done
run_all-requires-send-J-Done g c κs within =
    let disk = c.type_bounds.send-D in
    let source = c.type_bounds.send-S in
    search goes depth 60 fits 100000

pub join_all-requires-clause-others : goal.join_all-requires-clause-others
join_all-requires-clause-others g c =
    let dones = c.run_all.new.done.items in
    let each = each_of_ends _ c.make_jobs.new.jobs.items _ dones c.in-Ok-with_capacity.ensures.items c.run_all.ensures.did in
    let all = all_ends _ _ (λ one. one.pass) (IsFree c.args.live.now.cell) (λ job one here did. subst (λ cell. IsFree cell one.pass) here.0 did.0) c.make_jobs.new.jobs.items dones c.make_jobs.ensures.here each in
    let is : c.take_apart.new.passes.items ≡ map (λ one. one.pass) dones = c.take_apart.ensures.passes ∙ ap (λ l. l ++ map (λ one. one.pass) dones) c.in-Ok-with_capacity-2.ensures.items in
    subst (AllByRecursion (IsFree c.args.live.now.cell)) (sym is) all

pub returns-clause-ran : goal.returns-clause-ran
returns-clause-ran g c =
    let device = g.D.Disk.device in
    let state = g.S.Source.state in
    let first = c.args.live.now.cell.first.store in
    let s = c.args.setting.now in
    let all = job_setting s.head.now s.graph.now s.moment s.asks.now in
    let jobs = c.make_jobs.new.jobs.items in
    let dones = c.run_all.new.done.items in
    let each = each_of_ends _ jobs _ dones c.in-Ok-with_capacity.ensures.items c.run_all.ensures.did in
    let is : c.take_apart.new.passes.items ≡ map (λ one. one.pass) dones = c.take_apart.ensures.passes ∙ ap (λ l. l ++ map (λ one. one.pass) dones) c.in-Ok-with_capacity-2.ensures.items in
    let told : c.take_apart.new.ends.items ≡ map (λ one. one.end) dones = c.take_apart.ensures.ends ∙ ap (λ l. l ++ map (λ one. one.end) dones) c.in-Ok-with_capacity-3.ensures.items in
    let joined = subst (λ l. Joins l c.make_jobs.new.pass c.join_all.new.pass []) is c.join_all.ensures.joined in
    let ran = have_run device state first all (λ job. job.pass) (λ job. job.order) (λ one. one.pass) (λ one. one.end) _ _
    (λ job one here did. subst (λ cell. IsOutcomeOf device state cell.first.store all (job_pass job.pass one.pass) job.order one.end) here.0
    (subst (λ x. IsOutcomeOf device state job.live.now.cell.first.store x (job_pass job.pass one.pass) job.order one.end) here.1 did.1))
    c.args.pass.now c.make_jobs.new.pass c.join_all.new.pass _ jobs dones c.make_jobs.ensures.here each c.make_jobs.ensures.split joined in
    subst (λ l. HaveRun device state first all (job_pass c.args.pass.now c.join_all.new.pass) l c.take_apart.new.ends.items) c.make_jobs.ensures.orders
    (subst (λ l. HaveRun device state first all (job_pass c.args.pass.now c.join_all.new.pass) (map (λ job. job.order) jobs) l) (sym told) ran)
