use Rattle.std.proofs.Common.{rules, ◌≡◌, inl, inr, refl, subst}
use Rattle.std.specs.Arc.{arc_value}
use Rattle.mdb_items.specs.Database.{Database}
use Rattle.param_segments.specs.Extracted.{IsSetOf}
use Rattle.store_fills.specs.declared.task.FillTask.{FillTask}
use Rattle.store_fills.specs.Filled.{HoldsRows}
use Rattle.live_archive.specs.Laws.{IsBuiltOf}
use Rattle.live_fills.specs.LiveTarget.{GivesUpInTurn}
use Rattle.live_fills.proofs.live_target.LiveTargetFillTarget.install.Goals as goal

-- what is built of the task is right for what its pass has seen
pub install-requires-clause-right : goal.install-requires-clause-right
install-requires-clause-right g c clear =
    let of = c.in-Ok-of.ensures in
    let same : c.deref.result.now ≡ arc_value c.args.task.mdb = search rules in
    c.requires.right (λ _. clear) c.in-Ok-of.done (record {
      interval = of.of_task.0;
      base = of.of_task.1;
      exponent = of.origin.0;
      mdb = of.origin.1;
      fits = subst (λ (db : Database). IsSetOf db c.args.task.exponent c.args.task.interval.0 c.in-Ok-of.done.set) same of.fits;
      holds = subst (λ (db : Database). HoldsRows db c.in-Ok-of.done.set c.args.task.rows) same of.holds;
    })

pub returns-in-Ok-of : goal.returns-in-Ok-of
returns-in-Ok-of g c =
    let of = c.in-Ok-of.ensures in
    let same : c.deref.result.now ≡ arc_value c.args.task.mdb = search rules in
    let built : IsBuiltOf c.args.task c.in-Ok-of.done = record {
      interval = of.of_task.0;
      base = of.of_task.1;
      exponent = of.origin.0;
      mdb = of.origin.1;
      fits = subst (λ (db : Database). IsSetOf db c.args.task.exponent c.args.task.interval.0 c.in-Ok-of.done.set) same of.fits;
      holds = subst (λ (db : Database). HoldsRows db c.in-Ok-of.done.set c.args.task.rows) same of.holds;
    } in
    (refl, record { own = c.requires; turn = inl (c.in-Ok-of.done, built, c.install.ensures.turn) })

pub returns : goal.returns
returns g c =
    let given_up = subst (λ (task : FillTask). GivesUpInTurn g.D.Disk.device c.args.self.now.live.now.cell.first.store c.args.self.now.pass task c.abandon-in-Err.new.pass) c.in-Err.ensures.back c.abandon-in-Err.ensures.turn in
    (refl, record { own = c.requires; turn = inr (refl, given_up) })

pub returns-in_default : goal.returns-in_default
returns-in_default g c = (refl, record { own = c.requires; turn = inr (refl, c.abandon.ensures.turn) })
