use Rattle.std.proofs.Common.{◌≡◌, ◌∙◌, sym, ap, subst}
use Rattle.std.specs.Prelude.{IfNone, IfSome}
use Rattle.turn_cell.specs.Pass.{IsFree}
use Rattle.live_fills.specs.Filler.{AreWorksDone, IsLastRefused, IsRefusalOf}
use Rattle.live_fills.specs.LiveTarget.{BeginsInTurn, InstallsInTurn}
use Rattle.live_fills.proofs.Refused.{none_of_err, some_of_err}
use Rattle.live_fills.proofs.Runs.{run_alone, run_cause}
use Rattle.live_fills.proofs.Works.{held_run}
use Rattle.live_fills.proofs.filler.fill_when_woken.Goals as goal

-- each call of the target keeps its archive, and is one of its pass
pub returns-clause-free : goal.returns-clause-free
returns-clause-free g c =
    let device = g.D.Disk.device in
    let first = c.args.filler.live.now.cell.first.store in
    let woken = c.work_when_woken-answer in
    let run = held_run _ _ (BeginsInTurn device first) (InstallsInTurn device first) (λ s. s.target.pass) (λ s. s.target.live ≡ c.args.filler.live)
    (λ a b answer same h. (h.0 ∙ same, subst (λ l. BeginsInTurn device l.now.cell.first.store a.target.pass answer b.target.pass) same h.1))
    (λ a b task answer same h. (h.0 ∙ same, subst (λ l. InstallsInTurn device l.now.cell.first.store a.target.pass task answer b.target.pass) same h.1))
    c.new-patient.result woken.new.target c.args.filler.pass c.into_pass-pass.result woken.result
    (ap (λ t. t.live) c.new-patient.ensures ∙ c.new.ensures.0)
    (ap (λ t. t.pass) c.new-patient.ensures ∙ c.new.ensures.1)
    (c.into_pass-pass.ensures.pass ∙ ap (λ t. t.pass) c.into_target.ensures)
    woken.ensures.done woken.ensures.refused in
    subst (λ l. IsFree l.now.cell c.into_pass-pass.result) (ap (λ t. t.live) c.into_target.ensures ∙ run.0) c.into_pass-pass.ensures.free

pub returns-clause-alone : goal.returns-clause-alone
returns-clause-alone g c =
    let device = g.D.Disk.device in
    let first = c.args.filler.live.now.cell.first.store in
    let woken = c.work_when_woken-answer in
    let run = held_run _ _ (BeginsInTurn device first) (InstallsInTurn device first) (λ s. s.target.pass) (λ s. s.target.live ≡ c.args.filler.live)
    (λ a b answer same h. (h.0 ∙ same, subst (λ l. BeginsInTurn device l.now.cell.first.store a.target.pass answer b.target.pass) same h.1))
    (λ a b task answer same h. (h.0 ∙ same, subst (λ l. InstallsInTurn device l.now.cell.first.store a.target.pass task answer b.target.pass) same h.1))
    c.new-patient.result woken.new.target c.args.filler.pass c.into_pass-pass.result woken.result
    (ap (λ t. t.live) c.new-patient.ensures ∙ c.new.ensures.0)
    (ap (λ t. t.pass) c.new-patient.ensures ∙ c.new.ensures.1)
    (c.into_pass-pass.ensures.pass ∙ ap (λ t. t.pass) c.into_target.ensures)
    woken.ensures.done woken.ensures.refused in
    run_alone device first c.args.filler.pass c.into_pass-pass.result woken.result run.1 run.2

pub returns-clause-done : goal.returns-clause-done
returns-clause-done g c =
    let device = g.D.Disk.device in
    let first = c.args.filler.live.now.cell.first.store in
    let woken = c.work_when_woken-answer in
    let run = held_run _ _ (BeginsInTurn device first) (InstallsInTurn device first) (λ s. s.target.pass) (λ s. s.target.live ≡ c.args.filler.live)
    (λ a b answer same h. (h.0 ∙ same, subst (λ l. BeginsInTurn device l.now.cell.first.store a.target.pass answer b.target.pass) same h.1))
    (λ a b task answer same h. (h.0 ∙ same, subst (λ l. InstallsInTurn device l.now.cell.first.store a.target.pass task answer b.target.pass) same h.1))
    c.new-patient.result woken.new.target c.args.filler.pass c.into_pass-pass.result woken.result
    (ap (λ t. t.live) c.new-patient.ensures ∙ c.new.ensures.0)
    (ap (λ t. t.pass) c.new-patient.ensures ∙ c.new.ensures.1)
    (c.into_pass-pass.ensures.pass ∙ ap (λ t. t.pass) c.into_target.ensures)
    woken.ensures.done woken.ensures.refused in
    subst (λ o. IfNone o (AreWorksDone device first c.args.filler.pass c.into_pass-pass.result)) (sym c.err.ensures.value)
    (none_of_err (AreWorksDone device first c.args.filler.pass c.into_pass-pass.result) woken.result run.1)

pub returns-clause-last : goal.returns-clause-last
returns-clause-last g c =
    let device = g.D.Disk.device in
    let first = c.args.filler.live.now.cell.first.store in
    let woken = c.work_when_woken-answer in
    let run = held_run _ _ (BeginsInTurn device first) (InstallsInTurn device first) (λ s. s.target.pass) (λ s. s.target.live ≡ c.args.filler.live)
    (λ a b answer same h. (h.0 ∙ same, subst (λ l. BeginsInTurn device l.now.cell.first.store a.target.pass answer b.target.pass) same h.1))
    (λ a b task answer same h. (h.0 ∙ same, subst (λ l. InstallsInTurn device l.now.cell.first.store a.target.pass task answer b.target.pass) same h.1))
    c.new-patient.result woken.new.target c.args.filler.pass c.into_pass-pass.result woken.result
    (ap (λ t. t.live) c.new-patient.ensures ∙ c.new.ensures.0)
    (ap (λ t. t.pass) c.new-patient.ensures ∙ c.new.ensures.1)
    (c.into_pass-pass.ensures.pass ∙ ap (λ t. t.pass) c.into_target.ensures)
    woken.ensures.done woken.ensures.refused in
    subst (λ o. IfSome o (IsLastRefused device first c.args.filler.pass c.into_pass-pass.result)) (sym c.err.ensures.value)
    (some_of_err (IsLastRefused device first c.args.filler.pass c.into_pass-pass.result) woken.result run.2)

pub returns-clause-refused : goal.returns-clause-refused
returns-clause-refused g c =
    let device = g.D.Disk.device in
    let first = c.args.filler.live.now.cell.first.store in
    let woken = c.work_when_woken-answer in
    let run = held_run _ _ (BeginsInTurn device first) (InstallsInTurn device first) (λ s. s.target.pass) (λ s. s.target.live ≡ c.args.filler.live)
    (λ a b answer same h. (h.0 ∙ same, subst (λ l. BeginsInTurn device l.now.cell.first.store a.target.pass answer b.target.pass) same h.1))
    (λ a b task answer same h. (h.0 ∙ same, subst (λ l. InstallsInTurn device l.now.cell.first.store a.target.pass task answer b.target.pass) same h.1))
    c.new-patient.result woken.new.target c.args.filler.pass c.into_pass-pass.result woken.result
    (ap (λ t. t.live) c.new-patient.ensures ∙ c.new.ensures.0)
    (ap (λ t. t.pass) c.new-patient.ensures ∙ c.new.ensures.1)
    (c.into_pass-pass.ensures.pass ∙ ap (λ t. t.pass) c.into_target.ensures)
    woken.ensures.done woken.ensures.refused in
    subst (λ o. IfSome o (IsRefusalOf device first c.into_pass-pass.result)) (sym c.err.ensures.value)
    (some_of_err (IsRefusalOf device first c.into_pass-pass.result) woken.result (run_cause device first c.args.filler.pass c.into_pass-pass.result woken.result run.2))
