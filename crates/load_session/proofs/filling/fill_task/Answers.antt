use Rattle.std.proofs.Common.{ℕ, List, length, ◌∙◌, sym, ap, subst, arith}
use Rattle.std.proofs.lemmas.List.{take_all}
use Rattle.intervals.specs.declared.interval.Interval.{Interval}
use Rattle.arch_types.specs.declared.row.Row.{Row}
use Rattle.history_items.specs.Databases.{database_in}
use Rattle.mdb_items.specs.Database.{Database}
use Rattle.param_segments.specs.Extracted.{IsSetOf}
use Rattle.store_fills.specs.Filled.{HoldsRows, IsRightFill}
use Rattle.store_fills.proofs.RightFills.{whole_fill_is_right}
use Rattle.archive_store.specs.Pages.{TellsRows}
use Rattle.archive_store.proofs.Calls.{passed_on}
use Rattle.load_session.specs.Filling.{IsTaskRefusal}
use Rattle.load_session.proofs.FilledTasks.{task_filled, task_refused}
use Rattle.load_session.proofs.filling.fill_task.Goals as goal

pub of-requires-clause-mdb : goal.of-requires-clause-mdb
of-requires-clause-mdb g c = c.mdb.ensures ∙ sym c.requires.mdb

-- the set is right for the whole history
pub install-requires : goal.install-requires
install-requires g c transparent =
    let begun = c.requires in
    let store = c.args.store.now in
    let set = c.in-Ok.filled.set in
    let of = c.in-Ok.ensures in
    let i : Interval = c.args.task.interval in
    let same = c.mdb.ensures in
    let fits = subst (λ (e : ℕ). IsSetOf (database_in store.head.mdb store.history) e i.0 set) begun.exponent (subst (λ (db : Database). IsSetOf db c.args.task.exponent i.0 set) same of.fits) in
    let holds = subst (λ (rows : List Row). HoldsRows (database_in store.head.mdb store.history) set rows) (begun.rows (λ paged. transparent)) (subst (λ (db : Database). HoldsRows db set c.args.task.rows) same of.holds) in
    let whole : IsRightFill store.exponent store.head.mdb store.history i (length store.history) set = whole_fill_is_right store.exponent store.head.mdb store.history store.fills i set begun.late fits holds in
    let right = subst (λ (j : Interval). IsRightFill store.exponent store.head.mdb store.history j c.in-Ok.filled.base set) (sym of.of_task.0)
    (subst (λ (n : ℕ). IsRightFill store.exponent store.head.mdb store.history i n set) (sym (of.of_task.1 ∙ begun.base)) whole) in
    let below = take_all c.in-Ok.filled.base store.history (omega (arith, of.of_task.1, begun.base)) in
    ((of.origin.1 ∙ begun.mdb ∙ ap (database_in store.head.mdb) (sym below), of.origin.0 ∙ begun.exponent), right)

pub returns-clause-filled : goal.returns-clause-filled
returns-clause-filled g c =
    let begun = c.requires in
    let store = c.args.store.now in
    let set = c.in-Ok.filled.set in
    let of = c.in-Ok.ensures in
    let same = c.mdb.ensures in
    let holds = λ (told : TellsRows g.D.Disk.device store). subst (λ (rows : List Row). HoldsRows (database_in store.head.mdb store.history) set rows) (begun.rows told) (subst (λ (db : Database). HoldsRows db set c.args.task.rows) same of.holds) in
    task_filled g.D.Disk.device store c.install.new.self c.in-Ok.filled c.args.task of.of_task.0 of.of_task.1 of.origin c.in_ok-install.field-0 begun.base holds c.in_ok-install.ensures.installed

pub returns-in_err-install-clause-refused : goal.returns-in_err-install-clause-refused
returns-in_err-install-clause-refused g c =
    let refused = task_refused g.D.Disk.device c.args.store.now c.install.new.self c.in-Ok.filled c.args.task c.in-Ok.ensures.of_task.0 c.in-Ok.ensures.of_task.1 c.in-Ok.ensures.origin c.in_err-install.field-0.0 c.in_err-install.ensures.refused in
    passed_on c.from_residual.result c.in_err-install.field-0.0 (IsTaskRefusal g.D.Disk.device c.args.store.now c.install.new.self c.args.task) c.from_residual.ensures.1 refused
