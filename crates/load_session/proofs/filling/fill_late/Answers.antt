use Rattle.std.proofs.Common.{Option, sym, subst, arith}
use Rattle.std.specs.Prelude.{IfSome}
use Rattle.store_fills.specs.Built.{IsTaskRows}
use Rattle.store_fills.specs.declared.task.FillTask.{FillTask}
use Rattle.archive_store.specs.Tasks.{BeginsTask, IsFillBegun}
use Rattle.archive_store.proofs.Calls.{passed_on}
use Rattle.archive_store.proofs.ReadOn.{left_on}
use Rattle.load_session.specs.Filling.{IsFilledOn, IsFillingRefusal}
use Rattle.load_session.proofs.FilledTasks.{begun_task, filling_done, filling_first, filling_next, filling_refused, filled_so_far, filling_unread, given_up, less_left, unread_so_far}
use Rattle.load_session.proofs.filling.fill_late.Goals as goal

pub fills-init : goal.fills-init
fills-init g c = filling_first g.D.Disk.device c.args.store.now c.requires

pub fill_task-requires : goal.fill_task-requires
fill_task-requires g c =
    let s = c.fills.store in
    let n = c.begin.new.self in
    let t : FillTask = c.in-Some.task in
    let began : BeginsTask g.D.Disk.device s n t = subst (IsFillBegun g.D.Disk.device s n) c.in-Some.is c.in_ok-task.ensures.begun in
    begun_task g.D.Disk.device c.args.store.now s n c.fills.filled c.fills.invariant t began
    (subst (λ (o : Option FillTask). IfSome o (λ task. IsTaskRows task.exponent task.interval task.rows)) c.in-Some.is c.in_ok-task.ensures.in_order)

pub fills-smaller : goal.fills-smaller
fills-smaller g c =
    let s = c.fills.store in
    let n = c.begin.new.self in
    let t : FillTask = c.in-Some.task in
    let began : BeginsTask g.D.Disk.device s n t = subst (IsFillBegun g.D.Disk.device s n) c.in-Some.is c.in_ok-task.ensures.begun in
    let less = less_left g.D.Disk.device c.args.store.now s n c.fills.filled c.fills.invariant t began c.fill_task.new.store c.in_ok-fill_task.ensures.filled c.fill_task.ensures.same.1 in
    omega (arith, less)

pub fills-preserved : goal.fills-preserved
fills-preserved g c =
    let s = c.fills.store in
    let n = c.begin.new.self in
    let t : FillTask = c.in-Some.task in
    let began : BeginsTask g.D.Disk.device s n t = subst (IsFillBegun g.D.Disk.device s n) c.in-Some.is c.in_ok-task.ensures.begun in
    filling_next g.D.Disk.device c.args.store.now s n c.fills.filled c.fills.invariant t began c.fill_task.new.store c.in_ok-fill_task.ensures.filled c.is_kept.ensures.bases c.fill_task.ensures.same

pub returns-in_default-clause-filled : goal.returns-in_default-clause-filled
returns-in_default-clause-filled g c =
    let s = c.fills.store in
    let none = subst (IsFillBegun g.D.Disk.device s c.begin.new.self) c.in_default.is c.in_ok-task.ensures.begun in
    filling_done g.D.Disk.device c.args.store.now s c.begin.new.self c.fills.filled c.fills.invariant none

-- ---- a task was refused

pub returns-in_err-fill_task-clause-refused : goal.returns-in_err-fill_task-clause-refused
returns-in_err-fill_task-clause-refused g c =
    let device = g.D.Disk.device in
    let s = c.fills.store in
    let n = c.begin.new.self in
    let t : FillTask = c.in-Some.task in
    let began : BeginsTask g.D.Disk.device s n t = subst (IsFillBegun g.D.Disk.device s n) c.in-Some.is c.in_ok-task.ensures.begun in
    passed_on c.from_residual-in_err-fill_task.result c.in_err-fill_task.field-0.0 (IsFillingRefusal device c.args.store.now c.fill_task.new.store) c.from_residual-in_err-fill_task.ensures.1
    (filling_refused device c.args.store.now s n c.fills.filled c.fills.invariant t began c.fill_task.new.store c.in_err-fill_task.field-0.0 c.in_err-fill_task.ensures.refused)

pub returns-in_err-fill_task-clause-left : goal.returns-in_err-fill_task-clause-left
returns-in_err-fill_task-clause-left g c =
    let s = c.fills.store in
    let n = c.begin.new.self in
    let t : FillTask = c.in-Some.task in
    let began : BeginsTask g.D.Disk.device s n t = subst (IsFillBegun g.D.Disk.device s n) c.in-Some.is c.in_ok-task.ensures.begun in
    given_up g.D.Disk.device c.args.store.now s n c.fills.filled c.fills.invariant t began c.fill_task.new.store c.in_err-fill_task.field-0.0 c.in_err-fill_task.ensures.refused c.fill_task.ensures.same

-- ---- none is left

pub returns-in_default-clause-left : goal.returns-in_default-clause-left
returns-in_default-clause-left g c =
    let s = c.fills.store in
    let none = subst (IsFillBegun g.D.Disk.device s c.begin.new.self) c.in_default.is c.in_ok-task.ensures.begun in
    subst (IsFilledOn g.D.Disk.device c.args.store.now) (sym none.1) (filled_so_far g.D.Disk.device c.args.store.now s c.fills.filled c.fills.invariant)

-- ---- rows aren't read

pub returns-in_err-task-clause-left : goal.returns-in_err-task-clause-left
returns-in_err-task-clause-left g c =
    let device = g.D.Disk.device in
    let s = c.fills.store in
    let n = c.begin.new.self in
    let e = c.in_err-task.ensures in
    unread_so_far device c.args.store.now s n c.fills.filled c.fills.invariant e.late.0 e.late.1 (left_on device s n c.in_err-task.field-0.0 e.refused e.same)

pub returns-in_err-task-clause-refused : goal.returns-in_err-task-clause-refused
returns-in_err-task-clause-refused g c =
    let device = g.D.Disk.device in
    let s = c.fills.store in
    let n = c.begin.new.self in
    let e = c.in_err-task.ensures in
    passed_on c.from_residual.result c.in_err-task.field-0.0 (IsFillingRefusal device c.args.store.now n) c.from_residual.ensures.1
    (filling_unread device c.args.store.now s n c.fills.filled c.fills.invariant e.late.0 e.late.1 c.in_err-task.field-0.0 e.refused e.same)
