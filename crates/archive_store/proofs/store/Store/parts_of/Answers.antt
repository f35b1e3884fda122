use Rattle.std.proofs.Common.{◌≡◌, ◌∙◌, ℕ, pos, ◌+◌, ◌<◌, ◌++◌, ◌∷◌, inl, List, length, get_or, refl, sym, ap, subst, drop}
use Rattle.std.specs.Prelude.{IsSome}
use Rattle.std.specs.List.{AllByRecursion}
use Rattle.std.proofs.lemmas.List.{append-nil, at_drop_all, drop_more}
use Rattle.arch_disk.specs.Disk.{Device}
use Rattle.intervals.specs.declared.interval.Interval.{Interval}
use Rattle.history_items.specs.Late.{last_in}
use Rattle.param_segments.specs.declared.plan.Part.{Part}
use Rattle.param_segments.specs.declared.plan.Part.TheVariants.{Rows, Set}
use Rattle.arch_types.specs.declared.row_fault.RowFault.TheVariants.{OutOfMemory}
use Rattle.refusals.specs.Refusal.{refusal_of_rows}
use Rattle.archive_store.specs.Plans.{IsPlanPart, plan_intervals}
use Rattle.archive_store.specs.StoreView.{StoreView}
use Rattle.archive_store.specs.UnreadRows.{IsReadFault}
use Rattle.archive_store.proofs.ReadOn.{fault_after, left_after, reads_but_disk, reads_more}
use Rattle.archive_store.proofs.Calls.{passed_on}
use Rattle.archive_store.proofs.Planning.{intervals_push, parts_push}
use Rattle.archive_store.proofs.UnreadRows.{left_passed_on, memory_unread}
use Rattle.archive_store.proofs.store.Store.parts_of.Goals as goal

pub loop-interval-init : goal.loop-interval-init
loop-interval-init g c =
    let parts = c.new-parts.ensures.items in
    record {
      same = inl refl;
      each = subst (AllByRecursion (IsPlanPart g.D.Disk.device c.args.self.now)) (sym parts) tt;
      intervals = ap (λ (l : List Part). plan_intervals l ++ c.args.intervals.now) parts;
      left = c.requires;
    }

-- the interval of this turn, and those behind it
first_left : (all : List Interval) (n : ℕ) → n < length all → drop n all ≡ get_or all n (record { 0 = pos 0 }) ∷ drop (n + 1) all
first_left all n within = drop_more all n (record { 0 = pos 0 }) within

left_parts : (P : Interval → Type 0) (all : List Interval) (n : ℕ) → n < length all → AllByRecursion P (drop n all) → P (get_or all n (record { 0 = pos 0 })) × AllByRecursion P (drop (n + 1) all)
left_parts P all n within = subst (AllByRecursion P) (first_left all n within)

pub part_of-requires : goal.part_of-requires
part_of-requires g c =
    let old = c.args.self.now in
    let inv = c.loop-interval.invariant in
    let n = c.loop-interval.interval-index in
    let i : Interval = get_or c.args.intervals.now n (record { 0 = pos 0 }) in
    subst (λ (s : StoreView g.row.D.Denot). IsSome (last_in s.exponent i s.history)) (sym (reads_but_disk g.D.Disk.device old c.loop-interval.self inv.same))
    (left_parts (λ j. IsSome (last_in old.exponent j old.history)) c.args.intervals.now n c.loop-interval-test.true inv.left).0

-- a part of a store that was read is one of the store before
part_before : {D : Type 0} (device : Device D) (store : StoreView D) (disk : D) (part : Part) → IsPlanPart device (record store { disk = disk }) part → IsPlanPart device store part
part_before device store disk (Set interval set) is = record { current = is.current; base = is.base; filled = is.filled; fits = is.fits }
part_before device store disk (Rows interval rows) is = is

pub loop-interval-preserved : goal.loop-interval-preserved
loop-interval-preserved g c =
    let device = g.D.Disk.device in
    let old = c.args.self.now in
    let all = c.args.intervals.now in
    let n = c.loop-interval.interval-index in
    let i : Interval = get_or all n (record { 0 = pos 0 }) in
    let rest = drop (n + 1) all in
    let parts = c.loop-interval.parts.items in
    let part = c.in_ok-part.part in
    let inv = c.loop-interval.invariant in
    let items = c.in_ok-add_part.ensures in
    let here = part_before device old c.loop-interval.self.disk part (subst (λ (s : StoreView g.row.D.Denot). IsPlanPart device s part) (reads_but_disk device old c.loop-interval.self inv.same) c.in_ok-part.ensures.part) in
    record {
      same = reads_more device old c.loop-interval.self c.part_of.new.self inv.same c.in_ok-part.ensures.same;
      each = parts_push (IsPlanPart device old) parts c.add_part.new.parts.items part items inv.each here;
      intervals = intervals_push parts c.add_part.new.parts.items part i rest items c.in_ok-part.ensures.interval ∙ ap (λ (l : List Interval). plan_intervals parts ++ l) (sym (first_left all n c.loop-interval-test.true)) ∙ inv.intervals;
      left = (left_parts (λ j. IsSome (last_in old.exponent j old.history)) all n c.loop-interval-test.true inv.left).1;
    }

pub returns-in_err-part-clause-refused : goal.returns-in_err-part-clause-refused
returns-in_err-part-clause-refused g c =
    let device = g.D.Disk.device in
    let old = c.args.self.now in
    let new = c.part_of.new.self in
    let fault = c.in_err-part.field-0.0 in
    passed_on c.from_residual.result fault (IsReadFault device old new) c.from_residual.ensures.1
    (fault_after device old c.loop-interval.self new c.loop-interval.invariant.same fault c.in_err-part.ensures.refused)

pub returns-in_err-part-clause-same : goal.returns-in_err-part-clause-same
returns-in_err-part-clause-same g c =
    let device = g.D.Disk.device in
    let old = c.args.self.now in
    let mid = c.loop-interval.self in
    let new = c.part_of.new.self in
    let fault = c.in_err-part.field-0.0 in
    left_passed_on device old new c.from_residual.result fault c.from_residual.ensures.1
    (left_after device old mid new c.loop-interval.invariant.same (refusal_of_rows fault) c.in_err-part.ensures.same)

pub returns-in_err-add_part-clause-refused : goal.returns-in_err-add_part-clause-refused
returns-in_err-add_part-clause-refused g c =
    memory_unread g.D.Disk.device c.args.self.now c.part_of.new.self c.from_residual-in_err-add_part.result c.from_residual-in_err-add_part.ensures.1

pub returns-in_err-add_part-clause-same : goal.returns-in_err-add_part-clause-same
returns-in_err-add_part-clause-same g c =
    let device = g.D.Disk.device in
    let old = c.args.self.now in
    let mid = c.loop-interval.self in
    let new = c.part_of.new.self in
    left_passed_on device old new c.from_residual-in_err-add_part.result OutOfMemory c.from_residual-in_err-add_part.ensures.1
    (reads_more device old mid new c.loop-interval.invariant.same c.in_ok-part.ensures.same)

pub returns-clause-each : goal.returns-clause-each
returns-clause-each g c = subst (AllByRecursion (IsPlanPart g.D.Disk.device c.args.self.now)) (sym c.from_vec.ensures) c.loop-interval.invariant.each

pub returns-clause-intervals : goal.returns-clause-intervals
returns-clause-intervals g c =
    let all = c.args.intervals.now in
    let parts = c.loop-interval.parts.items in
    let behind = at_drop_all (λ (l : List Interval). plan_intervals parts ++ l) all c.loop-interval.interval-index c.loop-interval-test.false in
    ap plan_intervals c.from_vec.ensures ∙ sym (append-nil (plan_intervals parts)) ∙ sym behind ∙ c.loop-interval.invariant.intervals

pub returns-clause-same : goal.returns-clause-same
returns-clause-same g c = c.loop-interval.invariant.same
