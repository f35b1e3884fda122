use Rattle.std.proofs.Common.{ℕ, List, subst}
use Rattle.std.specs.Prelude.{IfOk}
use Rattle.intervals.specs.declared.interval.Interval.{Interval}
use Rattle.arch_types.specs.declared.row.Row.{Row}
use Rattle.history_items.specs.Items.{items_of}
use Rattle.archive_core.specs.Replies.{RepliesToBegin, RepliesToInstall}
use Rattle.interval_fills.specs.Steps.{state_of}
use Rattle.archive_core.proofs.Results.{ingest_kept, begin_kept, install_kept, abandon_kept}
use Rattle.archive_core.proofs.machine.Core.step.Goals as goal

pub invariant_of-self : goal.invariant_of-self
invariant_of-self c =
    let s = c.self.inside in
    ingest_kept s.exponent s.tables s.mdb s.rows.items c.ingested.new.rows.items s.fills.items c.as_slice.result.now c.ingested.result c.self.invariant c.ingested.ensures.reply c.ingested.ensures.err

pub invariant_of-self-in-Begin : goal.invariant_of-self-in-Begin
invariant_of-self-in-Begin c =
    let s = c.self.inside in
    let rows = c.as_slice-in-Begin.ensures.value in
    begin_kept s.exponent s.tables s.mdb s.rows.items s.fills.items c.begin.new.fills.items c.begin.result c.self.invariant
    (subst (λ (l : List Row). IfOk c.begin.result (λ reply. RepliesToBegin s.exponent (state_of (items_of l) s.fills.items) reply (state_of (items_of l) c.begin.new.fills.items))) rows c.begin.ensures.reply)
    c.begin.ensures.err

pub invariant_of-self-in-Install : goal.invariant_of-self-in-Install
invariant_of-self-in-Install c =
    let s = c.self.inside in
    let rows = c.as_slice-in-Install.ensures.value in
    let interval : Interval = c.in-Install.interval in
    let base : ℕ = c.in-Install.base in
    install_kept s.exponent s.tables s.mdb s.rows.items s.fills.items c.installed.new.fills.items interval base c.installed.result c.self.invariant
    (subst (λ (l : List Row). IfOk c.installed.result (λ reply. RepliesToInstall s.exponent (state_of (items_of l) s.fills.items) interval base reply (state_of (items_of l) c.installed.new.fills.items))) rows c.installed.ensures.reply)
    c.installed.ensures.err

pub invariant_of-self-in-Abandon : goal.invariant_of-self-in-Abandon
invariant_of-self-in-Abandon c =
    let s = c.self.inside in
    let interval : Interval = c.in-Abandon.interval in
    abandon_kept s.exponent s.tables s.mdb s.rows.items s.fills.items c.abandoned.new.fills.items interval c.abandoned.result c.self.invariant c.abandoned.ensures.reply c.abandoned.ensures.err

pub returns-in-Ingest-clause-invariant : goal.returns-in-Ingest-clause-invariant
returns-in-Ingest-clause-invariant c =
    let s = c.self.inside in
    ingest_kept s.exponent s.tables s.mdb s.rows.items c.ingested.new.rows.items s.fills.items c.as_slice.result.now c.ingested.result c.self.invariant c.ingested.ensures.reply c.ingested.ensures.err

pub returns-in-Begin-clause-invariant : goal.returns-in-Begin-clause-invariant
returns-in-Begin-clause-invariant c =
    let s = c.self.inside in
    let rows = c.as_slice-in-Begin.ensures.value in
    begin_kept s.exponent s.tables s.mdb s.rows.items s.fills.items c.begin.new.fills.items c.begin.result c.self.invariant
    (subst (λ (l : List Row). IfOk c.begin.result (λ reply. RepliesToBegin s.exponent (state_of (items_of l) s.fills.items) reply (state_of (items_of l) c.begin.new.fills.items))) rows c.begin.ensures.reply)
    c.begin.ensures.err

pub returns-in-Install-clause-invariant : goal.returns-in-Install-clause-invariant
returns-in-Install-clause-invariant c =
    let s = c.self.inside in
    let rows = c.as_slice-in-Install.ensures.value in
    let interval : Interval = c.in-Install.interval in
    let base : ℕ = c.in-Install.base in
    install_kept s.exponent s.tables s.mdb s.rows.items s.fills.items c.installed.new.fills.items interval base c.installed.result c.self.invariant
    (subst (λ (l : List Row). IfOk c.installed.result (λ reply. RepliesToInstall s.exponent (state_of (items_of l) s.fills.items) interval base reply (state_of (items_of l) c.installed.new.fills.items))) rows c.installed.ensures.reply)
    c.installed.ensures.err

pub returns-in-Abandon-clause-invariant : goal.returns-in-Abandon-clause-invariant
returns-in-Abandon-clause-invariant c =
    let s = c.self.inside in
    let interval : Interval = c.in-Abandon.interval in
    abandon_kept s.exponent s.tables s.mdb s.rows.items s.fills.items c.abandoned.new.fills.items interval c.abandoned.result c.self.invariant c.abandoned.ensures.reply c.abandoned.ensures.err
