use Rattle.std.proofs.Common.{◌≡◌, ◌+◌, ◌-◌, ◌<◌, ℕ, suc, length, refl, ap, arith}
use Rattle.std.proofs.lemmas.Option.{slice_get_read}
use Rattle.std.proofs.lemmas.Result.{on_ok_weaker}
use Rattle.mdb_rules.specs.declared.container_rows.PathTotals.{PathTotals}
use Rattle.mdb_items.specs.ContainerRows.{last_path}
use Rattle.mdb_items.specs.Paths.{bits_at}
use Rattle.mdb_rules.proofs.TotalsSteps.{entry_written, in_path_entered, last_totals, totals_written, all_totals_length}
use Rattle.mdb_rules.proofs.container_rows.Containers.enter.Goals as goal

pub index_mut-totals-requires : goal.index_mut-totals-requires
index_mut-totals-requires c =
    let old = c.args.self.now in
    let len = all_totals_length c.args.parameters.now old.items.items old.all_totals.items c.requires.path.all_totals in
    let a = old.items.ok.0 in
    let b = old.all_totals.ok.0 in
    omega arith

pub overflow_add-totals : goal.overflow_add-totals
overflow_add-totals c =
    let old = c.args.self.now in
    let n = c.len-last.result - 1 in
    let len = all_totals_length c.args.parameters.now old.items.items old.all_totals.items c.requires.path.all_totals in
    let a = old.items.ok.0 in
    let lt : n < length old.all_totals.items = omega arith in
    let at = slice_get_read old.all_totals.items (length old.all_totals.items) n c.index_mut-totals.result.now refl lt c.index_mut-totals.ensures.value in
    let e : suc n ≡ length old.items.items = omega arith in
    let is = last_totals c.args.parameters.now old.items.items old.all_totals.items n c.index_mut-totals.result.now c.requires.path.all_totals e at in
    let same : c.index_mut-totals.result.now.entries ≡ length (last_path old.items.items).entries = ap (λ (s : PathTotals). s.entries) is in
    let room = c.requires.room in
    omega arith

pub returns-clause-added : goal.returns-clause-added
returns-clause-added c =
    let items = c.args.self.now.items.items in
    let n = c.len-last.result - 1 in
    let a = c.args.self.now.items.ok.0 in
    let lt : n < length items = omega arith in
    let at = slice_get_read items (length items) n c.index_mut-container.result.now refl lt c.index_mut-container.ensures.value in
    on_ok_weaker c.push.result (λ pushed. entry_written items n c.index_mut-container.result.now c.push.new.self c.args.entry (omega arith) at pushed) c.push.ensures.ok

pub returns-clause-path : goal.returns-clause-path
returns-clause-path c =
    let old = c.args.self.now in
    let items = old.items.items in
    let all_totals = old.all_totals.items in
    let n = c.len-last.result - 1 in
    let len = all_totals_length c.args.parameters.now items all_totals c.requires.path.all_totals in
    let a = old.items.ok.0 in
    let lt : n < length items = omega arith in
    let less : n < length all_totals = omega arith in
    let at = slice_get_read items (length items) n c.index_mut-container.result.now refl lt c.index_mut-container.ensures.value in
    let there = slice_get_read all_totals (length all_totals) n c.index_mut-totals.result.now refl less c.index_mut-totals.ensures.value in
    let end : c.args.entry.at + c.bits_at.result ≡ c.args.entry.at + bits_at c.args.parameters.now c.args.entry.parameter = ap (λ (k : ℕ). c.args.entry.at + k) c.bits_at.ensures in
    let spanned = totals_written all_totals n c.index_mut-totals.result.now (c.args.entry.at + c.bits_at.result) (c.args.entry.at + bits_at c.args.parameters.now c.args.entry.parameter) (omega arith) there end in
    on_ok_weaker c.push.result (λ pushed. in_path_entered c.args.parameters.now old _ c.args.entry c.requires.path c.requires.begun refl (entry_written items n c.index_mut-container.result.now c.push.new.self c.args.entry (omega arith) at pushed) spanned) c.push.ensures.ok
