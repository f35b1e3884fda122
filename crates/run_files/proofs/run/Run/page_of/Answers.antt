use Rattle.std.proofs.Common.{◌≡◌, ◌-◌, true, None, Some, List, length, ap, ◌∙◌, subst, arith, rules}
use Rattle.std.proofs.lemmas.List.Sorted.{IsPartitionPoint-from_clause}
use Rattle.run_pages.specs.Index.{are_joined}
use Rattle.run_pages.specs.declared.index.PageEntry.{PageEntry}
use Rattle.run_pages.proofs.Joins.{both_true}
use Rattle.run_files.specs.Lookup.{IsPageFor}
use Rattle.run_files.specs.Run.{run_entries}
use Rattle.run_files.proofs.KeyPages.{no_page, not_above, last_page, parted}
use Rattle.run_files.proofs.run.Run.page_of.Goals as goal

pub overflow_cast-result : goal.overflow_cast-result
overflow_cast-result c = omega (arith, c.partition_point-behind.ensures.bound, ap (λ (l : List PageEntry). length l) c.deref.ensures.value, c.args.self.now.index.few)

pub returns-then-behind-eq0 : goal.returns-then-behind-eq0
returns-then-behind-eq0 c =
    let entries = c.deref.result.now in
    let is : entries ≡ run_entries c.args.self.now = c.deref.ensures.value in
    let joined : are_joined 0 c.args.self.now.index.footer.at None entries ≡ true = ap (are_joined 0 c.args.self.now.index.footer.at None) is ∙ (both_true _ _ c.args.self.now.index.index).1 in
    let point = IsPartitionPoint-from_clause (not_above c.args.key) entries _ c.partition_point-behind.ensures.partitioned (parted 0 c.args.self.now.index.footer.at None entries c.args.key joined) (λ a r q k. search rules) in
    subst (λ (l : List PageEntry). IsPageFor l c.args.key None) is (no_page entries c.args.key c.partition_point-behind.result point c.if-behind-eq0.true)

pub returns : goal.returns
returns c =
    let entries = c.deref.result.now in
    let is : entries ≡ run_entries c.args.self.now = c.deref.ensures.value in
    let joined : are_joined 0 c.args.self.now.index.footer.at None entries ≡ true = ap (are_joined 0 c.args.self.now.index.footer.at None) is ∙ (both_true _ _ c.args.self.now.index.index).1 in
    let point = IsPartitionPoint-from_clause (not_above c.args.key) entries _ c.partition_point-behind.ensures.partitioned (parted 0 c.args.self.now.index.footer.at None entries c.args.key joined) (λ a r q k. search rules) in
    subst (λ (l : List PageEntry). IsPageFor l c.args.key (Some (c.partition_point-behind.result - 1))) is
    (last_page entries c.args.key c.partition_point-behind.result point (record { first = c.args.key; at = 0; len = 0 }) (c.partition_point-behind.result - 1) (omega (arith, c.if-behind-eq0.false)) c.partition_point-behind.ensures.bound)
