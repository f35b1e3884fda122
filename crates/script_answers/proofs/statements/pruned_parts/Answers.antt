use Rattle.std.proofs.Common.{◌≡◌, ◌<◌, ◌++◌, ◌∙◌, List, ℕ, get_or, length, ap, subst}
use Rattle.std.proofs.lemmas.List.{take_all}
use Rattle.std.proofs.lemmas.List.Elements.{All-from_recursion}
use Rattle.partitions.specs.declared.partition.Partition.{Partition}
use Rattle.partitions.proofs.Parted.{default_free}
use Rattle.script_answers.specs.Statements.{AreSourceParts}
use Rattle.script_answers.proofs.HeldParts.{one_table_more}
use Rattle.script_answers.proofs.statements.pruned_parts.Goals as goal

pub parts_in-requires : goal.parts_in-requires
parts_in-requires g c =
    All-from_recursion (λ (table : ℕ). table < length c.args.store.now.head.tables) c.args.tables.now c.requires c.loop-table.table-index 0 c.loop-table-test.true

pub loop-table-preserved : goal.loop-table-preserved
loop-table-preserved g c =
    let parts = c.loop-table.parts.items in
    let tables = c.args.tables.now in
    let i = c.loop-table.table-index in
    let table : ℕ = get_or tables i 0 in
    let is : table ≡ get_or tables i table = default_free tables i 0 table c.loop-table-test.true in
    one_table_more c.args.bounds.now c.args.store.now.history parts c.in_ok-found.found c.append.new.self.items tables i table c.loop-table-test.true is
    c.in_ok-found.ensures (c.in_ok-append.ensures.items ∙ ap (λ (l : List Partition). parts ++ l) c.into_vec-more.ensures) c.loop-table.invariant

pub returns : goal.returns
returns g c = record {
  pruned = rw c.from_vec.ensures (subst (λ (l : List ℕ). AreSourceParts c.args.store.now.history c.args.bounds.now l c.loop-table.parts.items)
      (take_all c.loop-table.table-index c.args.tables.now c.loop-table-test.false) c.loop-table.invariant);
}
