use Rattle.std.proofs.Common.{sym, ◌∙◌, ◌≡◌, false}
use Rattle.std.specs.List.{list_any}
use Rattle.arch_types.specs.History.{is_duplicate_of}
use Rattle.select_tests.proofs.Found.{added}
use Rattle.select_tests.proofs.mem_source.MemSource.add.Goals as goal

pub invariant_of-self-2 : goal.invariant_of-self-2
invariant_of-self-2 c =
    let items = c.self.inside.history.items in
    let none : list_any (is_duplicate_of c.row_of-row.result) items ≡ false = rw c.as_slice.ensures.value at (sym c.is_there.ensures ∙ c.if-is_there.false) in
    rw c.in_ok-push.ensures.items (added items c.row_of-row.result c.self.invariant c.row_of-row.ensures none)
