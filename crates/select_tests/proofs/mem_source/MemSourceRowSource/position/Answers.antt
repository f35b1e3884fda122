use Rattle.std.proofs.Common.{ℕ, List, Option, take, subst}
use Rattle.std.specs.Prelude.{IfSome}
use Rattle.arch_types.specs.declared.row.Row.{Row}
use Rattle.replay_merge.specs.RowSource.{IsPositionOf}
use Rattle.select_tests.specs.MemSource.{MemSourceView, rows_at_fronts}
use Rattle.select_tests.proofs.Found.{known_position}
use Rattle.select_tests.proofs.mem_source.MemSourceRowSource.position.Goals as goal

pub returns-clause-told : goal.returns-clause-told
returns-clause-told c =
    let items = c.self.inside.history.items in
    let found = subst (λ (l : List Row). IsPositionOf (λ front. take front l) c.args.table c.args.key c.place_of.result) c.as_slice.ensures.value c.place_of.ensures in
    let known = subst (λ (v : MemSourceView). IfSome (rows_at_fronts v.is_known v.rows) (λ history. IsPositionOf history c.args.table c.args.key c.place_of.result)) c.self.view_is
    (known_position c.self.inside.is_known items c.args.table c.args.key c.place_of.result found) in
    subst (λ (told : Option (ℕ → List Row)). IfSome told (λ history. IsPositionOf history c.args.table c.args.key c.place_of.result)) c.fail_in_turn.ensures.source.told known
