use Rattle.std.proofs.Common.{rules, ◌≡◌, ◌<◌, ◌++◌, [], ◌∷◌, List, ℕ, length, sym, ap, subst, ◌∙◌, arith}
use Rattle.std.specs.List.{AllByRecursion}
use Rattle.arch_types.specs.declared.row.Row.{Row}
use Rattle.history_items.specs.Databases.{names_in}
use Rattle.archive_store.proofs.RowsAlone.{named_in}
use Rattle.live_tests.proofs.parts.arrival.Goals as goal

-- the first packet name of a head is the first of each history
pub returns-in-Ok : goal.returns-in-Ok
returns-in-Ok c = λ head history names.
    let one : c.push.new.self ≡ 0 ∷ [] = c.in-Ok.ensures.ok ∙ ap (λ (l : List ℕ). l ++ 0 ∷ []) c.new-tables.ensures in
    record {
      link_low = search rules;
      link_high = search rules;
      packet = search rules;
      carries = search rules;
      received = search rules;
      key = search rules;
      pname = subst (λ (n : ℕ). n < length (names_in head.mdb history)) (sym (ap (λ (row : Row). row.pname) c.received_row-row.ensures)) (named_in head.mdb history 0 names.names);
      few_tables = omega (arith, ap length one);
      tables = subst (AllByRecursion (λ table. table < length head.tables)) (sym one) (names.tables, tt);
    }
