use Rattle.std.proofs.Common.{rules, ◌<◌, ℕ, length, sym, ap, subst, arith}
use Rattle.arch_types.specs.declared.row.Row.{Row}
use Rattle.history_items.specs.Databases.{names_in}
use Rattle.archive_store.proofs.RowsAlone.{named_in}
use Rattle.archive_fills_tests.proofs.parts.arrival.Goals as goal

-- the first packet name of the head is the first of each history
pub returns : goal.returns
returns c = λ history.
    let mdb = c.args.head.now.mdb in
    record {
      link_low = search rules;
      link_high = search rules;
      packet = search rules;
      carries = search rules;
      received = search rules;
      key = search rules;
      pname = subst (λ (n : ℕ). n < length (names_in mdb history)) (sym (ap (λ (row : Row). row.pname) c.received_row-row.ensures))
          (named_in mdb history 0 (omega (arith, c.containers.ensures, c.if-containers-eq0.false)));
      few_tables = search rules;
      tables = search rules;
    }
