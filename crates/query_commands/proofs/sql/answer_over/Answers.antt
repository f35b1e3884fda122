use Rattle.std.proofs.Common.{inl, inr, refl, arith}
use Rattle.archive_store.specs.StoreView.{archive_of}
use Rattle.query_commands.proofs.SqlPlan.{named_tables}
use Rattle.query_commands.proofs.sql.answer_over.Goals as goal

pub typed_text-requires : goal.typed_text-requires
typed_text-requires g c = record {
  tables = rw c.head-head.ensures.head c.head-head.ensures.sound.0.few;
  names = rw c.requires.names (omega (arith, c.is_kept.ensures.few_names));
}

pub print_answers-requires-clause-tables : goal.print_answers-requires-clause-tables
print_answers-requires-clause-tables g c =
    rw c.as_slice-script.ensures (named_tables (archive_of c.args.store.now) c.args.text.now c.in-Ok.script (rw (c.requires.names, c.head-head.ensures.head) at c.in-Ok.ensures))

pub returns-in-Ok : goal.returns-in-Ok
returns-in-Ok g c = inr (c.in-Ok.script, rw (c.requires.names, c.head-head.ensures.head) at c.in-Ok.ensures, rw c.as_slice-script.ensures at c.print_answers.ensures.printed, c.print_answers.ensures.read)

pub returns-in-Err : goal.returns-in-Err
returns-in-Err g c = inl (rw c.head-head.ensures.head at c.in-Err.ensures, refl, refl)
