use Rattle.std.proofs.Common.{length, ap, rules, arith}
use Rattle.archive_store.specs.StoreView.{archive_of}
use Rattle.load_command.proofs.RouteTables.{script_below}
use Rattle.load_command.proofs.opened.scripted_route.Goals as goal

pub returns-in-Ok-clause-over : goal.returns-in-Ok-clause-over
returns-in-Ok-clause-over g c = script_below (archive_of c.args.store.now) c.args.text.now c.in-Ok.graph (search rules)

pub typed_text-requires-clause-names : goal.typed_text-requires-clause-names
typed_text-requires-clause-names g c =
    let names = ap length c.in_ok-names.ensures.names in
    omega (arith, names, c.is_kept.ensures.few_names)
