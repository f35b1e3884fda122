use Rattle.std.proofs.Common.{[], refl, sym, ◌∙◌, subst, rules}
use Rattle.std.specs.Prelude.{IsTrue}
use Rattle.disk_journal.specs.Reading.{IsAt}
use Rattle.disk_journal.specs.declared.opening.Opening.{Opening}
use Rattle.disk_journal.proofs.Calls.{stands_at_gate}
use Rattle.disk_journal.proofs.opening.Opening.begin_synced.Goals as goal

pub returns-in-Some-clause-begun : goal.returns-in-Some-clause-begun
returns-in-Some-clause-begun g c = record {
  in_file = c.new.ensures.file.0;
  none_read = search rules;
  open_gate = search rules;
}

pub returns-in-Some-clause-at_gate : goal.returns-in-Some-clause-at_gate
returns-in-Some-clause-at_gate g c =
    let device = g.D.Disk.device in
    let before = c.args.disk.now in
    let after = c.begins_open.new.disk in
    let opening : Opening = record { reader = c.new.result; extents = c.new-in-Some.result; at = 0 } in
    let none_read : IsTrue device.is_transparent → IsAt opening (device.reads before c.args.file) [] = search rules in
    stands_at_gate device opening opening before after [] refl c.begins_open.ensures.looked.reads_same
    (λ transparent. subst (λ f. IsAt opening (device.reads before f) []) (sym c.new.ensures.file.0) (none_read transparent))
