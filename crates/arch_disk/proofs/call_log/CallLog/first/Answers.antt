use Rattle.std.proofs.Common.{◌≤◌, ◌∙◌, length, take, reverse, ap, List, arith}
use Rattle.std.proofs.lemmas.List.{length-reverse}
use Rattle.arch_disk.specs.declared.call_log.Call.{Call}
use Rattle.arch_disk.specs.CallLog.{first_calls}
use Rattle.arch_disk.proofs.SyncedFiles.{first_reversed}
use Rattle.arch_disk.proofs.call_log.CallLog.first.Goals as goal

pub returns : goal.returns
returns c =
    let items = c.self.inside.calls.items in
    let long : c.args.moment ≤ length items = omega (arith, c.requires, ap length c.self.view_is, length-reverse items) in
    ap (λ (l : List Call). reverse (take c.args.moment l)) c.deref.ensures.value ∙ first_reversed c.args.moment items long ∙ ap (first_calls c.args.moment) c.self.view_is
