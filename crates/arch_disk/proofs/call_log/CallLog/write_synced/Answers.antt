use Rattle.std.proofs.Common.{◌∷◌, ◌∙◌, ap, List}
use Rattle.arch_disk.specs.declared.call_log.Call.{Call}
use Rattle.arch_disk.specs.declared.call_log.Call.TheVariants.{Synced}
use Rattle.arch_disk.proofs.call_log.CallLog.write_synced.Goals as goal

pub returns : goal.returns
returns c = (c.in_ok-write.write, c.in_ok-write.ensures.0, c.in_ok-write.ensures.1, c.in_ok-write.ensures.2, c.in_ok-note.ensures.ok ∙ ap (λ (l : List Call). Synced c.args.file ∷ l) c.in_ok-write-2.ensures.ok)
