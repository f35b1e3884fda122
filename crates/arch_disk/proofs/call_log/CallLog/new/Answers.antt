use Rattle.std.proofs.Common.{◌∙◌, ap, sym, reverse, List}
use Rattle.arch_disk.specs.Image.{Image}
use Rattle.arch_disk.specs.CallLog.{reads_of}
use Rattle.arch_disk.specs.declared.call_log.Call.{Call}
use Rattle.arch_disk.proofs.call_log.CallLog.new.Goals as goal

pub invariant_of-result : goal.invariant_of-result
invariant_of-result c = λ f. ap (λ (i : Image). i f) c.new-2.ensures ∙ sym (ap (λ (l : List Call). reads_of (reverse l) f) c.new.ensures.items)
