use Rattle.std.proofs.Common.{◌≡◌, ℕ, ap, sym, subst, take, reverse, List}
use Rattle.std.proofs.lemmas.List.{take_all}
use Rattle.arch_disk.specs.Image.{Image}
use Rattle.arch_disk.specs.Files.{image_in}
use Rattle.arch_disk.specs.CallLog.{reads_of}
use Rattle.arch_disk.specs.Crash.{crash_of}
use Rattle.arch_disk.specs.declared.call_log.Call.{Call}
use Rattle.arch_disk.proofs.Crashes.{more_reversed}
use Rattle.arch_disk.proofs.crash.image_after.Goals as goal

pub loop-call-init : goal.loop-call-init
loop-call-init c = record {
  reads = λ f. ap (λ (i : Image). i f) c.new-reads.ensures;
  image = λ f. ap (λ (i : Image). i f) c.new-image.ensures;
}

pub loop-call-preserved : goal.loop-call-preserved
loop-call-preserved c =
    let i = c.loop-call.call-index in
    let calls = c.args.calls.now in
    let more = more_reversed calls i c.call-item.result c.loop-call-test.true c.call-item.is in
    let step = c.in_ok-replay.ensures (reverse (take i calls)) c.loop-call.invariant.reads c.loop-call.invariant.image in
    record {
      reads = subst (λ (l : List Call). (f : ℕ) → image_in c.replay.new.reads f ≡ reads_of l f) (sym more) step.0;
      image = subst (λ (l : List Call). (f : ℕ) → image_in c.replay.new.image f ≡ crash_of c.args.crash l f) (sym more) step.1;
    }

pub returns : goal.returns
returns c =
    let all : take c.loop-call.call-index c.args.calls.now ≡ c.args.calls.now = take_all c.loop-call.call-index c.args.calls.now c.loop-call-test.false in
    subst (λ (l : List Call). (f : ℕ) → image_in c.loop-call.image f ≡ crash_of c.args.crash (reverse l) f) all c.loop-call.invariant.image
