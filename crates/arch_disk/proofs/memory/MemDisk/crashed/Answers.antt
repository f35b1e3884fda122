use Rattle.std.proofs.Common.{◌≡◌, ◌∙◌, ℕ, ap, List}
use Rattle.arch_disk.specs.Files.{image_in}
use Rattle.arch_disk.specs.CallLog.{reads_of, first_calls}
use Rattle.arch_disk.specs.Crash.{crash_of}
use Rattle.arch_disk.specs.declared.call_log.Call.{Call}
use Rattle.arch_disk.proofs.Crashes.{images_same, since_first, crash_is_image}
use Rattle.arch_disk.proofs.memory.MemDisk.crashed.Goals as goal

pub returns-clause-image : goal.returns-clause-image
returns-clause-image c =
    let calls = first_calls c.args.moment c.args.self.now.call_log in
    let same : (f : ℕ) → image_in c.in_ok-files.files f ≡ crash_of c.args.crash calls f = λ f. c.in_ok-files.ensures f ∙ ap (λ (l : List Call). crash_of c.args.crash l f) c.first.ensures in
    images_same calls (crash_of c.args.crash calls) (reads_of c.in_ok-disk.disk.call_log) (λ f. c.in_ok-disk.ensures.image.reads f ∙ same f) (crash_is_image c.args.crash calls)

pub returns-clause-since : goal.returns-clause-since
returns-clause-since c = since_first c.args.self.now.call_log c.args.moment (reads_of c.in_ok-disk.disk.call_log) c.requires (returns-clause-image c)

pub returns-clause-kind : goal.returns-clause-kind
returns-clause-kind c =
    let calls = first_calls c.args.moment c.args.self.now.call_log in
    let same : (f : ℕ) → image_in c.in_ok-files.files f ≡ crash_of c.args.crash calls f = λ f. c.in_ok-files.ensures f ∙ ap (λ (l : List Call). crash_of c.args.crash l f) c.first.ensures in
    record { reads = λ f. c.in_ok-disk.ensures.image.reads f ∙ same f; durable = λ i left f. c.in_ok-disk.ensures.image.durable i left f ∙ same f }
