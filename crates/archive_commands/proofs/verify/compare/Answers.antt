use Rattle.std.proofs.Common.{◌≡◌, ◌∙◌, List, ℕ, inl, inr, refl, subst}
use Rattle.archive_store.specs.StoreView.{filled_of}
use Rattle.command_runs.specs.Finishing.{IsFinished}
use Rattle.archive_commands.specs.Verify.{verify_line}
use Rattle.archive_commands.proofs.Comparing.{check_refused, counted_line, read_finished, verify_read}
use Rattle.archive_commands.proofs.verify.compare.Goals as goal

pub returns-in-Ok-clause-reply : goal.returns-in-Ok-clause-reply
returns-in-Ok-clause-reply g c =
    let before = g.K.Sink.state c.args.sink.now in
    let after = g.K.Sink.state c.finish.new.sink in
    let put = rw c.requires at c.put_sound.ensures in
    let line : c.put_sound.new.line_buffer ≡ verify_line (filled_of c.args.store.now) =
    put ∙ counted_line c.args.store.now c.in-Ok.sound c.in-Ok.ensures.counted c.is_kept.ensures.bases in
    inl (inl (record {
      found = c.in-Ok.ensures.sound;
      printed = subst (λ (text : List ℕ). IsFinished c.finish.result before after text) line c.finish.ensures;
    }))

pub returns-in-Err-clause-reply : goal.returns-in-Err-clause-reply
returns-in-Err-clause-reply g c = elim (check_refused g.D.Disk.device c.args.store.now c.verify.new.store c.in-Err.refusal c.in-Err.ensures.refused) [
  | inl checked ↦ inl (inr (checked, refl))
  | inr pages ↦ inr (pages, refl)
]

pub returns-in-Ok-clause-read : goal.returns-in-Ok-clause-read
returns-in-Ok-clause-read g c =
    read_finished g.D.Disk.device c.args.store.now c.verify.new.store c.finish.result (g.K.Sink.state c.args.sink.now) (g.K.Sink.state c.finish.new.sink) c.put_sound.new.line_buffer c.in-Ok.ensures.same c.finish.ensures

pub returns-in-Err-clause-read : goal.returns-in-Err-clause-read
returns-in-Err-clause-read g c = verify_read g.D.Disk.device c.args.store.now c.verify.new.store c.in-Err.refusal c.in-Err.ensures.refused c.in-Err.ensures.same
