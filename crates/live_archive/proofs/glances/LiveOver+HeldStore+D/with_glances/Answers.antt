use Rattle.std.proofs.Common.{ap, ◌∙◌}
use Rattle.live_archive.proofs.Shelving.{shelved_start, shown_first}
use Rattle.live_archive.proofs.glances.LiveOver+HeldStore+D.with_glances.Goals as goal

pub new-requires : goal.new-requires
new-requires g c =
    let made = c.in_ok-shelved in
    record { start = shelved_start g.D.Disk.device _ made.shelved.shelf c.of.ensures.beside c.of.ensures.shelf (ap (λ s. s.closed) made.ensures.made) c.of.ensures.closing }

pub returns-in-Ok-clause-shown : goal.returns-in-Ok-clause-shown
returns-in-Ok-clause-shown g c =
    let made = c.in_ok-shelved in
    let first = c.in-Ok.ensures.first in
    shown_first _ c.args.readers made.glances c.args.store made.shelved (ap (λ h. h.store) first ∙ c.of.ensures.store) (ap (λ h. h.shelf) first ∙ c.of.ensures.shelf) made.ensures.store made.ensures.made made.ensures.shown made.ensures.seen
