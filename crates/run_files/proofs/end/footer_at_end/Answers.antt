use Rattle.std.proofs.Common.{ℕ, ◌-◌, take, drop, ap, ◌∙◌, arith}
use Rattle.run_pages.proofs.Ends.{footer_is, size_is}
use Rattle.run_files.proofs.end.footer_at_end.Goals as goal

pub returns-then-len-lt-FOOTER_SIZE-clause-none : goal.returns-then-len-lt-FOOTER_SIZE-clause-none
returns-then-len-lt-FOOTER_SIZE-clause-none g c = λ transparent none entries footer h.
    let content = g.D.Disk.device.reads c.args.disk.now c.args.file in
    absurd (omega (arith, size_is content entries footer h, c.requires transparent, c.if-len-lt-FOOTER_SIZE.true))

pub returns-clause-none : goal.returns-clause-none
returns-clause-none g c = λ transparent none entries footer h.
    let content = g.D.Disk.device.reads c.args.disk.now c.args.file in
    c.read_footer.ensures.none none footer h.footer_fits
    (c.as_slice.ensures ∙ c.in_ok-octets.ensures.octets transparent ∙ ap (λ (n : ℕ). take 20 (drop (n - 20) content)) (c.requires transparent) ∙ footer_is content entries footer h)
