use Rattle.std.proofs.Common.{◌≡◌, unsigned_abs, sym, ap, ◌∙◌, arith}
use Rattle.std.proofs.lemmas.Int.{ints}
use Rattle.time_text.specs.Civil.{millis_of}
use Rattle.time_text.specs.Spelling.{spelled, time_text_of}
use Rattle.time_text.specs.declared.civil.Civil.{Civil}
use Rattle.time_text.proofs.MomentFacts.{civil_at-millis_of}
use Rattle.time_text.proofs.writing.time_octets.Goals as goal

pub returns : goal.returns
unfolding time_text_of
returns c =
    let e = c.at.ensures in
    let moment : millis_of c.at.result ≡ unsigned_abs c.args.time = omega (arith, ints, e.moment) in
    c.octets.ensures ∙ ap (λ (civil : Civil). spelled civil) (sym (civil_at-millis_of c.at.result _ e.real e.milli moment))
