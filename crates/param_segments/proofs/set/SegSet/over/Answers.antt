use Rattle.std.proofs.Common.{◌≡◌, ◌∙◌, ap, refl, sym}
use Rattle.param_segments.specs.Octets.{rows_in_octets, set_octets}
use Rattle.param_segments.proofs.Starts.{spelled_by}
use Rattle.param_segments.proofs.set.SegSet.over.Goals as goal

pub of_spelling-requires : goal.of_spelling-requires
of_spelling-requires c =
    let same : c.args.octets ≡ c.self.inside.octets = c.requires ∙ ap set_octets (sym c.self.view_is) ∙ sym c.self.invariant.spelled in
    spelled_by _ _ _ _ same refl c.self.invariant

pub returns-clause-same : goal.returns-clause-same
returns-clause-same c =
    let same : c.args.octets ≡ c.self.inside.octets = c.requires ∙ ap set_octets (sym c.self.view_is) ∙ sym c.self.invariant.spelled in
    c.of_spelling.ensures ∙ ap rows_in_octets same ∙ c.self.view_is
