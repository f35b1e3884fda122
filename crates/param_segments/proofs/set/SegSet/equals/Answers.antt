use Rattle.std.proofs.Common.{◌≡◌, ◌∙◌, List, ℕ, true, ap, subst, sym}
use Rattle.std.specs.Prelude.{nat_eq}
use Rattle.std.specs.Cmp.Lexicographic.{same_text}
use Rattle.std.proofs.lemmas.Cmp.{nat_list_eq_equiv}
use lib.Pointwise.{pointwise}
use Rattle.param_segments.specs.Octets.{rows_in_octets, set_octets}
use Rattle.param_segments.proofs.set.SegSet.equals.Goals as goal

pub returns : goal.returns
returns c =
    let a = c.as_slice.result.now in
    let b = c.as_slice-2.result.now in
    let spelled : a ≡ set_octets c.args.self.now = c.as_slice.ensures ∙ c.self.invariant.spelled ∙ ap set_octets c.self.view_is in
    let others : b ≡ set_octets c.args.other.now = c.as_slice-2.ensures ∙ c.other.invariant.spelled ∙ ap set_octets c.other.view_is in (
      λ is. sym c.self.view_is ∙ ap rows_in_octets (sym c.as_slice.ensures ∙ same_text a b (sym is ∙ c.eq.ensures) ∙ c.as_slice-2.ensures) ∙ c.other.view_is,
      λ same. c.eq.ensures ∙ subst (λ (o : List ℕ). pointwise nat_eq a o ≡ true) (spelled ∙ ap set_octets same ∙ sym others) (nat_list_eq_equiv.refl a),
    )
