use Rattle.std.proofs.Common.{◌≡◌, Some, option_map, sym, ◌∙◌, ap, subst, arith}
use Rattle.std.specs.Prelude.{slice_get}
use Rattle.std.proofs.lemmas.Option.{slice_get-get_or}
use Rattle.store_fills.specs.declared.last_fills.LastFill.{LastFill}
use Rattle.store_fills.specs.LastFills.{LastFillsView, place_in, filling_of, filling_at, fillings_in}
use Rattle.store_fills.proofs.last_fills.LastFills.get.Goals as goal

pub index-requires : goal.index-requires
index-requires c =
    let s = c.self.inside in
    omega (arith, c.self.invariant.there c.args.interval c.in_ok-at.at (sym c.get.ensures ∙ c.in_ok-at.was), s.fills.ok.0)

pub returns-clause-some : goal.returns-clause-some
returns-clause-some c =
    let s = c.self.inside in
    let i = c.args.interval in
    let r : LastFill = c.index.result.now in
    let found : place_in s.places.entries i ≡ Some c.in_ok-at.at = sym c.get.ensures ∙ c.in_ok-at.was in
    let fills : slice_get s.fills.items c.in_ok-at.at ≡ Some r = slice_get-get_or s.fills.items c.in_ok-at.at r (c.self.invariant.there i c.in_ok-at.at found) ∙ ap Some (sym c.index.ensures) in
    subst (λ (x : LastFillsView). fillings_in x.filled i ≡ Some (filling_of r)) c.self.view_is (ap (filling_at s.fills.items) found ∙ ap (option_map filling_of) fills)
