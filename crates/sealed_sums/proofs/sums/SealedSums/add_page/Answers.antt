use Rattle.std.proofs.Common.{◌≡◌, ℕ, length, sym, subst, ap, arith}
use Rattle.sealed_sums.specs.Stretch.{IsStretchOf}
use Rattle.sealed_sums.specs.Sums.{SumsView}
use Rattle.sealed_sums.proofs.Told.{taken, told_more}
use Rattle.sealed_sums.proofs.sums.SealedSums.add_page.Goals as goal

pub loop-rest-preserved : goal.loop-rest-preserved
loop-rest-preserved c =
    let told = c.loop-rest.invariant in
    let s = c.first_stretch-stretch.result in
    let rest = c.loop-rest.rest.now in
    let part = c.split_at-in-loop-rest.result.0.now in
    let more = c.split_at-in-loop-rest.result.1.now in
    let part_at = c.split_at.result.0.now in
    let more_at = c.split_at.result.1.now in
    let exponent : c.self.inside.exponent ≡ c.loop-rest.self.exponent = ap (λ (v : SumsView). v.exponent) c.self.view_is in
    let is : IsStretchOf c.loop-rest.self.exponent s part =
    subst (λ (e : ℕ). IsStretchOf e s part) exponent (subst (IsStretchOf c.self.inside.exponent s) (sym c.split_at-in-loop-rest.ensures.front) c.first_stretch-stretch.ensures.stretch) in
    told_more told part more part_at more_at c.add_stretch.new.self c.mark_stretch.new.tracker
    (taken s.len rest part more c.split_at-in-loop-rest.ensures.front c.split_at-in-loop-rest.ensures.back)
    (taken s.len c.loop-rest.places.now part_at more_at c.split_at.ensures.front c.split_at.ensures.back)
    (omega (arith, c.split_at.ensures.front_len, c.split_at-in-loop-rest.ensures.front_len))
    (λ before are. c.in_ok-add_stretch.ensures.sums before part is are)
    (λ placed are. c.in_ok-mark_stretch.ensures.marks c.loop-rest.self.exponent part placed is are)
    (omega (arith, c.in_ok-add_stretch.ensures.count, is.len))
    c.add_stretch.ensures.exponent c.add_stretch.ensures.tables c.mark_stretch.ensures.fills
