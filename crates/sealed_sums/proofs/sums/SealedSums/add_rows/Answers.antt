use Rattle.std.proofs.Common.{◌≡◌, ℕ, sym, subst, ap, arith}
use Rattle.sealed_sums.specs.Stretch.{IsStretchOf}
use Rattle.sealed_sums.specs.Sums.{SumsView}
use Rattle.sealed_sums.proofs.Summed.{summed_all, summed_left, summed_more, summed_none}
use Rattle.sealed_sums.proofs.Told.{taken}
use Rattle.sealed_sums.proofs.sums.SealedSums.add_rows.Goals as goal

pub loop-rest-init : goal.loop-rest-init
loop-rest-init c = summed_none c.args.rows.now c.args.self.now

pub first_stretch-stretch-requires-clause-few : goal.first_stretch-stretch-requires-clause-few
first_stretch-stretch-requires-clause-few c = omega (arith, c.requires.few, summed_left c.loop-rest.invariant)

pub loop-rest-preserved : goal.loop-rest-preserved
loop-rest-preserved c =
    let summed = c.loop-rest.invariant in
    let s = c.first_stretch-stretch.result in
    let rest = c.loop-rest.rest.now in
    let part = c.split_at.result.0.now in
    let more = c.split_at.result.1.now in
    let exponent : c.self.inside.exponent ≡ c.loop-rest.self.exponent = ap (λ (v : SumsView). v.exponent) c.self.view_is in
    let is : IsStretchOf c.loop-rest.self.exponent s part =
    subst (λ (e : ℕ). IsStretchOf e s part) exponent (subst (IsStretchOf c.self.inside.exponent s) (sym c.split_at.ensures.front) c.first_stretch-stretch.ensures.stretch) in
    summed_more summed part more c.add_stretch.new.self (taken s.len rest part more c.split_at.ensures.front c.split_at.ensures.back)
    (λ before are. c.in_ok-add_stretch.ensures.sums before part is are)
    (omega (arith, c.in_ok-add_stretch.ensures.count, is.len))
    c.add_stretch.ensures.exponent c.add_stretch.ensures.tables

pub returns-clause-sums : goal.returns-clause-sums
returns-clause-sums c = summed_all c.loop-rest.invariant (omega (arith, c.loop-rest-test.false))
