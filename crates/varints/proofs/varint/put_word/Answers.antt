use Rattle.std.proofs.Common.{◌++◌, ◌^◌, ◌<◌, ℕ, List, refl, sym, ap, ◌∙◌, append_assoc, arith}
use Rattle.varints.specs.Varint.{varint}
use Rattle.varints.proofs.Varints.{digit_less, varint-small, varint-large}
use Rattle.varints.proofs.varint.put_word.Goals as goal

pub loop-rest-init : goal.loop-rest-init
loop-rest-init c =
    let n : c.args.n < 128 ^ 10 = omega (arith, c.ranges.n) in
    (refl, 9, n, c.in_ok-reserve.ensures.ok)

pub loop-rest-preserved : goal.loop-rest-preserved
loop-rest-preserved c =
    let n = c.loop-rest.rest in
    let out = c.loop-rest.out.items in
    let kept = c.loop-rest.invariant in
    let less = digit_less n kept.1 c.loop-rest-test.true kept.2 in
    (rw (c.push_reserved.ensures.items, append_assoc) (ap (λ (w : List ℕ). out ++ w) (sym (varint-large n c.loop-rest-test.true)) ∙ kept.0), less.0, less.2, omega (arith, kept.3, less.1, c.push_reserved.ensures.len, c.push_reserved.ensures.capacity))

pub returns : goal.returns
returns c =
    let n = c.loop-rest.rest in
    let small : n < 128 = omega arith in
    rw (c.push_reserved-2.ensures.items) (ap (λ (w : List ℕ). c.loop-rest.out.items ++ w) (sym (varint-small n small)) ∙ c.loop-rest.invariant.0 ∙ ap (λ (w : List ℕ). w ++ varint c.args.n) c.reserve.ensures.items)
