use Rattle.std.proofs.Common.{◌≡◌, ℕ, ◌+◌, ◌*◌, ◌<◌, List, ◌∷◌, ap, ◌∙◌, rules, arith}
use Rattle.std.proofs.lemmas.Result.{err_from_is_err_and}
use Rattle.varints.specs.Varint.{varint_at}
use Rattle.varints.proofs.Varints.{behind, behind-more, behind_last, short_of, none_of, long_of, weight_le, digit_fits, first_small, weight_end, weight_more, low_more}
use Rattle.varints.proofs.varint.wide_varint_at.Goals as goal

pub returns-in_err-first : goal.returns-in_err-first
returns-in_err-first c =
    let p = err_from_is_err_and c.from_residual.result c.from_residual.ensures.1 in
    rw p.1 (none_of c.args.octets.now (ap varint_at c.in_err-first.ensures))

pub returns-then-first-lt128 : goal.returns-then-first-lt128
returns-then-first-lt128 c = rw c.from.ensures (short_of c.args.octets.now c.in_ok-first.first c.in_ok-first.after_first.now (ap varint_at c.in_ok-first.ensures ∙ first_small c.in_ok-first.first c.in_ok-first.after_first.now c.if-first-lt128.true) (omega arith))

pub returns-in_err-octet : goal.returns-in_err-octet
returns-in_err-octet c =
    let p = err_from_is_err_and c.from_residual-in_err-octet.result c.from_residual-in_err-octet.ensures.1 in
    rw p.1 (none_of c.args.octets.now (c.loop.invariant.read ∙ ap (λ (r : List ℕ). behind c.loop.value c.loop.weight (varint_at r)) c.in_err-octet.ensures))

pub returns-then-octet-eq0 : goal.returns-then-octet-eq0
returns-then-octet-eq0 c =
    let zero : c.in_ok-octet.octet ≡ 0 = omega arith in
    none_of c.args.octets.now (c.loop.invariant.read ∙ ap (λ (r : List ℕ). behind c.loop.value c.loop.weight (varint_at r)) (c.in_ok-octet.ensures ∙ ap (λ (o : ℕ). o ∷ c.in_ok-octet.after.now) zero))

pub overflow_mul-result : goal.overflow_mul-result
overflow_mul-result c =
    let le = weight_le c.loop.counter c.loop.weight c.loop.invariant.weight c.loop-test.true in
    omega (arith, digit_fits c.from-then-octet-lt128.result c.loop.weight (omega arith) le)

pub overflow_add-result : goal.overflow_add-result
overflow_add-result c =
    let le = weight_le c.loop.counter c.loop.weight c.loop.invariant.weight c.loop-test.true in
    let low = c.loop.invariant.low in
    omega (arith, digit_fits c.from-then-octet-lt128.result c.loop.weight (omega arith) le)

pub returns-then-octet-lt128 : goal.returns-then-octet-lt128
returns-then-octet-lt128 c =
    let le = weight_le c.loop.counter c.loop.weight c.loop.invariant.weight c.loop-test.true in
    let low = c.loop.invariant.low in
    let o = c.in_ok-octet.octet in
    rw c.from-then-octet-lt128.ensures (short_of c.args.octets.now (c.loop.value + o * c.loop.weight) c.in_ok-octet.after.now
    (c.loop.invariant.read ∙ ap (λ (r : List ℕ). behind c.loop.value c.loop.weight (varint_at r)) c.in_ok-octet.ensures ∙ behind_last c.loop.value c.loop.weight o c.in_ok-octet.after.now (omega arith) (omega arith))
    (omega (arith, digit_fits o c.loop.weight (omega arith) le)))

pub overflow_mul-value : goal.overflow_mul-value
overflow_mul-value c =
    let le = weight_le c.loop.counter c.loop.weight c.loop.invariant.weight c.loop-test.true in
    let octet : c.in_ok-octet.octet < 256 = search rules in
    omega (arith, digit_fits c.from-in-loop.result c.loop.weight (omega arith) le)

pub overflow_add-value : goal.overflow_add-value
overflow_add-value c =
    let le = weight_le c.loop.counter c.loop.weight c.loop.invariant.weight c.loop-test.true in
    let octet : c.in_ok-octet.octet < 256 = search rules in
    let low = c.loop.invariant.low in
    omega (arith, digit_fits c.from-in-loop.result c.loop.weight (omega arith) le)

pub overflow_mul-weight : goal.overflow_mul-weight
overflow_mul-weight c =
    let le = weight_le c.loop.counter c.loop.weight c.loop.invariant.weight c.loop-test.true in
    omega arith

pub loop-preserved : goal.loop-preserved
loop-preserved c =
    let octet : c.in_ok-octet.octet < 256 = search rules in
    record {
      low = low_more c.loop.value c.from-in-loop.result c.loop.weight c.loop.invariant.low (omega arith);
      weight = weight_more c.loop.counter c.loop.weight c.loop.invariant.weight;
      read = rw c.from-in-loop.ensures (c.loop.invariant.read ∙ ap (λ (r : List ℕ). behind c.loop.value c.loop.weight (varint_at r)) c.in_ok-octet.ensures ∙ behind-more c.loop.value c.loop.weight c.in_ok-octet.octet c.in_ok-octet.after.now c.if-octet-lt128.false);
    }

pub returns : goal.returns
returns c = long_of c.args.octets.now c.loop.value c.loop.weight (varint_at c.loop.rest.now) c.loop.invariant.read (weight_end c.loop.counter c.loop.weight c.loop.invariant.weight (omega arith))
