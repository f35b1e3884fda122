use Rattle.std.proofs.Common.{◌++◌, ℕ, List, sym, ap, ◌∙◌, append_assoc, arith}
use Rattle.std.proofs.lemmas.Result.{on_ok_weaker}
use Rattle.varints.proofs.Varints.{varint-large}
use Rattle.varints.proofs.varint.put_varint.Goals as goal

pub loop-rest-preserved : goal.loop-rest-preserved
loop-rest-preserved c =
    let n = c.loop-rest.rest in
    let out = c.loop-rest.out.items in
    rw (c.in_ok-push.ensures.items, append_assoc) (ap (λ (w : List ℕ). out ++ w) (sym (varint-large n (omega arith))) ∙ c.loop-rest.invariant)

pub returns : goal.returns
returns c = on_ok_weaker c.put_word.result (λ e. e ∙ c.loop-rest.invariant) c.put_word.ensures
