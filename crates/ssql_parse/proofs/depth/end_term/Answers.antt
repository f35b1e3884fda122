use Rattle.std.proofs.Common.{◌≡◌, Bool, true, false, List, ap, sym, reverse, ◌∙◌, arith}
use Rattle.ssql_parse.specs.Depth.{not_first}
use Rattle.ssql_parse.proofs.Nesting.{some_open, popped_less, not_off, all_off}
use Rattle.ssql_parse.proofs.depth.end_term.Goals as goal

pub nots-preserved : goal.nots-preserved
nots-preserved c =
    let last : not_first (reverse c.nots.nesting.items) ≡ true = sym (ap (λ (xs : List Bool). not_first (reverse xs)) c.as_slice.ensures.value) ∙ sym c.ends_with_not.ensures ∙ c.nots-test.true in
    sym (not_off c.nots.nesting.items c.pop.new.self.items c.pop.result c.pop.ensures.items last) ∙ c.nots.invariant

pub nots-smaller : goal.nots-smaller
nots-smaller c =
    let some = some_open c.as_slice.result.now (sym c.ends_with_not.ensures ∙ c.nots-test.true) in
    popped_less _ _ c.pop.result (omega (arith, some, c.as_slice.ensures.len)) c.pop.ensures.cases

pub returns : goal.returns
returns c =
    let last : not_first (reverse c.nots.nesting.items) ≡ false = sym (ap (λ (xs : List Bool). not_first (reverse xs)) c.as_slice.ensures.value) ∙ sym c.ends_with_not.ensures ∙ c.nots-test.false in
    all_off (reverse c.nots.nesting.items) last ∙ c.nots.invariant
