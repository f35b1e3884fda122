use Rattle.std.proofs.Common.{◌≡◌, ◌*◌, true, take, drop, sym, subst, w64, SFits, rules, arith}
use Rattle.std.proofs.lemmas.Int.{to_z-of_z}
use Rattle.std.specs.List.{AllByRecursion}
use Rattle.std.specs.Ordering.{is_lt}
use Rattle.arch_types.specs.Order.{key_cmp}
use Rattle.sealed_rows.specs.Calls.{IsOutside}
use Rattle.sealed_rows.specs.declared.wanted.Times.{Times}
use Rattle.sealed_rows.proofs.Spans.{all_before, all_outside_above, all_outside_below, none_behind}
use Rattle.sealed_rows.proofs.page_span.pages_with.Goals as goal

pub returns-in_default-clause-before : goal.returns-in_default-clause-before
returns-in_default-clause-before c = λ content rows k. tt

pub returns-in_default-clause-behind : goal.returns-in_default-clause-behind
returns-in_default-clause-behind c = λ content rows k.
    subst (AllByRecursion (IsOutside c.args.times)) (sym (none_behind content c.args.run.now rows k c.page_count.result (omega (arith, c.page_count.ensures)))) tt

pub returns-then-lt-clause-before : goal.returns-then-lt-clause-before
returns-then-lt-clause-before c = λ content rows k. tt

pub returns-then-lt-clause-behind : goal.returns-then-lt-clause-behind
returns-then-lt-clause-behind c = λ content rows k.
    let run = c.args.run.now in
    let low : is_lt (key_cmp run.last (record { time = c.in-Between.from; seq = 0 })) ≡ true = search (rules, c.lt.ensures, c.if-lt.true, c.last.ensures) in
    subst (λ (t : Times). AllByRecursion (IsOutside t) rows) (sym c.in-Between.is) (all_outside_below c.in-Between.from c.in-Between.to rows (all_before content run rows k (record { time = c.in-Between.from; seq = 0 }) low))

pub returns-clause-within : goal.returns-clause-within
returns-clause-within c = c.page_behind.ensures.within

pub returns-clause-before : goal.returns-clause-before
returns-clause-before c = λ content rows k.
    let fits : SFits w64 c.in-Between.from = search rules in
    let below = rw (to_z-of_z w64 c.in-Between.from fits) at (c.page_from.ensures content rows k) in
    subst (λ (t : Times). AllByRecursion (IsOutside t) (take (64 * c.page_from.result) rows)) (sym c.in-Between.is)
    (all_outside_below c.in-Between.from c.in-Between.to (take (64 * c.page_from.result) rows) below)

pub returns-clause-behind : goal.returns-clause-behind
returns-clause-behind c = λ content rows k.
    let fits : SFits w64 c.in-Between.to = search rules in
    let above = rw (to_z-of_z w64 c.in-Between.to fits) at (c.page_behind.ensures.above content rows k) in
    subst (λ (t : Times). AllByRecursion (IsOutside t) (drop (64 * c.page_behind.result) rows)) (sym c.in-Between.is)
    (all_outside_above c.in-Between.from c.in-Between.to (drop (64 * c.page_behind.result) rows) above)
