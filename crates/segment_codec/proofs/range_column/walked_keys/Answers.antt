use Rattle.std.proofs.Common.{◌∙◌, ◌-◌, ◌+◌, ◌++◌, ◌∷◌, [], ℕ, FitsSigned, length-append, refl, sym, ap, arith, rules}
use Rattle.std.specs.Prelude.{◌≤ℤ◌}
use Rattle.std.specs.Int.{w64}
use Rattle.std.proofs.lemmas.Int.{to_z-of_z}
use Rattle.segment_codec.specs.RangeColumn.{IsSpanOf}
use Rattle.segment_codec.proofs.Looping.{keys_more, keys_start}
use Rattle.segment_codec.proofs.PassedKeys.{span_passed, walk_begins}
use Rattle.segment_codec.proofs.RangeSteps.{no_keys, span_within, walk_ends, walk_leaves}
use Rattle.segment_codec.proofs.range_column.walked_keys.Goals as goal

pub overflow_add-span : goal.overflow_add-span
overflow_add-span c =
    let begun = c.in_ok-take.ensures [] (no_keys _ _ _ refl c.new.ensures) in
    let w = span_within _ _ (c.in_ok-first.first ∷ []) c.take.new.self begun in
    let few = c.passed_keys-passed.ensures.few in
    omega arith

pub loop-read-init : goal.loop-read-init
loop-read-init c =
    let begun = c.in_ok-take.ensures [] (no_keys _ _ _ refl c.new.ensures) in
    let passed = c.passed_keys-passed.result in
    let p = c.passed_keys-passed.ensures.passed in
    let first = c.in_ok-first.first in
    let rest = c.in_ok-first.after_first.now in (
      first ∷ [] ++ p.0,
      omega (arith, p.1),
      span_passed _ _ (first ∷ []) p.0 c.take.new.self _ p.2 (ap (λ (n : ℕ). c.take.new.self.before + n) (sym p.1)) refl begun,
      walk_begins c.args.count passed.count (first ∷ []) p.0 first passed.last rest passed.rest.now _ (keys_start c.args.count c.args.octets.now first rest c.requires c.in_ok-first.ensures) p.3,
    )

pub returns-then-last-to-clause-within : goal.returns-then-last-to-clause-within
returns-then-last-to-clause-within c =
    let i = c.loop-read.invariant in
    let w = span_within _ _ i.0 c.loop-read.span i.2 in
    omega arith

pub returns-then-last-to-clause-span : goal.returns-then-last-to-clause-span
returns-then-last-to-clause-span c = λ keys after e.
    let i = c.loop-read.invariant in
    let low : FitsSigned w64 c.args.from = c.ranges.from in
    let high : FitsSigned w64 c.args.to = c.ranges.to in
    let is : IsSpanOf c.args.from c.args.to i.0 c.loop-read.span = simp to_z-of_z at i.2 in
    let from : c.args.from ≤ℤ c.loop-read.last.time = search rules in
    let to : c.args.to ≤ℤ c.loop-read.last.time = search rules in
    walk_ends c.args.from c.args.to (c.args.count - c.loop-read.read) c.loop-read.last i.0 keys c.loop-read.rest.now after c.loop-read.span from to is (sym i.3 ∙ e)

pub returns-then-last-to-clause-unread : goal.returns-then-last-to-clause-unread
returns-then-last-to-clause-unread c = λ keys after e.
    let i = c.loop-read.invariant in
    walk_leaves (c.args.count - c.loop-read.read) c.loop-read.last i.0 keys c.loop-read.rest.now after (sym i.3 ∙ e)

pub take-requires-in-loop-read : goal.take-requires-in-loop-read
take-requires-in-loop-read c =
    let i = c.loop-read.invariant in
    let w = span_within _ _ i.0 c.loop-read.span i.2 in
    omega arith

pub loop-read-preserved : goal.loop-read-preserved
loop-read-preserved c =
    let i = c.loop-read.invariant in
    let key = c.in_ok-key.key in (
      i.0 ++ key ∷ [],
      length-append i.0 (key ∷ []) ∙ ap (λ (n : ℕ). n + 1) i.1,
      c.in_ok-take-2.ensures i.0 i.2,
      keys_more c.args.count c.loop-read.read i.0 c.loop-read.last key c.loop-read.rest.now c.in_ok-key.after.now _ c.loop-read-test.true c.in_ok-key.ensures i.3,
    )

pub returns-clause-within : goal.returns-clause-within
returns-clause-within c =
    let i = c.loop-read.invariant in
    let w = span_within _ _ i.0 c.loop-read.span i.2 in
    omega arith
