use Rattle.std.proofs.Common.{◌≡◌, ◌∙◌, ◌∷◌, List, ℕ, Some, ap, sym}
use Rattle.std.specs.Prelude.{nat_eq}
use Rattle.std.specs.List.{position}
use Rattle.std.specs.Ordering.{is_lt}
use lib.Pointwise.{pointwise}
use Rattle.arch_types.specs.Order.{key_cmp}
use Rattle.param_segments.proofs.KeyOrder.{is_less}
use Rattle.param_segments.proofs.RunSteps.{run_more}
use Rattle.param_segments.proofs.RunsComplete.{must_go_on}
use Rattle.param_segments.proofs.runs.Runs.take_next.Goals as goal

pub returns-in_ok-take-in-Some-clause-taken : goal.returns-in_ok-take-in-Some-clause-taken
returns-in_ok-take-in-Some-clause-taken c = λ _ before so_far.
    let old = c.args.self.now in
    let new = c.take.new.self in
    let s = c.args.segment.now in
    let number = c.in-Some.number in
    let first = c.first_key.result in
    let does = c.if-not-goes_on.false in
    let told = c.in_ok-take-in-Some.ensures in
    let found : position (pointwise nat_eq s.parameters) old.groups ≡ Some number = ap (λ (g : List ℕ). position (pointwise nat_eq g) old.groups) (sym c.parameters.ensures) ∙ sym c.number.ensures ∙ c.in-Some.is in
    let begins : s.keys ≡ first ∷ c.first_key.ensures.0 = c.first_key.ensures.1 in
    run_more before s old new number first c.first_key.ensures.0 c.requires found (c.goes_on.ensures.group does) (c.goes_on.ensures.full does) begins (is_less (key_cmp old.last first) (c.goes_on.ensures.rising does))
    told.groups told.count told.numbers told.rows told.last so_far

pub returns-then-not-goes_on-clause-refused : goal.returns-then-not-goes_on-clause-refused
returns-then-not-goes_on-clause-refused c = λ _ before after so_far set.
    let old = c.args.self.now in
    let s = c.args.segment.now in
    let number = c.in-Some.number in
    let first = c.first_key.result in
    let found : position (pointwise nat_eq s.parameters) old.groups ≡ Some number = ap (λ (g : List ℕ). position (pointwise nat_eq g) old.groups) (sym c.parameters.ensures) ∙ sym c.number.ensures ∙ c.in-Some.is in
    let begins : s.keys ≡ first ∷ c.first_key.ensures.0 = c.first_key.ensures.1 in
    let must = must_go_on before after s old number first c.first_key.ensures.0 set so_far found begins in
    let does = c.goes_on.ensures.each must.0 must.1 (ap is_lt must.2) in
    let not_so = c.if-not-goes_on.true in
    cc
