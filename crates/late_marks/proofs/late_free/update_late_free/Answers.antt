use Rattle.std.proofs.Common.{◌≡◌, Bool, true, false, None, Some, ◌∙◌, ap, refl}
use Rattle.std.specs.Bool.{beq}
use Rattle.late_marks.specs.MarkIndexes.{some_if, IsUpdatedAt}
use Rattle.late_marks.proofs.LateFree.{updated_at-insert, updated_at-remove}
use Rattle.late_marks.proofs.late_free.update_late_free.Goals as goal

other_than : (a b c : Bool) → beq a b ≡ false → b ≡ c → a ≡ beq c false
other_than true true c ne e = cc
other_than true false c ne e = rw (← e) refl
other_than false true c ne e = rw (← e) refl
other_than false false c ne e = cc

came : (c : goal.After-insert) → IsUpdatedAt c.args.late_free.now c.insert.new.self c.args.interval false true
came c =
    let was : c.args.was ≡ false = other_than c.args.was c.args.is true c.if-was-is.false c.if-is.true in
    let none : c.insert.result ≡ None = c.insert.ensures.found ∙ c.requires.was ∙ ap some_if was in
    let added = rw none at c.insert.ensures.absent in
    updated_at-insert c.args.late_free.now c.insert.new.self c.args.interval c.requires.rising added.0 added.1

pub returns-then-is-clause-set : goal.returns-then-is-clause-set
returns-then-is-clause-set c = rw c.if-is.true (came c).set

pub returns-then-is-clause-others : goal.returns-then-is-clause-others
returns-then-is-clause-others c = (came c).others

went : (c : goal.After-remove) → IsUpdatedAt c.args.late_free.now c.remove.new.self c.args.interval true false
went c =
    let was : c.args.was ≡ true = other_than c.args.was c.args.is false c.if-was-is.false c.if-is.false in
    let some : c.remove.result ≡ Some tt = c.remove.ensures.found ∙ c.requires.was ∙ ap some_if was in
    let removed = rw some at c.remove.ensures.removed in
    updated_at-remove c.args.late_free.now c.remove.new.self c.args.interval c.requires.rising (ap (λ l. l.entries) removed) (ap (λ l. l.room) removed)

pub returns-else-is-clause-set : goal.returns-else-is-clause-set
returns-else-is-clause-set c = rw c.if-is.false (went c).set

pub returns-else-is-clause-others : goal.returns-else-is-clause-others
returns-else-is-clause-others c = (went c).others

pub returns-then-is-clause-room : goal.returns-then-is-clause-room
returns-then-is-clause-room c =
    let was : c.args.was ≡ false = other_than c.args.was c.args.is true c.if-was-is.false c.if-is.true in
    rw (c.if-is.true, was) (came c).room

pub returns-else-is-clause-room : goal.returns-else-is-clause-room
returns-else-is-clause-room c =
    let was : c.args.was ≡ true = other_than c.args.was c.args.is false c.if-was-is.false c.if-is.false in
    rw (c.if-is.false, was) (went c).room
