use Rattle.std.proofs.Common.{◌∙◌, ap, subst, sym}
use Rattle.param_segments.specs.Octets.{set_octets}
use Rattle.param_segments.specs.SetSegments.{AreSetSegments}
use Rattle.param_segments.proofs.SegmentsOfSet.{spelled_rows}
use Rattle.param_segments.proofs.reading.set_over.Goals as goal

pub of_spelling-requires : goal.of_spelling-requires
of_spelling-requires c =
    let segments = c.args.read.segments.items in
    let are : AreSetSegments segments = subst AreSetSegments c.deref.ensures.value (c.in_ok-are_set_segments.ensures.0 c.if-not-branch.false) in
    let whole = c.requires.spelled (c.if-end-len.false ∙ c.len.ensures.value) in
    (spelled_rows segments c.in_ok-own.own c.args.read.starts.items are c.requires.few (c.in_ok-own.ensures ∙ whole) c.requires.starts).0

pub returns-clause-set : goal.returns-clause-set
returns-clause-set c =
    let segments = c.args.read.segments.items in
    let are : AreSetSegments segments = subst AreSetSegments c.deref.ensures.value (c.in_ok-are_set_segments.ensures.0 c.if-not-branch.false) in
    let whole = c.requires.spelled (c.if-end-len.false ∙ c.len.ensures.value) in
    c.of_spelling.ensures ∙ (spelled_rows segments c.in_ok-own.own c.args.read.starts.items are c.requires.few (c.in_ok-own.ensures ∙ whole) c.requires.starts).1

pub returns-clause-segments : goal.returns-clause-segments
returns-clause-segments c = subst AreSetSegments c.deref.ensures.value (c.in_ok-are_set_segments.ensures.0 c.if-not-branch.false)

pub returns-clause-spelled : goal.returns-clause-spelled
returns-clause-spelled c =
    let segments = c.args.read.segments.items in
    let are : AreSetSegments segments = subst AreSetSegments c.deref.ensures.value (c.in_ok-are_set_segments.ensures.0 c.if-not-branch.false) in
    let whole = c.requires.spelled (c.if-end-len.false ∙ c.len.ensures.value) in
    let is = (spelled_rows segments c.in_ok-own.own c.args.read.starts.items are c.requires.few (c.in_ok-own.ensures ∙ whole) c.requires.starts).0 in
    sym c.in_ok-own.ensures ∙ is.spelled ∙ ap set_octets (sym c.of_spelling.ensures)

pub returns-then-end-len-clause-each : goal.returns-then-end-len-clause-each
returns-then-end-len-clause-each c = λ ends set. absurd (c.if-end-len.true (ends ∙ sym c.len.ensures.value))

pub returns-then-not-branch-clause-each : goal.returns-then-not-branch-clause-each
returns-then-not-branch-clause-each c = λ ends set. absurd (
    let does = c.in_ok-are_set_segments.ensures.1 (subst AreSetSegments (sym c.deref.ensures.value) set) in
    let not_so = c.if-not-branch.true in
    cc)
