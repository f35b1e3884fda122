use Rattle.std.proofs.Common.{◌≡◌, ◌∙◌, ℕ, ℤ, List, ap, subst, sym}
use Rattle.std.specs.Prelude.{Err, IfOk, Ok, Result}
use Rattle.std.specs.List.{AllByRecursion}
use Rattle.std.proofs.lemmas.Result.{IfOk-weaker, MatchResult-from_both}
use Rattle.mdb_items.specs.Database.{Database}
use Rattle.octet_fields.specs.declared.fault.DecodeError.TheVariants.{OutOfMemory}
use Rattle.segment_codec.specs.declared.segment.Segment.{Segment}
use Rattle.param_segments.specs.Extracted.{IsSetOf}
use Rattle.param_segments.specs.RowPlaces.{IsInside, IsSegmentOf}
use Rattle.param_segments.specs.Rows.{SetRow}
use Rattle.param_segments.specs.Segments.{rows_of_segments}
use Rattle.param_segments.specs.SetSegments.{AreSetSegments}
use Rattle.param_segments.proofs.Grouped.{rows_again_in_order}
use Rattle.param_segments.proofs.SegmentValues.{set_of_values}
use Rattle.param_segments.proofs.SegmentsOfSet.{rows_are_set, segments_of_set, set_inside}
use Rattle.param_segments.proofs.reading.set_of_read.Goals as goal

-- the segments of rows of a set have values of its database
pub returns-then-not-are_segments_of-clause-each : goal.returns-then-not-are_segments_of-clause-each
returns-then-not-are_segments_of-clause-each c = λ rows is of ends. absurd (
    let told = c.are_segments_of.ensures.1 (subst (AllByRecursion (IsSegmentOf c.args.mdb.now)) (sym (c.deref.ensures.value ∙ of)) (set_of_values c.args.mdb.now rows is.values)) in
    let not_so = c.if-not-are_segments_of.true in
    cc)

-- and their times are in its interval
pub returns-then-not-are_inside-clause-each : goal.returns-then-not-are_inside-clause-each
returns-then-not-are_inside-clause-each c = λ rows is of ends. absurd (
    let e = c.args.exponent in
    let i = c.args.interval.0 in
    let told = c.are_inside.ensures.1 (subst (AllByRecursion (IsInside e i)) (sym (c.deref-2.ensures.value ∙ of)) (set_inside c.args.mdb.now e i rows is)) in
    let not_so = c.if-not-are_inside.true in
    cc)

sound_by : {E : Type 0} (r : Result (List SetRow) E) (db : Database) (e : ℕ) (i : ℤ) (segments : List Segment) → IfOk r (λ set. set ≡ rows_of_segments segments) → IfOk r (λ _. AreSetSegments segments) → AllByRecursion (IsSegmentOf db) segments → AllByRecursion (IsInside e i) segments → IfOk r (IsSetOf db e i)
sound_by (Ok set) db e i segments is are values inside = subst (IsSetOf db e i) (sym is) (rows_are_set db e i segments are values inside)
sound_by (Err x) db e i segments is are values inside = tt

pub returns-clause-sound : goal.returns-clause-sound
returns-clause-sound c =
    let db = c.args.mdb.now in
    let e = c.args.exponent in
    let i = c.args.interval.0 in
    sound_by c.set_over.result db e i c.args.read.segments.items c.set_over.ensures.set c.set_over.ensures.segments
    (subst (AllByRecursion (IsSegmentOf db)) c.deref.ensures.value (c.are_segments_of.ensures.0 c.if-not-are_segments_of.false))
    (subst (AllByRecursion (IsInside e i)) c.deref-2.ensures.value (c.are_inside.ensures.0 c.if-not-are_inside.false))

pub returns-clause-each : goal.returns-clause-each
returns-clause-each c = λ rows is of ends.
    let again = ap rows_of_segments of ∙ rows_again_in_order rows is.rows in
    MatchResult-from_both c.set_over.result (λ set. set ≡ rows) (λ x. x ≡ OutOfMemory) (IfOk-weaker c.set_over.result (λ set. set ≡ rows_of_segments c.args.read.segments.items) (λ set. set ≡ rows) (λ set p. p ∙ again) c.set_over.ensures.set)
    (c.set_over.ensures.each ends (subst AreSetSegments (sym of) (segments_of_set rows is.rows)))
