use Rattle.std.proofs.Common.{◌≡◌, ◌∙◌, ℕ, ◌+◌, ◌-◌, ◌<◌, ◌≤◌, [], ◌++◌, Some, FitsSigned, ap, arith, length, rules, subst, sym}
use Rattle.std.specs.Int.{w64}
use Rattle.std.proofs.lemmas.Int.{to_z-of_z}
use Rattle.segment_codec.specs.RangeColumn.{first_in}
use Rattle.segment_codec.specs.declared.segment.Segment.{Segment}
use Rattle.param_segments.specs.CellRange.{segment_of_step, segment_cells_in_range}
use Rattle.param_segments.specs.Groups.{set_of}
use Rattle.param_segments.specs.Octets.{rows_in_octets}
use Rattle.param_segments.specs.RowPlaces.{numbered_segment}
use Rattle.param_segments.proofs.AskedGroups.{WantsNext, few_got, step_enough, wants_first}
use Rattle.param_segments.proofs.DirectedCells.{ranked}
use Rattle.param_segments.proofs.FirstItems.{HasEnough, enough_of_none}
use Rattle.param_segments.proofs.GatheredCells.{first_given}
use Rattle.param_segments.proofs.Starts.{length-of_starts}
use Rattle.param_segments.proofs.range_cells.first_of_groups.Goals as goal

pub loop-step-init : goal.loop-step-init
loop-step-init c =
    let ss = set_of (rows_in_octets c.args.octets.now) in
    let direction = c.args.range.direction in
    let limit = c.args.limit in
    let none = sym c.new-cells.ensures.items in
    record {
      enough = subst (HasEnough (ranked direction) limit []) none (enough_of_none (ranked direction) limit);
      next = subst (WantsNext direction ss 0 limit limit) none (wants_first direction ss limit);
    }

pub overflow_sub-wanted-in-loop-step : goal.overflow_sub-wanted-in-loop-step
overflow_sub-wanted-in-loop-step c =
    let low : FitsSigned w64 c.args.range.from = search rules in
    let high : FitsSigned w64 c.args.range.to = search rules in
    let cells = c.loop-step.cells.items in
    let new = c.put_numbered_cells.new.cells.items in
    let given = simp to_z-of_z at c.in_ok-put_numbered_cells.ensures in
    let few = few_got c.args.range.direction c.in_ok-asked.asked cells new (segment_cells_in_range c.args.parameter c.args.range.from c.args.range.to (numbered_segment (set_of (rows_in_octets c.args.octets.now)) c.number_at-number.result)) given in
    let got : c.len.result - c.len-had.result ≡ length new - length cells = omega (arith, c.len.ensures, c.len-had.ensures, c.put_numbered_cells.new.cells.ok.0, c.loop-step.cells.ok.0) in
    subst (λ (n : ℕ). n ≤ c.in_ok-asked.asked) (sym got) few

pub loop-step-preserved : goal.loop-step-preserved
loop-step-preserved c =
    let low : FitsSigned w64 c.args.range.from = search rules in
    let high : FitsSigned w64 c.args.range.to = search rules in
    let rows = rows_in_octets c.args.octets.now in
    let ss = set_of rows in
    let direction = c.args.range.direction in
    let q = c.args.parameter in
    let step = c.loop-step.step in
    let asked = c.in_ok-asked.asked in
    let cells = c.loop-step.cells.items in
    let new = c.put_numbered_cells.new.cells.items in
    let count = length-of_starts c.args.octets.now c.args.starts.now c.requires in
    let inside : step < length ss = subst (λ (n : ℕ). step < n) count c.loop-step-test.true in
    let there = c.number_at-number.ensures.at ss (sym count) in
    let given = simp to_z-of_z at c.in_ok-put_numbered_cells.ensures in
    let is : new ≡ cells ++ first_in direction (Some asked) (segment_cells_in_range q c.args.range.from c.args.range.to (segment_of_step direction ss step)) =
    given ∙ ap (λ (s : Segment). cells ++ first_in direction (Some asked) (segment_cells_in_range q c.args.range.from c.args.range.to s)) there in
    let h = step_enough direction q c.args.range.from c.args.range.to rows step c.args.limit c.loop-step.wanted asked cells new c.requires.rows inside c.loop-step.invariant.next c.in_ok-asked.ensures is c.loop-step.invariant.enough in
    let got : c.len.result - c.len-had.result ≡ length new - length cells = omega (arith, c.len.ensures, c.len-had.ensures, c.put_numbered_cells.new.cells.ok.0, c.loop-step.cells.ok.0) in
    record { enough = h.0; next = subst (λ (n : ℕ). WantsNext direction ss (step + 1) c.args.limit (asked - n) new) (sym got) h.1 }

pub returns : goal.returns
returns c =
    let rows = rows_in_octets c.args.octets.now in
    let count = length-of_starts c.args.octets.now c.args.starts.now c.requires in
    first_given c.args.range.direction c.args.limit c.loop-step.step c.args.parameter c.args.range.from c.args.range.to rows c.loop-step.cells.items c.requires.rows (subst (λ (n : ℕ). n ≤ c.loop-step.step) count c.loop-step-test.false) c.loop-step.invariant.enough
