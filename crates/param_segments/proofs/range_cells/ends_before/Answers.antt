use Rattle.std.proofs.Common.{◌∙◌, ◌+◌, ◌<◌, arith, length, rules, sym}
use Rattle.std.specs.Prelude.{◌<ℤ◌}
use Rattle.std.specs.Cmp.Lexicographic.{same_text}
use Rattle.param_segments.proofs.Passed.{passed_by}
use Rattle.param_segments.proofs.Starts.{at_start, segment_number}
use Rattle.param_segments.proofs.range_cells.ends_before.Goals as goal

pub read_head-requires : goal.read_head-requires
read_head-requires c =
    let next = c.args.number + 1 in
    (segment_number c.args.octets.now next, at_start c.args.octets.now c.args.starts.now next c.requires.spelled (omega arith))

pub read_head-requires-2 : goal.read_head-requires-2
read_head-requires-2 c = (segment_number c.args.octets.now c.args.number, at_start c.args.octets.now c.args.starts.now c.args.number c.requires.spelled c.requires.within)

pub returns : goal.returns
returns c = λ is.
    let octets = c.args.octets.now in
    let starts = c.args.starts.now in
    let n = c.args.number in
    let inside : n + 1 < length starts = omega arith in
    let own = c.in_ok-own.ensures (segment_number octets n) (at_start octets starts n c.requires.spelled c.requires.within) in
    let behind = c.in_ok-behind.ensures (segment_number octets (n + 1)) (at_start octets starts (n + 1) c.requires.spelled inside) in
    let same = sym c.as_slice.ensures ∙ same_text c.as_slice.result.now c.as_slice-2.result.now (sym is ∙ c.eq.ensures) ∙ c.as_slice-2.ensures in
    let before : c.in_ok-behind.behind.first.time <ℤ c.args.time = search rules in
    passed_by octets starts n c.in_ok-own.own c.in_ok-behind.behind c.args.time c.requires.spelled inside own behind same before
