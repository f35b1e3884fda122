use Rattle.std.proofs.Common.{◌≡◌, ◌∙◌, List, length, ap, arith}
use Rattle.param_segments.specs.Groups.{set_of}
use Rattle.param_segments.specs.Octets.{rows_in_octets}
use Rattle.param_segments.specs.Rows.{SetRow}
use Rattle.param_segments.proofs.Starts.{length-of_starts}
use Rattle.param_segments.proofs.set.SegSet.segments.Goals as goal

pub overflow_cast-result : goal.overflow_cast-result
overflow_cast-result c =
    let long = length-of_starts c.self.inside.octets c.self.inside.starts.items c.self.invariant in
    omega (arith, c.len.ensures, c.self.inside.starts.ok.0, long, c.self.invariant.few)

pub returns : goal.returns
returns c =
    let long = length-of_starts c.self.inside.octets c.self.inside.starts.items c.self.invariant in
    let count : c.len.result ≡ length (set_of (rows_in_octets c.self.inside.octets)) = omega (arith, c.len.ensures, c.self.inside.starts.ok.0, long) in
    count ∙ ap (λ (rows : List SetRow). length (set_of rows)) c.self.view_is
