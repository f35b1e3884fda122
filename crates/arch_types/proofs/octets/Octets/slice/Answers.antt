use Rattle.std.proofs.Common.{arith, ◌≤◌, ◌-◌, sym}
use Rattle.std.proofs.lemmas.Grind.{common_steps}
use Rattle.arch_types.proofs.Slices.{slice_of_slice, slice_length}
use Rattle.arch_types.proofs.octets.Octets.slice.Goals as goal

pub overflow_cast-result : goal.overflow_cast-result
overflow_cast-result c =
    let len = slice_length c.self.inside.block.value.items c.self.inside.start c.self.inside.end c.self.invariant.0 c.self.invariant.1 in
    let within : c.args.to ≤ c.self.inside.end - c.self.inside.start = rw (← len, c.self.view_is) c.requires.1 in
    grind (arith, common_steps, within, c.requires.0, c.self.invariant.0, c.self.invariant.2)

pub overflow_add-result : goal.overflow_add-result
overflow_add-result c =
    let len = slice_length c.self.inside.block.value.items c.self.inside.start c.self.inside.end c.self.invariant.0 c.self.invariant.1 in
    let within : c.args.to ≤ c.self.inside.end - c.self.inside.start = rw (← len, c.self.view_is) c.requires.1 in
    grind (arith, common_steps, within, c.requires.0, c.self.invariant.0, c.self.invariant.2)

pub overflow_cast-result-2 : goal.overflow_cast-result-2
overflow_cast-result-2 c =
    let len = slice_length c.self.inside.block.value.items c.self.inside.start c.self.inside.end c.self.invariant.0 c.self.invariant.1 in
    let within : c.args.to ≤ c.self.inside.end - c.self.inside.start = rw (← len, c.self.view_is) c.requires.1 in
    grind (arith, common_steps, within, c.requires.0, c.self.invariant.0, c.self.invariant.2)

pub overflow_add-result-2 : goal.overflow_add-result-2
overflow_add-result-2 c =
    let len = slice_length c.self.inside.block.value.items c.self.inside.start c.self.inside.end c.self.invariant.0 c.self.invariant.1 in
    let within : c.args.to ≤ c.self.inside.end - c.self.inside.start = rw (← len, c.self.view_is) c.requires.1 in
    grind (arith, common_steps, within, c.requires.0, c.self.invariant.0, c.self.invariant.2)

pub returns : goal.returns
returns c =
    let len = slice_length c.self.inside.block.value.items c.self.inside.start c.self.inside.end c.self.invariant.0 c.self.invariant.1 in
    let within : c.args.to ≤ c.self.inside.end - c.self.inside.start = rw (← len, c.self.view_is) c.requires.1 in
    rw (c.in_ok-block.ensures, ← c.self.view_is)
    (sym (slice_of_slice c.self.inside.block.value.items c.self.inside.start c.self.inside.end c.args.from c.args.to c.requires.0 within))
