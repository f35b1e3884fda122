use Rattle.std.proofs.Common.{◌∙◌, sym}
use Rattle.outer_traits.proofs.mem_inputs.MemInputsInputs.open.Goals as goal

pub returns-then-is_listed-clause-missing : goal.returns-then-is_listed-clause-missing
returns-then-is_listed-clause-missing c =
    (λ e. cc, λ none. let some = rw c.as_slice.ensures.value at c.in-Some.ensures.1 in let clash = sym some ∙ none in cc)
