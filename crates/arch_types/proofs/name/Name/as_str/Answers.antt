use Rattle.std.proofs.Common.{ap, ◌∙◌}
use Rattle.text_forms.specs.Names.{is_name}
use Rattle.arch_types.proofs.Texts.{name_utf8}
use Rattle.arch_types.proofs.name.Name.as_str.Goals as goal

pub unreachable-requires : goal.unreachable-requires
unreachable-requires c = absurd (c.in-Err.ensures.cases.0 (name_utf8 c.as_slice.result.now (ap is_name c.as_slice.ensures ∙ c.self.invariant)))
