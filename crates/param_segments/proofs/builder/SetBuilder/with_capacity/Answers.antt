use Rattle.std.proofs.Common.{◌∙◌, [], ap, map, sym}
use Rattle.param_segments.specs.declared.group.Group.{Group}
use Rattle.param_segments.specs.GroupContents.{group_contents}
use Rattle.param_segments.proofs.Contents.{groups_are, groups_keep, no_rows}
use Rattle.param_segments.proofs.builder.SetBuilder.with_capacity.Goals as goal

pub invariant_of-result : goal.invariant_of-result
invariant_of-result c =
    groups_are c.new.result c.new-2.result.items [] no_rows (ap (map group_contents) c.new-2.ensures.items) (c.new.ensures ∙ sym (ap (map (λ (g : Group). g.parameters.items)) c.new-2.ensures.items))

pub returns : goal.returns
returns c = groups_keep c.new-2.result.items [] no_rows (ap (map group_contents) c.new-2.ensures.items)
