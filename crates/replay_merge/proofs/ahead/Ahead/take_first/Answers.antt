use Rattle.std.proofs.Common.{◌≡◌, ◌-◌, length, ◌∙◌, ap, take, drop, rules}
use Rattle.std.specs.Prelude.{reverse}
use Rattle.replay_merge.proofs.Pieces.{taken_backwards, left_backwards}
use Rattle.replay_merge.proofs.ahead.Ahead.take_first.Goals as goal

pub returns-clause-rows : goal.returns-clause-rows
returns-clause-rows c =
    let xs = c.self.inside.backwards.items in
    let at = c.saturating_sub-at.result in
    let is : at ≡ length xs - c.args.most = search rules in
    c.from_vec.ensures ∙ c.reverse.ensures.items ∙ ap reverse c.in_ok-rows.ensures.tail ∙ taken_backwards xs at c.args.most is ∙ ap (take c.args.most) c.self.view_is

pub returns-clause-rest : goal.returns-clause-rest
returns-clause-rest c =
    let xs = c.self.inside.backwards.items in
    let at = c.saturating_sub-at.result in
    let is : at ≡ length xs - c.args.most = search rules in
    ap reverse c.in_ok-rows.ensures.items ∙ left_backwards xs at c.args.most is ∙ ap (drop c.args.most) c.self.view_is
