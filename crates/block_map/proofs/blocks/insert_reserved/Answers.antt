use Rattle.std.proofs.Common.{◌≡◌, ℕ, length, arith, sym, ◌∙◌, ap}
use Rattle.std.specs.Prelude.{insert}
use Rattle.std.proofs.lemmas.List.Edits.{insert_end}
use Rattle.block_map.proofs.blocks.insert_reserved.Goals as goal

pub returns-then-at-len-clause-items : goal.returns-then-at-len-clause-items
returns-then-at-len-clause-items g c =
    let old = c.args.block.now.items in
    let last : c.args.at ≡ length old = omega (arith, c.if-at-len.true, c.len.ensures) in
    c.push_reserved.ensures.items ∙ sym (insert_end old c.args.entry) ∙ ap (λ (n : ℕ). insert old n c.args.entry) (sym last)
