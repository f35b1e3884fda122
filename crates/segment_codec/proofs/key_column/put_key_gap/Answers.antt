use Rattle.std.proofs.Common.{◌≡◌, ◌∙◌, ◌++◌, ℕ, Option, ap, subst}
use Rattle.std.specs.Prelude.{IfSome}
use Rattle.std.proofs.lemmas.Result.{on_ok_weaker}
use Rattle.segment_codec.specs.KeyColumn.{key_gap}
use Rattle.varints.specs.Varint.{varint}
use Rattle.segment_codec.proofs.key_column.put_key_gap.Goals as goal

pub returns-in-Some : goal.returns-in-Some
returns-in-Some c =
    let far = key_gap c.args.last c.args.key in
    let same : c.in-Some.gap ≡ far = subst (λ (o : Option ℕ). IfSome o (λ gap. gap ≡ far)) c.in-Some.is c.short_gap.ensures in
    on_ok_weaker c.put_word.result (λ e. e ∙ ap (λ (n : ℕ). c.args.out.now.items ++ varint n) same) c.put_word.ensures

pub returns-in-None : goal.returns-in-None
returns-in-None c = on_ok_weaker c.put_varint.result (λ e. e ∙ ap (λ (n : ℕ). c.args.out.now.items ++ varint n) c.key_gap.ensures) c.put_varint.ensures
