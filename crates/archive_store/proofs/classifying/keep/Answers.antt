use Rattle.std.proofs.Common.{◌≡◌, Some, true, false, sym, ◌∙◌, ap, subst}
use Rattle.archive_store.specs.Classifying.{NoneAbove, is_above, table_key_of}
use Rattle.archive_store.specs.declared.classifying.TableKey.{TableKey}
use Rattle.archive_store.proofs.Outcomes.{last_kept, last_raised}
use Rattle.archive_store.proofs.classifying.keep.Goals as goal

pub returns-then-is_above-clause-last : goal.returns-then-is_above-clause-last
returns-then-is_above-clause-last c =
    let old = c.args.classified.now in
    let above : is_above (table_key_of c.args.row) old.last ≡ true = ap (λ (k : TableKey). is_above k old.last) (sym c.of-at.ensures) ∙ sym c.is_above.ensures ∙ c.if-is_above.true in
    subst (λ (k : TableKey). NoneAbove (Some k) c.push.new.self) (sym c.of-at.ensures)
    (subst (NoneAbove (Some (table_key_of c.args.row))) (sym c.in_ok-push.ensures.ok) (last_raised old.last old.fresh c.args.row c.requires above))

pub returns-else-is_above-clause-last : goal.returns-else-is_above-clause-last
returns-else-is_above-clause-last c =
    let old = c.args.classified.now in
    let below : is_above (table_key_of c.args.row) old.last ≡ false = ap (λ (k : TableKey). is_above k old.last) (sym c.of-at.ensures) ∙ sym c.is_above.ensures ∙ c.if-is_above.false in
    subst (NoneAbove old.last) (sym c.in_ok-push.ensures.ok) (last_kept old.last old.fresh c.args.row c.requires below)
