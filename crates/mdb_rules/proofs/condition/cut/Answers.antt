use Rattle.std.proofs.Common.{◌∙◌, ◌∷◌, ap, arith, sym, take}
use Rattle.mdb_items.specs.Conditions.{pieces}
use Rattle.mdb_items.specs.Texts.{Text}
use Rattle.mdb_rules.proofs.Pieces.{pieces_end, pieces_more}
use Rattle.mdb_rules.proofs.condition.cut.Goals as goal

pub returns-then-len-text-clause-cut : goal.returns-then-len-text-clause-cut
returns-then-len-text-clause-cut c = pieces_end c.args.text.now c.piece_len-len.result c.piece_len-len.ensures.value (omega arith)

pub returns-clause-cut : goal.returns-clause-cut
returns-clause-cut c =
    let more = pieces_more c.args.text.now c.piece_len-len.result c.piece_len-len.ensures.value (omega arith) in
    more ∙ ap (λ (xs : Text). take c.piece_len-len.result c.args.text.now ∷ pieces xs) (sym c.from_place.ensures)
