use Rattle.std.proofs.Common.{◌∙◌, ap}
use Rattle.ssql_conditions.specs.Truth.{truth}
use Rattle.ssql_conditions.specs.Formulas.{meaning_of}
use Rattle.ssql_conditions.proofs.Meanings.{pieces_mean}
use Rattle.ssql_conditions.proofs.truth.is_true.Goals as goal

pub returns-then-has_paren : goal.returns-then-has_paren
returns-then-has_paren c = c.are_true.ensures ∙ pieces_mean (truth c.args.row.now) c.pieces-pieces.result.now ∙ ap (meaning_of (truth c.args.row.now)) c.pieces-pieces.ensures.formula

pub returns : goal.returns
returns c = c.are_true_flat.ensures ∙ pieces_mean (truth c.args.row.now) c.pieces-pieces.result.now ∙ ap (meaning_of (truth c.args.row.now)) c.pieces-pieces.ensures.formula
