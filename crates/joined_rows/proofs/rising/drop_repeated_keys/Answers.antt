use Rattle.std.proofs.Common.{rules}
use Rattle.std.proofs.lemmas.Fn.{dedup_same}
use Rattle.joined_rows.specs.Rising.{has_key_of}
use Rattle.joined_rows.proofs.rising.drop_repeated_keys.Goals as goal

pub returns : goal.returns
returns c = dedup_same _ has_key_of _ (λ x y b f' x' y' k. search rules) _ _ c.dedup_by.ensures.filtered
