use Rattle.std.proofs.Common.{inl, refl}
use Rattle.query_commands.proofs.sql.answer_text.Goals as goal

pub answer_over-requires : goal.answer_over-requires
answer_over-requires g c = record { names = c.in-Ok.ensures.names; empty = c.requires }

-- no memory for the packet names
pub returns-in-Err : goal.returns-in-Err
returns-in-Err g c = inl (inl c.in-Err.ensures.only, refl, refl)
