use Rattle.std.proofs.Common.{inl, inr, refl}
use Rattle.retrieval.specs.FoundAsks.{asks_found}
use Rattle.query_commands.proofs.query.answer_sheet.Goals as goal

pub answer_asks-requires-clause-found : goal.answer_asks-requires-clause-found
answer_asks-requires-clause-found g c = rw c.as_slice-asks.ensures c.in-Ok.ensures.found

pub returns-in-Ok : goal.returns-in-Ok
returns-in-Ok g c =
    inr (asks_found c.in-Ok.asks, c.in-Ok.ensures.answerable, rw c.as_slice-asks.ensures at c.answer_asks.ensures.printed, c.answer_asks.ensures.read)

pub returns-in-Err : goal.returns-in-Err
returns-in-Err g c = inl (c.in-Err.ensures.refused, refl, refl)
