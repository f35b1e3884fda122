use Rattle.asks.specs.declared.refusal.AskRefusal.TheVariants.{UnknownParameter}
use Rattle.asks.specs.Names.{parameter_number}
use Rattle.asks.proofs.RefusedExactly.{whole_exactly}
use Rattle.asks.proofs.laws.request_has_answer_exactly.Goals as goal

pub returns : goal.returns
returns c = λ db request. whole_exactly (parameter_number db request.parameter) UnknownParameter request.from request.to
