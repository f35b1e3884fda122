use Rattle.asks.specs.Names.{parameter_number}
use Rattle.asks.proofs.RefusedExactly.{parameter_range_exactly}
use Rattle.asks.proofs.laws.bad_request_range_exactly.Goals as goal

pub returns : goal.returns
returns c = λ db request low high. parameter_range_exactly (parameter_number db request.parameter) request.from request.to low high
