use Rattle.asks.specs.Names.{parameter_number}
use Rattle.asks.proofs.RefusedExactly.{parameter_exactly}
use Rattle.asks.proofs.laws.unknown_parameter_exactly.Goals as goal

pub returns : goal.returns
returns c = λ db request. parameter_exactly (parameter_number db request.parameter) request.from request.to
