use Rattle.std.proofs.Common.{◌≡◌, ◌++◌, ◌∷◌, [], drop, map}
use Rattle.seal_codec.specs.Files.{are_rising}
use Rattle.seal_codec.proofs.seal.names_above.Given as goal

abbrev pub invariant-loop-run : goal.invariant-loop-run
invariant-loop-run l = are_rising l.last (map (λ run. run.file) (drop l.run-index l.seal.runs) ++ l.seal.fills ∷ l.seal.log ∷ [])
    ≡ are_rising l.file (map (λ run. run.file) l.seal.runs ++ l.seal.fills ∷ l.seal.log ∷ [])
