use Rattle.std.proofs.Common.{◌≡◌, map, string_bytes, drop}
use Rattle.command_words.specs.Words.{are_whole}
use Rattle.command_words.proofs.words.are_whole.Given as goal

abbrev pub invariant-loop-word : goal.invariant-loop-word
invariant-loop-word l = are_whole (map (λ w. string_bytes w) (drop l.word-index l.words)) ≡ are_whole (map (λ w. string_bytes w) l.words)
