-- The octets of a frame, a record ready to be written.
use Rattle.std.specs.Prelude.{ℕ, ◌-◌, List, length, take, drop}

-- the body in the octets of a frame: behind a length of four octets, before the next gate
abbrev pub body_in : List ℕ → List ℕ
body_in octets = take (length octets - 5) (drop 4 octets)
