-- What stands in numbered files, and what a call that a crash or a failure cut short may leave there.
use Rattle.std.specs.Prelude.{◌≡◌, ◌≢◌, ℕ, ◌+◌, ◌≤◌, min, max, List, ◌++◌, length, take, drop}

-- the octets of each file by its number; a file that was never written is empty
abbrev pub Image : Type 0
Image = ℕ → List ℕ

-- the two agree in every file but this one
abbrev pub AgreesBut : ℕ → Image → Image → Type 0
AgreesBut file old new = (g : ℕ) → g ≢ file → new g ≡ old g

-- one file after a write that was done whole
abbrev pub overwritten : ℕ → List ℕ → List ℕ → List ℕ
overwritten at octets old = take at old ++ octets ++ drop (at + length octets) old

-- One file after a write of n octets that may have been cut short:
-- any octets in the range and past the shorter end, any length from the old to the new one, all other octets as they were.
pub record Torn (at n : ℕ) (old new : List ℕ) : Type 0 where
  pub no_shorter : length old ≤ length new
  pub no_longer : length new ≤ max (length old) (at + n)
  pub before : take (min at (length old)) new ≡ take at old
  pub after : drop (at + n) new ≡ drop (at + n) old

-- one file after a cut to n octets that may have been cut short: any length from the new to the old one, any octets past the shorter end
pub record Shortened (n : ℕ) (old new : List ℕ) : Type 0 where
  pub no_shorter : min n (length old) ≤ length new
  pub no_longer : length new ≤ length old
  pub front : take (min n (length old)) new ≡ take n old

-- the file is just this afterwards
abbrev pub Becomes : (List ℕ → List ℕ) → List ℕ → List ℕ → Type 0
Becomes f old new = new ≡ f old

-- the step is done in this file, and all others stay
pub record InFile (step : List ℕ → List ℕ → Type 0) (file : ℕ) (old new : Image) : Type 0 where
  pub here : step (old file) (new file)
  pub others : AgreesBut file old new
