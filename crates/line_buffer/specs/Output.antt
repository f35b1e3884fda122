-- A text that goes to a sink, written piece by piece.
use Rattle.std.specs.Prelude.{◌≡◌, ℕ, List, ◌++◌, Option, Some, None}

-- the text was appended, where what was written is known
abbrev pub Appends : Option (List ℕ) → Option (List ℕ) → List ℕ → Type 0
Appends None new text = new ≡ None
Appends (Some before) new text = new ≡ Some (before ++ text)

-- a front of a text was appended, and the rest of it is left
abbrev pub IsBuffered : Option (List ℕ) → Option (List ℕ) → List ℕ → List ℕ → Type 0
IsBuffered before now text left = (sent : List ℕ) × (text ≡ sent ++ left) × Appends before now sent
