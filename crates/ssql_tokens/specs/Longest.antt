-- The longest text at a front that passes a test.
use Rattle.std.specs.Prelude.{◌≡◌, ◌<◌, ◌≤◌, ℕ, List, take, length, Bool, true, false, Option, Some, None}

-- So many octets at the front pass the test, and no more of them do.
pub record IsLongest (test : List ℕ → Bool) (text : List ℕ) (len : ℕ) : Type 0 where
  pub within : len ≤ length text
  pub passes : test (take len text) ≡ true
  pub longest : (m : ℕ) → len < m → m ≤ length text → test (take m text) ≡ false

-- no octets at the front pass the test
abbrev pub HasNone : (List ℕ → Bool) → List ℕ → Type 0
HasNone test text = (m : ℕ) → m ≤ length text → test (take m text) ≡ false

-- the length of the longest, or nothing where there is none
abbrev pub IsLongestIfAny : (List ℕ → Bool) → List ℕ → Option ℕ → Type 0
IsLongestIfAny test text None = HasNone test text
IsLongestIfAny test text (Some len) = IsLongest test text len
