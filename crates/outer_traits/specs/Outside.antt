-- What the calls on the outside do, where its content is known, and when they fail.
use Rattle.std.specs.Prelude.{◌≡◌, ℕ, ◌+◌, ◌-◌, ◌^◌, min, ◌<◌, ◌≤◌, ◌⊎◌, List, ◌++◌, length, take, drop, Option, Some, None, Result, Err, IsSomeAnd}
use Rattle.std.specs.Option.{is_some}
use Rattle.std.specs.Ordering.{nat_cmp}
use Rattle.std.specs.Cmp.Lexicographic.{slice_cmp}
use Rattle.std.specs.FinMap.{FinMap, get}
use Rattle.outer_traits.specs.declared.fault.OpenFault.{OpenFault}
use Rattle.outer_traits.specs.declared.fault.OpenFault.TheVariants.{Failed}

-- a count of faults has risen, or stands at the last value of its type
abbrev pub HasRisen : ℕ → ℕ → Type 0
HasRisen before now = now + 1 < 2 ^ 64 → before < now

-- a count of faults is as before
abbrev pub Stays : ℕ → ℕ → Type 0
Stays before now = now ≡ before

-- a count of faults has risen where an opening failed, and else is as before
abbrev pub OpeningCounted : {X : Type 0} → Result X OpenFault → ℕ → ℕ → Type 0
OpeningCounted (Err Failed) before now = HasRisen before now
OpeningCounted other before now = Stays before now

-- one more, where the counter isn't at its last value
abbrev pub one_more : ℕ → ℕ
one_more count = min (count + 1) (2 ^ 64 - 1)

-- a count is as before or one more
abbrev pub IsOneMoreAtMost : ℕ → ℕ → Type 0
IsOneMoreAtMost before now = (now ≡ before) ⊎ (now ≡ one_more before)

-- an object is known after a call exactly where it was known before
abbrev pub StaysKnown : {X : Type 0} → Option X → Option X → Type 0
StaysKnown before now = is_some now ≡ is_some before

-- octets by the octets of a name
abbrev pub Files : Type 0
Files = FinMap (slice_cmp nat_cmp) (List ℕ)

-- the first n octets left were moved to the front of a slice, where they are known
abbrev pub Reads : Option (List ℕ) → Option (List ℕ) → ℕ → List ℕ → Type 0
Reads None new n into = new ≡ None
Reads (Some octets) new n into = (n ≤ length octets) × (take n into ≡ take n octets) × (new ≡ Some (drop n octets))

-- what is left at first is what the files have at the name, where they are known
abbrev pub IsLeftAtFirst : Option Files → List ℕ → Option (List ℕ) → Type 0
IsLeftAtFirst None name left = left ≡ None
IsLeftAtFirst (Some files) name left = IsSomeAnd (get files name) (λ octets. left ≡ Some octets)

-- the first n octets of a piece were appended, where the content is known
abbrev pub Writes : Option (List ℕ) → Option (List ℕ) → ℕ → List ℕ → Type 0
Writes None new n piece = new ≡ None
Writes (Some octets) new n piece = new ≡ Some (octets ++ take n piece)

-- a prefix of a text was appended, where the content is known
abbrev pub WritesSome : Option (List ℕ) → Option (List ℕ) → List ℕ → Type 0
WritesSome None new text = new ≡ None
WritesSome (Some octets) new text = (piece : List ℕ) × (more : List ℕ) × (piece ++ more ≡ text) × (new ≡ Some (octets ++ piece))
