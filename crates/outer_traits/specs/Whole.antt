-- Inputs that are read to their end.
use Rattle.std.specs.Prelude.{◌≡◌, ℕ, ◌+◌, ◌<◌, ◌≤◌, List, ◌++◌, Option, Some, None, IfSome, IsNone, IsSome, IsSomeAnd, Result, Ok, Err, length}
use Rattle.std.specs.FinMap.{get}
use Rattle.outer_traits.specs.declared.whole.ReadFault.{ReadFault}
use Rattle.outer_traits.specs.declared.whole.ReadFault.TheVariants.{Missing, Failed, TooLong, OutOfMemory}
use Rattle.outer_traits.specs.Outside.{Files, HasRisen, IsOneMoreAtMost, Stays, one_more}

-- of the octets that were left at first these were taken, and the others are left, where they are known
abbrev pub IsTaken : Option (List ℕ) → List ℕ → Option (List ℕ) → Type 0
IsTaken None taken left = left ≡ None
IsTaken (Some octets) taken left = (more : List ℕ) × (octets ≡ taken ++ more) × (left ≡ Some more)

-- not more octets than the limit were taken of those that were left, where they are known
abbrev pub TookAtMost : ℕ → Option (List ℕ) → Option (List ℕ) → Type 0
TookAtMost limit old new = IfSome old (λ octets. IfSome new (λ more. length octets ≤ limit + length more))

-- the named input has these octets, where the inputs are known
abbrev pub IsInput : Option Files → List ℕ → List ℕ → Type 0
IsInput files name octets = IfSome files (λ all. get all name ≡ Some octets)

-- there is an input of the name, where the inputs are known
abbrev pub IsThere : Option Files → List ℕ → Type 0
IsThere files name = IfSome files (λ all. IsSome (get all name))

-- why an input wasn't read to its end: there's none of the name, or there is one and a call failed, it is longer than the limit, or there was no memory
abbrev pub IsInputFault : Option Files → List ℕ → ℕ → ℕ → ℕ → ReadFault → Type 0
IsInputFault files name limit faults faults' Missing = IfSome files (λ all. IsNone (get all name))
IsInputFault files name limit faults faults' Failed = HasRisen faults faults' × IsThere files name
IsInputFault files name limit faults faults' TooLong = IfSome files (λ all. IsSomeAnd (get all name) (λ octets. limit < length octets))
IsInputFault files name limit faults faults' OutOfMemory = IsThere files name

-- a count of faults has risen where a reading failed, and else is as before
abbrev pub ReadingCounted : {X : Type 0} → Result X ReadFault → ℕ → ℕ → Type 0
ReadingCounted (Err Failed) before now = HasRisen before now
ReadingCounted other before now = Stays before now

-- how many sources were given in a reading: one for an input that was read or is too long, none for one that isn't there, and one at most
-- where a call failed or there was no memory
abbrev pub ReadingGiven : {X : Type 0} → Result X ReadFault → ℕ → ℕ → Type 0
ReadingGiven (Ok octets) before now = now ≡ one_more before
ReadingGiven (Err TooLong) before now = now ≡ one_more before
ReadingGiven (Err Missing) before now = now ≡ before
ReadingGiven (Err other) before now = IsOneMoreAtMost before now
