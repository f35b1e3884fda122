-- Lists in the order of numbers.
use Rattle.std.specs.Prelude.{◌≡◌, ◌++◌, ℤ, ◌<ℤ◌, ◌≤ℤ◌, List, [], ◌∷◌, int_lt, if◌then◌else◌}
use Rattle.std.specs.List.{AllByRecursion}
use Rattle.std.specs.Ordering.{int_eq}

-- all have numbers below this one
abbrev pub AllBelow : {X : Type 0} → (X → ℤ) → ℤ → List X → Type 0
AllBelow number_of number items = AllByRecursion (λ item. number_of item <ℤ number) items

-- all have numbers above this one
abbrev pub AllAbove : {X : Type 0} → (X → ℤ) → ℤ → List X → Type 0
AllAbove number_of number items = AllByRecursion (λ item. number <ℤ number_of item) items

-- all have this number or one above it
abbrev pub AllFrom : {X : Type 0} → (X → ℤ) → ℤ → List X → Type 0
AllFrom number_of number items = AllByRecursion (λ item. number ≤ℤ number_of item) items

-- the numbers rise
abbrev pub RiseBy : {X : Type 0} → (X → ℤ) → List X → Type 0
RiseBy number_of [] = Unit {0}
RiseBy number_of (item ∷ items) = AllAbove number_of (number_of item) items × RiseBy number_of items

-- items of which one leads, or those behind it where that one has the number
abbrev pub without_first : {X : Type 0} → (X → ℤ) → ℤ → List X → List X
without_first number_of number [] = []
without_first number_of number (item ∷ items) = if int_eq (number_of item) number then items else item ∷ items

-- items with one more at its place, in place of the one with its number
abbrev pub with_item : {X : Type 0} → (X → ℤ) → X → List X → List X
with_item number_of new [] = new ∷ []
with_item number_of new (item ∷ items) =
    if int_lt (number_of item) (number_of new) then item ∷ with_item number_of new items
    else new ∷ without_first number_of (number_of new) (item ∷ items)

-- the last of some items: those before them are below a number
pub record AreFrom {X : Type 0} (number_of : X → ℤ) (number : ℤ) (all rest : List X) : Type 0 where
  pub before : List X
  pub whole : all ≡ before ++ rest
  pub below : AllBelow number_of number before
