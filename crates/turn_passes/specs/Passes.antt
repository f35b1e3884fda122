-- What becomes of passes that are split off and joined.
use Rattle.std.specs.Prelude.{◌≡◌, ◌⊎◌, ℕ, ◌+◌, List, [], ◌++◌, length, Contains}
use Rattle.std.specs.List.{AllByRecursion}
use mathlib.Core.List.{IsPrefix}
use Rattle.turn_cell.specs.Lists.{given_seen, total}
use Rattle.turn_cell.specs.Pass.{PassView}

module _ {I F T : Type 0} where
  -- the shares of passes, added up
  abbrev pub shares_of : List (PassView I F T) → ℕ
  shares_of passes = total (λ p. p.share) passes

  -- a pass that has seen as much as another, had no turn, and has added nothing
  pub record HasSeenAsMuch (old pass : PassView I F T) : Type 0 where
    pub history : pass.history ≡ given_seen old.history
    pub fills : pass.fills ≡ given_seen old.fills
    pub turns : pass.turns ≡ 0

  -- so many passes were split off, behind those that were there, and each got a part of the share
  pub record AreSplitOff (old new : PassView I F T) (before passes : List (PassView I F T)) (count : ℕ) : Type 0 where
    pub split : List (PassView I F T)
    pub added : passes ≡ before ++ split
    pub count_is : length split ≡ count
    pub each : AllByRecursion (HasSeenAsMuch old) split
    pub shares : new.share + shares_of split ≡ old.share
    pub same : (new.history ≡ old.history) × (new.fills ≡ old.fills) × (new.turns ≡ old.turns)

  -- All of the passes but for some that are left were joined to a first one: it has seen what they have seen, its places
  -- are theirs and its own, and so are its turns, the numbers of items that these added, and its share.
  pub record Joins (passes : List (PassView I F T)) (old now : PassView I F T) (left : List (PassView I F T)) : Type 0 where
    pub inside : (pass : PassView I F T) → Contains left pass → Contains passes pass
    pub seen : (pass : PassView I F T) → Contains passes pass → Contains left pass
        ⊎ (IsPrefix pass.history.seen now.history.seen × IsPrefix pass.fills.seen now.fills.seen)
    pub begins : IsPrefix old.history.seen now.history.seen × IsPrefix old.fills.seen now.fills.seen
    pub places : (place : ℕ) → Contains now.history.places place → Contains old.history.places place
        ⊎ ((pass : PassView I F T) × Contains passes pass × Contains pass.history.places place)
    pub fills_places : (place : ℕ) → Contains now.fills.places place → Contains old.fills.places place
        ⊎ ((pass : PassView I F T) × Contains passes pass × Contains pass.fills.places place)
    pub turns : now.turns + total (λ p. p.turns) left ≡ old.turns + total (λ p. p.turns) passes
    pub added : now.history.added + total (λ p. p.history.added) left
        ≡ old.history.added + total (λ p. p.history.added) passes
    pub fills_added : now.fills.added + total (λ p. p.fills.added) left
        ≡ old.fills.added + total (λ p. p.fills.added) passes
    pub shares : now.share + shares_of left ≡ old.share + shares_of passes
