-- The answers of readers, of which each has those of every fourth ask.
use Rattle.std.specs.Prelude.{◌≡◌, ℕ, List, [], length, slice_get, unwrap_or}
use Rattle.live_asks.specs.LiveAsks.{every_fourth}

-- those of the reader at a place; none, where there is no such reader
abbrev pub answers_at : {Y : Type 0} → ℕ → List (List Y) → List Y
answers_at place readers = unwrap_or (slice_get readers place) []

-- these lists have as many as every fourth of the asks, each from one place further on
pub record HaveAnswersFor {X Y : Type 0} (asks : List X) (first second third fourth : List Y) : Type 0 where
  pub of_first : length first ≡ length (every_fourth 0 asks)
  pub of_second : length second ≡ length (every_fourth 1 asks)
  pub of_third : length third ≡ length (every_fourth 2 asks)
  pub of_fourth : length fourth ≡ length (every_fourth 3 asks)

-- they are every fourth of one list
pub record AreEveryFourth {Y : Type 0} (answers first second third fourth : List Y) : Type 0 where
  pub of_first : every_fourth 0 answers ≡ first
  pub of_second : every_fourth 1 answers ≡ second
  pub of_third : every_fourth 2 answers ≡ third
  pub of_fourth : every_fourth 3 answers ≡ fourth
