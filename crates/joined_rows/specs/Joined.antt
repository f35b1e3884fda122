-- What two sources of rows tell together.
use Rattle.std.specs.Prelude.{ℕ, ◌+◌, ◌⊎◌, List, ◌++◌, Option, Some, None}
use Rattle.std.specs.Borrow.{MutBor}
use Rattle.arch_types.specs.declared.row.Row.{Row}
use Rattle.replay_merge.specs.RowSource.{IsRowSourceHistory, RowSourceState}

-- at each front the rows of the first, and behind them those of the second, where both tell theirs
abbrev pub told_by_both : Option (ℕ → List Row) → Option (ℕ → List Row) → Option (ℕ → List Row)
told_by_both None second = None
told_by_both (Some first) None = None
told_by_both (Some first) (Some second) = Some (λ front. first front ++ second front)

-- Where both tell their rows, those of the first below any front, and behind them those of the second below any, are a
-- history: so no table has a key in both.
abbrev pub AreHistoriesTogether : Option (ℕ → List Row) → Option (ℕ → List Row) → Type 0
AreHistoriesTogether None second = Unit {0}
AreHistoriesTogether (Some first) None = Unit {0}
AreHistoriesTogether (Some first) (Some second) = (front other : ℕ) → IsRowSourceHistory (first front ++ second other)

-- two sources as one: it tells what both tell, may give what either may give, and fails where either fails
abbrev pub joined_state : RowSourceState → RowSourceState → RowSourceState
joined_state first second = record {
  history = told_by_both first.history second.history;
  may_give = λ row. first.may_give row ⊎ second.may_give row;
  may_fail = first.may_fail ⊎ second.may_fail;
  faults = first.faults + second.faults;
}

-- the two sources that are joined, each as it is borrowed
pub record JoinedView (A B : Type 0) : Type 0 where
  pub first : MutBor A
  pub second : MutBor B

-- the same of its parts
abbrev pub joined_view : {A B : Type 0} → MutBor A → MutBor B → JoinedView A B
joined_view first second = record { first = first; second = second }
