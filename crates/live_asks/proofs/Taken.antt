-- The rows of a replay, taken piece by piece while the history goes on.
use Rattle.std.proofs.Common.{◌≡◌, ◌≤◌, ℕ, List, [], ◌++◌, length, sym, ap, subst, ◌∙◌, append_assoc, append-nil}
use mathlib.Core.List.{IsPrefix}
use Rattle.arch_types.specs.declared.row.Row.{Row}
use Rattle.history_items.specs.declared.items.Item.{Item}
use Rattle.archive_store.specs.Replays.{rows_below}
use Rattle.archive_store.proofs.ReplayedRows.{rest_of_later}
use Rattle.replay_merge.specs.Cursor.{CursorView, rest_of}

module _ (start old new : CursorView) (rows piece : List Row) (seen later : List Item) (within : start.front ≤ length seen) where
  -- with a piece more
  pub taken_more : new.front ≡ start.front → IsPrefix seen later → piece ++ rest_of new (rows_below seen) ≡ rest_of old (rows_below seen) → rows ++ rest_of old (rows_below seen) ≡ rest_of start (rows_below seen)
      → (rows ++ piece) ++ rest_of new (rows_below later) ≡ rest_of start (rows_below later)
  taken_more same more step before =
      ap (λ (l : List Row). (rows ++ piece) ++ l) (rest_of_later new seen later (subst (λ (n : ℕ). n ≤ length seen) (sym same) within) more)
      ∙ (append_assoc rows piece (rest_of new (rows_below seen))
      ∙ (ap (λ (l : List Row). rows ++ l) step
      ∙ (before ∙ sym (rest_of_later start seen later within more))))

  -- with the last one, which has no row
  pub all_taken : IsPrefix seen later → piece ≡ [] → rest_of new (rows_below seen) ≡ [] → piece ++ rest_of new (rows_below seen) ≡ rest_of old (rows_below seen) → rows ++ rest_of old (rows_below seen) ≡ rest_of start (rows_below seen)
      → rows ≡ rest_of start (rows_below later)
  all_taken more none end step before =
      let left : rest_of old (rows_below seen) ≡ [] = sym step ∙ (ap (λ (l : List Row). l ++ rest_of new (rows_below seen)) none ∙ end) in
      sym (append-nil rows) ∙ (ap (λ (l : List Row). rows ++ l) (sym left) ∙ (before ∙ sym (rest_of_later start seen later within more)))
