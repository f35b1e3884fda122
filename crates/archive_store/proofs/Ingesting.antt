-- What an ingest of classified rows comes to.
use Rattle.std.proofs.Common.{◌≡◌, ℕ, suc, ◌<◌, ◌≤◌, List, Contains, [], ◌∷◌, ◌++◌, length, refl, sym, ◌∙◌, ap, subst, arith}
use Rattle.std.specs.List.{AllByRecursion}
use Rattle.std.proofs.lemmas.List.{append-nil}
use Rattle.refusals.specs.declared.refusal.Which.TheVariants as limits
use Rattle.arch_types.specs.declared.inserted.Inserted.{Inserted}
use Rattle.arch_types.specs.declared.inserted.Inserted.TheVariants.{New, Duplicate}
use Rattle.arch_types.specs.declared.row.Row.{Row}
use Rattle.refusals.specs.Limits.{limit_of}
use Rattle.history_items.specs.declared.items.Item.{Item}
use Rattle.history_items.specs.Items.{after_rows, items_of, rows_in}
use Rattle.history_items.proofs.ItemLists.{rows_behind}
use Rattle.history_items.specs.Outcomes.{answered_new, fresh_of, outcomes_of}
use Rattle.history_items.proofs.Outcomes.{fresh_added, length-fresh}
use Rattle.archive_history.specs.Limits.{IsWithin}
use Rattle.archive_store.specs.Limits.{IsBelowLimits}

-- what some list has, a longer one does
in_longer : (row : Row) (rows some : List Row) → AllByRecursion (Contains rows) some → AllByRecursion (Contains (row ∷ rows)) some
in_longer row rows [] each = tt
in_longer row rows (x ∷ some) each = ((suc each.0.0, let low = each.0.1 in omega (arith, low), each.0.2), in_longer row rows some each.1)

answered_in : (outcomes : List Inserted) (rows : List Row) → AllByRecursion (Contains rows) (answered_new outcomes rows)
answered_in [] rows = tt
answered_in (outcome ∷ outcomes) [] = tt
answered_in (New position ∷ outcomes) (row ∷ rows) = ((0, omega arith, refl), in_longer row rows (answered_new outcomes rows) (answered_in outcomes rows))
answered_in (Duplicate position ∷ outcomes) (row ∷ rows) = in_longer row rows (answered_new outcomes rows) (answered_in outcomes rows)

-- each new row is one of the batch's
pub fresh_in : (history : List Item) (rows fresh : List Row) → fresh ≡ fresh_of history rows → AllByRecursion (Contains rows) fresh
fresh_in history rows fresh is = subst (AllByRecursion (Contains rows)) (sym is) (answered_in (outcomes_of history rows) rows)

-- there are no more of them
pub few_fresh : (history : List Item) (rows fresh : List Row) → fresh ≡ fresh_of history rows → length fresh ≤ length rows
few_fresh history rows fresh is = subst (λ (l : List Row). length l ≤ length rows) (sym is) (length-fresh history rows)

-- the history with the new rows is the one that the rows came to
pub added : (history : List Item) (rows fresh : List Row) → fresh ≡ fresh_of history rows → history ++ items_of fresh ≡ after_rows history rows
added history rows fresh is = ap (λ (l : List Row). history ++ items_of l) is ∙ sym (fresh_added history rows)

pub no_row : (fresh : List Row) → length fresh ≡ 0 → fresh ≡ []
no_row [] none = refl
no_row (row ∷ fresh) none = absurd (omega (arith, none))

pub none_new : (history : List Item) (rows fresh : List Row) → fresh ≡ fresh_of history rows → length fresh ≡ 0 → fresh_of history rows ≡ []
none_new history rows fresh is none = sym is ∙ no_row fresh none

-- without new rows the history stays
pub nothing_added : (history : List Item) (rows fresh : List Row) → fresh ≡ fresh_of history rows → length fresh ≡ 0 → history ≡ after_rows history rows
nothing_added history rows fresh is none = sym (append-nil history) ∙ ap (λ (l : List Row). history ++ items_of l) (sym (no_row fresh none)) ∙ added history rows fresh is

pub below_none : (exponent : ℕ) (records : ℕ) (history : List Item) (rows fresh : List Row) → fresh ≡ fresh_of history rows → length fresh ≡ 0 → IsWithin exponent (rows_in history) → IsBelowLimits exponent records history rows
below_none exponent records history rows fresh is none within = record {
  within = subst (λ (l : List Item). IsWithin exponent (rows_in l)) (nothing_added history rows fresh is none) within;
  records_left = λ some. absurd (some (none_new history rows fresh is none));
}

pub below_some : (exponent : ℕ) (records : ℕ) (history : List Item) (rows fresh : List Row) → fresh ≡ fresh_of history rows → IsWithin exponent (rows_in history ++ fresh) → records < limit_of limits.Records → IsBelowLimits exponent records history rows
below_some exponent records history rows fresh is within left = record {
  within = subst (IsWithin exponent) (sym (rows_behind history fresh) ∙ ap rows_in (added history rows fresh is)) within;
  records_left = λ some. left;
}
