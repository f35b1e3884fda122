-- The rows that a link put are among the first arrivals of each table and key of its dump, and the table and key of each arrival are in the history.
use Rattle.std.proofs.Common.{◌≡◌, ◌∙◌, inl, inr, ℕ, List, [], ◌∷◌, ◌++◌, true, sym, subst, append-nil}
use Rattle.std.specs.Prelude.{All}
use Rattle.std.specs.List.{AllByRecursion, list_any}
use Rattle.std.proofs.lemmas.List.Elements.{All-from_recursion}
use Rattle.std.proofs.lemmas.List.Folds.{Any-from_list_any}
use Rattle.std.proofs.lemmas.List.Sums.{fold-append}
use mathlib.Core.List.{Sublist, nil-sublist}
use mathlib.Core.List.Sublist as sublist
use Rattle.arch_types.specs.declared.row.Row.{Row}
use Rattle.arch_types.specs.History.{firsts, is_duplicate_of, with_row}
use Rattle.arch_types.proofs.Histories.{only_adds}
use Rattle.history_items.specs.declared.items.Item.{Item}
use Rattle.history_items.specs.Items.{has_key_of, rows_in}
use Rattle.history_items.proofs.ItemLists.{any_row_with}
use Rattle.load_session.specs.Receiving.{Receiving, rows_received}
use Rattle.load_session.proofs.Arrived.{rows-append}
use Rattle.shared_history.specs.Sent.{AreKept, AreSomeOf}
use Rattle.command_laws.specs.Links.{HasKeyIn}

-- ---- what was put

-- some of a list are a sublist of it
some_sublist : (some rows : List Row) → AreSomeOf some rows → Sublist some rows
some_sublist some [] none = subst (λ (l : List Row). Sublist l []) (sym none) (sublist.refl [])
some_sublist some (row ∷ rows) (inl later) = sublist.append (nil-sublist (row ∷ [])) (some_sublist some rows later)
some_sublist some (row ∷ rows) (inr (rest, is, later)) =
    subst (λ (l : List Row). Sublist l (row ∷ rows)) (sym is) (sublist.append (sublist.refl (row ∷ [])) (some_sublist rest rows later))

wider : (some all more : List Row) → Sublist some all → Sublist some (all ++ more)
wider some all more sub = subst (λ (l : List Row). Sublist l (all ++ more)) (append-nil some) (sublist.append sub (nil-sublist more))

-- the first of each table and key of some rows are among those of these and more
among_more : (some rows more : List Row) → Sublist some (firsts rows) → Sublist some (firsts (rows ++ more))
among_more some rows more sub =
    let added = only_adds (firsts rows) more in
    subst (λ (l : List Row). Sublist some l) (sym (fold-append with_row [] rows more ∙ added.1)) (wider some (firsts rows) added.0 sub)

-- what was put of some packets is among the first arrivals of these packets and more
pub put_among : (r : Receiving) (put : List Row) (packets more : List (List ℕ)) → AreSomeOf put (firsts (rows_received r packets)) → Sublist put (firsts (rows_received r (packets ++ more)))
put_among r put packets more some =
    subst (λ (l : List Row). Sublist put (firsts l)) (sym (rows-append r packets more))
    (among_more put (rows_received r packets) (rows_received r more) (some_sublist put (firsts (rows_received r packets)) some))

-- ---- what arrived

key_there : (history : List Item) (row : Row) → list_any (has_key_of row) history ≡ true → HasKeyIn history row
key_there history row there = Any-from_list_any (is_duplicate_of row) (rows_in history) (sym (any_row_with (is_duplicate_of row) history) ∙ there)

each_there : (history : List Item) (rows : List Row) → AreKept history rows → AllByRecursion (HasKeyIn history) rows
each_there history [] kept = tt
each_there history (row ∷ rows) kept = (key_there history row kept.0, each_there history rows kept.1)

-- the table and key of each row that arrived are in the history
pub arrivals_there : (history : List Item) (rows : List Row) → AreKept history rows → All (HasKeyIn history) rows
arrivals_there history rows kept = All-from_recursion (HasKeyIn history) rows (each_there history rows kept)
