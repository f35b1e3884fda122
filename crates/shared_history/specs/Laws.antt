-- What holds of a history that several callers add to.
use Rattle.std.specs.Prelude.{◌≡◌, ◌==◌, ℕ, ◌≤◌, List, ◌++◌, length, drop, filter, slice_get, Contains, Some}
use Rattle.std.specs.List.{AllByRecursion}
use mathlib.Core.List.{IsPrefix}
use Rattle.arch_types.specs.declared.row.Row.{Row}
use Rattle.arch_types.specs.History.{IsHistory}
use Rattle.history_items.specs.declared.items.Item.{Item}
use Rattle.history_items.specs.Items.{after_rows, items_of, row_item, rows_in}
use Rattle.history_items.specs.Outcomes.{fresh_of}
use Rattle.shared_history.specs.Sent.{HasSent}
use Rattle.shared_history.specs.Turns.{ArePlaced, HasPut, LinksDiffer, LinkWork, with_more}

-- a turn of a link that finds a history which goes on from the one seen, and puts rows behind it, or none, leaves these
-- behind what the link had put
abbrev pub TurnPutsMore : Type 0
TurnPutsMore = (low : ℕ) (seen found : List Item) (work : LinkWork) (rows : List Row) →
    low ≤ length seen → IsPrefix seen found → HasPut low seen work →
    AllByRecursion (λ row. row.link ≡ work.link) rows → HasPut low (found ++ items_of rows) (with_more work found rows)

-- what was put stays as the history goes on
abbrev pub PutStays : Type 0
PutStays = (low : ℕ) (seen later : List Item) (work : LinkWork) → IsPrefix seen later →
    HasPut low seen work → HasPut low later work

-- a batch that is ingested into a history that goes on from the one seen is sent
abbrev pub BatchIsSent : Type 0
BatchIsSent = (arrived put batch : List Row) (seen found : List Item) → IsPrefix seen found → HasSent arrived seen put →
    HasSent (arrived ++ batch) (after_rows found batch) (put ++ fresh_of found batch)

-- what was sent stays so as the history goes on
abbrev pub SentStays : Type 0
SentStays = (arrived put : List Row) (seen later : List Item) → IsPrefix seen later →
    HasSent arrived seen put → HasSent arrived later put

-- where each place from a first one on is a link's, each item there is a row that a link put
abbrev pub EachRowIsOfALink : Type 0
EachRowIsOfALink = (low : ℕ) (history : List Item) (works : List LinkWork) →
    AllByRecursion (HasPut low history) works → ArePlaced low history works →
    (place : ℕ) (item : Item) → low ≤ place → slice_get history place ≡ Some item →
    (work : LinkWork) × Contains works work × ((row : Row) × (item ≡ row_item row) × (row.link ≡ work.link))

-- and the rows there of a link's number are what it put, in its order
abbrev pub RowsOfALink : Type 0
RowsOfALink = (low : ℕ) (history : List Item) (works : List LinkWork) →
    AllByRecursion (HasPut low history) works → ArePlaced low history works → LinksDiffer works →
    (work : LinkWork) → Contains works work →
    filter (λ row. row.link == work.link) (rows_in (drop low history)) ≡ work.rows

-- where all that stands behind the old history was put by one link, the whole is the old one followed by its arrivals
abbrev pub OneLinkIngests : Type 0
OneLinkIngests = (before after : List Item) (arrived put : List Row) → IsHistory (rows_in after) →
    after ≡ before ++ items_of put → HasSent arrived after put → after ≡ after_rows before arrived
