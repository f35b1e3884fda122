-- States of rows alone, as a core keeps them.
use Rattle.std.proofs.Common.{◌≡◌, ℕ, zero, suc, ◌+◌, List, [], ◌∷◌, ◌++◌, length, take, Option, Some, refl, sym, ◌∙◌, ap, subst}
use Rattle.std.specs.Prelude.{slice_get, option_map, if◌then◌else◌}
use Rattle.std.proofs.Math.Seq.{take-append_seam}
use mathlib.Core.List.{IsPrefix}
use Rattle.arch_types.specs.declared.row.Row.{Row}
use Rattle.arch_types.specs.History.{is_duplicate_of}
use Rattle.asks.specs.declared.ask.ReplayRequest.{ReplayRequest}
use Rattle.asks.specs.declared.ask.Request.{Request}
use Rattle.mdb_items.specs.Database.{Database}
use Rattle.mdb_items.specs.Texts.{Text}
use Rattle.history_items.specs.declared.items.Item.{Item}
use Rattle.history_items.specs.Items.{database_item, has_key_of, items_of, row_item, rows_in}
use Rattle.history_items.specs.Databases.{database_in, names_in, names_of_database}
use Rattle.history_items.specs.Places.{first_place}
use Rattle.history_items.proofs.Databases.{rows_keep_database, rows_keep_names}
use Rattle.history_items.proofs.ItemLists.{length-items_of, rows_in-append, rows_of_rows}
use Rattle.archive_core.specs.declared.reply.Reply.{Reply}
use Rattle.archive_core.specs.Replies.{RepliesToReplay, RepliesToRequest}

pub as_long : (rows : List Row) → length (items_of rows) ≡ length rows
as_long rows = length-items_of rows

-- ---- an item at a place

pub get_item : (rows : List Row) (place : ℕ) (row : Row) → slice_get rows place ≡ Some row → slice_get (items_of rows) place ≡ Some (row_item row)
get_item [] place row at = absurd cc
get_item (x ∷ rows) zero row at = let same : x ≡ row = cc in ap (λ (r : Row). Some (row_item r)) same
get_item (x ∷ rows) (suc place) row at = get_item rows place row at

pub get_row : (rows : List Row) (place : ℕ) (row : Row) → slice_get (items_of rows) place ≡ Some (row_item row) → slice_get rows place ≡ Some row
get_row [] place row at = absurd cc
get_row (x ∷ rows) zero row at = let same : x ≡ row = cc in ap (λ (r : Row). Some r) same
get_row (x ∷ rows) (suc place) row at = get_row rows place row at

pub no_database : (rows : List Row) (place : ℕ) (database : Database) → slice_get (items_of rows) place ≡ Some (database_item database) → ⊥
no_database [] place database at = absurd cc
no_database (x ∷ rows) zero database at = absurd cc
no_database (x ∷ rows) (suc place) database at = no_database rows place database at

pub take_items : (n : ℕ) (rows : List Row) → take n (items_of rows) ≡ items_of (take n rows)
take_items zero rows = refl
take_items (suc n) [] = refl
take_items (suc n) (row ∷ rows) = ap (λ (l : List Item). row_item row ∷ l) (take_items n rows)

pub first_item : (row : Row) (rows : List Row) → first_place (has_key_of row) (items_of rows) ≡ first_place (is_duplicate_of row) rows
first_item row [] = refl
first_item row (x ∷ rows) = ap (λ (o : Option ℕ). if is_duplicate_of row x then Some 0 else option_map (λ place. place + 1) o) (first_item row rows)

-- ---- rows that come back

-- rows that begin with others are these once they are cut
pub taken_back : (old new : List Row) → IsPrefix (items_of old) (items_of new) → take (length old) new ≡ old
taken_back old new begins =
    let is : new ≡ old ++ rows_in begins.0 =
    sym (rows_of_rows new) ∙ ap rows_in (sym begins.1) ∙ rows_in-append (items_of old) begins.0 ∙ ap (λ (l : List Row). l ++ rows_in begins.0) (rows_of_rows old) in
    ap (take (length old)) is ∙ take-append_seam old (rows_in begins.0)

-- ---- answers

same_database : (first : Database) (rows : List Row) → database_in first (items_of rows) ≡ first
same_database first rows = rows_keep_database first [] rows

-- what a database replies over rows is what a history of these rows alone replies
pub answered_by : (first : Database) (rows : List Row) (request : Request) (reply : Reply) → RepliesToRequest first (length rows) rows request reply
    → RepliesToRequest (database_in first (items_of rows)) (length (items_of rows)) (rows_in (items_of rows)) request reply
answered_by first rows request reply is =
    subst (λ (db : Database). RepliesToRequest db (length (items_of rows)) (rows_in (items_of rows)) request reply) (sym (same_database first rows))
    (subst (λ (n : ℕ). RepliesToRequest first n (rows_in (items_of rows)) request reply) (sym (as_long rows))
    (subst (λ (l : List Row). RepliesToRequest first (length rows) l request reply) (sym (rows_of_rows rows)) is))

pub replayed_by : (tables : List Text) (first : Database) (rows : List Row) (request : ReplayRequest) (reply : Reply) → RepliesToReplay tables (names_of_database first) (length rows) rows request reply
    → RepliesToReplay tables (names_in first (items_of rows)) (length (items_of rows)) (rows_in (items_of rows)) request reply
replayed_by tables first rows request reply is =
    let names = names_of_database first in
    subst (λ (n : List Text). RepliesToReplay tables n (length (items_of rows)) (rows_in (items_of rows)) request reply) (sym (rows_keep_names first [] rows))
    (subst (λ (n : ℕ). RepliesToReplay tables names n (rows_in (items_of rows)) request reply) (sym (as_long rows))
    (subst (λ (l : List Row). RepliesToReplay tables names (length rows) l request reply) (sym (rows_of_rows rows)) is))
