-- The rows that a store gives, as entries bring them, and rows among them.
use Rattle.std.proofs.Common.{ℕ, Bool, true, false, cond, List, [], ◌∷◌, ◌++◌, Option, None, Some, sym, subst}
use Rattle.std.specs.Prelude.{Contains, filter}
use Rattle.std.specs.List.{AllByRecursion}
use Rattle.std.proofs.lemmas.List.Elements.{All-from_recursion}
use Rattle.arch_types.specs.declared.row.Row.{Row}
use Rattle.octet_fields.specs.Exact.{IsOctets}
use Rattle.history_items.specs.declared.items.Item.{Item}
use Rattle.history_items.specs.Items.{items_of, rows_in}
use Rattle.history_items.proofs.ItemLists.{rows_behind}
use Rattle.row_codec.specs.Rows.{IsStored}
use Rattle.field_codec.specs.declared.entry.Entry.{Entry}
use Rattle.field_codec.specs.declared.entry.Entry.TheVariants as entries
use Rattle.archive_images.specs.declared.head.Head.{Head}
use Rattle.archive_images.specs.Entries.{FilledArchive, archive, Applies, AreAdmitted, HasArchivedRows, IsArchivedRow, IsPlaced}
use Rattle.archive_images.proofs.RowsAlone.{named_more}

module _ {X : Type 0} (P : X → Type 0) where
  pub all_more : (xs ys : List X) → AllByRecursion P xs → AllByRecursion P ys → AllByRecursion P (xs ++ ys)
  all_more [] ys all more = more
  all_more (x ∷ xs) ys all more = (all.0, all_more xs ys all.1 more)

  pub all_filtered : (test : X → Bool) (xs : List X) → AllByRecursion P xs → AllByRecursion P (filter test xs)
  all_filtered test [] all = tt
  all_filtered test (x ∷ xs) all = either (test x) (all_filtered test xs all.1)
    where
      either : (b : Bool) → AllByRecursion P (filter test xs) → AllByRecursion P (cond b (x ∷ filter test xs) (filter test xs))
      either true rest = (all.0, rest)
      either false rest = rest

each_archived : (head : Head) (history : List Item) (rows : List Row) → AllByRecursion IsStored rows → AllByRecursion (IsPlaced head history) rows → AllByRecursion (λ row. IsOctets row.packet) rows → AllByRecursion (IsArchivedRow head history) rows
each_archived head history [] stored placed octets = tt
each_archived head history (row ∷ rows) stored placed octets = (record { stored = stored.0; placed = placed.0; octets = octets.0 }, each_archived head history rows stored.1 placed.1 octets.1)

-- such rows stay so as the history grows, since packet names keep their numbers
stays_archived : (head : Head) (history later : List Item) (rows : List Row) → AllByRecursion (IsArchivedRow head history) rows → AllByRecursion (IsArchivedRow head (history ++ later)) rows
stays_archived head history later [] all = tt
stays_archived head history later (row ∷ rows) all = (
  record {
    stored = all.0.stored;
    placed = record { table = all.0.placed.table; pname = named_more head.mdb history later row.pname all.0.placed.pname };
    octets = all.0.octets;
  },
  stays_archived head history later rows all.1,
)

-- rows among them are such rows
pub among_archived : (head : Head) (history : List Item) (all rows : List Row) → AllByRecursion (IsArchivedRow head history) all → AllByRecursion (Contains all) rows → AllByRecursion (IsArchivedRow head history) rows
among_archived head history all [] each its = tt
among_archived head history all (row ∷ rows) each its =
    let there = its.0 in
    (subst (IsArchivedRow head history) there.2 (All-from_recursion (IsArchivedRow head history) all each there.0 row there.1), among_archived head history all rows each its.1)

-- rows that are admitted are such rows
pub more_archived : (head : Head) (exponent : ℕ) (history : List Item) (rows : List Row) → AllByRecursion (IsArchivedRow head history) (rows_in history) → AreAdmitted (archive head exponent history) rows
    → AllByRecursion (IsArchivedRow head (history ++ items_of rows)) (rows_in (history ++ items_of rows))
more_archived head exponent history rows all ok =
    let whole : List Item = history ++ items_of rows in
    subst (AllByRecursion (IsArchivedRow head whole)) (sym (rows_behind history rows))
    (stays_archived head history (items_of rows) (rows_in history ++ rows) (all_more (IsArchivedRow head history) (rows_in history) rows all (each_archived head history rows ok.spelled.each ok.placed ok.octets)))

-- and so an entry leaves an archive of such rows
pub applied_archived : (old : Option FilledArchive) (entry : Entry) (new : FilledArchive) → HasArchivedRows old → Applies old entry new → HasArchivedRows (Some new)
applied_archived None (entries.Head tables mdb) new all applies = subst (λ (a : FilledArchive). HasArchivedRows (Some a)) (sym applies.1) tt
applied_archived None (entries.Rows rows) new all applies = absurd applies
applied_archived None (entries.Fill interval base octets) new all applies = absurd applies
applied_archived None (entries.Seal seal) new all applies = absurd applies
applied_archived None (entries.LogHead rows) new all applies = absurd applies
applied_archived (Some old) (entries.Seal seal) new all applies = absurd applies
applied_archived (Some old) (entries.LogHead rows) new all applies = absurd applies
applied_archived (Some old) (entries.Fill interval base octets) new all applies = subst (λ (a : FilledArchive). HasArchivedRows (Some a)) (sym applies.1) all
applied_archived (Some old) (entries.Head tables mdb) new all applies = absurd applies
applied_archived (Some old) (entries.Rows rows) new all applies = subst (λ (a : FilledArchive). HasArchivedRows (Some a)) (sym applies.1) (more_archived old.plain.head old.plain.exponent old.plain.history rows all applies.0)
