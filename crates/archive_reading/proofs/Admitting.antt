-- What may follow an archive, and what breaks a rule.
use Rattle.std.proofs.Common.{◌≡◌, ℕ, List, ◌++◌, Option, sym, ◌∙◌, subst, arith}
use Rattle.std.specs.List.{AllByRecursion}
use Rattle.archive_history.specs.declared.row_limit.RowLimit.{RowLimit}
use Rattle.archive_history.specs.declared.row_limit.RowLimit.TheVariants as limits
use Rattle.arch_types.specs.declared.row.Row.{Row}
use Rattle.octet_fields.specs.Exact.{IsOctets}
use Rattle.history_items.specs.declared.items.Item.{Item}
use Rattle.history_items.specs.Items.{after_rows, items_of, rows_in}
use Rattle.field_codec.specs.declared.entry.Entry.{Entry}
use Rattle.field_codec.specs.declared.entry.Entry.TheVariants as entries
use Rattle.field_codec.specs.Entries.{IsArchiveEntry}
use Rattle.field_codec.specs.Spelling.{entry_octets}
use Rattle.field_codec.proofs.EntryKinds.{one_spelling}
use Rattle.archive_images.specs.declared.head.Head.{Head}
use Rattle.archive_images.specs.Entries.{FilledArchive, archive, Applies, IsPlaced, AreAdmitted}
use Rattle.archive_history.specs.Limits.{IsWithin, PassesFirst}
use Rattle.archive_images.specs.Stands.{Breaks}
use Rattle.archive_images.proofs.Exact.{takes_entry}

-- rows that pass a limit are not within all of them
pub passed_not_within : (exponent : ℕ) (limit : RowLimit) (rows : List Row) → PassesFirst exponent limit rows → IsWithin exponent rows → ⊥
passed_not_within exponent limits.Rows rows p w = omega (arith, p, w.few)
passed_not_within exponent limits.HistoryOctets rows p w = omega (arith, p.1, w.octets)
passed_not_within exponent limits.IntervalRows rows p w = omega (arith, p.3, w.intervals p.2)

pub all_admitted : (head : Head) (exponent : ℕ) (items : List Item) (rows : List Row) → IsArchiveEntry (entries.Rows rows) → AllByRecursion (IsPlaced head items) rows → AllByRecursion (λ row. IsOctets row.packet) rows → IsWithin exponent (rows_in items ++ rows) → after_rows items rows ≡ items ++ items_of rows → AreAdmitted (archive head exponent items) rows
all_admitted head exponent items rows spelled placed octets within fresh = record { spelled = spelled; placed = placed; octets = octets; fresh = fresh; within = within }

-- an entry that may not follow, and no entry at all
pub breaks_entry : (old : Option FilledArchive) (e : Entry) (body : List ℕ) → IsArchiveEntry e → body ≡ entry_octets e → ((after : FilledArchive) → Applies old e after → ⊥) → Breaks old body
breaks_entry old e body fits spells bad entry after is takes =
    bad after (subst (λ (x : Entry). Applies old x after) (one_spelling entry e (takes_entry old entry after takes) fits (sym is ∙ spells)) takes)

pub breaks_none : (old : Option FilledArchive) (body : List ℕ) → ((e : Entry) → IsArchiveEntry e → body ≡ entry_octets e → ⊥) → Breaks old body
breaks_none old body none entry after is takes = none entry (takes_entry old entry after takes) is
