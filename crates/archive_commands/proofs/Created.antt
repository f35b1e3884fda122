-- How `create` ends.
use Rattle.std.proofs.Common.{◌≡◌, ◌⊎◌, ◌≤◌, inl, inr, ℕ, List, [], ◌∷◌, ◌++◌, Option, Some, None, refl, sym, ◌∙◌, ap, subst, append_assoc, ◌<◌, ◌+◌, ◌^◌, arith}
use Rattle.std.specs.Prelude.{option_map, Ok, Err}
use mathlib.Core.List.{IsPrefix}
use Rattle.arch_disk.specs.Image.{Image}
use Rattle.arch_disk.specs.Disk.{Device, IsUntouched as JournalLeft, LeavesOnly, raised}
use Rattle.arch_disk.proofs.Moments.{at_end}
use Rattle.refusals.specs.declared.refusal.Refusal.{Refusal}
use Rattle.refusals.specs.declared.refusal.Refusal.TheVariants.{OutOfMemory}
use Rattle.history_items.specs.declared.fills.Fill.{Fill}
use Rattle.history_items.specs.Fills.{unacknowledged_in}
use Rattle.history_items.specs.declared.items.Item.{Item}
use Rattle.disk_journal.specs.Format.{HoldsNone}
use Rattle.mdb_items.specs.declared.fault.MdbFault.{MdbFault}
use Rattle.mdb_items.specs.declared.fault.MdbFault.TheVariants as faulted
use Rattle.mdb_items.specs.declared.fault.MdbLimit.{MdbLimit}
use Rattle.mdb_items.specs.declared.sheet.RawMdb.{RawMdb}
use Rattle.mdb_items.specs.Checks.{or_else}
use Rattle.mdb_items.specs.Database.{Broken, Database, limit_passed}
use Rattle.mdb_model.specs.Sheets.{IsCheckResult, sheets_database}
use Rattle.intervals.specs.Interval.{format_1_exponent}
use Rattle.archive_store.specs.Head.{Head}
use Rattle.archive_store.specs.Calls.{IsCreateImage}
use Rattle.archive_store.specs.Entries.{archive}
use Rattle.archive_store.specs.StoreView.{StoreView, CrashInvariant, archive_of}
use Rattle.archive_store.proofs.PlainLog.{HoldsNoRows, kept_rows}
use Rattle.archive_store.specs.Stands.{IsSoundImage, StandsFor}
use Rattle.command_runs.specs.ReadOnly.{IsReadAsBefore}
use Rattle.archive_commands.specs.Create.{IsHeadAnswer, IsTablesAnswer}
use Rattle.command_runs.specs.Creation.{IsMade}
use Rattle.retrieval.specs.Parameter.{broken_rule, passed_limit, refusal_of_sheets, sheets_refusal}
use Rattle.command_runs.specs.Durable.{FailedAtMostOnce}
use Rattle.script_answers.specs.Scripts.{OrNoMemory}

-- ---- the sheets

abbrev by_broken : RawMdb → Option Broken → Option Refusal
by_broken raw broken = or_else (option_map broken_rule broken) (option_map passed_limit (limit_passed (sheets_database raw)))

abbrev by_passed : Option (MdbLimit × ℕ) → Option Refusal
by_passed passed = or_else (option_map broken_rule None) (option_map passed_limit passed)

-- the sheets break no rule and pass no limit
pub sheets_good : (raw : RawMdb) (db : Database) → IsCheckResult raw (Ok db) → (sheets_refusal raw ≡ None) × (db ≡ sheets_database raw)
unfolding sheets_refusal
sheets_good raw db h = (ap (by_broken raw) h.0 ∙ ap by_passed h.1, h.2)

-- the first rule that they break, or else the first limit that they pass
pub sheets_bad : (raw : RawMdb) (fault : MdbFault) → IsCheckResult raw (Err fault) → (sheets_refusal raw ≡ Some (refusal_of_sheets fault)) ⊎ (refusal_of_sheets fault ≡ OutOfMemory)
unfolding sheets_refusal
sheets_bad raw (faulted.Bad sheet row rule) h = inl (ap (by_broken raw) h)
sheets_bad raw (faulted.Limit which number) h = inl (ap (by_broken raw) h.0 ∙ ap by_passed h.1)
sheets_bad raw faulted.OutOfMemory h = inr refl

-- ---- the head

-- the sheets are refused,
pub sheets_refused : (raw : RawMdb) (text : List ℕ) (fault : MdbFault) → IsCheckResult raw (Err fault) → OrNoMemory (IsHeadAnswer raw text) (Err (refusal_of_sheets fault))
sheets_refused raw text fault h = elim (sheets_bad raw fault h) [ inl is ↦ inr (inl is) | inr memory ↦ inl memory ]

-- or the script is,
pub tables_refused : (raw : RawMdb) (text : List ℕ) (db : Database) → IsCheckResult raw (Ok db) → (refusal : Refusal) → OrNoMemory (IsTablesAnswer text) (Err refusal) →
    OrNoMemory (IsHeadAnswer raw text) (Err refusal)
tables_refused raw text db h refusal (inl memory) = inl memory
tables_refused raw text db h refusal (inr is) = inr (inr ((sheets_good raw db h).0, is))

-- or they give a head
pub head_given : (raw : RawMdb) (text : List ℕ) (db : Database) → IsCheckResult raw (Ok db) → (tables : List (List ℕ)) → IsTablesAnswer text (Ok tables) →
    IsHeadAnswer raw text (Ok (record { tables = tables; mdb = db }))
head_given raw text db h tables is = let good = sheets_good raw db h in (good.0, is, good.1)

-- the four pieces of its line, put one behind the other
pub four_put : (first second third last a b c d e f g : List ℕ) → first ≡ a ++ b → second ≡ first ++ c ++ d → third ≡ second ++ e ++ f → last ≡ third ++ g →
    last ≡ a ++ b ++ c ++ d ++ e ++ f ++ g
four_put first second third last a b c d e f g one two three four = rw (four, three, two, one) (simp append_assoc refl)

-- ---- the endings

-- one that failed once has fewer than two faults more
pub fewer_than_two : {D : Type 0} (device : Device D) (old new : D) → FailedAtMostOnce device old new → device.fault_count new < raised (raised (device.fault_count old))
fewer_than_two device old new one = few (device.fault_count old) (device.fault_count new) one.most one.below
  where
    few : (before now : ℕ) → now ≤ before + 1 → now + 1 < 2 ^ 64 → now < raised (raised before)
    few before now most below = omega (arith, most, below)

-- ---- the store

pub left_alone : {D : Type 0} (device : Device D) (old new : D) → JournalLeft device old new → IsReadAsBefore device old new
left_alone device old new h = record { reads = h.reads_same; images = h.moments }

pub no_front : {A : Type 0} (xs t : List A) → xs ++ t ≡ [] → xs ≡ []
no_front [] t e = refl
no_front (x ∷ xs) t e = absurd (cc (e))

-- a store that was made
pub made_store : {D : Type 0} (device : Device D) (disk : D) (s : StoreView D) (head : Head) → HoldsNone (device.reads disk 0) → s.history ≡ [] → s.fills ≡ [] → s.head ≡ head → s.exponent ≡ format_1_exponent →
    s.opened ≡ s.disk → IsSoundImage (device.reads s.opened) → LeavesOnly device disk s.disk (IsCreateImage (device.images disk) head) → CrashInvariant device s → IsMade device disk s.disk head
made_store {D = D} device disk s head none history fills is format opened sound images keeps =
    let begins : IsPrefix keeps.before [] = subst (λ (h : List Item). IsPrefix keeps.before h) history keeps.begins in
    let before : keeps.before ≡ [] = no_front keeps.before begins.0 begins.1 in
    let first : StandsFor (device.reads s.opened) (archive s.head s.exponent []) = subst (λ (h : List Item). StandsFor (device.reads s.opened) (archive s.head s.exponent h)) before keeps.opening in
    let second : StandsFor (device.reads s.disk) (archive s.head s.exponent []) = subst (λ (d : D). StandsFor (device.reads d) (archive s.head s.exponent [])) opened first in
    let no_failed_write : (c : Image) → device.images s.disk c → StandsFor c (archive_of s) = kept_rows device s keeps (subst (λ (l : List Fill). HoldsNoRows (unacknowledged_in l)) (sym fills) tt) in
    let empty : (c : Image) → device.images s.disk c → StandsFor c (archive s.head s.exponent []) =
    subst (λ (h : List Item). (c : Image) → device.images s.disk c → StandsFor c (archive s.head s.exponent h)) history no_failed_write in
    let now : (c : Image) → device.images s.disk c → StandsFor c (archive head format_1_exponent []) =
    subst (λ (e : ℕ). (c : Image) → device.images s.disk c → StandsFor c (archive head e [])) format
    (subst (λ (h : Head). (c : Image) → device.images s.disk c → StandsFor c (archive h s.exponent [])) is empty) in record {
      none = none;
      stands = subst (λ (e : ℕ). StandsFor (device.reads s.disk) (archive head e [])) format
          (subst (λ (h : Head). StandsFor (device.reads s.disk) (archive h s.exponent [])) is second);
      now = now;
      sound = at_end device s.opened s.disk IsSoundImage (keeps.sound sound);
      images = images;
    }
