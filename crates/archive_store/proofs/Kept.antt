-- What a store keeps over a call.
use Rattle.std.proofs.Common.{◌≡◌, ◌⊎◌, inl, ℕ, ◌≤◌, ◌^◌, true, false, List, [], ◌∷◌, ◌++◌, Option, Some, None, refl, sym, ◌∙◌, ap, subst, arith}
use Rattle.std.specs.Prelude.{IsTrue, Contains, min, ◌-◌}
use Rattle.std.specs.Option.{option_or}
use Rattle.std.proofs.lemmas.List.Elements.{Contains-append_left, Contains-append_right}
use mathlib.Core.List.{IsPrefix}
use Rattle.arch_disk.specs.Disk.{Device, IsOldBut, LeavesOnly, raised}
use Rattle.arch_types.specs.declared.row.Row.{Row}
use Rattle.history_items.specs.declared.fills.Addition.{Addition}
use Rattle.history_items.specs.declared.fills.Addition.TheVariants as additions
use Rattle.history_items.specs.declared.fills.Fill.{Fill}
use Rattle.history_items.specs.declared.fills.Fill.TheVariants.{Begun, Done, Freed, Fault, Closed}
use Rattle.history_items.specs.declared.items.Item.{Item}
use Rattle.history_items.specs.Items.{items_of}
use Rattle.history_items.specs.Fills.{rows_of_faults, pending_fault_of, unacknowledged_in, above}
use Rattle.history_items.proofs.FillLists.{rows_of_faults-append, pending_fault_of-append, Rising-later, Rising-append}
use Rattle.disk_journal.specs.Format.{IsBeforeOrAfter}
use Rattle.disk_journal.specs.State.{HasOnDisk as JournalHasOnDisk}
use Rattle.disk_journal.specs.State.{unhealed_fault, file_of, faults_of, IsSame}
use Rattle.disk_journal.specs.declared.journal.Journal.{Journal}
use Rattle.field_codec.specs.declared.entry.Entry.TheVariants as entries
use Rattle.field_codec.specs.Spelling.{entry_octets}
use Rattle.archive_images.specs.declared.head.Head.{Head}
use Rattle.param_segments.specs.Rows.{SetRow}
use Rattle.store_fills.specs.LastFills.{PlacedFills, fillings_in}
use Rattle.store_fills.specs.Sound.{Fillings}
use Rattle.archive_images.specs.Entries.{FilledArchive, IsSoundArchive, archive, filled_archive, AreAdmitted, Applies}
use Rattle.archive_images.specs.Images.{IsPlainLog}
use Rattle.archive_store.specs.Inside.{StoreInvariant}
use Rattle.archive_store.specs.PlainLog.{IsSinceArchive}
use Rattle.archive_images.specs.Unacknowledged.{IsUnacknowledged}
use Rattle.archive_images.proofs.Archived.{more_archived}
use Rattle.archive_images.proofs.OneJournal as one
use Rattle.archive_images.proofs.PendingFaults.{prefix_self, prefix_more}
use Rattle.archive_images.proofs.RowsAlone.{more_alone}
use Rattle.archive_images.proofs.PlainImages.{StandsPlain, plain_lower}
use Rattle.archive_store.proofs.PlainLog.{found_whole, found_with, found_on, rows_sound}

-- one fault more
abbrev pub fault : ℕ → List Row → Fill
fault count rows = Fault count true (additions.Rows rows)

pub rows_of_faults-fault : (fills : List Fill) (count : ℕ) (rows : List Row) → rows_of_faults (fills ++ fault count rows ∷ []) ≡ rows_of_faults fills ++ items_of rows ∷ []
rows_of_faults-fault fills count rows = rows_of_faults-append fills (fault count rows ∷ [])

pub pending_fault_of-fault : (fills : List Fill) (count : ℕ) (rows : List Row) → pending_fault_of fills ≡ None → pending_fault_of (fills ++ fault count rows ∷ []) ≡ Some count
pending_fault_of-fault fills count rows none = pending_fault_of-append fills (fault count rows ∷ []) ∙ ap (λ (o : Option ℕ). option_or o (Some count)) none

pub rows_of_faults_last : (fills : List Fill) (count : ℕ) (rows : List Row) → Contains (rows_of_faults (fills ++ fault count rows ∷ [])) (items_of rows)
rows_of_faults_last fills count rows = subst (λ (l : List (List Item)). Contains l (items_of rows)) (sym (rows_of_faults-fault fills count rows)) (Contains-append_right (rows_of_faults fills) (items_of rows ∷ []) (items_of rows) (0, omega arith, refl))

-- the unacknowledged rows, where no fault was pending before
pub hand-append : (fills more : List Fill) → pending_fault_of fills ≡ None → unacknowledged_in (fills ++ more) ≡ unacknowledged_in more
hand-append [] more healed = refl
hand-append (Begun i b ∷ fills) more healed = hand-append fills more healed
hand-append (Done i b ∷ fills) more healed = hand-append fills more healed
hand-append (Freed i ∷ fills) more healed = hand-append fills more healed
hand-append (Closed ∷ fills) more healed = hand-append fills more healed
hand-append (Fault count true unacknowledged ∷ fills) more healed = absurd cc
hand-append (Fault count false unacknowledged ∷ fills) more healed = hand-append fills more healed

pub none_unacknowledged : (fills : List Fill) → pending_fault_of fills ≡ None → unacknowledged_in fills ≡ None
none_unacknowledged [] healed = refl
none_unacknowledged (Begun i b ∷ fills) healed = none_unacknowledged fills healed
none_unacknowledged (Done i b ∷ fills) healed = none_unacknowledged fills healed
none_unacknowledged (Freed i ∷ fills) healed = none_unacknowledged fills healed
none_unacknowledged (Closed ∷ fills) healed = none_unacknowledged fills healed
none_unacknowledged (Fault count true unacknowledged ∷ fills) healed = absurd cc
none_unacknowledged (Fault count false unacknowledged ∷ fills) healed = none_unacknowledged fills healed

pub hand-fault : (fills : List Fill) (count : ℕ) (rows : List Row) → pending_fault_of fills ≡ None → unacknowledged_in (fills ++ fault count rows ∷ []) ≡ Some (additions.Rows rows)
hand-fault fills count rows healed = hand-append fills (fault count rows ∷ []) healed

pub unacknowledged_in_faults : (fills : List Fill) (rows : List Row) → unacknowledged_in fills ≡ Some (additions.Rows rows) → Contains (rows_of_faults fills) (items_of rows)
unacknowledged_in_faults [] rows is = absurd cc
unacknowledged_in_faults (Begun i b ∷ fills) rows is = unacknowledged_in_faults fills rows is
unacknowledged_in_faults (Done i b ∷ fills) rows is = unacknowledged_in_faults fills rows is
unacknowledged_in_faults (Freed i ∷ fills) rows is = unacknowledged_in_faults fills rows is
unacknowledged_in_faults (Closed ∷ fills) rows is = unacknowledged_in_faults fills rows is
unacknowledged_in_faults (Fault count true additions.Nothing ∷ fills) rows is = absurd cc
unacknowledged_in_faults (Fault count true (additions.Rows held) ∷ fills) rows is = let same : held ≡ rows = cc (is) in (0, omega arith, ap items_of same)
unacknowledged_in_faults (Fault count true (additions.Fill interval base) ∷ fills) rows is = absurd cc
unacknowledged_in_faults (Fault count false additions.Nothing ∷ fills) rows is = unacknowledged_in_faults fills rows is
unacknowledged_in_faults (Fault count false (additions.Rows held) ∷ fills) rows is = Contains-append_right (items_of held ∷ []) (rows_of_faults fills) (items_of rows) (unacknowledged_in_faults fills rows is)
unacknowledged_in_faults (Fault count false (additions.Fill interval base) ∷ fills) rows is = unacknowledged_in_faults fills rows is

-- where no failed write is pending the journal wants no heal
pub healthy : (unhealed pending : Option ℕ) → ((faults : ℕ) → unhealed ≡ Some faults → pending ≡ Some faults) → pending ≡ None → unhealed ≡ None
healthy None pending journal_fault none = refl
healthy (Some faults) pending journal_fault none = let both = journal_fault faults refl in absurd (cc (both, none))

module _ {D : Type 0} (device : Device D) where
  -- all of it is the same but for room
  pub kept_same : (disk opened : D) (journal next : Journal) (head : Head) (exponent : ℕ) (history : List Item) (fills : List Fill) (filled : PlacedFills) (pending_fault : Option ℕ)
      → StoreInvariant device disk opened journal head exponent history fills filled pending_fault → IsSame journal next
      → StoreInvariant device disk opened next head exponent history fills filled pending_fault
  kept_same disk opened journal next head exponent history fills filled pending_fault k same = record {
    faults = record { rising = k.faults.rising; later = k.faults.later; writes_later = k.faults.writes_later; wrote = k.faults.wrote };
    before = k.before;
    fillings = k.fillings;
    begins = k.begins;
    opening = k.opening;
    sound = k.sound;
    archives = one.kept_same entry_octets Applies IsPlainLog plain_lower device disk opened journal next (filled_archive head exponent history (fillings_in filled)) _ _ k.archives same;
    pending_fault_is = k.pending_fault_is;
    journal_fault = λ faults is. k.journal_fault faults (sym (ap faults_of same.pending_fault) ∙ is);
    head_is = k.head_is;
    rows = k.rows;
    alone = k.alone;
  }

  -- the images of an append, as what they stand for
  abbrev pub LeavesRows : D → D → Head → ℕ → List Item → Fillings (List SetRow) → List Row → Type 0
  LeavesRows disk new head exponent history fillings rows = LeavesOnly device disk new (λ c. StandsPlain c (filled_archive head exponent history fillings) ⊎ StandsPlain c (filled_archive head exponent (history ++ items_of rows) fillings))

  -- rows were appended
  pub kept_ok : (disk new opened : D) (journal next : Journal) (head : Head) (exponent : ℕ) (history : List Item) (rows : List Row) (fills : List Fill) (filled : PlacedFills) (pending_fault : Option ℕ)
      → StoreInvariant device disk opened journal head exponent history fills filled pending_fault
      → AreAdmitted (archive head exponent history) rows
      → pending_fault_of fills ≡ None
      → file_of next ≡ file_of journal
      → unhealed_fault next ≡ None
      → (IsTrue device.is_transparent → (bodies : List (List ℕ)) (pending : List ℕ) → JournalHasOnDisk device journal bodies pending disk → JournalHasOnDisk device next (bodies ++ entry_octets (entries.Rows rows) ∷ []) pending new)
      → (IsTrue device.is_transparent → LeavesRows disk new head exponent history (fillings_in filled) rows)
      → LeavesOnly device disk new (IsOldBut device (file_of journal) disk)
      → device.fault_count disk ≤ device.fault_count new
      → device.failed_writes new ≡ device.failed_writes disk
      → StoreInvariant device new opened next head exponent (history ++ items_of rows) fills filled pending_fault
  kept_ok disk new opened journal next head exponent history rows fills filled pending_fault k ok healed file no_pending_fault keeps moments elsewhere later writes =
      let whole : List Item = history ++ items_of rows in
      let fillings : Fillings (List SetRow) = fillings_in filled in
      let before : FilledArchive = filled_archive head exponent k.before k.fillings in
      let in_faults : List (List Item) = rows_of_faults fills in
      let begins : IsPrefix k.before whole = prefix_more k.before history (items_of rows) k.begins in
      let sound : IsTrue device.is_transparent → IsSoundArchive before → IsSoundArchive (filled_archive head exponent whole fillings) = λ transparent was. rows_sound head exponent history fillings rows (k.sound transparent was) in record {
        faults = record {
          rising = Rising-later fills (above (device.fault_count opened)) (device.fault_count disk) (device.fault_count new) later k.faults.rising;
          later = omega (arith, k.faults.later, later);
          writes_later = omega (arith, k.faults.writes_later, writes);
          wrote = λ faults is. omega (arith, k.faults.wrote faults is, writes);
        };
        before = k.before;
        fillings = k.fillings;
        begins = begins;
        opening = k.opening;
        sound = sound;
        archives = one.kept_ok entry_octets Applies IsPlainLog plain_lower device disk new opened journal next (filled_archive head exponent history fillings) (filled_archive head exponent whole fillings) (entries.Rows rows)
            (IsUnacknowledged (filled_archive head exponent history fillings) (unacknowledged_in fills)) (IsUnacknowledged (filled_archive head exponent whole fillings) (unacknowledged_in fills))
            (IsSinceArchive before (archive head exponent history) in_faults) (IsSinceArchive before (archive head exponent whole) in_faults) k.archives (λ transparent. (ok, refl)) file
            no_pending_fault keeps moments elsewhere
            (found_on before (archive head exponent history) (archive head exponent whole) in_faults in_faults refl refl (λ xs p. prefix_more xs history (items_of rows) p) (λ more there. there))
            (λ transparent. record { kept = history; holds = k.begins; begins = prefix_more history history (items_of rows) (prefix_self history); found_is = inl refl; sound = k.sound transparent })
            (λ transparent. found_whole before head exponent whole fillings in_faults begins (sound transparent));
        pending_fault_is = k.pending_fault_is;
        journal_fault = λ faults is. absurd (cc (is, no_pending_fault));
        head_is = k.head_is;
        rows = more_archived head exponent history rows k.rows ok;
        alone = more_alone history rows k.alone;
      }

  -- an append failed
  pub kept_err : (disk new opened : D) (journal next : Journal) (head : Head) (exponent : ℕ) (history : List Item) (rows : List Row) (fills : List Fill) (filled : PlacedFills) (pending_fault : Option ℕ) (count : ℕ)
      → StoreInvariant device disk opened journal head exponent history fills filled pending_fault
      → AreAdmitted (archive head exponent history) rows
      → pending_fault_of fills ≡ None
      → file_of next ≡ file_of journal
      → unhealed_fault next ≡ Some (min (device.fault_count new) (2 ^ 64 - 1))
      → count ≡ min (device.fault_count new) (2 ^ 64 - 1)
      → (IsTrue device.is_transparent → (bodies : List (List ℕ)) (pending : List ℕ) → JournalHasOnDisk device journal bodies pending disk → JournalHasOnDisk device next bodies (entry_octets (entries.Rows rows)) new)
      → (IsTrue device.is_transparent → LeavesRows disk new head exponent history (fillings_in filled) rows)
      → LeavesOnly device disk new (IsOldBut device (file_of journal) disk)
      → raised (device.fault_count disk) ≤ device.fault_count new
      → device.failed_writes new ≡ raised (device.failed_writes disk)
      → StoreInvariant device new opened next head exponent history (fills ++ fault count rows ∷ []) filled (Some count)
  kept_err disk new opened journal next head exponent history rows fills filled pending_fault count k ok healed file unhealed_fault_is count_is keeps moments elsewhere rose writes =
      let more : List Fill = fills ++ fault count rows ∷ [] in
      let fillings : Fillings (List SetRow) = fillings_in filled in
      let before : FilledArchive = filled_archive head exponent k.before k.fillings in record {
        faults = record {
          rising = Rising-append (above (device.fault_count opened)) (device.fault_count disk) (device.fault_count new) fills (fault count rows ∷ []) (omega (arith, k.faults.later)) (omega (arith, rose)) k.faults.rising
              (omega (arith, rose, count_is), omega (arith, count_is), tt);
          later = omega (arith, k.faults.later, rose);
          writes_later = omega (arith, k.faults.writes_later, writes);
          wrote = λ faults is. omega (arith, k.faults.writes_later, writes);
        };
        before = k.before;
        fillings = k.fillings;
        begins = k.begins;
        opening = k.opening;
        sound = k.sound;
        archives = one.kept_err entry_octets Applies IsPlainLog plain_lower device disk new opened journal next (filled_archive head exponent history fillings) (filled_archive head exponent (history ++ items_of rows) fillings) (entries.Rows rows)
            (IsUnacknowledged (filled_archive head exponent history fillings) (unacknowledged_in fills)) (IsUnacknowledged (filled_archive head exponent history fillings) (unacknowledged_in more))
            (IsSinceArchive before (archive head exponent history) (rows_of_faults fills)) (IsSinceArchive before (archive head exponent history) (rows_of_faults more))
            (min (device.fault_count new) (2 ^ 64 - 1)) k.archives (λ transparent. (ok, refl)) file (healthy (unhealed_fault journal) (pending_fault_of fills) k.journal_fault healed) unhealed_fault_is keeps
            moments elsewhere
            (found_on before (archive head exponent history) (archive head exponent history) (rows_of_faults fills) (rows_of_faults more) refl refl (λ xs p. p) (λ r there. subst (λ (l : List (List Item)). Contains l r) (sym (rows_of_faults-fault fills count rows)) (Contains-append_left (rows_of_faults fills) (items_of rows ∷ []) r there)))
            (λ transparent. found_whole before head exponent history fillings (rows_of_faults more) k.begins (k.sound transparent))
            (λ transparent. found_with before head exponent history fillings (rows_of_faults more) k.begins (k.sound transparent) rows (rows_of_faults_last fills count rows))
            (λ transparent. subst (λ (o : Option Addition). IsUnacknowledged (filled_archive head exponent history fillings) o (filled_archive head exponent (history ++ items_of rows) fillings)) (sym (hand-fault fills count rows healed)) refl);
        pending_fault_is = sym pending_fault_now;
        journal_fault = λ faults is. pending_fault_now ∙ ap Some count_is ∙ sym unhealed_fault_is ∙ is;
        head_is = k.head_is;
        rows = k.rows;
        alone = k.alone;
      }
    where
      pending_fault_now : pending_fault_of (fills ++ fault count rows ∷ []) ≡ Some count
      pending_fault_now = pending_fault_of-fault fills count rows healed

  -- what an append leaves at each moment
  pub moments_of : (disk new opened : D) (journal mid : Journal) (head : Head) (exponent : ℕ) (history : List Item) (rows : List Row) (fills : List Fill) (filled : PlacedFills) (pending_fault : Option ℕ)
      → StoreInvariant device disk opened journal head exponent history fills filled pending_fault
      → AreAdmitted (archive head exponent history) rows
      → pending_fault_of fills ≡ None
      → IsSame journal mid
      → (IsTrue device.is_transparent → (bodies : List (List ℕ)) (pending : List ℕ) → JournalHasOnDisk device mid bodies pending disk → unhealed_fault mid ≡ None
      → LeavesOnly device disk new (λ c. IsBeforeOrAfter bodies (entry_octets (entries.Rows rows)) (c (file_of mid))))
      → LeavesOnly device disk new (IsOldBut device (file_of mid) disk)
      → IsTrue device.is_transparent → LeavesRows disk new head exponent history (fillings_in filled) rows
  moments_of disk new opened journal mid head exponent history rows fills filled pending_fault k ok healed same run elsewhere transparent =
      one.moments_of entry_octets Applies IsPlainLog plain_lower device disk new opened journal mid (filled_archive head exponent history (fillings_in filled)) (filled_archive head exponent (history ++ items_of rows) (fillings_in filled)) (entries.Rows rows)
      (IsUnacknowledged (filled_archive head exponent history (fillings_in filled)) (unacknowledged_in fills)) (IsSinceArchive (filled_archive head exponent k.before k.fillings) (archive head exponent history) (rows_of_faults fills)) k.archives (ok, refl)
      (healthy (unhealed_fault journal) (pending_fault_of fills) k.journal_fault healed) same run elsewhere transparent
