-- Items of a fill list that tell nothing of faults.
use Rattle.std.proofs.Common.{◌≡◌, ℕ, List, [], ◌∷◌, ◌++◌, Bool, true, false, Option, Some, None, MatchOption, option_map, is_some, refl, sym, ◌∙◌, ap, subst, append-nil}
use Rattle.std.specs.Prelude.{fold, if◌then◌else◌, ⊤}
use Rattle.std.specs.List.{cons_option, filter_map}
use Rattle.arch_disk.specs.Disk.{Device}
use Rattle.intervals.specs.declared.interval.Interval.{Interval}
use Rattle.history_items.specs.declared.fills.Fill.{Fill}
use Rattle.history_items.specs.declared.fills.Fill.TheVariants.{Freed}
use Rattle.history_items.specs.declared.items.Item.{Item}
use Rattle.history_items.specs.Fills.{CountsRise, above, first_pending, in_flight, noted_faults}
use Rattle.history_items.specs.FillList.{flights_of}
use Rattle.history_items.specs.Noted.{NotedFault, fault_of_fill, items_of_fault}
use Rattle.history_items.proofs.FillLists.{noted_faults-append}
use Rattle.interval_fills.specs.Steps.{freed, all_freed}
use Rattle.disk_journal.specs.declared.journal.Journal.{Journal}
use Rattle.field_codec.specs.Spelling.{entry_octets}
use Rattle.archive_images.specs.declared.head.Head.{Head}
use Rattle.store_fills.specs.LastFills.{PlacedFills, fillings_in}
use Rattle.archive_images.specs.Entries.{FilledArchive, archive, filled_archive, Applies}
use Rattle.archive_images.specs.Images.{ArchiveInvariant, IsPlainLog}
use Rattle.archive_store.specs.Inside.{StoreInvariant}
use Rattle.archive_store.specs.PlainLog.{IsSinceArchive}
use Rattle.archive_images.specs.Unacknowledged.{IsUnacknowledged}
use Rattle.archive_store.specs.StoreView.{StoreView}

-- two fill lists tell the same of faults
abbrev pub TellsSameFaults : List Fill → List Fill → Type 0
TellsSameFaults old new = noted_faults new ≡ noted_faults old

pub same_faults_self : (fills : List Fill) → TellsSameFaults fills fills
same_faults_self fills = refl

pub same_faults_on : (old mid new : List Fill) → TellsSameFaults old mid → TellsSameFaults mid new → TellsSameFaults old new
same_faults_on old mid new first next = next ∙ first

-- ---- one item more that is no fault

abbrev pub IsNoFault : Fill → Type 0
IsNoFault item = MatchOption (fault_of_fill item) ⊤ (λ fault. ⊥)

not_there : (o : Option NotedFault) → MatchOption o ⊤ (λ fault. ⊥) → o ≡ None
not_there None none = refl
not_there (Some fault) none = absurd none

pub same_faults_item : (fills : List Fill) (item : Fill) → IsNoFault item → TellsSameFaults fills (fills ++ item ∷ [])
same_faults_item fills item none =
    noted_faults-append fills (item ∷ []) ∙ ap (λ (o : Option NotedFault). noted_faults fills ++ cons_option o []) (not_there (fault_of_fill item) none)
    ∙ append-nil (noted_faults fills)

-- ---- flights that end without a fill

pub same_faults_freed : (fills : List Fill) (i : Interval) → TellsSameFaults fills (freed i fills)
same_faults_freed fills i = go (is_some (in_flight i fills))
  where
    go : (b : Bool) → TellsSameFaults fills (if b then fills ++ Freed i ∷ [] else fills)
    go true = same_faults_item fills (Freed i) tt
    go false = same_faults_self fills

same_faults_each : (flights : List Interval) (old fills : List Fill) → TellsSameFaults old fills → TellsSameFaults old (fold (λ ended interval. freed interval ended) fills flights)
same_faults_each [] old fills same = same
same_faults_each (i ∷ flights) old fills same = same_faults_each flights old (freed i fills) (same_faults_on old fills (freed i fills) same (same_faults_freed fills i))

pub same_faults_all_freed : (fills : List Fill) → TellsSameFaults fills (all_freed fills)
same_faults_all_freed fills = same_faults_each (flights_of fills) fills fills (same_faults_self fills)

-- a store with another fill list
abbrev pub with_fills : {D : Type 0} → StoreView D → List Fill → StoreView D
with_fills store fills = record store { fills = fills }

module _ {D : Type 0} (device : Device D) where
  -- a store over a fill list that tells the same of faults
  pub same_faults_kept : (disk opened : D) (journal : Journal) (head : Head) (exponent : ℕ) (history : List Item) (fills new : List Fill) (filled : PlacedFills) (pending_fault : Option ℕ)
      → StoreInvariant device disk opened journal head exponent history fills filled pending_fault → TellsSameFaults fills new
      → StoreInvariant device disk opened journal head exponent history new filled pending_fault
  same_faults_kept disk opened journal head exponent history fills new filled pending_fault k same =
      let now : FilledArchive = filled_archive head exponent history (fillings_in filled) in
      let before : FilledArchive = filled_archive head exponent k.before k.fillings in
      let pending = ap (λ (l : List NotedFault). option_map (λ (fault : NotedFault). fault.count) (first_pending l)) same in record {
        faults = record {
          rising = subst (CountsRise (above (device.fault_count opened)) (device.fault_count disk)) (sym same) k.faults.rising;
          later = k.faults.later;
          writes_later = k.faults.writes_later;
          wrote = λ faults is. k.faults.wrote faults (sym pending ∙ is);
        };
        before = k.before;
        fillings = k.fillings;
        begins = k.begins;
        opening = k.opening;
        sound = k.sound;
        archives = subst (λ (l : List NotedFault). ArchiveInvariant entry_octets Applies IsPlainLog device disk opened journal now (IsUnacknowledged now (option_map (λ (fault : NotedFault). fault.unacknowledged) (first_pending l))) (IsSinceArchive before (archive head exponent history) (filter_map items_of_fault l))) (sym same) k.archives;
        pending_fault_is = k.pending_fault_is ∙ sym pending;
        journal_fault = λ faults is. pending ∙ k.journal_fault faults is;
        head_is = k.head_is;
        rows = k.rows;
        alone = k.alone;
      }
