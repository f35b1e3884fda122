-- The disk during a load, and after it.
use Rattle.std.proofs.Common.{◌≡◌, ◌⊎◌, inl, inr, ℕ, Bool, true, false, List, [], ◌++◌, Option, None, Some, refl, ap, subst, sym, ◌∙◌, arith}
use mathlib.Core.List.{IsPrefix}
use Rattle.arch_disk.specs.Image.{Image}
use Rattle.arch_disk.specs.Disk.{Device, LeavesOnly, OnlyReads}
use Rattle.arch_disk.proofs.Moments.{at_end, joins, weakens}
use Rattle.arch_types.specs.declared.row.Row.{Row}
use Rattle.history_items.specs.declared.fills.Addition.{Addition}
use Rattle.history_items.specs.declared.fills.Addition.TheVariants.{Rows}
use Rattle.history_items.specs.Fills.{pending_fault_of, rows_of_faults, unacknowledged_in}
use Rattle.history_items.specs.declared.items.Item.{Item}
use Rattle.history_items.specs.Items.{items_of}
use Rattle.archive_store.specs.Head.{Head}
use Rattle.archive_store.specs.Entries.{Archive, FilledArchive, archive, filled_archive}
use Rattle.archive_store.specs.StoreView.{StoreView, archive_of, filled_of, IsKeptWithFills, IsNow, IsSince, CrashInvariant}
use Rattle.archive_store.specs.Unacknowledged.{with_rows}
use Rattle.archive_store.specs.Stands.{IsSoundImage, StandsFilled, StandsFor}
use Rattle.archive_store.proofs.Exact.{stands_once}
use Rattle.archive_store.proofs.PendingFaults.{prefix_more, prefix_self}
use Rattle.store_fills.specs.LastFills.{fillings_in}
use Rattle.load_session.specs.During.{IsDuring}
use Rattle.load_session.proofs.During.{none_in_hand}
use Rattle.command_runs.specs.ReadOnly.{IsOpenedThen}
use Rattle.command_runs.specs.Extension.{batch_left}
use Rattle.command_runs.specs.Healing.{HasOneFault}
use Rattle.command_runs.proofs.Openings.{plain_stands}
use Rattle.command_runs.proofs.ReadFaults.{one_pending_is, one_unacknowledged_is}

-- a store that was opened on a disk
pub record IsOpened {D : Type 0} (device : Device D) (disk : D) (store : StoreView D) : Type 0 where
  pub stands : StandsFilled (device.reads disk) (filled_of store)
  pub reads : device.reads store.disk ≡ device.reads disk
  pub opening : device.reads store.opened ≡ device.reads disk
  pub before : LeavesOnly device disk store.opened (device.images disk)

pub opened_store : {D : Type 0} (device : Device D) (disk : D) (s : StoreView D) → StandsFilled (device.reads disk) (filled_of s) → device.reads s.disk ≡ device.reads disk →
    device.reads s.opened ≡ device.reads disk → LeavesOnly device disk s.opened (device.images disk) → IsOpened device disk s
opened_store device disk s stands same opening handed_in = record { stands = stands; reads = same; opening = opening; before = handed_in }

-- after a failed write it may be the archive with its fills, or that with the rows of the write
now_with_fills : (filled : FilledArchive) (rows : List Row) (c : Image) → IsNow filled (Some (Rows rows)) c → StandsFilled c filled ⊎ StandsFilled c (with_rows filled (items_of rows))
now_with_fills filled rows c (inl stands) = inl stands
now_with_fills filled rows c (inr after) = inr (subst (StandsFilled c) after.1 after.2)

-- ---- images

module _ {D : Type 0} (device : Device D) (disk : D) (old new : StoreView D) (opened : IsOpened device disk old) (same : new.opened ≡ old.opened) (keeps : CrashInvariant device new) where
  first_reads : device.reads new.opened ≡ device.reads disk
  first_reads = ap device.reads same ∙ opened.opening

  -- the fills of each image from the opening on are sound, if those of the disk were
  sound_since : IsSoundImage (device.reads disk) → LeavesOnly device old.opened new.disk IsSoundImage
  sound_since handed = subst (λ (d : D). LeavesOnly device d new.disk IsSoundImage) same (keeps.sound (subst IsSoundImage (sym first_reads) handed))

  -- ---- no fault holds rows

  module _ (none : rows_of_faults new.fills ≡ []) (head : new.head ≡ old.head) (exponent : new.exponent ≡ old.exponent) where
    during : (before : List Item) → before ≡ old.history → (c : Image) → IsSince new.head new.exponent before new.history (rows_of_faults new.fills) c → IsDuring (archive_of old) new.history [] c
    during before first c i = record {
      history = i.front;
      holds = subst (λ (h : List Item). IsPrefix h i.front) first i.holds;
      within = inl i.begins;
      stands = elim i.stands [
        | inl stands ↦ subst (λ (e : ℕ). StandsFor c (archive old.head e i.front)) exponent (subst (λ (h : Head). StandsFor c (archive h new.exponent i.front)) head stands)
        | inr more ↦ absurd (none_in_hand (rows_of_faults new.fills) more.0 none more.1)
      ];
    }

    -- the images of a store's load
    pub load_images : IsOpenedThen device disk new.disk (IsDuring (archive_of old) new.history [])
    load_images =
        let began : StandsFor (device.reads disk) (archive new.head new.exponent keeps.before) = subst (λ (image : Image). StandsFor image (archive new.head new.exponent keeps.before)) first_reads keeps.opening in
        let before : keeps.before ≡ old.history = ap (λ (a : Archive). a.history) (stands_once (device.reads disk) (archive new.head new.exponent keeps.before) (archive old.head old.exponent old.history) began (plain_stands (device.reads disk) (filled_of old) opened.stands)) in
        record {
          opened = old.opened;
          before = opened.before;
          since =
              subst (λ (d : D). LeavesOnly device d new.disk (IsDuring (archive_of old) new.history [])) same
              (weakens device new.opened new.disk (IsSince new.head new.exponent keeps.before new.history (rows_of_faults new.fills)) (IsDuring (archive_of old) new.history []) keeps.since
              (during keeps.before before));
          sound = sound_since;
        }

  -- ---- a fault holds the rows of a batch, at which the disk failed

  module _ (between mid : StoreView D) (rows : List Row) (since : LeavesOnly device old.opened old.disk (λ c. StandsFilled c (filled_of old))) (grew : IsPrefix old.history between.history)
      (session : LeavesOnly device old.disk between.disk (IsDuring (archive_of old) between.history (rows_of_faults between.fills))) (held : rows_of_faults between.fills ≡ batch_left rows)
      (still : OnlyReads device between.disk mid.disk) (as_mid : filled_of mid ≡ filled_archive old.head old.exponent between.history (fillings_in mid.filled)) (pending : unacknowledged_in mid.fills ≡ Some (Rows rows))
      (healing : LeavesOnly device mid.disk new.disk (IsNow (filled_of mid) (unacknowledged_in mid.fills))) where
    abbrev During : Image → Type 0
    During = IsDuring (archive_of old) between.history (batch_left rows)

    at_opening : (c : Image) → StandsFilled c (filled_of old) → During c
    at_opening c stands = record { history = old.history; holds = prefix_self old.history; within = inl grew; stands = plain_stands c (filled_of old) stands }

    -- what a crash leaves while the write is taken back
    at_healing : (c : Image) → IsNow (filled_of mid) (unacknowledged_in mid.fills) c → During c
    at_healing c now =
        let filled = filled_archive old.head old.exponent between.history (fillings_in mid.filled) in
        let known = subst (λ (a : FilledArchive). IsNow a (Some (Rows rows)) c) as_mid (subst (λ (o : Option Addition). IsNow (filled_of mid) o c) pending now) in
        elim (now_with_fills filled rows c known) [
          | inl stands ↦ record { history = between.history; holds = grew; within = inl (prefix_self between.history); stands = plain_stands c filled stands }
          | inr more ↦ record {
            history = between.history ++ items_of rows;
            holds = prefix_more old.history between.history (items_of rows) grew;
            within = inr (items_of rows, (0, omega arith, refl), refl);
            stands = plain_stands c (with_rows filled (items_of rows)) more;
          }
        ]

    pub failed_images : IsOpenedThen device disk new.disk During
    failed_images =
        let opening = weakens device old.opened old.disk (λ c. StandsFilled c (filled_of old)) During since at_opening in
        let batches = subst (λ (l : List (List Item)). LeavesOnly device old.disk between.disk (IsDuring (archive_of old) between.history l)) held session in
        let so_far = joins device old.opened old.disk between.disk During During opening batches (λ c during. during) in
        let read = joins device old.opened between.disk mid.disk During (device.images between.disk) so_far still.moments (at_end device old.opened between.disk During so_far) in
        record {
          opened = old.opened;
          before = opened.before;
          since = joins device old.opened mid.disk new.disk During (IsNow (filled_of mid) (unacknowledged_in mid.fills)) read healing at_healing;
          sound = sound_since;
        }

-- after a fault whose write stands a crash may also leave the rows that the fault holds, with the fills that there are
pub left : {D : Type 0} (device : Device D) (store : StoreView D) (count : ℕ) (wrote : Bool) (rows : List Row) → CrashInvariant device store → (pending_fault_of store.fills ≡ None → IsKeptWithFills device store)
    → HasOneFault store.fills count wrote (Rows rows) → (c : Image) → device.images store.disk c → StandsFilled c (filled_of store) ⊎ StandsFilled c (with_rows (filled_of store) (items_of rows))
left device store count true rows keeps kept one c leaves =
    now_with_fills (filled_of store) rows c (subst (λ (o : Option Addition). IsNow (filled_of store) o c) (one_unacknowledged_is count true (Rows rows) store.fills one) (keeps.now c leaves))
left device store count false rows keeps kept one c leaves = inl (kept (one_pending_is count false (Rows rows) store.fills one) c leaves)
