-- What the store keeps of images is the general form over one file.
use Rattle.std.proofs.Common.{◌≡◌, ◌⊎◌, inl, inr, ⊎_elim, ℕ, List, ◌++◌, Option, Some, None, refl, sym, ◌∙◌, ap, subst}
use Rattle.std.specs.Prelude.{IsTrue, Contains}
use mathlib.Core.List.{IsPrefix}
use Rattle.arch_disk.specs.Image.{Image}
use Rattle.arch_disk.specs.Disk.{Device, LeavesOnly}
use Rattle.arch_disk.proofs.Moments.{weakens}
use Rattle.intervals.specs.declared.interval.Interval.{Interval}
use Rattle.history_items.specs.declared.fills.Fill.{Fill}
use Rattle.history_items.specs.Fills.{rows_of_faults, unacknowledged_in}
use Rattle.history_items.specs.declared.fills.Addition.{Addition}
use Rattle.history_items.specs.declared.fills.Addition.TheVariants as additions
use Rattle.history_items.specs.declared.items.Item.{Item}
use Rattle.history_items.specs.Items.{items_of}
use Rattle.disk_journal.specs.declared.journal.Journal.{Journal}
use Rattle.field_codec.specs.Spelling.{entry_octets}
use Rattle.param_segments.specs.Rows.{SetRow}
use Rattle.store_fills.specs.LastFills.{PlacedFills, fill_over, fillings_in}
use Rattle.store_fills.specs.Filled.{IsRightFill}
use Rattle.store_fills.specs.Sound.{Fillings, with_filling}
use Rattle.store_fills.proofs.RightFills.{right_fill_leaves, rows_leave_right}
use Rattle.arch_types.specs.declared.row.Row.{Row}
use Rattle.archive_images.specs.declared.head.Head.{Head}
use Rattle.archive_images.specs.Entries.{Archive, FilledArchive, IsSoundArchive, archive, filled_archive, Applies}
use Rattle.archive_images.specs.Images.{StandsForSome, StandsNow, IsPlainLog}
use Rattle.archive_store.specs.Inside.{StoreInvariant, view_of}
use Rattle.archive_store.specs.PlainLog.{IsSinceArchive}
use Rattle.archive_images.specs.Unacknowledged.{IsUnacknowledged}
use Rattle.archive_images.specs.Stands.{IsSoundImage, StandsFilled, StandsFor}
use Rattle.archive_store.specs.StoreView.{CrashInvariant, IsNow, IsSince, StoreView, archive_of, filled_of}
use Rattle.archive_images.proofs.Exact.{filled_once}
use Rattle.archive_images.proofs.PlainImages.{StandsPlain, stands_filled, stands_unfilled, stands_for}
use Rattle.archive_images.proofs.PendingFaults.{prefix_self}

abbrev pub PlainNow : FilledArchive → Option Addition → Image → Type 0
PlainNow now o c = StandsNow entry_octets Applies IsPlainLog now (IsUnacknowledged now o) c

abbrev PlainSince : FilledArchive → Archive → List (List Item) → Image → Type 0
PlainSince before now in_faults c = StandsForSome entry_octets Applies IsPlainLog (IsSinceArchive before now in_faults) c

-- ---- soundness

-- more rows leave an archive sound
pub rows_sound : (head : Head) (exponent : ℕ) (history : List Item) (fillings : Fillings (List SetRow)) (rows : List Row) → IsSoundArchive (filled_archive head exponent history fillings) → IsSoundArchive (filled_archive head exponent (history ++ items_of rows) fillings)
rows_sound head exponent history fillings rows sound = rows_leave_right exponent head.mdb history rows fillings sound

-- and so does a fill that is right for it
pub fill_sound : (head : Head) (exponent : ℕ) (history : List Item) (fillings : Fillings (List SetRow)) (i : Interval) (base : ℕ) (set : List SetRow) → IsSoundArchive (filled_archive head exponent history fillings)
    → IsRightFill exponent head.mdb history i base set → IsSoundArchive (filled_archive head exponent history (with_filling fillings i (fill_over base set)))
fill_sound head exponent history fillings i base set sound right = right_fill_leaves exponent head.mdb history fillings i base set sound right

-- an image whose archive is sound
sound_image : (c : Image) (a : FilledArchive) → StandsPlain c a → IsSoundArchive a → IsSoundImage c
sound_image c a s sound other stands = subst IsSoundArchive (filled_once c a other (stands_filled c a s) stands) sound

-- ---- what a crash now may leave

pub now_for : (now : FilledArchive) (o : Option Addition) (c : Image) → PlainNow now o c → IsNow now o c
now_for now o c (inl old) = inl (stands_filled c now old)
now_for now o c (inr new) = inr (new.found, new.holds, stands_filled c new.found new.stands)

-- where no failed write is pending, an image of now has its fills too
pub now_calm : (now : FilledArchive) (c : Image) → IsNow now None c → StandsFilled c now
now_calm now c (inl old) = old
now_calm now c (inr new) = absurd new.1

-- what would have been added holds no rows
abbrev pub HoldsNoRows : Option Addition → Type 0
HoldsNoRows None = Unit {0}
HoldsNoRows (Some additions.Nothing) = Unit {0}
HoldsNoRows (Some (additions.Rows rows)) = ⊥
HoldsNoRows (Some (additions.Fill interval base)) = Unit {0}

-- without unacknowledged rows, an image of now has those of the archive, whatever its fills
pub now_unfilled : (now : FilledArchive) (o : Option Addition) (c : Image) → HoldsNoRows o → IsNow now o c → StandsFor c now.plain
now_unfilled now o c none (inl old) = stands_unfilled c now old
now_unfilled now None c none (inr new) = absurd new.1
now_unfilled now (Some additions.Nothing) c none (inr new) = absurd new.1
now_unfilled now (Some (additions.Rows rows)) c none (inr new) = absurd none
now_unfilled now (Some (additions.Fill interval base)) c none (inr new) = subst (λ (a : FilledArchive). StandsFor c a.plain) new.1.after_is (stands_unfilled c new.0 new.2)

-- what a crash since the opening may have left
pub since_for : (before : FilledArchive) (now : Archive) (in_faults : List (List Item)) (c : Image) → PlainSince before now in_faults c → IsSince now.head now.exponent before.plain.history now.history in_faults c
since_for before now in_faults c s = let f = s.holds in record {
  front = f.kept;
  holds = f.holds;
  begins = f.begins;
  stands = ⊎_elim (λ same. inl (subst (StandsFor c) same (stands_for c s.found s.stands)))
      (λ more. inr (more.0, more.1, subst (StandsFor c) more.2 (stands_for c s.found s.stands))) f.found_is;
}

-- ---- an archive that was found, as history and faults grow

module _ (before : FilledArchive) (head : Head) (exponent : ℕ) (history : List Item) (fillings : Fillings (List SetRow)) (in_faults : List (List Item)) (begins : IsPrefix before.plain.history history)
    (sound : IsSoundArchive before → IsSoundArchive (filled_archive head exponent history fillings)) where
  -- what is there now
  pub found_whole : IsSinceArchive before (archive head exponent history) in_faults (filled_archive head exponent history fillings)
  found_whole = record { kept = history; holds = begins; begins = prefix_self history; found_is = inl refl; sound = sound }

  -- and rows of a fault with it
  pub found_with : (rows : List Row) → Contains in_faults (items_of rows) → IsSinceArchive before (archive head exponent history) in_faults (filled_archive head exponent (history ++ items_of rows) fillings)
  found_with rows there = record {
    kept = history;
    holds = begins;
    begins = prefix_self history;
    found_is = inr (items_of rows, there, refl);
    sound = λ was. rows_sound head exponent history fillings rows (sound was);
  }

  -- the unacknowledged rows are those of a fault
  pub found_unacknowledged : (o : Option Addition) → ((rows : List Row) → o ≡ Some (additions.Rows rows) → Contains in_faults (items_of rows)) → (a : FilledArchive) → IsUnacknowledged (filled_archive head exponent history fillings) o a
      → IsSinceArchive before (archive head exponent history) in_faults a
  found_unacknowledged None there a is = absurd is
  found_unacknowledged (Some additions.Nothing) there a is = absurd is
  found_unacknowledged (Some (additions.Fill interval base)) there a is = subst (IsSinceArchive before (archive head exponent history) in_faults) (sym is.after_is) (record {
    kept = history;
    holds = begins;
    begins = prefix_self history;
    found_is = inl refl;
    sound = λ was. fill_sound head exponent history fillings interval base is.set (sound was) is.right;
  })
  found_unacknowledged (Some (additions.Rows rows)) there a is = subst (IsSinceArchive before (archive head exponent history) in_faults) (sym is) (found_with rows (there rows refl))

-- as history and faults grow
pub found_on : (before : FilledArchive) (old new : Archive) (had has : List (List Item)) → new.head ≡ old.head → new.exponent ≡ old.exponent → ((xs : List Item) → IsPrefix xs old.history → IsPrefix xs new.history) → ((more : List Item) → Contains had more → Contains has more)
    → (a : FilledArchive) → IsSinceArchive before old had a → IsSinceArchive before new has a
found_on before old new had has same alike grows keeps a f = record {
  kept = f.kept;
  holds = f.holds;
  begins = grows f.kept f.begins;
  found_is = ⊎_elim (λ whole. inl (whole ∙ renamed f.kept)) (λ more. inr (more.0, keeps more.0 more.1, more.2 ∙ renamed (f.kept ++ more.0))) f.found_is;
  sound = f.sound;
}
  where
    renamed : (items : List Item) → archive old.head old.exponent items ≡ archive new.head new.exponent items
    renamed items = ap (λ (h : Head). archive h old.exponent items) (sym same) ∙ ap (λ (e : ℕ). archive new.head e items) (sym alike)

module _ {D : Type 0} (device : Device D) where
  -- a run's images, as what they stand for
  pub either_filled : (disk new : D) (a b : FilledArchive) → LeavesOnly device disk new (λ c. StandsPlain c a ⊎ StandsPlain c b) → LeavesOnly device disk new (λ c. StandsFilled c a ⊎ StandsFilled c b)
  either_filled disk new a b moments = weakens device disk new _ _ moments (λ c either. ⊎_elim (λ old. inl (stands_filled c a old)) (λ more. inr (stands_filled c b more)) either)

  -- what contracts say of it
  pub crash_of : (disk opened : D) (journal : Journal) (head : Head) (exponent : ℕ) (history : List Item) (fills : List Fill) (filled : PlacedFills) (pending_fault : Option ℕ)
      → StoreInvariant device disk opened journal head exponent history fills filled pending_fault → IsTrue device.is_transparent → CrashInvariant device (view_of disk opened journal head exponent history fills filled)
  crash_of disk opened journal head exponent history fills filled pending_fault k transparent = let i = k.archives.images transparent in record {
    before = k.before;
    opening = record { filled = filled_archive head exponent k.before k.fillings; plain_is = refl; stands = k.opening transparent };
    begins = k.begins;
    now = λ c left. now_for (filled_archive head exponent history (fillings_in filled)) (unacknowledged_in fills) c (i.now c left);
    since = weakens device opened disk _ _ i.since (λ c s. since_for (filled_archive head exponent k.before k.fillings) (archive head exponent history) (rows_of_faults fills) c s);
    sound = λ image. weakens device opened disk _ _ i.since (λ c s. sound_image c s.found s.stands (s.holds.sound (image (filled_archive head exponent k.before k.fillings) (k.opening transparent))));
  }

  -- without unacknowledged rows each image of now has the rows of the store
  pub kept_rows : (store : StoreView D) → CrashInvariant device store → HoldsNoRows (unacknowledged_in store.fills) → (c : Image) → device.images store.disk c → StandsFor c (archive_of store)
  kept_rows store keeps none c left = now_unfilled (filled_of store) (unacknowledged_in store.fills) c none (keeps.now c left)

  -- the fills are sound if those of the opening were
  pub sound_of : (disk opened : D) (journal : Journal) (head : Head) (exponent : ℕ) (history : List Item) (fills : List Fill) (filled : PlacedFills) (pending_fault : Option ℕ)
      → StoreInvariant device disk opened journal head exponent history fills filled pending_fault → IsTrue device.is_transparent → IsSoundImage (device.reads opened) → IsSoundArchive (filled_archive head exponent history (fillings_in filled))
  sound_of disk opened journal head exponent history fills filled pending_fault k transparent image = k.sound transparent (image (filled_archive head exponent k.before k.fillings) (k.opening transparent))
