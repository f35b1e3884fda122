-- An archive that was made is as one that was opened on the disk that its making left.
use Rattle.std.proofs.Common.{◌≡◌, ◌∙◌, inl, inr, ℕ, suc, List, [], ◌∷◌, length, map, Some, None, refl, sym, ap, subst, arith}
use Rattle.std.specs.Prelude.{IsTrue}
use Rattle.std.specs.List.{AllByRecursion}
use mathlib.Core.List.{IsPrefix}
use Rattle.arch_disk.specs.Image.{Image}
use Rattle.arch_disk.specs.Disk.{Device, LeavesOnly}
use Rattle.arch_disk.proofs.Moments.{started}
use Rattle.disk_journal.proofs.Once.{records_once}
use Rattle.field_codec.specs.declared.entry.Entry.{Entry}
use Rattle.field_codec.specs.declared.entry.Entry.TheVariants as entries
use Rattle.field_codec.specs.Spelling.{entry_octets}
use Rattle.intervals.specs.Interval.{format_1_exponent}
use Rattle.history_items.specs.declared.items.Item.{Item}
use Rattle.history_items.specs.Fills.{pending_fault_of}
use Rattle.param_segments.specs.Rows.{SetRow}
use Rattle.store_fills.specs.Faults.{IsDone}
use Rattle.store_fills.specs.LastFills.{fillings_in}
use Rattle.store_fills.specs.Sound.{Fillings, no_fillings}
use Rattle.archive_store.specs.Head.{Head}
use Rattle.archive_store.specs.Calls.{IsStoreCreated}
use Rattle.archive_store.specs.Entries.{Archive, FilledArchive, Replays, archive, dones_of, filled_archive}
use Rattle.archive_store.specs.Keeping.{IsKept}
use Rattle.archive_store.specs.Stands.{HasRecordCount, StandsFilled, StandsFor}
use Rattle.archive_store.specs.StoreView.{StoreView, archive_of, filled_of}
use Rattle.archive_commands.proofs.Created.{no_front}
use Rattle.command_runs.specs.Opened.{IsOpenedOn}

-- ---- an archive of one record has no fills

one_entry : (es : List Entry) (filled : FilledArchive) → length es ≡ 1 → Replays None es (Some filled) → (filled.fillings ≡ no_fillings) × (dones_of es ≡ [])
one_entry [] filled one r = absurd (omega (arith, one))
one_entry (entries.Head tables mdb ∷ []) filled one r = let rest = r.2 in let same : filled ≡ r.0 = cc in (ap (λ (f : FilledArchive). f.fillings) (same ∙ r.1.1), refl)
one_entry (entries.Head tables mdb ∷ entry ∷ es) filled one r = absurd (omega (arith, one))
one_entry (entries.Rows rows ∷ es) filled one r = absurd r.1
one_entry (entries.Fill interval base octets ∷ es) filled one r = absurd r.1
one_entry (entries.Seal seal ∷ es) filled one r = absurd r.1
one_entry (entries.LogHead rows ∷ es) filled one r = absurd r.1

as_many : (es : List Entry) → length (map entry_octets es) ≡ length es
as_many [] = refl
as_many (entry ∷ es) = ap suc (as_many es)

filled_with : Archive → Fillings (List SetRow) → FilledArchive
filled_with plain fillings = record { plain = plain; fillings = fillings }

same_filled : (x : FilledArchive) (plain : Archive) (fillings : Fillings (List SetRow)) → x.plain ≡ plain → x.fillings ≡ fillings → x ≡ filled_with plain fillings
unfolding filled_with
same_filled x plain fillings p f = ap (λ (a : Archive). filled_with a x.fillings) p ∙ ap (λ (g : Fillings (List SetRow)). filled_with plain g) f

-- ---- the store

module _ {D : Type 0} (device : Device D) (disk : D) (head : Head) (s : StoreView D) (created : IsStoreCreated device disk head s) (kept : IsKept device s) where
  calm : pending_fault_of s.fills ≡ None
  calm = ap pending_fault_of created.fills

  counted : IsTrue device.is_transparent → HasRecordCount (device.reads s.disk) s.records
  counted known = elim (kept.records known) [
    | inl has ↦ has
    | inr more ↦ absurd (more.0 calm)
  ]

  stands : IsTrue device.is_transparent → StandsFor (device.reads s.disk) (archive_of s)
  stands known =
      let keeps = kept.images known in
      let begins : IsPrefix keeps.before [] = subst (λ (h : List Item). IsPrefix keeps.before h) created.history keeps.begins in
      let before : keeps.before ≡ s.history = no_front keeps.before begins.0 begins.1 ∙ sym created.history in
      let opening = subst (λ (d : D). StandsFor (device.reads d) (archive s.head s.exponent keeps.before)) created.opened keeps.opening in
      subst (λ (h : List Item). StandsFor (device.reads s.disk) (archive s.head s.exponent h)) before opening

  one_record : (known : IsTrue device.is_transparent) → length (stands known).stands.entries ≡ 1
  one_record known =
      let count = counted known in
      let es = (stands known).stands.entries in
      let same : map entry_octets es ≡ count.0 = records_once (device.reads s.disk 0) (map entry_octets es) count.0 (stands known).stands.has count.1 in
      sym (as_many es) ∙ ap length same ∙ sym count.2 ∙ created.records

  alone : (known : IsTrue device.is_transparent) → ((stands known).filled.fillings ≡ no_fillings) × (dones_of (stands known).stands.entries ≡ [])
  alone known = one_entry (stands known).stands.entries (stands known).filled (one_record known) (stands known).stands.replays

  filled : IsTrue device.is_transparent → StandsFilled (device.reads s.disk) (filled_of s)
  unfolding filled_with
  filled known =
      let is : (stands known).filled ≡ filled_with (archive_of s) (fillings_in s.filled) =
      same_filled (stands known).filled (archive_of s) (fillings_in s.filled) (stands known).plain_is ((alone known).0 ∙ sym created.filled) in
      subst (StandsFilled (device.reads s.disk)) is (stands known).stands

  -- it is as one that was opened on its disk
  pub opened_on : IsOpenedOn device s.disk s
  opened_on = record {
    opened = record {
      stands = stands;
      records = counted;
      exponent = created.exponent;
      fills = subst (AllByRecursion IsDone) (sym created.fills) tt;
      dones = λ known. ((stands known).stands.entries, (stands known).stands.has, created.fills ∙ sym (alone known).1);
      filled = filled;
      opening = ap device.reads created.opened;
      since = λ known. subst (λ (d : D). LeavesOnly device d s.disk (λ (c : Image). StandsFilled c (filled_of s))) (sym created.opened)
          (started device s.disk (λ (c : Image). StandsFilled c (filled_of s)) (kept.kept known calm));
      no_failed_write = refl;
      no_fault = refl;
    };
    reads = refl;
    crash = subst (λ (d : D). LeavesOnly device s.disk d (device.images s.disk)) (sym created.opened) (started device s.disk (device.images s.disk) (λ c left. left));
    counts = rw created.opened (record { faults = omega arith; writes = omega arith });
  }

  -- and has the archive of its head without rows
  pub archive_is : filled_of s ≡ filled_archive head format_1_exponent [] no_fillings
  unfolding filled_with
  archive_is =
      same_filled (filled_of s) (archive head format_1_exponent []) no_fillings
      (ap (λ (h : Head). archive h s.exponent s.history) created.head_is ∙ ap (λ (e : ℕ). archive head e s.history) created.exponent
      ∙ ap (λ (l : List Item). archive head format_1_exponent l) created.history)
      created.filled
