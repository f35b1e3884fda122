-- A reading of an archive, entry by entry.
use Rattle.std.proofs.Common.{◌≡◌, inl, inr, ℕ, ◌<◌, ◌≤◌, ◌^◌, List, [], ◌∷◌, ◌++◌, length, map, get_or, Option, Some, None, refl, sym, ◌∙◌, ap, subst, arith, length-append}
use Rattle.std.specs.Prelude.{IsTrue}
use Rattle.arch_disk.specs.Disk.{Device}
use Rattle.arch_disk.specs.Image.{Image}
use Rattle.disk_journal.specs.Calls.{BeginsOpen, IsOpeningBegun, content_read, read_so_far}
use Rattle.disk_journal.specs.Format.{HasRecords, IsClosed, written, framed}
use Rattle.disk_journal.specs.Reading.{IsAt, IsCutShortAt, IsReadJournal, file_read, gate_of}
use Rattle.disk_journal.specs.State.{extents_from}
use Rattle.disk_journal.specs.declared.opening.Opening.{Opening}
use Rattle.disk_journal.proofs.Calls.{read_are}
use Rattle.disk_journal.proofs.Files.{written-push}
use Rattle.disk_journal.proofs.Opened.{content_same}
use Rattle.history_items.specs.declared.fills.Fill.{Fill}
use Rattle.history_items.specs.declared.fills.Fill.TheVariants.{Done}
use Rattle.field_codec.specs.declared.entry.Entry.{Entry}
use Rattle.field_codec.specs.declared.entry.Entry.TheVariants as entries
use Rattle.field_codec.specs.Spelling.{entry_octets}
use Rattle.archive_reading.specs.declared.partial.PartialArchive.{PartialArchive}
use Rattle.archive_reading.specs.declared.records.ReadArchive.{ReadArchive}
use Rattle.archive_images.specs.Entries.{FilledArchive, HasArchivedRows, Replays, dones_of}
use Rattle.archive_reading.specs.PartialArchive.{archive_made, filled_made, HasMarks, IsArchiveRead, IsFileRead, IsReadHistory, IsReadArchive}
use Rattle.archive_images.specs.Stands.{Breaks, IsFileDamagedAt}

-- an archive that was made stays one
some_stays : (a : FilledArchive) (b : Option FilledArchive) (es : List Entry) → Replays (Some a) es b → b ≡ None → ⊥
some_stays a b [] replays none = cc (replays, none)
some_stays a b (e ∷ es) replays none = some_stays replays.0 b es replays.2 none

-- what made nothing were no entries, from nothing
pub no_entries : (a b : Option FilledArchive) (es : List Entry) → Replays a es b → b ≡ None → (a ≡ None) × (es ≡ [])
no_entries a b [] replays none = (sym replays ∙ none, refl)
no_entries a b (e ∷ es) replays none = absurd (some_stays replays.0 b es replays.2 none)

pub no_base : (base : Option PartialArchive) → archive_made base ≡ None → base ≡ None
no_base None none = refl
no_base (Some made) none = absurd (let some : ◌≡◌ {A = Option FilledArchive} (Some (filled_made made)) None = none in cc (some))

-- the fills of more entries
pub dones-append : (es more : List Entry) → dones_of (es ++ more) ≡ dones_of es ++ dones_of more
dones-append [] more = refl
dones-append (entries.Head tables mdb ∷ es) more = dones-append es more
dones-append (entries.Rows rows ∷ es) more = dones-append es more
dones-append (entries.Fill interval base octets ∷ es) more = ap (λ (l : List Fill). Done interval base ∷ l) (dones-append es more)
dones-append (entries.Seal seal ∷ es) more = dones-append es more
dones-append (entries.LogHead rows ∷ es) more = dones-append es more

-- a file with an open gate has entries
pub opens_some : (content : List ℕ) → get_or content 0 0 ≡ 1 → HasRecords content [] → ⊥
opens_some content one h = go h.tail h.file_is h.closed
  where
    go : (tail : List ℕ) → content ≡ tail → IsClosed tail → ⊥
    go [] is closed = closed
    go (gate ∷ rest) is closed = closed (ap (λ (l : List ℕ). get_or l 0 0) (sym is) ∙ one)

-- ---- damage

-- a record that is cut short
pub damaged_short : (image : Image) (file : ℕ) (beginning : List (List ℕ)) (base before : Option FilledArchive) (at : ℕ) (opening : Opening) (es : List Entry) → 2 ≤ length (image file) → IsAt opening (image file) (beginning ++ map entry_octets es) → Replays base es before
    → at ≡ gate_of opening → IsCutShortAt (image file) (beginning ++ map entry_octets es) → IsFileDamagedAt image file beginning base at
damaged_short image file beginning base before at opening es long is replays at_is short = record {
  entries = es;
  before = before;
  rest = short.rest;
  long = long;
  small = is.up_to.small;
  replays = replays;
  file_is = short.file_is;
  at_is = at_is ∙ is.up_to.at_is;
  bad = inl short.short;
}

-- a record that breaks a rule
pub damaged_wrong : (image : Image) (file : ℕ) (beginning : List (List ℕ)) (base before : Option FilledArchive) (at : ℕ) (old new : Opening) (es : List Entry) (body : List ℕ) → 2 ≤ length (image file) → IsAt old (image file) (beginning ++ map entry_octets es)
    → IsAt new (image file) ((beginning ++ map entry_octets es) ++ body ∷ []) → Replays base es before → at ≡ gate_of old → length body < 2 ^ 32 → Breaks before body → IsFileDamagedAt image file beginning base at
damaged_wrong image file beginning base before at old new es body long is next replays at_is small breaks =
    let bodies : List (List ℕ) = beginning ++ map entry_octets es in
    let more : List ℕ = next.up_to.rest in
    record {
      entries = es;
      before = before;
      rest = framed body ++ more;
      long = long;
      small = is.up_to.small;
      replays = replays;
      file_is = next.up_to.file_is ∙ written-push bodies body more;
      at_is = at_is ∙ is.up_to.at_is;
      bad = inr (record {
        body = body;
        more = more;
        small = small;
        some = omega (arith, next.inside, next.len, next.up_to.at_is, ap length next.up_to.file_is, length-append (written (bodies ++ body ∷ [])) more);
        is = refl;
        breaks = breaks;
      });
    }

-- ---- what was read to the end

abbrev pub found_is : (content : List ℕ) (beginning : List (List ℕ)) (base : Option FilledArchive) (opening : Opening) (es : List Entry) (made : Option PartialArchive) (f : ReadArchive) → Some f.made ≡ made → IsReadJournal opening f.journal
    → HasRecords content (beginning ++ map entry_octets es) → IsAt opening content (beginning ++ map entry_octets es) → Replays base es (archive_made made) → IsFileRead content beginning base f.journal (filled_made f.made)
found_is content beginning base opening es made f is finished has at replays = record {
  entries = es;
  has = has;
  replays = subst (λ (m : Option PartialArchive). Replays base es (archive_made m)) (sym is) replays;
  extents = finished.extents ∙ at.extents;
  end = finished.end ∙ at.up_to.at_is;
}

pub rows_found : (made : Option PartialArchive) (f : ReadArchive) → Some f.made ≡ made → HasArchivedRows (archive_made made) → HasArchivedRows (archive_made (Some f.made))
rows_found made f is has = subst (λ (m : Option PartialArchive). HasArchivedRows (archive_made m)) (sym is) has

pub marks_found : (made : Option PartialArchive) (f : ReadArchive) → Some f.made ≡ made → HasMarks made → HasMarks (Some f.made)
marks_found made f is has = subst HasMarks (sym is) has

pub tables_found : (made : Option PartialArchive) (f : ReadArchive) → Some f.made ≡ made → IsReadHistory made → IsReadHistory (Some f.made)
tables_found made f is has = subst IsReadHistory (sym is) has

module _ {D : Type 0} (device : Device D) where
  -- ---- a reading that has gone on, by the file and the disk with which it began

  module _ (first here : Opening) (was now : D) (bodies : List (List ℕ)) (reads : device.reads now ≡ device.reads was) (file : file_read here ≡ file_read first) (at : IsAt here (content_read device first was) bodies) where
    same_content : content_read device here now ≡ content_read device first was
    same_content = content_same (device.reads now) (device.reads was) (file_read here) (file_read first) reads file

    at_now : IsAt here (content_read device here now) bodies
    at_now = subst (λ (content : List ℕ). IsAt here content bodies) (sym same_content) at

    -- what was read so far are these records
    same_records : read_so_far device here now ≡ bodies
    same_records = read_are (content_read device here now) here bodies at_now

    pub gate_now : IsAt here (content_read device here now) (read_so_far device here now)
    gate_now = subst (IsAt here (content_read device here now)) (sym same_records) at_now

    pub read_now : (P : List ℕ → List (List ℕ) → Type 0) → P (content_read device here now) (read_so_far device here now) → P (content_read device first was) bodies
    read_now P is = subst (λ (content : List ℕ). P content bodies) same_content (subst (P (content_read device here now)) same_records is)

  -- ---- file 0, from its beginning

  module _ (before after : D) (opening : Opening) (begun : IsOpeningBegun device 0 before after opening) (reads : device.reads after ≡ device.reads before) where
    begun_content : content_read device opening after ≡ device.reads before 0
    begun_content = content_same (device.reads after) (device.reads before) (file_read opening) 0 reads begun.in_file

    pub begins_open : IsTrue device.is_transparent → BeginsOpen (content_read device opening after)
    begins_open transparent = subst BeginsOpen (sym begun_content) (begun.open_gate transparent)

    pub none_read : IsTrue device.is_transparent → read_so_far device opening after ≡ []
    none_read transparent = read_are (content_read device opening after) opening [] (subst (λ (content : List ℕ). IsAt opening content []) (sym begun_content) (begun.none_read transparent))

    pub whole_has : (read : ReadArchive) (is : IsArchiveRead device after opening None read) (transparent : IsTrue device.is_transparent) → HasRecords (device.reads after 0) (map entry_octets (is.archive_is transparent).entries)
    whole_has read is transparent =
        let bodies : List (List ℕ) = map entry_octets (is.archive_is transparent).entries in
        subst (λ (file : ℕ). HasRecords (device.reads after file) bodies) begun.in_file
        (subst (λ (first : List (List ℕ)). HasRecords (content_read device opening after) (first ++ bodies)) (none_read transparent) (is.archive_is transparent).has)

    abbrev pub whole_read : (read : ReadArchive) → IsArchiveRead device after opening None read → IsTrue device.is_transparent → IsReadArchive (device.reads after 0) read.journal (filled_made read.made)
    whole_read read is transparent = record {
      entries = (is.archive_is transparent).entries;
      has = whole_has read is transparent;
      replays = (is.archive_is transparent).replays;
      extents = (is.archive_is transparent).extents ∙ ap (λ (first : List (List ℕ)). extents_from 0 (first ++ map entry_octets (is.archive_is transparent).entries)) (none_read transparent);
      end = (is.archive_is transparent).end ∙ ap (λ (first : List (List ℕ)). length (written (first ++ map entry_octets (is.archive_is transparent).entries))) (none_read transparent);
    }
