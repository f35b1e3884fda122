use Rattle.std.proofs.Common.{◌≡◌, ◌++◌, [], ◌∷◌, append-nil, List, ℕ, Option, None, Some, true, false, true≢false, refl, sym, ◌∙◌, ap, subst}
use Rattle.std.specs.Option.{is_some}
use Rattle.arch_types.specs.declared.row.Row.{Row}
use Rattle.history_items.specs.declared.fills.Fill.{Fill}
use Rattle.history_items.specs.declared.items.Item.{Item}
use Rattle.history_items.specs.Items.{items_of}
use Rattle.field_codec.specs.declared.entry.Entry.{Entry}
use Rattle.field_codec.specs.declared.entry.Entry.TheVariants as kinds
use Rattle.field_codec.specs.Entries.{IsArchiveEntry}
use Rattle.intervals.specs.Interval.{format_1_exponent}
use Rattle.field_codec.specs.Spelling.{entry_octets}
use Rattle.seal_codec.specs.declared.seal.Seal.{Seal}
use Rattle.store_fills.specs.LastFills.{PlacedFills, fillings_in}
use Rattle.store_fills.specs.Sound.{no_fillings}
use Rattle.archive_images.specs.declared.head.Head.{Head}
use Rattle.archive_reading.specs.declared.partial.PartialArchive.{PartialArchive}
use Rattle.archive_images.specs.Entries.{FilledArchive, archive, dones_of, filled_archive, Applies, AreAdmitted}
use Rattle.archive_reading.specs.PartialArchive.{archive_made, fills_made, filled_made}
use Rattle.archive_images.specs.Stands.{Breaks}
use Rattle.archive_reading.proofs.Admitting.{breaks_entry}
use Rattle.archive_history.proofs.Steps.{if_ok}
use Rattle.archive_reading.proofs.entries.take_in.Goals as goal

-- the octets are an entry that makes this of what was there
abbrev IsTaken : Option PartialArchive → List ℕ → Option PartialArchive → Type 0
IsTaken was body made = (entry : Entry) × (body ≡ entry_octets entry) × (after : FilledArchive) × (archive_made made ≡ Some after) × Applies (archive_made was) entry after × (fills_made made ≡ fills_made was ++ dones_of (entry ∷ []))

-- a first head
takes_head : (was : Option PartialArchive) (head : Head) (begun : PartialArchive) → is_some was ≡ false → IsArchiveEntry (kinds.Head head.tables head.mdb) → filled_made begun ≡ filled_archive head format_1_exponent [] no_fillings
    → Applies (archive_made was) (kinds.Head head.tables head.mdb) (filled_made begun)
takes_head None head begun none fits made = (fits, made)
takes_head (Some before) head begun none fits made = absurd (true≢false none)

-- before it nothing is told of fills
none_told : (was : Option PartialArchive) → is_some was ≡ false → fills_made was ≡ []
none_told None none = refl
none_told (Some before) none = absurd (true≢false none)

-- rows that are admitted
takes_rows : (was : Option PartialArchive) (made now : PartialArchive) (rows : List Row) (body : List ℕ) → was ≡ Some made → body ≡ entry_octets (kinds.Rows rows) → (now.head ≡ made.head) × (now.sets.filled ≡ made.sets.filled)
    → now.history.exponent ≡ made.history.exponent → now.tracker.fills ≡ made.tracker.fills
    → AreAdmitted (archive made.head made.history.exponent made.history.items) rows × (now.history.items ≡ made.history.items ++ items_of rows) → IsTaken was body (Some now)
takes_rows was made now rows body is spelled same alike told ok = (
  kinds.Rows rows,
  spelled,
  filled_made now,
  refl,
  subst (λ (o : Option PartialArchive). Applies (archive_made o) (kinds.Rows rows) (filled_made now)) (sym is) (
    ok.0,
    ap (λ (h : Head). filled_archive h now.history.exponent now.history.items (fillings_in now.sets.filled)) same.0
        ∙ ap (λ (e : ℕ). filled_archive made.head e now.history.items (fillings_in now.sets.filled)) alike
        ∙ ap (λ (l : List Item). filled_archive made.head made.history.exponent l (fillings_in now.sets.filled)) ok.1
        ∙ ap (λ (f : PlacedFills). filled_archive made.head made.history.exponent (made.history.items ++ items_of rows) (fillings_in f)) same.1,
  ),
  told ∙ sym (ap fills_made is) ∙ sym (append-nil (fills_made was)),
)

-- a second head
no_second : (was : Option PartialArchive) (head : Head) (after : FilledArchive) → is_some was ≡ true → Applies (archive_made was) (kinds.Head head.tables head.mdb) after → ⊥
no_second None head after some takes = absurd (true≢false (sym some))
no_second (Some made) head after some takes = takes

pub returns-then-is_some-clause-no : goal.returns-then-is_some-clause-no
returns-then-is_some-clause-no c refused =
    let head : Head = record { tables = c.in-Ok-Head.tables; mdb = c.in-Ok-Head.mdb } in
    let spelled = rw c.in-Ok-Head.field-0-is at c.in-Ok-Head.ensures.spelled in
    breaks_entry (archive_made c.args.made.now) (kinds.Head head.tables head.mdb) c.args.body.now spelled.0 spelled.1
    (λ after. no_second c.args.made.now head after (sym c.if-is_some.ensures))

pub returns-in_ok-begun-in-Ok-Head-clause-yes : goal.returns-in_ok-begun-in-Ok-Head-clause-yes
returns-in_ok-begun-in-Ok-Head-clause-yes c ok =
    let head : Head = record { tables = c.in-Ok-Head.tables; mdb = c.in-Ok-Head.mdb } in
    let begun : PartialArchive = c.in_ok-begun-in-Ok-Head.begun in
    let spelled = rw c.in-Ok-Head.field-0-is at c.in-Ok-Head.ensures.spelled in (
      kinds.Head head.tables head.mdb,
      spelled.1,
      filled_made begun,
      refl,
      takes_head c.args.made.now head begun (sym c.if-is_some.ensures) spelled.0 c.in_ok-begun-in-Ok-Head.ensures.made,
      c.in_ok-begun-in-Ok-Head.ensures.fills ∙ sym (ap (λ (l : List Fill). l ++ []) (none_told c.args.made.now (sym c.if-is_some.ensures))),
    )

pub returns-in-Some-clause-yes : goal.returns-in-Some-clause-yes
returns-in-Some-clause-yes c =
    let made : PartialArchive = c.in-Some.made in
    let rows : List Row = c.in-Ok-Rows.rows in
    let body : List ℕ = c.args.body.now in
    let now : PartialArchive = c.admit.new.made in
    let spelled = rw c.in-Ok-Rows.field-0-is at c.in-Ok-Rows.ensures.spelled in
    if_ok c.admit.result (λ ok. ok ≡ true → AreAdmitted (archive made.head made.history.exponent made.history.items) rows × (now.history.items ≡ made.history.items ++ items_of rows)) (λ ok. ok ≡ true → IsTaken c.args.made.now body (Some now))
    (λ ok p is. takes_rows c.args.made.now made now rows body c.in-Some.is spelled.1 c.admit.ensures.head c.admit.ensures.tables.1 c.admit.ensures.fills (p is))
    c.admit.ensures.yes

-- ---- what names files, or stands at the head of one

no_seal : (was : Option PartialArchive) (seal : Seal) (after : FilledArchive) → Applies (archive_made was) (kinds.Seal seal) after → ⊥
no_seal None seal after takes = takes
no_seal (Some made) seal after takes = takes

no_log_head : (was : Option PartialArchive) (rows : ℕ) (after : FilledArchive) → Applies (archive_made was) (kinds.LogHead rows) after → ⊥
no_log_head None rows after takes = takes
no_log_head (Some made) rows after takes = takes

pub returns-in-Ok-Seal-clause-no : goal.returns-in-Ok-Seal-clause-no
returns-in-Ok-Seal-clause-no c refused =
    let seal = c.in-Ok-Seal._seal in
    let spelled = rw c.in-Ok-Seal.field-0-is at c.in-Ok-Seal.ensures.spelled in
    breaks_entry (archive_made c.args.made.now) (kinds.Seal seal) c.args.body.now spelled.0 spelled.1 (no_seal c.args.made.now seal)

pub returns-in-Ok-LogHead-clause-no : goal.returns-in-Ok-LogHead-clause-no
returns-in-Ok-LogHead-clause-no c refused =
    let rows = c.in-Ok-LogHead._rows in
    let spelled = rw c.in-Ok-LogHead.field-0-is at c.in-Ok-LogHead.ensures.spelled in
    breaks_entry (archive_made c.args.made.now) (kinds.LogHead rows) c.args.body.now spelled.0 spelled.1 (no_log_head c.args.made.now rows)

-- ---- a fill

pub take_fill-requires-clause-entry : goal.take_fill-requires-clause-entry
take_fill-requires-clause-entry c = let spelled = rw c.in-Ok-Fill.field-0-is at c.in-Ok-Fill.ensures.spelled in spelled.0

pub returns-in-Ok-Fill-clause-yes : goal.returns-in-Ok-Fill-clause-yes
returns-in-Ok-Fill-clause-yes c =
    let entry = kinds.Fill c.in-Ok-Fill.interval c.in-Ok-Fill.base c.in-Ok-Fill.set in
    let now = c.take_fill.new.made in
    let spelled = rw c.in-Ok-Fill.field-0-is at c.in-Ok-Fill.ensures.spelled in
    if_ok c.take_fill.result (λ ok. ok ≡ true → (after : FilledArchive) × (archive_made now ≡ Some after) × Applies (archive_made c.args.made.now) entry after × (fills_made now ≡ fills_made c.args.made.now ++ dones_of (entry ∷ []))) (λ ok. ok ≡ true → IsTaken c.args.made.now c.args.body.now now)
    (λ ok p is. let t = p is in (entry, spelled.1, t.0, t.1, t.2, t.3)) c.take_fill.ensures.yes

pub returns-in-Ok-Fill-clause-no : goal.returns-in-Ok-Fill-clause-no
returns-in-Ok-Fill-clause-no c =
    let entry = kinds.Fill c.in-Ok-Fill.interval c.in-Ok-Fill.base c.in-Ok-Fill.set in
    let spelled = rw c.in-Ok-Fill.field-0-is at c.in-Ok-Fill.ensures.spelled in
    if_ok c.take_fill.result (λ ok. ok ≡ false → (after : FilledArchive) → Applies (archive_made c.args.made.now) entry after → ⊥) (λ ok. ok ≡ false → Breaks (archive_made c.args.made.now) c.args.body.now)
    (λ ok p is. breaks_entry (archive_made c.args.made.now) entry c.args.body.now spelled.0 spelled.1 (p is)) c.take_fill.ensures.no
