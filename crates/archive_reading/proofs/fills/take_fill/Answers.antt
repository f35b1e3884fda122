use Rattle.std.proofs.Common.{◌≡◌, ◌++◌, List, [], ◌∷◌, Option, Some, true, false, refl, sym, ◌∙◌, ap, subst}
use Rattle.std.specs.Prelude.{length}
use Rattle.history_items.specs.declared.fills.Fill.{Fill}
use Rattle.history_items.specs.declared.fills.Fill.TheVariants.{Done}
use Rattle.field_codec.specs.declared.entry.Entry.TheVariants as kinds
use Rattle.field_codec.specs.Entries.{IsArchiveEntry}
use Rattle.archive_history.specs.History.{HistoryView}
use Rattle.archive_history.proofs.Steps.{if_ok}
use Rattle.archive_images.specs.declared.head.Head.{Head}
use Rattle.archive_reading.specs.declared.partial.PartialArchive.{PartialArchive}
use Rattle.archive_images.specs.Entries.{Applies, FilledArchive, IsFillable}
use Rattle.archive_reading.specs.PartialArchive.{IsReadHistory, archive_made, fills_made, filled_made}
use Rattle.archive_reading.proofs.fills.take_fill.Goals as goal

-- the tables of what has the same head and history
tables_rest : (made now : PartialArchive) → (now.head ≡ made.head) × (now.history ≡ made.history) → IsReadHistory (Some made) → IsReadHistory (Some now)
tables_rest made now rest has = (
  (ap (λ (h : HistoryView). h.tables) rest.1 ∙ has.0.0 ∙ ap (λ (h : Head). length h.tables) (sym rest.0), ap (λ (h : HistoryView). h.exponent) rest.1 ∙ has.0.1),
  subst (λ (h : Head). IsArchiveEntry (kinds.Head h.tables h.mdb)) (sym rest.0) has.1,
)

pub returns-in-Some-clause-yes : goal.returns-in-Some-clause-yes
returns-in-Some-clause-yes c =
    let made : PartialArchive = c.in-Some.made in
    let now : PartialArchive = c.admit_fill.new.made in
    let entry = kinds.Fill c.args.interval c.args.base c.args.octets in
    let more : List Fill = Done c.args.interval c.args.base ∷ [] in
    if_ok c.admit_fill.result (λ ok. ok ≡ true → Applies (Some (filled_made made)) entry (filled_made now) × (now.tracker.fills ≡ made.tracker.fills ++ more))
    (λ ok. ok ≡ true → (after : FilledArchive) × (archive_made (Some now) ≡ Some after) × Applies (archive_made c.args.made.now) entry after × (now.tracker.fills ≡ fills_made c.args.made.now ++ more))
    (λ ok p is. (
      filled_made now,
      refl,
      subst (λ (o : Option PartialArchive). Applies (archive_made o) entry (filled_made now)) (sym c.in-Some.is) (p is).0,
      (p is).1 ∙ ap (λ (o : Option PartialArchive). fills_made o ++ more) (sym c.in-Some.is),
    ))
    c.admit_fill.ensures.yes

pub returns-in-Some-clause-no : goal.returns-in-Some-clause-no
returns-in-Some-clause-no c =
    let made : PartialArchive = c.in-Some.made in
    let entry = kinds.Fill c.args.interval c.args.base c.args.octets in
    if_ok c.admit_fill.result (λ ok. ok ≡ false → IsFillable (filled_made made) c.args.interval c.args.base c.args.octets → ⊥) (λ ok. ok ≡ false → (after : FilledArchive) → Applies (archive_made c.args.made.now) entry after → ⊥)
    (λ ok p is after takes. p is (subst (λ (o : Option PartialArchive). Applies (archive_made o) entry after) c.in-Some.is takes).0)
    c.admit_fill.ensures.no

pub returns-in-Some-clause-tables : goal.returns-in-Some-clause-tables
returns-in-Some-clause-tables c = tables_rest c.in-Some.made c.admit_fill.new.made c.admit_fill.ensures.rest (subst IsReadHistory c.in-Some.is c.requires.tables)

pub returns-in-None-clause-no : goal.returns-in-None-clause-no
returns-in-None-clause-no c refused after takes = subst (λ (o : Option PartialArchive). Applies (archive_made o) (kinds.Fill c.args.interval c.args.base c.args.octets) after) c.in-None.is takes
