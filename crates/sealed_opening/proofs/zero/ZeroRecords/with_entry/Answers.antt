use Rattle.std.proofs.Common.{◌≡◌, [], sym, subst}
use Rattle.archive_images.specs.Entries.{HasArchivedRows}
use Rattle.archive_images.proofs.Archived.{applied_archived}
use Rattle.archive_reading.specs.PartialArchive.{archive_made}
use Rattle.sealed_opening.proofs.ZeroTaken.{no_entry_more, none_left, some_left}
use Rattle.sealed_opening.proofs.zero.ZeroRecords.with_entry.Goals as goal

pub take_in-requires : goal.take_in-requires
take_in-requires c = record { tables = c.requires.kept.base.0; marks = c.requires.kept.base.1 }

pub returns-then-not-is_empty-clause-none : goal.returns-then-not-is_empty-clause-none
returns-then-not-is_empty-clause-none c =
    no_entry_more c.args.self c.args.body.now c.requires.no_seal
    (λ entry after empty spells applies. some_left c.args.self.seals.items c.as_slice.result.now c.is_empty.result c.as_slice.ensures.value c.is_empty.ensures c.if-not-is_empty.true empty)

pub returns-then-not-is_taken-clause-none : goal.returns-then-not-is_taken-clause-none
returns-then-not-is_taken-clause-none c =
    no_entry_more c.args.self c.args.body.now c.requires.no_seal (λ entry after empty spells applies. c.in_ok-is_taken.ensures.no c.if-not-is_taken.true entry after spells applies)

pub returns-clause-taken : goal.returns-clause-taken
returns-clause-taken c =
    let y = c.in_ok-is_taken.ensures.yes c.if-not-is_taken.false in
    let none : c.args.self.seals.items ≡ [] = none_left c.args.self.seals.items c.as_slice.result.now c.is_empty.result c.as_slice.ensures.value c.is_empty.ensures c.if-not-is_empty.false in
    record { entry = y.0; after = y.2; body_is = y.1; no_seal = none; still_none = none; applies = y.4; archive_is = y.3; fills = y.5 }

pub returns-clause-kept : goal.returns-clause-kept
returns-clause-kept c =
    let y = c.in_ok-is_taken.ensures.yes c.if-not-is_taken.false in
    let base = c.requires.kept.base in
    record {
      base = (c.take_in.ensures.tables, c.in_ok-is_taken.ensures.marks c.if-not-is_taken.false, subst HasArchivedRows (sym y.3) (applied_archived (archive_made c.args.self.made) y.0 y.2 base.2 y.4));
      follow = c.requires.kept.follow;
    }
