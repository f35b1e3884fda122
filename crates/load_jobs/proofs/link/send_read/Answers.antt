use Rattle.std.proofs.Common.{◌+◌, ◌++◌, [], inl, inr, Err, refl, sym, ap, ◌∙◌, length, arith, length-append}
use Rattle.std.proofs.lemmas.Result.{err_from_is_err_and}
use Rattle.outer_traits.proofs.Taken.{taken_end, taken_none}
use Rattle.space_packet.specs.Rest.{why_of}
use Rattle.space_packet.specs.Waiting.{Waiting}
use Rattle.archive_store.specs.Pages.{TellsRows}
use Rattle.load_session.specs.Receiving.{Receiving, receiving}
use Rattle.load_jobs.specs.Underway.{IsBetweenReads, IsUnderway}
use Rattle.dump_pieces.proofs.Pieces.{no_octets, read_fewer, taken_then}
use Rattle.load_jobs.proofs.Pieces.{at_version, no_version_at, read_of}
use Rattle.load_jobs.proofs.Splits.{read_of_split}
use Rattle.load_jobs.proofs.Underway.{begun_waits, no_memory_at, underway_begun, underway_fed, within_begun, within_fed}
use Rattle.load_jobs.proofs.link.send_read.Goals as goal

pub pieces-init : goal.pieces-init
pieces-init g c =
    let at = c.args.reception.now in
    let r : Receiving = receiving at.head.now c.args.pass.now.history.seen at.graph.now at.link at.moment in
    let begun = c.requires.begun in
    let can = c.requires.can in
    let waits = ap (λ w. w.at) begun.waiting in
    let octets = ap (λ w. length w.octets) begun.waiting in
    let octets_are = ap (λ (w : Waiting). w.octets) begun.waiting in
    let sent : IsBetweenReads (TellsRows g.D.Disk.device c.args.live.now.cell.first.store) r [] c.args.pass.now c.args.pass.now c.args.progress.now = record {
      sent = [];
      in_hand = [];
      underway = underway_begun r c.args.pass.now c.args.progress.now can.alone can.fresh can.moment begun;
      whole = (0, refl);
      none_waits = begun_waits at.moment c.args.progress.now begun;
    } in
    record {
      over = omega (arith, c.in_ok-over.ensures);
      free = c.requires.free;
      in_hand = ([], sent.underway.taken);
      within = within_begun at.moment c.args.progress.now begun;
      room = omega (arith, waits, octets);
      read = ([], taken_none (g.S.Source.state c.args.source.now).left, sent);
      no_fault = refl;
      reliable = λ never. (never, refl);
      no_version = λ version. absurd (let none = ap why_of octets_are in let both = sym none ∙ version in cc both);
    }

-- ---- a piece

-- what is in hand stays so
pub send_waiting-requires-clause-in_hand : goal.send_waiting-requires-clause-in_hand
send_waiting-requires-clause-in_hand g c = rw c.feed.ensures.in_hand c.pieces.invariant.in_hand

-- what waits has room
pub send_waiting-requires-clause-within : goal.send_waiting-requires-clause-within
send_waiting-requires-clause-within g c =
    let room = c.pieces.invariant.room in
    let fits = c.in-Ok.ensures.within in
    let same = c.feed.ensures.counts in
    within_fed c.pieces.progress c.feed.new.self c.in-Ok.piece c.pieces.invariant.within c.in_ok-feed.ensures.fed c.feed.ensures.in_hand same.0 same.1 same.2 (omega (arith, room, fits))

pub pieces-preserved : goal.pieces-preserved
pieces-preserved g c =
    let at = c.args.reception.now in
    let r : Receiving = receiving at.head.now c.args.pass.now.history.seen at.graph.now at.link at.moment in
    let i = c.pieces.invariant in
    let was = i.read in
    let b = was.2 in
    let piece = c.in-Ok.piece in
    let q = c.feed.new.self in
    let same = c.feed.ensures.counts in
    let fed : IsUnderway (TellsRows g.D.Disk.device c.args.live.now.cell.first.store) r (was.0 ++ piece) b.sent [] b.in_hand c.args.pass.now c.pieces.pass q =
    underway_fed r was.0 piece b.sent b.in_hand c.args.pass.now c.pieces.pass c.pieces.progress q b.underway c.in_ok-feed.ensures.fed c.feed.ensures.in_hand same.0 same.1 same.2 in
    let on = c.in_ok-send_waiting.ensures.sent c.args.pass.now (was.0 ++ piece) b.sent b.in_hand b.whole fed in
    let room = i.room in
    let fits = c.in-Ok.ensures.within in
    let level = c.in_ok-send_waiting.ensures.level in
    let longer = length-append c.pieces.progress.splitter.octets piece in
    let waits = ap (λ (w : Waiting). w.at + length w.octets) c.in_ok-feed.ensures.fed in
    record {
      over = omega (arith, i.over, c.read_piece.ensures.stays);
      free = c.send_waiting.ensures.free;
      in_hand = c.in_ok-send_waiting.ensures.in_hand;
      within = c.in_ok-send_waiting.ensures.within;
      room = omega (arith, room, fits, level, longer, waits);
      read = (was.0 ++ piece, taken_then (g.S.Source.state c.args.source.now).left (g.S.Source.state c.pieces.source).left (g.S.Source.state c.read_piece.new.source).left was.0 piece was.1 c.in-Ok.ensures.piece.taken, on);
      no_fault = c.in-Ok.ensures.counted ∙ i.no_fault;
      reliable = λ never. (let before = i.reliable never in let now = c.read_piece.ensures.reliable before.0 in (now.0, now.1 ∙ before.1));
      no_version = λ version. no_version_at (why_of c.send_waiting.new.progress.splitter.octets) (sym c.is_at_version.ensures ∙ c.if-is_at_version.false) version;
    }

-- ---- no more is read

-- it was read to its end
pub returns-then-len-eq0-clause-sent : goal.returns-then-len-eq0-clause-sent
returns-then-len-eq0-clause-sent g c =
    let was = c.pieces.invariant.read in
    let first = (g.S.Source.state c.args.source.now).left in
    let left = (g.S.Source.state c.pieces.source).left in
    let all = read_of_split was.0 (was.2.sent ++ was.2.in_hand) c.pieces.progress.splitter was.2.underway.split in
    let fits = c.pieces.invariant.within.octets in
    record {
      read = was.0;
      read_of = read_of first left was.0 was.1;
      short = omega (arith, all, fits);
      sent = was.2;
      ends = inl (taken_end first left was.0 was.1 (c.in-Ok.ensures.piece.end (no_octets c.in-Ok.piece (omega (arith, c.if-len-eq0.true)))));
    }

-- a read failed
pub returns-in-Err-Failed-clause-sent : goal.returns-in-Err-Failed-clause-sent
returns-in-Err-Failed-clause-sent g c =
    let was = c.pieces.invariant.read in
    let all = read_of_split was.0 (was.2.sent ++ was.2.in_hand) c.pieces.progress.splitter was.2.underway.split in
    let fits = c.pieces.invariant.within.octets in
    record {
      read = was.0;
      read_of = read_of (g.S.Source.state c.args.source.now).left (g.S.Source.state c.pieces.source).left was.0 was.1;
      short = omega (arith, all, fits);
      sent = was.2;
      ends = rw (c.in-Err-Failed.ensures.kept (ap Err c.in-Err-Failed.field-0-is)) was.1;
    }

pub returns-in-Err-Failed-clause-reliable : goal.returns-in-Err-Failed-clause-reliable
returns-in-Err-Failed-clause-reliable g c = λ never. (let before = c.pieces.invariant.reliable never in let now = c.read_piece.ensures.reliable before.0 in now.1 ∙ before.1)

-- it has an octet past the limit
pub returns-in-Err-TooLong-clause-sent : goal.returns-in-Err-TooLong-clause-sent
returns-in-Err-TooLong-clause-sent g c =
    let was = c.pieces.invariant.read in
    let first = (g.S.Source.state c.args.source.now).left in
    let left = (g.S.Source.state c.pieces.source).left in
    let all = read_of_split was.0 (was.2.sent ++ was.2.in_hand) c.pieces.progress.splitter was.2.underway.split in
    let room = c.pieces.invariant.room in
    let none = rw c.in-Err-TooLong.field-0-is at c.in-Err-TooLong.ensures.none in
    let no_room = none.0 in
    record {
      read = was.0;
      read_of = read_of first left was.0 was.1;
      short = omega (arith, all, room, no_room);
      sent = was.2;
      ends = (omega (arith, all, room, no_room), c.pieces.invariant.no_version, read_fewer first left was.0 was.1 none.1);
    }

-- another packet version number waits
pub returns-then-is_at_version-clause-sent : goal.returns-then-is_at_version-clause-sent
returns-then-is_at_version-clause-sent g c =
    let at = c.args.reception.now in
    let r : Receiving = receiving at.head.now c.args.pass.now.history.seen at.graph.now at.link at.moment in
    let was = c.pieces.invariant.read in
    let b = was.2 in
    let piece = c.in-Ok.piece in
    let q = c.feed.new.self in
    let same = c.feed.ensures.counts in
    let fed : IsUnderway (TellsRows g.D.Disk.device c.args.live.now.cell.first.store) r (was.0 ++ piece) b.sent [] b.in_hand c.args.pass.now c.pieces.pass q =
    underway_fed r was.0 piece b.sent b.in_hand c.args.pass.now c.pieces.pass c.pieces.progress q b.underway c.in_ok-feed.ensures.fed c.feed.ensures.in_hand same.0 same.1 same.2 in
    let on = c.in_ok-send_waiting.ensures.sent c.args.pass.now (was.0 ++ piece) b.sent b.in_hand b.whole fed in
    let all = read_of_split (was.0 ++ piece) (on.sent ++ on.in_hand) c.send_waiting.new.progress.splitter on.underway.split in
    let fits = c.in_ok-send_waiting.ensures.within.octets in
    record {
      read = was.0 ++ piece;
      read_of = read_of (g.S.Source.state c.args.source.now).left (g.S.Source.state c.read_piece.new.source).left (was.0 ++ piece)
          (taken_then (g.S.Source.state c.args.source.now).left (g.S.Source.state c.pieces.source).left (g.S.Source.state c.read_piece.new.source).left was.0 piece was.1 c.in-Ok.ensures.piece.taken);
      short = omega (arith, all, fits);
      sent = on;
      ends = inr (at_version (why_of c.send_waiting.new.progress.splitter.octets) (sym c.is_at_version.ensures ∙ c.if-is_at_version.true));
    }

-- ---- a refusal

pub returns-in_err-over-clause-refused : goal.returns-in_err-over-clause-refused
returns-in_err-over-clause-refused g c =
    let at = c.args.reception.now in
    let r : Receiving = receiving at.head.now c.args.pass.now.history.seen at.graph.now at.link at.moment in
    let can = c.requires.can in
    let begun = c.requires.begun in
    let left = (g.S.Source.state c.args.source.now).left in
    let p = err_from_is_err_and c.from_residual.result c.from_residual.ensures.1 in
    rw (p.1, p.2) (no_memory_at g.D.Disk.device c.args.live.now.cell.first.store r left left [] c.args.pass.now c.args.pass.now c.args.progress.now refl (taken_none left)
    (record {
      sent = [];
      in_hand = [];
      underway = underway_begun r c.args.pass.now c.args.progress.now can.alone can.fresh can.moment begun;
      whole = (0, refl);
      none_waits = begun_waits at.moment c.args.progress.now begun;
    })
    (within_begun at.moment c.args.progress.now begun))

pub returns-in-Err-OutOfMemory-clause-refused : goal.returns-in-Err-OutOfMemory-clause-refused
returns-in-Err-OutOfMemory-clause-refused g c =
    let at = c.args.reception.now in
    let r : Receiving = receiving at.head.now c.args.pass.now.history.seen at.graph.now at.link at.moment in
    let was = c.pieces.invariant.read in
    no_memory_at g.D.Disk.device c.args.live.now.cell.first.store r (g.S.Source.state c.args.source.now).left (g.S.Source.state c.pieces.source).left was.0 c.args.pass.now c.pieces.pass c.pieces.progress refl was.1 was.2 c.pieces.invariant.within

pub returns-in-Err-OutOfMemory-clause-reliable : goal.returns-in-Err-OutOfMemory-clause-reliable
returns-in-Err-OutOfMemory-clause-reliable g c = λ never. (let before = c.pieces.invariant.reliable never in let now = c.read_piece.ensures.reliable before.0 in now.1 ∙ before.1)

pub returns-in-Err-OutOfMemory-clause-counted : goal.returns-in-Err-OutOfMemory-clause-counted
returns-in-Err-OutOfMemory-clause-counted g c = (rw c.in-Err-OutOfMemory.field-0-is at c.in-Err-OutOfMemory.ensures.counted) ∙ c.pieces.invariant.no_fault

-- a source that is read is there
pub returns-in-Err-Missing : goal.returns-in-Err-Missing
returns-in-Err-Missing g c = absurd (rw c.in-Err-Missing.field-0-is at c.in-Err-Missing.ensures.none)

pub returns-in_err-feed-clause-refused : goal.returns-in_err-feed-clause-refused
returns-in_err-feed-clause-refused g c =
    let at = c.args.reception.now in
    let r : Receiving = receiving at.head.now c.args.pass.now.history.seen at.graph.now at.link at.moment in
    let was = c.pieces.invariant.read in
    let p = err_from_is_err_and c.from_residual-in_err-feed.result c.from_residual-in_err-feed.ensures.1 in
    rw (p.1, p.2)
    (no_memory_at g.D.Disk.device c.args.live.now.cell.first.store r (g.S.Source.state c.args.source.now).left (g.S.Source.state c.pieces.source).left was.0 c.args.pass.now c.pieces.pass c.pieces.progress refl was.1 was.2 c.pieces.invariant.within)

pub returns-in_err-send_waiting-clause-refused : goal.returns-in_err-send_waiting-clause-refused
returns-in_err-send_waiting-clause-refused g c =
    let at = c.args.reception.now in
    let r : Receiving = receiving at.head.now c.args.pass.now.history.seen at.graph.now at.link at.moment in
    let was = c.pieces.invariant.read in
    let b = was.2 in
    let piece = c.in-Ok.piece in
    let q = c.feed.new.self in
    let same = c.feed.ensures.counts in
    let fed : IsUnderway (TellsRows g.D.Disk.device c.args.live.now.cell.first.store) r (was.0 ++ piece) b.sent [] b.in_hand c.args.pass.now c.pieces.pass q =
    underway_fed r was.0 piece b.sent b.in_hand c.args.pass.now c.pieces.pass c.pieces.progress q b.underway c.in_ok-feed.ensures.fed c.feed.ensures.in_hand same.0 same.1 same.2 in
    let all = read_of_split (was.0 ++ piece) (b.sent ++ b.in_hand) q.splitter fed.split in
    let room = c.pieces.invariant.room in
    let fits = c.in-Ok.ensures.within in
    let longer = length-append c.pieces.progress.splitter.octets piece in
    let waits = ap (λ (w : Waiting). w.at + length w.octets) c.in_ok-feed.ensures.fed in
    let p = err_from_is_err_and c.from_residual-in_err-send_waiting.result c.from_residual-in_err-send_waiting.ensures.1 in
    rw (p.1, p.2) (record {
      read = was.0 ++ piece;
      read_of = read_of (g.S.Source.state c.args.source.now).left (g.S.Source.state c.read_piece.new.source).left (was.0 ++ piece)
          (taken_then (g.S.Source.state c.args.source.now).left (g.S.Source.state c.pieces.source).left (g.S.Source.state c.read_piece.new.source).left was.0 piece was.1 c.in-Ok.ensures.piece.taken);
      short = omega (arith, all, room, fits, longer, waits);
      answered = c.in_err-send_waiting.ensures.refused c.args.pass.now (was.0 ++ piece) b.sent b.in_hand b.whole fed;
    })
