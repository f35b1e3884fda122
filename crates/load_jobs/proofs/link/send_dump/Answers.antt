use Rattle.std.proofs.Common.{[], Err, arith, refl}
use Rattle.refusals.specs.declared.refusal.Refusal.TheVariants as refused
use Rattle.load_jobs.proofs.Ended.{all_taken, end_of_reading, read_counted, read_to}
use Rattle.load_jobs.proofs.Pieces.{nothing_read}
use Rattle.load_jobs.proofs.Underway.{nothing_sent}
use Rattle.load_jobs.proofs.link.send_dump.Goals as goal

-- what was read is sent but for what is in hand

pub send_rest-sent-requires-clause-in_hand : goal.send_rest-sent-requires-clause-in_hand
send_rest-sent-requires-clause-in_hand g c = let b = c.in-Ok-read.ensures.sent.sent in (b.in_hand, b.underway.taken)

pub send_rest-sent-requires-clause-none_waits : goal.send_rest-sent-requires-clause-none_waits
send_rest-sent-requires-clause-none_waits g c = c.in-Ok-read.ensures.sent.sent.none_waits

-- no more was read, and what was read was sent

pub returns-clause-run : goal.returns-clause-run
returns-clause-run g c =
    let up = c.in-Ok-read.ensures.sent in
    let b = up.sent in
    let answer = c.send_rest-sent.result in
    let sent = c.send_rest-sent.ensures.sent c.args.pass.now up.read b.sent b.in_hand b.whole b.underway in
    let ended = c.of_reading.ensures in
    let left = (g.S.Source.state c.args.source.now).left in
    let left' = (g.S.Source.state c.send_read-read.new.source).left in
    let waits = c.send_read-read.new.progress.splitter.octets in
    let why_is = c.send_rest-sent.ensures.why in
    record {
      put = sent.0;
      added = sent.1;
      read = up.read;
      read_to = read_to left up.read waits up.read_of left' c.in-Ok-read.reading answer c.of_reading.result ended up.ends why_is;
      all_taken = all_taken left left' up.read waits c.in-Ok-read.reading answer c.of_reading.result ended up.ends;
      short = up.short;
      answer = answer;
      sent = sent.2;
      ended = end_of_reading left left' up.read waits c.in-Ok-read.reading answer c.of_reading.result ended up.ends why_is;
    }

pub returns-clause-counted : goal.returns-clause-counted
returns-clause-counted g c = read_counted c.in-Ok-read.reading c.send_rest-sent.result c.of_reading.result _ _ c.of_reading.ensures c.in-Ok-read.ensures.counted

-- a batch was refused, or memory was wanting

pub returns-in-Err-clause-run : goal.returns-in-Err-clause-run
returns-in-Err-clause-run g c =
    let at = c.in-Err.ensures.refused in
    record { put = at.answered.0; added = at.answered.1; read = at.read; read_to = at.read_of; all_taken = tt; short = at.short; answer = Err c.in-Err.refusal; sent = at.answered.2; ended = refl }

-- there was no memory to begin

pub returns-in_default-clause-run : goal.returns-in_default-clause-run
returns-in_default-clause-run g c =
    let sent = nothing_sent g.D.Disk.device _ _ c.args.pass.now c.requires.can.fresh in
    record { put = sent.0; added = sent.1; read = []; read_to = nothing_read (g.S.Source.state c.args.source.now).left; all_taken = tt; short = omega arith; answer = Err refused.OutOfMemory; sent = sent.2; ended = refl }
