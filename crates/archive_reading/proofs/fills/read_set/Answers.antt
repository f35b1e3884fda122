use Rattle.archive_reading.proofs.fills.read_set.Goals as goal

pub returns-in-Ok : goal.returns-in-Ok
returns-in-Ok c = (c.in-Ok.ensures.spelled.0, c.in-Ok.ensures.spelled.1, c.in-Ok.ensures.value)

pub returns-in-Err-Malformed : goal.returns-in-Err-Malformed
returns-in-Err-Malformed c rows is same = let free = rw c.in-Err-Malformed.field-0-is at c.in-Err-Malformed.ensures.each rows is same in absurd (cc (free))
