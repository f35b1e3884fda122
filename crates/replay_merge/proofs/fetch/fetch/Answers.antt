use Rattle.std.proofs.lemmas.List.{take_rest}
use Rattle.replay_merge.proofs.Giving.{fault_before, fault_passed, given_before}
use Rattle.replay_merge.proofs.Reading.{rising_rest}
use Rattle.replay_merge.proofs.fetch.fetch.Goals as goal

pub read_day-requires-clause-rising : goal.read_day-requires-clause-rising
read_day-requires-clause-rising g c = rw (take_rest c.args.parts.now c.loop-read.read) (rising_rest c.loop-read.read c.args.parts.now c.requires)

pub returns-then-len-gt0-clause-given : goal.returns-then-len-gt0-clause-given
returns-then-len-gt0-clause-given g c = given_before c.loop-read.invariant.used c.in_ok-count.rows c.in_ok-count.ensures.given

pub returns-in_err-count-clause-refused : goal.returns-in_err-count-clause-refused
returns-in_err-count-clause-refused g c =
    fault_passed c.from_residual.result c.in_err-count.field-0.0 (g.R.RowSource.state c.args.source.now) (g.R.RowSource.state c.read_day.new.source) c.from_residual.ensures.1
    (fault_before c.loop-read.invariant.used c.loop-read.invariant.calm (g.R.RowSource.state c.read_day.new.source) c.in_err-count.field-0.0 c.in_err-count.ensures.refused)
