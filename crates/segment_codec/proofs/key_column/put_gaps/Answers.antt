use Rattle.std.proofs.Common.{sym, ◌∙◌, pos}
use Rattle.segment_codec.proofs.Looping.{gaps_more, gaps_end}
use Rattle.segment_codec.proofs.key_column.put_gaps.Goals as goal

pub loop-key-preserved : goal.loop-key-preserved
loop-key-preserved c =
    gaps_more c.loop-key.out.items c.put_key_gap.new.out.items c.loop-key.last c.args.keys.now c.loop-key.key-index (record { time = pos 0; seq = 0 }) c.loop-key-test.true c.in_ok-put_key_gap.ensures ∙ c.loop-key.invariant

pub returns : goal.returns
returns c = sym (gaps_end c.loop-key.out.items c.loop-key.last c.args.keys.now c.loop-key.key-index c.loop-key-test.false) ∙ c.loop-key.invariant
