use Rattle.std.proofs.Common.{◌≡◌, ◌+◌, ◌*◌, ◌^◌, ◌%◌, arith}
use Rattle.std.proofs.lemmas.Result.{IfOk-weaker}
use Rattle.segment_codec.specs.Bits.{number_from_digits}
use Rattle.segment_codec.proofs.Numbers.{high_below, in_two}
use Rattle.segment_codec.proofs.bits.put_wide.Goals as goal

pub put-requires-2-clause-number : goal.put-requires-2-clause-number
put-requires-2-clause-number c = high_below c.args.number c.args.width (omega arith) c.requires.number

pub returns-clause-written : goal.returns-clause-written
returns-clause-written c =
    IfOk-weaker c.put-3.result
    (λ after. number_from_digits 8 c.put-3.new.out.items * 2 ^ after.count + after.bits ≡ (number_from_digits 8 c.put-2.new.out.items * 2 ^ c.in_ok-middle.middle.count + c.in_ok-middle.middle.bits) * 2 ^ 64 + c.args.number % 2 ^ 64)
    (λ after. number_from_digits 8 c.put-3.new.out.items * 2 ^ after.count + after.bits ≡ (number_from_digits 8 c.args.out.now.items * 2 ^ c.args.pending.count + c.args.pending.bits) * 2 ^ c.args.width + c.args.number)
    (λ after e. in_two (number_from_digits 8 c.args.out.now.items * 2 ^ c.args.pending.count + c.args.pending.bits) _ _ c.args.number c.args.width c.if-width-le64.false c.in_ok-middle.ensures.written e)
    c.put-3.ensures.written
