use Rattle.std.proofs.lemmas.Result.{err_from_is_err_and}
use Rattle.segment_codec.proofs.Looping.{keys_start, keys_none, keys_more, keys_ended, keys_done}
use Rattle.segment_codec.proofs.key_column.keys_at.Goals as goal

pub returns-in_err-first : goal.returns-in_err-first
returns-in_err-first c =
    let p = err_from_is_err_and c.from_residual.result c.from_residual.ensures.1 in
    rw (p.1, p.2) (keys_none c.args.count c.args.octets.now c.in_err-first.ensures)

pub returns-in_err-key : goal.returns-in_err-key
returns-in_err-key c =
    let p = err_from_is_err_and c.from_residual-in_err-key.result c.from_residual-in_err-key.ensures.1 in
    rw (p.1, p.2) (keys_ended c.args.count c.loop.counter c.loop.keys c.loop.last c.loop.rest.now _ c.loop-test.true c.in_err-key.ensures c.loop.invariant)

pub loop-init : goal.loop-init
loop-init c = rw (c.in_ok-push.ensures.ok, c.from_vec-keys.ensures, c.in_ok-with_capacity.ensures.items) (keys_start c.args.count c.args.octets.now c.in_ok-first.first c.in_ok-first.after_first.now c.requires c.in_ok-first.ensures)

pub loop-preserved : goal.loop-preserved
loop-preserved c = rw c.in_ok-push-2.ensures.ok (keys_more c.args.count c.loop.counter c.loop.keys c.loop.last c.in_ok-key.key c.loop.rest.now c.in_ok-key.after.now _ c.loop-test.true c.in_ok-key.ensures c.loop.invariant)

pub returns : goal.returns
returns c = keys_done c.args.count c.loop.counter c.loop.keys c.loop.last c.loop.rest.now _ c.loop-test.false c.loop.invariant
