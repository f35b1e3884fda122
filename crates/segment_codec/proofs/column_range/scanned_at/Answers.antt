use Rattle.std.proofs.lemmas.Result.{err_from_is_err_and}
use Rattle.segment_codec.proofs.Outlines.{front_fails, front_scanned, none_scanned}
use Rattle.segment_codec.proofs.Packing.{too_short}
use Rattle.segment_codec.proofs.column_range.scanned_at.Goals as goal

pub returns-then-octets-octet_len : goal.returns-then-octets-octet_len
returns-then-octets-octet_len c = none_scanned c.args.width c.args.count c.args.octets.now (too_short c.args.width c.args.count c.args.octets.now c.if-octets-octet_len.true)

pub returns-in_err-kept : goal.returns-in_err-kept
returns-in_err-kept c =
    let p = err_from_is_err_and c.from_residual.result c.from_residual.ensures.1 in
    rw (p.1, p.2) (front_fails c.args.width c.args.count c.args.octets.now c.split_at.result.0.now _ c.if-octets-octet_len.false c.split_at.ensures.front c.in_err-kept.ensures)

pub returns : goal.returns
returns c =
    rw c.split_at.ensures.back (front_scanned c.args.width c.args.count c.args.octets.now c.split_at.result.0.now c.in_ok-kept.kept c.if-octets-octet_len.false c.split_at.ensures.front c.in_ok-kept.ensures)
