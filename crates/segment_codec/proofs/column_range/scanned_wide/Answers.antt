use Rattle.std.proofs.Common.{◌≡◌, ◌∙◌, ◌++◌, ◌∷◌, [], refl, sym, arith, length, map, pos}
use Rattle.std.proofs.lemmas.List.{map_push}
use Rattle.segment_codec.specs.Bits.{number_from_digits}
use Rattle.segment_codec.specs.RawColumn.{value_above}
use Rattle.segment_codec.proofs.Numbers.{number_from_digits-nil}
use Rattle.segment_codec.proofs.Outlines.{none_scanned, scan_ends, scanned_of}
use Rattle.segment_codec.proofs.Packing.{max_is, not_zero, read_none, unpacks_all, unpacks_one_more}
use Rattle.segment_codec.proofs.column_range.scanned_wide.Goals as goal

pub loop-init : goal.loop-init
loop-init c = record {
  pending = record { few = omega arith; bits = omega arith };
  len = omega (arith, c.requires.len);
  read = (
    [],
    record {
      count = refl;
      below = tt;
      ahead = read_none (length c.args.octets.now) (number_from_digits c.args.width []) (number_from_digits 8 c.args.octets.now) _ (number_from_digits-nil c.args.width) refl;
      values_are = refl;
      top_is = refl;
      zero_is = refl;
    },
  );
}

pub loop-preserved : goal.loop-preserved
loop-preserved c =
    let r = c.loop.invariant.read in
    let n = c.take_wide-number.result.0 in
    record {
      pending = c.take_wide-number.ensures.pending;
      len = omega (arith, c.take_wide-number.ensures.len, c.loop.invariant.len);
      read = (r.0 ++ n ∷ [], unpacks_one_more c.args.width (pos 0) c.loop.counter _ _ _ _ _ _ _ _ _ _ _ r.0 n (value_above (pos 0) n) r.1 c.take_wide-number.ensures.number (sym c.take_wide-number.ensures.len) c.take_wide-number.ensures.same (map_push (value_above (pos 0)) r.0 n) refl (c.max-top.ensures ∙ max_is _ _) refl);
    }

pub returns-then-pending-ne0 : goal.returns-then-pending-ne0
returns-then-pending-ne0 c =
    let i = c.loop.invariant in
    let all : c.loop.counter ≡ c.args.count = omega arith in
    let e = scan_ends c.args.width c.loop.counter c.args.count c.args.octets.now c.loop.rest.now c.loop.pending.bits c.loop.pending.count _ _ _ i.read.0 c.requires.len all i.pending.bits i.len i.read.1 in
    none_scanned c.args.width c.args.count c.args.octets.now (e ∙ rw (not_zero c.loop.pending.bits c.if-pending-ne0.true) refl)

pub returns : goal.returns
returns c =
    let i = c.loop.invariant in
    let r = i.read in
    let all : c.loop.counter ≡ c.args.count = omega arith in
    let e = scan_ends c.args.width c.loop.counter c.args.count c.args.octets.now c.loop.rest.now c.loop.pending.bits c.loop.pending.count _ _ _ r.0 c.requires.len all i.pending.bits i.len r.1 in
    let zero : c.loop.pending.bits ≡ 0 = omega (arith, c.if-pending-ne0.false) in
    scanned_of c.args.width c.args.count c.args.octets.now [] (pos 0) (map (value_above (pos 0)) r.0) c.loop.top c.loop.has_zero
    (unpacks_all c.args.width c.loop.counter c.args.count (pos 0) c.args.octets.now [] _ _ _ (map (value_above (pos 0)) r.0) c.loop.top c.loop.has_zero r.0 r.1 (e ∙ rw zero refl))
