use Rattle.std.proofs.Common.{◌≡◌, ℕ, ◌+◌, ◌-◌, ◌*◌, ◌^◌, ◌++◌, refl, ap, ◌∙◌, List, arith}
use Rattle.std.proofs.lemmas.Nat.{pow_below}
use Rattle.segment_codec.proofs.Numbers.{joined, cut, written}
use Rattle.segment_codec.proofs.bits.put_full.Goals as goal

pub overflow_add-bits : goal.overflow_add-bits
overflow_add-bits c =
    let j = joined c.args.pending.bits c.args.number c.args.pending.count c.args.width c.requires.pending.few c.requires.pending.bits c.requires.width c.requires.number in
    let top = pow_below (c.args.pending.count + c.args.width) 128 (omega (arith, c.requires.pending.few, c.requires.width)) in
    rw (j.0, c.from.ensures) (record { fits = omega (arith, j.1, top) })

pub overflow_cast-high-2 : goal.overflow_cast-high-2
overflow_cast-high-2 c =
    let full = c.requires.full in
    let j = joined c.args.pending.bits c.args.number c.args.pending.count c.args.width c.requires.pending.few c.requires.pending.bits c.requires.width c.requires.number in
    let s = c.args.pending.count + c.args.width - 64 in
    let same : c.args.pending.count + c.args.width ≡ 64 + s = omega arith in
    let q = cut (c.args.pending.bits * 2 ^ c.args.width + c.args.number) s (rw (← same) j.1) (omega arith) in
    rw (j.0, c.from.ensures) (record { fits = q.0 })

pub returns-clause-pending : goal.returns-clause-pending
returns-clause-pending c =
    let full = c.requires.full in
    let j = joined c.args.pending.bits c.args.number c.args.pending.count c.args.width c.requires.pending.few c.requires.pending.bits c.requires.width c.requires.number in
    let s = c.args.pending.count + c.args.width - 64 in
    let same : c.args.pending.count + c.args.width ≡ 64 + s = omega arith in
    let q = cut (c.args.pending.bits * 2 ^ c.args.width + c.args.number) s (rw (← same) j.1) (omega arith) in
    record { few = omega arith; bits = rw (j.0, c.from.ensures, q.1) q.2 }

pub returns-clause-written : goal.returns-clause-written
returns-clause-written c =
    let full = c.requires.full in
    let b = c.args.pending.bits in
    let n = c.args.number in
    let w = c.args.width in
    let j = joined b n c.args.pending.count w c.requires.pending.few c.requires.pending.bits c.requires.width c.requires.number in
    let s = c.args.pending.count + w - 64 in
    let same : c.args.pending.count + w ≡ 64 + s = omega arith in
    let q = cut (b * 2 ^ w + n) s (rw (← same) j.1) (omega arith) in
    rw (j.0, c.from.ensures, q.1) (written c.args.out.now.items c.extend_from_slice.new.self.items b n c.args.pending.count w s (b * 2 ^ w + n) refl q.0 same (c.in_ok-extend_from_slice.ensures.items ∙ ap (λ (w : List ℕ). c.args.out.now.items ++ w) (rw (c.to_be_bytes.ensures, j.0, c.from.ensures) refl)))
