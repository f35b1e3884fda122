-- Powers of ten.
use Rattle.std.proofs.Common.{◌≡◌, ◌∙◌, ◌+◌, ◌-◌, ◌*◌, ◌^◌, ◌<◌, ◌≤◌, ℕ, arith, sym, ap}
use Rattle.std.proofs.Math.Nat.{one-le-pow, mul-lt-mul_of_pos_right}
use Rattle.std.proofs.lemmas.Nat.{pow-add}

-- digits after a point are below one
pub fraction_small : (f len : ℕ) → f < 10 ^ len → len ≤ 6 → f * 10 ^ (6 - len) < 1000000
fraction_small f len less fits =
    let p : 0 < 10 = omega arith in
    let q : 0 < 10 ^ (6 - len) = one-le-pow (6 - len) 10 p in
    let below : f * 10 ^ (6 - len) < 10 ^ len * 10 ^ (6 - len) = mul-lt-mul_of_pos_right less q in
    let n : len + (6 - len) ≡ 6 = omega arith in
    let e : 10 ^ len * 10 ^ (6 - len) ≡ 10 ^ 6 = sym (pow-add 10 len (6 - len)) ∙ ap (λ (k : ℕ). 10 ^ k) n in
    omega arith
