-- Powers of ten.
use Rattle.std.proofs.Common.{◌^◌, ◌<◌, ◌≤◌, ℕ, arith}
use Rattle.std.proofs.Math.Nat.{pow-le-pow_right}

-- a number of some digits has no more than a number of most digits
pub digits_small : (n len most : ℕ) → n < 10 ^ len → len ≤ most → n < 10 ^ most
digits_small n len most less fits =
    let p : 0 < 10 = omega arith in
    let up : 10 ^ len ≤ 10 ^ most = pow-le-pow_right {n = 10} p fits in
    omega arith
