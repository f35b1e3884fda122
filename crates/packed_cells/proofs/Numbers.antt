-- Numbers by their differences.
use Rattle.std.proofs.Common.{◌≡◌, ◌∙◌, ℕ, ◌+◌, ◌*◌, ◌/◌, ◌%◌, ℤ, pos, negsuc, ◌+ℤ◌, ◌-ℤ◌, Bool, true, List, ◌++◌, Some, refl, ap, arith}
use Rattle.std.proofs.lemmas.Int.{ints}
use Rattle.varints.proofs.Varints.{short_varint_exact}
use Rattle.varints.specs.Varint.{is_short}
use Rattle.packed_cells.specs.Packed.{step, step_at, unzigzag, zigzag}

pub zigzag_back : (x : ℤ) → unzigzag (zigzag x) ≡ x
zigzag_back (pos n) =
    let even : (2 * n) % 2 ≡ 0 = omega arith in
    let half : 2 * n / 2 ≡ n = omega arith in
    rw (even, half) refl
zigzag_back (negsuc n) =
    let odd : (2 * n + 1) % 2 ≡ 1 = omega arith in
    let half : (2 * n + 1) / 2 ≡ n = omega arith in
    rw (odd, half) refl

difference_back : (before x : ℤ) → before +ℤ (x -ℤ before) ≡ x
difference_back before x = omega (arith, ints)

-- a number that passes the test is read again
pub step_again : (fits : ℤ → Bool) (before x : ℤ) (rest : List ℕ) → fits x ≡ true → is_short (zigzag (x -ℤ before)) ≡ true → step_at fits before (step before x ++ rest) ≡ Some (x, rest)
step_again fits before x rest passes short =
    let read = short_varint_exact.again (zigzag (x -ℤ before)) rest tt (tt, short) in
    let same : before +ℤ unzigzag (zigzag (x -ℤ before)) ≡ x = ap (λ (d : ℤ). before +ℤ d) (zigzag_back (x -ℤ before)) ∙ difference_back before x in
    rw (read, same, passes) refl
