-- Times as they are counted from the least on, in words of 32 bits.
use Rattle.std.specs.Prelude.{◌≡◌, ℕ, ℤ, pos, negsuc, ◌+◌, ◌*◌, ◌/◌, ◌%◌, ◌<◌, ◌+ℤ◌, ◌-ℤ◌, ◌-◌, ◌^◌, unsigned_abs}
use Rattle.std.proofs.Common.{ap, ◌∙◌}
use Rattle.std.proofs.Math.IntN.{+ℤ-neg_ℤ_cancel}
use Rattle.std.proofs.lemmas.Nat.{div-mul-add, mod-mul-add}

-- the least time of 64 bits
abbrev pub least_time : ℤ
least_time = negsuc (2 ^ 63 - 1)

-- how far a time is past the least
abbrev pub past_least : ℤ → ℕ
past_least time = unsigned_abs (time -ℤ least_time)

-- the time that is so far past the least
abbrev pub time_past_least : ℕ → ℤ
time_past_least n = pos n +ℤ least_time

-- what is read back
pub past_back : (n : ℕ) → past_least (time_past_least n) ≡ n
past_back n = ap unsigned_abs (+ℤ-neg_ℤ_cancel (pos n) least_time)

pub high_back : (high low : ℕ) → low < 2 ^ 32 → past_least (time_past_least (high * 2 ^ 32 + low)) / 2 ^ 32 ≡ high
high_back high low small = ap (λ (n : ℕ). n / 2 ^ 32) (past_back (high * 2 ^ 32 + low)) ∙ div-mul-add high (2 ^ 32) low small

pub low_back : (high low : ℕ) → low < 2 ^ 32 → past_least (time_past_least (high * 2 ^ 32 + low)) % 2 ^ 32 ≡ low
low_back high low small = ap (λ (n : ℕ). n % 2 ^ 32) (past_back (high * 2 ^ 32 + low)) ∙ mod-mul-add high (2 ^ 32) low small
