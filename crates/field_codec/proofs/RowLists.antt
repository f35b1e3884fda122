-- Counted rows are read exactly.
use Rattle.std.proofs.Common.{◌≡◌, ℕ, ◌^◌, ◌<◌, ◌≤◌, true, List, length, refl, ap, arith}
use Rattle.std.specs.Int.{w16}
use Rattle.std.specs.List.{AllByRecursion}
use Rattle.arch_types.specs.declared.row.Row.{Row}
use Rattle.octet_fields.specs.Exact.{IsExact}
use Rattle.octet_fields.specs.Spelling.{counted}
use Rattle.octet_fields.proofs.Exact.{IsExact-both, IsExact-tested, IsExact-mapped, IsExact-times}
use Rattle.octet_fields.proofs.Numbers.{exact16}
use Rattle.row_codec.specs.Rows.{IsStored}
use Rattle.row_codec.proofs.RowFields.{row_exact}
use Rattle.field_codec.specs.Entries.{AreStored}
use Rattle.field_codec.specs.Spelling.{rows_octets}
use Rattle.field_codec.specs.Reading.{is_count, rows_at}

count_true : (n : ℕ) → is_count n ≡ true → (1 ≤ n) × (n ≤ 1024)
count_true n h = grind arith

true_count : (n : ℕ) → 1 ≤ n → n ≤ 1024 → is_count n ≡ true
true_count n h k = grind arith

counted_there : (p : ℕ × List Row) → ((p.0 < 2 ^ 16) × (is_count p.0 ≡ true)) × ((length p.1 ≡ p.0) × AllByRecursion IsStored p.1) → AreStored p.1 × (◌≡◌ {A = ℕ × List Row} (length p.1, p.1) p)
counted_there p h =
    let le : (1 ≤ p.0) × (p.0 ≤ 1024) = count_true p.0 h.0.1 in
    (record { some = omega (arith, le.0, h.1.0); few = omega (arith, le.1, h.1.0); each = h.1.1 }, ap (λ (n : ℕ). (n, p.1)) h.1.0)

counted_here : (rows : List Row) → AreStored rows → (((length rows < 2 ^ 16) × (is_count (length rows) ≡ true)) × ((length rows ≡ length rows) × AllByRecursion IsStored rows)) × (rows ≡ rows)
counted_here rows h = (((omega (arith, h.few), true_count (length rows) h.some h.few), (refl, h.each)), refl)

pub rows_exact : IsExact AreStored rows_octets rows_at
unfolding counted rows_at
rows_exact = IsExact-mapped (IsExact-both (IsExact-tested exact16 is_count) (λ n _. IsExact-times row_exact n)) AreStored (λ (p : ℕ × List Row). p.1) (λ rows. (length rows, rows)) counted_there counted_here
