-- Pages are read exactly.
use Rattle.std.proofs.Common.{◌≡◌, ℕ, ◌<◌, ◌≤◌, ◌^◌, true, List, length, refl, ap, arith}
use Rattle.std.specs.List.{AllByRecursion}
use Rattle.octet_fields.specs.Exact.{IsExact}
use Rattle.octet_fields.specs.Spelling.{counted}
use Rattle.octet_fields.proofs.Exact.{IsExact-both, IsExact-tested, IsExact-mapped, IsExact-times}
use Rattle.octet_fields.proofs.Numbers.{exact16, exact64}
use Rattle.row_codec.proofs.RowFields.{row_exact}
use Rattle.run_pages.specs.Placed.{Placed}
use Rattle.run_pages.specs.Pages.{FitsPage, IsPage, is_page_count, page_at, page_octets, placed_at, placed_octets, row_placed_of}

pub placed_exact : IsExact FitsPage placed_octets placed_at
unfolding placed_octets placed_at
placed_exact = IsExact-mapped (IsExact-both exact64 (λ _ _. row_exact)) FitsPage row_placed_of (λ (at : Placed). (at.position, at.row))
    (λ p fits. (record { position = fits.0; stored = fits.1 }, refl)) (λ at fits. ((fits.position, fits.stored), refl))

count_true : (n : ℕ) → is_page_count n ≡ true → (1 ≤ n) × (n ≤ 64)
count_true n h = grind arith

true_count : (n : ℕ) → 1 ≤ n → n ≤ 64 → is_page_count n ≡ true
true_count n h k = grind arith

counted_there : (p : ℕ × List Placed) → ((p.0 < 2 ^ 16) × (is_page_count p.0 ≡ true)) × ((length p.1 ≡ p.0) × AllByRecursion FitsPage p.1) → IsPage p.1 × (◌≡◌ {A = ℕ × List Placed} (length p.1, p.1) p)
counted_there p h =
    let le : (1 ≤ p.0) × (p.0 ≤ 64) = count_true p.0 h.0.1 in
    (record { some = omega (arith, le.0, h.1.0); few = omega (arith, le.1, h.1.0); each = h.1.1 }, ap (λ (n : ℕ). (n, p.1)) h.1.0)

counted_here : (rows : List Placed) → IsPage rows → (((length rows < 2 ^ 16) × (is_page_count (length rows) ≡ true)) × ((length rows ≡ length rows) × AllByRecursion FitsPage rows)) × (rows ≡ rows)
counted_here rows h = (((omega (arith, h.few), true_count (length rows) h.some h.few), (refl, h.each)), refl)

pub page_exact : IsExact IsPage page_octets page_at
unfolding counted page_at
page_exact = IsExact-mapped (IsExact-both (IsExact-tested exact16 is_page_count) (λ n _. IsExact-times placed_exact n)) IsPage (λ (p : ℕ × List Placed). p.1) (λ rows. (length rows, rows)) counted_there counted_here
