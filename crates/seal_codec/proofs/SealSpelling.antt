-- Seals are read exactly.
use Rattle.std.proofs.Common.{◌≡◌, ℕ, ◌<◌, ◌≤◌, ◌^◌, true, List, length, refl, ap, arith}
use Rattle.std.specs.Int.{w8}
use Rattle.std.specs.List.{AllByRecursion}
use Rattle.octet_fields.specs.Exact.{IsExact}
use Rattle.octet_fields.specs.Spelling.{counted}
use Rattle.octet_fields.proofs.Exact.{one_form, IsExact-both, IsExact-mapped, IsExact-tested, IsExact-times}
use Rattle.octet_fields.proofs.Numbers.{exact8, exact32, exact64}
use Rattle.seal_codec.specs.declared.seal.Seal.{Seal}
use Rattle.seal_codec.specs.declared.seal.SealedRun.{SealedRun}
use Rattle.seal_codec.specs.Laws.{SealsAreOne}
use Rattle.seal_codec.specs.Seals.{IsSeal, IsSealedRun, is_run_count, runs_at, seal_at, seal_octets, seal_of, sealed_run_at, sealed_run_octets, sealed_run_of}

run_exact : IsExact IsSealedRun sealed_run_octets sealed_run_at
unfolding sealed_run_octets sealed_run_at
run_exact = IsExact-mapped (IsExact-both exact8 (λ _ _. exact32)) IsSealedRun sealed_run_of (λ (r : SealedRun). (r.table, r.file)) (λ p fits. (record { table = fits.0; file = fits.1 }, refl)) (λ r fits. ((fits.table, fits.file), refl))

-- at most 16 runs
abbrev AreRuns : List SealedRun → Type 0
AreRuns runs = (length runs ≤ 16) × AllByRecursion IsSealedRun runs

count_true : (n : ℕ) → is_run_count n ≡ true → n ≤ 16
count_true n h = grind arith

true_count : (n : ℕ) → n ≤ 16 → is_run_count n ≡ true
true_count n h = grind arith

counted_there : (p : ℕ × List SealedRun) → ((p.0 < 2 ^ 8) × (is_run_count p.0 ≡ true)) × ((length p.1 ≡ p.0) × AllByRecursion IsSealedRun p.1) → AreRuns p.1 × (◌≡◌ {A = ℕ × List SealedRun} (length p.1, p.1) p)
counted_there p h = ((omega (arith, count_true p.0 h.0.1, h.1.0), h.1.1), ap (λ (n : ℕ). (n, p.1)) h.1.0)

counted_here : (runs : List SealedRun) → AreRuns runs → (((length runs < 2 ^ 8) × (is_run_count (length runs) ≡ true)) × ((length runs ≡ length runs) × AllByRecursion IsSealedRun runs)) × (runs ≡ runs)
counted_here runs h = (((omega (arith, h.0), true_count (length runs) h.0), (refl, h.1)), refl)

runs_exact : IsExact AreRuns (counted w8 sealed_run_octets) runs_at
unfolding counted runs_at
runs_exact = IsExact-mapped (IsExact-both (IsExact-tested exact8 is_run_count) (λ n _. IsExact-times run_exact n)) AreRuns (λ (p : ℕ × List SealedRun). p.1) (λ runs. (length runs, runs)) counted_there counted_here

pub seal_exact : IsExact IsSeal seal_octets seal_at
unfolding seal_octets seal_at
seal_exact = IsExact-mapped (IsExact-both exact64 (λ _ _. IsExact-both exact32 (λ _ _. IsExact-both exact32 (λ _ _. runs_exact)))) IsSeal seal_of (λ (s : Seal). (s.rows, (s.log, (s.fills, s.runs))))
    (λ f fits. (record { rows = fits.0; log = fits.1.0; fills = fits.1.1.0; few = fits.1.1.1.0; each = fits.1.1.1.1 }, refl))
    (λ s fits. ((fits.rows, (fits.log, (fits.fills, (fits.few, fits.each)))), refl))

pub seals_once : SealsAreOne
seals_once a b x y fits other is = one_form seal_exact a b x y fits other is
