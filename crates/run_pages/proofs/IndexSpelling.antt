-- Indexes and footers are read exactly.
use Rattle.std.proofs.Common.{ℕ, refl}
use Rattle.octet_fields.specs.Exact.{IsExact}
use Rattle.octet_fields.specs.Reading.{times_at}
use Rattle.octet_fields.proofs.Exact.{IsExact-as, IsExact-both, IsExact-mapped, IsExact-times}
use Rattle.octet_fields.proofs.Numbers.{exact32, exact64, exact_i64}
use Rattle.run_pages.specs.Index.{AreEntries, IsPageEntry, page_entry_at, page_entry_octets, page_entry_of, index_octets}
use Rattle.run_pages.specs.Footer.{IsFooter, footer_at, footer_octets, footer_of}
use Rattle.run_pages.specs.declared.index.PageEntry.{PageEntry}
use Rattle.run_pages.specs.declared.footer.Footer.{Footer}

pub entry_exact : IsExact IsPageEntry page_entry_octets page_entry_at
unfolding page_entry_octets page_entry_at
entry_exact = IsExact-mapped (IsExact-both exact_i64 (λ _ _. IsExact-both exact32 (λ _ _. IsExact-both exact64 (λ _ _. exact32)))) IsPageEntry page_entry_of (λ (e : PageEntry). (e.first.time, (e.first.seq, (e.at, e.len))))
    (λ f fits. (record { time = fits.0; seq = fits.1.0; at = fits.1.1.0; len = fits.1.1.1 }, refl)) (λ e fits. ((fits.time, (fits.seq, (fits.at, fits.len))), refl))

pub index_exact : (count : ℕ) → IsExact (AreEntries count) index_octets (times_at page_entry_at count)
index_exact count = IsExact-as (IsExact-times entry_exact count) (AreEntries count) index_octets (λ a fits. (record { count_is = fits.0; each = fits.1 }, refl)) (λ a fits. (fits.count_is, fits.each))

pub footer_exact : IsExact IsFooter footer_octets footer_at
unfolding footer_octets footer_at
footer_exact = IsExact-mapped (IsExact-both exact64 (λ _ _. IsExact-both exact32 (λ _ _. exact64))) IsFooter footer_of (λ (f : Footer). (f.at, (f.pages, f.rows)))
    (λ f fits. (record { at = fits.0; pages = fits.1.0; rows = fits.1.1 }, refl)) (λ f fits. ((fits.at, (fits.pages, fits.rows)), refl))
