-- The stations' reader is exact: each part by its law, and two maps by hand, one for the codes and one for the record.
use Rattle.std.proofs.Common.{◌≡◌, ℕ, zero, suc, ◌<◌, ◌^◌, Some, refl, ap, arith}
use Rattle.std.specs.Int.{w8, w16}
use Rattle.octet_fields.specs.declared.example.Band.{Band}
use Rattle.octet_fields.specs.declared.example.Band.TheVariants as bands
use Rattle.octet_fields.specs.Exact.{IsExact}
use Rattle.octet_fields.specs.Reading.{counted_at}
use Rattle.octet_fields.specs.Spelling.{number}
use Rattle.octet_fields.specs.Example.{AreStations, IsStation, band_at, band_code, band_of, spelling, station, station_at, station_of}
use Rattle.octet_fields.proofs.Exact.{some_is, IsExact-both, IsExact-decoded, IsExact-mapped}
use Rattle.octet_fields.proofs.Numbers.{exact8, exact_counted16, exact_i64, exact_name}

code_back : (n : ℕ) (band : Band) → band_of n ≡ Some band → n ≡ band_code band
code_back zero band e = ap band_code (some_is bands.S band e)
code_back (suc zero) band e = ap band_code (some_is bands.X band e)
code_back (suc (suc n)) band e = absurd cc

code_again : (band : Band) → (band_code band < 2 ^ 8) × (band_of (band_code band) ≡ Some band)
code_again bands.S = (omega arith, refl)
code_again bands.X = (omega arith, refl)

band_exact : IsExact (λ (band : Band). Unit {0}) (λ band. number w8 (band_code band)) band_at
unfolding band_at
band_exact = IsExact-decoded exact8 (λ (band : Band). Unit {0}) band_of band_code (λ n band fits e. (tt, code_back n band e)) (λ band fits. code_again band)

station_exact : IsExact IsStation station station_at
unfolding station station_at
station_exact = IsExact-mapped (IsExact-both exact_name (λ _ _. IsExact-both band_exact (λ _ _. exact_i64))) IsStation station_of (λ s. (s.name, (s.band, s.delay)))
    (λ p fits. (record { name = fits.0; delay = fits.1.1 }, refl)) (λ s fits. ((fits.name, (tt, fits.delay)), refl))

pub stations_exact : IsExact AreStations spelling (counted_at w16 station_at)
stations_exact = exact_counted16 station_exact
