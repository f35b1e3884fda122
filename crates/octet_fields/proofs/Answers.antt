-- From what a function gives to what its callers are told: it reads the spellings only, and each of them.
use Rattle.std.proofs.Common.{◌≡◌, ℕ, List, [], Some, Result, Ok, Err, refl, sym, ap, ◌∙◌}
use Rattle.octet_fields.specs.declared.fault.DecodeError.{DecodeError}
use Rattle.octet_fields.specs.declared.fault.DecodeError.TheVariants as errors
use Rattle.octet_fields.specs.Answers.{Fails, Gives, ReadsOnly, ReadsEach, ReadsOnlyFirst, ReadsEachFirst}
use Rattle.octet_fields.specs.Reading.{Reader, whole}
use Rattle.octet_fields.specs.Exact.{IsOctets, IsExactBefore, IsExact}
use Rattle.octet_fields.proofs.Exact.{some_is, whole_takes, whole_again}

module _ {A : Type 0} {MayFollow : List ℕ → Type 0} {Fits : A → Type 0} {spell : A → List ℕ} {read : Reader A} (exact : IsExactBefore MayFollow Fits spell read) (may : MayFollow []) where
  -- What these octets spell is the value that was read.
  pub is_that : (octets : List ℕ) (a b : A) → whole read octets ≡ Some a → Fits b → octets ≡ spell b → a ≡ b
  is_that octets a b e fits is = some_is a b (sym e ∙ ap (λ (o : List ℕ). whole read o) is ∙ whole_again exact b may fits)

  -- Where these octets spell a value, only memory can have been wanting.
  pub is_memory : (octets : List ℕ) (e : DecodeError) (b : A) → Fails e (whole read octets) → Fits b → octets ≡ spell b → e ≡ errors.OutOfMemory
  is_memory octets errors.OutOfMemory b f fits is = refl
  is_memory octets errors.Malformed b f fits is = absurd (cc (sym f ∙ ap (λ (o : List ℕ). whole read o) is ∙ whole_again exact b may fits))

  pub reads_only : {X : Type 0} (view : X → A) (octets : List ℕ) (result : Result X DecodeError) → IsOctets octets → Gives view result (whole read octets) → ReadsOnly Fits spell view octets result
  reads_only view octets (Ok x) are given = whole_takes exact octets (view x) are given
  reads_only view octets (Err e) are given = tt

  pub reads_each : {X : Type 0} (view : X → A) (octets : List ℕ) (result : Result X DecodeError) → Gives view result (whole read octets) → ReadsEach Fits spell view (λ e. e ≡ errors.OutOfMemory) octets result
  reads_each view octets (Ok x) given a fits is = is_that octets (view x) a given fits is
  reads_each view octets (Err e) given a fits is = is_memory octets e a given fits is

-- The same for a value at the front.
module _ {A : Type 0} {Fits : A → Type 0} {spell : A → List ℕ} {read : Reader A} (exact : IsExact Fits spell read) where
  pub reads_only_first : {X : Type 0} (view : X → A × List ℕ) (octets : List ℕ) (result : Result X DecodeError) → IsOctets octets → Gives view result (read octets) → ReadsOnlyFirst Fits spell view octets result
  reads_only_first view octets (Ok x) are given = let t = exact.takes octets (view x) are given in (t.1, t.0)
  reads_only_first view octets (Err e) are given = tt

  pub reads_each_first : {X : Type 0} (view : X → A × List ℕ) (octets : List ℕ) (result : Result X DecodeError) → Gives view result (read octets) → ReadsEachFirst Fits spell view (λ e. e ≡ errors.OutOfMemory) octets result
  reads_each_first view octets (Ok x) given a rest fits is = some_is (view x) (a, rest) (sym given ∙ ap read is ∙ exact.again a rest tt fits)
  reads_each_first view octets (Err errors.OutOfMemory) given a rest fits is = refl
  reads_each_first view octets (Err errors.Malformed) given a rest fits is = absurd (cc (sym given ∙ ap read is ∙ exact.again a rest tt fits))
