-- What octet_fields gives, in the forms that this crate has use for.
use Rattle.std.proofs.Common.{◌≡◌, ℕ, ◌+◌, ◌^◌, ◌<◌, List, [], ◌∷◌, ◌++◌, take, drop, Some, refl, sym, ap, subst, ◌∙◌, arith, inl, inr}
use Rattle.std.specs.Int.{w8}
use Rattle.std.proofs.lemmas.Bool.{cases_lt}
use Rattle.std.proofs.lemmas.List.{length-take, get_or-drop, get_or-take, get_or_past}
use Rattle.octet_fields.specs.Exact.{IsOctets, IsExact}
use Rattle.octet_fields.specs.Reading.{Reader, number_at, mapped_at}
use Rattle.octet_fields.specs.Spelling.{number}
use Rattle.octet_fields.proofs.Exact.{bind_some, some_is}
use Rattle.octet_fields.proofs.Numbers.{exact8 as plain8}

pub IsOctets-take : (n : ℕ) (octets : List ℕ) → IsOctets octets → IsOctets (take n octets)
IsOctets-take n octets are i =
    elim (cases_lt i n) [
      | inl lt ↦ rw (get_or-take n octets i 0 lt) (are i)
      | inr le ↦ rw (get_or_past (take n octets) i 0 (omega (arith, length-take n octets))) (omega arith)
    ]

pub IsOctets-drop : (n : ℕ) (octets : List ℕ) → IsOctets octets → IsOctets (drop n octets)
IsOctets-drop n octets are i = rw (get_or-drop n octets i 0) (are (n + i))

spelled8 : (n : ℕ) → n < 2 ^ 8 → number w8 n ≡ n ∷ []
unfolding number
spelled8 n lt = ap (λ (x : ℕ). x ∷ []) (omega arith)

-- one octet as it stands
pub exact8 : IsExact (λ n. n < 2 ^ 8) (λ n. n ∷ []) (number_at w8)
exact8 = record {
  takes = λ octets x are e. let t = plain8.takes octets x are e in (t.0 ∙ ap (λ (front : List ℕ). front ++ x.1) (spelled8 x.0 t.1), t.1);
  again = λ n rest may lt. ap (λ (front : List ℕ). number_at w8 (front ++ rest)) (sym (spelled8 n lt)) ∙ plain8.again n rest tt lt;
}

-- `IsExact-mapped` with the spelling in other words
pub mapped_as : {A B : Type 0} {F : A → Type 0} {s : A → List ℕ} {r : Reader A} (G : B → Type 0) (t : B → List ℕ) (view : A → B) (back : B → A) → IsExact F s r →
    ((a : A) → F a → G (view a) × (s a ≡ t (view a))) → ((b : B) → G b → F (back b) × (view (back b) ≡ b) × (t b ≡ s (back b))) →
    IsExact G t (mapped_at view r)
mapped_as {A} {B} {F} {s} {r} G t view back exact there here = record {
  takes = λ octets x are e.
      let p = bind_some (r octets) (λ a. Some (view a.0, a.1)) x e in
      let u = exact.takes octets p.0 are p.1 in
      let v = there p.0.0 u.1 in
      let made : B × List ℕ = (view p.0.0, p.0.1) in
      subst (λ (y : B × List ℕ). (octets ≡ t y.0 ++ y.1) × G y.0) (some_is made x p.2) (u.0 ∙ ap (λ (w : List ℕ). w ++ p.0.1) v.1, v.0);
  again = λ b rest may fits.
      let h = here b fits in
      rw (h.2, exact.again (back b) rest tt h.0, h.1) refl;
}
