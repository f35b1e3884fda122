-- One seal more behind others.
use Rattle.std.proofs.Common.{◌≡◌, inl, inr, ℕ, suc, ◌≤◌, ◌-◌, List, [], ◌∷◌, ◌++◌, length, map, true, Some, None, refl, sym, ◌∙◌, ap, subst, append_assoc, append-nil, arith}
use Rattle.std.specs.Prelude.{nat_lt, slice_get}
use Rattle.std.specs.List.{AllByRecursion}
use Rattle.std.proofs.lemmas.Bool.{and_parts}
use Rattle.std.proofs.lemmas.List.Concat.{flat_map-append}
use Rattle.seal_codec.specs.declared.seal.Seal.{Seal}
use Rattle.seal_codec.specs.declared.seal.SealedRun.{SealedRun}
use Rattle.seal_codec.specs.Files.{are_rising, files_named}
use Rattle.seal_codec.specs.Seals.{IsSeal}
use Rattle.archive_images.specs.Moments.{MayFollow}
use Rattle.archive_images.specs.SealFiles.{AreGrown, files_of_seals}
use Rattle.sealed_opening.specs.Zero.{IsLastOf}

-- ---- the last of a list

one_shorter : {X : Type 0} (y z : X) (xs : List X) → length (y ∷ z ∷ xs) - 1 ≡ suc (length (z ∷ xs) - 1)
one_shorter y z xs = omega arith

pub split_last : {X : Type 0} (xs : List X) (x : X) → slice_get xs (length xs - 1) ≡ Some x → (front : List X) × (xs ≡ front ++ x ∷ [])
split_last [] x is = absurd cc
split_last {X} (y ∷ []) x is = ([], ap (λ (z : X). z ∷ []) (let same : y ≡ x = cc in same))
split_last {X} (y ∷ z ∷ xs) x is =
    let rest = split_last (z ∷ xs) x (sym (ap (slice_get (y ∷ z ∷ xs)) (one_shorter y z xs)) ∙ is) in
    (y ∷ rest.0, ap (λ (l : List X). y ∷ l) rest.1)

pub none_last : {X : Type 0} (xs : List X) → slice_get xs (length xs - 1) ≡ None → xs ≡ []
none_last [] is = refl
none_last (y ∷ []) is = absurd cc
none_last (y ∷ z ∷ xs) is =
    let none : z ∷ xs ≡ [] = none_last (z ∷ xs) (sym (ap (slice_get (y ∷ z ∷ xs)) (one_shorter y z xs)) ∙ is) in
    absurd cc

-- ---- the parts of what may follow

fit_more : (all : List Seal) (seal : Seal) → AllByRecursion IsSeal all → IsSeal seal → AllByRecursion IsSeal (all ++ seal ∷ [])
fit_more [] seal all is = (is, tt)
fit_more (x ∷ xs) seal all is = (all.0, fit_more xs seal all.1 is)

pub last_fits : (all : List Seal) (seal : Seal) → AllByRecursion IsSeal (all ++ seal ∷ []) → IsSeal seal
last_fits [] seal all = all.0
last_fits (x ∷ xs) seal all = last_fits xs seal all.1

grown_more : (rows : ℕ) (earlier : List Seal) (last seal : Seal) → AreGrown rows (earlier ++ last ∷ []) → last.rows ≤ seal.rows → AreGrown rows ((earlier ++ last ∷ []) ++ seal ∷ [])
grown_more rows [] last seal grown le = (grown.0, (le, tt))
grown_more rows (x ∷ xs) last seal grown le = (grown.0, grown_more x.rows xs last seal grown.1 le)

grown_last : (rows : ℕ) (earlier : List Seal) (last seal : Seal) → AreGrown rows ((earlier ++ last ∷ []) ++ seal ∷ []) → last.rows ≤ seal.rows
grown_last rows [] last seal grown = grown.1.0
grown_last rows (x ∷ xs) last seal grown = grown_last x.rows xs last seal grown.1

rising_more : (low : ℕ) (front : List ℕ) (f : ℕ) (files : List ℕ) → are_rising low (front ++ f ∷ []) ≡ true → are_rising f files ≡ true → are_rising low ((front ++ f ∷ []) ++ files) ≡ true
rising_more low [] f files rising more =
    let parts = and_parts (nat_lt low f) true rising in
    rw (parts.0) more
rising_more low (x ∷ front) f files rising more =
    let parts = and_parts (nat_lt low x) (are_rising x (front ++ f ∷ [])) rising in
    rw (parts.0) (rising_more x front f files parts.1 more)

rising_last : (low : ℕ) (front : List ℕ) (f : ℕ) (files : List ℕ) → are_rising low ((front ++ f ∷ []) ++ files) ≡ true → are_rising f files ≡ true
rising_last low [] f files rising = (and_parts (nat_lt low f) (are_rising f files) rising).1
rising_last low (x ∷ front) f files rising = rising_last x front f files (and_parts (nat_lt low x) (are_rising x ((front ++ f ∷ []) ++ files)) rising).1

-- the last file that seals name is the last one's log
ends_in_log : (earlier : List Seal) (last : Seal) → (front : List ℕ) × (files_of_seals (earlier ++ last ∷ []) ≡ front ++ last.log ∷ [])
ends_in_log [] last =
    let runs : List ℕ = map (λ (run : SealedRun). run.file) last.runs in
    (runs ++ last.fills ∷ [], append-nil (files_named last) ∙ sym (append_assoc runs (last.fills ∷ []) (last.log ∷ [])))
ends_in_log (x ∷ earlier) last =
    let rest = ends_in_log earlier last in
    (files_named x ++ rest.0, ap (λ (l : List ℕ). files_named x ++ l) rest.1 ∙ sym (append_assoc (files_named x) rest.0 (last.log ∷ [])))

files_more : (all : List Seal) (seal : Seal) → files_of_seals (all ++ seal ∷ []) ≡ files_of_seals all ++ files_named seal
files_more all seal = flat_map-append files_named all (seal ∷ []) ∙ ap (λ (l : List ℕ). files_of_seals all ++ l) (append-nil (files_named seal))

-- ---- one seal more

module _ (seal : Seal) where
  first_may : IsSeal seal → are_rising 0 (files_named seal) ≡ true → MayFollow (seal ∷ [])
  first_may fits rising = record {
    fit = (fits, tt);
    rising = subst (λ (l : List ℕ). are_rising 0 l ≡ true) (sym (append-nil (files_named seal))) rising;
    grown = (omega arith, tt);
  }

  next_may : (earlier : List Seal) (last : Seal) → MayFollow (earlier ++ last ∷ []) → IsSeal seal → last.rows ≤ seal.rows → are_rising last.log (files_named seal) ≡ true → MayFollow ((earlier ++ last ∷ []) ++ seal ∷ [])
  next_may earlier last may fits le rising =
      let all : List Seal = earlier ++ last ∷ [] in
      let ends = ends_in_log earlier last in
      record {
        fit = fit_more all seal may.fit fits;
        rising = subst (λ (l : List ℕ). are_rising 0 l ≡ true) (sym (files_more all seal ∙ ap (λ (l : List ℕ). l ++ files_named seal) ends.1))
            (rising_more 0 ends.0 last.log (files_named seal) (subst (λ (l : List ℕ). are_rising 0 l ≡ true) ends.1 may.rising) rising);
        grown = grown_more 0 earlier last seal may.grown le;
      }

  next_was : (earlier : List Seal) (last : Seal) → MayFollow ((earlier ++ last ∷ []) ++ seal ∷ []) → (last.rows ≤ seal.rows) × (are_rising last.log (files_named seal) ≡ true)
  next_was earlier last may =
      let all : List Seal = earlier ++ last ∷ [] in
      let ends = ends_in_log earlier last in (
        grown_last 0 earlier last seal may.grown,
        rising_last 0 ends.0 last.log (files_named seal) (subst (λ (l : List ℕ). are_rising 0 l ≡ true) (files_more all seal ∙ ap (λ (l : List ℕ). l ++ files_named seal) ends.1) may.rising),
      )

  pub one_more : (all : List Seal) (log rows : ℕ) → IsLastOf all log rows → MayFollow all → IsSeal seal → rows ≤ seal.rows → are_rising log (files_named seal) ≡ true → MayFollow (all ++ seal ∷ [])
  one_more all log rows (inl none) may fits le rising =
      subst (λ (l : List Seal). MayFollow (l ++ seal ∷ [])) (sym none.0) (first_may fits (subst (λ (n : ℕ). are_rising n (files_named seal) ≡ true) none.1 rising))
  one_more all log rows (inr some) may fits le rising =
      subst (λ (l : List Seal). MayFollow (l ++ seal ∷ [])) (sym some.2)
      (next_may some.0 some.1 (subst MayFollow some.2 may) fits (subst (λ (n : ℕ). n ≤ seal.rows) some.4 le) (subst (λ (n : ℕ). are_rising n (files_named seal) ≡ true) some.3 rising))

  pub one_was : (all : List Seal) (log rows : ℕ) → IsLastOf all log rows → MayFollow (all ++ seal ∷ []) → (rows ≤ seal.rows) × (are_rising log (files_named seal) ≡ true)
  one_was all log rows (inl none) may =
      let first : MayFollow (seal ∷ []) = subst (λ (l : List Seal). MayFollow (l ++ seal ∷ [])) none.0 may in (
        omega (arith, none.2),
        subst (λ (n : ℕ). are_rising n (files_named seal) ≡ true) (sym none.1) (subst (λ (l : List ℕ). are_rising 0 l ≡ true) (append-nil (files_named seal)) first.rising),
      )
  one_was all log rows (inr some) may =
      let was = next_was some.0 some.1 (subst (λ (l : List Seal). MayFollow (l ++ seal ∷ [])) some.2 may) in
      (subst (λ (n : ℕ). n ≤ seal.rows) (sym some.4) was.0, subst (λ (n : ℕ). are_rising n (files_named seal) ≡ true) (sym some.3) was.1)
