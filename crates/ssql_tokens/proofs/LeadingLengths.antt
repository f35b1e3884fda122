-- The run of octets at a front that pass a test. std's `take_while` is `take` of `prefix_len`, which goes by recursion.
use Rattle.std.proofs.Common.{◌≡◌, ◌<◌, ◌≤◌, ◌+◌, ◌⊎◌, inl, inr, ℕ, zero, suc, Bool, true, false, cond, ltb, eqb, List, [], ◌∷◌, ◌++◌, length, take, refl, arith}
use Rattle.std.specs.Prelude.{take_while, min, nat_le, ◌&&◌, Some, None}
use Rattle.std.specs.List.{list_all, prefix_len}
use Rattle.std.proofs.lemmas.List.{length-take-le}
use Rattle.std.proofs.lemmas.Bool.{and_parts, le-leb, lt-leb, ltb-true, ltb-false, eqb-true, eqb-false, cases_order}
use Rattle.ssql_tokens.specs.TokenTexts.{is_all}
use Rattle.ssql_tokens.specs.Longest.{IsLongest, HasNone, IsLongestIfAny}
use Rattle.ssql_tokens.specs.Lengths.{leading_len, positive}

module _ (f : ℕ → Bool) where
  -- nothing that passes comes next
  abbrev pub NonePasses : List ℕ → Type 0
  NonePasses [] = Unit {0}
  NonePasses (b ∷ rest) = f b ≡ false

  run_end : (rest : List ℕ) → NonePasses rest → prefix_len f rest ≡ 0
  run_end [] last = refl
  run_end (b ∷ rest) e = rw e refl

  -- octets that pass, before one that doesn't, are the run
  pub run_again : (xs rest : List ℕ) → list_all f xs ≡ true → NonePasses rest → prefix_len f (xs ++ rest) ≡ length xs
  run_again [] rest all last = run_end rest last
  run_again (x ∷ xs) rest all last =
      let b = and_parts (f x) (list_all f xs) all in
      let more : 1 + length xs ≡ suc (length xs) = omega arith in
      rw (b.0, run_again xs rest b.1 last) more

  run_at : (b : ℕ) (text : List ℕ) (k : ℕ) (c : Bool) → f b ≡ c → suc k ≤ cond c (1 + prefix_len f text) 0 → (k ≤ prefix_len f text → list_all f (take k text) ≡ true) → f b && list_all f (take k text) ≡ true
  run_at b text k true e le h = rw (e, h (omega arith)) refl
  run_at b text k false e le h = absurd (omega arith)

  -- up to the run's length all pass, and beyond it they don't
  pub run_passes : (text : List ℕ) (k : ℕ) → k ≤ prefix_len f text → list_all f (take k text) ≡ true
  run_passes text zero le = refl
  run_passes [] (suc k) le = absurd (omega arith)
  run_passes (b ∷ text) (suc k) le = run_at b text k (f b) refl le (λ less. run_passes text k less)

  stop_at : (b : ℕ) (text : List ℕ) (m : ℕ) (c : Bool) → f b ≡ c → cond c (1 + prefix_len f text) 0 < suc m → (prefix_len f text < m → list_all f (take m text) ≡ false) → f b && list_all f (take m text) ≡ false
  stop_at b text m true e lt h = rw (e, h (omega arith)) refl
  stop_at b text m false e lt h = rw e refl

  pub run_stops : (text : List ℕ) (m : ℕ) → prefix_len f text < m → m ≤ length text → list_all f (take m text) ≡ false
  run_stops text zero lt le = absurd (omega arith)
  run_stops [] (suc m) lt le = absurd (omega arith)
  run_stops (b ∷ text) (suc m) lt le = stop_at b text m (f b) refl lt (λ less. run_stops text m less (omega arith))

  within_at : (text : List ℕ) (c : Bool) → prefix_len f text ≤ length text → cond c (1 + prefix_len f text) 0 ≤ suc (length text)
  within_at text true h = omega arith
  within_at text false h = omega arith

  pub run_within : (text : List ℕ) → prefix_len f text ≤ length text
  run_within [] = omega arith
  run_within (b ∷ text) = within_at text (f b) (run_within text)

  pub run_is : (text : List ℕ) → length (take_while f text) ≡ prefix_len f text
  run_is text = length-take-le (prefix_len f text) text (run_within text)

  -- the run of the first so many octets
  front_at : (b : Bool) (front whole n : ℕ) → front ≡ min whole n → cond b (1 + front) 0 ≡ min (cond b (1 + whole) 0) (suc n)
  front_at true front whole n e = omega arith
  front_at false front whole n e = omega arith

  run_of_front : (n : ℕ) (text : List ℕ) → prefix_len f (take n text) ≡ min (prefix_len f text) n
  run_of_front zero text = omega arith
  run_of_front (suc n) [] = omega arith
  run_of_front (suc n) (b ∷ text) = front_at (f b) (prefix_len f (take n text)) (prefix_len f text) n (run_of_front n text)

  pub front_len : (text : List ℕ) (n : ℕ) → length (take_while f (take (min (length text) n) text)) ≡ min (length (take_while f text)) n
  front_len text n =
      let front = take (min (length text) n) text in
      omega (arith, run_is front, run_of_front (min (length text) n) text, run_is text, run_within text)

  -- ---- at most so many

  module _ (most : ℕ) where
    passes_with : (len : ℕ) (text : List ℕ) → length text ≡ len → 1 ≤ len → len ≤ most → list_all f text ≡ true → is_all f most text ≡ true
    passes_with len text same one few all = rw (le-leb 1 (length text) (omega (arith, same)), le-leb (length text) most (omega (arith, same)), all) refl

    too_many : (a b c : Bool) → c ≡ false → a && b && c ≡ false
    too_many true true c e = e
    too_many true false c e = refl
    too_many false b c e = refl

    too_long : (a b c : Bool) → b ≡ false → a && b && c ≡ false
    too_long true b c e = rw e refl
    too_long false b c e = refl

    -- the octets are too many, or go past the run
    long_at : (text : List ℕ) (m : ℕ) (c : Bool) → ltb most m ≡ c → m ≤ length text → min (prefix_len f text) most < m → is_all f most (take m text) ≡ false
    long_at text m true e le lt =
        let len : length (take m text) ≡ m = length-take-le m text le in
        too_long (nat_le 1 (length (take m text))) (nat_le (length (take m text)) most) (list_all f (take m text)) (lt-leb (length (take m text)) most (omega (arith, ltb-true most m e, len)))
    long_at text m false e le lt =
        too_many (nat_le 1 (length (take m text))) (nat_le (length (take m text)) most) (list_all f (take m text)) (run_stops text m (omega (arith, ltb-false most m e)) le)

    -- the longest run
    pub longest_run : (text : List ℕ) → 1 ≤ most → 1 ≤ prefix_len f text → IsLongest (is_all f most) text (leading_len f most text)
    longest_run text one some =
        let run : length (take_while f text) ≡ prefix_len f text = run_is text in
        let within : prefix_len f text ≤ length text = run_within text in
        record {
          within = omega (arith, run, within);
          passes = passes_with (leading_len f most text) (take (leading_len f most text) text) (length-take-le (leading_len f most text) text (omega (arith, run, within))) (omega (arith, run)) (omega arith) (run_passes text (leading_len f most text) (omega (arith, run)));
          longest = λ m lt le. long_at text m (ltb most m) refl le (omega (arith, run, lt));
        }

    none_at : (text : List ℕ) → prefix_len f text ≡ 0 → HasNone (is_all f most) text
    none_at text none zero le = refl
    none_at text none (suc m) le =
        too_many (nat_le 1 (length (take (suc m) text))) (nat_le (length (take (suc m) text)) most) (list_all f (take (suc m) text)) (run_stops text (suc m) (omega (arith, none)) le)

    -- the longest run, or none
    run_if_any : (text : List ℕ) → 1 ≤ most → (b : Bool) → eqb (leading_len f most text) 0 ≡ b → IsLongestIfAny (is_all f most) text (cond b None (Some (leading_len f most text)))
    run_if_any text one true e =
        let run : length (take_while f text) ≡ prefix_len f text = run_is text in
        none_at text (omega (arith, run, one, eqb-true (leading_len f most text) 0 e))
    run_if_any text one false e =
        let run : length (take_while f text) ≡ prefix_len f text = run_is text in
        longest_run text one (some_run (cases_order (prefix_len f text) 0))
      where
        some_run : prefix_len f text ≡ 0 ⊎ (prefix_len f text < 0 ⊎ 0 < prefix_len f text) → 1 ≤ prefix_len f text
        some_run (inl none) = absurd (eqb-false (leading_len f most text) 0 e (omega (arith, run_is text, none)))
        some_run (inr (inl less)) = absurd (omega arith)
        some_run (inr (inr more)) = omega arith

    pub any_run : (text : List ℕ) → 1 ≤ most → IsLongestIfAny (is_all f most) text (positive (leading_len f most text))
    any_run text one = run_if_any text one (eqb (leading_len f most text) 0) refl
