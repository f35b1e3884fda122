-- The longest string behind a quote.
use Rattle.std.proofs.Common.{◌≡◌, ◌<◌, ◌≤◌, ◌+◌, ℕ, zero, suc, Bool, true, false, eqb, List, [], ◌∷◌, length, take, Option, Some, None, refl, sym, ap, subst, ◌∙◌, arith}
use Rattle.ssql_tokens.specs.TokenTexts.{is_string_octet, is_string_rest, is_behind_quote}
use Rattle.ssql_tokens.specs.Lengths.{string_len, string_len_at_quote, behind_two_quotes, one_longer}
use Rattle.ssql_tokens.specs.Longest.{IsLongest, HasNone, IsLongestIfAny}

-- of a list by its first item: a test that goes on with another behind it
module _ (test test' : List ℕ → Bool) (b : ℕ) (rest : List ℕ) (empty : test [] ≡ false) (goes : (xs : List ℕ) → test (b ∷ xs) ≡ test' xs) where
  none_longer : HasNone test' rest → HasNone test (b ∷ rest)
  none_longer h zero le = empty
  none_longer h (suc m) le = goes (take m rest) ∙ h m (omega arith)

  pub longer : (o : Option ℕ) → IsLongestIfAny test' rest o → IsLongestIfAny test (b ∷ rest) (one_longer o)
  longer None h = none_longer h
  longer (Some n) h =
      let more : n + 1 ≡ suc n = omega arith in
      subst (λ (k : ℕ). IsLongest test (b ∷ rest) k) (sym more)
      (record { within = omega (arith, h.within); passes = goes (take n rest) ∙ h.passes; longest = longest_at n h })
    where
      longest_at : (n : ℕ) → IsLongest test' rest n → (m : ℕ) → suc n < m → m ≤ length (b ∷ rest) → test (take m (b ∷ rest)) ≡ false
      longest_at n h zero lt le = absurd (omega arith)
      longest_at n h (suc m) lt le = goes (take m rest) ∙ h.longest m (omega arith) (omega arith)

  -- nothing goes on
  none_goes : ((xs : List ℕ) → test' xs ≡ false) → HasNone test (b ∷ rest)
  none_goes none zero le = empty
  none_goes none (suc m) le = goes (take m rest) ∙ none (take m rest)

-- behind a quote
only_quote : (b : ℕ) (rest : List ℕ) → eqb b 39 ≡ false → IsLongest is_behind_quote (b ∷ rest) zero
only_quote b rest e = record { within = omega arith; passes = refl; longest = longest_at }
  where
    longest_at : (m : ℕ) → zero < m → m ≤ length (b ∷ rest) → is_behind_quote (take m (b ∷ rest)) ≡ false
    longest_at zero lt le = absurd (omega arith)
    longest_at (suc m) lt le = rw e refl

end_quote : IsLongest is_behind_quote [] zero
end_quote = record { within = omega arith; passes = refl; longest = λ m lt le. absurd (omega arith) }

-- The length of what stands behind a quote, the quote not counted: none, or that of the string behind the second quote and one more.
abbrev behind_len : Option ℕ → ℕ
behind_len None = 0
behind_len (Some n) = n + 1

two_quotes : (b : ℕ) (rest : List ℕ) (o : Option ℕ) → eqb b 39 ≡ true → IsLongestIfAny is_string_rest rest o → IsLongest is_behind_quote (b ∷ rest) (behind_len o)
two_quotes b rest None e h = record { within = omega arith; passes = refl; longest = longest_at }
  where
    longest_at : (m : ℕ) → zero < m → m ≤ length (b ∷ rest) → is_behind_quote (take m (b ∷ rest)) ≡ false
    longest_at zero lt le = absurd (omega arith)
    longest_at (suc m) lt le = rw e (h m (omega arith))
two_quotes b rest (Some n) e h =
    let more : n + 1 ≡ suc n = omega arith in
    subst (λ (k : ℕ). IsLongest is_behind_quote (b ∷ rest) k) (sym more)
    (record { within = omega (arith, h.within); passes = rw e h.passes; longest = longest_at })
  where
    longest_at : (m : ℕ) → suc n < m → m ≤ length (b ∷ rest) → is_behind_quote (take m (b ∷ rest)) ≡ false
    longest_at zero lt le = absurd (omega arith)
    longest_at (suc m) lt le = rw e (h.longest m (omega arith) (omega arith))

behind_quote : (rest : List ℕ) → ((xs : List ℕ) → length xs < length rest → IsLongestIfAny is_string_rest xs (string_len xs)) → (n : ℕ) × (string_len_at_quote rest ≡ Some (n + 1)) × IsLongest is_behind_quote rest n
behind_quote [] again = (0, refl, end_quote)
behind_quote (b ∷ rest) again = at_quote b rest (again rest (omega arith)) (eqb b 39) refl
  where
    doubled_is : (o : Option ℕ) → behind_two_quotes o ≡ Some (behind_len o + 1)
    doubled_is None = refl
    doubled_is (Some n) = let same : n + 2 ≡ (n + 1) + 1 = omega arith in ap (λ k. Some k) same

    at_quote : (b : ℕ) (rest : List ℕ) → IsLongestIfAny is_string_rest rest (string_len rest) → (c : Bool) → eqb b 39 ≡ c → (n : ℕ) × (string_len_at_quote (b ∷ rest) ≡ Some (n + 1)) × IsLongest is_behind_quote (b ∷ rest) n
    at_quote b rest h false e = (0, rw e refl, only_quote b rest e)
    at_quote b rest h true e = (behind_len (string_len rest), rw e (doubled_is (string_len rest)), two_quotes b rest (string_len rest) e h)

empty_is_none : is_string_rest [] ≡ false
empty_is_none = refl

-- The first number bounds the length.
longest_from : (n : ℕ) (text : List ℕ) → length text < n → IsLongestIfAny is_string_rest text (string_len text)
longest_from zero text lt = absurd (omega arith)
longest_from (suc n) [] lt = λ m le. none_at m le
  where
    none_at : (m : ℕ) → m ≤ 0 → is_string_rest (take m []) ≡ false
    none_at zero le = refl
    none_at (suc m) le = refl
longest_from (suc n) (b ∷ rest) lt = at_octet b rest (longest_from n rest (omega arith)) (behind_quote rest (λ xs less. longest_from n xs (omega arith))) (eqb b 39) (is_string_octet b) refl refl
  where
    at_octet : (b : ℕ) (rest : List ℕ) → IsLongestIfAny is_string_rest rest (string_len rest) → (n : ℕ) × (string_len_at_quote rest ≡ Some (n + 1)) × IsLongest is_behind_quote rest n →
        (c d : Bool) → eqb b 39 ≡ c → is_string_octet b ≡ d → IsLongestIfAny is_string_rest (b ∷ rest) (string_len (b ∷ rest))
    at_octet b rest h q true d e f =
        let len : string_len (b ∷ rest) ≡ one_longer (Some q.0) = rw e q.1 in
        subst (λ (o : Option ℕ). IsLongestIfAny is_string_rest (b ∷ rest) o) (sym len) (longer is_string_rest is_behind_quote b rest empty_is_none (λ xs. rw e refl) (Some q.0) q.2)
    at_octet b rest h q false true e f =
        let len : string_len (b ∷ rest) ≡ one_longer (string_len rest) = rw (e, f) refl in
        subst (λ (o : Option ℕ). IsLongestIfAny is_string_rest (b ∷ rest) o) (sym len) (longer is_string_rest is_string_rest b rest empty_is_none (λ xs. rw (e, f) refl) (string_len rest) h)
    at_octet b rest h q false false e f =
        let len : string_len (b ∷ rest) ≡ None = rw (e, f) refl in
        subst (λ (o : Option ℕ). IsLongestIfAny is_string_rest (b ∷ rest) o) (sym len) (none_goes is_string_rest (λ xs. false) b rest empty_is_none (λ xs. rw (e, f) refl) (λ xs. refl))

pub longest_string : (text : List ℕ) → IsLongestIfAny is_string_rest text (string_len text)
longest_string text = longest_from (suc (length text)) text (omega arith)
