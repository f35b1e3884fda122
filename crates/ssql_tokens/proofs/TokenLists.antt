-- The tokens of a text are one list, and one token more is added at the end.
use Rattle.std.proofs.Common.{◌≡◌, ◌<◌, ◌≤◌, ◌+◌, ◌⊎◌, inl, inr, ℕ, zero, suc, Bool, List, [], ◌∷◌, ◌++◌, length, take, drop, Option, Some, None, refl, sym, ap, ap₂, subst, ◌∙◌, arith}
use Rattle.std.proofs.lemmas.Bool.{both_ways, cases_order}
use Rattle.std.proofs.lemmas.List.{drop_all, length-drop}
use Rattle.ssql_tokens.specs.declared.token.Token.{Token}
use Rattle.ssql_tokens.specs.TokenTexts.{token_of, is_token}
use Rattle.ssql_tokens.specs.Longest.{IsLongest, HasNone}
use Rattle.ssql_tokens.specs.Blanks.{next_at}
use Rattle.ssql_tokens.specs.Written.{AreOfTexts}
use Rattle.ssql_tokens.specs.Tokens.{IsFirstToken, AreTokensFrom, AreTokensBefore, AreTokens, IsNoToken}

-- ---- the token at a place is one

longest_is_one : (test : List ℕ → Bool) (text : List ℕ) (a b : ℕ) → IsLongest test text a → IsLongest test text b → a ≡ b
longest_is_one test text a b h k = by_order (cases_order a b)
  where
    by_order : a ≡ b ⊎ (a < b ⊎ b < a) → a ≡ b
    by_order (inl same) = same
    by_order (inr (inl less)) = absurd (both_ways (test (take b text)) (h.longest b less k.within) k.passes)
    by_order (inr (inr more)) = absurd (both_ways (test (take a text)) (k.longest a more h.within) h.passes)

some_is : (a b : Token) → ◌≡◌ {A = Option Token} (Some a) (Some b) → a ≡ b
some_is a b e = cc

none_is_some : (token : Token) → ◌≡◌ {A = Option Token} None (Some token) → ⊥
none_is_some token e = cc

first_is_one : (text : List ℕ) (m n : ℕ) (a b : Token) → IsFirstToken text m a → IsFirstToken text n b → (m ≡ n) × (a ≡ b)
first_is_one text m n a b h k =
    let len : m ≡ n = longest_is_one is_token text m n h.longest k.longest in
    (len, some_is a b (sym h.spelled ∙ ap (λ (l : ℕ). token_of (take l text)) len ∙ k.spelled))

-- a token has an octet
pub first_has_len : (text : List ℕ) (len : ℕ) (token : Token) → IsFirstToken text len token → 0 < len
first_has_len text zero token h = absurd (none_is_some token h.spelled)
first_has_len text (suc len) token h = omega arith

pub first_within : (text : List ℕ) (at len : ℕ) (token : Token) → IsFirstToken (drop at text) len token → at ≤ length text → at + len ≤ length text
first_within text at len token h le = omega (arith, h.longest.within, length-drop at text)

-- ---- where no token begins

abbrev NoFirst : List ℕ → ℕ → Type 0
NoFirst text at = (len : ℕ) (token : Token) → IsFirstToken (drop at text) len token → ⊥

none_begins : (text : List ℕ) (at : ℕ) → HasNone is_token (drop at text) → NoFirst text at
none_begins text at none len token h = both_ways (is_token (take len (drop at text))) (none len h.longest.within) h.longest.passes

empty_first : (len : ℕ) (token : Token) → IsFirstToken [] len token → ⊥
empty_first zero token h = none_is_some token h.spelled
empty_first (suc len) token h = absurd (omega (arith, h.longest.within))

none_at_end : (text : List ℕ) → NoFirst text (length text)
none_at_end text len token h = empty_first len token (subst (λ (xs : List ℕ). IsFirstToken xs len token) (drop_all (length text) text (omega arith)) h)

moved : (text : List ℕ) (m n : ℕ) → m ≡ n → NoFirst text n → NoFirst text m
moved text m n e none len token h = none len token (subst (λ (k : ℕ). IsFirstToken (drop k text) len token) e h)

-- ---- lists of tokens

-- two lists of tokens from one place, each up to where no token begins
same_tokens : (text : List ℕ) (at : ℕ) (a : List Token) (p : List ℕ) (to : ℕ) (b : List Token) (q : List ℕ) (till : ℕ) → AreTokensFrom text at a p to → AreTokensFrom text at b q till →
    NoFirst text (next_at text to) → NoFirst text (next_at text till) → (a ≡ b) × (p ≡ q) × (to ≡ till)
same_tokens text at [] [] to [] [] till h k no_more no_other = (refl, refl, sym h ∙ k)
same_tokens text at [] [] to [] (y ∷ q) till h k no_more no_other = absurd k
same_tokens text at [] [] to (u ∷ b) [] till h k no_more no_other = absurd k
same_tokens text at [] [] to (u ∷ b) (y ∷ q) till h k no_more no_other =
    absurd (moved text y (next_at text to) (k.0 ∙ ap (next_at text) h) no_more k.1 u k.2)
same_tokens text at [] (x ∷ p) to b q till h k no_more no_other = absurd h
same_tokens text at (t ∷ a) [] to b q till h k no_more no_other = absurd h
same_tokens text at (t ∷ a) (x ∷ p) to [] [] till h k no_more no_other =
    absurd (moved text x (next_at text till) (h.0 ∙ ap (next_at text) k) no_other h.1 t h.2)
same_tokens text at (t ∷ a) (x ∷ p) to [] (y ∷ q) till h k no_more no_other = absurd k
same_tokens text at (t ∷ a) (x ∷ p) to (u ∷ b) [] till h k no_more no_other = absurd k
same_tokens text at (t ∷ a) (x ∷ p) to (u ∷ b) (y ∷ q) till h k no_more no_other =
    let place : y ≡ x = k.0 ∙ sym h.0 in
    let first = first_is_one (drop x text) h.1 k.1 t u h.2 (subst (λ (r : ℕ). IsFirstToken (drop r text) k.1 u) place k.2) in
    let behind : y + k.1 ≡ x + h.1 = omega (arith, place, first.0) in
    let more = same_tokens text (x + h.1) a p to b q till h.3 (subst (λ (r : ℕ). AreTokensFrom text r b q till) behind k.3) no_more no_other in
    (ap₂ (λ (v : Token) (vs : List Token). v ∷ vs) first.1 more.0, ap₂ (λ (v : ℕ) (vs : List ℕ). v ∷ vs) (sym place) more.1, more.2)

same_before : (text : List ℕ) (a b : List Token) (p q : List ℕ) (m n : ℕ) → AreTokensBefore text a p m → AreTokensBefore text b q n → NoFirst text m → NoFirst text n → (a ≡ b) × (p ≡ q) × (m ≡ n)
same_before text a b p q m n h k no_more no_other =
    let same = same_tokens text 0 a p h.0 b q k.0 h.1 k.1 (moved text (next_at text h.0) m h.2 no_more) (moved text (next_at text k.0) n k.2 no_other) in
    (same.0, same.1, sym h.2 ∙ ap (next_at text) same.2 ∙ k.2)

pub tokens_are_one : (text : List ℕ) (a b : List Token) (p q : List ℕ) → AreTokens text a p → AreTokens text b q → (a ≡ b) × (p ≡ q)
tokens_are_one text a b p q h k =
    let same = same_before text a b p q (length text) (length text) h k (none_at_end text) (none_at_end text) in
    (same.0, same.1)

pub no_token_or_tokens : (text : List ℕ) (at : ℕ) (tokens : List Token) (places : List ℕ) → IsNoToken text at → AreTokens text tokens places → ⊥
no_token_or_tokens text at tokens places h k =
    let same = same_before text h.tokens tokens h.places places at (length text) h.before k (none_begins text at h.none) (none_at_end text) in
    absurd (omega (arith, h.within, same.2))

pub no_token_is_one : (text : List ℕ) (m n : ℕ) → IsNoToken text m → IsNoToken text n → m ≡ n
no_token_is_one text m n h k =
    let same = same_before text h.tokens k.tokens h.places k.places m n h.before k.before (none_begins text m h.none) (none_begins text n k.none) in
    same.2

-- ---- one token more

one_more_from : (text : List ℕ) (from : ℕ) (tokens : List Token) (places : List ℕ) (to place len : ℕ) (token : Token) → AreTokensFrom text from tokens places to → place ≡ next_at text to →
    IsFirstToken (drop place text) len token → AreTokensFrom text from (tokens ++ token ∷ []) (places ++ place ∷ []) (place + len)
one_more_from text from [] [] to place len token h e first = (e ∙ ap (next_at text) (sym h), len, first, refl)
one_more_from text from [] (x ∷ places) to place len token h e first = absurd h
one_more_from text from (t ∷ tokens) [] to place len token h e first = absurd h
one_more_from text from (t ∷ tokens) (x ∷ places) to place len token h e first = (h.0, h.1, h.2, one_more_from text (x + h.1) tokens places to place len token h.3 e first)

pub no_tokens_yet : (text : List ℕ) → AreTokensBefore text [] [] (next_at text 0)
no_tokens_yet text = (0, refl, refl)

pub one_more_token : (text : List ℕ) (tokens : List Token) (places : List ℕ) (at len : ℕ) (token : Token) → AreTokensBefore text tokens places at → IsFirstToken (drop at text) len token →
    AreTokensBefore text (tokens ++ token ∷ []) (places ++ at ∷ []) (next_at text (at + len))
one_more_token text tokens places at len token h first = (at + len, one_more_from text 0 tokens places h.0 at len token h.1 (sym h.2) first, refl)

-- ---- a place for each token

places_from : (text : List ℕ) (at : ℕ) (tokens : List Token) (places : List ℕ) (to : ℕ) → AreTokensFrom text at tokens places to → length places ≡ length tokens
places_from text at [] [] to h = refl
places_from text at [] (x ∷ places) to h = absurd h
places_from text at (t ∷ tokens) [] to h = absurd h
places_from text at (t ∷ tokens) (x ∷ places) to h = let e = places_from text (x + h.1) tokens places to h.3 in omega (arith, e)

pub one_place_each : (text : List ℕ) (tokens : List Token) (places : List ℕ) (at : ℕ) → AreTokensBefore text tokens places at → length places ≡ length tokens
one_place_each text tokens places at h = places_from text 0 tokens places h.0 h.1

-- ---- the text that spells each token

of_texts_from : (text : List ℕ) (at : ℕ) (tokens : List Token) (places : List ℕ) (to : ℕ) → AreTokensFrom text at tokens places to → AreOfTexts tokens
of_texts_from text at [] [] to h = tt
of_texts_from text at [] (x ∷ places) to h = absurd h
of_texts_from text at (t ∷ tokens) [] to h = absurd h
of_texts_from text at (t ∷ tokens) (x ∷ places) to h = ((take h.1 (drop x text), h.2.spelled), of_texts_from text (x + h.1) tokens places to h.3)

pub of_texts : (text : List ℕ) (tokens : List Token) (places : List ℕ) (at : ℕ) → AreTokensBefore text tokens places at → AreOfTexts tokens
of_texts text tokens places at h = of_texts_from text 0 tokens places h.0 h.1
