-- The longest token at a place of a script, as the tokenizer finds it.
use Rattle.std.proofs.Common.{◌≡◌, ◌+◌, ℕ, true, List, length, take, drop, Some, None, slice_range, sym, ap, subst, ◌∙◌}
use Rattle.std.proofs.lemmas.List.{drop-drop, take_rest}
use Rattle.ssql_tokens.specs.declared.token.Token.{Token}
use Rattle.ssql_tokens.specs.declared.token.Token.TheVariants as t
use Rattle.ssql_tokens.specs.TokenTexts.{is_letter, word_of, unquoted, is_token}
use Rattle.ssql_tokens.specs.Longest.{HasNone}
use Rattle.ssql_tokens.specs.Lengths.{word_len, number_len, string_len}
use Rattle.ssql_tokens.specs.Tokens.{IsFirstToken}
use Rattle.ssql_tokens.specs.Tokenizing.{begins_with, begins_string, begins_number}
use Rattle.ssql_tokens.proofs.FirstTokens.{cut_is, first_word, word_there, first_number, first_string, no_string}

module _ (script : List ℕ) (at : ℕ) where
  word_cut : (len : ℕ) (octets : List ℕ) → len ≡ word_len (drop at script) → octets ≡ slice_range script at (at + len) → octets ≡ take (word_len (drop at script)) (drop at script)
  word_cut len octets l o = o ∙ cut_is script at len ∙ ap (λ (k : ℕ). take k (drop at script)) l

  pub word_found : (len : ℕ) (octets : List ℕ) (token : Token) → begins_with is_letter (drop at script) ≡ true → len ≡ word_len (drop at script) → octets ≡ slice_range script at (at + len) →
      word_of octets ≡ Some token → IsFirstToken (drop at script) len token
  word_found len octets token e l o w =
      subst (λ (k : ℕ). IsFirstToken (drop at script) k token) (sym l) (first_word (drop at script) e token (ap word_of (sym (word_cut len octets l o)) ∙ w))

  pub word_lost : (len : ℕ) (octets : List ℕ) → begins_with is_letter (drop at script) ≡ true → len ≡ word_len (drop at script) → octets ≡ slice_range script at (at + len) → word_of octets ≡ None → ⊥
  word_lost len octets e l o w = word_there (drop at script) e (ap word_of (sym (word_cut len octets l o)) ∙ w)

  pub number_found : (len : ℕ) (octets : List ℕ) → begins_with begins_number (drop at script) ≡ true → number_len (drop at script) ≡ Some len → octets ≡ slice_range script at (at + len) →
      IsFirstToken (drop at script) len (t.Number octets)
  number_found len octets e l o =
      subst (λ (xs : List ℕ). IsFirstToken (drop at script) len (t.Number xs)) (sym (o ∙ cut_is script at len)) (first_number (drop at script) e len l)

  behind_quote : drop 1 (drop at script) ≡ drop (at + 1) script
  behind_quote = drop-drop 1 at script

  pub string_found : (len : ℕ) (octets : List ℕ) → begins_with begins_string (drop at script) ≡ true → string_len (drop (at + 1) script) ≡ Some len → octets ≡ unquoted (slice_range script (at + 1) (at + 1 + len)) →
      IsFirstToken (drop at script) (len + 1) (t.Quoted octets)
  string_found len octets e l o =
      let cut : unquoted (slice_range script (at + 1) (at + 1 + len)) ≡ unquoted (take len (drop 1 (drop at script))) = ap unquoted (cut_is script (at + 1) len ∙ ap (take len) (sym behind_quote)) in
      subst (λ (xs : List ℕ). IsFirstToken (drop at script) (len + 1) (t.Quoted xs)) (sym (o ∙ cut)) (first_string (drop at script) e len (ap string_len behind_quote ∙ l))

  pub string_lost : begins_with begins_string (drop at script) ≡ true → string_len (drop (at + 1) script) ≡ None → HasNone is_token (drop at script)
  string_lost e l = no_string (drop at script) e (ap string_len behind_quote ∙ l)

-- a part to the end is what is left
pub to_end : (xs : List ℕ) (at : ℕ) → slice_range xs at (length xs) ≡ drop at xs
to_end xs at = take_rest xs at
