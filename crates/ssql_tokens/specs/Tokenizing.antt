-- What the tokenizer finds at a place.
use Rattle.std.specs.Prelude.{◌==◌, ◌||◌, ◌&&◌, not, nat_lt, ℕ, List, [], ◌∷◌, length, take, Bool, false, Option, Some, None, if◌then◌else◌}
use Rattle.text_forms.specs.Digits.{is_digit}
use Rattle.ssql_tokens.specs.declared.token.Token.{Token}
use Rattle.ssql_tokens.specs.declared.script_tokens.NotTokens.{NotTokens}
use Rattle.ssql_tokens.specs.declared.script_tokens.NotTokens.TheVariants.{NoToken, OutOfMemory}
use Rattle.ssql_tokens.specs.TokenTexts.{is_letter, punctuation_token, is_token}
use Rattle.ssql_tokens.specs.Longest.{HasNone}
use Rattle.ssql_tokens.specs.Tokens.{IsFirstToken, IsNoToken}

-- the first octet of a text passes a test
abbrev pub begins_with : (ℕ → Bool) → List ℕ → Bool
begins_with test [] = false
begins_with test (b ∷ rest) = test b

-- the octet begins a string
abbrev pub begins_string : ℕ → Bool
begins_string b = not (is_letter b) && b == 39

-- the octet begins a number, if anything
abbrev pub begins_number : ℕ → Bool
begins_number b = not (is_letter b) && (not (b == 39) && (is_digit b || b == 45))

-- the octet begins punctuation or an operator, if anything
abbrev pub begins_punctuation : ℕ → Bool
begins_punctuation b = not (is_letter b) && (not (b == 39) && not (is_digit b || b == 45))

-- the punctuation or the operator that the first two octets of a text are
abbrev pub pair_token : List ℕ → Option Token
pair_token text = if nat_lt 1 (length text) then punctuation_token (take 2 text) else None

-- the longest token at the front of a text with its length, or nothing where no front of it is a token
abbrev pub IsFoundFirst : List ℕ → Option (Token × ℕ) → Type 0
IsFoundFirst text None = HasNone is_token text
IsFoundFirst text (Some found) = IsFirstToken text found.1 found.0

-- why a text isn't tokens: at an octet none begins, or memory ran out
abbrev pub IsNotTokens : List ℕ → NotTokens → Type 0
IsNotTokens text (NoToken at) = IsNoToken text at
IsNotTokens text OutOfMemory = Unit {0}
