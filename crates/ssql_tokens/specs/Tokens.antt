-- Which tokens a text is, and where it stops being tokens.
use Rattle.std.specs.Prelude.{◌≡◌, ◌+◌, ◌<◌, ℕ, List, [], ◌∷◌, length, take, drop, Some}
use Rattle.ssql_tokens.specs.declared.token.Token.{Token}
use Rattle.ssql_tokens.specs.TokenTexts.{token_of, is_token}
use Rattle.ssql_tokens.specs.Longest.{IsLongest, HasNone}
use Rattle.ssql_tokens.specs.Blanks.{next_at}

-- The longest front of a text that spells a token has this length, and spells this token.
pub record IsFirstToken (text : List ℕ) (len : ℕ) (token : Token) : Type 0 where
  pub spelled : token_of (take len text) ≡ Some token
  pub longest : IsLongest is_token text len

-- Tokens with the octets at which they begin, one after the other from one octet of a text to another: each stands at the first octet
-- that is neither blank nor in a comment.
abbrev pub AreTokensFrom : List ℕ → ℕ → List Token → List ℕ → ℕ → Type 0
AreTokensFrom text at [] [] to = at ≡ to
AreTokensFrom text at [] (place ∷ places) to = ⊥
AreTokensFrom text at (token ∷ tokens) [] to = ⊥
AreTokensFrom text at (token ∷ tokens) (place ∷ places) to =
    (place ≡ next_at text at) × (len : ℕ) × IsFirstToken (drop place text) len token × AreTokensFrom text (place + len) tokens places to

-- the tokens before an octet of a text, where the next token may begin, or the text ends
abbrev pub AreTokensBefore : List ℕ → List Token → List ℕ → ℕ → Type 0
AreTokensBefore text tokens places at = (to : ℕ) × AreTokensFrom text 0 tokens places to × (next_at text to ≡ at)

-- the tokens of a text, and the octets at which they begin
abbrev pub AreTokens : List ℕ → List Token → List ℕ → Type 0
AreTokens text tokens places = AreTokensBefore text tokens places (length text)

-- Before this octet of a text there are tokens, and none begins there.
pub record IsNoToken (text : List ℕ) (at : ℕ) : Type 0 where
  pub tokens : List Token
  pub places : List ℕ
  pub before : AreTokensBefore text tokens places at
  pub within : at < length text
  pub none : HasNone is_token (drop at text)
