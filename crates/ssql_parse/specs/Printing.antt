-- How a script is printed: keywords in capitals, columns as their table has them; a space before each token but `,`, `;`, `)` and what stands
-- behind `(`; a line end behind each `;`, also the last.
use Rattle.std.specs.Prelude.{◌||◌, ◌==◌, ◌++◌, List, ℕ, [], ◌∷◌, Bool, if◌then◌else◌}
use Rattle.ssql_tokens.specs.declared.token.Token.{Token}
use Rattle.ssql_tokens.specs.declared.token.Token.TheVariants as t
use Rattle.ssql_tokens.specs.declared.symbols.Symbol.TheVariants as w
use Rattle.ssql_tokens.specs.SymbolTests.{is_symbol}
use Rattle.ssql_tokens.specs.Written.{token_text}
use Rattle.ssql_parse.specs.declared.printing.Gap.{Gap}
use Rattle.ssql_parse.specs.declared.printing.Gap.TheVariants.{Nothing, Space, LineEnd}
use Rattle.ssql_parse.specs.declared.statement.Statement.{Statement}
use Rattle.ssql_parse.specs.Grammar.{statement_tokens}

-- an octet of a string, twice if it is a quote
abbrev pub octet_doubled : ℕ → List ℕ
octet_doubled b = if b == 39 then 39 ∷ 39 ∷ [] else b ∷ []

-- no space stands before these
abbrev pub joins_before : Token → Bool
joins_before token = is_symbol w.Comma token || is_symbol w.Semicolon token || is_symbol w.CloseParen token

-- the octets of a gap
abbrev pub gap_octets : Gap → List ℕ
gap_octets Nothing = []
gap_octets Space = 32 ∷ []
gap_octets LineEnd = 10 ∷ []

-- what stands before a token, where this would stand before another
abbrev pub gap_before : Gap → Token → Gap
gap_before Nothing token = Nothing
gap_before Space token = if joins_before token then Nothing else Space
gap_before LineEnd token = LineEnd

-- its octets
abbrev pub gap_text : Gap → Token → List ℕ
gap_text gap token = gap_octets (gap_before gap token)

-- what has to stand behind a token
abbrev pub gap_behind : Token → Gap
gap_behind token = if is_symbol w.OpenParen token then Nothing else (if is_symbol w.Semicolon token then LineEnd else Space)

-- what has to stand behind tokens, and before them
abbrev pub gap_after : Gap → List Token → Gap
gap_after gap [] = gap
gap_after gap (token ∷ tokens) = gap_after (gap_behind token) tokens

-- the text of tokens behind a gap
abbrev pub layout : Gap → List Token → List ℕ
layout gap [] = []
layout gap (token ∷ tokens) = gap_text gap token ++ (token_text token ++ layout (gap_behind token) tokens)

-- the tokens of statements, with a `;` behind each
abbrev pub ended_tokens : List Statement → List Token
ended_tokens [] = []
ended_tokens (statement ∷ statements) = statement_tokens statement ++ t.Symbol w.Semicolon ∷ ended_tokens statements

-- a line end, where there are statements
abbrev pub last_line_end : List Statement → List ℕ
last_line_end [] = []
last_line_end (statement ∷ statements) = 10 ∷ []

-- the text of a script
abbrev pub printed : List Statement → List ℕ
printed statements = layout Nothing (ended_tokens statements) ++ last_line_end statements

-- a text that grows, and what has to stand behind it
pub record Laid : Type 0 where
  pub text : List ℕ
  pub gap : Gap

-- tokens behind a text
unfoldable pub laid : Laid → List Token → Laid
laid before tokens = record { text = before.text ++ layout before.gap tokens; gap = gap_after before.gap tokens }
