-- A printed script is read as the same statements.
use Rattle.std.proofs.Common.{◌≡◌, ◌+◌, ℕ, Bool, true, false, cond, List, [], ◌∷◌, ◌++◌, length, drop, refl, sym, ap, subst, ◌∙◌, append_assoc, length-append, arith}
use Rattle.std.specs.Prelude.{◌||◌}
use Rattle.ssql_tokens.specs.declared.token.Token.{Token}
use Rattle.ssql_tokens.specs.declared.token.Token.TheVariants as t
use Rattle.ssql_tokens.specs.declared.symbols.Symbol.TheVariants as w
use Rattle.ssql_tokens.specs.SymbolTests.{is_symbol}
use Rattle.ssql_tokens.specs.Blanks.{skip_blanks, next_at}
use Rattle.ssql_tokens.specs.Tokens.{IsFirstToken, AreTokensFrom}
use Rattle.ssql_tokens.specs.Written.{token_text, IsTokenOfText, AreOfTexts}
use Rattle.ssql_parse.specs.declared.printing.Gap.{Gap}
use Rattle.ssql_parse.specs.declared.printing.Gap.TheVariants.{Nothing, Space, LineEnd}
use Rattle.ssql_parse.specs.declared.statement.Statement.{Statement}
use Rattle.ssql_parse.specs.Grammar.{statement_tokens, script_tokens, behind_tokens}
use Rattle.ssql_parse.specs.Parsing.{ReadsScript, IsScript}
use Rattle.ssql_parse.specs.Printing.{joins_before, gap_octets, gap_text, gap_behind, layout, ended_tokens, last_line_end, printed}
use Rattle.ssql_parse.proofs.SymbolReading.{is_that_symbol, symbol_real}
use Rattle.ssql_parse.proofs.Exactness.{real_both}
use Rattle.ssql_parse.proofs.TokensApart.{Separated, token_before, parenthesis_before, skip_none}

-- ---- what stands behind a token

-- a token that joins is one of three
joined_apart : (b d f : Bool) (token : Token) (rest : List ℕ) → is_symbol w.Comma token ≡ b → is_symbol w.Semicolon token ≡ d → is_symbol w.CloseParen token ≡ f → (b || d || f) ≡ true → Separated (token_text token ++ rest)
joined_apart true d f token rest x y z e = Separated.comma rest (ap (λ (u : Token). token_text u ++ rest) (is_that_symbol w.Comma token x))
joined_apart false true f token rest x y z e = Separated.semicolon rest (ap (λ (u : Token). token_text u ++ rest) (is_that_symbol w.Semicolon token y))
joined_apart false false true token rest x y z e = Separated.parenthesis rest (ap (λ (u : Token). token_text u ++ rest) (is_that_symbol w.CloseParen token z))
joined_apart false false false token rest x y z e = absurd cc

space_apart : (token : Token) (joins : Bool) (rest : List ℕ) → joins_before token ≡ joins → Separated ((gap_octets (cond joins Nothing Space) ++ token_text token) ++ rest)
space_apart token true rest e = joined_apart (is_symbol w.Comma token) (is_symbol w.Semicolon token) (is_symbol w.CloseParen token) token rest refl refl refl e
space_apart token false rest e = Separated.space (token_text token ++ rest) refl

-- what is laid out behind a space or a line end stands apart
laid_apart : (gap : Gap) (tokens : List Token) (after : List ℕ) → (gap ≡ Nothing → ⊥) → Separated after → Separated (layout gap tokens ++ after)
laid_apart gap [] after some apart = apart
laid_apart Nothing (token ∷ tokens) after some apart = absurd (some refl)
laid_apart LineEnd (token ∷ tokens) after some apart = Separated.line ((token_text token ++ layout (gap_behind token) tokens) ++ after) refl
laid_apart Space (token ∷ tokens) after some apart =
    let rest = layout (gap_behind token) tokens in
    let space = gap_octets (cond (joins_before token) Nothing Space) in
    let parts : (space ++ (token_text token ++ rest)) ++ after ≡ (space ++ token_text token) ++ (rest ++ after) =
    ap (λ (xs : List ℕ). xs ++ after) (sym (append_assoc space (token_text token) rest)) ∙ append_assoc (space ++ token_text token) rest after in
    subst Separated (sym parts) (space_apart token (joins_before token) (rest ++ after) refl)

-- ---- one token

-- the token behind a gap is the next one
gap_skipped : (gap : Gap) (token : Token) (rest : List ℕ) → IsTokenOfText token → skip_blanks (gap_text gap token ++ (token_text token ++ rest)) ≡ token_text token ++ rest
gap_skipped Nothing token rest real = skip_none token rest real
gap_skipped LineEnd token rest real = skip_none token rest real
gap_skipped Space token rest real = space_skipped (joins_before token)
  where
    space_skipped : (joins : Bool) → skip_blanks (gap_octets (cond joins Nothing Space) ++ (token_text token ++ rest)) ≡ token_text token ++ rest
    space_skipped true = skip_none token rest real
    space_skipped false = skip_none token rest real

open_or_not : (open_paren line : Bool) → cond open_paren Nothing (cond line LineEnd Space) ≡ Nothing → open_paren ≡ true
open_or_not true line e = refl
open_or_not false true e = absurd cc
open_or_not false false e = absurd cc

token_first : (token : Token) (tokens : List Token) (after : List ℕ) (opens : Bool) → is_symbol w.OpenParen token ≡ opens → IsTokenOfText token → Separated after →
    IsFirstToken (token_text token ++ (layout (gap_behind token) tokens ++ after)) (length (token_text token)) token
token_first token tokens after true e real apart =
    subst (λ (u : Token). IsFirstToken (token_text u ++ (layout (gap_behind token) tokens ++ after)) (length (token_text u)) u) (sym (is_that_symbol w.OpenParen token e)) (parenthesis_before (layout (gap_behind token) tokens ++ after))
token_first token tokens after false e real apart =
    token_before token (layout (gap_behind token) tokens ++ after) real
    (laid_apart (gap_behind token) tokens after (λ none. let both : false ≡ true = sym e ∙ open_or_not (is_symbol w.OpenParen token) (is_symbol w.Semicolon token) none in cc) apart)

-- ---- all tokens

-- what is dropped stands before
dropped : (before rest : List ℕ) → drop (length before) (before ++ rest) ≡ rest
dropped [] rest = refl
dropped (b ∷ before) rest = dropped before rest

laid_tokens : (before : List ℕ) (gap : Gap) (tokens : List Token) (after : List ℕ) → AreOfTexts tokens → Separated after →
    (places : List ℕ) × AreTokensFrom (before ++ (layout gap tokens ++ after)) (length before) tokens places (length before + length (layout gap tokens))
laid_tokens before gap [] after real apart = ([], omega arith)
laid_tokens before gap (token ∷ tokens) after real apart =
    let space = gap_text gap token in
    let word = token_text token in
    let more = layout (gap_behind token) tokens in
    let text = before ++ ((space ++ (word ++ more)) ++ after) in
    let later = before ++ (space ++ word) in
    let inside : (space ++ (word ++ more)) ++ after ≡ space ++ (word ++ (more ++ after)) = append_assoc space (word ++ more) after ∙ ap (λ (xs : List ℕ). space ++ xs) (append_assoc word more after) in
    let whole : text ≡ later ++ (more ++ after) =
    ap (λ (xs : List ℕ). before ++ xs) (inside ∙ sym (append_assoc space word (more ++ after))) ∙ sym (append_assoc before (space ++ word) (more ++ after)) in
    let split : text ≡ (before ++ space) ++ (word ++ (more ++ after)) = ap (λ (xs : List ℕ). before ++ xs) inside ∙ sym (append_assoc before space (word ++ (more ++ after))) in
    let place = length (before ++ space) in
    let rest : drop (length before) text ≡ space ++ (word ++ (more ++ after)) = dropped before ((space ++ (word ++ more)) ++ after) ∙ inside in
    let skipped : skip_blanks (drop (length before) text) ≡ word ++ (more ++ after) = ap skip_blanks rest ∙ gap_skipped gap token (more ++ after) real.0 in
    let next : place ≡ next_at text (length before) =
    omega (arith, ap length skipped, ap length split, length-append (before ++ space) (word ++ (more ++ after))) in
    let here : drop place text ≡ word ++ (more ++ after) = ap (drop place) split ∙ dropped (before ++ space) (word ++ (more ++ after)) in
    let first : IsFirstToken (drop place text) (length word) token =
    subst (λ (xs : List ℕ). IsFirstToken xs (length word) token) (sym here) (token_first token tokens after (is_symbol w.OpenParen token) refl real.0 apart) in
    let again = laid_tokens later (gap_behind token) tokens after real.1 apart in
    let at : length later ≡ place + length word = ap length (sym (append_assoc before space word)) ∙ length-append (before ++ space) word in
    let to : length later + length more ≡ length before + length (space ++ (word ++ more)) =
    omega (arith, length-append before (space ++ word), length-append space word, length-append space (word ++ more), length-append word more) in
    let behind : AreTokensFrom text (place + length word) tokens again.0 (length before + length (space ++ (word ++ more))) =
    subst (λ (n : ℕ). AreTokensFrom text (place + length word) tokens again.0 n) to
    (subst (λ (n : ℕ). AreTokensFrom text n tokens again.0 (length later + length more)) at (subst (λ (xs : List ℕ). AreTokensFrom xs (length later) tokens again.0 (length later + length more)) (sym whole) again.1)) in
    (place ∷ again.0, (next, length word, first, behind))

-- ---- scripts

real_parts : (a b : List Token) → AreOfTexts (a ++ b) → AreOfTexts a × AreOfTexts b
real_parts [] b h = (tt, h)
real_parts (t ∷ a) b h = let more = real_parts a b h.1 in ((h.0, more.0), more.1)

-- with a `;` behind each statement
real_behind : (ended : Bool) (statements : List Statement) → AreOfTexts (behind_tokens ended statements) → AreOfTexts (t.Symbol w.Semicolon ∷ ended_tokens statements)
real_behind ended [] real = (symbol_real w.Semicolon, tt)
real_behind ended (statement ∷ statements) real =
    let parts = real_parts (statement_tokens statement) (behind_tokens ended statements) real.1 in
    (real.0, real_both (statement_tokens statement) (t.Symbol w.Semicolon ∷ ended_tokens statements) parts.0 (real_behind ended statements parts.1))

real_ended : (ended : Bool) (statements : List Statement) → AreOfTexts (script_tokens ended statements) → AreOfTexts (ended_tokens statements)
real_ended ended [] real = tt
real_ended ended (statement ∷ statements) real =
    let parts = real_parts (statement_tokens statement) (behind_tokens ended statements) real in
    real_both (statement_tokens statement) (t.Symbol w.Semicolon ∷ ended_tokens statements) parts.0 (real_behind ended statements parts.1)

behind_ended : (statements : List Statement) → t.Symbol w.Semicolon ∷ ended_tokens statements ≡ behind_tokens true statements
behind_ended [] = refl
behind_ended (statement ∷ statements) = ap (λ (ts : List Token). t.Symbol w.Semicolon ∷ (statement_tokens statement ++ ts)) (behind_ended statements)

script_ended : (statements : List Statement) → ended_tokens statements ≡ script_tokens true statements
script_ended [] = refl
script_ended (statement ∷ statements) = ap (λ (ts : List Token). statement_tokens statement ++ ts) (behind_ended statements)

-- the last line end is separate, and no token stands behind it
last_apart : (statements : List Statement) → Separated (last_line_end statements)
last_apart [] = Separated.nothing refl
last_apart (statement ∷ statements) = Separated.line [] refl

last_blank : (statements : List Statement) → length (skip_blanks (last_line_end statements)) ≡ 0
last_blank [] = refl
last_blank (statement ∷ statements) = refl

pub printed_again : (statements : List Statement) (places : List ℕ) → IsScript statements places → (at : List ℕ) × ReadsScript (printed statements) statements at
printed_again statements places h =
    let tokens = ended_tokens statements in
    let text = layout Nothing tokens in
    let last = last_line_end statements in
    let found = laid_tokens [] Nothing tokens last (real_ended h.ended statements h.real) (last_apart statements) in
    let none : length (skip_blanks (drop (length text) (text ++ last))) ≡ 0 = ap (λ (xs : List ℕ). length (skip_blanks xs)) (dropped text last) ∙ last_blank statements in
    let ends : next_at (text ++ last) (length text) ≡ length (text ++ last) = omega (arith, none) in
    let from : AreTokensFrom (printed statements) 0 tokens found.0 (length text) = subst (λ (n : ℕ). AreTokensFrom (printed statements) 0 tokens found.0 n) (omega arith) found.1 in
    (found.0, record { tokens = tokens; are = (length text, from, ends); spelled = (h.are, (true, script_ended statements)) })
