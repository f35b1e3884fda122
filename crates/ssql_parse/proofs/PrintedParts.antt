-- A text that grows by tokens grows by all of them.
use Rattle.std.proofs.Common.{◌≡◌, ◌<◌, ◌≤◌, ◌+◌, ℕ, zero, suc, Bool, true, false, eqb, List, [], ◌∷◌, ◌++◌, length, drop, get_or, refl, sym, ap, ap₂, ◌∙◌, append_assoc, arith}
use Rattle.std.proofs.lemmas.Bool.{cond-true, cond-false}
use Rattle.std.proofs.lemmas.List.{append-nil, drop_more, drop_all}
use Rattle.ssql_tokens.specs.declared.token.Token.{Token}
use Rattle.ssql_tokens.specs.declared.token.Token.TheVariants as t
use Rattle.ssql_tokens.specs.declared.symbols.Symbol.TheVariants as w
use Rattle.ssql_tokens.specs.Written.{quotes_doubled, token_text}
use Rattle.ssql_parse.specs.declared.printing.Gap.{Gap}
use Rattle.ssql_parse.specs.declared.printing.Gap.TheVariants.{Nothing, Space, LineEnd}
use Rattle.ssql_parse.specs.declared.statement.Statement.{Statement}
use Rattle.ssql_parse.specs.declared.condition.Piece.{Piece}
use Rattle.ssql_parse.specs.Grammar.{comma_before_each, with_commas, pieces_tokens, piece_tokens, statement_tokens}
use Rattle.ssql_parse.specs.Printing.{octet_doubled, joins_before, gap_octets, gap_before, gap_text, gap_behind, gap_after, layout, Laid, laid, ended_tokens, last_line_end, printed}

layout_append : (gap : Gap) (a b : List Token) → layout gap (a ++ b) ≡ layout gap a ++ layout (gap_after gap a) b
layout_append gap [] b = refl
layout_append gap (x ∷ a) b =
    ap (λ (xs : List ℕ). gap_text gap x ++ (token_text x ++ xs)) (layout_append (gap_behind x) a b)
    ∙ ap (λ (xs : List ℕ). gap_text gap x ++ xs) (sym (append_assoc (token_text x) (layout (gap_behind x) a) (layout (gap_after (gap_behind x) a) b)))
    ∙ sym (append_assoc (gap_text gap x) (token_text x ++ layout (gap_behind x) a) (layout (gap_after (gap_behind x) a) b))

gap_after_append : (gap : Gap) (a b : List Token) → gap_after gap (a ++ b) ≡ gap_after (gap_after gap a) b
gap_after_append gap [] b = refl
gap_after_append gap (x ∷ a) b = gap_after_append (gap_behind x) a b

pub laid_two : (x : Laid) (a b : List Token) → laid (laid x a) b ≡ laid x (a ++ b)
unfolding laid
laid_two x a b =
    ap₂ (λ (text : List ℕ) (gap : Gap). record { text = text; gap = gap })
    (append_assoc x.text (layout x.gap a) (layout (gap_after x.gap a) b) ∙ ap (λ (xs : List ℕ). x.text ++ xs) (sym (layout_append x.gap a b))) (sym (gap_after_append x.gap a b))

pub laid_none : (x : Laid) → laid x [] ≡ x
unfolding laid
laid_none x = ap (λ (text : List ℕ). record { text = text; gap = x.gap }) (append-nil x.text)

-- one token
pub laid_one : (x : Laid) (token : Token) → record { text = (x.text ++ gap_text x.gap token) ++ token_text token; gap = gap_behind token } ≡ laid x (token ∷ [])
unfolding laid
laid_one x token =
    ap (λ (text : List ℕ). record { text = text; gap = gap_behind token })
    (append_assoc x.text (gap_text x.gap token) (token_text token) ∙ ap (λ (xs : List ℕ). x.text ++ (gap_text x.gap token ++ xs)) (sym (append-nil (token_text token))))

same_gap : (gap : Gap) (token : Token) → joins_before token ≡ false → gap_before gap token ≡ gap
same_gap Nothing token e = refl
same_gap Space token e = rw e refl
same_gap LineEnd token e = refl

-- one that is no symbol
pub laid_word : (x : Laid) (token : Token) → joins_before token ≡ false → gap_behind token ≡ Space → record { text = (x.text ++ gap_octets x.gap) ++ token_text token; gap = Space } ≡ laid x (token ∷ [])
laid_word x token e f =
    ap₂ (λ (gap behind : Gap). record { text = (x.text ++ gap_octets gap) ++ token_text token; gap = behind }) (sym (same_gap x.gap token e)) (sym f) ∙ laid_one x token

pub word_text : (x : Laid) (token : Token) (octets : List ℕ) → octets ≡ token_text token → joins_before token ≡ false → gap_behind token ≡ Space → record { text = (x.text ++ gap_octets x.gap) ++ octets; gap = Space } ≡ laid x (token ∷ [])
word_text x token octets e f g = ap (λ (xs : List ℕ). record { text = (x.text ++ gap_octets x.gap) ++ xs; gap = Space }) e ∙ laid_word x token f g

pub symbol_laid : (x mid : Laid) (token : Token) (before behind : Gap) (octets : List ℕ) → before ≡ gap_before x.gap token → mid ≡ record { text = x.text ++ gap_octets before; gap = x.gap } → octets ≡ token_text token → behind ≡ gap_behind token →
    record { text = mid.text ++ octets; gap = behind } ≡ laid x (token ∷ [])
symbol_laid x mid token before behind octets b m o h =
    let text : mid.text ≡ x.text ++ gap_text x.gap token = ap (λ (u : Laid). u.text) m ∙ ap (λ (g : Gap). x.text ++ gap_octets g) b in
    ap₂ (λ (xs : List ℕ) (g : Gap). record { text = xs; gap = g }) (ap₂ (λ (u v : List ℕ). u ++ v) text o) h ∙ laid_one x token

-- ---- strings

doubled_at : (b : ℕ) (rest : List ℕ) (quote : Bool) → eqb b 39 ≡ quote → quotes_doubled (b ∷ rest) ≡ octet_doubled b ++ quotes_doubled rest
doubled_at b rest true e = cond-true (eqb b 39) (39 ∷ 39 ∷ quotes_doubled rest) (b ∷ quotes_doubled rest) e ∙ ap (λ (xs : List ℕ). xs ++ quotes_doubled rest) (sym (cond-true (eqb b 39) (39 ∷ 39 ∷ []) (b ∷ []) e))
doubled_at b rest false e = cond-false (eqb b 39) (39 ∷ 39 ∷ quotes_doubled rest) (b ∷ quotes_doubled rest) e ∙ ap (λ (xs : List ℕ). xs ++ quotes_doubled rest) (sym (cond-false (eqb b 39) (39 ∷ 39 ∷ []) (b ∷ []) e))

pub doubled_step : (text octets next all : List ℕ) (i b : ℕ) → i < length text → get_or text i b ≡ b → octets ++ quotes_doubled (drop i text) ≡ all → next ≡ octets ++ octet_doubled b → next ++ quotes_doubled (drop (i + 1) text) ≡ all
doubled_step text octets next all i b lt is so_far e =
    let rest = quotes_doubled (drop (i + 1) text) in
    let parts : drop i text ≡ b ∷ drop (i + 1) text = drop_more text i b lt ∙ ap (λ (u : ℕ). u ∷ drop (i + 1) text) is in
    ap (λ (xs : List ℕ). xs ++ rest) e ∙ append_assoc octets (octet_doubled b) rest ∙ ap (λ (xs : List ℕ). octets ++ xs) (sym (ap quotes_doubled parts ∙ doubled_at b (drop (i + 1) text) (eqb b 39) refl)) ∙ so_far

-- ---- the loops

pub read_again : {A : Type 0} (xs : List A) (i : ℕ) (d : A) → i < length xs → get_or xs i (get_or xs i d) ≡ get_or xs i d
read_again [] i d lt = absurd (omega arith)
read_again (x ∷ xs) zero d lt = refl
read_again (x ∷ xs) (suc i) d lt = read_again xs i d (omega arith)

module _ {A : Type 0} (word : A → Token) (all : List A) where
  pub comma_step : (x y z end : Laid) (i : ℕ) (item : A) → i < length all → get_or all i item ≡ item → laid x (comma_before_each word (drop i all)) ≡ end → y ≡ laid x (t.Symbol w.Comma ∷ []) → z ≡ laid y (word item ∷ []) →
      laid z (comma_before_each word (drop (i + 1) all)) ≡ end
  comma_step x y z end i item lt is so_far e f =
      let rest = comma_before_each word (drop (i + 1) all) in
      let parts : drop i all ≡ item ∷ drop (i + 1) all = drop_more all i item lt ∙ ap (λ (u : A). u ∷ drop (i + 1) all) is in
      ap (λ (u : Laid). laid u rest) (f ∙ ap (λ (u : Laid). laid u (word item ∷ [])) e ∙ laid_two x (t.Symbol w.Comma ∷ []) (word item ∷ []))
      ∙ laid_two x (t.Symbol w.Comma ∷ word item ∷ []) rest ∙ ap (λ (us : List A). laid x (comma_before_each word us)) (sym parts) ∙ so_far

  -- an item that is copied
  pub comma_copied : (x y z end : Laid) (i : ℕ) (d : A) → i < length all → laid x (comma_before_each word (drop i all)) ≡ end → y ≡ laid x (t.Symbol w.Comma ∷ []) → z ≡ laid y (word (get_or all i d) ∷ []) →
      laid z (comma_before_each word (drop (i + 1) all)) ≡ end
  comma_copied x y z end i d lt so_far e f = comma_step x y z end i (get_or all i d) lt (read_again all i d lt) so_far e f

  pub comma_end : (x end : Laid) (i : ℕ) → length all ≤ i → laid x (comma_before_each word (drop i all)) ≡ end → x ≡ end
  comma_end x end i le so_far = sym (laid_none x) ∙ ap (λ (us : List A). laid x (comma_before_each word us)) (sym (drop_all i all le)) ∙ so_far

pub listed_laid : {A : Type 0} (word : A → Token) (x y z : Laid) (all more : List A) (first : A) → z ≡ laid y (comma_before_each word more) → y ≡ laid x (word first ∷ []) → get_or all 0 first ≡ first → 1 ≤ length all → more ≡ drop 1 all →
    z ≡ laid x (with_commas word all)
listed_laid word x y z [] more first f e is some m = absurd (omega arith)
listed_laid word x y z (u ∷ us) more first f e is some m =
    f ∙ ap (λ (v : Laid). laid v (comma_before_each word more)) e ∙ laid_two x (word first ∷ []) (comma_before_each word more)
    ∙ ap₂ (λ (v : _) (vs : List _). laid x (word v ∷ comma_before_each word vs)) (sym is) m

-- where the first is copied
pub listed_copied : {A : Type 0} (word : A → Token) (x y z : Laid) (all more : List A) (d : A) → z ≡ laid y (comma_before_each word more) → y ≡ laid x (word (get_or all 0 d) ∷ []) → 1 ≤ length all → more ≡ drop 1 all →
    z ≡ laid x (with_commas word all)
listed_copied word x y z all more d f e some m = listed_laid word x y z all more (get_or all 0 d) f e (read_again all 0 d some) some m

pub pieces_end : (all : List Piece) (x end : Laid) (i : ℕ) → length all ≤ i → laid x (pieces_tokens (drop i all)) ≡ end → x ≡ end
pieces_end all x end i le so_far = sym (laid_none x) ∙ ap (λ (us : List Piece). laid x (pieces_tokens us)) (sym (drop_all i all le)) ∙ so_far

pub statements_end : (all : List Statement) (x end : Laid) (i : ℕ) → length all ≤ i → laid x (ended_tokens (drop i all)) ≡ end → x ≡ end
statements_end all x end i le so_far = sym (laid_none x) ∙ ap (λ (us : List Statement). laid x (ended_tokens us)) (sym (drop_all i all le)) ∙ so_far

pub pieces_step : (all : List Piece) (x y end : Laid) (i : ℕ) (piece : Piece) → i < length all → get_or all i piece ≡ piece → laid x (pieces_tokens (drop i all)) ≡ end → y ≡ laid x (piece_tokens piece) →
    laid y (pieces_tokens (drop (i + 1) all)) ≡ end
pieces_step all x y end i piece lt is so_far e =
    let rest = pieces_tokens (drop (i + 1) all) in
    let parts : drop i all ≡ piece ∷ drop (i + 1) all = drop_more all i piece lt ∙ ap (λ (u : Piece). u ∷ drop (i + 1) all) is in
    ap (λ (u : Laid). laid u rest) e ∙ laid_two x (piece_tokens piece) rest ∙ ap (λ (us : List Piece). laid x (pieces_tokens us)) (sym parts) ∙ so_far

pub statements_step : (all : List Statement) (x y z end : Laid) (i : ℕ) (statement : Statement) → i < length all → get_or all i statement ≡ statement → laid x (ended_tokens (drop i all)) ≡ end →
    y ≡ laid x (statement_tokens statement) → z ≡ laid y (t.Symbol w.Semicolon ∷ []) → laid z (ended_tokens (drop (i + 1) all)) ≡ end
statements_step all x y z end i statement lt is so_far e f =
    let rest = ended_tokens (drop (i + 1) all) in
    let parts : drop i all ≡ statement ∷ drop (i + 1) all = drop_more all i statement lt ∙ ap (λ (u : Statement). u ∷ drop (i + 1) all) is in
    ap (λ (u : Laid). laid u rest) (f ∙ ap (λ (u : Laid). laid u (t.Symbol w.Semicolon ∷ [])) e ∙ laid_two x (statement_tokens statement) (t.Symbol w.Semicolon ∷ []))
    ∙ laid_two x (statement_tokens statement ++ t.Symbol w.Semicolon ∷ []) rest ∙ ap (laid x) (append_assoc (statement_tokens statement) (t.Symbol w.Semicolon ∷ []) rest)
    ∙ ap (λ (us : List Statement). laid x (ended_tokens us)) (sym parts) ∙ so_far

-- ---- the whole

pub last_none : (text : List ℕ) (statements : List Statement) → statements ≡ [] → text ≡ text ++ last_line_end statements
last_none text statements e = sym (append-nil text) ∙ ap (λ (ss : List Statement). text ++ last_line_end ss) (sym e)

pub last_some : (text : List ℕ) (statements : List Statement) → 0 < length statements → text ++ 10 ∷ [] ≡ text ++ last_line_end statements
last_some text [] lt = absurd (omega arith)
last_some text (s ∷ statements) lt = refl

pub printed_text : (start mid : Laid) (statements : List Statement) (octets : List ℕ) → start ≡ record { text = []; gap = Nothing } → mid ≡ laid start (ended_tokens statements) → octets ≡ mid.text ++ last_line_end statements → octets ≡ printed statements
unfolding laid
printed_text start mid statements octets s m o =
    o ∙ ap (λ (u : Laid). u.text ++ last_line_end statements) (m ∙ ap (λ (u : Laid). laid u (ended_tokens statements)) s)
