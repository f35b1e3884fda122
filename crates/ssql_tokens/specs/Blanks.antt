-- Blanks and comments: `--` up to the line's end.
use Rattle.std.specs.Prelude.{ℕ, ◌-◌, ◌==◌, ◌&&◌, List, [], ◌∷◌, length, drop, Bool, true, false, if◌then◌else◌}
use Rattle.ssql_tokens.specs.TokenTexts.{is_blank}

-- a `-` comes next
abbrev pub begins_with_minus : List ℕ → Bool
begins_with_minus [] = false
begins_with_minus (b ∷ rest) = b == 45

-- the text from its first octet that stands neither in a blank nor in a comment, and the same from inside a comment
abbrev mutual
  pub skip_blanks : List ℕ → List ℕ
  skip_blanks [] = []
  skip_blanks (b ∷ rest) = if is_blank b then skip_blanks rest else (if b == 45 && begins_with_minus rest then skip_comment rest else b ∷ rest)

  pub skip_comment : List ℕ → List ℕ
  skip_comment [] = []
  skip_comment (b ∷ rest) = if b == 10 then skip_blanks rest else skip_comment rest

-- the first octet from a place on that stands neither in a blank nor in a comment, or the text's length where there is none
abbrev pub next_at : List ℕ → ℕ → ℕ
next_at text at = length text - length (skip_blanks (drop at text))

-- from inside a comment, or not
abbrev pub skip_from : Bool → List ℕ → List ℕ
skip_from true text = skip_comment text
skip_from false text = skip_blanks text
