-- Conditions as formulas: what a condition says, without the tokens in which it is written.
use Rattle.std.specs.Prelude.{ℕ, zero, suc, ◌+◌, ◌-◌, nat_lt, List, [], ◌∷◌, Bool, true, false, ◌&&◌}
use Rattle.ssql_conditions.specs.declared.predicate.TypedPredicate.{TypedPredicate}
use Rattle.ssql_conditions.specs.declared.condition.TypedPiece.{TypedPiece}
use Rattle.ssql_conditions.specs.declared.condition.TypedPiece.TheVariants as p

-- What a condition says of a row. AND of nothing is always, OR of nothing is never.
pub data Formula : Type 0 where
  always : Formula
  never : Formula
  meets : TypedPredicate → Formula
  negation : Formula → Formula
  conjunction : Formula → Formula → Formula
  disjunction : Formula → Formula → Formula

-- ---- what formulas mean

-- what predicates, NOT, AND and OR are among values of a kind, as truths or bounds
pub record Meaning (A : Type 0) : Type 0 where
  pub always_is : A
  pub never_is : A
  pub of_predicate : TypedPredicate → A
  pub negate : A → A
  pub both : A → A → A
  pub either : A → A → A

-- what a formula means, by cases
abbrev pub meaning_of : {A : Type 0} → Meaning A → Formula → A
meaning_of m always = m.always_is
meaning_of m never = m.never_is
meaning_of m (meets x) = m.of_predicate x
meaning_of m (negation f) = m.negate (meaning_of m f)
meaning_of m (conjunction f g) = m.both (meaning_of m f) (meaning_of m g)
meaning_of m (disjunction f g) = m.either (meaning_of m f) (meaning_of m g)

-- ---- the same piece by piece, for values of any kind

-- What is known inside one parenthesis: the conjunctions before the last OR, the terms since, and how many NOT stand before the next term.
pub record OpenGroup (A : Type 0) : Type 0 where
  pub any : A
  pub all : A
  pub nots : ℕ

module _ {A : Type 0} (m : Meaning A) where
  -- nothing is known yet
  abbrev pub new_group : OpenGroup A
  new_group = record { any = m.never_is; all = m.always_is; nots = zero }

  -- what so many NOT make of a value
  abbrev pub negated : ℕ → A → A
  negated zero v = v
  negated (suc n) v = m.negate (negated n v)

  -- behind one more term
  abbrev pub with_term : A → OpenGroup A → OpenGroup A
  with_term v g = record { any = g.any; all = m.both g.all (negated g.nots v); nots = zero }

  -- what a parenthesis means that ends here
  abbrev pub group_meaning : OpenGroup A → A
  group_meaning g = m.either g.any g.all

  -- the open parentheses behind a piece, the innermost first; the last stands for the whole condition
  abbrev pub groups_behind : TypedPiece → List (OpenGroup A) → List (OpenGroup A)
  groups_behind p.Open gs = new_group ∷ gs
  groups_behind p.And gs = gs
  groups_behind p.Not [] = []
  groups_behind p.Not (g ∷ gs) = (record { any = g.any; all = g.all; nots = suc g.nots }) ∷ gs
  groups_behind p.Or [] = []
  groups_behind p.Or (g ∷ gs) = (record { any = group_meaning g; all = m.always_is; nots = zero }) ∷ gs
  groups_behind (p.Predicate x) [] = []
  groups_behind (p.Predicate x) (g ∷ gs) = with_term (m.of_predicate x) g ∷ gs
  groups_behind p.Close [] = []
  groups_behind p.Close (g ∷ []) = g ∷ []
  groups_behind p.Close (g ∷ h ∷ gs) = with_term (group_meaning g) h ∷ gs

  -- the same behind some pieces
  abbrev pub groups_after : List TypedPiece → List (OpenGroup A) → List (OpenGroup A)
  groups_after [] gs = gs
  groups_after (x ∷ xs) gs = groups_after xs (groups_behind x gs)

  -- what the innermost means that is open
  abbrev pub innermost : List (OpenGroup A) → A
  innermost [] = m.always_is
  innermost (g ∷ gs) = group_meaning g

  -- what pieces mean; where there are none, OR of nothing or AND of nothing, so always
  abbrev pub pieces_meaning : List TypedPiece → A
  pieces_meaning pieces = innermost (groups_after pieces (new_group ∷ []))

-- formulas themselves as values
abbrev pub formulas : Meaning Formula
formulas = record { always_is = always; never_is = never; of_predicate = meets; negate = negation; both = conjunction; either = disjunction }

-- the formula of a condition's pieces
abbrev pub formula_of : List TypedPiece → Formula
formula_of pieces = pieces_meaning formulas pieces

-- ---- parentheses

-- a piece opens or closes one
abbrev pub is_paren : TypedPiece → Bool
is_paren p.Open = true
is_paren p.Close = true
is_paren p.Not = false
is_paren p.And = false
is_paren p.Or = false
is_paren (p.Predicate x) = false

-- ---- how many parentheses are open

-- one more has room among so many
abbrev pub has_paren_room : TypedPiece → ℕ → Bool
has_paren_room p.Open n = nat_lt n 32
has_paren_room p.Not n = true
has_paren_room p.Close n = true
has_paren_room p.And n = true
has_paren_room p.Or n = true
has_paren_room (p.Predicate x) n = true

-- how many are open behind a piece
abbrev pub parens_behind : TypedPiece → ℕ → ℕ
parens_behind p.Open n = n + 1
parens_behind p.Close n = n - 1
parens_behind p.Not n = n
parens_behind p.And n = n
parens_behind p.Or n = n
parens_behind (p.Predicate x) n = n

-- at most 32 parentheses are open at a place
abbrev pub parens_fit : List TypedPiece → ℕ → Bool
parens_fit [] n = true
parens_fit (x ∷ xs) n = has_paren_room x n && parens_fit xs (parens_behind x n)
