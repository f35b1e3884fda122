-- How a formula is told from others: as a list of pieces, each sign behind what it joins.
use Rattle.std.specs.Prelude.{◌≡◌, List, [], ◌∷◌, refl}
use Rattle.std.specs.Coded.{Coded, code_by, coded_list}
use Rattle.std.proofs.Common.{ap, ◌∙◌}
use Rattle.ssql_conditions.specs.declared.condition.TypedPiece.{TypedPiece}
use Rattle.ssql_conditions.specs.declared.condition.TypedPiece.TheVariants as p
use Rattle.ssql_conditions.specs.Formulas.{Formula, always, never, meets, negation, conjunction, disjunction}

-- the pieces of a formula before others; `(` stands for always, `)` for never
abbrev pub formula_marks : Formula → List TypedPiece → List TypedPiece
formula_marks always marks = p.Open ∷ marks
formula_marks never marks = p.Close ∷ marks
formula_marks (meets x) marks = p.Predicate x ∷ marks
formula_marks (negation f) marks = formula_marks f (p.Not ∷ marks)
formula_marks (conjunction f g) marks = formula_marks f (formula_marks g (p.And ∷ marks))
formula_marks (disjunction f g) marks = formula_marks f (formula_marks g (p.Or ∷ marks))

-- the formulas behind a piece, the last first
abbrev pub mark_read : TypedPiece → List Formula → List Formula
mark_read p.Open fs = always ∷ fs
mark_read p.Close fs = never ∷ fs
mark_read (p.Predicate x) fs = meets x ∷ fs
mark_read p.Not [] = []
mark_read p.Not (f ∷ fs) = negation f ∷ fs
mark_read p.And [] = []
mark_read p.And (g ∷ []) = []
mark_read p.And (g ∷ f ∷ fs) = conjunction f g ∷ fs
mark_read p.Or [] = []
mark_read p.Or (g ∷ []) = []
mark_read p.Or (g ∷ f ∷ fs) = disjunction f g ∷ fs

-- the formulas behind some pieces
abbrev pub marks_read : List TypedPiece → List Formula → List Formula
marks_read [] fs = fs
marks_read (mark ∷ marks) fs = marks_read marks (mark_read mark fs)

-- the last formula
abbrev pub last_formula : List Formula → Formula
last_formula [] = always
last_formula (f ∷ fs) = f

-- the pieces of a formula are read as it
abbrev pub marks_again : (f : Formula) (marks : List TypedPiece) (fs : List Formula) → marks_read (formula_marks f marks) fs ≡ marks_read marks (f ∷ fs)
marks_again always marks fs = refl
marks_again never marks fs = refl
marks_again (meets x) marks fs = refl
marks_again (negation f) marks fs = marks_again f (p.Not ∷ marks) fs
marks_again (conjunction f g) marks fs = marks_again f (formula_marks g (p.And ∷ marks)) fs ∙ marks_again g (p.And ∷ marks) (f ∷ fs)
marks_again (disjunction f g) marks fs = marks_again f (formula_marks g (p.Or ∷ marks)) fs ∙ marks_again g (p.Or ∷ marks) (f ∷ fs)

-- a formula is stored as its pieces
abbrev pub formula_code : Coded TypedPiece → Coded Formula
formula_code piece = code_by (List TypedPiece) (coded_list piece) (λ f. formula_marks f []) (λ marks. last_formula (marks_read marks [])) (λ f. ap last_formula (marks_again f [] []))
