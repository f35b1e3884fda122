-- The formula of a condition, by cases on the grammar.
use Rattle.ssql_parse.specs.declared.condition.Predicate.{Predicate}
use Rattle.ssql_parse.specs.Grammar.{Cond, conj, or, Conj, term, and, Term, not, group, predicate}
use Rattle.ssql_conditions.specs.declared.predicate.TypedPredicate.{TypedPredicate}
use Rattle.ssql_conditions.specs.Formulas.{Formula, always, never, meets, negation, conjunction, disjunction}

-- `typed` gives the predicates their types
module _ (typed : Predicate → TypedPredicate) where
  abbrev mutual
    -- the disjunction of conjunctions, behind those before them
    pub cond_formula : Formula → Cond → Formula
    cond_formula any (conj c) = disjunction any (conj_formula always c)
    cond_formula any (or c more) = cond_formula (disjunction any (conj_formula always c)) more

    -- the conjunction of terms, behind those before them
    pub conj_formula : Formula → Conj → Formula
    conj_formula all (term x) = conjunction all (term_formula x)
    conj_formula all (and x more) = conj_formula (conjunction all (term_formula x)) more

    -- a term
    pub term_formula : Term → Formula
    term_formula (not x) = negation (term_formula x)
    term_formula (group c) = cond_formula never c
    term_formula (predicate x) = meets (typed x)

  -- a condition
  abbrev pub condition_formula : Cond → Formula
  condition_formula c = cond_formula never c
