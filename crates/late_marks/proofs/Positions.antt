-- An interval is late by all positions of its rows exactly where it is by the greatest one, and each row keeps it so.
use Rattle.std.proofs.Common.{◌≡◌, ℕ, ◌<◌, ◌≤◌, ◌⊎◌, ◌↔◌, inl, inr, List, [], ◌∷◌, ◌++◌, true, false, Option, Some, None, max, refl, sym, ap, subst, arith}
use Rattle.std.specs.Prelude.{Contains, option_and_then}
use Rattle.std.specs.Option.{option_map_or}
use Rattle.std.proofs.lemmas.Bool.{leb-true, le-leb, cases_lt}
use Rattle.std.proofs.lemmas.List.Elements.{Contains-append_cases, Contains-append_left, Contains-append_right, Contains-push, Contains-push_cases}
use Rattle.late_marks.specs.declared.mark.Mark.{Mark}
use Rattle.late_marks.specs.Mark.{IsLateBy, IsLast, StandAt, is_late_by, is_late_mark, touched, touched_by}

pub late_by_all : (positions : List ℕ) (last : ℕ) (base : Option ℕ) → IsLast positions last → is_late_by last base ≡ true → IsLateBy positions base
late_by_all positions last None is late = (last, is.there)
late_by_all positions last (Some base) is late = (last, is.there, leb-true base last late)

pub late_by_last : (positions : List ℕ) (last : ℕ) (base : Option ℕ) → IsLast positions last → IsLateBy positions base → is_late_by last base ≡ true
late_by_last positions last None is late = refl
late_by_last positions last (Some base) is late = le-leb base last (omega (arith, late.2, is.greatest late.0 late.1))

-- the first row
pub IsLast-one : (position : ℕ) → IsLast (position ∷ []) position
IsLast-one position = record {
  there = Contains-push [] position;
  greatest = λ p at. by p (Contains-push_cases [] position p at);
}
  where
    by : (p : ℕ) → Contains [] p ⊎ (position ≡ p) → p ≤ position
    by p (inl at) = absurd (omega (arith, at.1))
    by p (inr same) = omega (arith, same)

-- one more row
pub IsLast-push : (positions : List ℕ) (last position : ℕ) → IsLast positions last → IsLast (positions ++ position ∷ []) (max last position)
IsLast-push positions last position is = record {
  there = elim (cases_lt last position) [
    | inl below ↦ let same : position ≡ max last position = omega arith in subst (λ (p : ℕ). Contains (positions ++ position ∷ []) p) same (Contains-push positions position)
    | inr above ↦ let same : last ≡ max last position = omega arith in subst (λ (p : ℕ). Contains (positions ++ position ∷ []) p) same (Contains-append_left positions (position ∷ []) last is.there)
  ];
  greatest = λ p at. by p (Contains-push_cases positions position p at);
}
  where
    by : (p : ℕ) → Contains positions p ⊎ (position ≡ p) → p ≤ max last position
    by p (inl at) = omega (arith, is.greatest p at)
    by p (inr same) = omega (arith, same)

-- one more row of an interval
pub rows_touched : (mark : Option Mark) (position : ℕ) (positions : List ℕ) → StandAt mark positions → StandAt (Some (touched mark position)) (positions ++ position ∷ [])
rows_touched None position positions none = rw none (IsLast-one position)
rows_touched (Some m) position positions is = IsLast-push positions m.last position is

-- ---- many rows

member_first : (x : ℕ) (xs : List ℕ) → Contains (x ∷ xs) x
member_first x xs = Contains-append_left (x ∷ []) xs x (Contains-push [] x)

member_later : (x y : ℕ) (xs : List ℕ) → Contains xs y → Contains (x ∷ xs) y
member_later x y xs at = Contains-append_right (x ∷ []) xs y at

-- where a position is no less than those of all rows, and is that of the mark or of a row, the mark has it
touched_some : (m : Mark) (positions : List ℕ) (last : ℕ) → m.last ≤ last → ((p : ℕ) → Contains positions p → p ≤ last) → (m.last ≡ last) ⊎ Contains positions last
    → touched_by (Some m) positions ≡ Some (record { last = last; base = m.base; taken = m.taken })
touched_some m [] last up below (inl same) = ap (λ (n : ℕ). let k : Mark = record { last = n; base = m.base; taken = m.taken } in Some k) same
touched_some m [] last up below (inr at) = absurd (omega (arith, at.1))
touched_some m (p ∷ positions) last up below there =
    touched_some (touched (Some m) p) positions last (omega (arith, up, below p (member_first p positions))) (λ q at. below q (member_later p q positions at)) (by there)
  where
    none_in : Contains [] last → ⊥
    none_in at = omega (arith, at.1)

    here : p ≡ last → max m.last p ≡ last
    here same = omega (arith, same, up)

    of_cases : Contains (p ∷ []) last ⊎ Contains positions last → (max m.last p ≡ last) ⊎ Contains positions last
    of_cases (inl at) = elim (Contains-push_cases [] p last at) [
      | inl none ↦ absurd (none_in none)
      | inr same ↦ inl (here same)
    ]
    of_cases (inr at) = inr at

    by : (m.last ≡ last) ⊎ Contains (p ∷ positions) last → (max m.last p ≡ last) ⊎ Contains positions last
    by (inl same) = inl (omega (arith, same, below p (member_first p positions)))
    by (inr at) = of_cases (Contains-append_cases (p ∷ []) positions last at)

-- rows one after the other leave the mark of the one at the greatest position
pub touched_many : (mark : Option Mark) (positions : List ℕ) (last : ℕ) → IsLast positions last → Some (touched mark last) ≡ touched_by mark positions
touched_many None [] last is = absurd (omega (arith, is.there.1))
touched_many None (p ∷ positions) last is =
    sym (touched_some (touched None p) positions last (is.greatest p (member_first p positions)) (λ q at. is.greatest q (member_later p q positions at)) (by (Contains-append_cases (p ∷ []) positions last is.there)))
  where
    none_in : Contains [] last → ⊥
    none_in at = omega (arith, at.1)

    by : Contains (p ∷ []) last ⊎ Contains positions last → (p ≡ last) ⊎ Contains positions last
    by (inl at) = elim (Contains-push_cases [] p last at) [
      | inl none ↦ absurd (none_in none)
      | inr same ↦ inl same
    ]
    by (inr at) = inr at
touched_many (Some m) positions last is = sym (touched_some m positions (max m.last last) (omega arith) (λ q at. omega (arith, is.greatest q at)) (by (cases_lt last m.last)))
  where
    by : (last < m.last) ⊎ (m.last ≤ last) → (m.last ≡ max m.last last) ⊎ Contains positions (max m.last last)
    by (inl less) = inl (omega (arith, less))
    by (inr more) = let same : last ≡ max m.last last = omega (arith, more) in inr (subst (Contains positions) same is.there)

-- many rows of an interval
pub rows_placed : (mark : Option Mark) (last : ℕ) (positions placed : List ℕ) → IsLast placed last → StandAt mark positions → StandAt (Some (touched mark last)) (positions ++ placed)
rows_placed None last positions placed is none = rw none is
rows_placed (Some m) last positions placed is stand = record {
  there = by (cases_lt last m.last);
  greatest = λ p at. below p (Contains-append_cases positions placed p at);
}
  where
    by : (last < m.last) ⊎ (m.last ≤ last) → Contains (positions ++ placed) (max m.last last)
    by (inl less) = let same : m.last ≡ max m.last last = omega (arith, less) in subst (Contains (positions ++ placed)) same (Contains-append_left positions placed m.last stand.there)
    by (inr more) = let same : last ≡ max m.last last = omega (arith, more) in subst (Contains (positions ++ placed)) same (Contains-append_right positions placed last is.there)

    below : (p : ℕ) → Contains positions p ⊎ Contains placed p → p ≤ max m.last last
    below p (inl at) = omega (arith, stand.greatest p at)
    below p (inr at) = omega (arith, is.greatest p at)

-- late by the mark, and by the rows that it stands for
pub late_by_rows : (mark : Option Mark) (positions : List ℕ) → StandAt mark positions → (option_map_or is_late_mark mark false ≡ true) ↔ IsLateBy positions (option_and_then (λ k. k.base) mark)
late_by_rows None positions none = (λ late. cc, λ late. absurd (nowhere (rw none at late.1)))
  where
    nowhere : {p : ℕ} → Contains [] p → ⊥
    nowhere at = omega (arith, at.1)
late_by_rows (Some m) positions is = (late_by_all positions m.last m.base is, late_by_last positions m.last m.base is)
