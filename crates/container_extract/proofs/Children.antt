-- The first child among a container's children.
use Rattle.std.proofs.Common.{◌≡◌, ◌∙◌, ◌+◌, ℕ, suc, List, [], ◌∷◌, Option, Some, None, Bool, true, inl, inr, refl, ap, sym, arith}
use Rattle.std.specs.Prelude.{option_map, slice_get}
use Rattle.std.specs.List.{find, position}
use Rattle.std.proofs.lemmas.Bool.{cases_Bool, eqb-true}
use Rattle.mdb_items.specs.declared.container.Container.{Container}
use Rattle.mdb_items.specs.Database.{Database}
use Rattle.mdb_lookups.specs.Children.{children_from, children_of, is_parent_of}
use Rattle.container_extract.specs.declared.values.RawValue.{RawValue}
use Rattle.container_extract.specs.Chain.{first_child, is_number, is_taken}
use Rattle.container_extract.specs.Step.{AreOfPath, holds_at}
use Rattle.container_extract.specs.Values.{holds}
use Rattle.container_extract.proofs.Placed.{holds_of_child}
use Rattle.container_extract.proofs.Positions.{position_cons}

same_parent : (n : ℕ) (o : Option ℕ) → is_number n o ≡ is_parent_of n o
same_parent n None = refl
same_parent n (Some m) = refl

abbrev from : ℕ → Option ℕ → Option ℕ
from k o = option_map (λ (j : ℕ). k + j) o

from_next : (k : ℕ) (o : Option ℕ) → from k (option_map suc o) ≡ from (suc k) o
from_next k None = refl
from_next k (Some j) = let at : k + suc j ≡ suc k + j = omega arith in ap (λ (i : ℕ). Some i) at

from_zero : (o : Option ℕ) → from 0 o ≡ o
from_zero None = refl
from_zero (Some j) = let at : 0 + j ≡ j = omega arith in ap (λ (i : ℕ). Some i) at

parent_is : (n : ℕ) (o : Option ℕ) → is_parent_of n o ≡ true → o ≡ Some n
parent_is n None e = cc
parent_is n (Some m) e = ap (λ (k : ℕ). Some k) (eqb-true m n e)

-- in containers of which the first has the number k, the first that is taken is the first child that is met, where a child is met if its
-- condition holds
first_from : (n k : ℕ) (values : List RawValue) (cs : List Container) (is_met : ℕ → Bool) → ((j : ℕ) (c : Container) → slice_get cs j ≡ Some c → c.parent ≡ Some n → is_met (k + j) ≡ holds values c.condition)
    → from k (position (is_taken n values) cs) ≡ find is_met (children_from n k cs)
first_from n k values [] is_met same = refl
first_from n k values (c ∷ cs) is_met same =
    let at : k + 0 ≡ k = omega arith in
    let later : (j : ℕ) (d : Container) → slice_get cs j ≡ Some d → d.parent ≡ Some n → is_met (suc k + j) ≡ holds values d.condition = λ j d there below. let next : suc k + j ≡ k + suc j = omega arith in ap is_met next ∙ same (suc j) d there below in
    let rest = from_next k (position (is_taken n values) cs) ∙ first_from n (suc k) values cs is_met later in
    let parent = same_parent n c.parent in
    ap (from k) (position_cons (is_taken n values) c cs) ∙ elim (cases_Bool (is_parent_of n c.parent)) [
      | inl is ↦
          let here : is_met k ≡ holds values c.condition = ap is_met (sym at) ∙ same 0 c refl (parent_is n c.parent is) in
          elim (cases_Bool (is_met k)) [
            | inl met ↦ rw (parent, is, sym here, met) (ap (λ (i : ℕ). Some i) at)
            | inr unmet ↦ rw (parent, is, sym here, unmet) rest
          ]
      | inr isnt ↦ rw (parent, isnt) rest
    ]

pub first_of_children : (db : Database) (n : ℕ) (values : List RawValue) → AreOfPath db n values → first_child db.containers n values ≡ find (holds_at db.containers values) (children_of db.containers n)
first_of_children db n values path =
    let cs = db.containers in
    let same : (j : ℕ) (c : Container) → slice_get cs j ≡ Some c → c.parent ≡ Some n → holds_at cs values (0 + j) ≡ holds values c.condition =
    λ j c there below. let at : 0 + j ≡ j = omega arith in ap (holds_at cs values) at ∙ holds_of_child db n j c values there below path in
    sym (from_zero (position (is_taken n values) cs)) ∙ first_from n 0 values cs (holds_at cs values) same
