-- What stands on the paths of containers.
use Rattle.std.proofs.Common.{◌≡◌, ◌∙◌, ◌<◌, ℕ, suc, List, length, Option, Some, None, Bool, true, false, inl, inr, refl, ap, sym, arith}
use Rattle.std.specs.Prelude.{slice_get, unwrap_or, ◌||◌, ◌==◌}
use Rattle.std.specs.List.{list_any}
use Rattle.std.proofs.lemmas.Bool.{cases_lt}
use Rattle.std.proofs.lemmas.List.Folds.{list_any-append}
use Rattle.std.proofs.lemmas.Option.{slice_get_past, slice_get_within}
use Rattle.mdb_items.specs.declared.container.Container.{Container}
use Rattle.mdb_items.specs.declared.container.ParameterEntry.{ParameterEntry}
use Rattle.mdb_items.specs.Paths.{ContainerPath, path_at, path_below, paths_of, no_path, stands_on, AreEarlier, parent_of}
use Rattle.mdb_items.proofs.ContainerPaths.{length-paths_of, path_here}
use Rattle.mdb_items.proofs.Ends.{item_at}

or_true : (b : Bool) → (b || true) ≡ true
or_true true = refl
or_true false = refl

or_false : (b : Bool) → (b || false) ≡ b
or_false true = refl
or_false false = refl

-- the parameter stands in the container itself, or further up
pub here : (up : ContainerPath) (c : Container) (n : ℕ) → stands_on c.entries n ≡ true → stands_on (path_below up c).entries n ≡ true
here up c n is = list_any-append (λ (e : ParameterEntry). e.parameter == n) up.entries c.entries ∙ ap (λ b. list_any (λ (e : ParameterEntry). e.parameter == n) up.entries || b) is ∙ or_true _

pub further : (up : ContainerPath) (c : Container) (n : ℕ) → stands_on c.entries n ≡ false → stands_on (path_below up c).entries n ≡ stands_on up.entries n
further up c n is = list_any-append (λ (e : ParameterEntry). e.parameter == n) up.entries c.entries ∙ ap (λ b. list_any (λ (e : ParameterEntry). e.parameter == n) up.entries || b) is ∙ or_false _

-- how far up a walk may still go
abbrev pub steps_left : Option ℕ → ℕ
steps_left None = 0
steps_left (Some n) = suc n

-- past the containers nothing stands
pub path_past : (cs : List Container) (n : ℕ) → slice_get cs n ≡ None → path_at (paths_of cs) (Some n) ≡ no_path
path_past cs n none = elim (cases_lt n (length cs)) [
  | inl less ↦ let found = item_at cs n less in let bad : Path (Option Container) None (Some found.0) = sym none ∙ found.1 in cc
  | inr more ↦ ap (λ (o : Option ContainerPath). unwrap_or o no_path) (slice_get_past (paths_of cs) n (omega (arith, length-paths_of cs)))
]

steps_below : (o : Option ℕ) (n : ℕ) → ((p : ℕ) → o ≡ Some p → p < n) → steps_left o < suc n
steps_below None n below = omega arith
steps_below (Some p) n below = let less = below p refl in omega arith

-- a walk goes to an earlier container
pub goes_up : (cs : List Container) (n : ℕ) (c : Container) → AreEarlier cs → slice_get cs n ≡ Some c → steps_left c.parent < suc n
goes_up cs n c earlier is = steps_below c.parent n (λ p e. earlier n p (slice_get_within cs n c is) (ap parent_of is ∙ e))

-- what a walk finds at the container where it is
pub found_here : (cs : List Container) (n : ℕ) (c : Container) (at : Option ℕ) (parameter : ℕ) (whole : Bool) → AreEarlier cs → at ≡ Some n → slice_get cs n ≡ Some c → stands_on c.entries parameter ≡ true
    → stands_on (path_at (paths_of cs) at).entries parameter ≡ whole → true ≡ whole
found_here cs n c at parameter whole earlier is there own all =
    let path = path_here cs n c earlier there in
    let now : stands_on (path_at (paths_of cs) at).entries parameter ≡ true = ap (λ (o : Option ℕ). stands_on (path_at (paths_of cs) o).entries parameter) is ∙ ap (λ (l : ContainerPath). stands_on l.entries parameter) path ∙ here (path_at (paths_of cs) c.parent) c parameter own in
    sym now ∙ all

pub not_here : (cs : List Container) (n : ℕ) (c : Container) (at : Option ℕ) (parameter : ℕ) (whole : Bool) → AreEarlier cs → at ≡ Some n → slice_get cs n ≡ Some c → stands_on c.entries parameter ≡ false
    → stands_on (path_at (paths_of cs) at).entries parameter ≡ whole → stands_on (path_at (paths_of cs) c.parent).entries parameter ≡ whole
not_here cs n c at parameter whole earlier is there own all =
    let path = path_here cs n c earlier there in
    let now : stands_on (path_at (paths_of cs) at).entries parameter ≡ stands_on (path_at (paths_of cs) c.parent).entries parameter = ap (λ (o : Option ℕ). stands_on (path_at (paths_of cs) o).entries parameter) is ∙ ap (λ (l : ContainerPath). stands_on l.entries parameter) path ∙ further (path_at (paths_of cs) c.parent) c parameter own in
    sym now ∙ all

-- past the containers a walk finds nothing
pub found_nothing : (cs : List Container) (n : ℕ) (at : Option ℕ) (parameter : ℕ) (whole : Bool) → at ≡ Some n → slice_get cs n ≡ None → stands_on (path_at (paths_of cs) at).entries parameter ≡ whole → false ≡ whole
found_nothing cs n at parameter whole is none all =
    let now : stands_on (path_at (paths_of cs) at).entries parameter ≡ false = ap (λ (o : Option ℕ). stands_on (path_at (paths_of cs) o).entries parameter) is ∙ ap (λ (l : ContainerPath). stands_on l.entries parameter) (path_past cs n none) in
    sym now ∙ all
