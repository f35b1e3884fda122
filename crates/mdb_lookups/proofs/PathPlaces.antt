-- The places of parameters on paths.
use Rattle.std.proofs.Common.{◌≡◌, ◌∙◌, ◌+◌, ◌≤◌, ℕ, List, [], ◌∷◌, ◌++◌, length, map, take, Option, Some, None, Bool, inl, inr, refl, ap, sym, arith}
use Rattle.std.specs.Prelude.{nat_lt, slice_get}
use Rattle.std.specs.List.{position, position_or_len}
use Rattle.std.proofs.lemmas.Bool.{cases_Bool, ltb-false}
use Rattle.std.proofs.lemmas.List.{map-append}
use Rattle.std.proofs.lemmas.Option.{same_Some}
use Rattle.mdb_items.specs.declared.container.Container.{Container}
use Rattle.mdb_items.specs.declared.container.ParameterEntry.{ParameterEntry}
use Rattle.mdb_items.specs.Paths.{path_at, path_below, paths_of}
use Rattle.mdb_items.proofs.ContainerPaths.{paths_of-push}
use Rattle.mdb_items.proofs.Ends.{take-next}
use Rattle.mdb_lookups.specs.PlacedConditions.{path_parameters}

-- ---- one place

pub place_at_most : {X : Type 0} (p : X → Bool) (xs : List X) → position_or_len p xs ≤ length xs
place_at_most p [] = omega arith
place_at_most p (x ∷ xs) = elim (cases_Bool (p x)) [
  | inl is ↦ rw is (omega arith)
  | inr isnt ↦ rw isnt (let rest = place_at_most p xs in omega arith)
]

-- what `position` gives is the place, and where it gives nothing the place is behind the last
pub place_found : {X : Type 0} (p : X → Bool) (xs : List X) (n : ℕ) → position p xs ≡ Some n → n ≡ position_or_len p xs
place_found p xs n is = elim (cases_Bool (nat_lt (position_or_len p xs) (length xs))) [
  | inl less ↦ let there : Some (position_or_len p xs) ≡ Some n = sym (rw less refl) ∙ is in sym (same_Some (position_or_len p xs) n there)
  | inr past ↦ let none : Path (Option ℕ) None (Some n) = sym (rw past refl) ∙ is in cc
]

pub place_past : {X : Type 0} (p : X → Bool) (xs : List X) → position p xs ≡ None → length xs ≡ position_or_len p xs
place_past p xs is = elim (cases_Bool (nat_lt (position_or_len p xs) (length xs))) [
  | inl less ↦ let there : Path (Option ℕ) (Some (position_or_len p xs)) None = sym (rw less refl) ∙ is in cc
  | inr past ↦ let most = place_at_most p xs in let least = ltb-false (position_or_len p xs) (length xs) past in omega arith
]

-- ---- paths

-- before the first container there is no path
pub paths_begin : map path_parameters (paths_of []) ≡ []
unfolding paths_of
paths_begin = refl

-- one container more
pub paths_more : (cs : List Container) (i : ℕ) (c : Container) (lists : List (List ℕ)) (own : List ℕ) → slice_get cs i ≡ Some c → lists ≡ map path_parameters (paths_of (take i cs))
    → own ≡ path_parameters (path_at (paths_of (take i cs)) c.parent) ++ map (λ (e : ParameterEntry). e.parameter) c.entries → lists ++ own ∷ [] ≡ map path_parameters (paths_of (take (i + 1) cs))
paths_more cs i c lists own at before is =
    let front = paths_of (take i cs) in
    let up = path_at front c.parent in
    let below : own ≡ path_parameters (path_below up c) = is ∙ sym (map-append (λ (e : ParameterEntry). e.parameter) up.entries c.entries) in
    ap (λ (ls : List (List ℕ)). ls ++ own ∷ []) before ∙ ap (λ (ps : List ℕ). map path_parameters front ++ ps ∷ []) below
    ∙ sym (map-append path_parameters front (path_below up c ∷ [])) ∙ ap (map path_parameters) (sym (paths_of-push (take i cs) c)) ∙ ap (λ (xs : List Container). map path_parameters (paths_of xs)) (sym (take-next cs i c at))

-- one container more, and what is made of it
pub made_more : {X Y : Type 0} (f : X → Y) (xs : List X) (i : ℕ) (x : X) (ys : List Y) → slice_get xs i ≡ Some x → ys ≡ map f (take i xs) → ys ++ f x ∷ [] ≡ map f (take (i + 1) xs)
made_more {Y = Y} f xs i x ys at before = ap (λ (zs : List Y). zs ++ f x ∷ []) before ∙ sym (map-append f (take i xs) (x ∷ [])) ∙ ap (map f) (sym (take-next xs i x at))
