-- The paths of containers: one for each, its parent's and then itself.
use Rattle.std.proofs.Common.{◌≡◌, ◌∙◌, ◌+◌, ◌<◌, ◌≤◌, ℕ, zero, suc, List, [], ◌∷◌, ◌++◌, length, take, drop, Option, Some, None, refl, ap, sym, arith, length-take}
use Rattle.std.specs.Prelude.{slice_get, fold, unwrap_or}
use Rattle.std.proofs.lemmas.List.Sums.{fold-append}
use Rattle.std.proofs.lemmas.List.{take-append-drop}
use Rattle.std.proofs.lemmas.Option.{same_Some, slice_get_within}
use Rattle.mdb_items.specs.declared.container.Container.{Container}
use Rattle.mdb_items.specs.Paths.{ContainerPath, path_at, path_below, paths_of, no_path, with_path, AreEarlier, parent_of}
use Rattle.mdb_items.proofs.Ends.{length-push, slice_get-end, slice_get-left}

-- more containers change no path that is there
pub paths_extend : (cs : List Container) (ls : List ContainerPath) (n : ℕ) → n < length ls → slice_get (fold with_path ls cs) n ≡ slice_get ls n
paths_extend [] ls n lt = refl
paths_extend (c ∷ cs) ls n lt =
    let more = length-push ls (path_below (path_at ls c.parent) c) in
    paths_extend cs (with_path ls c) n (omega arith) ∙ slice_get-left ls (path_below (path_at ls c.parent) c ∷ []) n lt

paths_length : (cs : List Container) (ls : List ContainerPath) → length (fold with_path ls cs) ≡ length ls + length cs
paths_length [] ls = omega arith
paths_length (c ∷ cs) ls =
    let rest = paths_length cs (with_path ls c) in
    let more = length-push ls (path_below (path_at ls c.parent) c) in
    omega arith

pub length-paths_of : (cs : List Container) → length (paths_of cs) ≡ length cs
unfolding paths_of
length-paths_of cs = let rest = paths_length cs [] in omega arith

path_from : (cs : List Container) (ls : List ContainerPath) (n : ℕ) (c : Container) → slice_get cs n ≡ Some c
    → slice_get (fold with_path ls cs) (length ls + n) ≡ Some (path_below (path_at (fold with_path ls (take n cs)) c.parent) c)
path_from [] ls n c is = cc
path_from (d ∷ cs) ls zero c is =
    let x = path_below (path_at ls d.parent) d in
    let more = length-push ls x in
    let at : length ls + 0 ≡ length ls = omega arith in
    let there : slice_get (fold with_path (with_path ls d) cs) (length ls) ≡ Some x = paths_extend cs (with_path ls d) (length ls) (omega arith) ∙ slice_get-end ls x [] in
    let same : d ≡ c = same_Some d c is in
    ap (λ (k : ℕ). slice_get (fold with_path (with_path ls d) cs) k) at ∙ there ∙ ap (λ (e : Container). Some (path_below (path_at ls e.parent) e)) same
path_from (d ∷ cs) ls (suc n) c is =
    let more = length-push ls (path_below (path_at ls d.parent) d) in
    let at : length ls + suc n ≡ length (with_path ls d) + n = omega arith in
    ap (λ (k : ℕ). slice_get (fold with_path (with_path ls d) cs) k) at ∙ path_from cs (with_path ls d) n c is

-- the paths of the first containers are the first paths
path_same : (cs : List Container) (n : ℕ) (o : Option ℕ) → n ≤ length cs → ((p : ℕ) → o ≡ Some p → p < n)
    → path_at (fold with_path [] (take n cs)) o ≡ path_at (fold with_path [] cs) o
path_same cs n None fits below = refl
path_same cs n (Some p) fits below =
    let whole = fold-append with_path [] (take n cs) (drop n cs) in
    let parts : take n cs ++ drop n cs ≡ cs = take-append-drop n cs in
    let len = paths_length (take n cs) [] in
    let taken : length (take n cs) ≡ n = omega (arith, length-take n cs) in
    let same = paths_extend (drop n cs) (fold with_path [] (take n cs)) p (omega (arith, below p refl)) in
    let all : fold with_path (fold with_path [] (take n cs)) (drop n cs) ≡ fold with_path [] cs = sym whole ∙ ap (λ (xs : List Container). fold with_path [] xs) parts in
    ap (λ (o : Option ContainerPath). unwrap_or o no_path) (sym same ∙ ap (λ (ls : List ContainerPath). slice_get ls p) all)

-- the path of a container is its parent's, and then itself
pub path_here : (cs : List Container) (n : ℕ) (c : Container) → AreEarlier cs → slice_get cs n ≡ Some c
    → path_at (paths_of cs) (Some n) ≡ path_below (path_at (paths_of cs) c.parent) c
unfolding paths_of
path_here cs n c earlier is =
    let within = slice_get_within cs n c is in
    let there = path_from cs [] n c is in
    let at : 0 + n ≡ n = omega arith in
    let up = path_same cs n c.parent (omega arith) (λ p e. earlier n p within (ap parent_of is ∙ e)) in
    ap (λ (o : Option ContainerPath). unwrap_or o no_path) (ap (λ (k : ℕ). slice_get (fold with_path [] cs) k) (sym at) ∙ there) ∙ ap (λ (u : ContainerPath). path_below u c) up

-- one more container
pub paths_of-push : (cs : List Container) (c : Container) → paths_of (cs ++ c ∷ []) ≡ paths_of cs ++ path_below (path_at (paths_of cs) c.parent) c ∷ []
unfolding paths_of
paths_of-push cs c = fold-append with_path [] cs (c ∷ [])
