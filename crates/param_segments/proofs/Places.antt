-- The group of a row, by its number.
use Rattle.std.proofs.Common.{◌≡◌, ℕ, zero, suc, ◌<◌, List, [], ◌∷◌, ◌++◌, length, map, get_or, slice_set, Option, Some, None, Bool, true, false, cond, refl, sym, ap, subst, ◌∙◌, arith}
use Rattle.std.specs.Prelude.{◌==◌, ℤ, nat_eq, option_map, Result, Ok, Err, OnOk, OnErr, if◌then◌else◌}
use Rattle.arch_types.specs.declared.key.Key.{Key}
use Rattle.std.specs.List.{AllByRecursion, IsDistinct, position}
use lib.Pointwise.{pointwise}
use Rattle.std.specs.Cmp.Lexicographic.{same_text}
use Rattle.std.proofs.lemmas.List.{map_push}
use Rattle.std.proofs.lemmas.Map.Keys.{IsDistinct-head, IsDistinct-tail}
use Rattle.container_extract.proofs.Positions.{position_cons}
use Rattle.mdb_items.proofs.Places.{position-map}
use Rattle.param_segments.specs.declared.group.Group.{Group}
use Rattle.param_segments.specs.GroupContents.{GroupContents, segment_closed, first_contents, group_contents, with_set_row, with_values}
use Rattle.param_segments.specs.Rows.{SetRow, row_parameters, row_raws}

abbrev same_group : List ℕ → GroupContents → Bool
same_group g c = pointwise nat_eq g c.parameters

-- the group at a place is changed, or a new one comes last
abbrev pub by_place : List GroupContents → SetRow → Option ℕ → List GroupContents
by_place cs t None = cs ++ first_contents t ∷ []
by_place [] t (Some i) = []
by_place (c ∷ cs) t (Some zero) = with_values c t.key (row_raws t) ∷ cs
by_place (c ∷ cs) t (Some (suc i)) = c ∷ by_place cs t (Some i)

further : (c : GroupContents) (cs : List GroupContents) (t : SetRow) (o : Option ℕ) → by_place (c ∷ cs) t (option_map suc o) ≡ c ∷ by_place cs t o
further c cs t None = refl
further c cs t (Some i) = refl

place_cases : (c : GroupContents) (cs : List GroupContents) (t : SetRow) (b : Bool) (o : Option ℕ) → by_place cs t o ≡ with_set_row cs t →
    by_place (c ∷ cs) t (cond b (Some 0) (option_map suc o)) ≡ (if b then with_values c t.key (row_raws t) ∷ cs else c ∷ with_set_row cs t)
place_cases c cs t true o more = refl
place_cases c cs t false o more = further c cs t o ∙ ap (λ (xs : List GroupContents). c ∷ xs) more

-- what is found by its place is what is found by going along
by_place_is : (cs : List GroupContents) (t : SetRow) → by_place cs t (position (same_group (row_parameters t)) cs) ≡ with_set_row cs t
by_place_is [] t = refl
by_place_is (c ∷ cs) t =
    ap (by_place (c ∷ cs) t) (position_cons (same_group (row_parameters t)) c cs)
    ∙ place_cases c cs t (same_group (row_parameters t) c) (position (same_group (row_parameters t)) cs) (by_place_is cs t)

same_cases : (groups : List Group) (t : SetRow) (o : Option ℕ) → position (pointwise nat_eq (row_parameters t)) (map (λ g. g.parameters.items) groups) ≡ o → with_set_row (map group_contents groups) t ≡ by_place (map group_contents groups) t o
same_cases groups t o is =
    sym (by_place_is (map group_contents groups) t)
    ∙ ap (by_place (map group_contents groups) t) (sym (position-map (same_group (row_parameters t)) group_contents groups) ∙ position-map (pointwise nat_eq (row_parameters t)) (λ (g : Group). g.parameters.items) groups ∙ is)

set_place : (t : SetRow) (groups : List Group) (place : ℕ) (old new : Group) → place < length groups → old ≡ get_or groups place old → group_contents new ≡ with_values (group_contents old) t.key (row_raws t) →
    map group_contents (slice_set groups place new) ≡ by_place (map group_contents groups) t (Some place)
set_place t [] place old new lt at is = absurd (omega arith)
set_place t (g ∷ gs) zero old new lt at is = ap (λ (c : GroupContents). c ∷ map group_contents gs) (is ∙ ap (λ (x : Group). with_values (group_contents x) t.key (row_raws t)) at)
set_place t (g ∷ gs) (suc i) old new lt at is = ap (λ (cs : List GroupContents). group_contents g ∷ cs) (set_place t gs i old new (omega arith) at is)

-- the row goes into the group at a place
pub some_place : (groups : List Group) (t : SetRow) (place : ℕ) (old new : Group) → position (pointwise nat_eq (row_parameters t)) (map (λ g. g.parameters.items) groups) ≡ Some place → place < length groups → old ≡ get_or groups place old →
    group_contents new ≡ with_values (group_contents old) t.key (row_raws t) → map group_contents (slice_set groups place new) ≡ with_set_row (map group_contents groups) t
some_place groups t place old new found lt at is = set_place t groups place old new lt at is ∙ sym (same_cases groups t (Some place) found)

-- the row goes into a new group
pub none_place : (groups all : List Group) (t : SetRow) → position (pointwise nat_eq (row_parameters t)) (map (λ g. g.parameters.items) groups) ≡ None →
    map group_contents all ≡ map group_contents groups ++ first_contents t ∷ [] → map group_contents all ≡ with_set_row (map group_contents groups) t
none_place groups all t found is = is ∙ sym (same_cases groups t None found)

-- ---- the parameters of groups

pub seen_parameters : (groups : List Group) → map (λ g. g.parameters.items) groups ≡ map (λ c. c.parameters) (map group_contents groups)
seen_parameters [] = refl
seen_parameters (g ∷ gs) = ap (λ (ns : List (List ℕ)). g.parameters.items ∷ ns) (seen_parameters gs)

-- groups that keep the same have the same parameters
pub parameters_by_contents : (groups more : List Group) → map group_contents more ≡ map group_contents groups → map (λ g. g.parameters.items) more ≡ map (λ g. g.parameters.items) groups
parameters_by_contents groups more is = seen_parameters more ∙ ap (map (λ (c : GroupContents). c.parameters)) is ∙ sym (seen_parameters groups)

room_parameters : (b : Bool) (c d : GroupContents) → c.parameters ≡ d.parameters → (if b then c else d).parameters ≡ d.parameters
room_parameters true c d e = e
room_parameters false c d e = refl

-- a row more of a group leaves the groups' parameters
pub parameters_stay : (groups : List Group) (place : ℕ) (old new : Group) → place < length groups → old ≡ get_or groups place old → new.parameters.items ≡ old.parameters.items → map (λ g. g.parameters.items) (slice_set groups place new) ≡ map (λ g. g.parameters.items) groups
parameters_stay [] place old new lt at is = absurd (omega arith)
parameters_stay (g ∷ gs) zero old new lt at is = ap (λ (n : List ℕ). n ∷ map (λ g. g.parameters.items) gs) (is ∙ ap (λ (x : Group). x.parameters.items) at)
parameters_stay (g ∷ gs) (suc i) old new lt at is = ap (λ (ns : List (List ℕ)). g.parameters.items ∷ ns) (parameters_stay gs i old new (omega arith) at is)

-- what a refused row leaves at a place
pub contents_stay : (groups : List Group) (place : ℕ) (old new : Group) → place < length groups → old ≡ get_or groups place old → group_contents new ≡ group_contents old → map group_contents (slice_set groups place new) ≡ map group_contents groups
contents_stay [] place old new lt at is = absurd (omega arith)
contents_stay (g ∷ gs) zero old new lt at is = ap (λ (c : GroupContents). c ∷ map group_contents gs) (is ∙ ap group_contents at)
contents_stay (g ∷ gs) (suc i) old new lt at is = ap (λ (cs : List GroupContents). group_contents g ∷ cs) (contents_stay gs i old new (omega arith) at is)

-- what holds of each group holds of the one at a place
pub all_at : {X : Type 0} (P : GroupContents → Type 0) (f : X → GroupContents) (xs : List X) (i : ℕ) (x : X) → AllByRecursion P (map f xs) → i < length xs → x ≡ get_or xs i x → P (f x)
all_at P f [] i x all lt is = absurd (omega arith)
all_at P f (y ∷ ys) zero x all lt is = subst (λ (z : _). P (f z)) (sym is) all.0
all_at P f (y ∷ ys) (suc i) x all lt is = all_at P f ys i x all.1 (omega arith) is

-- ---- a number that is found

apart_at : (n : List ℕ) (ns : List (List ℕ)) (i : ℕ) → AllByRecursion (λ h. pointwise nat_eq n h ≡ false) ns → i < length ns → pointwise nat_eq n (get_or ns i []) ≡ false
apart_at n [] i all lt = absurd (omega arith)
apart_at n (m ∷ ms) zero all lt = all.0
apart_at n (m ∷ ms) (suc i) all lt = apart_at n ms i all.1 (omega arith)

not_head : (ps n h : List ℕ) (b : Bool) → pointwise nat_eq ps n ≡ b → pointwise nat_eq ps h ≡ true → pointwise nat_eq n h ≡ false → b ≡ false
not_head ps n h true e own apart = absurd (let same : ps ≡ n = same_text ps n (sym e) in let f : pointwise nat_eq n h ≡ true = ap (λ (k : List ℕ). pointwise nat_eq k h) (sym same) ∙ own in cc)
not_head ps n h false e own apart = refl

-- of distinct lists, the place of one that is the same is the first such place
pub found_place : (ps : List ℕ) (ns : List (List ℕ)) (i : ℕ) → IsDistinct (pointwise nat_eq) ns → i < length ns → pointwise nat_eq ps (get_or ns i []) ≡ true → position (pointwise nat_eq ps) ns ≡ Some i
found_place ps [] i distinct lt own = absurd (omega arith)
found_place ps (n ∷ ns) zero distinct lt own = position_cons (pointwise nat_eq ps) n ns ∙ ap (λ (b : Bool). cond b (Some 0) (option_map suc (position (pointwise nat_eq ps) ns))) own
found_place ps (n ∷ ns) (suc i) distinct lt own =
    let apart = apart_at n ns i (IsDistinct-head _ n ns distinct) (omega arith) in
    let differs : pointwise nat_eq ps n ≡ false = not_head ps n (get_or ns i []) (pointwise nat_eq ps n) refl own apart in
    position_cons (pointwise nat_eq ps) n ns ∙ ap (λ (b : Bool). cond b (Some 0) (option_map suc (position (pointwise nat_eq ps) ns))) differs
    ∙ ap (option_map suc) (found_place ps ns i (IsDistinct-tail _ n ns distinct) (omega arith) own)

pub parameters_at : (groups : List Group) (i : ℕ) (g : Group) → i < length groups → g ≡ get_or groups i g → get_or (map (λ g. g.parameters.items) groups) i [] ≡ g.parameters.items
parameters_at [] i g lt is = absurd (omega arith)
parameters_at (h ∷ hs) zero g lt is = ap (λ (x : Group). x.parameters.items) (sym is)
parameters_at (h ∷ hs) (suc i) g lt is = parameters_at hs i g (omega arith) is

pub length-parameters : (groups : List Group) → length (map (λ g. g.parameters.items) groups) ≡ length groups
length-parameters [] = refl
length-parameters (g ∷ gs) = ap suc (length-parameters gs)

-- ---- a row that is added or refused

-- a row more of a group, or none, leaves the group's parameters
pub same_parameters : {E : Type 0} (result : Result (Unit {0}) E) (old new : Group) (key : Key) (raws : List ℤ) → OnOk result (group_contents new ≡ with_values (group_contents old) key raws) → OnErr result (group_contents new ≡ group_contents old) → new.parameters.items ≡ old.parameters.items
same_parameters (Ok u) old new key raws ok err = ap (λ (c : GroupContents). c.parameters) ok ∙ room_parameters (length old.keys.items == 4096) (segment_closed (group_contents old)) (group_contents old) refl
same_parameters (Err e) old new key raws ok err = ap (λ (c : GroupContents). c.parameters) err

-- the numbers of the groups, with a group more or as before
pub numbers_more : {E : Type 0} (result : Result (Unit {0}) E) (groups more : List Group) (numbers further : List (List ℕ)) (ps : List ℕ) (t : SetRow) → numbers ≡ map (λ g. g.parameters.items) groups → ps ≡ row_parameters t →
    OnOk result (map group_contents more ≡ map group_contents groups ++ first_contents t ∷ []) → OnOk result (further ≡ numbers ++ ps ∷ []) → OnErr result ((more ≡ groups) × (further ≡ numbers)) → further ≡ map (λ g. g.parameters.items) more
numbers_more (Ok u) groups more numbers further ps t numbered are ok added err =
    added ∙ ap (λ (ns : List (List ℕ)). ns ++ ps ∷ []) (numbered ∙ seen_parameters groups) ∙ ap (λ (qs : List ℕ). map (λ (c : GroupContents). c.parameters) (map group_contents groups) ++ qs ∷ []) are
    ∙ sym (map_push (λ (c : GroupContents). c.parameters) (map group_contents groups) (first_contents t)) ∙ ap (map (λ (c : GroupContents). c.parameters)) (sym ok) ∙ sym (seen_parameters more)
numbers_more (Err e) groups more numbers further ps t numbered are ok added err = err.1 ∙ numbered ∙ ap (map (λ (g : Group). g.parameters.items)) (sym err.0)
