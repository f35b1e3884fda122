-- The walk from the root down.
use Rattle.std.proofs.Common.{◌≡◌, ◌∙◌, ◌+◌, ◌<◌, ℕ, suc, List, [], ◌∷◌, ◌++◌, length, map, Option, Some, None, Bool, true, false, cond, inl, inr, refl, ap, sym, subst, append_assoc, arith, length-append}
use Rattle.std.specs.Prelude.{◌&&◌, flat_map, if◌then◌else◌}
use Rattle.std.specs.List.{list_all, take_while}
use Rattle.std.proofs.lemmas.Bool.{cases_Bool}
use Rattle.std.proofs.lemmas.Grind.{flat_map-append}
use Rattle.std.proofs.lemmas.List.{append-nil, map-append}
use Rattle.std.proofs.lemmas.List.Folds.{list_all-append}
use Rattle.std.proofs.lemmas.List.Sums.{take_while-cons}
use Rattle.mdb_items.specs.declared.container.ParameterEntry.{ParameterEntry}
use Rattle.mdb_items.specs.Database.{Database, IsDatabase}
use Rattle.mdb_model.proofs.Structure.{structured}
use Rattle.container_extract.specs.declared.values.RawValue.{RawValue}
use Rattle.container_extract.specs.Chain.{IsChainFrom, IsChain, entries_at, first_child, next_of}
use Rattle.container_extract.specs.Extraction.{raw_values_along}
use Rattle.container_extract.specs.Step.{IsStep}
use Rattle.container_extract.specs.Values.{fits, raw_value_of}
use Rattle.container_extract.proofs.Chains.{child_of, next_below}
use Rattle.container_extract.proofs.Paths.{a_path, child_path, path_to, root_along}

take_while_front : {X : Type 0} (p : X → Bool) (xs ys : List X) → list_all p xs ≡ true → take_while p (xs ++ ys) ≡ xs ++ take_while p ys
take_while_front p [] ys all = refl
take_while_front p (x ∷ xs) ys all = elim (cases_Bool (p x)) [
  | inl is ↦
      let rest : list_all p xs ≡ true = ap (λ b. b && list_all p xs) (sym is) ∙ all in
      take_while-cons p x (xs ++ ys) ∙ ap (λ b. cond b (x ∷ take_while p (xs ++ ys)) []) is ∙ ap (λ zs. x ∷ zs) (take_while_front p xs ys rest)
  | inr isnt ↦ let none : false ≡ true = ap (λ b. b && list_all p xs) (sym isnt) ∙ all in cc
]

pub take_while_all : {X : Type 0} (p : X → Bool) (xs : List X) → list_all p xs ≡ true → take_while p xs ≡ xs
take_while_all p xs all = ap (take_while p) (sym (append-nil xs)) ∙ take_while_front p xs [] all ∙ append-nil xs

-- the entries of a chain with one more container
entries_more : (db : Database) (chain : List ℕ) (n : ℕ) → flat_map (entries_at db) (chain ++ n ∷ []) ≡ flat_map (entries_at db) chain ++ entries_at db n
entries_more db chain n = flat_map-append (entries_at db) chain (n ∷ []) ∙ ap (λ (es : List ParameterEntry). flat_map (entries_at db) chain ++ es) (append-nil (entries_at db n))

-- whatever goes on from a container makes a chain with the ones above it, whose entries are all taken, and stand on its path before
-- its own
pub record IsWalk (db : Database) (packet : List ℕ) (chain : List ℕ) (values : List RawValue) (n : ℕ) : Type 0 where
  pub goes : (rest : List ℕ) → IsChainFrom db packet (flat_map (entries_at db) chain) (n ∷ rest) → IsChain db packet (chain ++ n ∷ rest)
  pub fit : list_all (fits db packet) (flat_map (entries_at db) chain) ≡ true
  pub taken : values ≡ map (raw_value_of db packet) (flat_map (entries_at db) chain)
  pub known : n < length db.containers
  pub path : path_to db n ≡ a_path (length chain + 1) (flat_map (entries_at db) chain ++ entries_at db n)

pub walk_begins : (db : Database) (packet : List ℕ) → IsDatabase db → IsWalk db packet [] [] 0
walk_begins db packet is = record { goes = λ rest h. (refl, h); fit = refl; taken = refl; known = (structured db is).root; path = root_along db is }

-- where all of its entries are taken, its values follow
values_more : (db : Database) (packet : List ℕ) (chain : List ℕ) (values more : List RawValue) (n : ℕ) (next : Option ℕ) → IsWalk db packet chain values n → IsStep db packet values n more next
    → list_all (fits db packet) (entries_at db n) ≡ true → more ≡ map (raw_value_of db packet) (flat_map (entries_at db) chain ++ entries_at db n)
values_more db packet chain values more n next w s all =
    s.values_are ∙ ap (λ (es : List ParameterEntry). values ++ map (raw_value_of db packet) es) (take_while_all (fits db packet) (entries_at db n) all)
    ∙ ap (λ (vs : List RawValue). vs ++ map (raw_value_of db packet) (entries_at db n)) w.taken
    ∙ sym (map-append (raw_value_of db packet) (flat_map (entries_at db) chain) (entries_at db n))

pub if_true : {X : Type 0} (b : Bool) (x y : X) → b ≡ true → (if b then x else y) ≡ x
if_true true x y e = refl
if_true false x y e = cc

pub if_false : {X : Type 0} (b : Bool) (x y : X) → b ≡ false → (if b then x else y) ≡ y
if_false true x y e = cc
if_false false x y e = refl

step_is_next : (db : Database) (packet : List ℕ) (chain : List ℕ) (values more : List RawValue) (n : ℕ) (next : Option ℕ) → IsWalk db packet chain values n → IsStep db packet values n more next
    → next ≡ next_of db packet (flat_map (entries_at db) chain ++ entries_at db n) n
step_is_next db packet chain values more n next w s =
    let b = list_all (fits db packet) (entries_at db n) in
    let entries = flat_map (entries_at db) chain ++ entries_at db n in
    elim (cases_Bool b) [
      | inl is ↦
          let same = values_more db packet chain values more n next w s is in
          s.next_is ∙ if_true b (first_child db.containers n more) None is ∙ ap (first_child db.containers n) same ∙ sym (if_true b (first_child db.containers n (map (raw_value_of db packet) entries)) None is)
      | inr isnt ↦ s.next_is ∙ if_false b (first_child db.containers n more) None isnt ∙ sym (if_false b (first_child db.containers n (map (raw_value_of db packet) entries)) None isnt)
    ]

if_is_some : (b : Bool) (o : Option ℕ) (m : ℕ) → (if b then o else None) ≡ Some m → b ≡ true
if_is_some true o m e = refl
if_is_some false o m e = cc

-- the next container is one more on the walk, and stands after this one
pub walk_goes_on : (db : Database) (packet : List ℕ) (chain : List ℕ) (values more : List RawValue) (n m : ℕ) → IsDatabase db → IsWalk db packet chain values n → IsStep db packet values n more (Some m)
    → IsWalk db packet (chain ++ n ∷ []) more m × (n < m)
walk_goes_on db packet chain values more n m is w s =
    let above = flat_map (entries_at db) chain in
    let all = if_is_some (list_all (fits db packet) (entries_at db n)) (first_child db.containers n more) m (sym s.next_is) in
    let next : next_of db packet (above ++ entries_at db n) n ≡ Some m = sym (step_is_next db packet chain values more n (Some m) w s) in
    let below = next_below db packet (above ++ entries_at db n) n m is next in
    let es = entries_more db chain n in
    let child = child_of db packet (above ++ entries_at db n) n m next in
    let under = child_path db n m child.0 (length chain + 1) (above ++ entries_at db n) is child.1 child.3 w.path in
    let longer : suc (length chain + 1) ≡ length (chain ++ n ∷ []) + 1 = omega (arith, length-append chain (n ∷ [])) in
    let goes : (rest : List ℕ) → IsChainFrom db packet (flat_map (entries_at db) (chain ++ n ∷ [])) (m ∷ rest) → IsChain db packet ((chain ++ n ∷ []) ++ m ∷ rest) =
    λ rest h. subst (IsChain db packet) (sym (append_assoc chain (n ∷ []) (m ∷ rest))) (w.goes (m ∷ rest) (next, subst (λ (xs : List ParameterEntry). IsChainFrom db packet xs (m ∷ rest)) es h)) in (
      record {
        goes = goes;
        fit = ap (list_all (fits db packet)) es ∙ list_all-append (fits db packet) above (entries_at db n) ∙ ap (λ b. b && list_all (fits db packet) (entries_at db n)) w.fit ∙ all;
        taken = values_more db packet chain values more n (Some m) w s all ∙ ap (map (raw_value_of db packet)) (sym es);
        known = below.1;
        path = under ∙ ap (λ (k : ℕ). a_path k ((above ++ entries_at db n) ++ entries_at db m)) longer ∙ ap (λ (xs : List ParameterEntry). a_path (length (chain ++ n ∷ []) + 1) (xs ++ entries_at db m)) (sym es);
      },
      below.0,
    )

-- where nothing comes after a container the walk has made a chain and taken its values
pub walk_ends : (db : Database) (packet : List ℕ) (chain : List ℕ) (values more : List RawValue) (n : ℕ) → IsWalk db packet chain values n → IsStep db packet values n more None
    → IsChain db packet (chain ++ n ∷ []) × (more ≡ raw_values_along db packet (chain ++ n ∷ []))
walk_ends db packet chain values more n w s =
    let above = flat_map (entries_at db) chain in
    let own = take_while (fits db packet) (entries_at db n) in
    let cut : take_while (fits db packet) (flat_map (entries_at db) (chain ++ n ∷ [])) ≡ above ++ own = ap (take_while (fits db packet)) (entries_more db chain n) ∙ take_while_front (fits db packet) above (entries_at db n) w.fit in (
      w.goes [] (sym (step_is_next db packet chain values more n None w s)),
      s.values_are ∙ ap (λ (vs : List RawValue). vs ++ map (raw_value_of db packet) own) w.taken ∙ sym (map-append (raw_value_of db packet) above own) ∙ ap (map (raw_value_of db packet)) (sym cut),
    )
