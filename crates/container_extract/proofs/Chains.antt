-- Each packet has one chain.
use Rattle.std.proofs.Common.{◌≡◌, ◌∙◌, ◌+◌, ◌<◌, ◌≤◌, ℕ, zero, suc, List, [], ◌∷◌, ◌++◌, length, map, get_or, Option, Some, None, Bool, true, false, cond, refl, ap, sym, arith, subst}
use Rattle.std.specs.Prelude.{◌&&◌, slice_get, nat_lt, if◌then◌else◌}
use Rattle.std.specs.List.{list_all, position, position_or_len}
use Rattle.std.proofs.lemmas.Bool.{eqb-true, ltb-true}
use Rattle.std.proofs.lemmas.List.Sums.{passes_at_first}
use Rattle.std.proofs.lemmas.Option.{same_Some}
use Rattle.mdb_items.specs.declared.container.Container.{Container}
use Rattle.mdb_items.specs.declared.container.ParameterEntry.{ParameterEntry}
use Rattle.mdb_items.specs.Database.{Database, IsDatabase}
use Rattle.mdb_items.specs.Structure.{IsBelowParent}
use Rattle.mdb_model.proofs.Structure.{structured}
use Rattle.container_extract.specs.Chain.{IsChainFrom, IsChain, chain_from, chain_of, entries_at, first_child, if_some, is_number, is_taken, next_of}
use Rattle.container_extract.specs.Laws.{ChainIsOne}
use Rattle.container_extract.specs.Values.{fits, holds, raw_value_of}

cond_some : (b : Bool) (n m : ℕ) → cond b (Some n) None ≡ Some m → (b ≡ true) × (n ≡ m)
cond_some true n m e = (refl, same_Some n m e)
cond_some false n m e = cc

if_some_is : (b : Bool) (o : Option ℕ) (m : ℕ) → (if b then o else None) ≡ Some m → (b ≡ true) × (o ≡ Some m)
if_some_is true o m e = (refl, e)
if_some_is false o m e = cc

left_of_and : (a b : Bool) → (a && b) ≡ true → a ≡ true
left_of_and true b e = refl
left_of_and false b e = e

pub item : {X : Type 0} (xs : List X) (i : ℕ) → i < length xs → (x : X) × (slice_get xs i ≡ Some x) × (get_or xs i x ≡ x)
item [] i lt = absurd (omega arith)
item (x ∷ xs) zero lt = (x, refl, refl)
item (x ∷ xs) (suc i) lt = item xs i (omega arith)

-- what `position` gives is a place that passes
found : {X : Type 0} (p : X → Bool) (xs : List X) (m : ℕ) → position p xs ≡ Some m → (x : X) × (slice_get xs m ≡ Some x) × (m < length xs) × (p x ≡ true)
found p xs m e =
    let both = cond_some (nat_lt (position_or_len p xs) (length xs)) (position_or_len p xs) m e in
    let less = ltb-true (position_or_len p xs) (length xs) both.0 in
    let within : m < length xs = omega arith in
    let here = item xs m within in
    let passes : p (get_or xs (position_or_len p xs) here.0) ≡ true = passes_at_first p xs here.0 less in
    let same : get_or xs (position_or_len p xs) here.0 ≡ here.0 = ap (λ (k : ℕ). get_or xs k here.0) both.1 ∙ here.2 in
    (here.0, here.1, within, ap p (sym same) ∙ passes)

is_the_parent : (n : ℕ) (o : Option ℕ) → is_number n o ≡ true → o ≡ Some n
is_the_parent n None e = cc
is_the_parent n (Some m) e = ap (λ (k : ℕ). Some k) (eqb-true m n e)

-- what comes after a container is a child of it
pub child_of : (db : Database) (packet : List ℕ) (entries : List ParameterEntry) (n m : ℕ) → next_of db packet entries n ≡ Some m → (c : Container) × (slice_get db.containers m ≡ Some c) × (m < length db.containers) × (c.parent ≡ Some n)
child_of db packet entries n m e =
    let values = map (raw_value_of db packet) entries in
    let both = if_some_is (list_all (fits db packet) (entries_at db n)) (first_child db.containers n values) m e in
    let child = found (is_taken n values) db.containers m both.1 in
    (child.0, child.1, child.2, is_the_parent n child.0.parent (left_of_and (is_number n child.0.parent) (holds values child.0.condition) child.3))

-- and stands after it
pub next_below : (db : Database) (packet : List ℕ) (entries : List ParameterEntry) (n m : ℕ) → IsDatabase db → next_of db packet entries n ≡ Some m → (n < m) × (m < length db.containers)
next_below db packet entries n m is e =
    let child = child_of db packet entries n m e in
    (subst (IsBelowParent m) child.3 ((structured db is).containers m child.0 child.1).parent, child.2)

-- a container, what comes after it, and so on
after : (db : Database) (packet : List ℕ) (most : ℕ) (above : List ParameterEntry) (n : ℕ) (o : Option ℕ) → IsDatabase db → n < length db.containers → length db.containers ≤ n + suc most
    → next_of db packet (above ++ entries_at db n) n ≡ o → IsChainFrom db packet above (n ∷ if_some (chain_from db packet most (above ++ entries_at db n)) o)
after db packet most above n None is known enough e = e
after db packet zero above n (Some m) is known enough e =
    let next = next_below db packet (above ++ entries_at db n) n m is e in absurd (omega arith)
after db packet (suc most) above n (Some m) is known enough e =
    let next = next_below db packet (above ++ entries_at db n) n m is e in
    let below = above ++ entries_at db n in
    (e, after db packet most below m (next_of db packet (below ++ entries_at db m) m) is next.1 (omega arith) refl)

chain_from_root : (db : Database) (packet : List ℕ) (most : ℕ) → IsDatabase db → most ≡ length db.containers → IsChain db packet (chain_from db packet most [] 0)
chain_from_root db packet zero is e = let root = (structured db is).root in absurd (omega arith)
chain_from_root db packet (suc most) is e = (refl, after db packet most [] 0 (next_of db packet (entries_at db 0) 0) is (structured db is).root (omega arith) refl)

-- below the same entries the same containers follow
one_below : (db : Database) (packet : List ℕ) (above : List ParameterEntry) (n : ℕ) (xs ys : List ℕ) → IsChainFrom db packet above (n ∷ xs) → IsChainFrom db packet above (n ∷ ys) → xs ≡ ys
one_below db packet above n [] [] a b = refl
one_below db packet above n [] (k ∷ ys) a b = let e = b.0 in cc
one_below db packet above n (m ∷ xs) [] a b = let e = a.0 in cc
one_below db packet above n (m ∷ xs) (k ∷ ys) a b =
    let same : m ≡ k = same_Some m k (sym a.0 ∙ b.0) in
    let P : ℕ → Type 0 = λ j. IsChainFrom db packet (above ++ entries_at db n) (j ∷ ys) in
    let rest = one_below db packet (above ++ entries_at db n) m xs ys a.1 (subst P (sym same) b.1) in
    cc

pub one_chain : (db : Database) (packet : List ℕ) (xs ys : List ℕ) → IsChain db packet xs → IsChain db packet ys → xs ≡ ys
one_chain db packet [] ys a b = elim a [ ]
one_chain db packet (n ∷ xs) [] a b = elim b [ ]
one_chain db packet (n ∷ xs) (m ∷ ys) a b =
    let same : n ≡ m = a.0 ∙ sym b.0 in
    let P : ℕ → Type 0 = λ k. IsChainFrom db packet [] (k ∷ ys) in
    let rest = one_below db packet [] n xs ys a.1 (subst P (sym same) b.1) in
    cc

pub chain_is_one : ChainIsOne
unfolding chain_of
chain_is_one = λ db packet is.
    let there = chain_from_root db packet (length db.containers) is refl in
    (there, λ chain h. one_chain db packet chain (chain_from db packet (length db.containers) [] 0) h there)

-- a chain is the chain
pub is_chain_of : (db : Database) (packet chain : List ℕ) → IsDatabase db → IsChain db packet chain → chain ≡ chain_of db packet
is_chain_of db packet chain is h = (chain_is_one db packet is).1 chain h
