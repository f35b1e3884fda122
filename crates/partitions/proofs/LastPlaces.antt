-- The last place of a partition among the rows noted, and the places before it.
use Rattle.std.proofs.Common.{◌≡◌, ℕ, zero, suc, pos, ◌<◌, ◌≤◌, List, [], ◌∷◌, ◌++◌, length, Bool, true, false, cond, Option, Some, None, ⊎_elim, sym, ◌∙◌, ap, subst, refl, arith}
use Rattle.std.specs.Prelude.{slice_get, option_map, Contains, IsSome, IfSome}
use Rattle.std.specs.Cmp.{eq_by_cmp_equiv}
use Rattle.std.specs.Ordering.{is_eq}
use Rattle.std.proofs.lemmas.Bool.{cases_lt}
use Rattle.std.proofs.lemmas.List.{length-map, map-append}
use Rattle.std.proofs.lemmas.Map.Views.{tells_apart}
use Rattle.std.proofs.lemmas.Option.{slice_get_within, slice_get_read, get_or_from_slice_get, slice_get-map, same_Some}
use Rattle.partitions.specs.declared.partition.Partition.{Partition}
use Rattle.partitions.specs.declared.links.Link.{Link}
use Rattle.partitions.specs.Partition.{partition_cmp}
use Rattle.partitions.specs.Places.{is_noted_in, places_below, last_place_below}
use Rattle.partitions.specs.Links.{place_of_word, noted_in, AreChained, AreAt, noted_partition, places_up_to}
use Rattle.partitions.proofs.Order.{partition_cmp_total, exact_partitions}

-- ---- a list and one item more

pub slice_get-end : {X : Type 0} (xs : List X) (x : X) → slice_get (xs ++ x ∷ []) (length xs) ≡ Some x
slice_get-end [] x = refl
slice_get-end (y ∷ xs) x = slice_get-end xs x

pub slice_get-left : {X : Type 0} (xs ys : List X) (n : ℕ) → n < length xs → slice_get (xs ++ ys) n ≡ slice_get xs n
slice_get-left [] ys n lt = absurd (omega arith)
slice_get-left (x ∷ xs) ys zero lt = refl
slice_get-left (x ∷ xs) ys (suc n) lt = slice_get-left xs ys n (omega arith)

pub length-push : {X : Type 0} (xs : List X) (x : X) → length (xs ++ x ∷ []) ≡ suc (length xs)
length-push [] x = refl
length-push (y ∷ xs) x = ap suc (length-push xs x)

-- ---- what is noted at a place

noted_is : (partition : Partition) (o : Option Partition) → is_noted_in partition o ≡ true → o ≡ Some partition
noted_is partition None is = cc
noted_is partition (Some p) is = ap (λ (q : Partition). Some q) (sym (tells_apart exact_partitions partition p is))

noted_itself : (partition : Partition) → is_noted_in partition (Some partition) ≡ true
noted_itself partition = (eq_by_cmp_equiv partition_cmp_total).refl partition

-- the places before a row noted are those without it
pub below_left : (n : ℕ) (partition next : Partition) (noted : List Partition) → n ≤ length noted → places_below n partition (noted ++ next ∷ []) ≡ places_below n partition noted
below_left zero partition next noted le = refl
below_left (suc n) partition next noted le =
    let here : slice_get (noted ++ next ∷ []) n ≡ slice_get noted n = slice_get-left noted (next ∷ []) n (omega (arith, le)) in
    let before : places_below n partition (noted ++ next ∷ []) ≡ places_below n partition noted = below_left n partition next noted (omega (arith, le)) in
    ap (λ (o : Option Partition). cond (is_noted_in partition o) (n ∷ places_below n partition (noted ++ next ∷ [])) (places_below n partition (noted ++ next ∷ []))) here
    ∙ ap (λ (l : List ℕ). cond (is_noted_in partition (slice_get noted n)) (n ∷ l) l) before

-- a row more is the last of its partition, and of no other
pub last_push : (partition next : Partition) (noted : List Partition) →
    last_place_below (length (noted ++ next ∷ [])) partition (noted ++ next ∷ []) ≡ cond (is_eq (partition_cmp partition next)) (Some (length noted)) (last_place_below (length noted) partition noted)
last_push partition next noted =
    ap (λ (n : ℕ). last_place_below n partition (noted ++ next ∷ [])) (length-push noted next)
    ∙ ap (λ (o : Option Partition). slice_get (cond (is_noted_in partition o) (length noted ∷ places_below (length noted) partition (noted ++ next ∷ [])) (places_below (length noted) partition (noted ++ next ∷ []))) 0) (slice_get-end noted next)
    ∙ ap (λ (l : List ℕ). slice_get (cond (is_eq (partition_cmp partition next)) (length noted ∷ l) l) 0) (below_left (length noted) partition next noted (omega arith))
    ∙ by (is_eq (partition_cmp partition next))
  where
    by : (b : Bool) → slice_get (cond b (length noted ∷ places_below (length noted) partition noted) (places_below (length noted) partition noted)) 0 ≡ cond b (Some (length noted)) (last_place_below (length noted) partition noted)
    by true = refl
    by false = refl

-- ---- the last place

-- it is below, and a row of the partition was noted there
pub last_is : (n : ℕ) (partition : Partition) (noted : List Partition) (place : ℕ) → last_place_below n partition noted ≡ Some place → (place < n) × (slice_get noted place ≡ Some partition)
last_is zero partition noted place is = cc
last_is (suc n) partition noted place is = by (is_noted_in partition (slice_get noted n)) refl (last_is n partition noted place) is
  where
    by : (b : Bool) → is_noted_in partition (slice_get noted n) ≡ b → (last_place_below n partition noted ≡ Some place → (place < n) × (slice_get noted place ≡ Some partition)) →
        slice_get (cond b (n ∷ places_below n partition noted) (places_below n partition noted)) 0 ≡ Some place → (place < suc n) × (slice_get noted place ≡ Some partition)
    by true e later is = let same = same_Some n place is in (omega (arith, same), subst (λ (k : ℕ). slice_get noted k ≡ Some partition) same (noted_is partition (slice_get noted n) e))
    by false e later is = let rest = later is in (omega (arith, rest.0), rest.1)

pub last_within : (n : ℕ) (partition : Partition) (noted : List Partition) (end : ℕ) → n ≤ end → IfSome (last_place_below n partition noted) (λ place. place < end)
last_within n partition noted end le = by (last_place_below n partition noted) refl
  where
    by : (o : Option ℕ) → last_place_below n partition noted ≡ o → IfSome o (λ place. place < end)
    by None e = tt
    by (Some place) e = omega (arith, le, (last_is n partition noted place e).0)

-- there is one where a row of the partition was noted below
pub some_below : (n : ℕ) (partition : Partition) (noted : List Partition) (place : ℕ) → place < n → slice_get noted place ≡ Some partition → IsSome (last_place_below n partition noted)
some_below zero partition noted place lt is = absurd (omega (arith, lt))
some_below (suc n) partition noted place lt is = by (is_noted_in partition (slice_get noted n)) refl (some_below n partition noted place)
  where
    not_here : is_noted_in partition (slice_get noted n) ≡ false → n ≤ place → ⊥
    not_here e at =
        let same : place ≡ n = omega (arith, lt, at) in
        let yes : is_noted_in partition (slice_get noted n) ≡ true = ap (is_noted_in partition) (subst (λ (k : ℕ). slice_get noted k ≡ Some partition) same is) ∙ noted_itself partition in
        cc

    by : (b : Bool) → is_noted_in partition (slice_get noted n) ≡ b → (place < n → slice_get noted place ≡ Some partition → IsSome (last_place_below n partition noted)) →
        IsSome (slice_get (cond b (n ∷ places_below n partition noted) (places_below n partition noted)) 0)
    by true e later = refl
    by false e later = ⊎_elim (λ before. later before is) (λ at. absurd (not_here e at)) (cases_lt place n)

pub contained : (partition : Partition) (noted : List Partition) (place : ℕ) → slice_get noted place ≡ Some partition → Contains noted partition
contained partition noted place is = (place, slice_get_within noted place partition is, get_or_from_slice_get noted place partition partition is)

-- a partition has a last place exactly where it holds a row
pub some_contained : (partition : Partition) (noted : List Partition) → IsSome (last_place_below (length noted) partition noted) → Contains noted partition
some_contained partition noted some = by (last_place_below (length noted) partition noted) refl some
  where
    by : (o : Option ℕ) → last_place_below (length noted) partition noted ≡ o → IsSome o → Contains noted partition
    by None e some = cc
    by (Some place) e some = contained partition noted place (last_is (length noted) partition noted place e).1

pub contained_some : (partition : Partition) (noted : List Partition) → Contains noted partition → IsSome (last_place_below (length noted) partition noted)
contained_some partition noted (k, h, e) = some_below (length noted) partition noted k h (slice_get_read noted (length noted) k partition refl h (sym e))

-- ---- links

-- the places up to the last one below are all below
pub up_to_last : (n : ℕ) (partition : Partition) (links : List Link) → places_up_to links (last_place_below n partition (noted_in links)) ≡ places_below n partition (noted_in links)
up_to_last zero partition links = refl
up_to_last (suc n) partition links = by (is_noted_in partition (slice_get (noted_in links) n)) refl (up_to_last n partition links)
  where
    by : (b : Bool) → is_noted_in partition (slice_get (noted_in links) n) ≡ b → places_up_to links (last_place_below n partition (noted_in links)) ≡ places_below n partition (noted_in links) →
        places_up_to links (slice_get (cond b (n ∷ places_below n partition (noted_in links)) (places_below n partition (noted_in links))) 0) ≡ cond b (n ∷ places_below n partition (noted_in links)) (places_below n partition (noted_in links))
    by true e later = ap (λ (p : Partition). n ∷ places_below n p (noted_in links)) (get_or_from_slice_get (noted_in links) n partition (record { day = pos 0; pname = 0 }) (noted_is partition (slice_get (noted_in links) n) e))
    by false e later = later

pub at_last : (n : ℕ) (partition : Partition) (links : List Link) → AreChained links → n ≤ length links → AreAt links (last_place_below n partition (noted_in links))
at_last n partition links chained le = record { chained = chained; within = last_within n partition (noted_in links) (length links) le }

pub noted_push : (links : List Link) (link : Link) → noted_in (links ++ link ∷ []) ≡ noted_in links ++ link.noted.value ∷ []
noted_push links link = map-append (λ (l : Link). l.noted.value) links (link ∷ [])

pub length-noted : (links : List Link) → length (noted_in links) ≡ length links
length-noted links = length-map links (λ (l : Link). l.noted.value)

-- a link leads to the places before its own
module _ (links : List Link) (place : ℕ) (link : Link) (chained : AreChained links) (is : slice_get links place ≡ Some link) where
  noted_there : link.noted.value ≡ noted_partition links place
  noted_there = sym (get_or_from_slice_get (noted_in links) place link.noted.value (record { day = pos 0; pname = 0 }) (slice_get-map (λ (l : Link). l.noted.value) links place ∙ ap (λ (o : Option Link). option_map (λ (l : Link). l.noted.value) o) is))

  pub next_at : AreAt links (place_of_word link.earlier)
  next_at = subst (AreAt links) (sym (chained place link is)) (at_last place link.noted.value links chained (omega (arith, slice_get_within links place link is)))

  pub next_left : places_up_to links (Some place) ≡ place ∷ places_up_to links (place_of_word link.earlier)
  next_left = ap (λ (l : List ℕ). place ∷ l)
      (ap (λ (p : Partition). places_below place p (noted_in links)) (sym noted_there) ∙ sym (up_to_last place link.noted.value links) ∙ ap (places_up_to links) (sym (chained place link is)))

-- a link more, with the last place of its partition, is chained as those before it are
module _ (links : List Link) (link : Link) (chained : AreChained links) (last : place_of_word link.earlier ≡ last_place_below (length links) link.noted.value (noted_in links)) where
  before_push : (i : ℕ) (partition : Partition) → i ≤ length links → last_place_below i partition (noted_in links) ≡ last_place_below i partition (noted_in (links ++ link ∷ []))
  before_push i partition le =
      ap (λ (l : List ℕ). slice_get l 0) (sym (below_left i partition link.noted.value (noted_in links) (omega (arith, le, length-noted links))))
      ∙ ap (λ (l : List Partition). last_place_below i partition l) (sym (noted_push links link))

  pub chained_push : AreChained (links ++ link ∷ [])
  chained_push i x is = ⊎_elim earlier here (cases_lt i (length links))
    where
      earlier : i < length links → place_of_word x.earlier ≡ last_place_below i x.noted.value (noted_in (links ++ link ∷ []))
      earlier lt = chained i x (sym (slice_get-left links (link ∷ []) i lt) ∙ is) ∙ before_push i x.noted.value (omega (arith, lt))

      here : length links ≤ i → place_of_word x.earlier ≡ last_place_below i x.noted.value (noted_in (links ++ link ∷ []))
      here le =
          let at : length links ≡ i = omega (arith, le, slice_get_within (links ++ link ∷ []) i x is, length-push links link) in
          let same : link ≡ x = same_Some link x (sym (slice_get-end links link) ∙ subst (λ (k : ℕ). slice_get (links ++ link ∷ []) k ≡ Some x) (sym at) is) in
          subst (λ (y : Link). place_of_word y.earlier ≡ last_place_below i y.noted.value (noted_in (links ++ link ∷ []))) same
          (subst (λ (k : ℕ). place_of_word link.earlier ≡ last_place_below k link.noted.value (noted_in (links ++ link ∷ []))) at (last ∙ before_push (length links) link.noted.value (omega arith)))
