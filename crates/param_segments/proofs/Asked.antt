-- What loops that ask places and values keep.
use Rattle.std.proofs.Common.{◌≡◌, ℕ, zero, suc, ◌+◌, ◌<◌, ◌≤◌, List, [], ◌∷◌, length, map, take, take_all, get_or, subst, arith, refl}
use Rattle.std.specs.List.{AllByRecursion}
use Rattle.std.specs.List.Sorted.{IsStrictlySortedBy}
use Rattle.std.specs.declared.cmp.Ordering.TheVariants.{Less}
use Rattle.arch_types.specs.Order.{key_cmp}
use Rattle.param_segments.specs.declared.key_place.KeyPlace.{KeyPlace}
use Rattle.param_segments.specs.RowPlaces.{place_key}

pub holds_of_all : {X : Type 0} (P : X → Type 0) (xs : List X) (i : ℕ) → length xs ≤ i → AllByRecursion P (take i xs) → AllByRecursion P xs
holds_of_all P xs i le so_far = subst (AllByRecursion P) (take_all i xs le) so_far

-- an item that is there is the same beside any other default
pub next_default : {X : Type 0} (xs : List X) (i : ℕ) (d e : X) → i < length xs → get_or xs i d ≡ get_or xs i e
next_default [] i d e lt = absurd (omega arith)
next_default (x ∷ xs) zero d e lt = refl
next_default (x ∷ xs) (suc i) d e lt = next_default xs i d e (omega arith)

pub item_is : {X : Type 0} (xs : List X) (i : ℕ) (d : X) → i < length xs → get_or xs i d ≡ get_or xs i (get_or xs i d)
item_is xs i d lt = next_default xs i d (get_or xs i d) lt

-- where keys rise, each is below the next
pub next_above : (ps : List KeyPlace) (i : ℕ) (d : KeyPlace) → IsStrictlySortedBy key_cmp (map place_key ps) → i + 1 < length ps → key_cmp (place_key (get_or ps i d)) (place_key (get_or ps (i + 1) d)) ≡ Less
unfolding IsStrictlySortedBy
next_above [] i d up lt = absurd (omega arith)
next_above (p ∷ []) zero d up lt = absurd (omega arith)
next_above (p ∷ q ∷ ps) zero d up lt = up.0.0
next_above (p ∷ ps) (suc i) d up lt =
    let shift : suc (i + 1) ≡ suc i + 1 = omega arith in
    subst (λ (k : ℕ). key_cmp (place_key (get_or (p ∷ ps) (suc i) d)) (place_key (get_or (p ∷ ps) k d)) ≡ Less) shift (next_above ps i d up.1 (omega arith))
