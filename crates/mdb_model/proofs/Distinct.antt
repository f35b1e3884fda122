-- Lists that stay distinct, or rising, as items are added.
use Rattle.std.proofs.Common.{◌≡◌, ◌∙◌, ◌-◌, List, [], ◌∷◌, ◌++◌, length, map, Option, Some, None, Bool, false, refl, ap, sym, subst, suc, ℕ, ℤ, arith}
use Rattle.std.specs.Prelude.{◌<ℤ◌, int_lt, is_some, not, slice_get}
use Rattle.std.specs.List.{IsDistinct, list_any}
use Rattle.std.specs.Cmp.{IsEquivalence}
use Rattle.std.specs.Int.Signed.{lt_z_yes}
use Rattle.std.specs.Str.{bytes_eq}
use Rattle.std.proofs.lemmas.Cmp.{nat_list_eq_equiv}
use Rattle.std.proofs.lemmas.Float.{T_from_true}
use Rattle.std.proofs.lemmas.Int.{ints}
use Rattle.std.proofs.lemmas.List.{map-append}
use Rattle.std.proofs.lemmas.Map.Keys.{IsDistinct-push}
use Rattle.mdb_items.specs.declared.calibration.PointsRow.{PointsRow}
use Rattle.mdb_items.specs.CalibrationRows.{is_not_above}
use Rattle.mdb_items.specs.Lists.{last_of}
use Rattle.mdb_items.specs.Structure.{ArePointsRising}
use Rattle.mdb_items.specs.Texts.{Text, place_of}
use Rattle.mdb_model.proofs.DatabaseFits.{all_join, all_split}
use Rattle.mdb_rules.proofs.Passing.{is_true}
use Rattle.mdb_items.proofs.Places.{absent}

pub text_equiv : IsEquivalence bytes_eq
text_equiv = nat_list_eq_equiv

module _ {X K : Type 0} {eq : K → K → Bool} (o : IsEquivalence eq) (f : X → K) where
  -- a test from the other side
  any_same : (xs : List X) (k : K) → list_any (eq k) (map f xs) ≡ list_any (λ x. eq (f x) k) xs
  any_same [] k = refl
  any_same (x ∷ xs) k = rw (o.symm k (f x), any_same xs k) refl

  -- one more item, whose key is new
  pub with_new : (xs : List X) (x : X) → IsDistinct eq (map f xs) → list_any (eq (f x)) (map f xs) ≡ false → IsDistinct eq (map f (xs ++ x ∷ []))
  with_new xs x distinct new = subst (IsDistinct eq) (sym (map-append f xs (x ∷ []))) (IsDistinct-push o (map f xs) (f x) distinct new)

  pub with_other : (xs : List X) (x : X) → IsDistinct eq (map f xs) → list_any (λ y. eq (f y) (f x)) xs ≡ false → IsDistinct eq (map f (xs ++ x ∷ []))
  with_other xs x distinct other = with_new xs x distinct (any_same xs (f x) ∙ other)

none_some : {X : Type 0} (o : Option X) → is_some o ≡ false → o ≡ None
none_some None e = refl
none_some (Some x) e = cc

-- a name without a place is none of the names
pub new_name : (name : Text) (names : List Text) → is_some (place_of name names) ≡ false → list_any (bytes_eq name) names ≡ false
new_name name names none = absent (bytes_eq name) names (none_some (place_of name names) none)

below : (a b : ℤ) → not (int_lt a b) ≡ false → a <ℤ b
below a b isnt = lt_z_yes (T_from_true (int_lt a b) (is_true (int_lt a b) isnt))

last_more : (p r : PointsRow) (points : List PointsRow) → last_of (p ∷ r ∷ points) ≡ last_of (r ∷ points)
last_more p r points =
    let n : length (p ∷ r ∷ points) - 1 ≡ suc (length (r ∷ points) - 1) = omega arith in
    ap (λ (k : ℕ). slice_get (p ∷ r ∷ points) k) n

-- one more point, above the last
pub rises_more : (points : List PointsRow) (q : PointsRow) → ArePointsRising points → is_not_above q.x (last_of points) ≡ false → ArePointsRising (points ++ q ∷ [])
rises_more [] q rising isnt = (tt, tt)
rises_more (p ∷ []) q rising isnt = ((below p.x q.x isnt, tt), (tt, tt))
rises_more (p ∷ r ∷ points) q rising isnt =
    let same : is_not_above q.x (last_of (r ∷ points)) ≡ false = ap (is_not_above q.x) (sym (last_more p r points)) ∙ isnt in
    let rest = rises_more (r ∷ points) q rising.1 same in
    let low : r.x <ℤ q.x = (all_split (λ (later : PointsRow). r.x <ℤ later.x) points (q ∷ []) rest.0).1.0 in
    let next : p.x <ℤ r.x = rising.0.0 in
    let up : p.x <ℤ q.x = omega (arith, ints) in
    (all_join (λ (later : PointsRow). p.x <ℤ later.x) (r ∷ points) (q ∷ []) rising.0 (up, tt), rest)
