-- The orders of the labels of calibrations, one for each.
use Rattle.std.proofs.Common.{◌≡◌, ◌∙◌, ◌++◌, ℕ, zero, suc, List, [], ◌∷◌, length, Some, None, refl, sym, subst, arith}
use Rattle.std.specs.Prelude.{ℤ, slice_get}
use Rattle.std.proofs.lemmas.Option.{same_Some}
use Rattle.mdb_items.specs.declared.calibration.Calibration.{Calibration}
use Rattle.mdb_lookups.specs.LabelOrder.{AreLabelsSorted, labels_of_calibrator}

-- each of the orders is that of the calibration at its place
abbrev pub AreOwnOrders : List Calibration → List (List (ℤ × ℕ)) → Type 0
AreOwnOrders calibrations orders = (n : ℕ) (order : List (ℤ × ℕ)) → slice_get orders n ≡ Some order
    → (c : Calibration) → slice_get calibrations n ≡ Some c → AreLabelsSorted (labels_of_calibrator c.calibrator) order

-- what holds of each item at its place holds with one more
pub each_more : {X : Type 0} (P : ℕ → X → Type 0) (xs : List X) (x : X) → ((n : ℕ) (y : X) → slice_get xs n ≡ Some y → P n y) → P (length xs) x
    → (n : ℕ) (y : X) → slice_get (xs ++ x ∷ []) n ≡ Some y → P n y
each_more P [] x all here zero y is = subst (P 0) (same_Some x y is) here
each_more P [] x all here (suc n) y is = cc
each_more P (z ∷ xs) x all here zero y is = all 0 y is
each_more P (z ∷ xs) x all here (suc n) y is = each_more (λ m w. P (suc m) w) xs x (λ m w. all (suc m) w) here n y is

pub one_more_order : (calibrations : List Calibration) (orders : List (List (ℤ × ℕ))) (order : List (ℤ × ℕ)) (c : Calibration) → AreOwnOrders calibrations orders
    → slice_get calibrations (length orders) ≡ Some c → AreLabelsSorted (labels_of_calibrator c.calibrator) order → AreOwnOrders calibrations (orders ++ order ∷ [])
one_more_order calibrations orders order c own at sorted =
    each_more (λ n order. (d : Calibration) → slice_get calibrations n ≡ Some d → AreLabelsSorted (labels_of_calibrator d.calibrator) order) orders order own
    (λ d here. subst (λ (k : Calibration). AreLabelsSorted (labels_of_calibrator k.calibrator) order) (same_Some c d (sym at ∙ here)) sorted)

-- without an order there is no calibration
pub no_calibration : {X Y : Type 0} (xs : List X) (ys : List Y) (n : ℕ) → length xs ≡ length ys → slice_get xs n ≡ None → slice_get ys n ≡ None
no_calibration [] [] n same is = refl
no_calibration [] (y ∷ ys) n same is = absurd (omega arith)
no_calibration (x ∷ xs) [] n same is = refl
no_calibration (x ∷ xs) (y ∷ ys) zero same is = cc
no_calibration (x ∷ xs) (y ∷ ys) (suc n) same is = no_calibration xs ys n (omega arith) is
