-- Fills at their places.
use Rattle.std.proofs.Common.{◌≡◌, ℕ, zero, suc, ℤ, ◌<◌, List, [], ◌∷◌, ◌++◌, length, Bool, true, false, true≢false, Option, Some, None, option_map, refl, sym, ap, subst, ◌∙◌, arith, length-append}
use Rattle.std.specs.Prelude.{slice_get, set, if◌then◌else◌}
use Rattle.std.specs.BTreeMap.{is_at, insert_entry}
use Rattle.std.proofs.Math.Path.{fun_ext}
use Rattle.std.proofs.lemmas.Bool.Decides.{Decides-int_eq}
use Rattle.block_map.proofs.KeyedLists.{lookup-insert_entry_same, lookup-insert_entry_other}
use Rattle.intervals.specs.declared.interval.Interval.{Interval}
use Rattle.history_items.specs.Fills.{is_same}
use Rattle.intervals.specs.Interval.{interval_cmp}
use Rattle.intervals.proofs.Ranks.{interval_cmp_total}
use Rattle.late_marks.proofs.IntervalOrder.{apart}
use Rattle.store_fills.specs.Sound.{with_filling}
use Rattle.store_fills.specs.declared.last_fills.LastFill.{LastFill}
use Rattle.store_fills.specs.LastFills.{HaveOwnPlaces, place_in, filling_of, filling_at}

same_is : (a b : Interval) → is_same a b ≡ true → a ≡ b
same_is a b e = ap (λ (n : ℤ). let i : Interval = record { 0 = n } in i) ((Decides-int_eq a.0 b.0).0 e)

is_itself : (a : Interval) → is_same a a ≡ true
is_itself a = (Decides-int_eq a.0 a.0).1 refl

other : (j i : Interval) → is_same j i ≡ false → is_at (interval_cmp i) j ≡ false
other j i e = apart i j (λ same. true≢false (sym (subst (λ (k : Interval). is_same j k ≡ true) same (is_itself j)) ∙ e))

some_is : {A : Type 0} (x y : A) → ◌≡◌ {A = Option A} (Some x) (Some y) → x ≡ y
some_is x y e = cc

-- ---- lists

get_last : (fills : List LastFill) (one : LastFill) → slice_get (fills ++ one ∷ []) (length fills) ≡ Some one
get_last [] one = refl
get_last (h ∷ fills) one = get_last fills one

get_front : (fills : List LastFill) (one : LastFill) (at : ℕ) → at < length fills → slice_get (fills ++ one ∷ []) at ≡ slice_get fills at
get_front [] one at within = absurd (omega (arith, within))
get_front (h ∷ fills) one zero within = refl
get_front (h ∷ fills) one (suc at) within = get_front fills one at (omega (arith, within))

get_set : (fills : List LastFill) (at : ℕ) (one : LastFill) → at < length fills → slice_get (set fills at one) at ≡ Some one
get_set [] at one within = absurd (omega (arith, within))
get_set (h ∷ fills) zero one within = refl
get_set (h ∷ fills) (suc at) one within = get_set fills at one (omega (arith, within))

get_set_other : (fills : List LastFill) (at p : ℕ) (one : LastFill) → (p ≡ at → ⊥) → slice_get (set fills at one) p ≡ slice_get fills p
get_set_other [] at p one apart = refl
get_set_other (h ∷ fills) zero zero one apart = absurd (apart refl)
get_set_other (h ∷ fills) zero (suc p) one apart = refl
get_set_other (h ∷ fills) (suc at) zero one apart = refl
get_set_other (h ∷ fills) (suc at) (suc p) one apart = get_set_other fills at p one (λ e. apart (ap suc e))

pub length_set : (fills : List LastFill) (at : ℕ) (one : LastFill) → length (set fills at one) ≡ length fills
length_set [] at one = refl
length_set (h ∷ fills) zero one = refl
length_set (h ∷ fills) (suc at) one = omega (arith, length_set fills at one)

-- ---- a fill in a new place

module _ (entries : List (Interval × ℕ)) (fills : List LastFill) (i : Interval) (one : LastFill) (placed : HaveOwnPlaces entries fills) (none : place_in entries i ≡ None) where
  abbrev pub new_entries : List (Interval × ℕ)
  new_entries = insert_entry interval_cmp entries i (length fills)

  here : place_in new_entries i ≡ Some (length fills)
  here = lookup-insert_entry_same interval_cmp_total i (length fills) entries

  there : (j : Interval) → is_same j i ≡ false → place_in new_entries j ≡ place_in entries j
  there j e = lookup-insert_entry_other interval_cmp_total j i (length fills) entries (other j i e)

  front : (o : Option ℕ) → ((at : ℕ) → o ≡ Some at → at < length fills) → filling_at (fills ++ one ∷ []) o ≡ filling_at fills o
  front None within = refl
  front (Some at) within = ap (option_map filling_of) (get_front fills one at (within at refl))

  pub fillings_new : (λ (j : Interval). filling_at (fills ++ one ∷ []) (place_in new_entries j)) ≡ with_filling (λ j. filling_at fills (place_in entries j)) i (filling_of one)
  fillings_new = fun_ext (λ j. at j (is_same j i) refl)
    where
      at : (j : Interval) (b : Bool) → is_same j i ≡ b → filling_at (fills ++ one ∷ []) (place_in new_entries j) ≡ (if b then Some (filling_of one) else filling_at fills (place_in entries j))
      at j true e = ap (λ (k : Interval). filling_at (fills ++ one ∷ []) (place_in new_entries k)) (same_is j i e) ∙ ap (filling_at (fills ++ one ∷ [])) here ∙ ap (option_map filling_of) (get_last fills one)
      at j false e = ap (filling_at (fills ++ one ∷ [])) (there j e) ∙ front (place_in entries j) (placed.there j)

  pub placed_new : HaveOwnPlaces new_entries (fills ++ one ∷ [])
  placed_new = record { there = λ j at is. within j at (is_same j i) refl is; apart = λ j k at is too. one_place j k at (is_same j i) refl (is_same k i) refl is too }
    where
      within : (j : Interval) (at : ℕ) (b : Bool) → is_same j i ≡ b → place_in new_entries j ≡ Some at → at < length (fills ++ one ∷ [])
      within j at true e is =
          let same : length fills ≡ at = some_is (length fills) at (sym here ∙ ap (place_in new_entries) (sym (same_is j i e)) ∙ is) in
          omega (arith, same, length-append fills (one ∷ []))
      within j at false e is = omega (arith, placed.there j at (sym (there j e) ∙ is), length-append fills (one ∷ []))

      never : (j : Interval) (at : ℕ) → is_same j i ≡ false → place_in new_entries j ≡ Some at → place_in new_entries i ≡ Some at → ⊥
      never j at e is too = omega (arith, placed.there j at (sym (there j e) ∙ is), some_is (length fills) at (sym here ∙ too))

      one_place : (j k : Interval) (at : ℕ) (b : Bool) → is_same j i ≡ b → (c : Bool) → is_same k i ≡ c → place_in new_entries j ≡ Some at → place_in new_entries k ≡ Some at → j ≡ k
      one_place j k at true e true f is too = same_is j i e ∙ sym (same_is k i f)
      one_place j k at true e false f is too = absurd (never k at f too (ap (place_in new_entries) (sym (same_is j i e)) ∙ is))
      one_place j k at false e true f is too = absurd (never j at e is (ap (place_in new_entries) (sym (same_is k i f)) ∙ too))
      one_place j k at false e false f is too = placed.apart j k at (sym (there j e) ∙ is) (sym (there k f) ∙ too)

-- ---- a fill in a place that is there

module _ (entries : List (Interval × ℕ)) (fills : List LastFill) (i : Interval) (p : ℕ) (one : LastFill) (placed : HaveOwnPlaces entries fills) (found : place_in entries i ≡ Some p) where
  same_front : (o : Option ℕ) → (o ≡ Some p → ⊥) → filling_at (set fills p one) o ≡ filling_at fills o
  same_front None apart = refl
  same_front (Some at) apart = ap (option_map filling_of) (get_set_other fills p at one (λ e. apart (ap Some e)))

  pub fillings_set : (λ (j : Interval). filling_at (set fills p one) (place_in entries j)) ≡ with_filling (λ j. filling_at fills (place_in entries j)) i (filling_of one)
  fillings_set = fun_ext (λ j. at j (is_same j i) refl)
    where
      at : (j : Interval) (b : Bool) → is_same j i ≡ b → filling_at (set fills p one) (place_in entries j) ≡ (if b then Some (filling_of one) else filling_at fills (place_in entries j))
      at j true e =
          ap (λ (k : Interval). filling_at (set fills p one) (place_in entries k)) (same_is j i e) ∙ ap (filling_at (set fills p one)) found
          ∙ ap (option_map filling_of) (get_set fills p one (placed.there i p found))
      at j false e = same_front (place_in entries j)
          (λ is. true≢false (sym (subst (λ (k : Interval). is_same j k ≡ true) (placed.apart j i p is found) (is_itself j)) ∙ e))

  pub placed_set : HaveOwnPlaces entries (set fills p one)
  placed_set = record { there = λ j at is. omega (arith, placed.there j at is, length_set fills p one); apart = placed.apart }
