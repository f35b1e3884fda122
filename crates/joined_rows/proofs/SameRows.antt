-- Rows whose keys rise are told by what they contain.
use Rattle.std.proofs.Common.{◌≡◌, ◌⊎◌, inl, inr, ℕ, zero, suc, ℤ, List, [], ◌∷◌, refl, sym, ap, ◌∙◌, subst, arith}
use Rattle.std.specs.List.{AllByRecursion, Any, Contains}
use Rattle.std.specs.List.Sorted.{IsStrictlySortedBy}
use Rattle.std.specs.Ordering.{int_cmp, nat_cmp, ordering_reverse}
use Rattle.std.specs.declared.cmp.Ordering.TheVariants.{Less, Equal, Greater}
use Rattle.std.proofs.lemmas.Cmp.{tied_itself}
use Rattle.std.proofs.lemmas.List.Elements.{All-contains, All-from_recursion}
use Rattle.std.proofs.lemmas.Map.Lookups.{exact_pairs, exact_signed, exact_unsigned}
use Rattle.arch_types.specs.declared.row.Row.{Row}
use Rattle.arch_types.specs.declared.key.Key.{Key}
use Rattle.arch_types.specs.Order.{key_cmp}
use Rattle.arch_types.proofs.Ranks.{key_cmp_total}
use Rattle.joined_rows.specs.Rising.{HaveRisingKeys}

-- ---- what a list contains

module _ {X : Type 0} where
  pub has_first : (x : X) (xs : List X) → Contains (x ∷ xs) x
  has_first x xs = (0, omega arith, refl)

  pub has_later : (x : X) (xs : List X) (y : X) → Contains xs y → Contains (x ∷ xs) y
  has_later x xs y (k, lt, is) = (suc k, omega (arith, lt), is)

  pub has_cases : (x : X) (xs : List X) (y : X) → Contains (x ∷ xs) y → (x ≡ y) ⊎ Contains xs y
  has_cases x xs y (zero, lt, is) = inl is
  has_cases x xs y (suc k, lt, is) = inr (k, omega (arith, lt), is)

  pub has_none : (y : X) → Contains [] y → ⊥
  has_none y (k, lt, is) = absurd (omega (arith, lt))

  pub each_at : (P : X → Type 0) (xs : List X) (x : X) → AllByRecursion P xs → Contains xs x → P x
  each_at P xs x all has = All-contains P xs x (All-from_recursion P xs all) has

  pub each_by : (P : X → Type 0) (xs : List X) → ((x : X) → Contains xs x → P x) → AllByRecursion P xs
  each_by P [] of = tt
  each_by P (x ∷ xs) of = (of x (has_first x xs), each_by P xs (λ y has. of y (has_later x xs y has)))

-- ---- keys

-- keys that compare as equal are one
pub exact_keys : (a b : Key) → key_cmp a b ≡ Equal → a ≡ b
exact_keys a b tied = ap (λ (p : ℤ × ℕ). let k : Key = record { time = p.0; seq = p.1 } in k) (exact_pairs int_cmp nat_cmp exact_signed exact_unsigned (a.time, a.seq) (b.time, b.seq) tied)

not_itself : (a : Key) → key_cmp a a ≡ Less → ⊥
not_itself a less = let tied : key_cmp a a ≡ Equal = tied_itself key_cmp_total a in absurd cc

not_both_ways : (a b : Key) → key_cmp a b ≡ Less → key_cmp b a ≡ Less → ⊥
not_both_ways a b less back = let turned : key_cmp b a ≡ Greater = key_cmp_total.antisymm b a ∙ ap ordering_reverse less in absurd cc

-- ---- rising keys

abbrev is_above : Row → Row → Type 0
is_above x y = key_cmp x.key y.key ≡ Less

heads : (x y : Row) (xs ys : List Row) → AllByRecursion (is_above x) xs → AllByRecursion (is_above y) ys → (y ≡ x) ⊎ Contains ys x → (x ≡ y) ⊎ Contains xs y → x ≡ y
heads x y xs ys up_x up_y (inl same) other = sym same
heads x y xs ys up_x up_y (inr in_ys) (inl same) = same
heads x y xs ys up_x up_y (inr in_ys) (inr in_xs) = absurd (not_both_ways x.key y.key (each_at (is_above x) xs y up_x in_xs) (each_at (is_above y) ys x up_y in_ys))

behind : (x y : Row) (xs ys : List Row) → x ≡ y → AllByRecursion (is_above x) xs → ((row : Row) → Contains (x ∷ xs) row → Contains (y ∷ ys) row) → (row : Row) → Contains xs row → Contains ys row
behind x y xs ys same up there row has = by (has_cases y ys row (there row (has_later x xs row has)))
  where
    by : (y ≡ row) ⊎ Contains ys row → Contains ys row
    by (inl is) = absurd (not_itself row.key (subst (λ (r : Row). key_cmp r.key row.key ≡ Less) (same ∙ is) (each_at (is_above x) xs row up has)))
    by (inr in_ys) = in_ys

-- rows with rising keys that contain the same are the same
pub same_rows : (xs ys : List Row) → HaveRisingKeys xs → HaveRisingKeys ys → ((row : Row) → Contains xs row → Contains ys row) → ((row : Row) → Contains ys row → Contains xs row) → xs ≡ ys
unfolding IsStrictlySortedBy
same_rows [] [] up_x up_y there back = refl
same_rows [] (y ∷ ys) up_x up_y there back = absurd (has_none y (back y (has_first y ys)))
same_rows (x ∷ xs) [] up_x up_y there back = absurd (has_none x (there x (has_first x xs)))
same_rows (x ∷ xs) (y ∷ ys) up_x up_y there back =
    let head : x ≡ y = heads x y xs ys up_x.0 up_y.0 (has_cases y ys x (there x (has_first x xs))) (has_cases x xs y (back y (has_first y ys))) in
    let tail : xs ≡ ys = same_rows xs ys up_x.1 up_y.1 (behind x y xs ys head up_x.0 there) (behind y x ys xs (sym head) up_y.0 back) in
    cc

-- no two of them have one key
pub one_of_key : (ys : List Row) (a b : Row) → HaveRisingKeys ys → Contains ys a → Contains ys b → a.key ≡ b.key → a ≡ b
unfolding IsStrictlySortedBy
one_of_key [] a b up has_a has_b same = absurd (has_none a has_a)
one_of_key (y ∷ ys) a b up has_a has_b same = by (has_cases y ys a has_a) (has_cases y ys b has_b) (one_of_key ys a b up.1)
  where
    apart : (c d : Row) → y ≡ c → Contains ys d → c.key ≡ d.key → ⊥
    apart c d is has one = not_itself d.key (subst (λ (k : Key). key_cmp k d.key ≡ Less) (ap (λ (r : Row). r.key) is ∙ one) (each_at (is_above y) ys d up.0 has))

    by : (y ≡ a) ⊎ Contains ys a → (y ≡ b) ⊎ Contains ys b → (Contains ys a → Contains ys b → a.key ≡ b.key → a ≡ b) → a ≡ b
    by (inl is_a) (inl is_b) later = sym is_a ∙ is_b
    by (inl is_a) (inr in_b) later = absurd (apart a b is_a in_b same)
    by (inr in_a) (inl is_b) later = absurd (apart b a is_b in_a (sym same))
    by (inr in_a) (inr in_b) later = later in_a in_b same

-- what was gathered and put in order is those rows, where it has just them
pub same_firsts : (rows gathered ys : List Row) → HaveRisingKeys rows → HaveRisingKeys ys → ((row : Row) → Contains rows row → Contains gathered row) →
    ((row : Row) → Contains gathered row → Any (λ (kept : Row). kept.key ≡ row.key) rows) → ((row : Row) → Contains gathered row → Contains ys row) → ((row : Row) → Contains ys row → Contains gathered row) → rows ≡ ys
same_firsts rows gathered ys up up_y no_others each_key there back =
    same_rows rows ys up up_y (λ row has. there row (no_others row has)) (λ row has. kept row has (each_key row (back row has)))
  where
    kept : (row : Row) → Contains ys row → Any (λ (first : Row). first.key ≡ row.key) rows → Contains rows row
    kept row has (k, first, lt, is, same) =
        let in_rows : Contains rows first = (k, lt, is) in
        subst (Contains rows) (one_of_key ys first row up_y (there first (no_others first in_rows)) has same) in_rows
