-- The cells of groups put in order are the cells of the rows.
use Rattle.std.proofs.Common.{◌≡◌, ◌∙◌, ℕ, List, [], ◌∷◌, Bool, true, false, cond, Option, Some, None, refl, sym, ap, subst}
use Rattle.std.specs.Prelude.{fold, filter, flat_map, nat_eq, option_map, ◌||◌}
use Rattle.std.specs.List.{AllByRecursion, IsDistinct, cons_option, filter_map}
use Rattle.std.specs.List.Sorted.{IsPermutation}
use Rattle.std.specs.Ordering.{is_lt}
use Rattle.std.specs.Cmp.{IsStrictWeakOrder}
use lib.Pointwise.{pointwise}
use Rattle.std.proofs.lemmas.List.Sums.{fold-append}
use Rattle.std.proofs.lemmas.List.Sorted.{ranks_by}
use Rattle.std.proofs.lemmas.Map.Keys.{IsDistinct-head, IsDistinct-tail}
use Rattle.arch_types.specs.declared.key.Key.{Key}
use Rattle.arch_types.specs.Order.{key_cmp, place_by, order_by}
use Rattle.arch_types.proofs.Ranks.{key_cmp_total}
use Rattle.arch_types.proofs.InOrder.{order_same}
use Rattle.param_segments.proofs.Ordering.{IsRising, fold_behind, place_first, filter_same, filter_all, filter_none}
use Rattle.param_segments.proofs.Grouped.{rows_rank, rising_rows, groups_distinct, has_group, of_any, IsApart, more_apart, none_apart, or_regroup}
use Rattle.param_segments.specs.Rows.{SetRow, AreSetRows, is_earlier}
use Rattle.param_segments.specs.Groups.{is_of_group, groups_of}
use Rattle.param_segments.specs.Cells.{raw_cell, raw_cell_of, is_cell_earlier}
use Rattle.container_extract.specs.Values.{raw_among}
use Rattle.container_extract.specs.declared.values.RawValue.{RawValue}
use Rattle.param_segments.specs.declared.raw_cell.RawCell.{RawCell}

cells_rank : IsStrictWeakOrder is_cell_earlier
cells_rank = ranks_by key_cmp_total (λ (c : RawCell). c.key)

-- a cell has its row's key
abbrev pub Keeps : (SetRow → Option RawCell) → Type 0
Keeps f = (t : SetRow) (c : RawCell) → f t ≡ Some c → c.key ≡ t.key

after_cases : (f : SetRow → Option RawCell) (c : RawCell) (k : Key) (z : SetRow) (o : Option RawCell) (cs : List RawCell) → Keeps f → c.key ≡ k → f z ≡ o → is_lt (key_cmp k z.key) ≡ true → AllByRecursion (λ x. is_cell_earlier c x ≡ true) cs → AllByRecursion (λ x. is_cell_earlier c x ≡ true) (cons_option o cs)
after_cases f c k z None cs keeps is e h all = all
after_cases f c k z (Some x) cs keeps is e h all = (ap (λ (a : Key). is_lt (key_cmp a x.key)) is ∙ ap (λ (b : Key). is_lt (key_cmp k b)) (keeps z x e) ∙ h, all)

after : (f : SetRow → Option RawCell) (c : RawCell) (k : Key) (zs : List SetRow) → Keeps f → c.key ≡ k → AllByRecursion (λ z. is_lt (key_cmp k z.key) ≡ true) zs → AllByRecursion (λ x. is_cell_earlier c x ≡ true) (filter_map f zs)
after f c k [] keeps is all = tt
after f c k (z ∷ zs) keeps is all = after_cases f c k z (f z) (filter_map f zs) keeps is refl all.0 (after f c k zs keeps is all.1)

keeps_filter : (P : SetRow → Type 0) (q : SetRow → Bool) (zs : List SetRow) → AllByRecursion P zs → AllByRecursion P (filter q zs)
keeps_filter P q [] all = tt
keeps_filter P q (z ∷ zs) all = one (q z) all.0 (keeps_filter P q zs all.1)
  where
    one : (b : Bool) → P z → AllByRecursion P (filter q zs) → AllByRecursion P (cond b (z ∷ filter q zs) (filter q zs))
    one true p r = (p, r)
    one false p r = r

pick_cases : (f : SetRow → Option RawCell) (t : SetRow) (o : Option RawCell) (a b : List SetRow) (bp bq : Bool) (total : List SetRow) → f t ≡ o → (bq ≡ true → bp ≡ false) → Keeps f →
    AllByRecursion (λ z. is_earlier t z ≡ true) a → AllByRecursion (λ z. is_earlier t z ≡ true) b → fold (place_by is_cell_earlier) (filter_map f a) (filter_map f b) ≡ filter_map f total →
    fold (place_by is_cell_earlier) (filter_map f (cond bp (t ∷ a) a)) (filter_map f (cond bq (t ∷ b) b)) ≡ filter_map f (cond (bp || bq) (t ∷ total) total)
pick_cases f t o a b true true total e apart keeps la lb h = absurd (let g = apart refl in cc)
pick_cases f t o a b false false total e apart keeps la lb h = h
pick_cases f t None a b true false total e apart keeps la lb h = ap (λ (x : Option RawCell). fold (place_by is_cell_earlier) (cons_option x (filter_map f a)) (filter_map f b)) e ∙ h ∙ ap (λ (x : Option RawCell). cons_option x (filter_map f total)) (sym e)
pick_cases f t None a b false true total e apart keeps la lb h = ap (λ (x : Option RawCell). fold (place_by is_cell_earlier) (filter_map f a) (cons_option x (filter_map f b))) e ∙ h ∙ ap (λ (x : Option RawCell). cons_option x (filter_map f total)) (sym e)
pick_cases f t (Some c) a b true false total e apart keeps la lb h =
    ap (λ (x : Option RawCell). fold (place_by is_cell_earlier) (cons_option x (filter_map f a)) (filter_map f b)) e
    ∙ fold_behind cells_rank c (filter_map f a) (filter_map f b) (after f c t.key b keeps (keeps t c e) lb) ∙ ap (λ (cs : List RawCell). c ∷ cs) h ∙ ap (λ (x : Option RawCell). cons_option x (filter_map f total)) (sym e)
pick_cases f t (Some c) a b false true total e apart keeps la lb h =
    ap (λ (x : Option RawCell). fold (place_by is_cell_earlier) (filter_map f a) (cons_option x (filter_map f b))) e
    ∙ ap (λ (cs : List RawCell). fold (place_by is_cell_earlier) cs (filter_map f b)) (place_first cells_rank c (filter_map f a) (after f c t.key a keeps (keeps t c e) la))
    ∙ fold_behind cells_rank c (filter_map f a) (filter_map f b) (after f c t.key b keeps (keeps t c e) lb) ∙ ap (λ (cs : List RawCell). c ∷ cs) h ∙ ap (λ (x : Option RawCell). cons_option x (filter_map f total)) (sym e)

fold_picked : (f : SetRow → Option RawCell) (p q : SetRow → Bool) (ts : List SetRow) → Keeps f → ((t : SetRow) → q t ≡ true → p t ≡ false) → IsRising is_earlier ts →
    fold (place_by is_cell_earlier) (filter_map f (filter p ts)) (filter_map f (filter q ts)) ≡ filter_map f (filter (λ t. p t || q t) ts)
fold_picked f p q [] keeps apart up = refl
fold_picked f p q (t ∷ ts) keeps apart up =
    pick_cases f t (f t) (filter p ts) (filter q ts) (p t) (q t) (filter (λ t. p t || q t) ts) refl (apart t) keeps (keeps_filter (λ z. is_earlier t z ≡ true) p ts up.0) (keeps_filter (λ z. is_earlier t z ≡ true) q ts up.0) (fold_picked f p q ts keeps apart up.1)

picked_in_order : (f : SetRow → Option RawCell) (p : SetRow → Bool) (ts : List SetRow) (gs : List (List ℕ)) → Keeps f → IsRising is_earlier ts → IsDistinct (pointwise nat_eq) gs → IsApart p gs →
    fold (place_by is_cell_earlier) (filter_map f (filter p ts)) (flat_map (λ g. filter_map f (filter (is_of_group g) ts)) gs) ≡ filter_map f (filter (λ t. p t || of_any gs t) ts)
picked_in_order f p ts [] keeps up distinct apart = ap (filter_map f) (filter_same rows_rank p (λ t. p t || false) ts (λ t. or_false (p t)))
  where
    or_false : (b : Bool) → b ≡ (b || false)
    or_false true = refl
    or_false false = refl
picked_in_order f p ts (g ∷ gs) keeps up distinct apart =
    let q : SetRow → Bool = λ t. p t || is_of_group g t in
    fold-append (place_by is_cell_earlier) (filter_map f (filter p ts)) (filter_map f (filter (is_of_group g) ts)) (flat_map (λ g. filter_map f (filter (is_of_group g) ts)) gs)
    ∙ ap (λ (acc : List RawCell). fold (place_by is_cell_earlier) acc (flat_map (λ g. filter_map f (filter (is_of_group g) ts)) gs)) (fold_picked f p (is_of_group g) ts keeps apart.0 up)
    ∙ picked_in_order f q ts gs keeps up (IsDistinct-tail _ g gs distinct) (more_apart p g gs apart.1 (IsDistinct-head _ g gs distinct))
    ∙ ap (filter_map f) (filter_same rows_rank (λ t. q t || of_any gs t) (λ t. p t || of_any (g ∷ gs) t) ts (λ t. or_regroup (p t) (is_of_group g t) (of_any gs t)))

pub own_key : (q : ℕ) → Keeps (raw_cell_of q)
own_key q t c e = at (raw_among q t.values) e
  where
    at : (o : Option RawValue) → option_map (raw_cell t.key) o ≡ Some c → c.key ≡ t.key
    at None h = absurd cc
    at (Some v) h = let same : raw_cell t.key v ≡ c = cc in ap (λ (x : RawCell). x.key) (sym same)

-- cells that rows have at their own keys, group by group, put in the order of these are those of all rows
pub cells_in_order_by : (f : SetRow → Option RawCell) (ts : List SetRow) → Keeps f → AreSetRows ts → order_by is_cell_earlier (flat_map (λ g. filter_map f (filter (is_of_group g) ts)) (groups_of ts)) ≡ filter_map f ts
cells_in_order_by f ts keeps are =
    let gs = groups_of ts in
    ap (λ (acc : List RawCell). fold (place_by is_cell_earlier) acc (flat_map (λ g. filter_map f (filter (is_of_group g) ts)) gs)) (ap (filter_map f) (sym (filter_none rows_rank (λ t. false) ts (λ t. refl))))
    ∙ picked_in_order f (λ t. false) ts gs keeps (rising_rows ts are.rising) (groups_distinct ts) (none_apart gs)
    ∙ ap (filter_map f) (filter_all rows_rank (λ t. false || of_any gs t) ts (has_group [] ts))

-- so they are the same cells
pub cells_same_by : (f : SetRow → Option RawCell) (ts : List SetRow) → Keeps f → AreSetRows ts → IsPermutation (flat_map (λ g. filter_map f (filter (is_of_group g) ts)) (groups_of ts)) (filter_map f ts)
cells_same_by f ts keeps are = let all = flat_map (λ g. filter_map f (filter (is_of_group g) ts)) (groups_of ts) in subst (IsPermutation all) (cells_in_order_by f ts keeps are) (order_same is_cell_earlier all)

-- those of a parameter
pub cells_in_order : (ts : List SetRow) (q : ℕ) → AreSetRows ts → order_by is_cell_earlier (flat_map (λ g. filter_map (raw_cell_of q) (filter (is_of_group g) ts)) (groups_of ts)) ≡ filter_map (raw_cell_of q) ts
cells_in_order ts q are = cells_in_order_by (raw_cell_of q) ts (own_key q) are

pub cells_same : (ts : List SetRow) (q : ℕ) → AreSetRows ts → IsPermutation (flat_map (λ g. filter_map (raw_cell_of q) (filter (is_of_group g) ts)) (groups_of ts)) (filter_map (raw_cell_of q) ts)
cells_same ts q are = cells_same_by (raw_cell_of q) ts (own_key q) are
