-- The groups of rows, and the rows of all groups put in order.
use Rattle.std.proofs.Common.{◌≡◌, ℕ, List, [], ◌∷◌, ◌++◌, map, Bool, true, false, cond, refl, sym, ap, subst, ◌∙◌}
use Rattle.std.specs.Prelude.{fold, filter, flat_map, nat_eq, if◌then◌else◌, ◌||◌}
use Rattle.std.specs.List.{AllByRecursion, list_any, IsDistinct}
use Rattle.std.specs.List.Sorted.{IsStrictlySortedBy}
use Rattle.std.specs.Ordering.{is_lt}
use Rattle.std.specs.declared.cmp.Ordering.{Ordering}
use Rattle.std.specs.declared.cmp.Ordering.TheVariants.{Less}
use lib.Pointwise.{pointwise}
use Rattle.std.specs.Cmp.{IsStrictWeakOrder}
use Rattle.std.specs.Cmp.Lexicographic.{same_text}
use Rattle.std.proofs.lemmas.Cmp.{nat_list_eq_equiv}
use Rattle.std.proofs.lemmas.List.Concat.{flat_map-append}
use Rattle.std.proofs.lemmas.List.Sums.{fold-append}
use Rattle.std.proofs.lemmas.List.Sorted.{ranks_by}
use Rattle.std.proofs.lemmas.Map.Keys.{IsDistinct-push, sorted_head, sorted_tail, IsDistinct-head, IsDistinct-tail}
use Rattle.arch_types.specs.declared.key.Key.{Key}
use Rattle.arch_types.specs.Order.{key_cmp, place_by, order_by}
use Rattle.arch_types.proofs.Ranks.{key_cmp_total}
use Rattle.param_segments.proofs.Inverse.{AreOf, pieces_joined, pieces_again}
use Rattle.param_segments.proofs.Ordering.{IsRising, fold_filter, filter_same, filter_all, filter_none}
use Rattle.param_segments.specs.Rows.{SetRow, row_parameters, is_earlier}
use Rattle.param_segments.specs.Groups.{group_segments, is_of_group, with_group, groups_of, row_pieces, segment_of}
use Rattle.param_segments.specs.Segments.{rows_of_segment}
use Rattle.param_segments.specs.Laws.{SetHasItsRows}

pub rows_rank : IsStrictWeakOrder is_earlier
rows_rank = ranks_by key_cmp_total (λ (t : SetRow). t.key)

-- ---- rows of a group

pub is_of : (g : List ℕ) (t : SetRow) → is_of_group g t ≡ true → row_parameters t ≡ g
is_of g t e = same_text (row_parameters t) g (sym e)

of_cases : (g : List ℕ) (t : SetRow) (ts : List SetRow) (b : Bool) → is_of_group g t ≡ b → AreOf g ts → AreOf g (cond b (t ∷ ts) ts)
of_cases g t ts true e all = (is_of g t e, all)
of_cases g t ts false e all = all

pub filter_of : (g : List ℕ) (ts : List SetRow) → AreOf g (filter (is_of_group g) ts)
filter_of g [] = tt
filter_of g (t ∷ ts) = of_cases g t (filter (is_of_group g) ts) (is_of_group g t) refl (filter_of g ts)

-- the rows of the segments of groups
pub rows_of_groups : (ts : List SetRow) (gs : List (List ℕ)) → flat_map rows_of_segment (flat_map (group_segments ts) gs) ≡ flat_map (λ g. filter (is_of_group g) ts) gs
rows_of_groups ts [] = refl
rows_of_groups ts (g ∷ gs) =
    let here = map (segment_of g) (row_pieces (filter (is_of_group g) ts)) in
    let joined = pieces_joined (filter (is_of_group g) ts) in
    let one : flat_map rows_of_segment here ≡ filter (is_of_group g) ts = pieces_again g (row_pieces (filter (is_of_group g) ts)) (subst (AreOf g) (sym joined) (filter_of g ts)) ∙ joined in
    flat_map-append rows_of_segment here (flat_map (group_segments ts) gs)
    ∙ ap (λ (xs : List SetRow). xs ++ flat_map rows_of_segment (flat_map (group_segments ts) gs)) one
    ∙ ap (λ (xs : List SetRow). filter (is_of_group g) ts ++ xs) (rows_of_groups ts gs)

-- ---- groups differ, and each row has one

push_cases : (gs : List (List ℕ)) (g : List ℕ) (b : Bool) → list_any (pointwise nat_eq g) gs ≡ b → IsDistinct (pointwise nat_eq) gs → IsDistinct (pointwise nat_eq) (if b then gs else gs ++ g ∷ [])
push_cases gs g true e all = all
push_cases gs g false e all = IsDistinct-push nat_list_eq_equiv gs g all e

distinct_fold : (gs hs : List (List ℕ)) → IsDistinct (pointwise nat_eq) gs → IsDistinct (pointwise nat_eq) (fold with_group gs hs)
distinct_fold gs [] all = all
distinct_fold gs (h ∷ hs) all = distinct_fold (with_group gs h) hs (push_cases gs h (list_any (pointwise nat_eq h) gs) refl all)

nothing_distinct : IsDistinct (pointwise nat_eq) []
unfolding IsDistinct
nothing_distinct = tt

pub groups_distinct : (ts : List SetRow) → IsDistinct (pointwise nat_eq) (groups_of ts)
groups_distinct ts = distinct_fold [] (map row_parameters ts) nothing_distinct

pub or_regroup : (a b c : Bool) → ((a || b) || c) ≡ (a || (b || c))
or_regroup true b c = refl
or_regroup false b c = refl

pub any_append : {X : Type 0} (p : X → Bool) (xs ys : List X) → list_any p (xs ++ ys) ≡ (list_any p xs || list_any p ys)
any_append p [] ys = refl
any_append p (x ∷ xs) ys = ap (λ (b : Bool). p x || b) (any_append p xs ys) ∙ sym (or_regroup (p x) (list_any p xs) (list_any p ys))

or_true : (a b : Bool) → a ≡ true → (a || b) ≡ true
or_true true b e = refl
or_true false b e = absurd cc

or_last : (a b : Bool) → b ≡ true → (a || b) ≡ true
or_last true b e = refl
or_last false b e = e

kept_cases : (h : List ℕ) (gs : List (List ℕ)) (g : List ℕ) (b : Bool) → list_any (pointwise nat_eq h) gs ≡ true → list_any (pointwise nat_eq h) (if b then gs else gs ++ g ∷ []) ≡ true
kept_cases h gs g true e = e
kept_cases h gs g false e = any_append (pointwise nat_eq h) gs (g ∷ []) ∙ or_true _ _ e

kept_fold : (h : List ℕ) (gs hs : List (List ℕ)) → list_any (pointwise nat_eq h) gs ≡ true → list_any (pointwise nat_eq h) (fold with_group gs hs) ≡ true
kept_fold h gs [] e = e
kept_fold h gs (g ∷ hs) e = kept_fold h (with_group gs g) hs (kept_cases h gs g (list_any (pointwise nat_eq g) gs) e)

pub itself : (g : List ℕ) → pointwise nat_eq g g ≡ true
itself g = nat_list_eq_equiv.refl g

new_cases : (gs : List (List ℕ)) (g : List ℕ) (b : Bool) → list_any (pointwise nat_eq g) gs ≡ b → list_any (pointwise nat_eq g) (if b then gs else gs ++ g ∷ []) ≡ true
new_cases gs g true e = e
new_cases gs g false e = any_append (pointwise nat_eq g) gs (g ∷ []) ∙ or_last (list_any (pointwise nat_eq g) gs) (list_any (pointwise nat_eq g) (g ∷ [])) (or_true (pointwise nat_eq g g) false (itself g))

pub has_group : (gs : List (List ℕ)) (ts : List SetRow) → AllByRecursion (λ t. list_any (pointwise nat_eq (row_parameters t)) (fold with_group gs (map row_parameters ts)) ≡ true) ts
has_group gs [] = tt
has_group gs (t ∷ ts) =
    let g = row_parameters t in
    (kept_fold g (with_group gs g) (map row_parameters ts) (new_cases gs g (list_any (pointwise nat_eq g) gs) refl), has_group (with_group gs g) ts)

-- ---- all groups put in order

-- the row is of one of the groups
abbrev pub of_any : List (List ℕ) → SetRow → Bool
of_any gs t = list_any (λ g. is_of_group g t) gs

not_both : (g h : List ℕ) (t : SetRow) → pointwise nat_eq g h ≡ false → is_of_group h t ≡ true → is_of_group g t ≡ false
not_both g h t apart e = bool_not (is_of_group g t) (λ is. let f : pointwise nat_eq g h ≡ true = ap (λ (k : List ℕ). pointwise nat_eq k h) (sym (is_of g t is)) ∙ e in cc)
  where
    bool_not : (b : Bool) → (b ≡ true → ⊥) → b ≡ false
    bool_not true never = absurd (never refl)
    bool_not false never = refl

or_none : (a b : Bool) → a ≡ false → b ≡ false → (a || b) ≡ false
or_none a b e f = rw (e, f) refl

-- the test holds of no row of the groups
abbrev pub IsApart : (SetRow → Bool) → List (List ℕ) → Type 0
IsApart p gs = AllByRecursion (λ g. (t : SetRow) → is_of_group g t ≡ true → p t ≡ false) gs

pub more_apart : (p : SetRow → Bool) (g : List ℕ) (gs : List (List ℕ)) → IsApart p gs → AllByRecursion (λ h. pointwise nat_eq g h ≡ false) gs → IsApart (λ t. p t || is_of_group g t) gs
more_apart p g [] all apart = tt
more_apart p g (h ∷ hs) all apart = ((λ t is. or_none (p t) (is_of_group g t) (all.0 t is) (not_both g h t apart.0 is)), more_apart p g hs all.1 apart.1)

in_order : (p : SetRow → Bool) (ts : List SetRow) (gs : List (List ℕ)) → IsRising is_earlier ts → IsDistinct (pointwise nat_eq) gs → IsApart p gs →
    fold (place_by is_earlier) (filter p ts) (flat_map (λ g. filter (is_of_group g) ts) gs) ≡ filter (λ t. p t || of_any gs t) ts
in_order p ts [] up distinct apart = filter_same rows_rank p (λ t. p t || false) ts (λ t. or_false (p t))
  where
    or_false : (b : Bool) → b ≡ (b || false)
    or_false true = refl
    or_false false = refl
in_order p ts (g ∷ gs) up distinct apart =
    let q : SetRow → Bool = λ t. p t || is_of_group g t in
    fold-append (place_by is_earlier) (filter p ts) (filter (is_of_group g) ts) (flat_map (λ g. filter (is_of_group g) ts) gs)
    ∙ ap (λ (acc : List SetRow). fold (place_by is_earlier) acc (flat_map (λ g. filter (is_of_group g) ts) gs)) (fold_filter rows_rank p (is_of_group g) ts apart.0 up)
    ∙ in_order q ts gs up (IsDistinct-tail _ g gs distinct) (more_apart p g gs apart.1 (IsDistinct-head _ g gs distinct))
    ∙ filter_same rows_rank (λ t. q t || of_any gs t) (λ t. p t || of_any (g ∷ gs) t) ts (λ t. or_regroup (p t) (is_of_group g t) (of_any gs t))

pub none_apart : (gs : List (List ℕ)) → IsApart (λ t. false) gs
none_apart [] = tt
none_apart (g ∷ gs) = ((λ t is. refl), none_apart gs)

less_is : (o : Ordering) → o ≡ Less → is_lt o ≡ true
less_is Less e = refl
less_is _ e = absurd cc

all_earlier : (k : Key) (ts : List SetRow) → AllByRecursion (λ y. key_cmp k y ≡ Less) (map (λ t. t.key) ts) → AllByRecursion (λ z. is_lt (key_cmp k z.key) ≡ true) ts
all_earlier k [] all = tt
all_earlier k (t ∷ ts) all = (less_is (key_cmp k t.key) all.0, all_earlier k ts all.1)

pub rising_rows : (ts : List SetRow) → IsStrictlySortedBy key_cmp (map (λ t. t.key) ts) → IsRising is_earlier ts
rising_rows [] up = tt
rising_rows (t ∷ ts) up = (all_earlier t.key ts (sorted_head key_cmp t.key (map (λ t. t.key) ts) up), rising_rows ts (sorted_tail key_cmp t.key (map (λ t. t.key) ts) up))

of_any_is : (t : SetRow) (gs : List (List ℕ)) → list_any (pointwise nat_eq (row_parameters t)) gs ≡ true → of_any gs t ≡ true
of_any_is t gs e = e

pub rows_again_in_order : SetHasItsRows
rows_again_in_order ts are =
    let gs = groups_of ts in
    let up = rising_rows ts are.rising in
    ap (order_by is_earlier) (rows_of_groups ts gs)
    ∙ ap (λ (acc : List SetRow). fold (place_by is_earlier) acc (flat_map (λ g. filter (is_of_group g) ts) gs)) (sym (filter_none rows_rank (λ t. false) ts (λ t. refl)))
    ∙ in_order (λ t. false) ts gs up (groups_distinct ts) (none_apart gs)
    ∙ filter_all rows_rank (λ t. false || of_any gs t) ts (has_group [] ts)
