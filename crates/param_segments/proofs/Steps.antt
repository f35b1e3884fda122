-- What one row more does to what the groups keep.
use Rattle.std.proofs.Common.{◌≡◌, ℕ, suc, ◌+◌, ◌*◌, ℤ, List, [], ◌∷◌, ◌++◌, length, map, drop, Bool, true, false, cond, eqb, refl, sym, ap, subst, ◌∙◌, append-nil, arith}
use Rattle.std.specs.Prelude.{fold, filter, flat_map, nat_eq, if◌then◌else◌, ◌||◌}
use Rattle.std.specs.List.{AllByRecursion, list_any, IsDistinct}
use lib.Pointwise.{pointwise}
use Rattle.std.proofs.lemmas.List.{length-map, take_at, drop_at, map_push, length-append}
use Rattle.std.proofs.lemmas.List.Sums.{fold-append}
use Rattle.std.proofs.lemmas.List.Concat.{flat_map-append}
use Rattle.std.proofs.lemmas.Map.Keys.{IsDistinct-head, IsDistinct-tail}
use Rattle.arch_types.specs.declared.key.Key.{Key}
use Rattle.param_segments.proofs.Inverse.{AreOf, flat, raws_fit, pieces_joined, split_left}
use Rattle.param_segments.proofs.Grouped.{is_of, filter_of, groups_distinct, itself, has_group}
use Rattle.param_segments.specs.Rows.{SetRow, row_parameters, row_raws}
use Rattle.param_segments.specs.Groups.{is_of_group, with_group, groups_of, Pieces, with_next_row, cut_rows, with_raws, raw_columns, segment_of}
use Rattle.param_segments.specs.GroupContents.{GroupContents, columns_by_rows, segment_by_rows, with_values, with_open_row, segment_closed, first_contents, with_set_row, contents_of, all_contents}
use Rattle.param_segments.specs.Octets.{starts_from}
use Rattle.segment_codec.specs.Segment.{segment_octets}
use Rattle.segment_codec.specs.declared.segment.Segment.{Segment}

-- ---- the last rows as a segment

transposed_is : (g : List ℕ) (rows : List SetRow) → AreOf g rows → columns_by_rows (length g) (length rows) (flat_map row_raws rows) ≡ raw_columns (length g) rows
transposed_is g [] are = refl
transposed_is g (t ∷ ts) are =
    let fit = raws_fit g t are.0 in
    ap (λ (rs : List ℤ). with_raws rs (columns_by_rows (length g) (length ts) (drop (length g) (row_raws t ++ flat_map row_raws ts)))) (take_at (row_raws t) (flat_map row_raws ts) (length g) fit)
    ∙ ap (λ (rs : List ℤ). with_raws (row_raws t) (columns_by_rows (length g) (length ts) rs)) (drop_at (row_raws t) (flat_map row_raws ts) (length g) fit)
    ∙ ap (with_raws (row_raws t)) (transposed_is g ts are.1)

pub made_is : (g : List ℕ) (rows : List SetRow) → AreOf g rows → segment_by_rows g (map (λ t. t.key) rows) (flat_map row_raws rows) ≡ segment_of g rows
made_is g rows are =
    ap (λ (n : ℕ). let s : Segment = record { parameters = g; keys = map (λ t. t.key) rows; columns = columns_by_rows (length g) n (flat_map row_raws rows) } in s) (length-map rows (λ t. t.key))
    ∙ ap (λ (cs : List (List ℤ)). let s : Segment = record { parameters = g; keys = map (λ t. t.key) rows; columns = cs } in s) (transposed_is g rows are)

-- ---- one group

pub open_of : (g : List ℕ) (rows : List SetRow) → AreOf g rows → AreOf g (cut_rows rows).last
open_of g rows are =
    let all : AreOf g (flat (cut_rows rows).full ++ ((cut_rows rows).last ++ [])) = subst (AreOf g) (sym (pieces_joined rows) ∙ flat_map-append (λ p. p) (cut_rows rows).full ((cut_rows rows).last ∷ [])) are in
    subst (AreOf g) (append-nil (cut_rows rows).last) (split_left (λ t. row_parameters t ≡ g) (flat (cut_rows rows).full) ((cut_rows rows).last ++ []) all).1

shaped_rows : (g : List ℕ) (rows : List SetRow) → AreOf g rows → length (flat_map row_raws rows) ≡ length rows * length g
shaped_rows g [] are = let z : 0 ≡ 0 * length g = omega arith in z
shaped_rows g (t ∷ ts) are =
    let fit = raws_fit g t are.0 in
    let more = shaped_rows g ts are.1 in
    let rows : suc (length ts) * length g ≡ length g + length ts * length g = omega arith in
    length-append (row_raws t) (flat_map row_raws ts) ∙ omega (arith, rows, more, fit)

-- what a group keeps, by its full segments
abbrev kept : List ℕ → List Segment → List Key → List ℤ → GroupContents
kept g full keys raws = record { parameters = g; octets = flat_map segment_octets full; starts = starts_from 0 full; keys = keys; raws = raws }

pub raw_count_of : (g : List ℕ) (rows : List SetRow) → AreOf g rows → (let c = contents_of g rows in length c.raws ≡ length c.keys * length c.parameters)
raw_count_of g rows are = let last = (cut_rows rows).last in shaped_rows g last (open_of g rows are) ∙ ap (λ (n : ℕ). n * length g) (sym (length-map last (λ t. t.key)))

pub octets_push : (ss : List Segment) (s : Segment) → flat_map segment_octets (ss ++ s ∷ []) ≡ flat_map segment_octets ss ++ segment_octets s
octets_push ss s = flat_map-append segment_octets ss (s ∷ []) ∙ ap (λ (xs : List ℕ). flat_map segment_octets ss ++ xs) (append-nil (segment_octets s))

pub starts_append : (at : ℕ) (xs ys : List Segment) → starts_from at (xs ++ ys) ≡ starts_from at xs ++ starts_from (at + length (flat_map segment_octets xs)) ys
starts_append at [] ys = ap (λ (n : ℕ). starts_from n ys) (let e : at ≡ at + 0 = omega arith in e)
starts_append at (x ∷ xs) ys =
    let len = length-append (segment_octets x) (flat_map segment_octets xs) in
    ap (λ (ns : List ℕ). at ∷ ns) (starts_append (at + length (segment_octets x)) xs ys
    ∙ ap (λ (n : ℕ). starts_from (at + length (segment_octets x)) xs ++ starts_from n ys) (let e : (at + length (segment_octets x)) + length (flat_map segment_octets xs) ≡ at + length (segment_octets x ++ flat_map segment_octets xs) = omega (arith, len) in e))

-- a row more, where it's known whether the open segment is full
abbrev stepped : List ℕ → List Segment → List Key → List ℤ → SetRow → Bool → GroupContents
stepped g full keys raws t b = with_open_row (if b then segment_closed (kept g full keys raws) else kept g full keys raws) t.key (row_raws t)

kept_push : (g : List ℕ) (full : List Segment) (s : Segment) (keys : List Key) (raws : List ℤ) →
    kept g (full ++ s ∷ []) keys raws ≡ (let c : GroupContents = record { parameters = g; octets = flat_map segment_octets full ++ segment_octets s; starts = starts_from 0 full ++ length (flat_map segment_octets full) ∷ []; keys = keys; raws = raws } in c)
kept_push g full s keys raws =
    ap (λ (octets : List ℕ). let c : GroupContents = record { parameters = g; octets = octets; starts = starts_from 0 (full ++ s ∷ []); keys = keys; raws = raws } in c) (octets_push full s)
    ∙ ap (λ (starts : List ℕ). let c : GroupContents = record { parameters = g; octets = flat_map segment_octets full ++ segment_octets s; starts = starts; keys = keys; raws = raws } in c) (starts_append 0 full (s ∷ []) ∙ ap (λ (n : ℕ). starts_from 0 full ++ n ∷ []) (let e : 0 + length (flat_map segment_octets full) ≡ length (flat_map segment_octets full) = omega arith in e))

step_of_kept : (g : List ℕ) (p : Pieces) (t : SetRow) (b : Bool) → segment_by_rows g (map (λ u. u.key) p.last) (flat_map row_raws p.last) ≡ segment_of g p.last →
    (let q : Pieces = if b then record { full = p.full ++ p.last ∷ []; last = t ∷ [] } else record { full = p.full; last = p.last ++ t ∷ [] } in
    kept g (map (segment_of g) q.full) (map (λ u. u.key) q.last) (flat_map row_raws q.last))
    ≡ stepped g (map (segment_of g) p.full) (map (λ u. u.key) p.last) (flat_map row_raws p.last) t b
step_of_kept g p t true e =
    let full = map (segment_of g) p.full in
    let s = segment_by_rows g (map (λ u. u.key) p.last) (flat_map row_raws p.last) in
    ap (λ (ss : List Segment). kept g ss (t.key ∷ []) (row_raws t ++ [])) (map_push (segment_of g) p.full p.last ∙ ap (λ (x : Segment). full ++ x ∷ []) (sym e))
    ∙ ap (λ (raws : List ℤ). kept g (full ++ s ∷ []) (t.key ∷ []) raws) (append-nil (row_raws t))
    ∙ kept_push g full s (t.key ∷ []) (row_raws t)
step_of_kept g p t false e =
    let full = map (segment_of g) p.full in
    ap (λ (keys : List Key). kept g full keys (flat_map row_raws (p.last ++ t ∷ []))) (map_push (λ u. u.key) p.last t)
    ∙ ap (λ (raws : List ℤ). kept g full (map (λ u. u.key) p.last ++ t.key ∷ []) raws)
    (flat_map-append row_raws p.last (t ∷ []) ∙ ap (λ (xs : List ℤ). flat_map row_raws p.last ++ xs) (append-nil (row_raws t)))

-- a row more of the group
contents_more : (g : List ℕ) (rows : List SetRow) (t : SetRow) → AreOf g rows → contents_of g (rows ++ t ∷ []) ≡ with_values (contents_of g rows) t.key (row_raws t)
contents_more g rows t are =
    let p = cut_rows rows in
    let b = eqb (length p.last) 4096 in
    let keys : b ≡ eqb (length (map (λ u. u.key) p.last)) 4096 = ap (λ (n : ℕ). eqb n 4096) (sym (length-map p.last (λ u. u.key))) in
    ap (λ (q : Pieces). kept g (map (segment_of g) q.full) (map (λ u. u.key) q.last) (flat_map row_raws q.last)) (fold-append with_next_row (record { full = []; last = [] }) rows (t ∷ []))
    ∙ step_of_kept g p t b (made_is g p.last (open_of g rows are))
    ∙ ap (stepped g (map (segment_of g) p.full) (map (λ u. u.key) p.last) (flat_map row_raws p.last) t) keys

-- ---- the rows of a group, one more

filter_more : (p : SetRow → Bool) (ts : List SetRow) (t : SetRow) → filter p (ts ++ t ∷ []) ≡ filter p ts ++ cond (p t) (t ∷ []) []
filter_more p [] t = refl
filter_more p (u ∷ us) t = ap (λ (xs : List SetRow). cond (p u) (u ∷ xs) xs) (filter_more p us t) ∙ split_cond (p u) (filter p us)
  where
    split_cond : (b : Bool) (xs : List SetRow) → cond b (u ∷ (xs ++ cond (p t) (t ∷ []) [])) (xs ++ cond (p t) (t ∷ []) []) ≡ cond b (u ∷ xs) xs ++ cond (p t) (t ∷ []) []
    split_cond true xs = refl
    split_cond false xs = refl

abbrev group_of_rows : List SetRow → List ℕ → GroupContents
group_of_rows ts g = contents_of g (filter (is_of_group g) ts)

-- its own group has it
own_group : (ts : List SetRow) (t : SetRow) (g : List ℕ) → is_of_group g t ≡ true → group_of_rows (ts ++ t ∷ []) g ≡ with_values (group_of_rows ts g) t.key (row_raws t)
own_group ts t g e =
    ap (contents_of g) (filter_more (is_of_group g) ts t ∙ ap (λ (b : Bool). filter (is_of_group g) ts ++ cond b (t ∷ []) []) e) ∙ contents_more g (filter (is_of_group g) ts) t (filter_of g ts)

-- other groups stay
other_group : (ts : List SetRow) (t : SetRow) (g : List ℕ) → is_of_group g t ≡ false → group_of_rows (ts ++ t ∷ []) g ≡ group_of_rows ts g
other_group ts t g e =
    ap (contents_of g) (filter_more (is_of_group g) ts t ∙ ap (λ (b : Bool). filter (is_of_group g) ts ++ cond b (t ∷ []) []) e ∙ append-nil (filter (is_of_group g) ts))

others_stay : (ts : List SetRow) (t : SetRow) (gs : List (List ℕ)) → AllByRecursion (λ g. is_of_group g t ≡ false) gs → map (group_of_rows (ts ++ t ∷ [])) gs ≡ map (group_of_rows ts) gs
others_stay ts t [] all = refl
others_stay ts t (g ∷ gs) all =
    ap (λ (h : GroupContents). h ∷ map (group_of_rows (ts ++ t ∷ [])) gs) (other_group ts t g all.0) ∙ ap (λ (hs : List GroupContents). group_of_rows ts g ∷ hs) (others_stay ts t gs all.1)

same_apart : (t : SetRow) (g : List ℕ) (hs : List (List ℕ)) → row_parameters t ≡ g → AllByRecursion (λ h. pointwise nat_eq g h ≡ false) hs → AllByRecursion (λ h. is_of_group h t ≡ false) hs
same_apart t g [] is all = tt
same_apart t g (h ∷ hs) is all = (ap (λ (k : List ℕ). pointwise nat_eq k h) is ∙ all.0, same_apart t g hs is all.1)

step_cases : (ts : List SetRow) (t : SetRow) (g : List ℕ) (gs : List (List ℕ)) (b : Bool) → is_of_group g t ≡ b → IsDistinct (pointwise nat_eq) (g ∷ gs) →
    (if list_any (pointwise nat_eq (row_parameters t)) gs then map (group_of_rows (ts ++ t ∷ [])) gs else map (group_of_rows (ts ++ t ∷ [])) gs ++ first_contents t ∷ []) ≡ with_set_row (map (group_of_rows ts) gs) t →
    (if (b || list_any (pointwise nat_eq (row_parameters t)) gs) then map (group_of_rows (ts ++ t ∷ [])) (g ∷ gs) else map (group_of_rows (ts ++ t ∷ [])) (g ∷ gs) ++ first_contents t ∷ [])
    ≡ (if b then with_values (group_of_rows ts g) t.key (row_raws t) ∷ map (group_of_rows ts) gs else group_of_rows ts g ∷ with_set_row (map (group_of_rows ts) gs) t)
step_cases ts t g gs true e distinct more =
    ap (λ (h : GroupContents). h ∷ map (group_of_rows (ts ++ t ∷ [])) gs) (own_group ts t g e)
    ∙ ap (λ (hs : List GroupContents). with_values (group_of_rows ts g) t.key (row_raws t) ∷ hs) (others_stay ts t gs (same_apart t g gs (is_of g t e) (IsDistinct-head _ g gs distinct)))
step_cases ts t g gs false e distinct more =
    out (list_any (pointwise nat_eq (row_parameters t)) gs) (map (group_of_rows (ts ++ t ∷ [])) gs)
    ∙ ap (λ (h : GroupContents). h ∷ (if list_any (pointwise nat_eq (row_parameters t)) gs then map (group_of_rows (ts ++ t ∷ [])) gs else map (group_of_rows (ts ++ t ∷ [])) gs ++ first_contents t ∷ [])) (other_group ts t g e)
    ∙ ap (λ (hs : List GroupContents). group_of_rows ts g ∷ hs) more
  where
    out : (c : Bool) (hs : List GroupContents) → (if c then group_of_rows (ts ++ t ∷ []) g ∷ hs else group_of_rows (ts ++ t ∷ []) g ∷ (hs ++ first_contents t ∷ [])) ≡ group_of_rows (ts ++ t ∷ []) g ∷ (if c then hs else hs ++ first_contents t ∷ [])
    out true hs = refl
    out false hs = refl

step : (ts : List SetRow) (t : SetRow) (gs : List (List ℕ)) → IsDistinct (pointwise nat_eq) gs →
    (if list_any (pointwise nat_eq (row_parameters t)) gs then map (group_of_rows (ts ++ t ∷ [])) gs else map (group_of_rows (ts ++ t ∷ [])) gs ++ first_contents t ∷ []) ≡ with_set_row (map (group_of_rows ts) gs) t
step ts t [] distinct = refl
step ts t (g ∷ gs) distinct = step_cases ts t g gs (is_of_group g t) refl distinct (step ts t gs (IsDistinct-tail _ g gs distinct))

-- ---- a group that is new has no rows yet

has_none : (g : List ℕ) (gs : List (List ℕ)) (ts : List SetRow) → list_any (pointwise nat_eq g) gs ≡ false → AllByRecursion (λ t. list_any (pointwise nat_eq (row_parameters t)) gs ≡ true) ts → filter (is_of_group g) ts ≡ []
has_none g gs [] none all = refl
has_none g gs (t ∷ ts) none all =
    ap (λ (xs : List SetRow). cond (is_of_group g t) (t ∷ xs) xs) (has_none g gs ts none all.1) ∙ ap (λ (b : Bool). cond b (t ∷ []) []) (not_in (is_of_group g t) refl)
  where
    not_in : (b : Bool) → is_of_group g t ≡ b → b ≡ false
    not_in true e = absurd (let f = all.0 in let h = ap (λ (k : List ℕ). list_any (pointwise nat_eq k) gs) (is_of g t e) in cc)
    not_in false e = refl

new_group : (ts : List SetRow) (t : SetRow) → list_any (pointwise nat_eq (row_parameters t)) (groups_of ts) ≡ false → group_of_rows (ts ++ t ∷ []) (row_parameters t) ≡ first_contents t
new_group ts t none =
    let g = row_parameters t in
    own_group ts t g (itself g) ∙ ap (λ (rows : List SetRow). with_values (contents_of g rows) t.key (row_raws t)) (has_none g (groups_of ts) ts none (has_group [] ts))

groups_more : (ts : List SetRow) (t : SetRow) → groups_of (ts ++ t ∷ []) ≡ with_group (groups_of ts) (row_parameters t)
groups_more ts t = ap (fold with_group []) (map_push row_parameters ts t) ∙ fold-append with_group [] (map row_parameters ts) (row_parameters t ∷ [])

contents_cases : (ts : List SetRow) (t : SetRow) (b : Bool) → list_any (pointwise nat_eq (row_parameters t)) (groups_of ts) ≡ b →
    map (group_of_rows (ts ++ t ∷ [])) (if b then groups_of ts else groups_of ts ++ row_parameters t ∷ []) ≡ (if b then map (group_of_rows (ts ++ t ∷ [])) (groups_of ts) else map (group_of_rows (ts ++ t ∷ [])) (groups_of ts) ++ first_contents t ∷ [])
contents_cases ts t true e = refl
contents_cases ts t false e =
    map_push (group_of_rows (ts ++ t ∷ [])) (groups_of ts) (row_parameters t) ∙ ap (λ (h : GroupContents). map (group_of_rows (ts ++ t ∷ [])) (groups_of ts) ++ h ∷ []) (new_group ts t e)

-- a row more
pub contents_step : (ts : List SetRow) (t : SetRow) → all_contents (ts ++ t ∷ []) ≡ with_set_row (all_contents ts) t
contents_step ts t =
    ap (map (group_of_rows (ts ++ t ∷ []))) (groups_more ts t) ∙ contents_cases ts t (list_any (pointwise nat_eq (row_parameters t)) (groups_of ts)) refl ∙ step ts t (groups_of ts) (groups_distinct ts)
