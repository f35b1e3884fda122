-- Segments that are those of a set are told to be, where they're gone through one after the other.
use Rattle.std.proofs.Common.{◌≡◌, ◌∙◌, ℕ, zero, suc, ◌+◌, ◌<◌, ◌≤◌, ◌⊎◌, inl, inr, List, [], ◌∷◌, ◌++◌, length, map, take, get_or, append_assoc, append-nil, length-append, Bool, true, false, Some, None, refl, sym, ap, subst, arith}
use Rattle.std.specs.Prelude.{◌==◌, ◌||◌, flat_map, fold, nat_eq, nat_lt, if◌then◌else◌}
use Rattle.std.specs.List.{AllByRecursion, IsDistinct, list_any, position}
use Rattle.std.specs.List.Sorted.{IsPermutation, IsStrictlySortedBy}
use Rattle.std.specs.declared.cmp.Ordering.TheVariants.{Less}
use lib.Pointwise.{pointwise}
use Rattle.std.proofs.Math.Seq.{get_or-append_seam}
use Rattle.std.proofs.lemmas.Bool.{cases_Bool, eqb-true, ltb-true}
use Rattle.std.proofs.lemmas.Cmp.{nat_list_eq_equiv}
use Rattle.std.proofs.lemmas.List.{length-map, length-take-le, map-append}
use Rattle.std.proofs.lemmas.List.Concat.{flat_map-append}
use Rattle.std.proofs.lemmas.List.Quantifiers.{position-Some}
use Rattle.std.proofs.lemmas.List.Sorted.{IsPermutation-map, IsPermutation-sym, IsPermutation-trans}
use Rattle.std.proofs.lemmas.List.Sums.{fold-append}
use Rattle.std.proofs.lemmas.Map.Keys.{IsDistinct-head, IsDistinct-tail}
use Rattle.arch_types.specs.declared.key.Key.{Key}
use Rattle.arch_types.specs.Order.{key_cmp}
use Rattle.arch_types.proofs.InOrder.{order_same}
use Rattle.segment_codec.specs.Segment.{IsSegment, most_rows}
use Rattle.segment_codec.specs.declared.segment.Segment.{Segment}
use Rattle.param_segments.specs.RowPlaces.{RowPlace}
use Rattle.param_segments.specs.declared.runs.Runs.{Runs}
use Rattle.param_segments.specs.Groups.{groups_of, with_group}
use Rattle.param_segments.specs.RowPlaces.{IsRowPlace, placed_row, places_from}
use Rattle.param_segments.specs.Rows.{SetRow, is_earlier}
use Rattle.param_segments.specs.Runs.{AreRuns, AreRunsOf, AreRunsSoFar, EndWith, IsLast, Run, count_in_order, numbered_group, place_group, run_segments, segment_keys}
use Rattle.param_segments.specs.Segments.{rows_of_segment, rows_of_segments}
use Rattle.param_segments.specs.SetSegments.{AreSetSegments}
use Rattle.param_segments.proofs.Decoded.{each_at}
use Rattle.param_segments.proofs.Grouped.{any_append, groups_distinct, itself, rising_rows}
use Rattle.param_segments.proofs.Placed.{placed_keys, rows_at_places}
use Rattle.param_segments.proofs.SetAgain.{groups_within, known_group, last_holds, next_group, or_first, or_neither, or_second, placed_groups}
use Rattle.param_segments.proofs.SetRuns.{AreBefore, AreLinked, InOrder, back_of, front_of, linked_runs}
use Rattle.param_segments.proofs.Sorting.{permuted_is}

-- ---- lists that are cut

module _ {X : Type 0} where
  -- an item at which two lists together are cut stands in the first or in the second
  abbrev IsCut : List X → List X → List X → X → List X → Type 0
  IsCut xs ys before t after = ((mid : List X) × (xs ≡ before ++ t ∷ mid) × (after ≡ mid ++ ys)) ⊎ ((mid : List X) × (before ≡ xs ++ mid) × (ys ≡ mid ++ t ∷ after))

  both_same : (x y : X) (xs ys : List X) → x ∷ xs ≡ y ∷ ys → (x ≡ y) × (xs ≡ ys)
  both_same x y xs ys e = (cc, cc)

  cut_at : (xs ys before : List X) (t : X) (after : List X) → xs ++ ys ≡ before ++ t ∷ after → IsCut xs ys before t after
  cut_at [] ys before t after e = inr (before, refl, e)
  cut_at (x ∷ xs) ys [] t after e = let h = both_same x t (xs ++ ys) after e in inl (xs, ap (λ (z : X). z ∷ xs) h.0, sym h.1)
  cut_at (x ∷ xs) ys (b ∷ before) t after e =
      let h = both_same x b (xs ++ ys) (before ++ t ∷ after) e in
      elim (cut_at xs ys before t after h.1) [
        | inl c ↦ inl (c.0, ap (λ (z : X). z ∷ xs) h.0 ∙ ap (λ (l : List X). b ∷ l) c.1, c.2)
        | inr c ↦ inr (c.0, ap (λ (l : List X). b ∷ l) c.1 ∙ ap (λ (z : X). z ∷ (xs ++ c.0)) (sym h.0), c.2)
      ]

  last_of : (x : X) (xs : List X) → (front : List X) × (u : X) × (x ∷ xs ≡ front ++ u ∷ [])
  last_of x [] = ([], x, refl)
  last_of x (y ∷ xs) = let r = last_of y xs in (x ∷ r.0, r.1, ap (λ (l : List X). x ∷ l) r.2)

  none_is_one : (xs : List X) (x : X) → [] ≡ xs ++ x ∷ [] → ⊥
  none_is_one [] x e = cc
  none_is_one (y ∷ ys) x e = cc

  one_last : (xs ys : List X) (x y : X) → xs ++ x ∷ [] ≡ ys ++ y ∷ [] → (xs ≡ ys) × (x ≡ y)
  one_last [] [] x y e = (refl, (both_same x y [] [] e).0)
  one_last [] (b ∷ ys) x y e = absurd (none_is_one ys y (both_same x b [] (ys ++ y ∷ []) e).1)
  one_last (a ∷ xs) [] x y e = absurd (none_is_one xs x (sym (both_same a y (xs ++ x ∷ []) [] e).1))
  one_last (a ∷ xs) (b ∷ ys) x y e =
      let h = both_same a b (xs ++ x ∷ []) (ys ++ y ∷ []) e in
      let r = one_last xs ys x y h.1 in
      (ap (λ (z : X). z ∷ xs) h.0 ∙ ap (λ (l : List X). b ∷ l) r.0, r.1)

  join_all : (P : X → Type 0) (xs ys : List X) → AllByRecursion P xs → AllByRecursion P ys → AllByRecursion P (xs ++ ys)
  join_all P [] ys all more = more
  join_all P (x ∷ xs) ys all more = (all.0, join_all P xs ys all.1 more)

-- ---- the segments of a group stand together

abbrev IsOf : List ℕ → Segment → Type 0
IsOf g s = s.parameters ≡ g

-- a group has a segment among these
abbrev HasCome : List ℕ → List Segment → Type 0
HasCome g ss = list_any (λ (s : Segment). pointwise nat_eq g s.parameters) ss ≡ true

-- the last segment is of a group
abbrev EndsIn : List ℕ → List Segment → Type 0
EndsIn g ss = (front : List Segment) × (u : Segment) × (ss ≡ front ++ u ∷ []) × (u.parameters ≡ g)

-- where a group has come before a segment of it, the segment before is of it
abbrev StandTogether : List Segment → Type 0
StandTogether ss = (before : List Segment) (t : Segment) (after : List Segment) → ss ≡ before ++ t ∷ after → HasCome t.parameters before → EndsIn t.parameters before

together_none : StandTogether []
together_none [] t after e come = absurd cc
together_none (b ∷ before) t after e come = absurd cc

together_run : (g : List ℕ) (ss : List Segment) → AllByRecursion (IsOf g) ss → StandTogether ss
together_run g ss own [] t after e come = absurd cc
together_run g ss own (b ∷ before) t after e come =
    let all = subst (AllByRecursion (IsOf g)) e own in
    let l = last_of b before in
    let here : t.parameters ≡ g = (back_of (IsOf g) (b ∷ before) (t ∷ after) all).0 in
    let front = subst (AllByRecursion (IsOf g)) l.2 (front_of (IsOf g) (b ∷ before) (t ∷ after) all) in
    (l.0, l.1, l.2, last_holds (IsOf g) l.0 l.1 front ∙ sym here)

none_came : (g h : List ℕ) (ss : List Segment) → AllByRecursion (IsOf h) ss → pointwise nat_eq g h ≡ false → list_any (λ (s : Segment). pointwise nat_eq g s.parameters) ss ≡ false
none_came g h [] own apart = refl
none_came g h (s ∷ ss) own apart = or_neither (pointwise nat_eq g s.parameters) (list_any (λ (x : Segment). pointwise nat_eq g x.parameters) ss) (ap (pointwise nat_eq g) own.0 ∙ apart) (none_came g h ss own.1 apart)

abbrev IsElse : List ℕ → Segment → Type 0
IsElse g s = pointwise nat_eq g s.parameters ≡ false

together_more : (g : List ℕ) (xs ys : List Segment) → AllByRecursion (IsOf g) xs → AllByRecursion (IsElse g) ys → StandTogether ys → StandTogether (xs ++ ys)
together_more g xs ys own others rest before t after e come = elim (cut_at xs ys before t after e) [
  | inl c ↦ together_run g xs own before t c.0 c.1 come
  | inr c ↦
      let p : Segment → Bool = λ s. pointwise nat_eq t.parameters s.parameters in
      let here = (back_of (IsElse g) c.0 (t ∷ after) (subst (AllByRecursion (IsElse g)) c.2 others)).0 in
      let apart : pointwise nat_eq t.parameters g ≡ false = nat_list_eq_equiv.symm t.parameters g ∙ here in
      let none : list_any p xs ≡ false = none_came t.parameters g xs own apart in
      let behind : list_any p c.0 ≡ true = sym (ap (λ (b : Bool). b || list_any p c.0) none) ∙ sym (any_append p xs c.0) ∙ ap (list_any p) (sym c.1) ∙ come in
      let r = rest c.0 t after c.2 behind in
      (xs ++ r.0, r.1, c.1 ∙ ap (λ (l : List Segment). xs ++ l) r.2 ∙ sym (append_assoc xs r.0 (r.1 ∷ [])), r.3)
]

else_all : (g h : List ℕ) (ss : List Segment) → pointwise nat_eq g h ≡ false → AllByRecursion (IsOf h) ss → AllByRecursion (IsElse g) ss
else_all g h [] apart own = tt
else_all g h (s ∷ ss) apart own = (ap (pointwise nat_eq g) own.0 ∙ apart, else_all g h ss apart own.1)

else_runs : (g : List ℕ) (hs : List (List ℕ)) (runs : List Run) → AllByRecursion (λ h. pointwise nat_eq g h ≡ false) hs → AreRunsOf hs runs → AllByRecursion (IsElse g) (flat_map run_segments runs)
else_runs g [] [] apart of = tt
else_runs g [] (r ∷ runs) apart of = absurd of
else_runs g (h ∷ hs) [] apart of = absurd of
else_runs g (h ∷ hs) (r ∷ runs) apart of = join_all (IsElse g) (run_segments r) (flat_map run_segments runs) (else_all g h (run_segments r) apart.0 of.0.each) (else_runs g hs runs apart.1 of.1)

together_runs : (gs : List (List ℕ)) (runs : List Run) → IsDistinct (pointwise nat_eq) gs → AreRunsOf gs runs → StandTogether (flat_map run_segments runs)
together_runs [] [] distinct of = together_none
together_runs [] (r ∷ runs) distinct of = absurd of
together_runs (g ∷ gs) [] distinct of = absurd of
together_runs (g ∷ gs) (r ∷ runs) distinct of =
    together_more g (run_segments r) (flat_map run_segments runs) of.0.each (else_runs g gs runs (IsDistinct-head (pointwise nat_eq) g gs distinct) of.1) (together_runs gs runs (IsDistinct-tail (pointwise nat_eq) g gs distinct) of.1)

-- ---- a group with a number has come

run_came : (g h : List ℕ) (full : List Segment) (last : Segment) (rest : List Segment) → pointwise nat_eq g h ≡ true → AllByRecursion (IsOf h) (full ++ last ∷ []) → HasCome g ((full ++ last ∷ []) ++ rest)
run_came g h [] last rest is own = or_first (pointwise nat_eq g last.parameters) (list_any (λ (s : Segment). pointwise nat_eq g s.parameters) rest) (ap (pointwise nat_eq g) own.0 ∙ is)
run_came g h (s ∷ full) last rest is own =
    or_first (pointwise nat_eq g s.parameters) (list_any (λ (x : Segment). pointwise nat_eq g x.parameters) ((full ++ last ∷ []) ++ rest)) (ap (pointwise nat_eq g) own.0 ∙ is)

came_at : (g : List ℕ) (gs : List (List ℕ)) (runs : List Run) (n : ℕ) → n < length gs → pointwise nat_eq g (get_or gs n []) ≡ true → AreRunsOf gs runs → HasCome g (flat_map run_segments runs)
came_at g [] runs n lt is of = absurd (omega (arith, lt))
came_at g (h ∷ gs) [] n lt is of = absurd of
came_at g (h ∷ gs) (r ∷ runs) zero lt is of = run_came g h r.full r.last (flat_map run_segments runs) is of.0.each
came_at g (h ∷ gs) (r ∷ runs) (suc n) lt is of =
    let p : Segment → Bool = λ s. pointwise nat_eq g s.parameters in
    any_append p (run_segments r) (flat_map run_segments runs) ∙ or_second (list_any p (run_segments r)) (list_any p (flat_map run_segments runs)) (came_at g gs runs n (omega (arith, lt)) is of.1)

-- ---- the segment with which runs end

some_left : (q : Run) (runs : List Run) (mid : List Segment) → [] ≡ mid ++ flat_map run_segments (q ∷ runs) → ⊥
some_left q runs mid e =
    let whole = ap length e in
    let first = length-append mid (flat_map run_segments (q ∷ runs)) in
    let second = length-append (run_segments q) (flat_map run_segments runs) in
    let third = length-append q.full (q.last ∷ []) in
    omega arith

ends_as : (gs : List (List ℕ)) (runs : List Run) (front : List Segment) (u : Segment) (rows : ℕ) (k : Key) → AreRunsOf gs runs → flat_map run_segments runs ≡ front ++ u ∷ [] → EndWith runs rows k →
    (length u.keys ≡ rows) × (hs : List (List ℕ)) × (gs ≡ hs ++ u.parameters ∷ []) × (before : List Key) × IsLast (before ++ u.keys) k
ends_as gs [] front u rows k of e ends = absurd (none_is_one front u e)
ends_as [] (r ∷ runs) front u rows k of e ends = absurd of
ends_as (g ∷ h ∷ gs) (r ∷ []) front u rows k of e ends = absurd of.1
ends_as (g ∷ []) (r ∷ []) front u rows k of e ends =
    let same = one_last r.full front r.last u (sym (append-nil (run_segments r)) ∙ e) in
    let own : r.last.parameters ≡ g = last_holds (IsOf g) r.full r.last of.0.each in
    let others = segment_keys r.full in
    let keys : segment_keys (run_segments r) ≡ others ++ u.keys =
    flat_map-append (λ (x : Segment). x.keys) r.full (r.last ∷ []) ∙ ap (λ (ks : List Key). others ++ ks) (append-nil r.last.keys ∙ ap (λ (x : Segment). x.keys) same.1) in
    (ap (λ (x : Segment). length x.keys) (sym same.1) ∙ ends.0, [], ap (λ (h : List ℕ). h ∷ []) (sym own ∙ ap (λ (x : Segment). x.parameters) same.1), others, (ends.1.0, sym keys ∙ ends.1.1))
ends_as (g ∷ gs) (r ∷ q ∷ runs) front u rows k of e ends = elim (cut_at (run_segments r) (flat_map run_segments (q ∷ runs)) front u [] e) [
  | inl c ↦ absurd (some_left q runs c.0 c.2)
  | inr c ↦ let more = ends_as gs (q ∷ runs) c.0 u rows k of.1 c.2 ends in (more.0, g ∷ more.1, ap (λ (hs : List (List ℕ)). g ∷ hs) more.2, more.3, more.4)
]

last_number : (hs : List (List ℕ)) (g : List ℕ) (n : ℕ) → IsDistinct (pointwise nat_eq) (hs ++ g ∷ []) → n < length (hs ++ g ∷ []) → pointwise nat_eq g (get_or (hs ++ g ∷ []) n []) ≡ true → n ≡ length hs
last_number [] g n distinct lt is = omega (arith, lt)
last_number (h ∷ hs) g zero distinct lt is = absurd (
    let apart : pointwise nat_eq h g ≡ false = last_holds (λ (y : List ℕ). pointwise nat_eq h y ≡ false) hs g (IsDistinct-head (pointwise nat_eq) h (hs ++ g ∷ []) distinct) in
    let turned : pointwise nat_eq g h ≡ false = nat_list_eq_equiv.symm g h ∙ apart in
    cc)
last_number (h ∷ hs) g (suc n) distinct lt is = ap suc (last_number hs g n (IsDistinct-tail (pointwise nat_eq) h (hs ++ g ∷ []) distinct) (omega (arith, lt)) is)

last_key : (before keys : List Key) (k : Key) → 1 ≤ length keys → IsLast (before ++ keys) k → IsLast keys k
last_key before [] k some is = absurd (omega (arith, some))
last_key before (x ∷ keys) k some is =
    let l = last_of x keys in
    let same = one_last (before ++ l.0) is.0 l.1 k (append_assoc before l.0 (l.1 ∷ []) ∙ ap (λ (ks : List Key). before ++ ks) (sym l.2) ∙ is.1) in
    (l.0, l.2 ∙ ap (λ (z : Key). l.0 ++ z ∷ []) same.1)

linked_tail : (s : Segment) (ss : List Segment) → AreLinked (s ∷ ss) → AreLinked ss
linked_tail s [] linked = tt
linked_tail s (t ∷ ss) linked = linked.1

linked_there : (front : List Segment) (u s : Segment) (after : List Segment) → AreLinked (front ++ u ∷ s ∷ after) → InOrder u s
linked_there [] u s after linked = linked.0
linked_there (x ∷ front) u s after linked = linked_there front u s after (linked_tail x (front ++ u ∷ s ∷ after) linked)

-- in a set's segments, one whose group has come goes on with the last before it
pub must_go_on : (before after : List Segment) (s : Segment) (old : Runs) (number : ℕ) (first : Key) (rest : List Key) → AreSetSegments (before ++ s ∷ after) → AreRunsSoFar before old → position (pointwise nat_eq s.parameters) old.groups ≡ Some number →
    s.keys ≡ first ∷ rest → (number + 1 ≡ old.count) × (old.rows ≡ most_rows) × (key_cmp old.last first ≡ Less)
must_go_on before after s old number first rest set so_far found begins =
    let g = s.parameters in
    let whole = before ++ s ∷ after in
    let gs = groups_of (rows_of_segments whole) in
    let there = position-Some (pointwise nat_eq g) old.groups number [] found in
    let come : HasCome g before = subst (HasCome g) so_far.runs.2 (came_at g old.groups so_far.runs.0 number there.0 there.1 so_far.runs.1) in
    let ends = subst StandTogether set.runs.2 (together_runs gs set.runs.0 (groups_distinct (rows_of_segments whole)) set.runs.1) before s after refl come in
    let front = ends.0 in
    let u = ends.1 in
    let at = ends_as old.groups so_far.runs.0 front u old.rows old.last so_far.runs.1 (so_far.runs.2 ∙ ends.2) so_far.runs.3 in
    let linked : AreLinked whole = subst AreLinked set.runs.2 (linked_runs gs set.runs.0 (groups_distinct (rows_of_segments whole)) set.runs.1) in
    let split : whole ≡ front ++ u ∷ s ∷ after = ap (λ (l : List Segment). l ++ s ∷ after) ends.2 ∙ append_assoc front (u ∷ []) (s ∷ after) in
    let ordered = linked_there front u s after (subst AreLinked split linked) ends.3 in
    let full = ordered.0 in
    let long = at.0 in
    let some : 1 ≤ length u.keys = omega (arith, full) in
    let last = last_key at.3 u.keys old.last some at.4 in
    let below = last_holds (λ (k : Key). AllByRecursion (λ (x : Key). key_cmp k x ≡ Less) s.keys) last.0 old.last (subst (λ (ks : List Key). AreBefore ks s.keys) last.1 ordered.1) in
    let first_below = (subst (AllByRecursion (λ (x : Key). key_cmp old.last x ≡ Less)) begins below).0 in
    let group : old.groups ≡ at.1 ++ g ∷ [] = at.2 ∙ ap (λ (h : List ℕ). at.1 ++ h ∷ []) ends.3 in
    let place : number ≡ length at.1 =
    last_number at.1 g number (subst (IsDistinct (pointwise nat_eq)) group so_far.distinct) (subst (λ (hs : List (List ℕ)). number < length hs) group there.0) (subst (λ (hs : List (List ℕ)). pointwise nat_eq g (get_or hs number []) ≡ true) group there.1) in
    let count = so_far.count in
    let len = ap length group in
    let one = length-append at.1 (g ∷ []) in
    (omega arith, sym long ∙ full, first_below)

-- ---- the groups of runs are those of their segments, in the order in which they come

abbrev parameters_of : Segment → List ℕ
parameters_of s = s.parameters

no_other : (g : List ℕ) (front : List (List ℕ)) (ss : List Segment) → list_any (pointwise nat_eq g) front ≡ true → AllByRecursion (IsOf g) ss → fold with_group front (map parameters_of ss) ≡ front
no_other g front [] has own = refl
no_other g front (s ∷ ss) has own =
    let kept : with_group front s.parameters ≡ front = ap (with_group front) own.0 ∙ ap (λ (b : Bool). if b then front else front ++ g ∷ []) has in
    ap (λ (hs : List (List ℕ)). fold with_group hs (map parameters_of ss)) kept ∙ no_other g front ss has own.1

has_last : (front : List (List ℕ)) (g : List ℕ) → list_any (pointwise nat_eq g) (front ++ g ∷ []) ≡ true
has_last front g = any_append (pointwise nat_eq g) front (g ∷ []) ∙ or_second (list_any (pointwise nat_eq g) front) (pointwise nat_eq g g || false) (or_first (pointwise nat_eq g g) false (itself g))

new_first : (g : List ℕ) (front : List (List ℕ)) (s : Segment) (ss : List Segment) → list_any (pointwise nat_eq g) front ≡ false → AllByRecursion (IsOf g) (s ∷ ss) → fold with_group front (map parameters_of (s ∷ ss)) ≡ front ++ g ∷ []
new_first g front s ss fresh own =
    let added : with_group front s.parameters ≡ front ++ g ∷ [] = ap (with_group front) own.0 ∙ ap (λ (b : Bool). if b then front else front ++ g ∷ []) fresh in
    ap (λ (hs : List (List ℕ)). fold with_group hs (map parameters_of ss)) added ∙ no_other g (front ++ g ∷ []) ss (has_last front g) own.1

new_run : (g : List ℕ) (front : List (List ℕ)) (full : List Segment) (last : Segment) → list_any (pointwise nat_eq g) front ≡ false → AllByRecursion (IsOf g) (full ++ last ∷ []) → fold with_group front (map parameters_of (full ++ last ∷ [])) ≡ front ++ g ∷ []
new_run g front [] last fresh own = new_first g front last [] fresh own
new_run g front (s ∷ full) last fresh own = new_first g front s (full ++ last ∷ []) fresh own

abbrev AreNew : List (List ℕ) → List (List ℕ) → Type 0
AreNew front gs = AllByRecursion (λ h. list_any (pointwise nat_eq h) front ≡ false) gs

still_new : (front : List (List ℕ)) (g : List ℕ) (gs : List (List ℕ)) → AllByRecursion (λ h. pointwise nat_eq g h ≡ false) gs → AreNew front gs → AreNew (front ++ g ∷ []) gs
still_new front g [] apart new = tt
still_new front g (h ∷ gs) apart new = (
  any_append (pointwise nat_eq h) front (g ∷ []) ∙ or_neither (list_any (pointwise nat_eq h) front) (pointwise nat_eq h g || false) new.0 (or_neither (pointwise nat_eq h g) false (nat_list_eq_equiv.symm h g ∙ apart.0) refl),
  still_new front g gs apart.1 new.1,
)

groups_of_runs : (front : List (List ℕ)) (gs : List (List ℕ)) (runs : List Run) → AreNew front gs → IsDistinct (pointwise nat_eq) gs → AreRunsOf gs runs → fold with_group front (map parameters_of (flat_map run_segments runs)) ≡ front ++ gs
groups_of_runs front [] [] new distinct of = sym (append-nil front)
groups_of_runs front [] (r ∷ runs) new distinct of = absurd of
groups_of_runs front (g ∷ gs) [] new distinct of = absurd of
groups_of_runs front (g ∷ gs) (r ∷ runs) new distinct of =
    let rest = flat_map run_segments runs in
    ap (fold with_group front) (map-append parameters_of (run_segments r) rest) ∙ fold-append with_group front (map parameters_of (run_segments r)) (map parameters_of rest)
    ∙ ap (λ (hs : List (List ℕ)). fold with_group hs (map parameters_of rest)) (new_run g front r.full r.last new.0 of.0.each)
    ∙ groups_of_runs (front ++ g ∷ []) gs runs (still_new front g gs (IsDistinct-head (pointwise nat_eq) g gs distinct) new.1) (IsDistinct-tail (pointwise nat_eq) g gs distinct) of.1 ∙ append_assoc front (g ∷ []) gs

none_yet : (gs : List (List ℕ)) → AreNew [] gs
none_yet [] = tt
none_yet (g ∷ gs) = (refl, none_yet gs)

same_groups : (gs : List (List ℕ)) (runs : List Run) (hs : List (List ℕ)) (others : List Run) → IsDistinct (pointwise nat_eq) gs → IsDistinct (pointwise nat_eq) hs → AreRunsOf gs runs → AreRunsOf hs others → flat_map run_segments runs ≡ flat_map run_segments others → gs ≡ hs
same_groups gs runs hs others dg dh of oh e =
    sym (groups_of_runs [] gs runs (none_yet gs) dg of) ∙ ap (λ (ss : List Segment). fold with_group [] (map parameters_of ss)) e ∙ groups_of_runs [] hs others (none_yet hs) dh oh

-- ---- groups that are all of them have their numbers in order

grown : (xs : List (List ℕ)) (y : List ℕ) (b : Bool) → (more : List (List ℕ)) × ((if b then xs else xs ++ y ∷ []) ≡ xs ++ more)
grown xs y true = ([], sym (append-nil xs))
grown xs y false = (y ∷ [], refl)

begins_with : (xs ys : List (List ℕ)) → (more : List (List ℕ)) × (fold with_group xs ys ≡ xs ++ more)
begins_with xs [] = ([], sym (append-nil xs))
begins_with xs (y ∷ ys) =
    let q = grown xs y (list_any (pointwise nat_eq y) xs) in
    let p = begins_with (with_group xs y) ys in
    (q.0 ++ p.0, p.1 ∙ ap (λ (l : List (List ℕ)). l ++ p.0) q.1 ∙ append_assoc xs q.0 p.0)

not_taken : (gs : List (List ℕ)) (n m : ℕ) → IsDistinct (pointwise nat_eq) gs → n ≤ m → m < length gs → list_any (pointwise nat_eq (get_or gs m [])) (take n gs) ≡ false
not_taken [] n m distinct le lt = absurd (omega (arith, lt))
not_taken (g ∷ gs) zero m distinct le lt = refl
not_taken (g ∷ gs) (suc n) zero distinct le lt = absurd (omega (arith, le))
not_taken (g ∷ gs) (suc n) (suc m) distinct le lt =
    let h = get_or gs m [] in
    let apart = each_at (λ (y : List ℕ). pointwise nat_eq g y ≡ false) gs m [] (IsDistinct-head (pointwise nat_eq) g gs distinct) (omega (arith, lt)) in
    or_neither (pointwise nat_eq h g) (list_any (pointwise nat_eq h) (take n gs)) (nat_list_eq_equiv.symm h g ∙ apart) (not_taken gs n m (IsDistinct-tail (pointwise nat_eq) g gs distinct) (omega (arith, le)) (omega (arith, lt)))

apart_at : (gs : List (List ℕ)) (n m : ℕ) → IsDistinct (pointwise nat_eq) gs → n < m → m < length gs → pointwise nat_eq (get_or gs n []) (get_or gs m []) ≡ false
apart_at [] n m distinct lt within = absurd (omega (arith, within))
apart_at (g ∷ gs) n zero distinct lt within = absurd (omega (arith, lt))
apart_at (g ∷ gs) zero (suc m) distinct lt within = each_at (λ (y : List ℕ). pointwise nat_eq g y ≡ false) gs m [] (IsDistinct-head (pointwise nat_eq) g gs distinct) (omega (arith, within))
apart_at (g ∷ gs) (suc n) (suc m) distinct lt within = apart_at gs n m (IsDistinct-tail (pointwise nat_eq) g gs distinct) (omega (arith, lt)) (omega (arith, within))

above : (m n : ℕ) → nat_lt m n ≡ false → (m == n) ≡ false → n < m
above m n e f = grind arith

-- one that comes too early is no group in order
too_early : (gs : List (List ℕ)) (n m : ℕ) (ms : List ℕ) → IsDistinct (pointwise nat_eq) gs → n < m → m < length gs → fold with_group (take n gs) (map (numbered_group gs) (m ∷ ms)) ≡ gs → ⊥
too_early gs n m ms distinct lt within e =
    let h = get_or gs m [] in
    let front = take n gs in
    let long : length front ≡ n = length-take-le n gs (omega (arith, lt, within)) in
    let added : with_group front h ≡ front ++ h ∷ [] = ap (λ (b : Bool). if b then front else front ++ h ∷ []) (not_taken gs n m distinct (omega (arith, lt)) within) in
    let p = begins_with (front ++ h ∷ []) (map (numbered_group gs) ms) in
    let whole : gs ≡ front ++ h ∷ p.0 = sym e ∙ ap (λ (hs : List (List ℕ)). fold with_group hs (map (numbered_group gs) ms)) added ∙ p.1 ∙ append_assoc front (h ∷ []) p.0 in
    let at : get_or gs n [] ≡ h = ap (λ (hs : List (List ℕ)). get_or hs n []) whole ∙ ap (λ (k : ℕ). get_or (front ++ h ∷ p.0) k []) (sym long) ∙ get_or-append_seam front h p.0 [] in
    let same : pointwise nat_eq (get_or gs n []) h ≡ true = ap (λ (x : List ℕ). pointwise nat_eq x h) at ∙ itself h in
    let apart = apart_at gs n m distinct lt within in
    cc

in_order : (gs : List (List ℕ)) → IsDistinct (pointwise nat_eq) gs → (n : ℕ) (ms : List ℕ) → n ≤ length gs → AllByRecursion (λ m. m < length gs) ms → fold with_group (take n gs) (map (numbered_group gs) ms) ≡ gs → count_in_order n ms ≡ Some (length gs)
in_order gs distinct n [] le within e = let len : n ≡ length gs = sym (length-take-le n gs le) ∙ ap length e in ap (λ (k : ℕ). Some k) len
in_order gs distinct n (m ∷ ms) le within e =
    let first = λ (b : Bool). if b then count_in_order n ms else (if m == n then count_in_order (n + 1) ms else None) in
    let second = λ (b : Bool). if b then count_in_order (n + 1) ms else None in
    let rest = λ (hs : List (List ℕ)). fold with_group hs (map (numbered_group gs) ms) in
    elim (cases_Bool (nat_lt m n)) [
      | inl is ↦ ap first is ∙ in_order gs distinct n ms le within.1 (sym (ap rest (known_group gs n m (ltb-true m n is) within.0)) ∙ e)
      | inr isnt ↦
          let other : second (m == n) ≡ Some (length gs) = elim (cases_Bool (m == n)) [
            | inl same ↦
                let at : m ≡ n = eqb-true m n same in
                let lt : n < length gs = subst (λ (k : ℕ). k < length gs) at within.0 in
                ap second same ∙ in_order gs distinct (n + 1) ms (omega (arith, lt)) within.1 (sym (ap rest (ap (λ (k : ℕ). with_group (take n gs) (get_or gs k [])) at ∙ next_group gs n distinct lt)) ∙ e)
            | inr apart ↦ absurd (too_early gs n m ms distinct (above m n isnt apart) within.0 e)
          ] in
          ap first isnt ∙ other
    ]

-- the rows of a set's segments have their groups in order
pub order_of_set : (segments : List Segment) (places : List RowPlace) (gs : List (List ℕ)) (numbers : List ℕ) → AllByRecursion IsSegment segments → AllByRecursion (IsRowPlace segments) places → IsPermutation (places_from 0 segments) places →
    IsStrictlySortedBy key_cmp (map (λ (p : RowPlace). p.key) places) → AreRuns segments gs numbers → AreSetSegments segments → count_in_order 0 (map (place_group numbers) places) ≡ Some (length gs)
order_of_set segments places gs numbers sound are same up runs set =
    let f = placed_row segments in
    let rows = map f places in
    let mixed = flat_map rows_of_segment segments in
    let ordered = rows_of_segments segments in
    let rises = rising_rows rows (subst (IsStrictlySortedBy key_cmp) (sym (placed_keys segments places)) up) in
    let turned : IsPermutation mixed rows = subst (λ (ts : List SetRow). IsPermutation ts rows) (rows_at_places segments) (IsPermutation-map f (places_from 0 segments) places same) in
    let again : rows ≡ ordered = permuted_is (λ (t : SetRow). t.key) rows ordered rises (rising_rows ordered set.rising) (IsPermutation-trans rows mixed ordered (IsPermutation-sym mixed rows turned) (order_same is_earlier mixed)) in
    let groups : groups_of rows ≡ gs = ap groups_of again ∙ same_groups (groups_of ordered) set.runs.0 gs runs.runs.0 (groups_distinct ordered) runs.distinct set.runs.1 runs.runs.1 (set.runs.2 ∙ sym runs.runs.2) in
    let len : length numbers ≡ length segments = sym (length-map numbers (numbered_group gs)) ∙ ap length runs.numbered ∙ length-map segments (λ s. s.parameters) in
    in_order gs runs.distinct 0 (map (place_group numbers) places) (omega arith) (groups_within segments gs numbers places len runs.within are)
    (sym (ap (fold with_group []) (placed_groups segments gs numbers places sound are runs.numbered)) ∙ groups)
