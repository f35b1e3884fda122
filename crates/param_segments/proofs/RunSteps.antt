-- One more segment behind others that stand group by group.
use Rattle.std.proofs.Common.{◌≡◌, ◌∙◌, ℕ, zero, suc, ◌+◌, ◌<◌, ◌≤◌, List, [], ◌∷◌, ◌++◌, length, map, drop, get_or, append_assoc, append-nil, length-append, Bool, true, false, Some, None, inl, inr, refl, sym, ap, subst, arith}
use Rattle.std.specs.Prelude.{◌==◌, flat_map, nat_eq, nat_lt, if◌then◌else◌}
use Rattle.std.specs.Cmp.Lexicographic.{same_text}
use Rattle.std.specs.List.{AllByRecursion, IsDistinct, position}
use Rattle.std.specs.List.Sorted.{IsStrictlySortedBy}
use Rattle.std.specs.declared.cmp.Ordering.TheVariants.{Less}
use lib.Pointwise.{pointwise}
use Rattle.std.proofs.lemmas.Bool.{cases_Bool, eqb-true, le-ltb, lt-ltb}
use Rattle.std.proofs.lemmas.Cmp.{nat_list_eq_equiv}
use Rattle.std.proofs.lemmas.List.{length-map, map_push}
use Rattle.std.proofs.lemmas.List.Concat.{flat_map-append}
use Rattle.std.proofs.lemmas.List.Quantifiers.{position-Some}
use Rattle.std.proofs.lemmas.Map.Keys.{IsDistinct-push}
use Rattle.arch_types.specs.declared.key.Key.{Key}
use Rattle.arch_types.specs.Order.{key_cmp}
use Rattle.arch_types.proofs.Ranks.{key_cmp_total}
use Rattle.mdb_items.proofs.Places.{absent}
use Rattle.segment_codec.specs.Segment.{IsSegment, most_rows}
use Rattle.segment_codec.specs.declared.segment.Segment.{Segment}
use Rattle.param_segments.specs.RowPlaces.{RowPlace}
use Rattle.param_segments.specs.declared.key_place.KeyPlace.{KeyPlace}
use Rattle.param_segments.specs.declared.runs.Runs.{Runs}
use Rattle.param_segments.specs.RowPlaces.{IsRowPlace}
use Rattle.param_segments.specs.Runs.{AreRuns, AreRunsOf, AreRunsSoFar, EndWith, IsLast, IsRunOf, Run, count_in_order, key_group, numbered_group, run_segments, segment_keys}
use Rattle.param_segments.proofs.Known.{put_last}
use Rattle.param_segments.proofs.Placed.{next_dropped}

-- ---- keys that rise on

above_all : (k x : Key) (rest : List Key) → key_cmp k x ≡ Less → AllByRecursion (λ y. key_cmp x y ≡ Less) rest → AllByRecursion (λ y. key_cmp k y ≡ Less) rest
above_all k x [] less all = tt
above_all k x (y ∷ ys) less all = (key_cmp_total.trans k x y less all.0, above_all k x ys less all.1)

first_above : (k : Key) (xs : List Key) (x : Key) (ys : List Key) → AllByRecursion (λ y. key_cmp k y ≡ Less) (xs ++ x ∷ []) → IsStrictlySortedBy key_cmp ((xs ++ x ∷ []) ++ ys) → AllByRecursion (λ y. key_cmp k y ≡ Less) ((xs ++ x ∷ []) ++ ys)
unfolding IsStrictlySortedBy
first_above k [] x ys all up = (all.0, above_all k x ys all.0 up.0)
first_above k (w ∷ ws) x ys all up = (all.0, above_all k w ((ws ++ x ∷ []) ++ ys) all.0 up.0)

rises_on : (xs : List Key) (x y : Key) (ys : List Key) → IsStrictlySortedBy key_cmp (xs ++ x ∷ []) → IsStrictlySortedBy key_cmp (y ∷ ys) → key_cmp x y ≡ Less → IsStrictlySortedBy key_cmp ((xs ++ x ∷ []) ++ y ∷ ys)
unfolding IsStrictlySortedBy
rises_on [] x y ys up rises less = ((less, above_all x y ys less rises.0), rises)
rises_on (w ∷ ws) x y ys up rises less = let rest = rises_on ws x y ys up.1 rises less in (first_above w ws x (y ∷ ys) up.0 rest, rest)

-- ---- a new group

snoc_runs : (gs : List (List ℕ)) (runs : List Run) (g : List ℕ) (r : Run) → AreRunsOf gs runs → IsRunOf g r → AreRunsOf (gs ++ g ∷ []) (runs ++ r ∷ [])
snoc_runs [] [] g r of is = (is, tt)
snoc_runs [] (q ∷ runs) g r of is = absurd of
snoc_runs (h ∷ gs) [] g r of is = absurd of
snoc_runs (h ∷ gs) (q ∷ runs) g r of is = (of.0, snoc_runs gs runs g r of.1 is)

ends_new : (runs : List Run) (r : Run) (rows : ℕ) (last : Key) → length r.last.keys ≡ rows → IsLast (segment_keys (run_segments r)) last → EndWith (runs ++ r ∷ []) rows last
ends_new [] r rows last len is = (len, is)
ends_new (q ∷ []) r rows last len is = (len, is)
ends_new (q ∷ p ∷ runs) r rows last len is = ends_new (p ∷ runs) r rows last len is

alone : Segment → Run
alone s = record { full = []; last = s }

alone_is : (s : Segment) → IsSegment s → IsRunOf s.parameters (alone s)
unfolding alone
alone_is s is = record { each = (refl, tt); full = tt; rising = subst (IsStrictlySortedBy key_cmp) (sym (append-nil s.keys)) is.rising }

at_end : (gs : List (List ℕ)) (g : List ℕ) → get_or (gs ++ g ∷ []) (length gs) [] ≡ g
at_end [] g = refl
at_end (h ∷ gs) g = at_end gs g

before_end : (gs : List (List ℕ)) (g : List ℕ) (n : ℕ) → n < length gs → get_or (gs ++ g ∷ []) n [] ≡ get_or gs n []
before_end [] g n lt = absurd (omega arith)
before_end (h ∷ gs) g zero lt = refl
before_end (h ∷ gs) g (suc n) lt = before_end gs g n (omega arith)

still_numbered : (gs : List (List ℕ)) (g : List ℕ) (ns : List ℕ) → AllByRecursion (λ n. n < length gs) ns → map (numbered_group (gs ++ g ∷ [])) ns ≡ map (numbered_group gs) ns
still_numbered gs g [] all = refl
still_numbered gs g (n ∷ ns) all = ap (λ (h : List ℕ). h ∷ map (numbered_group (gs ++ g ∷ [])) ns) (before_end gs g n all.0) ∙ ap (λ (hs : List (List ℕ)). get_or gs n [] ∷ hs) (still_numbered gs g ns all.1)

weaker_bound : (k m : ℕ) (ns : List ℕ) → k ≤ m → AllByRecursion (λ n. n < k) ns → AllByRecursion (λ n. n < m) ns
weaker_bound k m [] le all = tt
weaker_bound k m (n ∷ ns) le all = let lt = all.0 in (omega (arith, lt, le), weaker_bound k m ns le all.1)

pub group_more : (before : List Segment) (s : Segment) (old new : Runs) → IsSegment s → position (pointwise nat_eq s.parameters) old.groups ≡ None → new.groups ≡ old.groups ++ s.parameters ∷ [] → new.count ≡ old.count + 1 →
    new.numbers.items ≡ old.numbers.items ++ old.count ∷ [] → new.rows ≡ length s.keys → IsLast s.keys new.last → AreRunsSoFar before old → AreRunsSoFar (before ++ s ∷ []) new
unfolding alone
group_more before s old new is fresh groups count numbers rows last so_far =
    let g = s.parameters in
    let runs = so_far.runs.0 in
    let longer = length-append old.groups (g ∷ []) in
    let len : length new.groups ≡ length old.groups + 1 = omega (arith, longer, ap length groups) in
    let new_number : old.count ≡ length old.groups = so_far.count in
    let named : map (numbered_group (old.groups ++ g ∷ [])) (old.numbers.items ++ old.count ∷ []) ≡ map (λ (x : Segment). x.parameters) (before ++ s ∷ []) =
    map_push (numbered_group (old.groups ++ g ∷ [])) old.numbers.items old.count
    ∙ ap (λ (hs : List (List ℕ)). hs ++ numbered_group (old.groups ++ g ∷ []) old.count ∷ []) (still_numbered old.groups g old.numbers.items so_far.within ∙ so_far.numbered)
    ∙ ap (λ (h : List ℕ). map (λ (x : Segment). x.parameters) before ++ h ∷ []) (ap (numbered_group (old.groups ++ g ∷ [])) new_number ∙ at_end old.groups g)
    ∙ sym (map_push (λ (x : Segment). x.parameters) before s) in
    record {
      count = omega (arith, count, len, new_number);
      distinct = subst (IsDistinct (pointwise nat_eq)) (sym groups) (IsDistinct-push nat_list_eq_equiv old.groups g so_far.distinct (absent (pointwise nat_eq g) old.groups fresh));
      runs = (
        runs ++ alone s ∷ [],
        subst (λ (hs : List (List ℕ)). AreRunsOf hs (runs ++ alone s ∷ [])) (sym groups) (snoc_runs old.groups runs g (alone s) so_far.runs.1 (alone_is s is)),
        flat_map-append run_segments runs (alone s ∷ []) ∙ ap (λ (ss : List Segment). ss ++ s ∷ []) so_far.runs.2,
        ends_new runs (alone s) new.rows new.last (sym rows) (last.0, append-nil s.keys ∙ last.1),
      );
      within = subst (AllByRecursion (λ n. n < length new.groups)) (sym numbers)
          (put_last (λ (n : ℕ). n < length new.groups) old.numbers.items old.count (weaker_bound (length old.groups) (length new.groups) old.numbers.items (omega (arith, len)) so_far.within) (omega (arith, len, new_number)));
      numbered = ap (λ (hs : List (List ℕ)). map (numbered_group hs) new.numbers.items) groups ∙ ap (map (numbered_group (old.groups ++ g ∷ []))) numbers ∙ named;
    }

-- ---- one more of the last group

longer_run : Run → Segment → Run
longer_run r s = record { full = r.full ++ r.last ∷ []; last = s }

longer_is : (g : List ℕ) (r : Run) (s : Segment) (last first : Key) (rest : List Key) → IsRunOf g r → IsSegment s → s.parameters ≡ g → length r.last.keys ≡ most_rows → IsLast (segment_keys (run_segments r)) last → s.keys ≡ first ∷ rest →
    key_cmp last first ≡ Less → IsRunOf g (longer_run r s)
unfolding longer_run
longer_is g r s last first rest run is own full ends begins less =
    let before = segment_keys (run_segments r) in
    let keys : segment_keys (run_segments r ++ s ∷ []) ≡ (ends.0 ++ last ∷ []) ++ first ∷ rest =
    flat_map-append (λ (x : Segment). x.keys) (run_segments r) (s ∷ []) ∙ ap (λ (ks : List Key). before ++ ks) (append-nil s.keys)
    ∙ ap (λ (ks : List Key). ks ++ s.keys) ends.1 ∙ ap (λ (ks : List Key). (ends.0 ++ last ∷ []) ++ ks) begins in
    record {
      each = put_last (λ (x : Segment). x.parameters ≡ g) (run_segments r) s run.each own;
      full = put_last (λ (x : Segment). length x.keys ≡ most_rows) r.full r.last run.full full;
      rising = subst (IsStrictlySortedBy key_cmp) (sym keys) (rises_on ends.0 last first rest (subst (IsStrictlySortedBy key_cmp) ends.1 run.rising) (subst (IsStrictlySortedBy key_cmp) begins is.rising) less);
    }

longer_ends : (r : Run) (s : Segment) (k : Key) → IsLast s.keys k → IsLast (segment_keys (run_segments (longer_run r s))) k
unfolding longer_run
longer_ends r s k ends = (
  segment_keys (run_segments r) ++ ends.0,
  flat_map-append (λ (x : Segment). x.keys) (run_segments r) (s ∷ []) ∙ ap (λ (ks : List Key). segment_keys (run_segments r) ++ ks) (append-nil s.keys ∙ ends.1) ∙ sym (append_assoc (segment_keys (run_segments r)) ends.0 (k ∷ [])),
)

abbrev Extended : List (List ℕ) → List Run → Segment → Key → Type 0
Extended gs runs s k = (more : List Run) × AreRunsOf gs more × (flat_map run_segments more ≡ flat_map run_segments runs ++ s ∷ []) × EndWith more (length s.keys) k

ends_cons : (g : List ℕ) (gs : List (List ℕ)) (r : Run) (runs : List Run) (rows : ℕ) (k : Key) → AreRunsOf (g ∷ gs) runs → EndWith runs rows k → EndWith (r ∷ runs) rows k
ends_cons g gs r [] rows k of e = absurd of
ends_cons g gs r (q ∷ runs) rows k of e = e

extended : (gs : List (List ℕ)) (runs : List Run) (n rows : ℕ) (s : Segment) (last first k : Key) (rest : List Key) → suc n ≡ length gs → s.parameters ≡ get_or gs n [] → rows ≡ most_rows → IsSegment s → s.keys ≡ first ∷ rest → key_cmp last first ≡ Less →
    IsLast s.keys k → AreRunsOf gs runs → EndWith runs rows last → Extended gs runs s k
unfolding longer_run
extended [] runs n rows s last first k rest len own full is begins less ends of so = absurd (omega (arith, len))
extended (g ∷ gs) [] n rows s last first k rest len own full is begins less ends of so = absurd of
extended (g ∷ []) (r ∷ []) zero rows s last first k rest len own full is begins less ends of so = (
  longer_run r s ∷ [],
  (longer_is g r s last first rest of.0 is own (so.0 ∙ full) so.1 begins less, tt),
  append-nil (run_segments r ++ s ∷ []) ∙ ap (λ (ss : List Segment). ss ++ s ∷ []) (sym (append-nil (run_segments r))),
  (refl, longer_ends r s k ends),
)
extended (g ∷ []) (r ∷ []) (suc n) rows s last first k rest len own full is begins less ends of so = absurd (omega (arith, len))
extended (g ∷ []) (r ∷ q ∷ runs) n rows s last first k rest len own full is begins less ends of so = absurd of.1
extended (g ∷ h ∷ gs) (r ∷ []) n rows s last first k rest len own full is begins less ends of so = absurd of.1
extended (g ∷ h ∷ gs) (r ∷ q ∷ runs) zero rows s last first k rest len own full is begins less ends of so = absurd (omega (arith, len))
extended (g ∷ h ∷ gs) (r ∷ q ∷ runs) (suc n) rows s last first k rest len own full is begins less ends of so =
    let more = extended (h ∷ gs) (q ∷ runs) n rows s last first k rest (omega (arith, len)) own full is begins less ends of.1 so in (
      r ∷ more.0,
      (of.0, more.1),
      ap (λ (ss : List Segment). run_segments r ++ ss) more.2 ∙ sym (append_assoc (run_segments r) (flat_map run_segments (q ∷ runs)) (s ∷ [])),
      ends_cons h gs r more.0 (length s.keys) k more.1 more.3,
    )

pub run_more : (before : List Segment) (s : Segment) (old new : Runs) (number : ℕ) (first : Key) (rest : List Key) → IsSegment s → position (pointwise nat_eq s.parameters) old.groups ≡ Some number → number + 1 ≡ old.count → old.rows ≡ most_rows →
    s.keys ≡ first ∷ rest → key_cmp old.last first ≡ Less → new.groups ≡ old.groups → new.count ≡ old.count → new.numbers.items ≡ old.numbers.items ++ number ∷ [] → new.rows ≡ length s.keys → IsLast s.keys new.last → AreRunsSoFar before old →
    AreRunsSoFar (before ++ s ∷ []) new
run_more before s old new number first rest is found at full begins less groups count numbers rows last so_far =
    let g = s.parameters in
    let there = position-Some (pointwise nat_eq g) old.groups number [] found in
    let own : g ≡ get_or old.groups number [] = same_text g (get_or old.groups number []) (sym there.1) in
    let len : suc number ≡ length old.groups = omega (arith, at, so_far.count) in
    let more = extended old.groups so_far.runs.0 number old.rows s old.last first new.last rest len own full is begins less last so_far.runs.1 so_far.runs.3 in
    let P : ℕ → Type 0 = λ n. n < length old.groups in
    let named : map (numbered_group old.groups) (old.numbers.items ++ number ∷ []) ≡ map (λ (x : Segment). x.parameters) (before ++ s ∷ []) =
    map_push (numbered_group old.groups) old.numbers.items number ∙ ap (λ (hs : List (List ℕ)). hs ++ get_or old.groups number [] ∷ []) so_far.numbered
    ∙ ap (λ (h : List ℕ). map (λ (x : Segment). x.parameters) before ++ h ∷ []) (sym own) ∙ sym (map_push (λ (x : Segment). x.parameters) before s) in
    record {
      count = count ∙ so_far.count ∙ ap length (sym groups);
      distinct = subst (IsDistinct (pointwise nat_eq)) (sym groups) so_far.distinct;
      runs = (
        more.0,
        subst (λ (hs : List (List ℕ)). AreRunsOf hs more.0) (sym groups) more.1,
        more.2 ∙ ap (λ (ss : List Segment). ss ++ s ∷ []) so_far.runs.2,
        subst (λ (n : ℕ). EndWith more.0 n new.last) (sym rows) more.3,
      );
      within = subst (λ (hs : List (List ℕ)). AllByRecursion (λ n. n < length hs) new.numbers.items) (sym groups)
          (subst (AllByRecursion P) (sym numbers) (put_last P old.numbers.items number so_far.within there.0));
      numbered = ap (λ (hs : List (List ℕ)). map (numbered_group hs) new.numbers.items) groups ∙ ap (map (numbered_group old.groups)) numbers ∙ named;
    }

pub no_runs : (r : Runs) → r.groups ≡ [] → r.count ≡ 0 → r.numbers.items ≡ [] → AreRunsSoFar [] r
unfolding IsDistinct
no_runs r groups count numbers = record {
  count = count ∙ ap length (sym groups);
  distinct = subst (IsDistinct (pointwise nat_eq)) (sym groups) tt;
  runs = ([], subst (λ (hs : List (List ℕ)). AreRunsOf hs []) (sym groups) tt, refl, tt);
  within = subst (AllByRecursion (λ n. n < length r.groups)) (sym numbers) tt;
  numbered = ap (map (numbered_group r.groups)) numbers;
}

-- all of them are runs
pub runs_are : (segments : List Segment) (r : Runs) → AreRunsSoFar segments r → AreRuns segments r.groups r.numbers.items
runs_are segments r are = record { distinct = are.distinct; runs = (are.runs.0, are.runs.1, are.runs.2); within = are.within; numbered = are.numbered }

-- ---- places, one after the other

abbrev numbers_at : List ℕ → List KeyPlace → List ℕ
numbers_at numbers places = map (key_group numbers) places

one_number : (seen n : ℕ) (ns : List ℕ) → n ≤ seen → count_in_order (if n == seen then seen + 1 else seen) ns ≡ count_in_order seen (n ∷ ns)
one_number seen n ns le =
    let first = λ (b : Bool). if b then count_in_order seen ns else (if n == seen then count_in_order (seen + 1) ns else None) in
    elim (cases_Bool (n == seen)) [
      | inl same ↦
          let at : n ≡ seen = eqb-true n seen same in
          let not_less : nat_lt n seen ≡ false = le-ltb n seen (omega (arith, at)) in
          ap (λ (b : Bool). count_in_order (if b then seen + 1 else seen) ns) same ∙ sym (ap first not_less ∙ ap (λ (b : Bool). if b then count_in_order (seen + 1) ns else None) same)
      | inr apart ↦
          let less : nat_lt n seen ≡ true = lt-ltb n seen (below n seen le apart) in
          ap (λ (b : Bool). count_in_order (if b then seen + 1 else seen) ns) apart ∙ sym (ap first less)
    ]
  where
    below : (n seen : ℕ) → n ≤ seen → (n == seen) ≡ false → n < seen
    below n seen le f = grind arith

not_same : (n seen : ℕ) → seen < n → (n == seen) ≡ false
not_same n seen lt = grind arith

-- a number that comes too early
pub too_high : (seen n : ℕ) (ns : List ℕ) → seen < n → count_in_order seen (n ∷ ns) ≡ None
too_high seen n ns lt =
    let not_less : nat_lt n seen ≡ false = le-ltb n seen (omega (arith, lt)) in
    ap (λ (b : Bool). if b then count_in_order seen ns else (if n == seen then count_in_order (seen + 1) ns else None)) not_less ∙ ap (λ (b : Bool). if b then count_in_order (seen + 1) ns else None) (not_same n seen lt)

pub next_number : (numbers : List ℕ) (places : List KeyPlace) (i seen : ℕ) (p : KeyPlace) → i < length places → p ≡ get_or places i p → key_group numbers p ≤ seen →
    count_in_order (if key_group numbers p == seen then seen + 1 else seen) (numbers_at numbers (drop (i + 1) places)) ≡ count_in_order seen (numbers_at numbers (drop i places))
next_number numbers places i seen p lt is le =
    one_number seen (key_group numbers p) (numbers_at numbers (drop (i + 1) places)) le ∙ ap (λ (ps : List KeyPlace). count_in_order seen (numbers_at numbers ps)) (sym (next_dropped places i p lt is))

pub places_numbered : (segments : List Segment) (numbers : List ℕ) (places : List RowPlace) → length numbers ≡ length segments → AllByRecursion (IsRowPlace segments) places → AllByRecursion (λ p. p.segment < length numbers) places
places_numbered segments numbers [] len all = tt
places_numbered segments numbers (p ∷ ps) len all = let lt = all.0.segment in (omega (arith, lt, len), places_numbered segments numbers ps len all.1)

-- each segment has a number
pub numbers_len : (segments : List Segment) (r : Runs) → AreRunsSoFar segments r → length r.numbers.items ≡ length segments
numbers_len segments r are = sym (length-map r.numbers.items (numbered_group r.groups)) ∙ ap length are.numbered ∙ length-map segments (λ s. s.parameters)
