-- The segments of a set stand as runs: group by group, the keys of a group rising from its first segment to its last.
use Rattle.std.proofs.Common.{◌≡◌, ◌∙◌, ℕ, zero, suc, ◌+◌, ◌<◌, List, [], ◌∷◌, ◌++◌, length, map, get_or, true, false, refl, sym, ap, subst, arith}
use Rattle.std.specs.Prelude.{filter, flat_map, nat_eq}
use Rattle.std.specs.List.{AllByRecursion, IsDistinct}
use Rattle.std.specs.List.Sorted.{IsStrictlySortedBy}
use Rattle.std.specs.declared.cmp.Ordering.TheVariants.{Less}
use lib.Pointwise.{pointwise}
use Rattle.std.proofs.lemmas.List.{length-map, map-append, map_push}
use Rattle.std.proofs.lemmas.Map.Keys.{IsDistinct-head, IsDistinct-tail, sorted_head, sorted_tail}
use Rattle.arch_types.specs.declared.key.Key.{Key}
use Rattle.arch_types.specs.Order.{key_cmp}
use Rattle.segment_codec.specs.Segment.{most_rows}
use Rattle.segment_codec.specs.declared.segment.Segment.{Segment}
use Rattle.param_segments.specs.Groups.{cut_rows, group_segments, groups_of, is_of_group, row_pieces, segment_of, set_of}
use Rattle.param_segments.specs.Rows.{AreSetRows, SetRow}
use Rattle.param_segments.specs.Runs.{AreRunsOf, IsRunOf, Run, run_segments, segment_keys}
use Rattle.param_segments.proofs.Grouped.{groups_distinct, itself, rising_rows}
use Rattle.param_segments.proofs.Inverse.{flat, pieces_joined}
use Rattle.param_segments.proofs.KeyOrder.{keys_rise}
use Rattle.param_segments.proofs.Rereading.{full_pieces}
use Rattle.param_segments.proofs.Stored.{keep_rising}

-- ---- the run of a group

abbrev key_of : SetRow → Key
key_of row = row.key

-- the segments of a group's full pieces, and of its last
abbrev run_of : List SetRow → List ℕ → Run
run_of ts g = let p = cut_rows (filter (is_of_group g) ts) in record { full = map (segment_of g) p.full; last = segment_of g p.last }

own_parameters : (g : List ℕ) (ps : List (List SetRow)) → AllByRecursion (λ (s : Segment). s.parameters ≡ g) (map (segment_of g) ps)
own_parameters g [] = tt
own_parameters g (p ∷ ps) = (refl, own_parameters g ps)

long_keys : (g : List ℕ) (ps : List (List SetRow)) → AllByRecursion (λ q. length q ≡ 4096) ps → AllByRecursion (λ (s : Segment). length s.keys ≡ 4096) (map (segment_of g) ps)
long_keys g [] all = tt
long_keys g (p ∷ ps) all = (length-map p key_of ∙ all.0, long_keys g ps all.1)

keys_of_pieces : (g : List ℕ) (ps : List (List SetRow)) → segment_keys (map (segment_of g) ps) ≡ map key_of (flat ps)
keys_of_pieces g [] = refl
keys_of_pieces g (p ∷ ps) = ap (λ (ks : List Key). map key_of p ++ ks) (keys_of_pieces g ps) ∙ sym (map-append key_of p (flat ps))

same_segments : (ts : List SetRow) (g : List ℕ) → run_segments (run_of ts g) ≡ group_segments ts g
same_segments ts g = let p = cut_rows (filter (is_of_group g) ts) in sym (map_push (segment_of g) p.full p.last)

run_is : (ts : List SetRow) (g : List ℕ) → AreSetRows ts → IsRunOf g (run_of ts g)
run_is ts g are =
    let rows = filter (is_of_group g) ts in
    let ps = row_pieces rows in
    let keys : segment_keys (run_segments (run_of ts g)) ≡ map key_of rows = ap segment_keys (same_segments ts g) ∙ keys_of_pieces g ps ∙ ap (map key_of) (pieces_joined rows) in
    record {
      each = subst (AllByRecursion (λ (s : Segment). s.parameters ≡ g)) (sym (same_segments ts g)) (own_parameters g ps);
      full = long_keys g (cut_rows rows).full (full_pieces rows);
      rising = subst (IsStrictlySortedBy key_cmp) (sym keys) (keys_rise rows (keep_rising (is_of_group g) ts (rising_rows ts are.rising)));
    }

runs_are : (ts : List SetRow) (gs : List (List ℕ)) → AreSetRows ts → AreRunsOf gs (map (run_of ts) gs)
runs_are ts [] are = tt
runs_are ts (g ∷ gs) are = (run_is ts g are, runs_are ts gs are)

joined_runs : (ts : List SetRow) (gs : List (List ℕ)) → flat_map run_segments (map (run_of ts) gs) ≡ flat_map (group_segments ts) gs
joined_runs ts [] = refl
joined_runs ts (g ∷ gs) =
    ap (λ (ss : List Segment). ss ++ flat_map run_segments (map (run_of ts) gs)) (same_segments ts g) ∙ ap (λ (ss : List Segment). group_segments ts g ++ ss) (joined_runs ts gs)

-- the segments of a set are a run of each of its groups
pub set_has_runs : (ts : List SetRow) → AreSetRows ts → (runs : List Run) × AreRunsOf (groups_of ts) runs × (flat_map run_segments runs ≡ set_of ts)
set_has_runs ts are = (map (run_of ts) (groups_of ts), runs_are ts (groups_of ts) are, joined_runs ts (groups_of ts))

-- ---- neighbours

-- each key is before each other
abbrev pub AreBefore : List Key → List Key → Type 0
AreBefore keys others = AllByRecursion (λ k. AllByRecursion (λ (x : Key). key_cmp k x ≡ Less) others) keys

-- where two segments have the same parameters, the first is full, and its keys are before those of the second
abbrev pub InOrder : Segment → Segment → Type 0
InOrder s t = s.parameters ≡ t.parameters → (length s.keys ≡ most_rows) × AreBefore s.keys t.keys

-- each segment and the next are in order
abbrev pub AreLinked : List Segment → Type 0
AreLinked [] = Unit {0}
AreLinked (s ∷ []) = Unit {0}
AreLinked (s ∷ t ∷ ss) = InOrder s t × AreLinked (t ∷ ss)

pub front_of : {X : Type 0} (P : X → Type 0) (xs ys : List X) → AllByRecursion P (xs ++ ys) → AllByRecursion P xs
front_of P [] ys all = tt
front_of P (x ∷ xs) ys all = (all.0, front_of P xs ys all.1)

pub back_of : {X : Type 0} (P : X → Type 0) (xs ys : List X) → AllByRecursion P (xs ++ ys) → AllByRecursion P ys
back_of P [] ys all = all
back_of P (x ∷ xs) ys all = back_of P xs ys all.1

before_more : (keys others more : List Key) → IsStrictlySortedBy key_cmp (keys ++ (others ++ more)) → AreBefore keys others
before_more [] others more up = tt
before_more (k ∷ keys) others more up = (
  front_of (λ (x : Key). key_cmp k x ≡ Less) others more (back_of (λ (x : Key). key_cmp k x ≡ Less) keys (others ++ more) (sorted_head key_cmp k (keys ++ (others ++ more)) up)),
  before_more keys others more (sorted_tail key_cmp k (keys ++ (others ++ more)) up),
)

sorted_back : (keys others : List Key) → IsStrictlySortedBy key_cmp (keys ++ others) → IsStrictlySortedBy key_cmp others
sorted_back [] others up = up
sorted_back (k ∷ keys) others up = sorted_back keys others (sorted_tail key_cmp k (keys ++ others) up)

linked_run : (full : List Segment) (last : Segment) → AllByRecursion (λ (s : Segment). length s.keys ≡ most_rows) full → IsStrictlySortedBy key_cmp (segment_keys (full ++ last ∷ [])) → AreLinked (full ++ last ∷ [])
linked_run [] last all up = tt
linked_run (s ∷ []) last all up = (λ same. (all.0, before_more s.keys last.keys [] up), tt)
linked_run (s ∷ t ∷ full) last all up =
    (λ same. (all.0, before_more s.keys t.keys (segment_keys (full ++ last ∷ [])) up), linked_run (t ∷ full) last all.1 (sorted_back s.keys (segment_keys ((t ∷ full) ++ last ∷ [])) up))

-- the first segment is of another group
abbrev BeginsElse : List ℕ → List Segment → Type 0
BeginsElse g [] = Unit {0}
BeginsElse g (s ∷ ss) = pointwise nat_eq g s.parameters ≡ false

apart : (g h : List ℕ) → pointwise nat_eq g h ≡ false → g ≡ h → ⊥
apart g h other same = let e : pointwise nat_eq g h ≡ true = ap (λ (x : List ℕ). pointwise nat_eq g x) (sym same) ∙ itself g in cc

linked_more : (g : List ℕ) (ss us : List Segment) → AllByRecursion (λ (s : Segment). s.parameters ≡ g) ss → AreLinked ss → BeginsElse g us → AreLinked us → AreLinked (ss ++ us)
linked_more g [] us own linked else more = more
linked_more g (s ∷ []) [] own linked else more = tt
linked_more g (s ∷ []) (u ∷ us) own linked else more = (λ same. absurd (apart g u.parameters else (sym own.0 ∙ same)), more)
linked_more g (s ∷ t ∷ ss) us own linked else more = (linked.0, linked_more g (t ∷ ss) us own.1 linked.1 else more)

begins_cases : (g h : List ℕ) (full : List Segment) (last : Segment) (rest : List Segment) → pointwise nat_eq g h ≡ false → AllByRecursion (λ (s : Segment). s.parameters ≡ h) (full ++ last ∷ []) → BeginsElse g ((full ++ last ∷ []) ++ rest)
begins_cases g h [] last rest other own = ap (pointwise nat_eq g) own.0 ∙ other
begins_cases g h (s ∷ full) last rest other own = ap (pointwise nat_eq g) own.0 ∙ other

begins_else : (g : List ℕ) (hs : List (List ℕ)) (runs : List Run) → AllByRecursion (λ h. pointwise nat_eq g h ≡ false) hs → AreRunsOf hs runs → BeginsElse g (flat_map run_segments runs)
begins_else g [] [] others are = tt
begins_else g [] (r ∷ runs) others are = absurd are
begins_else g (h ∷ hs) [] others are = absurd are
begins_else g (h ∷ hs) (r ∷ runs) others are = begins_cases g h r.full r.last (flat_map run_segments runs) others.0 are.0.each

pub linked_runs : (gs : List (List ℕ)) (runs : List Run) → IsDistinct (pointwise nat_eq) gs → AreRunsOf gs runs → AreLinked (flat_map run_segments runs)
linked_runs [] [] distinct are = tt
linked_runs [] (r ∷ runs) distinct are = absurd are
linked_runs (g ∷ gs) [] distinct are = absurd are
linked_runs (g ∷ gs) (r ∷ runs) distinct are =
    linked_more g (run_segments r) (flat_map run_segments runs) are.0.each (linked_run r.full r.last are.0.full are.0.rising) (begins_else g gs runs (IsDistinct-head (pointwise nat_eq) g gs distinct) are.1)
    (linked_runs gs runs (IsDistinct-tail (pointwise nat_eq) g gs distinct) are.1)

linked_at : (ss : List Segment) (i : ℕ) (d : Segment) → AreLinked ss → i + 1 < length ss → InOrder (get_or ss i d) (get_or ss (i + 1) d)
linked_at [] i d linked lt = absurd (omega (arith, lt))
linked_at (s ∷ []) i d linked lt = absurd (omega (arith, lt))
linked_at (s ∷ t ∷ ss) zero d linked lt = linked.0
linked_at (s ∷ t ∷ ss) (suc i) d linked lt =
    let next : suc i + 1 ≡ suc (i + 1) = omega arith in
    subst (λ (j : ℕ). InOrder (get_or (t ∷ ss) i d) (get_or (s ∷ t ∷ ss) j d)) (sym next) (linked_at (t ∷ ss) i d linked.1 (omega (arith, lt)))

-- of two segments of a set that follow one another and have the same parameters, the first has its keys before those of the second
pub neighbours_in_order : (ts : List SetRow) (i : ℕ) (d : Segment) → AreSetRows ts → i + 1 < length (set_of ts) → InOrder (get_or (set_of ts) i d) (get_or (set_of ts) (i + 1) d)
neighbours_in_order ts i d are lt =
    let r = set_has_runs ts are in
    linked_at (set_of ts) i d (subst AreLinked r.2 (linked_runs (groups_of ts) r.0 (groups_distinct ts) r.1)) lt
