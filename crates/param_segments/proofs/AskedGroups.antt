-- Segments are read in a direction, each asked for what its group still wants: of what stays behind, none is wanted.
use Rattle.std.proofs.Common.{◌≡◌, ◌∙◌, ℕ, pos, ◌+◌, ◌<◌, ◌≤◌, ℤ, List, [], ◌∷◌, ◌++◌, length, map, take, get_or, add-one, true, Option, Some, None, inl, inr, refl, sym, ap, subst, append-nil, length-append, arith}
use Rattle.std.specs.Prelude.{◌-◌, ◌==◌, flat_map, option_map}
use Rattle.std.specs.List.{AllByRecursion, position}
use Rattle.std.specs.List.Sorted.{IsPermutation, IsStrictlySortedBy}
use Rattle.std.specs.Ordering.{is_lt}
use Rattle.std.specs.declared.cmp.Ordering.{Ordering}
use Rattle.std.specs.declared.cmp.Ordering.TheVariants.{Less}
use Rattle.std.proofs.Math.Seq.{take-suc}
use Rattle.std.proofs.lemmas.List.{get_or-reverse, length-take}
use Rattle.std.proofs.lemmas.List.Concat.{flat_map-append}
use Rattle.std.proofs.lemmas.List.Sorted.{IsPermutation-append_right, IsPermutation-sym}
use Rattle.arch_types.specs.Directions.{in_direction}
use Rattle.arch_types.specs.Order.{key_cmp}
use Rattle.arch_types.specs.declared.direction.Direction.{Direction}
use Rattle.arch_types.specs.declared.direction.Direction.TheVariants.{Ascending, Descending}
use Rattle.arch_types.specs.declared.key.Key.{Key}
use Rattle.segment_codec.specs.OneColumn.{column_there}
use Rattle.segment_codec.specs.RangeColumn.{first_in}
use Rattle.segment_codec.specs.Segment.{IsSegment}
use Rattle.segment_codec.specs.declared.segment.Segment.{Segment}
use Rattle.param_segments.specs.CellRange.{GoesOn, IsAskedOf, is_raw_cell_in_range, segment_of_step, segment_cells_in_range}
use Rattle.param_segments.specs.Cells.{cells_from, column_cells, segment_cells}
use Rattle.param_segments.specs.Groups.{set_of}
use Rattle.param_segments.specs.Rows.{AreSetRows, SetRow}
use Rattle.param_segments.specs.declared.raw_cell.RawCell.{RawCell}
use Rattle.param_segments.proofs.AskedCells.{all_directed, all_filter, all_take}
use Rattle.param_segments.proofs.DirectedCells.{directed_long, directed_same, is_first, ranked, rises}
use Rattle.param_segments.proofs.FirstItems.{HasEnough, before, below, enough_more, enough_moved, same_before, wanted_less}
use Rattle.param_segments.proofs.NumberedSegments.{all_get}
use Rattle.param_segments.proofs.RangeCells.{each_rises}
use Rattle.param_segments.proofs.SetRuns.{AreBefore, neighbours_in_order}
use Rattle.param_segments.proofs.Starts.{no_segment}
use Rattle.param_segments.proofs.Stored.{set_is_segments}

-- ---- lists

module _ {X : Type 0} where
  each_so : (P Q : X → Type 0) → ((x : X) → P x → Q x) → (xs : List X) → AllByRecursion P xs → AllByRecursion Q xs
  each_so P Q so [] all = tt
  each_so P Q so (x ∷ xs) all = (so x all.0, each_so P Q so xs all.1)

  all_so : (P : X → Type 0) → ((x : X) → P x) → (xs : List X) → AllByRecursion P xs
  all_so P so [] = tt
  all_so P so (x ∷ xs) = (so x, all_so P so xs)

module _ {X Y : Type 0} (R : X → Y → Type 0) where
  first_of_all : (xs : List X) (y : Y) (ys : List Y) → AllByRecursion (λ x. AllByRecursion (R x) (y ∷ ys)) xs → AllByRecursion (λ x. R x y) xs
  first_of_all [] y ys all = tt
  first_of_all (x ∷ xs) y ys all = (all.0.0, first_of_all xs y ys all.1)

  rest_of_all : (xs : List X) (y : Y) (ys : List Y) → AllByRecursion (λ x. AllByRecursion (R x) (y ∷ ys)) xs → AllByRecursion (λ x. AllByRecursion (R x) ys) xs
  rest_of_all [] y ys all = tt
  rest_of_all (x ∷ xs) y ys all = (all.0.1, rest_of_all xs y ys all.1)

  swapped : (xs : List X) (ys : List Y) → AllByRecursion (λ x. AllByRecursion (R x) ys) xs → AllByRecursion (λ y. AllByRecursion (λ x. R x y) xs) ys
  swapped xs [] all = tt
  swapped xs (y ∷ ys) all = (first_of_all xs y ys all, swapped xs ys (rest_of_all xs y ys all))

-- ---- the keys of a segment

from_keep : (P : Key → Type 0) (keys : List Key) (values : List ℤ) → AllByRecursion P keys → AllByRecursion (λ c. P c.key) (cells_from keys values)
from_keep P [] values all = tt
from_keep P (k ∷ keys) [] all = tt
from_keep P (k ∷ keys) (v ∷ values) all = (all.0, from_keep P keys values all.1)

place_keep : (P : Key → Type 0) (s : Segment) (o : Option ℕ) → AllByRecursion P s.keys → AllByRecursion (λ c. P c.key) (column_cells (option_map (column_there s) o))
place_keep P s None all = tt
place_keep P s (Some j) all = from_keep P s.keys (column_there s j).values all

-- what holds of a segment's keys holds of those of its cells
cells_keep : (P : Key → Type 0) (direction : Direction) (q : ℕ) (low high : ℤ) (s : Segment) → AllByRecursion P s.keys → AllByRecursion (λ c. P c.key) (in_direction direction (segment_cells_in_range q low high s))
cells_keep P direction q low high s all =
    let Q : RawCell → Type 0 = λ c. P c.key in
    all_directed Q direction (segment_cells_in_range q low high s) (all_filter Q (is_raw_cell_in_range low high) (segment_cells q s) (place_keep P s (position (λ p. p == q) s.parameters) all))

-- ---- a segment and the next

less_is : (o : Ordering) → o ≡ Less → is_lt o ≡ true
less_is Less e = refl
less_is _ e = absurd cc

abbrev AllFirst : Direction → List Key → List Key → Type 0
AllFirst direction keys others = AllByRecursion (λ k. AllByRecursion (λ l. is_first direction k l ≡ true) others) keys

ascending_first : (keys others : List Key) → AreBefore keys others → AllFirst Ascending keys others
ascending_first keys others all =
    each_so (λ k. AllByRecursion (λ (x : Key). key_cmp k x ≡ Less) others) (λ k. AllByRecursion (λ l. is_first Ascending k l ≡ true) others)
    (λ k more. each_so (λ (x : Key). key_cmp k x ≡ Less) (λ l. is_first Ascending k l ≡ true) (λ l e. less_is (key_cmp k l) e) others more) keys all

descending_first : (keys others : List Key) → AreBefore keys others → AllFirst Descending others keys
descending_first keys others all = swapped (λ k l. is_lt (key_cmp k l) ≡ true) keys others (ascending_first keys others all)

-- a segment's keys come first in a direction where it and the next have the same parameters
in_order : (direction : Direction) (ts : List SetRow) (step : ℕ) → AreSetRows ts → step + 1 < length (set_of ts) → (segment_of_step direction (set_of ts) step).parameters ≡ (segment_of_step direction (set_of ts) (step + 1)).parameters →
    AllFirst direction (segment_of_step direction (set_of ts) step).keys (segment_of_step direction (set_of ts) (step + 1)).keys
in_order Ascending ts step are lt same = ascending_first (segment_of_step Ascending (set_of ts) step).keys (segment_of_step Ascending (set_of ts) (step + 1)).keys (neighbours_in_order ts step no_segment are lt same).1
in_order Descending ts step are lt same =
    let ss = set_of ts in
    let i = length ss - 1 - (step + 1) in
    let next : length ss - 1 - step ≡ i + 1 = omega (arith, lt) in
    let inside : i + 1 < length ss = omega (arith, lt) in
    let here : segment_of_step Descending ss step ≡ get_or ss (i + 1) no_segment = get_or-reverse ss step no_segment (omega (arith, lt)) ∙ ap (λ (k : ℕ). get_or ss k no_segment) next in
    let there : segment_of_step Descending ss (step + 1) ≡ get_or ss i no_segment = get_or-reverse ss (step + 1) no_segment lt in
    let equal : (get_or ss i no_segment).parameters ≡ (get_or ss (i + 1) no_segment).parameters = sym (ap (λ (s : Segment). s.parameters) there) ∙ sym same ∙ ap (λ (s : Segment). s.parameters) here in
    let first = descending_first (get_or ss i no_segment).keys (get_or ss (i + 1) no_segment).keys (neighbours_in_order ts i no_segment are inside equal).1 in
    subst (λ (s : Segment). AllFirst Descending s.keys (segment_of_step Descending ss (step + 1)).keys) (sym here)
    (subst (λ (s : Segment). AllFirst Descending (get_or ss (i + 1) no_segment).keys s.keys) (sym there) first)

-- ---- what a group wants

abbrev at : Key → RawCell
at k = record { key = k; raw = pos 0 }

-- so many cells and those gathered before a key are enough
abbrev Suffices : Direction → ℕ → ℕ → List RawCell → Key → Type 0
Suffices direction limit asked cells k = limit ≤ asked + before (ranked direction) (at k) cells

abbrev Wants : Direction → ℕ → ℕ → List RawCell → Segment → Type 0
Wants direction limit asked cells s = AllByRecursion (Suffices direction limit asked cells) s.keys

-- what is wanted suffices where the next segment goes on with the group
abbrev pub WantsNext : Direction → List Segment → ℕ → ℕ → ℕ → List RawCell → Type 0
WantsNext direction ss step limit wanted cells = step < length ss → GoesOn direction ss step → Wants direction limit wanted cells (segment_of_step direction ss step)

pub wants_first : (direction : Direction) (ss : List Segment) (limit : ℕ) → WantsNext direction ss 0 limit limit []
wants_first direction ss limit lt on = absurd (let h : 0 < 0 = on.0 in omega (arith, h))

asked_suffices : (direction : Direction) (ss : List Segment) (step limit wanted asked : ℕ) (cells : List RawCell) → step < length ss → WantsNext direction ss step limit wanted cells → IsAskedOf direction ss step limit wanted asked → Wants direction limit asked cells (segment_of_step direction ss step)
asked_suffices direction ss step limit wanted asked cells lt next (inl whole) = all_so (Suffices direction limit asked cells) (λ k. omega (arith, whole)) (segment_of_step direction ss step).keys
asked_suffices direction ss step limit wanted asked cells lt next (inr on) = subst (λ (n : ℕ). Wants direction limit n cells (segment_of_step direction ss step)) (sym on.0) (next lt on.1)

-- behind the first so many of a segment what's left of them suffices for the next of its group
suffices_behind : (direction : Direction) (limit asked : ℕ) (cells piece : List RawCell) (y : Key) (others : List Key) → Suffices direction limit asked cells y → AllByRecursion (λ z. is_first direction y z ≡ true) others →
    AllByRecursion (λ z. AllByRecursion (λ c. is_first direction c.key z ≡ true) (take asked piece)) others →
    AllByRecursion (Suffices direction limit (asked - length (take asked piece)) (cells ++ take asked piece)) others
suffices_behind direction limit asked cells piece y [] own first all = tt
suffices_behind direction limit asked cells piece y (z ∷ others) own first all =
    (wanted_less (ranked direction) limit asked cells piece (at y) (at z) first.0 all.0 own, suffices_behind direction limit asked cells piece y others own first.1 all.1)

some_key : (direction : Direction) (limit asked : ℕ) (cells piece : List RawCell) (keys others : List Key) → 1 ≤ length keys → AllByRecursion (Suffices direction limit asked cells) keys → AllFirst direction keys others →
    AllByRecursion (λ z. AllByRecursion (λ c. is_first direction c.key z ≡ true) (take asked piece)) others →
    AllByRecursion (Suffices direction limit (asked - length (take asked piece)) (cells ++ take asked piece)) others
some_key direction limit asked cells piece [] others some own first all = absurd (omega (arith, some))
some_key direction limit asked cells piece (y ∷ keys) others some own first all = suffices_behind direction limit asked cells piece y others own.0 first.0 all

-- ---- how much was gathered

got : (direction : Direction) (asked : ℕ) (cells new given : List RawCell) → new ≡ cells ++ first_in direction (Some asked) given → length new - length cells ≡ length (take asked (in_direction direction given))
got direction asked cells new given is =
    let front = take asked (in_direction direction given) in
    let long = length-append cells (in_direction direction front) in
    let same = directed_long direction front in
    let e = ap length is in
    omega (arith, long, same, e)

-- no more than was asked
pub few_got : (direction : Direction) (asked : ℕ) (cells new given : List RawCell) → new ≡ cells ++ first_in direction (Some asked) given → length new - length cells ≤ asked
few_got direction asked cells new given is =
    let e = got direction asked cells new given is in
    let short = length-take asked (in_direction direction given) in
    omega (arith, e, short)

-- ---- a step

module _ (direction : Direction) (q : ℕ) (low high : ℤ) (ts : List SetRow) (are : AreSetRows ts) (step : ℕ) (inside : step < length (set_of ts)) where
  abbrev all : List Segment
  all = in_direction direction (set_of ts)

  abbrev own : Segment
  own = segment_of_step direction (set_of ts) step

  abbrev piece : List RawCell
  piece = in_direction direction (segment_cells_in_range q low high own)

  within : step < length all
  within = subst (λ (n : ℕ). step < n) (sym (directed_long direction (set_of ts))) inside

  own_is : IsSegment own
  own_is = all_get IsSegment all step no_segment (all_directed IsSegment direction (set_of ts) (set_is_segments ts are)) within

  piece_rises : IsStrictlySortedBy key_cmp (map (λ c. c.key) (segment_cells_in_range q low high own))
  piece_rises =
      let P : Segment → Type 0 = λ s. IsStrictlySortedBy key_cmp (map (λ c. c.key) (segment_cells_in_range q low high s)) in
      all_get P all step no_segment (all_directed P direction (set_of ts) (each_rises q low high (set_of ts) (set_is_segments ts are))) within

  so_far : flat_map (segment_cells_in_range q low high) (take step all) ++ segment_cells_in_range q low high own ≡ flat_map (segment_cells_in_range q low high) (take (step + 1) all)
  so_far =
      let f = segment_cells_in_range q low high in
      sym (ap (flat_map f) (ap (λ (k : ℕ). take k all) (add-one step) ∙ take-suc all step no_segment within)
      ∙ flat_map-append f (take step all) (own ∷ [])
      ∙ ap (λ (cs : List RawCell). flat_map f (take step all) ++ cs) (append-nil (f own)))

  module _ (limit asked : ℕ) (cells new : List RawCell) (is : new ≡ cells ++ first_in direction (Some asked) (segment_cells_in_range q low high own)) (wants : Wants direction limit asked cells own) where
    joined : IsPermutation (cells ++ take asked piece) new
    joined = subst (IsPermutation (cells ++ take asked piece)) (sym is) (IsPermutation-append_right cells (take asked piece) (in_direction direction (take asked piece)) (directed_same direction (take asked piece)))

    pub enough_then : HasEnough (ranked direction) limit (flat_map (segment_cells_in_range q low high) (take step all)) cells → HasEnough (ranked direction) limit (flat_map (segment_cells_in_range q low high) (take (step + 1) all)) new
    enough_then has =
        let o = ranked direction in
        let f = segment_cells_in_range q low high in
        let before_it = flat_map f (take step all) in
        let P : RawCell → Type 0 = λ c. limit ≤ asked + before o c cells in
        let each : AllByRecursion P piece = cells_keep (Suffices direction limit asked cells) direction q low high own wants in
        let more = enough_more o limit asked before_it cells piece has (rises direction (f own) piece_rises) (λ z m. below o P z piece each m) in
        let whole : IsPermutation (before_it ++ piece) (flat_map f (take (step + 1) all)) =
        subst (IsPermutation (before_it ++ piece)) so_far (IsPermutation-append_right before_it piece (f own) (IsPermutation-sym (f own) piece (directed_same direction (f own)))) in
        enough_moved o limit (before_it ++ piece) (cells ++ take asked piece) (flat_map f (take (step + 1) all)) new more whole joined

    pub wants_then : WantsNext direction (set_of ts) (step + 1) limit (asked - (length new - length cells)) new
    wants_then lt on =
        let o = ranked direction in
        let front = take asked piece in
        let next = segment_of_step direction (set_of ts) (step + 1) in
        let back : step + 1 - 1 ≡ step = omega arith in
        let same = subst (λ (k : ℕ). (segment_of_step direction (set_of ts) k).parameters ≡ next.parameters) back on.1 in
        let first = in_order direction ts step are lt same in
        let F : RawCell → Type 0 = λ c. AllByRecursion (λ z. is_first direction c.key z ≡ true) next.keys in
        let of_piece : AllByRecursion F piece = cells_keep (λ k. AllByRecursion (λ z. is_first direction k z ≡ true) next.keys) direction q low high own first in
        let behind = swapped (λ (c : RawCell) (z : Key). is_first direction c.key z ≡ true) front next.keys (all_take F asked piece of_piece) in
        let less = some_key direction limit asked cells piece own.keys next.keys own_is.some_rows wants first behind in
        subst (λ (n : ℕ). AllByRecursion (Suffices direction limit n new) next.keys) (sym (ap (λ (n : ℕ). asked - n) (got direction asked cells new (segment_cells_in_range q low high own) is)))
        (each_so (Suffices direction limit (asked - length front) (cells ++ front)) (Suffices direction limit (asked - length front) new)
        (λ z h. let e = same_before o (at z) (cells ++ front) new joined in omega (arith, e, h)) next.keys less)

-- what a step does: what it gathered is enough so far, and what is left suffices for the next of its group
pub step_enough : (direction : Direction) (q : ℕ) (low high : ℤ) (ts : List SetRow) (step limit wanted asked : ℕ) (cells new : List RawCell) → AreSetRows ts → step < length (set_of ts) → WantsNext direction (set_of ts) step limit wanted cells →
    IsAskedOf direction (set_of ts) step limit wanted asked → new ≡ cells ++ first_in direction (Some asked) (segment_cells_in_range q low high (segment_of_step direction (set_of ts) step)) →
    HasEnough (ranked direction) limit (flat_map (segment_cells_in_range q low high) (take step (in_direction direction (set_of ts)))) cells →
    HasEnough (ranked direction) limit (flat_map (segment_cells_in_range q low high) (take (step + 1) (in_direction direction (set_of ts)))) new × WantsNext direction (set_of ts) (step + 1) limit (asked - (length new - length cells)) new
step_enough direction q low high ts step limit wanted asked cells new are lt next is new_is has =
    let wants = asked_suffices direction (set_of ts) step limit wanted asked cells lt next is in (
      enough_then direction q low high ts are step lt limit asked cells new new_is wants has,
      wants_then direction q low high ts are step lt limit asked cells new new_is wants,
    )
