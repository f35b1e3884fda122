-- Pieces of a replay.
use Rattle.std.proofs.Common.{◌≡◌, inl, inr, ℕ, zero, suc, ◌-◌, ◌<◌, ◌≤◌, List, [], ◌∷◌, ◌++◌, length, take, drop, Option, Some, None, Bool, true, false, refl, sym, ap, ◌∙◌, append_assoc, arith, ◌+◌, subst}
use Rattle.std.specs.Prelude.{IfSome, Contains, reverse, nat_le, ◌==◌}
use Rattle.std.specs.List.{AllByRecursion}
use Rattle.std.specs.List.Sorted.{IsSortedBy}
use Rattle.std.proofs.lemmas.Bool.Decides.{nat_tests}
use Rattle.std.proofs.lemmas.List.{take-append-drop, take_all, drop_all, take_at, drop_at, reverse-append, length-reverse, length-drop, length-take, get_or-take, get_or-drop}
use Rattle.std.proofs.lemmas.List.Elements.{recursion_from_All, All-contains_itself}
use Rattle.arch_types.specs.declared.row.Row.{Row}
use Rattle.arch_types.specs.Directions.{truncated}
use Rattle.partitions.specs.declared.partition.Partition.{Partition}
use Rattle.replay_merge.specs.declared.wanted.Wanted.{Wanted}
use Rattle.replay_merge.specs.Cursor.{CursorView, MayHandOn, rest_of, still_ahead, left_after}
use Rattle.replay_merge.specs.Fetch.{wanted_in}
use Rattle.replay_merge.specs.RowSource.{RowSourceState}
use Rattle.replay_merge.proofs.Reading.{all_both}
use Rattle.replay_merge.proofs.Giving.{each_follows}

-- what contracts see of a cursor
abbrev pub standing : Wanted → Option ℕ → List Partition → List Row → CursorView
standing wanted left parts ahead =
    record { table = wanted.table; front = wanted.front; from = wanted.from; to = wanted.to; names = wanted.names; left = left; parts = parts; ahead = ahead }

piece : (a d : List Row) (left most : ℕ) → most ≤ left → take most a ++ take (left - length (take most a)) (drop most a ++ d) ≡ take left (a ++ d)
piece a d left zero le = let e : left - 0 ≡ left = omega arith in rw e refl
piece [] d left (suc most) le = let e : left - 0 ≡ left = omega arith in rw e refl
piece (x ∷ a) d zero (suc most) le = absurd (omega (arith, le))
piece (x ∷ a) d (suc left) (suc most) le =
    let e : suc left - suc (length (take most a)) ≡ left - length (take most a) = omega arith in
    rw e (ap (λ (w : List Row). x ∷ w) (piece a d left most (omega (arith, le))))

-- the first rows of a list, and what is left behind them
pub piece_of : (a d : List Row) (left : Option ℕ) (most : ℕ) → IfSome left (λ n. most ≤ n) → take most a ++ truncated (left_after left (length (take most a))) (drop most a ++ d) ≡ truncated left (a ++ d)
piece_of a d None most le = sym (append_assoc (take most a) (drop most a) d) ∙ ap (λ (w : List Row). w ++ d) (take-append-drop most a)
piece_of a d (Some left) most le = piece a d left most le

above_none : (n : ℕ) → (suc n == 0) ≡ false
above_none n = grind (arith, nat_tests)

-- no row is kept once the limit is reached
pub still_truncated : (left : Option ℕ) (rows others : List Row) → truncated left (still_ahead left rows ++ others) ≡ truncated left (rows ++ others)
still_truncated None rows others = refl
still_truncated (Some zero) rows others = refl
still_truncated (Some (suc n)) rows others = rw (above_none n) refl

-- some of the rows ahead, or of a day that was read, were given
pub given : (told : Option (ℕ → List Row)) (wanted : Wanted) (left left' : Option ℕ) (parts parts' : List Partition) (ahead ahead' kept day rows : List Row) (most : ℕ) → IfSome left (λ n. most ≤ n) →
    IfSome told (λ history. ahead ++ wanted_in wanted parts history ≡ day ++ wanted_in wanted parts' history) → rows ≡ take most day → ahead' ≡ drop most day → left' ≡ left_after left (length rows) → kept ≡ still_ahead left' ahead' →
    IfSome told (λ history. rows ++ rest_of (standing wanted left' parts' kept) history ≡ rest_of (standing wanted left parts ahead) history)
given None wanted left left' parts parts' ahead ahead' kept day rows most within before are rest less still = tt
given (Some history) wanted left left' parts parts' ahead ahead' kept day rows most within before are rest less still =
    let others = wanted_in wanted parts' history in
    ap (λ (w : List Row). rows ++ truncated left' (w ++ others)) still
    ∙ ap (λ (w : List Row). rows ++ w) (still_truncated left' ahead' others)
    ∙ ap (λ (l : Option ℕ). rows ++ truncated l (ahead' ++ others)) less
    ∙ ap (λ (w : List Row). rows ++ truncated (left_after left (length rows)) (w ++ others)) rest
    ∙ ap (λ (w : List Row). w ++ truncated (left_after left (length w)) (drop most day ++ others)) are
    ∙ piece_of day others left most within
    ∙ ap (truncated left) (sym before)

pub same_rest : (told : Option (ℕ → List Row)) (wanted : Wanted) (parts : List Partition) (ahead : List Row) → IfSome told (λ history. ahead ++ wanted_in wanted parts history ≡ ahead ++ wanted_in wanted parts history)
same_rest None wanted parts ahead = tt
same_rest (Some history) wanted parts ahead = refl

pub nothing_ahead : (told : Option (ℕ → List Row)) (wanted : Wanted) (parts parts' : List Partition) (ahead day : List Row) → ahead ≡ [] →
    IfSome told (λ history. wanted_in wanted parts history ≡ day ++ wanted_in wanted parts' history) → IfSome told (λ history. ahead ++ wanted_in wanted parts history ≡ day ++ wanted_in wanted parts' history)
nothing_ahead None wanted parts parts' ahead day none got = tt
nothing_ahead (Some history) wanted parts parts' ahead day none got = ap (λ (w : List Row). w ++ wanted_in wanted parts history) none ∙ got

pub all_first : (P : Row → Type 0) (n : ℕ) (rows : List Row) → AllByRecursion P rows → AllByRecursion P (take n rows)
all_first P zero rows all = tt
all_first P (suc n) [] all = tt
all_first P (suc n) (row ∷ rows) all = (all.0, all_first P n rows all.1)

-- ---- rows that stand backwards

module _ (xs : List Row) (n most : ℕ) (is : n ≡ length xs - most) where
  whole : reverse xs ≡ reverse (drop n xs) ++ reverse (take n xs)
  whole = ap reverse (sym (take-append-drop n xs)) ∙ reverse-append (take n xs) (drop n xs)

  long : most ≤ length xs → length (reverse (drop n xs)) ≡ most
  long le = length-reverse (drop n xs) ∙ length-drop n xs ∙ omega (arith, is, le)

  all_of : length xs < most → length (reverse xs) ≤ most
  all_of less = omega (arith, length-reverse xs, less)

  none_first : length xs < most → n ≡ 0
  none_first less = omega (arith, is, less)

  pub taken_backwards : reverse (drop n xs) ≡ take most (reverse xs)
  taken_backwards = by (nat_le most (length xs)) refl
    where
      by : (b : Bool) → nat_le most (length xs) ≡ b → reverse (drop n xs) ≡ take most (reverse xs)
      by true e = let le : most ≤ length xs = grind (arith, nat_tests) in sym (take_at (reverse (drop n xs)) (reverse (take n xs)) most (long le)) ∙ ap (take most) (sym whole)
      by false e = let less : length xs < most = grind (arith, nat_tests) in
          ap (λ (k : ℕ). reverse (drop k xs)) (none_first less) ∙ sym (take_all most (reverse xs) (all_of less))

  pub left_backwards : reverse (take n xs) ≡ drop most (reverse xs)
  left_backwards = by (nat_le most (length xs)) refl
    where
      by : (b : Bool) → nat_le most (length xs) ≡ b → reverse (take n xs) ≡ drop most (reverse xs)
      by true e = let le : most ≤ length xs = grind (arith, nat_tests) in sym (drop_at (reverse (drop n xs)) (reverse (take n xs)) most (long le)) ∙ ap (drop most) (sym whole)
      by false e = let less : length xs < most = grind (arith, nat_tests) in
          ap (λ (k : ℕ). reverse (take k xs)) (none_first less) ∙ sym (drop_all most (reverse xs) (all_of less))

-- ---- the order of rows

pub first_in_order : (lt : Row → Row → Bool) (n : ℕ) (rows : List Row) → IsSortedBy lt rows → IsSortedBy lt (take n rows)
first_in_order lt n rows up k d low h =
    let short : k + 1 < n = omega (arith, h, length-take n rows) in
    let within : k + 1 < length rows = omega (arith, h, length-take n rows) in
    let before : k < n = omega arith in
    rw (get_or-take n rows k d before, get_or-take n rows (k + 1) d short) (up k d low within)

pub rest_in_order : (lt : Row → Row → Bool) (n : ℕ) (rows : List Row) → IsSortedBy lt rows → IsSortedBy lt (drop n rows)
rest_in_order lt n rows up k d low h =
    let within : n + k + 1 < length rows = omega (arith, h, length-drop n rows) in
    let next : n + (k + 1) ≡ n + k + 1 = omega arith in
    rw (get_or-drop n rows k d, get_or-drop n rows (k + 1) d, next) (up (n + k) d (omega arith) within)

pub all_rest : (P : Row → Type 0) (n : ℕ) (rows : List Row) → AllByRecursion P rows → AllByRecursion P (drop n rows)
all_rest P zero rows all = all
all_rest P (suc n) [] all = tt
all_rest P (suc n) (row ∷ rows) all = all_rest P n rows all.1

-- ---- no row is kept once the limit is reached

pub still_none : (left : Option ℕ) (rows : List Row) → rows ≡ [] → still_ahead left rows ≡ []
still_none None rows none = none
still_none (Some zero) rows none = refl
still_none (Some (suc n)) rows none = rw (above_none n) none

pub still_all : (P : Row → Type 0) (left : Option ℕ) (rows : List Row) → AllByRecursion P rows → AllByRecursion P (still_ahead left rows)
still_all P None rows all = all
still_all P (Some zero) rows all = tt
still_all P (Some (suc n)) rows all = rw (above_none n) all

-- the first rows of some and those of the others that are kept
pub all_kept : (P : Row → Type 0) (most : ℕ) (left : Option ℕ) (day rows ahead kept : List Row) → rows ≡ take most day → ahead ≡ drop most day → kept ≡ still_ahead left ahead →
    AllByRecursion P day → AllByRecursion P (rows ++ kept)
all_kept P most left day rows ahead kept first rest still all =
    let given = subst (AllByRecursion P) (sym first) (all_first P most day all) in
    let behind = subst (AllByRecursion P) (sym rest) (all_rest P most day all) in
    all_both P rows kept given (subst (AllByRecursion P) (sym still) (still_all P left ahead behind))

-- ---- rows that may be handed on

pub all_among : (rows : List Row) → AllByRecursion (Contains rows) rows
all_among rows = recursion_from_All (Contains rows) rows (All-contains_itself rows)

pub ahead_handed : (c : CursorView) (source : RowSourceState) → AllByRecursion (MayHandOn c source) c.ahead
ahead_handed c source = each_follows (Contains c.ahead) (MayHandOn c source) (λ row in_it. inl in_it) c.ahead (all_among c.ahead)

pub read_handed : (c : CursorView) (source : RowSourceState) (rows : List Row) → AllByRecursion source.may_give rows → AllByRecursion (MayHandOn c source) rows
read_handed c source rows all = each_follows source.may_give (MayHandOn c source) (λ row may. inr may) rows all

none_in_order : (lt : Row → Row → Bool) → IsSortedBy lt []
none_in_order lt k d low h = absurd (omega arith)

pub still_in_order : (lt : Row → Row → Bool) (left : Option ℕ) (rows : List Row) → IsSortedBy lt rows → IsSortedBy lt (still_ahead left rows)
still_in_order lt None rows up = up
still_in_order lt (Some zero) rows up = none_in_order lt
still_in_order lt (Some (suc n)) rows up = let kept : still_ahead (Some (suc n)) rows ≡ rows = rw (above_none n) refl in subst (λ (l : List Row). IsSortedBy lt l) (sym kept) up

pub still_short : (left : Option ℕ) (rows : List Row) → length (still_ahead left rows) ≤ length rows
still_short None rows = omega arith
still_short (Some zero) rows = omega arith
still_short (Some (suc n)) rows = let kept : still_ahead (Some (suc n)) rows ≡ rows = rw (above_none n) refl in omega (arith, ap length kept)
