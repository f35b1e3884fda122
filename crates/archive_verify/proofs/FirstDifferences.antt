-- The first place where two lists of cells differ is the least key where they do.
use Rattle.std.proofs.Common.{◌≡◌, ◌∙◌, ℕ, zero, suc, ◌≤◌, ◌<◌, ℤ, List, [], ◌∷◌, length, map, Option, Some, None, refl, sym, ap, subst, arith}
use Rattle.std.specs.Prelude.{◌≢◌, slice_get, slice_index_or}
use Rattle.std.specs.List.{AllByRecursion}
use Rattle.std.specs.List.Sorted.{IsStrictlySortedBy}
use Rattle.std.specs.Cmp.{tied_itself}
use Rattle.std.specs.Ordering.{int_cmp, nat_cmp}
use Rattle.std.proofs.lemmas.Map.Lookups.{exact_pairs, exact_signed, exact_unsigned}
use Rattle.std.specs.declared.cmp.Ordering.{Ordering}
use Rattle.std.specs.declared.cmp.Ordering.TheVariants.{Less, Equal, Greater}
use Rattle.arch_types.specs.declared.cell.Cell.{Cell}
use Rattle.arch_types.specs.declared.key.Key.{Key}
use Rattle.arch_types.specs.Order.{key_cmp}
use Rattle.arch_types.proofs.Ranks.{key_cmp_total}
use Rattle.block_map.proofs.Rising.{flip_greater, flip_less}
use Rattle.archive_verify.specs.declared.differences.CellDifference.{CellDifference}
use Rattle.archive_verify.specs.Differences.{IsCommonLength, IsFirstDifference, IsSameRaw, difference_at, difference_by, difference_of_cells, only_replayed, only_stored, raw_at, raw_where, raws_of}

-- ---- rising cells

-- a key is below those of cells
abbrev pub IsBelowAll : Key → List Cell → Type 0
IsBelowAll key cells = AllByRecursion (λ c. key_cmp key c.key ≡ Less) cells

-- each key is below those of the cells after it
abbrev pub AreRisingCells : List Cell → Type 0
AreRisingCells [] = Unit {0}
AreRisingCells (c ∷ cells) = IsBelowAll c.key cells × AreRisingCells cells

below_keys : (key : Key) (cells : List Cell) → AllByRecursion (λ k. key_cmp key k ≡ Less) (map (λ c. c.key) cells) → IsBelowAll key cells
below_keys key [] all = tt
below_keys key (c ∷ cells) all = (all.0, below_keys key cells all.1)

keys_below : (key : Key) (cells : List Cell) → IsBelowAll key cells → AllByRecursion (λ k. key_cmp key k ≡ Less) (map (λ c. c.key) cells)
keys_below key [] all = tt
keys_below key (c ∷ cells) all = (all.0, keys_below key cells all.1)

pub rising_cells : (cells : List Cell) → IsStrictlySortedBy key_cmp (map (λ c. c.key) cells) → AreRisingCells cells
unfolding IsStrictlySortedBy
rising_cells [] up = tt
rising_cells (c ∷ cells) up = (below_keys c.key cells up.0, rising_cells cells up.1)

pub cells_rising : (cells : List Cell) → AreRisingCells cells → IsStrictlySortedBy key_cmp (map (λ c. c.key) cells)
unfolding IsStrictlySortedBy
cells_rising [] up = tt
cells_rising (c ∷ cells) up = (keys_below c.key cells up.0, cells_rising cells up.1)

below_later : (key first : Key) (cells : List Cell) → key_cmp key first ≡ Less → IsBelowAll first cells → IsBelowAll key cells
below_later key first [] less all = tt
below_later key first (c ∷ cells) less all = (key_cmp_total.trans key first c.key less all.0, below_later key first cells less all.1)

-- ---- the raw number at a key

none_below : (key : Key) (cells : List Cell) → IsBelowAll key cells → raw_at key cells ≡ None
none_below key [] all = refl
none_below key (c ∷ cells) all = ap (λ (o : Ordering). raw_where o c.raw (raw_at key cells)) all.0 ∙ none_below key cells all.1

at_first : (c : Cell) (cells : List Cell) → raw_at c.key (c ∷ cells) ≡ Some c.raw
at_first c cells = ap (λ (o : Ordering). raw_where o c.raw (raw_at c.key cells)) (tied_itself key_cmp_total c.key)

behind_first : (key : Key) (c : Cell) (cells : List Cell) → key_cmp c.key key ≡ Less → raw_at key (c ∷ cells) ≡ raw_at key cells
behind_first key c cells less = ap (λ (o : Ordering). raw_where o c.raw (raw_at key cells)) (flip_less key_cmp_total c.key key less)

-- below a first cell there is none
none_before : (key : Key) (c : Cell) (cells : List Cell) → key_cmp key c.key ≡ Less → IsBelowAll c.key cells → raw_at key (c ∷ cells) ≡ None
none_before key c cells less all = none_below key (c ∷ cells) (less, below_later key c.key cells less all)

-- ---- lists that differ at once

only_first : (s : Cell) (ss rs : List Cell) → IsBelowAll s.key ss → IsBelowAll s.key rs → IsFirstDifference (s ∷ ss) rs (only_stored s)
only_first s ss rs up over = record {
  stored_is = sym (at_first s ss);
  replayed_is = sym (none_below s.key rs over);
  differ = λ same. cc;
  before = λ key less. none_before key s ss less up ∙ sym (none_below key rs (below_later key s.key rs less over));
}

only_second : (r : Cell) (ss rs : List Cell) → IsBelowAll r.key rs → IsBelowAll r.key ss → IsFirstDifference ss (r ∷ rs) (only_replayed r)
only_second r ss rs up over = record {
  stored_is = sym (none_below r.key ss over);
  replayed_is = sym (at_first r rs);
  differ = λ same. cc;
  before = λ key less. none_below key ss (below_later key r.key ss less over) ∙ sym (none_before key r rs less up);
}

same_some : (x y : ℤ) → ◌≡◌ {A = Option ℤ} (Some x) (Some y) → x ≡ y
same_some x y e = cc

both_first : (s r : Cell) (ss rs : List Cell) → AreRisingCells (s ∷ ss) → AreRisingCells (r ∷ rs) → key_cmp s.key r.key ≡ Equal → s.raw ≢ r.raw → IsFirstDifference (s ∷ ss) (r ∷ rs) (difference_by Equal s r)
both_first s r ss rs up rise tied other = record {
  stored_is = sym (at_first s ss);
  replayed_is = sym (ap (λ (o : Ordering). raw_where o r.raw (raw_at s.key rs)) tied);
  differ = λ same. other (same_some s.raw r.raw same);
  before = λ key less. none_before key s ss less up.0 ∙ sym (none_before key r rs (flip_greater key_cmp_total r.key key (sym (key_cmp_total.congr s.key r.key key tied) ∙ flip_less key_cmp_total key s.key less)) rise.0);
}

at_once : (s r : Cell) (ss rs : List Cell) → AreRisingCells (s ∷ ss) → AreRisingCells (r ∷ rs) → (key_cmp s.key r.key ≡ Equal → s.raw ≢ r.raw) → IsFirstDifference (s ∷ ss) (r ∷ rs) (difference_of_cells s r)
at_once s r ss rs up rise other = go (key_cmp s.key r.key) refl
  where
    go : (o : Ordering) → key_cmp s.key r.key ≡ o → IsFirstDifference (s ∷ ss) (r ∷ rs) (difference_by (key_cmp s.key r.key) s r)
    go Less e = subst (λ (o : Ordering). IsFirstDifference (s ∷ ss) (r ∷ rs) (difference_by o s r)) (sym e)
        (only_first s ss (r ∷ rs) up.0 (e, below_later s.key r.key rs e rise.0))
    go Equal e = subst (λ (o : Ordering). IsFirstDifference (s ∷ ss) (r ∷ rs) (difference_by o s r)) (sym e) (both_first s r ss rs up rise e (other e))
    go Greater e =
        let less = flip_greater key_cmp_total s.key r.key e in
        subst (λ (o : Ordering). IsFirstDifference (s ∷ ss) (r ∷ rs) (difference_by o s r)) (sym e)
        (only_second r (s ∷ ss) rs rise.0 (less, below_later r.key s.key ss less up.0))

-- ---- lists that begin alike

one_more : (s r : Cell) (ss rs : List Cell) (d : CellDifference) → IsSameRaw s r → key_cmp s.key d.key ≡ Less → IsFirstDifference ss rs d → IsFirstDifference (s ∷ ss) (r ∷ rs) d
one_more s r ss rs d same above is = record {
  stored_is = is.stored_is ∙ sym (behind_first d.key s ss above);
  replayed_is = is.replayed_is ∙ sym (behind_first d.key r rs (subst (λ (k : Key). key_cmp k d.key ≡ Less) same.0 above));
  differ = is.differ;
  before = λ key less.
      ap (λ (k : Key). raw_where (key_cmp key k) s.raw (raw_at key ss)) same.0
      ∙ ap (λ (raw : ℤ). raw_where (key_cmp key r.key) raw (raw_at key ss)) same.1
      ∙ ap (λ (o : Option ℤ). raw_where (key_cmp key r.key) r.raw o) (is.before key less);
}

some_is : (x y : CellDifference) → ◌≡◌ {A = Option CellDifference} (Some x) (Some y) → x ≡ y
some_is x y e = cc

above_at : (n : ℕ) (key : Key) (cells : List Cell) (c : Cell) → IsBelowAll key cells → slice_get cells n ≡ Some c → key_cmp key c.key ≡ Less
above_at n key [] c all e = absurd cc
above_at zero key (x ∷ cells) c all e = let same : x ≡ c = cc (e) in subst (λ (z : Cell). key_cmp key z.key ≡ Less) same all.0
above_at (suc n) key (x ∷ cells) c all e = above_at n key cells c all.1 e

-- the key of a difference is above a key that is below all cells
above_difference : (n : ℕ) (key : Key) (ss rs : List Cell) (d : CellDifference) → IsBelowAll key ss → IsBelowAll key rs → difference_at (slice_get ss n) (slice_get rs n) ≡ Some d → key_cmp key d.key ≡ Less
above_difference n key ss rs d up rise is = go (slice_get ss n) refl (slice_get rs n) refl is
  where
    by : (s r : Cell) → key_cmp key s.key ≡ Less → key_cmp key r.key ≡ Less → (o : Ordering) → key_cmp key (difference_by o s r).key ≡ Less
    by s r a b Less = a
    by s r a b Equal = a
    by s r a b Greater = b

    go : (a : Option Cell) → slice_get ss n ≡ a → (b : Option Cell) → slice_get rs n ≡ b → difference_at a b ≡ Some d → key_cmp key d.key ≡ Less
    go None ea None eb e = absurd cc
    go (Some s) ea None eb e = subst (λ (x : CellDifference). key_cmp key x.key ≡ Less) (some_is (only_stored s) d e) (above_at n key ss s up ea)
    go None ea (Some r) eb e = subst (λ (x : CellDifference). key_cmp key x.key ≡ Less) (some_is (only_replayed r) d e) (above_at n key rs r rise eb)
    go (Some s) ea (Some r) eb e = subst (λ (x : CellDifference). key_cmp key x.key ≡ Less) (some_is (difference_of_cells s r) d e)
        (by s r (above_at n key ss s up ea) (above_at n key rs r rise eb) (key_cmp s.key r.key))

-- two lists begin alike with so many cells
abbrev BeginAlike : ℕ → List Cell → List Cell → Type 0
BeginAlike n ss rs = (k : ℕ) (d : Cell) → k < n → IsSameRaw (slice_index_or ss k d) (slice_index_or rs k d)

-- cells with one key have other raw numbers, at a place where both lists have one
abbrev DifferAt : ℕ → List Cell → List Cell → Type 0
DifferAt n ss rs = (s r : Cell) → slice_get ss n ≡ Some s → slice_get rs n ≡ Some r → key_cmp s.key r.key ≡ Equal → s.raw ≢ r.raw

pub first_at : (n : ℕ) (ss rs : List Cell) (d : CellDifference) → AreRisingCells ss → AreRisingCells rs → n ≤ length ss → n ≤ length rs → BeginAlike n ss rs → DifferAt n ss rs
    → difference_at (slice_get ss n) (slice_get rs n) ≡ Some d → IsFirstDifference ss rs d
first_at zero [] [] d up rise in_s in_r alike other is = absurd cc
first_at zero (s ∷ ss) [] d up rise in_s in_r alike other is = subst (IsFirstDifference (s ∷ ss) []) (some_is (only_stored s) d is) (only_first s ss [] up.0 tt)
first_at zero [] (r ∷ rs) d up rise in_s in_r alike other is = subst (IsFirstDifference [] (r ∷ rs)) (some_is (only_replayed r) d is) (only_second r [] rs rise.0 tt)
first_at zero (s ∷ ss) (r ∷ rs) d up rise in_s in_r alike other is =
    subst (IsFirstDifference (s ∷ ss) (r ∷ rs)) (some_is (difference_of_cells s r) d is) (at_once s r ss rs up rise (other s r refl refl))
first_at (suc n) [] rs d up rise in_s in_r alike other is = absurd (omega (arith, in_s))
first_at (suc n) (s ∷ ss) [] d up rise in_s in_r alike other is = absurd (omega (arith, in_r))
first_at (suc n) (s ∷ ss) (r ∷ rs) d up rise in_s in_r alike other is =
    let same : IsSameRaw s r = alike 0 s (omega arith) in
    let over : IsBelowAll s.key rs = subst (λ (k : Key). IsBelowAll k rs) (sym same.0) rise.0 in
    one_more s r ss rs d same (above_difference n s.key ss rs d up.0 over is)
    (first_at n ss rs d up.1 rise.1 (omega (arith, in_s)) (omega (arith, in_r)) (λ k e lt. alike (suc k) e (omega (arith, lt))) (λ x y ex ey. other x y ex ey) is)

-- lists that begin alike and end together have the same raw numbers
pub none_at : (n : ℕ) (ss rs : List Cell) → n ≤ length ss → n ≤ length rs → BeginAlike n ss rs → slice_get ss n ≡ None → slice_get rs n ≡ None → raws_of ss ≡ raws_of rs
none_at zero [] [] in_s in_r alike es er = refl
none_at zero (s ∷ ss) rs in_s in_r alike es er = absurd cc
none_at zero [] (r ∷ rs) in_s in_r alike es er = absurd cc
none_at (suc n) [] rs in_s in_r alike es er = absurd (omega (arith, in_s))
none_at (suc n) (s ∷ ss) [] in_s in_r alike es er = absurd (omega (arith, in_r))
none_at (suc n) (s ∷ ss) (r ∷ rs) in_s in_r alike es er =
    let same : IsSameRaw s r = alike 0 s (omega arith) in
    let rest = none_at n ss rs (omega (arith, in_s)) (omega (arith, in_r)) (λ k e lt. alike (suc k) e (omega (arith, lt))) es er in
    ap (λ (k : Key). (k, s.raw) ∷ raws_of ss) same.0 ∙ ap (λ (raw : ℤ). (r.key, raw) ∷ raws_of ss) same.1 ∙ ap (λ (l : List (Key × ℤ)). (r.key, r.raw) ∷ l) rest

-- ---- keys

-- keys that compare as equal are one
pub exact_keys : (a b : Key) → key_cmp a b ≡ Equal → a ≡ b
exact_keys a b tied = ap (λ (p : ℤ × ℕ). let k : Key = record { time = p.0; seq = p.1 } in k) (exact_pairs int_cmp nat_cmp exact_signed exact_unsigned (a.time, a.seq) (b.time, b.seq) tied)

pub from_length : (ss rs : List Cell) (n : ℕ) (d : CellDifference) → IsCommonLength ss rs n → AreRisingCells ss → AreRisingCells rs → difference_at (slice_get ss n) (slice_get rs n) ≡ Some d → IsFirstDifference ss rs d
from_length ss rs n d is up rise e =
    first_at n ss rs d up rise is.stored_has is.replayed_has is.alike (λ s r es er tied same. is.then_other s r es er (exact_keys s.key r.key tied, same)) e

pub none_from_length : (ss rs : List Cell) (n : ℕ) → IsCommonLength ss rs n → slice_get ss n ≡ None → slice_get rs n ≡ None → raws_of ss ≡ raws_of rs
none_from_length ss rs n is es er = none_at n ss rs is.stored_has is.replayed_has is.alike es er

-- ---- a first difference

-- lists with a difference aren't one
pub differ_not_same : (ss rs : List Cell) (d : CellDifference) → IsFirstDifference ss rs d → ss ≡ rs → ⊥
differ_not_same ss rs d is same = is.differ (is.stored_is ∙ ap (raw_at d.key) same ∙ sym is.replayed_is)

-- two lists have one first difference
pub one_difference : (ss rs : List Cell) (a b : CellDifference) → IsFirstDifference ss rs a → IsFirstDifference ss rs b → a ≡ b
one_difference ss rs a b is other = go (key_cmp a.key b.key) refl
  where
    not_below : (x y : CellDifference) → IsFirstDifference ss rs x → IsFirstDifference ss rs y → key_cmp x.key y.key ≡ Less → ⊥
    not_below x y first second less = first.differ (first.stored_is ∙ second.before x.key less ∙ sym first.replayed_is)

    at_one : a.key ≡ b.key → a ≡ b
    at_one key =
        let stored : a.stored ≡ b.stored = is.stored_is ∙ ap (λ (k : Key). raw_at k ss) key ∙ sym other.stored_is in
        let replayed : a.replayed ≡ b.replayed = is.replayed_is ∙ ap (λ (k : Key). raw_at k rs) key ∙ sym other.replayed_is in
        λ i. let d : CellDifference = record { key = key i; stored = stored i; replayed = replayed i } in d

    go : (o : Ordering) → key_cmp a.key b.key ≡ o → a ≡ b
    go Less e = absurd (not_below a b is other e)
    go Equal e = at_one (exact_keys a.key b.key e)
    go Greater e = absurd (not_below b a other is (flip_greater key_cmp_total a.key b.key e))
