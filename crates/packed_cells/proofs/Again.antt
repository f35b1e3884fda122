-- A cell that was spelled is read again.
use Rattle.std.proofs.Common.{◌≡◌, ◌∙◌, ℕ, ◌+◌, ◌-◌, ◌<◌, ◌%◌, ◌^◌, ℤ, pos, negsuc, ◌-ℤ◌, ◌≤ℤ◌, true, List, [], ◌∷◌, ◌++◌, length, Option, Some, refl, sym, ap, append_assoc, arith, inl, inr}
use Rattle.std.specs.Prelude.{neg_ℤ, nat_lt}
use Rattle.std.specs.List.{AllByRecursion}
use Rattle.std.specs.Int.{w8, w64, w128}
use Rattle.std.specs.Int.RustNames.{FitsSigned}
use Rattle.std.proofs.lemmas.Bool.{cases_Bool, le-ltb, lt-ltb}
use Rattle.std.proofs.lemmas.Int.{ints}
use Rattle.std.proofs.lemmas.List.{append-nil, length-append}
use Rattle.arch_types.specs.declared.cell.Cell.{Cell}
use Rattle.arch_types.specs.declared.cell.Eng.{Eng}
use Rattle.arch_types.specs.declared.cell.Eng.TheVariants.{Fixed, Label, Undef, Whole}
use Rattle.octet_fields.specs.Reading.{◌>>=◌, number_at}
use Rattle.octet_fields.specs.Spelling.{number}
use Rattle.varints.specs.Varint.{is_short}
use Rattle.octet_fields.proofs.Numbers.{exact8, exact_i128}
use Rattle.varints.proofs.Varints.{short_varint_exact}
use Rattle.packed_cells.specs.declared.reading.Before.{Before}
use Rattle.packed_cells.specs.Kept.{AreKept, IsSizedCell, IsSizedEng}
use Rattle.packed_cells.specs.Packed.{packed_after, packed_behind, packed_cell_at, cell_octets, cells_in, cells_octets, eng_kind, eng_octets, eng_of_kind, packed_fields_at, fixed_after, is_raw_near, is_of_128, is_of_32, is_of_64, packed_kind_of, origin, packed_raw_at, raw_octets, step, zigzag}
use Rattle.packed_cells.proofs.Numbers.{step_again}

-- what stands before a cell is of its widths
pub record IsSizedBefore (before : Before) : Type 0 where
  pub time : FitsSigned w64 before.time
  pub seq : before.seq < 2 ^ 32
  pub fixed : FitsSigned w64 before.fixed

of_64 : (x : ℤ) → FitsSigned w64 x → is_of_64 x ≡ true
of_64 x fits = grind (arith, ints)

of_128 : (x : ℤ) → FitsSigned w128 x → is_of_128 x ≡ true
of_128 x fits = grind (arith, ints)

of_32 : (n : ℕ) → n < 2 ^ 32 → is_of_32 (pos n) ≡ true
of_32 n less = grind (arith, ints)

short_by : (d : ℤ) → neg_ℤ (pos (2 ^ 97)) ≤ℤ d → d ≤ℤ pos (2 ^ 97 - 1) → zigzag d < 2 ^ 98
short_by (pos n) low high = omega (arith, ints)
short_by (negsuc n) low high = omega (arith, ints)

pub short_of_64 : (before x : ℤ) → FitsSigned w64 before → FitsSigned w64 x → is_short (zigzag (x -ℤ before)) ≡ true
unfolding is_short
short_of_64 before x low high =
    let least : neg_ℤ (pos (2 ^ 97)) ≤ℤ (x -ℤ before) = omega (arith, ints, low.sfits, high.sfits) in
    let most : (x -ℤ before) ≤ℤ pos (2 ^ 97 - 1) = omega (arith, ints, low.sfits, high.sfits) in
    lt-ltb _ _ (short_by (x -ℤ before) least most)

pub short_of_32 : (before x : ℕ) → before < 2 ^ 32 → x < 2 ^ 32 → is_short (zigzag (pos x -ℤ pos before)) ≡ true
unfolding is_short
short_of_32 before x low high =
    let least : neg_ℤ (pos (2 ^ 97)) ≤ℤ (pos x -ℤ pos before) = omega (arith, ints, low, high) in
    let most : (pos x -ℤ pos before) ≤ℤ pos (2 ^ 97 - 1) = omega (arith, ints, low, high) in
    lt-ltb _ _ (short_by (pos x -ℤ pos before) least most)

-- the kind is one octet, and tells both of its parts
kind_few : (eng : Eng) → eng_kind eng < 4
kind_few Whole = omega arith
kind_few Undef = omega arith
kind_few (Fixed millionths) = omega arith
kind_few (Label row) = omega arith

kind_small : (before : Before) (cell : Cell) → packed_kind_of before cell < 2 ^ 8
kind_small before cell = elim (cases_Bool (is_raw_near before.raw cell.raw)) [
  | inl near ↦ rw near (omega (arith, kind_few cell.eng))
  | inr far ↦ rw far (omega (arith, kind_few cell.eng))
]

kind_of_raw : (before : Before) (cell : Cell) → nat_lt (packed_kind_of before cell) 4 ≡ is_raw_near before.raw cell.raw
kind_of_raw before cell = elim (cases_Bool (is_raw_near before.raw cell.raw)) [
  | inl near ↦ rw near (lt-ltb _ _ (omega (arith, kind_few cell.eng)))
  | inr far ↦ rw far (le-ltb _ _ (omega arith))
]

kind_of_eng : (before : Before) (cell : Cell) → packed_kind_of before cell % 4 ≡ eng_kind cell.eng
kind_of_eng before cell = elim (cases_Bool (is_raw_near before.raw cell.raw)) [
  | inl near ↦ rw near (omega (arith, kind_few cell.eng))
  | inr far ↦ rw far (omega (arith, kind_few cell.eng))
]

pub short_near : (before raw : ℤ) → is_raw_near before raw ≡ true → is_short (zigzag (raw -ℤ before)) ≡ true
unfolding is_short
short_near before raw near =
    let least : neg_ℤ (pos (2 ^ 97)) ≤ℤ (raw -ℤ before) = grind (arith, ints, near) in
    let most : (raw -ℤ before) ≤ℤ pos (2 ^ 97 - 1) = grind (arith, ints, near) in
    lt-ltb _ _ (short_by (raw -ℤ before) least most)

-- the raw number
raw_again : (before raw : ℤ) (kind : ℕ) (rest : List ℕ) → FitsSigned w128 raw → nat_lt kind 4 ≡ is_raw_near before raw → packed_raw_at before kind (raw_octets before raw ++ rest) ≡ Some (raw, rest)
raw_again before raw kind rest fits is = elim (cases_Bool (is_raw_near before raw)) [
  | inl near ↦ rw (is, near) (step_again is_of_128 before raw rest (of_128 raw fits) (short_near before raw near))
  | inr far ↦ rw (is, far) (exact_i128.again raw rest tt fits)
]

pub short_row : (row : ℕ) → row < 2 ^ 16 → is_short row ≡ true
unfolding is_short
short_row row small = lt-ltb row (2 ^ 98) (omega (arith, small))

-- the engineering value
eng_again : (before : ℤ) (eng : Eng) (rest : List ℕ) → FitsSigned w64 before → IsSizedEng eng → eng_of_kind before (eng_kind eng) (eng_octets before eng ++ rest) ≡ Some (eng, rest)
eng_again before Whole rest low sized = refl
eng_again before Undef rest low sized = refl
eng_again before (Fixed millionths) rest low sized =
    let read = step_again is_of_64 before millionths rest (of_64 millionths sized) (short_of_64 before millionths low sized) in
    rw read refl
eng_again before (Label row) rest low sized =
    let short : is_short row ≡ true = short_row row sized in
    let read = short_varint_exact.again row rest tt (tt, short) in
    let small : nat_lt row (2 ^ 16) ≡ true = lt-ltb _ _ sized in
    rw (read, small) refl

bound : {A B : Type 0} (r : Option A) (x : A) (f : A → Option B) → r ≡ Some x → (r >>= f) ≡ f x
bound r x f is = rw is refl

fields_again : (before : Before) (cell : Cell) (rest : List ℕ) → IsSizedBefore before → IsSizedCell cell
    → packed_fields_at before (packed_kind_of before cell) (step before.time cell.key.time ++ (step (pos before.seq) (pos cell.key.seq) ++ (raw_octets before.raw cell.raw ++ (eng_octets before.fixed cell.eng ++ rest)))) ≡ Some (cell, rest)
fields_again before cell rest low sized =
    let engs : List ℕ = eng_octets before.fixed cell.eng ++ rest in
    let raws : List ℕ = raw_octets before.raw cell.raw ++ engs in
    let seqs : List ℕ = step (pos before.seq) (pos cell.key.seq) ++ raws in
    let time = step_again is_of_64 before.time cell.key.time seqs (of_64 cell.key.time sized.time) (short_of_64 before.time cell.key.time low.time sized.time) in
    let seq = step_again is_of_32 (pos before.seq) (pos cell.key.seq) raws (of_32 cell.key.seq sized.seq) (short_of_32 before.seq cell.key.seq low.seq sized.seq) in
    let raw = raw_again before.raw cell.raw (packed_kind_of before cell) engs sized.raw (kind_of_raw before cell) in
    let eng = eng_again before.fixed cell.eng rest low.fixed sized.eng in
    rw (time, seq, raw, kind_of_eng before cell, eng) refl

pub cell_again : (before : Before) (cell : Cell) (rest : List ℕ) → IsSizedBefore before → IsSizedCell cell → packed_cell_at before (cell_octets before cell ++ rest) ≡ Some (cell, rest)
unfolding packed_cell_at cell_octets
cell_again before cell rest low sized =
    let e : List ℕ = eng_octets before.fixed cell.eng in
    let d : List ℕ = raw_octets before.raw cell.raw in
    let c : List ℕ = step (pos before.seq) (pos cell.key.seq) in
    let b : List ℕ = step before.time cell.key.time in
    let a : List ℕ = number w8 (packed_kind_of before cell) in
    let flat : ((a ++ (b ++ c)) ++ (d ++ e)) ++ rest ≡ a ++ (b ++ (c ++ (d ++ (e ++ rest)))) =
    append_assoc (a ++ (b ++ c)) (d ++ e) rest ∙ ap (λ (w : List ℕ). (a ++ (b ++ c)) ++ w) (append_assoc d e rest)
    ∙ append_assoc a (b ++ c) (d ++ (e ++ rest)) ∙ ap (λ (w : List ℕ). a ++ w) (append_assoc b c (d ++ (e ++ rest))) in
    let kind = exact8.again (packed_kind_of before cell) (b ++ (c ++ (d ++ (e ++ rest)))) tt (kind_small before cell) in
    ap (packed_cell_at before) flat ∙ bound (number_at w8 (a ++ (b ++ (c ++ (d ++ (e ++ rest)))))) (packed_kind_of before cell, b ++ (c ++ (d ++ (e ++ rest)))) (λ kind. packed_fields_at before kind.0 kind.1) kind ∙ fields_again before cell rest low sized

-- ---- cells one after the other

pub sized_origin : IsSizedBefore origin
sized_origin = record {
  time = record { sfits = omega arith };
  seq = omega arith;
  fixed = record { sfits = omega arith };
}

sized_fixed : (before : ℤ) (eng : Eng) → FitsSigned w64 before → IsSizedEng eng → FitsSigned w64 (fixed_after before eng)
sized_fixed before Whole low sized = low
sized_fixed before Undef low sized = low
sized_fixed before (Fixed millionths) low sized = sized
sized_fixed before (Label row) low sized = low

pub sized_after : (before : Before) (cell : Cell) → IsSizedBefore before → IsSizedCell cell → IsSizedBefore (packed_after before cell)
sized_after before cell low sized = record { time = sized.time; seq = sized.seq; fixed = sized_fixed before.fixed cell.eng low.fixed sized.eng }

cells_again : (before : Before) (cells : List Cell) → IsSizedBefore before → AllByRecursion IsSizedCell cells → cells_in (length cells) before (cells_octets before cells) ≡ cells
cells_again before [] low sized = refl
cells_again before (cell ∷ cells) low sized =
    rw (cell_again before cell (cells_octets (packed_after before cell) cells) low sized.0)
    (ap (λ (cs : List Cell). cell ∷ cs) (cells_again (packed_after before cell) cells (sized_after before cell low sized.0) sized.1))

-- what is kept is what is seen
pub kept_cells : (count : ℕ) (octets : List ℕ) (last : Before) (kept : AreKept count octets last) → cells_in count origin octets ≡ kept.cells
kept_cells count octets last kept =
    ap (λ (n : ℕ). cells_in n origin octets) (sym kept.all) ∙ ap (cells_in (length kept.cells) origin) kept.spelled
    ∙ cells_again origin kept.cells sized_origin kept.sized

octets_more : (before : Before) (cells : List Cell) (cell : Cell) → cells_octets before (cells ++ cell ∷ []) ≡ cells_octets before cells ++ cell_octets (packed_behind before cells) cell
octets_more before [] cell = append-nil (cell_octets before cell)
octets_more before (first ∷ cells) cell =
    ap (λ (w : List ℕ). cell_octets before first ++ w) (octets_more (packed_after before first) cells cell)
    ∙ sym (append_assoc (cell_octets before first) (cells_octets (packed_after before first) cells) (cell_octets (packed_behind (packed_after before first) cells) cell))

behind_more : (before : Before) (cells : List Cell) (cell : Cell) → packed_behind before (cells ++ cell ∷ []) ≡ packed_after (packed_behind before cells) cell
behind_more before [] cell = refl
behind_more before (first ∷ cells) cell = behind_more (packed_after before first) cells cell

all_more : (cells : List Cell) (cell : Cell) → AllByRecursion IsSizedCell cells → IsSizedCell cell → AllByRecursion IsSizedCell (cells ++ cell ∷ [])
all_more [] cell all sized = (sized, tt)
all_more (first ∷ cells) cell all sized = (all.0, all_more cells cell all.1 sized)

-- one more is kept
pub kept_more : (count : ℕ) (octets more : List ℕ) (last : Before) (cell : Cell) → AreKept count octets last → IsSizedCell cell → more ≡ octets ++ cell_octets last cell → AreKept (count + 1) more (packed_after last cell)
kept_more count octets more last cell kept sized is = record {
  cells = kept.cells ++ cell ∷ [];
  all = length-append kept.cells (cell ∷ []) ∙ ap (λ (n : ℕ). n + 1) kept.all;
  sized = all_more kept.cells cell kept.sized sized;
  spelled =
      is ∙ ap (λ (w : List ℕ). w ++ cell_octets last cell) kept.spelled
      ∙ ap (λ (b : Before). cells_octets origin kept.cells ++ cell_octets b cell) kept.next
      ∙ sym (octets_more origin kept.cells cell);
  next = ap (λ (b : Before). packed_after b cell) kept.next ∙ sym (behind_more origin kept.cells cell);
}

pub cells_more : (count : ℕ) (octets more : List ℕ) (last : Before) (cell : Cell) → AreKept count octets last → IsSizedCell cell → more ≡ octets ++ cell_octets last cell → cells_in (count + 1) origin more ≡ cells_in count origin octets ++ cell ∷ []
unfolding kept_more
cells_more count octets more last cell kept sized is =
    kept_cells (count + 1) more (packed_after last cell) (kept_more count octets more last cell kept sized is)
    ∙ ap (λ (cells : List Cell). cells ++ cell ∷ []) (sym (kept_cells count octets last kept))
