-- How many octets a cell takes.
use Rattle.std.proofs.Common.{◌≡◌, ◌∙◌, ℕ, zero, suc, ◌+◌, ◌*◌, ◌/◌, ◌<◌, ◌≤◌, ◌^◌, ℤ, pos, ◌-ℤ◌, true, List, [], ◌∷◌, ◌++◌, length, refl, sym, ap, subst, arith, inl, inr}
use Rattle.std.specs.List.{AllByRecursion}
use Rattle.std.specs.Int.{w8, w64, w128}
use Rattle.std.specs.Int.RustNames.{FitsSigned}
use Rattle.std.proofs.lemmas.Bool.{cases_Bool, cases_lt, ltb-true}
use Rattle.std.proofs.lemmas.List.{length-append}
use Rattle.arch_types.specs.declared.cell.Cell.{Cell}
use Rattle.arch_types.specs.declared.cell.Eng.{Eng}
use Rattle.arch_types.specs.declared.cell.Eng.TheVariants.{Fixed, Label, Undef, Whole}
use Rattle.octet_fields.specs.Spelling.{number, signed}
use Rattle.varints.specs.Varint.{is_short, varint}
use Rattle.varints.proofs.Varints.{varint-large, varint-small}
use Rattle.packed_cells.specs.declared.reading.Before.{Before}
use Rattle.packed_cells.specs.Kept.{AreKept, IsSizedCell, IsSizedEng}
use Rattle.packed_cells.specs.Packed.{packed_after, packed_behind, cell_octets, eng_octets, is_raw_near, packed_kind_of, origin, raw_octets, zigzag}
use Rattle.packed_cells.proofs.Again.{IsSizedBefore, short_near, short_of_32, short_of_64, short_row, sized_after, sized_origin}

-- ---- varints

pub varint_first : (n : ℕ) → 1 ≤ length (varint n)
varint_first n = elim (cases_lt n 128) [
  | inl lt ↦ rw (varint-small n lt) (omega arith)
  | inr le ↦ rw (varint-large n le) (omega arith)
]

-- there is room for one octet of a varint that there is room for
pub room_for_one : (initial out : List ℕ) (all rest room : ℕ) → out ++ varint rest ≡ initial ++ varint all → length initial + length (varint all) ≤ room → length out < room
room_for_one initial out all rest room same enough =
    let long : length out + length (varint rest) ≡ length initial + length (varint all) =
    sym (length-append out (varint rest)) ∙ ap length same ∙ length-append initial (varint all) in
    omega (arith, varint_first rest)

-- there is room for the first of two, and behind it for the other
pub room_first : (out first next : List ℕ) (room : ℕ) → length out + length (first ++ next) ≤ room → length out + length first ≤ room
room_first out first next room enough = omega (arith, length-append first next)

pub room_next : (out more first next : List ℕ) (room : ℕ) → more ≡ out ++ first → length out + length (first ++ next) ≤ room → length more + length next ≤ room
room_next out more first next room is enough =
    let long : length more ≡ length out + length first = ap length is ∙ length-append out first in
    omega (arith, length-append first next)

-- the numbers of so many octets and one
abbrev sevens : ℕ → ℕ
sevens zero = 128
sevens (suc more) = 128 * sevens more

varint_room : (more n : ℕ) → n < sevens more → length (varint n) ≤ suc more
varint_room zero n lt = rw (varint-small n lt) (omega arith)
varint_room (suc more) n lt = elim (cases_lt n 128) [
  | inl small ↦ rw (varint-small n small) (omega arith)
  | inr large ↦
      let fewer : n / 128 < sevens more = omega arith in
      rw (varint-large n large) (omega (arith, varint_room more (n / 128) fewer))
]

short_room : (n : ℕ) → is_short n ≡ true → length (varint n) ≤ 14
unfolding is_short
short_room n short = varint_room 13 n (ltb-true n (2 ^ 98) short)

-- ---- cells

number_room : (n : ℕ) → length (number w8 n) ≡ 1
unfolding number
number_room n = refl

signed_room : (z : ℤ) → length (signed w128 z) ≡ 16
unfolding number signed
signed_room z = refl

raw_room : (before raw : ℤ) → length (raw_octets before raw) ≤ 16
raw_room before raw = elim (cases_Bool (is_raw_near before raw)) [
  | inl near ↦ rw near (omega (arith, short_room (zigzag (raw -ℤ before)) (short_near before raw near)))
  | inr far ↦ rw far (omega (arith, signed_room raw))
]

eng_room : (before : ℤ) (eng : Eng) → FitsSigned w64 before → IsSizedEng eng → length (eng_octets before eng) ≤ 14
eng_room before Whole low sized = omega arith
eng_room before Undef low sized = omega arith
eng_room before (Fixed millionths) low sized = short_room (zigzag (millionths -ℤ before)) (short_of_64 before millionths low sized)
eng_room before (Label row) low sized = short_room row (short_row row sized)

pub cell_room : (before : Before) (cell : Cell) → IsSizedBefore before → IsSizedCell cell → length (cell_octets before cell) ≤ 64
unfolding cell_octets
cell_room before cell low sized =
    let kind = number_room (packed_kind_of before cell) in
    let time = short_room (zigzag (cell.key.time -ℤ before.time)) (short_of_64 before.time cell.key.time low.time sized.time) in
    let seq = short_room (zigzag (pos cell.key.seq -ℤ pos before.seq)) (short_of_32 before.seq cell.key.seq low.seq sized.seq) in
    let raw = raw_room before.raw cell.raw in
    let eng = eng_room before.fixed cell.eng low.fixed sized.eng in
    simp length-append (omega (arith, kind, time, seq, raw, eng))

-- what stands before the next of cells is of its widths
sized_behind : (before : Before) (cells : List Cell) → IsSizedBefore before → AllByRecursion IsSizedCell cells → IsSizedBefore (packed_behind before cells)
sized_behind before [] low sized = low
sized_behind before (cell ∷ cells) low sized = sized_behind (packed_after before cell) cells (sized_after before cell low sized.0) sized.1

pub sized_last : (count : ℕ) (octets : List ℕ) (last : Before) → AreKept count octets last → IsSizedBefore last
sized_last count octets last kept = subst IsSizedBefore (sym kept.next) (sized_behind origin kept.cells sized_origin kept.sized)
