-- Packets and rows are read exactly.
use Rattle.std.proofs.Common.{◌≡◌, ℕ, ℤ, pos, negsuc, ◌^◌, ◌<◌, ◌≤◌, Bool, true, false, ltb, leb, not, ◌&&◌, List, ◌++◌, length, length-append, get_or, take, drop, Some, None, refl, sym, ap, subst, ◌∙◌, append_assoc, arith}
use Rattle.std.specs.Int.{w8, w16, w64}
use Rattle.std.specs.Int.RustNames.{FitsSigned}
use Rattle.std.proofs.lemmas.Bool.{ltb-false, le-ltb, leb-true, le-leb}
use Rattle.std.proofs.lemmas.Int.{ints}
use Rattle.std.proofs.lemmas.List.{take-append-drop, length-take, get_or-take, take_at, drop_at}
use Rattle.std.proofs.Math.ListN.{get_or-append}
use Rattle.arch_types.specs.declared.row.Row.{Row}
use Rattle.arch_types.specs.declared.key.Key.{Key}
use Rattle.arch_types.specs.Packet.{IsPacket, packet_length, is_idle}
use Rattle.arch_types.specs.Dump.{BeginsWithNoPacket}
use Rattle.octet_fields.specs.Exact.{IsOctets, IsExact}
use Rattle.octet_fields.specs.Spelling.{number, signed}
use Rattle.octet_fields.proofs.Exact.{one_form, some_is, guard_some, IsExact-both, IsExact-tested, IsExact-mapped}
use Rattle.octet_fields.proofs.Numbers.{exact8, exact16, exact_i64}
use Rattle.row_codec.specs.Block.{IsEndOf}
use Rattle.row_codec.specs.Rows.{IsStored}
use Rattle.text_forms.specs.ClockTime.{IsClockTime, is_clock_time}
use Rattle.row_codec.specs.Spelling.{row_octets}
use Rattle.row_codec.specs.Reading.{RowFields, fields_at, is_stored, packet_at, row_at, row_of_fields}
use Rattle.row_codec.proofs.Ends.{end_behind}

-- ---- packets

pub packet_again : (p rest : List ℕ) → IsPacket p → packet_at (p ++ rest) ≡ Some (p, rest)
unfolding packet_at
packet_again p rest is =
    let header = is.header in
    let version = is.version in
    let whole = is.whole in
    let at0 : get_or (p ++ rest) 0 0 ≡ get_or p 0 0 = get_or-append p rest 0 0 (omega arith) in
    let at4 : get_or (p ++ rest) 4 0 ≡ get_or p 4 0 = get_or-append p rest 0 4 (omega arith) in
    let at5 : get_or (p ++ rest) 5 0 ≡ get_or p 5 0 = get_or-append p rest 0 5 (omega arith) in
    let len : packet_length (p ++ rest) ≡ length p = omega arith in
    let a : ltb (length (p ++ rest)) 7 ≡ false = le-ltb _ _ (omega (arith, length-append p rest)) in
    let b : leb 32 (get_or (p ++ rest) 0 0) ≡ false = grind (arith) in
    let d : ltb (length (p ++ rest)) (packet_length (p ++ rest)) ≡ false = le-ltb _ _ (omega (arith, length-append p rest)) in
    rw (a, b, d, len, take_at p rest (length p) refl, drop_at p rest (length p) refl) refl

is_packet : (octets : List ℕ) (n : ℕ) → n ≡ packet_length octets → get_or octets 0 0 < 32 → n ≤ length octets → IsPacket (take n octets)
is_packet octets n e version whole =
    let at0 : get_or (take n octets) 0 0 ≡ get_or octets 0 0 = get_or-take n octets 0 0 (omega arith) in
    let at4 : get_or (take n octets) 4 0 ≡ get_or octets 4 0 = get_or-take n octets 4 0 (omega arith) in
    let at5 : get_or (take n octets) 5 0 ≡ get_or octets 5 0 = get_or-take n octets 5 0 (omega arith) in
    let len : length (take n octets) ≡ n = omega (arith, length-take n octets) in
    record { header = omega arith; version = omega arith; whole = omega arith }

packet_takes : (octets : List ℕ) (x : List ℕ × List ℕ) → packet_at octets ≡ Some x → (octets ≡ x.0 ++ x.1) × IsPacket x.0
unfolding packet_at
packet_takes octets x e =
    let a = guard_some (ltb (length octets) 7) _ x e in
    let b = guard_some (leb 32 (get_or octets 0 0)) _ x a.1 in
    let d = guard_some (ltb (length octets) (packet_length octets)) _ x b.1 in
    let long : 7 ≤ length octets = ltb-false _ _ a.0 in
    let version : get_or octets 0 0 < 32 = grind (arith) in
    let whole : packet_length octets ≤ length octets = ltb-false _ _ d.0 in
    let n = packet_length octets in
    let is : IsPacket (take n octets) = is_packet octets n refl version whole in
    subst (λ (y : List ℕ × List ℕ). (octets ≡ y.0 ++ y.1) × IsPacket y.0) (some_is (take n octets, drop n octets) x d.1) (sym (take-append-drop n octets), is)

packet_exact : IsExact IsPacket (λ p. p) packet_at
packet_exact = record { takes = λ octets x are e. packet_takes octets x e; again = λ p rest may is. packet_again p rest is }

pub no_packet : (octets : List ℕ) → BeginsWithNoPacket octets → packet_at octets ≡ None
no_packet octets none = elim (packet_at octets) as (λ o. packet_at octets ≡ o → packet_at octets ≡ None) [ None ↦ λ e. e | Some x ↦ λ e. absurd (none x.0 x.1 (packet_takes octets x e).1 (packet_takes octets x e).0) ] refl

-- ---- fields

abbrev pub FieldsFit : RowFields → Type 0
FieldsFit f = (f.0 < 2 ^ 8) × (FitsSigned w64 f.1.0 × ((f.1.1.0 < 2 ^ 8) × ((f.1.1.1.0 < 2 ^ 16) × IsPacket f.1.1.1.1)))

abbrev pub fields_octets : RowFields → List ℕ
fields_octets f = number w8 f.0 ++ (signed w64 f.1.0 ++ (number w8 f.1.1.0 ++ (number w16 f.1.1.1.0 ++ f.1.1.1.1)))

pub fields_exact : IsExact FieldsFit fields_octets fields_at
unfolding fields_at
fields_exact = IsExact-both exact8 (λ _ _. IsExact-both exact_i64 (λ _ _. IsExact-both exact8 (λ _ _. IsExact-both exact16 (λ _ _. packet_exact))))

regroup : (a b d e p rest : List ℕ) → (a ++ (b ++ (d ++ (e ++ p)))) ++ rest ≡ (a ++ (b ++ (d ++ e))) ++ (p ++ rest)
regroup a b d e p rest = simp append_assoc

-- a packet and what follows it are an end of the block of which its row is one
pub packet_end : (block octets : List ℕ) (x : RowFields × List ℕ) → IsOctets octets → IsEndOf octets block → fields_at octets ≡ Some x → IsEndOf (x.0.1.1.1.1 ++ x.1) block
packet_end block octets x are end e =
    let f : RowFields = x.0 in
    let t = fields_exact.takes octets x are e in
    let before : List ℕ = number w8 f.0 ++ (signed w64 f.1.0 ++ (number w8 f.1.1.0 ++ number w16 f.1.1.1.0)) in
    end_behind block before (f.1.1.1.1 ++ x.1) (end.0, end.1 ∙ ap (λ (l : List ℕ). end.0 ++ l) (t.0 ∙ regroup (number w8 f.0) (signed w64 f.1.0) (number w8 f.1.1.0) (number w16 f.1.1.1.0) f.1.1.1.1 x.1))

-- ---- rows

abbrev back : Row → RowFields
back r = (r.table, (r.rectime, (r.link, (r.pname, r.packet))))

and_true : (a b : Bool) → (a && b) ≡ true → (a ≡ true) × (b ≡ true)
and_true true b e = (refl, e)
and_true false b e = absurd cc

not_true : (b : Bool) → not b ≡ true → b ≡ false
not_true true e = absurd cc
not_true false e = refl

clock_true : (time : ℤ) → is_clock_time time ≡ true → IsClockTime time
unfolding is_clock_time
clock_true time h = (grind (arith, ints), grind (arith, ints))

true_clock : (time : ℤ) → IsClockTime time → is_clock_time time ≡ true
unfolding is_clock_time
true_clock time h = let low = h.0 in let high = h.1 in grind (arith, ints)

pub clock_fits : (time : ℤ) → IsClockTime time → FitsSigned w64 time
clock_fits (pos n) h = let high = h.1 in record { sfits = omega (arith, ints) }
clock_fits (negsuc n) h = let low = h.0 in absurd (omega (arith, ints))

there : (f : RowFields) → FieldsFit f × (is_stored f ≡ true) → IsStored (row_of_fields f) × (back (row_of_fields f) ≡ f)
there f h =
    let a = and_true (leb 1 f.1.1.0) (is_clock_time f.1.0 && not (is_idle f.1.1.1.1)) h.1 in
    let b = and_true (is_clock_time f.1.0) (not (is_idle f.1.1.1.1)) a.1 in
    (record { table = h.0.0; rectime = clock_true f.1.0 b.0; link = (leb-true 1 f.1.1.0 a.0, h.0.1.1.0); pname = h.0.1.1.1.0; packet = h.0.1.1.1.1; kept = not_true (is_idle f.1.1.1.1) b.1; key = refl }, refl)

here : (r : Row) → IsStored r → (FieldsFit (back r) × (is_stored (back r) ≡ true)) × (row_of_fields (back r) ≡ r)
here r h =
    let right : is_stored (back r) ≡ true = rw (le-leb 1 r.link h.link.0, true_clock r.rectime h.rectime, h.kept) refl in
    (((h.table, (clock_fits r.rectime h.rectime, (h.link.1, (h.pname, h.packet)))), right), ap (λ (k : Key). record r { key = k }) (sym h.key))

pub row_exact : IsExact IsStored row_octets row_at
unfolding row_octets row_at
row_exact = IsExact-mapped (IsExact-tested fields_exact is_stored) IsStored row_of_fields back there here

-- no row's spelling begins another's
pub one_row : (a b : Row) (behind_a behind_b : List ℕ) → IsStored a → IsStored b → row_octets a ++ behind_a ≡ row_octets b ++ behind_b → (a ≡ b) × (behind_a ≡ behind_b)
one_row a b behind_a behind_b stored_a stored_b e = one_form row_exact a b behind_a behind_b stored_a stored_b e
