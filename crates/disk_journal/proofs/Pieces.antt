-- What a piece of a file tells of the file.
use Rattle.std.proofs.Common.{◌≡◌, ℕ, ◌+◌, ◌-◌, ◌≤◌, Bool, true, false, List, [], ◌++◌, length, get_or, take, drop, refl, sym, ◌∙◌, ap, arith, length-drop, take-append-drop}
use Rattle.std.specs.Prelude.{nat_lt, if◌then◌else◌}
use Rattle.std.proofs.lemmas.Bool.Decides.{nat_tests}
use Rattle.std.proofs.lemmas.List.{append-nil, take_at, take_all, drop_all, drop-drop, take-take, get_or-take, get_or-drop, length-take-le}
use Rattle.std.proofs.lemmas.Slice.{between_is}
use Rattle.disk_journal.specs.PieceReader.{held_from, piece_octets, IsPieceOf}
use Rattle.disk_journal.specs.declared.piece_reader.PieceReader.{PieceReader}

part_of : (behind : Bool) (begin at : ℕ) (piece content : List ℕ) → (behind ≡ false → begin ≤ at) → piece ≡ take (length piece) (drop begin content) → let part = if behind then [] else drop (at - begin) piece in part ≡ take (length part) (drop at content)
part_of true begin at piece content from is = refl
part_of false begin at piece content from is =
    let skipped = at - begin in
    let left = length piece - skipped in
    let place : begin + skipped ≡ at = omega (arith, from refl) in
    let there : drop skipped (drop begin content) ≡ drop at content = drop-drop skipped begin content ∙ ap (λ (n : ℕ). drop n content) place in
    let part : drop skipped piece ≡ take left (drop at content) = ap (drop skipped) is ∙ sym (between_is (drop begin content) skipped (length piece)) ∙ ap (take left) there in
    part ∙ ap (λ (n : ℕ). take n (drop at content)) (sym (length-drop skipped piece))

not_behind : (at begin : ℕ) → nat_lt at begin ≡ false → begin ≤ at
not_behind at begin e = grind (arith, nat_tests)

-- what the piece holds from a place on is what stands there in the file
pub held_is : (reader : PieceReader) (content : List ℕ) (at : ℕ) → IsPieceOf reader content → held_from reader at ≡ take (length (held_from reader at)) (drop at content)
held_is reader content at is = part_of (nat_lt at reader.at) reader.at at (piece_octets reader.piece) content (not_behind at reader.at) is

-- at its own place it holds all
pub held_at : (reader : PieceReader) (at : ℕ) → reader.at ≡ at → held_from reader at ≡ piece_octets reader.piece
held_at reader at is = grind (arith, nat_tests)

-- the first of the octets that stand at a place
pub first_is : (held content : List ℕ) (at : ℕ) → held ≡ take (length held) (drop at content) → 1 ≤ length held → get_or held 0 0 ≡ get_or content at 0
first_is held content at is some = ap (λ (l : List ℕ). get_or l 0 0) is ∙ get_or-take (length held) (drop at content) 0 0 some ∙ get_or-drop at content 0 0 ∙ ap (λ (n : ℕ). get_or content n 0) (let same : at + 0 ≡ at = omega arith in same)

-- the first few of them
pub first_of : (held content : List ℕ) (at size : ℕ) → held ≡ take (length held) (drop at content) → size ≤ length held → take size held ≡ take size (drop at content)
first_of held content at size is some = ap (take size) is ∙ take-take size (length held) (drop at content) some

-- they and what stands behind them
pub all_of : (held content rest : List ℕ) (at size : ℕ) → held ≡ take (length held) (drop at content) → length held ≤ size → rest ≡ take (size - length held) (drop (at + length held) content) → held ++ rest ≡ take size (drop at content)
all_of held content rest at size is some rest_is =
    let there = drop at content in
    let front : held ≡ take (length held) (take size there) = is ∙ sym (take-take (length held) size there some) in
    let back : rest ≡ drop (length held) (take size there) = rest_is ∙ ap (take (size - length held)) (sym (drop-drop (length held) at content)) ∙ between_is there (length held) size in
    ap (λ (l : List ℕ). l ++ rest) front ∙ ap (λ (l : List ℕ). take (length held) (take size there) ++ l) back ∙ take-append-drop (length held) (take size there)

-- a read of as many octets as stand behind a front
pub as_many : (octets read there : List ℕ) (front size : ℕ) → length octets ≡ size → read ≡ take (length (take (length octets - front) (drop front octets))) there → read ≡ take (size - front) there
as_many octets read there front size long is =
    let wanted : length (take (length octets - front) (drop front octets)) ≡ size - front = length-take-le (length octets - front) (drop front octets) (omega (arith, length-drop front octets)) ∙ ap (λ (n : ℕ). n - front) long in
    is ∙ ap (λ (n : ℕ). take n there) wanted

-- what stands in a run of octets whose rest was read behind its front
pub rest_read : (held content octets rest behind : List ℕ) (at size n : ℕ) → held ≡ take (length held) (drop at content) → length held ≤ size → length octets ≡ size → n ≡ size → take (length held) octets ≡ held
    → rest ≡ take (size - length held) (drop (at + length held) content) → at + size ≤ length content
    → take n (take (length held) octets ++ (rest ++ drop (length octets - length held) (drop (length held) octets)) ++ behind) ≡ take size (drop at content)
rest_read held content octets rest behind at size n is some long n_is front rest_is inside =
    let none : drop (length octets - length held) (drop (length held) octets) ≡ [] = drop_all (length octets - length held) (drop (length held) octets) (omega (arith, length-drop (length held) octets)) in
    let whole : held ++ rest ≡ take size (drop at content) = all_of held content rest at size is some rest_is in
    let n_long : length (held ++ rest) ≡ n = ap length whole ∙ length-take-le size (drop at content) (omega (arith, length-drop at content)) ∙ sym n_is in
    ap (λ (l : List ℕ). take n (take (length held) octets ++ (rest ++ l) ++ behind)) none
    ∙ ap (λ (l : List ℕ). take n (take (length held) octets ++ l ++ behind)) (append-nil rest)
    ∙ ap (λ (l : List ℕ). take n (l ++ rest ++ behind)) front
    ∙ take_at (held ++ rest) behind n n_long
    ∙ whole

-- a vector that begins with octets, and is then filled up, keeps them
pub filled_up : (held empty made begun filled octets more : List ℕ) (n : ℕ) → empty ≡ [] → made ≡ empty → begun ≡ made ++ held → filled ≡ take n begun ++ more → octets ≡ filled → length held ≤ n → take (length held) octets ≡ held
filled_up held empty made begun filled octets more n none made_is begun_is filled_is octets_is some =
    let begins : begun ≡ held = begun_is ∙ ap (λ (l : List ℕ). l ++ held) (made_is ∙ none) in
    let kept : take n begun ≡ held = ap (take n) begins ∙ take_all n held some in
    ap (take (length held)) (octets_is ∙ filled_is ∙ ap (λ (l : List ℕ). l ++ more) kept) ∙ take_at held more (length held) refl
