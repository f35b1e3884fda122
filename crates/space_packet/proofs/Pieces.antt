-- Pieces in a row, and a place in the first of them.
use Rattle.std.proofs.Common.{◌≡◌, ℕ, ◌+◌, ◌-◌, ◌<◌, ◌≤◌, min, List, [], ◌∷◌, ◌++◌, length, take, drop, append-nil, append_assoc, length-append, sym, ◌∙◌, ap, ⊎_elim, arith}
use Rattle.std.specs.Prelude.{slice_index_or, slice_range}
use Rattle.std.specs.List.{concat}
use Rattle.std.proofs.Math.Seq.{take-append-add, drop-append-add}
use Rattle.std.proofs.lemmas.Bool.{cases_lt}
use Rattle.std.proofs.lemmas.List.{take-append-le, drop-append-le, take_all, length-take, length-drop}
use Rattle.std.proofs.lemmas.List.Folds.{concat-append}
use Rattle.space_packet.specs.Pieces.{StartsInFirst, HoldsWaiting}
use Rattle.space_packet.proofs.Cuts.{range_is}

-- a list that has a first item
pub first_and_more : {A : Type 0} (xs : List A) (x : A) → 0 < length xs → x ≡ slice_index_or xs 0 x → xs ≡ x ∷ drop 1 xs
first_and_more [] x some e = absurd (omega arith)
first_and_more (y ∷ ys) x some e = ap (λ first. first ∷ ys) (sym e)

pub start_within : (pieces : List (List ℕ)) (start : ℕ) → StartsInFirst pieces start → start ≤ length (concat pieces)
start_within [] start h = omega arith
start_within (piece ∷ more) start h = omega (arith, length-append piece (concat more))

-- one piece more
pub octets_more : (pieces : List (List ℕ)) (piece : List ℕ) (start : ℕ) → start ≤ length (concat pieces) →
    drop start (concat (pieces ++ piece ∷ [])) ≡ drop start (concat pieces) ++ piece
octets_more pieces piece start h = rw (concat-append pieces (piece ∷ []), append-nil piece) (drop-append-le start (concat pieces) piece h)

first_more : (pieces : List (List ℕ)) (piece : List ℕ) (start : ℕ) → StartsInFirst pieces start → 0 < length piece → StartsInFirst (pieces ++ piece ∷ []) start
first_more [] piece start h some = omega arith
first_more (first ∷ more) piece start h some = h

pub holds_more : (pieces : List (List ℕ)) (piece : List ℕ) (start at fed : ℕ) → HoldsWaiting pieces start at fed → 0 < length piece →
    HoldsWaiting (pieces ++ piece ∷ []) start at (fed + length piece)
holds_more pieces piece start at fed h some = record {
  first = first_more pieces piece start h.first some;
  short = h.short;
  count =
      let sum = length-append (drop start (concat pieces)) piece in
      let count = h.count in
      rw (octets_more pieces piece start (start_within pieces start h.first)) (omega arith);
}

-- what waits in the first piece, and what behind it
pub octets_of_first : (pieces : List (List ℕ)) (piece : List ℕ) (more : List (List ℕ)) (start : ℕ) → pieces ≡ piece ∷ more → start ≤ length piece →
    drop start (concat pieces) ≡ drop start piece ++ concat more
octets_of_first pieces piece more start e h = rw e (drop-append-le start piece (concat more) h)

-- of the octets from place s on, the first k: the n of them in the first piece, from its octet f on, and the others behind it
ahead_within : (piece behind : List ℕ) (s k n : ℕ) → s ≤ length piece → n ≡ min (length piece - s) k →
    take k (drop s (piece ++ behind)) ≡ take n (drop s piece) ++ take (k - n) behind
ahead_within piece behind s k n h is = ⊎_elim inside across (cases_lt k (length piece - s)) where
  inside : k < length piece - s → take k (drop s (piece ++ behind)) ≡ take n (drop s piece) ++ take (k - n) behind
  inside lt =
      let here : n ≡ k = omega arith in
      let none : k - n ≡ 0 = omega arith in
      let long : k ≤ length (drop s piece) = rw (length-drop s piece) (omega arith) in
      rw (drop-append-le s piece behind h, none, here, append-nil (take k (drop s piece))) (take-append-le k (drop s piece) behind long)

  across : length piece - s ≤ k → take k (drop s (piece ++ behind)) ≡ take n (drop s piece) ++ take (k - n) behind
  across le =
      let size : length (drop s piece) ≡ n = rw (length-drop s piece) (omega arith) in
      let sum : length (drop s piece) + (k - n) ≡ k = omega arith in
      let split : take (length (drop s piece) + (k - n)) (drop s piece ++ behind) ≡ drop s piece ++ take (k - n) behind = take-append-add (drop s piece) behind (k - n) in
      rw (drop-append-le s piece behind h, take_all n (drop s piece) (omega arith)) (ap (λ m. take m (drop s piece ++ behind)) (sym sum) ∙ split)

pub ahead : (piece behind : List ℕ) (s f k n : ℕ) → f ≡ min s (length piece) → n ≡ min (length piece - f) k →
    take k (drop s (piece ++ behind)) ≡ take n (drop f piece) ++ take (k - n) (drop (s - f) behind)
ahead piece behind s f k n from is = ⊎_elim inside across (cases_lt (length piece) s) where
  inside : length piece < s → take k (drop s (piece ++ behind)) ≡ take n (drop f piece) ++ take (k - n) (drop (s - f) behind)
  inside lt =
      let whole : f ≡ length piece = omega arith in
      let none : n ≡ 0 = omega arith in
      let all : k - n ≡ k = omega arith in
      let sum : length piece + (s - f) ≡ s = omega arith in
      let passed : drop (length piece + (s - f)) (piece ++ behind) ≡ drop (s - f) behind = drop-append-add piece behind (s - f) in
      rw (all, none) (ap (λ m. take k (drop m (piece ++ behind))) (sym sum) ∙ ap (take k) passed)

  across : s ≤ length piece → take k (drop s (piece ++ behind)) ≡ take n (drop f piece) ++ take (k - n) (drop (s - f) behind)
  across le =
      let here : f ≡ s = omega arith in
      let none : s - f ≡ 0 = omega arith in
      rw (none, here) (ahead_within piece behind s k n le (omega arith))

-- some octets of the first piece are added to those that were put together
pub gathered : (octets piece new whole : List ℕ) (rest more : List (List ℕ)) (s f n count : ℕ) → rest ≡ piece ∷ more → length octets ≤ count →
    f ≡ min s (length piece) → n ≡ min (length piece - f) (count - length octets) → octets ++ take (count - length octets) (drop s (concat rest)) ≡ whole →
    new ≡ octets ++ slice_range piece f (f + n) → (length new ≤ count) × (new ++ take (count - length new) (drop (s - f) (concat more)) ≡ whole)
gathered octets piece new whole rest more s f n count is within from taken before put = (omega (arith, size), joined) where
  added : new ≡ octets ++ take n (drop f piece)
  added = put ∙ ap (λ part. octets ++ part) (range_is piece f n)

  size : length new ≡ length octets + n
  size =
      let part : length (take n (drop f piece)) ≡ n = rw (length-take n (drop f piece), length-drop f piece) (omega arith) in
      let sum = length-append octets (take n (drop f piece)) in
      rw added (omega arith)

  joined : new ++ take (count - length new) (drop (s - f) (concat more)) ≡ whole
  joined =
      let left : count - length new ≡ count - length octets - n = omega (arith, size) in
      let ahead_is = ahead piece (concat more) s f (count - length octets) n from taken in
      let all : octets ++ take (count - length octets) (drop s (piece ++ concat more)) ≡ whole =
      ap (λ ps. octets ++ take (count - length octets) (drop s (concat ps))) (sym is) ∙ before in
      rw (left, added, append_assoc octets (take n (drop f piece)) (take (count - length octets - n) (drop (s - f) (concat more))), ← ahead_is) all
