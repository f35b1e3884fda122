-- A slice of a slice of a list.
use Rattle.std.proofs.Common.{◌≡◌, ℕ, ◌+◌, ◌-◌, ◌≤◌, List, length, take, drop, ◌∙◌, ap, arith, slice_range}
use Rattle.std.proofs.lemmas.List.{take-take, drop-take, drop-drop, length-take, length-drop}

pub slice_of_slice : (xs : List ℕ) (s e from to : ℕ) → from ≤ to → to ≤ e - s → slice_range (slice_range xs s e) from to ≡ slice_range xs (s + from) (s + to)
slice_of_slice xs s e from to h k =
    let cut : e - s ≡ from + (e - s - from) = omega arith in
    let same : s + to - (s + from) ≡ to - from = omega arith in
    let inner : drop from (slice_range xs s e) ≡ take (e - s - from) (drop (s + from) xs) =
    ap (λ (n : ℕ). drop from (take n (drop s xs))) cut ∙ drop-take from (e - s - from) (drop s xs) ∙ ap (take (e - s - from)) (drop-drop from s xs) in
    rw (inner, take-take (to - from) (e - s - from) (drop (s + from) xs) (omega arith), same)

pub slice_length : (xs : List ℕ) (s e : ℕ) → s ≤ e → e ≤ length xs → length (slice_range xs s e) ≡ e - s
slice_length xs s e h k =
    rw (length-take (e - s) (drop s xs), length-drop s xs) (omega arith)
