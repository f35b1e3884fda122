-- The columns of raw numbers that stand row by row.
use Rattle.std.proofs.Common.{◌≡◌, ℕ, zero, suc, ◌+◌, ◌-◌, ◌*◌, ◌<◌, ◌≤◌, ℤ, pos, List, [], ◌∷◌, ◌++◌, length, take, take_all, drop, get_or, add-one, refl, sym, ap, ◌∙◌, append_assoc, arith}
use Rattle.std.specs.Prelude.{replicate}
use Rattle.std.proofs.Math.Seq.{take-suc}
use Rattle.std.proofs.lemmas.List.{length-drop, length-take-le, get_or-take}
use Rattle.param_segments.specs.GroupContents.{columns_by_rows, every_nth}
use Rattle.param_segments.specs.Groups.{with_raws}

pub more_rows : (n i w : ℕ) → i < n → (n - i) * w ≡ w + (n - (i + 1)) * w
more_rows n i w lt =
    let one : n - i ≡ suc (n - (i + 1)) = omega arith in
    let more : suc (n - (i + 1)) * w ≡ w + (n - (i + 1)) * w = omega arith in
    ap (λ (k : ℕ). k * w) one ∙ more

pub every_nth_more : (column : List ℤ) (j w n i : ℕ) (rest : List ℤ) (d : ℤ) → i < n → j < length rest → column ++ every_nth j w (n - i) rest ≡ (column ++ get_or rest j (pos 0) ∷ []) ++ every_nth j w (n - (i + 1)) (drop w rest)
every_nth_more column j w n i rest d lt inside =
    let one : n - i ≡ suc (n - (i + 1)) = omega arith in
    ap (λ (k : ℕ). column ++ every_nth j w k rest) one ∙ sym (append_assoc column (get_or rest j (pos 0) ∷ []) (every_nth j w (n - (i + 1)) (drop w rest)))

length-with : (rs : List ℤ) (cs : List (List ℤ)) (w : ℕ) → length rs ≡ w → length cs ≡ w → length (with_raws rs cs) ≡ w
length-with [] cs w e f = e
length-with (r ∷ rs) [] w e f = absurd (omega (arith, e, f))
length-with (r ∷ rs) (c ∷ cs) zero e f = absurd (omega (arith, e))
length-with (r ∷ rs) (c ∷ cs) (suc w) e f = ap suc (length-with rs cs w (omega (arith, e)) (omega (arith, f)))

length-nothing : (n : ℕ) → length (replicate {A = List ℤ} n []) ≡ n
length-nothing zero = refl
length-nothing (suc n) = ap suc (length-nothing n)

first_row : (w n : ℕ) (raws : List ℤ) → length raws ≡ suc n * w → length (take w raws) ≡ w
first_row w n raws e = length-take-le w raws (omega arith)

other_rows : (w n : ℕ) (raws : List ℤ) → length raws ≡ suc n * w → length (drop w raws) ≡ n * w
other_rows w n raws e = length-drop w raws ∙ omega arith

pub length-by_rows : (w n : ℕ) (raws : List ℤ) → length raws ≡ n * w → length (columns_by_rows w n raws) ≡ w
length-by_rows w zero raws e = length-nothing w
length-by_rows w (suc n) raws e = length-with (take w raws) (columns_by_rows w n (drop w raws)) w (first_row w n raws e) (length-by_rows w n (drop w raws) (other_rows w n raws e))

at_with : (rs : List ℤ) (cs : List (List ℤ)) (j : ℕ) → j < length rs → length rs ≡ length cs → get_or (with_raws rs cs) j [] ≡ get_or rs j (pos 0) ∷ get_or cs j []
at_with [] cs j lt e = absurd (omega arith)
at_with (r ∷ rs) [] j lt e = absurd (omega arith)
at_with (r ∷ rs) (c ∷ cs) zero lt e = refl
at_with (r ∷ rs) (c ∷ cs) (suc j) lt e = at_with rs cs j (omega arith) (omega arith)

at_nothing : (w j : ℕ) → get_or (replicate {A = List ℤ} w []) j [] ≡ []
at_nothing zero j = refl
at_nothing (suc w) zero = refl
at_nothing (suc w) (suc j) = at_nothing w j

pub column_is : (w n j : ℕ) (raws : List ℤ) → j < w → length raws ≡ n * w → get_or (columns_by_rows w n raws) j [] ≡ every_nth j w n raws
column_is w zero j raws lt e = at_nothing w j
column_is w (suc n) j raws lt e =
    let row = first_row w n raws e in
    let more = other_rows w n raws e in
    let len = length-by_rows w n (drop w raws) more in
    at_with (take w raws) (columns_by_rows w n (drop w raws)) j (omega (arith, row)) (row ∙ sym len)
    ∙ ap (λ (z : ℤ). z ∷ get_or (columns_by_rows w n (drop w raws)) j []) (get_or-take w raws j (pos 0) lt)
    ∙ ap (λ (c : List ℤ). get_or raws j (pos 0) ∷ c) (column_is w n j (drop w raws) lt more)

pub column_step : (w n j : ℕ) (raws : List ℤ) (old new : List (List ℤ)) → j < w → length raws ≡ n * w → new ≡ old ++ every_nth j w n raws ∷ [] → old ≡ take j (columns_by_rows w n raws) → new ≡ take (j + 1) (columns_by_rows w n raws)
column_step w n j raws old new lt e is so_far =
    let all = columns_by_rows w n raws in
    let inside : j < length all = omega (arith, length-by_rows w n raws e) in
    is ∙ ap (λ (xs : List (List ℤ)). xs ++ every_nth j w n raws ∷ []) so_far ∙ ap (λ (c : List ℤ). take j all ++ c ∷ []) (sym (column_is w n j raws lt e))
    ∙ sym (ap (λ (k : ℕ). take k all) (add-one j) ∙ take-suc all j [] inside)

pub columns_done : (w n j : ℕ) (raws : List ℤ) → length raws ≡ n * w → w ≤ j → take j (columns_by_rows w n raws) ≡ columns_by_rows w n raws
columns_done w n j raws e le = take_all j (columns_by_rows w n raws) (omega (arith, length-by_rows w n raws e))
