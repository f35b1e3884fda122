-- Rows beside their positions.
use Rattle.std.proofs.Common.{◌≡◌, ℕ, zero, suc, ◌+◌, ◌<◌, List, [], ◌∷◌, ◌++◌, length, get_or, take, refl, sym, ap, ◌∙◌, append-nil, add-one, arith}
use Rattle.std.specs.List.{AllByRecursion, flat_map}
use Rattle.std.proofs.Math.Seq.{take-suc}
use Rattle.std.proofs.lemmas.Grind.{flat_map-append}
use Rattle.arch_types.specs.declared.row.Row.{Row}
use Rattle.run_pages.specs.Placed.{Placed, row_placed, placed_rows, rows_of_placed}

pub placed_rows-push : (positions : List ℕ) (rows : List Row) (position : ℕ) (row : Row) → length positions ≡ length rows → placed_rows (positions ++ position ∷ []) (rows ++ row ∷ []) ≡ placed_rows positions rows ++ row_placed position row ∷ []
placed_rows-push [] [] position row beside = refl
placed_rows-push [] (r ∷ rows) position row beside = absurd (omega (arith, beside))
placed_rows-push (p ∷ positions) [] position row beside = absurd (omega (arith, beside))
placed_rows-push (p ∷ positions) (r ∷ rows) position row beside = ap (λ (l : List Placed). row_placed p r ∷ l) (placed_rows-push positions rows position row (omega (arith, beside)))

pub placed_rows_len : (positions : List ℕ) (rows : List Row) → length positions ≡ length rows → length (placed_rows positions rows) ≡ length rows
placed_rows_len [] [] beside = refl
placed_rows_len [] (r ∷ rows) beside = absurd (omega (arith, beside))
placed_rows_len (p ∷ positions) [] beside = absurd (omega (arith, beside))
placed_rows_len (p ∷ positions) (r ∷ rows) beside = ap suc (placed_rows_len positions rows (omega (arith, beside)))

pub rows_back : (positions : List ℕ) (rows : List Row) → length positions ≡ length rows → rows_of_placed (placed_rows positions rows) ≡ rows
rows_back [] [] beside = refl
rows_back [] (r ∷ rows) beside = absurd (omega (arith, beside))
rows_back (p ∷ positions) [] beside = absurd (omega (arith, beside))
rows_back (p ∷ positions) (r ∷ rows) beside = ap (λ (l : List Row). r ∷ l) (rows_back positions rows (omega (arith, beside)))

pub placed_get : (positions : List ℕ) (rows : List Row) (i position : ℕ) (row : Row) (d : Placed) → length positions ≡ length rows → i < length rows → position ≡ get_or positions i 0 → row ≡ get_or rows i row → get_or (placed_rows positions rows) i d ≡ row_placed position row
placed_get [] [] i position row d beside lt p_is r_is = absurd (omega (arith, lt))
placed_get [] (r ∷ rows) i position row d beside lt p_is r_is = absurd (omega (arith, beside))
placed_get (p ∷ positions) [] i position row d beside lt p_is r_is = absurd (omega (arith, lt))
placed_get (p ∷ positions) (r ∷ rows) zero position row d beside lt p_is r_is = ap (λ (q : ℕ). row_placed q r) (sym p_is) ∙ ap (row_placed position) (sym r_is)
placed_get (p ∷ positions) (r ∷ rows) (suc i) position row d beside lt p_is r_is = placed_get positions rows i position row d (omega (arith, beside)) (omega (arith, lt)) p_is r_is

pub all_at : {X : Type 0} (P : X → Type 0) (xs : List X) (i : ℕ) (d : X) → AllByRecursion P xs → i < length xs → P (get_or xs i d)
all_at P [] i d all lt = absurd (omega (arith, lt))
all_at P (x ∷ xs) zero d all lt = all.0
all_at P (x ∷ xs) (suc i) d all lt = all_at P xs i d all.1 (omega (arith, lt))

-- one item more
pub flat_more : {X A : Type 0} (f : X → List A) (xs : List X) (i : ℕ) (x d : X) → i < length xs → get_or xs i d ≡ x → flat_map f (take (i + 1) xs) ≡ flat_map f (take i xs) ++ f x
flat_more f xs i x d lt is =
    ap (λ n. flat_map f (take n xs)) (add-one i)
    ∙ ap (λ l. flat_map f l) (take-suc xs i d lt ∙ ap (λ y. take i xs ++ y ∷ []) is)
    ∙ flat_map-append f (take i xs) (x ∷ [])
    ∙ ap (λ l. flat_map f (take i xs) ++ l) (append-nil (f x))
