-- A segment's rows are the rows that it was segment_by_rows of.
use Rattle.std.proofs.Common.{◌≡◌, ℕ, zero, suc, ℤ, Bool, true, false, eqb, List, [], ◌∷◌, ◌++◌, length, map, refl, sym, ap, ◌∙◌, append_assoc, append-nil, arith}
use Rattle.std.specs.Prelude.{flat_map, fold, replicate, if◌then◌else◌}
use Rattle.std.specs.List.{AllByRecursion}
use Rattle.std.proofs.lemmas.List.{length-map}
use Rattle.std.proofs.lemmas.List.Concat.{flat_map-append}
use Rattle.param_segments.specs.Rows.{SetRow, row_parameters, row_raws}
use Rattle.param_segments.specs.Groups.{Pieces, with_next_row, cut_rows, row_pieces, with_raws, raw_columns, segment_of}
use Rattle.param_segments.specs.Segments.{column_head, column_tail, values_from, rows_from, rows_of_segment}
use Rattle.container_extract.specs.declared.values.RawValue.{RawValue}

values_again : (vs : List RawValue) → values_from (map (λ v. v.parameter) vs) (map (λ v. v.raw) vs) ≡ vs
values_again [] = refl
values_again (v ∷ vs) = ap (λ (ws : List RawValue). v ∷ ws) (values_again vs)

firsts_again : (rs : List ℤ) (cs : List (List ℤ)) → length rs ≡ length cs → map column_head (with_raws rs cs) ≡ rs
firsts_again [] cs e = refl
firsts_again (r ∷ rs) [] e = absurd (omega arith)
firsts_again (r ∷ rs) (c ∷ cs) e = ap (λ (xs : List ℤ). r ∷ xs) (firsts_again rs cs (omega arith))

rests_again : (rs : List ℤ) (cs : List (List ℤ)) → length rs ≡ length cs → map column_tail (with_raws rs cs) ≡ cs
rests_again [] [] e = refl
rests_again [] (c ∷ cs) e = absurd (omega arith)
rests_again (r ∷ rs) [] e = absurd (omega arith)
rests_again (r ∷ rs) (c ∷ cs) e = ap (λ (xs : List (List ℤ)). c ∷ xs) (rests_again rs cs (omega arith))

length-replicate : {X : Type 0} (n : ℕ) (x : X) → length (replicate n x) ≡ n
length-replicate zero x = refl
length-replicate (suc n) x = ap suc (length-replicate n x)

length-with_raws : (rs : List ℤ) (cs : List (List ℤ)) → length rs ≡ length cs → length (with_raws rs cs) ≡ length cs
length-with_raws [] [] e = refl
length-with_raws [] (c ∷ cs) e = absurd (omega arith)
length-with_raws (r ∷ rs) [] e = absurd (omega arith)
length-with_raws (r ∷ rs) (c ∷ cs) e = ap suc (length-with_raws rs cs (omega arith))

-- each row is of the group
abbrev pub AreOf : List ℕ → List SetRow → Type 0
AreOf g rows = AllByRecursion (λ t. row_parameters t ≡ g) rows

pub raws_fit : (g : List ℕ) (t : SetRow) → row_parameters t ≡ g → length (row_raws t) ≡ length g
raws_fit g t is = length-map t.values (λ v. v.raw) ∙ sym (length-map t.values (λ v. v.parameter)) ∙ ap length is

pub length-columns : (g : List ℕ) (rows : List SetRow) → AreOf g rows → length (raw_columns (length g) rows) ≡ length g
length-columns g [] are = length-replicate (length g) []
length-columns g (t ∷ ts) are =
    let more = length-columns g ts are.1 in
    length-with_raws (row_raws t) (raw_columns (length g) ts) (raws_fit g t are.0 ∙ sym more) ∙ more

pub rows_again : (g : List ℕ) (rows : List SetRow) → AreOf g rows → rows_of_segment (segment_of g rows) ≡ rows
rows_again g [] are = refl
rows_again g (t ∷ ts) are =
    let cs = raw_columns (length g) ts in
    let fits : length (row_raws t) ≡ length cs = raws_fit g t are.0 ∙ sym (length-columns g ts are.1) in
    let values : values_from g (map column_head (with_raws (row_raws t) cs)) ≡ t.values = ap (values_from g) (firsts_again (row_raws t) cs fits) ∙ ap (λ (h : List ℕ). values_from h (row_raws t)) (sym are.0) ∙ values_again t.values in
    let others : rows_from g (map (λ u. u.key) ts) (map column_tail (with_raws (row_raws t) cs)) ≡ ts = ap (rows_from g (map (λ u. u.key) ts)) (rests_again (row_raws t) cs fits) ∙ rows_again g ts are.1 in
    ap (λ (vs : List RawValue). let u : SetRow = record { key = t.key; values = vs } in u ∷ rows_from g (map (λ u. u.key) ts) (map column_tail (with_raws (row_raws t) cs))) values
    ∙ ap (λ (us : List SetRow). t ∷ us) others

-- ---- pieces

abbrev pub flat : List (List SetRow) → List SetRow
flat pieces = flat_map (λ p. p) pieces

abbrev joined : Pieces → List SetRow
joined p = flat p.full ++ p.last

joined_row : (p : Pieces) (t : SetRow) (b : Bool) → joined (if b then record { full = p.full ++ p.last ∷ []; last = t ∷ [] } else record { full = p.full; last = p.last ++ t ∷ [] }) ≡ joined p ++ t ∷ []
joined_row p t true =
    ap (λ (xs : List SetRow). xs ++ t ∷ []) (flat_map-append (λ p. p) p.full (p.last ∷ []) ∙ ap (λ (xs : List SetRow). flat p.full ++ xs) (append-nil p.last))
joined_row p t false = sym (append_assoc (flat p.full) p.last (t ∷ []))

joined_fold : (p : Pieces) (rows : List SetRow) → joined (fold with_next_row p rows) ≡ joined p ++ rows
joined_fold p [] = sym (append-nil (joined p))
joined_fold p (t ∷ ts) =
    joined_fold (with_next_row p t) ts ∙ ap (λ (xs : List SetRow). xs ++ ts) (joined_row p t (eqb (length p.last) 4096)) ∙ append_assoc (joined p) (t ∷ []) ts

-- the pieces joined are the rows
pub pieces_joined : (rows : List SetRow) → flat (row_pieces rows) ≡ rows
pieces_joined rows =
    flat_map-append (λ p. p) (cut_rows rows).full ((cut_rows rows).last ∷ []) ∙ ap (λ (xs : List SetRow). flat (cut_rows rows).full ++ xs) (append-nil (cut_rows rows).last)
    ∙ joined_fold (record { full = []; last = [] }) rows

pub split_left : (P : SetRow → Type 0) (xs ys : List SetRow) → AllByRecursion P (xs ++ ys) → AllByRecursion P xs × AllByRecursion P ys
split_left P [] ys all = (tt, all)
split_left P (x ∷ xs) ys all = let more = split_left P xs ys all.1 in ((all.0, more.0), more.1)

pub pieces_again : (g : List ℕ) (pieces : List (List SetRow)) → AreOf g (flat pieces) → flat_map rows_of_segment (map (segment_of g) pieces) ≡ flat pieces
pieces_again g [] are = refl
pieces_again g (p ∷ ps) are =
    let both = split_left (λ t. row_parameters t ≡ g) p (flat ps) are in
    ap (λ (xs : List SetRow). xs ++ flat_map rows_of_segment (map (segment_of g) ps)) (rows_again g p both.0)
    ∙ ap (λ (xs : List SetRow). p ++ xs) (pieces_again g ps both.1)
