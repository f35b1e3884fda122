-- Positions that were told, and their flags.
use Rattle.std.proofs.Common.{◌≡◌, ◌⊎◌, inl, inr, ◌<◌, ◌≤◌, ℕ, zero, suc, List, [], ◌∷◌, ◌++◌, length, get_or, set, replicate, leb, Bool, true, false, true≢false, refl, sym, ◌∙◌, ap, subst, append_assoc, append-nil, length-append, arith}
use Rattle.std.specs.Prelude.{◌↔◌, nat_eq, not, ◌||◌}
use Rattle.std.specs.List.{AllByRecursion, IsDistinct, list_any}
use Rattle.std.proofs.Math.ListN.{length-set}
use Rattle.std.proofs.lemmas.Bool.{eqb-true}
use Rattle.std.proofs.lemmas.Bool.Decides.{nat_tests}
use Rattle.std.proofs.lemmas.Cmp.{nat_eq_equiv}
use Rattle.std.proofs.lemmas.List.{get_or-set_same, get_or-set_other, length-replicate}
use Rattle.std.proofs.lemmas.List.Folds.{list_any-append}
use Rattle.std.proofs.lemmas.Map.Keys.{IsDistinct-head, IsDistinct-push, IsDistinct-tail}
use Rattle.std.proofs.lemmas.Map.Steps.{length-le_from_distinct_below, le-length_from_below}
use Rattle.archive_history.specs.RowLimits.{row_limit}
use Rattle.archive_history.specs.declared.row_limit.RowLimit.TheVariants.{Rows}
use Rattle.sealed_images.specs.Verdict.{ArePositions}
use Rattle.sealed_opening.specs.Positions.{AreFlagsOf, HaveFlags}
use Rattle.sealed_opening.specs.declared.positions.PositionFlags.{PositionFlags}

-- ---- lists

at_split : (P : ℕ → Type 0) (told : List ℕ) (p : ℕ) (more : List ℕ) → AllByRecursion P (told ++ p ∷ more) → P p
at_split P [] p more all = all.0
at_split P (x ∷ told) p more all = at_split P told p more all.1

all_push : (P : ℕ → Type 0) (told : List ℕ) (p : ℕ) → AllByRecursion P told → P p → AllByRecursion P (told ++ p ∷ [])
all_push P [] p all here = (here, tt)
all_push P (x ∷ told) p all here = (all.0, all_push P told p all.1 here)

-- a position that stands among distinct ones doesn't stand before
not_before : (told : List ℕ) (p : ℕ) (more : List ℕ) → IsDistinct nat_eq (told ++ p ∷ more) → list_any (nat_eq p) told ≡ false
not_before [] p more distinct = refl
not_before (x ∷ told) p more distinct =
    let apart : nat_eq x p ≡ false = at_split (λ y. nat_eq x y ≡ false) told p more (IsDistinct-head nat_eq x (told ++ p ∷ more) distinct) in
    let other : nat_eq p x ≡ false = nat_eq_equiv.symm p x ∙ apart in
    rw other (not_before told p more (IsDistinct-tail nat_eq x (told ++ p ∷ more) distinct))

below_of : (told : List ℕ) (n q : ℕ) → AllByRecursion (λ p. p < n) told → list_any (nat_eq q) told ≡ true → q < n
below_of [] n q all has = absurd (true≢false (sym has))
below_of (x ∷ told) n q all has = by (nat_eq q x) refl (below_of told n q all.1)
  where
    by : (b : Bool) → nat_eq q x ≡ b → (list_any (nat_eq q) told ≡ true → q < n) → q < n
    by true is rest = let same : q ≡ x = eqb-true q x is in omega (arith, same, all.0)
    by false is rest = rest (rw is at has)

-- ---- flags

later : (a b : Bool) → (a || b) ≡ false → b ≡ false
later true b e = absurd (true≢false e)
later false b e = e

-- all of them are true
flags_true : (test : Bool → Bool) (flags : List Bool) (i : ℕ) → test false ≡ true → list_any test flags ≡ false → i < length flags → get_or flags i false ≡ true
flags_true test [] i is none within = absurd (omega (arith, within))
flags_true test (false ∷ flags) i is none within = absurd (true≢false (rw is at none))
flags_true test (true ∷ flags) zero is none within = refl
flags_true test (true ∷ flags) (suc i) is none within = flags_true test flags i is (later (test true) (list_any test flags) none) (omega (arith, within))

none_false : (test : Bool → Bool) (flags : List Bool) → test true ≡ false → ((i : ℕ) → i < length flags → get_or flags i false ≡ true) → list_any test flags ≡ false
none_false test [] is each = refl
none_false test (f ∷ flags) is each =
    let first : f ≡ true = each 0 (omega arith) in
    let here : test f ≡ false = ap test first ∙ is in
    rw here (none_false test flags is (λ i within. each (suc i) (omega (arith, within))))

-- ---- no position

unset : (n i : ℕ) → get_or (replicate n false) i false ≡ false
unset zero i = refl
unset (suc n) zero = refl
unset (suc n) (suc i) = unset n i

none_distinct : IsDistinct nat_eq []
unfolding IsDistinct
none_distinct = tt

-- a limit isn't few and too many
pub not_too_many : (limit : ℕ) → leb limit (row_limit Rows) ≡ true → 4194304 < limit → ⊥
not_too_many limit few many =
    let less : leb limit 4194304 ≡ true = few in
    let is : limit ≤ 4194304 = grind (arith, nat_tests, less) in
    omega (arith, is, many)

pub none_told : (limit : ℕ) (kept : PositionFlags) → kept.once ≡ leb limit (row_limit Rows) → (kept.once ≡ true → kept.flags.items ≡ replicate limit false) → AreFlagsOf limit [] kept
none_told limit kept few items = record {
  flags = λ on. record {
    few = let is : leb limit (row_limit Rows) ≡ true = sym few ∙ on in grind (arith, nat_tests, is);
    once = none_distinct;
    below = tt;
    len = ap length (items on) ∙ length-replicate limit false;
    flagged = λ p. ap (λ (l : List Bool). get_or l p false) (items on) ∙ unset limit p;
  };
  broken = λ off more within all. let is : leb limit (row_limit Rows) ≡ false = sym few ∙ off in absurd (grind (arith, nat_tests, is, within));
}

-- ---- one position more

pub flag_more : (limit position : ℕ) (told : List ℕ) (flags : List Bool) → HaveFlags limit told flags → position < length flags → get_or flags position false ≡ false → HaveFlags limit (told ++ position ∷ []) (set flags position true)
flag_more limit position told flags have within unset = record {
  few = have.few;
  once = IsDistinct-push nat_eq_equiv told position have.once (sym (have.flagged position) ∙ unset);
  below = all_push (λ p. p < limit) told position have.below (omega (arith, within, have.len));
  len = length-set flags position true ∙ have.len;
  flagged = λ p. by p (nat_eq p position) refl;
}
  where
    by : (p : ℕ) (b : Bool) → nat_eq p position ≡ b → get_or (set flags position true) p false ≡ list_any (nat_eq p) (told ++ position ∷ [])
    by p true is =
        let same : p ≡ position = eqb-true p position is in
        rw (list_any-append (nat_eq p) told (position ∷ []), is)
        (subst (λ (q : ℕ). get_or (set flags position true) q false ≡ (list_any (nat_eq p) told || true)) (sym same)
        (get_or-set_same flags position true false within ∙ any_or_true (list_any (nat_eq p) told)))
      where
        any_or_true : (b : Bool) → true ≡ (b || true)
        any_or_true true = refl
        any_or_true false = refl
    by p false is =
        rw (list_any-append (nat_eq p) told (position ∷ []), is)
        (get_or-set_other flags position p true false (λ same. true≢false (let yes : nat_eq p p ≡ true = nat_eq_equiv.refl p in sym yes ∙ ap (nat_eq p) same ∙ is)) ∙ have.flagged p ∙ or_false (list_any (nat_eq p) told))
      where
        or_false : (b : Bool) → b ≡ (b || false)
        or_false true = refl
        or_false false = refl

pub flag_noted : (limit position : ℕ) (told : List ℕ) (kept now : PositionFlags) → AreFlagsOf limit told kept → position < length kept.flags.items → get_or kept.flags.items position false ≡ false → now.once ≡ kept.once → now.flags.items ≡ set kept.flags.items position true
    → AreFlagsOf limit (told ++ position ∷ []) now
flag_noted limit position told kept now are within unset once flags = record {
  flags = λ on. subst (HaveFlags limit (told ++ position ∷ [])) (sym flags) (flag_more limit position told kept.flags.items (are.flags (sym once ∙ on)) within unset);
  broken = λ off more few all. are.broken (sym once ∙ off) (position ∷ more) few (subst (λ (l : List ℕ). ArePositions l limit) (append_assoc told (position ∷ []) more) all);
}

-- with positions of which one isn't below the limit or was told twice, none behind them make it good
pub flag_broken : (limit position : ℕ) (told : List ℕ) (kept now : PositionFlags) → AreFlagsOf limit told kept → now.once ≡ false → (kept.once ≡ true → length kept.flags.items ≤ position ⊎ (get_or kept.flags.items position false ≡ true)) → AreFlagsOf limit (told ++ position ∷ []) now
flag_broken limit position told kept now are off bad = record {
  flags = λ on. absurd (true≢false (sym on ∙ off));
  broken = λ no more few all. none more few (subst (λ (l : List ℕ). ArePositions l limit) (append_assoc told (position ∷ []) more) all) kept.once refl;
}
  where
    none : (more : List ℕ) → limit ≤ row_limit Rows → ArePositions (told ++ position ∷ more) limit → (b : Bool) → kept.once ≡ b → ⊥
    none more few all false was = are.broken was (position ∷ more) few all
    none more few all true was = by (bad was)
      where
        by : length kept.flags.items ≤ position ⊎ (get_or kept.flags.items position false ≡ true) → ⊥
        by (inl above) = omega (arith, above, (are.flags was).len, at_split (λ p. p < limit) told position more all.below)
        by (inr set) = true≢false (sym set ∙ (are.flags was).flagged position ∙ not_before told position more all.once)

-- ---- all of them

pub all_told : (limit : ℕ) (told : List ℕ) (kept : PositionFlags) (test : Bool → Bool) → test false ≡ true → AreFlagsOf limit told kept → kept.once ≡ true → list_any test kept.flags.items ≡ false → (limit ≤ row_limit Rows) × ArePositions told limit
all_told limit told kept test is are on none =
    let have = are.flags on in
    let each : (q : ℕ) → q < limit → list_any (nat_eq q) told ≡ true =
    λ q below. sym (have.flagged q) ∙ flags_true test kept.flags.items q is none (omega (arith, below, have.len)) in
    let least : limit ≤ length told = le-length_from_below told limit each in
    let most : length told ≤ limit = length-le_from_distinct_below told limit have.once (λ q has. below_of told limit q have.below has) in
    (have.few, record { once = have.once; below = have.below; all = omega (arith, least, most) })

pub told_all : (limit : ℕ) (told : List ℕ) (kept : PositionFlags) (test : Bool → Bool) → test true ≡ false → AreFlagsOf limit told kept → (limit ≤ row_limit Rows) × ArePositions told limit → (kept.once ≡ true) × (list_any test kept.flags.items ≡ false)
told_all limit told kept test is are all = by kept.once refl
  where
    by : (b : Bool) → kept.once ≡ b → (kept.once ≡ true) × (list_any test kept.flags.items ≡ false)
    by false off = absurd (are.broken off [] all.0 (subst (λ (l : List ℕ). ArePositions l limit) (sym (append-nil told)) all.1))
    by true on = (on, none_false test kept.flags.items is (λ q within. (have.flagged q) ∙ has q (omega (arith, within, have.len)) (list_any (nat_eq q) told) refl))
      where
        have : HaveFlags limit told kept.flags.items
        have = are.flags on

        -- with another one below the limit they would be too many
        has : (q : ℕ) → q < limit → (b : Bool) → list_any (nat_eq q) told ≡ b → list_any (nat_eq q) told ≡ true
        has q below true is = is
        has q below false is =
            let most : length (told ++ q ∷ []) ≤ limit = length-le_from_distinct_below (told ++ q ∷ []) limit (IsDistinct-push nat_eq_equiv told q all.1.once is)
            (λ r there. below_of (told ++ q ∷ []) limit r (all_push (λ p. p < limit) told q all.1.below below) there) in
            absurd (omega (arith, most, length-append told (q ∷ []), all.1.all))

not_found : (b : Bool) → not b ≡ true → b ≡ false
not_found true off = absurd (true≢false (sym off))
not_found false off = refl

not_there : (b : Bool) → b ≡ false → not b ≡ true
not_there true off = absurd (true≢false off)
not_there false off = refl

-- where each position was below the limit and told once, all were told just where no flag is false
pub all_by_flags : (limit : ℕ) (told : List ℕ) (kept : PositionFlags) (slice : List Bool) (found : Bool) (test : Bool → Bool) → found ≡ list_any test slice → slice ≡ kept.flags.items → test false ≡ true → test true ≡ false
    → AreFlagsOf limit told kept → kept.once ≡ true → (not found ≡ true) ↔ ((limit ≤ row_limit Rows) × ArePositions told limit)
all_by_flags limit told kept slice found test is same unset set are on = (
  λ off. all_told limit told kept test unset are on (sym (ap (list_any test) same) ∙ sym is ∙ not_found found off),
  λ all. not_there found (is ∙ ap (list_any test) same ∙ (told_all limit told kept test set are all).1),
)
