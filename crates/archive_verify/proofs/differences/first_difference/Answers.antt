use Rattle.std.proofs.Common.{◌≡◌, ◌∙◌, ℕ, ◌<◌, ◌≤◌, List, length, Option, Some, None, refl, sym, ap}
use Rattle.std.specs.Prelude.{IfSome, IfNone, slice_get, option_copied}
use Rattle.std.specs.List.{HoldsAt}
use Rattle.std.specs.Option.{MatchOption}
use Rattle.std.proofs.lemmas.Option.{slice_get_past, slice_get-get_or}
use denote.Bor.{Bor}
use Rattle.arch_types.specs.declared.cell.Cell.{Cell}
use Rattle.archive_verify.specs.Differences.{IsCommonLength, IsFirstDifference, difference_at, raws_of}
use Rattle.archive_verify.proofs.FirstDifferences.{from_length, none_from_length, rising_cells}
use Rattle.archive_verify.proofs.differences.first_difference.Goals as goal

some_by : {A : Type 0} (P : A → Type 0) (o : Option A) → ((a : A) → o ≡ Some a → P a) → IfSome o P
some_by P None by = tt
some_by P (Some a) by = by a refl

none_by : {A : Type 0} (P : Type 0) (o : Option A) → (o ≡ None → P) → IfNone o P
none_by P None by = by refl
none_by P (Some a) by = tt

-- the cell that a look-up by place lends
lent : (cells : List Cell) (n : ℕ) (o : Option (Bor Cell)) → MatchOption o (length cells ≤ n) (λ x. (n < length cells) × HoldsAt (λ y. x.now ≡ y) cells n) → option_copied o ≡ slice_get cells n
lent cells n None past = sym (slice_get_past cells n past)
lent cells n (Some b) item = sym (slice_get-get_or cells n b.now item.0 ∙ ap (λ (x : Cell). Some x) (sym (item.1 b.now)))

-- where neither list has a cell at a place, there is no difference at it
both_ended : (ss rs : List Cell) (n : ℕ) → IsCommonLength ss rs n → difference_at (slice_get ss n) (slice_get rs n) ≡ None → raws_of ss ≡ raws_of rs
both_ended ss rs n is none = go (slice_get ss n) refl (slice_get rs n) refl none
  where
    go : (a : Option Cell) → slice_get ss n ≡ a → (b : Option Cell) → slice_get rs n ≡ b → difference_at a b ≡ None → raws_of ss ≡ raws_of rs
    go None ea None eb e = none_from_length ss rs n is ea eb
    go (Some s) ea None eb e = absurd cc
    go None ea (Some r) eb e = absurd cc
    go (Some s) ea (Some r) eb e = absurd cc

pub returns-clause-some : goal.returns-clause-some
returns-clause-some c =
    let ss = c.args.stored.now in
    let rs = c.args.replayed.now in
    let n = c.common_length-at.result in
    let is : c.difference_at.result ≡ difference_at (slice_get ss n) (slice_get rs n) = c.difference_at.ensures ∙ ap (λ (o : Option Cell). difference_at o (option_copied c.get-2.result)) (lent ss n c.get.result c.get.ensures.lookup.3) ∙ ap (difference_at (slice_get ss n)) (lent rs n c.get-2.result c.get-2.ensures.lookup.3) in
    some_by (IsFirstDifference ss rs) c.difference_at.result (λ d e. from_length ss rs n d c.common_length-at.ensures (rising_cells ss c.requires.stored) (rising_cells rs c.requires.replayed) (sym is ∙ e))

pub returns-clause-none : goal.returns-clause-none
returns-clause-none c =
    let ss = c.args.stored.now in
    let rs = c.args.replayed.now in
    let n = c.common_length-at.result in
    let is : c.difference_at.result ≡ difference_at (slice_get ss n) (slice_get rs n) = c.difference_at.ensures ∙ ap (λ (o : Option Cell). difference_at o (option_copied c.get-2.result)) (lent ss n c.get.result c.get.ensures.lookup.3) ∙ ap (difference_at (slice_get ss n)) (lent rs n c.get-2.result c.get-2.ensures.lookup.3) in
    none_by (raws_of ss ≡ raws_of rs) c.difference_at.result (λ e. both_ended ss rs n c.common_length-at.ensures (sym is ∙ e))
