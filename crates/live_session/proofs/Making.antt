-- A job more that is made.
use Rattle.std.proofs.Common.{◌≡◌, ℕ, zero, suc, ◌+◌, ◌-◌, ◌≤◌, ◌^◌, List, [], ◌∷◌, ◌++◌, length, map, Option, Some, None, IfSome, MatchOption, Result, Ok, Err, IfOk, refl, sym, ap, ◌∙◌, subst, arith, le_refl, pow-suc}
use Rattle.std.specs.List.{AllByRecursion}
use Rattle.std.specs.Prelude.{IsSomeAnd, replicate}
use mathlib.Core.List.{IsPrefix}
use Rattle.turn_cell.specs.declared.view.SeenList.{SeenList}
use Rattle.history_items.specs.declared.fills.Fill.{Fill}
use Rattle.history_items.specs.declared.items.Item.{Item}
use Rattle.turn_cell.specs.Pass.{PassView, given_half, kept_half}
use Rattle.glance_board.specs.Shelves.{ShelfView}
use Rattle.glance_log.specs.Sightings.{Sighting}
use Rattle.glance_log.proofs.Prefixes.{prefix_self}
use Rattle.store_shelf.specs.declared.kept.Kept.{Kept}
use Rattle.live_archive.specs.declared.held.HeldStore.{HeldStore}
use Rattle.live_archive.specs.Shelving.{AreShownFirst}
use Rattle.live_asks.specs.LiveAsks.{IsGlanceAt}
use Rattle.turn_passes.specs.Passes.{AreSplitOff}
use Rattle.turn_passes.proofs.Joining.{split_more, split_none}
use Rattle.live_session.proofs.Lists.{pushed_length, pushed_map}

module _ {T J : Type 0} (pass_of : J → PassView Item Fill T) where
  -- none was made
  pub none_split : (pass : PassView Item Fill T) (jobs : List J) → jobs ≡ [] → AreSplitOff pass pass [] (map pass_of jobs) (length jobs)
  none_split pass jobs none = subst (λ (l : List J). AreSplitOff pass pass [] (map pass_of l) (length l)) (sym none) (split_none pass [])

  -- one more was, with the pass that was split off
  pub one_split : (old mid new other : PassView Item Fill T) (jobs jobs' : List J) (job : J) → jobs' ≡ jobs ++ job ∷ [] → pass_of job ≡ other → new ≡ kept_half mid → other ≡ given_half mid
      → AreSplitOff old mid [] (map pass_of jobs) (length jobs) → AreSplitOff old new [] (map pass_of jobs') (length jobs')
  one_split old mid new other jobs jobs' job is own kept given split =
      subst (AreSplitOff old new [] (map pass_of jobs')) (pushed_length jobs jobs' job is)
      (split_more old mid new other [] (map pass_of jobs) (map pass_of jobs') (length jobs) split kept given (pushed_map pass_of jobs jobs' job other is own))

-- it has seen what the pass saw that it was split off, and put nothing
pub given_seen_is : {T : Type 0} (old mid other : PassView Item Fill T) → mid.history ≡ old.history → other ≡ given_half mid → (other.history.seen ≡ old.history.seen) × (other.history.places ≡ [])
given_seen_is {T = T} old mid other same given = (
  ap (λ (p : PassView Item Fill T). p.history.seen) given ∙ ap (λ (s : SeenList Item). s.seen) same,
  ap (λ (p : PassView Item Fill T). p.history.places) given,
)

-- the share lasts for one more, and then for those that are left
pub lasts : {X : Type 0} (rest rest' : List X) (x : X) (share : ℕ) → rest ≡ x ∷ rest' → 2 ^ length rest ≤ share → 2 ^ suc (length rest') ≤ share
lasts {X = X} rest rest' x share step low = subst (λ (l : List X). 2 ^ length l ≤ share) step low

-- ---- glances

all_but_last : {X : Type 0} (P : X → Type 0) (xs : List X) (x : X) → AllByRecursion P (xs ++ x ∷ []) → AllByRecursion P xs × P x
all_but_last P [] x all = (tt, all.0)
all_but_last P (y ∷ ys) x all = let rest = all_but_last P ys x all.1 in ((all.0, rest.0), rest.1)

-- what holds of each holds of one that is taken, and of those that are left
pub glance_taken : {X : Type 0} (P : X → Type 0) (old new : List X) (taken : Option X) → MatchOption taken (new ≡ old) (λ x. old ≡ new ++ x ∷ []) → AllByRecursion P old → IfSome taken P × AllByRecursion P new
glance_taken P old new None same all = (tt, subst (AllByRecursion P) (sym same) all)
glance_taken P old new (Some x) is all = let each = all_but_last P new x (subst (AllByRecursion P) is all) in (each.1, each.0)

-- the glances that an archive begins with are at it
pub shown_are_at : {D : Type 0} (first : HeldStore D) (readers : ℕ) (glances : List (Sighting (Kept D))) → AreShownFirst first readers glances → AllByRecursion (IsGlanceAt first) glances
shown_are_at {D = D} first readers glances shown = subst (AllByRecursion (IsGlanceAt first)) (sym shown.seen) (all_of readers)
  where
    at_is : IsGlanceAt first shown.at
    at_is = record {
      log = subst (λ (o : Option (ShelfView (Kept D))). IsSomeAnd o (λ s. shown.at.book ≡ s.made.book)) (sym shown.shelf) refl;
      kept = ap (λ (s : Sighting (Kept D)). s.fixed) shown.all;
      begins = subst (IsPrefix first.store.history) (sym (ap (λ (s : Sighting (Kept D)). s.history) shown.all)) (prefix_self first.store.history);
    }

    all_of : (n : ℕ) → AllByRecursion (IsGlanceAt first) (replicate n shown.at)
    all_of zero = tt
    all_of (suc n) = (at_is, all_of n)

-- powers of two rise
power_grows : (n k : ℕ) → 2 ^ n ≤ 2 ^ (n + k)
power_grows n zero = subst (λ (m : ℕ). 2 ^ n ≤ 2 ^ m) (omega arith) (le_refl (2 ^ n))
power_grows n (suc k) =
    let before = power_grows n k in
    let twice = pow-suc 2 (n + k) in
    let more : 2 ^ n ≤ 2 ^ suc (n + k) = omega (arith, before, twice) in
    subst (λ (m : ℕ). 2 ^ n ≤ 2 ^ m) (omega arith) more

-- the whole share lasts for so many
pub share_lasts : (n share : ℕ) → n ≤ 63 → share ≡ 2 ^ 63 → 2 ^ n ≤ share
share_lasts n share few is =
    let all : n + (63 - n) ≡ 63 = omega (arith, few) in
    subst (λ (s : ℕ). 2 ^ n ≤ s) (sym is) (subst (λ (m : ℕ). 2 ^ n ≤ 2 ^ m) all (power_grows n (63 - n)))

-- what holds where a call isn't refused gives what follows from it there
pub if_ok : {X E : Type 0} (r : Result X E) (P Q : X → Type 0) → ((x : X) → P x → Q x) → IfOk r P → IfOk r Q
if_ok (Ok x) P Q gives here = gives x here
if_ok (Err e) P Q gives here = tt
