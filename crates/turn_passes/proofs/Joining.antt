-- Passes that are split off and joined.
use Rattle.std.proofs.Common.{◌≡◌, ◌⊎◌, inl, inr, ℕ, suc, ◌+◌, ◌-◌, ◌/◌, ◌<◌, ◌≤◌, ◌^◌, List, [], ◌∷◌, ◌++◌, Contains, refl, sym, ap, subst, ◌∙◌, arith, append_assoc, append-nil, length-append, pow-suc, pow_pos}
use Rattle.std.specs.List.{AllByRecursion, range_with_len}
use Rattle.std.proofs.lemmas.List.Elements.{Contains-append_cases, Contains-append_left, Contains-push, Contains-push_cases}
use Rattle.std.proofs.lemmas.List.FromFn.{get_or-range_with_len, length-range_with_len}
use mathlib.Core.List.{IsPrefix}
use Rattle.turn_cell.specs.Lists.{given_seen, total}
use Rattle.turn_cell.specs.Pass.{PassView, both_passes, given_half, kept_half}
use Rattle.turn_cell.proofs.Fronts.{prefix_trans}
use Rattle.turn_passes.specs.Laws.{FillPlacesAreOfPasses, PlacesAreOfPasses}
use Rattle.turn_passes.specs.Passes.{AreSplitOff, HasSeenAsMuch, Joins}

total_push : {X : Type 0} (f : X → ℕ) (xs : List X) (x : X) → total f (xs ++ x ∷ []) ≡ total f xs + f x
total_push f [] x = omega arith
total_push f (y ∷ xs) x = let h = total_push f xs x in omega (arith, h)

pub all_push : {X : Type 0} (P : X → Type 0) (xs : List X) (x : X) → AllByRecursion P xs → P x → AllByRecursion P (xs ++ x ∷ [])
all_push P [] x all last = (last, tt)
all_push P (y ∷ xs) x all last = (all.0, all_push P xs x all.1 last)

-- a share that is halved for each pass lasts
pub halved : (n s : ℕ) → 2 ^ suc n ≤ s → (2 ≤ s) × (2 ^ n ≤ s - s / 2)
halved n s le =
    let twice = pow-suc 2 n in
    let one : 0 < 2 ^ n = pow_pos n in
    (omega (arith, twice, one, le), omega (arith, twice, one, le))

pub all_but_last : {X : Type 0} (P : X → Type 0) (xs : List X) (x : X) → AllByRecursion P (xs ++ x ∷ []) → AllByRecursion P xs × P x
all_but_last P [] x all = (tt, all.0)
all_but_last P (y ∷ xs) x all = let rest = all_but_last P xs x all.1 in ((all.0, rest.0), rest.1)

module _ {I F T : Type 0} where
  pub split_none : (pass : PassView I F T) (before : List (PassView I F T)) → AreSplitOff pass pass before before 0
  split_none pass before = record { split = []; added = sym (append-nil before); count_is = refl; each = tt; shares = omega arith; same = (refl, refl, refl) }

  pub split_more : (old mid new other : PassView I F T) (before passes passes' : List (PassView I F T)) (count : ℕ) → AreSplitOff old mid before passes count → new ≡ kept_half mid → other ≡ given_half mid
      → passes' ≡ passes ++ other ∷ [] → AreSplitOff old new before passes' (suc count)
  split_more old mid new other before passes passes' count s kept given pushed = record {
    split = s.split ++ other ∷ [];
    added = pushed ∙ (ap (λ (l : List (PassView I F T)). l ++ other ∷ []) s.added ∙ append_assoc before s.split (other ∷ []));
    count_is = let n = s.count_is in let l = length-append s.split (other ∷ []) in omega (arith, n, l);
    each = all_push (HasSeenAsMuch old) s.split other s.each as_much;
    shares =
        let a = s.shares in
        let b = total_push (λ (p : PassView I F T). p.share) s.split other in
        let x : new.share ≡ mid.share - mid.share / 2 = ap (λ (p : PassView I F T). p.share) kept in
        let y : other.share ≡ mid.share / 2 = ap (λ (p : PassView I F T). p.share) given in
        omega (arith, a, b, x, y);
    same = (
      ap (λ (p : PassView I F T). p.history) kept ∙ s.same.0,
      ap (λ (p : PassView I F T). p.fills) kept ∙ s.same.1,
      ap (λ (p : PassView I F T). p.turns) kept ∙ s.same.2,
    );
  }
    where
      as_much : HasSeenAsMuch old other
      as_much = record {
        history = ap (λ (p : PassView I F T). p.history) given ∙ ap given_seen s.same.0;
        fills = ap (λ (p : PassView I F T). p.fills) given ∙ ap given_seen s.same.1;
        turns = ap (λ (p : PassView I F T). p.turns) given;
      }

  pub joins_none : (passes : List (PassView I F T)) (pass : PassView I F T) → Joins passes pass pass passes
  joins_none passes pass = record {
    inside = λ p i. i;
    seen = λ p i. inl i;
    begins = (([], append-nil pass.history.seen), ([], append-nil pass.fills.seen));
    places = λ place has. inl has;
    fills_places = λ place has. inl has;
    turns = refl;
    added = refl;
    fills_added = refl;
    shares = refl;
  }

  abbrev Seen : PassView I F T → PassView I F T → Type 0
  Seen p now = IsPrefix p.history.seen now.history.seen × IsPrefix p.fills.seen now.fills.seen

  seen_on : (a b c : PassView I F T) → Seen a b → Seen b c → Seen a c
  seen_on a b c p q = (prefix_trans a.history.seen b.history.seen c.history.seen p.0 q.0, prefix_trans a.fills.seen b.fills.seen c.fills.seen p.1 q.1)

  joins_both : (all left : List (PassView I F T)) (other old now : PassView I F T) → Seen now (both_passes now other) → Seen other (both_passes now other)
      → Joins all old now (left ++ other ∷ []) → Joins all old (both_passes now other) left
  joins_both all left other old now mine theirs before = record {
    inside = λ p i. before.inside p (Contains-append_left left (other ∷ []) p i);
    seen = λ p i. go p (before.seen p i);
    begins = seen_on old now (both_passes now other) before.begins mine;
    places = λ place has. placed place (Contains-append_cases now.history.places other.history.places place has);
    fills_places = λ place has. fills_placed place (Contains-append_cases now.fills.places other.fills.places place has);
    turns = let t = total_push (λ (p : PassView I F T). p.turns) left other in let s = before.turns in omega (arith, t, s);
    added = let t = total_push (λ (p : PassView I F T). p.history.added) left other in let s = before.added in omega (arith, t, s);
    fills_added = let t = total_push (λ (p : PassView I F T). p.fills.added) left other in let s = before.fills_added in omega (arith, t, s);
    shares = let t = total_push (λ (p : PassView I F T). p.share) left other in let s = before.shares in omega (arith, t, s);
  }
    where
      last : (p : PassView I F T) → Contains left p ⊎ (other ≡ p) → Contains left p ⊎ Seen p (both_passes now other)
      last p (inl i) = inl i
      last p (inr same) = inr (subst (λ (q : PassView I F T). Seen q (both_passes now other)) same theirs)

      go : (p : PassView I F T) → Contains (left ++ other ∷ []) p ⊎ Seen p now → Contains left p ⊎ Seen p (both_passes now other)
      go p (inl i) = last p (Contains-push_cases left other p i)
      go p (inr k) = inr (seen_on p now (both_passes now other) k mine)

      inside_last : Contains all other
      inside_last = before.inside other (Contains-push left other)

      placed : (place : ℕ) → Contains now.history.places place ⊎ Contains other.history.places place
          → Contains old.history.places place ⊎ ((p : PassView I F T) × Contains all p × Contains p.history.places place)
      placed place (inl has) = before.places place has
      placed place (inr has) = inr (other, inside_last, has)

      fills_placed : (place : ℕ) → Contains now.fills.places place ⊎ Contains other.fills.places place
          → Contains old.fills.places place ⊎ ((p : PassView I F T) × Contains all p × Contains p.fills.places place)
      fills_placed place (inl has) = before.fills_places place has
      fills_placed place (inr has) = inr (other, inside_last, has)

  pub joins_next : (all left : List (PassView I F T)) (other old now new : PassView I F T) → new ≡ both_passes now other → Seen now new → Seen other new
      → Joins all old now (left ++ other ∷ []) → Joins all old new left
  joins_next all left other old now new is mine theirs before =
      subst (λ (p : PassView I F T). Joins all old p left) (sym is)
      (joins_both all left other old now (subst (Seen now) is mine) (subst (Seen other) is theirs) before)

below_end : (n k p : ℕ) → Contains (range_with_len n k) p → p < n + k
below_end n k p (i, low, e) =
    let within : i < k = subst (λ (m : ℕ). i < m) (length-range_with_len n k) low in
    let at : p ≡ n + i = sym e ∙ get_or-range_with_len n k i p within in
    omega (arith, within, at)

module _ (I F T : Type 0) where
  pub places_of_passes : PlacesAreOfPasses I F T
  places_of_passes passes old now first whole joined own has place low high = go (joined.places place (has place high))
    where
      go : Contains old.history.places place ⊎ ((p : PassView I F T) × Contains passes p × Contains p.history.places place) → (p : PassView I F T) × Contains passes p × Contains p.history.places place
      go (inl old_one) = let end = below_end 0 first place (subst (λ (l : List ℕ). Contains l place) own old_one) in absurd (omega (arith, end, low))
      go (inr of_pass) = of_pass

  pub fill_places_of_passes : FillPlacesAreOfPasses I F T
  fill_places_of_passes passes old now first whole joined own has place low high = go (joined.fills_places place (has place high))
    where
      go : Contains old.fills.places place ⊎ ((p : PassView I F T) × Contains passes p × Contains p.fills.places place) → (p : PassView I F T) × Contains passes p × Contains p.fills.places place
      go (inl old_one) = let end = below_end 0 first place (subst (λ (l : List ℕ). Contains l place) own old_one) in absurd (omega (arith, end, low))
      go (inr of_pass) = of_pass
