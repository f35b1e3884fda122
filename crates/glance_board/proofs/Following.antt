-- Steps on the board keep its rule.
use Rattle.std.proofs.Common.{◌≡◌, ◌≢◌, ℕ, zero, suc, List, [], ◌∷◌, Option, Some, None, refl, sym, set, subst, ⊎_elim}
use Rattle.std.specs.Prelude.{IfSome}
use Rattle.std.specs.List.{AllByRecursion}
use mathlib.Core.Option.{some}
use lib.ListN.{get_elem?}
use Rattle.crossbeam_utils.specs.Register.{Admits, Forks, Merges, TurnsAt}
use Rattle.atomic_table.proofs.Lists.{at_set, at_snoc}
use Rattle.glance_log.specs.Sightings.{Sighting, IsFollowedBy}
use Rattle.glance_log.proofs.Chains.{follows_self, follows_trans}
use Rattle.glance_board.specs.declared.rule.Watched.{Watched}
use Rattle.glance_board.specs.Rules.{Shows, SeesNow, HasSeen, Moves}

module _ {X : Type 0} where
  pub all_follow : (ss : List (Sighting X)) (x y : Sighting X) → IsFollowedBy x y → AllByRecursion (λ s. IsFollowedBy s x) ss → AllByRecursion (λ s. IsFollowedBy s y) ss
  all_follow [] x y on all = tt
  all_follow (s ∷ ss) x y on all = (follows_trans s x y all.0 on, all_follow ss x y on all.1)

  abbrev seeing : Sighting X → Watched X
  seeing y = record { seen = y ∷ [] }

  -- a publication that follows the one before keeps the rule, whoever sees it
  pub shows_on : (seat : ℕ) (v : Watched X) (x y : Sighting X) → IsFollowedBy x y → TurnsAt Shows seat v x y SeesNow
  shows_on seat v x y on views h at = (
    seeing y,
    (λ j u e. ⊎_elim (λ (t : (j ≡ seat) × (seeing y ≡ u)). subst (λ (z : Watched X). AllByRecursion (λ s. IsFollowedBy s y) z.seen) t.1 (follows_self y, tt))
        (λ (t : (j ≢ seat) × (get_elem? views j ≡ some u)). all_follow u.seen x y on (h j u t.1)) (at_set views seat j (seeing y) u e)),
    (h seat v at, refl),
  )

  abbrev unseen : Watched X
  unseen = record { seen = [] }

  -- a reader that has seen nothing may come
  pub admits : Admits (Shows {X = X}) unseen
  admits x views h seat v at = ⊎_elim (h seat v) (λ (e : unseen ≡ v). subst (λ (z : Watched X). AllByRecursion (λ s. IsFollowedBy s x) z.seen) e tt) (at_snoc views unseen v seat at)

  none_shown : (now : Sighting X) → Shows now []
  none_shown now zero v e = absurd cc
  none_shown now (suc seat) v e = absurd cc

  -- one who has seen nothing is alone at first
  pub first_shown : (now : Sighting X) → Shows now (unseen ∷ [])
  first_shown now = admits now [] (none_shown now)

  -- what is seen now follows what was seen before
  pub moves_on : (v w : Watched X) (x : Sighting X) → SeesNow v x x w → Moves v w
  moves_on v w x sees at has =
      let all = subst (AllByRecursion (λ (s : Sighting X). IsFollowedBy s x)) has.seen sees.0 in
      record { now = x; seen = sees.1; follows = follows_trans at has.now x has.follows all.0 }

  pub moves_none : (v w : Watched X) → w ≡ v → Moves v w
  moves_none v w same at has = subst (λ (z : Watched X). HasSeen z at) (sym same) has

  -- where one publication is seen, it is what was looked at
  pub seen_is : (v : Watched X) (at l : Sighting X) → HasSeen v at → v.seen ≡ l ∷ [] → IsFollowedBy at l
  seen_is v at l has is = let same : has.now ≡ l = cc (has.seen, is) in subst (IsFollowedBy at) same has.follows

  pub has_seen : (v : Watched X) (l : Sighting X) → v.seen ≡ l ∷ [] → HasSeen v l
  has_seen v l is = record { now = l; seen = is; follows = follows_self l }

  set_follows : (now : Sighting X) (views : List (Watched X)) (seat : ℕ) (v : Watched X) → Shows now views → AllByRecursion (λ s. IsFollowedBy s now) v.seen → Shows now (set views seat v)
  set_follows now views seat v h here j u e = ⊎_elim (λ (t : (j ≡ seat) × (v ≡ u)). subst (λ (z : Watched X). AllByRecursion (λ s. IsFollowedBy s now) z.seen) t.1 here)
      (λ (t : (j ≢ seat) × (get_elem? views j ≡ some u)). h j u t.1) (at_set views seat j v u e)

  -- a part of a view knows what the view knows
  pub forks : (seat : ℕ) (v : Watched X) → Forks Shows seat v v v
  forks seat v x views h at j u e = ⊎_elim (set_follows x views seat v h (h seat v at) j u) (λ (same : v ≡ u). subst (λ (z : Watched X). AllByRecursion (λ s. IsFollowedBy s x) z.seen) same (h seat v at)) (at_snoc (set views seat v) v u j e)

  -- a reader takes in what it is told
  pub merges : (seat : ℕ) (v : Watched X) (other : ℕ) (w : Watched X) → Merges Shows seat v other w w (record { seen = [] })
  merges seat v other w x views h at apart there =
      let told = ⊎_elim (λ (t : (other ≡ seat) × (w ≡ w)). absurd (apart t.0)) (λ (t : (other ≢ seat) × (get_elem? views other ≡ some w)). h other w t.1) (at_set views seat other w w there) in
      set_follows x (set views seat w) other (record { seen = [] }) (set_follows x views seat w h told) tt

  -- what has seen a publication has seen those before it
  pub earlier_seen : {T : Type 0} (o : Option T) (client : T → Watched X) (a b : Sighting X) → IsFollowedBy a b → IfSome o (λ t. HasSeen (client t) b) → IfSome o (λ t. HasSeen (client t) a)
  earlier_seen None client a b on has = has
  earlier_seen (Some t) client a b on has = record { now = has.now; seen = has.seen; follows = follows_trans a b has.now on has.follows }
