-- What the links of a session put.
use Rattle.std.proofs.Common.{◌≡◌, ℕ, zero, suc, List, [], ◌∷◌, length, Contains, refl, sym, ap, ◌∙◌, subst, arith}
use Rattle.std.specs.List.{AllByRecursion}
use Rattle.arch_disk.specs.Disk.{Device}
use Rattle.outer_traits.specs.States.{SourceState}
use Rattle.history_items.specs.declared.fills.Fill.{Fill}
use Rattle.history_items.specs.declared.items.Item.{Item}
use Rattle.shared_history.specs.Turns.{HasPut, LinksDiffer, LinkWork}
use Rattle.shared_history.proofs.Putting.{put_stays}
use Rattle.archive_store.specs.StoreView.{StoreView}
use Rattle.load_jobs.specs.Links.{work_of}
use Rattle.live_session.specs.declared.order.JobEnd.{JobEnd}
use Rattle.live_session.specs.declared.order.JobEnd.TheVariants as Ended
use Rattle.live_session.specs.declared.order.Order.{Order}
use Rattle.live_session.specs.declared.order.Order.TheVariants as Ordered
use Rattle.live_session.specs.Jobs.{AreOutcomesOf, JobPass, JobSetting}
use Rattle.live_session.specs.Session.{BeganWith, EndedWithin}
use Rattle.live_session.proofs.Lists.{later_contains}

-- a job is the link of a number
abbrev pub IsLinkOf : {S : Type 0} → ℕ → Order S → Type 0
IsLinkOf number (Ordered.Link link source wake) = link ≡ number
IsLinkOf number other = ⊥

-- no two links have one number
abbrev pub LinksApart : {S : Type 0} → List (Order S) → Type 0
LinksApart [] = Unit {0}
LinksApart (Ordered.Link link source wake ∷ orders) = AllByRecursion (λ order. IsLinkOf link order → ⊥) orders × LinksApart orders
LinksApart (other ∷ orders) = LinksApart orders

pub none_there : {X : Type 0} (xs : List X) (x : X) → xs ≡ [] → Contains xs x → ⊥
none_there {X = X} xs x none has = let c : Contains [] x = subst (λ (l : List X). Contains l x) none has in absurd (let low = c.1 in omega (arith, low))

differ_none : LinksDiffer []
differ_none a b (k, low, e) inside same = absurd (omega (arith, low))

differ_more : (w : LinkWork) (ws : List LinkWork) → ((x : LinkWork) → Contains ws x → x.link ≡ w.link → ⊥) → LinksDiffer ws → LinksDiffer (w ∷ ws)
differ_more w ws other differ a b (zero, low, e) (zero, high, f) same = sym e ∙ f
differ_more w ws other differ a b (zero, low, e) (suc j, high, f) same = absurd (other b (j, omega (arith, high), f) (sym same ∙ sym (ap (λ (x : LinkWork). x.link) e)))
differ_more w ws other differ a b (suc i, low, e) (zero, high, f) same = absurd (other a (i, omega (arith, low), e) (same ∙ sym (ap (λ (x : LinkWork). x.link) f)))
differ_more w ws other differ a b (suc i, low, e) (suc j, high, f) same = differ a b (i, omega (arith, low), e) (j, omega (arith, high), f) same

module _ {D T S : Type 0} (device : Device D) (state : S → SourceState) (first : StoreView D) (g : JobSetting) where
  abbrev Came : List (JobPass T) → List (Order S) → List (JobEnd S) → Type 0
  Came passes orders ends = AreOutcomesOf device state first g passes orders ends

  -- what the links put, in the order of the jobs
  abbrev pub works_of : (passes : List (JobPass T)) (orders : List (Order S)) (ends : List (JobEnd S)) → Came passes orders ends → List LinkWork
  works_of (p ∷ passes) (Ordered.Link link source wake ∷ orders) (Ended.Link number back end ∷ ends) each = work_of link each.0.0.put p.ended ∷ works_of passes orders ends each.1
  works_of (p ∷ passes) (order ∷ orders) (end ∷ ends) each = works_of passes orders ends each.1
  works_of passes orders ends each = []

  -- each stands in a history that goes on from what each job saw
  pub all_put : (history : List Item) (fills : List Fill) (passes : List (JobPass T)) (orders : List (Order S)) (ends : List (JobEnd S)) (each : Came passes orders ends)
      → AllByRecursion (BeganWith first) passes → AllByRecursion (EndedWithin history fills) passes → AllByRecursion (HasPut (length first.history) history) (works_of passes orders ends each)
  all_put history fills (p ∷ passes) (Ordered.Link link source wake ∷ orders) (Ended.Link number back end ∷ ends) each began within = (
    put_stays (length first.history) p.ended.history.seen history (work_of link each.0.0.put p.ended) within.0.0
        (subst (λ (h : List Item). HasPut (length h) p.ended.history.seen (work_of link each.0.0.put p.ended)) began.0.history each.0.0.added.has_put),
    all_put history fills passes orders ends each.1 began.1 within.1,
  )
  all_put history fills (p ∷ passes) (order ∷ orders) (end ∷ ends) each began within = all_put history fills passes orders ends each.1 began.1 within.1
  all_put history fills passes orders ends each began within = tt

  -- a place of a job's pass is a link's
  pub placed_by : (passes : List (JobPass T)) (orders : List (Order S)) (ends : List (JobEnd S)) (each : Came passes orders ends) → AllByRecursion (BeganWith first) passes
      → (q : JobPass T) → Contains passes q → (place : ℕ) → Contains q.ended.history.places place → (work : LinkWork) × Contains (works_of passes orders ends each) work × Contains work.places place
  placed_by [] orders ends each began q (k, low, e) place has = absurd (omega (arith, low))
  placed_by (p ∷ passes) [] ends each began q inside place has = absurd each
  placed_by (p ∷ passes) (order ∷ orders) [] each began q inside place has = absurd each
  placed_by (p ∷ passes) (Ordered.Link link source wake ∷ orders) (Ended.Link number back end ∷ ends) each began q (zero, low, e) place has =
      (work_of link each.0.0.put p.ended, (0, omega arith, refl), subst (λ (x : JobPass T). Contains x.ended.history.places place) (sym e) has)
  placed_by (p ∷ passes) (Ordered.Link link source wake ∷ orders) (Ended.Link number back end ∷ ends) each began q (suc k, low, e) place has =
      let w = placed_by passes orders ends each.1 began.1 q (k, omega (arith, low), e) place has in
      (w.0, later_contains (work_of link each.0.0.put p.ended) (works_of passes orders ends each.1) w.0 w.1, w.2)
  placed_by (p ∷ passes) (Ordered.Reader before ∷ orders) (Ended.Reader answers refusal ∷ ends) each began q (zero, low, e) place has =
      absurd (none_there p.ended.history.places place (each.0.0.put_none ∙ began.0.none.0) (subst (λ (x : JobPass T). Contains x.ended.history.places place) (sym e) has))
  placed_by (p ∷ passes) (Ordered.Reader before ∷ orders) (Ended.Reader answers refusal ∷ ends) each began q (suc k, low, e) place has = placed_by passes orders ends each.1 began.1 q (k, omega (arith, low), e) place has
  placed_by (p ∷ passes) (Ordered.Filler wakes ∷ orders) (Ended.Filler refusal ∷ ends) each began q (zero, low, e) place has =
      absurd (none_there p.ended.history.places place (each.0.0.put_none.1 ∙ began.0.none.0) (subst (λ (x : JobPass T). Contains x.ended.history.places place) (sym e) has))
  placed_by (p ∷ passes) (Ordered.Filler wakes ∷ orders) (Ended.Filler refusal ∷ ends) each began q (suc k, low, e) place has = placed_by passes orders ends each.1 began.1 q (k, omega (arith, low), e) place has
  placed_by (p ∷ passes) (order ∷ orders) (end ∷ ends) each began q inside place has = absurd each.0

  -- it is of a job
  pub work_is_of_link : (passes : List (JobPass T)) (orders : List (Order S)) (ends : List (JobEnd S)) (each : Came passes orders ends) → (work : LinkWork) → Contains (works_of passes orders ends each) work
      → (order : Order S) × Contains orders order × IsLinkOf work.link order
  work_is_of_link (p ∷ passes) (Ordered.Link link source wake ∷ orders) (Ended.Link number back end ∷ ends) each work (zero, low, e) =
      (Ordered.Link link source wake, (0, omega arith, refl), ap (λ (w : LinkWork). w.link) e)
  work_is_of_link (p ∷ passes) (Ordered.Link link source wake ∷ orders) (Ended.Link number back end ∷ ends) each work (suc k, low, e) =
      let o = work_is_of_link passes orders ends each.1 work (k, omega (arith, low), e) in (o.0, later_contains (Ordered.Link link source wake) orders o.0 o.1, o.2)
  work_is_of_link (p ∷ passes) (order ∷ orders) (end ∷ ends) each work inside = let o = work_is_of_link passes orders ends each.1 work inside in (o.0, later_contains order orders o.0 o.1, o.2)
  work_is_of_link passes orders ends each work (k, low, e) = absurd (omega (arith, low))

  -- none of the others has its number
  not_among : (link : ℕ) (passes : List (JobPass T)) (orders : List (Order S)) (ends : List (JobEnd S)) (each : Came passes orders ends) → AllByRecursion (λ (order : Order S). IsLinkOf link order → ⊥) orders
      → (work : LinkWork) → Contains (works_of passes orders ends each) work → work.link ≡ link → ⊥
  not_among link passes orders ends each none work inside same =
      let o = work_is_of_link passes orders ends each work inside in
      go orders o.0 none o.1 (subst (λ (n : ℕ). IsLinkOf n o.0) same o.2)
    where
      go : (orders : List (Order S)) (order : Order S) → AllByRecursion (λ (x : Order S). IsLinkOf link x → ⊥) orders → Contains orders order → IsLinkOf link order → ⊥
      go [] order all (k, low, e) is = absurd (omega (arith, low))
      go (x ∷ orders) order all (zero, low, e) is = all.0 (subst (IsLinkOf link) (sym e) is)
      go (x ∷ orders) order all (suc k, low, e) is = go orders order all.1 (k, omega (arith, low), e) is

  pub works_differ : (passes : List (JobPass T)) (orders : List (Order S)) (ends : List (JobEnd S)) (each : Came passes orders ends) → LinksApart orders → LinksDiffer (works_of passes orders ends each)
  works_differ (p ∷ passes) (Ordered.Link link source wake ∷ orders) (Ended.Link number back end ∷ ends) each apart =
      differ_more (work_of link each.0.0.put p.ended) (works_of passes orders ends each.1) (not_among link passes orders ends each.1 apart.0) (works_differ passes orders ends each.1 apart.1)
  works_differ (p ∷ passes) (Ordered.Reader before ∷ orders) (end ∷ ends) each apart = works_differ passes orders ends each.1 apart
  works_differ (p ∷ passes) (Ordered.Filler wakes ∷ orders) (end ∷ ends) each apart = works_differ passes orders ends each.1 apart
  works_differ (p ∷ passes) (Ordered.Link link source wake ∷ orders) (end ∷ ends) each apart = absurd each.0
  works_differ passes orders ends each apart = differ_none
