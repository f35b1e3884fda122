-- What came of jobs.
use Rattle.std.proofs.Common.{◌≡◌, ℕ, List, [], ◌∷◌, ◌++◌, map, refl, sym, ap, ◌∙◌, subst, arith}
use Rattle.std.specs.List.{AllByRecursion}
use Rattle.arch_disk.specs.Disk.{Device}
use Rattle.outer_traits.specs.States.{SourceState}
use Rattle.history_items.specs.declared.fills.Fill.{Fill}
use Rattle.history_items.specs.declared.items.Item.{Item}
use Rattle.history_items.specs.Items.{databases_in}
use Rattle.jobs.specs.Ends.{EachDid, Ends}
use Rattle.turn_cell.specs.Lists.{total}
use Rattle.turn_cell.specs.Pass.{PassView}
use Rattle.turn_passes.specs.Passes.{AreSplitOff, HasSeenAsMuch, Joins}
use Rattle.archive_store.specs.StoreView.{StoreView}
use Rattle.live_session.specs.declared.order.JobEnd.{JobEnd}
use Rattle.live_session.specs.declared.order.JobEnd.TheVariants as Ended
use Rattle.live_session.specs.declared.order.Order.{Order}
use Rattle.live_session.specs.declared.order.Order.TheVariants as Ordered
use Rattle.live_session.specs.Jobs.{AreOutcomesOf, IsFit, IsNumbered, IsOutcomeOf, JobPass, JobSetting, MayDo, job_pass}
use Rattle.live_session.specs.Session.{HaveRun}
use Rattle.live_session.proofs.Lists.{all_map}

-- a pass that has seen the first history and put nothing may do what is ordered
pub may_do : {D T S : Type 0} (first : StoreView D) (g : JobSetting) (pass : PassView Item Fill T) (order : Order S) → IsFit first g → pass.history.seen ≡ first.history → pass.history.places ≡ [] → IsNumbered order → MayDo first g pass order
may_do first g pass (Ordered.Link link source wake) fit seen none numbered = record {
  fresh = none;
  link = numbered;
  moment = fit.moment;
  head = fit.sound;
  of_archive = fit.of_archive;
  route = fit.route;
  alone = ap databases_in seen ∙ fit.alone;
}
may_do first g pass (Ordered.Reader before) fit seen none numbered = (fit.found, seen)
may_do first g pass (Ordered.Filler wakes) fit seen none numbered = tt

module _ {D T S : Type 0} (device : Device D) (state : S → SourceState) (first : StoreView D) (g : JobSetting) where
  -- whatever a job does, its pass keeps its share
  pub came_share : (p : JobPass T) (order : Order S) (end : JobEnd S) → IsOutcomeOf device state first g p order end → p.ended.share ≡ p.began.share
  came_share p (Ordered.Link link source wake) (Ended.Link number back end) came = came.0.added.share
  came_share p (Ordered.Reader before) (Ended.Reader answers refusal) came = came.0.share
  came_share p (Ordered.Filler wakes) (Ended.Filler refusal) came = came.0.share
  came_share p order end came = absurd came

  -- so all have the share that they began with
  shares_kept : (passes : List (JobPass T)) (orders : List (Order S)) (ends : List (JobEnd S)) → AreOutcomesOf device state first g passes orders ends
      → total (λ (p : PassView Item Fill T). p.share) (map (λ (p : JobPass T). p.ended) passes) ≡ total (λ (p : PassView Item Fill T). p.share) (map (λ (p : JobPass T). p.began) passes)
  shares_kept [] [] [] each = refl
  shares_kept (p ∷ passes) (o ∷ orders) (e ∷ ends) each =
      let here = came_share p o e each.0 in
      let others = shares_kept passes orders ends each.1 in
      omega (arith, here, others)
  shares_kept [] [] (e ∷ ends) each = absurd each
  shares_kept [] (o ∷ orders) ends each = absurd each
  shares_kept (p ∷ passes) [] ends each = absurd each
  shares_kept (p ∷ passes) (o ∷ orders) [] each = absurd each

  -- ---- jobs and their ends, of whatever types
  module _ {J E : Type 0} (pass_of : J → PassView Item Fill T) (order_of : J → Order S) (pass_at_end : E → PassView Item Fill T) (end_of : E → JobEnd S) where
    abbrev passes_of : List J → List E → List (JobPass T)
    passes_of [] dones = []
    passes_of (j ∷ jobs) [] = []
    passes_of (j ∷ jobs) (e ∷ dones) = record { began = pass_of j; ended = pass_at_end e } ∷ passes_of jobs dones

    module _ (did : J → E → Type 0) where
      began_are : (jobs : List J) (dones : List E) → EachDid did jobs dones → map (λ (p : JobPass T). p.began) (passes_of jobs dones) ≡ map pass_of jobs
      began_are [] [] each = refl
      began_are [] (e ∷ dones) each = refl
      began_are (j ∷ jobs) [] each = absurd each
      began_are (j ∷ jobs) (e ∷ dones) each = ap (λ (l : List (PassView Item Fill T)). pass_of j ∷ l) (began_are jobs dones each.1)

      ended_are : (jobs : List J) (dones : List E) → EachDid did jobs dones → map (λ (p : JobPass T). p.ended) (passes_of jobs dones) ≡ map pass_at_end dones
      ended_are [] [] each = refl
      ended_are [] (e ∷ dones) each = absurd each
      ended_are (j ∷ jobs) [] each = absurd each
      ended_are (j ∷ jobs) (e ∷ dones) each = ap (λ (l : List (PassView Item Fill T)). pass_at_end e ∷ l) (ended_are jobs dones each.1)

      module _ (Here : J → Type 0) (gives : (j : J) (e : E) → Here j → did j e → IsOutcomeOf device state first g (job_pass (pass_of j) (pass_at_end e)) (order_of j) (end_of e)) where
        each_came : (jobs : List J) (dones : List E) → AllByRecursion Here jobs → EachDid did jobs dones → AreOutcomesOf device state first g (passes_of jobs dones) (map order_of jobs) (map end_of dones)
        each_came [] [] here each = tt
        each_came [] (e ∷ dones) here each = absurd each
        each_came (j ∷ jobs) [] here each = absurd each
        each_came (j ∷ jobs) (e ∷ dones) here each = (gives j e here.0 each.0, each_came jobs dones here.1 each.1)

        -- jobs whose passes were split off one, and joined to it
        pub have_run : (old split now : PassView Item Fill T) (count : ℕ) (jobs : List J) (dones : List E) → AllByRecursion Here jobs → EachDid did jobs dones
            → AreSplitOff old split [] (map pass_of jobs) count → Joins (map pass_at_end dones) split now []
            → HaveRun device state first g (job_pass old now) (map order_of jobs) (map end_of dones)
        have_run old split now count jobs dones here each parts joined = record {
          passes = passes_of jobs dones;
          each = came;
          began = all_map (HasSeenAsMuch old) (λ (p : JobPass T). p.began) (passes_of jobs dones) (subst (AllByRecursion (HasSeenAsMuch old)) (sym (is_split ∙ parts.added)) parts.each);
          split = split;
          same = (parts.same.0, parts.same.1);
          joined = subst (λ (l : List (PassView Item Fill T)). Joins l split now []) (sym is_ended) joined;
          share =
              let a = parts.shares in
              let b = joined.shares in
              let c = shares_kept (passes_of jobs dones) (map order_of jobs) (map end_of dones) came in
              let d = ap (total (λ (p : PassView Item Fill T). p.share)) is_ended in
              let e = ap (total (λ (p : PassView Item Fill T). p.share)) (is_split ∙ parts.added) in
              omega (arith, a, b, c, d, e);
        }
          where
            came : AreOutcomesOf device state first g (passes_of jobs dones) (map order_of jobs) (map end_of dones)
            came = each_came jobs dones here each

            is_split : map (λ (p : JobPass T). p.began) (passes_of jobs dones) ≡ map pass_of jobs
            is_split = began_are jobs dones each

            is_ended : map (λ (p : JobPass T). p.ended) (passes_of jobs dones) ≡ map pass_at_end dones
            is_ended = ended_are jobs dones each

-- each job's own, in the end list that they were put behind nothing
pub each_of_ends : {J E : Type 0} (did : J → E → Type 0) (jobs : List J) (old new : List E) → old ≡ [] → Ends did jobs old new → EachDid did jobs new
each_of_ends {E = E} did jobs old new none ends =
    let whole : new ≡ ends.ends = ends.added ∙ ap (λ (l : List E). l ++ ends.ends) none in
    subst (EachDid did jobs) (sym whole) ends.each

-- what is said of each end by its job
pub all_ends : {J E P : Type 0} (did : J → E → Type 0) (Here : J → Type 0) (pass_at_end : E → P) (IsGood : P → Type 0) → ((j : J) (e : E) → Here j → did j e → IsGood (pass_at_end e)) → (jobs : List J) (dones : List E)
    → AllByRecursion Here jobs → EachDid did jobs dones → AllByRecursion IsGood (map pass_at_end dones)
all_ends did Here pass_at_end IsGood gives [] [] here each = tt
all_ends did Here pass_at_end IsGood gives [] (e ∷ dones) here each = absurd each
all_ends did Here pass_at_end IsGood gives (j ∷ jobs) [] here each = absurd each
all_ends did Here pass_at_end IsGood gives (j ∷ jobs) (e ∷ dones) here each = (gives j e here.0 each.0, all_ends did Here pass_at_end IsGood gives jobs dones here.1 each.1)
