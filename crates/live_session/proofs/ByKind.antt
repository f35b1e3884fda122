-- What came of links, of readers and of fillers, sorted by what it is.
use Rattle.std.proofs.Common.{◌≡◌, ℕ, zero, suc, ◌+◌, ◌<◌, List, [], ◌∷◌, ◌++◌, length, take, drop, map, Option, Some, None, refl, sym, ap, ◌∙◌, subst, arith, append-nil}
use Rattle.std.specs.Prelude.{slice_get, IfSome}
use Rattle.std.specs.List.{AllByRecursion, filter_map, range_with_len}
use Rattle.std.proofs.Math.Seq.{drop-append_seam, take-append_seam}
use Rattle.arch_disk.specs.Disk.{Device}
use Rattle.refusals.specs.declared.refusal.Refusal.{Refusal}
use Rattle.outer_traits.specs.States.{SourceState}
use Rattle.history_items.specs.declared.fills.Addition.{Addition}
use Rattle.jobs.specs.Ends.{EachDid}
use Rattle.archive_store.specs.StoreView.{StoreView, filled_of}
use Rattle.load_session.specs.Receiving.{receiving}
use Rattle.load_jobs.specs.declared.ending.LinkEnd.{LinkEnd}
use Rattle.load_jobs.specs.Ends.{refusal_of_end}
use Rattle.live_asks.specs.declared.answered.AskAnswer.{AskAnswer}
use Rattle.live_asks.specs.LiveAsks.{AreAnswered, disk_facts, every_fourth}
use Rattle.live_session.specs.declared.order.JobEnd.{JobEnd}
use Rattle.live_session.specs.declared.order.JobEnd.TheVariants as Ended
use Rattle.live_session.specs.declared.order.Order.{Order}
use Rattle.live_session.specs.declared.order.Order.TheVariants as Ordered
use Rattle.live_session.specs.Interleaving.{answers_at}
use Rattle.live_session.specs.Jobs.{IsSourceRead, JobSetting}
use Rattle.live_session.specs.Links.{AreLinksLoaded, LinkLoads, extension}
use Rattle.live_session.specs.Orders.{AreLinkOrders, AreOrdersFor, IsFilling}
use Rattle.live_session.specs.Outcome.{AreSourcesRead, IsFillerCause, IsReaderCause, IsSeenIn, lefts_of}
use Rattle.live_session.specs.Results.{answers_in, end_in, other_in, source_in}
use Rattle.live_session.proofs.Lists.{all_append}
use Rattle.live_session.proofs.Loads.{CameTo}
use Rattle.live_session.proofs.Ordered.{cut, taken_of}

module _ {D S : Type 0} (device : Device D) (state : S → SourceState) (first closed : StoreView D) (g : JobSetting) (failed : Option Addition) where
  abbrev Came : Order S → JobEnd S → Type 0
  Came = CameTo device state first closed g failed

  -- ---- links

  -- what came of links by these sources, whose numbers rise from this one
  record AreLinkEnds (link : ℕ) (sources : List S) (ends : List (JobEnd S)) : Type 0 where
    pub loaded : AreLinksLoaded (disk_facts device first.opened first.sealed) (extension first.exponent first.history closed.history failed) g link (lefts_of state sources) (filter_map end_in ends)
    pub read : AreSourcesRead state (filter_map end_in ends) sources (filter_map source_in ends)
    pub seen : AllByRecursion (λ end. IfSome (refusal_of_end end) (IsSeenIn device first closed)) (filter_map end_in ends)
    pub no_answers : filter_map answers_in ends ≡ []
    pub no_others : filter_map other_in ends ≡ []

  link_ends : (link : ℕ) (sources : List S) (orders : List (Order S)) (ends : List (JobEnd S)) → AreLinkOrders link sources orders → EachDid Came orders ends → AreLinkEnds link sources ends
  link_ends link [] [] [] are each = record { loaded = tt; read = tt; seen = tt; no_answers = refl; no_others = refl }
  link_ends link [] [] (end ∷ ends) are each = absurd each
  link_ends link [] (order ∷ orders) ends are each = absurd are
  link_ends link (source ∷ sources) [] ends are each = absurd are
  link_ends link (source ∷ sources) (order ∷ orders) [] are each = absurd each
  link_ends link (source ∷ sources) (Ordered.Link n from wake ∷ orders) (Ended.Link number back end ∷ ends) are each =
      let rest = link_ends (suc link) sources orders ends are.1 each.1 in
      let came = subst (λ (m : ℕ). LinkLoads (disk_facts device first.opened first.sealed) first.exponent failed closed.history (receiving g.head first.history g.route m g.moment) (state from).left end) are.0.0 each.0.0 in
      record {
        loaded = (subst (λ (s : S). LinkLoads (disk_facts device first.opened first.sealed) first.exponent failed closed.history (receiving g.head first.history g.route link g.moment) (state s).left end) are.0.1 came, rest.loaded);
        read = (subst (λ (s : S). IsSourceRead end (state s) (state back)) are.0.1 each.0.1, rest.read);
        seen = (each.0.2, rest.seen);
        no_answers = rest.no_answers;
        no_others = rest.no_others;
      }
  link_ends link (source ∷ sources) (Ordered.Link n from wake ∷ orders) (Ended.Reader answers refusal ∷ ends) are each = absurd each.0
  link_ends link (source ∷ sources) (Ordered.Link n from wake ∷ orders) (Ended.Filler refusal ∷ ends) are each = absurd each.0
  link_ends link (source ∷ sources) (Ordered.Reader before ∷ orders) (end ∷ ends) are each = absurd are.0
  link_ends link (source ∷ sources) (Ordered.Filler wakes ∷ orders) (end ∷ ends) are each = absurd are.0

  -- how a link ended stands where its source does
  end_at : (link : ℕ) (sources : List S) (orders : List (Order S)) (ends later : List (JobEnd S)) → AreLinkOrders link sources orders → EachDid Came orders ends → (k : ℕ) → k < length sources → (job : JobEnd S) (end : LinkEnd)
      → slice_get (ends ++ later) k ≡ Some job → end_in job ≡ Some end → slice_get (filter_map end_in ends) k ≡ Some end
  end_at link [] [] [] later are each k low job end there is = absurd (omega (arith, low))
  end_at link [] [] (e ∷ ends) later are each k low job end there is = absurd each
  end_at link [] (order ∷ orders) ends later are each k low job end there is = absurd are
  end_at link (source ∷ sources) [] ends later are each k low job end there is = absurd are
  end_at link (source ∷ sources) (order ∷ orders) [] later are each k low job end there is = absurd each
  end_at link (source ∷ sources) (Ordered.Link n from wake ∷ orders) (Ended.Link number back e ∷ ends) later are each zero low job end there is =
      let same : Ended.Link number back e ≡ job = cc there in
      let here : end_in (Ended.Link number back e) ≡ Some end = ap (λ (j : JobEnd S). end_in j) same ∙ is in here
  end_at link (source ∷ sources) (Ordered.Link n from wake ∷ orders) (Ended.Link number back e ∷ ends) later are each (suc k) low job end there is =
      end_at (suc link) sources orders ends later are.1 each.1 k (omega (arith, low)) job end there is
  end_at link (source ∷ sources) (Ordered.Link n from wake ∷ orders) (Ended.Reader answers refusal ∷ ends) later are each k low job end there is = absurd each.0
  end_at link (source ∷ sources) (Ordered.Link n from wake ∷ orders) (Ended.Filler refusal ∷ ends) later are each k low job end there is = absurd each.0
  end_at link (source ∷ sources) (Ordered.Reader before ∷ orders) (e ∷ ends) later are each k low job end there is = absurd are.0
  end_at link (source ∷ sources) (Ordered.Filler wakes ∷ orders) (e ∷ ends) later are each k low job end there is = absurd are.0

  -- ---- the others

  -- what the store tells of a refusal
  abbrev Seen : Option Refusal → Type 0
  Seen refusal = IfSome refusal (IsSeenIn device first closed)

  -- what came of jobs that are no links', each of which was refused for such a cause, if it was
  record AreOtherEnds (Cause : Option Refusal → Type 0) (ends : List (JobEnd S)) : Type 0 where
    pub causes : AllByRecursion Cause (filter_map other_in ends)
    pub seen : AllByRecursion Seen (filter_map other_in ends)
    pub no_ends : filter_map end_in ends ≡ []
    pub no_sources : filter_map source_in ends ≡ []

  -- where none of them was refused, this reader answered each of its asks
  abbrev AreAllAnswered : ℕ → List AskAnswer → Type 0
  AreAllAnswered before answers = AreAnswered (disk_facts device first.opened first.sealed) (filled_of first) first.history closed.history (every_fourth before g.asks) answers None

  abbrev AreUnrefused : List (JobEnd S) → Type 0
  AreUnrefused ends = AllByRecursion (λ refusal. refusal ≡ None) (filter_map other_in ends)

  record AreReaderEnds (from count : ℕ) (ends : List (JobEnd S)) : Type 0 where
    pub others : AreOtherEnds (IsReaderCause (disk_facts device first.opened first.sealed)) ends
    pub as_many : length (filter_map other_in ends) ≡ count
    pub many : length (filter_map answers_in ends) ≡ count
    pub answered : AreUnrefused ends → (k : ℕ) → k < count → AreAllAnswered (from + k) (answers_at k (filter_map answers_in ends))

  reader_ends : (from count : ℕ) (ends : List (JobEnd S)) → EachDid Came (map Ordered.Reader (range_with_len from count)) ends → AreReaderEnds from count ends
  reader_ends from zero [] each = record { others = record { causes = tt; seen = tt; no_ends = refl; no_sources = refl }; as_many = refl; many = refl; answered = λ none k low. absurd (omega (arith, low)) }
  reader_ends from zero (end ∷ ends) each = absurd each
  reader_ends from (suc count) [] each = absurd each
  reader_ends from (suc count) (Ended.Reader answers refusal ∷ ends) each =
      let rest = reader_ends (from + 1) count ends each.1 in
      record {
        others = record { causes = (each.0.1, rest.others.causes); seen = (each.0.2, rest.others.seen); no_ends = rest.others.no_ends; no_sources = rest.others.no_sources };
        as_many = ap suc rest.as_many;
        many = ap suc rest.many;
        answered = λ none k low. at rest none k low;
      }
    where
      at : AreReaderEnds (from + 1) count ends → AreUnrefused (Ended.Reader answers refusal ∷ ends) → (k : ℕ) → k < suc count → AreAllAnswered (from + k) (answers_at k (answers ∷ filter_map answers_in ends))
      at rest none zero low =
          let here : from ≡ from + 0 = omega arith in
          subst (λ (n : ℕ). AreAllAnswered n answers) here
          (subst (λ (o : Option Refusal). AreAnswered (disk_facts device first.opened first.sealed) (filled_of first) first.history closed.history (every_fourth from g.asks) answers o) none.0 each.0.0)
      at rest none (suc k) low =
          let deep = rest.answered none.1 k (omega (arith, low)) in
          let next : from + 1 + k ≡ from + suc k = omega arith in
          subst (λ (n : ℕ). AreAllAnswered n (answers_at k (filter_map answers_in ends))) next deep
  reader_ends from (suc count) (Ended.Link number back end ∷ ends) each = absurd each.0
  reader_ends from (suc count) (Ended.Filler refusal ∷ ends) each = absurd each.0

  record AreFillerEnds (ends : List (JobEnd S)) : Type 0 where
    pub others : AreOtherEnds (IsFillerCause (disk_facts device first.opened first.sealed) failed) ends
    pub no_answers : filter_map answers_in ends ≡ []

  filler_ends : (orders : List (Order S)) (ends : List (JobEnd S)) → AllByRecursion IsFilling orders → EachDid Came orders ends → AreFillerEnds ends
  filler_ends [] [] all each = record { others = record { causes = tt; seen = tt; no_ends = refl; no_sources = refl }; no_answers = refl }
  filler_ends [] (end ∷ ends) all each = absurd each
  filler_ends (order ∷ orders) [] all each = absurd each
  filler_ends (Ordered.Filler wakes ∷ orders) (Ended.Filler refusal ∷ ends) all each =
      let rest = filler_ends orders ends all.1 each.1 in
      record { others = record { causes = (each.0.0, rest.others.causes); seen = (each.0.1, rest.others.seen); no_ends = rest.others.no_ends; no_sources = rest.others.no_sources }; no_answers = rest.no_answers }
  filler_ends (Ordered.Filler wakes ∷ orders) (Ended.Link number back end ∷ ends) all each = absurd each.0
  filler_ends (Ordered.Filler wakes ∷ orders) (Ended.Reader answers refusal ∷ ends) all each = absurd each.0
  filler_ends (Ordered.Link link source wake ∷ orders) (end ∷ ends) all each = absurd all.0
  filler_ends (Ordered.Reader before ∷ orders) (end ∷ ends) all each = absurd all.0

  -- ---- all of them

  pub record AreEnds (link : ℕ) (sources : List S) (readers : ℕ) (ends : List (JobEnd S)) : Type 0 where
    pub loaded : AreLinksLoaded (disk_facts device first.opened first.sealed) (extension first.exponent first.history closed.history failed) g link (lefts_of state sources) (filter_map end_in ends)
    pub read : AreSourcesRead state (filter_map end_in ends) sources (filter_map source_in ends)
    pub seen : AllByRecursion (λ end. IfSome (refusal_of_end end) (IsSeenIn device first closed)) (filter_map end_in ends)
    pub causes : AllByRecursion (IsReaderCause (disk_facts device first.opened first.sealed)) (take readers (filter_map other_in ends))
    pub filler_causes : AllByRecursion (IsFillerCause (disk_facts device first.opened first.sealed) failed) (drop readers (filter_map other_in ends))
    pub others_seen : AllByRecursion (λ refusal. IfSome refusal (IsSeenIn device first closed)) (filter_map other_in ends)
    pub stands : (k : ℕ) → k < length sources → (job : JobEnd S) (end : LinkEnd) → slice_get ends k ≡ Some job → end_in job ≡ Some end → slice_get (filter_map end_in ends) k ≡ Some end
    pub many : length (filter_map answers_in ends) ≡ readers
    pub answered : AreUnrefused ends → (k : ℕ) → k < readers → AreAllAnswered k (answers_at k (filter_map answers_in ends))

  pub ends_of_load : (link : ℕ) (sources : List S) (readers fillers : ℕ) (orders : List (Order S)) (ends : List (JobEnd S)) → AreOrdersFor link sources readers fillers orders → EachDid Came orders ends
      → AreEnds link sources readers ends
  ends_of_load link sources readers fillers orders ends are each =
      let whole = cut Came are.of_links (map Ordered.Reader (range_with_len 0 readers) ++ are.of_fillers) ends (subst (λ (l : List (Order S)). EachDid Came l ends) are.parts each) in
      let rest = cut Came (map Ordered.Reader (range_with_len 0 readers)) are.of_fillers whole.second whole.of_second in
      let links = link_ends link sources are.of_links whole.first are.links whole.of_first in
      let read = reader_ends 0 readers rest.first rest.of_first in
      let filled = filler_ends are.of_fillers rest.second are.fill rest.of_second in
      let later_ends : filter_map end_in whole.second ≡ [] = taken_of end_in whole.second rest.first rest.second [] [] rest.parts read.others.no_ends filled.others.no_ends in
      let later_sources : filter_map source_in whole.second ≡ [] = taken_of source_in whole.second rest.first rest.second [] [] rest.parts read.others.no_sources filled.others.no_sources in
      let later_answers : filter_map answers_in whole.second ≡ filter_map answers_in rest.first =
      taken_of answers_in whole.second rest.first rest.second (filter_map answers_in rest.first) [] rest.parts refl filled.no_answers ∙ append-nil (filter_map answers_in rest.first) in
      let later_others : filter_map other_in whole.second ≡ filter_map other_in rest.first ++ filter_map other_in rest.second =
      taken_of other_in whole.second rest.first rest.second (filter_map other_in rest.first) (filter_map other_in rest.second) rest.parts refl refl in
      let all_ends : filter_map end_in ends ≡ filter_map end_in whole.first = taken_of end_in ends whole.first whole.second (filter_map end_in whole.first) [] whole.parts refl later_ends ∙ append-nil (filter_map end_in whole.first) in
      let all_sources : filter_map source_in ends ≡ filter_map source_in whole.first =
      taken_of source_in ends whole.first whole.second (filter_map source_in whole.first) [] whole.parts refl later_sources ∙ append-nil (filter_map source_in whole.first) in
      let all_answers : filter_map answers_in ends ≡ filter_map answers_in rest.first = taken_of answers_in ends whole.first whole.second [] (filter_map answers_in rest.first) whole.parts links.no_answers later_answers in
      let all_others : filter_map other_in ends ≡ filter_map other_in rest.first ++ filter_map other_in rest.second =
      taken_of other_in ends whole.first whole.second [] (filter_map other_in rest.first ++ filter_map other_in rest.second) whole.parts links.no_others later_others in
      record {
        loaded = subst (AreLinksLoaded (disk_facts device first.opened first.sealed) (extension first.exponent first.history closed.history failed) g link (lefts_of state sources)) (sym all_ends) links.loaded;
        read = subst (λ (l : List LinkEnd). AreSourcesRead state l sources (filter_map source_in ends)) (sym all_ends)
            (subst (AreSourcesRead state (filter_map end_in whole.first) sources) (sym all_sources) links.read);
        seen = subst (AllByRecursion (λ end. IfSome (refusal_of_end end) (IsSeenIn device first closed))) (sym all_ends) links.seen;
        causes = subst (λ (l : List (Option Refusal)). AllByRecursion (IsReaderCause (disk_facts device first.opened first.sealed)) (take readers l)) (sym all_others)
            (subst (λ (n : ℕ). AllByRecursion (IsReaderCause (disk_facts device first.opened first.sealed)) (take n (filter_map other_in rest.first ++ filter_map other_in rest.second))) read.as_many
            (subst (AllByRecursion (IsReaderCause (disk_facts device first.opened first.sealed))) (sym (take-append_seam (filter_map other_in rest.first) (filter_map other_in rest.second))) read.others.causes));
        filler_causes = subst (λ (l : List (Option Refusal)). AllByRecursion (IsFillerCause (disk_facts device first.opened first.sealed) failed) (drop readers l)) (sym all_others)
            (subst (λ (n : ℕ). AllByRecursion (IsFillerCause (disk_facts device first.opened first.sealed) failed) (drop n (filter_map other_in rest.first ++ filter_map other_in rest.second))) read.as_many
            (subst (AllByRecursion (IsFillerCause (disk_facts device first.opened first.sealed) failed)) (sym (drop-append_seam (filter_map other_in rest.first) (filter_map other_in rest.second))) filled.others.causes));
        others_seen = subst (AllByRecursion Seen) (sym all_others) (all_append Seen (filter_map other_in rest.first) (filter_map other_in rest.second) read.others.seen filled.others.seen);
        stands = λ k low job end there is. ap (λ (l : List LinkEnd). slice_get l k) all_ends
            ∙ end_at link sources are.of_links whole.first whole.second are.links whole.of_first k low job end (ap (λ (l : List (JobEnd S)). slice_get l k) (sym whole.parts) ∙ there) is;
        many = ap length all_answers ∙ read.many;
        answered = λ none k low. subst (λ (l : List (List AskAnswer)). AreAllAnswered k (answers_at k l)) (sym all_answers)
            (subst (λ (n : ℕ). AreAllAnswered n (answers_at k (filter_map answers_in rest.first))) (plain k)
            (read.answered (unrefused (filter_map other_in rest.first) (filter_map other_in rest.second) (subst (AllByRecursion (λ refusal. refusal ≡ None)) all_others none)) k low));
      }
    where
      plain : (k : ℕ) → 0 + k ≡ k
      plain k = omega arith

      unrefused : (xs ys : List (Option Refusal)) → AllByRecursion (λ refusal. refusal ≡ None) (xs ++ ys) → AllByRecursion (λ refusal. refusal ≡ None) xs
      unrefused [] ys all = tt
      unrefused (x ∷ xs) ys all = (all.0, unrefused xs ys all.1)
