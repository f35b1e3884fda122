-- What a glance answers, and what it has seen.
use Rattle.std.proofs.Common.{◌≡◌, inr, Option, Some, None, IfSome, Result, Ok, Err, IfOk, refl, ◌∙◌, sym, subst}
use Rattle.std.specs.Prelude.{IsSomeAnd}
use Rattle.std.specs.Result.{result_ok}
use Rattle.arch_disk.specs.Disk.{Device}
use Rattle.asks.specs.declared.ask.Answer.{Answer}
use Rattle.glance_log.specs.Sightings.{IsFollowedBy, Sighting}
use Rattle.glance_log.proofs.Chains.{follows_self, follows_trans}
use Rattle.glance_log.proofs.Prefixes.{prefix_self, prefix_trans}
use Rattle.glance_board.specs.Shelves.{ShelfView}
use Rattle.glance.specs.Answers.{IsNowAnswer, IsTimelyAnswer}
use Rattle.archive_store.specs.declared.finding.FoundRequest.{FoundRequest}
use Rattle.archive_store.specs.StoreView.{StoreView, filled_of}
use Rattle.retrieval.specs.declared.found_asks.FoundAsk.{FoundAsk}
use Rattle.retrieval.specs.declared.found_asks.FoundAsk.TheVariants as looked_up
use Rattle.store_shelf.specs.declared.kept.Kept.{Kept}
use Rattle.store_shelf.specs.Publications.{kept_of, staying_by}
use Rattle.live_archive.specs.declared.held.HeldStore.{HeldStore}
use Rattle.live_archive.specs.Shelving.{IsOfLog}
use Rattle.live_asks.specs.declared.answered.AskAnswer.{AskAnswer}
use Rattle.live_asks.specs.declared.answered.AskAnswer.TheVariants as answered
use Rattle.live_asks.specs.LiveAsks.{HasRowCellsOf, IsGlanceAt, IsGlanced, LooksOn, disk_facts}

-- ---- it looks on

module _ {X : Type 0} where
  pub looks_same : (glance : Option (Sighting X)) → LooksOn glance glance
  looks_same None = refl
  looks_same (Some glance) = follows_self glance

  pub looks_trans : (a b c : Option (Sighting X)) → LooksOn a b → LooksOn b c → LooksOn a c
  looks_trans None b c p q = subst (λ (o : Option (Sighting X)). LooksOn o c) p q
  looks_trans (Some a) None c p q = absurd p
  looks_trans (Some a) (Some b) None p q = absurd q
  looks_trans (Some a) (Some b) (Some c) p q = follows_trans a b c p q

-- what holds of an answer holds of it, where there is one
pub ok_is_some : {A E : Type 0} (P : A → Type 0) (r : Result A E) → IfOk r P → IfSome (result_ok r) P
ok_is_some P (Ok a) is = is
ok_is_some P (Err e) is = tt

-- ---- at one archive

module _ {D : Type 0} (first : HeldStore D) where
  glance_stays : (old new : Sighting (Kept D)) → IsGlanceAt first old → IsFollowedBy old new → IsGlanceAt first new
  glance_stays old new is on = record {
    log = go first.shelf is.log;
    kept = on.fixed ∙ is.kept;
    begins = prefix_trans first.store.history old.history new.history is.begins on.history;
  }
    where
      go : (shelf : Option (ShelfView (Kept D))) → IsSomeAnd shelf (λ s. old.book ≡ s.made.book) → IsSomeAnd shelf (λ s. new.book ≡ s.made.book)
      go None none = none
      go (Some s) same = on.book ∙ same

  pub glances_stay : (old new : Option (Sighting (Kept D))) → IfSome old (IsGlanceAt first) → LooksOn old new → IfSome new (IsGlanceAt first)
  glances_stay None new is looks = subst (λ (o : Option (Sighting (Kept D))). IfSome o (IsGlanceAt first)) (sym looks) tt
  glances_stay (Some old) None is looks = absurd looks
  glances_stay (Some old) (Some new) is looks = glance_stays old new is looks

  -- two publications are of one log
  pub same_log : (a b : Sighting (Kept D)) → IsOfLog first a → IsOfLog first b → b.book ≡ a.book
  same_log a b p q = go first.shelf p q
    where
      go : (shelf : Option (ShelfView (Kept D))) → IsSomeAnd shelf (λ s. a.book ≡ s.made.book) → IsSomeAnd shelf (λ s. b.book ≡ s.made.book) → b.book ≡ a.book
      go None p q = absurd p
      go (Some s) p q = q ∙ sym p

  -- ---- an answer

  module _ (device : Device D) (found : FoundRequest) (answer : Answer) where
    row_cells : (at : Sighting (Kept D)) → IsGlanceAt first at → IsNowAnswer (staying_by device) at found.request answer
        → HasRowCellsOf (disk_facts device first.store.opened first.store.sealed) (filled_of first.store) at.history found.request answer
    row_cells at is said =
        let same : said.0 ≡ kept_of first.store = cc (sym said.1 ∙ is.kept) in
        let over = subst (λ (k : Kept D). IsTimelyAnswer (staying_by device k) at.history at.fills found.request answer) same said.2 in record {
          front = over.front;
          number = over.number;
          named = over.named;
          cells = λ known sound. over.cells (known, sound);
        }

    pub glance_answers : (old new : Option (Sighting (Kept D))) → IfSome old (IsGlanceAt first) → LooksOn old new → IsSomeAnd new (λ at. IsNowAnswer (staying_by device) at found.request answer)
        → IsGlanced device first.store new (looked_up.Values found) (answered.Values answer)
    glance_answers old None is looks said = absurd said
    glance_answers None (Some new) is looks said = absurd (cc looks)
    glance_answers (Some old) (Some new) is looks said =
        let here = glance_stays old new is looks in record {
          over = new.history;
          later = here.begins;
          begins = prefix_self new.history;
          answers = inr (row_cells new here said);
        }

-- what it answered stays so as it sees more
pub glanced_on : {D : Type 0} (device : Device D) (first : StoreView D) (old new : Option (Sighting (Kept D))) (ask : FoundAsk) (answer : AskAnswer) → LooksOn old new → IsGlanced device first old ask answer → IsGlanced device first new ask answer
glanced_on device first None new ask answer looks is = absurd is
glanced_on device first (Some old) None ask answer looks is = absurd looks
glanced_on device first (Some old) (Some new) ask answer looks is =
    record { over = is.over; later = is.later; begins = prefix_trans is.over old.history new.history is.begins looks.history; answers = is.answers }
