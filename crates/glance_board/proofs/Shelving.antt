-- What a shelf knows of what is shown, of what the board has still to show, and of what was made last.
use Rattle.std.proofs.Common.{◌≡◌, true≢false, List, [], ◌∷◌, ◌++◌, Option, Some, None, refl, sym, ◌∙◌, ap, subst}
use Rattle.std.specs.Prelude.{Result, Ok, Err, MatchResult, OnOk}
use Rattle.std.specs.Option.{option_to_list}
use Rattle.std.proofs.lemmas.List.{append-nil}
use Rattle.glance_log.specs.declared.publication.Publication.{Publication}
use Rattle.glance_log.specs.Sightings.{Sighting, IsFollowedBy, MayFollow, sighting}
use Rattle.glance_log.proofs.Chains.{follows_self, follows_trans}
use Rattle.glance_board.specs.declared.rule.Watched.{Watched}
use Rattle.glance_board.specs.Rules.{SeesNow}
use Rattle.glance_board.specs.Shelves.{IsLastMade, IsShelf, last_to_show}

module _ {X : Type 0} where
  -- what may come behind a publication follows it
  pub may_follow : (a : Sighting X) (p : Publication X) → MayFollow a p → IsFollowedBy a (sighting a.book p)
  may_follow a p may = record {
    book = refl;
    history = may.history;
    fills = may.fills;
    fixed = sym may.fixed;
    last = λ closed. absurd (true≢false (sym closed ∙ may.unclosed));
  }

  last_more : (shown : Sighting X) (pending : List (Sighting X)) (next : Sighting X) → last_to_show shown (pending ++ next ∷ []) ≡ next
  last_more shown [] next = refl
  last_more shown (p ∷ pending) next = last_more p pending next

  last_handed : (shown : Sighting X) (pending : List (Sighting X)) (waiting : Option (Sighting X)) (made : Sighting X) → IsLastMade (last_to_show shown pending) waiting made → last_to_show shown (pending ++ option_to_list waiting) ≡ made
  last_handed shown pending None made is = ap (last_to_show shown) (append-nil pending) ∙ is
  last_handed shown pending (Some waiting) made is = last_more shown pending waiting ∙ is

  module _ (v : Watched X) (shown : Sighting X) (pending : List (Sighting X)) (waiting : Option (Sighting X)) (made : Sighting X) (is : IsShelf v shown pending waiting made) where
    -- what was made last follows what is shown
    pub made_follows : IsFollowedBy shown made
    made_follows = follows_trans shown (last_to_show shown pending) made is.pends is.makes

    -- with what waits, the board has what was made last
    pub handed : last_to_show shown (pending ++ option_to_list waiting) ≡ made
    handed = last_handed shown pending waiting made is.last

    -- so it is what the board shows next
    pub handed_follows : (next : Sighting X) → next ≡ last_to_show shown (pending ++ option_to_list waiting) → IsFollowedBy shown next
    handed_follows next same = subst (IsFollowedBy shown) (sym (same ∙ handed)) made_follows

    -- a publication that was made waits
    pub made_waits : (next : Sighting X) → IsFollowedBy made next → IsShelf v shown pending (Some next) next
    made_waits next on = record { seen = is.seen; pends = is.pends; makes = follows_trans (last_to_show shown pending) made next is.makes on; last = refl }

    -- the board has it, and didn't show it
    pub handed_only : IsShelf v shown (pending ++ option_to_list waiting) None made
    handed_only = record {
      seen = is.seen;
      pends = handed_follows (last_to_show shown (pending ++ option_to_list waiting)) refl;
      makes = subst (λ (l : Sighting X). IsFollowedBy l made) (sym handed) (follows_self made);
      last = handed;
    }

  -- it is shown
  pub all_shown : (v : Watched X) (shown made : Sighting X) → v.seen ≡ shown ∷ [] → shown ≡ made → IsShelf v shown [] None made
  all_shown v shown made seen same = record { seen = seen; pends = follows_self shown; makes = subst (IsFollowedBy shown) same (follows_self shown); last = same }

  -- ---- the board was asked to show all that it has

  module _ {A B : Type 0} (v next : Watched X) (shown new : Sighting X) (pending left : List (Sighting X)) where
    -- it shows the last, or what it showed
    abbrev pub ShowsLast : Result A B → Type 0
    ShowsLast r = MatchResult r (λ _. (new ≡ last_to_show shown pending) × (left ≡ [])) (λ _. (new ≡ shown) × (left ≡ pending))

    abbrev pub SeesLast : Result A B → Type 0
    SeesLast r = MatchResult r (λ _. SeesNow v shown new next) (λ _. next ≡ v)

    pub still_shelf : (made : Sighting X) (r : Result A B) → ShowsLast r → SeesLast r → IsShelf v shown pending None made → IsShelf next new left None made
    still_shelf made (Ok a) shows sees is = subst (λ (l : List (Sighting X)). IsShelf next new l None made) (sym shows.1) (all_shown next new made sees.1 (shows.0 ∙ is.last))
    still_shelf made (Err b) shows sees is = rw (shows.0, shows.1, sees) is

    pub is_shown : (made : Sighting X) (r : Result A B) → ShowsLast r → last_to_show shown pending ≡ made → OnOk r (new ≡ made)
    is_shown made (Ok a) shows last = shows.0 ∙ last
    is_shown made (Err b) shows last = tt

    pub later_shown : (r : Result A B) → ShowsLast r → IsFollowedBy shown (last_to_show shown pending) → IsFollowedBy shown new
    later_shown (Ok a) shows on = subst (IsFollowedBy shown) (sym shows.0) on
    later_shown (Err b) shows on = subst (IsFollowedBy shown) (sym shows.0) (follows_self shown)

  -- ---- and had nothing but what it showed

  pub opened_follows : (shown next : Sighting X) (pending : List (Sighting X)) → pending ≡ [] → next ≡ last_to_show shown pending → IsFollowedBy shown next
  opened_follows shown next pending none same = subst (IsFollowedBy shown) (sym (same ∙ ap (last_to_show shown) none)) (follows_self shown)

  module _ {B : Type 0} (v next : Watched X) (first shown new : Sighting X) (pending left : List (Sighting X)) (r : Result (Unit {0}) B) where
    pub opened_shown : {u : Unit {0}} → r ≡ Ok u → shown ≡ first → pending ≡ [] → ShowsLast v next shown new pending left r → new ≡ first
    opened_shown is same none shows =
        let at = subst (ShowsLast v next shown new pending left) is shows in
        at.0 ∙ ap (last_to_show shown) none ∙ same

    pub opened_seen : {u : Unit {0}} → r ≡ Ok u → shown ≡ first → pending ≡ [] → ShowsLast v next shown new pending left r → SeesLast v next shown new pending left r → next.seen ≡ first ∷ []
    opened_seen is same none shows sees =
        let at = subst (SeesLast v next shown new pending left) is sees in
        at.1 ∙ ap (λ (s : Sighting X). s ∷ []) (opened_shown is same none shows)

    pub opened_pending : {u : Unit {0}} → r ≡ Ok u → ShowsLast v next shown new pending left r → left ≡ []
    opened_pending is shows = (subst (ShowsLast v next shown new pending left) is shows).1
