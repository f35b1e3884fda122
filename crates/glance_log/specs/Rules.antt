-- The rule over the publications of a log, and what the step that adds one tells.
use Rattle.std.specs.Prelude.{ℕ, ◌≡◌, ◌==◌, ◌+◌, true, false, List, [], ◌∷◌, ◌++◌, length, MatchBool}
use Rattle.std.specs.List.{AllByRecursion}
use mathlib.Core.List.{IsPrefix}
use Rattle.logbook.specs.Pages.{Cell, Step, View, Book, Named}
use Rattle.glance_log.specs.declared.publication.Publication.{Publication}

-- a publication goes on from an earlier one: both lists begin with those of the earlier, and that wasn't the last
pub record PublishesOn {X : Type 0} (p q : Publication X) : Type 0 where
  pub history : IsPrefix p.history q.history
  pub fills : IsPrefix p.fills q.fills
  pub fixed : q.fixed ≡ p.fixed
  pub unclosed : p.closed ≡ false

-- each goes on from each before it
abbrev pub ArePublished : {X : Type 0} → List (Publication X) → Type 0
ArePublished [] = Unit {0}
ArePublished (p ∷ ps) = AllByRecursion (PublishesOn p) ps × ArePublished ps

-- the one word of the log is the number of its last publication, the first has number 0
pub record IsLogOf {X : Type 0} (cells : List Cell) (log : List (Publication X)) : Type 0 where
  pub number : ℕ
  pub words : cells ≡ (number, true) ∷ []
  pub count : length log ≡ number + 1
  pub chain : ArePublished log

-- of a log the publications up to that with this number were seen
pub record IsSight {X : Type 0} (number : ℕ) (log : List (Publication X)) : Type 0 where
  pub count : length log ≡ number + 1
  pub chain : ArePublished log

-- the word of a log
abbrev pub log_head : Book → Named
log_head b = record { tracked = true; key = 0; book = b }

-- where the expected number was found, the publication stands behind all that had been seen
abbrev pub IsPublished : {X : Type 0} → Step (Publication X) → View (Publication X) ℕ → ℕ → View (Publication X) ℕ → Type 0
IsPublished s v found w = MatchBool (found == s.old) (w.0 ≡ v.0 ++ s.ask ∷ []) (Unit {0})
