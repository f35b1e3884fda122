-- Trackers whose marks stay right.
use Rattle.std.proofs.Common.{◌≡◌, ℕ, List, sym, subst}
use Rattle.history_items.specs.declared.fills.Fill.{Fill}
use Rattle.history_items.specs.declared.items.Item.{Item}
use Rattle.late_marks.specs.Marks.{Marks}
use Rattle.fill_tracker.specs.FillTracker.{AreMarksOf, FillTrackerView, KeepsMarks}

same_marks : (exponent : ℕ) (history : List Item) (fills more : List Fill) (marks next : Marks) → more ≡ fills → next ≡ marks → AreMarksOf exponent history fills marks → AreMarksOf exponent history more next
same_marks exponent history fills more marks next same alike are = subst (λ (m : Marks). AreMarksOf exponent history more m) (sym alike) (subst (λ (l : List Fill). AreMarksOf exponent history l marks) (sym same) are)

-- one that got room
pub keeps_roomy : (old new : FillTrackerView) → (new.fills ≡ old.fills) × (new.marks ≡ old.marks) → KeepsMarks old new
keeps_roomy old new same = λ exponent history are. same_marks exponent history old.fills new.fills old.marks new.marks same.0 same.1 are

-- one that got room, and then more
pub keeps_roomier : (old mid new : FillTrackerView) → (mid.fills ≡ old.fills) × (mid.marks ≡ old.marks) → KeepsMarks mid new → KeepsMarks old new
keeps_roomier old mid new same keeps = λ exponent history are. keeps exponent history (keeps_roomy old mid same exponent history are)
