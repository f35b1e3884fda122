use Rattle.std.proofs.Common.{◌≡◌, ◌∙◌, [], ◌∷◌, ◌++◌, length, ℕ, List, ◌<◌, ◌^◌, ap, subst, sym}
use Rattle.disk_journal.specs.Format.{framed}
use Rattle.disk_journal.proofs.Files.{frame_whole, frame_body}
use Rattle.disk_journal.proofs.frame.Frame.finish.Goals as goal

pub invariant_of-result : goal.invariant_of-result
invariant_of-result c =
    let body : List ℕ = c.requires.0 in
    let is : c.push.new.self.items ≡ framed body ++ 0 ∷ [] = c.in_ok-push.ensures.items ∙ ap (λ (l : List ℕ). l ++ 0 ∷ []) c.requires.1 in
    (frame_whole c.push.new.self.items body is, subst (λ (l : List ℕ). length l < 2 ^ 32) (sym (frame_body c.push.new.self.items body is)) c.requires.2)

pub returns : goal.returns
returns c body at = frame_body c.push.new.self.items body (c.in_ok-push.ensures.items ∙ ap (λ (l : List ℕ). l ++ 0 ∷ []) at)
