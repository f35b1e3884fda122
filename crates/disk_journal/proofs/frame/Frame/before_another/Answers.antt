use Rattle.std.proofs.Common.{◌≡◌, ◌+◌, ◌-◌, ◌++◌, [], ◌∷◌, List, ℕ, length, ◌∙◌, ap, arith, length-append}
use Rattle.std.specs.Prelude.{slice_set}
use Rattle.std.proofs.Math.Seq.{set-append_seam}
use Rattle.disk_journal.specs.Format.{framed}
use Rattle.disk_journal.specs.Frame.{body_in}
use Rattle.disk_journal.proofs.frame.Frame.before_another.Goals as goal

pub returns : goal.returns
returns c =
    let octets = c.self.inside.octets.items in
    let body = body_in octets in
    let is : octets ≡ framed body ++ 0 ∷ [] = c.self.invariant.0 in
    let at : c.len-gate.result - 1 ≡ length (framed body) = omega (arith, ap length is, length-append (framed body) (0 ∷ []), c.len-gate.ensures) in
    ap (λ (l : List ℕ). slice_set l (c.len-gate.result - 1) 1) is
    ∙ ap (λ (n : ℕ). slice_set (framed body ++ 0 ∷ []) n 1) at
    ∙ set-append_seam (framed body) 0 [] 1
    ∙ ap (λ (b : List ℕ). framed b ++ 1 ∷ []) c.self.view_is
