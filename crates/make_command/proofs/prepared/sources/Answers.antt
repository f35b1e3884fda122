use Rattle.std.proofs.Common.{◌≡◌, ◌∙◌, ◌++◌, [], ◌∷◌, List, ℕ, sym, ap, append_assoc}
use Rattle.make_command.proofs.prepared.sources.Goals as goal

pub loop-dump-init : goal.loop-dump-init
loop-dump-init c = (let s = c.into_iter-dump-iterator.ensures.into_iter_gives in cc) ∙ c.into_vec-dump-items.ensures

pub loop-dump-preserved : goal.loop-dump-preserved
loop-dump-preserved c =
    let step : c.loop-dump.dump-iterator.rest.items ≡ c.in-Some.dump ∷ c.next.new.self.rest.items = let s = c.in-Some.ensures.steps in cc in
    let rest = c.next.new.self.rest.items in
    ap (λ (l : List (List ℕ)). l ++ rest) c.in_ok-push.ensures.items
    ∙ ap (λ (d : List ℕ). (c.loop-dump.sources.items ++ d ∷ []) ++ rest) c.new.ensures
    ∙ append_assoc c.loop-dump.sources.items (c.in-Some.dump ∷ []) rest
    ∙ ap (λ (l : List (List ℕ)). c.loop-dump.sources.items ++ l) (sym step) ∙ c.loop-dump.invariant
