use Rattle.std.proofs.Common.{◌≡◌, ◌∙◌, ◌+◌, ◌++◌, ◌∷◌, [], List, ℕ, ap, arith, length}
use Rattle.std.specs.Prelude.{Err, OnOk, Ok, Result}
use Rattle.segment_codec.specs.declared.segment.Segment.{Segment}
use Rattle.param_segments.specs.Runs.{AreRunsSoFar, IsLast}
use Rattle.param_segments.proofs.RunSteps.{group_more}
use Rattle.param_segments.proofs.runs.Runs.take_first.Goals as goal

-- what follows from three facts of an Ok
of_three : {T E : Type 0} (A B C D : Type 0) → (A → B → C → D) → (r : Result T E) → OnOk r A → OnOk r B → OnOk r C → OnOk r D
of_three A B C D f (Ok x) a b c = f a b c
of_three A B C D f (Err e) a b c = tt

pub returns : goal.returns
returns c =
    let old = c.args.self.now in
    let new = c.take.new.self in
    let s = c.args.segment.now in
    let keys = s.keys in
    let groups : new.groups ≡ old.groups ++ s.parameters ∷ [] =
    c.take.ensures.groups ∙ c.in_ok-add.ensures.added ∙ ap (λ (g : List ℕ). old.groups ++ g ∷ []) (c.in_ok-parameters.ensures.items ∙ c.parameters.ensures) in
    let more : c.in-Some.count ≡ old.count + 1 = omega (arith, c.in-Some.ensures) in
    let taken : new.numbers.items ≡ old.numbers.items ++ old.count ∷ [] → new.rows ≡ length keys → IsLast keys new.last → (before : List Segment) → AreRunsSoFar before old → AreRunsSoFar (before ++ s ∷ []) new = λ numbers rows last before so_far.
    group_more before s old new c.requires.segment c.requires.new groups (c.take.ensures.count ∙ more) numbers rows last so_far in
    of_three (new.numbers.items ≡ old.numbers.items ++ old.count ∷ []) (new.rows ≡ length keys) (IsLast keys new.last) ((before : List Segment) → AreRunsSoFar before old → AreRunsSoFar (before ++ s ∷ []) new) taken c.take.result c.take.ensures.numbers c.take.ensures.rows c.take.ensures.last
