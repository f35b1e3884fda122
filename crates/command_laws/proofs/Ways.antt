-- What holds of each end of plans that are put together, and what is due of them.
use Rattle.std.proofs.Common.{inl, inr}
use Rattle.command_plans.specs.Plan.{CommandPlan, Return, Stop, May, Question, Choose, Way, EachEnd, Requires, and_then, map_done, way_map_done}

-- of a plan in the words of an upper one
pub each_map_done : {S T X : Type 0} (f : S → T) (P : Way T ⊥ → Type 0) (p : CommandPlan S X) → EachEnd (λ (way : Way S ⊥). P (way_map_done f way)) p → EachEnd P (map_done f p)
each_map_done f P (Return x) d = tt
each_map_done f P (Stop s refusal) d = d
each_map_done f P (May fault s p) d = (d.0, each_map_done f P p d.1)
each_map_done f P (Question is next) d = λ a h. each_map_done f P (next a) (d a h)
each_map_done f P (Choose is next) d = λ a h. each_map_done f P (next a) (d a h)

-- of two plans in the words of an upper one, and a third behind what they give
pub each_in_turn : {S T X Y Z : Type 0} (f : S → T) (P : Way T ⊥ → Type 0) (p : CommandPlan S X) (g : X → CommandPlan S Y) (next : Y → CommandPlan T Z)
    → EachEnd P (and_then (map_done f p) (λ x. and_then (map_done f (g x)) next)) → EachEnd P (and_then (map_done f (and_then p g)) next)
each_in_turn f P (Return x) g next d = d
each_in_turn f P (Stop s refusal) g next d = d
each_in_turn f P (May fault s p) g next d = (d.0, each_in_turn f P p g next d.1)
each_in_turn f P (Question is more) g next d = λ a h. each_in_turn f P (more a) g next (d a h)
each_in_turn f P (Choose is more) g next d = λ a h. each_in_turn f P (more a) g next (d a h)

-- what is due of them is due of the first, and then of the second
pub due_in_turn : {S T X Y : Type 0} (f : S → T) (p : CommandPlan S X) (g : X → CommandPlan S Y) (next : Y → CommandPlan T ⊥) (way : Way T ⊥)
    → Requires (and_then (map_done f (and_then p g)) next) way → Requires (and_then (map_done f p) (λ x. and_then (map_done f (g x)) next)) way
due_in_turn f (Return x) g next way d = d
due_in_turn f (Stop s refusal) g next way d = d
due_in_turn f (May fault s p) g next way (inl is) = inl is
due_in_turn f (May fault s p) g next way (inr d) = inr (due_in_turn f p g next way d)
due_in_turn f (Question is more) g next way d = λ a h. due_in_turn f (more a) g next way (d a h)
due_in_turn f (Choose is more) g next way d = (d.0, d.1, due_in_turn f (more d.0) g next way d.2)

-- what is due of a part in the words of an upper plan, and of what follows in them
pub due_under : {S T U X Y : Type 0} (f : T → U) (g : S → T) (p : CommandPlan S X) (next : X → CommandPlan T Y) (way : Way U Y)
    → Requires (map_done f (and_then (map_done g p) next)) way → Requires (and_then (map_done (λ s. f (g s)) p) (λ x. map_done f (next x))) way
due_under f g (Return x) next way d = d
due_under f g (Stop s refusal) next way d = d
due_under f g (May fault s p) next way (inl is) = inl is
due_under f g (May fault s p) next way (inr d) = inr (due_under f g p next way d)
due_under f g (Question is more) next way d = λ a h. due_under f g (more a) next way (d a h)
due_under f g (Choose is more) next way d = (d.0, d.1, due_under f g (more d.0) next way d.2)

-- of a plan in its own words, and in those of an upper one of an upper one
pub due_alone : {S X : Type 0} (p : CommandPlan S X) (way : Way S X) → Requires p way → Requires (map_done (λ s. s) p) way
due_alone (Return x) way d = d
due_alone (Stop s refusal) way d = d
due_alone (May fault s p) way (inl cut) = inl cut
due_alone (May fault s p) way (inr d) = inr (due_alone p way d)
due_alone (Question is next) way d = λ a h. due_alone (next a) way (d a h)
due_alone (Choose is next) way d = (d.0, d.1, due_alone (next d.0) way d.2)

pub due_twice : {S T U X : Type 0} (f : T → U) (g : S → T) (p : CommandPlan S X) (way : Way U X) → Requires (map_done f (map_done g p)) way → Requires (map_done (λ s. f (g s)) p) way
due_twice f g (Return x) way d = d
due_twice f g (Stop s refusal) way d = d
due_twice f g (May fault s p) way (inl cut) = inl cut
due_twice f g (May fault s p) way (inr d) = inr (due_twice f g p way d)
due_twice f g (Question is next) way d = λ a h. due_twice f g (next a) way (d a h)
due_twice f g (Choose is next) way d = (d.0, d.1, due_twice f g (next d.0) way d.2)
