-- The laws of plans.
use Rattle.std.proofs.Common.{◌≡◌, inl, inr, ap, subst, Option}
use Rattle.refusals.specs.declared.refusal.Refusal.{Refusal}
use Rattle.command_plans.specs.Plan.{Interruption, CommandPlan, Return, Stop, May, Question, Choose, Way, Returned, Stopped, Interrupted, Allows, Requires, IsDetermined, EachEnd, map_done, way_map_done, and_then}

-- a determined plan went as it had to
pub required : {S X : Type 0} (p : CommandPlan S X) (way : Way S X) → IsDetermined p → Allows p way → Requires p way
required (Return x) way d g = g
required (Stop s refusal) way d g = g
required (May interruption s p) way d (inl cut) = inl cut
required (May interruption s p) way d (inr g) = inr (required p way d g)
required (Question {A = A} is next) way d g = λ a h. subst (λ (b : A). Requires (next b) way) (d.0 g.0 a g.1 h) (required (next g.0) way (d.1 g.0 g.1) g.2)
required (Choose is next) way d g = (g.0, g.1, required (next g.0) way (d g.0 g.1) g.2)

-- a call gave something, and what follows went so
pub gave : {S X Y : Type 0} (p : CommandPlan S X) (f : X → CommandPlan S Y) (x : X) (way : Way S Y) → Allows p (Returned x) → Allows (f x) way → Allows (and_then p f) way
gave {X = X} (Return y) f x way g h = let same : x ≡ y = cc in subst (λ (z : X). Allows (f z) way) same h
gave (Stop s refusal) f x way g h = absurd (cc (g))
gave (May interruption s p) f x way (inl g) h = absurd (cc (g))
gave (May interruption s p) f x way (inr g) h = inr (gave p f x way g h)
gave (Question is next) f x way g h = (g.0, g.1, gave (next g.0) f x way g.2 h)
gave (Choose is next) f x way g h = (g.0, g.1, gave (next g.0) f x way g.2 h)

-- a call ended, and so all ended
pub ended : {S X Y : Type 0} (p : CommandPlan S X) (f : X → CommandPlan S Y) (s : S) (refusal : Option Refusal) → Allows p (Stopped s refusal) → Allows (and_then p f) (Stopped s refusal)
ended (Return y) f s refusal g = absurd (cc (g))
ended {S = S} (Stop t other) f s refusal g = let one : s ≡ t = cc in let two : refusal ≡ other = cc in cc
ended (May interruption t p) f s refusal (inl g) = absurd (cc (g))
ended (May interruption t p) f s refusal (inr g) = inr (ended p f s refusal g)
ended (Question is next) f s refusal g = (g.0, g.1, ended (next g.0) f s refusal g.2)
ended (Choose is next) f s refusal g = (g.0, g.1, ended (next g.0) f s refusal g.2)

-- a call was cut off, and so all was
pub cut : {S X Y : Type 0} (p : CommandPlan S X) (f : X → CommandPlan S Y) (s : S) (interruption : Interruption) → Allows p (Interrupted s interruption) → Allows (and_then p f) (Interrupted s interruption)
cut (Return y) f s interruption g = absurd (cc (g))
cut (Stop t other) f s interruption g = absurd (cc (g))
cut (May other t p) f s interruption (inl g) = let one : s ≡ t = cc in let two : interruption ≡ other = cc in inl cc
cut (May other t p) f s interruption (inr g) = inr (cut p f s interruption g)
cut (Question is next) f s interruption g = (g.0, g.1, cut (next g.0) f s interruption g.2)
cut (Choose is next) f s interruption g = (g.0, g.1, cut (next g.0) f s interruption g.2)

-- a plan whose answers are determined stays so where what follows does
pub determined : {S X Y : Type 0} (p : CommandPlan S X) (f : X → CommandPlan S Y) → IsDetermined p → ((x : X) → IsDetermined (f x)) → IsDetermined (and_then p f)
determined (Return x) f d e = e x
determined (Stop s refusal) f d e = tt
determined (May interruption s p) f d e = determined p f d e
determined (Question is next) f d e = (d.0, λ a h. determined (next a) f (d.1 a h) e)
determined (Choose is next) f d e = λ a h. determined (next a) f (d a h) e

-- what holds of each end of a plan, and of each of what follows, holds of each end of both
pub each_end : {S X Y : Type 0} (P : Way S ⊥ → Type 0) (p : CommandPlan S X) (f : X → CommandPlan S Y) → EachEnd P p → ((x : X) → EachEnd P (f x)) → EachEnd P (and_then p f)
each_end P (Return x) f d e = e x
each_end P (Stop s refusal) f d e = d
each_end P (May interruption s p) f d e = (d.0, each_end P p f d.1 e)
each_end P (Question is next) f d e = λ a h. each_end P (next a) f (d a h) e
each_end P (Choose is next) f d e = λ a h. each_end P (next a) f (d a h) e

-- and of the end of the way that it went
pub end_of : {S : Type 0} (P : Way S ⊥ → Type 0) (p : CommandPlan S ⊥) (way : Way S ⊥) → EachEnd P p → Allows p way → P way
end_of P (Return x) way d g = absurd x
end_of {S = S} P (Stop s refusal) way d g = let same : Stopped s refusal ≡ way = cc in subst P same d
end_of P (May interruption s p) way d (inl g) = let same : Interrupted s interruption ≡ way = cc in subst P same d.0
end_of P (May interruption s p) way d (inr g) = end_of P p way d.1 g
end_of P (Question is next) way d g = end_of P (next g.0) way (d g.0 g.1) g.2
end_of P (Choose is next) way d g = end_of P (next g.0) way (d g.0 g.1) g.2

-- a plan of a lower crate, in the words of an upper one
pub allows_map_done : {S T X : Type 0} (f : S → T) (p : CommandPlan S X) (way : Way S X) → Allows p way → Allows (map_done f p) (way_map_done f way)
allows_map_done f (Return x) way g = ap (way_map_done f) g
allows_map_done f (Stop s refusal) way g = ap (way_map_done f) g
allows_map_done f (May interruption s p) way (inl g) = inl (ap (way_map_done f) g)
allows_map_done f (May interruption s p) way (inr g) = inr (allows_map_done f p way g)
allows_map_done f (Question is next) way g = (g.0, g.1, allows_map_done f (next g.0) way g.2)
allows_map_done f (Choose is next) way g = (g.0, g.1, allows_map_done f (next g.0) way g.2)

pub determined_map_done : {S T X : Type 0} (f : S → T) (p : CommandPlan S X) → IsDetermined p → IsDetermined (map_done f p)
determined_map_done f (Return x) d = tt
determined_map_done f (Stop s refusal) d = tt
determined_map_done f (May interruption s p) d = determined_map_done f p d
determined_map_done f (Question is next) d = (d.0, λ a h. determined_map_done f (next a) (d.1 a h))
determined_map_done f (Choose is next) d = λ a h. determined_map_done f (next a) (d a h)
