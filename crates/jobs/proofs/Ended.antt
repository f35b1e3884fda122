-- Jobs that have ended, in their order.
use Rattle.std.proofs.Common.{List, [], ◌∷◌, ◌++◌, sym, ap, ◌∙◌, append_assoc, append-nil}
use Rattle.std.specs.List.{AllByRecursion}
use Rattle.jobs.specs.Ends.{EachDid, Ends}

each_more : {J E : Type 0} (did : J → E → Type 0) (jobs : List J) (ends : List E) (j : J) (e : E) → EachDid did jobs ends → did j e → EachDid did (jobs ++ j ∷ []) (ends ++ e ∷ [])
each_more did [] [] j e each last = (last, tt)
each_more did [] (e' ∷ ends) j e each last = absurd each
each_more did (j' ∷ jobs) [] j e each last = absurd each
each_more did (j' ∷ jobs) (e' ∷ ends) j e each last = (each.0, each_more did jobs ends j e each.1 last)

pub ends_none : {J E : Type 0} (did : J → E → Type 0) (old : List E) → Ends did [] old old
ends_none did old = record { ends = []; added = sym (append-nil old); each = tt }

pub ends_more : {J E : Type 0} (did : J → E → Type 0) (jobs : List J) (old new : List E) (j : J) (e : E) → Ends did jobs old new → did j e → Ends did (jobs ++ j ∷ []) old (new ++ e ∷ [])
ends_more {E = E} did jobs old new j e before last = record {
  ends = before.ends ++ e ∷ [];
  added = ap (λ (l : List E). l ++ e ∷ []) before.added ∙ append_assoc old before.ends (e ∷ []);
  each = each_more did jobs before.ends j e before.each last;
}

pub all_but_last : {J : Type 0} (P : J → Type 0) (jobs : List J) (j : J) → AllByRecursion P (jobs ++ j ∷ []) → AllByRecursion P jobs × P j
all_but_last P [] j all = (tt, all.0)
all_but_last P (x ∷ jobs) j all = let rest = all_but_last P jobs j all.1 in ((all.0, rest.0), rest.1)
