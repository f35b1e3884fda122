-- Parts of a script one behind the other: what is wrong first is wrong in the first part, or else in the next.
use Rattle.std.proofs.Common.{◌≡◌, inl, inr, ℕ, List, [], ◌∷◌, ◌++◌, Option, Some, None, Result, refl, sym, ap, ◌∙◌}
use Rattle.std.specs.Prelude.{slice_index}
use Rattle.std.specs.Result.{IsErrAnd}
use Rattle.std.proofs.lemmas.Result.{err_from_is_err_and}
use Rattle.ssql_types.specs.declared.not_typed.NotTyped.{NotTyped}
use Rattle.ssql_types.specs.declared.rules.Rule.{Rule}
use Rattle.ssql_types.specs.Rules.{TokenFault, broken, if_broken, first_sql_fault, later_places, places_behind, sql_fault_at}
use Rattle.ssql_types.specs.Typing.{IsTypedPart, IsPartNotTyped, PassesOver, TypesAs}

pub places_append : (a b : List TokenFault) (places : List ℕ) → places_behind (a ++ b) places ≡ places_behind b (places_behind a places)
places_append [] b places = refl
places_append (fault ∷ a) b places = places_append a b (later_places places)

pub first_behind : (a b : List TokenFault) (places : List ℕ) → first_sql_fault a places ≡ None → first_sql_fault (a ++ b) places ≡ first_sql_fault b (places_behind a places)
first_behind [] b places e = refl
first_behind (None ∷ a) b places e = first_behind a b (later_places places) e
first_behind (Some fault ∷ a) b places e = absurd cc

pub first_before : (a b : List TokenFault) (places : List ℕ) (refusal : NotTyped) → first_sql_fault a places ≡ Some refusal → first_sql_fault (a ++ b) places ≡ Some refusal
first_before [] b places refusal e = absurd cc
first_before (None ∷ a) b places refusal e = first_before a b (later_places places) refusal e
first_before (Some fault ∷ a) b places refusal e = e

-- a refusal of the first part is that of both
pub refused_before : (a b : List TokenFault) (places : List ℕ) (refusal : NotTyped) → IsPartNotTyped a places refusal → IsPartNotTyped (a ++ b) places refusal
refused_before a b places refusal (inl e) = inl e
refused_before a b places refusal (inr e) = inr (first_before a b places refusal e)

-- and so is one of the second, where nothing is wrong with the first
pub refused_behind : (a b : List TokenFault) (places rest : List ℕ) (refusal : NotTyped) → first_sql_fault a places ≡ None → rest ≡ places_behind a places →
    IsPartNotTyped b rest refusal → IsPartNotTyped (a ++ b) places refusal
refused_behind a b places rest refusal sound at (inl e) = inl e
refused_behind a b places rest refusal sound at (inr e) = inr (first_behind a b places sound ∙ ap (first_sql_fault b) (sym at) ∙ e)

-- nothing is wrong with either part
pub sound_both : (a b : List TokenFault) (places rest : List ℕ) → first_sql_fault a places ≡ None → rest ≡ places_behind a places → first_sql_fault b rest ≡ None → first_sql_fault (a ++ b) places ≡ None
sound_both a b places rest sound at next = first_behind a b places sound ∙ ap (first_sql_fault b) (sym at) ∙ next

-- the places behind both
pub rest_both : (a b : List TokenFault) (places rest later : List ℕ) → rest ≡ places_behind a places → later ≡ places_behind b rest → later ≡ places_behind (a ++ b) places
rest_both a b places rest later at next = next ∙ ap (places_behind b) at ∙ sym (places_append a b places)

-- two parts are one part, whatever it stands for
pub joined : {A B C : Type 0} (a b : List TokenFault) (places : List ℕ) (va : A) (vb : B) (x : A × List ℕ) (y : B × List ℕ) (v : C) (z : C) →
    IsTypedPart a places va x → IsTypedPart b x.1 vb y → z ≡ v → IsTypedPart (a ++ b) places v (z, y.1)
joined a b places va vb x y v z first second same = record {
  sound = sound_both a b places x.1 first.sound first.rest second.sound;
  same = same;
  rest = rest_both a b places x.1 y.1 first.rest second.rest;
}

-- a `?` hands the refusal of a part on
pub hands_on : {Y A : Type 0} (seen : Y → A × List ℕ) (result : Result Y NotTyped) (refusal : NotTyped) (faults : List TokenFault) (places : List ℕ) (value : A) → IsErrAnd result (λ f. f ≡ refusal) →
    IsPartNotTyped faults places refusal → TypesAs seen result faults places value
hands_on seen result refusal faults places value is why =
    let q = err_from_is_err_and result is in
    rw (q.1, q.2) why

-- the same where a part is passed over
pub hands_on_passing : {Y : Type 0} (seen : Y → List ℕ) (result : Result Y NotTyped) (refusal : NotTyped) (faults : List TokenFault) (places : List ℕ) → IsErrAnd result (λ f. f ≡ refusal) →
    IsPartNotTyped faults places refusal → PassesOver seen result faults places
hands_on_passing seen result refusal faults places is why =
    let q = err_from_is_err_and result is in
    rw (q.1, q.2) why

-- ---- single tokens

-- a token of which no rule is broken
pub typed_token : {A : Type 0} (rule : Option Rule) (places rest : List ℕ) (value v : A) → rule ≡ None → v ≡ value → rest ≡ later_places places → IsTypedPart (if_broken rule ∷ []) places value (v, rest)
typed_token None places rest value v none same at = record { sound = refl; same = same; rest = at }
typed_token (Some rule) places rest value v none same at = absurd cc

-- a token that breaks a rule
pub refused_token_by : (rule : Option Rule) (by : Rule) (places : List ℕ) (refusal : NotTyped) → rule ≡ Some by → refusal ≡ sql_fault_at (slice_index places 0) (broken by) →
    IsPartNotTyped (if_broken rule ∷ []) places refusal
refused_token_by None by places refusal breaks is = absurd cc
refused_token_by (Some rule) by places refusal breaks is =
    inr (ap (λ (o : Option Rule). first_sql_fault (if_broken o ∷ []) places) breaks ∙ ap (λ (f : NotTyped). Some f) (sym is))
