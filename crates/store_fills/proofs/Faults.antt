-- What a fill list tells of faults is told by these alone.
use Rattle.std.proofs.Common.{◌≡◌, ℕ, List, [], ◌∷◌, ◌++◌, Bool, true, false, cond, Option, Some, None, option_map, is_some, refl, sym, ap, subst, ◌∙◌}
use Rattle.std.specs.List.{AllByRecursion, cons_option, filter_map}
use Rattle.std.proofs.lemmas.List.Elements.{filter-append}
use Rattle.history_items.specs.declared.fills.Fill.{Fill}
use Rattle.history_items.specs.declared.fills.Fill.TheVariants.{Begun, Done, Freed, Fault, Closed}
use Rattle.history_items.specs.Fills.{CountsRise, Rising, cleared, first_pending, noted_faults, pending_fault_of, reopened, rows_of_faults, unacknowledged_in}
use Rattle.history_items.specs.Noted.{Noted, NotedFault, fault_of_fill, items_of_fault}
use Rattle.history_items.proofs.FillLists.{noted_cleared}
use Rattle.store_fills.specs.Faults.{IsDone, faults_in, is_fault}

pub faults_in-append : (fills more : List Fill) → faults_in (fills ++ more) ≡ faults_in fills ++ faults_in more
faults_in-append fills more = filter-append is_fault fills more

fault_stays : (item : Fill) → is_fault (cleared item) ≡ is_fault item
fault_stays item = ap (λ (noted : Noted). is_some noted.fault) (noted_cleared item) ∙ go (fault_of_fill item)
  where
    go : (o : Option NotedFault) → is_some (option_map (λ (fault : NotedFault). record fault { wrote = false }) o) ≡ is_some o
    go None = refl
    go (Some fault) = refl

pub faults_in-reopened : (fills : List Fill) → faults_in (reopened fills) ≡ reopened (faults_in fills)
faults_in-reopened [] = refl
faults_in-reopened (item ∷ fills) =
    ap (λ (is : Bool). cond is (cleared item ∷ faults_in (reopened fills)) (faults_in (reopened fills))) (fault_stays item) ∙ go (is_fault item) (faults_in-reopened fills)
  where
    go : (is : Bool) → faults_in (reopened fills) ≡ reopened (faults_in fills)
        → cond is (cleared item ∷ faults_in (reopened fills)) (faults_in (reopened fills)) ≡ reopened (cond is (item ∷ faults_in fills) (faults_in fills))
    go true rest = ap (λ (l : List Fill). cleared item ∷ l) rest
    go false rest = rest

-- ---- fills that are there are no faults

no_fault : (item : Fill) → IsDone item → fault_of_fill item ≡ None
no_fault (Begun i b) is = absurd is
no_fault (Done i b) is = refl
no_fault (Freed i) is = absurd is
no_fault Closed is = absurd is
no_fault (Fault count wrote unacknowledged) is = absurd is

pub faults_in-done : (fills : List Fill) → AllByRecursion IsDone fills → faults_in fills ≡ []
faults_in-done [] all = refl
faults_in-done (item ∷ fills) all =
    ap (λ (o : Option NotedFault). cond (is_some o) (item ∷ faults_in fills) (faults_in fills)) (no_fault item all.0) ∙ faults_in-done fills all.1

none_noted : (fills : List Fill) → AllByRecursion IsDone fills → noted_faults fills ≡ []
none_noted [] all = refl
none_noted (item ∷ fills) all = ap (λ (o : Option NotedFault). cons_option o (noted_faults fills)) (no_fault item all.0) ∙ none_noted fills all.1

-- so their counts rise
pub Rising-done : (fills : List Fill) (low high : ℕ) → AllByRecursion IsDone fills → Rising low high fills
Rising-done fills low high all = subst (CountsRise low high) (sym (none_noted fills all)) tt

-- one more
pub all_done : (fills : List Fill) (item : Fill) → AllByRecursion IsDone fills → IsDone item → AllByRecursion IsDone (fills ++ item ∷ [])
all_done [] item all is = (is, tt)
all_done (f ∷ fills) item all is = (all.0, all_done fills item all.1 is)

-- ---- what the faults of a fill list note

pub noted_faults-in : (fills : List Fill) → noted_faults fills ≡ noted_faults (faults_in fills)
noted_faults-in [] = refl
noted_faults-in (item ∷ fills) = go (fault_of_fill item) refl (noted_faults-in fills)
  where
    go : (o : Option NotedFault) → fault_of_fill item ≡ o → noted_faults fills ≡ noted_faults (faults_in fills)
        → cons_option o (noted_faults fills) ≡ noted_faults (cond (is_some o) (item ∷ faults_in fills) (faults_in fills))
    go None is rest = rest
    go (Some fault) is rest =
        ap (λ (l : List NotedFault). fault ∷ l) rest ∙ ap (λ (o : Option NotedFault). cons_option o (noted_faults (faults_in fills))) (sym is)

pub rows_of_faults-in : (fills : List Fill) → rows_of_faults fills ≡ rows_of_faults (faults_in fills)
rows_of_faults-in fills = ap (filter_map items_of_fault) (noted_faults-in fills)

pub pending_fault_of-in : (fills : List Fill) → pending_fault_of fills ≡ pending_fault_of (faults_in fills)
pending_fault_of-in fills = ap (λ (l : List NotedFault). option_map (λ (fault : NotedFault). fault.count) (first_pending l)) (noted_faults-in fills)

pub unacknowledged-in : (fills : List Fill) → unacknowledged_in fills ≡ unacknowledged_in (faults_in fills)
unacknowledged-in fills = ap (λ (l : List NotedFault). option_map (λ (fault : NotedFault). fault.unacknowledged) (first_pending l)) (noted_faults-in fills)

-- the counts of faults rise where those of a fill list do
pub Rising-in : (fills : List Fill) (low high : ℕ) → Rising low high fills → Rising low high (faults_in fills)
Rising-in fills low high rising = subst (CountsRise low high) (noted_faults-in fills) rising
