-- The dumps of a load: what their sources have at first, and what links did to them.
use Rattle.std.proofs.Common.{◌≡◌, ◌∙◌, List, [], ◌∷◌, Bool, Option, Some, None, map, refl, ap, ℕ}
use Rattle.std.specs.Prelude.{◌||◌, IsSomeAnd}
use Rattle.std.specs.FinMap.{get}
use Rattle.std.specs.List.{list_any}
use Rattle.outer_traits.specs.Outside.{Files, IsLeftAtFirst}
use Rattle.outer_traits.specs.States.{InputsState, SourceState}
use Rattle.command_plans.specs.Sources.{AreNewSources, EachUsed, UsedSource, UsedSources, any_failed}
use Rattle.live_session.specs.Jobs.{IsSourceRead}
use Rattle.live_session.specs.Outcome.{AreSourcesRead, lefts_of}
use Rattle.load_jobs.specs.declared.ending.LinkEnd.{LinkEnd}
use Rattle.load_jobs.specs.declared.ending.LinkEnd.TheVariants.{Unread}
use Rattle.load_command.specs.Loading.{dump_of, dumps_of, is_unread}

-- what is left of a source at first is the dump of its name
left_is : (files : Option Files) (name : List ℕ) (left : Option (List ℕ)) → IsLeftAtFirst files name left → left ≡ dump_of files name
left_is None name left has = has
left_is (Some all) name left has = go (get all name) has
  where
    go : (o : Option (List ℕ)) → IsSomeAnd o (λ octets. left ≡ Some octets) → left ≡ o
    go None is = absurd is
    go (Some octets) is = is

module _ {S : Type 0} (state : S → SourceState) where
  pub lefts_are : (inputs : InputsState) (names : List (List ℕ)) (sources : List S) → AreNewSources state inputs names sources → lefts_of state sources ≡ dumps_of inputs.files names
  lefts_are inputs [] [] new = refl
  lefts_are inputs [] (source ∷ sources) new = absurd new
  lefts_are inputs (name ∷ names) [] new = absurd new
  lefts_are inputs (name ∷ names) (source ∷ sources) new =
      ap (λ (left : Option (List ℕ)). left ∷ lefts_of state sources) (left_is inputs.files name (state source).left new.0.left)
      ∙ ap (λ (lefts : List (Option (List ℕ))). dump_of inputs.files name ∷ lefts) (lefts_are inputs names sources new.1)

  -- a link used its source as its end tells
  used_by : (end : LinkEnd) (old new : SourceState) → IsSourceRead end old new → UsedSource old new (is_unread end)
  used_by (Unread refused) old new read = record { counted = (read.0, read.1); reliable = read.2 }
  used_by other old new read = record { counted = read.1; reliable = read.2 }

  each_used : (ends : List LinkEnd) (olds news : List S) → AreSourcesRead state ends olds news → EachUsed state olds news (map is_unread ends)
  each_used [] [] [] read = tt
  each_used (end ∷ ends) (old ∷ olds) (new ∷ news) read = (used_by end (state old) (state new) read.0, each_used ends olds news read.1)
  each_used ends olds news read = absurd read

  any_unread : (ends : List LinkEnd) → list_any is_unread ends ≡ any_failed (map is_unread ends)
  any_unread [] = refl
  any_unread (end ∷ ends) = ap (λ (b : Bool). is_unread end || b) (any_unread ends)

  pub used_by_links : (ends : List LinkEnd) (olds news : List S) → AreSourcesRead state ends olds news → UsedSources state olds news (list_any is_unread ends)
  used_by_links ends olds news read = record { flags = map is_unread ends; each = each_used ends olds news read; any = any_unread ends }
