-- The last container of a chain with the archive flag.
use Rattle.std.proofs.Common.{◌≡◌, ◌∙◌, ◌+◌, ◌<◌, ℕ, List, [], ◌∷◌, ◌++◌, length, get_or, take, Bool, true, false, cond, ap}
use Rattle.std.specs.Prelude.{slice_get, unwrap_or}
use Rattle.std.specs.List.{filter}
use Rattle.std.proofs.lemmas.List.{append-nil}
use Rattle.std.proofs.lemmas.List.Elements.{filter_more}
use Rattle.mdb_items.specs.declared.container.Container.{Container}
use Rattle.mdb_items.specs.Lists.{last_of}
use Rattle.mdb_items.proofs.Ends.{last_of-push}
use Rattle.container_extract.specs.Chain.{has_archive, name_along}

abbrev flagged : List Container → ℕ → Bool
flagged containers n = has_archive (slice_get containers n)

-- one more container with the flag
pub name_then : (containers : List Container) (chain : List ℕ) (i : ℕ) → i < length chain → has_archive (slice_get containers (get_or chain i 0)) ≡ true → name_along containers (take (i + 1) chain) ≡ get_or chain i 0
name_then containers chain i lt is =
    let n = get_or chain i 0 in
    let before = filter (flagged containers) (take i chain) in
    let more = filter_more (flagged containers) chain i 0 lt in
    ap (λ (xs : List ℕ). unwrap_or (last_of xs) 0) (more ∙ ap (λ b. before ++ cond b (n ∷ []) []) is) ∙ ap (λ o. unwrap_or o 0) (last_of-push before n)

-- and one without it
pub name_else : (containers : List Container) (chain : List ℕ) (i : ℕ) → i < length chain → has_archive (slice_get containers (get_or chain i 0)) ≡ false → name_along containers (take (i + 1) chain) ≡ name_along containers (take i chain)
name_else containers chain i lt isnt =
    let n = get_or chain i 0 in
    let before = filter (flagged containers) (take i chain) in
    let more = filter_more (flagged containers) chain i 0 lt in
    ap (λ (xs : List ℕ). unwrap_or (last_of xs) 0) (more ∙ ap (λ b. before ++ cond b (n ∷ []) []) isnt ∙ append-nil before)
