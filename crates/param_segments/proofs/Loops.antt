-- What the loops over groups keep.
use Rattle.std.proofs.Common.{◌≡◌, ◌∙◌, ℕ, suc, ◌+◌, ◌<◌, ◌≤◌, List, ◌∷◌, ◌++◌, length, map, drop, drop-cons, get_or, add-one, sym, ap, append_assoc, length-append, append-nil, arith}
use Rattle.std.specs.Prelude.{flat_map}
use Rattle.std.proofs.lemmas.List.{drop_all}
use Rattle.param_segments.specs.declared.group.Group.{Group}
use Rattle.param_segments.specs.GroupContents.{all_starts, group_contents, group_octets, group_starts, segment_count}

dropped : (groups : List Group) (i : ℕ) (g : Group) → i < length groups → g ≡ get_or groups i g → drop i groups ≡ g ∷ drop (i + 1) groups
dropped groups i g lt is = drop-cons groups i g lt ∙ ap (λ (x : Group). x ∷ drop (suc i) groups) (sym is) ∙ ap (λ (k : ℕ). g ∷ drop k groups) (sym (add-one i))

pub count_step : (groups : List Group) (i : ℕ) (g : Group) (old new total : ℕ) → i < length groups → g ≡ get_or groups i g → new ≡ old + (length g.starts.items + 1) → old + segment_count (map group_contents (drop i groups)) ≡ total →
    new + segment_count (map group_contents (drop (i + 1) groups)) ≡ total
count_step groups i g old new total lt is more so_far =
    let rest = segment_count (map group_contents (drop (i + 1) groups)) in
    let here : segment_count (map group_contents (drop i groups)) ≡ (length g.starts.items + 1) + rest = ap (λ (gs : List Group). segment_count (map group_contents gs)) (dropped groups i g lt is) in
    omega (arith, here, more, so_far)

pub count_end : (groups : List Group) (i n total : ℕ) → length groups ≤ i → n + segment_count (map group_contents (drop i groups)) ≡ total → n ≡ total
count_end groups i n total le so_far =
    let none : segment_count (map group_contents (drop i groups)) ≡ 0 = ap (λ (gs : List Group). segment_count (map group_contents gs)) (drop_all i groups le) in
    omega (arith, none, so_far)

pub octets_step : (groups : List Group) (i : ℕ) (g : Group) (old new total : List ℕ) → i < length groups → g ≡ get_or groups i g → new ≡ old ++ group_octets (group_contents g) → old ++ flat_map group_octets (map group_contents (drop i groups)) ≡ total →
    new ++ flat_map group_octets (map group_contents (drop (i + 1) groups)) ≡ total
octets_step groups i g old new total lt is more so_far =
    let rest = flat_map group_octets (map group_contents (drop (i + 1) groups)) in
    ap (λ (xs : List ℕ). xs ++ rest) more ∙ append_assoc old (group_octets (group_contents g)) rest
    ∙ ap (λ (gs : List Group). old ++ flat_map group_octets (map group_contents gs)) (sym (dropped groups i g lt is)) ∙ so_far

pub starts_step : (groups : List Group) (i : ℕ) (g : Group) (octets further old new total : List ℕ) → i < length groups → g ≡ get_or groups i g → further ≡ octets ++ group_octets (group_contents g) → new ≡ old ++ group_starts (length octets) (group_contents g) →
    old ++ all_starts (length octets) (map group_contents (drop i groups)) ≡ total → new ++ all_starts (length further) (map group_contents (drop (i + 1) groups)) ≡ total
starts_step groups i g octets further old new total lt is longer more so_far =
    let len : length further ≡ length octets + length (group_octets (group_contents g)) = ap length longer ∙ length-append octets (group_octets (group_contents g)) in
    let rest : List ℕ = all_starts (length octets + length (group_octets (group_contents g))) (map group_contents (drop (i + 1) groups)) in
    ap (λ (n : ℕ). new ++ all_starts n (map group_contents (drop (i + 1) groups))) len
    ∙ ap (λ (xs : List ℕ). xs ++ rest) more ∙ append_assoc old (group_starts (length octets) (group_contents g)) rest
    ∙ ap (λ (gs : List Group). old ++ all_starts (length octets) (map group_contents gs)) (sym (dropped groups i g lt is)) ∙ so_far

pub octets_end : (groups : List Group) (i : ℕ) (octets total : List ℕ) → length groups ≤ i → octets ++ flat_map group_octets (map group_contents (drop i groups)) ≡ total → octets ≡ total
octets_end groups i octets total le so_far = sym (append-nil octets) ∙ ap (λ (gs : List Group). octets ++ flat_map group_octets (map group_contents gs)) (sym (drop_all i groups le)) ∙ so_far

pub starts_end : (groups : List Group) (i at : ℕ) (starts total : List ℕ) → length groups ≤ i → starts ++ all_starts at (map group_contents (drop i groups)) ≡ total → starts ≡ total
starts_end groups i at starts total le so_far = sym (append-nil starts) ∙ ap (λ (gs : List Group). starts ++ all_starts at (map group_contents gs)) (sym (drop_all i groups le)) ∙ so_far
