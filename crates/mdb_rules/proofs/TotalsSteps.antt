-- The totals beside the containers.
use Rattle.std.proofs.Common.{◌≡◌, ◌∙◌, ◌+◌, ◌<◌, ℕ, zero, suc, List, [], ◌∷◌, ◌++◌, length, map, set, Option, Some, None, inl, inr, refl, ap, sym, arith, subst, append_assoc}
use Rattle.std.specs.Prelude.{slice_get, option_map, unwrap_or}
use Rattle.std.proofs.lemmas.Bool.{cases_lt}
use Rattle.std.proofs.lemmas.List.{append-nil, map-append}
use Rattle.std.proofs.lemmas.Option.{slice_get-map}
use Rattle.mdb_items.specs.declared.container.Container.{Container}
use Rattle.mdb_items.specs.declared.container.ParameterEntry.{ParameterEntry}
use Rattle.mdb_rules.specs.declared.container_rows.Containers.{Containers}
use Rattle.mdb_rules.specs.declared.container_rows.PathTotals.{PathTotals}
use Rattle.mdb_items.specs.declared.parameter.Parameter.{Parameter}
use Rattle.mdb_items.specs.ContainerRows.{last_path, with_new_entry}
use Rattle.mdb_items.specs.Paths.{ContainerPath, bits_at, end_after, last_number, path_at, path_below, path_end, paths_of, no_path, AreEarlier, parent_of}
use Rattle.mdb_items.specs.Lists.{at_last, last_of}
use Rattle.mdb_rules.specs.Totals.{HasPaths, no_totals, totals_at, totals_of}
use Rattle.mdb_items.proofs.ContainerPaths.{length-paths_of, paths_of-push}
use Rattle.mdb_items.proofs.Ends.{at_last-push, last_of-push, length-at_last, length-mapped, length-push, map-at_last, set-last, slice_get-end, slice_get-left, snoc}

of_option : (ps : List Parameter) (o : Option ContainerPath) → unwrap_or (option_map (totals_of ps) o) no_totals ≡ totals_of ps (unwrap_or o no_path)
of_option ps None = refl
of_option ps (Some path) = refl

-- a path's totals are those of the path
pub totals_is : (ps : List Parameter) (cs : List Container) (all_totals : List PathTotals) (o : Option ℕ) → all_totals ≡ map (totals_of ps) (paths_of cs) → totals_at all_totals o ≡ totals_of ps (path_at (paths_of cs) o)
totals_is ps cs all_totals None same = refl
totals_is ps cs all_totals (Some n) same =
    ap (λ (xs : List PathTotals). unwrap_or (slice_get xs n) no_totals) same ∙ ap (λ (o : Option PathTotals). unwrap_or o no_totals) (slice_get-map (totals_of ps) (paths_of cs) n) ∙ of_option ps (slice_get (paths_of cs) n)

new_totals : (ps : List Parameter) (up : ContainerPath) (c : Container) → c.entries ≡ [] → totals_of ps (path_below up c) ≡ record { containers = up.containers + 1; entries = length up.entries; end = path_end ps up }
new_totals ps up c none =
    let entries : up.entries ++ c.entries ≡ up.entries = ap (λ (es : List ParameterEntry). up.entries ++ es) none ∙ append-nil up.entries in
    let count : suc up.containers ≡ up.containers + 1 = omega arith in
    ap (λ (es : List ParameterEntry). let s : PathTotals = record { containers = suc up.containers; entries = length es; end = end_after ps (last_of es) } in s) entries
    ∙ ap (λ (n : ℕ). let s : PathTotals = record { containers = n; entries = length up.entries; end = path_end ps up } in s) count

-- one more container without entries has its totals
pub begun_all_totals : (ps : List Parameter) (items : List Container) (c : Container) (up : PathTotals) → c.entries ≡ [] → up ≡ totals_of ps (path_at (paths_of items) c.parent)
    → map (totals_of ps) (paths_of (items ++ c ∷ [])) ≡ map (totals_of ps) (paths_of items) ++ record { containers = up.containers + 1; entries = up.entries; end = up.end } ∷ []
begun_all_totals ps items c up none is =
    let path = path_at (paths_of items) c.parent in
    let one = new_totals ps path c none in
    ap (map (totals_of ps)) (paths_of-push items c) ∙ map-append (totals_of ps) (paths_of items) (path_below path c ∷ [])
    ∙ ap (λ (s : PathTotals). map (totals_of ps) (paths_of items) ++ s ∷ []) (one ∙ ap (λ (s : PathTotals). let t : PathTotals = record { containers = s.containers + 1; entries = s.entries; end = s.end } in t) (sym is))

pub earlier_more : (items : List Container) (c : Container) → AreEarlier items → ((p : ℕ) → c.parent ≡ Some p → p < length items) → AreEarlier (items ++ c ∷ [])
earlier_more items c earlier below n p lt is = elim (cases_lt n (length items)) [
  | inl less ↦ earlier n p less (ap parent_of (sym (slice_get-left items (c ∷ []) n less)) ∙ is)
  | inr more ↦
      let same : n ≡ length items = omega (arith, length-push items c) in
      let here : c.parent ≡ Some p = ap parent_of (sym (slice_get-end items c [])) ∙ ap (λ (k : ℕ). parent_of (slice_get (items ++ c ∷ []) k)) (sym same) ∙ is in
      let less = below p here in
      omega arith
]

-- totals with one more entry
abbrev pub entered_totals : ℕ → PathTotals → PathTotals
entered_totals end s = record { containers = s.containers; entries = s.entries + 1; end = end }

grown_totals : (ps : List Parameter) (up : ContainerPath) (c : Container) (e : ParameterEntry) → totals_of ps (path_below up (with_new_entry e c)) ≡ entered_totals (e.at + bits_at ps e.parameter) (totals_of ps (path_below up c))
grown_totals ps up c e =
    let entries : up.entries ++ (c.entries ++ e ∷ []) ≡ (up.entries ++ c.entries) ++ e ∷ [] = sym (append_assoc up.entries c.entries (e ∷ [])) in
    let count : length ((up.entries ++ c.entries) ++ e ∷ []) ≡ length (up.entries ++ c.entries) + 1 = omega (arith, length-push (up.entries ++ c.entries) e) in
    let last = last_of-push (up.entries ++ c.entries) e in
    ap (λ (es : List ParameterEntry). let s : PathTotals = record { containers = suc up.containers; entries = length es; end = end_after ps (last_of es) } in s) entries
    ∙ ap (λ (o : Option ParameterEntry). let s : PathTotals = record { containers = suc up.containers; entries = length ((up.entries ++ c.entries) ++ e ∷ []); end = end_after ps o } in s) last
    ∙ ap (λ (n : ℕ). let s : PathTotals = record { containers = suc up.containers; entries = n; end = e.at + bits_at ps e.parameter } in s) count

all_totals_at_end : (ps : List Parameter) (front : List Container) (c : Container) (e : ParameterEntry)
    → map (totals_of ps) (paths_of (at_last (with_new_entry e) (front ++ c ∷ []))) ≡ at_last (entered_totals (e.at + bits_at ps e.parameter)) (map (totals_of ps) (paths_of (front ++ c ∷ [])))
all_totals_at_end ps front c e =
    let up = path_at (paths_of front) c.parent in
    let d = with_new_entry e c in
    let f = totals_of ps in
    let new : map f (paths_of (at_last (with_new_entry e) (front ++ c ∷ []))) ≡ map f (paths_of front) ++ f (path_below up d) ∷ [] =
    ap (λ (cs : List Container). map f (paths_of cs)) (at_last-push (with_new_entry e) front c) ∙ ap (map f) (paths_of-push front d) ∙ map-append f (paths_of front) (path_below up d ∷ []) in
    let old : map f (paths_of (front ++ c ∷ [])) ≡ map f (paths_of front) ++ f (path_below up c) ∷ [] = ap (map f) (paths_of-push front c) ∙ map-append f (paths_of front) (path_below up c ∷ []) in
    new ∙ ap (λ (s : PathTotals). map f (paths_of front) ++ s ∷ []) (grown_totals ps up c e)
    ∙ sym (ap (at_last (entered_totals (e.at + bits_at ps e.parameter))) old ∙ at_last-push (entered_totals (e.at + bits_at ps e.parameter)) (map f (paths_of front)) (f (path_below up c)))

-- one more entry changes the last path's totals alone
pub entered_all_totals : (ps : List Parameter) (items : List Container) (e : ParameterEntry) → 0 < length items
    → map (totals_of ps) (paths_of (at_last (with_new_entry e) items)) ≡ at_last (entered_totals (e.at + bits_at ps e.parameter)) (map (totals_of ps) (paths_of items))
entered_all_totals ps items e some =
    let parts = snoc items some in
    let P : List Container → Type 0 = λ cs. map (totals_of ps) (paths_of (at_last (with_new_entry e) cs)) ≡ at_last (entered_totals (e.at + bits_at ps e.parameter)) (map (totals_of ps) (paths_of cs)) in
    subst P (sym parts.2) (all_totals_at_end ps parts.0 parts.1 e)

parent_same : (items : List Container) (e : ParameterEntry) (n : ℕ) → parent_of (slice_get (at_last (with_new_entry e) items) n) ≡ parent_of (slice_get items n)
parent_same [] e n = refl
parent_same (c ∷ []) e zero = refl
parent_same (c ∷ []) e (suc n) = refl
parent_same (c ∷ d ∷ items) e zero = refl
parent_same (c ∷ d ∷ items) e (suc n) = parent_same (d ∷ items) e n

pub earlier_entered : (items : List Container) (e : ParameterEntry) → AreEarlier items → AreEarlier (at_last (with_new_entry e) items)
earlier_entered items e earlier n p lt is = earlier n p (omega (arith, length-at_last (with_new_entry e) items)) (sym (parent_same items e n) ∙ is)

-- a container that begins keeps all paths
pub in_path_begun : (ps : List Parameter) (old new : Containers) (c : Container) (up : PathTotals) → HasPaths ps old → c.entries ≡ [] → up ≡ totals_of ps (path_at (paths_of old.items.items) c.parent)
    → ((p : ℕ) → c.parent ≡ Some p → p < length old.items.items) → new.items.items ≡ old.items.items ++ c ∷ [] → new.names ≡ old.names ++ c.name ∷ []
    → new.all_totals.items ≡ old.all_totals.items ++ record { containers = up.containers + 1; entries = up.entries; end = up.end } ∷ [] → HasPaths ps new
in_path_begun ps old new c up path none is below items names all_totals = record {
  names =
      names ∙ ap (λ (ns : List (List ℕ)). ns ++ c.name ∷ []) path.names ∙ sym (map-append (λ (x : Container). x.name) old.items.items (c ∷ [])) ∙ ap (map (λ (x : Container). x.name)) (sym items);
  all_totals =
      let s : PathTotals = record { containers = up.containers + 1; entries = up.entries; end = up.end } in
      all_totals ∙ ap (λ (ss : List PathTotals). ss ++ s ∷ []) path.all_totals ∙ sym (begun_all_totals ps old.items.items c up none is) ∙ ap (λ (cs : List Container). map (totals_of ps) (paths_of cs)) (sym items);
  earlier = let P : List Container → Type 0 = λ cs. AreEarlier cs in subst P (sym items) (earlier_more old.items.items c path.earlier below);
}

last_is : (items : List Container) (n : ℕ) → suc n ≡ length items → last_number items ≡ Some n
last_is [] n e = absurd (omega arith)
last_is (c ∷ cs) n e = let same : length cs ≡ n = omega arith in ap (λ (k : ℕ). Some k) same

-- the last path's totals are those of the last path
pub last_totals : (ps : List Parameter) (items : List Container) (all_totals : List PathTotals) (n : ℕ) (old : PathTotals) → all_totals ≡ map (totals_of ps) (paths_of items) → suc n ≡ length items → slice_get all_totals n ≡ Some old → old ≡ totals_of ps (last_path items)
last_totals ps items all_totals n old same e is =
    let here : totals_at all_totals (Some n) ≡ old = ap (λ (o : Option PathTotals). unwrap_or o no_totals) is in
    sym here ∙ totals_is ps items all_totals (Some n) same ∙ ap (λ (o : Option ℕ). totals_of ps (path_at (paths_of items) o)) (sym (last_is items n e))

-- the last container written with one more entry
pub entry_written : (items : List Container) (n : ℕ) (old : Container) (entries : List ParameterEntry) (e : ParameterEntry) → suc n ≡ length items → slice_get items n ≡ Some old → entries ≡ old.entries ++ e ∷ []
    → set items n (record { name = old.name; parent = old.parent; archive = old.archive; condition = old.condition; entries = entries }) ≡ at_last (with_new_entry e) items
entry_written items n old entries e at is same =
    ap (λ (es : List ParameterEntry). let c : Container = record { name = old.name; parent = old.parent; archive = old.archive; condition = old.condition; entries = es } in set items n c) same ∙ set-last (with_new_entry e) items n old at is

-- the last path's totals written with one more entry
pub totals_written : (all_totals : List PathTotals) (n : ℕ) (old : PathTotals) (end end' : ℕ) → suc n ≡ length all_totals → slice_get all_totals n ≡ Some old → end ≡ end'
    → set all_totals n (record { containers = old.containers; entries = old.entries + 1; end = end }) ≡ at_last (entered_totals end') all_totals
totals_written all_totals n old end end' at is same =
    ap (λ (k : ℕ). let s : PathTotals = record { containers = old.containers; entries = old.entries + 1; end = k } in set all_totals n s) same ∙ set-last (entered_totals end') all_totals n old at is

pub all_totals_length : (ps : List Parameter) (items : List Container) (all_totals : List PathTotals) → all_totals ≡ map (totals_of ps) (paths_of items) → length all_totals ≡ length items
all_totals_length ps items all_totals same = ap length same ∙ length-mapped (totals_of ps) (paths_of items) ∙ length-paths_of items

-- an entry keeps all paths
pub in_path_entered : (ps : List Parameter) (old new : Containers) (e : ParameterEntry) → HasPaths ps old → 0 < length old.items.items → new.names ≡ old.names → new.items.items ≡ at_last (with_new_entry e) old.items.items
    → new.all_totals.items ≡ at_last (entered_totals (e.at + bits_at ps e.parameter)) old.all_totals.items → HasPaths ps new
in_path_entered ps old new e path some names items all_totals = record {
  names =
      let kept = map-at_last (λ (x : Container). x.name) (with_new_entry e) old.items.items (λ c. refl) in
      names ∙ path.names ∙ sym kept ∙ ap (map (λ (x : Container). x.name)) (sym items);
  all_totals =
      all_totals ∙ ap (at_last (entered_totals (e.at + bits_at ps e.parameter))) path.all_totals ∙ sym (entered_all_totals ps old.items.items e some) ∙ ap (λ (cs : List Container). map (totals_of ps) (paths_of cs)) (sym items);
  earlier = let P : List Container → Type 0 = λ cs. AreEarlier cs in subst P (sym items) (earlier_entered old.items.items e path.earlier);
}

-- before the first row there are all paths
pub in_path_at_first : (ps : List Parameter) (new : Containers) → new.items.items ≡ [] → new.names ≡ [] → new.all_totals.items ≡ [] → HasPaths ps new
unfolding paths_of
in_path_at_first ps new items names all_totals = record {
  names = names ∙ ap (map (λ (x : Container). x.name)) (sym items);
  all_totals = all_totals ∙ ap (λ (cs : List Container). map (totals_of ps) (paths_of cs)) (sym items);
  earlier = let P : List Container → Type 0 = λ cs. AreEarlier cs in subst P (sym items) (λ n p lt e. absurd (omega arith));
}
