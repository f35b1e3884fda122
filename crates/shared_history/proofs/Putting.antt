-- What a turn adds to what a link has put.
use Rattle.std.proofs.Common.{◌≡◌, ℕ, zero, suc, ◌+◌, ◌≤◌, List, [], ◌∷◌, ◌++◌, length, Some, refl, sym, ap, subst, ◌∙◌, arith, append_assoc, length-append}
use Rattle.std.specs.Prelude.{slice_get}
use Rattle.std.specs.List.{range_with_len}
use Rattle.arch_types.specs.declared.row.Row.{Row}
use Rattle.history_items.specs.declared.items.Item.{Item}
use Rattle.history_items.specs.Items.{items_of}
use Rattle.history_items.proofs.ItemLists.{items_of-append, length-items_of}
use Rattle.shared_history.specs.Laws.{PutStays, TurnPutsMore}
use Rattle.shared_history.specs.Turns.{RiseFrom, StandAt, places_behind}
use Rattle.shared_history.proofs.Members.{all_append, below_length}

weaken : (low high : ℕ) (ps : List ℕ) → low ≤ high → RiseFrom high ps → RiseFrom low ps
weaken low high [] le r = tt
weaken low high (q ∷ qs) le r = (omega (arith, le, r.0), r.1)

pub get_begins : {X : Type 0} (xs more : List X) (i : ℕ) (x : X) → slice_get xs i ≡ Some x → slice_get (xs ++ more) i ≡ Some x
get_begins [] more i x e = absurd cc
get_begins (y ∷ xs) more zero x e = e
get_begins (y ∷ xs) more (suc i) x e = get_begins xs more i x e

pub get_next : {X : Type 0} (xs : List X) (x : X) (more : List X) → slice_get (xs ++ x ∷ more) (length xs) ≡ Some x
get_next [] x more = refl
get_next (y ∷ xs) x more = get_next xs x more

stand_grows : {X : Type 0} (xs more : List X) (ps : List ℕ) (rs : List X) → StandAt xs ps rs → StandAt (xs ++ more) ps rs
stand_grows xs more [] [] s = tt
stand_grows xs more [] (r ∷ rs) s = absurd s
stand_grows xs more (p ∷ ps) [] s = absurd s
stand_grows xs more (p ∷ ps) (r ∷ rs) s = (get_begins xs more p r s.0, stand_grows xs more ps rs s.1)

stand_append : {X : Type 0} (xs : List X) (ps qs : List ℕ) (rs ss : List X) → StandAt xs ps rs → StandAt xs qs ss → StandAt xs (ps ++ qs) (rs ++ ss)
stand_append xs [] qs [] ss a b = b
stand_append xs [] qs (r ∷ rs) ss a b = absurd a
stand_append xs (p ∷ ps) qs [] ss a b = absurd a
stand_append xs (p ∷ ps) qs (r ∷ rs) ss a b = (a.0, stand_append xs ps qs rs ss a.1 b)

stand_range : {X : Type 0} (found rows : List X) → StandAt (found ++ rows) (range_with_len (length found) (length rows)) rows
stand_range found [] = tt
stand_range {X = X} found (x ∷ rows) =
    let rest = stand_range (found ++ x ∷ []) rows in
    let whole : (found ++ x ∷ []) ++ rows ≡ found ++ x ∷ rows = append_assoc found (x ∷ []) rows in
    let long : length (found ++ x ∷ []) ≡ length found + 1 = length-append found (x ∷ []) in
    (get_next found x rows, subst (λ (l : List X). StandAt l (range_with_len (length found + 1) (length rows)) rows) whole (subst (λ (n : ℕ). StandAt ((found ++ x ∷ []) ++ rows) (range_with_len n (length rows)) rows) long rest))

rising_range : (low n k : ℕ) → low ≤ n → RiseFrom low (range_with_len n k)
rising_range low n zero le = tt
rising_range low n (suc k) le = (le, rising_range (suc n) (n + 1) k (omega arith))

rising_append : {X : Type 0} (whole : List X) (low n : ℕ) (ps qs : List ℕ) (rs : List X) → StandAt whole ps rs → length whole ≤ n → low ≤ n → RiseFrom low ps → RiseFrom n qs → RiseFrom low (ps ++ qs)
rising_append whole low n [] qs [] s long le r q = weaken low n qs le q
rising_append whole low n [] qs (x ∷ rs) s long le r q = absurd s
rising_append whole low n (p ∷ ps) qs [] s long le r q = absurd s
rising_append whole low n (p ∷ ps) qs (x ∷ rs) s long le r q = (r.0, rising_append whole (suc p) n ps qs rs s.1 long (omega (arith, long, below_length whole p x s.0)) r.1 q)

-- the rows of a turn stand behind the history that it found
stand_behind : (found : List Item) (rows : List Row) → StandAt (found ++ items_of rows) (places_behind found rows) (items_of rows)
stand_behind found rows = subst (λ (n : ℕ). StandAt (found ++ items_of rows) (range_with_len (length found) n) (items_of rows)) (length-items_of rows) (stand_range found (items_of rows))

pub turn_puts_more : TurnPutsMore
turn_puts_more low seen found work rows le begins put mine =
    let items = items_of work.rows in
    let long : length seen + length begins.0 ≡ length found = sym (length-append seen begins.0) ∙ ap length begins.1 in
    let there : StandAt found work.places items = subst (λ (l : List Item). StandAt l work.places items) begins.1 (stand_grows seen begins.0 work.places items put.stand) in
    let both : StandAt (found ++ items_of rows) (work.places ++ places_behind found rows) (items ++ items_of rows) =
    stand_append (found ++ items_of rows) work.places (places_behind found rows) items (items_of rows) (stand_grows found (items_of rows) work.places items there) (stand_behind found rows) in
    record {
      rising = rising_append seen low (length found) work.places (places_behind found rows) items put.stand (omega (arith, long)) (omega (arith, le, long)) put.rising (rising_range (length found) (length found) (length rows) (omega arith));
      stand = subst (λ (l : List Item). StandAt (found ++ items_of rows) (work.places ++ places_behind found rows) l) (sym (items_of-append work.rows rows)) both;
      of_link = all_append (λ (row : Row). row.link ≡ work.link) work.rows rows put.of_link mine;
    }

pub put_stays : PutStays
put_stays low seen later work begins put = record {
  rising = put.rising;
  stand = subst (λ (l : List Item). StandAt l work.places (items_of work.rows)) begins.1 (stand_grows seen begins.0 work.places (items_of work.rows) put.stand);
  of_link = put.of_link;
}
