-- The values of entries that are taken.
use Rattle.std.proofs.Common.{◌≡◌, ◌∙◌, ◌+◌, ◌*◌, ◌<◌, ◌≤◌, ℕ, zero, suc, List, [], ◌∷◌, ◌++◌, length, map, get_or, take, Option, Some, None, Bool, true, false, cond, refl, ap, sym, arith, subst}
use Rattle.std.specs.Prelude.{◌&&◌, slice_get, ℤ}
use Rattle.std.specs.List.{All, list_all, take_while}
use Rattle.std.proofs.lemmas.Bool.{leb-true}
use Rattle.std.proofs.lemmas.List.Elements.{All-from_recursion}
use Rattle.std.proofs.lemmas.List.Sums.{take_while-cons}
use Rattle.std.proofs.lemmas.Option.{slice_get_read}
use Rattle.mdb_items.specs.declared.container.Container.{Container}
use Rattle.mdb_items.specs.declared.container.ParameterEntry.{ParameterEntry}
use Rattle.mdb_items.specs.declared.parameter.Parameter.{Parameter}
use Rattle.mdb_items.specs.Database.{Database, IsDatabase}
use Rattle.mdb_items.specs.Paths.{bits_of_parameter}
use Rattle.mdb_items.specs.Structure.{IsEntry}
use Rattle.mdb_model.proofs.Structure.{structured}
use Rattle.container_extract.specs.declared.values.RawValue.{RawValue}
use Rattle.container_extract.specs.Bits.{raw_bits_at}
use Rattle.container_extract.specs.Chain.{entries_at, container_entries, first_child}
use Rattle.container_extract.specs.Step.{IsStep}
use Rattle.container_extract.specs.Values.{coding_of, fits, raw_of, raw_value_of}
use Rattle.container_extract.proofs.Walk.{if_false, if_true}

-- ---- one entry

-- the item that an index gives
pub item_is : {X : Type 0} (list xs : List X) (n : ℕ) (x : X) → list ≡ xs → n < length xs → x ≡ get_or list n x → slice_get xs n ≡ Some x
item_is list xs n x same lt is = slice_get_read xs (length xs) n x refl lt (is ∙ ap (λ zs. get_or zs n x) same)

-- an entry that fits ends inside the packet
pub ends_inside : (db : Database) (packet : List ℕ) (e : ParameterEntry) (p : Parameter) → slice_get db.parameters e.parameter ≡ Some p → fits db packet e ≡ true → e.at + p.bits ≤ 8 * length packet
ends_inside db packet e p at is =
    let le = leb-true (e.at + bits_of_parameter (slice_get db.parameters e.parameter)) (8 * length packet) is in
    let same : bits_of_parameter (slice_get db.parameters e.parameter) ≡ p.bits = ap bits_of_parameter at in
    omega arith

-- its raw value is that of the definition
pub raw_value_is : (db : Database) (packet : List ℕ) (e : ParameterEntry) (p : Parameter) (z raw : ℤ) → slice_get db.parameters e.parameter ≡ Some p → z ≡ raw → raw ≡ raw_bits_at packet e.at p.bits p.coding
    → (let v : RawValue = record { parameter = e.parameter; raw = z } in v) ≡ raw_value_of db packet e
raw_value_is db packet e p z raw at plain raw_is =
    let r : raw_of db packet e ≡ raw_bits_at packet e.at p.bits p.coding = ap (λ (q : Option Parameter). raw_bits_at packet e.at (bits_of_parameter q) (coding_of q)) at in
    ap (λ (y : ℤ). let v : RawValue = record { parameter = e.parameter; raw = y } in v) (plain ∙ raw_is ∙ sym r)

-- ---- entries one after the other

left_of_and : (a b : Bool) → (a && b) ≡ true → a ≡ true
left_of_and true b e = refl
left_of_and false b e = e

right_of_and : (a b : Bool) → (a && b) ≡ true → b ≡ true
right_of_and true b e = e
right_of_and false b e = cc

-- what is taken ends before the first that doesn't pass
pub cut_here : {X : Type 0} (p : X → Bool) (xs : List X) (i : ℕ) (d : X) → i < length xs → list_all p (take i xs) ≡ true → p (get_or xs i d) ≡ false → take_while p xs ≡ take i xs
cut_here p [] i d lt all isnt = absurd (omega arith)
cut_here p (x ∷ xs) zero d lt all isnt = take_while-cons p x xs ∙ ap (λ b. cond b (x ∷ take_while p xs) []) isnt
cut_here p (x ∷ xs) (suc i) d lt all isnt =
    let here = left_of_and (p x) (list_all p (take i xs)) all in
    let rest = cut_here p xs i d (omega arith) (right_of_and (p x) (list_all p (take i xs)) all) isnt in
    take_while-cons p x xs ∙ ap (λ b. cond b (x ∷ take_while p xs) []) here ∙ ap (λ zs. x ∷ zs) rest

-- the entries of a container are of parameters of the database
pub entries_known : (db : Database) (n : ℕ) (c : Container) (es : List ParameterEntry) → IsDatabase db → slice_get db.containers n ≡ Some c → es ≡ c.entries → All (λ (e : ParameterEntry). e.parameter < length db.parameters) es
entries_known db n c es is at same =
    let each = All-from_recursion (IsEntry db) c.entries ((structured db is).containers n c at).entries in
    subst (All (λ (e : ParameterEntry). e.parameter < length db.parameters)) (sym same) (λ i d lt. (each i d lt).parameter)

pub entries_are : (db : Database) (n : ℕ) (c : Container) (es : List ParameterEntry) → slice_get db.containers n ≡ Some c → es ≡ c.entries → es ≡ entries_at db n
entries_are db n c es at same = same ∙ ap container_entries (sym at)

-- a step where an entry passes the packet's end
pub step_ends : (db : Database) (packet : List ℕ) (values more : List RawValue) (n : ℕ) (es : List ParameterEntry) → es ≡ entries_at db n
    → more ≡ values ++ map (raw_value_of db packet) (take_while (fits db packet) es) → list_all (fits db packet) es ≡ false → IsStep db packet values n more None
step_ends db packet values more n es same taken isnt = record {
  values_are = taken ∙ ap (λ (xs : List ParameterEntry). values ++ map (raw_value_of db packet) (take_while (fits db packet) xs)) same;
  next_is = sym (if_false (list_all (fits db packet) (entries_at db n)) (first_child db.containers n more) None (ap (list_all (fits db packet)) (sym same) ∙ isnt));
}

-- a step where all are taken
pub step_goes_on : (db : Database) (packet : List ℕ) (values more : List RawValue) (n : ℕ) (es : List ParameterEntry) (next : Option ℕ) → es ≡ entries_at db n
    → more ≡ values ++ map (raw_value_of db packet) (take_while (fits db packet) es) → list_all (fits db packet) es ≡ true → next ≡ first_child db.containers n more → IsStep db packet values n more next
step_goes_on db packet values more n es next same taken is next_is = record {
  values_are = taken ∙ ap (λ (xs : List ParameterEntry). values ++ map (raw_value_of db packet) (take_while (fits db packet) xs)) same;
  next_is = next_is ∙ sym (if_true (list_all (fits db packet) (entries_at db n)) (first_child db.containers n more) None (ap (list_all (fits db packet)) (sym same) ∙ is));
}
