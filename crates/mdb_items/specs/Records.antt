-- A list that is cut at places: the octets of a record at the ends of its fields, the fields of a sheet at the ends of its records.
use Rattle.std.specs.Prelude.{◌≡◌, ◌≤◌, ◌-◌, ℕ, zero, suc, List, [], ◌∷◌, take, drop, get_or}

-- the parts that end at these places, after a start
abbrev pub parts_from : {A : Type 0} → ℕ → List ℕ → List A → List (List A)
parts_from start [] items = []
parts_from start (end ∷ ends) items = take (end - start) (drop start items) ∷ parts_from end ends items

-- after a start the places rise, and the last is the end of the items
abbrev pub AreEnds : ℕ → List ℕ → ℕ → Type 0
AreEnds start [] size = start ≡ size
AreEnds start (end ∷ ends) size = (start ≤ end) × AreEnds end ends size

-- where a part starts: at the start of all, or where the one before it ends
abbrev pub start_at : ℕ → List ℕ → ℕ → ℕ
start_at start ends zero = start
start_at start ends (suc i) = get_or ends i 0
