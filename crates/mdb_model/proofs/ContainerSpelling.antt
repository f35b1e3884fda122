-- Rows of containers that break no rule spell the containers whose own rows break none.
use Rattle.std.proofs.Common.{◌≡◌, ◌∙◌, ◌+◌, ◌<◌, ℕ, zero, suc, List, [], ◌∷◌, ◌++◌, length, Option, Some, None, Bool, true, false, refl, ap, sym, arith, append_assoc, length-append, subst}
use Rattle.std.specs.Prelude.{slice_get, flat_map, fold, not, ◌==◌, option_map, unwrap_or, is_some}
use Rattle.std.proofs.lemmas.Grind.{flat_map-append}
use Rattle.std.proofs.lemmas.List.{append-nil, map-append}
use Rattle.std.proofs.lemmas.List.Sums.{fold-append}
use Rattle.mdb_items.specs.declared.container.Comparison.{Comparison}
use Rattle.mdb_items.specs.declared.container.Container.{Container}
use Rattle.mdb_items.specs.declared.container.ParameterEntry.{ParameterEntry}
use Rattle.mdb_items.specs.declared.fault.MdbSheet.TheVariants as sheet
use Rattle.mdb_items.specs.declared.parameter.Parameter.{Parameter}
use Rattle.mdb_items.specs.declared.rows.NewContainer.{NewContainer}
use Rattle.mdb_items.specs.declared.rows.ContainerColumns.{ContainerColumns}
use Rattle.mdb_items.specs.declared.rows.ContainerColumns.TheVariants.{Begins, Continues}
use Rattle.mdb_items.specs.declared.rows.EntryPosition.{EntryPosition}
use Rattle.mdb_items.specs.declared.rows.EntryPosition.TheVariants as place
use Rattle.mdb_items.specs.declared.rows.EntryPosition.TheVariants.{At}
use Rattle.mdb_items.specs.declared.rows.Reference.{Reference}
use Rattle.mdb_items.specs.declared.rows.Reference.TheVariants.{Nothing, Unknown, Known}
use Rattle.mdb_items.specs.Checks.{Checks, first_at, first_broken}
use Rattle.mdb_items.specs.ContainerRows.{ContainerRow, begin_row, new_container_checks, container_fault, container_fault_at, containers_of, entry_checks, entry_row, columns_checks, is_condition, is_continuing, is_parent, last_path, path_up, row_fault, rows_of_container, with_container_row, with_entry, with_columns, with_new_entry}
use Rattle.mdb_items.specs.Database.{broken_below, containers_fault}
use Rattle.mdb_items.specs.Paths.{ContainerPath}
use Rattle.mdb_items.specs.Lists.{is_empty}
use Rattle.mdb_items.specs.ParameterRows.{referenced_number}
use Rattle.mdb_items.specs.Texts.{Text}
use Rattle.mdb_items.proofs.Ends.{at_last-push, slice_get-end, snoc, take-front}
use Rattle.mdb_rules.proofs.Passing.{AllPass, all_pass, each_none, first_none, is_true, none_broken, or_else-none}

-- the rules of a row's entry
abbrev checks_of : List Parameter → List Container → ContainerRow → Checks
checks_of ps above row = entry_checks ps (last_path (with_columns above row.columns)) (is_continuing row.columns) row.entry row.position

-- rows below containers, none of which breaks a rule
abbrev pub Faultless : List Parameter → List Container → List ContainerRow → Type 0
Faultless ps above [] = Unit {0}
Faultless ps above (row ∷ rows) = (row_fault ps above row ≡ None) × Faultless ps (with_container_row above row) rows

faultless_append : (ps : List Parameter) (above : List Container) (xs ys : List ContainerRow) → Faultless ps above xs → Faultless ps (fold with_container_row above xs) ys → Faultless ps above (xs ++ ys)
faultless_append ps above [] ys a b = b
faultless_append ps above (x ∷ xs) ys a b = (a.0, faultless_append ps (with_container_row above x) xs ys a.1 b)

abbrev new_container_of : NewContainer → Container
new_container_of b = record { name = b.name; parent = referenced_number b.parent; archive = unwrap_or b.archive false; condition = unwrap_or b.condition []; entries = [] }

-- the row that only begins a container, and the row that only adds an entry
abbrev begin_only : NewContainer → ContainerRow
begin_only b = record { fields = 6; columns = Begins b; entry = Nothing; position = place.Nothing }

abbrev entry_only : ℕ → ℕ → ContainerRow
entry_only n at = record { fields = 6; columns = Continues false; entry = Known n; position = At at }

abbrev columns_rows : ContainerColumns → List ContainerRow
columns_rows (Begins b) = begin_only b ∷ []
columns_rows (Continues says) = []

abbrev entry_rows : Reference → EntryPosition → List ContainerRow
entry_rows (Known n) (At at) = entry_only n at ∷ []
entry_rows entry position = []

-- a row as one that begins a container and one that adds an entry
abbrev pub parts_of : ContainerRow → List ContainerRow
parts_of row = columns_rows row.columns ++ entry_rows row.entry row.position

pushed_not_empty : {X : Type 0} (xs : List X) (x : X) → is_empty (xs ++ x ∷ []) ≡ false
pushed_not_empty [] x = refl
pushed_not_empty (y ∷ xs) x = refl

-- the part that begins a container breaks no rule
begin_sound : (ps : List Parameter) (above : List Container) (b : NewContainer) → first_broken (columns_checks above (Begins b)) ≡ None → row_fault ps above (begin_only b) ≡ None
begin_sound ps above b sound = rw sound refl

-- the part that adds an entry breaks no rule
entry_sound : (ps : List Parameter) (containers : List Container) (n at : ℕ) → is_empty containers ≡ false → first_broken (entry_checks ps (last_path containers) true (Known n) (At at)) ≡ None → row_fault ps containers (entry_only n at) ≡ None
entry_sound ps containers n at begun sound = rw begun sound

-- an entry and its position that break no rule: both are there, or neither is
data Placed : Bool → Reference → EntryPosition → Type 0 where
  nowhere : Placed false Nothing place.Nothing
  there : {continuing : Bool} {n at : ℕ} → Placed continuing (Known n) (At at)

placed : (ps : List Parameter) (path : ContainerPath) (continuing : Bool) (entry : Reference) (position : EntryPosition) → AllPass (entry_checks ps path continuing entry position) → Placed continuing entry position
placed ps path continuing Unknown position p = let bad : true ≡ false = p.0 in cc
placed ps path true Nothing position p = let bad : true ≡ false = p.1.1.0 in cc
placed ps path false Nothing place.Nothing p = nowhere
placed ps path false Nothing place.Unknown p = let bad : true ≡ false = p.1.1.1.1.0 in cc
placed ps path false Nothing (At at) p = let bad : true ≡ false = p.1.1.1.1.0 in cc
placed ps path continuing (Known n) place.Nothing p = let bad : true ≡ false = p.1.1.1.1.0 in cc
placed ps path continuing (Known n) place.Unknown p = let bad : true ≡ false = p.1.1.1.1.0 in cc
placed ps path continuing (Known n) (At at) p = there

-- whether the row continues makes no difference to an entry
entry_either : (ps : List Parameter) (path : ContainerPath) (continuing : Bool) (n at : ℕ) → first_broken (entry_checks ps path continuing (Known n) (At at)) ≡ None → first_broken (entry_checks ps path true (Known n) (At at)) ≡ None
entry_either ps path true n at sound = sound
entry_either ps path false n at sound = sound

-- what the parts of a sound row come to
abbrev PartsAreSound : List Parameter → List Container → ContainerColumns → Reference → EntryPosition → Type 0
PartsAreSound ps above columns entry position =
    Faultless ps above (columns_rows columns ++ entry_rows entry position)
    × (fold with_container_row above (columns_rows columns ++ entry_rows entry position) ≡ with_entry (with_columns above columns) entry position)

head_tail : (ps : List Parameter) (above : List Container) (fields : ℕ) (columns : ContainerColumns) → first_broken ((2, not (fields == 6)) ∷ columns_checks above columns) ≡ None → first_broken (columns_checks above columns) ≡ None
head_tail ps above fields columns sound = none_broken (columns_checks above columns) ((all_pass ((2, not (fields == 6)) ∷ columns_checks above columns) sound).1)

parts_sound : (ps : List Parameter) (above : List Container) (columns : ContainerColumns) (entry : Reference) (position : EntryPosition) → first_broken (columns_checks above columns) ≡ None → first_broken (entry_checks ps (last_path (with_columns above columns)) (is_continuing columns) entry position) ≡ None
    → Placed (is_continuing columns) entry position → PartsAreSound ps above columns entry position
parts_sound ps above (Begins b) Nothing place.Nothing h e q = ((begin_sound ps above b h, tt), refl)
parts_sound ps above (Begins b) Nothing place.Unknown h e q = elim q [ ]
parts_sound ps above (Begins b) Nothing (At at) h e q = elim q [ ]
parts_sound ps above (Begins b) Unknown position h e q = elim q [ ]
parts_sound ps above (Begins b) (Known n) place.Nothing h e q = elim q [ ]
parts_sound ps above (Begins b) (Known n) place.Unknown h e q = elim q [ ]
parts_sound ps above (Begins b) (Known n) (At at) h e q =
    let begun = with_columns above (Begins b) in
    ((begin_sound ps above b h, (entry_sound ps begun n at (pushed_not_empty above (new_container_of b)) (entry_either ps (last_path begun) false n at e), tt)), refl)
parts_sound ps above (Continues says) Nothing position h e q = elim q [ ]
parts_sound ps above (Continues says) Unknown position h e q = elim q [ ]
parts_sound ps above (Continues says) (Known n) place.Nothing h e q = elim q [ ]
parts_sound ps above (Continues says) (Known n) place.Unknown h e q = elim q [ ]
parts_sound ps above (Continues says) (Known n) (At at) h e q =
    let p = all_pass (columns_checks above (Continues says)) h in
    ((entry_sound ps above n at p.0 e, tt), refl)

sound_parts : (ps : List Parameter) (above : List Container) (row : ContainerRow) → row_fault ps above row ≡ None → PartsAreSound ps above row.columns row.entry row.position
sound_parts ps above row sound =
    let both = or_else-none (first_broken ((2, not (row.fields == 6)) ∷ columns_checks above row.columns)) (first_broken (entry_checks ps (last_path (with_columns above row.columns)) (is_continuing row.columns) row.entry row.position)) sound in
    parts_sound ps above row.columns row.entry row.position (head_tail ps above row.fields row.columns both.0) both.1
    (placed ps (last_path (with_columns above row.columns)) (is_continuing row.columns) row.entry row.position (all_pass (checks_of ps above row) both.1))

-- the parts of sound rows are sound, and spell the same containers
all_parts : (ps : List Parameter) (rows : List ContainerRow) (above : List Container) → Faultless ps above rows
    → Faultless ps above (flat_map parts_of rows) × (fold with_container_row above (flat_map parts_of rows) ≡ fold with_container_row above rows)
all_parts ps [] above sound = (tt, refl)
all_parts ps (row ∷ rows) above sound =
    let here = sound_parts ps above row sound.0 in
    let rest = all_parts ps rows (with_container_row above row) sound.1 in
    let P : List Container → Type 0 = λ cs. Faultless ps cs (flat_map parts_of rows) in
    let later : Faultless ps (fold with_container_row above (parts_of row)) (flat_map parts_of rows) = subst P (sym here.1) rest.0 in (
      faultless_append ps above (parts_of row) (flat_map parts_of rows) here.0 later,
      fold-append with_container_row above (parts_of row) (flat_map parts_of rows) ∙ ap (λ (cs : List Container). fold with_container_row cs (flat_map parts_of rows)) here.1 ∙ rest.1,
    )

-- a container that a sound row begins has that row
begin_back : (name : Text) (parent : Reference) (condition : Option (List Comparison)) (archive : Option Bool) (count : ℕ) → is_parent count parent ≡ true → is_condition condition ≡ true → is_some archive ≡ true
    → rows_of_container (new_container_of (record { name = name; parent = parent; condition = condition; archive = archive })) ≡ begin_only (record { name = name; parent = parent; condition = condition; archive = archive }) ∷ []
begin_back name Unknown condition archive count p c a = cc
begin_back name Nothing None archive count p c a = cc
begin_back name Nothing (Some cs) None count p c a = cc
begin_back name Nothing (Some cs) (Some yes_no) count p c a = refl
begin_back name (Known n) None archive count p c a = cc
begin_back name (Known n) (Some cs) None count p c a = cc
begin_back name (Known n) (Some cs) (Some yes_no) count p c a = refl

begun_rows : (above : List Container) (b : NewContainer) → first_broken (columns_checks above (Begins b)) ≡ None → flat_map rows_of_container (with_columns above (Begins b)) ≡ flat_map rows_of_container above ++ begin_only b ∷ []
begun_rows above b sound =
    let p = all_pass (new_container_checks above (path_up above b) b) sound in
    let own = begin_back b.name b.parent b.condition b.archive (length above) (is_true (is_parent (length above) b.parent) p.1.1.1.0) (is_true (is_condition b.condition) p.1.1.1.1.1.0) (is_true (is_some b.archive) p.1.1.1.1.1.1.1.1.0) in
    flat_map-append rows_of_container above (new_container_of b ∷ []) ∙ ap (λ (rs : List ContainerRow). flat_map rows_of_container above ++ rs) (append-nil (rows_of_container (new_container_of b)) ∙ own)

-- one more entry in the last container
entered_rows : (front : List Container) (c : Container) (n at : ℕ) → flat_map rows_of_container (with_entry (front ++ c ∷ []) (Known n) (At at)) ≡ flat_map rows_of_container (front ++ c ∷ []) ++ entry_only n at ∷ []
entered_rows front c n at =
    let e : ParameterEntry = record { parameter = n; at = at } in
    let f = rows_of_container in
    let own : f (with_new_entry e c) ≡ f c ++ entry_only n at ∷ [] = ap (λ (rs : List ContainerRow). begin_row c ∷ rs) (map-append entry_row c.entries (e ∷ [])) in
    ap (flat_map f) (at_last-push (with_new_entry e) front c) ∙ flat_map-append f front (with_new_entry e c ∷ []) ∙ ap (λ (rs : List ContainerRow). flat_map f front ++ rs) (append-nil (f (with_new_entry e c)) ∙ own)
    ∙ sym (append_assoc (flat_map f front) (f c) (entry_only n at ∷ [])) ∙ ap (λ (rs : List ContainerRow). rs ++ entry_only n at ∷ []) (sym (flat_map-append f front (c ∷ []) ∙ ap (λ (rs : List ContainerRow). flat_map f front ++ rs) (append-nil (f c))))

entered : (containers : List Container) (n at : ℕ) → is_empty containers ≡ false → flat_map rows_of_container (with_entry containers (Known n) (At at)) ≡ flat_map rows_of_container containers ++ entry_only n at ∷ []
entered [] n at begun = cc
entered (a ∷ containers) n at begun =
    let parts = snoc (a ∷ containers) (omega arith) in
    let P : List Container → Type 0 = λ cs. flat_map rows_of_container (with_entry cs (Known n) (At at)) ≡ flat_map rows_of_container cs ++ entry_only n at ∷ [] in
    subst P (sym parts.2) (entered_rows parts.0 parts.1 n at)

-- a sound row adds its parts to the rows
row_added : (ps : List Parameter) (above : List Container) (columns : ContainerColumns) (entry : Reference) (position : EntryPosition) → first_broken (columns_checks above columns) ≡ None → Placed (is_continuing columns) entry position
    → flat_map rows_of_container (with_entry (with_columns above columns) entry position) ≡ flat_map rows_of_container above ++ (columns_rows columns ++ entry_rows entry position)
row_added ps above (Begins b) Nothing place.Nothing h q = begun_rows above b h
row_added ps above (Begins b) Nothing place.Unknown h q = elim q [ ]
row_added ps above (Begins b) Nothing (At at) h q = elim q [ ]
row_added ps above (Begins b) Unknown position h q = elim q [ ]
row_added ps above (Begins b) (Known n) place.Nothing h q = elim q [ ]
row_added ps above (Begins b) (Known n) place.Unknown h q = elim q [ ]
row_added ps above (Begins b) (Known n) (At at) h q =
    entered (with_columns above (Begins b)) n at (pushed_not_empty above (new_container_of b)) ∙ ap (λ (rs : List ContainerRow). rs ++ entry_only n at ∷ []) (begun_rows above b h)
    ∙ append_assoc (flat_map rows_of_container above) (begin_only b ∷ []) (entry_only n at ∷ [])
row_added ps above (Continues says) Nothing position h q = elim q [ ]
row_added ps above (Continues says) Unknown position h q = elim q [ ]
row_added ps above (Continues says) (Known n) place.Nothing h q = elim q [ ]
row_added ps above (Continues says) (Known n) place.Unknown h q = elim q [ ]
row_added ps above (Continues says) (Known n) (At at) h q =
    let p = all_pass (columns_checks above (Continues says)) h in
    entered above n at p.0

all_rows : (ps : List Parameter) (rows : List ContainerRow) (above : List Container) → Faultless ps above rows → flat_map rows_of_container (fold with_container_row above rows) ≡ flat_map rows_of_container above ++ flat_map parts_of rows
all_rows ps [] above sound = sym (append-nil (flat_map rows_of_container above))
all_rows ps (row ∷ rows) above sound =
    let both = or_else-none (first_broken ((2, not (row.fields == 6)) ∷ columns_checks above row.columns)) (first_broken (entry_checks ps (last_path (with_columns above row.columns)) (is_continuing row.columns) row.entry row.position)) sound.0 in
    let here = row_added ps above row.columns row.entry row.position (head_tail ps above row.fields row.columns both.0)
    (placed ps (last_path (with_columns above row.columns)) (is_continuing row.columns) row.entry row.position (all_pass (checks_of ps above row) both.1)) in
    let rest = all_rows ps rows (with_container_row above row) sound.1 in
    rest ∙ ap (λ (rs : List ContainerRow). rs ++ flat_map parts_of rows) here ∙ append_assoc (flat_map rows_of_container above) (parts_of row) (flat_map parts_of rows)

-- the row after some others, and the fault there
fault_after : (ps : List Parameter) (done : List ContainerRow) (row : ContainerRow) (rest : List ContainerRow) → container_fault_at ps (done ++ row ∷ rest) (length done) ≡ row_fault ps (containers_of done) row
unfolding container_fault_at
fault_after ps done row rest =
    ap (λ (xs : List ContainerRow). container_fault ps (containers_of xs) (slice_get (done ++ row ∷ rest) (length done))) (take-front done (row ∷ rest))
    ∙ ap (container_fault ps (containers_of done)) (slice_get-end done row rest)

more_done : (done : List ContainerRow) (row : ContainerRow) → containers_of (done ++ row ∷ []) ≡ with_container_row (containers_of done) row
more_done done row = fold-append with_container_row [] done (row ∷ [])

-- where each row is sound the rows are faultless
faultless_from : (ps : List Parameter) (rest done : List ContainerRow) → ((j : ℕ) → j < length (done ++ rest) → container_fault_at ps (done ++ rest) j ≡ None) → Faultless ps (containers_of done) rest
faultless_from ps [] done sound = tt
faultless_from ps (row ∷ rest) done sound =
    let here = sym (fault_after ps done row rest) ∙ sound (length done) (omega (arith, length-append done (row ∷ rest))) in
    let e : (done ++ row ∷ []) ++ rest ≡ done ++ row ∷ rest = append_assoc done (row ∷ []) rest in
    let Q : List ContainerRow → Type 0 = λ rows. (j : ℕ) → j < length rows → container_fault_at ps rows j ≡ None in
    let later = faultless_from ps rest (done ++ row ∷ []) (subst Q (sym e) sound) in
    let P : List Container → Type 0 = λ cs. Faultless ps cs rest in
    (here, subst P (more_done done row) later)

-- where the rows are faultless each row is sound
sound_from : (ps : List Parameter) (rest done : List ContainerRow) → Faultless ps (containers_of done) rest → (j : ℕ) → j < length rest → container_fault_at ps (done ++ rest) (length done + j) ≡ None
sound_from ps [] done sound j lt = absurd (omega arith)
sound_from ps (row ∷ rest) done sound zero lt =
    let at : length done + 0 ≡ length done = omega arith in
    ap (λ (k : ℕ). container_fault_at ps (done ++ row ∷ rest) k) at ∙ fault_after ps done row rest ∙ sound.0
sound_from ps (row ∷ rest) done sound (suc j) lt =
    let P : List Container → Type 0 = λ cs. Faultless ps cs rest in
    let later = sound_from ps rest (done ++ row ∷ []) (subst P (sym (more_done done row)) sound.1) j (omega arith) in
    let at : length done + suc j ≡ length (done ++ row ∷ []) + j = omega (arith, length-append done (row ∷ [])) in
    ap (λ (k : ℕ). container_fault_at ps (done ++ row ∷ rest) k) at ∙ ap (λ (rows : List ContainerRow). container_fault_at ps rows (length (done ++ row ∷ []) + j)) (sym (append_assoc done (row ∷ []) rest)) ∙ later

no_fault : (ps : List Parameter) (rows : List ContainerRow) → 0 < length rows → first_at (container_fault_at ps rows) (length rows) ≡ None → containers_fault ps rows ≡ None
no_fault ps [] some sound = absurd (omega arith)
no_fault ps (row ∷ rows) some sound = rw sound refl

map_none : {X Y : Type 0} (f : X → Y) (o : Option X) → option_map f o ≡ None → o ≡ None
map_none f None e = refl
map_none f (Some x) e = cc

-- the first of sound rows begins a container
first_begins : (ps : List Parameter) (row : ContainerRow) (rows : List ContainerRow) → row_fault ps [] row ≡ None → 0 < length (flat_map parts_of (row ∷ rows))
first_begins ps row rows sound =
    let both = or_else-none (first_broken ((2, not (row.fields == 6)) ∷ columns_checks [] row.columns)) (first_broken (entry_checks ps (last_path (with_columns [] row.columns)) (is_continuing row.columns) row.entry row.position)) sound in
    begins row.columns (head_tail ps [] row.fields row.columns both.0)
  where
    begins : (columns : ContainerColumns) → first_broken (columns_checks [] columns) ≡ None → 0 < length ((columns_rows columns ++ entry_rows row.entry row.position) ++ flat_map parts_of rows)
    begins (Begins b) h = omega arith
    begins (Continues says) h = cc

-- the rows of the containers that sound rows spell are sound, and spell these containers
pub containers_respelled : (ps : List Parameter) (rows : List ContainerRow) → containers_fault ps rows ≡ None
    → (containers_of (flat_map rows_of_container (containers_of rows)) ≡ containers_of rows) × (containers_fault ps (flat_map rows_of_container (containers_of rows)) ≡ None)
containers_respelled ps [] none = cc
containers_respelled ps (row ∷ rows) none =
    let all = row ∷ rows in
    let each = each_none (container_fault_at ps all) (length all) (map_none (broken_below sheet.Containers) (first_at (container_fault_at ps all) (length all)) none) in
    let sound = faultless_from ps all [] each in
    let parts = all_parts ps all [] sound in
    let same : flat_map rows_of_container (containers_of all) ≡ flat_map parts_of all = all_rows ps all [] sound in
    let again = first_none (container_fault_at ps (flat_map parts_of all)) (length (flat_map parts_of all))
    (λ j lt. let at : 0 + j ≡ j = omega arith in ap (λ (k : ℕ). container_fault_at ps (flat_map parts_of all) k) (sym at) ∙ sound_from ps (flat_map parts_of all) [] parts.0 j lt) in
    let fine = no_fault ps (flat_map parts_of all) (first_begins ps row rows sound.0) again in
    (ap containers_of same ∙ parts.1, ap (containers_fault ps) same ∙ fine)
