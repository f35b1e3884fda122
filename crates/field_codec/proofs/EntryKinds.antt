-- The kind of an entry, and what stands behind it.
use Rattle.std.proofs.Common.{◌≡◌, ℕ, ℤ, ◌<◌, ◌^◌, List, [], ◌∷◌, ◌++◌, Option, Some, None, refl, sym, ap, ◌∙◌, append-nil, arith}
use Rattle.std.specs.Int.{w8, w64}
use Rattle.intervals.specs.declared.interval.Interval.{Interval}
use Rattle.mdb_items.specs.Database.{Database, IsDatabase}
use Rattle.mdb_octets.specs.Spelling.{database_octets}
use Rattle.mdb_model.proofs.DatabaseOctets.{database_fits}
use Rattle.mdb_octets.proofs.ItemOctets.{database_exact}
use Rattle.octet_fields.specs.declared.fault.DecodeError.{DecodeError}
use Rattle.octet_fields.specs.declared.fault.DecodeError.TheVariants as errors
use Rattle.octet_fields.specs.Answers.{Fails}
use Rattle.octet_fields.specs.Exact.{IsOctets, IsExact}
use Rattle.octet_fields.specs.Reading.{Reader, number_at, whole}
use Rattle.octet_fields.specs.Spelling.{number}
use Rattle.octet_fields.proofs.Exact.{one_form, some_is, whole_again}
use Rattle.octet_fields.proofs.Numbers.{exact8, exact64}
use Rattle.seal_codec.specs.declared.seal.Seal.{Seal}
use Rattle.seal_codec.specs.Seals.{IsSeal, seal_octets}
use Rattle.seal_codec.proofs.SealSpelling.{seal_exact}
use Rattle.field_codec.specs.declared.entry.Entry.{Entry}
use Rattle.field_codec.specs.declared.entry.Entry.TheVariants as entries
use Rattle.field_codec.specs.Entries.{AreStored, AreTables, FillFields, IsArchiveEntry, IsFill, IsRowCount}
use Rattle.field_codec.specs.Reading.{IsHead, fill_at, head_of, opening_at}
use Rattle.field_codec.specs.Spelling.{body_octets, entry_octets, head_octets, fill_fields_octets, kind_of, opening_octets, rows_octets}
use Rattle.field_codec.proofs.FillSpelling.{fill_exact}
use Rattle.field_codec.proofs.Openings.{opening_exact}
use Rattle.field_codec.proofs.RowLists.{rows_exact}

-- ---- the kinds

kind_small : (a : Entry) → kind_of a < 2 ^ 8
kind_small (entries.Head tables mdb) = omega arith
kind_small (entries.Rows rows) = omega arith
kind_small (entries.Fill interval base set) = omega arith
kind_small (entries.Seal seal) = omega arith
kind_small (entries.LogHead rows) = omega arith

-- an entry is this one of a value that fits, and its body is the value's spelling
pub record IsMadeOf {A : Type 0} (Fits : A → Type 0) (spell : A → List ℕ) (make : A → Entry) (entry : Entry) : Type 0 where
  pub value : A
  pub fits : Fits value
  pub made : make value ≡ entry
  pub body : body_octets entry ≡ spell value

-- the entry of a head's tables and database
abbrev pub entry_of_head : List (List ℕ) × Database → Entry
entry_of_head head = entries.Head head.0 head.1

-- the interval of a number
abbrev interval_numbered : ℤ → Interval
interval_numbered n = record { 0 = n }

-- the entry of a fill's fields
abbrev pub entry_of_fields : FillFields → Entry
entry_of_fields f = entries.Fill (interval_numbered f.0) f.1.0 f.1.1

pub of_head : (a : Entry) → IsArchiveEntry a → 1 ≡ kind_of a → IsMadeOf IsHead head_of entry_of_head a
of_head (entries.Head tables mdb) fits kind = record { value = (tables, mdb); fits = fits; made = refl; body = refl }
of_head (entries.Rows rows) fits kind = absurd (omega (arith, kind))
of_head (entries.Fill interval base set) fits kind = absurd (omega (arith, kind))
of_head (entries.Seal seal) fits kind = absurd (omega (arith, kind))
of_head (entries.LogHead rows) fits kind = absurd (omega (arith, kind))

pub of_rows : (a : Entry) → IsArchiveEntry a → 2 ≡ kind_of a → IsMadeOf AreStored rows_octets entries.Rows a
of_rows (entries.Head tables mdb) fits kind = absurd (omega (arith, kind))
of_rows (entries.Rows rows) fits kind = record { value = rows; fits = fits; made = refl; body = refl }
of_rows (entries.Fill interval base set) fits kind = absurd (omega (arith, kind))
of_rows (entries.Seal seal) fits kind = absurd (omega (arith, kind))
of_rows (entries.LogHead rows) fits kind = absurd (omega (arith, kind))

pub of_fill : (a : Entry) → IsArchiveEntry a → 3 ≡ kind_of a → IsMadeOf IsFill fill_fields_octets entry_of_fields a
of_fill (entries.Head tables mdb) fits kind = absurd (omega (arith, kind))
of_fill (entries.Rows rows) fits kind = absurd (omega (arith, kind))
of_fill (entries.Fill interval base set) fits kind = record { value = (interval.0, (base, set)); fits = fits; made = refl; body = refl }
of_fill (entries.Seal seal) fits kind = absurd (omega (arith, kind))
of_fill (entries.LogHead rows) fits kind = absurd (omega (arith, kind))

pub of_seal : (a : Entry) → IsArchiveEntry a → 4 ≡ kind_of a → IsMadeOf IsSeal seal_octets entries.Seal a
of_seal (entries.Head tables mdb) fits kind = absurd (omega (arith, kind))
of_seal (entries.Rows rows) fits kind = absurd (omega (arith, kind))
of_seal (entries.Fill interval base set) fits kind = absurd (omega (arith, kind))
of_seal (entries.Seal seal) fits kind = record { value = seal; fits = fits; made = refl; body = refl }
of_seal (entries.LogHead rows) fits kind = absurd (omega (arith, kind))

pub of_log_head : (a : Entry) → IsArchiveEntry a → 5 ≡ kind_of a → IsMadeOf IsRowCount (number w64) entries.LogHead a
of_log_head (entries.Head tables mdb) fits kind = absurd (omega (arith, kind))
of_log_head (entries.Rows rows) fits kind = absurd (omega (arith, kind))
of_log_head (entries.Fill interval base set) fits kind = absurd (omega (arith, kind))
of_log_head (entries.Seal seal) fits kind = absurd (omega (arith, kind))
of_log_head (entries.LogHead rows) fits kind = record { value = rows; fits = fits; made = refl; body = refl }

-- there is no other kind
pub no_other : (a : Entry) (kind : ℕ) → kind ≡ kind_of a → (kind ≡ 1 → ⊥) → (kind ≡ 2 → ⊥) → (kind ≡ 3 → ⊥) → (kind ≡ 4 → ⊥) → (kind ≡ 5 → ⊥) → ⊥
no_other (entries.Head tables mdb) kind e one two three four five = one e
no_other (entries.Rows rows) kind e one two three four five = two e
no_other (entries.Fill interval base set) kind e one two three four five = three e
no_other (entries.Seal seal) kind e one two three four five = four e
no_other (entries.LogHead rows) kind e one two three four five = five e

-- ---- an entry whose kind was read

-- what was read is the entry's kind, and what follows is its body
pub kind_read : (octets : List ℕ) (kind : ℕ) (rest : List ℕ) (a : Entry) → number_at w8 octets ≡ Some (kind, rest) → octets ≡ entry_octets a → (kind ≡ kind_of a) × (rest ≡ body_octets a)
kind_read octets kind rest a e is =
    let same : ◌≡◌ {A = Option (ℕ × List ℕ)} (Some (kind, rest)) (Some (kind_of a, body_octets a)) = sym e ∙ ap (number_at w8) is ∙ exact8.again (kind_of a) (body_octets a) tt (kind_small a) in
    let p = some_is (kind, rest) (kind_of a, body_octets a) same in
    (ap (λ q. q.0) p, ap (λ q. q.1) p)

-- an entry has a kind
pub no_kind : (octets : List ℕ) (a : Entry) → number_at w8 octets ≡ None → octets ≡ entry_octets a → ⊥
no_kind octets a e is = absurd (cc (sym e ∙ ap (number_at w8) is ∙ exact8.again (kind_of a) (body_octets a) tt (kind_small a)))

-- the octets are a kind, and behind it the body of an entry of that kind
pub spelled_as : (octets rest : List ℕ) (kind : ℕ) (a : Entry) → IsOctets octets → number_at w8 octets ≡ Some (kind, rest) → kind ≡ kind_of a → IsArchiveEntry a × (rest ≡ body_octets a) → IsArchiveEntry a × (octets ≡ entry_octets a)
spelled_as octets rest kind a are e is h =
    (h.0, (exact8.takes octets (kind, rest) are e).0 ∙ ap (λ (l : List ℕ). number w8 kind ++ l) h.1 ∙ ap (λ (n : ℕ). number w8 n ++ body_octets a) is)

module _ {A : Type 0} {Fits : A → Type 0} {spell : A → List ℕ} {make : A → Entry} where
  -- the value that was read of the body is the entry's
  pub body_read : (rest : List ℕ) (x : A) (a : Entry) → IsMadeOf Fits spell make a → ((y : A) → Fits y → rest ≡ spell y → x ≡ y) → rest ≡ body_octets a → make x ≡ a
  body_read rest x a of each is = ap make (each of.value of.fits (is ∙ of.body)) ∙ of.made

  -- where none was read, memory was wanting
  pub body_memory : (rest : List ℕ) (f : DecodeError) (a : Entry) → IsMadeOf Fits spell make a → ((y : A) → Fits y → rest ≡ spell y → f ≡ errors.OutOfMemory) → rest ≡ body_octets a → f ≡ errors.OutOfMemory
  body_memory rest f a of each is = each of.value of.fits (is ∙ of.body)

-- ---- one spelling

-- the spellings of a value that is read exactly are one
once : {A : Type 0} {Fits : A → Type 0} {spell : A → List ℕ} {read : Reader A} → IsExact Fits spell read → (a b : A) → Fits a → Fits b → spell a ≡ spell b → a ≡ b
once {spell = spell} exact a b fa fb e = (one_form exact a b [] [] fa fb (append-nil (spell a) ∙ e ∙ sym (append-nil (spell b)))).0

parts : (a b : Entry) → entry_octets a ≡ entry_octets b → (kind_of a ≡ kind_of b) × (body_octets a ≡ body_octets b)
parts a b e = one_form exact8 (kind_of a) (kind_of b) (body_octets a) (body_octets b) (kind_small a) (kind_small b) e

head_once : (a b : List (List ℕ) × Database) → IsHead a → IsHead b → head_of a ≡ head_of b → a ≡ b
head_once a b fa fb is =
    let p = one_form opening_exact a.0 b.0 (database_octets a.1) (database_octets b.1) fa.0 fb.0 is in
    let database = once database_exact a.1 b.1 (database_fits a.1 fa.1) (database_fits b.1 fb.1) p.1 in
    ap (λ (t : List (List ℕ)). (t, a.1)) p.0 ∙ ap (λ (d : Database). (b.0, d)) database

fill_once : (f g : FillFields) → IsFill f → IsFill g → fill_fields_octets f ≡ fill_fields_octets g → f ≡ g
fill_once f g ff fg is = some_is f g (sym (whole_again fill_exact f refl ff) ∙ ap (whole fill_at) is ∙ whole_again fill_exact g refl fg)

pub one_spelling : (a b : Entry) → IsArchiveEntry a → IsArchiveEntry b → entry_octets a ≡ entry_octets b → a ≡ b
one_spelling (entries.Head tables mdb) b fa fb is =
    let p = parts (entries.Head tables mdb) b is in body_read (head_octets tables mdb) (tables, mdb) b (of_head b fb p.0) (λ h fits e. head_once (tables, mdb) h fa fits e) p.1
one_spelling (entries.Rows rows) b fa fb is =
    let p = parts (entries.Rows rows) b is in body_read (rows_octets rows) rows b (of_rows b fb p.0) (λ r fits e. once rows_exact rows r fa fits e) p.1
one_spelling (entries.Fill interval base set) b fa fb is =
    let p = parts (entries.Fill interval base set) b is in
    let f : FillFields = (interval.0, (base, set)) in
    body_read (fill_fields_octets f) f b (of_fill b fb p.0) (λ g fits e. fill_once f g fa fits e) p.1
one_spelling (entries.Seal seal) b fa fb is =
    let p = parts (entries.Seal seal) b is in body_read (seal_octets seal) seal b (of_seal b fb p.0) (λ s fits e. once seal_exact seal s fa fits e) p.1
one_spelling (entries.LogHead rows) b fa fb is =
    let p = parts (entries.LogHead rows) b is in body_read (number w64 rows) rows b (of_log_head b fb p.0) (λ n fits e. once exact64 rows n fa fits e) p.1

-- ---- a head whose opening was read

abbrev Found : Type 0
Found = List (List ℕ) × List ℕ

-- what was read is the head's tables, and what follows is its database
pub opening_read : (octets : List ℕ) (tables : List (List ℕ)) (rest : List ℕ) (a : List (List ℕ) × Database) → opening_at octets ≡ Some (tables, rest) → IsHead a → octets ≡ head_of a → (tables ≡ a.0) × (rest ≡ database_octets a.1)
opening_read octets tables rest a e fits is =
    let same : ◌≡◌ {A = Option Found} (Some (tables, rest)) (Some (a.0, database_octets a.1)) = sym e ∙ ap opening_at is ∙ opening_exact.again a.0 (database_octets a.1) tt fits.0 in
    let p = some_is (tables, rest) (a.0, database_octets a.1) same in
    (ap (λ q. q.0) p, ap (λ q. q.1) p)

pub opening_memory : (octets : List ℕ) (e : DecodeError) (a : List (List ℕ) × Database) → Fails e (opening_at octets) → IsHead a → octets ≡ head_of a → e ≡ errors.OutOfMemory
opening_memory octets errors.OutOfMemory a f fits is = refl
opening_memory octets errors.Malformed a f fits is = absurd (cc (sym f ∙ ap opening_at is ∙ opening_exact.again a.0 (database_octets a.1) tt fits.0))

pub head_whole : (octets : List ℕ) (tables : List (List ℕ)) (rest : List ℕ) (mdb : Database) → IsOctets octets → opening_at octets ≡ Some (tables, rest) → IsDatabase mdb × (rest ≡ database_octets mdb) → IsHead (tables, mdb) × (octets ≡ head_octets tables mdb)
head_whole octets tables rest mdb are e h =
    let t = opening_exact.takes octets (tables, rest) are e in
    ((t.1, h.0), t.0 ∙ ap (λ (l : List ℕ). opening_octets tables ++ l) h.1)
