-- The reading of known files: its ends, and what is due behind it.
use Rattle.std.proofs.Common.{◌≡◌, ◌⊎◌, inl, inr, ℕ, ◌+◌, ◌<◌, List, [], ◌∷◌, ◌++◌, length, Bool, true, false, Option, Some, None, refl, sym, subst, arith}
use Rattle.std.specs.Prelude.{IsNone, IsSome, IsSomeAnd}
use Rattle.std.specs.FinMap.{get}
use Rattle.arch_disk.specs.Disk.{Device}
use Rattle.refusals.specs.declared.refusal.Refusal.{Refusal}
use Rattle.refusals.specs.declared.refusal.Refusal.TheVariants.{BadPacket, Limit, Missing, OutOfMemory, ReadFault}
use Rattle.refusals.specs.declared.refusal.Which.{Which}
use Rattle.refusals.specs.declared.refusal.Which.TheVariants.{SheetOctets}
use Rattle.refusals.specs.Limits.{limit_of}
use Rattle.mdb_items.specs.declared.sheet.RawMdb.{RawMdb}
use Rattle.mdb_sheets.specs.Plans.{giving_plan, second_sheet_plan, sheet_plan, sheets_plan, third_sheet_plan}
use Rattle.mdb_sheets.specs.Sheets.{Fields, sheet_of}
use Rattle.outer_traits.specs.Outside.{Files}
use Rattle.ask_answers.specs.Asks.{with_sources}
use Rattle.command_plans.specs.Plan.{Choose, CommandPlan, EachEnd, May, Question, Requires, Return, Stop, Way, and_then, is_interruption, map_done}
use Rattle.command_plans.specs.Sources.{opened_if_there, opening_all_plan}
use Rattle.command_plans.specs.Inputs.{InputRead, IsInputAs, IsThereAs, OverLimit, WithinLimit, after_look, after_reading, input_plan}
use Rattle.command_runs.specs.Command.{HasEffects, Progress, nothing_done}
use Rattle.command_runs.specs.Report.{unopened}
use Rattle.command_laws.specs.Calls.{Call, IsRefusedBy, Prints, WasInterrupted, effects}
use Rattle.command_laws.specs.Links.{AreThere, IsFirstMissing}
use Rattle.command_laws.specs.NamedFiles.{HasFile, HasSheets, IsFirstUnread, IsUnreadFor}
use Rattle.command_laws.proofs.Files.{raw_of_parts}
use Rattle.command_laws.proofs.Runs.{IsEndOf, no_memory, refused, unread_call}
use Rattle.command_laws.proofs.Ways.{due_in_turn, each_in_turn}

-- a file wasn't read, and nothing was done
pub record IsUnread {D : Type 0} (e : Call D) (refusal : Refusal) : Type 0 where
  pub report : e.report ≡ unopened (Some refusal)
  pub silent : Prints e []
  pub disk : e.disk' ≡ e.disk

-- why: there's none of the name, or it is too long; or memory was wanting, or a call failed
abbrev pub IsUnreadCause : Files → Which → List ℕ → Refusal → Type 0
IsUnreadCause files which name refusal = IsUnreadFor files which name refusal ⊎ (is_interruption refusal ≡ true)

-- why one of some files wasn't
abbrev pub IsUnreadAmong : Files → List (Which × List ℕ) → Refusal → Type 0
IsUnreadAmong files named refusal = IsFirstUnread files named refusal ⊎ (is_interruption refusal ≡ true)

-- a refusal that isn't a BadPacket
abbrev pub IsNoBadPacket : Refusal → Type 0
IsNoBadPacket (BadPacket at kind) = ⊥
IsNoBadPacket other = Unit {0}

no_bad_interruption : (refusal : Refusal) → is_interruption refusal ≡ true → IsNoBadPacket refusal
no_bad_interruption (BadPacket at kind) cut = cc (cut)
no_bad_interruption other cut = tt

no_bad_unread : (files : Files) (which : Which) (name : List ℕ) (refusal : Refusal) → IsUnreadFor files which name refusal → IsNoBadPacket refusal
no_bad_unread files which name refusal (inl none) = subst IsNoBadPacket (sym none.1) tt
no_bad_unread files which name refusal (inr long) = subst IsNoBadPacket (sym long.1) tt

pub no_bad_packet : (files : Files) (which : Which) (name : List ℕ) (refusal : Refusal) → IsUnreadCause files which name refusal → IsNoBadPacket refusal
no_bad_packet files which name refusal (inl unread) = no_bad_unread files which name refusal unread
no_bad_packet files which name refusal (inr cut) = no_bad_interruption refusal cut

no_bad_first : (files : Files) (named : List (Which × List ℕ)) (refusal : Refusal) → IsFirstUnread files named refusal → IsNoBadPacket refusal
no_bad_first files [] refusal never = absurd never
no_bad_first files (file ∷ later) refusal (inl unread) = no_bad_unread files file.0 file.1 refusal unread
no_bad_first files (file ∷ later) refusal (inr read) = no_bad_first files later refusal read.2

pub no_bad_among : (files : Files) (named : List (Which × List ℕ)) (refusal : Refusal) → IsUnreadAmong files named refusal → IsNoBadPacket refusal
no_bad_among files named refusal (inl unread) = no_bad_first files named refusal unread
no_bad_among files named refusal (inr cut) = no_bad_interruption refusal cut

-- a refusal that says that there's none of a name, or that one is too long, says it of the one that wasn't read
pub none_there : (files : Files) (which : Which) (name other : List ℕ) → IsUnreadCause files which name (Missing other) → IsNone (get files name)
none_there files which name other (inl (inl none)) = none.0
none_there files which name other (inl (inr long)) = let never = long.1 in absurd (cc (never))
none_there files which name other (inr cut) = absurd (cc (cut))

pub too_long_there : (files : Files) (which other : Which) (name : List ℕ) (number : ℕ) → IsUnreadCause files which name (Limit other number)
    → IsSomeAnd (get files name) (λ octets. limit_of which < length octets)
too_long_there files which other name number (inl (inl none)) = let never = none.1 in absurd (cc (never))
too_long_there files which other name number (inl (inr long)) = long.0
too_long_there files which other name number (inr cut) = absurd (cc (cut))

-- one of some files wasn't: the first, or one behind it
pub at_first : (files : Files) (which : Which) (name : List ℕ) (later : List (Which × List ℕ)) (refusal : Refusal) → IsUnreadCause files which name refusal → IsUnreadAmong files ((which, name) ∷ later) refusal
at_first files which name later refusal (inl unread) = inl (inl unread)
at_first files which name later refusal (inr cut) = inr cut

pub behind_it : (files : Files) (which : Which) (name octets : List ℕ) (later : List (Which × List ℕ)) (refusal : Refusal) → HasFile files which name octets → IsUnreadAmong files later refusal
    → IsUnreadAmong files ((which, name) ∷ later) refusal
behind_it files which name octets later refusal has (inl unread) = inl (inr (octets, has, unread))
behind_it files which name octets later refusal has (inr cut) = inr cut

-- one of some files, or of those behind them, wasn't
first_before : (files : Files) (named later : List (Which × List ℕ)) (refusal : Refusal) → IsFirstUnread files named refusal → IsFirstUnread files (named ++ later) refusal
first_before files [] later refusal never = absurd never
first_before files (file ∷ named) later refusal (inl unread) = inl unread
first_before files (file ∷ named) later refusal (inr (octets, was, unread)) = inr (octets, was, first_before files named later refusal unread)

pub among_all : (files : Files) (named later : List (Which × List ℕ)) (refusal : Refusal) → IsUnreadAmong files named refusal → IsUnreadAmong files (named ++ later) refusal
among_all files named later refusal (inl unread) = inl (first_before files named later refusal unread)
among_all files named later refusal (inr cut) = inr cut

-- one that was read isn't one that wasn't
pub read_or_not : (files : Files) (which : Which) (name octets : List ℕ) (refusal : Refusal) → HasFile files which name octets → IsUnreadFor files which name refusal → ⊥
read_or_not files which name octets refusal has (inl none) = let never : IsNone (Some octets) = subst IsNone has.there none.0 in cc (never)
read_or_not files which name octets refusal has (inr long) =
    let over : limit_of which < length octets = subst (λ (o : Option (List ℕ)). IsSomeAnd o (λ octets. limit_of which < length octets)) has.there long.0 in
    let few = has.short in absurd (omega (arith, over, few))

-- the files of three sheets
abbrev pub sheet_files : List ℕ → List ℕ → List ℕ → List (Which × List ℕ)
sheet_files a b c = (SheetOctets, a) ∷ (SheetOctets, b) ∷ (SheetOctets, c) ∷ []

module _ {D : Type 0} (device : Device D) (e : Call D) (L : Type 0) (files : Files) where
  abbrev Leaves : Way Progress ⊥ → Type 0
  Leaves way = HasEffects device (effects e) way → L

  -- ---- ends

  -- of a reading, and of what follows
  pub each_read : {X : Type 0} (which : Which) (of : List ℕ → X) (name : List ℕ) (sources : ℕ) (next : X → CommandPlan Progress ⊥)
      → ((refusal : Refusal) → IsUnread e refusal → IsUnreadCause files which name refusal → L) → ((octets : List ℕ) → HasFile files which name octets → EachEnd Leaves (next (of octets)))
      → EachEnd Leaves (and_then (map_done nothing_done (input_plan (Some files) which of name sources)) next)
  each_read {X = X} which of name sources next unread then_on = (λ did. unread OutOfMemory (record { report = did.report; silent = did.printed; disk = did.disk }) (inr refl), λ there is. look there is)
    where
      got : (read : InputRead X) → IsInputAs (Some files) which of name read → EachEnd Leaves (and_then (map_done nothing_done (after_reading which (sources + 1) read)) next)
      got OverLimit over = λ did. unread (Limit which (limit_of which)) (record { report = did.report; silent = did.printed; disk = did.disk }) (inl (inr (over, refl)))
      got (WithinLimit x) is = subst (λ (y : X). EachEnd Leaves (next y)) (sym is.3) (then_on is.0 (record { there = is.1; short = is.2 }))

      look : (there : Bool) → IsThereAs (Some files) name there → EachEnd Leaves (and_then (map_done nothing_done (after_look (Some files) which of name sources there)) next)
      look true is = (
        λ did. unread ReadFault (record { report = did.report; silent = did.printed; disk = did.disk }) (inr refl),
        (
          λ did. unread OutOfMemory (record { report = did.report; silent = did.printed; disk = did.disk }) (inr refl),
          (λ did. unread ReadFault (record { report = did.report; silent = did.printed; disk = did.disk }) (inr refl), λ read h. got read h),
        ),
      )
      look false none = λ did. unread (Missing name) (record { report = did.report; silent = did.printed; disk = did.disk }) (inl (inl (none, refl)))

  -- of inputs that are opened together
  pub each_opened : (names : List (List ℕ)) (sources : ℕ) (next : Unit {0} → CommandPlan Progress ⊥)
      → ((refusal : Refusal) → IsUnread e refusal → IsFirstMissing files names refusal ⊎ (is_interruption refusal ≡ true) → L) → (AreThere files names → EachEnd Leaves (next tt))
      → EachEnd Leaves (and_then (map_done nothing_done (opening_all_plan (Some files) names sources)) next)
  each_opened [] sources next unread then_on = then_on tt
  each_opened (name ∷ names) sources next unread then_on = (
    λ did. unread OutOfMemory (record { report = did.report; silent = did.printed; disk = did.disk }) (inr refl),
    λ there is. look there is (λ some. each_opened names (sources + 1) next (later some) (λ all. then_on (some, all))),
  )
    where
      later : IsSome (get files name) → (refusal : Refusal) → IsUnread e refusal → IsFirstMissing files names refusal ⊎ (is_interruption refusal ≡ true) → L
      later there refusal is (inl missing) = unread refusal is (inl (inr (there, missing)))
      later there refusal is (inr off) = unread refusal is (inr off)

      look : (there : Bool) → IsThereAs (Some files) name there
          → (IsSome (get files name) → EachEnd Leaves (and_then (map_done nothing_done (opening_all_plan (Some files) names (sources + 1))) next))
          → EachEnd Leaves (and_then (map_done nothing_done (opened_if_there name sources (opening_all_plan (Some files) names (sources + 1)) there)) next)
      look true is others = (λ did. unread ReadFault (record { report = did.report; silent = did.printed; disk = did.disk }) (inr refl), others is)
      look false none others = λ did. unread (Missing name) (record { report = did.report; silent = did.printed; disk = did.disk }) (inl (inl (none, refl)))

  -- of a plan whose sources are counted behind others
  pub each_behind : {X : Type 0} (n : ℕ) (p : CommandPlan Progress X) → EachEnd Leaves p → EachEnd Leaves (map_done (with_sources n) p)
  each_behind n (Return x) d = tt
  each_behind n (Stop s refusal) d = λ did. d (record { report = did.report; printed = did.printed; output = did.output; disk = did.disk; log = did.log; pending = did.pending })
  each_behind n (May fault s p) d = (λ did. d.0 (record { report = did.report; printed = did.printed; output = did.output; disk = did.disk; log = did.log; pending = did.pending }), each_behind n p d.1)
  each_behind n (Question is next) d = λ a h. each_behind n (next a) (d a h)
  each_behind n (Choose is next) d = λ a h. each_behind n (next a) (d a h)

  -- of the readings of three sheets
  pub each_sheets : (a b c : List ℕ) (sources : ℕ) (next : RawMdb → CommandPlan Progress ⊥) → ((refusal : Refusal) → IsUnread e refusal → IsUnreadAmong files (sheet_files a b c) refusal → L)
      → ((raw : RawMdb) → HasSheets files a b c raw → EachEnd Leaves (next raw)) → EachEnd Leaves (and_then (map_done nothing_done (sheets_plan (Some files) a b c sources)) next)
  each_sheets a b c sources next unread then_on =
      each_in_turn nothing_done Leaves (sheet_plan (Some files) a sources) (second_sheet_plan (Some files) b c (sources + 1)) next
      (each_read SheetOctets (λ octets. sheet_of octets) a sources (λ first. and_then (map_done nothing_done (second_sheet_plan (Some files) b c (sources + 1) first)) next) (λ refusal is cause. unread refusal is (at_first files SheetOctets a ((SheetOctets, b) ∷ (SheetOctets, c) ∷ []) refusal cause))
      (λ first has_first. each_in_turn nothing_done Leaves (sheet_plan (Some files) b (sources + 1)) (third_sheet_plan (Some files) c (sheet_of first) (sources + 1 + 1)) next
      (each_read SheetOctets (λ octets. sheet_of octets) b (sources + 1) (λ second. and_then (map_done nothing_done (third_sheet_plan (Some files) c (sheet_of first) (sources + 1 + 1) second)) next)
      (λ refusal is cause. unread refusal is (behind_it files SheetOctets a first ((SheetOctets, b) ∷ (SheetOctets, c) ∷ []) refusal has_first (at_first files SheetOctets b ((SheetOctets, c) ∷ []) refusal cause)))
      (λ second has_second. each_in_turn nothing_done Leaves (sheet_plan (Some files) c (sources + 1 + 1)) (giving_plan (sheet_of first) (sheet_of second)) next
      (each_read SheetOctets (λ octets. sheet_of octets) c (sources + 1 + 1) (λ third. and_then (map_done nothing_done (giving_plan (sheet_of first) (sheet_of second) third)) next)
      (λ refusal is cause. unread refusal is (behind_it files SheetOctets a first ((SheetOctets, b) ∷ (SheetOctets, c) ∷ []) refusal has_first
      (behind_it files SheetOctets b second ((SheetOctets, c) ∷ []) refusal has_second (at_first files SheetOctets c [] refusal cause))))
      (λ third has_third. then_on (record { parameters = sheet_of first; calibrations = sheet_of second; containers = sheet_of third }) (record {
        first = record { octets = first; file = has_first; records_are = refl };
        second = record { octets = second; file = has_second; records_are = refl };
        third = record { octets = third; file = has_third; records_are = refl };
      })))))))

-- ---- what is due

module _ {D : Type 0} {device : Device D} (e : Call D) (files : Files) (way : Way Progress ⊥) (at : IsEndOf device e way) where
  module _ {X : Type 0} (done : ℕ → Progress) (which : Which) (of : List ℕ → X) (name : List ℕ) (sources : ℕ) (next : X → CommandPlan Progress ⊥) where
    abbrev Reads : Type 0
    Reads = Requires (and_then (map_done done (input_plan (Some files) which of name sources)) next) way

    read_of : (read : InputRead X) → IsInputAs (Some files) which of name read → IsSome (get files name) → Reads
        → Requires (and_then (map_done done (after_reading which (sources + 1) read)) next) way ⊎ WasInterrupted device e
    read_of read is there (inl cut) = inr (no_memory e way at _ cut)
    read_of read is there (inr asked) = look (asked true there)
      where
        look : Requires (and_then (map_done done (after_look (Some files) which of name sources true)) next) way
            → Requires (and_then (map_done done (after_reading which (sources + 1) read)) next) way ⊎ WasInterrupted device e
        look (inl cut) = inr (unread_call e way at _ cut)
        look (inr (inl cut)) = inr (no_memory e way at _ cut)
        look (inr (inr (inl cut))) = inr (unread_call e way at _ cut)
        look (inr (inr (inr asked))) = inl (asked read is)

    -- a file that is there, within its limit, is read
    pub read_due : (octets : List ℕ) → HasFile files which name octets → Reads → Requires (next (of octets)) way ⊎ WasInterrupted device e
    read_due octets has required = read_of (WithinLimit (of octets)) (octets, has.there, has.short, refl) (subst IsSome (sym has.there) refl) required

    -- one that isn't there is missing
    pub missing_due : IsNone (get files name) → Reads → IsRefusedBy device e (Missing name)
    missing_due none (inl cut) = inr (no_memory e way at _ cut)
    missing_due none (inr asked) = refused e way at _ (Missing name) (asked false none)

    -- and one that is longer is refused by the limit
    pub long_due : IsSomeAnd (get files name) (λ octets. limit_of which < length octets) → Reads → IsRefusedBy device e (Limit which (limit_of which))
    long_due long required = go (read_of OverLimit long (there (get files name) long) required)
      where
        there : (o : Option (List ℕ)) → IsSomeAnd o (λ octets. limit_of which < length octets) → IsSome o
        there None over = absurd over
        there (Some octets) over = refl

        go : Requires (and_then (map_done done (after_reading which (sources + 1) OverLimit)) next) way ⊎ WasInterrupted device e → IsRefusedBy device e (Limit which (limit_of which))
        go (inl is) = refused e way at _ (Limit which (limit_of which)) is
        go (inr cut) = inr cut

    -- so one of both is refused
    pub unread_due : (refusal : Refusal) → IsUnreadFor files which name refusal → Reads → IsRefusedBy device e refusal
    unread_due refusal (inl none) required = subst (IsRefusedBy device e) (sym none.1) (missing_due none.0 required)
    unread_due refusal (inr long) required = subst (IsRefusedBy device e) (sym long.1) (long_due long.0 required)

  -- inputs that are opened together, if they are there; else the first that isn't is missing
  module _ (done : ℕ → Progress) (next : Unit {0} → CommandPlan Progress ⊥) where
    abbrev Opens : List (List ℕ) → ℕ → Type 0
    Opens names sources = Requires (and_then (map_done done (opening_all_plan (Some files) names sources)) next) way

    -- a name was found, and is opened
    next_opened : (name : List ℕ) (names : List (List ℕ)) (sources : ℕ) → Requires (and_then (map_done done (opened_if_there name sources (opening_all_plan (Some files) names (sources + 1)) true)) next) way
        → Opens names (sources + 1) ⊎ WasInterrupted device e
    next_opened name names sources (inl cut) = inr (unread_call e way at _ cut)
    next_opened name names sources (inr d) = inl d

    pub opened_due : (names : List (List ℕ)) (sources : ℕ) → AreThere files names → Opens names sources → Requires (next tt) way ⊎ WasInterrupted device e
    opened_due [] sources there d = inl d
    opened_due (name ∷ names) sources there (inl cut) = inr (no_memory e way at _ cut)
    opened_due (name ∷ names) sources there (inr asked) = elim (next_opened name names sources (asked true there.0)) [
      | inl d ↦ opened_due names (sources + 1) there.1 d
      | inr cut ↦ inr cut
    ]

    pub first_missing_due : (names : List (List ℕ)) (sources : ℕ) (refusal : Refusal) → IsFirstMissing files names refusal → Opens names sources → IsRefusedBy device e refusal
    first_missing_due [] sources refusal never d = absurd never
    first_missing_due (name ∷ names) sources refusal missing (inl cut) = inr (no_memory e way at _ cut)
    first_missing_due (name ∷ names) sources refusal (inl none) (inr asked) = subst (IsRefusedBy device e) (sym none.1) (refused e way at _ (Missing name) (asked false none.0))
    first_missing_due (name ∷ names) sources refusal (inr later) (inr asked) = elim (next_opened name names sources (asked true later.0)) [
      | inl d ↦ first_missing_due names (sources + 1) refusal later.1 d
      | inr cut ↦ inr cut
    ]

  module _ (a b c : List ℕ) (sources : ℕ) (next : RawMdb → CommandPlan Progress ⊥) where
    abbrev behind_first : List Fields → CommandPlan Progress ⊥
    behind_first first = and_then (map_done nothing_done (second_sheet_plan (Some files) b c (sources + 1) first)) next

    abbrev behind_second : List Fields → List Fields → CommandPlan Progress ⊥
    behind_second first second = and_then (map_done nothing_done (third_sheet_plan (Some files) c first (sources + 1 + 1) second)) next

    abbrev behind_third : List Fields → List Fields → List Fields → CommandPlan Progress ⊥
    behind_third first second third = and_then (map_done nothing_done (giving_plan first second third)) next

    module _ (raw : RawMdb) (has : HasSheets files a b c raw) where
      abbrev Due : Type 0
      Due = Requires (next raw) way ⊎ WasInterrupted device e

      three : Requires (behind_third (sheet_of has.first.octets) (sheet_of has.second.octets) (sheet_of has.third.octets)) way ⊎ WasInterrupted device e → Due
      three (inl d) = inl (subst (λ (r : RawMdb). Requires (next r) way)
          (sym (raw_of_parts raw (record { parameters = sheet_of has.first.octets; calibrations = sheet_of has.second.octets; containers = sheet_of has.third.octets })
          has.first.records_are has.second.records_are has.third.records_are)) d)
      three (inr cut) = inr cut

      two : Requires (behind_second (sheet_of has.first.octets) (sheet_of has.second.octets)) way ⊎ WasInterrupted device e → Due
      two (inl d) = three (read_due nothing_done SheetOctets (λ octets. sheet_of octets) c (sources + 1 + 1) (behind_third (sheet_of has.first.octets) (sheet_of has.second.octets)) has.third.octets has.third.file
          (due_in_turn nothing_done (sheet_plan (Some files) c (sources + 1 + 1)) (giving_plan (sheet_of has.first.octets) (sheet_of has.second.octets)) next way d))
      two (inr cut) = inr cut

      one : Requires (behind_first (sheet_of has.first.octets)) way ⊎ WasInterrupted device e → Due
      one (inl d) = two (read_due nothing_done SheetOctets (λ octets. sheet_of octets) b (sources + 1) (behind_second (sheet_of has.first.octets)) has.second.octets has.second.file
          (due_in_turn nothing_done (sheet_plan (Some files) b (sources + 1)) (third_sheet_plan (Some files) c (sheet_of has.first.octets) (sources + 1 + 1)) next way d))
      one (inr cut) = inr cut

      -- three sheets are read
      pub sheets_due : Requires (and_then (map_done nothing_done (sheets_plan (Some files) a b c sources)) next) way → Requires (next raw) way ⊎ WasInterrupted device e
      sheets_due required = one (read_due nothing_done SheetOctets (λ octets. sheet_of octets) a sources behind_first has.first.octets has.first.file
          (due_in_turn nothing_done (sheet_plan (Some files) a sources) (second_sheet_plan (Some files) b c (sources + 1)) next way required))

    -- of three sheets and more files the first that isn't read is refused; else the sheets are, and it is among the others
    module _ (more : List (Which × List ℕ)) (refusal : Refusal) (required : Requires (and_then (map_done nothing_done (sheets_plan (Some files) a b c sources)) next) way) where
      abbrev Among : Type 0
      Among = IsRefusedBy device e refusal ⊎ ((raw : RawMdb) × HasSheets files a b c raw × IsFirstUnread files more refusal)

      due_first : Requires (and_then (map_done nothing_done (sheet_plan (Some files) a sources)) behind_first) way
      due_first = due_in_turn nothing_done (sheet_plan (Some files) a sources) (second_sheet_plan (Some files) b c (sources + 1)) next way required

      second_due : (first : List ℕ) → HasFile files SheetOctets a first → Requires (and_then (map_done nothing_done (sheet_plan (Some files) b (sources + 1))) (behind_second (sheet_of first))) way ⊎ WasInterrupted device e
      second_due first has = elim (read_due nothing_done SheetOctets (λ octets. sheet_of octets) a sources behind_first first has due_first) [
        | inl read ↦ inl (due_in_turn nothing_done (sheet_plan (Some files) b (sources + 1)) (third_sheet_plan (Some files) c (sheet_of first) (sources + 1 + 1)) next way read)
        | inr cut ↦ inr cut
      ]

      third_due : (first second : List ℕ) → HasFile files SheetOctets a first → HasFile files SheetOctets b second
          → Requires (and_then (map_done nothing_done (sheet_plan (Some files) c (sources + 1 + 1))) (behind_third (sheet_of first) (sheet_of second))) way ⊎ WasInterrupted device e
      third_due first second has also = elim (second_due first has) [
        | inl d ↦ elim (read_due nothing_done SheetOctets (λ octets. sheet_of octets) b (sources + 1) (behind_second (sheet_of first)) second also d) [
          | inl read ↦ inl (due_in_turn nothing_done (sheet_plan (Some files) c (sources + 1 + 1)) (giving_plan (sheet_of first) (sheet_of second)) next way read)
          | inr cut ↦ inr cut
        ]
        | inr cut ↦ inr cut
      ]

      pub sheets_unread : IsFirstUnread files ((SheetOctets, a) ∷ (SheetOctets, b) ∷ (SheetOctets, c) ∷ more) refusal → Among
      sheets_unread (inl unread) = inl (unread_due nothing_done SheetOctets (λ octets. sheet_of octets) a sources behind_first refusal unread due_first)
      sheets_unread (inr (first, has, inl unread)) = elim (second_due first has) [
        | inl d ↦ inl (unread_due nothing_done SheetOctets (λ octets. sheet_of octets) b (sources + 1) (behind_second (sheet_of first)) refusal unread d)
        | inr cut ↦ inl (inr cut)
      ]
      sheets_unread (inr (first, has, inr (second, also, inl unread))) = elim (third_due first second has also) [
        | inl d ↦ inl (unread_due nothing_done SheetOctets (λ octets. sheet_of octets) c (sources + 1 + 1) (behind_third (sheet_of first) (sheet_of second)) refusal unread d)
        | inr cut ↦ inl (inr cut)
      ]
      sheets_unread (inr (first, has, inr (second, also, inr (third, too, others)))) = inr (
        record { parameters = sheet_of first; calibrations = sheet_of second; containers = sheet_of third },
        record {
          first = record { octets = first; file = has; records_are = refl };
          second = record { octets = second; file = also; records_are = refl };
          third = record { octets = third; file = too; records_are = refl };
        },
        others,
      )
