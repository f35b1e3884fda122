-- The clause of `load`.
use Rattle.std.proofs.Common.{◌≡◌, ◌⊎◌, ◌∙◌, inl, inr, ℕ, ℤ, zero, suc, ◌+◌, ◌<◌, ◌≤◌, List, [], ◌∷◌, ◌++◌, length, get_or, Bool, true, false, Option, Some, None, refl, sym, ap, subst, arith, append_assoc, length-append}
use Rattle.std.specs.Prelude.{IsSome, IsSomeAnd, nat_lt, slice_get, if◌then◌else◌}
use Rattle.std.specs.List.{concat}
use mathlib.Core.List.{IsPrefix}
use Rattle.std.specs.FinMap.{get}
use Rattle.std.proofs.Math.ListN.{get_or-append}
use Rattle.std.proofs.lemmas.Bool.{lt-ltb}
use Rattle.std.proofs.lemmas.Bool.Decides.{nat_tests}
use Rattle.arch_disk.specs.Disk.{Device}
use Rattle.arch_types.specs.Dump.{BeginsWithNoPacket, IsDump}
use Rattle.arch_types.proofs.Dumps.{dump_is_one}
use Rattle.refusals.specs.declared.refusal.BadKind.{BadKind}
use Rattle.refusals.specs.declared.refusal.BadKind.TheVariants as bad
use Rattle.refusals.specs.declared.refusal.BadKind.TheVariants.{Version}
use Rattle.refusals.specs.declared.refusal.Refusal.{Refusal}
use Rattle.refusals.specs.declared.refusal.Refusal.TheVariants.{BadPacket, Limit}
use Rattle.refusals.specs.declared.refusal.Which.TheVariants.{DumpOctets}
use Rattle.refusals.specs.Limits.{limit_of}
use Rattle.outer_traits.specs.Outside.{Files}
use Rattle.space_packet.specs.declared.dump.Why.TheVariants as why
use Rattle.space_packet.specs.Rest.{why_of}
use Rattle.archive_store.specs.Entries.{FilledArchive}
use Rattle.history_items.specs.declared.items.Item.{Item}
use Rattle.live_asks.specs.LiveAsks.{DiskFacts, disk_facts}
use Rattle.live_session.specs.Outcome.{JobsOutcome}
use Rattle.command_plans.specs.Plan.{Requires, Way}
use Rattle.command_words.specs.Job.{Load, LoadWords}
use Rattle.command_words.specs.LoadLimits.{load_limit_refusal}
use Rattle.command_runs.specs.DumpRest.{IsBadRest, bad_kind_of}
use Rattle.command_runs.proofs.DumpRest.{bad_ending}
use Rattle.command_runs.specs.Command.{Progress, nothing_done}
use Rattle.load_command.specs.Load.{after_limits, load_plan, read_load_plan}
use Rattle.command_laws.specs.Calls.{Call, IsNoArchive, IsRefusedBy, IsRun, Prints, Succeeded, WasInterrupted}
use Rattle.command_laws.specs.Links.{AreThere, AreWholeBefore, CameWhole, ComesBy, HasDump, HasRead, IsLongDump, IsWholeDump}
use Rattle.command_laws.specs.Load.{IsAsked, IsBroken, IsLoadedOrNot, IsOverlong, WasHindered, WasOverLimit, WasPending, load_given}
use Rattle.command_laws.specs.NamedFiles.{HasFile}
use Rattle.command_laws.proofs.Files.{one_content}
use Rattle.command_laws.proofs.FirstRefused.{Earlier, none_reported}
use Rattle.command_laws.proofs.JobsLoaded.{CameToJobs, comes_of, comes_once}
use Rattle.command_laws.proofs.LoadDue.{AreReportedSo, absent_due, lacking_due, refused_due, session_due, unread_files_due}
use Rattle.command_laws.proofs.LoadOnly.{only_reported}
use Rattle.command_laws.proofs.Loaded.{IsLeft, left_by}
use Rattle.command_laws.proofs.Readings.{read_or_not}
use Rattle.command_laws.proofs.Runs.{IsEndOf, archive_there, by_due, refused}

-- ---- dumps that are in order aren't those that aren't

has_not_long : (files : Files) (name dump : List ℕ) → HasFile files DumpOctets name dump → IsLongDump files name → ⊥
has_not_long files name dump has long = read_or_not files DumpOctets name dump (Limit DumpOctets (limit_of DumpOctets)) has (inr (long, refl))

same_rest : (files : Files) (a b : List ℕ) → a ≡ b → (ps qs : List (List ℕ)) (r s : List ℕ) (one : HasDump files a ps r) (other : HasDump files b qs s) → (one.dump ≡ other.dump) × (r ≡ s)
same_rest files a b same ps qs r s one other =
    let dump = one_content (get files b) one.dump other.dump (subst (λ (n : List ℕ). get files n ≡ Some one.dump) same one.file.there) other.file.there in
    (dump, (dump_is_one one.dump ps qs r s one.parts (subst (λ (d : List ℕ). IsDump d qs s) (sym dump) other.parts)).1)

none_is_bad : (dump rest : List ℕ) (place : ℕ) (kind : BadKind) → rest ≡ [] → IsBadRest dump rest place kind → ⊥
none_is_bad dump [] place kind none bad = bad
none_is_bad dump (octet ∷ rest) place kind none bad = cc (none)

whole_not_bad : (files : Files) (name : List ℕ) (packets : List (List ℕ)) (rest : List ℕ) (place : ℕ) (kind : BadKind) → IsWholeDump files name → (has : HasDump files name packets rest) → IsBadRest has.dump rest place kind → ⊥
whole_not_bad files name packets rest place kind whole has bad =
    none_is_bad has.dump rest place kind (sym (same_rest files name name refl whole.0 packets [] rest whole.1 has).1) bad

pub whole_not_long : (files : Files) (name : List ℕ) → IsWholeDump files name → IsLongDump files name → ⊥
whole_not_long files name whole long = has_not_long files name whole.1.dump whole.1.file long

-- a rest is reported in one way
one_ending : (files : Files) (a b : List ℕ) → a ≡ b → (ps qs : List (List ℕ)) (r s : List ℕ) (at place : ℕ) (how kind : BadKind) (one : HasDump files a ps r) (other : HasDump files b qs s) → IsBadRest one.dump r at how
    → IsBadRest other.dump s place kind → (at ≡ place) × (how ≡ kind)
one_ending files a b names ps qs r s at place how kind one other first second =
    let same = same_rest files a b names ps qs r s one other in
    let moved : IsBadRest one.dump r place kind = subst (λ (x : List ℕ). IsBadRest one.dump x place kind) (sym same.1) (subst (λ (d : List ℕ). IsBadRest d s place kind) (sym same.0) second) in
    let reported : ◌≡◌ {A = Option Refusal} (Some (BadPacket at how)) (Some (BadPacket place kind)) = bad_ending one.dump r at how first ∙ sym (bad_ending one.dump r place kind moved) in
    let where_is : at ≡ place = cc (reported) in
    let kind_is : how ≡ kind = cc (reported) in (where_is, kind_is)

-- where another packet version number stands, no packet begins
version_begins : (rest more : List ℕ) → why_of rest ≡ why.Version → BeginsWithNoPacket (rest ++ more)
version_begins [] more version = absurd (cc version)
version_begins (octet ∷ rest) more version = λ packet behind is e.
    let header = is.header in
    let low = is.version in
    let first : octet ≡ get_or packet 0 0 = ap (λ (l : List ℕ). get_or l 0 0) e ∙ get_or-append packet behind 0 0 (omega (arith, header)) in
    absurd (high (nat_lt octet 32) version (lt-ltb octet 32 (omega (arith, first, low))))
  where
    high : (b : Bool) → (if b then why.Truncated else why.Version) ≡ why.Version → b ≡ true → ⊥
    high true e is = cc e
    high false e is = cc is

-- a front's rest that is bad is the dump's
version_kind : (octet : ℕ) → bad.Version ≡ bad_kind_of octet → why_of (octet ∷ []) ≡ why.Version
version_kind octet is = go (nat_lt octet 32) is
  where
    go : (b : Bool) → bad.Version ≡ (if b then bad.Truncated else bad.Version) → (if b then why.Truncated else why.Version) ≡ why.Version
    go true is = absurd (cc is)
    go false is = refl

front_is_bad : (dump read : List ℕ) (ps : List (List ℕ)) (r : List ℕ) (at : ℕ) (kind : BadKind) → IsPrefix read dump → (kind ≡ bad.Truncated → dump ≡ read) → IsDump read ps r → IsBadRest read r at kind
    → (rest : List ℕ) × IsDump dump ps rest × IsBadRest dump rest at kind
front_is_bad dump read ps r at bad.Truncated begins whole parts is =
    (r, subst (λ (d : List ℕ). IsDump d ps r) (sym (whole refl)) parts, subst (λ (d : List ℕ). IsBadRest d r at bad.Truncated) (sym (whole refl)) is)
front_is_bad dump read ps [] at bad.Version begins whole parts is = absurd is
front_is_bad dump read ps (octet ∷ r) at bad.Version begins whole parts is =
    let place = is.0 in
    let long = ap length begins.1 in
    let both = length-append read begins.0 in
    let more = length-append r begins.0 in (
      (octet ∷ r) ++ begins.0,
      record {
        joined = sym begins.1 ∙ ap (λ (l : List ℕ). l ++ begins.0) parts.joined ∙ append_assoc (concat ps) (octet ∷ r) begins.0;
        each = parts.each;
        no_more = version_begins (octet ∷ r) begins.0 (version_kind octet is.1);
      },
      (omega (arith, place, long, both, more), is.1),
    )

-- what was read of the dump of a name, to where its rest is bad, by what the dump is
read_has : (files : Files) (name : List ℕ) (ps : List (List ℕ)) (r : List ℕ) (at : ℕ) (kind : BadKind) (dump : List ℕ) → HasFile files DumpOctets name dump → (has : HasRead files name ps r)
    → (kind ≡ bad.Truncated → get files name ≡ Some has.read) → IsBadRest has.read r at kind → (rest : List ℕ) × (whole : HasDump files name ps rest) × IsBadRest whole.dump rest at kind
read_has files name ps r at kind dump file has to_end is =
    let begins : IsPrefix has.read dump = subst (λ (o : Option (List ℕ)). IsSomeAnd o (IsPrefix has.read)) file.there has.front in
    let e = front_is_bad dump has.read ps r at kind begins (λ cut. one_content (get files name) dump has.read file.there (to_end cut)) has.parts is in
    (e.0, record { dump = dump; file = file; parts = e.1 }, e.2)

pub read_not_bad : (files : Files) (name : List ℕ) (ps : List (List ℕ)) (r : List ℕ) (at : ℕ) (kind : BadKind) → IsWholeDump files name → (has : HasRead files name ps r)
    → (kind ≡ bad.Truncated → get files name ≡ Some has.read) → IsBadRest has.read r at kind → ⊥
read_not_bad files name ps r at kind whole has to_end is =
    let e = read_has files name ps r at kind whole.1.dump whole.1.file has to_end is in
    whole_not_bad files name ps e.0 at kind whole e.1 e.2

-- ---- numbers

compare : (n m : ℕ) → (n < m) ⊎ ((n ≡ m) ⊎ (m < n))
compare n m = first (nat_lt n m) refl
  where
    second : (b : Bool) → nat_lt m n ≡ b → m ≤ n → (n < m) ⊎ ((n ≡ m) ⊎ (m < n))
    second true is most = inr (inr (grind (arith, nat_tests, is)))
    second false is most = let other : n ≤ m = grind (arith, nat_tests, is) in inr (inl (omega (arith, most, other)))

    first : (b : Bool) → nat_lt n m ≡ b → (n < m) ⊎ ((n ≡ m) ⊎ (m < n))
    first true is = inl (grind (arith, nat_tests, is))
    first false is = let most : m ≤ n = grind (arith, nat_tests, is) in second (nat_lt m n) refl most

-- ---- dumps of words

from_names : (files : Files) (names : List (List ℕ)) → ((place : ℕ) (name : List ℕ) → slice_get names place ≡ Some name → IsSome (get files name)) → AreThere files names
from_names files [] each = tt
from_names files (name ∷ names) each = (each zero name refl, from_names files names (λ place n is. each (suc place) n is))

all_there : (files : Files) (words : LoadWords) → ((link : ℕ) (name : List ℕ) → ComesBy words link name → IsWholeDump files name) → AreThere files words.dumps
all_there files words whole = from_names files words.dumps (λ place name is.
    let dump = whole (words.link + place) name (record { place = place; number = refl; name_is = is }) in subst IsSome (sym dump.1.file.there) refl)

module _ {D : Type 0} (device : Device D) (e : Call D) (files : Files) (clock : Option ℤ) (words : LoadWords) where
  abbrev facts : ℕ → DiskFacts
  facts = disk_facts device e.disk

  -- ---- what the jobs came to

  module _ (before : FilledArchive) (ready : IsAsked device e files words before) (c : JobsOutcome) (sealed : ℕ) (came : CameToJobs files clock words before (facts sealed) ready.asks c) where
    -- the dump of a link that came whole is whole
    came_dump : (moment : ℤ) (reached : List Item) (link : ℕ) (name : List ℕ) → CameWhole files moment words before reached link → ComesBy words link name → IsWholeDump files name
    came_dump moment reached link name whole comes =
        let own = whole.1 in
        let same = comes_once words link own.0.name name own.0.comes comes in (
          whole.0.packets,
          subst (λ (r : List ℕ). HasDump files name whole.0.packets r) whole.2.0 (subst (λ (n : List ℕ). HasDump files n whole.0.packets whole.0.rest) same own.1),
        )

    abbrev Hindered : Type 0
    Hindered = WasHindered device e files clock words before

    hindered : WasPending device e ⊎ WasOverLimit device e files clock words before → Hindered
    hindered why = inr why

    -- ---- all dumps are whole

    complete_so : ((link : ℕ) (name : List ℕ) → ComesBy words link name → IsWholeDump files name) → AreReportedSo device e files clock words before ready.asks c sealed came → Succeeded e ⊎ Hindered
    complete_so whole (inl none) = none.1
    complete_so whole (inr (t, said, cause, cut)) = elim cause [
      | inl broken ↦
          let bad = broken.3 in
          absurd (read_not_bad files bad.received.name bad.d.packets bad.d.rest broken.1 broken.2 (whole broken.0 bad.received.name bad.received.comes) bad.received.has bad.to_end bad.bad)
      | inr others ↦ elim others [
        | inl overlong ↦ let long = overlong.1 in absurd (whole_not_long files long.received.name (whole overlong.0 long.received.name long.received.comes) long.long)
        | inr cut_or ↦ elim cut_or [
          | inl is_cut ↦ inr (inl (cut is_cut))
          | inr why ↦ inr (hindered why.1)
        ]
      ]
    ]

    -- ---- the dump of a link isn't, and those before it are

    module _ (link : ℕ) (name : List ℕ) (comes : ComesBy words link name) (whole : AreWholeBefore files words link) where
      reported_all : Earlier files clock words before (facts sealed) ready.asks c came (words.link + length words.dumps) → IsWholeDump files name
      reported_all all = let number = comes_of words link name comes in came_dump _ c.reached link name (all link number.0 number.1) comes

      comes_to : (other : ℕ) → other ≡ link → ComesBy words other name
      comes_to other same = subst (λ (n : ℕ). ComesBy words n name) (sym same) comes

      low : words.link ≤ link
      low = (comes_of words link name comes).0

      -- the one that is reported comes by no other link
      module _ (NotWhole : IsWholeDump files name → ⊥) where
        broken_here : (other place : ℕ) (kind : BadKind) → IsBroken device e (load_given files clock words before) other place kind → other ≡ link
        broken_here other place kind bad = elim (compare other link) [
          | inl below ↦ absurd (read_not_bad files bad.received.name bad.d.packets bad.d.rest place kind (whole other bad.received.name bad.received.comes below) bad.received.has bad.to_end bad.bad)
          | inr more ↦ elim more [
            | inl same ↦ same
            | inr above ↦ absurd (NotWhole (came_dump bad.reported.moment bad.reported.reached link name (bad.reported.earlier link low above) comes))
          ]
        ]

        overlong_here : (other : ℕ) → IsOverlong device e (load_given files clock words before) other → other ≡ link
        overlong_here other long = elim (compare other link) [
          | inl below ↦ absurd (whole_not_long files long.received.name (whole other long.received.name long.received.comes below) long.long)
          | inr more ↦ elim more [
            | inl same ↦ same
            | inr above ↦ absurd (NotWhole (came_dump long.reported.moment long.reported.reached link name (long.reported.earlier link low above) comes))
          ]
        ]

      -- it is too long

      abbrev OverlongDue : Type 0
      OverlongDue = IsOverlong device e (load_given files clock words before) link ⊎ (((at : ℕ) × IsBroken device e (load_given files clock words before) link at Version) ⊎ Hindered)

      -- its last packet isn't cut off within the limit
      version_only : IsLongDump files name → (place : ℕ) (kind : BadKind) → IsBroken device e (load_given files clock words before) link place kind → (at : ℕ) × IsBroken device e (load_given files clock words before) link at Version
      version_only long place bad.Version is = (place, is)
      version_only long place bad.Truncated is =
          let same = comes_once words link is.received.name name is.received.comes comes in
          let file : HasFile files DumpOctets name is.received.has.read = subst (λ (n : List ℕ). HasFile files DumpOctets n is.received.has.read) same (record { there = is.to_end refl; short = is.received.has.short }) in
          absurd (has_not_long files name is.received.has.read file long)

      overlong_so : IsLongDump files name → AreReportedSo device e files clock words before ready.asks c sealed came → OverlongDue
      overlong_so long (inl none) = absurd (whole_not_long files name (reported_all (none_reported files clock words before (facts sealed) ready.asks c came none.0)) long)
      overlong_so long (inr (t, said, cause, cut)) = elim cause [
        | inl broken ↦
            let bad = broken.3 in
            let here = broken_here (λ is_whole. whole_not_long files name is_whole long) broken.0 broken.1 broken.2 bad in
            inr (inl (version_only long broken.1 broken.2 (subst (λ (n : ℕ). IsBroken device e (load_given files clock words before) n broken.1 broken.2) here bad)))
        | inr others ↦ elim others [
          | inl overlong ↦ inl (subst (IsOverlong device e (load_given files clock words before)) (overlong_here (λ is_whole. whole_not_long files name is_whole long) overlong.0 overlong.1) overlong.1)
          | inr cut_or ↦ elim cut_or [
            | inl is_cut ↦ inr (inr (inl (cut is_cut)))
            | inr why ↦ inr (inr (hindered why.1))
          ]
        ]
      ]

      -- or it has a rest

      module _ (packets : List (List ℕ)) (rest : List ℕ) (has : HasDump files name packets rest) (place : ℕ) (kind : BadKind) (bad : IsBadRest has.dump rest place kind) where
        not_whole : IsWholeDump files name → ⊥
        not_whole is_whole = whole_not_bad files name packets rest place kind is_whole has bad

        broken_same : (other at : ℕ) (how : BadKind) → IsBroken device e (load_given files clock words before) other at how → IsBroken device e (load_given files clock words before) link place kind
        broken_same other at how is =
            let here = broken_here not_whole other at how is in
            let same = comes_once words other is.received.name name is.received.comes (comes_to other here) in
            let file : HasFile files DumpOctets is.received.name has.dump = subst (λ (n : List ℕ). HasFile files DumpOctets n has.dump) (sym same) has.file in
            let all = read_has files is.received.name is.d.packets is.d.rest at how has.dump file is.received.has is.to_end is.bad in
            let ending = one_ending files is.received.name name same is.d.packets packets all.0 rest at place how kind all.1 has all.2 bad in
            subst (λ (n : ℕ). IsBroken device e (load_given files clock words before) n place kind) here
            (subst (λ (k : BadKind). IsBroken device e (load_given files clock words before) other place k) ending.1 (subst (λ (n : ℕ). IsBroken device e (load_given files clock words before) other n how) ending.0 is))

        broken_so : AreReportedSo device e files clock words before ready.asks c sealed came → IsBroken device e (load_given files clock words before) link place kind ⊎ Hindered
        broken_so (inl none) = absurd (not_whole (reported_all (none_reported files clock words before (facts sealed) ready.asks c came none.0)))
        broken_so (inr (t, said, cause, cut)) = elim cause [
          | inl broken ↦ inl (broken_same broken.0 broken.1 broken.2 broken.3)
          | inr others ↦ elim others [
            | inl overlong ↦
                let long = overlong.1 in
                let here = overlong_here not_whole overlong.0 long in
                let same = comes_once words overlong.0 long.received.name name long.received.comes (comes_to overlong.0 here) in
                absurd (has_not_long files name has.dump has.file (subst (IsLongDump files) same long.long))
            | inr cut_or ↦ elim cut_or [
              | inl is_cut ↦ inr (inl (cut is_cut))
              | inr why ↦ inr (hindered why.1)
            ]
          ]
        ]

-- ---- the clause

module _ {D : Type 0} (device : Device D) (e : Call D) (files : Files) (clock : Option ℤ) (words : LoadWords) (run : IsRun device e files clock (Load words)) where
  left : IsLeft device e files clock words
  left = left_by device e files clock words run

  -- what is due goes by the plan
  due : (P : Type 0) → (WasInterrupted device e → P) → ((way : Way Progress ⊥) → IsEndOf device e way → ((found : Option Refusal) → found ≡ load_limit_refusal words → Requires (after_limits device e.disk (Some files) clock words found) way) → P) → P
  unfolding load_plan
  due P cut go = by_due device e files clock (Load words) run P cut (λ way required at. go way at required)

  -- where the words pass no limit
  due_read : (P : Type 0) → load_limit_refusal words ≡ None → (WasInterrupted device e → P) → ((way : Way Progress ⊥) → IsEndOf device e way → Requires (read_load_plan device e.disk (Some files) clock words) way → P) → P
  due_read P few cut go = due P cut (λ way at required. go way at (required None (sym few)))

  many_due : (refusal : Refusal) → load_limit_refusal words ≡ Some refusal → IsRefusedBy device e refusal
  many_due refusal many = due (IsRefusedBy device e refusal) (λ cut. inr cut) (λ way at required. refused e way at (nothing_done 0) refusal (required (Some refusal) (sym many)))

  quiet_opening : (refusal : Refusal) → IsNoArchive device e refusal → (opened : Bool) → e.report.opened ≡ opened → Prints e []
  quiet_opening refusal is true opened = absurd (archive_there device e (left.opened opened).before refusal (left.opened opened).held is)
  quiet_opening refusal is false closed = (left.unopened closed).1.silent

  -- by what the jobs came to
  by_session : (P : Type 0) (before : FilledArchive) (ready : IsAsked device e files words before) (there : AreThere files words.dumps) → (WasInterrupted device e → P)
      → ((c : JobsOutcome) (sealed : ℕ) (came : CameToJobs files clock words before (disk_facts device e.disk sealed) ready.asks c) → AreReportedSo device e files clock words before ready.asks c sealed came → P) → P
  by_session P before ready there cut go = due_read P ready.begun.within cut (λ way at required. elim (session_due device e files clock words way at before ready there run.transparent required) [
    | inl went ↦ go went.1 went.0 went.2.0 went.2.1
    | inr off ↦ cut off
  ])

  pub loads : IsLoadedOrNot device e files clock words
  loads = record {
    opened = left.opened;
    unopened = left.unopened;
    many = λ refusal passed. (many_due refusal passed, left.limited refusal passed);
    unread = λ refusal few first. (
      due_read (IsRefusedBy device e refusal) few (λ cut. inr cut) (λ way at required. unread_files_due device e files clock words way at refusal first required),
      left.quiet refusal first,
    );
    only_unread = (only_reported device e files clock words run).unread;
    lacking = λ text sheet refusal begun missing. due_read (IsRefusedBy device e refusal) begun.within (λ cut. inr cut)
        (λ way at required. lacking_due device e files clock words way at text sheet begun refusal missing required);
    no_archive = λ text sheet refusal begun there is. (
      due_read (IsRefusedBy device e refusal) begun.within (λ cut. inr cut) (λ way at required. absent_due device e files clock words way at text sheet begun refusal there is required),
      quiet_opening refusal is e.report.opened refl,
    );
    refused = λ before text sheet refusal stands begun there is. due_read (IsRefusedBy device e refusal) begun.within (λ cut. inr cut)
        (λ way at required. refused_due device e files clock words way at text sheet begun before refusal stands there is required);
    complete = λ before ready whole.
        let there = all_there files words whole in
        by_session (Succeeded e ⊎ WasHindered device e files clock words before) before ready there (λ cut. inr (inl cut))
        (λ c sealed came so. complete_so device e files clock words before ready c sealed came whole so);
    overlong = λ before link name ready there whole comes long.
        by_session (IsOverlong device e (load_given files clock words before) link ⊎ (((at : ℕ) × IsBroken device e (load_given files clock words before) link at Version) ⊎ WasHindered device e files clock words before)) before ready there
        (λ cut. inr (inr (inl cut))) (λ c sealed came so. overlong_so device e files clock words before ready c sealed came link name comes whole long so);
    broken = λ before link name packets rest place kind ready there whole comes has bad.
        by_session (IsBroken device e (load_given files clock words before) link place kind ⊎ WasHindered device e files clock words before) before ready there (λ cut. inr (inl cut))
        (λ c sealed came so. broken_so device e files clock words before ready c sealed came link name comes whole packets rest has place kind bad so);
    only_overlong = (only_reported device e files clock words run).overlong;
    only_broken = (only_reported device e files clock words run).broken;
    only_pending = (only_reported device e files clock words run).pending;
  }
