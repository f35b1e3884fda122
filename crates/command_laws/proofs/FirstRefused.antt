-- The first job by number that is refused: a link, or one behind all links.
use Rattle.std.proofs.Common.{◌≡◌, ◌⊎◌, ◌∙◌, inl, inr, ℕ, ℤ, zero, suc, ◌+◌, ◌<◌, ◌≤◌, List, [], ◌∷◌, length, min, take, drop, Bool, true, false, Option, Some, None, refl, sym, ap, subst, arith}
use Rattle.std.specs.Prelude.{◌||◌, IsSome, nat_lt, if◌then◌else◌}
use Rattle.std.specs.List.{AllByRecursion, list_any}
use Rattle.std.proofs.lemmas.Bool.Decides.{nat_tests}
use Rattle.asks.specs.declared.ask.Ask.{Ask}
use Rattle.refusals.specs.declared.refusal.Refusal.{Refusal}
use Rattle.refusals.specs.declared.refusal.Refusal.TheVariants.{BadPacket, Damaged, DiskFault, Limit, OutOfMemory, ReadFault}
use Rattle.refusals.specs.declared.refusal.Which.TheVariants.{DumpOctets}
use Rattle.refusals.specs.Limits.{limit_of}
use Rattle.outer_traits.specs.Outside.{Files}
use Rattle.history_items.specs.declared.fills.Addition.{Addition}
use Rattle.archive_store.specs.Entries.{FilledArchive}
use Rattle.live_asks.specs.LiveAsks.{DiskFacts}
use Rattle.load_jobs.specs.Ends.{is_of_dump, refusal_of_end}
use Rattle.load_jobs.specs.declared.ending.LinkEnd.{LinkEnd}
use Rattle.load_jobs.specs.declared.ending.LinkEnd.TheVariants.{Whole, Rest, Unread, TooLong, Refused}
use Rattle.live_session.specs.declared.reported.ReportedRefusal.{ReportedRefusal}
use Rattle.live_session.specs.Outcome.{IsFillerCause, IsReaderCause, JobsOutcome, reported, reported_of, reported_of_others}
use Rattle.command_words.specs.Job.{LoadWords}
use Rattle.load_command.specs.Loading.{is_unread}
use Rattle.command_laws.specs.Links.{CameWhole, ComesBy}
use Rattle.command_laws.specs.Load.{TellsOfDump}
use Rattle.command_laws.proofs.JobsLoaded.{AreLoaded, AreNamesFrom, CameToJobs, Loads, all_names, came_whole, first_name, later_names, moment}

-- a number below the next one is below this one, or is it
below_or_is : (n m : ℕ) → n < suc m → (n < m) ⊎ (n ≡ m)
below_or_is n m below = go (nat_lt n m) refl
  where
    go : (b : Bool) → nat_lt n m ≡ b → (n < m) ⊎ (n ≡ m)
    go true is = inl (grind (arith, nat_tests, is))
    go false is = let most : m ≤ n = grind (arith, nat_tests, is) in inr (omega (arith, below, most))

-- a link is reported only where the refusal tells of a dump
others_link : (others : List (Option Refusal)) (t : ReportedRefusal) → reported_of_others others ≡ Some t → t.link ≡ None
others_link [] t is = absurd (cc (is))
others_link (None ∷ others) t is = others_link others t is
others_link (Some refusal ∷ others) t is = let same : reported refusal None ≡ t = cc (is) in sym (ap (λ (x : ReportedRefusal). x.link) same)

no_link : (o : Option ℕ) → o ≡ None → IsSome o → ⊥
no_link None none some = cc (some)
no_link (Some link) none some = cc (none)

pub link_of_dump : (link : ℕ) (ends : List LinkEnd) (others : List (Option Refusal)) (t : ReportedRefusal) → reported_of link ends others ≡ Some t → IsSome t.link → TellsOfDump t.refusal
link_of_dump link [] others t is some = absurd (no_link t.link (others_link others t is) some)
link_of_dump link (Whole summary ∷ ends) others t is some = link_of_dump (suc link) ends others t is some
link_of_dump link (Rest place kind ∷ ends) others t is some =
    let same : reported (BadPacket place kind) (Some link) ≡ t = cc (is) in subst (λ (x : ReportedRefusal). TellsOfDump x.refusal) same tt
link_of_dump link (TooLong ∷ ends) others t is some =
    let same : reported (Limit DumpOctets (limit_of DumpOctets)) (Some link) ≡ t = cc (is) in subst (λ (x : ReportedRefusal). TellsOfDump x.refusal) same tt
link_of_dump link (Unread (Some refusal) ∷ ends) others t is some =
    let same : reported refusal None ≡ t = cc (is) in absurd (no_link t.link (sym (ap (λ (x : ReportedRefusal). x.link) same)) some)
link_of_dump link (Unread None ∷ ends) others t is some =
    let same : reported ReadFault None ≡ t = cc (is) in absurd (no_link t.link (sym (ap (λ (x : ReportedRefusal). x.link) same)) some)
link_of_dump link (Refused refusal ∷ ends) others t is some =
    let same : reported refusal None ≡ t = cc (is) in absurd (no_link t.link (sym (ap (λ (x : ReportedRefusal). x.link) same)) some)

-- a reader's cause is one of a filler's, too
reader_cause : (facts : DiskFacts) (failed : Option Addition) (refusal : Option Refusal) → IsReaderCause facts refusal → IsFillerCause facts failed refusal
reader_cause facts failed None is = tt
reader_cause facts failed (Some OutOfMemory) is = tt
reader_cause facts failed (Some DiskFault) paged = inr paged
reader_cause facts failed (Some (Damaged file at)) untold = untold
reader_cause facts failed (Some other) is = absurd is

all_causes : (facts : DiskFacts) (failed : Option Addition) (readers : ℕ) (others : List (Option Refusal)) → AllByRecursion (IsReaderCause facts) (take readers others)
    → AllByRecursion (IsFillerCause facts failed) (drop readers others) → AllByRecursion (IsFillerCause facts failed) others
all_causes facts failed zero others causes rest = rest
all_causes facts failed (suc readers) [] causes rest = tt
all_causes facts failed (suc readers) (other ∷ others) causes rest = (reader_cause facts failed other causes.0, all_causes facts failed readers others causes.1 rest)

others_cause : (facts : DiskFacts) (failed : Option Addition) (others : List (Option Refusal)) → AllByRecursion (IsFillerCause facts failed) others → (t : ReportedRefusal) → reported_of_others others ≡ Some t
    → IsFillerCause facts failed (Some t.refusal)
others_cause facts failed [] all t is = absurd (cc (is))
others_cause facts failed (None ∷ others) all t is = others_cause facts failed others all.1 t is
others_cause facts failed (Some refusal ∷ others) all t is =
    let same : reported refusal None ≡ t = cc (is) in subst (λ (x : ReportedRefusal). IsFillerCause facts failed (Some x.refusal)) same all.0

module _ (files : Files) (clock : Option ℤ) (words : LoadWords) (before : FilledArchive) (facts : DiskFacts) (asks : List Ask) (c : JobsOutcome) (came : CameToJobs files clock words before facts asks c) where
  abbrev Came : ℕ → Type 0
  Came link = CameWhole files (moment files clock words before facts asks c came) words before c.reached link

  -- the links before this one came whole
  abbrev pub Earlier : ℕ → Type 0
  Earlier link = (other : ℕ) → words.link ≤ other → other < link → Came other

  -- A link was refused, and those before it came whole; that is reported.
  pub record IsFirstRefused (t : ReportedRefusal) : Type 0 where
    pub link : ℕ
    pub name : List ℕ
    pub comes : ComesBy words link name
    pub earlier : Earlier link
    pub end : LinkEnd
    pub loads : Loads files clock words before facts asks c came link name end
    pub refusal : refusal_of_end end ≡ Some t.refusal
    pub named : is_of_dump end ≡ true → t.link ≡ Some link
    pub unread : is_unread end ≡ true → list_any is_unread c.ends ≡ true

  -- All links came whole, and a reader or a filler was refused; that is reported.
  pub record IsOtherRefused (t : ReportedRefusal) : Type 0 where
    pub all : Earlier (words.link + length words.dumps)
    pub cause : IsFillerCause facts c.failed (Some t.refusal)

  later : (link : ℕ) → Earlier link → Came link → Earlier (suc link)
  later link earlier here other low high = elim (below_or_is other link high) [
    | inl below ↦ earlier other low below
    | inr same ↦ subst Came (sym same) here
  ]

  module _ (t : ReportedRefusal) where
    abbrev Unreads : List LinkEnd → Type 0
    Unreads ends = list_any is_unread ends ≡ true → list_any is_unread c.ends ≡ true

    -- the link that was refused
    stops : (link : ℕ) (name : List ℕ) → ComesBy words link name → Earlier link → (end : LinkEnd) (ends : List LinkEnd) → Loads files clock words before facts asks c came link name end → Unreads (end ∷ ends)
        → (refusal : Refusal) → refusal_of_end end ≡ Some refusal → ◌≡◌ {A = Option ReportedRefusal} (Some (reported refusal (if is_of_dump end then Some link else None))) (Some t) → IsFirstRefused t
    stops link name comes earlier end ends loads unreads refusal is said =
        let same : reported refusal (if is_of_dump end then Some link else None) ≡ t = cc (said) in record {
          link = link;
          name = name;
          comes = comes;
          earlier = earlier;
          end = end;
          loads = loads;
          refusal = is ∙ ap (λ (x : ReportedRefusal). Some x.refusal) same;
          named = λ of_dump. sym (ap (λ (x : ReportedRefusal). x.link) same) ∙ ap (λ (b : Bool). if b then Some link else None) of_dump;
          unread = λ failed. unreads (ap (λ (b : Bool). b || list_any is_unread ends) failed);
        }

    reported_from : (link : ℕ) (names : List (List ℕ)) (ends : List LinkEnd) → AreNamesFrom files clock words before facts asks c came link names → AreLoaded files clock words before facts asks c came link names ends → Earlier link → Unreads ends
        → reported_of link ends c.others ≡ Some t → IsFirstRefused t ⊎ IsOtherRefused t
    reported_from link [] [] are loaded earlier unreads is =
        let last = are.last in inr (record { all = λ other low high. earlier other low (omega (arith, high, last)); cause = others_cause facts c.failed c.others (all_causes facts c.failed (min 4 (length came.g.asks)) c.others came.outcome.readers came.outcome.fillers) t is })
    reported_from link [] (end ∷ ends) are loaded earlier unreads is = absurd loaded
    reported_from link (name ∷ names) [] are loaded earlier unreads is = absurd loaded
    reported_from link (name ∷ names) (Whole summary ∷ ends) are loaded earlier unreads is =
        let comes = first_name files clock words before facts asks c came link name names are in
        reported_from (suc link) names ends (later_names files clock words before facts asks c came link name names are) loaded.1
        (later link earlier (came_whole files clock words before facts asks c came link name comes summary loaded.0)) unreads is
    reported_from link (name ∷ names) (Rest place kind ∷ ends) are loaded earlier unreads is =
        inl (stops link name (first_name files clock words before facts asks c came link name names are) earlier (Rest place kind) ends loaded.0 unreads (BadPacket place kind) refl is)
    reported_from link (name ∷ names) (Unread None ∷ ends) are loaded earlier unreads is =
        inl (stops link name (first_name files clock words before facts asks c came link name names are) earlier (Unread None) ends loaded.0 unreads ReadFault refl is)
    reported_from link (name ∷ names) (Unread (Some refusal) ∷ ends) are loaded earlier unreads is =
        inl (stops link name (first_name files clock words before facts asks c came link name names are) earlier (Unread (Some refusal)) ends loaded.0 unreads refusal refl is)
    reported_from link (name ∷ names) (TooLong ∷ ends) are loaded earlier unreads is =
        inl (stops link name (first_name files clock words before facts asks c came link name names are) earlier TooLong ends loaded.0 unreads (Limit DumpOctets (limit_of DumpOctets)) refl is)
    reported_from link (name ∷ names) (Refused refusal ∷ ends) are loaded earlier unreads is =
        inl (stops link name (first_name files clock words before facts asks c came link name names are) earlier (Refused refusal) ends loaded.0 unreads refusal refl is)

    pub first_reported : reported_of words.link c.ends c.others ≡ Some t → IsFirstRefused t ⊎ IsOtherRefused t
    first_reported is = reported_from words.link words.dumps c.ends (all_names files clock words before facts asks c came) came.outcome.links (λ other low high. absurd (omega (arith, low, high))) (λ some. some) is

  -- where nothing is reported, all links came whole
  none_from : (link : ℕ) (names : List (List ℕ)) (ends : List LinkEnd) → AreNamesFrom files clock words before facts asks c came link names → AreLoaded files clock words before facts asks c came link names ends → Earlier link
      → reported_of link ends c.others ≡ None → Earlier (words.link + length words.dumps)
  none_from link [] [] are loaded earlier is = let last = are.last in λ other low high. earlier other low (omega (arith, high, last))
  none_from link [] (end ∷ ends) are loaded earlier is = absurd loaded
  none_from link (name ∷ names) [] are loaded earlier is = absurd loaded
  none_from link (name ∷ names) (Whole summary ∷ ends) are loaded earlier is =
      let comes = first_name files clock words before facts asks c came link name names are in
      none_from (suc link) names ends (later_names files clock words before facts asks c came link name names are) loaded.1
      (later link earlier (came_whole files clock words before facts asks c came link name comes summary loaded.0)) is
  none_from link (name ∷ names) (Rest place kind ∷ ends) are loaded earlier is = absurd (cc (is))
  none_from link (name ∷ names) (Unread None ∷ ends) are loaded earlier is = absurd (cc (is))
  none_from link (name ∷ names) (Unread (Some refusal) ∷ ends) are loaded earlier is = absurd (cc (is))
  none_from link (name ∷ names) (TooLong ∷ ends) are loaded earlier is = absurd (cc (is))
  none_from link (name ∷ names) (Refused refusal ∷ ends) are loaded earlier is = absurd (cc (is))

  pub none_reported : reported_of words.link c.ends c.others ≡ None → Earlier (words.link + length words.dumps)
  none_reported is = none_from words.link words.dumps c.ends (all_names files clock words before facts asks c came) came.outcome.links (λ other low high. absurd (omega (arith, low, high))) is
