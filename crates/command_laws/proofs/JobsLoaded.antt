-- What the jobs of a load came to, dump by dump: what each link received, and how the history grew.
use Rattle.std.proofs.Common.{◌≡◌, ◌∙◌, inr, ℕ, ℤ, zero, suc, ◌+◌, ◌-◌, ◌<◌, ◌≤◌, List, [], ◌∷◌, ◌++◌, length, take, drop, Option, Some, None, refl, sym, ap, subst, take-append-drop, arith}
use Rattle.std.specs.Prelude.{All, IfSome, IsSome, IsSomeAnd, Ok, slice_get}
use Rattle.std.specs.FinMap.{get}
use Rattle.std.specs.List.{AllByRecursion}
use Rattle.std.proofs.lemmas.List.{length-map, take_all}
use Rattle.std.proofs.lemmas.List.Elements.{All-from_recursion}
use Rattle.std.proofs.lemmas.List.Sums.{sum_by-cons}
use mathlib.Core.List.{IsPrefix, Sublist}
use Rattle.arch_types.specs.declared.row.Row.{Row}
use Rattle.arch_types.specs.Dump.{IsDump}
use Rattle.arch_types.specs.History.{firsts}
use Rattle.asks.specs.declared.ask.Ask.{Ask}
use Rattle.refusals.specs.declared.refusal.Refusal.{Refusal}
use Rattle.refusals.specs.declared.refusal.Refusal.TheVariants.{DiskFault}
use Rattle.refusals.specs.Limits.{limit_of}
use Rattle.refusals.specs.declared.refusal.Which.TheVariants.{DumpOctets}
use Rattle.outer_traits.specs.Outside.{Files}
use Rattle.history_items.specs.declared.fills.Addition.{Addition}
use Rattle.history_items.specs.declared.fills.Addition.TheVariants.{Rows}
use Rattle.history_items.specs.declared.items.Item.{Item}
use Rattle.history_items.specs.Items.{after_rows, items_of, rows_in}
use Rattle.history_items.specs.Outcomes.{fresh_of}
use Rattle.history_items.proofs.ItemLists.{rows_of_rows}
use Rattle.archive_store.specs.Head.{Head}
use Rattle.archive_store.specs.Entries.{FilledArchive}
use Rattle.stream_graph.specs.declared.statement.RouteStatement.{RouteStatement}
use Rattle.live_asks.specs.LiveAsks.{AreTold, DiskFacts}
use Rattle.load_session.specs.declared.session.DumpSummary.{DumpSummary}
use Rattle.load_session.specs.Batches.{batch_at}
use Rattle.load_session.specs.Receiving.{Receiving, arrived, receiving, rows_received}
use Rattle.load_jobs.specs.Ends.{refusal_of_end}
use Rattle.load_jobs.specs.Reading.{IsReadOf}
use Rattle.load_jobs.proofs.Pieces.{read_of_end}
use Rattle.load_jobs.specs.declared.ending.LinkEnd.{LinkEnd}
use Rattle.load_jobs.specs.declared.ending.LinkEnd.TheVariants.{Whole, Rest, Unread, TooLong, Refused}
use Rattle.live_session.specs.Jobs.{JobSetting}
use Rattle.live_session.specs.Links.{AreLinksLoaded, IsBatchInHand, IsSentInto, LinkLoads, extension}
use Rattle.live_session.specs.declared.reported.ReportedRefusal.{ReportedRefusal}
use Rattle.live_session.specs.Outcome.{IsFailedAddition, IsJobsOutcome, JobsOutcome, counts_of, reported_of, reported_of_link}
use Rattle.command_words.specs.Job.{LoadWords}
use Rattle.load_command.specs.Loading.{IsRouteAnswer, IsSettingOf, dump_of, dumps_of}
use Rattle.command_laws.specs.Links.{AreNewOfBatch, AreReceived, AreThere, CameWhole, ComesBy, HasAsks, HasKeyIn, HasRouteText, HaveCome, IsGrown, IsLinkOf, IsReceived, IsReceivedWhole, IsWholeIn, ReceivedDump, arrivals_of, arrived_of, idle_of, packets_of, rows_of_link}
use Rattle.command_laws.proofs.Firsts.{arrivals_there, put_among}

-- ---- names and their places

pub place_within : {X : Type 0} (xs : List X) (place : ℕ) (x : X) → slice_get xs place ≡ Some x → place < length xs
place_within [] place x is = absurd (cc (is))
place_within (y ∷ xs) zero x is = omega arith
place_within (y ∷ xs) (suc place) x is = let within = place_within xs place x is in omega (arith, within)

name_at : {X : Type 0} (xs : List X) (place : ℕ) → place < length xs → (x : X) × (slice_get xs place ≡ Some x)
name_at [] place within = absurd (omega (arith, within))
name_at (y ∷ xs) zero within = (y, refl)
name_at (y ∷ xs) (suc place) within = name_at xs place (omega (arith, within))

-- the octets of a dump stand where its name does
left_name : (files : Files) (names : List (List ℕ)) (place : ℕ) (left : Option (List ℕ)) → slice_get (dumps_of (Some files) names) place ≡ Some left
    → (name : List ℕ) × (slice_get names place ≡ Some name) × (left ≡ get files name)
left_name files [] place left is = absurd (cc (is))
left_name files (name ∷ names) zero left is = let same : get files name ≡ left = cc (is) in (name, refl, sym same)
left_name files (name ∷ names) (suc place) left is = left_name files names place left is

pub there_at : (files : Files) (names : List (List ℕ)) → AreThere files names → (place : ℕ) (name : List ℕ) → slice_get names place ≡ Some name → IsSome (get files name)
there_at files [] there place name is = absurd (cc (is))
there_at files (other ∷ names) there zero name is = let same : other ≡ name = cc (is) in subst (λ (n : List ℕ). IsSome (get files n)) same there.0
there_at files (other ∷ names) there (suc place) name is = there_at files names there.1 place name is

-- a link has one dump
pub comes_once : (words : LoadWords) (link : ℕ) (a b : List ℕ) → ComesBy words link a → ComesBy words link b → a ≡ b
comes_once words link a b one other =
    let first = one.number in
    let second = other.number in
    let places : one.place ≡ other.place = omega (arith, first, second) in
    let same : ◌≡◌ {A = Option (List ℕ)} (Some a) (Some b) = sym one.name_is ∙ ap (λ (n : ℕ). slice_get words.dumps n) places ∙ other.name_is in cc

-- its number is one of the load's
pub comes_of : (words : LoadWords) (link : ℕ) (name : List ℕ) → ComesBy words link name → IsLinkOf words link
comes_of words link name comes =
    let within = place_within words.dumps comes.place name comes.name_is in
    let number = comes.number in (omega (arith, number), omega (arith, number, within))

pub some_front : (o : Option (List ℕ)) (read : List ℕ) → IsSome o → IsReadOf o read → IsSomeAnd o (IsPrefix read)
some_front None read some of = absurd (cc (some))
some_front (Some octets) read some of = of

pub some_left : (o : Option (List ℕ)) (dump : List ℕ) → IsSome o → IfSome o (λ octets. octets ≡ dump) → o ≡ Some dump
some_left None dump some is = absurd (cc (some))
some_left (Some octets) dump some is = ap Some is

-- ---- what came of one link

loads_at : (facts : DiskFacts) (files : Files) (exponent : ℕ) (failed : Option Addition) (low history : List Item) (g : JobSetting) (first : ℕ) (names : List (List ℕ)) (ends : List LinkEnd)
    → AreLinksLoaded facts (extension exponent low history failed) g first (dumps_of (Some files) names) ends → (place link : ℕ) (name : List ℕ) → link ≡ first + place → slice_get names place ≡ Some name
    → (end : LinkEnd) × LinkLoads facts exponent failed history (receiving g.head low g.route link g.moment) (get files name) end
loads_at facts files exponent failed low history g first [] ends loaded place link name number is = absurd (cc (is))
loads_at facts files exponent failed low history g first (other ∷ names) [] loaded place link name number is = absurd loaded
loads_at facts files exponent failed low history g first (other ∷ names) (end ∷ ends) loaded zero link name number is =
    let same : other ≡ name = cc (is) in
    let first_is : first ≡ link = omega (arith, number) in (
      end,
      subst (λ (n : ℕ). LinkLoads facts exponent failed history (receiving g.head low g.route n g.moment) (get files name) end) first_is
          (subst (λ (n : List ℕ). LinkLoads facts exponent failed history (receiving g.head low g.route first g.moment) (get files n) end) same loaded.0),
    )
loads_at facts files exponent failed low history g first (other ∷ names) (end ∷ ends) loaded (suc place) link name number is =
    loads_at facts files exponent failed low history g (suc first) names ends loaded.1 place link name (omega (arith, number)) is

-- where the first link was refused by a fault of the disk, that is reported
reported_of_fault : (link : ℕ) (ends : List LinkEnd) (others : List (Option Refusal)) (t : ReportedRefusal) (end : LinkEnd) → slice_get ends 0 ≡ Some end → refusal_of_end end ≡ Some DiskFault
    → reported_of link ends others ≡ Some t → t.refusal ≡ DiskFault
reported_of_fault link [] others t end first faulted is = absurd (cc (first))
reported_of_fault link (x ∷ ends) others t end first faulted is =
    let same : x ≡ end = cc (first) in
    let known : reported_of_link link x (Some DiskFault) (reported_of (suc link) ends others) ≡ Some t =
    subst (λ (o : Option Refusal). reported_of_link link x o (reported_of (suc link) ends others) ≡ Some t) (ap refusal_of_end same ∙ faulted) is in
    subst (λ (o : Option ReportedRefusal). IfSome o (λ (r : ReportedRefusal). r.refusal ≡ DiskFault)) known refl

-- ---- rows of one link alone

-- where there is one link its number is that of each row
only_first : (first n : ℕ) (rows : List Row) → n ≡ 1 → AllByRecursion (λ row. (first ≤ row.link) × (row.link < first + n)) rows → AllByRecursion (λ row. row.link ≡ first) rows
only_first first n [] one all = tt
only_first first n (row ∷ rows) one all =
    let low = all.0.0 in
    let high = all.0.1 in (omega (arith, one, low, high), only_first first n rows one all.1)

each_link : (words : LoadWords) (n : ℕ) (rows : List Row) → n ≡ length words.dumps → AllByRecursion (λ row. (words.link ≤ row.link) × (row.link < words.link + n)) rows → AllByRecursion (λ row. IsLinkOf words row.link) rows
each_link words n [] many all = tt
each_link words n (row ∷ rows) many all =
    let low = all.0.0 in
    let high = all.0.1 in ((low, omega (arith, many, high)), each_link words n rows many all.1)

-- ---- a load that ran its jobs

-- Jobs of a load were run over an archive, by the route of a text and these asks, at a moment of the clock, and came to this.
pub record CameToJobs (files : Files) (clock : Option ℤ) (words : LoadWords) (before : FilledArchive) (facts : DiskFacts) (asks : List Ask) (c : JobsOutcome) : Type 0 where
  pub text : Option (List ℕ)
  pub named : HasRouteText files words.route text
  pub route : List RouteStatement
  pub routed : IsRouteAnswer before.plain text (Ok route)
  pub sheet : HasAsks files words.asks (Ok asks)
  pub there : AreThere files words.dumps
  pub g : JobSetting
  pub given : IsSettingOf before.plain clock route asks g
  pub told : AreTold facts
  pub outcome : IsJobsOutcome facts before g words.link (dumps_of (Some files) words.dumps) c

module _ (files : Files) (clock : Option ℤ) (words : LoadWords) (before : FilledArchive) (facts : DiskFacts) (asks : List Ask) (c : JobsOutcome) (came : CameToJobs files clock words before facts asks c) where
  abbrev pub low : List Item
  low = before.plain.history

  abbrev pub moment : ℤ
  moment = came.g.moment

  -- how the link of a number receives
  abbrev pub to : ℕ → Receiving
  to link = receiving came.g.head low came.g.route link came.g.moment

  abbrev pub Loads : ℕ → List ℕ → LinkEnd → Type 0
  Loads link name end = LinkLoads facts before.plain.exponent c.failed c.reached (to link) (get files name) end

  pub dump_there : (link : ℕ) (name : List ℕ) → ComesBy words link name → IsSome (get files name)
  dump_there link name comes = there_at files words.dumps came.there comes.place name comes.name_is

  -- a dump of this content is received
  abbrev pub receives : (link : ℕ) (name : List ℕ) → ComesBy words link name → (read : List ℕ) → IsReadOf (get files name) read → length read ≤ limit_of DumpOctets → (packets : List (List ℕ)) (rest : List ℕ) → IsDump read packets rest
      → IsReceived files moment words before link (record { by = to link; packets = packets; rest = rest })
  receives link name comes read of short packets rest parts = record {
    name = name;
    comes = comes;
    has = record { read = read; front = some_front (get files name) read (dump_there link name comes) of; short = short; parts = parts };
    text = came.text;
    named = came.named;
    route = came.route;
    routed = came.routed;
    received = ap (λ (h : Head). receiving h low came.g.route link moment) came.given.head ∙ ap (λ (l : List RouteStatement). receiving before.plain.head low l link moment) came.given.route_is;
  }

  -- what became of a link's dump that was sent
  module _ (link : ℕ) (name : List ℕ) (comes : ComesBy words link name) (put : List Row) (end : LinkEnd) (sent : IsSentInto facts before.plain.exponent c.failed c.reached (to link) (get files name) put end) where
    pub sent_of : IsReadOf (get files name) sent.read
    sent_of = read_of_end (get files name) sent.read end sent.read_to

    abbrev pub sent_dump : ReceivedDump
    sent_dump = record { by = to link; packets = sent.came_to.packets; rest = sent.came_to.rest }

    abbrev pub sent_received : IsReceived files moment words before link sent_dump
    sent_received = receives link name comes sent.read sent_of sent.short sent.came_to.packets sent.came_to.rest sent.parts

    -- all of its packets were sent
    module _ (all : sent.came_to.place ≡ length sent.came_to.packets) where
      all_taken : take sent.came_to.place sent.came_to.packets ≡ sent.came_to.packets
      all_taken = take_all sent.came_to.place sent.came_to.packets (omega (arith, all))

      pub sent_there : All (HasKeyIn c.reached) (arrivals_of sent_dump)
      sent_there = subst (λ (ps : List (List ℕ)). All (HasKeyIn c.reached) (rows_received (to link) ps)) all_taken
          (arrivals_there c.reached (rows_received (to link) (take sent.came_to.place sent.came_to.packets)) (sent.sent came.told).kept)

      pub sent_alone : (more : List Row) → c.reached ≡ low ++ items_of more → AllByRecursion (λ row. row.link ≡ link) more → c.reached ≡ after_rows low (arrivals_of sent_dump)
      sent_alone more grown own = (sent.alone came.told more grown own).1 ∙ ap (λ (ps : List (List ℕ)). after_rows low (rows_received (to link) ps)) all_taken

  -- ---- a dump that is whole

  -- it came whole, and is counted so
  record CameDump (link : ℕ) (summary : DumpSummary) (d : ReceivedDump) : Type 0 where
    received : IsReceivedWhole files moment words before link d
    whole : IsWholeIn c.reached d
    alone : (more : List Row) → c.reached ≡ low ++ items_of more → AllByRecursion (λ row. row.link ≡ link) more → c.reached ≡ after_rows low (arrivals_of d)
    packets_are : summary.packets ≡ length d.packets
    idle : summary.idle ≡ length d.packets - arrived d.packets
    arrived_are : summary.routed ≡ length (arrivals_of d)

  came_dump : (link : ℕ) (name : List ℕ) → ComesBy words link name → (summary : DumpSummary) → Loads link name (Whole summary) → (d : ReceivedDump) × CameDump link summary d
  came_dump link name comes summary loads = go loads.sent
    where
      go : IsSentInto facts before.plain.exponent c.failed c.reached (to link) (get files name) loads.put (Whole summary) → (d : ReceivedDump) × CameDump link summary d
      go sent =
          let file = some_left (get files name) sent.read (dump_there link name comes) sent.read_to in
          let counted = sent.sent_to.2 in
          let idle = counted.of_idle in (
            sent_dump link name comes loads.put (Whole summary) sent,
            record {
              received = (
                sent_received link name comes loads.put (Whole summary) sent,
                record { dump = sent.read; file = record { there = file; short = sent.short }; parts = sent.parts },
              );
              whole = (sent.sent_to.1, sent_there link name comes loads.put (Whole summary) sent sent.sent_to.0);
              alone = sent_alone link name comes loads.put (Whole summary) sent sent.sent_to.0;
              packets_are = counted.of_packets;
              idle = omega (arith, idle);
              arrived_are = counted.of_routed;
            },
          )

  pub came_whole : (link : ℕ) (name : List ℕ) → ComesBy words link name → (summary : DumpSummary) → Loads link name (Whole summary) → CameWhole files moment words before c.reached link
  came_whole link name comes summary loads = let d = came_dump link name comes summary loads in (d.0, d.1.received, d.1.whole)

  -- ---- dumps that are all whole

  -- those from a link on are
  pub record AreWholeFrom (link : ℕ) (ends : List LinkEnd) : Type 0 where
    pub dumps : List ReceivedDump
    pub received : AreReceived files moment words before link dumps
    pub whole : AllByRecursion (IsWholeIn c.reached) dumps
    pub alone : (d : ReceivedDump) → dumps ≡ d ∷ [] → (more : List Row) → c.reached ≡ low ++ items_of more → AllByRecursion (λ row. row.link ≡ link) more → c.reached ≡ after_rows low (arrivals_of d)
    pub packets_are : (counts_of ends).packets ≡ packets_of dumps
    pub idle : (counts_of ends).idle ≡ idle_of dumps
    pub arrived_are : (counts_of ends).routed ≡ arrived_of dumps

  -- these names come by the links from this one on, to the last
  pub record AreNamesFrom (link : ℕ) (names : List (List ℕ)) : Type 0 where
    pub last : link + length names ≡ words.link + length words.dumps
    pub comes : (place other : ℕ) (name : List ℕ) → other ≡ link + place → slice_get names place ≡ Some name → ComesBy words other name

  pub all_names : AreNamesFrom words.link words.dumps
  all_names = record { last = refl; comes = λ place other name number is. record { place = place; number = number; name_is = is } }

  pub later_names : (link : ℕ) (name : List ℕ) (names : List (List ℕ)) → AreNamesFrom link (name ∷ names) → AreNamesFrom (suc link) names
  later_names link name names are = let last = are.last in record {
    last = omega (arith, last);
    comes = λ place other n number is. are.comes (suc place) other n (omega (arith, number)) is;
  }

  pub first_name : (link : ℕ) (name : List ℕ) (names : List (List ℕ)) → AreNamesFrom link (name ∷ names) → ComesBy words link name
  first_name link name names are = are.comes zero link name (omega arith) refl

  abbrev pub AreLoaded : ℕ → List (List ℕ) → List LinkEnd → Type 0
  AreLoaded link names ends = AreLinksLoaded facts (extension before.plain.exponent low c.reached c.failed) came.g link (dumps_of (Some files) names) ends

  whole_from : (link : ℕ) (names : List (List ℕ)) (ends : List LinkEnd) → AreNamesFrom link names → AreLoaded link names ends → reported_of link ends c.others ≡ None → AreWholeFrom link ends
  whole_from link [] [] are loaded reported = let last = are.last in
      record { dumps = []; received = omega (arith, last); whole = tt; alone = λ d is. absurd (cc (is)); packets_are = refl; idle = refl; arrived_are = refl }
  whole_from link [] (end ∷ ends) are loaded reported = absurd loaded
  whole_from link (name ∷ names) [] are loaded reported = absurd loaded
  whole_from link (name ∷ names) (Whole summary ∷ ends) are loaded reported =
      let d = came_dump link name (first_name link name names are) summary loaded.0 in
      let rest = whole_from (suc link) names ends (later_names link name names are) loaded.1 reported in
      let packets_first = d.1.packets_are in
      let packets_rest = rest.packets_are in
      let packets_all = sum_by-cons (λ (x : ReceivedDump). length x.packets) d.0 rest.dumps in
      let idle_first = d.1.idle in
      let idle_rest = rest.idle in
      let idle_all = sum_by-cons (λ (x : ReceivedDump). length x.packets - arrived x.packets) d.0 rest.dumps in
      let arrived_first = d.1.arrived_are in
      let arrived_rest = rest.arrived_are in
      let arrived_all = sum_by-cons (λ (x : ReceivedDump). length (arrivals_of x)) d.0 rest.dumps in record {
        dumps = d.0 ∷ rest.dumps;
        received = (d.1.received, rest.received);
        whole = (d.1.whole, rest.whole);
        alone = λ one is more grown own.
            let same : d.0 ≡ one = cc (is) in subst (λ (x : ReceivedDump). c.reached ≡ after_rows low (arrivals_of x)) same (d.1.alone more grown own);
        packets_are = omega (arith, packets_first, packets_rest, packets_all);
        idle = omega (arith, idle_first, idle_rest, idle_all);
        arrived_are = omega (arith, arrived_first, arrived_rest, arrived_all);
      }
  whole_from link (name ∷ names) (Rest place kind ∷ ends) are loaded reported = absurd (cc (reported))
  whole_from link (name ∷ names) (Unread None ∷ ends) are loaded reported = absurd (cc (reported))
  whole_from link (name ∷ names) (Unread (Some refusal) ∷ ends) are loaded reported = absurd (cc (reported))
  whole_from link (name ∷ names) (TooLong ∷ ends) are loaded reported = absurd (cc (reported))
  whole_from link (name ∷ names) (Refused refusal ∷ ends) are loaded reported = absurd (cc (reported))

  -- so all are, where nothing was reported of a job
  pub all_whole : reported_of words.link c.ends c.others ≡ None → AreWholeFrom words.link c.ends
  all_whole reported = whole_from words.link words.dumps c.ends all_names came.outcome.links reported

  -- ---- the history

  many : length (dumps_of (Some files) words.dumps) ≡ length words.dumps
  many = length-map words.dumps (dump_of (Some files))

  -- rows of a load with one dump
  pub only_rows : length words.dumps ≡ 1 → AllByRecursion (λ row. row.link ≡ words.link) came.outcome.more
  only_rows one = only_first words.link (length (dumps_of (Some files) words.dumps)) came.outcome.more (many ∙ one) came.outcome.of_links

  link_dump : (link : ℕ) → IsLinkOf words link → (name : List ℕ) × ComesBy words link name
  link_dump link own =
      let first = own.0 in
      let last = own.1 in
      let found = name_at words.dumps (link - words.link) (omega (arith, first, last)) in (
        found.0,
        record { place = link - words.link; number = omega (arith, first); name_is = found.1 },
      )

  pub loads_of : (link : ℕ) (name : List ℕ) → ComesBy words link name → (end : LinkEnd) × Loads link name end
  loads_of link name comes =
      loads_at facts files before.plain.exponent c.failed low c.reached came.g words.link words.dumps c.ends came.outcome.links comes.place link name comes.number comes.name_is

  -- what came behind the first history
  come_behind : drop (length low) c.reached ≡ items_of came.outcome.more
  come_behind = ap (drop (length low)) came.outcome.grown ∙ behind low (items_of came.outcome.more)
    where
      behind : (first later : List Item) → drop (length first) (first ++ later) ≡ later
      behind [] later = refl
      behind (item ∷ first) later = behind first later

  own_rows : (link : ℕ) (name : List ℕ) (end : LinkEnd) (loads : Loads link name end) → rows_of_link link came.outcome.more ≡ loads.put
  own_rows link name end loads =
      sym (ap (λ (l : List Row). rows_of_link link l) (ap rows_in come_behind ∙ rows_of_rows came.outcome.more)) ∙ loads.own

  come_by : (link : ℕ) → IsLinkOf words link → HaveCome files moment words before link (rows_of_link link came.outcome.more)
  come_by link own = go loads.1.sent
    where
      found : (name : List ℕ) × ComesBy words link name
      found = link_dump link own

      loads : (end : LinkEnd) × Loads link found.0 end
      loads = loads_of link found.0 found.1

      same : rows_of_link link came.outcome.more ≡ loads.1.put
      same = own_rows link found.0 loads.0 loads.1

      go : IsSentInto facts before.plain.exponent c.failed c.reached (to link) (get files found.0) loads.1.put loads.0 → HaveCome files moment words before link (rows_of_link link came.outcome.more)
      go sent =
          let s = sent.came_to in
          let among = put_among (to link) loads.1.put (take s.place s.packets) (drop s.place s.packets) (sent.sent came.told).some in
          inr (
            sent_dump link found.0 found.1 loads.1.put loads.0 sent,
            sent_received link found.0 found.1 loads.1.put loads.0 sent,
            subst (λ (l : List Row). Sublist l (firsts (rows_received (to link) s.packets))) (sym same)
                (subst (λ (ps : List (List ℕ)). Sublist loads.1.put (firsts (rows_received (to link) ps))) (take-append-drop s.place s.packets) among),
          )

  pub grown : IsGrown files moment words before c.reached
  grown = record {
    more = came.outcome.more;
    grown = came.outcome.grown;
    links = All-from_recursion (λ (row : Row). IsLinkOf words row.link) came.outcome.more
        (each_link words (length (dumps_of (Some files) words.dumps)) came.outcome.more many came.outcome.of_links);
    come = come_by;
  }

  -- ---- a write that failed

  -- the rows that it was to add are those of a batch
  pub in_hand : (rows : List Row) → c.failed ≡ Some (Rows rows) → AreNewOfBatch files moment words before c.reached rows
  in_hand rows failed = go (subst (λ (o : Option Addition). IfSome o (IsFailedAddition facts low c.reached came.g words.link (dumps_of (Some files) words.dumps) c.ends)) failed came.outcome.failed)
    where
      go : IsBatchInHand facts low c.reached came.g words.link (dumps_of (Some files) words.dumps) c.ends rows → AreNewOfBatch files moment words before c.reached rows
      go batch =
          let s = batch.came_to in
          let link = words.link + batch.place in
          let found = left_name files words.dumps batch.place batch.left batch.of_link in
          let comes : ComesBy words link found.0 = record { place = batch.place; number = refl; name_is = found.1 } in
          let of = subst (λ (o : Option (List ℕ)). IsReadOf o batch.read) found.2 batch.read_of in record {
            link = link;
            d = record { by = to link; packets = s.packets; rest = s.rest };
            received = receives link found.0 comes batch.read of batch.short s.packets s.rest batch.parts;
            place = s.place;
            rows_are = batch.rows_are came.told ∙ ap (λ (h : List Item). fresh_of h (rows_received (to link) (batch_at s.place s.packets))) batch.reached_is;
          }

  -- where there is one dump, its link was refused by that fault, which is reported
  pub fault_of_one : length words.dumps ≡ 1 → (rows : List Row) → c.failed ≡ Some (Rows rows) → (t : ReportedRefusal) → reported_of words.link c.ends c.others ≡ Some t → t.refusal ≡ DiskFault
  fault_of_one one rows failed t is = go (subst (λ (o : Option Addition). IfSome o (IsFailedAddition facts low c.reached came.g words.link (dumps_of (Some files) words.dumps) c.ends)) failed came.outcome.failed)
    where
      go : IsBatchInHand facts low c.reached came.g words.link (dumps_of (Some files) words.dumps) c.ends rows → t.refusal ≡ DiskFault
      go batch =
          let found = left_name files words.dumps batch.place batch.left batch.of_link in
          let within = place_within words.dumps batch.place found.0 found.1 in
          let at_first : batch.place ≡ 0 = omega (arith, one, within) in
          reported_of_fault words.link c.ends c.others t batch.end (subst (λ (n : ℕ). slice_get c.ends n ≡ Some batch.end) at_first batch.ended) batch.end_is is
