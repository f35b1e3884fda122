-- The counts of whole dumps.
use Rattle.std.proofs.Common.{◌≡◌, inl, inr, ℕ, zero, suc, ◌+◌, ◌*◌, ◌<◌, ◌≤◌, ◌==◌, List, [], ◌∷◌, length, take, drop, filter, Bool, true, false, cond, Option, Some, None, refl, sym, ap, ◌∙◌, arith, eq-eqb, length-append}
use Rattle.std.specs.List.{AllByRecursion, concat}
use Rattle.std.proofs.lemmas.List.{take_all}
use Rattle.std.proofs.lemmas.List.Elements.{recursion_from_All}
use Rattle.arch_types.specs.declared.row.Row.{Row}
use Rattle.arch_types.specs.Dump.{IsDump}
use Rattle.arch_types.specs.Packet.{IsPacket}
use Rattle.history_items.specs.declared.fills.Addition.{Addition}
use Rattle.history_items.specs.declared.items.Item.{Item}
use Rattle.history_items.specs.Items.{rows_in}
use Rattle.live_asks.specs.LiveAsks.{DiskFacts}
use Rattle.load_session.specs.declared.session.DumpSummary.{DumpSummary}
use Rattle.load_session.specs.Receiving.{IsRouteOver, Receiving, receiving, rows_received}
use Rattle.load_session.proofs.Arrived.{few_arrived, few_rows}
use Rattle.load_jobs.specs.declared.ending.LinkEnd.{LinkEnd}
use Rattle.load_jobs.specs.declared.ending.LinkEnd.TheVariants.{Whole, Rest, Unread, TooLong, Refused}
use Rattle.load_jobs.specs.Ends.{refusal_of_end}
use Rattle.live_session.specs.Jobs.{JobSetting}
use Rattle.live_session.specs.Links.{AreLinksLoaded, IsSentInto, LinkLoads, extension}
use Rattle.live_session.specs.Outcome.{HasFewCounts, counts_of}

-- ---- a dump

-- packets have seven octets or more
octets_of : (packets : List (List ℕ)) → AllByRecursion IsPacket packets → 7 * length packets ≤ length (concat packets)
octets_of [] all = omega arith
octets_of (p ∷ packets) all =
    let here = all.0.header in
    let rest = octets_of packets all.1 in
    let long = length-append p (concat packets) in
    omega (arith, here, rest, long)

few_packets : (dump : List ℕ) (packets : List (List ℕ)) (rest : List ℕ) → IsDump dump packets rest → 7 * length packets ≤ length dump
few_packets dump packets rest is =
    let each = octets_of packets (recursion_from_All IsPacket packets is.each) in
    let whole = ap length is.joined in
    let long = length-append (concat packets) rest in
    omega (arith, each, whole, long)

few_counts : (facts : DiskFacts) (exponent : ℕ) (failed : Option Addition) (history : List Item) (r : Receiving) (left : Option (List ℕ)) (put : List Row) (summary : DumpSummary) → length r.head.tables ≤ 16 → IsRouteOver r.head r.route
    → IsSentInto facts exponent failed history r left put (Whole summary) → HasFewCounts (Whole summary)
few_counts facts exponent failed history r left put summary tables over sent =
    let s = sent.came_to in
    let is = sent.sent_to.2 in
    let packets = few_packets sent.read s.packets s.rest sent.parts in
    let short : length sent.read ≤ 268435456 = sent.short in
    let of_packets = is.of_packets in
    let of_idle = is.of_idle in
    let of_routed = is.of_routed in
    let rows = few_rows r s.packets tables over in
    let arrive = few_arrived s.packets in
    (omega (arith, packets, short, of_packets), omega (arith, packets, short, of_idle), omega (arith, packets, short, of_routed, rows, arrive))

few_of_link : (facts : DiskFacts) (exponent : ℕ) (failed : Option Addition) (history : List Item) (r : Receiving) (left : Option (List ℕ)) (end : LinkEnd) → length r.head.tables ≤ 16 → IsRouteOver r.head r.route
    → LinkLoads facts exponent failed history r left end → HasFewCounts end
few_of_link facts exponent failed history r left (Whole summary) tables over loads = few_counts facts exponent failed history r left loads.put summary tables over loads.sent
few_of_link facts exponent failed history r left other tables over loads = tt

-- a link put no more than its packets are
put_routed : (facts : DiskFacts) (exponent : ℕ) (failed : Option Addition) (history : List Item) (r : Receiving) (left : Option (List ℕ)) (put : List Row) (summary : DumpSummary) → IsSentInto facts exponent failed history r left put (Whole summary)
    → length put ≤ summary.routed
put_routed facts exponent failed history r left put summary sent =
    let s = sent.came_to in
    let is = sent.sent_to in
    let all : take s.place s.packets ≡ s.packets = take_all s.place s.packets (let whole = is.0 in omega (arith, whole)) in
    let few = sent.few in
    let same = ap (λ (l : List (List ℕ)). length (rows_received r l)) all in
    let routed = is.2.of_routed in
    omega (arith, few, same, routed)

-- ---- rows by their links

-- how many of these rows have the numbers from one on
abbrev of_numbers : ℕ → ℕ → List Row → ℕ
of_numbers link zero rows = 0
of_numbers link (suc n) rows = length (filter (λ row. row.link == link) rows) + of_numbers (suc link) n rows

more_filtered : (p : Row → Bool) (row : Row) (rows : List Row) → length (filter p rows) ≤ length (filter p (row ∷ rows))
more_filtered p row rows = go (p row)
  where
    go : (b : Bool) → length (filter p rows) ≤ length (cond b (row ∷ filter p rows) (filter p rows))
    go true = omega arith
    go false = omega arith

one_filtered : (p : Row → Bool) (row : Row) (rows : List Row) → p row ≡ true → suc (length (filter p rows)) ≤ length (filter p (row ∷ rows))
one_filtered p row rows is = go (p row) is
  where
    go : (b : Bool) → b ≡ true → suc (length (filter p rows)) ≤ length (cond b (row ∷ filter p rows) (filter p rows))
    go true e = omega arith
    go false e = absurd (cc e)

strictly : (a b : ℕ) → a ≤ b → (b ≡ a → ⊥) → suc a ≤ b
strictly zero zero least other = absurd (other refl)
strictly zero (suc b) least other = omega arith
strictly (suc a) zero least other = absurd (omega (arith, least))
strictly (suc a) (suc b) least other = let deep = strictly a b (omega (arith, least)) (λ same. other (ap suc same)) in omega (arith, deep)

still_counted : (link n : ℕ) (row : Row) (rows : List Row) → of_numbers link n rows ≤ of_numbers link n (row ∷ rows)
still_counted link zero row rows = omega arith
still_counted link (suc n) row rows =
    let here = more_filtered (λ (x : Row). x.link == link) row rows in
    let rest = still_counted (suc link) n row rows in
    omega (arith, here, rest)

one_counted : (link n : ℕ) (row : Row) (rows : List Row) → link ≤ row.link → row.link < link + n → suc (of_numbers link n rows) ≤ of_numbers link n (row ∷ rows)
one_counted link zero row rows low high = absurd (omega (arith, low, high))
one_counted link (suc n) row rows low high = go (row.link == link) refl (λ more. one_counted (suc link) n row rows more (omega (arith, high)))
  where
    go : (b : Bool) → (row.link == link) ≡ b → (suc link ≤ row.link → suc (of_numbers (suc link) n rows) ≤ of_numbers (suc link) n (row ∷ rows)) → suc (of_numbers link (suc n) rows) ≤ of_numbers link (suc n) (row ∷ rows)
    go true is later =
        let here = one_filtered (λ (x : Row). x.link == link) row rows is in
        let rest = still_counted (suc link) n row rows in
        omega (arith, here, rest)
    go false is later =
        let other : row.link ≡ link → ⊥ = λ same. absurd (cc (sym (eq-eqb row.link link same) ∙ is)) in
        let deep = later (strictly link row.link low other) in
        let here = more_filtered (λ (x : Row). x.link == link) row rows in
        omega (arith, here, deep)

all_counted : (link n : ℕ) (rows : List Row) → AllByRecursion (λ row. (link ≤ row.link) × (row.link < link + n)) rows → length rows ≤ of_numbers link n rows
all_counted link n [] all = omega arith
all_counted link n (row ∷ rows) all =
    let one = one_counted link n row rows all.0.0 all.0.1 in
    let rest = all_counted link n rows all.1 in
    omega (arith, one, rest)

-- ---- all links

module _ (facts : DiskFacts) (exponent : ℕ) (failed : Option Addition) (low history : List Item) (g : JobSetting) where
  abbrev Loaded : ℕ → List (Option (List ℕ)) → List LinkEnd → Type 0
  Loaded link lefts ends = AreLinksLoaded facts (extension exponent low history failed) g link lefts ends

  pub few_ends : (link : ℕ) (lefts : List (Option (List ℕ))) (ends : List LinkEnd) → length g.head.tables ≤ 16 → IsRouteOver g.head g.route → Loaded link lefts ends → AllByRecursion HasFewCounts ends
  few_ends link [] [] tables over loaded = tt
  few_ends link [] (end ∷ ends) tables over loaded = absurd loaded
  few_ends link (left ∷ lefts) [] tables over loaded = absurd loaded
  few_ends link (left ∷ lefts) (end ∷ ends) tables over loaded =
      (few_of_link facts exponent failed history (receiving g.head low g.route link g.moment) left end tables over loaded.0, few_ends (suc link) lefts ends tables over loaded.1)

  pub as_many_ends : (link : ℕ) (lefts : List (Option (List ℕ))) (ends : List LinkEnd) → Loaded link lefts ends → length ends ≡ length lefts
  as_many_ends link [] [] loaded = refl
  as_many_ends link [] (end ∷ ends) loaded = absurd loaded
  as_many_ends link (left ∷ lefts) [] loaded = absurd loaded
  as_many_ends link (left ∷ lefts) (end ∷ ends) loaded = ap suc (as_many_ends (suc link) lefts ends loaded.1)

  -- the rows of a link that is refused by nothing are no more than its packets are
  link_counted : (link : ℕ) (left : Option (List ℕ)) (end : LinkEnd) (ends : List LinkEnd) → refusal_of_end end ≡ None → LinkLoads facts exponent failed history (receiving g.head low g.route link g.moment) left end
      → length (filter (λ row. row.link == link) (rows_in (drop (length low) history))) + (counts_of ends).routed ≤ (counts_of (end ∷ ends)).routed
  link_counted link left (Whole summary) ends none loads =
      let few = put_routed facts exponent failed history (receiving g.head low g.route link g.moment) left loads.put summary loads.sent in
      let own = ap length loads.own in
      omega (arith, few, own)
  link_counted link left (Rest at kind) ends none loads = absurd (cc none)
  link_counted link left (Unread None) ends none loads = absurd (cc none)
  link_counted link left (Unread (Some refusal)) ends none loads = absurd (cc none)
  link_counted link left TooLong ends none loads = absurd (cc none)
  link_counted link left (Refused refusal) ends none loads = absurd (cc none)

  links_counted : (link : ℕ) (lefts : List (Option (List ℕ))) (ends : List LinkEnd) → AllByRecursion (λ end. refusal_of_end end ≡ None) ends → Loaded link lefts ends
      → of_numbers link (length lefts) (rows_in (drop (length low) history)) ≤ (counts_of ends).routed
  links_counted link [] [] none loaded = omega arith
  links_counted link [] (end ∷ ends) none loaded = absurd loaded
  links_counted link (left ∷ lefts) [] none loaded = absurd loaded
  links_counted link (left ∷ lefts) (end ∷ ends) none loaded =
      let here = link_counted link left end ends none.0 loaded.0 in
      let rest = links_counted (suc link) lefts ends none.1 loaded.1 in
      omega (arith, here, rest)

  -- so no more rows came than those are
  pub rows_counted : (link : ℕ) (lefts : List (Option (List ℕ))) (ends : List LinkEnd) → AllByRecursion (λ end. refusal_of_end end ≡ None) ends → Loaded link lefts ends
      → AllByRecursion (λ row. (link ≤ row.link) × (row.link < link + length lefts)) (rows_in (drop (length low) history)) → length (rows_in (drop (length low) history)) ≤ (counts_of ends).routed
  rows_counted link lefts ends none loaded each =
      let all = all_counted link (length lefts) (rows_in (drop (length low) history)) each in
      let few = links_counted link lefts ends none loaded in
      omega (arith, all, few)
