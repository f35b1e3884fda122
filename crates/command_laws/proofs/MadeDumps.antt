-- The dumps of `make` as files of a load: they are there, of packets alone, and their jobs are those of a load.
use Rattle.std.proofs.Common.{◌≡◌, ◌∙◌, ℕ, ℤ, zero, suc, ◌+◌, ◌*◌, ◌^◌, ◌≤◌, List, [], ◌∷◌, length, map, get_or, Option, Some, None, refl, sym, ap, subst, arith, length-append}
use Rattle.std.specs.Prelude.{IsSome, codes, slice_get}
use Rattle.std.specs.Cmp.Lexicographic.{nat_list_cmp_total}
use Rattle.std.specs.FinMap.{get, get-from_entries}
use Rattle.std.specs.List.{concat}
use Rattle.arch_types.specs.Dump.{IsDump}
use Rattle.dump_maker.specs.Made.{made_packet, made_packets, shift_of}
use Rattle.dump_maker.proofs.Made.{made_fields, made_is_split, more_octets}
use Rattle.live_session.specs.Jobs.{JobSetting, job_setting}
use Rattle.live_session.specs.Outcome.{IsJobsOutcome, JobsOutcome}
use Rattle.load_command.specs.Loading.{dumps_of}
use Rattle.stream_graph.specs.Routes.{every_packet_route}
use Rattle.command_runs.specs.Moment.{IsMomentOf}
use Rattle.make_command.specs.Made.{IsMadeOutcome, made_archive, made_contents, made_head, no_facts, two_dumps}
use Rattle.command_laws.specs.Links.{AreThere, ComesBy, IsWholeDump}
use Rattle.command_laws.specs.Make.{made_dump, made_files, made_names, made_words}
use Rattle.command_laws.proofs.JobsLoaded.{CameToJobs}

-- ---- two dumps, of any number of packets

-- a packet has 16 octets
octets_of : (seed first count : ℕ) → first + count ≤ 2 ^ 24 → length (concat (made_packets seed first count)) ≡ 16 * count
octets_of seed first zero fits = refl
octets_of seed first (suc count) fits =
    let one : suc count ≡ count + 1 = omega arith in
    let more = ap (λ (n : ℕ). length (concat (made_packets seed first n))) one ∙ ap length (more_octets seed first count)
    ∙ length-append (concat (made_packets seed first count)) (made_packet seed (first + count)) in
    let rest = octets_of seed first count (omega (arith, fits)) in
    let size = (made_fields seed (first + count) (omega (arith, fits))).size in
    omega (arith, more, rest, size)

-- a dump of packets alone, with so many octets
record IsPacketDump (dump : List ℕ) (octets : ℕ) : Type 0 where
  packets : List (List ℕ)
  parts : IsDump dump packets []
  size : length dump ≡ octets

packet_dump : (seed first count : ℕ) → first + count ≤ 2 ^ 24 → IsPacketDump (concat (made_packets seed first count)) (16 * count)
packet_dump seed first count fits = record { packets = made_packets seed first count; parts = made_is_split seed first count fits; size = octets_of seed first count fits }

pub two : (seed packets : ℕ) → two_dumps seed packets ≡ get_or (two_dumps seed packets) 0 [] ∷ get_or (two_dumps seed packets) 1 [] ∷ []
unfolding two_dumps
two seed packets = refl

first_of_two : (seed packets : ℕ) → shift_of packets * 1 + packets ≤ 2 ^ 24 → IsPacketDump (get_or (two_dumps seed packets) 0 []) (16 * packets)
unfolding two_dumps
first_of_two seed packets fits = packet_dump seed (shift_of packets * 1) packets fits

second_of_two : (seed packets : ℕ) → shift_of packets * 0 + packets ≤ 2 ^ 24 → IsPacketDump (get_or (two_dumps seed packets) 1 []) (16 * packets)
unfolding two_dumps
second_of_two seed packets fits = packet_dump seed (shift_of packets * 0) packets fits

-- ---- the files

module _ (seed : ℕ) where
  abbrev entries : List (List ℕ × List ℕ)
  entries = (codes "1", made_dump seed 0) ∷ (codes "2", made_dump seed 1) ∷ []

  first_there : get (made_files seed) (codes "1") ≡ Some (made_dump seed 0)
  first_there = get-from_entries nat_list_cmp_total entries (codes "1")

  second_there : get (made_files seed) (codes "2") ≡ Some (made_dump seed 1)
  second_there = get-from_entries nat_list_cmp_total entries (codes "2")

  pub dumps_there : AreThere (made_files seed) made_names
  dumps_there = (subst IsSome (sym first_there) refl, (subst IsSome (sym second_there) refl, tt))

  -- what the sources of the jobs have
  pub contents_are : dumps_of (Some (made_files seed)) made_names ≡ made_contents seed
  contents_are =
      ap (λ (o : Option (List ℕ)). o ∷ get (made_files seed) (codes "2") ∷ []) first_there
      ∙ ap (λ (o : Option (List ℕ)). Some (made_dump seed 0) ∷ o ∷ []) second_there ∙ ap (λ (l : List (List ℕ)). map Some l) (sym (two seed 20000))

  first_whole : IsWholeDump (made_files seed) (codes "1")
  first_whole =
      let d = first_of_two seed 20000 (omega arith) in
      let size = d.size in
      (d.packets, record { dump = made_dump seed 0; file = record { there = first_there; short = omega (arith, size) }; parts = d.parts })

  second_whole : IsWholeDump (made_files seed) (codes "2")
  second_whole =
      let d = second_of_two seed 20000 (omega arith) in
      let size = d.size in
      (d.packets, record { dump = made_dump seed 1; file = record { there = second_there; short = omega (arith, size) }; parts = d.parts })

  -- each dump is of packets alone
  pub made_whole : (link : ℕ) (name : List ℕ) → ComesBy made_words link name → IsWholeDump (made_files seed) name
  made_whole link name comes = go comes.place comes.name_is
    where
      go : (place : ℕ) → slice_get made_names place ≡ Some name → IsWholeDump (made_files seed) name
      go zero is = let same : codes "1" ≡ name = cc (is) in subst (IsWholeDump (made_files seed)) same first_whole
      go (suc zero) is = let same : codes "2" ≡ name = cc (is) in subst (IsWholeDump (made_files seed)) same second_whole
      go (suc (suc place)) is = absurd (cc (is))

  -- ---- the jobs

  -- their setting
  abbrev setting_at : ℤ → JobSetting
  setting_at moment = job_setting made_head every_packet_route moment []

  pub made_jobs : (clock : Option ℤ) (moment : ℤ) → IsMomentOf clock moment → (c : JobsOutcome) → IsMadeOutcome seed moment c → CameToJobs (made_files seed) clock made_words made_archive no_facts [] c
  made_jobs clock moment clocked c came = record {
    text = None;
    named = refl;
    route = every_packet_route;
    routed = refl;
    sheet = refl;
    there = dumps_there;
    g = setting_at moment;
    given = record { head = refl; route_is = refl; moment = clocked; found = tt; asked = refl };
    told = λ paged. omega (arith, paged);
    outcome = subst (λ (l : List (Option (List ℕ))). IsJobsOutcome no_facts made_archive (setting_at moment) 1 l c) (sym contents_are) came.came;
  }
