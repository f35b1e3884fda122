-- The ends of the plan of `values`.
use Rattle.std.proofs.Common.{◌≡◌, ◌⊎◌, ◌∙◌, inl, inr, ℤ, ℕ, List, [], ◌∷◌, length, Option, Some, None, refl, sym, true, ap, subst}
use Rattle.arch_disk.specs.Disk.{Device}
use Rattle.arch_types.specs.Dump.{IsDump}
use Rattle.arch_types.proofs.Dumps.{dump_is_one}
use Rattle.asks.specs.Names.{parameter_number}
use Rattle.mdb_items.specs.declared.fault.MdbLimit.{MdbLimit}
use Rattle.mdb_items.specs.Database.{Broken, Database, limit_passed}
use Rattle.mdb_items.specs.declared.sheet.RawMdb.{RawMdb}
use Rattle.mdb_model.specs.Sheets.{sheets_database, sheets_fault}
use Rattle.mdb_sheets.specs.Plans.{sheets_plan}
use Rattle.refusals.specs.declared.refusal.BadKind.{BadKind}
use Rattle.refusals.specs.declared.refusal.Refusal.{Refusal}
use Rattle.refusals.specs.declared.refusal.Refusal.TheVariants.{BadPacket, OutOfMemory, UnknownParameter, WriteFault}
use Rattle.refusals.specs.declared.refusal.Which.TheVariants.{DumpOctets, SheetOctets}
use Rattle.retrieval.specs.Parameter.{broken_rule, first_refusal, parameter_refusal, passed_limit}
use Rattle.retrieval.specs.ValuesText.{cell_lines, cells_of, values_line, values_text}
use Rattle.outer_traits.specs.Outside.{Files}
use Rattle.command_plans.specs.Plan.{CommandPlan, EachEnd, Requires, Way, and_then, is_interruption, map_done}
use Rattle.command_plans.proofs.Plans.{end_of}
use Rattle.command_words.specs.Job.{Values, ValuesWords}
use Rattle.command_runs.specs.declared.report.Report.{Report}
use Rattle.command_runs.specs.Command.{HasEffects, Progress, nothing_done, printing_then_plan}
use Rattle.command_runs.specs.DumpRest.{IsBadRest, ending_of_rest}
use Rattle.command_runs.specs.Moment.{IsMomentOf}
use Rattle.command_runs.specs.Report.{unopened}
use Rattle.dump_commands.specs.Scan.{dump_plan}
use Rattle.dump_commands.specs.Values.{after_parameter_check, beside_sheets_plan, cells_plan, dump_behind_plan, values_plan, valuing_plan}
use Rattle.command_laws.specs.Calls.{Call, IsRefusedBy, IsRun, Prints, PrintsSome, Succeeded, WasInterrupted, effects}
use Rattle.command_laws.specs.NamedFiles.{HasSheets, IsFirstUnread, IsReadingRefusal}
use Rattle.command_laws.specs.Values.{AreCellsPrinted, AreValued, HasParameter, HasValuesFiles, values_files}
use Rattle.command_laws.proofs.Dumps.{bad_due, silent_dump, some_dump, some_moment, text_by, whole_due, whole_dump}
use Rattle.command_laws.proofs.FileRefusals.{TellsOfOutside, no_ending, no_interruption, no_limit, reading_tells}
use Rattle.command_laws.proofs.Files.{one_file, one_raw}
use Rattle.command_laws.proofs.Readings.{IsUnread, IsUnreadAmong, IsUnreadCause, each_read, each_sheets, no_bad_among, read_due, read_or_not, sheet_files, sheets_due, sheets_unread, unread_due}
use Rattle.command_laws.proofs.Runs.{IsEndOf, by_due, by_job, or_no_memory, refused, reported, same_refusal}
use Rattle.command_laws.proofs.Ways.{due_in_turn, each_in_turn}

-- all but what is due
record IsLeft {D : Type 0} (e : Call D) (files : Files) (clock : Option ℤ) (words : ValuesWords) : Type 0 where
  disk : e.disk' ≡ e.disk
  report : e.report ≡ unopened e.report.refusal
  printed : (raw : RawMdb) (q : ℕ) (dump rest : List ℕ) (packets : List (List ℕ)) → HasValuesFiles files words raw dump → HasParameter raw words.name q → IsDump dump packets rest
      → (moment : ℤ) × IsMomentOf clock moment × AreCellsPrinted e (sheets_database raw) q dump packets rest moment
  quiet : (refusal : Refusal) → IsFirstUnread files (values_files words) refusal → Prints e []
  only_unread : (refusal : Refusal) → e.report.refusal ≡ Some refusal → IsReadingRefusal refusal → IsFirstUnread files (values_files words) refusal
  silent : (raw : RawMdb) (refusal : Refusal) (dump : List ℕ) → HasValuesFiles files words raw dump → parameter_refusal raw words.name ≡ Some refusal → Prints e []

-- the text of a dump, by its lines and the last
text_is : (db : Database) (q : ℕ) (packets : List (List ℕ)) (rest : List ℕ) (moment : ℤ)
    → values_text db q packets rest moment ≡ text_by rest (cell_lines db q (cells_of db q packets moment)) (values_line (length (cells_of db q packets moment)))
text_is db q packets [] moment = refl
text_is db q packets (octet ∷ rest) moment = refl

none_refused : (r : Option Refusal) (refusal : Refusal) → r ≡ None → r ≡ Some refusal → ⊥
none_refused r refusal none some = let never : ◌≡◌ {A = Option Refusal} None (Some refusal) = sym none ∙ some in cc (never)

-- ---- refusals that say that a file wasn't read

-- none is that of sheets and a name that were read
no_refusal : (broken : Option Broken) (passed : Option (MdbLimit × ℕ)) (number : Option ℕ) (refusal : Refusal) → first_refusal broken passed number ≡ Some refusal → TellsOfOutside refusal → ⊥
no_refusal (Some broken) passed number refusal is tells = let same : broken_rule broken ≡ refusal = cc (is) in subst TellsOfOutside (sym same) tells
no_refusal None (Some passed) number refusal is tells = let same : passed_limit passed ≡ refusal = cc (is) in no_limit passed.0 passed.1 (subst TellsOfOutside (sym same) tells)
no_refusal None None None refusal is tells = let same : UnknownParameter ≡ refusal = cc (is) in subst TellsOfOutside (sym same) tells
no_refusal None None (Some number) refusal is tells = absurd (cc (is))

no_parameter : (raw : RawMdb) (name : List ℕ) (refusal : Refusal) → parameter_refusal raw name ≡ Some refusal → IsReadingRefusal refusal → ⊥
unfolding parameter_refusal
no_parameter raw name refusal is reading =
    no_refusal (sheets_fault raw) (limit_passed (sheets_database raw)) (parameter_number (sheets_database raw) name) refusal is (reading_tells refusal reading)

no_cut : (refusal : Refusal) → is_interruption refusal ≡ true → IsReadingRefusal refusal → ⊥
no_cut refusal cut reading = no_interruption refusal cut (reading_tells refusal reading)

same_number : (o : Option ℕ) (p q : ℕ) → o ≡ Some p → o ≡ Some q → p ≡ q
same_number o p q is other = let same : ◌≡◌ {A = Option ℕ} (Some p) (Some q) = sym is ∙ other in cc

module _ {D : Type 0} (device : Device D) (e : Call D) (files : Files) (clock : Option ℤ) (words : ValuesWords) where
  refusal_is : (refusal : Option Refusal) → e.report ≡ unopened refusal → e.report.refusal ≡ refusal
  refusal_is refusal report = ap (λ (r : Report). r.refusal) report

  report_is : (refusal : Option Refusal) → e.report ≡ unopened refusal → e.report ≡ unopened e.report.refusal
  report_is refusal report = report ∙ sym (ap unopened (refusal_is refusal report))

  -- nothing was printed: memory was wanting, or a file wasn't read
  left_unread : (refusal : Refusal) → IsUnread e refusal → IsUnreadAmong files (values_files words) refusal → IsLeft e files clock words
  left_unread refusal unread cause = let other = no_bad_among files (values_files words) refusal cause in record {
    disk = unread.disk;
    report = report_is (Some refusal) unread.report;
    printed = λ raw q dump rest packets has named parts. let some = some_moment clock in
        let cells = cells_of (sheets_database raw) q packets some.0 in
        (some.0, some.1, silent_dump e (cell_lines (sheets_database raw) q cells) (values_line (length cells)) refusal other (refusal_is (Some refusal) unread.report) unread.silent dump rest);
    quiet = λ refused first. unread.silent;
    only_unread = λ reported is reading. elim cause [
      | inl first ↦ subst (IsFirstUnread files (values_files words)) (same_refusal e.report.refusal refusal reported (refusal_is (Some refusal) unread.report) is) first
      | inr cut ↦ absurd (no_cut refusal cut (subst IsReadingRefusal (same_refusal e.report.refusal reported refusal is (refusal_is (Some refusal) unread.report)) reading))
    ];
    silent = λ raw refused dump has is. unread.silent;
  }

  abbrev Leaves : Way Progress ⊥ → Type 0
  Leaves way = HasEffects device (effects e) way → IsLeft e files clock words

  module _ (raw : RawMdb) (dump : List ℕ) (has : HasValuesFiles files words raw dump) where
    -- other sheets and another dump of these names are the same
    raw_is : (other : RawMdb) (others : List ℕ) → HasValuesFiles files words other others → raw ≡ other
    raw_is other others also = one_raw files words.parameters words.calibrations words.containers raw other has.sheets also.sheets

    -- all files were read
    all_read : (refusal : Refusal) → IsFirstUnread files (values_files words) refusal → ⊥
    all_read refusal (inl one) = read_or_not files SheetOctets words.parameters has.sheets.first.octets refusal has.sheets.first.file one
    all_read refusal (inr (first, was, inl two)) = read_or_not files SheetOctets words.calibrations has.sheets.second.octets refusal has.sheets.second.file two
    all_read refusal (inr (first, was, inr (second, also, inl three))) = read_or_not files SheetOctets words.containers has.sheets.third.octets refusal has.sheets.third.file three
    all_read refusal (inr (first, was, inr (second, also, inr (third, too, inl four)))) = read_or_not files DumpOctets words.dump dump refusal has.file four
    all_read refusal (inr (first, was, inr (second, also, inr (third, too, inr never)))) = never.2

    -- the sheets or the name are refused
    left_refused : (refusal : Refusal) → parameter_refusal raw words.name ≡ Some refusal → e.report ≡ unopened (Some refusal) → Prints e [] → e.disk' ≡ e.disk → IsLeft e files clock words
    left_refused refusal is report silent disk = record {
      disk = disk;
      report = report_is (Some refusal) report;
      printed = λ other q others rest packets also named parts.
          absurd (none_refused (parameter_refusal raw words.name) refusal (ap (λ (r : RawMdb). parameter_refusal r words.name) (raw_is other others also) ∙ named.admitted) is);
      quiet = λ refused first. silent;
      only_unread = λ reported said reading. absurd (no_parameter raw words.name refusal is (subst IsReadingRefusal (same_refusal e.report.refusal reported refusal said (refusal_is (Some refusal) report)) reading));
      silent = λ other refused others also named. silent;
    }

    module _ (moment : ℤ) (known : IsMomentOf clock moment) (admitted : parameter_refusal raw words.name ≡ None) (q : ℕ) (named : parameter_number (sheets_database raw) words.name ≡ Some q)
        (packets : List (List ℕ)) (rest : List ℕ) (parts : IsDump dump packets rest) where
      abbrev Mine : Type 0
      Mine = AreCellsPrinted e (sheets_database raw) q dump packets rest moment

      -- what is known of them is known of any that there are
      of_any : Mine → (other : RawMdb) (p : ℕ) (others left : List ℕ) (more : List (List ℕ)) → HasValuesFiles files words other others → HasParameter other words.name p → IsDump others more left
          → AreCellsPrinted e (sheets_database other) p others more left moment
      of_any mine other p others left more also named' parts' =
          let same = one_file files DumpOctets words.dump dump others has.file also.file in
          let one = dump_is_one dump packets more rest left parts (subst (λ (d : List ℕ). IsDump d more left) (sym same) parts') in
          let raws = raw_is other others also in
          let number = same_number (parameter_number (sheets_database other) words.name) q p (ap (λ (r : RawMdb). parameter_number (sheets_database r) words.name) (sym raws) ∙ named) named'.named in
          subst (λ (r : RawMdb). AreCellsPrinted e (sheets_database r) p others more left moment) raws
          (subst (λ (n : ℕ). AreCellsPrinted e (sheets_database raw) n others more left moment) number
          (subst (λ (d : List ℕ). AreCellsPrinted e (sheets_database raw) q d more left moment) same
          (subst (λ (ps : List (List ℕ)). AreCellsPrinted e (sheets_database raw) q dump ps left moment) one.0
          (subst (λ (r : List ℕ). AreCellsPrinted e (sheets_database raw) q dump packets r moment) one.1 mine))))

      left_printed : e.disk' ≡ e.disk → (refusal : Option Refusal) → e.report ≡ unopened refusal → ((reported : Refusal) → refusal ≡ Some reported → IsReadingRefusal reported → ⊥) → Mine → IsLeft e files clock words
      left_printed disk refusal report apart mine = record {
        disk = disk;
        report = report_is refusal report;
        printed = λ other p others left more also named' parts'. (moment, known, of_any mine other p others left more also named' parts');
        quiet = λ refused first. absurd (all_read refused first);
        only_unread = λ reported said reading. absurd (apart reported (sym (refusal_is refusal report) ∙ said) reading);
        silent = λ other refused others also is.
            absurd (none_refused (parameter_refusal raw words.name) refused admitted (ap (λ (r : RawMdb). parameter_refusal r words.name) (raw_is other others also) ∙ is));
      }

      abbrev lines : List ℕ
      lines = cell_lines (sheets_database raw) q (cells_of (sheets_database raw) q packets moment)

      abbrev last : List ℕ
      last = values_line (length (cells_of (sheets_database raw) q packets moment))

      some_left : (refusal : Refusal) → is_interruption refusal ≡ true → e.report ≡ unopened (Some refusal) → PrintsSome e (values_text (sheets_database raw) q packets rest moment) → Mine
      some_left refusal cut report printed = some_dump e lines last refusal cut (refusal_is (Some refusal) report) dump rest (subst (PrintsSome e) (text_is (sheets_database raw) q packets rest moment) printed)

      cut_apart : (refusal : Refusal) → is_interruption refusal ≡ true → (reported : Refusal) → ◌≡◌ {A = Option Refusal} (Some refusal) (Some reported) → IsReadingRefusal reported → ⊥
      cut_apart refusal cut reported is reading = let same : refusal ≡ reported = cc (is) in no_cut refusal cut (subst IsReadingRefusal (sym same) reading)

      cells_left : EachEnd Leaves (cells_plan raw q dump moment (packets, rest))
      cells_left = (
        λ did. left_printed did.disk (Some OutOfMemory) did.report (cut_apart OutOfMemory refl) (some_left OutOfMemory refl did.report did.printed),
        (
          λ did. left_printed did.disk (Some WriteFault) did.report (cut_apart WriteFault refl) (some_left WriteFault refl did.report did.printed),
          λ did. left_printed did.disk (ending_of_rest dump rest) did.report (no_ending dump rest)
              (whole_dump e lines last dump rest packets parts (refusal_is (ending_of_rest dump rest) did.report) (subst (Prints e) (text_is (sheets_database raw) q packets rest moment) did.printed)),
        ),
      )

    check_left : (moment : ℤ) → IsMomentOf clock moment → (found : Option Refusal) → found ≡ parameter_refusal raw words.name → EachEnd Leaves (after_parameter_check raw words.name dump moment found)
    check_left moment known None is = λ number named cut parts. cells_left moment known (sym is) number named cut.0 cut.1 parts
    check_left moment known (Some refusal) is = λ did. left_refused refusal (sym is) did.report did.printed did.disk

    valuing_left : EachEnd Leaves (valuing_plan clock words.name (raw, dump))
    valuing_left = λ moment known. (
      λ did. left_unread OutOfMemory (record { report = did.report; silent = did.printed; disk = did.disk }) (inr refl),
      λ found is. check_left moment known found is,
    )

  abbrev behind_sheets : RawMdb → CommandPlan Progress ⊥
  behind_sheets raw = and_then (map_done nothing_done (dump_behind_plan (Some files) words.dump 3 raw)) (valuing_plan clock words.name)

  abbrev behind_dump : RawMdb → List ℕ → CommandPlan Progress ⊥
  behind_dump raw dump = and_then (map_done nothing_done (beside_sheets_plan raw dump)) (valuing_plan clock words.name)

  abbrev three : CommandPlan ℕ RawMdb
  three = sheets_plan (Some files) words.parameters words.calibrations words.containers 0

  among_all : (refusal : Refusal) → IsUnreadAmong files (sheet_files words.parameters words.calibrations words.containers) refusal → IsUnreadAmong files (values_files words) refusal
  among_all refusal (inl (inl one)) = inl (inl one)
  among_all refusal (inl (inr (first, was, inl two))) = inl (inr (first, was, inl two))
  among_all refusal (inl (inr (first, was, inr (second, also, inl three)))) = inl (inr (first, was, inr (second, also, inl three)))
  among_all refusal (inl (inr (first, was, inr (second, also, inr never)))) = absurd never.2
  among_all refusal (inr cut) = inr cut

  behind_sheets_among : {raw : RawMdb} → HasSheets files words.parameters words.calibrations words.containers raw → (refusal : Refusal) → IsUnreadCause files DumpOctets words.dump refusal
      → IsUnreadAmong files (values_files words) refusal
  behind_sheets_among sheets refusal (inl unread) =
      inl (inr (sheets.first.octets, sheets.first.file, inr (sheets.second.octets, sheets.second.file, inr (sheets.third.octets, sheets.third.file, inl unread))))
  behind_sheets_among sheets refusal (inr cut) = inr cut

  each_left : EachEnd Leaves (values_plan (Some files) clock words)
  each_left = each_in_turn nothing_done Leaves three (dump_behind_plan (Some files) words.dump 3) (valuing_plan clock words.name)
      (each_sheets device e (IsLeft e files clock words) files words.parameters words.calibrations words.containers 0 behind_sheets (λ refusal unread cause. left_unread refusal unread (among_all refusal cause))
      (λ raw sheets. each_in_turn nothing_done Leaves (dump_plan (Some files) words.dump 3) (beside_sheets_plan raw) (valuing_plan clock words.name)
      (each_read device e (IsLeft e files clock words) files DumpOctets (λ octets. octets) words.dump 3 (behind_dump raw)
      (λ refusal unread cause. left_unread refusal unread (behind_sheets_among sheets refusal cause))
      (λ dump file. valuing_left raw dump (record { sheets = sheets; file = file })))))

  -- ---- what is due

  unread_files_due : (way : Way Progress ⊥) (at : IsEndOf device e way) (refusal : Refusal) → IsFirstUnread files (values_files words) refusal → Requires (values_plan (Some files) clock words) way
      → IsRefusedBy device e refusal
  unread_files_due way at refusal first required = go (sheets_unread e files way at words.parameters words.calibrations words.containers 0 behind_sheets ((DumpOctets, words.dump) ∷ []) refusal behind first)
    where
      behind : Requires (and_then (map_done nothing_done three) behind_sheets) way
      behind = due_in_turn nothing_done three (dump_behind_plan (Some files) words.dump 3) (valuing_plan clock words.name) way required

      go : IsRefusedBy device e refusal ⊎ ((raw : RawMdb) × HasSheets files words.parameters words.calibrations words.containers raw × IsFirstUnread files ((DumpOctets, words.dump) ∷ []) refusal)
          → IsRefusedBy device e refusal
      go (inl refused) = refused
      go (inr (raw, sheets, inl unread)) = elim (sheets_due e files way at words.parameters words.calibrations words.containers 0 behind_sheets raw sheets behind) [
        | inl read ↦ unread_due e files way at nothing_done DumpOctets (λ octets. octets) words.dump 3 (behind_dump raw) refusal unread
            (due_in_turn nothing_done (dump_plan (Some files) words.dump 3) (beside_sheets_plan raw) (valuing_plan clock words.name) way read)
        | inr cut ↦ inr cut
      ]
      go (inr (raw, sheets, inr never)) = absurd never.2

  module _ (way : Way Progress ⊥) (at : IsEndOf device e way) (raw : RawMdb) (dump : List ℕ) (has : HasValuesFiles files words raw dump) where
    abbrev Checked : Option Refusal → Type 0
    Checked found = (moment : ℤ) × Requires (after_parameter_check raw words.name dump moment found) way

    checking_due : (found : Option Refusal) → found ≡ parameter_refusal raw words.name → Requires (valuing_plan clock words.name (raw, dump)) way → Checked found ⊎ WasInterrupted device e
    checking_due found is required = elim required.2 [
      | inl cut ↦ or_no_memory e way at (Checked found) _ cut
      | inr asked ↦ inl (required.0, asked found is)
    ]

    files_due : (found : Option Refusal) → found ≡ parameter_refusal raw words.name → Requires (values_plan (Some files) clock words) way → Checked found ⊎ WasInterrupted device e
    files_due found is required = elim (sheets_due e files way at words.parameters words.calibrations words.containers 0 behind_sheets raw has.sheets
        (due_in_turn nothing_done three (dump_behind_plan (Some files) words.dump 3) (valuing_plan clock words.name) way required)) [
          | inl behind ↦ elim (read_due e files way at nothing_done DumpOctets (λ octets. octets) words.dump 3 (behind_dump raw) dump has.file
              (due_in_turn nothing_done (dump_plan (Some files) words.dump 3) (beside_sheets_plan raw) (valuing_plan clock words.name) way behind)) [
                | inl read ↦ checking_due found is read
                | inr cut ↦ inr cut
              ]
          | inr cut ↦ inr cut
        ]

    refused_due : (refusal : Refusal) → parameter_refusal raw words.name ≡ Some refusal → Requires (values_plan (Some files) clock words) way → IsRefusedBy device e refusal
    refused_due refusal is required = elim (files_due (Some refusal) (sym is) required) [
      | inl checked ↦ refused e way at _ refusal checked.1
      | inr cut ↦ inr cut
    ]

    module _ (q : ℕ) (named : HasParameter raw words.name q) (rest : List ℕ) (packets : List (List ℕ)) (parts : IsDump dump packets rest) where
      abbrev Printing : Type 0
      Printing = (moment : ℤ) × Requires (printing_then_plan (nothing_done 4) (values_text (sheets_database raw) q packets rest moment) (ending_of_rest dump rest)) way

      cells_due : Requires (values_plan (Some files) clock words) way → Printing ⊎ WasInterrupted device e
      cells_due required = elim (files_due None (sym named.admitted) required) [
        | inl checked ↦ elim (checked.1 q named.named (packets, rest) parts) [
          | inl cut ↦ or_no_memory e way at Printing _ cut
          | inr printing ↦ inl (checked.0, printing)
        ]
        | inr cut ↦ inr cut
      ]

      complete_due : rest ≡ [] → Requires (values_plan (Some files) clock words) way → Succeeded e ⊎ WasInterrupted device e
      complete_due none required = elim (cells_due required) [
        | inl printing ↦ whole_due e way at (nothing_done 4) (values_text (sheets_database raw) q packets rest printing.0) dump rest none printing.1
        | inr cut ↦ inr cut
      ]

      broken_due : (place : ℕ) (kind : BadKind) → IsBadRest dump rest place kind → Requires (values_plan (Some files) clock words) way → IsRefusedBy device e (BadPacket place kind)
      broken_due place kind bad required = elim (cells_due required) [
        | inl printing ↦ bad_due e way at (nothing_done 4) (values_text (sheets_database raw) q packets rest printing.0) dump rest place kind bad printing.1
        | inr cut ↦ inr cut
      ]

-- ---- the clause

module _ {D : Type 0} (device : Device D) (e : Call D) (files : Files) (clock : Option ℤ) (words : ValuesWords) (run : IsRun device e files clock (Values words)) where
  left : IsLeft e files clock words
  left = by_job device e files clock (Values words) run (IsLeft e files clock words)
      (λ did. left_unread device e files clock words OutOfMemory (record { report = did.report; silent = did.printed; disk = did.disk }) (inr refl))
      (λ way allows end. end_of (Leaves device e files clock words) (values_plan (Some files) clock words) way (each_left device e files clock words) allows end.did)

  due : (P : Type 0) → (WasInterrupted device e → P) → ((way : Way Progress ⊥) → IsEndOf device e way → Requires (values_plan (Some files) clock words) way → P) → P
  due P cut go = by_due device e files clock (Values words) run P cut (λ way required at. go way at required)

  pub valued : AreValued device e files clock words
  valued = record {
    disk = left.disk;
    report = left.report;
    printed = left.printed;
    unread = λ refusal first. (
      due (IsRefusedBy device e refusal) (λ cut. inr cut) (λ way at required. unread_files_due device e files clock words way at refusal first required),
      left.quiet refusal first,
    );
    only_unread = left.only_unread;
    refused = λ raw refusal dump has is. (
      due (IsRefusedBy device e refusal) (λ cut. inr cut) (λ way at required. refused_due device e files clock words way at raw dump has refusal is required),
      left.silent raw refusal dump has is,
    );
    broken = λ raw q dump rest packets place kind has named parts bad. due (IsRefusedBy device e (BadPacket place kind)) (λ cut. inr cut)
        (λ way at required. broken_due device e files clock words way at raw dump has q named rest packets parts place kind bad required);
    complete = λ raw q dump packets has named parts. due (Succeeded e ⊎ WasInterrupted device e) (λ cut. inr cut)
        (λ way at required. complete_due device e files clock words way at raw dump has q named [] packets parts refl required);
  }
