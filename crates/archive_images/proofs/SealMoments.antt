-- What images stand for while files above the log are written, and while a seal is appended.
use Rattle.std.proofs.Common.{◌≡◌, inr, ⊎_elim, ℕ, List, [], ◌∷◌, ◌++◌, map, true, Some, None, refl, sym, ◌∙◌, ap, subst, arith, append_assoc}
use Rattle.std.specs.Prelude.{Contains}
use Rattle.std.proofs.lemmas.List.{map-append}
use Rattle.std.proofs.lemmas.List.Elements.{Contains-append_left, Contains-append_right}
use Rattle.arch_disk.specs.Image.{AgreesBut, Image}
use Rattle.arch_disk.specs.Disk.{Device}
use Rattle.arch_disk.proofs.Moments.{both, weakens}
use Rattle.disk_journal.specs.Format.{HasRecords}
use Rattle.disk_journal.specs.State.{file_of}
use Rattle.field_codec.specs.declared.entry.Entry.{Entry}
use Rattle.field_codec.specs.Spelling.{entry_octets}
use Rattle.seal_codec.specs.declared.seal.Seal.{Seal}
use Rattle.seal_codec.specs.Files.{are_rising, files_named}
use Rattle.archive_images.specs.Entries.{FilledArchive, Replays}
use Rattle.archive_images.proofs.PendingFaults.{keeps_without_fault}
use Rattle.archive_images.specs.SealFiles.{HasFills, HaveParts, HaveRuns, Part, files_of_seals, log_head_record, seal_record}
use Rattle.archive_images.specs.Below.{PartsMake, StandsSealed}
use Rattle.archive_images.specs.Moments.{HasNewFiles, MayFollow, SealLeaves, WorkAboveLeaves}
use Rattle.archive_images.proofs.NamedFiles.{above_all, files_before_log, log_last, reads_lower, seal_same}

-- ---- above the log

pub work_above : {D : Type 0} (device : Device D) → WorkAboveLeaves device
work_above device disk new log file filled pending e healed above elsewhere =
    weakens device disk new _ _ elsewhere (λ c from. record {
      log = file_of log;
      beginning = e.beginning;
      base = e.base;
      entries = e.entries;
      has_base = reads_lower from.0 c (file_of log) e.beginning e.base (λ f lt. from.2 f (λ is. absurd (omega (arith, is, lt, above)))) (e.has_base from.0 from.1);
      has = subst (λ (l : List ℕ). HasRecords l (e.beginning ++ map entry_octets e.entries)) (sym (from.2 (file_of log) (λ is. absurd (omega (arith, is, above)))))
          (keeps_without_fault device log (e.beginning ++ map entry_octets e.entries) e.pending disk healed e.keeps from.0 from.1);
      replays = e.replays;
    })

-- ---- one seal more

parts_more : (c : Image) (all : List Seal) (seal : Seal) (parts : List Part) (part : Part) → HaveParts c all parts → HaveRuns c seal.runs part.runs → HasFills c seal part.fills → HaveParts c (all ++ seal ∷ []) (parts ++ part ∷ [])
parts_more c [] seal [] part has runs fills = (runs, fills, tt)
parts_more c [] seal (x ∷ parts) part has runs fills = absurd has
parts_more c (s ∷ all) seal [] part has runs fills = absurd has
parts_more c (s ∷ all) seal (x ∷ parts) part has runs fills = (has.0, has.1, parts_more c all seal parts part has.2 runs fills)

named_more : (all : List Seal) (seal : Seal) → files_of_seals (all ++ seal ∷ []) ≡ files_of_seals all ++ files_of_seals (seal ∷ [])
named_more [] seal = refl
named_more (s ∷ all) seal = ap (λ (l : List ℕ). files_named s ++ l) (named_more all seal) ∙ sym (append_assoc (files_named s) (files_of_seals all) (files_of_seals (seal ∷ [])))

own_named : (seal : Seal) (file : ℕ) → Contains (files_named seal) file → Contains (files_of_seals (seal ∷ [])) file
own_named seal file is = Contains-append_left (files_named seal) [] file is

all_same : (c d : Image) (all : List Seal) (parts : List Part) → ((file : ℕ) → Contains (files_of_seals all) file → d file ≡ c file) → HaveParts c all parts → HaveParts d all parts
all_same c d [] [] same has = tt
all_same c d [] (x ∷ parts) same has = has
all_same c d (s ∷ all) [] same has = has
all_same c d (s ∷ all) (x ∷ parts) same has =
    let own = seal_same c d s x.runs x.fills
    (λ file is. same file (Contains-append_left (files_named s) (files_of_seals all) file (subst (λ (l : List ℕ). Contains l file) (sym (log_last s)) (Contains-append_left (files_before_log s) (s.log ∷ []) file is)))) has.0 has.1
    in
    (own.0, own.1, all_same c d all parts (λ file is. same file (Contains-append_right (files_named s) (files_of_seals all) file is)) has.2)

-- the files of seals aren't file 0
module _ (all : List Seal) (seal : Seal) (rising : are_rising 0 (files_of_seals (all ++ seal ∷ [])) ≡ true) (c d : Image) (agrees : AgreesBut 0 c d) where
  elsewhere_same : (file : ℕ) → Contains (files_of_seals all ++ files_of_seals (seal ∷ [])) file → d file ≡ c file
  elsewhere_same file is = agrees file (λ zero_is. absurd (omega (arith, zero_is, above_all 0 (files_of_seals all ++ files_of_seals (seal ∷ [])) file (subst (λ (l : List ℕ). are_rising 0 l ≡ true) (named_more all seal) rising) is)))

  of_new : (file : ℕ) → Contains (files_named seal) file → d file ≡ c file
  of_new file is = elsewhere_same file (Contains-append_right (files_of_seals all) (files_of_seals (seal ∷ [])) file (own_named seal file is))

  new_files_same : (parts : List Part) (part : Part) → HasNewFiles c all parts seal part → HasNewFiles d all parts seal part
  new_files_same parts part has =
      let own = seal_same c d seal part.runs part.fills (λ file is. of_new file (subst (λ (l : List ℕ). Contains l file) (sym (log_last seal)) (Contains-append_left (files_before_log seal) (seal.log ∷ []) file is))) has.runs has.fills in
      let log : Contains (files_named seal) seal.log = subst (λ (l : List ℕ). Contains l seal.log) (sym (log_last seal)) (Contains-append_right (files_before_log seal) (seal.log ∷ []) seal.log (0, omega arith, refl)) in
      record {
        have = all_same c d all parts (λ file is. elsewhere_same file (Contains-append_left (files_of_seals all) (files_of_seals (seal ∷ [])) file is)) has.have;
        runs = own.0;
        fills = own.1;
        log = subst (λ (l : List ℕ). HasRecords l (log_head_record seal.rows ∷ [])) (sym (of_new seal.log log)) has.log;
      }

-- an image with the seal, whose log has no entry yet
with_seal : (c : Image) (before : List Entry) (old : FilledArchive) (all : List Seal) (parts : List Part) (seal : Seal) (part : Part) (filled : FilledArchive) → Replays None before (Some old) → MayFollow (all ++ seal ∷ []) → HasNewFiles c all parts seal part
    → PartsMake old.plain (all ++ seal ∷ []) seal.rows (parts ++ part ∷ []) filled → HasRecords (c 0) ((map entry_octets before ++ map seal_record all) ++ seal_record seal ∷ []) → StandsSealed c filled
with_seal c before old all parts seal part filled replays follow files make has = record {
  log = seal.log;
  beginning = log_head_record seal.rows ∷ [];
  base = Some filled;
  entries = [];
  has_base = inr (record {
    before = before;
    old = old;
    earlier = all;
    last = seal;
    parts = parts ++ part ∷ [];
    made = filled;
    manifest = record {
      has = subst (λ (l : List (List ℕ)). HasRecords (c 0) l)
          (append_assoc (map entry_octets before) (map seal_record all) (seal_record seal ∷ []) ∙ ap (λ (l : List (List ℕ)). map entry_octets before ++ l) (sym (map-append seal_record all (seal ∷ [])))) has;
      fit = follow.fit;
      rising = follow.rising;
      grown = follow.grown;
    };
    replays = replays;
    have = parts_more c all seal parts part files.have files.runs files.fills;
    make = make;
    log_is = refl;
    beginning_is = refl;
    base_is = refl;
  });
  has = files.log;
  replays = refl;
}

pub seal_moments : {D : Type 0} (device : Device D) → SealLeaves device
seal_moments device disk new before old all parts seal part filled replays follow files make without run elsewhere =
    weakens device disk new _ _ (both device disk new _ _ run elsewhere) (λ c left. ⊎_elim
    (λ has. without c left.1 has)
    (λ has. with_seal c before old all parts seal part filled replays follow
    (new_files_same all seal follow.rising left.1.0 c left.1.2 parts part (files left.1.0 left.1.1)) make has)
    left.0)
