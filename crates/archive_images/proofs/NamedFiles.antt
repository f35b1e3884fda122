-- Images that agree where it counts stand for the same archive.
use Rattle.std.proofs.Common.{◌≡◌, ◌⊎◌, inl, inr, ⊎_elim, ℕ, zero, suc, ◌<◌, List, [], ◌∷◌, ◌++◌, map, true, Option, refl, sym, ◌∙◌, ap, subst, arith, append_assoc, append-nil}
use Rattle.std.specs.Prelude.{nat_lt, Contains}
use Rattle.std.proofs.lemmas.Bool.{and_parts}
use Rattle.std.proofs.lemmas.Bool.Decides.{nat_tests}
use Rattle.std.proofs.lemmas.List.Elements.{Contains-append_left, Contains-append_right}
use Rattle.arch_disk.specs.Image.{Image}
use Rattle.disk_journal.specs.Format.{HasRecords}
use Rattle.field_codec.specs.Spelling.{entry_octets}
use Rattle.run_pages.specs.Placed.{Placed}
use Rattle.run_pages.specs.Runs.{IsRunFile}
use Rattle.seal_codec.specs.declared.seal.Seal.{Seal}
use Rattle.seal_codec.specs.declared.seal.SealedRun.{SealedRun}
use Rattle.seal_codec.specs.Files.{are_rising, files_named}
use Rattle.archive_images.specs.Entries.{FilledArchive}
use Rattle.archive_images.specs.SealFiles.{HasFills, HasSeals, HaveParts, HaveRuns, Part, StoredFill, files_of_seals, fill_record, log_head_record}
use Rattle.archive_images.specs.Below.{IsBelow, IsSealed, StandsSealed}
use Rattle.archive_images.specs.Laws.{AgreeOnNamed}

-- ---- places in lists of files

here : (x : ℕ) (xs : List ℕ) → Contains (x ∷ xs) x
here x xs = (0, omega arith, refl)

behind : (x y : ℕ) (xs : List ℕ) → Contains xs y → Contains (x ∷ xs) y
behind x y xs is = Contains-append_right (x ∷ []) xs y is

first_or : (x y : ℕ) (xs : List ℕ) → Contains (x ∷ xs) y → (x ≡ y) ⊎ Contains xs y
first_or x y xs (zero, lt, is) = inl is
first_or x y xs (suc k, lt, is) = inr (k, omega (arith, lt), is)

-- ---- the log is above all other files

rising_parts : (low f : ℕ) (fs : List ℕ) → are_rising low (f ∷ fs) ≡ true → (low < f) × (are_rising f fs ≡ true)
rising_parts low f fs rising =
    let parts = and_parts (nat_lt low f) (are_rising f fs) rising in
    (grind (arith, nat_tests, parts.0), parts.1)

above_front : (low : ℕ) (xs : List ℕ) (f : ℕ) → are_rising low (xs ++ f ∷ []) ≡ true → low < f
above_front low [] f rising = (rising_parts low f [] rising).0
above_front low (x ∷ xs) f rising =
    let parts = rising_parts low x (xs ++ f ∷ []) rising in
    omega (arith, parts.0, above_front x xs f parts.1)

all_below : (low : ℕ) (xs : List ℕ) (f x : ℕ) → are_rising low (xs ++ f ∷ []) ≡ true → Contains xs x → x < f
all_below low [] f x rising is = absurd (omega (arith, is.1))
all_below low (y ∷ xs) f x rising is =
    let parts = rising_parts low y (xs ++ f ∷ []) rising in
    ⊎_elim
    (λ same. omega (arith, same, above_front y xs f parts.1))
    (λ more. all_below y xs f x parts.1 more)
    (first_or y x xs is)

-- all are above the number that they rise from
pub above_all : (low : ℕ) (xs : List ℕ) (x : ℕ) → are_rising low xs ≡ true → Contains xs x → low < x
above_all low [] x rising is = absurd (omega (arith, is.1))
above_all low (y ∷ xs) x rising is =
    let parts = rising_parts low y xs rising in
    ⊎_elim (λ same. omega (arith, same, parts.0)) (λ more. omega (arith, parts.0, above_all y xs x parts.1 more)) (first_or y x xs is)

-- the files of a seal but its log
abbrev pub files_before_log : Seal → List ℕ
files_before_log seal = map (λ run. run.file) seal.runs ++ seal.fills ∷ []

-- those of seals but the last log
abbrev front_of : List Seal → Seal → List ℕ
front_of [] last = files_before_log last
front_of (s ∷ earlier) last = files_named s ++ front_of earlier last

pub log_last : (s : Seal) → files_named s ≡ files_before_log s ++ s.log ∷ []
log_last s = sym (append_assoc (map (λ (run : SealedRun). run.file) s.runs) (s.fills ∷ []) (s.log ∷ []))

named_is : (earlier : List Seal) (last : Seal) → files_of_seals (earlier ++ last ∷ []) ≡ front_of earlier last ++ last.log ∷ []
named_is [] last = append-nil (files_named last) ∙ log_last last
named_is (s ∷ earlier) last = ap (λ (l : List ℕ). files_named s ++ l) (named_is earlier last) ∙ sym (append_assoc (files_named s) (front_of earlier last) (last.log ∷ []))

-- ---- what the files hold

module _ (c d : Image) where
  runs_same : (runs : List SealedRun) (rows : List (List Placed)) → ((file : ℕ) → Contains (map (λ run. run.file) runs) file → d file ≡ c file) → HaveRuns c runs rows → HaveRuns d runs rows
  runs_same [] [] same has = tt
  runs_same [] (x ∷ rows) same has = has
  runs_same (run ∷ runs) [] same has = has
  runs_same (run ∷ runs) (x ∷ rows) same has =
      let files = map (λ (r : SealedRun). r.file) runs in (
        subst (λ (l : List ℕ). IsRunFile l run.table x) (sym (same run.file (here run.file files))) has.0,
        runs_same runs rows (λ file is. same file (behind run.file file files is)) has.1,
      )

  -- a seal's own files
  pub seal_same : (s : Seal) (rows : List (List Placed)) (fills : List StoredFill) → ((file : ℕ) → Contains (files_before_log s) file → d file ≡ c file) → HaveRuns c s.runs rows → HasFills c s fills → HaveRuns d s.runs rows × HasFills d s fills
  seal_same s rows fills same runs added =
      let files = map (λ (r : SealedRun). r.file) s.runs in (
        runs_same s.runs rows (λ file is. same file (Contains-append_left files (s.fills ∷ []) file is)) runs,
        record {
          has = subst (λ (l : List ℕ). HasRecords l (log_head_record s.rows ∷ map fill_record fills)) (sym (same s.fills (Contains-append_right files (s.fills ∷ []) s.fills (here s.fills [])))) added.has;
          fit = added.fit;
        },
      )

  -- the files before the last log have all parts
  parts_same : (earlier : List Seal) (last : Seal) (parts : List Part) → ((file : ℕ) → Contains (front_of earlier last) file → d file ≡ c file) → HaveParts c (earlier ++ last ∷ []) parts → HaveParts d (earlier ++ last ∷ []) parts
  parts_same [] last [] same has = has
  parts_same [] last (p ∷ []) same has = let own = seal_same last p.runs p.fills same has.0 has.1 in (own.0, own.1, tt)
  parts_same [] last (p ∷ q ∷ parts) same has = absurd has.2
  parts_same (s ∷ earlier) last [] same has = has
  parts_same (s ∷ earlier) last (p ∷ parts) same has =
      let own = seal_same s p.runs p.fills
      (λ file is. same file (Contains-append_left (files_named s) (front_of earlier last) file (subst (λ (l : List ℕ). Contains l file) (sym (log_last s)) (Contains-append_left (files_before_log s) (s.log ∷ []) file is)))) has.0 has.1
      in
      (own.0, own.1, parts_same earlier last parts (λ file is. same file (Contains-append_right (files_named s) (front_of earlier last) file is)) has.2)

  -- what file 0 says, and what is below its last log
  sealed_same : (log : ℕ) (beginning : List (List ℕ)) (base : Option FilledArchive) (s : IsSealed c log beginning base) → d 0 ≡ c 0 → ((file : ℕ) → Contains (front_of s.earlier s.last) file → d file ≡ c file) → IsSealed d log beginning base
  sealed_same log beginning base s zero_is same = record {
    before = s.before;
    old = s.old;
    earlier = s.earlier;
    last = s.last;
    parts = s.parts;
    made = s.made;
    manifest = subst (λ (l : List ℕ). HasSeals l s.before (s.earlier ++ s.last ∷ [])) (sym zero_is) s.manifest;
    replays = s.replays;
    have = parts_same s.earlier s.last s.parts same s.have;
    make = s.make;
    log_is = s.log_is;
    beginning_is = s.beginning_is;
    base_is = s.base_is;
  }

rising_front : {c : Image} {log : ℕ} {beginning : List (List ℕ)} {base : Option FilledArchive} (s : IsSealed c log beginning base) → are_rising 0 (front_of s.earlier s.last ++ s.last.log ∷ []) ≡ true
rising_front s = subst (λ (l : List ℕ). are_rising 0 l ≡ true) (named_is s.earlier s.last) s.manifest.rising

-- what is below a log is said by the files of lower numbers alone
pub reads_lower : (c d : Image) (log : ℕ) (beginning : List (List ℕ)) (base : Option FilledArchive) → ((file : ℕ) → file < log → d file ≡ c file) → IsBelow c log beginning base → IsBelow d log beginning base
reads_lower c d log beginning base agrees (inl plain) = inl plain
reads_lower c d log beginning base agrees (inr s) =
    let front = front_of s.earlier s.last in
    let rising = rising_front s in
    inr (sealed_same c d log beginning base s
    (agrees 0 (omega (arith, s.log_is, above_front 0 front s.last.log rising)))
    (λ file is. agrees file (omega (arith, s.log_is, all_below 0 front s.last.log file rising is))))

-- two that agree on file 0 and on each file that it names stand for the same archive
pub same_archive : (c d : Image) (filled : FilledArchive) → AgreeOnNamed c d → StandsSealed c filled → StandsSealed d filled
same_archive c d filled agrees x = go x.has_base
  where
    stand : d x.log ≡ c x.log → IsBelow d x.log x.beginning x.base → StandsSealed d filled
    stand same below = record {
      log = x.log;
      beginning = x.beginning;
      base = x.base;
      entries = x.entries;
      has_base = below;
      has = subst (λ (l : List ℕ). HasRecords l (x.beginning ++ map entry_octets x.entries)) (sym same) x.has;
      replays = x.replays;
    }

    go : IsBelow c x.log x.beginning x.base → StandsSealed d filled
    go (inl plain) = stand (ap d plain.0 ∙ agrees.zero ∙ sym (ap c plain.0)) (inl plain)
    go (inr s) =
        let all : List Seal = s.earlier ++ s.last ∷ [] in
        let front = front_of s.earlier s.last in
        let named : (file : ℕ) → Contains (front ++ s.last.log ∷ []) file → d file ≡ c file =
        λ file is. agrees.named file (s.before, all, s.manifest, subst (λ (l : List ℕ). Contains l file) (sym (named_is s.earlier s.last)) is)
        in
        stand (ap d s.log_is ∙ named s.last.log (Contains-append_right front (s.last.log ∷ []) s.last.log (here s.last.log [])) ∙ sym (ap c s.log_is))
        (inr (sealed_same c d x.log x.beginning x.base s agrees.zero (λ file is. named file (Contains-append_left front (s.last.log ∷ []) file is))))
