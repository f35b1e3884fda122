-- Where a file stands in a list of files.
use Rattle.std.proofs.Common.{◌≡◌, ◌≢◌, ℕ, zero, suc, ◌<◌, List, [], ◌∷◌, ◌++◌, length, get_or, set, inl, inr, refl, sym, ◌∙◌, ap, subst, arith, length-append}
use Rattle.std.specs.Prelude.{Result, Ok, Err, OnErr, if◌then◌else◌, ◌==◌}
use Rattle.std.proofs.lemmas.Bool.{cases_eq}
use Rattle.std.proofs.lemmas.Bool.Decides.{nat_tests}
use Rattle.arch_disk.specs.Image.{Image, InFile, Becomes}
use Rattle.arch_disk.specs.Steps.{at_itself, elsewhere}
use Rattle.arch_disk.specs.Files.{content_of, AreOthers, IsFirstAt}
use Rattle.arch_disk.specs.declared.files.File.{File}

-- an element doesn't depend on what stands for a missing one
pub get_any : (files : List File) (i : ℕ) (d e : File) → i < length files → get_or files i d ≡ get_or files i e
get_any [] i d e lt = absurd (omega arith)
get_any (file ∷ files) zero d e lt = refl
get_any (file ∷ files) (suc i) d e lt = get_any files i d e (omega arith)

-- one file more that has another number
pub others_step : (files : List File) (number i : ℕ) (file : File) → i < length files → get_or files i file ≡ file → file.number ≢ number → AreOthers files number i → AreOthers files number (suc i)
others_step [] number i file lt is other others = absurd (omega arith)
others_step (x ∷ files) number zero file lt is other others = (subst (λ (y : File). y.number ≢ number) (sym is) other, tt)
others_step (x ∷ files) number (suc i) file lt is other others = (others.0, others_step files number i file (omega arith) is other others.1)

pub others_all : (files : List File) (number : ℕ) → AreOthers files number (length files) → content_of files number ≡ []
others_all [] number others = refl
others_all (x ∷ files) number others = elsewhere x.number number x.octets.items (content_of files number) (λ same. others.0 (sym same)) ∙ others_all files number others.1

pub first_content : (files : List File) (number i : ℕ) (file : File) → AreOthers files number i → i < length files → get_or files i file ≡ file → file.number ≡ number → content_of files number ≡ file.octets.items
first_content [] number i file others lt is same = absurd (omega arith)
first_content (x ∷ files) number zero file others lt is same = ap (λ (n : ℕ). if n == x.number then x.octets.items else content_of files n) (sym same ∙ ap (λ (y : File). y.number) (sym is)) ∙ at_itself x.number x.octets.items (content_of files x.number) ∙ ap (λ (y : File). y.octets.items) is
first_content (x ∷ files) number (suc i) file others lt is same = elsewhere x.number number x.octets.items (content_of files number) (λ e. others.0 (sym e)) ∙ first_content files number i file others.1 (omega arith) is same

-- another file in its place
set_here : (files : List File) (number i : ℕ) (file : File) → AreOthers files number i → i < length files → file.number ≡ number → content_of (set files i file) number ≡ file.octets.items
set_here [] number i file others lt same = absurd (omega arith)
set_here (x ∷ files) number zero file others lt same = ap (λ (n : ℕ). if n == file.number then file.octets.items else content_of files n) (sym same) ∙ at_itself file.number file.octets.items (content_of files file.number)
set_here (x ∷ files) number (suc i) file others lt same = elsewhere x.number number x.octets.items (content_of (set files i file) number) (λ e. others.0 (sym e)) ∙ set_here files number i file others.1 (omega arith) same

set_others : (files : List File) (number i : ℕ) (file : File) → i < length files → (get_or files i file).number ≡ number → file.number ≡ number → (g : ℕ) → g ≢ number → content_of (set files i file) g ≡ content_of files g
set_others [] number i file lt was same g other = absurd (omega arith)
set_others (x ∷ files) number zero file lt was same g other =
    elsewhere file.number g file.octets.items (content_of files g) (λ e. other (e ∙ same)) ∙ sym (elsewhere x.number g x.octets.items (content_of files g) (λ e. other (e ∙ was)))
set_others (x ∷ files) number (suc i) file lt was same g other = ap (λ (l : List ℕ). if g == x.number then x.octets.items else l) (set_others files number i file (omega arith) was same g other)

replaced : (files : List File) (number i : ℕ) (file : File) (f : List ℕ → List ℕ) → IsFirstAt files number i → file.number ≡ number → file.octets.items ≡ f (content_of files number) → InFile (Becomes f) number (content_of files) (content_of (set files i file))
replaced files number i file f first same is = record {
  here = set_here files number i file first.2 first.0 same ∙ is;
  others = λ g other. set_others files number i file first.0 (first.1 file) same g other;
}

-- an empty file at the end
pub push_content : (files : List File) (file : File) → file.octets.items ≡ [] → (g : ℕ) → content_of (files ++ file ∷ []) g ≡ content_of files g
push_content [] file none g = grind (arith, nat_tests, none)
push_content (x ∷ files) file none g = ap (λ (l : List ℕ). if g == x.number then x.octets.items else l) (push_content files file none g)

push_others : (files : List File) (number : ℕ) (file : File) → AreOthers files number (length files) → AreOthers (files ++ file ∷ []) number (length files)
push_others [] number file others = tt
push_others (x ∷ files) number file others = (others.0, push_others files number file others.1)

push_last : (files : List File) (file d : File) → get_or (files ++ file ∷ []) (length files) d ≡ file
push_last [] file d = refl
push_last (x ∷ files) file d = push_last files file d

pub push_first : (files new : List File) (number i : ℕ) (file : File) → new ≡ files ++ file ∷ [] → i ≡ length files → file.number ≡ number → AreOthers files number (length files) → IsFirstAt new number i
push_first files new number i file is at same others = subst (λ (l : List File). IsFirstAt l number i) (sym is) (subst (λ (n : ℕ). IsFirstAt (files ++ file ∷ []) number n) (sym at) (
  omega (arith, length-append files (file ∷ [])),
  λ d. ap (λ (y : File). y.number) (push_last files file d) ∙ same,
  push_others files number file others,
))

-- the file at i is the one that is found by its number
pub found_content : (files : List File) (number i : ℕ) (file : File) → IsFirstAt files number i → file ≡ get_or files i file → content_of files number ≡ file.octets.items
found_content files number i file first is = first_content files number i file first.2 first.0 (sym is) (ap (λ (y : File). y.number) is ∙ first.1 file)

-- a step of the octets of the file that was found
pub changed : (start files : List File) (number i : ℕ) (file now : File) (f : List ℕ → List ℕ) → ((g : ℕ) → content_of files g ≡ content_of start g) → IsFirstAt files number i → file ≡ get_or files i file → now.number ≡ file.number → now.octets.items ≡ f file.octets.items
    → InFile (Becomes f) number (content_of start) (content_of (set files i now))
changed start files number i file now f same first is number_is done =
    let found : now.octets.items ≡ f (content_of files number) = done ∙ ap f (sym (found_content files number i file first is)) in
    let step = replaced files number i now f first (number_is ∙ ap (λ (y : File). y.number) is ∙ first.1 file) found in
    record { here = step.here ∙ ap f (same number); others = λ g other. step.others g other ∙ same g }

-- a file that becomes what it was changes nothing
pub unchanged : (file : ℕ) (old new : Image) → InFile (Becomes (λ x. x)) file old new → (g : ℕ) → new g ≡ old g
unchanged file old new same g = elim (cases_eq g file) [
  | inl is ↦ ap new is ∙ same.here ∙ ap old (sym is)
  | inr other ↦ same.others g other
]

pub on_err : {T E P : Type 0} (r : Result T E) → P → OnErr r P
on_err (Ok x) p = tt
on_err (Err e) p = p
