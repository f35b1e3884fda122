-- The search for a name in files.
use Rattle.std.proofs.Common.{◌≡◌, ℕ, ◌+◌, ◌<◌, List, length, get_or, drop, map, true, false, Some, add-one}
use Rattle.std.specs.Prelude.{string_bytes, nat_eq}
use Rattle.std.specs.Ordering.{nat_cmp}
use Rattle.std.specs.Cmp.Lexicographic.{slice_cmp}
use Rattle.std.specs.FinMap.{find}
use Rattle.std.proofs.Math.Seq.{drop-cons}
use Rattle.std.proofs.lemmas.Map.Text.{is_eq-slice_cmp}
use Rattle.outer_traits.specs.declared.mem_inputs.File.{File}
use Rattle.outer_traits.specs.MemInputs.{entry_of}
use lib.Pointwise.{pointwise}

pub find_hit : (name : List ℕ) (files : List File) (i : ℕ) (d : File) → i < length files →
    pointwise nat_eq name (string_bytes (get_or files i d).name) ≡ true →
    find (slice_cmp nat_cmp) name (map entry_of (drop i files)) ≡ Some (get_or files i d).octets.items
find_hit name files i d h e = rw (drop-cons files i d h, is_eq-slice_cmp name (string_bytes (get_or files i d).name), e)

pub find_miss : (name : List ℕ) (files : List File) (i : ℕ) (d : File) → i < length files →
    pointwise nat_eq name (string_bytes (get_or files i d).name) ≡ false →
    find (slice_cmp nat_cmp) name (map entry_of (drop i files)) ≡ find (slice_cmp nat_cmp) name (map entry_of (drop (i + 1) files))
find_miss name files i d h e = rw (drop-cons files i d h, is_eq-slice_cmp name (string_bytes (get_or files i d).name), e, add-one)
