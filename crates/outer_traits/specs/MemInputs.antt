-- What files in memory are.
use Rattle.std.specs.Prelude.{◌≡◌, ◌==◌, ◌&&◌, ℕ, ◌<◌, Bool, List, map, length, Some, IsSome, string_bytes, slice_index_or}
use Rattle.std.specs.FinMap.{from_entries, get}
use Rattle.std.specs.List.{list_any}
use Rattle.outer_traits.specs.Outside.{Files}
use Rattle.outer_traits.specs.declared.mem_inputs.FailingCall.{FailingCall}
use Rattle.outer_traits.specs.declared.mem_inputs.File.{File}

-- the octets of a file, by its name
abbrev pub entry_of : File → List ℕ × List ℕ
entry_of file = (string_bytes file.name, file.octets.items)

-- of files with one name the first counts
abbrev pub files_of : List File → Files
files_of files = from_entries (map entry_of files)

-- the file at a place is the one of a name
abbrev pub HasFile : List File → List ℕ → ℕ → Type 0
HasFile files name i =
    (i < length files) × IsSome (get (files_of files) name) × ((d : File) → get (files_of files) name ≡ Some (slice_index_or files i d).octets.items)

-- a call is among those that are to fail, by the number of its opening, and 0 or the number of its read
abbrev pub is_failing_input_call : List FailingCall → ℕ → ℕ → Bool
is_failing_input_call calls opening read = list_any (λ call. (call.opening == opening) && (call.read == read)) calls
