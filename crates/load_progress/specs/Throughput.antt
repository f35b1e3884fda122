-- The line that is shown of a load.
use Rattle.std.specs.Prelude.{ℕ, ◌*◌, ◌/◌, ◌%◌, max, List, ◌++◌, codes, decimal, Option, Some, None}
use Rattle.load_progress.specs.declared.throughput.Rate.{Rate}

-- how many a second so many are in so many milliseconds, in tenths
abbrev pub tenths_a_second : ℕ → ℕ → ℕ
tenths_a_second count millis = (count * 10000) / max millis 1

-- so many, with how many a second that is
abbrev pub rate_text : ℕ → ℕ → List ℕ
rate_text count millis =
    let tenths = tenths_a_second count millis in
    decimal count ++ codes " (" ++ decimal (tenths / 10) ++ codes "." ++ decimal (tenths % 10) ++ codes " a second)"

-- packets, and fills where they are known
abbrev pub throughput_text : Rate → Option Rate → List ℕ
throughput_text packets None = codes "packets " ++ rate_text packets.count packets.millis
throughput_text packets (Some fills) =
    codes "packets " ++ rate_text packets.count packets.millis
    ++ codes ", fills " ++ rate_text fills.count fills.millis
