use Rattle.std.proofs.Common.{◌≡◌, ◌+◌, ◌++◌, ◌≤◌, length, vec_len, vec_capacity}
use Rattle.std.specs.List.{filter_map}
use Rattle.live_session.specs.Results.{answers_in, end_in, other_in, source_in}
use Rattle.live_session.proofs.results.sort_results.Given as goal

-- what was sorted so far, and what is left
abbrev pub invariant-loop-end : goal.invariant-loop-end
invariant-loop-end g l = record {
  sources : l.sources.items ++ filter_map source_in l.end-iterator.rest.items ≡ filter_map source_in l.fn.ends.items;
  ends : l.link_ends.items ++ filter_map end_in l.end-iterator.rest.items ≡ filter_map end_in l.fn.ends.items;
  answers : l.answers.items ++ filter_map answers_in l.end-iterator.rest.items ≡ filter_map answers_in l.fn.ends.items;
  others : l.others.items ++ filter_map other_in l.end-iterator.rest.items ≡ filter_map other_in l.fn.ends.items;
  sources_room : vec_len l.sources + length l.end-iterator.rest.items ≤ vec_capacity l.sources;
  ends_room : vec_len l.link_ends + length l.end-iterator.rest.items ≤ vec_capacity l.link_ends;
  answers_room : vec_len l.answers + length l.end-iterator.rest.items ≤ vec_capacity l.answers;
  others_room : vec_len l.others + length l.end-iterator.rest.items ≤ vec_capacity l.others;
}
