use Rattle.std.proofs.Common.{inl, None, [], refl}
use Rattle.archive_images.proofs.laws.plain_archives_stand.Goals as goal

pub returns : goal.returns
returns c image filled s = record { log = 0; beginning = []; base = None; entries = s.entries; has_base = inl (refl, refl, refl); has = s.has; replays = s.replays }
