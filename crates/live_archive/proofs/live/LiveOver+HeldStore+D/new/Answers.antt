use Rattle.std.proofs.Common.{refl}
use Rattle.live_archive.proofs.Shelving.{unshelved_start}
use Rattle.live_archive.proofs.live.LiveOver+HeldStore+D.new.Goals as goal

pub new-requires : goal.new-requires
new-requires g c = record { start = unshelved_start g.D.Disk.device _ refl refl }
