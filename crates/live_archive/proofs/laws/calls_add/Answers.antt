use Rattle.live_archive.proofs.Added.{abandons_add, asks_add, asks_add_nothing, begins_add, closes_add, ingests_add, installs_add}
use Rattle.live_archive.proofs.laws.calls_add.Goals as goal

pub returns : goal.returns
returns g c =
    let device = g.D.Disk.device in
    record {
      ingests = ingests_add _ device;
      begins = begins_add _ device;
      installs = installs_add _ device;
      abandons = abandons_add _ device;
      closes = closes_add _ device;
      asks = asks_add_nothing _ device;
      unread = asks_add _ device;
    }
