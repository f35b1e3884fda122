use Rattle.std.proofs.Common.{◌≡◌, ◌∷◌, ◌<◌, ◌+◌, ℕ, suc, ◌∙◌, sym, subst, length, arith}
use Rattle.arch_disk.specs.declared.call_log.Call.TheVariants.{Wrote, Synced}
use Rattle.arch_disk.proofs.SyncedFiles.{IsSyncedAs, synced_more, synced_all}
use Rattle.arch_disk.proofs.Places.{others_all}
use Rattle.arch_disk.proofs.call_log.CallLog.holding.Goals as goal

pub loop-i-preserved : goal.loop-i-preserved
loop-i-preserved c =
    let files = c.args.files.now.list.items in
    let one : suc c.loop-i.i ≡ c.loop-i.i + 1 = omega arith in
    let s = c.in_ok-write_synced.ensures in
    let w = s.0 in
    let number = c.number-file.result in
    let inside : c.loop-i.i < length files = omega (arith, c.loop-i-test.true, c.places-i-end.ensures) in
    let more = synced_more files c.loop-i.i c.loop-i.call_log w number inside c.number-file.ensures s.1 s.2 (s.3 ∙ c.content.ensures) c.loop-i.invariant in
    subst (IsSyncedAs files (c.loop-i.i + 1)) (sym s.4) (subst (λ (n : ℕ). IsSyncedAs files n (Synced number ∷ Wrote w ∷ c.loop-i.call_log)) one more)

pub returns : goal.returns
returns c =
    let files = c.args.files.now.list.items in
    let end : c.loop-i.i ≡ length files = omega (arith, c.loop-i-test.false, c.loop-i.auto.i-end, c.places-i-end.ensures) in
    synced_all files c.loop-i.call_log (others_all files) (subst (λ (n : ℕ). IsSyncedAs files n c.loop-i.call_log) end c.loop-i.invariant)
