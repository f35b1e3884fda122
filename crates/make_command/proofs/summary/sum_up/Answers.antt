use Rattle.std.proofs.Common.{Option, Some, None, length, subst}
use Rattle.refusals.specs.declared.refusal.Refusal.{Refusal}
use Rattle.archive_store.specs.Pages.{HasPages, TellsRows}
use Rattle.archive_store.specs.StoreView.{filled_of}
use Rattle.command_runs.specs.Reading.{WasRead}
use Rattle.make_command.specs.Summing.{IsSummaryReply, counts_behind}
use Rattle.make_command.proofs.SummaryTexts.{read_up, reported_up, summed_up}
use Rattle.make_command.proofs.summary.sum_up.Goals as goal

-- all was printed
pub returns-in-None : goal.returns-in-None
returns-in-None g c =
    let device = g.D.Disk.device in
    let store = c.args.store.now in
    let new = c.print_summary.new.store in
    let dumps = c.args.dumps in
    let before = g.K.Sink.state c.args.sink.now in
    let after = g.K.Sink.state c.print_summary.new.sink in
    let rows = length store.history in
    let front = c.front-rows.result in
    let reply = subst (λ (o : Option Refusal). TellsRows device store → IsSummaryReply (HasPages store) c.args.seed (counts_behind dumps front) (filled_of store) o before after) c.in-None.is c.print_summary.ensures.reply in
    let read = subst (λ (o : Option Refusal). WasRead device store new o) c.in-None.is c.print_summary.ensures.read in
    record {
      reply = summed_up device store new c.args.seed dumps rows front c.front-rows.ensures None c.loaded.result before after c.loaded.ensures reply;
      report = reported_up device store new c.args.seed dumps rows front c.front-rows.ensures None c.loaded.result before after c.loaded.ensures;
      read = read_up device store new c.args.seed dumps rows front c.front-rows.ensures None c.loaded.result before after c.loaded.ensures read;
    }

-- not to its end, or nothing was
pub returns-in-Some : goal.returns-in-Some
returns-in-Some g c =
    let device = g.D.Disk.device in
    let store = c.args.store.now in
    let new = c.print_summary.new.store in
    let dumps = c.args.dumps in
    let before = g.K.Sink.state c.args.sink.now in
    let after = g.K.Sink.state c.print_summary.new.sink in
    let refusal = c.in-Some.refusal in
    let rows = length store.history in
    let front = c.front-rows.result in
    let reply = subst (λ (o : Option Refusal). TellsRows device store → IsSummaryReply (HasPages store) c.args.seed (counts_behind dumps front) (filled_of store) o before after) c.in-Some.is c.print_summary.ensures.reply in
    let read = subst (λ (o : Option Refusal). WasRead device store new o) c.in-Some.is c.print_summary.ensures.read in
    record {
      reply = summed_up device store new c.args.seed dumps rows front c.front-rows.ensures (Some refusal) c.stopped.result before after c.stopped.ensures reply;
      report = reported_up device store new c.args.seed dumps rows front c.front-rows.ensures (Some refusal) c.stopped.result before after c.stopped.ensures;
      read = read_up device store new c.args.seed dumps rows front c.front-rows.ensures (Some refusal) c.stopped.result before after c.stopped.ensures read;
    }
