use Rattle.std.proofs.Common.{Option, subst}
use Rattle.std.proofs.lemmas.Result.{err_from_is_err_and}
use Rattle.command_words.specs.JobView.{create_words_of}
use Rattle.command_plans.specs.Inputs.{WasRead}
use Rattle.outer_traits.specs.Outside.{Files}
use Rattle.archive_commands.specs.Create.{IsScriptUnread, named_inputs, named_script_plan}
use Rattle.archive_commands.proofs.CreatePlan.{head_answered, head_unread, script_unread}
use Rattle.archive_commands.proofs.create.read_head.Goals as goal

pub returns-in_err-sheets-clause-read : goal.returns-in_err-sheets-clause-read
returns-in_err-sheets-clause-read g c =
    let state = g.I.Inputs.state in
    let p = err_from_is_err_and c.from_residual.result c.from_residual.ensures.1 in
    rw (p.1, p.2) (head_unread (state c.args.inputs.now).files (create_words_of c.args.words) (state c.args.inputs.now) (state c.read_mdb.new.inputs) c.in_err-sheets.field-0.0 c.in_err-sheets.ensures.read)

pub returns-in-Ok-clause-read : goal.returns-in-Ok-clause-read
returns-in-Ok-clause-read g c =
    let state = g.I.Inputs.state in
    let a = state c.args.inputs.now in
    let b = state c.read_mdb.new.inputs in
    let d = state c.read_named_script.new.inputs in
    let words = create_words_of c.args.words in
    let sheets = c.in_ok-sheets.ensures in
    let text = c.in-Ok.text.items in
    let script = subst (λ (f : Option Files). WasRead (named_script_plan f words.script) text (named_inputs words.script) b d) sheets.same c.in-Ok.ensures.read in
    head_answered a.files words a b c.in_ok-sheets.sheets sheets.read d text script c.head_of.result (rw c.as_slice.ensures.value at c.head_of.ensures.answer)

pub returns-clause-read : goal.returns-clause-read
returns-clause-read g c =
    let state = g.I.Inputs.state in
    let a = state c.args.inputs.now in
    let b = state c.read_mdb.new.inputs in
    let d = state c.read_named_script.new.inputs in
    let words = create_words_of c.args.words in
    let sheets = c.in_ok-sheets.ensures in
    let script = subst (λ (f : Option Files). IsScriptUnread f words.script b d c.in-Err.refusal) sheets.same c.in-Err.ensures.unread in
    script_unread a.files words a b c.in_ok-sheets.sheets sheets.read d c.in-Err.refusal script
