use Rattle.std.proofs.Common.{◌≡◌, List, ℕ, true, Some, rules, FitsSigned, w64, sym, subst, ◌∙◌}
use Rattle.std.specs.Prelude.{codes}
use Rattle.std.proofs.lemmas.Int.{to_z-of_z}
use Rattle.std.proofs.lemmas.Result.{IfOk-weaker}
use Rattle.time_text.specs.Digits.{has_shape}
use Rattle.time_text.specs.TimeText.{time_of}
use Rattle.time_text.specs.Spelling.{time_text_of}
use Rattle.time_text.proofs.MomentFacts.{time_text_read}
use Rattle.time_text.proofs.writing.write_time.Goals as goal

written : (c : goal.After-from_slice) → c.time_octets.result ≡ time_text_of c.args.time
written c = let fits : FitsSigned w64 c.args.time = search rules in simp to_z-of_z at c.time_octets.ensures

pub returns-clause-text : goal.returns-clause-text
returns-clause-text c = IfOk-weaker c.from_slice.result _ _ (λ v e. e ∙ written c) c.from_slice.ensures.items

pub returns-clause-shape : goal.returns-clause-shape
returns-clause-shape c =
    let read = time_text_read c.args.time c.requires.from c.requires.to in
    IfOk-weaker c.from_slice.result _ _ (λ v e. subst (λ (text : List ℕ). has_shape (codes "0000-00-00T00:00:00.000") text ≡ true) (sym (e ∙ written c)) read.0) c.from_slice.ensures.items

pub returns-clause-read_back : goal.returns-clause-read_back
returns-clause-read_back c =
    let read = time_text_read c.args.time c.requires.from c.requires.to in
    IfOk-weaker c.from_slice.result _ _ (λ v e. subst (λ (text : List ℕ). time_of text ≡ Some c.args.time) (sym (e ∙ written c)) read.1) c.from_slice.ensures.items
