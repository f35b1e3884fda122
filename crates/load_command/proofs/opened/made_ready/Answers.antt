use Rattle.std.proofs.Common.{◌∙◌, Bor, List, Option, inl, sym, ℕ}
use Rattle.std.specs.Prelude.{option_map}
use Rattle.archive_store.specs.StoreView.{archive_of}
use Rattle.command_words.specs.JobView.{load_words_of}
use Rattle.retrieval.specs.FoundAsks.{asks_found}
use Rattle.load_command.specs.declared.opened.Ready.{Ready}
use Rattle.load_command.specs.Loading.{load_asked}
use Rattle.load_command.proofs.ReadyLoads as lemma
use Rattle.load_command.proofs.opened.made_ready.Goals as goal

abbrev named : Option (Bor (List ℕ)) → Option (List ℕ)
named = option_map (λ (text : Bor (List ℕ)). text.now)

-- there's a link for each dump

pub returns-in-None-clause-ready : goal.returns-in-None-clause-ready
returns-in-None-clause-ready g c =
    lemma.made_ready (archive_of c.args.store.now) (load_asked (load_words_of c.args.words.now) (named c.args.text) c.args.sheet) (sym c.links_refusal.ensures ∙ c.in-None.is)
    (λ (ready : Ready). ready.graph) (λ (ready : Ready). asks_found ready.asks) c.route_and_asks.result c.route_and_asks.ensures.answered c.route_and_asks.ensures.answerable

pub returns-in-None-clause-unready : goal.returns-in-None-clause-unready
returns-in-None-clause-unready g c =
    lemma.not_ready (archive_of c.args.store.now) (load_asked (load_words_of c.args.words.now) (named c.args.text) c.args.sheet) (sym c.links_refusal.ensures ∙ c.in-None.is)
    c.route_and_asks.result c.route_and_asks.ensures.refused

-- or there isn't
pub returns-in-Some-clause-unready : goal.returns-in-Some-clause-unready
returns-in-Some-clause-unready g c = inl (sym c.links_refusal.ensures ∙ c.in-Some.is)
