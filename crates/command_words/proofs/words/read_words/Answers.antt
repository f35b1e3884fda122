use Rattle.std.proofs.Common.{rules, ◌≡◌, ◌≢◌, ◌∙◌, sym, ap, None, Some, true, false, map, string_bytes, List, [], ◌∷◌, refl, inl, inr, ◌⊎◌}
use Rattle.std.specs.Prelude.{Bool}
use Rattle.refusals.specs.declared.refusal.Refusal.{Refusal}
use Rattle.refusals.specs.declared.refusal.Refusal.TheVariants as refused
use Rattle.clap.specs.Words.{App, Row, Text, app_of, matches_of, rows_of, found_of, kind_of, HasKind, Kinds}
use Rattle.clap.specs.Faults.{fault_of}
use Rattle.clap.specs.declared.error.Error.{Error}
use Rattle.clap.specs.declared.error.kind.ErrorKind.TheVariants as kind
use Rattle.command_words.specs.Words.{are_plain, rows_where, rows_of_words, AreNoRows}
use Rattle.command_words.proofs.words.read_words.Goals as goal

found_where : (plain : Bool) (faults : Kinds) (rows : List Row) → plain ≡ true → faults ≡ [] → rows_where plain faults rows ≡ Some rows
found_where plain faults rows p f = rw (p, f) refl

found : (app : App) (words : List Text) (rows : List Row) → are_plain words ≡ true → fault_of app words ≡ [] → rows ≡ matches_of app words → rows_of_words app words ≡ Some rows
unfolding rows_of_words
found app words rows p f r = found_where (are_plain words) (fault_of app words) (matches_of app words) p f ∙ ap (λ (x : List Row). Some x) (sym r)

not_plain : (app : App) (words : List Text) → are_plain words ≡ false → rows_of_words app words ≡ None
unfolding rows_of_words
not_plain app words e = ap (λ (b : Bool). rows_where b (fault_of app words) (matches_of app words)) e

faulty_where : (plain : Bool) (faults : Kinds) (rows : List Row) (e : Error) → HasKind faults e → kind_of e ≢ kind.OutOfMemory → rows_where plain faults rows ≡ None
faulty_where plain [] rows e h n = elim h [ inl memory ↦ absurd (n memory) | inr among ↦ absurd among ]
faulty_where true (k ∷ ks) rows e h n = refl
faulty_where false (k ∷ ks) rows e h n = refl

faulty : (app : App) (words : List Text) (e : Error) → HasKind (fault_of app words) e → kind_of e ≢ kind.OutOfMemory → rows_of_words app words ≡ None
unfolding rows_of_words
faulty app words e h n = faulty_where (are_plain words) (fault_of app words) (matches_of app words) e h n

not_found : (app : App) (words : List Text) (e : Error) (refusal : Refusal) → HasKind (fault_of app words) e →
    ((refusal ≡ refused.Usage) × (kind_of e ≢ kind.OutOfMemory)) ⊎ (refusal ≡ refused.OutOfMemory) → AreNoRows (rows_of_words app words) refusal
not_found app words e refusal h which = elim which [
  | inl usage ↦ rw usage.0 (faulty app words e h usage.1)
  | inr memory ↦ rw memory tt
]

pub returns-in-Ok : goal.returns-in-Ok
returns-in-Ok c =
    let app = app_of c.args.command in
    let words : List Text = map (λ w. string_bytes w) c.args.words.now in
    let plain : are_plain words ≡ true = search rules in record {
      found = found app words (rows_of (found_of c.in-Ok.found)) plain (c.in-Ok.ensures.kinds c.requires.free) (c.in-Ok.ensures.matches c.requires.simple).0;
      none = tt;
    }

pub returns-in-Err : goal.returns-in-Err
returns-in-Err c =
    let app = app_of c.args.command in
    let words : List Text = map (λ w. string_bytes w) c.args.words.now in record {
      found = tt;
      none = not_found app words c.in-Err.error c.refusal_of.result (c.in-Err.ensures.kinds c.requires.free) (elim c.refusal_of.ensures [
        | inl usage ↦ inl (usage.0, λ memory. usage.1 (c.kind.ensures ∙ memory))
        | inr memory ↦ inr memory
      ]);
    }

pub returns-then-not-are_plain : goal.returns-then-not-are_plain
returns-then-not-are_plain c =
    let words : List Text = map (λ w. string_bytes w) c.args.words.now in record {
      found = tt;
      none = not_plain (app_of c.args.command) words (search rules);
    }
