-- The job of what clap finds in words.
use Rattle.std.proofs.Common.{◌≡◌, ◌≤◌, ◌⊎◌, inl, inr, ℕ, List, [], ◌∷◌, length, Bool, true, false, Option, Some, None, refl, subst, leb-true, arith}
use Rattle.std.specs.Prelude.{option_map, option_and_then, codes, nat_le, if◌then◌else◌}
use Rattle.refusals.specs.declared.refusal.Refusal.{Refusal}
use Rattle.refusals.specs.declared.refusal.Refusal.TheVariants.{Usage, OutOfMemory}
use Rattle.clap.specs.Walk.{Row, Text, all_of, first_of}
use Rattle.text_forms.specs.Digits.{digits_at_most}
use Rattle.command_words.specs.declared.job.CommandName.{CommandName}
use Rattle.command_words.specs.declared.job.CommandName.TheVariants as name
use Rattle.command_words.specs.Job.{Job, Scan, Values, Create, Load, Recover, Verify, Make, values_words, create_words, load_words, query_words, number_or_one, from_one, seed_of, command_named, app_of_command, job_in, command_job, job_of, HasLoadWords, IsNoJob}
use Rattle.command_words.specs.Words.{rows_of_words, AreNoRows}
use Rattle.command_words.specs.Given.{if_any, one_of_two, repeated_words}

-- where nothing was found there is no job
pub no_rows : (of : List Row → Option Job) (found : Option (List Row)) (refusal : Refusal) → AreNoRows found refusal → IsNoJob (option_and_then of found) refusal
no_rows of found Usage h = rw h refl
no_rows of found OutOfMemory h = tt
no_rows of found other h = absurd h

-- ---- each job that loads has the words of a load

this_job : (made job : Job) → ◌≡◌ {A = Option Job} (Some made) (Some job) → HasLoadWords made → HasLoadWords job
this_job made job e h = let same : made ≡ job = cc in subst HasLoadWords same h

no_job : (job : Job) → ◌≡◌ {A = Option Job} None (Some job) → HasLoadWords job
no_job job e = absurd (cc (e))

named_given : {A : Type 0} (make : A → Job) (name : Option A) (job : Job) → ((n : A) → HasLoadWords (make n)) → option_map make name ≡ Some job → HasLoadWords job
named_given make None job h e = no_job job e
named_given make (Some n) job h e = this_job (make n) job e (h n)

query_given : (given : List ℕ ⊎ List ℕ) → HasLoadWords (query_words given)
query_given (inl script) = tt
query_given (inr asks) = tt

values_given : (a b c d e : Option (List ℕ)) (job : Job) → values_words a b c d e ≡ Some job → HasLoadWords job
values_given (Some p) (Some q) (Some r) (Some s) (Some t) job is =
    this_job (Values (record { parameters = p; calibrations = q; containers = r; dump = s; name = t })) job is tt
values_given a b c d e job is = no_job job is

create_given : (a b c script : Option (List ℕ)) (job : Job) → create_words a b c script ≡ Some job → HasLoadWords job
create_given (Some p) (Some q) (Some r) script job is = this_job (Create (record { parameters = p; calibrations = q; containers = r; script = script })) job is tt
create_given a b c script job is = no_job job is

some_words : (all : Option (List Text)) (dumps : List Text) → option_and_then if_any all ≡ Some dumps → 1 ≤ length dumps
some_words None dumps e = absurd (cc (e))
some_words (Some []) dumps e = absurd (cc (e))
some_words (Some (word ∷ words)) dumps e = let same : word ∷ words ≡ dumps = cc in subst (λ (l : List Text). 1 ≤ length l) same (omega arith)

one_where : (b : Bool) (n m : ℕ) → nat_le 1 n ≡ b → ◌≡◌ {A = Option ℕ} (if b then Some n else None) (Some m) → 1 ≤ m
one_where true n m is e = let same : n ≡ m = cc in subst (λ (k : ℕ). 1 ≤ k) same (leb-true 1 n is)
one_where false n m is e = absurd (cc (e))

digits_from_one : (digits : Option ℕ) (m : ℕ) → option_and_then from_one digits ≡ Some m → 1 ≤ m
digits_from_one None m e = absurd (cc (e))
digits_from_one (Some n) m e = one_where (nat_le 1 n) n m refl e

number_from_one : (word : Option (List ℕ)) (m : ℕ) → number_or_one word ≡ Some m → 1 ≤ m
number_from_one None m e = let same : 1 ≡ m = cc in omega (arith, same)
number_from_one (Some word) m e = digits_from_one (digits_at_most 19 word) m e

load_given : (dumps : Option (List Text)) (link fillers : Option ℕ) (asks route : Option Text) (job : Job) → ((d : List Text) → dumps ≡ Some d → 1 ≤ length d) → ((n : ℕ) → link ≡ Some n → 1 ≤ n) →
    ((n : ℕ) → fillers ≡ Some n → 1 ≤ n) → load_words dumps link fillers asks route ≡ Some job → HasLoadWords job
load_given (Some d) (Some l) (Some f) asks route job h i j is =
    this_job (Load (record { dumps = d; link = l; fillers = f; asks = asks; route = route })) job is (record { dumps = h d refl; link = i l refl; fillers = j f refl })
load_given dumps link fillers asks route job h i j is = no_job job is

found_given : (command : CommandName) (rows : List Row) (job : Job) → job_in command rows ≡ Some job → HasLoadWords job
found_given name.Scan rows job = named_given Scan (first_of (codes "dump") rows) job (λ n. tt)
found_given name.Values rows job =
    values_given (first_of (codes "parameters") rows) (first_of (codes "calibrations") rows) (first_of (codes "containers") rows) (first_of (codes "dump") rows) (first_of (codes "name") rows) job
found_given name.Create rows job =
    create_given (first_of (codes "parameters") rows) (first_of (codes "calibrations") rows) (first_of (codes "containers") rows) (first_of (codes "script") rows) job
found_given name.Load rows job =
    load_given (repeated_words (codes "dump") rows) (number_or_one (first_of (codes "link") rows)) (number_or_one (first_of (codes "fillers") rows)) (first_of (codes "ask") rows) (first_of (codes "route") rows)
    job (some_words (all_of (codes "dump") rows)) (number_from_one (first_of (codes "link") rows)) (number_from_one (first_of (codes "fillers") rows))
found_given name.Query rows job = named_given query_words (one_of_two (first_of (codes "sql") rows) (first_of (codes "ask") rows)) job query_given
found_given name.Recover rows job = λ is. this_job Recover job is tt
found_given name.Verify rows job = λ is. this_job Verify job is tt
found_given name.Make rows job = named_given Make (option_and_then seed_of (first_of (codes "number") rows)) job (λ seed. tt)

rows_given : (command : CommandName) (found : Option (List Row)) (job : Job) → option_and_then (job_in command) found ≡ Some job → HasLoadWords job
rows_given command None job e = no_job job e
rows_given command (Some rows) job e = found_given command rows job e

command_given : (command : Option CommandName) (words : List (List ℕ)) (job : Job) → option_and_then (λ c. command_job c words) command ≡ Some job → HasLoadWords job
command_given None words job e = no_job job e
command_given (Some command) words job e = rows_given command (rows_of_words (app_of_command command) words) job e

pub has_load_words : (words : List (List ℕ)) (job : Job) → job_of words ≡ Some job → HasLoadWords job
has_load_words [] job e = no_job job e
has_load_words (word ∷ words) job e = command_given (command_named word) words job e
