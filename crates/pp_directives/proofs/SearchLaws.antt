-- The steps of the search for a file.
use Rattle.std.proofs.Common.{◌≡◌, ℕ, suc, ◌+◌, ◌≤◌, Bool, true, false, List, [], ◌∷◌, ◌++◌, length, map, drop, slice_get, slice_index, ◌==◌, Option, Some, None, Result, Ok, Err, refl, ap, sym, ◌∙◌, subst, cond, arith}
use Rattle.std.specs.Str.{is_utf8}
use Rattle.std.proofs.lemmas.List.{length-append, length-map}
use Rattle.std.proofs.lemmas.Option.{slice_get_past}
use Rattle.cake_base.specs.declared.places.Place.{Place}
use Rattle.cake_base.specs.Counts.{Rose}
use Rattle.cake_base.specs.Outside.{FilesView, ReadKeeps, StandsUnder, max_file}
use Rattle.model_preprocessing.specs.declared.directives.ReadCause.{ReadCause}
use Rattle.model_preprocessing.specs.declared.directives.ReadCause.TheVariants as cause
use Rattle.model_preprocessing.specs.Includes.{HeaderName, candidates, beside, directory, within, SLASH}
use Rattle.model_preprocessing.specs.Processes.{ReadAnswer, NotHeld, Contents, TooLarge, Failed, unread, Log, Process, gives, refuses, asks}
use Rattle.model_preprocessing.specs.Sources.{State, number_of, next_file, named}
use Rattle.model_preprocessing.specs.FileSearch.{Found, taken, read_file, looked_up, searched, built_in_header}
use Rattle.pp_directives.specs.declared.errors.PrepError.{PrepError}
use Rattle.pp_directives.specs.declared.errors.PrepError.TheVariants as prep_error
use Rattle.pp_directives.specs.declared.search.Looked as looked
use Rattle.pp_directives.specs.declared.search.Looked.TheVariants as looks
use Rattle.pp_directives.specs.Reads.{Asked, Answers, Reads, ReadsKeep, After, Reaches}
use Rattle.pp_directives.specs.Outcomes.{halted, Halts, Does, FailsRead, StopsUnread, Stops, Runs}
use Rattle.pp_directives.specs.Looks.{Looks, Unread}
use Rattle.pp_lines.proofs.RankLaws.{at_rank-plus, past_end}
use Rattle.pp_directives.proofs.ReadLaws.{reaches-self, reaches-more, stops-after, runs-after, does-runs}

-- ---- one read

pub ask-reaches : {A : Type 0} (old new : FilesView) (name : List ℕ) (answer : ReadAnswer) (f : ReadAnswer → Process A) → ReadKeeps old new → Answers old new name answer → Reaches old new (asks name f) (f answer)
ask-reaches old new name answer f keeps answers = (record { name = name; answer = answer } ∷ [], (new, keeps, answers, refl), (refl, refl))

pub contents-read : (old new : FilesView) (name before text after : List ℕ) → before ≡ [] → text ≡ after → (bytes : List ℕ) × (after ≡ before ++ bytes) × (length bytes ≤ max_file) × StandsUnder old.held name (Some bytes) →
    Answers old new name (Contents text)
contents-read old new name before text after none same (bytes, e, short, stands) =
    let all : bytes ≡ text = sym (same ∙ e ∙ ap (λ z. z ++ bytes) none) in
    (subst (λ z. length z ≤ max_file) all short, subst (λ z. StandsUnder old.held name (Some z)) all stands)

pub contents-short : (old new : FilesView) (name text : List ℕ) → Answers old new name (Contents text) → length text ≤ max_file
contents-short old new name text a = a.0

pub ask-found : (old new : FilesView) (at : Place) (name text : List ℕ) (s s' : State) (onward : Process Found) (file : ℕ) → ReadKeeps old new → Answers old new name (Contents text) →
    taken at name text s ≡ gives (Some file, s') → Reaches old new (asks name (read_file at name s onward)) (gives (Some file, s'))
ask-found old new at name text s s' onward file keeps answers e =
    reaches-more old new new _ (taken at name text s) _ (ask-reaches old new name (Contents text) (read_file at name s onward) keeps answers) (reaches-self new _ _ e)

pub ask-stops : (old new : FilesView) (at : Place) (name text : List ℕ) (s : State) (onward : Process Found) (e : PrepError) (log : Log) → ReadKeeps old new → Answers old new name (Contents text) →
    Halts (taken at name text s) e log → Stops old new (asks name (read_file at name s onward)) e log
ask-stops old new at name text s onward e log keeps answers h =
    stops-after old new new _ (taken at name text s) e log (ask-reaches old new name (Contents text) (read_file at name s onward) keeps answers)
    (does-runs {T = Unit {0}} new (taken at name text s) (Err e) (λ u. (None, s)) log h)

named_log : (s s' : State) (name : List ℕ) → s' ≡ named name s → (named name s).log ≡ s'.log
named_log s s' name e = ap (λ z. z.log) (sym e)

pub large-stops : (old new : FilesView) (at : Place) (name : List ℕ) (s s' : State) (onward : Process Found) (e : PrepError) → ReadKeeps old new → Answers old new name TooLarge →
    Unread s name cause.TooLarge e s' → Stops old new (asks name (read_file at name s onward)) e s'.log
large-stops old new at name s s' onward (prep_error.Read file why) keeps answers (number, same, state) =
    let p : Process Found = asks name (read_file at name s onward) in
    let end : halted (unread (next_file s) cause.TooLarge) (named name s).log ≡ halted (unread file cause.TooLarge) s'.log =
    ap (λ n. halted (unread n cause.TooLarge) (named name s).log) (sym number) ∙ ap (halted (unread file cause.TooLarge)) (named_log s s' name state) in
    let there : StopsUnread old new p file cause.TooLarge s'.log =
    reaches-more old new new p _ _ (ask-reaches old new name TooLarge (read_file at name s onward) keeps answers) (reaches-self new _ _ end) in
    subst (λ w. StopsUnread old new p file w s'.log) (sym same) there
large-stops old new at name s s' onward (prep_error.Fault fault) keeps answers u = absurd u
large-stops old new at name s s' onward (prep_error.Limit hit) keeps answers u = absurd u
large-stops old new at name s s' onward prep_error.NoMemory keeps answers u = (1, (new, keeps, refl))

pub failed-stops : (old new : FilesView) (at : Place) (name : List ℕ) (s s' : State) (onward : Process Found) (e : PrepError) → ReadKeeps old new → Rose old.faults new.faults →
    Unread s name cause.Failed e s' → Stops old new (asks name (read_file at name s onward)) e s'.log
failed-stops old new at name s s' onward (prep_error.Read file why) keeps rose (number, same, state) =
    let p : Process Found = asks name (read_file at name s onward) in
    let end : halted (unread (next_file s) cause.Failed) (named name s).log ≡ halted (unread file cause.Failed) s'.log =
    ap (λ n. halted (unread n cause.Failed) (named name s).log) (sym number) ∙ ap (halted (unread file cause.Failed)) (named_log s s' name state) in
    let there : StopsUnread old new p file cause.Failed s'.log = record {
      reads = [];
      mid = old;
      answered = refl;
      keeps = keeps;
      rose = rose;
      name = name;
      next = read_file at name s onward;
      after = refl;
      stops = end;
    } in
    subst (λ w. StopsUnread old new p file w s'.log) (sym same) there
failed-stops old new at name s s' onward (prep_error.Fault fault) keeps rose u = absurd u
failed-stops old new at name s s' onward (prep_error.Limit hit) keeps rose u = absurd u
failed-stops old new at name s s' onward prep_error.NoMemory keeps rose u = (1, (new, keeps, refl))

-- ---- one name

pub looked-asks : (at : Place) (full : List ℕ) (s : State) (onward : Process Found) → number_of full s.held ≡ None → is_utf8 full ≡ true →
    looked_up at full s onward (number_of full s.held) ≡ asks full (read_file at full s onward)
looked-asks at full s onward none text = ap (looked_up at full s onward) none ∙ ap (λ b. cond b (asks full (read_file at full s onward)) onward) text

pub looked-on : (at : Place) (full : List ℕ) (s : State) (onward : Process Found) → number_of full s.held ≡ None → is_utf8 full ≡ false →
    looked_up at full s onward (number_of full s.held) ≡ onward
looked-on at full s onward none text = ap (looked_up at full s onward) none ∙ ap (λ b. cond b (asks full (read_file at full s onward)) onward) text

pub looks-asked : (old new : FilesView) (at : Place) (name full : List ℕ) (s s' : State) (result : Result looked.Looked PrepError) → name ≡ full → number_of full s.held ≡ None → is_utf8 full ≡ true →
    ((onward : Process Found) → Looks old new (asks name (read_file at name s onward)) onward result s s') →
    (onward : Process Found) → Looks old new (looked_up at full s onward (number_of full s.held)) onward result s s'
looks-asked old new at name full s s' result same none text h onward =
    subst (λ p. Looks old new p onward result s s') (sym (looked-asks at full s onward none text))
    (subst (λ z. Looks old new (asks z (read_file at z s onward)) onward result s s') same (h onward))

-- ---- all names

pub next-name : (at : Place) (name : List ℕ) (fulls : List (List ℕ)) (n : ℕ) (full : List ℕ) (s : State) → slice_get fulls n ≡ Some full →
    searched at name (drop n fulls) s ≡ looked_up at full s (searched at name (drop (n + 1) fulls) s) (number_of full s.held)
next-name at name fulls n full s here = ap (λ z. searched at name z s) (at_rank-plus fulls n full here)

pub no-name : (at : Place) (name : List ℕ) (fulls : List (List ℕ)) (n : ℕ) (s : State) → slice_get fulls n ≡ None →
    searched at name (drop n fulls) s ≡ built_in_header at name s (number_of name s.built_in)
no-name at name fulls n s none = ap (λ z. searched at name z s) (past_end fulls n none)

-- what the search for one name gives, for the whole search
module _ (a b c : FilesView) (at : Place) (name : List ℕ) (fulls : List (List ℕ)) (s u : State) (n : ℕ) (full : List ℕ) where
  up_to : Reaches a b (searched at name fulls s) (searched at name (drop n fulls) s) → u ≡ s → slice_get fulls n ≡ Some full →
      Reaches a b (searched at name fulls s) (looked_up at full u (searched at name (drop (n + 1) fulls) s) (number_of full u.held))
  up_to reached same here =
      reaches-more a b b _ (searched at name (drop n fulls) s) _ reached
      (reaches-self b _ _ (next-name at name fulls n full s here ∙ ap (λ z. looked_up at full z (searched at name (drop (n + 1) fulls) s) (number_of full z.held)) (sym same)))

  pub held-stops : (u' : State) (e : PrepError) → Reaches a b (searched at name fulls s) (searched at name (drop n fulls) s) → u ≡ s → slice_get fulls n ≡ Some full →
      ((onward : Process Found) → Stops b c (looked_up at full u onward (number_of full u.held)) e u'.log) → Stops a c (searched at name fulls s) e u'.log
  held-stops u' e reached same here h =
      stops-after a b c _ (looked_up at full u (searched at name (drop (n + 1) fulls) s) (number_of full u.held)) e u'.log (up_to reached same here) (h (searched at name (drop (n + 1) fulls) s))

  pub held-found : (u' : State) (file : Option ℕ) → Reaches a b (searched at name fulls s) (searched at name (drop n fulls) s) → u ≡ s → slice_get fulls n ≡ Some full →
      ((onward : Process Found) → Reaches b c (looked_up at full u onward (number_of full u.held)) (gives (file, u'))) → Reaches a c (searched at name fulls s) (gives (file, u'))
  held-found u' file reached same here h =
      reaches-more a b c _ (looked_up at full u (searched at name (drop (n + 1) fulls) s) (number_of full u.held)) _ (up_to reached same here) (h (searched at name (drop (n + 1) fulls) s))

  pub held-next : (u' : State) → Reaches a b (searched at name fulls s) (searched at name (drop n fulls) s) → u ≡ s → slice_get fulls n ≡ Some full →
      ((onward : Process Found) → Reaches b c (looked_up at full u onward (number_of full u.held)) onward) → Reaches a c (searched at name fulls s) (searched at name (drop (n + 1) fulls) s)
  held-next u' reached same here h =
      reaches-more a b c _ (looked_up at full u (searched at name (drop (n + 1) fulls) s) (number_of full u.held)) _ (up_to reached same here) (h (searched at name (drop (n + 1) fulls) s))

  pub held-absent : Reaches a b (searched at name fulls s) (searched at name (drop n fulls) s) → slice_get fulls n ≡ None →
      Reaches a b (searched at name fulls s) (built_in_header at name s (number_of name s.built_in))
  held-absent reached none = reaches-more a b b _ (searched at name (drop n fulls) s) _ reached (reaches-self b _ _ (no-name at name fulls n s none))

-- ---- how many names there are

front : (b : Bool) (x : List ℕ) → length (cond b (x ∷ []) []) ≤ 1
front true x = omega arith
front false x = omega arith

some_first : (b : Bool) (one : List ℕ) (all : List (List ℕ)) (n : ℕ) → length all ≤ n + 1 → length (cond b (one ∷ []) all) ≤ n + 1
some_first true one all n h = omega arith
some_first false one all n h = h

few-names : (including : List ℕ) (dirs : List (List ℕ)) (h : HeaderName) → length (candidates including dirs h) ≤ length dirs + 1
few-names including dirs h =
    let one = front h.quoted (beside (directory including) h.name) in
    let rest = length-map dirs (λ dir. within dir h.name) in
    let both = length-append (cond h.quoted (beside (directory including) h.name ∷ []) []) (map (λ dir. within dir h.name) dirs) in
    some_first (slice_index h.name 0 == SLASH) h.name _ (length dirs) (omega (arith, one, rest, both))

pub past-names : (including : List ℕ) (dirs : List (List ℕ)) (h : HeaderName) (n : ℕ) → length dirs + 1 ≤ n → slice_get (candidates including dirs h) n ≡ None
past-names including dirs h n past = let few = few-names including dirs h in slice_get_past (candidates including dirs h) n (omega (arith, few))

pub memory-stops : {A : Type 0} (a b : FilesView) (p q : Process A) → Reaches a b p q → (n : ℕ) × ReadsKeep a n b
memory-stops a b p q reached = stops-after a b b p q prep_error.NoMemory (record { names = []; notes = [] }) reached (0, refl)

pub found-built-in : (a b : FilesView) (at : Place) (name key : List ℕ) (p : Process Found) (s u u' : State) (r : Result (Option ℕ) PrepError) →
    Reaches a b p (built_in_header at name s (number_of name s.built_in)) → u ≡ s → key ≡ name → Does (built_in_header at key u (number_of key u.built_in)) r (λ file. (file, u')) u'.log →
    Runs a b p r (λ file. (file, u')) u'.log
found-built-in a b at name key p s u u' r reached same named h =
    let there : Does (built_in_header at name s (number_of name s.built_in)) r (λ file. (file, u')) u'.log =
    subst (λ z. Does (built_in_header at name z (number_of name z.built_in)) r (λ file. (file, u')) u'.log) same
    (subst (λ k. Does (built_in_header at k u (number_of k u.built_in)) r (λ file. (file, u')) u'.log) named h) in
    runs-after a b b p (built_in_header at name s (number_of name s.built_in)) r (λ file. (file, u')) u'.log reached (does-runs b _ r (λ file. (file, u')) u'.log there)
