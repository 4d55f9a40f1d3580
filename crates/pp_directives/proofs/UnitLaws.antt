-- A unit from its main file on.
use Rattle.std.proofs.Common.{◌≡◌, ℕ, ◌≤◌, List, [], ◌∷◌, length, Option, Some, None, Result, Ok, Err, refl, ap, sym, ◌∙◌, subst}
use Rattle.cake_base.specs.Counts.{Rose}
use Rattle.cake_base.specs.Outside.{Held, FilesView, ReadKeeps, IsMissing}
use Rattle.cake_base.specs.declared.places.Place.{Place}
use Rattle.model_preprocessing.specs.declared.directives.ReadCause.{ReadCause}
use Rattle.model_preprocessing.specs.declared.directives.ReadCause.TheVariants as cause
use Rattle.model_preprocessing.specs.Processes.{ReadAnswer, NotHeld, Contents, TooLarge, Failed, unread, Log, Process, gives, asks, and_then}
use Rattle.cake_base.specs.declared.rules.Mark.{Mark}
use Rattle.model_preprocessing.specs.Place.{main_place, behind_all, first_position}
use Rattle.model_tokens.specs.PpTokens.{PpToken}
use Rattle.model_preprocessing.specs.Sources.{State}
use Rattle.model_preprocessing.specs.Included.{Deeper, translated}
use Rattle.model_preprocessing.specs.PreprocessedUnit.{Options, Prepared, first_log, beginning, prepared, both_files, whole, main_read, unit}
use Rattle.pp_directives.specs.declared.errors.PrepError.{PrepError}
use Rattle.pp_directives.specs.declared.errors.PrepError.TheVariants as prep_error
use Rattle.pp_directives.specs.Reads.{Answers, Reaches}
use Rattle.pp_directives.specs.Outcomes.{halted, FailsRead, Stops, Runs}
use Rattle.pp_directives.specs.Promise.{Prep, with_log, MissesRose, AnswersStop, IsAnswered, MainCause, MainUnread}
use Rattle.pp_directives.proofs.ReadLaws.{reaches-self, reaches-more, reaches-then, stops-after, stops-then, runs-after}
use Rattle.pp_directives.proofs.SearchLaws.{ask-reaches}

-- ---- both files

pub files-run : {T : Type 0} (a b c : FilesView) (d : Deeper) (dirs : List (List ℕ)) (s u : State) (r : Result T PrepError) (done : T → State) (log : Log) → Reaches a b (translated d dirs 1 s) (gives u) →
    Runs b c (translated d dirs 0 u) r done log → Runs a c (and_then (translated d dirs 1 s) (translated d dirs 0)) r done log
files-run a b c d dirs s u r done log first second =
    runs-after a b c _ (translated d dirs 0 u) r done log (reaches-then a b (translated d dirs 1 s) (gives u) (translated d dirs 0) first) second

pub files-stop : (a b : FilesView) (d : Deeper) (dirs : List (List ℕ)) (s : State) (e : PrepError) (log : Log) → Stops a b (translated d dirs 1 s) e log →
    Stops a b (and_then (translated d dirs 1 s) (translated d dirs 0)) e log
files-stop a b d dirs s e log h = stops-then a b (translated d dirs 1 s) (translated d dirs 0) e log h

-- ---- the main file

unit-asks : (options : Options) (name : List ℕ) → unit options name ≡ asks name (main_read options name)
unfolding unit
unit-asks options name = refl

main-reaches : (old new : FilesView) (options : Options) (name : List ℕ) (answer : ReadAnswer) → ReadKeeps old new → Answers old new name answer → Reaches old new (unit options name) (main_read options name answer)
main-reaches old new options name answer keeps answers =
    subst (λ z. Reaches old new z (main_read options name answer)) (sym (unit-asks options name)) (ask-reaches old new name answer (main_read options name) keeps answers)

missed : (old new : FilesView) (name : List ℕ) (told : Option Held) → IsMissing told name old.misses new.misses → MissesRose told old.misses new.misses
missed old new name None h = h
missed old new name (Some held) h = tt

refuses-main : (old new : FilesView) (options : Options) (name : List ℕ) (file : ℕ) (why : ReadCause) (log : Log) → ReadKeeps old new → file ≡ 0 → log ≡ first_log name → MainCause old new name why →
    AnswersStop old new options name (prep_error.Read file why) log
refuses-main old new options name file cause.MainMissing log keeps number is h =
    let end : main_read options name NotHeld ≡ halted (unread file cause.MainMissing) log = ap (λ n. halted (unread n cause.MainMissing) (first_log name)) (sym number) ∙ ap (halted (unread file cause.MainMissing)) (sym is) in
    (reaches-more old new new _ _ _ (main-reaches old new options name NotHeld keeps h) (reaches-self new _ _ end), missed old new name old.held h)
refuses-main old new options name file cause.TooLarge log keeps number is h =
    let end : main_read options name TooLarge ≡ halted (unread file cause.TooLarge) log = ap (λ n. halted (unread n cause.TooLarge) (first_log name)) (sym number) ∙ ap (halted (unread file cause.TooLarge)) (sym is) in
    reaches-more old new new _ _ _ (main-reaches old new options name TooLarge keeps h) (reaches-self new _ _ end)
refuses-main old new options name file cause.Failed log keeps number is h =
    let end : main_read options name Failed ≡ halted (unread file cause.Failed) log = ap (λ n. halted (unread n cause.Failed) (first_log name)) (sym number) ∙ ap (halted (unread file cause.Failed)) (sym is) in
    record {
      reads = [];
      mid = old;
      answered = refl;
      keeps = keeps;
      rose = h;
      name = name;
      next = main_read options name;
      after = unit-asks options name;
      stops = end;
    }

pub main-unread : (old new : FilesView) (options : Options) (name : List ℕ) (e : PrepError) (log : Log) → ReadKeeps old new → log ≡ first_log name → MainUnread old new name e → AnswersStop old new options name e log
main-unread old new options name (prep_error.Read file why) log keeps is (number, h) = refuses-main old new options name file why log keeps number is h
main-unread old new options name (prep_error.Fault fault) log keeps is h = absurd h
main-unread old new options name (prep_error.Limit hit) log keeps is h = absurd h
main-unread old new options name prep_error.NoMemory log keeps is h = (1, (new, keeps, refl))

pub no-memory : (old new : FilesView) (options : Options) (name : List ℕ) (log : Log) → ReadKeeps old new → AnswersStop old new options name prep_error.NoMemory log
no-memory old new options name log keeps = (1, (new, keeps, refl))

pub no-memory-yet : (old : FilesView) (options : Options) (name : List ℕ) (log : Log) → AnswersStop old old options name prep_error.NoMemory log
no-memory-yet old options name log = (0, refl)

-- ---- the whole

told-apart : (old new : FilesView) (options : Options) (name : List ℕ) (e : PrepError) (log : Log) → Stops old new (unit options name) e log → AnswersStop old new options name e log
told-apart old new options name (prep_error.Fault fault) log h = h
told-apart old new options name (prep_error.Limit hit) log h = h
told-apart old new options name (prep_error.Read file cause.MainMissing) log h = absurd h
told-apart old new options name (prep_error.Read file cause.TooLarge) log h = h
told-apart old new options name (prep_error.Read file cause.Failed) log h = h
told-apart old new options name prep_error.NoMemory log h = h

whole-reaches : (old mid : FilesView) (options : Options) (name text : List ℕ) → ReadKeeps old mid → Answers old mid name (Contents text) → Reaches old mid (unit options name) (whole options name text)
whole-reaches old mid options name text keeps answers = main-reaches old mid options name (Contents text) keeps answers

pub unit-stops : (old mid new : FilesView) (options : Options) (name text : List ℕ) (s : State) (e : PrepError) (log : Log) → ReadKeeps old mid → Answers old mid name (Contents text) → s ≡ beginning options name text →
    Stops mid new (both_files options s) e log → AnswersStop old new options name e log
unit-stops old mid new options name text s e log keeps answers is h =
    let there = subst (λ z. Stops mid new (both_files options z) e log) is h in
    told-apart old new options name e log
    (stops-after old mid new _ (whole options name text) e log (whole-reaches old mid options name text keeps answers)
    (stops-then mid new (both_files options (beginning options name text)) (λ u. gives (prepared text u)) e log there))

pub unit-gives : (old mid new : FilesView) (options : Options) (name text : List ℕ) (s u : State) (p : Prep) (log : Log) → ReadKeeps old mid → Answers old mid name (Contents text) → s ≡ beginning options name text →
    Reaches mid new (both_files options s) (gives u) → with_log log p ≡ prepared text u → Reaches old new (unit options name) (gives (with_log log p))
unit-gives old mid new options name text s u p log keeps answers is h same =
    let there = subst (λ z. Reaches mid new (both_files options z) (gives u)) is h in
    let finish : State → Process Prepared = λ z. gives (prepared text z) in
    let end : finish u ≡ gives (with_log log p) = ap (λ (z : Prepared). let r : Process Prepared = gives z in r) (sym same) in
    reaches-more old mid new _ (whole options name text) _ (whole-reaches old mid options name text keeps answers)
    (reaches-more mid new new _ (finish u) _ (reaches-then mid new (both_files options (beginning options name text)) (gives u) finish there) (reaches-self new _ _ end))

pub same-prepared : (text text' : List ℕ) (u : State) (tokens : List PpToken) (marks : List Mark) (log : Log) (p : Prep) → tokens ≡ u.tokens → marks ≡ u.marks → log ≡ u.log → text' ≡ text →
    p ≡ record { tokens = tokens; marks = marks; end = main_place (behind_all first_position text') (length tokens) } → with_log log p ≡ prepared text u
same-prepared text text' u tokens marks log p t m l x is =
    ap (with_log log) is
    ∙ ap (λ (z : List ℕ). let r : Prepared = record { tokens = tokens; marks = marks; end = main_place (behind_all first_position z) (length tokens); log = log } in r) x
    ∙ ap (λ (z : List PpToken). let r : Prepared = record { tokens = z; marks = marks; end = main_place (behind_all first_position text) (length z); log = log } in r) t
    ∙ ap (λ (z : List Mark). let r : Prepared = record { tokens = u.tokens; marks = z; end = main_place (behind_all first_position text) (length u.tokens); log = log } in r) m
    ∙ ap (λ (z : Log). let r : Prepared = record { tokens = u.tokens; marks = u.marks; end = main_place (behind_all first_position text) (length u.tokens); log = z } in r) l
