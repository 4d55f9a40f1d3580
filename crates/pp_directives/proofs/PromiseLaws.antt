-- What the clauses of preprocessing follow from.
use Rattle.std.proofs.Common.{◌≡◌, ℕ, zero, suc, ◌+◌, ◌≤◌, ◌<◌, true, false, nat_lt, List, [], ◌∷◌, length, Option, Some, None, Result, Ok, Err, refl, ap, sym, ◌∙◌, subst, cond, arith}
use Rattle.std.proofs.lemmas.Bool.Decides.{nat_tests}
use Rattle.cake_base.specs.Counts.{Rose, counted}
use Rattle.cake_base.specs.Outside.{Held, FilesView, ReadKeeps, OneMore, IsMissing, StandsUnder, IsTooLarge, bytes_under, max_file}
use Rattle.model_preprocessing.specs.declared.directives.ReadCause.{ReadCause}
use Rattle.model_preprocessing.specs.declared.directives.ReadCause.TheVariants as cause
use Rattle.model_preprocessing.specs.Processes.{ReadAnswer, NotHeld, Contents, TooLarge, Failed, Stop, broken, passed, unread, Log, Refusal, Process, gives, refuses, asks, among, answer_of, where_read_fails}
use Rattle.model_preprocessing.specs.PreprocessedUnit.{Options, Prepared, unit, preprocessed, preprocessed_up_to}
use Rattle.pp_directives.specs.declared.errors.PrepError.{PrepError}
use Rattle.pp_directives.specs.declared.errors.PrepError.TheVariants as prep_error
use Rattle.pp_directives.specs.Reads.{Asked, Answers, Reads, ReadsKeep, After, Reaches}
use Rattle.pp_directives.specs.Outcomes.{halted, FailsRead, StopsUnread, Stops, Runs}
use Rattle.pp_directives.specs.Promise.{Prep, with_log, refused, IsDueStop, IsDueAnswer, IsDue, RoseBy, StandsUpTo, FailsAt, FailedRead, Kept, MissedMain, AnswersStop, IsAnswered}

-- ---- an answer is what is held

answered : (old new : FilesView) (held : Held) (name : List ℕ) (a : ReadAnswer) → old.held ≡ Some held → Answers old new name a → a ≡ answer_of (bytes_under held name)
answered old new held name NotHeld told h =
    let none : bytes_under held name ≡ None = subst (λ z. IsMissing z name old.misses new.misses) told h in
    sym (ap answer_of none)
answered old new held name (Contents bytes) told h =
    let stands : bytes_under held name ≡ Some bytes = subst (λ z. StandsUnder z name (Some bytes)) told h.1 in
    let short : nat_lt max_file (length bytes) ≡ false = grind (arith, nat_tests, h.0) in
    sym (ap answer_of stands ∙ ap (λ b. cond b TooLarge (Contents bytes)) short)
answered old new held name TooLarge told h =
    let large = subst (λ z. IsTooLarge z name) told h in
    let past : nat_lt max_file (length large.0) ≡ true = grind (arith, nat_tests, large.2) in
    sym (ap answer_of large.1 ∙ ap (λ b. cond b TooLarge (Contents large.0)) past)
answered old new held name Failed told h = absurd h

-- what comes of a process comes of what is left of it after reads that answered what is held
pub among-after : {A : Type 0} (old new : FilesView) (held : Held) (p q : Process A) (reads : List Asked) → old.held ≡ Some held → Reads old reads new → After p reads q → among held p ≡ among held q
among-after old new held p q [] told r e = ap (among held) e
among-after old new held (gives x) q (a ∷ reads) told r e = absurd e
among-after old new held (refuses x) q (a ∷ reads) told r e = absurd e
among-after old new held (asks name f) q (a ∷ reads) told (mid, keeps, answers, rest) (named, after) =
    let is = answered old mid held a.name a.answer told answers in
    let is' : answer_of (bytes_under held name) ≡ a.answer = ap (λ z. answer_of (bytes_under held z)) (sym named) ∙ sym is in
    ap (λ z. among held (f z)) is' ∙ among-after mid new held (f a.answer) q reads (keeps.held ∙ told) rest after

-- the read that fails is the one after those that were answered
pub fails-after : {A : Type 0} (old new : FilesView) (held : Held) (p : Process A) (name : List ℕ) (f : ReadAnswer → Process A) (reads : List Asked) → old.held ≡ Some held → Reads old reads new → After p reads (asks name f) →
    where_read_fails held (suc (length reads)) p ≡ Some (among held (f Failed))
fails-after old new held p name f [] told r e = ap (where_read_fails held 1) e
fails-after old new held (gives x) name f (a ∷ reads) told r e = absurd e
fails-after old new held (refuses x) name f (a ∷ reads) told r e = absurd e
fails-after old new held (asks name' g) name f (a ∷ reads) told (mid, keeps, answers, rest) (named, after) =
    let is = answered old mid held a.name a.answer told answers in
    let is' : answer_of (bytes_under held name') ≡ a.answer = ap (λ z. answer_of (bytes_under held z)) (sym named) ∙ sym is in
    ap (λ z. where_read_fails held (suc (length reads)) (g z)) is' ∙ fails-after mid new held (g a.answer) name f reads (keeps.held ∙ told) rest after

-- ---- what stays

kept-self : (v w : FilesView) → w ≡ v → Kept v w
kept-self v w e =
    let here : Kept v v = record { held = refl; faults = omega arith; misses = omega arith } in subst (Kept v) (sym e) here

kept-more : (a b c : FilesView) → ReadKeeps a b → Kept b c → Kept a c
kept-more a b c k h = record { held = h.held ∙ k.held; faults = omega (arith, k.faults, h.faults); misses = omega (arith, k.misses, h.misses) }

pub reads-kept : (old new : FilesView) (reads : List Asked) → Reads old reads new → Kept old new
reads-kept old new [] e = kept-self old new e
reads-kept old new (a ∷ reads) (mid, keeps, answers, rest) = kept-more old mid new keeps (reads-kept mid new reads rest)

pub keep-kept : (old new : FilesView) (n : ℕ) → ReadsKeep old n new → Kept old new
keep-kept old new zero e = kept-self old new e
keep-kept old new (suc n) (mid, keeps, rest) = kept-more old mid new keeps (keep-kept mid new n rest)

-- ---- the number of reads

told-before : (old new : Option ℕ) (m : ℕ) → OneMore old new → new ≡ Some m → (n : ℕ) × (old ≡ Some n) × (m ≡ n + 1)
told-before None new m h e = absurd (let f : None ≡ Some m = sym h ∙ e in cc)
told-before (Some n) None m h e = cc
told-before (Some n) (Some k) m h e = let s : k ≡ m = cc in (n, refl, sym s ∙ h)

counted-reads : (old new : FilesView) (reads : List Asked) (m : ℕ) → Reads old reads new → new.calls ≡ Some m → (n : ℕ) × (old.calls ≡ Some n) × (m ≡ n + length reads)
counted-reads old new [] m e told = (m, ap (λ v. v.calls) (sym e) ∙ told, omega arith)
counted-reads old new (a ∷ reads) m (mid, keeps, answers, rest) told =
    let more = counted-reads mid new reads m rest told in
    let first = told-before old.calls mid.calls more.0 keeps.calls more.1 in
    (first.0, first.1, let x = first.2 in let y = more.2 in omega (arith, x, y))

risen : (k : ℕ) (old new : Option ℕ) → ((m : ℕ) → new ≡ Some m → (n : ℕ) × (old ≡ Some n) × (m ≡ n + k)) → RoseBy k old new
risen k None new h = tt
risen k (Some n) None h = tt
risen k (Some n) (Some m) h = let x = h m refl in let same : n ≡ x.0 = let e : Some n ≡ Some x.0 = x.1 in cc in let y = x.2 in omega (arith, same, y)

pub rose-by : (old mid new : FilesView) (reads : List Asked) → Reads old reads mid → ReadKeeps mid new → RoseBy (suc (length reads)) old.calls new.calls
rose-by old mid new reads r keeps =
    risen (suc (length reads)) old.calls new.calls (λ m told.
    let last = told-before mid.calls new.calls m keeps.calls told in
    let before = counted-reads old mid reads last.0 r last.1 in
    (before.0, before.1, let x = last.2 in let y = before.2 in omega (arith, x, y)))

-- ---- the clauses

due-refusal : (old new : FilesView) (held : Held) (options : Options) (name : List ℕ) (stop : Stop) (log : Log) → old.held ≡ Some held → Reaches old new (unit options name) (halted stop log) →
    preprocessed held options name ≡ refused stop log
due-refusal old new held options name stop log told (reads, r, after) = among-after old new held (unit options name) (halted stop log) reads told r after

due-stop : (old new : FilesView) (held : Held) (options : Options) (name : List ℕ) (e : PrepError) (log : Log) → old.held ≡ Some held → AnswersStop old new options name e log →
    IsDueStop (preprocessed held options name) e log
due-stop old new held options name (prep_error.Fault fault) log told h = due-refusal old new held options name (broken fault) log told h
due-stop old new held options name (prep_error.Limit hit) log told h = due-refusal old new held options name (passed hit) log told h
due-stop old new held options name (prep_error.Read file cause.MainMissing) log told h = due-refusal old new held options name (unread file cause.MainMissing) log told h.0
due-stop old new held options name (prep_error.Read file cause.TooLarge) log told h = due-refusal old new held options name (unread file cause.TooLarge) log told h
due-stop old new held options name (prep_error.Read file cause.Failed) log told h = tt
due-stop old new held options name prep_error.NoMemory log told h = tt

due-answer : (old new : FilesView) (held : Held) (options : Options) (name : List ℕ) (result : Result Prep PrepError) (log : Log) → old.held ≡ Some held → IsAnswered old new options name result log →
    IsDueAnswer (preprocessed held options name) result log
due-answer old new held options name (Ok p) log told (reads, r, after) = among-after old new held (unit options name) (gives (with_log log p)) reads told r after
due-answer old new held options name (Err e) log told h = due-stop old new held options name e log told h

pub is-due : (old new : FilesView) (options : Options) (name : List ℕ) (result : Result Prep PrepError) (log : Log) → IsAnswered old new options name result log → IsDue old.held options name result log
is-due old new options name result log h =
    (elim old.held as (λ t. old.held ≡ t → IsDue t options name result log) [ None ↦ λ e. tt | Some held ↦ λ e. due-answer old new held options name result log e h ]) refl

rose-on : (a b c : ℕ) → a ≤ b → Rose b c → Rose a c
rose-on a b c h r = omega (arith, h, r)

stands : (old mid : FilesView) (options : Options) (name : List ℕ) (file : ℕ) (log : Log) (reads : List Asked) (asked : List ℕ) (f : ReadAnswer → Process Prepared) (told : Option Held) → old.held ≡ told → Reads old reads mid →
    After (unit options name) reads (asks asked f) → f Failed ≡ halted (unread file cause.Failed) log → StandsUpTo told options name (suc (length reads)) file log
stands old mid options name file log reads asked f None told r after e = tt
stands old mid options name file log reads asked f (Some held) told r after e =
    fails-after old mid held (unit options name) asked f reads told r after ∙ ap (λ z. Some (among held z)) e

fails-at : (old new : FilesView) (options : Options) (name : List ℕ) (file : ℕ) (log : Log) → FailsRead old new (unit options name) file log → FailsAt old new options name file log
fails-at old new options name file log h =
    let kept = reads-kept old h.mid h.reads h.answered in
    record {
      k = suc (length h.reads);
      rose = rose-on old.faults h.mid.faults new.faults kept.faults h.rose;
      reads = rose-by old h.mid new h.reads h.answered h.keeps;
      stands = stands old h.mid options name file log h.reads h.name h.next old.held refl h.answered h.after h.stops;
    }

pub failed-read : (old new : FilesView) (options : Options) (name : List ℕ) (result : Result Prep PrepError) (log : Log) → IsAnswered old new options name result log → FailedRead old new options name result log
failed-read old new options name (Ok p) log h = tt
failed-read old new options name (Err (prep_error.Fault fault)) log h = tt
failed-read old new options name (Err (prep_error.Limit hit)) log h = tt
failed-read old new options name (Err (prep_error.Read file cause.MainMissing)) log h = tt
failed-read old new options name (Err (prep_error.Read file cause.TooLarge)) log h = tt
failed-read old new options name (Err (prep_error.Read file cause.Failed)) log h = fails-at old new options name file log h
failed-read old new options name (Err prep_error.NoMemory) log h = tt

fails-kept : (old new : FilesView) (options : Options) (name : List ℕ) (file : ℕ) (log : Log) → FailsRead old new (unit options name) file log → Kept old new
fails-kept old new options name file log h =
    let kept = reads-kept old h.mid h.reads h.answered in
    record { held = h.keeps.held ∙ kept.held; faults = omega (arith, kept.faults, h.keeps.faults); misses = omega (arith, kept.misses, h.keeps.misses) }

pub all-kept : (old new : FilesView) (options : Options) (name : List ℕ) (result : Result Prep PrepError) (log : Log) → IsAnswered old new options name result log → Kept old new
all-kept old new options name (Ok p) log (reads, r, after) = reads-kept old new reads r
all-kept old new options name (Err (prep_error.Fault fault)) log (reads, r, after) = reads-kept old new reads r
all-kept old new options name (Err (prep_error.Limit hit)) log (reads, r, after) = reads-kept old new reads r
all-kept old new options name (Err (prep_error.Read file cause.MainMissing)) log ((reads, r, after), missed) = reads-kept old new reads r
all-kept old new options name (Err (prep_error.Read file cause.TooLarge)) log (reads, r, after) = reads-kept old new reads r
all-kept old new options name (Err (prep_error.Read file cause.Failed)) log h = fails-kept old new options name file log h
all-kept old new options name (Err prep_error.NoMemory) log (n, keeps) = keep-kept old new n keeps

pub missed-main : (old new : FilesView) (options : Options) (name : List ℕ) (result : Result Prep PrepError) (log : Log) → IsAnswered old new options name result log → MissedMain old new result
missed-main old new options name (Ok p) log h = tt
missed-main old new options name (Err (prep_error.Fault fault)) log h = tt
missed-main old new options name (Err (prep_error.Limit hit)) log h = tt
missed-main old new options name (Err (prep_error.Read file cause.MainMissing)) log h = h.1
missed-main old new options name (Err (prep_error.Read file cause.TooLarge)) log h = tt
missed-main old new options name (Err (prep_error.Read file cause.Failed)) log h = tt
missed-main old new options name (Err prep_error.NoMemory) log h = tt
