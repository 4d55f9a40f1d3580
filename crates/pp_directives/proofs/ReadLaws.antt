-- Reads one after another, and what is left of a process after them.
use Rattle.std.proofs.Common.{◌≡◌, ℕ, zero, suc, List, [], ◌∷◌, ◌++◌, Result, Ok, Err, refl, ap, sym, ◌∙◌, subst}
use Rattle.cake_base.specs.Outside.{FilesView, ReadKeeps}
use Rattle.model_preprocessing.specs.declared.directives.ReadCause.{ReadCause}
use Rattle.model_preprocessing.specs.declared.directives.ReadCause.TheVariants as cause
use Rattle.model_preprocessing.specs.Processes.{ReadAnswer, Failed, Stop, Log, Process, gives, refuses, asks, and_then}
use Rattle.pp_directives.specs.declared.errors.PrepError.{PrepError}
use Rattle.pp_directives.specs.declared.errors.PrepError.TheVariants as prep_error
use Rattle.pp_directives.specs.Reads.{Asked, Answers, Reads, ReadsKeep, After, Reaches}
use Rattle.pp_directives.specs.Outcomes.{halted, Halts, Does, FailsRead, StopsUnread, Stops, Runs}

-- ---- chains

reads-append : (old mid new : FilesView) (xs bs : List Asked) → Reads old xs mid → Reads mid bs new → Reads old (xs ++ bs) new
reads-append old mid new [] bs e r = subst (λ z. Reads z bs new) e r
reads-append old mid new (a ∷ xs) bs (next, keeps, answers, rest) r = (next, keeps, answers, reads-append next mid new xs bs rest r)

keep-append : (old mid new : FilesView) (xs : List Asked) (n : ℕ) → Reads old xs mid → ReadsKeep mid n new → (m : ℕ) × ReadsKeep old m new
keep-append old mid new [] n e r = (n, subst (λ z. ReadsKeep z n new) e r)
keep-append old mid new (a ∷ xs) n (next, keeps, answers, rest) r =
    let more = keep-append next mid new xs n rest r in (suc more.0, (next, keeps, more.1))

after-append : {A : Type 0} (p q r : Process A) (xs bs : List Asked) → After p xs q → After q bs r → After p (xs ++ bs) r
after-append p q r [] bs e h = subst (λ z. After z bs r) (sym e) h
after-append (gives x) q r (a ∷ xs) bs e h = absurd e
after-append (refuses x) q r (a ∷ xs) bs e h = absurd e
after-append (asks name f) q r (a ∷ xs) bs (named, rest) h = (named, after-append (f a.answer) q r xs bs rest h)

after-then : {A B : Type 0} (p q : Process A) (xs : List Asked) (f : A → Process B) → After p xs q → After (and_then p f) xs (and_then q f)
after-then p q [] f e = ap (λ z. and_then z f) e
after-then (gives x) q (a ∷ xs) f e = absurd e
after-then (refuses x) q (a ∷ xs) f e = absurd e
after-then (asks name g) q (a ∷ xs) f (named, rest) = (named, after-then (g a.answer) q xs f rest)

-- ---- where reads lead

pub reaches-self : {A : Type 0} (old : FilesView) (p q : Process A) → p ≡ q → Reaches old old p q
reaches-self old p q e = ([], refl, e)

pub reaches-more : {A : Type 0} (old mid new : FilesView) (p q r : Process A) → Reaches old mid p q → Reaches mid new q r → Reaches old new p r
reaches-more old mid new p q r (xs, reads, after) (bs, more, further) =
    (xs ++ bs, reads-append old mid new xs bs reads more, after-append p q r xs bs after further)

pub reaches-then : {A B : Type 0} (old new : FilesView) (p q : Process A) (f : A → Process B) → Reaches old new p q → Reaches old new (and_then p f) (and_then q f)
reaches-then old new p q f (xs, reads, after) = (xs, reads, after-then p q xs f after)

-- ---- what a call answers after them

fails-after : {A : Type 0} (old mid new : FilesView) (p q : Process A) (file : ℕ) (log : Log) → Reaches old mid p q → FailsRead mid new q file log → FailsRead old new p file log
fails-after old mid new p q file log (xs, reads, after) h = record {
  reads = xs ++ h.reads;
  mid = h.mid;
  answered = reads-append old mid h.mid xs h.reads reads h.answered;
  keeps = h.keeps;
  rose = h.rose;
  name = h.name;
  next = h.next;
  after = after-append p q (asks h.name h.next) xs h.reads after h.after;
  stops = h.stops;
}

pub stops-after : {A : Type 0} (old mid new : FilesView) (p q : Process A) (e : PrepError) (log : Log) → Reaches old mid p q → Stops mid new q e log → Stops old new p e log
stops-after old mid new p q (prep_error.Fault fault) log h s = reaches-more old mid new p q _ h s
stops-after old mid new p q (prep_error.Limit hit) log h s = reaches-more old mid new p q _ h s
stops-after old mid new p q (prep_error.Read file cause.MainMissing) log h s = absurd s
stops-after old mid new p q (prep_error.Read file cause.TooLarge) log h s = reaches-more old mid new p q _ h s
stops-after old mid new p q (prep_error.Read file cause.Failed) log h s = fails-after old mid new p q file log h s
stops-after old mid new p q prep_error.NoMemory log (xs, reads, after) (n, keeps) = keep-append old mid new xs n reads keeps

pub runs-after : {A T : Type 0} (old mid new : FilesView) (p q : Process A) (result : Result T PrepError) (done : T → A) (log : Log) →
    Reaches old mid p q → Runs mid new q result done log → Runs old new p result done log
runs-after old mid new p q (Ok value) done log h r = reaches-more old mid new p q _ h r
runs-after old mid new p q (Err e) done log h r = stops-after old mid new p q e log h r

pub stops-then : {A B : Type 0} (old new : FilesView) (p : Process A) (f : A → Process B) (e : PrepError) (log : Log) → Stops old new p e log → Stops old new (and_then p f) e log
stops-then old new p f (prep_error.Fault fault) log s = reaches-then old new p _ f s
stops-then old new p f (prep_error.Limit hit) log s = reaches-then old new p _ f s
stops-then old new p f (prep_error.Read file cause.MainMissing) log s = absurd s
stops-then old new p f (prep_error.Read file cause.TooLarge) log s = reaches-then old new p _ f s
stops-then old new p f (prep_error.Read file cause.Failed) log s = record {
  reads = s.reads;
  mid = s.mid;
  answered = s.answered;
  keeps = s.keeps;
  rose = s.rose;
  name = s.name;
  next = λ answer. and_then (s.next answer) f;
  after = after-then p (asks s.name s.next) s.reads f s.after;
  stops = ap (λ z. and_then z f) s.stops;
}
stops-then old new p f prep_error.NoMemory log s = s

-- ---- calls that ask for nothing

halts-stops : {A : Type 0} (old : FilesView) (p : Process A) (e : PrepError) (log : Log) → Halts p e log → Stops old old p e log
halts-stops old p (prep_error.Fault fault) log h = reaches-self old p _ h
halts-stops old p (prep_error.Limit hit) log h = reaches-self old p _ h
halts-stops old p (prep_error.Read file why) log h = absurd h
halts-stops old p prep_error.NoMemory log h = (0, refl)

pub does-runs : {A T : Type 0} (old : FilesView) (p : Process A) (result : Result T PrepError) (done : T → A) (log : Log) → Does p result done log → Runs old old p result done log
does-runs old p (Ok value) done log h = reaches-self old p _ h
does-runs old p (Err e) done log h = halts-stops old p e log h

pub halts-then : {A B : Type 0} (p : Process A) (f : A → Process B) (e : PrepError) (log : Log) → Halts p e log → Halts (and_then p f) e log
halts-then p f (prep_error.Fault fault) log h = ap (λ z. and_then z f) h
halts-then p f (prep_error.Limit hit) log h = ap (λ z. and_then z f) h
halts-then p f (prep_error.Read file why) log h = h
halts-then p f prep_error.NoMemory log h = tt
