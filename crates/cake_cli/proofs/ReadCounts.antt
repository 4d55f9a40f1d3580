-- How many reads there are, where the files tell what they hold and count their reads.
use Rattle.std.proofs.Common.{◌≡◌, ℕ, suc, ◌+◌, ◌<◌, ◌≤◌, List, [], ◌∷◌, length, Option, Some, None, true, false, nat_lt, if◌then◌else◌, refl, sym, ap, ◌∙◌, subst, arith}
use Rattle.std.proofs.lemmas.Bool.Decides.{nat_tests}
use Rattle.cake_base.specs.Outside.{Held, bytes_under, max_file, FilesView, OneMore, StandsUnder, IsMissing, IsTooLarge}
use Rattle.model_preprocessing.specs.Processes.{ReadAnswer, NotHeld, Contents, TooLarge, Failed, answer_of, Process, gives, refuses, asks, reads}
use Rattle.pp_directives.specs.Promise.{RoseBy}
use Rattle.pp_directives.specs.Reads.{Asked, Answers, Reads, After, Reaches}

-- ---- what a read answers is what is held

small : (m n : ℕ) → n ≤ m → nat_lt m n ≡ false
small m n h = grind (arith, nat_tests)

large : (m n : ℕ) → m < n → nat_lt m n ≡ true
large m n h = grind (arith, nat_tests)

-- where it is told what the files hold
abbrev Told : Held → Option Held → List ℕ → (before now : ℕ) → ReadAnswer → Type 0
Told held told name before now NotHeld = IsMissing told name before now
Told held told name before now (Contents bytes) = (length bytes ≤ max_file) × StandsUnder told name (Some bytes)
Told held told name before now TooLarge = IsTooLarge told name
Told held told name before now Failed = ⊥

held_answer : (held : Held) (name : List ℕ) (before now : ℕ) (answer : ReadAnswer) → Told held (Some held) name before now answer → answer ≡ answer_of (bytes_under held name)
held_answer held name before now NotHeld a = ap answer_of (sym a)
held_answer held name before now (Contents bytes) a =
    sym (ap answer_of a.1 ∙ ap (λ b. if b then TooLarge else Contents bytes) (small max_file (length bytes) a.0))
held_answer held name before now TooLarge a =
    sym (ap answer_of a.1 ∙ ap (λ b. if b then TooLarge else Contents a.0) (large max_file (length a.0) a.2))
held_answer held name before now Failed a = absurd a

told_answer : (held : Held) (old new : FilesView) (name : List ℕ) (answer : ReadAnswer) → Answers old new name answer → Told held old.held name old.misses new.misses answer
told_answer held old new name NotHeld a = a
told_answer held old new name (Contents bytes) a = a
told_answer held old new name TooLarge a = a
told_answer held old new name Failed a = a

answer_is : (held : Held) (old new : FilesView) (name : List ℕ) (answer : ReadAnswer) → old.held ≡ Some held → Answers old new name answer → answer ≡ answer_of (bytes_under held name)
answer_is held old new name answer told a =
    held_answer held name old.misses new.misses answer (subst (λ h. Told held h name old.misses new.misses answer) told (told_answer held old new name answer a))

-- ---- one more read

untold_stays : (mid new : FilesView) (rs : List Asked) → Reads mid rs new → mid.calls ≡ None → new.calls ≡ None
untold_stays mid new [] e n = ap (λ v. v.calls) e ∙ n
untold_stays mid new (r ∷ rs) (next, keeps, a, rest) n = untold_stays next new rs rest (one_none mid.calls next.calls keeps.calls n)
  where
    one_none : (o n : Option ℕ) → OneMore o n → o ≡ None → n ≡ None
    one_none None n h e = h
    one_none (Some o) n h e = absurd (let b : Some o ≡ None = e in cc)

rose_more : (n : ℕ) (old mid new : Option ℕ) → OneMore old mid → (mid ≡ None → new ≡ None) → RoseBy n mid new → RoseBy (suc n) old new
rose_more n None mid new one none rose = tt
rose_more n (Some o) mid None one none rose = tt
rose_more n (Some o) None (Some w) one none rose = absurd (let b : Some w ≡ None = none refl in cc)
rose_more n (Some o) (Some m) (Some w) one none rose = let more : w ≡ o + suc n = omega (arith, one, rose) in more

-- nothing more is asked
abbrev pub IsOver : {A : Type 0} → Process A → Type 0
IsOver (gives a) = Unit {0}
IsOver (refuses r) = Unit {0}
IsOver (asks name f) = ⊥

no_reads : {A : Type 0} (held : Held) (p : Process A) → IsOver p → reads held p ≡ []
no_reads held (gives a) o = refl
no_reads held (refuses r) o = refl
no_reads held (asks name f) o = absurd o

rose_none : (calls calls' : Option ℕ) → calls' ≡ calls → RoseBy 0 calls calls'
rose_none None calls' e = tt
rose_none (Some n) None e = tt
rose_none (Some n) (Some m) e = let both : Some m ≡ Some n = e in (let same : m ≡ n = cc in omega (arith, same))

pub count_reads : {A : Type 0} (held : Held) (old new : FilesView) (p q : Process A) (rs : List Asked) → old.held ≡ Some held → Reads old rs new → After p rs q → IsOver q → RoseBy (length (reads held p)) old.calls new.calls
count_reads held old new p q [] told e after over =
    subst (λ n. RoseBy n old.calls new.calls) (sym (ap length (no_reads held p (subst IsOver (sym after) over)))) (rose_none old.calls new.calls (ap (λ v. v.calls) e))
count_reads held old new (gives a) q (r ∷ rs) told e after over = absurd after
count_reads held old new (refuses x) q (r ∷ rs) told e after over = absurd after
count_reads held old new (asks name f) q (r ∷ rs) told (mid, keeps, a, rest) (named, after) over =
    let is : r.answer ≡ answer_of (bytes_under held name) = answer_is held old mid r.name r.answer told a ∙ ap (λ n. answer_of (bytes_under held n)) named in
    rose_more (length (reads held (f (answer_of (bytes_under held name))))) old.calls mid.calls new.calls keeps.calls (untold_stays mid new rs rest)
    (count_reads held mid new (f (answer_of (bytes_under held name))) q rs (keeps.held ∙ told) rest (subst (λ x. After (f x) rs q) is after) over)

pub count_reached : {A : Type 0} (held : Held) (old new : FilesView) (p q : Process A) → old.held ≡ Some held → Reaches old new p q → IsOver q → RoseBy (length (reads held p)) old.calls new.calls
count_reached held old new p q told (rs, are, after) over = count_reads held old new p q rs told are after over
