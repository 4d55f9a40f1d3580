-- What preprocessing comes to by the reads of a call, where the files don't tell what they hold.
use Rattle.std.proofs.Common.{◌≡◌, ℕ, ◌≤◌, List, [], ◌∷◌, length, Option, None, Result, Ok, Err, refl, sym, ap, ◌∙◌, subst, arith}
use Rattle.cake_base.specs.Counts.{Rose}
use Rattle.cake_base.specs.Outside.{FilesView, IsMissing, max_file}
use Rattle.model_preprocessing.specs.PreprocessedUnit.{Prepared}
use Rattle.model_preprocessing.specs.Processes.{ReadAnswer, NotHeld, Contents, TooLarge, Failed, Refusal, Process, gives, refuses, asks}
use Rattle.pp_directives.specs.Reads.{Asked, Answers, Reads, After, Reaches}
use Rattle.cake_cli.specs.Call.{MayAnswer, ComesOf}

-- a count that rose in one read rose in the whole call
rose_within : (first before now last : ℕ) → first ≤ before → now ≤ last → Rose before now → Rose first last
rose_within first before now last lo hi rose = omega (arith, lo, hi, rose)

up_to : (a b c : ℕ) → a ≤ b → b ≤ c → a ≤ c
up_to a b c h k = omega (arith, h, k)

misses_grow : (old new : FilesView) (reads : List Asked) → Reads old reads new → old.misses ≤ new.misses
misses_grow old new [] e = subst (λ f. old.misses ≤ f.misses) (sym e) (same old.misses)
  where
    same : (n : ℕ) → n ≤ n
    same n = omega arith
misses_grow old new (r ∷ rs) (mid, keeps, answers, more) = up_to old.misses mid.misses new.misses keeps.misses (misses_grow mid new rs more)

may_answer : (first last old mid : FilesView) (name : List ℕ) (answer : ReadAnswer) → old.held ≡ None → first.misses ≤ old.misses → mid.misses ≤ last.misses → Answers old mid name answer → MayAnswer first last answer
may_answer first last old mid name NotHeld untold lo hi is = rose_within first.misses old.misses mid.misses last.misses lo hi (subst (λ told. IsMissing told name old.misses mid.misses) untold is)
may_answer first last old mid name (Contents bytes) untold lo hi is = is.0
may_answer first last old mid name TooLarge untold lo hi is = tt
may_answer first last old mid name Failed untold lo hi is = absurd is

after_comes : (first last old new : FilesView) (p q : Process Prepared) (reads : List Asked) (done : Result Prepared Refusal) → old.held ≡ None → first.misses ≤ old.misses → new.misses ≤ last.misses → Reads old reads new → After p reads q → ComesOf first last q done → ComesOf first last p done
after_comes first last old new p q [] done untold lo hi are e h = subst (λ x. ComesOf first last x done) (sym e) h
after_comes first last old new (gives unit) q (r ∷ rs) done untold lo hi are e h = absurd e
after_comes first last old new (refuses refusal) q (r ∷ rs) done untold lo hi are e h = absurd e
after_comes first last old new (asks name next) q (r ∷ rs) done untold lo hi (mid, keeps, answers, more) (named, rest) h =
    let on = misses_grow mid new rs more in (
      r.answer,
      may_answer first last old mid r.name r.answer untold lo (up_to mid.misses new.misses last.misses on hi) answers,
      after_comes first last mid new (next r.answer) q rs done (keeps.held ∙ untold) (up_to first.misses old.misses mid.misses lo keeps.misses) hi more rest h,
    )

pub reaches_comes : (old new : FilesView) (p q : Process Prepared) (done : Result Prepared Refusal) → old.held ≡ None → Reaches old new p q → ComesOf old new q done → ComesOf old new p done
reaches_comes old new p q done untold (reads, are, after) h = after_comes old new old new p q reads done untold (same old.misses) (same new.misses) are after h
  where
    same : (n : ℕ) → n ≤ n
    same n = omega arith

-- empty files lead to something
pub some_done : (old new : FilesView) (p : Process Prepared) → (done : Result Prepared Refusal) × ComesOf old new p done
some_done old new (gives unit) = (Ok unit, refl)
some_done old new (refuses refusal) = (Err refusal, refl)
some_done old new (asks name next) = let rest = some_done old new (next (Contents [])) in (rest.0, (Contents [], empty, rest.1))
  where
    empty : 0 ≤ max_file
    empty = omega arith
