-- Whatever preprocessing does, the names that files have stay in front, and a read that fails ends it with the file that was asked for.
use Rattle.std.proofs.Common.{◌≡◌, ℕ, zero, suc, ◌+◌, ◌-◌, ◌<◌, Bool, true, false, if◌then◌else◌, List, [], ◌∷◌, ◌++◌, length, drop, nat_lt, slice_get, Option, Some, None, Result, Ok, Err, refl, ap, ◌∙◌, subst, arith, append_assoc}
use Rattle.std.specs.Str.{is_utf8}
use Rattle.cake_base.specs.declared.places.Place.{Place}
use Rattle.cake_base.specs.declared.rules.Fault.{Fault}
use Rattle.cake_base.specs.Outside.{Held, bytes_under}
use Rattle.model_preprocessing.specs.declared.directives.ReadCause.TheVariants as cause
use Rattle.model_preprocessing.specs.declared.directives.Group.{Group}
use Rattle.model_preprocessing.specs.declared.directives.Group.TheVariants.{Taken, Sought, Passed}
use Rattle.model_preprocessing.specs.declared.directives.Conditional.{Conditional}
use Rattle.model_preprocessing.specs.declared.directives.LineKind.{LineKind}
use Rattle.model_preprocessing.specs.declared.directives.LineKind.TheVariants as line
use Rattle.model_preprocessing.specs.declared.directives.Pragma.{Pragma}
use Rattle.model_preprocessing.specs.declared.directives.Pragma.TheVariants as pragma
use Rattle.model_tokens.specs.PpTokens.{PpToken}
use Rattle.model_macros.specs.Macros.{Macro, found, clashes}
use Rattle.model_macros.specs.MacroDefinitions.{is_name, reserved, definition}
use Rattle.model_macros.specs.MacroArguments.{is_nil}
use Rattle.model_macros.specs.Expansion as expansion
use Rattle.model_macros.specs.ExpansionFunction.{expand}
use Rattle.model_conditions.specs.Conditions.{condition}
use Rattle.model_preprocessing.specs.Conditionals.{Conditionals, is_translated, opened, next_group, outermost}
use Rattle.model_preprocessing.specs.Pragmas.{pragma_of, open_pushes, pops_nothing}
use Rattle.model_preprocessing.specs.Includes.{HeaderName, direct_name, replaced_name}
use Rattle.model_preprocessing.specs.Headers.{built_in_text}
use Rattle.model_preprocessing.specs.Directives.{Part}
use Rattle.model_preprocessing.specs.Processes.{ReadAnswer, NotHeld, Contents, TooLarge, Failed, unread, Log, Refusal, Process, gives, refuses, asks, and_then, answer_of, among, reads, where_read_fails}
use Rattle.model_preprocessing.specs.Sources.{State, Source, here, tokens_here, ranked_from, faults, number_of, next_file, named}
use Rattle.model_preprocessing.specs.ControlLines.{MOST_TOKENS, appended, after_expansion, text_run, define_as, define_line, with_name, undef_line, noted, error_line, pragma_line_of, pragma_line}
use Rattle.model_preprocessing.specs.ConditionalLines.{Test, decided, expression_holds, name_is_defined, name_is_undefined, Lines, begins, goes_on_in, goes_on, else_line, endif_line}
use Rattle.model_preprocessing.specs.Preprocessing.{translated_only, line_of, ended, all_lines}
use Rattle.model_preprocessing.specs.FileSearch.{Found, unless_once, MOST_FILES, MOST_BYTES, taken, new_built_in, built_in_header, read_file, looked_up, searched}
use Rattle.model_preprocessing.specs.Included.{Enter, Deeper, name_or_fault, name_in, header_of, all_candidates, entered, sought, include_line, lines_of, file_lines, translated, levels}
use Rattle.model_preprocessing.specs.PreprocessedUnit.{Options, COMMAND_LINE, first_log, beginning, Prepared, MOST_LEVELS, both_files, whole, main_read, unit, preprocessed, asked, preprocessed_up_to, log_of}
use Rattle.model_preprocessing.specs.PreprocessingLaws.{NamesFirst, EndsAtRead}

-- ---- processes that keep names

-- these names stand in front
abbrev pub Front : List (List ℕ) → List (List ℕ) → Type 0
Front base names = (more : List (List ℕ)) × (names ≡ base ++ more)

abbrev Holds : List (List ℕ) → State → Type 0
Holds base s = Front base s.log.names

-- what stands where the read of this name fails
abbrev pub EndsWith : {A : Type 0} → List ℕ → Process A → Type 0
EndsWith name p = (file : ℕ) × (log : Log) × (p ≡ refuses (record { stop = unread file cause.Failed; log = log })) × (slice_get log.names file ≡ Some name)

abbrev pub Keeps : {A : Type 0} → List (List ℕ) → (A → Type 0) → Process A → Type 0
Keeps base Q (gives a) = Q a
Keeps base Q (refuses r) = Front base r.log.names
Keeps base Q (asks name f) = EndsWith name (f Failed) × ((answer : ReadAnswer) → Keeps base Q (f answer))

ends-then : {A B : Type 0} (name : List ℕ) (p : Process A) (f : A → Process B) → EndsWith name p → EndsWith name (and_then p f)
ends-then name p f (file, log, e, at) = (file, log, ap (λ z. and_then z f) e, at)

keeps-then : {A B : Type 0} (base : List (List ℕ)) (Q : A → Type 0) (R : B → Type 0) (p : Process A) (f : A → Process B) →
    Keeps base Q p → ((a : A) → Q a → Keeps base R (f a)) → Keeps base R (and_then p f)
keeps-then base Q R (gives a) f h k = k a h
keeps-then base Q R (refuses r) f h k = h
keeps-then base Q R (asks name g) f h k = (ends-then name (g Failed) f h.0, λ answer. keeps-then base Q R (g answer) f (h.1 answer) k)

keeps-if : {A : Type 0} (base : List (List ℕ)) (Q : A → Type 0) (b : Bool) (p q : Process A) → Keeps base Q p → Keeps base Q q → Keeps base Q (if b then p else q)
keeps-if base Q true p q h k = h
keeps-if base Q false p q h k = k

-- ---- text and macros

appended-keeps : (base : List (List ℕ)) (s : State) (new past : List PpToken) → Holds base s → Keeps base (Holds base) (appended s new past)
appended-keeps base s new [] h = h
appended-keeps base s new (t ∷ past) h = h

expansion-keeps : {A : Type 0} (base : List (List ℕ)) (Q : A → Type 0) (s : State) (answer : expansion.Answer) (f : List PpToken → State → Process A) → Holds base s →
    ((ts : List PpToken) (t : State) → Holds base t → Keeps base Q (f ts t)) → Keeps base Q (after_expansion s answer f)
expansion-keeps base Q s (Ok v) f h k = k _ _ h
expansion-keeps base Q s (Err e) f h k = h

run-keeps : (base : List (List ℕ)) (p : Part) (s : State) → Holds base s → Keeps base (Holds base) (text_run p s)
run-keeps base p s h = expansion-keeps base (Holds base) s (expand s.table _ s.made) _ h
    (λ ts t k. appended-keeps base t (ranked_from (length s.tokens) ts) (drop (MOST_TOKENS - length t.tokens) (ranked_from (length s.tokens) ts)) k)

define-keeps : (base : List (List ℕ)) (s : State) (at : Place) (d : Result Macro ℕ) → Holds base s → Keeps base (Holds base) (define_as s at d)
define-keeps base s at (Ok m) h = keeps-if base (Holds base) (clashes m (found m.name s.table.entries)) _ _ h h
define-keeps base s at (Err number) h = h

name-keeps : {A : Type 0} (base : List (List ℕ)) (Q : A → Type 0) (s : State) (at : Place) (ts : List PpToken) (f : List ℕ → Process A) → Holds base s → ((name : List ℕ) → Keeps base Q (f name)) → Keeps base Q (with_name s at ts f)
name-keeps base Q s at [] f h k = h
name-keeps base Q s at (t ∷ ts) f h k = keeps-if base Q (is_name t) (f t.spelling) _ (k t.spelling) h

undef-keeps : (base : List (List ℕ)) (p : Part) (s : State) → Holds base s → Keeps base (Holds base) (undef_line p s)
undef-keeps base p s h = name-keeps base (Holds base) s (here s p.at) p.tokens _ h (λ name. keeps-if base (Holds base) (reserved name) _ _ h h)

pragma-keeps : (base : List (List ℕ)) (file : ℕ) (s : State) (at : Place) (p : Pragma) → Holds base s → Keeps base (Holds base) (pragma_line_of file s at p)
pragma-keeps base file s at pragma.Once h = h
pragma-keeps base file s at (pragma.Marks act) h = keeps-if base (Holds base) (pops_nothing act (open_pushes 0 s.marks)) _ _ h h
pragma-keeps base file s at pragma.Malformed h = h
pragma-keeps base file s at pragma.Dropped h = h

-- ---- conditionals

abbrev Tested : List (List ℕ) → Bool × State → Type 0
Tested base v = Holds base v.1

abbrev Lined : List (List ℕ) → Lines → Type 0
Lined base v = Holds base v.1

abbrev KeepsTest : List (List ℕ) → Test → Type 0
KeepsTest base test = (s : State) → Holds base s → Keeps base (Tested base) (test s)

decided-keeps : (base : List (List ℕ)) (s : State) (r : Result (Bool × ℕ) (expansion.Stop × ℕ)) → Holds base s → Keeps base (Tested base) (decided s r)
decided-keeps base s (Ok v) h = h
decided-keeps base s (Err e) h = h

expression-keeps : (base : List (List ℕ)) (p : Part) → KeepsTest base (expression_holds p)
expression-keeps base p s h = decided-keeps base s (condition s.table (here s p.at) (tokens_here s p.tokens) s.made) h

defined-keeps : (base : List (List ℕ)) (p : Part) → KeepsTest base (name_is_defined p)
defined-keeps base p s h = name-keeps base (Tested base) s (here s p.at) p.tokens _ h (λ name. h)

undefined-keeps : (base : List (List ℕ)) (p : Part) → KeepsTest base (name_is_undefined p)
undefined-keeps base p s h = name-keeps base (Tested base) s (here s p.at) p.tokens _ h (λ name. h)

begins-keeps : (base : List (List ℕ)) (p : Part) (test : Test) (opens : Conditionals) (s : State) → KeepsTest base test → Holds base s → Keeps base (Lined base) (begins p test opens s)
begins-keeps base p test opens s t h = keeps-if base (Lined base) (is_translated opens) _ _
    (keeps-then base (Tested base) (Lined base) (test s) (λ v. gives (opened (here s p.at) v.0 opens, v.1)) (t s h) (λ v k. k)) h

group-keeps : (base : List (List ℕ)) (g : Group) (test : Test) (c : Conditional) (opens : Conditionals) (s : State) → KeepsTest base test → Holds base s → Keeps base (Lined base) (goes_on_in g test c opens s)
group-keeps base Taken test c opens s t h = h
group-keeps base Sought test c opens s t h = keeps-then base (Tested base) (Lined base) (test s) (λ v. gives (next_group c v.0 ∷ opens, v.1)) (t s h) (λ v k. k)
group-keeps base Passed test c opens s t h = h

goes_on-keeps : (base : List (List ℕ)) (p : Part) (test : Test) (opens : Conditionals) (s : State) → KeepsTest base test → Holds base s → Keeps base (Lined base) (goes_on p test opens s)
goes_on-keeps base p test [] s t h = h
goes_on-keeps base p test (c ∷ opens) s t h = keeps-if base (Lined base) c.last _ _ h (group-keeps base c.group test c opens s t h)

else-keeps : (base : List (List ℕ)) (p : Part) (opens : Conditionals) (s : State) → Holds base s → Keeps base (Lined base) (else_line p opens s)
else-keeps base p [] s h = h
else-keeps base p (c ∷ opens) s h = keeps-if base (Lined base) c.last _ _ h h

endif-keeps : (base : List (List ℕ)) (p : Part) (opens : Conditionals) (s : State) → Holds base s → Keeps base (Lined base) (endif_line p opens s)
endif-keeps base p [] s h = h
endif-keeps base p (c ∷ opens) s h = h

-- ---- lines

abbrev pub KeepsInclude : List (List ℕ) → (Part → State → Process State) → Type 0
KeepsInclude base include = (p : Part) (s : State) → Holds base s → Keeps base (Holds base) (include p s)

translated-keeps : (base : List (List ℕ)) (opens : Conditionals) (s : State) (process : Process State) → Holds base s → Keeps base (Holds base) process → Keeps base (Lined base) (translated_only opens s process)
translated-keeps base opens s process h k = keeps-if base (Lined base) (is_translated opens) _ _ (keeps-then base (Holds base) (Lined base) process (λ t. gives (opens, t)) k (λ t n. n)) h

line-keeps : (base : List (List ℕ)) (file : ℕ) (include : Part → State → Process State) (kind : LineKind) (p : Part) (opens : Conditionals) (s : State) → KeepsInclude base include → Holds base s →
    Keeps base (Lined base) (line_of file include kind p opens s)
line-keeps base file include line.If p opens s i h = begins-keeps base p (expression_holds p) opens s (expression-keeps base p) h
line-keeps base file include line.Ifdef p opens s i h = begins-keeps base p (name_is_defined p) opens s (defined-keeps base p) h
line-keeps base file include line.Ifndef p opens s i h = begins-keeps base p (name_is_undefined p) opens s (undefined-keeps base p) h
line-keeps base file include line.Elif p opens s i h = goes_on-keeps base p (expression_holds p) opens s (expression-keeps base p) h
line-keeps base file include line.Elifdef p opens s i h = goes_on-keeps base p (name_is_defined p) opens s (defined-keeps base p) h
line-keeps base file include line.Elifndef p opens s i h = goes_on-keeps base p (name_is_undefined p) opens s (undefined-keeps base p) h
line-keeps base file include line.Else p opens s i h = else-keeps base p opens s h
line-keeps base file include line.Endif p opens s i h = endif-keeps base p opens s h
line-keeps base file include line.Text p opens s i h = translated-keeps base opens s (text_run p s) h (run-keeps base p s h)
line-keeps base file include line.Include p opens s i h = translated-keeps base opens s (include p s) h (i p s h)
line-keeps base file include line.Embed p opens s i h = translated-keeps base opens s (faults s (here s p.at) 20) h h
line-keeps base file include line.Define p opens s i h = translated-keeps base opens s (define_line p s) h (define-keeps base s (here s p.at) (definition (here s p.at) (tokens_here s p.tokens)) h)
line-keeps base file include line.Undef p opens s i h = translated-keeps base opens s (undef_line p s) h (undef-keeps base p s h)
line-keeps base file include line.Line p opens s i h = h
line-keeps base file include line.Error p opens s i h = translated-keeps base opens s (error_line p s) h h
line-keeps base file include line.Warning p opens s i h = translated-keeps base opens s (gives (noted p s)) h h
line-keeps base file include line.Pragma p opens s i h = translated-keeps base opens s (pragma_line file p s) h (pragma-keeps base file s (here s p.at) (pragma_of p.tokens) h)
line-keeps base file include line.Null p opens s i h = h
line-keeps base file include line.Unknown p opens s i h = translated-keeps base opens s (faults s (here s p.at) 16) h h

ended-keeps : (base : List (List ℕ)) (s : State) (at : Option Place) → Holds base s → Keeps base (Holds base) (ended s at)
ended-keeps base s None h = h
ended-keeps base s (Some at) h = h

all-keeps : (base : List (List ℕ)) (file : ℕ) (include : Part → State → Process State) (ps : List Part) (opens : Conditionals) (s : State) → KeepsInclude base include → Holds base s →
    Keeps base (Holds base) (all_lines file include ps opens s)
all-keeps base file include [] opens s i h = ended-keeps base s (outermost opens) h
all-keeps base file include (p ∷ ps) opens s i h = keeps-then base (Lined base) (Holds base) (line_of file include p.kind p opens s) (λ v. all_lines file include ps v.0 v.1)
    (line-keeps base file include p.kind p opens s i h) (λ v k. all-keeps base file include ps v.0 v.1 i k)

-- ---- the search

abbrev Finds : List (List ℕ) → Found → Type 0
Finds base v = Holds base v.1

named-keeps : (base : List (List ℕ)) (name : List ℕ) (s : State) → Holds base s → Holds base (named name s)
named-keeps base name s (more, e) = (more ++ name ∷ [], ap (λ z. z ++ name ∷ []) e ∙ append_assoc base more (name ∷ []))

named-last : {A : Type 0} (xs : List A) (x : A) → slice_get (xs ++ x ∷ []) (length xs) ≡ Some x
named-last [] x = refl
named-last (y ∷ xs) x = named-last xs x

once-keeps : (base : List (List ℕ)) (file : ℕ) (s : State) (f : Option Source) → Holds base s → Keeps base (Finds base) (unless_once file s f)
once-keeps base file s None h = h
once-keeps base file s (Some f) h = h

taken-keeps : (base : List (List ℕ)) (at : Place) (name text : List ℕ) (s : State) → Holds base s → Keeps base (Finds base) (taken at name text s)
taken-keeps base at name text s h =
    let k = named-keeps base name s h in
    keeps-if base (Finds base) (nat_lt MOST_FILES (length s.held + 1)) _ _ k (keeps-if base (Finds base) (nat_lt MOST_BYTES (s.bytes + length text)) _ _ k k)

new-keeps : (base : List (List ℕ)) (at : Place) (name : List ℕ) (s : State) (text : Option (List ℕ)) → Holds base s → Keeps base (Finds base) (new_built_in at name s text)
new-keeps base at name s None h = h
new-keeps base at name s (Some text) h = named-keeps base _ s h

built_in-keeps : (base : List (List ℕ)) (at : Place) (name : List ℕ) (s : State) (n : Option ℕ) → Holds base s → Keeps base (Finds base) (built_in_header at name s n)
built_in-keeps base at name s (Some file) h = once-keeps base file s (slice_get s.sources file) h
built_in-keeps base at name s None h = new-keeps base at name s (built_in_text name) h

read-keeps : (base : List (List ℕ)) (at : Place) (full : List ℕ) (s : State) (onward : Process Found) (answer : ReadAnswer) → Holds base s → Keeps base (Finds base) onward →
    Keeps base (Finds base) (read_file at full s onward answer)
read-keeps base at full s onward NotHeld h k = k
read-keeps base at full s onward (Contents text) h k = taken-keeps base at full text s h
read-keeps base at full s onward TooLarge h k = named-keeps base full s h
read-keeps base at full s onward Failed h k = named-keeps base full s h

looked-keeps : (base : List (List ℕ)) (at : Place) (full : List ℕ) (s : State) (onward : Process Found) (n : Option ℕ) → Holds base s → Keeps base (Finds base) onward →
    Keeps base (Finds base) (looked_up at full s onward n)
looked-keeps base at full s onward (Some file) h k = once-keeps base file s (slice_get s.sources file) h
looked-keeps base at full s onward None h k = keeps-if base (Finds base) (is_utf8 full) (asks full (read_file at full s onward)) onward
    ((next_file s, (named full s).log, refl, named-last s.log.names full), λ answer. read-keeps base at full s onward answer h k) k

searched-keeps : (base : List (List ℕ)) (at : Place) (name : List ℕ) (fulls : List (List ℕ)) (s : State) → Holds base s → Keeps base (Finds base) (searched at name fulls s)
searched-keeps base at name [] s h = built_in-keeps base at name s (number_of name s.built_in) h
searched-keeps base at name (full ∷ fulls) s h = looked-keeps base at full s (searched at name fulls s) (number_of full s.held) h (searched-keeps base at name fulls s h)

-- ---- includes

abbrev Headed : List (List ℕ) → HeaderName × State → Type 0
Headed base v = Holds base v.1

abbrev KeepsEnter : List (List ℕ) → Enter → Type 0
KeepsEnter base enter = (file : ℕ) (s : State) → Holds base s → Keeps base (Holds base) (enter file s)

abbrev KeepsDeeper : List (List ℕ) → Deeper → Type 0
KeepsDeeper base None = Unit {0}
KeepsDeeper base (Some enter) = KeepsEnter base enter

fault-keeps : (base : List (List ℕ)) (at : Place) (s : State) (n : Option HeaderName) → Holds base s → Keeps base (Headed base) (name_or_fault at s n)
fault-keeps base at s None h = h
fault-keeps base at s (Some n) h = keeps-if base (Headed base) (is_nil n.name) _ _ h h

header-keeps : (base : List (List ℕ)) (p : Part) (s : State) (n : Option HeaderName) → Holds base s → Keeps base (Headed base) (name_in p s n)
header-keeps base p s (Some n) h = fault-keeps base (here s p.at) s (Some n) h
header-keeps base p s None h = expansion-keeps base (Headed base) s (expand s.table _ s.made) _ h (λ ts t k. fault-keeps base (here s p.at) t (replaced_name ts) k)

entered-keeps : (base : List (List ℕ)) (enter : Enter) (v : Found) → KeepsEnter base enter → Finds base v → Keeps base (Holds base) (entered enter v)
entered-keeps base enter (None, s) e h = h
entered-keeps base enter (Some file, s) e h = e file s h

sought-keeps : (base : List (List ℕ)) (d : Deeper) (dirs : List (List ℕ)) (file : ℕ) (at : Place) (n : HeaderName) (s : State) → KeepsDeeper base d → Holds base s → Keeps base (Holds base) (sought d dirs file at n s)
sought-keeps base None dirs file at n s d h = h
sought-keeps base (Some enter) dirs file at n s d h = keeps-then base (Finds base) (Holds base) (searched at n.name (all_candidates dirs file n s) s) (entered enter)
    (searched-keeps base at n.name (all_candidates dirs file n s) s h) (λ v k. entered-keeps base enter v d k)

include-keeps : (base : List (List ℕ)) (d : Deeper) (dirs : List (List ℕ)) (file : ℕ) → KeepsDeeper base d → KeepsInclude base (include_line d dirs file)
include-keeps base d dirs file k p s h = keeps-then base (Headed base) (Holds base) (header_of p s) (λ v. sought d dirs file (here s p.at) v.0 v.1)
    (header-keeps base p s (direct_name p.tokens) h) (λ v n. sought-keeps base d dirs file (here s p.at) v.0 v.1 k n)

lines-keeps : (base : List (List ℕ)) (include : Part → State → Process State) (file : ℕ) (s : State) (r : Result (List Part) Fault) → KeepsInclude base include → Holds base s → Keeps base (Holds base) (lines_of include file s r)
lines-keeps base include file s (Ok ps) i h = all-keeps base file include ps [] s i h
lines-keeps base include file s (Err fault) i h = h

file-keeps : (base : List (List ℕ)) (include : Part → State → Process State) (file : ℕ) (s : State) (f : Option Source) → KeepsInclude base include → Holds base s → Keeps base (Holds base) (file_lines include file s f)
file-keeps base include file s None i h = h
file-keeps base include file s (Some f) i h = lines-keeps base include file s f.lines i h

enter-keeps : (base : List (List ℕ)) (d : Deeper) (dirs : List (List ℕ)) → KeepsDeeper base d → KeepsEnter base (translated d dirs)
enter-keeps base d dirs k file s h = file-keeps base (include_line d dirs file) file s (slice_get s.sources file) (include-keeps base d dirs file k) h

levels-keeps : (base : List (List ℕ)) (dirs : List (List ℕ)) (n : ℕ) → KeepsDeeper base (levels dirs n)
unfolding levels
levels-keeps base dirs zero = tt
levels-keeps base dirs (suc n) = enter-keeps base (levels dirs n) dirs (levels-keeps base dirs n)

-- ---- the unit

abbrev pub first : (name : List ℕ) → List (List ℕ)
first name = name ∷ COMMAND_LINE ∷ []

abbrev pub Logged : (name : List ℕ) → Prepared → Type 0
Logged name v = Front (first name) v.log.names

whole-keeps : (options : Options) (name text : List ℕ) → Keeps (first name) (Logged name) (whole options name text)
whole-keeps options name text =
    let base = first name in
    let enter = enter-keeps base (levels options.dirs MOST_LEVELS) options.dirs (levels-keeps base options.dirs MOST_LEVELS) in
    keeps-then base (Holds base) (Logged name) (both_files options (beginning options name text)) _
    (keeps-then base (Holds base) (Holds base) (translated (levels options.dirs MOST_LEVELS) options.dirs 1 (beginning options name text)) (translated (levels options.dirs MOST_LEVELS) options.dirs 0)
    (enter 1 (beginning options name text) ([], refl)) (λ s h. enter 0 s h)) (λ s h. h)

main-keeps : (options : Options) (name : List ℕ) (answer : ReadAnswer) → Keeps (first name) (Logged name) (main_read options name answer)
main-keeps options name NotHeld = ([], refl)
main-keeps options name (Contents text) = whole-keeps options name text
main-keeps options name TooLarge = ([], refl)
main-keeps options name Failed = ([], refl)

pub unit-keeps : (options : Options) (name : List ℕ) → Keeps (first name) (Logged name) (unit options name)
unfolding unit
unit-keeps options name = ((0, first_log name, refl, refl), main-keeps options name)

-- ---- among files

abbrev Ends : {A : Type 0} → List (List ℕ) → (A → Type 0) → Result A Refusal → Type 0
Ends base Q (Ok a) = Q a
Ends base Q (Err r) = Front base r.log.names

among-keeps : {A : Type 0} (base : List (List ℕ)) (Q : A → Type 0) (held : Held) (p : Process A) → Keeps base Q p → Ends base Q (among held p)
among-keeps base Q held (gives a) h = h
among-keeps base Q held (refuses r) h = h
among-keeps base Q held (asks name f) h = among-keeps base Q held (f (answer_of (bytes_under held name))) (h.1 (answer_of (bytes_under held name)))

fails-keeps : {A : Type 0} (base : List (List ℕ)) (Q : A → Type 0) (held : Held) (k : ℕ) (p : Process A) (r : Result A Refusal) → Keeps base Q p → where_read_fails held k p ≡ Some r → Ends base Q r
fails-keeps base Q held k (gives a) r h = λ e. cc
fails-keeps base Q held k (refuses x) r h = λ e. cc
fails-keeps base Q held zero (asks name f) r h = λ e. cc
fails-keeps base Q held (suc zero) (asks name f) r h = λ e. let q : among held (f Failed) ≡ r = cc in subst (Ends base Q) q (among-keeps base Q held (f Failed) (h.1 Failed))
fails-keeps base Q held (suc (suc k)) (asks name f) r h = λ e. fails-keeps base Q held (suc k) (f (answer_of (bytes_under held name))) r (h.1 (answer_of (bytes_under held name))) e

ends-named : (name : List ℕ) (r : Result Prepared Refusal) → Ends (first name) (Logged name) r → NamesFirst name (log_of r)
ends-named name (Ok v) h = h
ends-named name (Err x) h = h

pub answered-named : (held : Held) (options : Options) (name : List ℕ) → NamesFirst name (log_of (preprocessed held options name))
answered-named held options name = ends-named name (preprocessed held options name) (among-keeps (first name) (Logged name) held (unit options name) (unit-keeps options name))

pub failed-named : (held : Held) (options : Options) (name : List ℕ) (k : ℕ) (r : Result Prepared Refusal) → preprocessed_up_to held options name k ≡ Some r → NamesFirst name (log_of r)
failed-named held options name k r e = ends-named name r (fails-keeps (first name) (Logged name) held k (unit options name) r (unit-keeps options name) e)

-- ---- each read may fail

abbrev EndsAt : {A : Type 0} → Held → Process A → ℕ → Type 0
EndsAt {A} held p k =
    (file : ℕ) × (log : Log) × (where_read_fails held (suc k) p ≡ Some (Err (record { stop = unread file cause.Failed; log = log }))) × (slice_get log.names file ≡ slice_get (reads held p) k)

ends-first : {A : Type 0} (held : Held) (name : List ℕ) (f : ReadAnswer → Process A) → EndsWith name (f Failed) → EndsAt held (asks name f) 0
ends-first held name f (file, log, e, at) = (file, log, ap (λ z. Some (among held z)) e, at)

each-ends : {A : Type 0} (base : List (List ℕ)) (Q : A → Type 0) (held : Held) (p : Process A) (k : ℕ) → Keeps base Q p → k < length (reads held p) → EndsAt held p k
each-ends base Q held (gives a) k h l = absurd (omega (arith, l))
each-ends base Q held (refuses r) k h l = absurd (omega (arith, l))
each-ends base Q held (asks name f) zero h l = ends-first held name f h.0
each-ends base Q held (asks name f) (suc k) h l =
    each-ends base Q held (f (answer_of (bytes_under held name))) k (h.1 (answer_of (bytes_under held name))) (omega (arith, l))

no-read : {A : Type 0} (held : Held) (p : Process A) (k : ℕ) → length (reads held p) < k → where_read_fails held k p ≡ None
no-read held (gives a) k l = refl
no-read held (refuses r) k l = refl
no-read held (asks name f) zero l = refl
no-read held (asks name f) (suc zero) l = absurd (omega (arith, l))
no-read held (asks name f) (suc (suc k)) l = no-read held (f (answer_of (bytes_under held name))) (suc k) (omega (arith, l))

no-first : {A : Type 0} (held : Held) (p : Process A) → where_read_fails held 0 p ≡ None
no-first held (gives a) = refl
no-first held (refuses r) = refl
no-first held (asks name f) = refl

pub reads-end : (held : Held) (options : Options) (name : List ℕ) (k : ℕ) → k < length (asked held options name) → EndsAtRead held options name k
reads-end held options name k l = each-ends (first name) (Logged name) held (unit options name) k (unit-keeps options name) l

pub past-reads : (held : Held) (options : Options) (name : List ℕ) (k : ℕ) → length (asked held options name) < k → preprocessed_up_to held options name k ≡ None
past-reads held options name k l = no-read held (unit options name) k l

pub before-reads : (held : Held) (options : Options) (name : List ℕ) → preprocessed_up_to held options name 0 ≡ None
before-reads held options name = no-first held (unit options name)

-- ---- the main file

pub first-ends : (held : Held) (options : Options) (name : List ℕ) → preprocessed_up_to held options name 1 ≡ Some (Err (record { stop = unread 0 cause.Failed; log = first_log name }))
unfolding unit
first-ends held options name = refl

pub main-first : (held : Held) (options : Options) (name : List ℕ) → (others : List (List ℕ)) × (asked held options name ≡ name ∷ others)
unfolding unit
main-first held options name = (_, refl)
