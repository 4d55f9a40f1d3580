-- A unit without directives is the replacement of its tokens.
use Rattle.std.proofs.Common.{◌≡◌, ℕ, suc, ◌-◌, ◌≤◌, Bool, true, false, if◌then◌else◌, nat_lt, List, [], ◌∷◌, ◌++◌, length, map, drop, Some, Ok, Err, refl, ap, sym, ◌∙◌, arith}
use Rattle.std.proofs.lemmas.List.{append-nil, length-map, drop_all}
use Rattle.cake_base.specs.Outside.{Held, bytes_under, max_file}
use Rattle.model_preprocessing.specs.declared.directives.LineKind.TheVariants as line
use Rattle.model_preprocessing.specs.Place.{first_position, behind_all, main_place}
use Rattle.model_tokens.specs.PpTokens.{PpToken, tokens_of}
use Rattle.model_macros.specs.MacroArguments.{Run}
use Rattle.model_macros.specs.Pasting.{fresh}
use Rattle.model_macros.specs.Expansion as expansion
use Rattle.model_macros.specs.ExpansionFunction.{expand, expand-only}
use Rattle.model_macros.specs.apparatus.ExpansionRules.{Expands-nil}
use Rattle.model_preprocessing.specs.Directives.{Part, begins_line, with_first, lines, directive, joined, with_line, parts_of_lines, parts}
use Rattle.model_preprocessing.specs.Processes.{TooLarge, Contents, Process, gives, and_then, answer_of, among}
use Rattle.model_preprocessing.specs.Sources.{State, standing_all, ranked_from, stops, source_lines, source}
use Rattle.model_preprocessing.specs.ControlLines.{MOST_TOKENS, appended, with_tokens, stop_of, counted, after_expansion}
use Rattle.model_preprocessing.specs.Preprocessing.{on, all_lines}
use Rattle.model_preprocessing.specs.Included.{Deeper, include_line, lines_of, file_lines, translated, levels}
use Rattle.model_preprocessing.specs.PreprocessedUnit.{Options, command_lines, first_log, beginning, Prepared, prepared, MOST_LEVELS, main_read, unit, preprocessed}
use Rattle.model_preprocessing.specs.PreprocessingLaws.{begins_with_hash, NoDirective, IsPlain, predefined_macros, IsReplaced, unit_of}

-- ---- lines of text are one run

abbrev run_of : List PpToken → List Part
run_of [] = []
run_of (t ∷ ts) = record { kind = line.Text; at = t.place; tokens = t ∷ ts } ∷ []

abbrev all_of : List (List PpToken) → List PpToken
all_of [] = []
all_of (l ∷ ls) = l ++ all_of ls

joined-run : (t : PpToken) (l more : List PpToken) → joined (record { kind = line.Text; at = t.place; tokens = t ∷ l }) (run_of more) ≡ run_of (t ∷ (l ++ more))
joined-run t l [] = ap (λ z. record { kind = line.Text; at = t.place; tokens = t ∷ z } ∷ []) (sym (append-nil l))
joined-run t l (u ∷ more) = refl

line-run : (l more : List PpToken) → begins_with_hash l ≡ false → with_line l (run_of more) ≡ run_of (l ++ more)
line-run [] more h = refl
line-run (t ∷ l) more h =
    ap (λ b. joined (if b then directive t.place l else record { kind = line.Text; at = t.place; tokens = t ∷ l }) (run_of more)) h ∙ joined-run t l more

lines-run : (ls : List (List PpToken)) → NoDirective ls → parts_of_lines ls ≡ run_of (all_of ls)
lines-run [] h = refl
lines-run (l ∷ ls) h = ap (with_line l) (lines-run ls h.1) ∙ line-run l (all_of ls) h.0

all-first : (t : PpToken) (ls : List (List PpToken)) → all_of (with_first t ls) ≡ t ∷ all_of ls
all-first t [] = refl
all-first t (l ∷ ls) = refl

all-either : (b : Bool) (t : PpToken) (ls : List (List PpToken)) → all_of (if b then (t ∷ []) ∷ ls else with_first t ls) ≡ t ∷ all_of ls
all-either true t ls = refl
all-either false t ls = all-first t ls

all-lines : (ts : List PpToken) → all_of (lines ts) ≡ ts
all-lines [] = refl
all-lines (t ∷ ts) = all-either (begins_line ts) t (lines ts) ∙ ap (λ z. t ∷ z) (all-lines ts)

parts-run : (ts : List PpToken) → NoDirective (lines ts) → parts ts ≡ run_of ts
unfolding parts
parts-run ts h = lines-run (lines ts) h ∙ ap run_of (all-lines ts)

-- ---- the definitions of the command

no-lines : (include : Part → State → Process State) (s : State) → file_lines include 1 s (Some (source 1 [])) ≡ gives s
unfolding parts tokens_of
no-lines include s = refl

no-definitions : (include : Part → State → Process State) (s : State) (options : Options) → options.defines ≡ [] → file_lines include 1 s (Some (source 1 (command_lines options.defines))) ≡ gives s
no-definitions include s options e = ap (λ ds. file_lines include 1 s (Some (source 1 (command_lines ds)))) e ∙ no-lines include s

-- ---- the run of the main file

length-ranked : (n : ℕ) (ts : List PpToken) → length (ranked_from n ts) ≡ length ts
length-ranked n [] = refl
length-ranked n (t ∷ ts) = ap suc (length-ranked (suc n) ts)

abbrev tokens : Run → List PpToken
tokens run = ranked_from 0 (map (λ p. p.tok) run)

length-tokens : (run : Run) → length (tokens run) ≡ length run
length-tokens run = length-ranked 0 (map (λ p. p.tok) run) ∙ length-map run (λ p. p.tok)

-- the state after the run, and what becomes of it
abbrev with_run : State → ℕ → List PpToken → State
with_run s made new = record s { tokens = new; made = made }

abbrev ran : State → expansion.Answer → Process State
ran s (Ok (run, made)) = gives (with_run s made (tokens run))
ran s (Err (stop, made)) = stops s (stop_of stop)

appended-all : (s : State) (new past : List PpToken) → past ≡ [] → appended s new past ≡ gives (record s { tokens = s.tokens ++ new })
appended-all s new past e = ap (appended s new) e

few-tokens : (s : State) (new : List PpToken) → s.tokens ≡ [] → length new ≤ MOST_TOKENS → with_tokens s new ≡ gives (record s { tokens = new })
few-tokens s new none few =
    let size : length s.tokens ≡ 0 = ap length none in
    appended-all s new (drop (MOST_TOKENS - length s.tokens) new) (drop_all (MOST_TOKENS - length s.tokens) new (omega (arith, size, few)))
    ∙ ap (λ z. gives (record s { tokens = z ++ new })) none

abbrev IsShort : expansion.Answer → Type 0
IsShort (Ok (run, made)) = length run ≤ MOST_TOKENS
IsShort (Err e) = Unit {0}

-- what the run does after its replacement, where there are no tokens before it
abbrev after_run : State → expansion.Answer → Process State
after_run s answer = after_expansion s answer (λ ts t. with_tokens t (ranked_from (length s.tokens) ts))

run-after : (s : State) (answer : expansion.Answer) → s.tokens ≡ [] → IsShort answer → after_run s answer ≡ ran s answer
run-after s (Ok (run, made)) none short =
    ap (λ n. with_tokens (counted s made) (ranked_from n (map (λ p. p.tok) run))) (ap length none)
    ∙ few-tokens (counted s made) (tokens run) none (let size = length-tokens run in omega (arith, size, short))
run-after s (Err (stop, made)) none short = refl

-- ---- the lines of the main file

abbrev one_line : (include : Part → State → Process State) → State → Part → Process State → Process State
one_line include s p process = and_then (on [] process) (λ v. all_lines 0 include [] v.0 v.1)

line-ran : (include : Part → State → Process State) (s : State) (p : Part) (answer : expansion.Answer) → one_line include s p (ran s answer) ≡ ran s answer
line-ran include s p (Ok (run, made)) = refl
line-ran include s p (Err (stop, made)) = refl

abbrev replacement : State → List PpToken → expansion.Answer
replacement s ts = expand s.table (map fresh (standing_all (length s.tokens) ts)) s.made

nothing-ran : (s : State) (answer : expansion.Answer) → s.tokens ≡ [] → s.made ≡ 0 → replacement s [] ≡ answer → gives s ≡ ran s answer
nothing-ran s answer none made is =
    let e : Ok ([], s.made) ≡ answer = expand-only s.table [] s.made (Ok ([], s.made)) (Expands-nil s.table s.made) ∙ is in
    ap (λ z. gives (record s { tokens = z })) none ∙ ap (ran s) e

lines-ran : (include : Part → State → Process State) (s : State) (ts : List PpToken) (answer : expansion.Answer) → s.tokens ≡ [] → s.made ≡ 0 → replacement s ts ≡ answer → IsShort answer →
    all_lines 0 include (run_of ts) [] s ≡ ran s answer
lines-ran include s [] answer none made is short = nothing-ran s answer none made is
lines-ran include s (t ∷ ts) answer none made is short =
    let p : Part = record { kind = line.Text; at = t.place; tokens = t ∷ ts } in
    ap (λ a. one_line include s p (after_run s a)) is ∙ ap (one_line include s p) (run-after s answer none short) ∙ line-ran include s p answer

file-ran : (include : Part → State → Process State) (s : State) (text : List ℕ) (ts : List PpToken) (answer : expansion.Answer) → tokens_of 0 text ≡ Ok ts → NoDirective (lines ts) →
    s.tokens ≡ [] → s.made ≡ 0 → replacement s ts ≡ answer → IsShort answer → file_lines include 0 s (Some (source 0 text)) ≡ ran s answer
file-ran include s text ts answer reads plain none made is short =
    ap (λ r. lines_of include 0 s (source_lines r)) reads ∙ ap (λ ps. all_lines 0 include ps [] s) (parts-run ts plain) ∙ lines-ran include s ts answer none made is short

-- ---- the unit

abbrev done : (name text : List ℕ) → State → expansion.Answer → Process Prepared
done name text s answer = and_then (ran s answer) (λ t. gives (prepared text t))

small : (m n : ℕ) → n ≤ m → nat_lt m n ≡ false
small m n h = grind (arith, h)

main-answer : (held : Held) (name text : List ℕ) → bytes_under held name ≡ Some text → length text ≤ max_file → answer_of (bytes_under held name) ≡ Contents text
main-answer held name text holds size = ap answer_of holds ∙ ap (λ b. if b then TooLarge else Contents text) (small max_file (length text) size)

unit-asks : (held : Held) (options : Options) (name : List ℕ) → preprocessed held options name ≡ among held (main_read options name (answer_of (bytes_under held name)))
unfolding unit
unit-asks held options name = refl

unit-done : (held : Held) (options : Options) (name text : List ℕ) (ts : List PpToken) (answer : expansion.Answer) → IsPlain held options name text ts → IsReplaced name ts answer → IsShort answer →
    preprocessed held options name ≡ among held (done name text (beginning options name text) answer)
unit-done held options name text ts answer plain replaced short =
    let s : State = beginning options name text in
    let d : Deeper = levels options.dirs MOST_LEVELS in
    let is : replacement s ts ≡ answer = sym (expand-only (predefined_macros name) (map fresh (standing_all 0 ts)) 0 answer replaced) in
    unit-asks held options name
    ∙ ap (λ a. among held (main_read options name a)) (main-answer held name text plain.holds plain.size)
    ∙ ap (λ p. among held (and_then (and_then p (translated d options.dirs 0)) (λ t. gives (prepared text t)))) (no-definitions (include_line d options.dirs 1) s options plain.undefined)
    ∙ ap (λ p. among held (and_then p (λ t. gives (prepared text t)))) (file-ran (include_line d options.dirs 0) s text ts answer plain.reads plain.plain refl refl is short)

pub unit-replaced : (held : Held) (options : Options) (name text : List ℕ) (ts : List PpToken) (run : Run) (made : ℕ) → IsPlain held options name text ts → IsReplaced name ts (Ok (run, made)) → length run ≤ MOST_TOKENS →
    preprocessed held options name ≡ Ok (unit_of name text run)
unit-replaced held options name text ts run made plain replaced short =
    unit-done held options name text ts (Ok (run, made)) plain replaced short
    ∙ ap (λ n. Ok (record { tokens = tokens run; marks = []; end = main_place (behind_all first_position text) n; log = first_log name })) (length-tokens run)

pub unit-stopped : (held : Held) (options : Options) (name text : List ℕ) (ts : List PpToken) (stop : expansion.Stop) (made : ℕ) → IsPlain held options name text ts → IsReplaced name ts (Err (stop, made)) →
    preprocessed held options name ≡ Err (record { stop = stop_of stop; log = first_log name })
unit-stopped held options name text ts stop made plain replaced = unit-done held options name text ts (Err (stop, made)) plain replaced tt
