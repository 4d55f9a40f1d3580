-- What the lines do that are text or no conditional's.
use Rattle.std.proofs.Common.{◌≡◌, ℕ, suc, ◌+◌, ◌-◌, Bool, true, false, List, [], ◌∷◌, ◌++◌, map, length, drop, slice_get, Option, Some, None, Result, Ok, Err, refl, ap, sym, ◌∙◌, subst, cond, arith, append_assoc, ◌||◌, not}
use Rattle.std.specs.Option.{is_some, is_none, option_map}
use Rattle.model_preprocessing.specs.ConditionalLines.{name_is_defined, name_is_undefined}
use Rattle.cake_base.specs.declared.places.Place.{Place}
use Rattle.cake_base.specs.declared.rules.LimitHit.{LimitHit}
use Rattle.model_tokens.specs.PpTokens.{PpToken}
use Rattle.model_macros.specs.Macros.{Macro, Macros, found, defines, clashes, with_macro}
use Rattle.model_macros.specs.MacroDefinitions.{is_name, definition}
use Rattle.model_macros.specs.MacroArguments.{Run}
use Rattle.model_macros.specs.Pasting.{fresh}
use Rattle.model_macros.specs.Expansion as expansion
use Rattle.model_macros.specs.ExpansionFunction.{expand}
use Rattle.model_preprocessing.specs.Directives.{Part}
use Rattle.model_preprocessing.specs.Processes.{Stop, Process, gives, Log, broken, passed}
use Rattle.model_preprocessing.specs.Sources.{State, here, tokens_here, ranked_from, faults}
use Rattle.model_preprocessing.specs.ControlLines.{MOST_TOKENS, appended, with_tokens, after_expansion, replaced, counted, text_run, parted, note_text, define_line, define_as, defined_as, with_name}
use Rattle.pp_definitions.specs.declared.errors.MacroError.{MacroError}
use Rattle.pp_definitions.specs.declared.errors.MacroError.TheVariants as macro_error
use Rattle.pp_definitions.specs.Answers.{Reads, Defines}
use Rattle.pp_macros.specs.Machine.{Expanded}
use Rattle.pp_directives.specs.declared.errors.PrepError.{PrepError}
use Rattle.pp_directives.specs.declared.errors.PrepError.TheVariants as prep_error
use Rattle.pp_directives.specs.Errors.{of_macro}
use Rattle.pp_directives.specs.Controls.{name_of}
use Rattle.pp_directives.specs.Replaced.{Replaced, expansion}
use Rattle.pp_directives.specs.Outcomes.{Does, Halts, halted}
use Rattle.pp_directives.specs.Outputs.{Appends, new_tokens, too_many}
use Rattle.pp_lines.proofs.RankLaws.{at_rank-plus}
use Rattle.model_types.specs.Texts.{same_text}

-- ---- replacement

here_ok : (s : State) (ts line list : List PpToken) (made : ℕ) → line ≡ tokens_here s ts → Expanded s.table line s.made (Ok list) made → Replaced s ts (Ok list) (record s { made = made })
here_ok s ts line list made e x = ((x.0, made), ap (λ l. expand s.table (map fresh l) s.made) (sym e) ∙ x.1, x.2, refl)

pub replaced-ok : (s u : State) (ts line list : List PpToken) (made : ℕ) → u ≡ s → line ≡ tokens_here s ts → Expanded u.table line u.made (Ok list) made → Replaced s ts (Ok list) (record u { made = made })
replaced-ok s u ts line list made same e =
    let P : State → Type 0 = λ z. Expanded z.table line z.made (Ok list) made → Replaced s ts (Ok list) (record z { made = made }) in
    subst P (sym same) (here_ok s ts line list made e)

here_err : (s : State) (ts line : List PpToken) (e : MacroError) (made : ℕ) → line ≡ tokens_here s ts → Expanded s.table line s.made (Err e) made → Replaced s ts (Err (of_macro e)) (record s { made = made })
here_err s ts line (macro_error.Fault fault) made is x = (made, ap (λ l. expand s.table (map fresh l) s.made) (sym is) ∙ x, refl)
here_err s ts line (macro_error.Limit hit) made is x = (made, ap (λ l. expand s.table (map fresh l) s.made) (sym is) ∙ x, refl)
here_err s ts line macro_error.NoMemory made is x = tt

pub replaced-err : (s u : State) (ts line : List PpToken) (e : MacroError) (made : ℕ) → u ≡ s → line ≡ tokens_here s ts → Expanded u.table line u.made (Err e) made → Replaced s ts (Err (of_macro e)) (record u { made = made })
replaced-err s u ts line e made same is =
    let P : State → Type 0 = λ z. Expanded z.table line z.made (Err e) made → Replaced s ts (Err (of_macro e)) (record z { made = made }) in
    subst P (sym same) (here_err s ts line e made is)

-- what goes on with the tokens
pub replaced-gives : {A : Type 0} (s s' : State) (ts list : List PpToken) (f : List PpToken → State → Process A) → Replaced s ts (Ok list) s' → replaced s ts f ≡ f list s'
replaced-gives s s' ts list f (v, e, l, c) =
    ap (λ a. after_expansion s a f) e ∙ ap (λ z. f z (counted s v.1)) (sym l) ∙ ap (f list) (sym c)

same_log : (s s' : State) (made : ℕ) → s' ≡ counted s made → s.log ≡ s'.log
same_log s s' made e = ap (λ z. z.log) (sym e)

pub replaced-halts : {A : Type 0} (s s' : State) (ts : List PpToken) (e : PrepError) (f : List PpToken → State → Process A) → Replaced s ts (Err e) s' → Halts (replaced s ts f) e s'.log
replaced-halts s s' ts (prep_error.Fault fault) f (made, x, c) = ap (λ a. after_expansion s a f) x ∙ ap (halted (broken fault)) (same_log s s' made c)
replaced-halts s s' ts (prep_error.Limit hit) f (made, x, c) = ap (λ a. after_expansion s a f) x ∙ ap (halted (passed hit)) (same_log s s' made c)
replaced-halts s s' ts (prep_error.Read file cause) f x = absurd x
replaced-halts s s' ts prep_error.NoMemory f x = tt

-- ---- text

tokens_kept : (s s' : State) (made : ℕ) → s' ≡ counted s made → s.tokens ≡ s'.tokens
tokens_kept s s' made e = ap (λ z. z.tokens) (sym e)

appends : (s : State) (list all : List PpToken) → too_many s.tokens list ≡ [] → all ≡ s.tokens ++ new_tokens s.tokens list →
    with_tokens s (ranked_from (length s.tokens) list) ≡ gives (record s { tokens = all })
appends s list all none is =
    ap (appended s (ranked_from (length s.tokens) list)) none ∙ ap (λ (z : List PpToken). let r : State = record s { tokens = z } in gives r) (sym is)

-- the tokens are put behind those so far
pub text-gives : (s s' : State) (p : Part) (list all : List PpToken) → Replaced s p.tokens (Ok list) s' → Appends s'.tokens list (Ok tt) all → text_run p s ≡ gives (record s' { tokens = all })
text-gives s s' p list all r a =
    replaced-gives s s' p.tokens list (λ ts z. with_tokens z (ranked_from (length s.tokens) ts)) r
    ∙ ap (λ (z : List PpToken). with_tokens s' (ranked_from (length z) list)) (tokens_kept s s' r.0.1 r.3)
    ∙ appends s' list all a.0 a.1

hits : (s : State) (list : List PpToken) (hit : LimitHit) (t : PpToken) (past : List PpToken) → too_many s.tokens list ≡ t ∷ past → hit ≡ record { place = t.place; limit = record { number = 5 } } →
    with_tokens s (ranked_from (length s.tokens) list) ≡ halted (passed hit) s.log
hits s list hit t past some is = ap (appended s (ranked_from (length s.tokens) list)) some ∙ ap (λ z. halted (passed z) s.log) (sym is)

pub text-halts : (s s' : State) (p : Part) (list all : List PpToken) (e : PrepError) → Replaced s p.tokens (Ok list) s' → Appends s'.tokens list (Err e) all → Halts (text_run p s) e s'.log
text-halts s s' p list all (prep_error.Fault fault) r a = absurd a
text-halts s s' p list all (prep_error.Read file cause) r a = absurd a
text-halts s s' p list all prep_error.NoMemory r a = tt
text-halts s s' p list all (prep_error.Limit hit) r ((t, past, some, is), same) =
    replaced-gives s s' p.tokens list (λ ts z. with_tokens z (ranked_from (length s.tokens) ts)) r
    ∙ ap (λ (z : List PpToken). with_tokens s' (ranked_from (length z) list)) (tokens_kept s s' r.0.1 r.3)
    ∙ hits s' list hit t past some is

-- ---- notes

pub note-step : (toks : List PpToken) (at : ℕ) (t : PpToken) (text space more whole : List ℕ) → slice_get toks at ≡ Some t → space ≡ text ++ 32 ∷ [] → more ≡ space ++ t.spelling →
    text ++ parted (drop at toks) ≡ whole → more ++ parted (drop (at + 1) toks) ≡ whole
note-step toks at t text space more whole here spaced added so_far =
    let rest : List ℕ = parted (drop (at + 1) toks) in
    ap (λ z. z ++ rest) (added ∙ ap (λ z. z ++ t.spelling) spaced)
    ∙ append_assoc (text ++ 32 ∷ []) t.spelling rest
    ∙ append_assoc text (32 ∷ []) (t.spelling ++ rest)
    ∙ ap (λ z. text ++ parted z) (sym (at_rank-plus toks at t here))
    ∙ so_far

-- ---- names of macros

pub with-name-some : {A : Type 0} (s : State) (at : Place) (ts : List PpToken) (f : List ℕ → Process A) (name : List ℕ) → name_of ts ≡ Some name → with_name s at ts f ≡ f name
with-name-some s at [] f name = λ h. cc
with-name-some s at (t ∷ ts) f name =
    elim (is_name t) as (λ b. cond b (Some t.spelling) None ≡ Some name → cond b (f t.spelling) (faults s at 19) ≡ f name) [
      | true ↦ λ h. let e : t.spelling ≡ name = cc in ap f e
      | false ↦ λ h. cc
    ]

pub defines-found : (name : List ℕ) (es : List (List ℕ × Macro)) → is_some (found name es) ≡ defines name es
defines-found name [] = refl
defines-found name (e ∷ es) =
    elim (same_text name e.0) as (λ b. is_some (cond b (Some e.1) (found name es)) ≡ (b || defines name es)) [
      | true ↦ refl
      | false ↦ defines-found name es
    ]

some-copied : {A B : Type 0} (o : Option A) (p : Option B) (f : A → B) → option_map f o ≡ p → is_some o ≡ is_some p
some-copied None p f e = ap is_some e
some-copied (Some x) p f e = ap is_some e

pub is-defined : {A : Type 0} (p : Part) (s : State) (name : List ℕ) (o : Option A) (f : A → Macro) (b : Bool) → name_of p.tokens ≡ Some name →
    option_map f o ≡ found name s.table.entries → b ≡ is_some o → name_is_defined p s ≡ gives (b, s)
is-defined p s name o f b named looked is =
    with-name-some s (here s p.at) p.tokens (λ n. gives (defines n s.table.entries, s)) name named
    ∙ ap (λ z. gives (z, s)) (sym (is ∙ some-copied o (found name s.table.entries) f looked ∙ defines-found name s.table.entries))

negated : (a b : Bool) → a ≡ not b → b ≡ not a
negated a true e = ap not (sym e)
negated a false e = ap not (sym e)

pub is-undefined : {A : Type 0} (p : Part) (s : State) (name : List ℕ) (o : Option A) (f : A → Macro) (b : Bool) → name_of p.tokens ≡ Some name →
    option_map f o ≡ found name s.table.entries → is_some o ≡ not b → name_is_undefined p s ≡ gives (b, s)
is-undefined p s name o f b named looked is =
    with-name-some s (here s p.at) p.tokens (λ n. gives (not (defines n s.table.entries), s)) name named
    ∙ ap (λ z. gives (z, s)) (sym (negated (is_some o) b is ∙ ap not (some-copied o (found name s.table.entries) f looked ∙ defines-found name s.table.entries)))
