-- The parser's derivation is the preferred one of the grammar.
use Rattle.std.proofs.Common.{◌≡◌, ◌<◌, ℕ, Bool, true, false, not, ◌&&◌, ◌||◌, List, [], ◌∷◌, ◌++◌, refl, sym, ap, subst, ◌∙◌}
use Rattle.model_grammar.specs.declared.grammar.Rule.{Rule}
use Rattle.model_grammar.specs.declared.grammar.Rule.TheVariants as r
use Rattle.model_grammar.specs.declared.grammar.Act.TheVariants as act
use Rattle.model_grammar.specs.declared.grammar.Test.{Test}
use Rattle.model_grammar.specs.declared.grammar.Test.TheVariants as test
use Rattle.model_grammar.specs.declared.grammar.Terminal.{Terminal}
use Rattle.model_grammar.specs.declared.grammar.Within.TheVariants.{Between}
use Rattle.model_grammar.specs.declared.grammar.Tree.{Tree}
use Rattle.model_grammar.specs.GrammarForm.{Form, word, rule, empty, ◌then◌, ◌or◌, maybe, many, when, loop, mem}
use Rattle.model_grammar.specs.Grammar.{grammar, token}
use Rattle.model_grammar.specs.Terminals as k
use Rattle.model_grammar.specs.NameScopes.{Scopes, kind, after, close, start}
use Rattle.model_grammar.specs.Derivation.{Derives}
use Rattle.grammar_laws.specs.FirstTokens.{first, nullable}
use Rattle.grammar_laws.specs.apparatus.DecidedTable.{within, apart, leads, decided}
use Rattle.grammar_laws.specs.ParserWalk.{ahead}
use Rattle.grammar_laws.specs.Preferences.{Earlier, choices}
use Rattle.grammar_laws.specs.apparatus.Untested.{either}
use Rattle.grammar_laws.specs.ParserTable.{table}
use Rattle.grammar_laws.specs.ParserSets.{tables, firsts, follows, hollow}
use Rattle.grammar_laws.specs.ParserTests.{parsed, lacks_enumeration, sees}
use Rattle.grammar_laws.proofs.kinds.KindSets.{and_left, and_right, not_true, clash, within_mem, apart_mem, mem_left, mem_right, mem_one}
use Rattle.grammar_laws.proofs.kinds.TokenKinds.{absent}
use Rattle.grammar_laws.proofs.walks.DecidedDerivations.{lead}
use Rattle.grammar_laws.proofs.walks.ParserDecided.{quiet, checked}
use Rattle.grammar_laws.proofs.derivations.ClearBrackets.{over, clear, holds, is_balanced}
use Rattle.grammar_laws.proofs.derivations.KeptScopes.{is_open, opens as opens_frame, leaves, same}
use Rattle.grammar_laws.proofs.derivations.KeptByGrammar.{squals_left, element_left, spec_left, enum_scopes}
use Rattle.grammar_laws.proofs.derivations.NoneAwaitsBraces.{idles, awaits, rule_idle}
use Rattle.grammar_laws.proofs.derivations.FollowsOfForms.{flows}
use Rattle.grammar_laws.proofs.tests_lose_nothing.LosesNothing.{inner, begins_with, starts}
use Rattle.grammar_laws.proofs.tests_lose_nothing.SuffixEnds.{ends_open, suffixed, is_suffix, is_one, are_suffixes, bracketless, the_whole}
use Rattle.grammar_laws.proofs.scans.PastSpecifiers.{braced, based, tag, enumerated, operand, colon_kind}
use Rattle.grammar_laws.proofs.derivations.AttributesInAnyScopes.{attributed, is_attribute}
use Rattle.grammar_laws.proofs.specifier_lists.PiecesAnywhere.{attributes_leave}
use Rattle.grammar_laws.proofs.derivations.FirstTokensOfGrammar.{starts_over, begins_over}
use Rattle.grammar_laws.proofs.enumerations.BracesScanAtEnd.{opens_members}
use Rattle.grammar_laws.proofs.enumerations.BracesScanOfGrammar.{grammar_braced}
use Rattle.grammar_laws.proofs.enumerations.AwaitedBraces.{IsOwing, grammar_based, grammar_tag, grammar_choice, shifted, owed_behind, behind_type, less_as, members_alike, silent_end, taking_end, elements_back}
use Rattle.grammar_laws.proofs.same_language.FormsOutsideLists.{in_list, is_list, bounded, list_continuations, Fit, Set, behind_first, behind_turn, behind_loop}
use Rattle.grammar_laws.proofs.specifier_lists.PiecesDerived.{set_inside}
use Rattle.grammar_laws.proofs.same_language.DerivedForms.{known}
use Rattle.grammar_laws.proofs.same_language.DerivedByTable.{steps}
use Rattle.grammar_laws.proofs.preferred_tree.ChoiceOrder.{IsTaking, moved, not_itself, not_both}
use Rattle.grammar_laws.proofs.preferred_tree.FormsWithoutTests.{stays, opens, opens_when, opens_loop, open_form, same_first, same_nullable}
use Rattle.grammar_laws.proofs.preferred_tree.ChoicesInGrammar.{open_choices, mark}
use Rattle.grammar_laws.proofs.preferred_tree.FailedTests.{Parameter, gives_parameter, plain, IsTested, enumerators_taken}
use Rattle.grammar_laws.proofs.preferred_tree.FormsWithTests.{IsReady, to_first, to_second, to_left, to_right, to_maybe, to_many, to_more, to_chosen, to_other, to_loop, to_further, of_rule, when_taken, when_closed, loop_taken, loop_closed}
use Rattle.grammar_laws.proofs.preferred_tree.PreferredAttributes.{at_follow, open_lead, only_first, many_lead, many_first, prefer_attributed}
use Rattle.grammar_laws.proofs.preferred_tree.FailedBraceTests.{element, members_seen, no_braces, idle_owing, end_named, end_colon, end_spec, specs_named, specs_colon, elements_colon}
use Rattle.grammar_laws.proofs.preferred_tree.ComparedDerivations.{Compared, itself, retaken, marked, closed, joined, choose_first, choose_second, choose_done, choose_again}

-- the forms of lists of specifiers whose alternatives begin with other tokens
unfoldable is_element : Rule → Bool
is_element r.Typespec = true
is_element r.Qual = true
is_element r.Spec = true
is_element r.Storage = true
is_element r.Struct = true
is_element r.Enum = true
is_element r.Typeof = true
is_element _ = false

unfoldable separate : Form → Bool
separate (word ks a) = true
separate (rule n) = is_element n
separate empty = false
separate (f then g) = false
separate (f or g) = (apart tables (first tables f) (first tables g) && (not (nullable tables f) && not (nullable tables g))) && (separate f && separate g)
separate (maybe f) = false
separate (many f) = false
separate (when p f g) = false
separate (loop p f) = false

-- what stands in brackets
abbrev in_members : Form
in_members = rule r.Member then many (rule r.Member) then word (k.CloseBrace ∷ []) act.TypeSpecifier

abbrev in_group : Form
in_group = rule r.Enumr then loop test.EnumeratorAhead (token k.Comma then rule r.Enumr) then maybe (token k.Comma) then word (k.CloseBrace ∷ []) act.TypeSpecifier

abbrev in_typeof : Form
in_typeof = operand then word (k.CloseParenthesis ∷ []) act.TypeSpecifier

members_ready : (F : List ℕ) → IsReady in_members F true false false
unfolding decided leads first nullable within apart mem flows suffixed bounded idles opens plain clear holds is_balanced is_open opens_frame leaves awaits same ends_open is_suffix is_one are_suffixes bracketless in_list is_list firsts follows hollow
members_ready F = record { sets = refl; fit = record { flow = refl; suffix = refl; bound = refl; idle = refl }; tests = IsTested.plainly refl }

typeof_ready : (F : List ℕ) → IsReady in_typeof F true false false
unfolding decided leads first nullable within apart mem flows suffixed bounded idles opens plain clear holds is_balanced is_open opens_frame leaves awaits same ends_open is_suffix is_one are_suffixes bracketless in_list is_list firsts follows hollow
typeof_ready F = record { sets = refl; fit = record { flow = refl; suffix = refl; bound = refl; idle = refl }; tests = IsTested.plainly refl }

group_ready : (F : List ℕ) → IsReady in_group F true false false
unfolding decided leads first nullable within apart mem flows suffixed bounded idles opens opens_loop stays plain clear holds is_balanced is_open opens_frame leaves awaits same ends_open is_suffix is_one are_suffixes bracketless in_list is_list firsts follows hollow gives_parameter
group_ready F =
    record { sets = refl; fit = record { flow = refl; suffix = refl; bound = refl; idle = refl }; tests = IsTested.in_then (IsTested.plainly refl) (IsTested.in_then (IsTested.open_loop refl (enumerators_taken _ false) (IsTested.plainly refl)) (IsTested.plainly refl)) }

-- behind both ends
pair_first : (j i : ℕ) → mem j (j ∷ i ∷ []) ≡ true
pair_first j i = mem_left j (j ∷ []) (i ∷ []) (mem_one j j refl)

pair_second : (j i : ℕ) → mem i (j ∷ i ∷ []) ≡ true
pair_second j i = mem_right i (j ∷ []) (i ∷ []) (mem_one i i refl)

no_parameter : (s : Scopes) → Parameter false s
no_parameter s e = absurd (cc)

given_by : (n : Rule) {s new : Scopes} {ts rest : List Terminal} {xs : List Tree} → Derives parsed (rule n) s ts xs new rest → gives_parameter (rule n) ≡ true → new.reading.parameter ≡ true
unfolding gives_parameter
given_by r.ParamSpecs (Derives.a_rule d) e = refl
given_by _ d e = absurd (cc)

given : (f : Form) {s new : Scopes} {ts rest : List Terminal} {xs : List Tree} → Derives parsed f s ts xs new rest → Parameter (gives_parameter f) new
unfolding gives_parameter
given (word ks a) d e = absurd (cc)
given (rule n) d e = given_by n d e
given empty d e = absurd (cc)
given (f then g) d e = absurd (cc)
given (f or g) d e = absurd (cc)
given (maybe f) d e = absurd (cc)
given (many f) d e = absurd (cc)
given (when p f g) d e = absurd (cc)
given (loop p f) d e = absurd (cc)

set_at : {b o : Bool} {s s' : Scopes} → s ≡ s' → Set b o s' → Set b o s
set_at {b = b} {o = o} q x = subst (λ z. Set b o z) (sym q) x

inside_set : (n : Rule) (F : List ℕ) (b o : Bool) (s : Scopes) → Fit (rule n) F b o → Set b o s → Set (not (is_balanced n)) false s
unfolding flows
inside_set n F b o s w x = record { clear = inner n F b s w.flow x.clear; idle = record { reading = x.idle.reading; frame = λ e. absurd (cc) } }

behind_any : (y : Bool) (p : Test) (f : Form) (F : List ℕ) {b o : Bool} {s mid : Scopes} {ts later : List Terminal} {xs : List Tree}
    → Fit (opens_loop y p f) F b o → Derives (over grammar) f s ts xs mid later → Set b o s → Set b o mid
unfolding opens_loop
behind_any true p f F w o x = behind_loop w o x
behind_any false p f F w o x = behind_turn w o x

loop_lead : (p : Test) (f : Form) (F : List ℕ) {s new : Scopes} {ts rest : List Terminal} {xs : List Tree}
    → Derives (over grammar) (opens_loop (stays p) p (opens f)) s ts xs new rest → mem (ahead tables parsed new rest) F ≡ true
    → mem (ahead tables parsed s ts) (first tables f ++ F) ≡ true
unfolding leads opens first nullable
loop_lead p f F o h = open_lead (loop p f) F o h

loop_first : (p : Test) (f : Form) (F : List ℕ) {s new : Scopes} {ts rest : List Terminal} {xs : List Tree} → Derives parsed (loop p f) s ts xs new rest
    → mem (ahead tables parsed new rest) F ≡ true → mem (ahead tables parsed s ts) (first tables f ++ F) ≡ true
unfolding leads first nullable
loop_first p f F d h = lead tables parsed quiet checked F d h

-- a list and what follows it
list_end : (n : Rule) (F : List ℕ) (b o : Bool) → in_list n ≡ true → Fit (rule n) F b o → (is_list n && apart tables F list_continuations) ≡ true
unfolding bounded
list_end n F b o e w = by (in_list n) e w.bound
  where
    by : (x : Bool) → x ≡ true → (not x || is_list n && apart tables F list_continuations) ≡ true → (is_list n && apart tables F list_continuations) ≡ true
    by true q h = h
    by false q h = absurd (cc)

list_clear : (n : Rule) (F : List ℕ) (b o : Bool) (s : Scopes) → is_balanced n ≡ false → Fit (rule n) F b o → Set b o s → s.brackets ≡ []
unfolding flows
list_clear n F b o s e w x = inner n F b s w.flow x.clear (ap not e)

braces_no_colon : {s new : Scopes} {ts rest : List Terminal} {xs : List Tree} → Derives parsed braced s ts xs new rest → sees k.Colon ts ≡ false
unfolding mem
braces_no_colon {s = s} (Derives.both (Derives.a_word {t = t} e) d q) = absent (k.OpenBrace ∷ []) k.Colon refl refl refl refl s t e

-- behind `struct` and `enum`, and their attributes
abbrev structure : Form
structure = tag then when test.BraceAhead (rule r.Members) empty or rule r.Members

abbrev grammar_structure : Form
grammar_structure = grammar_tag then maybe (rule r.Members) or rule r.Members

attributes_form : attributed (rule r.Attrs) ≡ true
unfolding attributed is_attribute
attributes_form = refl

attributes_sets : decided tables (rule r.Attrs) (follows r.Attrs) ≡ true
unfolding decided within mem follows
attributes_sets = refl

struct_moves : nullable tables structure ≡ false
unfolding nullable hollow
struct_moves = refl

struct_moves' : nullable tables grammar_structure ≡ false
unfolding nullable hollow
struct_moves' = refl

struct_follows : (j : ℕ) → mem j (k.Name ∷ k.TypedefName ∷ k.OpenBrace ∷ []) ≡ true → mem j (follows r.Attrs) ≡ true
unfolding within mem follows
struct_follows j h = within_mem tables j (k.Name ∷ k.TypedefName ∷ k.OpenBrace ∷ []) (follows r.Attrs) refl h

enum_moves : nullable tables enumerated ≡ false
unfolding nullable hollow
enum_moves = refl

enum_moves' : nullable tables grammar_choice ≡ false
unfolding nullable hollow
enum_moves' = refl

enum_follows : (j : ℕ) → mem j (k.Name ∷ k.TypedefName ∷ k.Colon ∷ k.OpenBrace ∷ k.Name ∷ k.TypedefName ∷ []) ≡ true → mem j (follows r.Attrs) ≡ true
unfolding within mem follows
enum_follows j h = within_mem tables j (k.Name ∷ k.TypedefName ∷ k.Colon ∷ k.OpenBrace ∷ k.Name ∷ k.TypedefName ∷ []) (follows r.Attrs) refl h

spec_hollow : hollow r.Spec ≡ false
unfolding hollow
spec_hollow = refl

members_move : hollow r.Members ≡ false
unfolding hollow
members_move = refl

based_moves : nullable tables (based then braced) ≡ false
unfolding nullable hollow
based_moves = refl

no_tag : (j : ℕ) → mem j (k.Name ∷ k.TypedefName ∷ []) ≡ true → mem j (firsts r.Members) ≡ true → ⊥
unfolding apart mem firsts
no_tag j n m = apart_mem tables j (k.Name ∷ k.TypedefName ∷ []) (firsts r.Members) refl n m

no_tag_first : (j : ℕ) → mem j (k.Name ∷ k.TypedefName ∷ []) ≡ true → mem j (k.Colon ∷ k.OpenBrace ∷ []) ≡ true → ⊥
unfolding apart mem
no_tag_first j n m = apart_mem tables j (k.Name ∷ k.TypedefName ∷ []) (k.Colon ∷ k.OpenBrace ∷ []) refl n m

no_colon_first : {s new : Scopes} {t : Terminal} {ts rest : List Terminal} {xs : List Tree} → mem (kind s t) (k.Colon ∷ []) ≡ true → Derives parsed braced s (t ∷ ts) xs new rest → ⊥
unfolding apart mem
no_colon_first {s = s} {t = t} n (Derives.both (Derives.a_word e) d p) = apart_mem tables (kind s t) (k.Colon ∷ []) (k.OpenBrace ∷ []) refl n e

-- the first of two alternatives that begin with other tokens is not derived where the second is
other_first : (f g : Form) {s new new' : Scopes} {ts rest rest' : List Terminal} {xs ys : List Tree} → separate (f or g) ≡ true
    → Derives (over grammar) (opens f) s ts ys new' rest' → Derives parsed g s ts xs new rest → ⊥
unfolding separate
other_first f g {s = s} {ts = ts} v o d =
    let x = and_left _ (separate f && separate g) v in
    let n = and_right (apart tables (first tables f) (first tables g)) _ x in
    let i : nullable tables (opens f) ≡ false = same_nullable f ∙ not_true _ (and_left _ (not (nullable tables g)) n) in
    apart_mem tables (ahead tables parsed s ts) (first tables f) (first tables g) (and_left _ (not (nullable tables f) && not (nullable tables g)) x)
    (subst (λ z. mem (ahead tables parsed s ts) z ≡ true) (same_first f) (starts_over i o)) (starts (not_true _ (and_right (not (nullable tables f)) _ n)) d)

-- the nonterminals of lists of specifiers
abbrev IsPart : Rule → Type 0
IsPart n = (in_list n && not (is_list n)) ≡ true

part_spec : IsPart r.Spec
unfolding in_list is_list
part_spec = refl

part_storage : IsPart r.Storage
unfolding in_list is_list
part_storage = refl

part_typespec : IsPart r.Typespec
unfolding in_list is_list
part_typespec = refl

part_struct : IsPart r.Struct
unfolding in_list is_list
part_struct = refl

part_enum : IsPart r.Enum
unfolding in_list is_list
part_enum = refl

part_absurd : {A : Type 0} (n : Rule) → IsPart n → (F : List ℕ) (b o : Bool) → Fit (rule n) F b o → A
part_absurd n z F b o w = absurd (clash (is_list n) (and_left _ (apart tables F list_continuations) (list_end n F b o (and_left _ (not (is_list n)) z) w)) (not_true _ (and_right (in_list n) _ z)))

squals_goers : (F : List ℕ) (b o : Bool) → Fit (rule r.Squals) F b o → apart tables F list_continuations ≡ true
unfolding in_list
squals_goers F b o w = and_right (is_list r.Squals) _ (list_end r.Squals F b o refl w)

specs_goers : (F : List ℕ) (b o : Bool) → Fit (rule r.Specs) F b o → apart tables F list_continuations ≡ true
unfolding in_list
specs_goers F b o w = and_right (is_list r.Specs) _ (list_end r.Specs F b o refl w)

squals_clear : (F : List ℕ) (b o : Bool) (s : Scopes) → Fit (rule r.Squals) F b o → Set b o s → s.brackets ≡ []
unfolding is_balanced
squals_clear F b o s w x = list_clear r.Squals F b o s refl w x

specs_clear : (F : List ℕ) (b o : Bool) (s : Scopes) → Fit (rule r.Specs) F b o → Set b o s → s.brackets ≡ []
unfolding is_balanced
specs_clear F b o s w x = list_clear r.Specs F b o s refl w x

squals_owing : (F : List ℕ) (b o : Bool) {s : Scopes} (mid : Scopes) {ts : List Terminal} (rest : List Terminal) {xs : List Tree} → Fit (rule r.Squals) F b o
    → Set b o s → Derives (over grammar) (rule r.Squals) s ts xs mid rest → mem (ahead tables parsed mid rest) F ≡ true → IsOwing mid rest
squals_owing F b o mid rest w x d h = idle_owing mid rest (rule_idle r.Squals d x.idle.reading) (end_named F mid rest (squals_goers F b o w) h)

typespec_separate : separate (table r.Typespec) ≡ true
unfolding separate is_element table apart first nullable mem firsts hollow
typespec_separate = refl

qual_separate : separate (table r.Qual) ≡ true
unfolding separate is_element table
qual_separate = refl

spec_body_separate : separate (table r.Spec) ≡ true
unfolding separate is_element table apart first nullable mem firsts hollow
spec_body_separate = refl

storage_separate : separate (table r.Storage) ≡ true
unfolding separate is_element table apart first nullable mem firsts hollow
storage_separate = refl

element_separate : separate element ≡ true
unfolding separate is_element apart first nullable mem firsts hollow
element_separate = refl

spec_separate : separate (rule r.Spec) ≡ true
unfolding separate is_element
spec_separate = refl

-- what is to be known of a derivation of the parser's table that makes these choices: outside lists, and of a list in
-- another
abbrev Outside : Form → Scopes → Scopes → List Terminal → List Terminal → List Bool → Type 0
Outside f s new ts rest cs =
    (new' : Scopes) (rest' : List Terminal) (ys : List Tree) → (o : Derives (over grammar) (opens f) s ts ys new' rest') → (F : List ℕ) (b c i : Bool) → IsReady f F b c i → Set b i s → Parameter c s → mem (ahead tables parsed new rest) F ≡ true → mem (ahead tables parsed new' rest') F ≡ true → Compared cs new rest (choices (over grammar) o) new' rest'

abbrev Listed : Scopes → Scopes → List Terminal → List Terminal → List Bool → Type 0
Listed s new ts rest cs =
    (new' : Scopes) (rest' : List Terminal) (ys : List Tree) → (o : Derives (over grammar) (rule r.Squals) s ts ys new' rest') → s.brackets ≡ [] → IsOwing new' rest' → sees k.Colon rest ≡ false → Compared cs new rest (choices (over grammar) o) new' rest'

unfoldable RuleLists : Rule → Scopes → Scopes → List Terminal → List Terminal → List Bool → Type 0
RuleLists r.Squals s new ts rest cs = Listed s new ts rest cs
RuleLists _ s new ts rest cs = Unit {0}

unfoldable Lists : Form → Scopes → Scopes → List Terminal → List Terminal → List Bool → Type 0
Lists (word ks a) s new ts rest cs = Unit {0}
Lists (rule n) s new ts rest cs = RuleLists n s new ts rest cs
Lists empty s new ts rest cs = Unit {0}
Lists (f then g) s new ts rest cs = Unit {0}
Lists (f or g) s new ts rest cs = Unit {0}
Lists (maybe f) s new ts rest cs = Unit {0}
Lists (many f) s new ts rest cs = Unit {0}
Lists (when p f g) s new ts rest cs = Unit {0}
Lists (loop p f) s new ts rest cs = Unit {0}

record Prefers (f : Form) (s new : Scopes) (ts rest : List Terminal) (cs : List Bool) : Type 0 where
  pub outside : Outside f s new ts rest cs
  pub list : Lists f s new ts rest cs

-- of all in a derivation but itself
unfoldable Below : {f : Form} {s new : Scopes} {ts rest : List Terminal} {xs : List Tree} → Derives parsed f s ts xs new rest → Type 0
Below (Derives.a_word e) = Unit {0}
Below (Derives.a_rule {r = n} {s = s} {new = new} {ts = ts} {rest = rest} d) = Prefers (table n) s new ts rest (open_choices d) × Below d
Below Derives.nothing = Unit {0}
Below (Derives.both {f = f} {g = g} {s = s} {mid = mid} {new = new} {ts = ts} {later = later} {rest = rest} d e q) =
    Prefers f s mid ts later (open_choices d) × Below d × Prefers g mid new later rest (open_choices e) × Below e
Below (Derives.left {f = f} {s = s} {new = new} {ts = ts} {rest = rest} d) = Prefers f s new ts rest (open_choices d) × Below d
Below (Derives.right {g = g} {s = s} {new = new} {ts = ts} {rest = rest} d) = Prefers g s new ts rest (open_choices d) × Below d
Below Derives.skip = Unit {0}
Below (Derives.take {f = f} {s = s} {new = new} {ts = ts} {rest = rest} d) = Prefers f s new ts rest (open_choices d) × Below d
Below Derives.stop = Unit {0}
Below (Derives.turn {f = f} {s = s} {mid = mid} {new = new} {ts = ts} {later = later} {rest = rest} d e q) =
    Prefers f s mid ts later (open_choices d) × Below d × Prefers (many f) mid new later rest (open_choices e) × Below e
Below (Derives.chosen {f = f} {s = s} {new = new} {ts = ts} {rest = rest} a d) = Prefers f s new ts rest (open_choices d) × Below d
Below (Derives.other {g = g} {s = s} {new = new} {ts = ts} {rest = rest} a d) = Prefers g s new ts rest (open_choices d) × Below d
Below (Derives.done a) = Unit {0}
Below (Derives.again {p = p} {f = f} {s = s} {mid = mid} {new = new} {ts = ts} {later = later} {rest = rest} a d e q) =
    Prefers f s mid ts later (open_choices d) × Below d × Prefers (loop p f) mid new later rest (open_choices e) × Below e

-- what stands in brackets
prefer_typeof : {s new new' : Scopes} {ts rest rest' : List Terminal} {xs ys : List Tree} → (d : Derives parsed (table r.Typeof) s ts xs new rest) → Below d
    → (o : Derives (over grammar) (grammar r.Typeof) s ts ys new' rest') → s.brackets ≡ []
    → Compared (open_choices d) new rest (choices (over grammar) o) new' rest'
unfolding Below table grammar open_choices choices opens
prefer_typeof {s = s} {new = new} {new' = new'} {rest = rest} {rest' = rest'} (Derives.both (Derives.a_word {t = t} e) (Derives.both (Derives.a_word {t = u} f) d p) q) β
    (Derives.both (Derives.a_word e') (Derives.both (Derives.a_word f') o p') q') b =
    let v = after act.OpenSpecifier s t in
    let j = ahead tables parsed new rest in
    let i = ahead tables parsed new' rest' in
    β.3.2.outside _ _ _ o (j ∷ i ∷ []) true false false (typeof_ready (j ∷ i ∷ [])) (set_inside v u b) (no_parameter (after act.Enclose v u)) (pair_first j i) (pair_second j i)

prefer_members : {s new new' : Scopes} {ts rest rest' : List Terminal} {xs ys : List Tree} → (d : Derives parsed (rule r.Members) s ts xs new rest) → Below d
    → (o : Derives (over grammar) (rule r.Members) s ts ys new' rest') → s.brackets ≡ []
    → Compared (open_choices d) new rest (choices (over grammar) o) new' rest'
unfolding Below table grammar open_choices choices opens
prefer_members {s = s} {new = new} {new' = new'} {rest = rest} {rest' = rest'} (Derives.a_rule (Derives.both (Derives.a_word {t = u} e) d p)) β
    (Derives.a_rule (Derives.both (Derives.a_word e') o p')) b =
    let j = ahead tables parsed new rest in
    let i = ahead tables parsed new' rest' in
    β.1.2.outside _ _ _ o (j ∷ i ∷ []) true false false (members_ready (j ∷ i ∷ [])) (set_inside s u b) (no_parameter (after act.Enclose s u)) (pair_first j i) (pair_second j i)

prefer_braced : {m new new' : Scopes} {ts rest rest' : List Terminal} {xs ys : List Tree} → (d : Derives parsed braced m ts xs new rest) → Below d
    → (o : Derives (over grammar) grammar_braced m ts ys new' rest') → m.brackets ≡ []
    → Compared (open_choices d) new rest (choices (over grammar) o) new' rest'
unfolding Below open_choices choices opens opens_loop stays
prefer_braced {m = m} {new = new} {new' = new'} {rest = rest} {rest' = rest'} (Derives.both (Derives.a_word {t = u} e) d p) β (Derives.both (Derives.a_word e') o p') b =
    let j = ahead tables parsed new rest in
    let i = ahead tables parsed new' rest' in
    β.2.outside _ _ _ o (j ∷ i ∷ []) true false false (group_ready (j ∷ i ∷ [])) (set_inside m u b) (no_parameter (after act.Enclose m u)) (pair_first j i) (pair_second j i)

-- a structure
prefer_membered : {s new new' : Scopes} {ts rest rest' : List Terminal} {xs ys : List Tree}
    → (d : Derives parsed (when test.BraceAhead (rule r.Members) empty) s ts xs new rest) → Below d
    → (o : Derives (over grammar) (maybe (rule r.Members)) s ts ys new' rest') → s.brackets ≡ []
    → Compared (open_choices d) new rest (choices (over grammar) o) new' rest'
unfolding Below open_choices choices stays mark
prefer_membered (Derives.chosen a d) β Derives.skip b = Compared.before tt
prefer_membered (Derives.chosen a d) β (Derives.take o) b = marked true (prefer_members d β.1 o b)
prefer_membered (Derives.other a Derives.nothing) β Derives.skip b = Compared.alike refl refl refl
prefer_membered (Derives.other a Derives.nothing) β (Derives.take o) b = absurd (clash _ (members_seen o) a)

prefer_structure : {s new new' : Scopes} {ts rest rest' : List Terminal} {xs ys : List Tree} → (d : Derives parsed structure s ts xs new rest) → Below d
    → (o : Derives (over grammar) grammar_structure s ts ys new' rest') → s.brackets ≡ []
    → Compared (open_choices d) new rest (choices (over grammar) o) new' rest'
unfolding Below open_choices choices ahead
prefer_structure (Derives.left (Derives.both (Derives.a_word n) d p)) β (Derives.left (Derives.both (Derives.a_word n') o p')) b = marked true (prefer_membered d β.1.3 o b)
prefer_structure (Derives.left d) β (Derives.right o) b = Compared.before tt
prefer_structure (Derives.right d) β (Derives.left (Derives.both (Derives.a_word n') o p')) b = absurd (no_tag _ n' (begins_with members_move d))
prefer_structure (Derives.right d) β (Derives.right o) b = marked false (prefer_members d β.1 o b)

prefer_struct : {s new new' : Scopes} {ts rest rest' : List Terminal} {xs ys : List Tree} → (d : Derives parsed (table r.Struct) s ts xs new rest) → Below d
    → (o : Derives (over grammar) (grammar r.Struct) s ts ys new' rest') → s.brackets ≡ []
    → Compared (open_choices d) new rest (choices (over grammar) o) new' rest'
unfolding Below table grammar open_choices choices opens first nullable firsts hollow
prefer_struct (Derives.both (Derives.a_word e) (Derives.both a d p) q) β (Derives.both (Derives.a_word e') (Derives.both a' o p') q') b =
    joined (prefer_attributed a a' (follows r.Attrs) attributes_form attributes_sets (struct_follows _ (starts struct_moves d)) (struct_follows _ (starts_over {f = grammar_structure} struct_moves' o))) (λ i r.
    let u = moved (over grammar) (sym i) (sym r) o in
    retaken u.takes (prefer_structure d β.3.3 u.is (ap (λ z. z.brackets) (attributes_leave b a) ∙ b)))

-- an enumeration
prefer_silent : {m new new' : Scopes} {ts rest rest' : List Terminal} {xs ys : List Tree}
    → (d : Derives parsed (tag then maybe (token k.Colon then rule r.Squals)) m ts xs new rest) → Below d
    → (o : Derives (over grammar) (grammar_tag then maybe (token k.Colon then rule r.Squals)) m ts ys new' rest') → m.brackets ≡ []
    → ((w : ℕ) → w < m.reading.waiting → lacks_enumeration w (Between true) m rest' ≡ true) → opens_members m rest' ≡ false → sees k.Colon rest ≡ false
    → Compared (open_choices d) new rest (choices (over grammar) o) new' rest'
unfolding Below open_choices choices Lists RuleLists
prefer_silent (Derives.both (Derives.a_word n) Derives.skip p) β (Derives.both (Derives.a_word n') Derives.skip p') b h x c = Compared.alike refl refl refl
prefer_silent {m = m} (Derives.both (Derives.a_word {t = g} n) Derives.skip p) β (Derives.both (Derives.a_word n') (Derives.take (Derives.both (Derives.a_word {t = u} e') o q')) p') b h x c = absurd (clash _ (colon_kind (after act.TypeSpecifier m g) u e') c)
prefer_silent (Derives.both (Derives.a_word n) (Derives.take d) p) β (Derives.both (Derives.a_word n') Derives.skip p') b h x c = Compared.before tt
prefer_silent {m = m} (Derives.both (Derives.a_word {t = g} n) (Derives.take (Derives.both (Derives.a_word {t = u} e) d q)) p) β
    (Derives.both (Derives.a_word n') (Derives.take (Derives.both (Derives.a_word e') o q')) p') b h x c =
    marked true (β.3.1.2.list _ _ _ o b (silent_end m (after act.Pass (after act.TypeSpecifier m g) u) o b refl refl h x) c)

prefer_based : {m new new' : Scopes} {ts rest rest' : List Terminal} {xs ys : List Tree} → (d : Derives parsed (based then braced) m ts xs new rest) → Below d
    → (o : Derives (over grammar) (grammar_based then grammar_braced) m ts ys new' rest') → m.brackets ≡ []
    → ((w : ℕ) → w < m.reading.waiting → lacks_enumeration w (Between true) m rest' ≡ true)
    → Compared (open_choices d) new rest (choices (over grammar) o) new' rest'
unfolding Below open_choices choices Lists RuleLists
prefer_based (Derives.both Derives.skip d p) β (Derives.both Derives.skip o p') b h = marked false (prefer_braced d β.3 o b)
prefer_based (Derives.both Derives.skip d p) β (Derives.both (Derives.take (Derives.both (Derives.a_word e') o' q')) o p') b h = absurd (no_colon_first e' d)
prefer_based (Derives.both (Derives.take d') d p) β (Derives.both Derives.skip o p') b h = Compared.before tt
prefer_based {m = m} (Derives.both (Derives.take (Derives.both (Derives.a_word {t = u} e) d' q)) d p) β (Derives.both (Derives.take (Derives.both (Derives.a_word e') o' q')) o p') b h =
    marked true (joined (β.1.1.2.list _ _ _ o' b (taking_end m u o' o b h) (braces_no_colon d)) (λ i r.
    let x = moved (over grammar) (sym i) (sym r) o in
    retaken x.takes (prefer_braced d β.3 x.is (ap (λ z. z.brackets) i ∙ (squals_left o' b).brackets))))

prefer_braces : {m new new' : Scopes} {ts rest rest' : List Terminal} {xs ys : List Tree}
    → (d : Derives parsed (maybe tag then based then braced) m ts xs new rest) → Below d
    → (o : Derives (over grammar) (maybe grammar_tag then grammar_based then grammar_braced) m ts ys new' rest') → m.brackets ≡ []
    → ((w : ℕ) → w < m.reading.waiting → lacks_enumeration w (Between true) m rest' ≡ true)
    → Compared (open_choices d) new rest (choices (over grammar) o) new' rest'
unfolding Below open_choices choices first nullable ahead
prefer_braces (Derives.both Derives.skip d p) β (Derives.both Derives.skip o p') b h = marked false (prefer_based d β.3 o b h)
prefer_braces (Derives.both Derives.skip d p) β (Derives.both (Derives.take (Derives.a_word n)) o p') b h = absurd (no_tag_first _ n (starts {f = based then braced} based_moves d))
prefer_braces (Derives.both (Derives.take d') d p) β (Derives.both Derives.skip o p') b h = Compared.before tt
prefer_braces {m = m} {rest' = rest'} (Derives.both (Derives.take (Derives.a_word {t = g} n)) d p) β (Derives.both (Derives.take (Derives.a_word n')) o p') b h =
    marked true (prefer_based d β.3 o b (λ v j. shifted (after act.TypeSpecifier m g) m v (Between true) rest' refl (h v j)))

prefer_choice : {m new new' : Scopes} {ts rest rest' : List Terminal} {xs ys : List Tree} → (d : Derives parsed enumerated m ts xs new rest) → Below d
    → (o : Derives (over grammar) grammar_choice m ts ys new' rest') → m.brackets ≡ []
    → ((w : ℕ) → w < m.reading.waiting → lacks_enumeration w (Between true) m rest' ≡ true) → opens_members m rest' ≡ false → sees k.Colon rest ≡ false
    → Compared (open_choices d) new rest (choices (over grammar) o) new' rest'
unfolding Below open_choices choices stays mark
prefer_choice (Derives.chosen a d) β (Derives.left o) b h n c = marked true (prefer_braces d β.1 o b h)
prefer_choice (Derives.chosen a d) β (Derives.right o) b h n c = Compared.before tt
prefer_choice (Derives.other a d) β (Derives.left o) b h n c = absurd (no_braces o b h a)
prefer_choice (Derives.other a d) β (Derives.right o) b h n c = marked false (prefer_silent d β.1 o b h n c)

prefer_enum : {s new new' : Scopes} {ts rest rest' : List Terminal} {xs ys : List Tree} → (d : Derives parsed (table r.Enum) s ts xs new rest) → Below d
    → (o : Derives (over grammar) (grammar r.Enum) s ts ys new' rest') → s.brackets ≡ [] → IsOwing (behind_type s) rest' → sees k.Colon rest ≡ false
    → Compared (open_choices d) new rest (choices (over grammar) o) new' rest'
unfolding Below table grammar open_choices choices opens first nullable firsts hollow
prefer_enum {s = s} {rest' = rest'} (Derives.both (Derives.a_word e) (Derives.both {mid = m} a d p) q) β (Derives.both (Derives.a_word e') (Derives.both a' o p') q') b w c =
    let z = attributes_leave b a in
    let x : m.entries ≡ s.entries = ap (λ z. z.entries) z in
    let y : m.reading.waiting ≡ s.reading.waiting = ap (λ z. z.reading.waiting) z in
    joined (prefer_attributed a a' (follows r.Attrs) attributes_form attributes_sets (enum_follows _ (starts enum_moves d)) (enum_follows _ (starts_over {f = grammar_choice} enum_moves' o))) (λ i r.
    let u = moved (over grammar) (sym i) (sym r) o in
    retaken u.takes (prefer_choice d β.3.3 u.is (ap (λ z. z.brackets) z ∙ b) (λ v j. shifted m s v (Between true) rest' (sym x) (owed_behind s rest' w v (less_as m.reading.waiting s.reading.waiting v y j))) (members_alike (behind_type s) m rest' x ∙ w.named) c))

-- one of a list
prefer_listed : {f : Form} {s new new' : Scopes} {ts rest rest' : List Terminal} {xs ys : List Tree} → (d : Derives parsed f s ts xs new rest) → Below d
    → (o : Derives (over grammar) (opens f) s ts ys new' rest') → separate f ≡ true → s.brackets ≡ [] → IsOwing new' rest' → sees k.Colon rest ≡ false
    → Compared (open_choices d) new rest (choices (over grammar) o) new' rest'
unfolding Below open_choices choices opens opens_when opens_loop either stays table grammar separate is_element
prefer_listed (Derives.a_word e) β (Derives.a_word e') v b w c = Compared.alike refl refl refl
prefer_listed {f = f or g} (Derives.left d) β (Derives.left o) v b w c =
    marked true (prefer_listed d β.1 o (and_left _ (separate g) (and_right (apart tables (first tables f) (first tables g) && (not (nullable tables f) && not (nullable tables g))) _ v)) b w c)
prefer_listed {f = f or g} (Derives.left d) β (Derives.right o) v b w c = Compared.before tt
prefer_listed {f = f or g} (Derives.right d) β (Derives.left o) v b w c = absurd (other_first f g v o d)
prefer_listed {f = f or g} (Derives.right d) β (Derives.right o) v b w c =
    marked false (prefer_listed d β.1 o (and_right (separate f) _ (and_right (apart tables (first tables f) (first tables g) && (not (nullable tables f) && not (nullable tables g))) _ v)) b w c)
prefer_listed {f = rule r.Typespec} (Derives.a_rule d) β (Derives.a_rule o) v b w c = prefer_listed d β.1 o typespec_separate b w c
prefer_listed {f = rule r.Qual} (Derives.a_rule d) β (Derives.a_rule o) v b w c = prefer_listed d β.1 o qual_separate b w c
prefer_listed {f = rule r.Spec} (Derives.a_rule d) β (Derives.a_rule o) v b w c = prefer_listed d β.1 o spec_body_separate b w c
prefer_listed {f = rule r.Storage} (Derives.a_rule d) β (Derives.a_rule o) v b w c = prefer_listed d β.1 o storage_separate b w c
prefer_listed {f = rule r.Struct} (Derives.a_rule d) β (Derives.a_rule o) v b w c = closed r.Struct (prefer_struct d β.1 o b)
prefer_listed {f = rule r.Enum} {rest' = rest'} (Derives.a_rule d) β (Derives.a_rule o) v b w c =
    closed r.Enum (prefer_enum d β.1 o b (subst (λ z. IsOwing z rest') (enum_scopes (Derives.a_rule o) b) w) c)
prefer_listed {f = rule r.Typeof} (Derives.a_rule d) β (Derives.a_rule o) v b w c = closed r.Typeof (prefer_typeof d β.1 o b)
prefer_listed {f = rule n} d β o v b w c = absurd (clash _ v refl)
prefer_listed {f = empty} d β o v b w c = absurd (clash _ v refl)
prefer_listed {f = f then g} d β o v b w c = absurd (clash _ v refl)
prefer_listed {f = maybe f} d β o v b w c = absurd (clash _ v refl)
prefer_listed {f = many f} d β o v b w c = absurd (clash _ v refl)
prefer_listed {f = when p f g} d β o v b w c = absurd (clash _ v refl)
prefer_listed {f = loop p f} d β o v b w c = absurd (clash _ v refl)

-- a list of type specifiers and qualifiers, where what waits is owed behind the other derivation, and no `:` comes
prefer_elements : {s new new' : Scopes} {ts rest rest' : List Terminal} {xs ys : List Tree}
    → (d : Derives parsed (loop test.TypeAhead element) s ts xs new rest) → Below d
    → (o : Derives (over grammar) (loop test.TypeAhead element) s ts ys new' rest') → s.brackets ≡ [] → IsOwing new' rest' → sees k.Colon rest ≡ false
    → Compared (open_choices d) new rest (choices (over grammar) o) new' rest'
unfolding Below open_choices choices stays mark opens
prefer_elements (Derives.done a) β (Derives.done a') b w c = Compared.alike refl refl refl
prefer_elements (Derives.done a) β (Derives.again a' o o' q') b w c = absurd (clash _ a' a)
prefer_elements (Derives.again a d d' q) β (Derives.done a') b w c = absurd (clash _ a a')
prefer_elements (Derives.again a d d' q) β (Derives.again a' o o' q') b w c =
    let b' = (element_left o b).brackets in
    joined (prefer_listed d β.1 o element_separate b (elements_back o' b' w) (elements_colon d' c)) (λ p r.
    let u = moved (over grammar) (sym p) (sym r) o' in
    retaken u.takes (prefer_elements d' β.3 u.is (ap (λ z. z.brackets) p ∙ b') w c))

prefer_list : {s new new' : Scopes} {ts rest rest' : List Terminal} {xs ys : List Tree} → (d : Derives parsed (rule r.Squals) s ts xs new rest) → Below d
    → (o : Derives (over grammar) (rule r.Squals) s ts ys new' rest') → s.brackets ≡ [] → IsOwing new' rest' → sees k.Colon rest ≡ false
    → Compared (open_choices d) new rest (choices (over grammar) o) new' rest'
unfolding Below table grammar open_choices choices opens
prefer_list (Derives.a_rule (Derives.both d d' q)) β (Derives.a_rule (Derives.both o o' q')) b w c =
    let b' = (element_left o b).brackets in
    joined (prefer_listed d β.1.1 o element_separate b (elements_back o' b' w) (elements_colon d' c)) (λ p r.
    let u = moved (over grammar) (sym p) (sym r) o' in
    retaken u.takes (prefer_elements d' β.1.3 u.is (ap (λ z. z.brackets) p ∙ b') w c))

-- the specifiers of a declaration
prefer_more : {s new new' : Scopes} {ts rest rest' : List Terminal} {xs ys : List Tree} → (d : Derives parsed (many (rule r.Spec)) s ts xs new rest) → Below d
    → (o : Derives (over grammar) (many (rule r.Spec)) s ts ys new' rest') → (F : List ℕ) → apart tables F list_continuations ≡ true → s.brackets ≡ []
    → s.reading.waiting ≡ 0 → mem (ahead tables parsed new rest) F ≡ true → mem (ahead tables parsed new' rest') F ≡ true
    → Compared (open_choices d) new rest (choices (over grammar) o) new' rest'
unfolding Below open_choices choices opens
prefer_more Derives.stop β Derives.stop F a b i h h' = Compared.alike refl refl refl
prefer_more {s = s} {ts = ts} Derives.stop β (Derives.turn o o' q') F a b i h h' = absurd (end_spec F (ahead tables parsed s ts) a h (begins_over spec_hollow o))
prefer_more (Derives.turn d d' q) β Derives.stop F a b i h h' = Compared.before tt
prefer_more (Derives.turn d d' q) β (Derives.turn {mid = mid'} {later = later'} o o' q') F a b i h h' =
    let b' = (spec_left o b).brackets in
    let i' = rule_idle r.Spec o i in
    marked true (joined (prefer_listed d β.1 o spec_separate b (idle_owing mid' later' i' (specs_named F o' a h')) (specs_colon F d' a h)) (λ p r.
    let u = moved (over grammar) (sym p) (sym r) o' in
    retaken u.takes (prefer_more d' β.3 u.is F a (ap (λ z. z.brackets) p ∙ b') (ap (λ z. z.reading.waiting) p ∙ i') h h')))

prefer_specs : {s new new' : Scopes} {ts rest rest' : List Terminal} {xs ys : List Tree} → (d : Derives parsed (rule r.Specs) s ts xs new rest) → Below d
    → (o : Derives (over grammar) (rule r.Specs) s ts ys new' rest') → (F : List ℕ) → apart tables F list_continuations ≡ true → s.brackets ≡ []
    → s.reading.waiting ≡ 0 → mem (ahead tables parsed new rest) F ≡ true → mem (ahead tables parsed new' rest') F ≡ true
    → Compared (open_choices d) new rest (choices (over grammar) o) new' rest'
unfolding Below table grammar open_choices choices opens
prefer_specs (Derives.a_rule (Derives.both d d' q)) β (Derives.a_rule (Derives.both {mid = mid'} {later = later'} o o' q')) F a b i h h' =
    let b' = (spec_left o b).brackets in
    let i' = rule_idle r.Spec o i in
    joined (prefer_listed d β.1.1 o spec_separate b (idle_owing mid' later' i' (specs_named F o' a h')) (specs_colon F d' a h)) (λ p r.
    let u = moved (over grammar) (sym p) (sym r) o' in
    retaken u.takes (prefer_more d' β.1.3 u.is F a (ap (λ z. z.brackets) p ∙ b') (ap (λ z. z.reading.waiting) p ∙ i') h h'))

-- a nonterminal
by_rule : (n : Rule) → in_list n ≡ false → {s mid mid' : Scopes} {ts rest rest' : List Terminal} {ys : List Tree} {cs : List Bool}
    → Prefers (table n) s mid ts rest cs → (o : Derives (over grammar) (grammar n) s ts ys mid' rest')
    → (F : List ℕ) (b c i : Bool) → IsReady (rule n) F b c i → Set b i s → mem (ahead tables parsed (close n mid) rest) F ≡ true → mem (ahead tables parsed (close n mid') rest') F ≡ true → Compared cs (close n mid) rest (choices (over grammar) o) (close n mid') rest'
unfolding decided opens
by_rule n e {s = s} {mid = mid} {mid' = mid'} {ts = ts} {rest = rest} {rest' = rest'} {ys = ys} k o F b c i w x h h' =
    let t = subst (λ z. IsTaking (over grammar) z s ts ys mid' rest' (choices (over grammar) o)) (sym (open_form n)) (itself o) in
    closed n
    (retaken t.takes (k.outside _ _ _ t.is (follows n) (not (is_balanced n)) false false (of_rule n e) (inside_set n F b i s w.fit x) (no_parameter s) (at_follow n F mid rest w.sets h) (at_follow n F mid' rest' w.sets h')))

rule_outside : (n : Rule) {s new new' : Scopes} {ts rest rest' : List Terminal} {xs ys : List Tree} → (d : Derives parsed (rule n) s ts xs new rest) → Below d
    → (o : Derives (over grammar) (rule n) s ts ys new' rest') → (F : List ℕ) (b c i : Bool) → IsReady (rule n) F b c i → Set b i s
    → mem (ahead tables parsed new rest) F ≡ true → mem (ahead tables parsed new' rest') F ≡ true
    → Compared (open_choices d) new rest (choices (over grammar) o) new' rest'
unfolding Below open_choices choices opens in_list
rule_outside r.Squals {s = s} {new = new} {new' = new'} {rest = rest} {rest' = rest'} d β o F b c i w x h h' =
    prefer_list d β o (squals_clear F b i s w.fit x) (squals_owing F b i new' rest' w.fit x o h') (end_colon F new rest (squals_goers F b i w.fit) h)
rule_outside r.Specs {s = s} d β o F b c i w x h h' = prefer_specs d β o F (specs_goers F b i w.fit) (specs_clear F b i s w.fit x) x.idle.reading h h'
rule_outside r.Spec d β o F b c i w x h h' = part_absurd r.Spec part_spec F b i w.fit
rule_outside r.Storage d β o F b c i w x h h' = part_absurd r.Storage part_storage F b i w.fit
rule_outside r.Typespec d β o F b c i w x h h' = part_absurd r.Typespec part_typespec F b i w.fit
rule_outside r.Struct d β o F b c i w x h h' = part_absurd r.Struct part_struct F b i w.fit
rule_outside r.Enum d β o F b c i w x h h' = part_absurd r.Enum part_enum F b i w.fit
rule_outside n (Derives.a_rule d) β (Derives.a_rule o) F b c i w x h h' = by_rule n refl β.0 o F b c i w x h h'

rule_lists : (n : Rule) {s new : Scopes} {ts rest : List Terminal} {xs : List Tree} → (d : Derives parsed (rule n) s ts xs new rest) → Below d → RuleLists n s new ts rest (open_choices d)
unfolding RuleLists
rule_lists r.Squals d β = λ new' rest' ys o b w c. prefer_list d β o b w c
rule_lists _ d β = tt

-- each is known where all below it is
outside_of : {f : Form} {s new new' : Scopes} {ts rest rest' : List Terminal} {xs ys : List Tree} → (d : Derives parsed f s ts xs new rest) → Below d
    → (o : Derives (over grammar) (opens f) s ts ys new' rest')
    → (F : List ℕ) (b c i : Bool) → IsReady f F b c i → Set b i s → Parameter c s → mem (ahead tables parsed new rest) F ≡ true → mem (ahead tables parsed new' rest') F ≡ true → Compared (open_choices d) new rest (choices (over grammar) o) new' rest'
unfolding Below opens open_choices choices decided
outside_of (Derives.a_word e) β (Derives.a_word e') F b c i w x y h h' = Compared.alike refl refl refl
outside_of {f = rule n} d β o F b c i w x y h h' = rule_outside n d β o F b c i w x h h'
outside_of Derives.nothing β Derives.nothing F b c i w x y h h' = Compared.alike refl refl refl
outside_of {f = f then g} (Derives.both d d' q) β (Derives.both o o' q') F b c i w x y h h' =
    joined (β.0.outside _ _ _ o (leads tables g F) b c i (to_first w) x y (lead tables parsed quiet checked F d' h) (open_lead g F o' h')) (λ p r.
    let u = moved (over grammar) (sym p) (sym r) o' in
    retaken u.takes (β.2.outside _ _ _ u.is F (clear (opens f) b) (gives_parameter f) (is_open (opens f) i) (to_second w) (set_at p (behind_first w.fit o x)) (given f d) h h'))
outside_of {f = f or g} (Derives.left d) β (Derives.left o) F b c i w x y h h' = marked true (β.0.outside _ _ _ o F b c i (to_left w) x y h h')
outside_of {f = f or g} (Derives.left d) β (Derives.right o) F b c i w x y h h' = Compared.before tt
outside_of {f = f or g} (Derives.right d) β (Derives.left o) F b c i w x y h h' =
    absurd
    (apart_mem tables _ (leads tables f F) (leads tables g F) (and_left _ (decided tables f F) (and_left _ (decided tables g F) w.sets)) (open_lead f F o h') (lead tables parsed quiet checked F d h))
outside_of {f = f or g} (Derives.right d) β (Derives.right o) F b c i w x y h h' = marked false (β.0.outside _ _ _ o F b c i (to_right w) x y h h')
outside_of {f = maybe f} Derives.skip β Derives.skip F b c i w x y h h' = Compared.alike refl refl refl
outside_of {f = maybe f} Derives.skip β (Derives.take o) F b c i w x y h h' =
    let n = and_left _ (decided tables f F) w.sets in
    absurd (apart_mem tables _ (first tables f) F (and_right (not (nullable tables f)) _ n) (only_first f F _ (and_left _ (apart tables (first tables f) F) n) (open_lead f F o h')) h)
outside_of {f = maybe f} (Derives.take d) β Derives.skip F b c i w x y h h' = Compared.before tt
outside_of {f = maybe f} (Derives.take d) β (Derives.take o) F b c i w x y h h' = marked true (β.0.outside _ _ _ o F b c i (to_maybe w) x y h h')
outside_of {f = many f} Derives.stop β Derives.stop F b c i w x y h h' = Compared.alike refl refl refl
outside_of {f = many f} Derives.stop β (Derives.turn o o' q') F b c i w x y h h' =
    let n = and_left _ (decided tables f (first tables f ++ F)) w.sets in
    absurd
    (apart_mem tables _ (first tables f) F (and_right (not (nullable tables f)) _ n) (only_first f (first tables f ++ F) _ (and_left _ (apart tables (first tables f) F) n) (open_lead f (first tables f ++ F) o (many_lead f F o' h'))) h)
outside_of {f = many f} (Derives.turn d d' q) β Derives.stop F b c i w x y h h' = Compared.before tt
outside_of {f = many f} {s = s} (Derives.turn {mid = mid} d d' q) β (Derives.turn o o' q') F b c i w x y h h' =
    marked true (joined (β.0.outside _ _ _ o (first tables f ++ F) b false i (to_many w) x (no_parameter s) (many_first f F d' h) (many_lead f F o' h')) (λ p r.
    let u = moved (over grammar) (sym p) (sym r) o' in
    retaken u.takes (β.2.outside _ _ _ u.is F b false i (to_more w) (set_at p (behind_turn w.fit o x)) (no_parameter mid) h h')))
outside_of {f = when p f g} (Derives.chosen a d) β o F b c i w x y h h' = choose_first (stays p) p (opens f) (opens g) a (λ o. β.0.outside _ _ _ o F b c i (to_chosen w) x y h h') o
outside_of {f = when p f g} {s = s} {new' = new'} {ts = ts} {rest' = rest'} (Derives.other a d) β o F b c i w x y h h' =
    choose_second (stays p) p (opens f) (opens g) a (λ e o.
    let t = the_whole (when_closed w.tests e) ((known steps o).whole F b i (to_chosen w).fit x h') in
    clash _ ((when_taken w.tests e).holds s new' ts rest' t.trees x.clear y t.is) a) (λ o. β.0.outside _ _ _ o F b c i (to_other w) x y h h') o
outside_of {f = loop p f} {s = s} {ts = ts} (Derives.done a) β o F b c i w x y h h' = choose_done (stays p) p (opens f) a (λ e mid' later' ys zs o o'.
    let t = the_whole (loop_closed w.tests e) ((known steps o).whole (first tables f ++ F) b i (to_loop w).fit x (loop_lead p f F o' h')) in
    clash _ ((loop_taken w.tests e).holds s mid' ts later' t.trees x.clear (no_parameter s) t.is) a) o
outside_of {f = loop p f} {s = s} (Derives.again {mid = mid} a d d' q) β o F b c i w x y h h' = choose_again (stays p) p (opens f) a (λ mid' later' ys zs o o'.
    joined (β.0.outside _ _ _ o (first tables f ++ F) b false i (to_loop w) x (no_parameter s) (loop_first p f F d' h) (loop_lead p f F o' h')) (λ z r.
    let u = moved (over grammar) (sym z) (sym r) o' in
    retaken u.takes (β.2.outside _ _ _ u.is F b false i (to_further w) (set_at z (behind_any (stays p) p (opens f) F w.fit o x)) (no_parameter mid) h h'))) o

lists_of : (f : Form) {s new : Scopes} {ts rest : List Terminal} {xs : List Tree} → (d : Derives parsed f s ts xs new rest) → Below d → Lists f s new ts rest (open_choices d)
unfolding Lists
lists_of (word ks a) d β = tt
lists_of (rule n) d β = rule_lists n d β
lists_of empty d β = tt
lists_of (f then g) d β = tt
lists_of (f or g) d β = tt
lists_of (maybe f) d β = tt
lists_of (many f) d β = tt
lists_of (when p f g) d β = tt
lists_of (loop p f) d β = tt

step : {f : Form} {s new : Scopes} {ts rest : List Terminal} {xs : List Tree} → (d : Derives parsed f s ts xs new rest) → Below d → Prefers f s new ts rest (open_choices d)
step {f = f} d β = record { outside = λ new' rest' ys o F b c i w x y h h'. outside_of d β o F b c i w x y h h'; list = lists_of f d β }

every : {f : Form} {s new : Scopes} {ts rest : List Terminal} {xs : List Tree} → (d : Derives parsed f s ts xs new rest) → Below d
unfolding Below
every (Derives.a_word e) = tt
every (Derives.a_rule d) = (step d (every d), every d)
every Derives.nothing = tt
every (Derives.both d e q) = (step d (every d), every d, step e (every e), every e)
every (Derives.left d) = (step d (every d), every d)
every (Derives.right d) = (step d (every d), every d)
every Derives.skip = tt
every (Derives.take d) = (step d (every d), every d)
every Derives.stop = tt
every (Derives.turn d e q) = (step d (every d), every d, step e (every e), every e)
every (Derives.chosen a d) = (step d (every d), every d)
every (Derives.other a d) = (step d (every d), every d)
every (Derives.done a) = tt
every (Derives.again a d e q) = (step d (every d), every d, step e (every e), every e)

not_earlier : {cs ds : List Bool} {new new' : Scopes} {rest rest' : List Terminal} → Compared cs new rest ds new' rest' → Earlier ds cs → ⊥
not_earlier {cs = cs} {ds = ds} (Compared.before b) e = not_both cs ds b e
not_earlier {ds = ds} (Compared.alike q _ _) e = not_itself ds (subst (λ z. Earlier ds z) q e)

unit_ready : IsReady (rule r.Unit) (0 ∷ []) true false false
unfolding decided flows suffixed bounded idles opens plain within follows mem is_balanced in_list
unit_ready = record { sets = refl; fit = record { flow = refl; suffix = refl; bound = refl; idle = refl }; tests = IsTested.plainly refl }

at_end : (s : Scopes) → mem (ahead tables parsed s []) (0 ∷ []) ≡ true
unfolding mem ahead
at_end s = refl

-- no derivation of a unit by the grammar comes earlier than the parser's
pub comes_first : (ts : List Terminal) (xs : List Tree) (new : Scopes) (d : Derives parsed (rule r.Unit) start ts xs new []) (ys : List Tree) (new' : Scopes) (o : Derives (over grammar) (rule r.Unit) start ts ys new' [])
    → Earlier (choices (over grammar) o) (open_choices d) → ⊥
unfolding opens
comes_first ts xs new d ys new' o e =
    not_earlier
    ((step d (every d)).outside _ _ _ o (0 ∷ []) true false false unit_ready (record { clear = λ _. refl; idle = record { reading = refl; frame = λ e. absurd (cc) } }) (no_parameter start) (at_end new) (at_end new')) e
