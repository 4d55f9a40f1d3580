-- The parser's table and the grammar derive and begin the same units.
use Rattle.std.proofs.Common.{◌≡◌, ℕ, true, false, List, [], ◌∷◌, refl}
use Rattle.model_grammar.specs.declared.grammar.Rule.TheVariants as r
use Rattle.model_grammar.specs.declared.grammar.Terminal.{Terminal}
use Rattle.model_grammar.specs.declared.grammar.Tree.{Tree}
use Rattle.model_grammar.specs.GrammarForm.{rule, mem}
use Rattle.model_grammar.specs.NameScopes.{Scopes, start}
use Rattle.model_grammar.specs.SyntaxTree.{c_language}
use Rattle.model_grammar.specs.Derivation.{Derives, Begins}
use Rattle.grammar_laws.specs.FaultPlace.{FaultsAt}
use Rattle.grammar_laws.specs.apparatus.DecidedTable.{within}
use Rattle.grammar_laws.specs.ParserWalk.{ahead}
use Rattle.grammar_laws.specs.ParserSets.{tables, follows}
use Rattle.grammar_laws.specs.ParserTests.{parsed}
use Rattle.grammar_laws.proofs.same_language.TestsAddNothing.{grammar_begins_unit}
use Rattle.grammar_laws.proofs.derivations.ClearBrackets.{is_balanced}
use Rattle.grammar_laws.proofs.derivations.NoneAwaitsBraces.{idles}
use Rattle.grammar_laws.proofs.derivations.FollowsOfForms.{flows}
use Rattle.grammar_laws.proofs.tests_lose_nothing.SuffixEnds.{is_suffix, ends_open, suffixed, the_whole, the_held}
use Rattle.grammar_laws.proofs.same_language.FormsOutsideLists.{in_list, bounded, Fit, Set}
use Rattle.grammar_laws.proofs.same_language.SharedTests.{bare, over_tests, over_begun}
use Rattle.grammar_laws.proofs.same_language.DerivedForms.{known}
use Rattle.grammar_laws.proofs.same_language.DerivedByTable.{steps}
use Rattle.grammar_laws.proofs.same_language.BegunForms.{begins}
use Rattle.grammar_laws.proofs.same_language.BegunByTable.{turns}

-- a whole unit
at_end : (s : Scopes) → mem (ahead tables parsed s []) (0 ∷ []) ≡ true
unfolding mem ahead
at_end s = refl

unit_fit : Fit (rule r.Unit) (0 ∷ []) true false
unfolding flows within follows mem is_balanced suffixed bounded in_list idles
unit_fit = record { flow = refl; suffix = refl; bound = refl; idle = refl }

unit_set : Set true false start
unit_set = record { clear = λ e. refl; idle = record { reading = refl; frame = λ e. absurd (cc) } }

unit_closed : ends_open (rule r.Unit) ≡ false
unfolding ends_open is_suffix
unit_closed = refl

pub whole : (ts : List Terminal) (xs : List Tree) (new : Scopes) → Derives c_language (rule r.Unit) start ts xs new [] → (ys : List Tree) × Derives parsed (rule r.Unit) start ts ys new []
unfolding bare
whole ts xs new d = let e = the_whole unit_closed ((known steps (over_tests d refl)).whole (0 ∷ []) true false unit_fit unit_set (at_end new)) in (e.trees, e.is)

pub front : (ts rest : List Terminal) → Begins c_language (rule r.Unit) start ts rest → Begins parsed (rule r.Unit) start ts rest
unfolding bare
front ts rest d = the_held unit_closed ((begins turns (over_begun d refl)).begun (0 ∷ []) true false unit_fit unit_set)

-- the first fault by the parser's table is that by the grammar
pub grammar_fault : (ts : List Terminal) (k : ℕ) → FaultsAt parsed (rule r.Unit) start ts k → FaultsAt c_language (rule r.Unit) start ts k
grammar_fault ts k f = record {
  within = f.within;
  begun = grammar_begins_unit ts _ f.begun;
  no_more = λ rest d. f.no_more rest (front ts rest d);
  not_whole = λ xs new d. let e = whole ts xs new d in f.not_whole e.0 new e.1;
}
