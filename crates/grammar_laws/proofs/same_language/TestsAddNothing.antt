-- What the parser's table derives or begins, the grammar does.
use Rattle.std.proofs.Common.{◌≡◌, true, false, List, [], ◌++◌, refl, subst}
use Rattle.model_grammar.specs.declared.grammar.Rule.{Rule}
use Rattle.model_grammar.specs.declared.grammar.Rule.TheVariants as r
use Rattle.model_grammar.specs.declared.grammar.Test.{Test}
use Rattle.model_grammar.specs.declared.grammar.Test.TheVariants as test
use Rattle.model_grammar.specs.declared.grammar.Terminal.{Terminal}
use Rattle.model_grammar.specs.declared.grammar.Tree.{Tree}
use Rattle.model_grammar.specs.GrammarForm.{Form, word, rule, empty, ◌then◌, ◌or◌, maybe, many, when, loop}
use Rattle.model_grammar.specs.NameScopes.{Scopes, start}
use Rattle.model_grammar.specs.Derivation.{Derives, Begins}
use Rattle.grammar_laws.specs.apparatus.Untested.{untested, open_choice, open_loop, either}
use Rattle.model_grammar.specs.Grammar.{grammar}
use Rattle.grammar_laws.specs.ParserTable.{table}
use Rattle.model_grammar.specs.SyntaxTree.{c_language}
use Rattle.grammar_laws.specs.ParserTests.{parsed, passes}

pub same_table : (rule : Rule) → untested (table rule) ≡ grammar rule
unfolding untested open_choice open_loop either table grammar
same_table r.Unit = refl
same_table r.External = refl
same_table r.Function = refl
same_table r.Declaration = refl
same_table r.Sassert = refl
same_table r.Attrs = refl
same_table r.Attr = refl
same_table r.Specs = refl
same_table r.Spec = refl
same_table r.Storage = refl
same_table r.Typespec = refl
same_table r.Qual = refl
same_table r.Squals = refl
same_table r.Struct = refl
same_table r.Members = refl
same_table r.Member = refl
same_table r.Enum = refl
same_table r.Enumr = refl
same_table r.Declarator = refl
same_table r.Direct = refl
same_table r.Suffix = refl
same_table r.Params = refl
same_table r.Param = refl
same_table r.Typename = refl
same_table r.Abstract = refl
same_table r.Adirect = refl
same_table r.Initdecl = refl
same_table r.Init = refl
same_table r.Braces = refl
same_table r.Item = refl
same_table r.Desig = refl
same_table r.Block = refl
same_table r.Label = refl
same_table r.Statement = refl
same_table r.Expr = refl
same_table r.Assign = refl
same_table r.Cond = refl
same_table r.Oror = refl
same_table r.Andand = refl
same_table r.Bor = refl
same_table r.Bxor = refl
same_table r.Band = refl
same_table r.Equal = refl
same_table r.Rel = refl
same_table r.Shift = refl
same_table r.Sum = refl
same_table r.Product = refl
same_table r.Cast = refl
same_table r.Unary = refl
same_table r.Postfix = refl
same_table r.Primary = refl
same_table r.Literal = refl
same_table r.Balanced = refl
same_table r.Declared = refl
same_table r.ParamSpecs = refl
same_table r.Body = refl
same_table r.Typeof = refl
same_table r.If = refl
same_table r.For = refl

-- the first alternative of a choice, and the second
in_either : (f g : Form) {s new : Scopes} {ts rest : List Terminal} {xs : List Tree} → Derives c_language f s ts xs new rest → Derives c_language (either f g) s ts xs new rest
unfolding either
in_either f (word ks a) d = Derives.left d
in_either f (rule n) d = Derives.left d
in_either f empty d = Derives.take d
in_either f (g then h) d = Derives.left d
in_either f (g or h) d = Derives.left d
in_either f (maybe g) d = Derives.left d
in_either f (many g) d = Derives.left d
in_either f (when p g h) d = Derives.left d
in_either f (loop p g) d = Derives.left d

or_else : (f g : Form) {s new : Scopes} {ts rest : List Terminal} {xs : List Tree} → Derives c_language g s ts xs new rest → Derives c_language (either f g) s ts xs new rest
unfolding either
or_else f (word ks a) d = Derives.right d
or_else f (rule n) d = Derives.right d
or_else f empty Derives.nothing = Derives.skip
or_else f (g then h) d = Derives.right d
or_else f (g or h) d = Derives.right d
or_else f (maybe g) d = Derives.right d
or_else f (many g) d = Derives.right d
or_else f (when p g h) d = Derives.right d
or_else f (loop p g) d = Derives.right d

choice_first : (p : Test) (f g : Form) {s new : Scopes} {ts rest : List Terminal} {xs : List Tree} → passes p s ts ≡ true
    → Derives c_language f s ts xs new rest → Derives c_language (open_choice p f g) s ts xs new rest
unfolding open_choice
choice_first test.HasParameters f g b d = Derives.chosen b d
choice_first test.ElseAhead f g b d = Derives.chosen b d
choice_first _ f g b d = in_either f g d

choice_second : (p : Test) (f g : Form) {s new : Scopes} {ts rest : List Terminal} {xs : List Tree} → passes p s ts ≡ false
    → Derives c_language g s ts xs new rest → Derives c_language (open_choice p f g) s ts xs new rest
unfolding open_choice
choice_second test.HasParameters f g b d = Derives.other b d
choice_second test.ElseAhead f g b d = Derives.other b d
choice_second _ f g b d = or_else f g d

loop_done : (p : Test) (f : Form) {s : Scopes} {ts : List Terminal} → passes p s ts ≡ false → Derives c_language (open_loop p f) s ts [] s ts
unfolding open_loop
loop_done test.TypeAhead f b = Derives.done b
loop_done _ f b = Derives.stop

loop_again : (p : Test) (f : Form) {s mid new : Scopes} {ts later rest : List Terminal} {xs ys zs : List Tree} → passes p s ts ≡ true
    → Derives c_language f s ts xs mid later → Derives c_language (open_loop p f) mid later ys new rest → zs ≡ xs ++ ys
    → Derives c_language (open_loop p f) s ts zs new rest
unfolding open_loop
loop_again test.TypeAhead f b d e q = Derives.again b d e q
loop_again _ f b d e q = Derives.turn d e q

pub grammar_derives : {f : Form} {s new : Scopes} {ts rest : List Terminal} {xs : List Tree} → Derives parsed f s ts xs new rest → Derives c_language (untested f) s ts xs new rest
unfolding untested
grammar_derives (Derives.a_word e) = Derives.a_word e
grammar_derives {f = rule n} {s = s} {ts = ts} (Derives.a_rule {new = new} {rest = rest} {xs = xs} d) =
    Derives.a_rule (subst (λ g. Derives c_language g s ts xs new rest) (same_table n) (grammar_derives d))
grammar_derives Derives.nothing = Derives.nothing
grammar_derives (Derives.both d e p) = Derives.both (grammar_derives d) (grammar_derives e) p
grammar_derives (Derives.left d) = Derives.left (grammar_derives d)
grammar_derives (Derives.right d) = Derives.right (grammar_derives d)
grammar_derives Derives.skip = Derives.skip
grammar_derives (Derives.take d) = Derives.take (grammar_derives d)
grammar_derives Derives.stop = Derives.stop
grammar_derives (Derives.turn d e p) = Derives.turn (grammar_derives d) (grammar_derives e) p
grammar_derives (Derives.chosen b d) = choice_first _ _ _ b (grammar_derives d)
grammar_derives (Derives.other b d) = choice_second _ _ _ b (grammar_derives d)
grammar_derives (Derives.done b) = loop_done _ _ b
grammar_derives (Derives.again b d e p) = loop_again _ _ b (grammar_derives d) (grammar_derives e) p

-- likewise what is begun
begun_either : (f g : Form) {s : Scopes} {ts rest : List Terminal} → Begins c_language f s ts rest → Begins c_language (either f g) s ts rest
unfolding either
begun_either f (word ks a) d = Begins.in_left d
begun_either f (rule n) d = Begins.in_left d
begun_either f empty d = Begins.in_maybe d
begun_either f (g then h) d = Begins.in_left d
begun_either f (g or h) d = Begins.in_left d
begun_either f (maybe g) d = Begins.in_left d
begun_either f (many g) d = Begins.in_left d
begun_either f (when p g h) d = Begins.in_left d
begun_either f (loop p g) d = Begins.in_left d

begun_else : (f g : Form) {s : Scopes} {ts rest : List Terminal} → Begins c_language g s ts rest → Begins c_language (either f g) s ts rest
unfolding either
begun_else f (word ks a) d = Begins.in_right d
begun_else f (rule n) d = Begins.in_right d
begun_else f empty Begins.yet = Begins.yet
begun_else f (g then h) d = Begins.in_right d
begun_else f (g or h) d = Begins.in_right d
begun_else f (maybe g) d = Begins.in_right d
begun_else f (many g) d = Begins.in_right d
begun_else f (when p g h) d = Begins.in_right d
begun_else f (loop p g) d = Begins.in_right d

begun_first : (p : Test) (f g : Form) {s : Scopes} {ts rest : List Terminal} → passes p s ts ≡ true → Begins c_language f s ts rest → Begins c_language (open_choice p f g) s ts rest
unfolding open_choice
begun_first test.HasParameters f g b d = Begins.in_chosen b d
begun_first test.ElseAhead f g b d = Begins.in_chosen b d
begun_first _ f g b d = begun_either f g d

begun_second : (p : Test) (f g : Form) {s : Scopes} {ts rest : List Terminal} → passes p s ts ≡ false → Begins c_language g s ts rest → Begins c_language (open_choice p f g) s ts rest
unfolding open_choice
begun_second test.HasParameters f g b d = Begins.in_other b d
begun_second test.ElseAhead f g b d = Begins.in_other b d
begun_second _ f g b d = begun_else f g d

begun_again : (p : Test) (f : Form) {s : Scopes} {ts rest : List Terminal} → passes p s ts ≡ true → Begins c_language f s ts rest → Begins c_language (open_loop p f) s ts rest
unfolding open_loop
begun_again test.TypeAhead f b d = Begins.in_again b d
begun_again _ f b d = Begins.in_turn d

begun_further : (p : Test) (f : Form) {s mid : Scopes} {ts later rest : List Terminal} {xs : List Tree} → passes p s ts ≡ true
    → Derives c_language f s ts xs mid later → Begins c_language (open_loop p f) mid later rest → Begins c_language (open_loop p f) s ts rest
unfolding open_loop
begun_further test.TypeAhead f b d e = Begins.in_further b d e
begun_further _ f b d e = Begins.in_later d e

pub grammar_begins : {f : Form} {s : Scopes} {ts rest : List Terminal} → Begins parsed f s ts rest → Begins c_language (untested f) s ts rest
unfolding untested
grammar_begins Begins.yet = Begins.yet
grammar_begins (Begins.in_word e) = Begins.in_word e
grammar_begins {f = rule n} {s = s} {ts = ts} {rest = rest} (Begins.in_rule d) = Begins.in_rule (subst (λ g. Begins c_language g s ts rest) (same_table n) (grammar_begins d))
grammar_begins (Begins.in_first d) = Begins.in_first (grammar_begins d)
grammar_begins (Begins.in_then d e) = Begins.in_then (grammar_derives d) (grammar_begins e)
grammar_begins (Begins.in_left d) = Begins.in_left (grammar_begins d)
grammar_begins (Begins.in_right d) = Begins.in_right (grammar_begins d)
grammar_begins (Begins.in_maybe d) = Begins.in_maybe (grammar_begins d)
grammar_begins (Begins.in_turn d) = Begins.in_turn (grammar_begins d)
grammar_begins (Begins.in_later d e) = Begins.in_later (grammar_derives d) (grammar_begins e)
grammar_begins (Begins.in_chosen b d) = begun_first _ _ _ b (grammar_begins d)
grammar_begins (Begins.in_other b d) = begun_second _ _ _ b (grammar_begins d)
grammar_begins (Begins.in_again b d) = begun_again _ _ b (grammar_begins d)
grammar_begins (Begins.in_further b d e) = begun_further _ _ b (grammar_derives d) (grammar_begins e)

pub grammar_derives_unit : (ts : List Terminal) (xs : List Tree) (new : Scopes) (rest : List Terminal) → Derives parsed (rule r.Unit) start ts xs new rest
    → Derives c_language (rule r.Unit) start ts xs new rest
unfolding untested
grammar_derives_unit ts xs new rest d = grammar_derives d

pub grammar_begins_unit : (ts rest : List Terminal) → Begins parsed (rule r.Unit) start ts rest → Begins c_language (rule r.Unit) start ts rest
unfolding untested
grammar_begins_unit ts rest d = grammar_begins d
