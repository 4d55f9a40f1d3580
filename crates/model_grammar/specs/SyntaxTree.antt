-- The trees of the grammar, and the language that the grammar gives: its trees are the derivations.
use Rattle.std.specs.Prelude.{Bool, true, false, ◌==◌, List, [], ◌∷◌, Option, Some, None}
use Rattle.model_grammar.specs.declared.grammar.Test.{Test}
use Rattle.model_grammar.specs.declared.grammar.Test.TheVariants as test
use Rattle.model_grammar.specs.declared.grammar.Terminal.{Terminal}
use Rattle.model_grammar.specs.declared.grammar.Entry.{Entry}
use Rattle.model_grammar.specs.declared.grammar.Tree.{Tree}
use Rattle.model_grammar.specs.declared.grammar.Tree.TheVariants as tree
use Rattle.model_grammar.specs.Terminals as k
use Rattle.model_grammar.specs.NameScopes.{Scopes, kind, after, close}
use Rattle.model_grammar.specs.Derivation.{Language}
use Rattle.model_grammar.specs.GrammarForm.{mem}
use Rattle.model_grammar.specs.Grammar.{grammar, is_part, type_kinds}

-- a function's parameters stand next to the name that is declared, or to the missing name of a type name
abbrev pub has_parameters : Option (List Entry) → Bool
has_parameters (Some entries) = true
has_parameters None = false

-- `else` comes next
abbrev pub sees_else : List Terminal → Bool
sees_else [] = false
sees_else (t ∷ ts) = t.kind == k.Else

-- a type specifier or a qualifier comes next
abbrev pub sees_type : Scopes → List Terminal → Bool
sees_type s [] = false
sees_type s (t ∷ ts) = mem (kind s t) type_kinds

-- the tests of the grammar
abbrev pub asks : Test → Scopes → List Terminal → Bool
asks test.HasParameters s ts = has_parameters s.reading.held
asks test.ElseAhead s ts = sees_else ts
asks test.TypeAhead s ts = sees_type s ts
asks _ s ts = false

-- the language of translation units (ISO/IEC 9899:2024, 6.9)
abbrev pub c_language : Language
c_language = record {
  State = Scopes;
  Token = Terminal;
  Tree = Tree;
  leaf = tree.Leaf;
  node = tree.Node;
  kind = kind;
  after = after;
  close = close;
  test = asks;
  is_part = is_part;
  body = grammar;
}
