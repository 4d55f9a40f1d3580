-- Members that are read from the front.
use Rattle.std.specs.Prelude.{◌≡◌, refl, List, [], ◌∷◌, ◌++◌}
use Rattle.std.proofs.Common.{ap}
use Rattle.model_grammar.specs.SyntaxForms as m
use Rattle.c_tree.specs.declared.syntax_specifiers.MemberDeclaration.{MemberDeclaration}
use Rattle.c_tree.specs.SyntaxViews.{member_declaration_of, member_declarations_of}

-- the members before others
abbrev pub before : List MemberDeclaration → m.MemberDeclarations → m.MemberDeclarations
before [] others = others
before (x ∷ xs) others = m.more_members (member_declaration_of x) (before xs others)

pub before_last : (xs : List MemberDeclaration) (x : MemberDeclaration) (others : m.MemberDeclarations) → before (xs ++ x ∷ []) others ≡ before xs (m.more_members (member_declaration_of x) others)
before_last [] x others = refl
before_last (y ∷ ys) x others = ap (m.more_members (member_declaration_of y)) (before_last ys x others)

pub before_none : (xs : List MemberDeclaration) → before xs m.no_members ≡ member_declarations_of xs
before_none [] = refl
before_none (x ∷ xs) = ap (m.more_members (member_declaration_of x)) (before_none xs)
