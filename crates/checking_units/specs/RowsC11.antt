-- C11: operand has no address: units of one line, as trees.
use Rattle.std.specs.Prelude.{List, [], ◌∷◌, Some, false, pos, codes}
use Rattle.model_grammar.specs.SyntaxForms as syntax
use Rattle.model_types.specs.declared.numbers.Basic.TheVariants as basic
use Rattle.model_grammar.specs.declared.syntax.StorageWord.TheVariants as storage
use Rattle.model_grammar.specs.declared.syntax.TypeWord.TheVariants as type
use Rattle.model_grammar.specs.declared.syntax.PrefixOp.TheVariants as prefix
use Rattle.checking_units.specs.Parts.{at, name, specs, pointer, suffixes, parameters, members, declared, block_items, span}

-- struct s { int a[2]; }; struct s f(void); void g(void) { &f().a; }
abbrev pub c11_1 : List syntax.External
c11_1 = (syntax.ExternalDeclaration (syntax.SimpleDeclaration (specs (syntax.Struct (Some (name (codes "s") (at 8 1))) (members (syntax.MemberDeclarators (specs (syntax.TypeSpec type.Int (at 12 3) ∷ [])) (syntax.declarators ((syntax.Named [] (name (codes "a") (at 16 4)) (suffixes (syntax.ArraySuffix (syntax.an_expr (syntax.Constant (pos 2) basic.Int (at 18 6))) (at 17 5) ∷ []))) ∷ [])) ∷ [])) (at 1 0) ∷ [])) (declared [])) ∷ syntax.ExternalDeclaration (syntax.SimpleDeclaration (specs (syntax.StructTag (name (codes "s") (at 32 12)) (at 25 11) ∷ [])) (declared (syntax.init_declarator (syntax.Named [] (name (codes "f") (at 34 13)) (suffixes (syntax.FunctionSuffix (parameters (syntax.parameter (specs (syntax.TypeSpec type.Void (at 36 15) ∷ [])) (syntax.Unnamed [] (suffixes [])) (at 36 15) ∷ [])) false (at 35 14) ∷ []))) syntax.no_initializer ∷ []))) ∷ syntax.FunctionDefinition (specs (syntax.TypeSpec type.Void (at 43 18) ∷ [])) (syntax.Named [] (name (codes "g") (at 48 19)) (suffixes (syntax.FunctionSuffix (parameters (syntax.parameter (specs (syntax.TypeSpec type.Void (at 50 21) ∷ [])) (syntax.Unnamed [] (suffixes [])) (at 50 21) ∷ [])) false (at 49 20) ∷ []))) (syntax.block (block_items (syntax.StatementItem (syntax.ExpressionStatement (syntax.an_expr (syntax.Unary prefix.Address (syntax.Member (syntax.Call (syntax.Identifier (name (codes "f") (at 59 25))) (syntax.exprs []) (at 60 26)) (name (codes "a") (at 63 29)) (at 62 28)) (at 58 24))) (span (at 58 24) (at 64 30))) ∷ [])) (span (at 56 23) (at 66 31))) ∷ [])

-- void v(void); void g(void) { &v(); }
abbrev pub c11_2 : List syntax.External
c11_2 = (syntax.ExternalDeclaration (syntax.SimpleDeclaration (specs (syntax.TypeSpec type.Void (at 1 0) ∷ [])) (declared (syntax.init_declarator (syntax.Named [] (name (codes "v") (at 6 1)) (suffixes (syntax.FunctionSuffix (parameters (syntax.parameter (specs (syntax.TypeSpec type.Void (at 8 3) ∷ [])) (syntax.Unnamed [] (suffixes [])) (at 8 3) ∷ [])) false (at 7 2) ∷ []))) syntax.no_initializer ∷ []))) ∷ syntax.FunctionDefinition (specs (syntax.TypeSpec type.Void (at 15 6) ∷ [])) (syntax.Named [] (name (codes "g") (at 20 7)) (suffixes (syntax.FunctionSuffix (parameters (syntax.parameter (specs (syntax.TypeSpec type.Void (at 22 9) ∷ [])) (syntax.Unnamed [] (suffixes [])) (at 22 9) ∷ [])) false (at 21 8) ∷ []))) (syntax.block (block_items (syntax.StatementItem (syntax.ExpressionStatement (syntax.an_expr (syntax.Unary prefix.Address (syntax.Call (syntax.Identifier (name (codes "v") (at 31 13))) (syntax.exprs []) (at 32 14)) (at 30 12))) (span (at 30 12) (at 34 16))) ∷ [])) (span (at 28 11) (at 36 17))) ∷ [])

-- extern void v; void g(void) { &v; }
abbrev pub c11_3 : List syntax.External
c11_3 = (syntax.ExternalDeclaration (syntax.SimpleDeclaration (specs (syntax.StorageSpec storage.Extern (at 1 0) ∷ syntax.TypeSpec type.Void (at 8 1) ∷ [])) (declared (syntax.init_declarator (syntax.Named [] (name (codes "v") (at 13 2)) (suffixes [])) syntax.no_initializer ∷ []))) ∷ syntax.FunctionDefinition (specs (syntax.TypeSpec type.Void (at 16 4) ∷ [])) (syntax.Named [] (name (codes "g") (at 21 5)) (suffixes (syntax.FunctionSuffix (parameters (syntax.parameter (specs (syntax.TypeSpec type.Void (at 23 7) ∷ [])) (syntax.Unnamed [] (suffixes [])) (at 23 7) ∷ [])) false (at 22 6) ∷ []))) (syntax.block (block_items (syntax.StatementItem (syntax.ExpressionStatement (syntax.an_expr (syntax.Unary prefix.Address (syntax.Identifier (name (codes "v") (at 32 11))) (at 31 10))) (span (at 31 10) (at 33 12))) ∷ [])) (span (at 29 9) (at 35 13))) ∷ [])

-- extern void w; void *g(void) { return &w; }
abbrev pub c11_4 : List syntax.External
c11_4 = (syntax.ExternalDeclaration (syntax.SimpleDeclaration (specs (syntax.StorageSpec storage.Extern (at 1 0) ∷ syntax.TypeSpec type.Void (at 8 1) ∷ [])) (declared (syntax.init_declarator (syntax.Named [] (name (codes "w") (at 13 2)) (suffixes [])) syntax.no_initializer ∷ []))) ∷ syntax.FunctionDefinition (specs (syntax.TypeSpec type.Void (at 16 4) ∷ [])) (syntax.Named (pointer (at 21 5) [] ∷ []) (name (codes "g") (at 22 6)) (suffixes (syntax.FunctionSuffix (parameters (syntax.parameter (specs (syntax.TypeSpec type.Void (at 24 8) ∷ [])) (syntax.Unnamed [] (suffixes [])) (at 24 8) ∷ [])) false (at 23 7) ∷ []))) (syntax.block (block_items (syntax.StatementItem (syntax.Return (syntax.an_expr (syntax.Unary prefix.Address (syntax.Identifier (name (codes "w") (at 40 13))) (at 39 12))) (at 32 11) (span (at 32 11) (at 41 14))) ∷ [])) (span (at 30 10) (at 43 15))) ∷ [])
