-- C22: complete object type is needed: units of one line, as trees.
use Rattle.std.specs.Prelude.{List, [], ◌∷◌, false, codes}
use Rattle.model_grammar.specs.SyntaxForms as syntax
use Rattle.model_grammar.specs.declared.syntax.StorageWord.TheVariants as storage
use Rattle.model_grammar.specs.declared.syntax.TypeWord.TheVariants as type
use Rattle.model_grammar.specs.declared.syntax.PrefixOp.TheVariants as prefix
use Rattle.checking_units.specs.Parts.{at, name, specs, pointer, suffixes, parameters, declared, block_items, span}

-- int a[] = n;
abbrev pub c22_25 : List syntax.External
c22_25 = (syntax.ExternalDeclaration (syntax.SimpleDeclaration (specs (syntax.TypeSpec type.Int (at 1 0) ∷ [])) (declared (syntax.init_declarator (syntax.Named [] (name (codes "a") (at 5 1)) (suffixes (syntax.ArraySuffix syntax.no_expr (at 6 2) ∷ []))) (syntax.an_initializer (syntax.Single (syntax.Identifier (name (codes "n") (at 11 5))))) ∷ []))) ∷ [])

-- struct s f(void) { }
abbrev pub c22_26 : List syntax.External
c22_26 = (syntax.FunctionDefinition (specs (syntax.StructTag (name (codes "s") (at 8 1)) (at 1 0) ∷ [])) (syntax.Named [] (name (codes "f") (at 10 2)) (suffixes (syntax.FunctionSuffix (parameters (syntax.parameter (specs (syntax.TypeSpec type.Void (at 12 4) ∷ [])) (syntax.Unnamed [] (suffixes [])) (at 12 4) ∷ [])) false (at 11 3) ∷ []))) (syntax.block (block_items []) (span (at 18 6) (at 20 7))) ∷ [])

-- void f(void) { auto p = (struct s (void)) { }; }
abbrev pub c22_27 : List syntax.External
c22_27 = (syntax.FunctionDefinition (specs (syntax.TypeSpec type.Void (at 1 0) ∷ [])) (syntax.Named [] (name (codes "f") (at 6 1)) (suffixes (syntax.FunctionSuffix (parameters (syntax.parameter (specs (syntax.TypeSpec type.Void (at 8 3) ∷ [])) (syntax.Unnamed [] (suffixes [])) (at 8 3) ∷ [])) false (at 7 2) ∷ []))) (syntax.block (block_items (syntax.DeclarationItem (syntax.SimpleDeclaration (specs (syntax.StorageSpec storage.Auto (at 16 6) ∷ [])) (declared (syntax.init_declarator (syntax.Named [] (name (codes "p") (at 21 7)) (suffixes [])) (syntax.an_initializer (syntax.Single (syntax.FunctionLiteral (syntax.type_name (specs (syntax.StructTag (name (codes "s") (at 33 11)) (at 26 10) ∷ [])) (syntax.Unnamed [] (suffixes (syntax.FunctionSuffix (parameters (syntax.parameter (specs (syntax.TypeSpec type.Void (at 36 13) ∷ [])) (syntax.Unnamed [] (suffixes [])) (at 36 13) ∷ [])) false (at 35 12) ∷ [])))) (syntax.block (block_items []) (span (at 43 16) (at 45 17))) (at 25 9)))) ∷ []))) ∷ [])) (span (at 14 5) (at 48 19))) ∷ [])

-- void v(void); void g(void) { auto x = v(); }
abbrev pub c22_28 : List syntax.External
c22_28 = (syntax.ExternalDeclaration (syntax.SimpleDeclaration (specs (syntax.TypeSpec type.Void (at 1 0) ∷ [])) (declared (syntax.init_declarator (syntax.Named [] (name (codes "v") (at 6 1)) (suffixes (syntax.FunctionSuffix (parameters (syntax.parameter (specs (syntax.TypeSpec type.Void (at 8 3) ∷ [])) (syntax.Unnamed [] (suffixes [])) (at 8 3) ∷ [])) false (at 7 2) ∷ []))) syntax.no_initializer ∷ []))) ∷ syntax.FunctionDefinition (specs (syntax.TypeSpec type.Void (at 15 6) ∷ [])) (syntax.Named [] (name (codes "g") (at 20 7)) (suffixes (syntax.FunctionSuffix (parameters (syntax.parameter (specs (syntax.TypeSpec type.Void (at 22 9) ∷ [])) (syntax.Unnamed [] (suffixes [])) (at 22 9) ∷ [])) false (at 21 8) ∷ []))) (syntax.block (block_items (syntax.DeclarationItem (syntax.SimpleDeclaration (specs (syntax.StorageSpec storage.Auto (at 30 12) ∷ [])) (declared (syntax.init_declarator (syntax.Named [] (name (codes "x") (at 35 13)) (suffixes [])) (syntax.an_initializer (syntax.Single (syntax.Call (syntax.Identifier (name (codes "v") (at 39 15))) (syntax.exprs []) (at 40 16)))) ∷ []))) ∷ [])) (span (at 28 11) (at 44 19))) ∷ [])

-- int (*p)(void); unsigned long g(void) { return sizeof *p; }
abbrev pub c22_29 : List syntax.External
c22_29 = (syntax.ExternalDeclaration (syntax.SimpleDeclaration (specs (syntax.TypeSpec type.Int (at 1 0) ∷ [])) (declared (syntax.init_declarator (syntax.Grouped [] (syntax.Named (pointer (at 6 2) [] ∷ []) (name (codes "p") (at 7 3)) (suffixes [])) (suffixes (syntax.FunctionSuffix (parameters (syntax.parameter (specs (syntax.TypeSpec type.Void (at 10 6) ∷ [])) (syntax.Unnamed [] (suffixes [])) (at 10 6) ∷ [])) false (at 9 5) ∷ [])) (at 5 1)) syntax.no_initializer ∷ []))) ∷ syntax.FunctionDefinition (specs (syntax.TypeSpec type.Unsigned (at 17 9) ∷ syntax.TypeSpec type.Long (at 26 10) ∷ [])) (syntax.Named [] (name (codes "g") (at 31 11)) (suffixes (syntax.FunctionSuffix (parameters (syntax.parameter (specs (syntax.TypeSpec type.Void (at 33 13) ∷ [])) (syntax.Unnamed [] (suffixes [])) (at 33 13) ∷ [])) false (at 32 12) ∷ []))) (syntax.block (block_items (syntax.StatementItem (syntax.Return (syntax.an_expr (syntax.SizeofExpr (syntax.Unary prefix.Indirection (syntax.Identifier (name (codes "p") (at 56 19))) (at 55 18)) (at 48 17))) (at 41 16) (span (at 41 16) (at 57 20))) ∷ [])) (span (at 39 15) (at 59 21))) ∷ [])

-- struct h; void f(struct h x); void g(void) { (f)(); }
abbrev pub c22_30 : List syntax.External
c22_30 = (syntax.ExternalDeclaration (syntax.SimpleDeclaration (specs (syntax.StructTag (name (codes "h") (at 8 1)) (at 1 0) ∷ [])) (declared [])) ∷ syntax.ExternalDeclaration (syntax.SimpleDeclaration (specs (syntax.TypeSpec type.Void (at 11 3) ∷ [])) (declared (syntax.init_declarator (syntax.Named [] (name (codes "f") (at 16 4)) (suffixes (syntax.FunctionSuffix (parameters (syntax.parameter (specs (syntax.StructTag (name (codes "h") (at 25 7)) (at 18 6) ∷ [])) (syntax.Named [] (name (codes "x") (at 27 8)) (suffixes [])) (at 18 6) ∷ [])) false (at 17 5) ∷ []))) syntax.no_initializer ∷ []))) ∷ syntax.FunctionDefinition (specs (syntax.TypeSpec type.Void (at 31 11) ∷ [])) (syntax.Named [] (name (codes "g") (at 36 12)) (suffixes (syntax.FunctionSuffix (parameters (syntax.parameter (specs (syntax.TypeSpec type.Void (at 38 14) ∷ [])) (syntax.Unnamed [] (suffixes [])) (at 38 14) ∷ [])) false (at 37 13) ∷ []))) (syntax.block (block_items (syntax.StatementItem (syntax.ExpressionStatement (syntax.an_expr (syntax.Call (syntax.Parenthesized (syntax.Identifier (name (codes "f") (at 47 18))) (at 46 17)) (syntax.exprs []) (at 49 20))) (span (at 46 17) (at 51 22))) ∷ [])) (span (at 44 16) (at 53 23))) ∷ [])

-- struct h; struct h f(void); void g(void) { f(); }
abbrev pub c22_31 : List syntax.External
c22_31 = (syntax.ExternalDeclaration (syntax.SimpleDeclaration (specs (syntax.StructTag (name (codes "h") (at 8 1)) (at 1 0) ∷ [])) (declared [])) ∷ syntax.ExternalDeclaration (syntax.SimpleDeclaration (specs (syntax.StructTag (name (codes "h") (at 18 4)) (at 11 3) ∷ [])) (declared (syntax.init_declarator (syntax.Named [] (name (codes "f") (at 20 5)) (suffixes (syntax.FunctionSuffix (parameters (syntax.parameter (specs (syntax.TypeSpec type.Void (at 22 7) ∷ [])) (syntax.Unnamed [] (suffixes [])) (at 22 7) ∷ [])) false (at 21 6) ∷ []))) syntax.no_initializer ∷ []))) ∷ syntax.FunctionDefinition (specs (syntax.TypeSpec type.Void (at 29 10) ∷ [])) (syntax.Named [] (name (codes "g") (at 34 11)) (suffixes (syntax.FunctionSuffix (parameters (syntax.parameter (specs (syntax.TypeSpec type.Void (at 36 13) ∷ [])) (syntax.Unnamed [] (suffixes [])) (at 36 13) ∷ [])) false (at 35 12) ∷ []))) (syntax.block (block_items (syntax.StatementItem (syntax.ExpressionStatement (syntax.an_expr (syntax.Call (syntax.Identifier (name (codes "f") (at 44 16))) (syntax.exprs []) (at 45 17))) (span (at 44 16) (at 47 19))) ∷ [])) (span (at 42 15) (at 49 20))) ∷ [])

-- struct h; extern struct h x; void g(void) { x; }
abbrev pub c22_32 : List syntax.External
c22_32 = (syntax.ExternalDeclaration (syntax.SimpleDeclaration (specs (syntax.StructTag (name (codes "h") (at 8 1)) (at 1 0) ∷ [])) (declared [])) ∷ syntax.ExternalDeclaration (syntax.SimpleDeclaration (specs (syntax.StorageSpec storage.Extern (at 11 3) ∷ syntax.StructTag (name (codes "h") (at 25 5)) (at 18 4) ∷ [])) (declared (syntax.init_declarator (syntax.Named [] (name (codes "x") (at 27 6)) (suffixes [])) syntax.no_initializer ∷ []))) ∷ syntax.FunctionDefinition (specs (syntax.TypeSpec type.Void (at 30 8) ∷ [])) (syntax.Named [] (name (codes "g") (at 35 9)) (suffixes (syntax.FunctionSuffix (parameters (syntax.parameter (specs (syntax.TypeSpec type.Void (at 37 11) ∷ [])) (syntax.Unnamed [] (suffixes [])) (at 37 11) ∷ [])) false (at 36 10) ∷ []))) (syntax.block (block_items (syntax.StatementItem (syntax.ExpressionStatement (syntax.an_expr (syntax.Identifier (name (codes "x") (at 45 14)))) (span (at 45 14) (at 46 15))) ∷ [])) (span (at 43 13) (at 48 16))) ∷ [])

-- void g(void) { sizeof(void); }
abbrev pub c22_33 : List syntax.External
c22_33 = (syntax.FunctionDefinition (specs (syntax.TypeSpec type.Void (at 1 0) ∷ [])) (syntax.Named [] (name (codes "g") (at 6 1)) (suffixes (syntax.FunctionSuffix (parameters (syntax.parameter (specs (syntax.TypeSpec type.Void (at 8 3) ∷ [])) (syntax.Unnamed [] (suffixes [])) (at 8 3) ∷ [])) false (at 7 2) ∷ []))) (syntax.block (block_items (syntax.StatementItem (syntax.ExpressionStatement (syntax.an_expr (syntax.SizeofType (syntax.type_name (specs (syntax.TypeSpec type.Void (at 23 8) ∷ [])) (syntax.Unnamed [] (suffixes []))) (at 16 6))) (span (at 16 6) (at 28 10))) ∷ [])) (span (at 14 5) (at 30 11))) ∷ [])

-- int f(void); void g(void) { sizeof f; }
abbrev pub c22_34 : List syntax.External
c22_34 = (syntax.ExternalDeclaration (syntax.SimpleDeclaration (specs (syntax.TypeSpec type.Int (at 1 0) ∷ [])) (declared (syntax.init_declarator (syntax.Named [] (name (codes "f") (at 5 1)) (suffixes (syntax.FunctionSuffix (parameters (syntax.parameter (specs (syntax.TypeSpec type.Void (at 7 3) ∷ [])) (syntax.Unnamed [] (suffixes [])) (at 7 3) ∷ [])) false (at 6 2) ∷ []))) syntax.no_initializer ∷ []))) ∷ syntax.FunctionDefinition (specs (syntax.TypeSpec type.Void (at 14 6) ∷ [])) (syntax.Named [] (name (codes "g") (at 19 7)) (suffixes (syntax.FunctionSuffix (parameters (syntax.parameter (specs (syntax.TypeSpec type.Void (at 21 9) ∷ [])) (syntax.Unnamed [] (suffixes [])) (at 21 9) ∷ [])) false (at 20 8) ∷ []))) (syntax.block (block_items (syntax.StatementItem (syntax.ExpressionStatement (syntax.an_expr (syntax.SizeofExpr (syntax.Identifier (name (codes "f") (at 36 13))) (at 29 12))) (span (at 29 12) (at 37 14))) ∷ [])) (span (at 27 11) (at 39 15))) ∷ [])

-- struct h; void g(void) { alignof(struct h); }
abbrev pub c22_35 : List syntax.External
c22_35 = (syntax.ExternalDeclaration (syntax.SimpleDeclaration (specs (syntax.StructTag (name (codes "h") (at 8 1)) (at 1 0) ∷ [])) (declared [])) ∷ syntax.FunctionDefinition (specs (syntax.TypeSpec type.Void (at 11 3) ∷ [])) (syntax.Named [] (name (codes "g") (at 16 4)) (suffixes (syntax.FunctionSuffix (parameters (syntax.parameter (specs (syntax.TypeSpec type.Void (at 18 6) ∷ [])) (syntax.Unnamed [] (suffixes [])) (at 18 6) ∷ [])) false (at 17 5) ∷ []))) (syntax.block (block_items (syntax.StatementItem (syntax.ExpressionStatement (syntax.an_expr (syntax.Alignof (syntax.type_name (specs (syntax.StructTag (name (codes "h") (at 41 12)) (at 34 11) ∷ [])) (syntax.Unnamed [] (suffixes []))) (at 26 9))) (span (at 26 9) (at 43 14))) ∷ [])) (span (at 24 8) (at 45 15))) ∷ [])

-- void g(void) { void x[n]; }
abbrev pub c22_36 : List syntax.External
c22_36 = (syntax.FunctionDefinition (specs (syntax.TypeSpec type.Void (at 1 0) ∷ [])) (syntax.Named [] (name (codes "g") (at 6 1)) (suffixes (syntax.FunctionSuffix (parameters (syntax.parameter (specs (syntax.TypeSpec type.Void (at 8 3) ∷ [])) (syntax.Unnamed [] (suffixes [])) (at 8 3) ∷ [])) false (at 7 2) ∷ []))) (syntax.block (block_items (syntax.DeclarationItem (syntax.SimpleDeclaration (specs (syntax.TypeSpec type.Void (at 16 6) ∷ [])) (declared (syntax.init_declarator (syntax.Named [] (name (codes "x") (at 21 7)) (suffixes (syntax.ArraySuffix (syntax.an_expr (syntax.Identifier (name (codes "n") (at 23 9)))) (at 22 8) ∷ []))) syntax.no_initializer ∷ []))) ∷ [])) (span (at 14 5) (at 27 12))) ∷ [])

-- struct s; struct s f(void); void g(void) { (f)(); }
abbrev pub c22_37 : List syntax.External
c22_37 = (syntax.ExternalDeclaration (syntax.SimpleDeclaration (specs (syntax.StructTag (name (codes "s") (at 8 1)) (at 1 0) ∷ [])) (declared [])) ∷ syntax.ExternalDeclaration (syntax.SimpleDeclaration (specs (syntax.StructTag (name (codes "s") (at 18 4)) (at 11 3) ∷ [])) (declared (syntax.init_declarator (syntax.Named [] (name (codes "f") (at 20 5)) (suffixes (syntax.FunctionSuffix (parameters (syntax.parameter (specs (syntax.TypeSpec type.Void (at 22 7) ∷ [])) (syntax.Unnamed [] (suffixes [])) (at 22 7) ∷ [])) false (at 21 6) ∷ []))) syntax.no_initializer ∷ []))) ∷ syntax.FunctionDefinition (specs (syntax.TypeSpec type.Void (at 29 10) ∷ [])) (syntax.Named [] (name (codes "g") (at 34 11)) (suffixes (syntax.FunctionSuffix (parameters (syntax.parameter (specs (syntax.TypeSpec type.Void (at 36 13) ∷ [])) (syntax.Unnamed [] (suffixes [])) (at 36 13) ∷ [])) false (at 35 12) ∷ []))) (syntax.block (block_items (syntax.StatementItem (syntax.ExpressionStatement (syntax.an_expr (syntax.Call (syntax.Parenthesized (syntax.Identifier (name (codes "f") (at 45 17))) (at 44 16)) (syntax.exprs []) (at 47 19))) (span (at 44 16) (at 49 21))) ∷ [])) (span (at 42 15) (at 51 22))) ∷ [])

-- struct z; struct z f(void) { for (;;) ; }
abbrev pub c22_38 : List syntax.External
c22_38 = (syntax.ExternalDeclaration (syntax.SimpleDeclaration (specs (syntax.StructTag (name (codes "z") (at 8 1)) (at 1 0) ∷ [])) (declared [])) ∷ syntax.FunctionDefinition (specs (syntax.StructTag (name (codes "z") (at 18 4)) (at 11 3) ∷ [])) (syntax.Named [] (name (codes "f") (at 20 5)) (suffixes (syntax.FunctionSuffix (parameters (syntax.parameter (specs (syntax.TypeSpec type.Void (at 22 7) ∷ [])) (syntax.Unnamed [] (suffixes [])) (at 22 7) ∷ [])) false (at 21 6) ∷ []))) (syntax.block (block_items (syntax.StatementItem (syntax.For syntax.no_expr syntax.no_expr syntax.no_expr (syntax.ExpressionStatement syntax.no_expr (span (at 39 15) (at 39 15))) (span (at 30 10) (at 39 15))) ∷ [])) (span (at 28 9) (at 41 16))) ∷ [])

-- void g(void) { struct z; (struct z (void)) { for (;;) ; }; }
abbrev pub c22_39 : List syntax.External
c22_39 = (syntax.FunctionDefinition (specs (syntax.TypeSpec type.Void (at 1 0) ∷ [])) (syntax.Named [] (name (codes "g") (at 6 1)) (suffixes (syntax.FunctionSuffix (parameters (syntax.parameter (specs (syntax.TypeSpec type.Void (at 8 3) ∷ [])) (syntax.Unnamed [] (suffixes [])) (at 8 3) ∷ [])) false (at 7 2) ∷ []))) (syntax.block (block_items (syntax.DeclarationItem (syntax.SimpleDeclaration (specs (syntax.StructTag (name (codes "z") (at 23 7)) (at 16 6) ∷ [])) (declared [])) ∷ syntax.StatementItem (syntax.ExpressionStatement (syntax.an_expr (syntax.FunctionLiteral (syntax.type_name (specs (syntax.StructTag (name (codes "z") (at 34 11)) (at 27 10) ∷ [])) (syntax.Unnamed [] (suffixes (syntax.FunctionSuffix (parameters (syntax.parameter (specs (syntax.TypeSpec type.Void (at 37 13) ∷ [])) (syntax.Unnamed [] (suffixes [])) (at 37 13) ∷ [])) false (at 36 12) ∷ [])))) (syntax.block (block_items (syntax.StatementItem (syntax.For syntax.no_expr syntax.no_expr syntax.no_expr (syntax.ExpressionStatement syntax.no_expr (span (at 55 22) (at 55 22))) (span (at 46 17) (at 55 22))) ∷ [])) (span (at 44 16) (at 57 23))) (at 26 9))) (span (at 26 9) (at 58 24))) ∷ [])) (span (at 14 5) (at 60 25))) ∷ [])
