-- C17: conversion drops a qualifier: units of one line, as trees.
use Rattle.std.specs.Prelude.{List, [], ◌∷◌, false, codes}
use Rattle.model_grammar.specs.SyntaxForms as syntax
use Rattle.model_grammar.specs.declared.syntax.TypeWord.TheVariants as type
use Rattle.model_grammar.specs.declared.syntax.QualifierWord.TheVariants as qual
use Rattle.checking_units.specs.Parts.{at, name, specs, qualifier, pointer, suffixes, parameters, declared, block_items, span}

-- void g(const char *p) { char *q = p; }
abbrev pub c17_1 : List syntax.External
c17_1 = (syntax.FunctionDefinition (specs (syntax.TypeSpec type.Void (at 1 0) ∷ [])) (syntax.Named [] (name (codes "g") (at 6 1)) (suffixes (syntax.FunctionSuffix (parameters (syntax.parameter (specs (syntax.QualifierSpec (qualifier qual.Const (at 8 3)) ∷ syntax.TypeSpec type.Char (at 14 4) ∷ [])) (syntax.Named (pointer (at 19 5) [] ∷ []) (name (codes "p") (at 20 6)) (suffixes [])) (at 8 3) ∷ [])) false (at 7 2) ∷ []))) (syntax.block (block_items (syntax.DeclarationItem (syntax.SimpleDeclaration (specs (syntax.TypeSpec type.Char (at 25 9) ∷ [])) (declared (syntax.init_declarator (syntax.Named (pointer (at 30 10) [] ∷ []) (name (codes "q") (at 31 11)) (suffixes [])) (syntax.an_initializer (syntax.Single (syntax.Identifier (name (codes "p") (at 35 13))))) ∷ []))) ∷ [])) (span (at 23 8) (at 38 15))) ∷ [])

-- void f(char *p); void g(const char *p) { f(p); }
abbrev pub c17_2 : List syntax.External
c17_2 = (syntax.ExternalDeclaration (syntax.SimpleDeclaration (specs (syntax.TypeSpec type.Void (at 1 0) ∷ [])) (declared (syntax.init_declarator (syntax.Named [] (name (codes "f") (at 6 1)) (suffixes (syntax.FunctionSuffix (parameters (syntax.parameter (specs (syntax.TypeSpec type.Char (at 8 3) ∷ [])) (syntax.Named (pointer (at 13 4) [] ∷ []) (name (codes "p") (at 14 5)) (suffixes [])) (at 8 3) ∷ [])) false (at 7 2) ∷ []))) syntax.no_initializer ∷ []))) ∷ syntax.FunctionDefinition (specs (syntax.TypeSpec type.Void (at 18 8) ∷ [])) (syntax.Named [] (name (codes "g") (at 23 9)) (suffixes (syntax.FunctionSuffix (parameters (syntax.parameter (specs (syntax.QualifierSpec (qualifier qual.Const (at 25 11)) ∷ syntax.TypeSpec type.Char (at 31 12) ∷ [])) (syntax.Named (pointer (at 36 13) [] ∷ []) (name (codes "p") (at 37 14)) (suffixes [])) (at 25 11) ∷ [])) false (at 24 10) ∷ []))) (syntax.block (block_items (syntax.StatementItem (syntax.ExpressionStatement (syntax.an_expr (syntax.Call (syntax.Identifier (name (codes "f") (at 42 17))) (syntax.exprs ((syntax.Identifier (name (codes "p") (at 44 19))) ∷ [])) (at 43 18))) (span (at 42 17) (at 46 21))) ∷ [])) (span (at 40 16) (at 48 22))) ∷ [])

-- char *g(const char *p) { return p; }
abbrev pub c17_3 : List syntax.External
c17_3 = (syntax.FunctionDefinition (specs (syntax.TypeSpec type.Char (at 1 0) ∷ [])) (syntax.Named (pointer (at 6 1) [] ∷ []) (name (codes "g") (at 7 2)) (suffixes (syntax.FunctionSuffix (parameters (syntax.parameter (specs (syntax.QualifierSpec (qualifier qual.Const (at 9 4)) ∷ syntax.TypeSpec type.Char (at 15 5) ∷ [])) (syntax.Named (pointer (at 20 6) [] ∷ []) (name (codes "p") (at 21 7)) (suffixes [])) (at 9 4) ∷ [])) false (at 8 3) ∷ []))) (syntax.block (block_items (syntax.StatementItem (syntax.Return (syntax.an_expr (syntax.Identifier (name (codes "p") (at 33 11)))) (at 26 10) (span (at 26 10) (at 34 12))) ∷ [])) (span (at 24 9) (at 36 13))) ∷ [])

-- void g(void) { char *_Owner *p; char **q = p; }
abbrev pub c17_4 : List syntax.External
c17_4 = (syntax.FunctionDefinition (specs (syntax.TypeSpec type.Void (at 1 0) ∷ [])) (syntax.Named [] (name (codes "g") (at 6 1)) (suffixes (syntax.FunctionSuffix (parameters (syntax.parameter (specs (syntax.TypeSpec type.Void (at 8 3) ∷ [])) (syntax.Unnamed [] (suffixes [])) (at 8 3) ∷ [])) false (at 7 2) ∷ []))) (syntax.block (block_items (syntax.DeclarationItem (syntax.SimpleDeclaration (specs (syntax.TypeSpec type.Char (at 16 6) ∷ [])) (declared (syntax.init_declarator (syntax.Named (pointer (at 21 7) ((qualifier qual.Owner (at 22 8)) ∷ []) ∷ pointer (at 29 9) [] ∷ []) (name (codes "p") (at 30 10)) (suffixes [])) syntax.no_initializer ∷ []))) ∷ syntax.DeclarationItem (syntax.SimpleDeclaration (specs (syntax.TypeSpec type.Char (at 33 12) ∷ [])) (declared (syntax.init_declarator (syntax.Named (pointer (at 38 13) [] ∷ pointer (at 39 14) [] ∷ []) (name (codes "q") (at 40 15)) (suffixes [])) (syntax.an_initializer (syntax.Single (syntax.Identifier (name (codes "p") (at 44 17))))) ∷ []))) ∷ [])) (span (at 14 5) (at 47 19))) ∷ [])

-- void g(const int *p) { int *q = p; }
abbrev pub c17_5 : List syntax.External
c17_5 = (syntax.FunctionDefinition (specs (syntax.TypeSpec type.Void (at 1 0) ∷ [])) (syntax.Named [] (name (codes "g") (at 6 1)) (suffixes (syntax.FunctionSuffix (parameters (syntax.parameter (specs (syntax.QualifierSpec (qualifier qual.Const (at 8 3)) ∷ syntax.TypeSpec type.Int (at 14 4) ∷ [])) (syntax.Named (pointer (at 18 5) [] ∷ []) (name (codes "p") (at 19 6)) (suffixes [])) (at 8 3) ∷ [])) false (at 7 2) ∷ []))) (syntax.block (block_items (syntax.DeclarationItem (syntax.SimpleDeclaration (specs (syntax.TypeSpec type.Int (at 24 9) ∷ [])) (declared (syntax.init_declarator (syntax.Named (pointer (at 28 10) [] ∷ []) (name (codes "q") (at 29 11)) (suffixes [])) (syntax.an_initializer (syntax.Single (syntax.Identifier (name (codes "p") (at 33 13))))) ∷ []))) ∷ [])) (span (at 22 8) (at 36 15))) ∷ [])
