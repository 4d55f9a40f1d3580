-- What the productions of statements make nothing of.
use Rattle.std.proofs.Common.{◌≡◌, refl, ℕ, List, [], ◌∷◌, false}
use Rattle.cake_base.specs.declared.places.Place.{Place}
use Rattle.model_tokens.specs.declared.tokens.CKind.{CKind}
use Rattle.model_types.specs.declared.marks.Span.{Span}
use Rattle.model_grammar.specs.SyntaxForms as m
use Rattle.model_grammar.specs.SyntaxStatementActions as s
use Rattle.statement_actions.specs.Beginnings as spec
use Rattle.model_grammar.specs.SyntaxValues.{Meaning, nothing, a_block, a_declaration, a_statement, a_token, an_expr}
use Rattle.syntax_meanings.specs.FirstSymbols.{begins_with_block, begins_with_declaration, begins_with_expr, begins_with_statement, begins_with_token, is_empty}

pub label_without_token : (rest : List Meaning) → begins_with_token rest ≡ false → s.label rest ≡ nothing
label_without_token (a_token k c p ∷ rest) e1 = absurd (cc)
label_without_token _ e1 = refl

pub label_token_without_expr_or_token : (kind1 : ℕ) (content1 : CKind) (place1 : Place) (rest : List Meaning) → begins_with_expr rest ≡ false → begins_with_token rest ≡ false → s.label (a_token kind1 content1 place1 ∷ rest) ≡ nothing
label_token_without_expr_or_token kind1 content1 place1 (an_expr x ∷ rest) e1 e2 = absurd (cc)
label_token_without_expr_or_token kind1 content1 place1 (a_token k c p ∷ rest) e1 e2 = absurd (cc)
label_token_without_expr_or_token kind1 content1 place1 _ e1 e2 = refl

pub label_token_expr_without_token : (kind1 : ℕ) (content1 : CKind) (place1 : Place) (x2 : m.Expr) (rest : List Meaning) → begins_with_token rest ≡ false → s.label (a_token kind1 content1 place1 ∷ an_expr x2 ∷ rest) ≡ nothing
label_token_expr_without_token kind1 content1 place1 x2 (a_token k c p ∷ rest) e1 = absurd (cc)
label_token_expr_without_token kind1 content1 place1 x2 _ e1 = refl

pub label_token_expr_token_and_more : (kind1 : ℕ) (content1 : CKind) (place1 : Place) (x2 : m.Expr) (kind3 : ℕ) (content3 : CKind) (place3 : Place) (rest : List Meaning) → is_empty rest ≡ false → s.label (a_token kind1 content1 place1 ∷ an_expr x2 ∷ a_token kind3 content3 place3 ∷ rest) ≡ nothing
label_token_expr_token_and_more kind1 content1 place1 x2 kind3 content3 place3 [] e1 = absurd (cc)
label_token_expr_token_and_more kind1 content1 place1 x2 kind3 content3 place3 _ e1 = refl

pub label_token_token_and_more : (kind1 : ℕ) (content1 : CKind) (place1 : Place) (kind2 : ℕ) (content2 : CKind) (place2 : Place) (rest : List Meaning) → is_empty rest ≡ false → s.label (a_token kind1 content1 place1 ∷ a_token kind2 content2 place2 ∷ rest) ≡ nothing
label_token_token_and_more kind1 content1 place1 kind2 content2 place2 [] e1 = absurd (cc)
label_token_token_and_more kind1 content1 place1 kind2 content2 place2 _ e1 = refl

pub statement_without_token_or_statement_or_block_or_expr : (span : Span) (rest : List Meaning) → begins_with_token rest ≡ false → begins_with_statement rest ≡ false → begins_with_block rest ≡ false → begins_with_expr rest ≡ false → s.statement span rest ≡ nothing
statement_without_token_or_statement_or_block_or_expr span (a_token k c p ∷ rest) e1 e2 e3 e4 = absurd (cc)
statement_without_token_or_statement_or_block_or_expr span (a_statement x ∷ rest) e1 e2 e3 e4 = absurd (cc)
statement_without_token_or_statement_or_block_or_expr span (a_block x ∷ rest) e1 e2 e3 e4 = absurd (cc)
statement_without_token_or_statement_or_block_or_expr span (an_expr x ∷ rest) e1 e2 e3 e4 = absurd (cc)
statement_without_token_or_statement_or_block_or_expr span _ e1 e2 e3 e4 = refl

pub statement_statement_and_more : (span : Span) (x1 : m.Statement) (rest : List Meaning) → is_empty rest ≡ false → s.statement span (a_statement x1 ∷ rest) ≡ nothing
statement_statement_and_more span x1 [] e1 = absurd (cc)
statement_statement_and_more span x1 _ e1 = refl

pub statement_block_and_more : (span : Span) (x1 : m.Block) (rest : List Meaning) → is_empty rest ≡ false → s.statement span (a_block x1 ∷ rest) ≡ nothing
statement_block_and_more span x1 [] e1 = absurd (cc)
statement_block_and_more span x1 _ e1 = refl

pub statement_expr_without_token : (span : Span) (x1 : m.Expr) (rest : List Meaning) → begins_with_token rest ≡ false → s.statement span (an_expr x1 ∷ rest) ≡ nothing
statement_expr_without_token span x1 (a_token k c p ∷ rest) e1 = absurd (cc)
statement_expr_without_token span x1 _ e1 = refl

pub statement_expr_token_and_more : (span : Span) (x1 : m.Expr) (kind2 : ℕ) (content2 : CKind) (place2 : Place) (rest : List Meaning) → is_empty rest ≡ false → s.statement span (an_expr x1 ∷ a_token kind2 content2 place2 ∷ rest) ≡ nothing
statement_expr_token_and_more span x1 kind2 content2 place2 [] e1 = absurd (cc)
statement_expr_token_and_more span x1 kind2 content2 place2 _ e1 = refl

pub statement_token_without_expr_or_statement_or_token : (span : Span) (kind1 : ℕ) (content1 : CKind) (place1 : Place) (rest : List Meaning) → is_empty rest ≡ false → begins_with_expr rest ≡ false → begins_with_statement rest ≡ false → begins_with_token rest ≡ false → s.statement span (a_token kind1 content1 place1 ∷ rest) ≡ nothing
statement_token_without_expr_or_statement_or_token span kind1 content1 place1 [] e1 e2 e3 e4 = absurd (cc)
statement_token_without_expr_or_statement_or_token span kind1 content1 place1 (an_expr x ∷ rest) e1 e2 e3 e4 = absurd (cc)
statement_token_without_expr_or_statement_or_token span kind1 content1 place1 (a_statement x ∷ rest) e1 e2 e3 e4 = absurd (cc)
statement_token_without_expr_or_statement_or_token span kind1 content1 place1 (a_token k c p ∷ rest) e1 e2 e3 e4 = absurd (cc)
statement_token_without_expr_or_statement_or_token span kind1 content1 place1 _ e1 e2 e3 e4 = refl

pub statement_token_expr_without_token : (span : Span) (kind1 : ℕ) (content1 : CKind) (place1 : Place) (x2 : m.Expr) (rest : List Meaning) → begins_with_token rest ≡ false → s.statement span (a_token kind1 content1 place1 ∷ an_expr x2 ∷ rest) ≡ nothing
statement_token_expr_without_token span kind1 content1 place1 x2 (a_token k c p ∷ rest) e1 = absurd (cc)
statement_token_expr_without_token span kind1 content1 place1 x2 _ e1 = refl

pub statement_token_expr_token_and_more : (span : Span) (kind1 : ℕ) (content1 : CKind) (place1 : Place) (x2 : m.Expr) (kind3 : ℕ) (content3 : CKind) (place3 : Place) (rest : List Meaning) → is_empty rest ≡ false → s.statement span (a_token kind1 content1 place1 ∷ an_expr x2 ∷ a_token kind3 content3 place3 ∷ rest) ≡ nothing
statement_token_expr_token_and_more span kind1 content1 place1 x2 kind3 content3 place3 [] e1 = absurd (cc)
statement_token_expr_token_and_more span kind1 content1 place1 x2 kind3 content3 place3 _ e1 = refl

pub statement_token_token_without_expr : (span : Span) (kind1 : ℕ) (content1 : CKind) (place1 : Place) (kind2 : ℕ) (content2 : CKind) (place2 : Place) (rest : List Meaning) → is_empty rest ≡ false → begins_with_expr rest ≡ false → s.statement span (a_token kind1 content1 place1 ∷ a_token kind2 content2 place2 ∷ rest) ≡ nothing
statement_token_token_without_expr span kind1 content1 place1 kind2 content2 place2 [] e1 e2 = absurd (cc)
statement_token_token_without_expr span kind1 content1 place1 kind2 content2 place2 (an_expr x ∷ rest) e1 e2 = absurd (cc)
statement_token_token_without_expr span kind1 content1 place1 kind2 content2 place2 _ e1 e2 = refl

pub statement_token_token_expr_without_token : (span : Span) (kind1 : ℕ) (content1 : CKind) (place1 : Place) (kind2 : ℕ) (content2 : CKind) (place2 : Place) (x3 : m.Expr) (rest : List Meaning) → begins_with_token rest ≡ false → s.statement span (a_token kind1 content1 place1 ∷ a_token kind2 content2 place2 ∷ an_expr x3 ∷ rest) ≡ nothing
statement_token_token_expr_without_token span kind1 content1 place1 kind2 content2 place2 x3 (a_token k c p ∷ rest) e1 = absurd (cc)
statement_token_token_expr_without_token span kind1 content1 place1 kind2 content2 place2 x3 _ e1 = refl

pub statement_token_token_expr_token_without_statement : (span : Span) (kind1 : ℕ) (content1 : CKind) (place1 : Place) (kind2 : ℕ) (content2 : CKind) (place2 : Place) (x3 : m.Expr) (kind4 : ℕ) (content4 : CKind) (place4 : Place) (rest : List Meaning) → begins_with_statement rest ≡ false → s.statement span (a_token kind1 content1 place1 ∷ a_token kind2 content2 place2 ∷ an_expr x3 ∷ a_token kind4 content4 place4 ∷ rest) ≡ nothing
statement_token_token_expr_token_without_statement span kind1 content1 place1 kind2 content2 place2 x3 kind4 content4 place4 (a_statement x ∷ rest) e1 = absurd (cc)
statement_token_token_expr_token_without_statement span kind1 content1 place1 kind2 content2 place2 x3 kind4 content4 place4 _ e1 = refl

pub statement_token_token_expr_token_statement_and_more : (span : Span) (kind1 : ℕ) (content1 : CKind) (place1 : Place) (kind2 : ℕ) (content2 : CKind) (place2 : Place) (x3 : m.Expr) (kind4 : ℕ) (content4 : CKind) (place4 : Place) (x5 : m.Statement) (rest : List Meaning) → is_empty rest ≡ false → s.statement span (a_token kind1 content1 place1 ∷ a_token kind2 content2 place2 ∷ an_expr x3 ∷ a_token kind4 content4 place4 ∷ a_statement x5 ∷ rest) ≡ nothing
statement_token_token_expr_token_statement_and_more span kind1 content1 place1 kind2 content2 place2 x3 kind4 content4 place4 x5 [] e1 = absurd (cc)
statement_token_token_expr_token_statement_and_more span kind1 content1 place1 kind2 content2 place2 x3 kind4 content4 place4 x5 _ e1 = refl

pub statement_token_statement_without_token : (span : Span) (kind1 : ℕ) (content1 : CKind) (place1 : Place) (x2 : m.Statement) (rest : List Meaning) → is_empty rest ≡ false → begins_with_token rest ≡ false → s.statement span (a_token kind1 content1 place1 ∷ a_statement x2 ∷ rest) ≡ nothing
statement_token_statement_without_token span kind1 content1 place1 x2 [] e1 e2 = absurd (cc)
statement_token_statement_without_token span kind1 content1 place1 x2 (a_token k c p ∷ rest) e1 e2 = absurd (cc)
statement_token_statement_without_token span kind1 content1 place1 x2 _ e1 e2 = refl

pub statement_token_statement_token_without_token : (span : Span) (kind1 : ℕ) (content1 : CKind) (place1 : Place) (x2 : m.Statement) (kind3 : ℕ) (content3 : CKind) (place3 : Place) (rest : List Meaning) → begins_with_token rest ≡ false → s.statement span (a_token kind1 content1 place1 ∷ a_statement x2 ∷ a_token kind3 content3 place3 ∷ rest) ≡ nothing
statement_token_statement_token_without_token span kind1 content1 place1 x2 kind3 content3 place3 (a_token k c p ∷ rest) e1 = absurd (cc)
statement_token_statement_token_without_token span kind1 content1 place1 x2 kind3 content3 place3 _ e1 = refl

pub statement_token_statement_token_token_without_expr : (span : Span) (kind1 : ℕ) (content1 : CKind) (place1 : Place) (x2 : m.Statement) (kind3 : ℕ) (content3 : CKind) (place3 : Place) (kind4 : ℕ) (content4 : CKind) (place4 : Place) (rest : List Meaning) → begins_with_expr rest ≡ false → s.statement span (a_token kind1 content1 place1 ∷ a_statement x2 ∷ a_token kind3 content3 place3 ∷ a_token kind4 content4 place4 ∷ rest) ≡ nothing
statement_token_statement_token_token_without_expr span kind1 content1 place1 x2 kind3 content3 place3 kind4 content4 place4 (an_expr x ∷ rest) e1 = absurd (cc)
statement_token_statement_token_token_without_expr span kind1 content1 place1 x2 kind3 content3 place3 kind4 content4 place4 _ e1 = refl

pub statement_token_statement_token_token_expr_without_token : (span : Span) (kind1 : ℕ) (content1 : CKind) (place1 : Place) (x2 : m.Statement) (kind3 : ℕ) (content3 : CKind) (place3 : Place) (kind4 : ℕ) (content4 : CKind) (place4 : Place) (x5 : m.Expr) (rest : List Meaning) → begins_with_token rest ≡ false → s.statement span (a_token kind1 content1 place1 ∷ a_statement x2 ∷ a_token kind3 content3 place3 ∷ a_token kind4 content4 place4 ∷ an_expr x5 ∷ rest) ≡ nothing
statement_token_statement_token_token_expr_without_token span kind1 content1 place1 x2 kind3 content3 place3 kind4 content4 place4 x5 (a_token k c p ∷ rest) e1 = absurd (cc)
statement_token_statement_token_token_expr_without_token span kind1 content1 place1 x2 kind3 content3 place3 kind4 content4 place4 x5 _ e1 = refl

pub statement_token_statement_token_token_expr_token_without_token : (span : Span) (kind1 : ℕ) (content1 : CKind) (place1 : Place) (x2 : m.Statement) (kind3 : ℕ) (content3 : CKind) (place3 : Place) (kind4 : ℕ) (content4 : CKind) (place4 : Place) (x5 : m.Expr) (kind6 : ℕ) (content6 : CKind) (place6 : Place) (rest : List Meaning) → begins_with_token rest ≡ false → s.statement span (a_token kind1 content1 place1 ∷ a_statement x2 ∷ a_token kind3 content3 place3 ∷ a_token kind4 content4 place4 ∷ an_expr x5 ∷ a_token kind6 content6 place6 ∷ rest) ≡ nothing
statement_token_statement_token_token_expr_token_without_token span kind1 content1 place1 x2 kind3 content3 place3 kind4 content4 place4 x5 kind6 content6 place6 (a_token k c p ∷ rest) e1 = absurd (cc)
statement_token_statement_token_token_expr_token_without_token span kind1 content1 place1 x2 kind3 content3 place3 kind4 content4 place4 x5 kind6 content6 place6 _ e1 = refl

pub statement_token_statement_token_token_expr_token_token_and_more : (span : Span) (kind1 : ℕ) (content1 : CKind) (place1 : Place) (x2 : m.Statement) (kind3 : ℕ) (content3 : CKind) (place3 : Place) (kind4 : ℕ) (content4 : CKind) (place4 : Place) (x5 : m.Expr) (kind6 : ℕ) (content6 : CKind) (place6 : Place) (kind7 : ℕ) (content7 : CKind) (place7 : Place) (rest : List Meaning) → is_empty rest ≡ false → s.statement span (a_token kind1 content1 place1 ∷ a_statement x2 ∷ a_token kind3 content3 place3 ∷ a_token kind4 content4 place4 ∷ an_expr x5 ∷ a_token kind6 content6 place6 ∷ a_token kind7 content7 place7 ∷ rest) ≡ nothing
statement_token_statement_token_token_expr_token_token_and_more span kind1 content1 place1 x2 kind3 content3 place3 kind4 content4 place4 x5 kind6 content6 place6 kind7 content7 place7 [] e1 = absurd (cc)
statement_token_statement_token_token_expr_token_token_and_more span kind1 content1 place1 x2 kind3 content3 place3 kind4 content4 place4 x5 kind6 content6 place6 kind7 content7 place7 _ e1 = refl

pub if_statement_without_token : (span : Span) (rest : List Meaning) → begins_with_token rest ≡ false → s.if_statement span rest ≡ nothing
if_statement_without_token span (a_token k c p ∷ rest) e1 = absurd (cc)
if_statement_without_token span _ e1 = refl

pub if_statement_token_without_token : (span : Span) (kind1 : ℕ) (content1 : CKind) (place1 : Place) (rest : List Meaning) → begins_with_token rest ≡ false → s.if_statement span (a_token kind1 content1 place1 ∷ rest) ≡ nothing
if_statement_token_without_token span kind1 content1 place1 (a_token k c p ∷ rest) e1 = absurd (cc)
if_statement_token_without_token span kind1 content1 place1 _ e1 = refl

pub if_statement_token_token_without_declaration : (span : Span) (kind1 : ℕ) (content1 : CKind) (place1 : Place) (kind2 : ℕ) (content2 : CKind) (place2 : Place) (rest : List Meaning) → begins_with_declaration rest ≡ false → s.if_statement span (a_token kind1 content1 place1 ∷ a_token kind2 content2 place2 ∷ rest) ≡ s.selection span m.no_declaration rest
if_statement_token_token_without_declaration span kind1 content1 place1 kind2 content2 place2 (a_declaration x ∷ rest) e1 = absurd (cc)
if_statement_token_token_without_declaration span kind1 content1 place1 kind2 content2 place2 _ e1 = refl

pub selection_without_expr : (span : Span) (d : m.MaybeDeclaration) (rest : List Meaning) → begins_with_expr rest ≡ false → s.selection span d rest ≡ nothing
selection_without_expr span d (an_expr x ∷ rest) e1 = absurd (cc)
selection_without_expr span d _ e1 = refl

pub selection_expr_without_token : (span : Span) (d : m.MaybeDeclaration) (x1 : m.Expr) (rest : List Meaning) → begins_with_token rest ≡ false → s.selection span d (an_expr x1 ∷ rest) ≡ nothing
selection_expr_without_token span d x1 (a_token k c p ∷ rest) e1 = absurd (cc)
selection_expr_without_token span d x1 _ e1 = refl

pub selection_expr_token_without_statement : (span : Span) (d : m.MaybeDeclaration) (x1 : m.Expr) (kind2 : ℕ) (content2 : CKind) (place2 : Place) (rest : List Meaning) → begins_with_statement rest ≡ false → s.selection span d (an_expr x1 ∷ a_token kind2 content2 place2 ∷ rest) ≡ nothing
selection_expr_token_without_statement span d x1 kind2 content2 place2 (a_statement x ∷ rest) e1 = absurd (cc)
selection_expr_token_without_statement span d x1 kind2 content2 place2 _ e1 = refl

pub selection_expr_token_statement_without_token : (span : Span) (d : m.MaybeDeclaration) (x1 : m.Expr) (kind2 : ℕ) (content2 : CKind) (place2 : Place) (x3 : m.Statement) (rest : List Meaning) → is_empty rest ≡ false → begins_with_token rest ≡ false → s.selection span d (an_expr x1 ∷ a_token kind2 content2 place2 ∷ a_statement x3 ∷ rest) ≡ nothing
selection_expr_token_statement_without_token span d x1 kind2 content2 place2 x3 [] e1 e2 = absurd (cc)
selection_expr_token_statement_without_token span d x1 kind2 content2 place2 x3 (a_token k c p ∷ rest) e1 e2 = absurd (cc)
selection_expr_token_statement_without_token span d x1 kind2 content2 place2 x3 _ e1 e2 = refl

pub selection_expr_token_statement_token_without_statement : (span : Span) (d : m.MaybeDeclaration) (x1 : m.Expr) (kind2 : ℕ) (content2 : CKind) (place2 : Place) (x3 : m.Statement) (kind4 : ℕ) (content4 : CKind) (place4 : Place) (rest : List Meaning) → begins_with_statement rest ≡ false → s.selection span d (an_expr x1 ∷ a_token kind2 content2 place2 ∷ a_statement x3 ∷ a_token kind4 content4 place4 ∷ rest) ≡ nothing
selection_expr_token_statement_token_without_statement span d x1 kind2 content2 place2 x3 kind4 content4 place4 (a_statement x ∷ rest) e1 = absurd (cc)
selection_expr_token_statement_token_without_statement span d x1 kind2 content2 place2 x3 kind4 content4 place4 _ e1 = refl

pub selection_expr_token_statement_token_statement_and_more : (span : Span) (d : m.MaybeDeclaration) (x1 : m.Expr) (kind2 : ℕ) (content2 : CKind) (place2 : Place) (x3 : m.Statement) (kind4 : ℕ) (content4 : CKind) (place4 : Place) (x5 : m.Statement) (rest : List Meaning) → is_empty rest ≡ false → s.selection span d (an_expr x1 ∷ a_token kind2 content2 place2 ∷ a_statement x3 ∷ a_token kind4 content4 place4 ∷ a_statement x5 ∷ rest) ≡ nothing
selection_expr_token_statement_token_statement_and_more span d x1 kind2 content2 place2 x3 kind4 content4 place4 x5 [] e1 = absurd (cc)
selection_expr_token_statement_token_statement_and_more span d x1 kind2 content2 place2 x3 kind4 content4 place4 x5 _ e1 = refl

pub for_statement_without_token : (span : Span) (rest : List Meaning) → begins_with_token rest ≡ false → s.for_statement span rest ≡ nothing
for_statement_without_token span (a_token k c p ∷ rest) e1 = absurd (cc)
for_statement_without_token span _ e1 = refl

pub for_statement_token_without_token : (span : Span) (kind1 : ℕ) (content1 : CKind) (place1 : Place) (rest : List Meaning) → begins_with_token rest ≡ false → s.for_statement span (a_token kind1 content1 place1 ∷ rest) ≡ nothing
for_statement_token_without_token span kind1 content1 place1 (a_token k c p ∷ rest) e1 = absurd (cc)
for_statement_token_without_token span kind1 content1 place1 _ e1 = refl

pub for_statement_token_token_without_declaration_or_expr_or_token : (span : Span) (kind1 : ℕ) (content1 : CKind) (place1 : Place) (kind2 : ℕ) (content2 : CKind) (place2 : Place) (rest : List Meaning) → begins_with_declaration rest ≡ false → begins_with_expr rest ≡ false → begins_with_token rest ≡ false → s.for_statement span (a_token kind1 content1 place1 ∷ a_token kind2 content2 place2 ∷ rest) ≡ nothing
for_statement_token_token_without_declaration_or_expr_or_token span kind1 content1 place1 kind2 content2 place2 (a_declaration x ∷ rest) e1 e2 e3 = absurd (cc)
for_statement_token_token_without_declaration_or_expr_or_token span kind1 content1 place1 kind2 content2 place2 (an_expr x ∷ rest) e1 e2 e3 = absurd (cc)
for_statement_token_token_without_declaration_or_expr_or_token span kind1 content1 place1 kind2 content2 place2 (a_token k c p ∷ rest) e1 e2 e3 = absurd (cc)
for_statement_token_token_without_declaration_or_expr_or_token span kind1 content1 place1 kind2 content2 place2 _ e1 e2 e3 = refl

pub for_statement_token_token_expr_without_token : (span : Span) (kind1 : ℕ) (content1 : CKind) (place1 : Place) (kind2 : ℕ) (content2 : CKind) (place2 : Place) (x3 : m.Expr) (rest : List Meaning) → begins_with_token rest ≡ false → s.for_statement span (a_token kind1 content1 place1 ∷ a_token kind2 content2 place2 ∷ an_expr x3 ∷ rest) ≡ nothing
for_statement_token_token_expr_without_token span kind1 content1 place1 kind2 content2 place2 x3 (a_token k c p ∷ rest) e1 = absurd (cc)
for_statement_token_token_expr_without_token span kind1 content1 place1 kind2 content2 place2 x3 _ e1 = refl

pub condition_behind_without_expr_or_token : (form : m.MaybeExpr → m.MaybeExpr → m.Statement → m.Statement) (rest : List Meaning) → begins_with_expr rest ≡ false → begins_with_token rest ≡ false → s.condition_behind form rest ≡ nothing
condition_behind_without_expr_or_token form (an_expr x ∷ rest) e1 e2 = absurd (cc)
condition_behind_without_expr_or_token form (a_token k c p ∷ rest) e1 e2 = absurd (cc)
condition_behind_without_expr_or_token form _ e1 e2 = refl

pub condition_behind_expr_without_token : (form : m.MaybeExpr → m.MaybeExpr → m.Statement → m.Statement) (x1 : m.Expr) (rest : List Meaning) → begins_with_token rest ≡ false → s.condition_behind form (an_expr x1 ∷ rest) ≡ nothing
condition_behind_expr_without_token form x1 (a_token k c p ∷ rest) e1 = absurd (cc)
condition_behind_expr_without_token form x1 _ e1 = refl

pub step_behind_without_expr_or_token : (form : m.MaybeExpr → m.Statement → m.Statement) (rest : List Meaning) → begins_with_expr rest ≡ false → begins_with_token rest ≡ false → s.step_behind form rest ≡ nothing
step_behind_without_expr_or_token form (an_expr x ∷ rest) e1 e2 = absurd (cc)
step_behind_without_expr_or_token form (a_token k c p ∷ rest) e1 e2 = absurd (cc)
step_behind_without_expr_or_token form _ e1 e2 = refl

pub step_behind_expr_without_token : (form : m.MaybeExpr → m.Statement → m.Statement) (x1 : m.Expr) (rest : List Meaning) → begins_with_token rest ≡ false → s.step_behind form (an_expr x1 ∷ rest) ≡ nothing
step_behind_expr_without_token form x1 (a_token k c p ∷ rest) e1 = absurd (cc)
step_behind_expr_without_token form x1 _ e1 = refl

pub body_behind_without_statement : (form : m.Statement → m.Statement) (rest : List Meaning) → begins_with_statement rest ≡ false → spec.body_behind form rest ≡ nothing
body_behind_without_statement form (a_statement x ∷ rest) e1 = absurd (cc)
body_behind_without_statement form _ e1 = refl

pub body_behind_statement_and_more : (form : m.Statement → m.Statement) (x1 : m.Statement) (rest : List Meaning) → is_empty rest ≡ false → spec.body_behind form (a_statement x1 ∷ rest) ≡ nothing
body_behind_statement_and_more form x1 [] e1 = absurd (cc)
body_behind_statement_and_more form x1 _ e1 = refl

pub ruleset of_label = (label_without_token, label_token_without_expr_or_token, label_token_expr_without_token, label_token_expr_token_and_more, label_token_token_and_more)

pub ruleset of_statement = (statement_without_token_or_statement_or_block_or_expr, statement_statement_and_more, statement_block_and_more, statement_expr_without_token, statement_expr_token_and_more, statement_token_without_expr_or_statement_or_token, statement_token_expr_without_token, statement_token_expr_token_and_more, statement_token_token_without_expr, statement_token_token_expr_without_token, statement_token_token_expr_token_without_statement, statement_token_token_expr_token_statement_and_more, statement_token_statement_without_token, statement_token_statement_token_without_token, statement_token_statement_token_token_without_expr, statement_token_statement_token_token_expr_without_token, statement_token_statement_token_token_expr_token_without_token, statement_token_statement_token_token_expr_token_token_and_more)

pub ruleset of_if_statement = (if_statement_without_token, if_statement_token_without_token, if_statement_token_token_without_declaration)

pub ruleset of_selection = (selection_without_expr, selection_expr_without_token, selection_expr_token_without_statement, selection_expr_token_statement_without_token, selection_expr_token_statement_token_without_statement, selection_expr_token_statement_token_statement_and_more)

pub ruleset of_for_statement = (for_statement_without_token, for_statement_token_without_token, for_statement_token_token_without_declaration_or_expr_or_token, for_statement_token_token_expr_without_token)

pub ruleset of_condition_behind = (condition_behind_without_expr_or_token, condition_behind_expr_without_token)

pub ruleset of_step_behind = (step_behind_without_expr_or_token, step_behind_expr_without_token)

pub ruleset of_body_behind = (body_behind_without_statement, body_behind_statement_and_more)
