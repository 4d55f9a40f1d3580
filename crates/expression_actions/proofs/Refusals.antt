-- What the productions of expressions make nothing of, or nothing more.
use Rattle.std.proofs.Common.{◌≡◌, refl, ℕ, List, [], ◌∷◌, false}
use Rattle.cake_base.specs.declared.places.Place.{Place}
use Rattle.model_tokens.specs.declared.tokens.CKind.{CKind}
use Rattle.model_grammar.specs.SyntaxForms as m
use Rattle.model_grammar.specs.declared.syntax.Name.{Name}
use Rattle.model_grammar.specs.SyntaxExprActions as e
use Rattle.model_grammar.specs.SyntaxValues.{Meaning, nothing, a_block, a_token, a_type_name, an_expr, some_braces}
use Rattle.syntax_meanings.specs.FirstSymbols.{begins_with_block, begins_with_braces, begins_with_expr, begins_with_token, begins_with_type_name, is_empty}

pub conditional_without_condition : (rest : List Meaning) → begins_with_expr rest ≡ false → e.conditional rest ≡ nothing
conditional_without_condition (an_expr x ∷ rest) e1 = absurd (cc)
conditional_without_condition _ e1 = refl

pub conditional_without_question : (x1 : m.Expr) (rest : List Meaning) → is_empty rest ≡ false → begins_with_token rest ≡ false → e.conditional (an_expr x1 ∷ rest) ≡ nothing
conditional_without_question x1 [] e1 e2 = absurd (cc)
conditional_without_question x1 (a_token k c p ∷ rest) e1 e2 = absurd (cc)
conditional_without_question x1 _ e1 e2 = refl

pub conditional_without_first : (x1 : m.Expr) (kind2 : ℕ) (content2 : CKind) (place2 : Place) (rest : List Meaning) → begins_with_expr rest ≡ false → e.conditional (an_expr x1 ∷ a_token kind2 content2 place2 ∷ rest) ≡ nothing
conditional_without_first x1 kind2 content2 place2 (an_expr x ∷ rest) e1 = absurd (cc)
conditional_without_first x1 kind2 content2 place2 _ e1 = refl

pub conditional_without_colon : (x1 : m.Expr) (kind2 : ℕ) (content2 : CKind) (place2 : Place) (x3 : m.Expr) (rest : List Meaning) → begins_with_token rest ≡ false → e.conditional (an_expr x1 ∷ a_token kind2 content2 place2 ∷ an_expr x3 ∷ rest) ≡ nothing
conditional_without_colon x1 kind2 content2 place2 x3 (a_token k c p ∷ rest) e1 = absurd (cc)
conditional_without_colon x1 kind2 content2 place2 x3 _ e1 = refl

pub conditional_without_second : (x1 : m.Expr) (kind2 : ℕ) (content2 : CKind) (place2 : Place) (x3 : m.Expr) (kind4 : ℕ) (content4 : CKind) (place4 : Place) (rest : List Meaning) → begins_with_expr rest ≡ false → e.conditional (an_expr x1 ∷ a_token kind2 content2 place2 ∷ an_expr x3 ∷ a_token kind4 content4 place4 ∷ rest) ≡ nothing
conditional_without_second x1 kind2 content2 place2 x3 kind4 content4 place4 (an_expr x ∷ rest) e1 = absurd (cc)
conditional_without_second x1 kind2 content2 place2 x3 kind4 content4 place4 _ e1 = refl

pub cast_without_parenthesis : (rest : List Meaning) → begins_with_expr rest ≡ false → begins_with_token rest ≡ false → e.cast rest ≡ nothing
cast_without_parenthesis (an_expr x ∷ rest) e1 e2 = absurd (cc)
cast_without_parenthesis (a_token k c p ∷ rest) e1 e2 = absurd (cc)
cast_without_parenthesis _ e1 e2 = refl

pub cast_without_type : (kind1 : ℕ) (content1 : CKind) (place1 : Place) (rest : List Meaning) → begins_with_type_name rest ≡ false → e.cast (a_token kind1 content1 place1 ∷ rest) ≡ nothing
cast_without_type kind1 content1 place1 (a_type_name x ∷ rest) e1 = absurd (cc)
cast_without_type kind1 content1 place1 _ e1 = refl

pub cast_without_closing : (kind1 : ℕ) (content1 : CKind) (place1 : Place) (x2 : m.TypeName) (rest : List Meaning) → begins_with_token rest ≡ false → e.cast (a_token kind1 content1 place1 ∷ a_type_name x2 ∷ rest) ≡ nothing
cast_without_closing kind1 content1 place1 x2 (a_token k c p ∷ rest) e1 = absurd (cc)
cast_without_closing kind1 content1 place1 x2 _ e1 = refl

pub cast_without_operand : (kind1 : ℕ) (content1 : CKind) (place1 : Place) (x2 : m.TypeName) (kind3 : ℕ) (content3 : CKind) (place3 : Place) (rest : List Meaning) → begins_with_expr rest ≡ false → e.cast (a_token kind1 content1 place1 ∷ a_type_name x2 ∷ a_token kind3 content3 place3 ∷ rest) ≡ nothing
cast_without_operand kind1 content1 place1 x2 kind3 content3 place3 (an_expr x ∷ rest) e1 = absurd (cc)
cast_without_operand kind1 content1 place1 x2 kind3 content3 place3 _ e1 = refl

pub unary_without_sign : (rest : List Meaning) → begins_with_expr rest ≡ false → begins_with_token rest ≡ false → e.unary rest ≡ nothing
unary_without_sign (an_expr x ∷ rest) e1 e2 = absurd (cc)
unary_without_sign (a_token k c p ∷ rest) e1 e2 = absurd (cc)
unary_without_sign _ e1 e2 = refl

pub unary_without_operand : (kind1 : ℕ) (content1 : CKind) (place1 : Place) (rest : List Meaning) → begins_with_expr rest ≡ false → begins_with_token rest ≡ false → e.unary (a_token kind1 content1 place1 ∷ rest) ≡ nothing
unary_without_operand kind1 content1 place1 (an_expr x ∷ rest) e1 e2 = absurd (cc)
unary_without_operand kind1 content1 place1 (a_token k c p ∷ rest) e1 e2 = absurd (cc)
unary_without_operand kind1 content1 place1 _ e1 e2 = refl

pub unary_without_type : (kind1 : ℕ) (content1 : CKind) (place1 : Place) (kind2 : ℕ) (content2 : CKind) (place2 : Place) (rest : List Meaning) → begins_with_type_name rest ≡ false → e.unary (a_token kind1 content1 place1 ∷ a_token kind2 content2 place2 ∷ rest) ≡ nothing
unary_without_type kind1 content1 place1 kind2 content2 place2 (a_type_name x ∷ rest) e1 = absurd (cc)
unary_without_type kind1 content1 place1 kind2 content2 place2 _ e1 = refl

pub unary_without_closing : (kind1 : ℕ) (content1 : CKind) (place1 : Place) (kind2 : ℕ) (content2 : CKind) (place2 : Place) (x3 : m.TypeName) (rest : List Meaning) → begins_with_token rest ≡ false → e.unary (a_token kind1 content1 place1 ∷ a_token kind2 content2 place2 ∷ a_type_name x3 ∷ rest) ≡ nothing
unary_without_closing kind1 content1 place1 kind2 content2 place2 x3 (a_token k c p ∷ rest) e1 = absurd (cc)
unary_without_closing kind1 content1 place1 kind2 content2 place2 x3 _ e1 = refl

pub assigned_without_left : (rest : List Meaning) → begins_with_expr rest ≡ false → e.assigned rest ≡ nothing
assigned_without_left (an_expr x ∷ rest) e1 = absurd (cc)
assigned_without_left _ e1 = refl

pub assigned_without_sign : (x1 : m.Expr) (rest : List Meaning) → is_empty rest ≡ false → begins_with_token rest ≡ false → e.assigned (an_expr x1 ∷ rest) ≡ nothing
assigned_without_sign x1 [] e1 e2 = absurd (cc)
assigned_without_sign x1 (a_token k c p ∷ rest) e1 e2 = absurd (cc)
assigned_without_sign x1 _ e1 e2 = refl

pub assigned_without_right : (x1 : m.Expr) (kind2 : ℕ) (content2 : CKind) (place2 : Place) (rest : List Meaning) → begins_with_expr rest ≡ false → e.assigned (an_expr x1 ∷ a_token kind2 content2 place2 ∷ rest) ≡ nothing
assigned_without_right x1 kind2 content2 place2 (an_expr x ∷ rest) e1 = absurd (cc)
assigned_without_right x1 kind2 content2 place2 _ e1 = refl

pub primary_without_token : (rest : List Meaning) → begins_with_expr rest ≡ false → begins_with_token rest ≡ false → e.primary rest ≡ nothing
primary_without_token (an_expr x ∷ rest) e1 e2 = absurd (cc)
primary_without_token (a_token k c p ∷ rest) e1 e2 = absurd (cc)
primary_without_token _ e1 e2 = refl

pub primary_without_inner : (kind1 : ℕ) (content1 : CKind) (place1 : Place) (rest : List Meaning) → is_empty rest ≡ false → begins_with_expr rest ≡ false → e.primary (a_token kind1 content1 place1 ∷ rest) ≡ nothing
primary_without_inner kind1 content1 place1 [] e1 e2 = absurd (cc)
primary_without_inner kind1 content1 place1 (an_expr x ∷ rest) e1 e2 = absurd (cc)
primary_without_inner kind1 content1 place1 _ e1 e2 = refl

pub primary_without_closing : (kind1 : ℕ) (content1 : CKind) (place1 : Place) (x2 : m.Expr) (rest : List Meaning) → begins_with_token rest ≡ false → e.primary (a_token kind1 content1 place1 ∷ an_expr x2 ∷ rest) ≡ nothing
primary_without_closing kind1 content1 place1 x2 (a_token k c p ∷ rest) e1 = absurd (cc)
primary_without_closing kind1 content1 place1 x2 _ e1 = refl

pub literal_without_parenthesis : (rest : List Meaning) → begins_with_token rest ≡ false → e.literal rest ≡ nothing
literal_without_parenthesis (a_token k c p ∷ rest) e1 = absurd (cc)
literal_without_parenthesis _ e1 = refl

pub literal_without_type : (kind1 : ℕ) (content1 : CKind) (place1 : Place) (rest : List Meaning) → begins_with_type_name rest ≡ false → e.literal (a_token kind1 content1 place1 ∷ rest) ≡ nothing
literal_without_type kind1 content1 place1 (a_type_name x ∷ rest) e1 = absurd (cc)
literal_without_type kind1 content1 place1 _ e1 = refl

pub literal_without_closing : (kind1 : ℕ) (content1 : CKind) (place1 : Place) (x2 : m.TypeName) (rest : List Meaning) → begins_with_token rest ≡ false → e.literal (a_token kind1 content1 place1 ∷ a_type_name x2 ∷ rest) ≡ nothing
literal_without_closing kind1 content1 place1 x2 (a_token k c p ∷ rest) e1 = absurd (cc)
literal_without_closing kind1 content1 place1 x2 _ e1 = refl

pub literal_without_value : (kind1 : ℕ) (content1 : CKind) (place1 : Place) (x2 : m.TypeName) (kind3 : ℕ) (content3 : CKind) (place3 : Place) (rest : List Meaning) → begins_with_braces rest ≡ false → begins_with_block rest ≡ false → e.literal (a_token kind1 content1 place1 ∷ a_type_name x2 ∷ a_token kind3 content3 place3 ∷ rest) ≡ nothing
literal_without_value kind1 content1 place1 x2 kind3 content3 place3 (some_braces x ∷ rest) e1 e2 = absurd (cc)
literal_without_value kind1 content1 place1 x2 kind3 content3 place3 (a_block x ∷ rest) e1 e2 = absurd (cc)
literal_without_value kind1 content1 place1 x2 kind3 content3 place3 _ e1 e2 = refl

pub chained_without_first : (rest : List Meaning) → begins_with_expr rest ≡ false → e.chained rest ≡ nothing
chained_without_first (an_expr x ∷ rest) e1 = absurd (cc)
chained_without_first _ e1 = refl

pub chain_without_sign : (left : m.Expr) (rest : List Meaning) → begins_with_token rest ≡ false → e.chain left rest ≡ left
chain_without_sign left (a_token k c p ∷ rest) e1 = absurd (cc)
chain_without_sign left _ e1 = refl

pub chain_without_operand : (left : m.Expr) (kind1 : ℕ) (content1 : CKind) (place1 : Place) (rest : List Meaning) → begins_with_expr rest ≡ false → e.chain left (a_token kind1 content1 place1 ∷ rest) ≡ left
chain_without_operand left kind1 content1 place1 (an_expr x ∷ rest) e1 = absurd (cc)
chain_without_operand left kind1 content1 place1 _ e1 = refl

pub postfixed_without_first : (rest : List Meaning) → begins_with_expr rest ≡ false → e.postfixed rest ≡ nothing
postfixed_without_first (an_expr x ∷ rest) e1 = absurd (cc)
postfixed_without_first _ e1 = refl

pub index_without_index : (array : m.Expr) (place : Place) (rest : List Meaning) → begins_with_expr rest ≡ false → e.index array place rest ≡ array
index_without_index array place (an_expr x ∷ rest) e1 = absurd (cc)
index_without_index array place _ e1 = refl

pub index_without_closing : (expr : m.Expr) (rest : List Meaning) → begins_with_token rest ≡ false → e.close expr rest ≡ expr
index_without_closing expr (a_token k c p ∷ rest) e1 = absurd (cc)
index_without_closing expr _ e1 = refl

pub postfix_without_sign : (expr : m.Expr) (rest : List Meaning) → begins_with_token rest ≡ false → e.postfix expr rest ≡ expr
postfix_without_sign expr (a_token k c p ∷ rest) e1 = absurd (cc)
postfix_without_sign expr _ e1 = refl

pub member_without_name : (form : m.Expr → Name → Place → m.Expr) (expr : m.Expr) (place : Place) (rest : List Meaning) → begins_with_token rest ≡ false → e.member form expr place rest ≡ expr
member_without_name form expr place (a_token k c p ∷ rest) e1 = absurd (cc)
member_without_name form expr place _ e1 = refl

pub conditional_with_more : (x1 : m.Expr) (kind2 : ℕ) (content2 : CKind) (place2 : Place) (x3 : m.Expr) (kind4 : ℕ) (content4 : CKind) (place4 : Place) (x5 : m.Expr) (rest : List Meaning) → is_empty rest ≡ false → e.conditional (an_expr x1 ∷ a_token kind2 content2 place2 ∷ an_expr x3 ∷ a_token kind4 content4 place4 ∷ an_expr x5 ∷ rest) ≡ nothing
conditional_with_more x1 kind2 content2 place2 x3 kind4 content4 place4 x5 [] e1 = absurd (cc)
conditional_with_more x1 kind2 content2 place2 x3 kind4 content4 place4 x5 _ e1 = refl

pub cast_with_more : (kind1 : ℕ) (content1 : CKind) (place1 : Place) (x2 : m.TypeName) (kind3 : ℕ) (content3 : CKind) (place3 : Place) (x4 : m.Expr) (rest : List Meaning) → is_empty rest ≡ false → e.cast (a_token kind1 content1 place1 ∷ a_type_name x2 ∷ a_token kind3 content3 place3 ∷ an_expr x4 ∷ rest) ≡ nothing
cast_with_more kind1 content1 place1 x2 kind3 content3 place3 x4 [] e1 = absurd (cc)
cast_with_more kind1 content1 place1 x2 kind3 content3 place3 x4 _ e1 = refl

pub cast_of_two : (x1 : m.Expr) (rest : List Meaning) → is_empty rest ≡ false → e.cast (an_expr x1 ∷ rest) ≡ nothing
cast_of_two x1 [] e1 = absurd (cc)
cast_of_two x1 _ e1 = refl

pub unary_with_more : (kind1 : ℕ) (content1 : CKind) (place1 : Place) (kind2 : ℕ) (content2 : CKind) (place2 : Place) (x3 : m.TypeName) (kind4 : ℕ) (content4 : CKind) (place4 : Place) (rest : List Meaning) → is_empty rest ≡ false → e.unary (a_token kind1 content1 place1 ∷ a_token kind2 content2 place2 ∷ a_type_name x3 ∷ a_token kind4 content4 place4 ∷ rest) ≡ nothing
unary_with_more kind1 content1 place1 kind2 content2 place2 x3 kind4 content4 place4 [] e1 = absurd (cc)
unary_with_more kind1 content1 place1 kind2 content2 place2 x3 kind4 content4 place4 _ e1 = refl

pub unary_of_two : (x1 : m.Expr) (rest : List Meaning) → is_empty rest ≡ false → e.unary (an_expr x1 ∷ rest) ≡ nothing
unary_of_two x1 [] e1 = absurd (cc)
unary_of_two x1 _ e1 = refl

pub unary_operand_with_more : (kind1 : ℕ) (content1 : CKind) (place1 : Place) (x2 : m.Expr) (rest : List Meaning) → is_empty rest ≡ false → e.unary (a_token kind1 content1 place1 ∷ an_expr x2 ∷ rest) ≡ nothing
unary_operand_with_more kind1 content1 place1 x2 [] e1 = absurd (cc)
unary_operand_with_more kind1 content1 place1 x2 _ e1 = refl

pub assigned_with_more : (x1 : m.Expr) (kind2 : ℕ) (content2 : CKind) (place2 : Place) (x3 : m.Expr) (rest : List Meaning) → is_empty rest ≡ false → e.assigned (an_expr x1 ∷ a_token kind2 content2 place2 ∷ an_expr x3 ∷ rest) ≡ nothing
assigned_with_more x1 kind2 content2 place2 x3 [] e1 = absurd (cc)
assigned_with_more x1 kind2 content2 place2 x3 _ e1 = refl

pub primary_with_more : (kind1 : ℕ) (content1 : CKind) (place1 : Place) (x2 : m.Expr) (kind3 : ℕ) (content3 : CKind) (place3 : Place) (rest : List Meaning) → is_empty rest ≡ false → e.primary (a_token kind1 content1 place1 ∷ an_expr x2 ∷ a_token kind3 content3 place3 ∷ rest) ≡ nothing
primary_with_more kind1 content1 place1 x2 kind3 content3 place3 [] e1 = absurd (cc)
primary_with_more kind1 content1 place1 x2 kind3 content3 place3 _ e1 = refl

pub primary_of_two : (x1 : m.Expr) (rest : List Meaning) → is_empty rest ≡ false → e.primary (an_expr x1 ∷ rest) ≡ nothing
primary_of_two x1 [] e1 = absurd (cc)
primary_of_two x1 _ e1 = refl

pub literal_with_more : (kind1 : ℕ) (content1 : CKind) (place1 : Place) (x2 : m.TypeName) (kind3 : ℕ) (content3 : CKind) (place3 : Place) (x4 : m.Braces) (rest : List Meaning) → is_empty rest ≡ false → e.literal (a_token kind1 content1 place1 ∷ a_type_name x2 ∷ a_token kind3 content3 place3 ∷ some_braces x4 ∷ rest) ≡ nothing
literal_with_more kind1 content1 place1 x2 kind3 content3 place3 x4 [] e1 = absurd (cc)
literal_with_more kind1 content1 place1 x2 kind3 content3 place3 x4 _ e1 = refl

pub function_literal_with_more : (kind1 : ℕ) (content1 : CKind) (place1 : Place) (x2 : m.TypeName) (kind3 : ℕ) (content3 : CKind) (place3 : Place) (x4 : m.Block) (rest : List Meaning) → is_empty rest ≡ false → e.literal (a_token kind1 content1 place1 ∷ a_type_name x2 ∷ a_token kind3 content3 place3 ∷ a_block x4 ∷ rest) ≡ nothing
function_literal_with_more kind1 content1 place1 x2 kind3 content3 place3 x4 [] e1 = absurd (cc)
function_literal_with_more kind1 content1 place1 x2 kind3 content3 place3 x4 _ e1 = refl

pub ruleset of_conditional = (conditional_without_condition, conditional_without_question, conditional_without_first, conditional_without_colon, conditional_without_second, conditional_with_more)

pub ruleset of_cast = (cast_without_parenthesis, cast_without_type, cast_without_closing, cast_without_operand, cast_with_more, cast_of_two)

pub ruleset of_unary = (unary_without_sign, unary_without_operand, unary_without_type, unary_without_closing, unary_with_more, unary_of_two, unary_operand_with_more)

pub ruleset of_assigned = (assigned_without_left, assigned_without_sign, assigned_without_right, assigned_with_more)

pub ruleset of_primary = (primary_without_token, primary_without_inner, primary_without_closing, primary_with_more, primary_of_two)

pub ruleset of_literal = (literal_without_parenthesis, literal_without_type, literal_without_closing, literal_without_value, literal_with_more, function_literal_with_more)

pub ruleset of_chained = (chained_without_first)

pub ruleset of_chain = (chain_without_sign, chain_without_operand)

pub ruleset of_postfixed = (postfixed_without_first)

pub ruleset of_index = (index_without_index)

pub ruleset of_close = (index_without_closing)

pub ruleset of_postfix = (postfix_without_sign)

pub ruleset of_member = (member_without_name)
