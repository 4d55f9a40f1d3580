-- What the productions of declarators and initializers make nothing of, or nothing more.
use Rattle.std.proofs.Common.{◌≡◌, refl, ℕ, List, [], ◌∷◌, false}
use Rattle.cake_base.specs.declared.places.Place.{Place}
use Rattle.model_tokens.specs.declared.tokens.CKind.{CKind}
use Rattle.model_grammar.specs.SyntaxForms as m
use Rattle.model_grammar.specs.SyntaxDeclarationActions as d
use Rattle.model_grammar.specs.SyntaxStatementActions as s
use Rattle.model_grammar.specs.SyntaxValues.{spelled, Meaning, nothing, a_declarator, a_qualifier, a_token, an_expr, some_braces, some_parameters, some_specs}
use Rattle.syntax_meanings.specs.FirstSymbols.{begins_with_braces, begins_with_declarator, begins_with_expr, begins_with_parameters, begins_with_qualifier, begins_with_specs, begins_with_token, is_empty}

pub qualifiers_in_without_qualifier : (rest : List Meaning) → begins_with_qualifier rest ≡ false → d.qualifiers_in rest ≡ []
qualifiers_in_without_qualifier (a_qualifier x ∷ rest) e1 = absurd (cc)
qualifiers_in_without_qualifier _ e1 = refl

pub direct_without_token : (rest : List Meaning) → begins_with_token rest ≡ false → d.direct rest ≡ a_declarator (m.Unnamed [] (d.suffixes_in rest))
direct_without_token (a_token k c p ∷ rest) e1 = absurd (cc)
direct_without_token _ e1 = refl

pub direct_token_without_declarator : (kind1 : ℕ) (content1 : CKind) (place1 : Place) (rest : List Meaning) → begins_with_declarator rest ≡ false → d.direct (a_token kind1 content1 place1 ∷ rest) ≡ a_declarator (m.Named [] (spelled content1 place1) (d.suffixes_in rest))
direct_token_without_declarator kind1 content1 place1 (a_declarator x ∷ rest) e1 = absurd (cc)
direct_token_without_declarator kind1 content1 place1 _ e1 = refl

pub direct_token_declarator_without_token : (kind1 : ℕ) (content1 : CKind) (place1 : Place) (x2 : m.Declarator) (rest : List Meaning) → begins_with_token rest ≡ false → d.direct (a_token kind1 content1 place1 ∷ a_declarator x2 ∷ rest) ≡ a_declarator (m.Named [] (spelled content1 place1) m.no_suffixes)
direct_token_declarator_without_token kind1 content1 place1 x2 (a_token k c p ∷ rest) e1 = absurd (cc)
direct_token_declarator_without_token kind1 content1 place1 x2 _ e1 = refl

pub suffix_without_token : (rest : List Meaning) → begins_with_token rest ≡ false → d.suffix rest ≡ nothing
suffix_without_token (a_token k c p ∷ rest) e1 = absurd (cc)
suffix_without_token _ e1 = refl

pub suffix_token_without_expr_or_parameters_or_token : (kind1 : ℕ) (content1 : CKind) (place1 : Place) (rest : List Meaning) → begins_with_expr rest ≡ false → begins_with_parameters rest ≡ false → begins_with_token rest ≡ false → d.suffix (a_token kind1 content1 place1 ∷ rest) ≡ nothing
suffix_token_without_expr_or_parameters_or_token kind1 content1 place1 (an_expr x ∷ rest) e1 e2 e3 = absurd (cc)
suffix_token_without_expr_or_parameters_or_token kind1 content1 place1 (some_parameters x ∷ rest) e1 e2 e3 = absurd (cc)
suffix_token_without_expr_or_parameters_or_token kind1 content1 place1 (a_token k c p ∷ rest) e1 e2 e3 = absurd (cc)
suffix_token_without_expr_or_parameters_or_token kind1 content1 place1 _ e1 e2 e3 = refl

pub suffix_token_expr_without_token : (kind1 : ℕ) (content1 : CKind) (place1 : Place) (x2 : m.Expr) (rest : List Meaning) → begins_with_token rest ≡ false → d.suffix (a_token kind1 content1 place1 ∷ an_expr x2 ∷ rest) ≡ nothing
suffix_token_expr_without_token kind1 content1 place1 x2 (a_token k c p ∷ rest) e1 = absurd (cc)
suffix_token_expr_without_token kind1 content1 place1 x2 _ e1 = refl

pub suffix_token_expr_token_and_more : (kind1 : ℕ) (content1 : CKind) (place1 : Place) (x2 : m.Expr) (kind3 : ℕ) (content3 : CKind) (place3 : Place) (rest : List Meaning) → is_empty rest ≡ false → d.suffix (a_token kind1 content1 place1 ∷ an_expr x2 ∷ a_token kind3 content3 place3 ∷ rest) ≡ nothing
suffix_token_expr_token_and_more kind1 content1 place1 x2 kind3 content3 place3 [] e1 = absurd (cc)
suffix_token_expr_token_and_more kind1 content1 place1 x2 kind3 content3 place3 _ e1 = refl

pub suffix_token_parameters_without_token : (kind1 : ℕ) (content1 : CKind) (place1 : Place) (x2 : (Place → m.Suffix)) (rest : List Meaning) → begins_with_token rest ≡ false → d.suffix (a_token kind1 content1 place1 ∷ some_parameters x2 ∷ rest) ≡ nothing
suffix_token_parameters_without_token kind1 content1 place1 x2 (a_token k c p ∷ rest) e1 = absurd (cc)
suffix_token_parameters_without_token kind1 content1 place1 x2 _ e1 = refl

pub suffix_token_parameters_token_and_more : (kind1 : ℕ) (content1 : CKind) (place1 : Place) (x2 : (Place → m.Suffix)) (kind3 : ℕ) (content3 : CKind) (place3 : Place) (rest : List Meaning) → is_empty rest ≡ false → d.suffix (a_token kind1 content1 place1 ∷ some_parameters x2 ∷ a_token kind3 content3 place3 ∷ rest) ≡ nothing
suffix_token_parameters_token_and_more kind1 content1 place1 x2 kind3 content3 place3 [] e1 = absurd (cc)
suffix_token_parameters_token_and_more kind1 content1 place1 x2 kind3 content3 place3 _ e1 = refl

pub suffix_token_token_and_more : (kind1 : ℕ) (content1 : CKind) (place1 : Place) (kind2 : ℕ) (content2 : CKind) (place2 : Place) (rest : List Meaning) → is_empty rest ≡ false → d.suffix (a_token kind1 content1 place1 ∷ a_token kind2 content2 place2 ∷ rest) ≡ nothing
suffix_token_token_and_more kind1 content1 place1 kind2 content2 place2 [] e1 = absurd (cc)
suffix_token_token_and_more kind1 content1 place1 kind2 content2 place2 _ e1 = refl

pub parameter_without_specs : (first : Place) (rest : List Meaning) → begins_with_specs rest ≡ false → d.parameter first rest ≡ nothing
parameter_without_specs first (some_specs x ∷ rest) e1 = absurd (cc)
parameter_without_specs first _ e1 = refl

pub type_name_without_specs : (rest : List Meaning) → begins_with_specs rest ≡ false → d.type_name rest ≡ nothing
type_name_without_specs (some_specs x ∷ rest) e1 = absurd (cc)
type_name_without_specs _ e1 = refl

pub initializer_without_expr_or_braces : (rest : List Meaning) → begins_with_expr rest ≡ false → begins_with_braces rest ≡ false → s.initializer rest ≡ nothing
initializer_without_expr_or_braces (an_expr x ∷ rest) e1 e2 = absurd (cc)
initializer_without_expr_or_braces (some_braces x ∷ rest) e1 e2 = absurd (cc)
initializer_without_expr_or_braces _ e1 e2 = refl

pub initializer_expr_and_more : (x1 : m.Expr) (rest : List Meaning) → is_empty rest ≡ false → s.initializer (an_expr x1 ∷ rest) ≡ nothing
initializer_expr_and_more x1 [] e1 = absurd (cc)
initializer_expr_and_more x1 _ e1 = refl

pub initializer_braces_and_more : (x1 : m.Braces) (rest : List Meaning) → is_empty rest ≡ false → s.initializer (some_braces x1 ∷ rest) ≡ nothing
initializer_braces_and_more x1 [] e1 = absurd (cc)
initializer_braces_and_more x1 _ e1 = refl

pub braces_without_token : (rest : List Meaning) → begins_with_token rest ≡ false → s.braces rest ≡ nothing
braces_without_token (a_token k c p ∷ rest) e1 = absurd (cc)
braces_without_token _ e1 = refl

pub designator_without_token : (rest : List Meaning) → begins_with_token rest ≡ false → s.designator rest ≡ nothing
designator_without_token (a_token k c p ∷ rest) e1 = absurd (cc)
designator_without_token _ e1 = refl

pub designator_token_without_expr_or_token : (kind1 : ℕ) (content1 : CKind) (place1 : Place) (rest : List Meaning) → begins_with_expr rest ≡ false → begins_with_token rest ≡ false → s.designator (a_token kind1 content1 place1 ∷ rest) ≡ nothing
designator_token_without_expr_or_token kind1 content1 place1 (an_expr x ∷ rest) e1 e2 = absurd (cc)
designator_token_without_expr_or_token kind1 content1 place1 (a_token k c p ∷ rest) e1 e2 = absurd (cc)
designator_token_without_expr_or_token kind1 content1 place1 _ e1 e2 = refl

pub designator_token_token_and_more : (kind1 : ℕ) (content1 : CKind) (place1 : Place) (kind2 : ℕ) (content2 : CKind) (place2 : Place) (rest : List Meaning) → is_empty rest ≡ false → s.designator (a_token kind1 content1 place1 ∷ a_token kind2 content2 place2 ∷ rest) ≡ nothing
designator_token_token_and_more kind1 content1 place1 kind2 content2 place2 [] e1 = absurd (cc)
designator_token_token_and_more kind1 content1 place1 kind2 content2 place2 _ e1 = refl

pub ruleset of_qualifiers_in = (qualifiers_in_without_qualifier)

pub ruleset of_direct = (direct_without_token, direct_token_without_declarator, direct_token_declarator_without_token)

pub ruleset of_suffix = (suffix_without_token, suffix_token_without_expr_or_parameters_or_token, suffix_token_expr_without_token, suffix_token_expr_token_and_more, suffix_token_parameters_without_token, suffix_token_parameters_token_and_more, suffix_token_token_and_more)

pub ruleset of_parameter = (parameter_without_specs)

pub ruleset of_type_name = (type_name_without_specs)

pub ruleset of_initializer = (initializer_without_expr_or_braces, initializer_expr_and_more, initializer_braces_and_more)

pub ruleset of_braces = (braces_without_token)

pub ruleset of_designator = (designator_without_token, designator_token_without_expr_or_token, designator_token_token_and_more)
