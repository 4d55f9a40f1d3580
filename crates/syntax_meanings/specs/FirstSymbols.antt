-- What a list of symbols begins with.
use Rattle.std.specs.Prelude.{Bool, true, false, List, [], ◌∷◌}
use Rattle.model_grammar.specs.SyntaxValues.{Meaning, a_token, an_expr, a_type_name, some_specs, some_members, a_declarator, a_block, some_braces, a_statement, a_declaration, an_initializer, a_spec, a_qualifier, an_assertion, an_external, some_parameters}

abbrev pub begins_with_token : List Meaning → Bool
begins_with_token (a_token kind content place ∷ rest) = true
begins_with_token _ = false

abbrev pub begins_with_expr : List Meaning → Bool
begins_with_expr (an_expr x ∷ rest) = true
begins_with_expr _ = false

abbrev pub begins_with_type_name : List Meaning → Bool
begins_with_type_name (a_type_name x ∷ rest) = true
begins_with_type_name _ = false

abbrev pub begins_with_specs : List Meaning → Bool
begins_with_specs (some_specs x ∷ rest) = true
begins_with_specs _ = false

abbrev pub begins_with_members : List Meaning → Bool
begins_with_members (some_members x ∷ rest) = true
begins_with_members _ = false

abbrev pub begins_with_declarator : List Meaning → Bool
begins_with_declarator (a_declarator x ∷ rest) = true
begins_with_declarator _ = false

abbrev pub begins_with_block : List Meaning → Bool
begins_with_block (a_block x ∷ rest) = true
begins_with_block _ = false

abbrev pub begins_with_braces : List Meaning → Bool
begins_with_braces (some_braces x ∷ rest) = true
begins_with_braces _ = false

abbrev pub begins_with_statement : List Meaning → Bool
begins_with_statement (a_statement x ∷ rest) = true
begins_with_statement _ = false

abbrev pub begins_with_declaration : List Meaning → Bool
begins_with_declaration (a_declaration x ∷ rest) = true
begins_with_declaration _ = false

abbrev pub begins_with_initializer : List Meaning → Bool
begins_with_initializer (an_initializer x ∷ rest) = true
begins_with_initializer _ = false

abbrev pub begins_with_spec : List Meaning → Bool
begins_with_spec (a_spec x ∷ rest) = true
begins_with_spec _ = false

abbrev pub begins_with_qualifier : List Meaning → Bool
begins_with_qualifier (a_qualifier x ∷ rest) = true
begins_with_qualifier _ = false

abbrev pub begins_with_assertion : List Meaning → Bool
begins_with_assertion (an_assertion x ∷ rest) = true
begins_with_assertion _ = false

abbrev pub begins_with_external : List Meaning → Bool
begins_with_external (an_external x ∷ rest) = true
begins_with_external _ = false

abbrev pub begins_with_parameters : List Meaning → Bool
begins_with_parameters (some_parameters x ∷ rest) = true
begins_with_parameters _ = false

abbrev pub is_empty : List Meaning → Bool
is_empty [] = true
is_empty _ = false
