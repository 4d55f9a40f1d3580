-- What the productions of a unit make nothing of.
use Rattle.std.proofs.Common.{◌≡◌, refl, List, [], ◌∷◌, false}
use Rattle.model_grammar.specs.SyntaxForms as m
use Rattle.model_grammar.specs.SyntaxDeclarationActions as d
use Rattle.model_grammar.specs.SyntaxValues.{Meaning, nothing, a_block, a_declaration, a_declarator, an_external, some_specs}
use Rattle.syntax_meanings.specs.FirstSymbols.{begins_with_block, begins_with_declaration, begins_with_declarator, begins_with_external, begins_with_specs, is_empty}

pub external_without_external_or_declaration : (rest : List Meaning) → begins_with_external rest ≡ false → begins_with_declaration rest ≡ false → d.external rest ≡ nothing
external_without_external_or_declaration (an_external x ∷ rest) e1 e2 = absurd (cc)
external_without_external_or_declaration (a_declaration x ∷ rest) e1 e2 = absurd (cc)
external_without_external_or_declaration _ e1 e2 = refl

pub external_external_and_more : (x1 : m.External) (rest : List Meaning) → is_empty rest ≡ false → d.external (an_external x1 ∷ rest) ≡ nothing
external_external_and_more x1 [] e1 = absurd (cc)
external_external_and_more x1 _ e1 = refl

pub external_declaration_and_more : (x1 : m.Declaration) (rest : List Meaning) → is_empty rest ≡ false → d.external (a_declaration x1 ∷ rest) ≡ nothing
external_declaration_and_more x1 [] e1 = absurd (cc)
external_declaration_and_more x1 _ e1 = refl

pub function_definition_without_specs : (rest : List Meaning) → begins_with_specs rest ≡ false → d.function_definition rest ≡ nothing
function_definition_without_specs (some_specs x ∷ rest) e1 = absurd (cc)
function_definition_without_specs _ e1 = refl

pub function_definition_specs_without_declarator : (x1 : m.Specs) (rest : List Meaning) → begins_with_declarator rest ≡ false → d.function_definition (some_specs x1 ∷ rest) ≡ nothing
function_definition_specs_without_declarator x1 (a_declarator x ∷ rest) e1 = absurd (cc)
function_definition_specs_without_declarator x1 _ e1 = refl

pub function_definition_specs_declarator_without_block : (x1 : m.Specs) (x2 : m.Declarator) (rest : List Meaning) → begins_with_block rest ≡ false → d.function_definition (some_specs x1 ∷ a_declarator x2 ∷ rest) ≡ nothing
function_definition_specs_declarator_without_block x1 x2 (a_block x ∷ rest) e1 = absurd (cc)
function_definition_specs_declarator_without_block x1 x2 _ e1 = refl

pub function_definition_specs_declarator_block_and_more : (x1 : m.Specs) (x2 : m.Declarator) (x3 : m.Block) (rest : List Meaning) → is_empty rest ≡ false → d.function_definition (some_specs x1 ∷ a_declarator x2 ∷ a_block x3 ∷ rest) ≡ nothing
function_definition_specs_declarator_block_and_more x1 x2 x3 [] e1 = absurd (cc)
function_definition_specs_declarator_block_and_more x1 x2 x3 _ e1 = refl

pub ruleset of_external = (external_without_external_or_declaration, external_external_and_more, external_declaration_and_more)

pub ruleset of_function_definition = (function_definition_without_specs, function_definition_specs_without_declarator, function_definition_specs_declarator_without_block, function_definition_specs_declarator_block_and_more)
