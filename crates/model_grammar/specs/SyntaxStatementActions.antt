-- What the productions of initializers and statements make of their symbols (ISO/IEC 9899:2024, 6.7.11, 6.8).
use Rattle.std.specs.Prelude.{ℕ, ◌==◌, if◌then◌else◌, List, [], ◌∷◌}
use Rattle.cake_base.specs.declared.places.Place.{Place}
use Rattle.model_types.specs.declared.marks.Span.{Span}
use Rattle.model_grammar.specs.SyntaxForms as syntax
use Rattle.model_grammar.specs.SyntaxValues.{Meaning, nothing, a_token, an_expr, an_initializer, some_braces, an_item, a_designator, a_declaration, a_statement, a_block_item, a_block, spelled}
use Rattle.model_grammar.specs.Terminals as k

-- initializers

abbrev pub initializer : List Meaning → Meaning
initializer (an_expr value ∷ []) = an_initializer (syntax.Single value)
initializer (some_braces values ∷ []) = an_initializer (syntax.Braced values)
initializer _ = nothing

abbrev pub items_in : List Meaning → syntax.InitializerItems
items_in [] = syntax.no_items
items_in (an_item i ∷ rest) = syntax.more_items i (items_in rest)
items_in (_ ∷ rest) = items_in rest

abbrev pub braces : List Meaning → Meaning
braces (a_token opening content place ∷ rest) = some_braces (syntax.braces (items_in rest) place)
braces _ = nothing

abbrev pub designators_in : List Meaning → syntax.Designators
designators_in (a_designator d ∷ rest) = syntax.more_designators d (designators_in rest)
designators_in _ = syntax.no_designators

-- the initializer behind the designators
abbrev pub item_behind : syntax.Designators → List Meaning → Meaning
item_behind front [] = nothing
item_behind front (an_initializer value ∷ rest) = an_item (syntax.item front value)
item_behind front (_ ∷ rest) = item_behind front rest

abbrev pub item : List Meaning → Meaning
item symbols = item_behind (designators_in symbols) symbols

abbrev pub designator : List Meaning → Meaning
designator (a_token opening content place ∷ an_expr index ∷ rest) = a_designator (syntax.ElementDesignator index place)
designator (a_token dot content place ∷ a_token kind name at ∷ []) = a_designator (syntax.MemberDesignator (spelled name at) place)
designator _ = nothing

-- blocks

abbrev pub block_items_in : List Meaning → syntax.BlockItems
block_items_in [] = syntax.no_block_items
block_items_in (a_declaration d ∷ rest) = syntax.more_block_items (syntax.DeclarationItem d) (block_items_in rest)
block_items_in (a_statement s ∷ rest) = syntax.more_block_items (syntax.StatementItem s) (block_items_in rest)
block_items_in (a_block_item label ∷ rest) = syntax.more_block_items label (block_items_in rest)
block_items_in (_ ∷ rest) = block_items_in rest

abbrev pub block : Span → List Meaning → Meaning
block span symbols = a_block (syntax.block (block_items_in symbols) span)

abbrev pub label : List Meaning → Meaning
label (a_token word content place ∷ an_expr value ∷ a_token colon _ _ ∷ []) = a_block_item (syntax.CaseLabel value place)
label (a_token word content place ∷ a_token colon _ _ ∷ []) = a_block_item (syntax.DefaultLabel place)
label _ = nothing

-- statements; the span is that of the symbols without attributes

-- a word, and a `;`
abbrev pub jump : ℕ → Place → Span → syntax.Statement
jump word place span =
    if word == k.Break then syntax.Break place span
    else if word == k.Continue then syntax.Continue place span
    else syntax.Return syntax.no_expr place span

-- `switch` or `while`
abbrev pub controlled : ℕ → syntax.Expr → syntax.Statement → Span → syntax.Statement
controlled word value body span = if word == k.Switch then syntax.Switch value body span else syntax.While value body span

abbrev pub statement : Span → List Meaning → Meaning
statement span (a_statement s ∷ []) = a_statement s
statement span (a_block body ∷ []) = a_statement (syntax.CompoundStatement body span)
statement span (an_expr value ∷ a_token semicolon _ _ ∷ []) = a_statement (syntax.ExpressionStatement (syntax.an_expr value) span)
statement span (a_token semicolon _ _ ∷ []) = a_statement (syntax.ExpressionStatement syntax.no_expr span)
statement span (a_token word _ place ∷ a_token semicolon _ _ ∷ []) = a_statement (jump word place span)
statement span (a_token word _ place ∷ an_expr value ∷ a_token semicolon _ _ ∷ []) = a_statement (syntax.Return (syntax.an_expr value) place span)
statement span (a_token word _ place ∷ a_statement body ∷ []) = a_statement (syntax.Defer body place span)
statement span (a_token word _ _ ∷ a_token opening _ _ ∷ an_expr value ∷ a_token closing _ _ ∷ a_statement body ∷ []) = a_statement (controlled word value body span)
statement span (a_token word _ _ ∷ a_statement body ∷ a_token again _ _ ∷ a_token opening _ _ ∷ an_expr value ∷ a_token closing _ _ ∷ a_token semicolon _ _ ∷ []) = a_statement (syntax.DoWhile body value span)
statement span _ = nothing

-- the statements of `if` and, where there is one, of `else`
abbrev pub selection : Span → syntax.MaybeDeclaration → List Meaning → Meaning
selection span d (an_expr condition ∷ a_token closing _ _ ∷ a_statement first ∷ []) = a_statement (syntax.If d condition first syntax.no_statement span)
selection span d (an_expr condition ∷ a_token closing _ _ ∷ a_statement first ∷ a_token other _ _ ∷ a_statement second ∷ []) = a_statement (syntax.If d condition first (syntax.a_statement second) span)
selection span d _ = nothing

abbrev pub if_statement : Span → List Meaning → Meaning
if_statement span (a_token word _ _ ∷ a_token opening _ _ ∷ a_declaration d ∷ rest) = selection span (syntax.a_declaration d) rest
if_statement span (a_token word _ _ ∷ a_token opening _ _ ∷ rest) = selection span syntax.no_declaration rest
if_statement span _ = nothing

-- of a `for`: how it begins, then the condition, the step, and the body
abbrev pub step_behind : (syntax.MaybeExpr → syntax.Statement → syntax.Statement) → List Meaning → Meaning
step_behind form (an_expr step ∷ a_token closing _ _ ∷ a_statement body ∷ []) = a_statement (form (syntax.an_expr step) body)
step_behind form (a_token closing _ _ ∷ a_statement body ∷ []) = a_statement (form syntax.no_expr body)
step_behind form _ = nothing

abbrev pub condition_behind : (syntax.MaybeExpr → syntax.MaybeExpr → syntax.Statement → syntax.Statement) → List Meaning → Meaning
condition_behind form (an_expr condition ∷ a_token semicolon _ _ ∷ rest) = step_behind (form (syntax.an_expr condition)) rest
condition_behind form (a_token semicolon _ _ ∷ rest) = step_behind (form syntax.no_expr) rest
condition_behind form _ = nothing

abbrev pub with_span : Span → syntax.MaybeExpr → syntax.MaybeExpr → syntax.MaybeExpr → syntax.Statement → syntax.Statement
with_span span first condition step body = syntax.For first condition step body span

abbrev pub with_declaration : Span → syntax.Declaration → syntax.MaybeExpr → syntax.MaybeExpr → syntax.Statement → syntax.Statement
with_declaration span d condition step body = syntax.ForDeclaration d condition step body span

abbrev pub for_statement : Span → List Meaning → Meaning
for_statement span (a_token word _ _ ∷ a_token opening _ _ ∷ a_declaration d ∷ rest) = condition_behind (with_declaration span d) rest
for_statement span (a_token word _ _ ∷ a_token opening _ _ ∷ an_expr first ∷ a_token semicolon _ _ ∷ rest) = condition_behind (with_span span (syntax.an_expr first)) rest
for_statement span (a_token word _ _ ∷ a_token opening _ _ ∷ a_token semicolon _ _ ∷ rest) = condition_behind (with_span span syntax.no_expr) rest
for_statement span _ = nothing
