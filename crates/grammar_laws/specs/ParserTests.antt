-- What the parser asks of the tokens ahead, and the language of its own table.
use Rattle.std.specs.Prelude.{ℕ, ◌+◌, ◌-◌, Bool, true, false, not, ◌&&◌, ◌||◌, ◌==◌, if◌then◌else◌, List, [], ◌∷◌, Option, Some, None}
use Rattle.model_grammar.specs.declared.grammar.Rule.{Rule}
use Rattle.model_grammar.specs.declared.grammar.Rule.TheVariants as r
use Rattle.model_grammar.specs.declared.grammar.Test.{Test}
use Rattle.model_grammar.specs.declared.grammar.Test.TheVariants as test
use Rattle.model_grammar.specs.declared.grammar.Terminal.{Terminal}
use Rattle.model_grammar.specs.declared.grammar.Before.{Before}
use Rattle.model_grammar.specs.declared.grammar.Before.TheVariants.{AtStart, BehindStar, BehindQualifier, Inside}
use Rattle.model_grammar.specs.declared.grammar.Within.{Within}
use Rattle.model_grammar.specs.declared.grammar.Within.TheVariants.{Between, BehindColon, BehindHead, BehindTag, BehindTypeof, Attribute, Group}
use Rattle.model_grammar.specs.Terminals as k
use Rattle.model_grammar.specs.GrammarForm.{mem}
use Rattle.model_grammar.specs.NameScopes.{Scopes, kind, fresh, is_opening, is_closing, is_type}
use Rattle.model_grammar.specs.Derivation.{Language}
use Rattle.model_grammar.specs.SyntaxTree.{c_language, has_parameters, sees_else, sees_type}
use Rattle.grammar_laws.specs.ParserTable.{table}
use Rattle.grammar_laws.specs.ParserSets.{firsts}

-- the first token is of this kind
abbrev pub sees : ℕ → List Terminal → Bool
sees kind [] = false
sees kind (t ∷ ts) = t.kind == kind

abbrev pub sees_attribute : List Terminal → Bool
sees_attribute (t ∷ u ∷ ts) = t.kind == k.OpenBracket && u.kind == k.OpenBracket
sees_attribute ts = false

-- the first token may begin the nonterminal
abbrev pub may_come : Rule → Scopes → List Terminal → Bool
may_come rule s [] = false
may_come rule s (t ∷ ts) = mem (kind s t) (firsts rule)

abbrev pub sees_name : Scopes → List Terminal → Bool
sees_name s [] = false
sees_name s (t ∷ ts) = kind s t == k.Name

-- what is behind the bracket that closes the first of the n that are open
unfoldable pub past_brackets : ℕ → List Terminal → List Terminal
past_brackets n [] = []
past_brackets n (t ∷ ts) = if is_opening t.kind then past_brackets (n + 1) ts else if is_closing t.kind then (if n == 1 then ts else past_brackets (n - 1) ts) else past_brackets n ts

-- what is behind the attributes that come next, of which n brackets are open
unfoldable pub past_attributes : ℕ → List Terminal → List Terminal
past_attributes n [] = []
past_attributes n (t ∷ ts) = if n == 0 && not (sees_attribute (t ∷ ts)) then t ∷ ts else if is_opening t.kind then past_attributes (n + 1) ts else if is_closing t.kind then past_attributes (n - 1) ts else past_attributes n ts

-- a type name begins with the token, where no type specifier precedes it
abbrev pub begins_type : Scopes → Terminal → Bool
begins_type s t = mem (kind (record s { reading = fresh }) t) (firsts r.Squals)

-- `(` and the first token of a type name
abbrev pub sees_type_name : Scopes → List Terminal → Bool
sees_type_name s (t ∷ u ∷ ts) = t.kind == k.OpenParenthesis && begins_type s u
sees_type_name s ts = false

-- a typedef name there is the name of the declarator
abbrev pub declares : Before → Bool
declares (AtStart typed) = typed
declares _ = true

-- the token is the name of the declarator
abbrev pub is_name : Before → Scopes → Terminal → Bool
is_name before s t = t.kind == k.Name && (not (is_type s.entries t.name) || declares before)

abbrev pub is_qualifier : ℕ → Bool
is_qualifier kind = mem kind (firsts r.Qual)

-- the brackets that are open
abbrev pub opened : Before → ℕ
opened (Inside n) = n
opened _ = 0

-- behind a token inside an attribute
abbrev pub inside_step : ℕ → ℕ → Before
inside_step n kind = if is_opening kind then Inside (n + 1) else if not (is_closing kind) then Inside n else if n == 1 then BehindStar else Inside (n - 1)

-- behind another token: `*`, `(`, a qualifier where a `*` stands before, or an attribute directly behind `*`
abbrev pub outside_step : Bool → Bool → ℕ → Bool → Option Before
outside_step is_behind is_star kind is_attribute =
    if kind == k.Star then Some BehindStar
    else if kind == k.OpenParenthesis then Some (AtStart false)
    else if is_behind && is_qualifier kind then Some BehindQualifier
    else if is_star && is_attribute then Some (Inside 1)
    else None

-- where what is behind a token of a declarator stands, unless the token is a name or begins something else; whether an
-- attribute begins with it
unfoldable pub declarator_step : Before → ℕ → Bool → Option Before
declarator_step (Inside n) kind is_attribute = Some (inside_step n kind)
declarator_step (AtStart typed) kind is_attribute = outside_step false false kind is_attribute
declarator_step BehindStar kind is_attribute = outside_step true true kind is_attribute
declarator_step BehindQualifier kind is_attribute = outside_step true false kind is_attribute

abbrev pub goes_on : {A B : Type 0} → Option A → (A → B) → B → B
goes_on (Some place) more found = more place
goes_on None more found = found

-- behind any `*`, attributes, qualifiers and `(` stands the name of a declarator, or the tokens end
unfoldable pub names_declarator : Before → Scopes → List Terminal → Bool
names_declarator before s [] = true
names_declarator before s (t ∷ ts) = goes_on (declarator_step before t.kind (sees_attribute (t ∷ ts))) (λ next. names_declarator next s ts) (is_name before s t)

-- an abstract declarator begins with a token of this kind, where no attribute does
abbrev pub opens_abstract : ℕ → Bool → Bool
opens_abstract kind no_attribute = kind == k.Star || kind == k.OpenParenthesis || kind == k.OpenBracket && no_attribute

-- a `(` that opens an abstract declarator, and no list of parameters
abbrev pub sees_abstract : List Terminal → Bool
sees_abstract (t ∷ u ∷ []) = t.kind == k.OpenParenthesis && opens_abstract u.kind true
sees_abstract (t ∷ u ∷ v ∷ ts) = t.kind == k.OpenParenthesis && opens_abstract u.kind (not (v.kind == k.OpenBracket))
sees_abstract ts = false

-- `,`, and no token of this kind behind it
abbrev pub sees_comma_without : ℕ → List Terminal → Bool
sees_comma_without kind (t ∷ ts) = t.kind == k.Comma && not (sees kind ts)
sees_comma_without kind [] = false

abbrev pub sees_enumerator : Scopes → List Terminal → Bool
sees_enumerator s (t ∷ ts) = t.kind == k.Comma && sees_name s ts
sees_enumerator s [] = false

abbrev pub sees_assertion : List Terminal → Bool
sees_assertion ts = sees k.StaticAssert ts || sees k.OldStaticAssert ts

-- attributes with nothing but `;` behind them
abbrev pub sees_attributes_alone : List Terminal → Bool
sees_attributes_alone ts = sees_attribute ts && sees k.Semicolon (past_attributes 0 ts)

abbrev pub specifies : Scopes → List Terminal → Bool
specifies s ts = may_come r.Specs s (past_attributes 0 ts)

abbrev pub sees_label : List Terminal → Bool
sees_label ts = sees k.Case ts || sees k.Default ts

abbrev pub sees_cast : Scopes → List Terminal → Bool
sees_cast s ts = sees_type_name s ts && not (sees k.OpenBrace (past_brackets 0 ts))

-- the brackets that are open
abbrev pub within : Within → ℕ
within (Attribute is_struct n) = n
within (Group n) = n
within _ = 0

abbrev pub type_words : List ℕ
type_words = k.Void ∷ k.Char ∷ k.Short ∷ k.Int ∷ k.Long ∷ k.Signed ∷ k.Unsigned ∷ k.Bool ∷ k.OldBool ∷ []

abbrev pub is_type_word : ℕ → Bool
is_type_word kind = mem kind type_words

-- behind a word of a specifier
abbrev pub behind_word : Bool → ℕ → Within
behind_word typed kind =
    if kind == k.Struct then BehindHead true
    else if kind == k.Enum then BehindHead false
    else if kind == k.Typeof || kind == k.TypeofUnqual then BehindTypeof
    else Between (typed || is_type_word kind)

-- behind `:`, `{` or a word that begins such a nonterminal, or the end of the specifiers
abbrev pub behind_specifier : Rule → Bool → ℕ → Option Within
behind_specifier rule typed kind =
    if kind == k.Colon then Some BehindColon
    else if kind == k.OpenBrace then Some (Group 1)
    else if mem kind (firsts rule) then Some (behind_word typed kind)
    else None

-- behind a tag
abbrev pub behind_tag : Bool → Within
behind_tag is_struct = if is_struct then BehindTag else Between true

-- behind what follows `struct` or `enum`
abbrev pub head_step : Rule → Bool → ℕ → Option Within
head_step rule is_struct kind =
    if kind == k.Name then Some (behind_tag is_struct)
    else if kind == k.OpenBracket then Some (Attribute is_struct 1)
    else behind_specifier rule true kind

-- an identifier that is no typedef name, or stands behind a type specifier, ends the specifiers
abbrev pub name_step : Bool → Scopes → Terminal → Option Within
name_step typed s t = if typed || not (is_type s.entries t.name) then None else Some (Between true)

abbrev pub between_step : Rule → Bool → Scopes → Terminal → Option Within
between_step rule typed s t = if t.kind == k.Name then name_step typed s t else behind_specifier rule typed t.kind

-- a word that is no type specifier or qualifier ends the list behind `:`, and the enumeration is a type specifier
abbrev pub colon_step : Rule → Scopes → Terminal → Option Within
colon_step rule s t =
    if is_qualifier t.kind then Some BehindColon
    else if t.kind == k.Name then name_step false s t
    else behind_specifier rule true t.kind

-- how many brackets are open behind a token
abbrev pub depth_behind : ℕ → ℕ → ℕ
depth_behind n kind = if is_opening kind then n + 1 else if is_closing kind then n - 1 else n

abbrev pub in_attribute : Bool → ℕ → Within
in_attribute is_struct n = if n == 0 then BehindHead is_struct else Attribute is_struct n

abbrev pub in_group : ℕ → Within
in_group n = if n == 0 then Between true else Group n

-- behind `typeof`
abbrev pub typeof_step : ℕ → Option Within
typeof_step kind = if kind == k.OpenParenthesis then Some (Group 1) else None

-- where what is behind a token among the specifiers of such a nonterminal stands, unless they have ended before it
unfoldable pub specifier_step : Rule → Within → Scopes → Terminal → Option Within
specifier_step rule (Between typed) s t = between_step rule typed s t
specifier_step rule BehindColon s t = colon_step rule s t
specifier_step rule (BehindHead is_struct) s t = head_step rule is_struct t.kind
specifier_step rule BehindTag s t = between_step rule true s t
specifier_step rule BehindTypeof s t = typeof_step t.kind
specifier_step rule (Attribute is_struct n) s t = Some (in_attribute is_struct (depth_behind n t.kind))
specifier_step rule (Group n) s t = Some (in_group (depth_behind n t.kind))

-- what is behind the specifiers
unfoldable pub past_specifiers : Within → Scopes → List Terminal → List Terminal
past_specifiers place s [] = []
past_specifiers place s (t ∷ ts) = goes_on (specifier_step r.Specs place s t) (λ next. past_specifiers next s ts) (t ∷ ts)

-- a token of a declarator, outside brackets
abbrev pub is_in_declarator : ℕ → Bool
is_in_declarator kind = kind == k.Name || kind == k.Star || is_qualifier kind

-- the token ends a declarator of which so many brackets are open
abbrev pub ends_declarator : ℕ → ℕ → Bool
ends_declarator n kind = n == 0 && not (kind == k.OpenParenthesis) && not (kind == k.OpenBracket) && not (is_in_declarator kind)

-- what is behind the declarator, of which n brackets are open
unfoldable pub past_declarator : ℕ → List Terminal → List Terminal
past_declarator n [] = []
past_declarator n (t ∷ ts) = if ends_declarator n t.kind then t ∷ ts else if is_opening t.kind then past_declarator (n + 1) ts else if is_closing t.kind then past_declarator (n - 1) ts else past_declarator n ts

-- behind attributes, specifiers and a declarator stands `{`
abbrev pub sees_function : Scopes → List Terminal → Bool
sees_function s ts = specifies s ts && sees k.OpenBrace (past_declarator 0 (past_specifiers (Between s.reading.typed) s (past_attributes 0 ts)))

-- braces there are those of an enumeration, whose type stands before them; behind the tag of a structure those alone in
-- which an enumerator comes next, which no members begin with
abbrev pub are_enumerators : Within → Bool → Bool
are_enumerators (Between typed) named = true
are_enumerators BehindColon named = true
are_enumerators BehindTag named = named
are_enumerators _ named = false

abbrev pub opens_enumerators : Within → Scopes → Terminal → List Terminal → Bool
opens_enumerators place s t ts = t.kind == k.OpenBrace && are_enumerators place (sees_name s ts)

-- the `:` of an enumeration without a tag, which has braces
abbrev pub awaits_braces : Within → Terminal → Bool
awaits_braces (BehindHead is_struct) t = t.kind == k.Colon
awaits_braces _ t = false

-- how many enumerations wait for their braces behind a token
abbrev pub waiting_behind : ℕ → Bool → Bool → ℕ
waiting_behind waiting takes awaits = if takes then waiting - 1 else if awaits then waiting + 1 else waiting

-- in the list of type specifiers and qualifiers that goes on here, braces come that no enumeration takes: neither one of
-- those that wait for theirs, nor one without a tag
unfoldable pub lacks_enumeration : ℕ → Within → Scopes → List Terminal → Bool
lacks_enumeration waiting place s [] = false
lacks_enumeration waiting place s (t ∷ ts) = if waiting == 0 && opens_enumerators place s t ts then true else goes_on (specifier_step r.Squals place s t) (λ next. lacks_enumeration (waiting_behind waiting (opens_enumerators place s t ts) (awaits_braces place t)) next s ts) false

-- behind the tag of an enumeration: braces come that no other takes
abbrev pub takes_braces : Scopes → List Terminal → Bool
takes_braces s ts = (sees k.OpenBrace ts || sees k.Colon ts) && lacks_enumeration s.reading.waiting (Between true) s ts

abbrev pub has_enumerators : Scopes → List Terminal → Bool
has_enumerators s (t ∷ ts) = not (t.kind == k.Name) || takes_braces s ts
has_enumerators s [] = true

-- braces that are no enumeration's that waits for its own
abbrev pub sees_members : Scopes → List Terminal → Bool
sees_members s (t ∷ ts) = t.kind == k.OpenBrace && (s.reading.waiting == 0 || not (sees_name s ts))
sees_members s [] = false

abbrev pub passes : Test → Scopes → List Terminal → Bool
passes test.HasParameters s ts = has_parameters s.reading.held
passes test.FunctionAhead s ts = sees_function s ts
passes test.SpecifiersAhead s ts = not (sees_assertion ts || sees_attributes_alone ts)
passes test.AttributeAhead s ts = sees_attribute ts
passes test.TypeAhead s ts = sees_type s ts
passes test.BraceAhead s ts = sees_members s ts
passes test.EnumeratorsAhead s ts = has_enumerators s ts
passes test.EnumeratorAhead s ts = sees_enumerator s ts
passes test.ParameterAhead s ts = sees_comma_without k.Ellipsis ts
passes test.ItemAhead s ts = sees_comma_without k.CloseBrace ts
passes test.DeclaratorAhead s ts = names_declarator (AtStart s.reading.typed) s ts
passes test.AbstractAhead s ts = sees_abstract ts
passes test.DeclarationAhead s ts = sees_assertion ts || sees_attributes_alone ts || specifies s ts
passes test.LabelAhead s ts = sees_label (past_attributes 0 ts)
passes test.CastAhead s ts = sees_cast s ts
passes test.OperandAhead s ts = not (sees_cast s ts)
passes test.ParenthesizedExpression s ts = not (sees_type_name s ts)
passes test.ElseAhead s ts = sees_else ts

-- the language of the parser's table
abbrev pub parsed : Language
parsed = record c_language { test = passes; body = table }
