-- What the symbols of a production stand for: a token, or the form that a nonterminal makes; with the tokens it spans.
use Rattle.std.specs.Prelude.{ℕ, List, [], ◌∷◌, Option, Some, None, slice_get}
use Rattle.cake_base.specs.declared.places.Place.{Place}
use Rattle.model_grammar.specs.declared.grammar.Terminal.{Terminal}
use Rattle.model_types.specs.declared.marks.Span.{Span}
use Rattle.model_grammar.specs.declared.syntax.Name.{Name}
use Rattle.model_grammar.specs.declared.syntax.Qualifier.{Qualifier}
use Rattle.model_tokens.specs.declared.tokens.CKind.{CKind}
use Rattle.model_tokens.specs.declared.tokens.CKind.TheVariants as content_of
use Rattle.model_tokens.specs.declared.tokens.CTok.{CTok}
use Rattle.model_grammar.specs.SyntaxForms as syntax
use Rattle.model_grammar.specs.TerminalsOf.{kind_number}

-- attributes stand for nothing; a token has the number of its kind, and what it holds
pub data Meaning : Type 0 where
  nothing : Meaning
  a_token : (kind : ℕ) (content : CKind) (place : Place) → Meaning
  an_expr : syntax.Expr → Meaning
  a_type_name : syntax.TypeName → Meaning
  a_spec : syntax.Spec → Meaning
  a_qualifier : Qualifier → Meaning
  some_specs : syntax.Specs → Meaning
  some_members : syntax.MemberDeclarations → Meaning
  a_member : syntax.MemberDeclaration → Meaning
  an_enumerator : syntax.Enumerator → Meaning
  a_declarator : syntax.Declarator → Meaning
  a_suffix : syntax.Suffix → Meaning
  -- the parameters of a list, as the suffix of a function
  some_parameters : (Place → syntax.Suffix) → Meaning
  a_parameter : syntax.Parameter → Meaning
  an_initializer : syntax.Initializer → Meaning
  some_braces : syntax.Braces → Meaning
  an_item : syntax.InitializerItem → Meaning
  a_designator : syntax.Designator → Meaning
  a_declaration : syntax.Declaration → Meaning
  an_init_declarator : syntax.InitDeclarator → Meaning
  an_assertion : syntax.Assertion → Meaning
  a_statement : syntax.Statement → Meaning
  a_block_item : syntax.BlockItem → Meaning
  a_block : syntax.Block → Meaning
  an_external : syntax.External → Meaning
  a_unit : List syntax.External → Meaning

-- what a symbol stands for, with its first and its last token, where it has tokens
pub record Value : Type 0 where
  pub meaning : Meaning
  pub tokens : Option Span

abbrev pub nowhere : Place
nowhere = record { file = 0; line = 0; column = 0; order = 0 }

-- the token of a list at a rank
abbrev pub token_value : Option CTok → Value
token_value None = record { meaning = nothing; tokens = None }
token_value (Some t) = record { meaning = a_token (kind_number t.kind) t.kind t.place; tokens = Some (record { first = t.place; last = t.place }) }

abbrev pub leaf_value : List CTok → Terminal → Value
leaf_value tokens t = token_value (slice_get tokens t.rank)

-- one span and then another
abbrev pub joined : Option Span → Option Span → Option Span
joined None later = later
joined (Some span) None = Some span
joined (Some span) (Some later) = Some (record { first = span.first; last = later.last })

-- the tokens of several symbols
abbrev pub spanned : List Value → Option Span
spanned [] = None
spanned (value ∷ values) = joined value.tokens (spanned values)

abbrev pub span_or : Option Span → Span
span_or None = record { first = nowhere; last = nowhere }
span_or (Some span) = span

-- the symbols without attributes
abbrev pub kept : Meaning → Value → List Value → List Value
kept nothing value values = values
kept _ value values = value ∷ values

abbrev pub without_attributes : List Value → List Value
without_attributes [] = []
without_attributes (value ∷ values) = kept value.meaning value (without_attributes values)

abbrev pub meanings : List Value → List Meaning
meanings [] = []
meanings (value ∷ values) = value.meaning ∷ meanings values

-- the name that a token is
abbrev pub spelled : CKind → Place → Name
spelled (content_of.Name text) place = record { text = text; place = place }
spelled _ place = record { text = []; place = place }
