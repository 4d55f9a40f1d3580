-- The grammar is the parser's table, but for the tests that the grammar doesn't have: in their places either
-- alternative may be taken.
use Rattle.std.proofs.Common.{◌≡◌, ℕ, Bool, true, false, ◌||◌, List, ◌++◌, refl, sym, append-nil}
use Rattle.model_grammar.specs.declared.grammar.Rule.{Rule}
use Rattle.model_grammar.specs.declared.grammar.Rule.TheVariants as r
use Rattle.model_grammar.specs.declared.grammar.Test.{Test}
use Rattle.model_grammar.specs.declared.grammar.Test.TheVariants as test
use Rattle.model_grammar.specs.GrammarForm.{Form, word, rule, empty, ◌then◌, ◌or◌, maybe, many, when, loop}
use Rattle.grammar_laws.specs.FirstTokens.{nullable, first}
use Rattle.grammar_laws.specs.apparatus.DecidedTable.{leads}
use Rattle.grammar_laws.specs.apparatus.Untested.{either}
use Rattle.model_grammar.specs.Grammar.{grammar}
use Rattle.grammar_laws.specs.ParserTable.{table}
use Rattle.grammar_laws.specs.ParserSets.{tables}

-- the tests that stay
unfoldable pub stays : Test → Bool
stays test.HasParameters = true
stays test.ElseAhead = true
stays test.TypeAhead = true
stays _ = false

unfoldable pub opens_when : Bool → Test → Form → Form → Form
opens_when true p f g = when p f g
opens_when false p f g = either f g

unfoldable pub opens_loop : Bool → Test → Form → Form
opens_loop true p f = loop p f
opens_loop false p f = many f

-- the form with the tests that stay
unfoldable pub opens : Form → Form
opens (word ks a) = word ks a
opens (rule n) = rule n
opens empty = empty
opens (f then g) = opens f then opens g
opens (f or g) = opens f or opens g
opens (maybe f) = maybe (opens f)
opens (many f) = many (opens f)
opens (when p f g) = opens_when (stays p) p (opens f) (opens g)
opens (loop p f) = opens_loop (stays p) p (opens f)

pub open_form : (n : Rule) → opens (table n) ≡ grammar n
unfolding opens opens_when opens_loop either stays table grammar
open_form r.Unit = refl
open_form r.External = refl
open_form r.Function = refl
open_form r.Declaration = refl
open_form r.Sassert = refl
open_form r.Attrs = refl
open_form r.Attr = refl
open_form r.Specs = refl
open_form r.Spec = refl
open_form r.Storage = refl
open_form r.Typespec = refl
open_form r.Qual = refl
open_form r.Squals = refl
open_form r.Struct = refl
open_form r.Members = refl
open_form r.Member = refl
open_form r.Enum = refl
open_form r.Enumr = refl
open_form r.Declarator = refl
open_form r.Direct = refl
open_form r.Suffix = refl
open_form r.Params = refl
open_form r.Param = refl
open_form r.Typename = refl
open_form r.Abstract = refl
open_form r.Adirect = refl
open_form r.Initdecl = refl
open_form r.Init = refl
open_form r.Braces = refl
open_form r.Item = refl
open_form r.Desig = refl
open_form r.Block = refl
open_form r.Label = refl
open_form r.Statement = refl
open_form r.Expr = refl
open_form r.Assign = refl
open_form r.Cond = refl
open_form r.Oror = refl
open_form r.Andand = refl
open_form r.Bor = refl
open_form r.Bxor = refl
open_form r.Band = refl
open_form r.Equal = refl
open_form r.Rel = refl
open_form r.Shift = refl
open_form r.Sum = refl
open_form r.Product = refl
open_form r.Cast = refl
open_form r.Unary = refl
open_form r.Postfix = refl
open_form r.Primary = refl
open_form r.Literal = refl
open_form r.Balanced = refl
open_form r.Declared = refl
open_form r.ParamSpecs = refl
open_form r.Body = refl
open_form r.Typeof = refl
open_form r.If = refl
open_form r.For = refl

-- what a choice without its test is
pub data IsEither : Form → Form → Type 0 where
  part : {f g : Form} → g ≡ empty → either f g ≡ maybe f → IsEither f g
  choice : {f g : Form} → either f g ≡ (f or g) → IsEither f g

pub is_either : (f g : Form) → IsEither f g
unfolding either
is_either f (word ks a) = IsEither.choice refl
is_either f (rule n) = IsEither.choice refl
is_either f empty = IsEither.part refl refl
is_either f (g then h) = IsEither.choice refl
is_either f (g or h) = IsEither.choice refl
is_either f (maybe g) = IsEither.choice refl
is_either f (many g) = IsEither.choice refl
is_either f (when p g h) = IsEither.choice refl
is_either f (loop p g) = IsEither.choice refl

or_true : (a : Bool) → (a || true) ≡ true
or_true true = refl
or_true false = refl

-- the same tokens begin them and may follow
first_either : (f g : Form) → IsEither f g → first tables (either f g) ≡ first tables f ++ first tables g
unfolding first
first_either f g (IsEither.part q e) = rw (e, q) (sym (append-nil (first tables f)))
first_either f g (IsEither.choice e) = rw e refl

nullable_either : (f g : Form) → IsEither f g → nullable tables (either f g) ≡ (nullable tables f || nullable tables g)
unfolding nullable
nullable_either f g (IsEither.part q e) = rw (e, q) (sym (or_true (nullable tables f)))
nullable_either f g (IsEither.choice e) = rw e refl

first_when : (b : Bool) (p : Test) (f g : Form) → first tables (opens_when b p f g) ≡ first tables f ++ first tables g
unfolding first opens_when
first_when true p f g = refl
first_when false p f g = first_either f g (is_either f g)

nullable_when : (b : Bool) (p : Test) (f g : Form) → nullable tables (opens_when b p f g) ≡ (nullable tables f || nullable tables g)
unfolding nullable opens_when
nullable_when true p f g = refl
nullable_when false p f g = nullable_either f g (is_either f g)

first_loop : (b : Bool) (p : Test) (f : Form) → first tables (opens_loop b p f) ≡ first tables f
unfolding first opens_loop
first_loop true p f = refl
first_loop false p f = refl

nullable_loop : (b : Bool) (p : Test) (f : Form) → nullable tables (opens_loop b p f) ≡ true
unfolding nullable opens_loop
nullable_loop true p f = refl
nullable_loop false p f = refl

pub same_nullable : (f : Form) → nullable tables (opens f) ≡ nullable tables f
unfolding opens nullable
same_nullable (word ks a) = refl
same_nullable (rule n) = refl
same_nullable empty = refl
same_nullable (f then g) = rw (same_nullable f, same_nullable g) refl
same_nullable (f or g) = rw (same_nullable f, same_nullable g) refl
same_nullable (maybe f) = refl
same_nullable (many f) = refl
same_nullable (when p f g) = rw (nullable_when (stays p) p (opens f) (opens g), same_nullable f, same_nullable g) refl
same_nullable (loop p f) = nullable_loop (stays p) p (opens f)

pub same_first : (f : Form) → first tables (opens f) ≡ first tables f
unfolding opens first
same_first (word ks a) = refl
same_first (rule n) = refl
same_first empty = refl
same_first (f then g) = rw (same_first f, same_first g, same_nullable f) refl
same_first (f or g) = rw (same_first f, same_first g) refl
same_first (maybe f) = same_first f
same_first (many f) = same_first f
same_first (when p f g) = rw (first_when (stays p) p (opens f) (opens g), same_first f, same_first g) refl
same_first (loop p f) = rw (first_loop (stays p) p (opens f)) (same_first f)

pub same_leads : (f : Form) (F : List ℕ) → leads tables (opens f) F ≡ leads tables f F
unfolding leads
same_leads f F = rw (same_first f, same_nullable f) refl
