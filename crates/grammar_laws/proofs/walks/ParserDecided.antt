-- The next token, the scopes or a test decides each choice of the parser's table.
use Rattle.std.proofs.Common.{◌≡◌, ℕ, List, [], ◌∷◌, take, Bool, true, false, refl}
use Rattle.std.specs.Prelude.{◌==◌, if◌then◌else◌}
use Rattle.model_grammar.specs.declared.grammar.Rule.{Rule}
use Rattle.model_grammar.specs.declared.grammar.Rule.TheVariants as r
use Rattle.model_grammar.specs.declared.grammar.Terminal.{Terminal}
use Rattle.model_grammar.specs.declared.grammar.Frame.{Frame}
use Rattle.model_grammar.specs.declared.grammar.Reading.{Reading}
use Rattle.model_grammar.specs.GrammarForm.{mem}
use Rattle.grammar_laws.specs.FirstTokens.{first, nullable}
use Rattle.grammar_laws.specs.apparatus.DecidedTable.{table_decided, decided, within, apart, leads}
use Rattle.grammar_laws.specs.apparatus.QuietEnds.{IsQuiet}
use Rattle.grammar_laws.specs.ParserTable.{table}
use Rattle.grammar_laws.specs.ParserSets.{firsts, follows, hollow, tables}
use Rattle.grammar_laws.specs.ParserTests.{parsed}
use Rattle.model_grammar.specs.NameScopes.{Scopes, kind, close, leave, fresh, specified, is_type, bracket_kind}
use Rattle.model_grammar.specs.Terminals as k

pub checked : (rule : Rule) → table_decided tables rule (table rule) ≡ true
unfolding table_decided decided within apart first leads nullable table firsts follows hollow mem
checked r.Unit = refl
checked r.External = refl
checked r.Function = refl
checked r.Declaration = refl
checked r.Sassert = refl
checked r.Attrs = refl
checked r.Attr = refl
checked r.Specs = refl
checked r.Spec = refl
checked r.Storage = refl
checked r.Typespec = refl
checked r.Qual = refl
checked r.Squals = refl
checked r.Struct = refl
checked r.Members = refl
checked r.Member = refl
checked r.Enum = refl
checked r.Enumr = refl
checked r.Declarator = refl
checked r.Direct = refl
checked r.Suffix = refl
checked r.Params = refl
checked r.Param = refl
checked r.Typename = refl
checked r.Abstract = refl
checked r.Adirect = refl
checked r.Initdecl = refl
checked r.Init = refl
checked r.Braces = refl
checked r.Item = refl
checked r.Desig = refl
checked r.Block = refl
checked r.Label = refl
checked r.Statement = refl
checked r.Expr = refl
checked r.Assign = refl
checked r.Cond = refl
checked r.Oror = refl
checked r.Andand = refl
checked r.Bor = refl
checked r.Bxor = refl
checked r.Band = refl
checked r.Equal = refl
checked r.Rel = refl
checked r.Shift = refl
checked r.Sum = refl
checked r.Product = refl
checked r.Cast = refl
checked r.Unary = refl
checked r.Postfix = refl
checked r.Primary = refl
checked r.Literal = refl
checked r.Balanced = refl
checked r.Declared = refl
checked r.ParamSpecs = refl
checked r.Body = refl
checked r.Typeof = refl
checked r.If = refl
checked r.For = refl

-- in a set that has all three kinds of identifiers or none, an identifier may be of each kind
pub either_name : (F : List ℕ) (typed declared typed' declared' : Bool) (name : Bool) (other : ℕ) → mem k.Name F ≡ mem k.TypedefName F → mem k.TypedefName F ≡ mem k.DeclaredName F
    → mem (if name then (if declared then (if typed then k.DeclaredName else k.TypedefName) else k.Name) else other) F ≡ true
    → mem (if name then (if declared' then (if typed' then k.DeclaredName else k.TypedefName) else k.Name) else other) F ≡ true
either_name F t d t' d' false other p q h = h
either_name F true true true true true other p q h = cc
either_name F true true true false true other p q h = cc
either_name F true true false true true other p q h = cc
either_name F true true false false true other p q h = cc
either_name F true false true true true other p q h = cc
either_name F true false true false true other p q h = cc
either_name F true false false true true other p q h = cc
either_name F true false false false true other p q h = cc
either_name F false true true true true other p q h = cc
either_name F false true true false true other p q h = cc
either_name F false true false true true other p q h = cc
either_name F false true false false true other p q h = cc
either_name F false false true true true other p q h = cc
either_name F false false true false true other p q h = cc
either_name F false false false true true other p q h = cc
either_name F false false false false true other p q h = cc

-- a frame is left
left : (F : List ℕ) (g : Reading → Reading) (s : Scopes) (frames : List Frame) (t : Terminal) → mem k.Name F ≡ mem k.TypedefName F
    → mem k.TypedefName F ≡ mem k.DeclaredName F → mem (kind (leave g s frames) t) F ≡ true → mem (kind s t) F ≡ true
left F g s [] t p q h = h
left F g s (frame ∷ frames) t p q h = either_name F (g frame.reading).typed (is_type (take frame.count s.entries) t.name) _ _ (t.kind == k.Name) (bracket_kind s.brackets t.kind) p q h

keeps : (rule : Rule) (s : Scopes) (t : Terminal) → mem (kind (close rule s) t) (follows rule) ≡ true → mem (kind s t) (follows rule) ≡ true
unfolding follows mem
keeps r.Declared s t h =
    either_name (follows r.Declared) s.reading.typed (is_type (close r.Declared s).entries t.name) s.reading.typed (is_type s.entries t.name) (t.kind == k.Name)
    (bracket_kind s.brackets t.kind) refl refl h
keeps r.Struct s t h = left (follows r.Struct) specified s s.frames t refl refl h
keeps r.Enum s t h = left (follows r.Enum) specified s s.frames t refl refl h
keeps r.Typeof s t h = left (follows r.Typeof) specified s s.frames t refl refl h
keeps r.If s t h = left (follows r.If) (λ outer. fresh) s s.frames t refl refl h
keeps r.For s t h = left (follows r.For) (λ outer. fresh) s s.frames t refl refl h
keeps _ s t h = h

still : (rule : Rule) (s : Scopes) → hollow rule ≡ true → close rule s ≡ s
unfolding hollow
still r.Attrs s h = refl
still r.Balanced s h = refl
still _ s h = absurd (cc)

pub quiet : IsQuiet tables parsed
quiet = record { keeps = keeps; still = still }
