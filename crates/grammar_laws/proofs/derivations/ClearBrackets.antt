-- Outside attributes no bracket is held open: which forms leave none.
use Rattle.std.proofs.Common.{◌≡◌, ℕ, Bool, true, false, not, ◌&&◌, ◌||◌, List, [], ◌∷◌, refl, ◌∙◌}
use Rattle.std.specs.Prelude.{◌==◌, if◌then◌else◌}
use Rattle.model_grammar.specs.declared.grammar.Rule.{Rule}
use Rattle.model_grammar.specs.declared.grammar.Rule.TheVariants as r
use Rattle.model_grammar.specs.declared.grammar.Act.{Act}
use Rattle.model_grammar.specs.declared.grammar.Act.TheVariants as act
use Rattle.model_grammar.specs.declared.grammar.Terminal.{Terminal}
use Rattle.model_grammar.specs.declared.grammar.Reading.{Reading}
use Rattle.model_grammar.specs.declared.grammar.Frame.{Frame}
use Rattle.model_grammar.specs.declared.grammar.Tree.{Tree}
use Rattle.model_grammar.specs.GrammarForm.{Form, word, rule, empty, ◌then◌, ◌or◌, maybe, many, when, loop, mem}
use Rattle.model_grammar.specs.NameScopes.{Scopes, kind, after, close, leave, leave_parameters, bracket_kind, is_closing, is_given, own_kind, closes, is_type}
use Rattle.model_grammar.specs.Derivation.{Language, Derives}
use Rattle.model_grammar.specs.Terminals as k
use Rattle.grammar_laws.specs.apparatus.DecidedTable.{within}
use Rattle.grammar_laws.specs.ParserTable.{table}
use Rattle.grammar_laws.specs.ParserTests.{parsed}
use Rattle.grammar_laws.specs.ParserSets.{tables}
use Rattle.grammar_laws.proofs.kinds.KindSets.{and_left, and_right, or_cases, not_true, within_mem, clash}
use mathlib.Core.Logic.{inl, inr}

-- the act holds a bracket open, or lets it go
unfoldable pub holds : Act → Bool
holds act.OpenBalanced = true
holds act.CloseBalanced = true
holds _ = false

unfoldable pub is_balanced : Rule → Bool
is_balanced r.Balanced = true
is_balanced _ = false

abbrev pub closing : List ℕ
closing = k.CloseParenthesis ∷ k.CloseBracket ∷ k.CloseBrace ∷ []

-- behind the form none is held open, where none was before it if b says so
unfoldable pub clear : Form → Bool → Bool
clear (word ks a) b = not (holds a) && (b || within tables ks closing)
clear (rule n) b = b && not (is_balanced n)
clear empty b = b
clear (f then g) b = clear g (clear f b)
clear (f or g) b = clear f b && clear g b
clear (maybe f) b = b && clear f b
clear (many f) b = b && clear f b
clear (when p f g) b = clear f b && clear g b
clear (loop p f) b = b && clear f b

left_keeps : (g : Reading → Reading) (s : Scopes) (frames : List Frame) → (leave g s frames).brackets ≡ s.brackets
left_keeps g s [] = refl
left_keeps g s (frame ∷ frames) = refl

parameters_keep : (s : Scopes) (frames : List Frame) → (leave_parameters s frames).brackets ≡ s.brackets
parameters_keep s [] = refl
parameters_keep s (frame ∷ frames) = refl

pub kept : (a : Act) (s : Scopes) (t : Terminal) → holds a ≡ false → (after a s t).brackets ≡ s.brackets
unfolding holds
kept act.OpenBalanced s t h = absurd (cc)
kept act.CloseBalanced s t h = absurd (cc)
kept act.CloseDeclarator s t h = left_keeps _ s s.frames
kept act.CloseArray s t h = left_keeps _ s s.frames
kept act.CloseParameters s t h = parameters_keep s s.frames
kept act.CloseBlock s t h = left_keeps _ s s.frames
kept _ s t h = refl

pub closed_keeps : (n : Rule) (s : Scopes) → (close n s).brackets ≡ s.brackets
closed_keeps r.Struct s = left_keeps _ s s.frames
closed_keeps r.Enum s = left_keeps _ s s.frames
closed_keeps r.Typeof s = left_keeps _ s s.frames
closed_keeps r.If s = left_keeps _ s s.frames
closed_keeps r.For s = left_keeps _ s s.frames
closed_keeps _ s = refl

-- a closing bracket is itself only where none is held open
is_one : (j : ℕ) → mem j closing ≡ true → is_closing j ≡ true
unfolding mem
is_one j h = three (j == k.CloseParenthesis) (j == k.CloseBracket) (j == k.CloseBrace) h
  where
    three : (x y z : Bool) → (x || (y || (z || false))) ≡ true → ((x || y) || z) ≡ true
    three true y z h = refl
    three false true z h = refl
    three false false true h = refl
    three false false false h = h

given : (c : Bool) (j : ℕ) → mem (if c then k.Stray else j) closing ≡ true → mem j closing ≡ true
unfolding mem
given true j h = absurd (cc)
given false j h = h

unheld : (brackets : List ℕ) (i : ℕ) → mem (bracket_kind brackets i) closing ≡ true → brackets ≡ []
unfolding mem
unheld [] i h = refl
unheld (last ∷ brackets) i h = absurd (never (is_closing i) (closes last i) (own_kind i) (λ e. is_one i (given (is_given i) i e)) h)
  where
    never : (c d : Bool) (j : ℕ) → (mem j closing ≡ true → c ≡ true) → mem (if c then (if d then k.Closing else k.Stray) else j) closing ≡ true → ⊥
    never true true j n h = cc
    never true false j n h = cc
    never false d j n h = clash false (n h) refl

no_name : (b x y : Bool) (j : ℕ) → mem (if b then (if x then (if y then k.DeclaredName else k.TypedefName) else k.Name) else j) closing ≡ true → mem j closing ≡ true
unfolding mem
no_name true true true j h = absurd (cc)
no_name true true false j h = absurd (cc)
no_name true false y j h = absurd (cc)
no_name false x y j h = h

pub at_closing : (s : Scopes) (t : Terminal) → mem (kind s t) closing ≡ true → s.brackets ≡ []
at_closing s t h = unheld s.brackets t.kind (no_name (t.kind == k.Name) (is_type s.entries t.name) s.reading.typed (bracket_kind s.brackets t.kind) h)

-- none is held open behind a nonterminal but the balanced tokens, where none was before it
parsed_rule : (n : Rule) → is_balanced n ≡ false → clear (table n) true ≡ true
unfolding clear holds is_balanced within mem table
parsed_rule r.Balanced h = absurd (cc)
parsed_rule r.Unit h = refl
parsed_rule r.External h = refl
parsed_rule r.Function h = refl
parsed_rule r.Declaration h = refl
parsed_rule r.Sassert h = refl
parsed_rule r.Attrs h = refl
parsed_rule r.Attr h = refl
parsed_rule r.Specs h = refl
parsed_rule r.Spec h = refl
parsed_rule r.Storage h = refl
parsed_rule r.Typespec h = refl
parsed_rule r.Qual h = refl
parsed_rule r.Squals h = refl
parsed_rule r.Struct h = refl
parsed_rule r.Members h = refl
parsed_rule r.Member h = refl
parsed_rule r.Enum h = refl
parsed_rule r.Enumr h = refl
parsed_rule r.Declarator h = refl
parsed_rule r.Direct h = refl
parsed_rule r.Suffix h = refl
parsed_rule r.Params h = refl
parsed_rule r.Param h = refl
parsed_rule r.Typename h = refl
parsed_rule r.Abstract h = refl
parsed_rule r.Adirect h = refl
parsed_rule r.Initdecl h = refl
parsed_rule r.Init h = refl
parsed_rule r.Braces h = refl
parsed_rule r.Item h = refl
parsed_rule r.Desig h = refl
parsed_rule r.Block h = refl
parsed_rule r.Label h = refl
parsed_rule r.Statement h = refl
parsed_rule r.Expr h = refl
parsed_rule r.Assign h = refl
parsed_rule r.Cond h = refl
parsed_rule r.Oror h = refl
parsed_rule r.Andand h = refl
parsed_rule r.Bor h = refl
parsed_rule r.Bxor h = refl
parsed_rule r.Band h = refl
parsed_rule r.Equal h = refl
parsed_rule r.Rel h = refl
parsed_rule r.Shift h = refl
parsed_rule r.Sum h = refl
parsed_rule r.Product h = refl
parsed_rule r.Cast h = refl
parsed_rule r.Unary h = refl
parsed_rule r.Postfix h = refl
parsed_rule r.Primary h = refl
parsed_rule r.Literal h = refl
parsed_rule r.Declared h = refl
parsed_rule r.ParamSpecs h = refl
parsed_rule r.Body h = refl
parsed_rule r.Typeof h = refl
parsed_rule r.If h = refl
parsed_rule r.For h = refl

-- the language of a table
abbrev pub over : (Rule → Form) → Language
over body = record parsed { body = body }

module _ (body : Rule → Form) (ok : (n : Rule) → is_balanced n ≡ false → clear (body n) true ≡ true) where
  pub stays : {f : Form} {s new : Scopes} {ts rest : List Terminal} {xs : List Tree} → Derives (over body) f s ts xs new rest → (b : Bool)
      → (b ≡ true → s.brackets ≡ []) → clear f b ≡ true → new.brackets ≡ []
  unfolding clear
  stays {f = word ks a} (Derives.a_word {s = s} {t = t} e) b c h =
      let n = not_true _ (and_left _ (b || within tables ks closing) h) in
      kept a s t n ∙ elim (or_cases b (within tables ks closing) (and_right (not (holds a)) _ h)) [
        | inl k ↦ c k
        | inr k ↦ at_closing s t (within_mem tables (kind s t) ks closing k e)
      ]
  stays {f = rule n} (Derives.a_rule {new = mid} d) b c h =
      closed_keeps n mid ∙ stays d true (λ e. c (and_left b (not (is_balanced n)) h)) (ok n (not_true _ (and_right b _ h)))
  stays Derives.nothing b c h = c h
  stays {f = f then g} (Derives.both d e _) b c h = stays e (clear f b) (λ k. stays d b c k) h
  stays {f = f or g} (Derives.left d) b c h = stays d b c (and_left (clear f b) (clear g b) h)
  stays {f = f or g} (Derives.right d) b c h = stays d b c (and_right (clear f b) (clear g b) h)
  stays {f = maybe f} Derives.skip b c h = c (and_left b (clear f b) h)
  stays {f = maybe f} (Derives.take d) b c h = stays d b c (and_right b (clear f b) h)
  stays {f = many f} Derives.stop b c h = c (and_left b (clear f b) h)
  stays {f = many f} (Derives.turn d e _) b c h = stays e b (λ k. stays d b c (and_right b (clear f b) h)) h
  stays {f = when p f g} (Derives.chosen _ d) b c h = stays d b c (and_left (clear f b) (clear g b) h)
  stays {f = when p f g} (Derives.other _ d) b c h = stays d b c (and_right (clear f b) (clear g b) h)
  stays {f = loop p f} (Derives.done _) b c h = c (and_left b (clear f b) h)
  stays {f = loop p f} (Derives.again _ d e _) b c h = stays e b (λ k. stays d b c (and_right b (clear f b) h)) h

-- by the parser's table
pub parsed_clear : {f : Form} {s new : Scopes} {ts rest : List Terminal} {xs : List Tree} → Derives parsed f s ts xs new rest → (b : Bool)
    → (b ≡ true → s.brackets ≡ []) → clear f b ≡ true → new.brackets ≡ []
parsed_clear d b c h = stays table parsed_rule d b c h
