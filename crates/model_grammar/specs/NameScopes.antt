-- The scopes in which the grammar tells typedef names from other identifiers, and what each token does to them
-- (ISO/IEC 9899:2024, 6.2.1, 6.7.9). A name enters its scope at the end of its declarator. An enumerator changes the
-- class of no identifier, since it is no typedef name before it and none behind it, and enters none.
use Rattle.std.specs.Prelude.{ℕ, ◌+◌, Bool, true, false, not, ◌&&◌, ◌||◌, ◌==◌, if◌then◌else◌, List, [], ◌∷◌, ◌++◌, length, take, drop, fold, Option, Some, None}
use Rattle.model_grammar.specs.declared.grammar.Act.{Act}
use Rattle.model_grammar.specs.declared.grammar.Act.TheVariants as act
use Rattle.model_grammar.specs.declared.grammar.Rule.{Rule}
use Rattle.model_grammar.specs.declared.grammar.Rule.TheVariants as r
use Rattle.model_grammar.specs.declared.grammar.Terminal.{Terminal}
use Rattle.model_grammar.specs.declared.grammar.Entry.{Entry}
use Rattle.model_grammar.specs.declared.grammar.Reading.{Reading}
use Rattle.model_grammar.specs.declared.grammar.Frame.{Frame}
use Rattle.model_grammar.specs.Terminals as k

-- the names of the open scopes, the latest last; the declaration that is being read; the frames, the innermost first;
-- the brackets that are open inside an attribute, the innermost first
pub record Scopes : Type 0 where
  pub entries : List Entry
  pub reading : Reading
  pub frames : List Frame
  pub brackets : List ℕ

abbrev pub fresh : Reading
fresh = record { is_typedef = false; name = 0; typed = false; parameter = false; near = false; pointer = false; held = None; waiting = 0 }

abbrev pub start : Scopes
start = record { entries = []; reading = fresh; frames = []; brackets = [] }

-- of the declarations of a name in the open scopes the latest decides, which is in the innermost scope
abbrev pub is_type : List Entry → ℕ → Bool
is_type entries name = fold (λ found e. if e.name == name then e.is_type else found) false entries

abbrev pub is_closing : ℕ → Bool
is_closing kind = kind == k.CloseParenthesis || kind == k.CloseBracket || kind == k.CloseBrace

abbrev pub is_opening : ℕ → Bool
is_opening kind = kind == k.OpenParenthesis || kind == k.OpenBracket || kind == k.OpenBrace

-- the bracket that closes this one
abbrev pub closes : ℕ → ℕ → Bool
closes opening kind = if opening == k.OpenParenthesis then kind == k.CloseParenthesis else if opening == k.OpenBracket then kind == k.CloseBracket else kind == k.CloseBrace

-- the kinds that the scopes give, which no token has of itself
abbrev pub is_given : ℕ → Bool
is_given kind = kind == k.TypedefName || kind == k.DeclaredName || kind == k.Closing

abbrev pub own_kind : ℕ → ℕ
own_kind kind = if is_given kind then k.Stray else kind

-- the kind of a bracket or another token that is no identifier
abbrev pub bracket_kind : List ℕ → ℕ → ℕ
bracket_kind [] kind = own_kind kind
bracket_kind (last ∷ _) kind = if is_closing kind then (if closes last kind then k.Closing else k.Stray) else own_kind kind

-- the kind of a token
abbrev pub kind : Scopes → Terminal → ℕ
kind s t = if t.kind == k.Name then (if is_type s.entries t.name then (if s.reading.typed then k.DeclaredName else k.TypedefName) else k.Name) else bracket_kind s.brackets t.kind

-- a token that is no part of specifiers or of a declarator
abbrev pub passed : Reading → Reading
passed reading = record fresh { is_typedef = reading.is_typedef; name = reading.name; waiting = reading.waiting }

-- behind a type specifier
abbrev pub specified : Reading → Reading
specified reading = record reading { typed = true; near = true; held = None }

abbrev pub with_frame : Scopes → Reading → Scopes
with_frame s reading = record s { reading = reading; frames = record { count = length s.entries; reading = s.reading } ∷ s.frames }

-- leaves the innermost frame, where the declaration goes on as told of the one that it stood in
abbrev pub leave : (Reading → Reading) → Scopes → List Frame → Scopes
leave goes_on s [] = s
leave goes_on s (frame ∷ frames) = record s { entries = take frame.count s.entries; reading = goes_on frame.reading; frames = frames }

-- leaves a list of parameters, which the declared function has where the list stands next to the name
abbrev pub leave_parameters : Scopes → List Frame → Scopes
leave_parameters s [] = s
leave_parameters s (frame ∷ frames) = record s { entries = take frame.count s.entries; reading = record frame.reading { near = false; held = if frame.reading.near then Some (drop frame.count s.entries) else frame.reading.held }; frames = frames }

-- the parameters that the block of a function has in its scope
abbrev pub parameters : Option (List Entry) → List Entry
parameters (Some entries) = entries
parameters None = []

abbrev pub without_last : List ℕ → List ℕ
without_last [] = []
without_last (last ∷ brackets) = brackets

-- what the scopes are behind a token
abbrev pub after : Act → Scopes → Terminal → Scopes
after act.Pass s t = record s { reading = passed s.reading }
after act.Keep s t = s
after act.Specifier s t = record s { reading = record s.reading { near = true; held = None } }
after act.Typedef s t = record s { reading = record s.reading { is_typedef = true; near = true; held = None } }
after act.TypeSpecifier s t = record s { reading = specified s.reading }
after act.OpenSpecifier s t = with_frame s (record fresh { waiting = s.reading.waiting })
after act.Enclose s t = record s { reading = fresh }
after act.AwaitBraces s t = record s { reading = record fresh { waiting = s.reading.waiting + 1 } }
after act.Pointer s t = record s { reading = record s.reading { typed = true; near = true; pointer = true } }
after act.OpenDeclarator s t = with_frame s (record fresh { typed = not s.reading.parameter; parameter = s.reading.parameter; near = true })
after act.CloseDeclarator s t = leave (λ outer. record outer { name = s.reading.name; near = s.reading.near && not s.reading.pointer; held = s.reading.held }) s s.frames
after act.DeclaratorName s t = record s { reading = record s.reading { name = t.name; typed = false; parameter = false; near = true; held = None } }
after act.OpenArray s t = with_frame s fresh
after act.CloseArray s t = leave (λ outer. record outer { near = false }) s s.frames
after act.OpenParameters s t = with_frame s fresh
after act.CloseParameters s t = leave_parameters s s.frames
after act.NextParameter s t = record s { reading = fresh }
after act.NextDeclarator s t = record s { reading = record fresh { is_typedef = s.reading.is_typedef; typed = true } }
after act.EndDeclaration s t = record s { reading = fresh }
after act.OpenScope s t = with_frame s fresh
after act.OpenBlock s t = record (with_frame s fresh) { entries = s.entries ++ parameters s.reading.held }
after act.CloseBlock s t = leave passed s s.frames
after act.OpenBalanced s t = record s { brackets = t.kind ∷ s.brackets }
after act.CloseBalanced s t = record s { brackets = without_last s.brackets }

-- what the scopes are at the end of a nonterminal: a declarator's name enters, the scope of `if` or `for` ends, and behind
-- a specifier its declaration goes on
abbrev pub close : Rule → Scopes → Scopes
close r.Declared s = record s { entries = s.entries ++ record { name = s.reading.name; is_type = s.reading.is_typedef } ∷ [] }
close r.ParamSpecs s = record s { reading = record s.reading { parameter = true } }
close r.Body s = record s { reading = record s.reading { is_typedef = false } }
close r.Struct s = leave specified s s.frames
close r.Enum s = leave specified s s.frames
close r.Typeof s = leave specified s s.frames
close r.If s = leave (λ outer. fresh) s s.frames
close r.For s = leave (λ outer. fresh) s s.frames
close _ s = s
