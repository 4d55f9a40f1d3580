-- What the reading of a form shows, over the tokens of a list.
use Rattle.std.specs.Prelude.{ℕ, ◌≡◌, if◌then◌else◌, false, List, ◌∷◌, ◌++◌, Result, Ok, Err}
use Rattle.c_parser.specs.declared.heights.Heights.{Heights}
use Rattle.c_parser.specs.declared.heights.Context.{Context}
use Rattle.c_parser.specs.declared.reader.Reader.{Reader}
use Rattle.c_parser.specs.declared.reader.Stop.{Stop}
use Rattle.c_parser.specs.declared.reader.Stop.TheVariants as stop
use Rattle.model_grammar.specs.declared.grammar.Terminal.{Terminal}
use Rattle.model_grammar.specs.declared.grammar.Tree.{Tree}
use Rattle.model_tokens.specs.declared.tokens.CTok.{CTok}
use Rattle.model_grammar.specs.GrammarForm.{Form}
use Rattle.model_grammar.specs.NameScopes.{Scopes}
use Rattle.grammar_laws.specs.DepthPlace.{Piece, AreShallow, EndsDeep, nothing_read, joined, chained, grown, grown_so_far}
use Rattle.grammar_laws.specs.ParserWalk.{Reads, Fails, Meets}
use Rattle.grammar_laws.specs.WalkedDerivation.{derivation, front, front_with}
use Rattle.grammar_laws.specs.ParserSets.{tables}
use Rattle.grammar_laws.specs.ParserTests.{parsed}
use Rattle.model_grammar.specs.SyntaxValues.{Value}
use Rattle.c_parser.specs.Counting.{Stands}
use Rattle.c_parser.specs.TreeValues.{built}

-- the form was read: what its trees stand for, where it is built, is put behind what was there, and the heights are those
-- of the piece with it
pub record Read (tokens : List CTok) (f : Form) (context : Context) (s : Scopes) (ts : List Terminal) (h : Heights) (new : Reader) (before later : List Value) : Type 0 where
  pub trees : List Tree
  pub put : later ≡ before ++ built context.builds tokens trees
  pub reads : Reads tables parsed f s ts trees new.names new.rest.now
  pub kept : (n : ℕ) (p : Piece) → Stands context h n p → Stands context new.heights n (grown parsed context.chain n (derivation tables parsed reads) p)

-- it fails at the next token, and none before it is met in too many parts
pub record Failed (f : Form) (context : Context) (s : Scopes) (ts : List Terminal) (h : Heights) (rest : List Terminal) : Type 0 where
  pub fails : Fails tables parsed f s ts rest
  pub shallow : (n : ℕ) (p : Piece) → Stands context h n p → AreShallow (grown_so_far parsed context.chain n (front tables parsed fails) p).marks

-- the next token is read in it, and is the first that is met in too many parts
pub record Met (f : Form) (context : Context) (s : Scopes) (ts : List Terminal) (h : Heights) (rest : List Terminal) : Type 0 where
  pub token : Terminal
  pub more : List Terminal
  pub next : rest ≡ token ∷ more
  pub meets : Meets tables parsed f s ts more
  pub deep : (n : ℕ) (p : Piece) → Stands context h n p → EndsDeep (grown_so_far parsed context.chain n (front_with tables parsed meets) p).marks

-- what each answer tells
abbrev pub Told : List CTok → Form → Context → Reader → Reader → List Value → List Value → Result (Unit {0}) Stop → Type 0
Told tokens f context old new before later (Ok _) = Read tokens f context old.names old.rest.now old.heights new before later
Told tokens f context old new before later (Err stop.Fault) = Failed f context old.names old.rest.now old.heights new.rest.now
Told tokens f context old new before later (Err stop.Deep) = Met f context old.names old.rest.now old.heights new.rest.now
Told tokens f context old new before later (Err stop.Memory) = Unit {0}

-- likewise of one more turn of a form, which makes a chain higher
pub record ReadTurn (tokens : List CTok) (f : Form) (context : Context) (old new : Reader) (before later : List Value) : Type 0 where
  pub trees : List Tree
  pub put : later ≡ before ++ built context.builds tokens trees
  pub reads : Reads tables parsed f old.names old.rest.now trees new.names new.rest.now
  pub kept : (n : ℕ) (p : Piece) → Stands context old.heights n p → Stands context new.heights n (if context.chain then chained p (grown parsed false n (derivation tables parsed reads) nothing_read) else grown parsed false n (derivation tables parsed reads) p)

pub record FailedTurn (f : Form) (context : Context) (old new : Reader) : Type 0 where
  pub fails : Fails tables parsed f old.names old.rest.now new.rest.now
  pub shallow : (n : ℕ) (p : Piece) → Stands context old.heights n p → AreShallow (if context.chain then joined p (grown_so_far parsed false n (front tables parsed fails) nothing_read) else grown_so_far parsed false n (front tables parsed fails) p).marks

pub record MetTurn (f : Form) (context : Context) (old new : Reader) : Type 0 where
  pub token : Terminal
  pub more : List Terminal
  pub next : new.rest.now ≡ token ∷ more
  pub meets : Meets tables parsed f old.names old.rest.now more
  pub deep : (n : ℕ) (p : Piece) → Stands context old.heights n p → EndsDeep (if context.chain then joined p (grown_so_far parsed false n (front_with tables parsed meets) nothing_read) else grown_so_far parsed false n (front_with tables parsed meets) p).marks

abbrev pub ToldTurn : List CTok → Form → Context → Reader → Reader → List Value → List Value → Result (Unit {0}) Stop → Type 0
ToldTurn tokens f context old new before later (Ok _) = ReadTurn tokens f context old new before later
ToldTurn tokens f context old new before later (Err stop.Fault) = FailedTurn f context old new
ToldTurn tokens f context old new before later (Err stop.Deep) = MetTurn f context old new
ToldTurn tokens f context old new before later (Err stop.Memory) = Unit {0}
