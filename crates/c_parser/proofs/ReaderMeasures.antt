-- The measure of the recursion falls: four times the tokens that are left and the weight of the form, and which function.
use Rattle.std.proofs.Common.{◌≡◌, ℕ, ◌+◌, ◌*◌, ◌<◌, ◌≤◌, List, length, refl, arith}
use Rattle.model_grammar.specs.declared.grammar.Rule.{Rule}
use Rattle.model_grammar.specs.declared.grammar.Test.{Test}
use Rattle.model_grammar.specs.declared.grammar.Terminal.{Terminal}
use Rattle.model_tokens.specs.declared.tokens.CTok.{CTok}
use Rattle.model_grammar.specs.SyntaxValues.{Value}
use Rattle.model_grammar.specs.GrammarForm.{Form, rule, ◌then◌, ◌or◌, maybe, many, when, loop}
use Rattle.model_grammar.specs.NameScopes.{Scopes}
use Rattle.grammar_laws.specs.apparatus.LeftWeights.{weight, IsWalkable}
use Rattle.grammar_laws.specs.ParserTable.{table}
use Rattle.grammar_laws.proofs.walks.TotalWalk.{falls_rule, falls_first, falls_second, falls_or, falls_when, falls_maybe}
use Rattle.c_parser.specs.declared.heights.Heights.{Heights}
use Rattle.c_parser.specs.declared.heights.Context.{Context}
use Rattle.c_parser.specs.declared.reader.Reader.{Reader}
use Rattle.c_parser.specs.Reading.{Read}

pub into_rule : (m t : ℕ) (r : Rule) → t ≡ 4 * (m * 256 + weight (rule r)) + 1 → 4 * (m * 256 + weight (table r)) + 2 < t
into_rule m t r h = let a = falls_rule m (m * 256 + weight (rule r)) r (omega arith) in omega (arith, h, a)

pub into_first : (m t : ℕ) (f g : Form) → t ≡ 4 * (m * 256 + weight (f then g)) + 2 → 4 * (m * 256 + weight f) + 2 < t
into_first m t f g h = let a = falls_first m (m * 256 + weight (f then g)) f g (omega arith) in omega (arith, h, a)

pub into_second : {tokens : List CTok} (t : ℕ) (f g : Form) (context : Context) (s : Scopes) (ts : List Terminal) (h : Heights) (mid : Reader) (before later : List Value) → IsWalkable (f then g) → Read tokens f context s ts h mid before later → t ≡ 4 * (length ts * 256 + weight (f then g)) + 2 → 4 * (length mid.rest.now * 256 + weight g) + 2 < t
into_second t f g context s ts h mid before later c p e = let a = falls_second (length ts) (length mid.rest.now) (length ts * 256 + weight (f then g)) f g c p.reads refl refl (omega arith) in omega (arith, e, a)

pub into_or : (m t : ℕ) (f g : Form) → t ≡ 4 * (m * 256 + weight (f or g)) + 2 → (4 * (m * 256 + weight f) + 2 < t) × (4 * (m * 256 + weight g) + 2 < t)
into_or m t f g h = let a = falls_or m (m * 256 + weight (f or g)) f g (omega arith) in let b = a.0 in let d = a.1 in (omega (arith, h, b), omega (arith, h, d))

pub into_when : (m t : ℕ) (p : Test) (f g : Form) → t ≡ 4 * (m * 256 + weight (when p f g)) + 2 → (4 * (m * 256 + weight f) + 2 < t) × (4 * (m * 256 + weight g) + 2 < t)
into_when m t p f g h = let a = falls_when m (m * 256 + weight (when p f g)) p f g (omega arith) in let b = a.0 in let d = a.1 in (omega (arith, h, b), omega (arith, h, d))

pub into_maybe : (m t : ℕ) (f : Form) → t ≡ 4 * (m * 256 + weight (maybe f)) + 2 → 4 * (m * 256 + weight f) + 2 < t
into_maybe m t f h = let a = falls_maybe m (m * 256 + weight (maybe f)) f (omega arith) in omega (arith, h, a)

pub into_turn : (m k t : ℕ) (f : Form) → k ≤ m → t ≡ 4 * (m * 256 + weight (many f)) + 1 → 4 * (k * 256 + weight f) + 3 < t
unfolding weight
into_turn m k t f l h = omega (arith, l, h)

pub into_again : (m k t : ℕ) (p : Test) (f : Form) → k ≤ m → t ≡ 4 * (m * 256 + weight (loop p f)) + 1 → 4 * (k * 256 + weight f) + 3 < t
unfolding weight
into_again m k t p f l h = omega (arith, l, h)

pub below : (a t : ℕ) → t ≡ 4 * a + 2 → 4 * a + 1 < t
below a t h = omega (arith, h)

pub in_turn : (a t : ℕ) → t ≡ 4 * a + 3 → 4 * a + 2 < t
in_turn a t h = omega (arith, h)
