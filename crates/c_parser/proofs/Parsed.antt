-- From what the reading did to what the tokens are.
use Rattle.std.proofs.Common.{◌≡◌, Bool, false, ◌+◌, ◌-◌, ◌≤◌, List, [], ◌∷◌, ◌++◌, length, length-append, refl, ap, subst, ◌∙◌, arith, Err}
use Rattle.model_grammar.specs.declared.grammar.Terminal.{Terminal}
use Rattle.model_grammar.specs.declared.grammar.Tree.{Tree}
use Rattle.model_tokens.specs.declared.tokens.CTok.{CTok}
use Rattle.model_grammar.specs.SyntaxValues.{Value}
use Rattle.model_grammar.specs.GrammarForm.{Form}
use Rattle.model_grammar.specs.NameScopes.{Scopes, start}
use Rattle.grammar_laws.specs.DepthPlace.{Mark, AreShallow, marks, nothing_read}
use Rattle.grammar_laws.specs.apparatus.LeftWeights.{IsWalkable}
use Rattle.grammar_laws.specs.ParserWalk.{Reads}
use Rattle.grammar_laws.specs.WalkedDerivation.{derivation, front_with}
use Rattle.grammar_laws.specs.ParserSets.{tables}
use Rattle.grammar_laws.specs.ParserTests.{parsed}
use Rattle.grammar_laws.specs.UnitSyntax.{unit, IsUnit, IsFault, IsTooDeep, stuck, ended}
use Rattle.grammar_laws.proofs.walks.DecidedDerivations.{sound, begun, read_so_far, no_longer}
use Rattle.grammar_laws.proofs.walks.ParserDecided.{quiet, checked}
use Rattle.grammar_laws.proofs.walks.MarkedWalks.{begun_length}
use Rattle.grammar_laws.proofs.answers.AtMostOneAnswer.{unit_walkable}
use Rattle.grammar_laws.proofs.answers.AtLeastOneAnswer.{whole, fault, too_deep}
use Rattle.c_parser.specs.declared.heights.Heights.{Heights}
use Rattle.c_parser.specs.declared.heights.Context.{Context}
use Rattle.c_parser.specs.declared.reader.Reader.{Reader}
use Rattle.c_parser.specs.declared.reader.Stop.{Stop}
use Rattle.c_parser.specs.declared.unit.UnitRefusal.{UnitRefusal}
use Rattle.c_parser.specs.declared.reader.Stop.TheVariants as stop
use Rattle.c_parser.specs.Counting.{Stands}
use Rattle.syntax_meanings.specs.declared.meanings.Value.{Value as Made}
use Rattle.syntax_meanings.specs.Meanings.{values_seen}
use Rattle.c_parser.specs.TreeValues.{built}
use Rattle.c_parser.specs.Parsing.{IsUnitRead, Refused, UnitRead}
use Rattle.c_parser.proofs.UnitValues.{one_tree}
use Rattle.c_parser.specs.Reading.{Read, Failed, Met, Told}

pub walkable : IsWalkable unit
walkable = unit_walkable

abbrev outermost : Bool → Context
outermost builds = record { parts = 0; chain = false; builds = builds }

abbrev no_heights : Heights
no_heights = record { piece = 0; ended = 0 }

-- the reading began at the start
pub record Began (builds : Bool) (context : Context) (s : Scopes) (h : Heights) : Type 0 where
  pub context_is : context ≡ record { parts = 0; chain = false; builds = builds }
  pub scopes : s ≡ start
  pub heights : h ≡ record { piece = 0; ended = 0 }

stands : (v : Bool) → Stands (outermost v) no_heights 0 nothing_read
stands v = record { parts = omega arith; heights = record { height = omega arith; ended = omega arith }; shallow = tt }

nil_of : (ts : List Terminal) → length ts ≡ 0 → ts ≡ []
nil_of [] h = refl
nil_of (t ∷ ts) h = absurd (omega arith)

from_start : (P : Context → Scopes → Heights → Type 0) (v : Bool) (context : Context) (s : Scopes) (h : Heights) → Began v context s h → P context s h → P (outermost v) start no_heights
from_start P v context s h b p = subst (λ z. P (outermost v) start z) b.heights (subst (λ z. P (outermost v) z h) b.scopes (subst (λ z. P z s h) b.context_is p))

-- all is read: the tree is that of a unit, and what was put is what it stands for, where that is built
pub ok_whole : {tokens : List CTok} (v : Bool) (context : Context) (s : Scopes) (ts : List Terminal) (h : Heights) (new : Reader) (before : List Value) (made : List Made) → Began v context s h → before ≡ [] → Read tokens unit context s ts h new before (values_seen made) → length new.rest.now ≡ 0 → IsUnitRead tokens ts v made
ok_whole {tokens} v context s ts h new before made b e p n =
    let r : Read tokens unit (outermost v) start ts no_heights new before (values_seen made) = from_start (λ c s h. Read tokens unit c s ts h new before (values_seen made)) v context s h b p in
    let o = one_tree r.reads in
    let u = whole r.reads (nil_of _ n) (r.kept 0 nothing_read (stands v)).shallow in
    record {
      tree = o.tree;
      derived = subst (λ z. IsUnit ts z) o.only u;
      put = r.put ∙ (ap (λ z. z ++ built v tokens r.trees) e ∙ ap (built v tokens) o.only);
    }

left_over : (ts : List Terminal) (xs : List Tree) (new : Scopes) (rest : List Terminal) (p : Reads tables parsed unit start ts xs new rest) → AreShallow (marks parsed (derivation tables parsed p)) → (length rest ≡ 0 → ⊥) → IsFault ts (length ts - length rest)
left_over ts xs new [] p a n = absurd (n refl)
left_over ts xs new (t ∷ rest) p a n = fault (ended p) a

pub ok_more : {tokens : List CTok} (v : Bool) (context : Context) (s : Scopes) (ts : List Terminal) (h : Heights) (new : Reader) (before later : List Value) → Began v context s h → Read tokens unit context s ts h new before later → (length new.rest.now ≡ 0 → ⊥) → IsFault ts (length ts - length new.rest.now)
ok_more {tokens} v context s ts h new before later b p n =
    let r : Read tokens unit (outermost v) start ts no_heights new before later = from_start (λ c s h. Read tokens unit c s ts h new before later) v context s h b p in
    left_over ts _ _ _ r.reads (r.kept 0 nothing_read (stands v)).shallow n

pub err_fault : (v : Bool) (context : Context) (s : Scopes) (ts : List Terminal) (h : Heights) (rest : List Terminal) → Began v context s h → Failed unit context s ts h rest → IsFault ts (length ts - length rest)
err_fault v context s ts h rest b p =
    let r : Failed unit (outermost v) start ts no_heights rest = from_start (λ c s h. Failed unit c s ts h rest) v context s h b p in
    fault (stuck r.fails) (r.shallow 0 nothing_read (stands v))

-- how many tokens are read before the one that is met
met_length : (f : Form) (context : Context) (s : Scopes) (ts : List Terminal) (h : Heights) (rest : List Terminal) (p : Met f context s ts h rest) (all before : List Mark) (m : Mark) → all ≡ before ++ m ∷ [] → length all + length p.more ≡ length ts → (length before ≡ length ts - length rest) × (length rest ≤ length ts)
met_length f context s ts h rest p all before m e l =
    let a = ap length e ∙ length-append before (m ∷ []) in
    let b = ap length p.next in
    (omega (arith, a, b, l), omega (arith, a, b, l))

pub err_deep : (v : Bool) (context : Context) (s : Scopes) (ts : List Terminal) (h : Heights) (rest : List Terminal) → Began v context s h → Met unit context s ts h rest → IsTooDeep ts (length ts - length rest)
err_deep v context s ts h rest b p =
    let r : Met unit (outermost v) start ts no_heights rest = from_start (λ c s h. Met unit c s ts h rest) v context s h b p in
    let d = r.deep 0 nothing_read (stands v) in
    let q = begun_length parsed (front_with tables parsed r.meets) false 0 nothing_read in
    subst (λ n. IsTooDeep ts n) (met_length _ _ _ _ _ _ r _ d.before d.mark d.split (omega (arith, q))).0 (too_deep r.meets d)

pub read_le : {tokens : List CTok} (f : Form) (context : Context) (s : Scopes) (ts : List Terminal) (h : Heights) (new : Reader) (before later : List Value) → Read tokens f context s ts h new before later → length new.rest.now ≤ length ts
read_le f context s ts h new before later p = no_longer tables parsed quiet checked (begun tables parsed quiet checked (sound tables parsed quiet checked p.reads))

pub fails_le : (f : Form) (context : Context) (s : Scopes) (ts : List Terminal) (h : Heights) (rest : List Terminal) → Failed f context s ts h rest → length rest ≤ length ts
fails_le f context s ts h rest p = no_longer tables parsed quiet checked (read_so_far tables parsed quiet checked p.fails)

pub deep_le : (v : Bool) (context : Context) (s : Scopes) (ts : List Terminal) (h : Heights) (rest : List Terminal) → Began v context s h → Met unit context s ts h rest → length rest ≤ length ts
deep_le v context s ts h rest b p =
    let r : Met unit (outermost v) start ts no_heights rest = from_start (λ c s h. Met unit c s ts h rest) v context s h b p in
    let d = r.deep 0 nothing_read (stands v) in
    let q = begun_length parsed (front_with tables parsed r.meets) false 0 nothing_read in
    (met_length _ _ _ _ _ _ r _ d.before d.mark d.split (omega (arith, q))).1

pub told_fault : (tokens : List CTok) (f : Form) (context : Context) (old new : Reader) (before later : List Value) (e : Stop) → e ≡ stop.Fault → Told tokens f context old new before later (Err e) → Failed f context old.names old.rest.now old.heights new.rest.now
told_fault tokens f context old new before later e h q = subst (λ x. Told tokens f context old new before later (Err x)) h q

pub told_deep : (tokens : List CTok) (f : Form) (context : Context) (old new : Reader) (before later : List Value) (e : Stop) → e ≡ stop.Deep → Told tokens f context old new before later (Err e) → Met f context old.names old.rest.now old.heights new.rest.now
told_deep tokens f context old new before later e h q = subst (λ x. Told tokens f context old new before later (Err x)) h q

-- why a unit isn't read
pub refused : (tokens : List CTok) (ts : List Terminal) (v : Bool) (why e : UnitRefusal) → e ≡ why → UnitRead tokens ts v (Err e) → Refused ts why
refused tokens ts v why e h q = subst (λ x. UnitRead tokens ts v (Err x)) h q
