-- What the grammar derives leaves the frames as they were, no bracket held open, and the names but for those declared.
use Rattle.std.proofs.Common.{◌≡◌, Bool, true, false, List, [], ◌∷◌, ◌++◌, length, take, refl, sym, ap, subst, ◌∙◌}
use Rattle.model_grammar.specs.declared.grammar.Rule.{Rule}
use Rattle.model_grammar.specs.declared.grammar.Rule.TheVariants as r
use Rattle.model_grammar.specs.declared.grammar.Act.TheVariants as act
use Rattle.model_grammar.specs.declared.grammar.Test.TheVariants as test
use Rattle.model_grammar.specs.declared.grammar.Terminal.{Terminal}
use Rattle.model_grammar.specs.declared.grammar.Frame.{Frame}
use Rattle.model_grammar.specs.declared.grammar.Entry.{Entry}
use Rattle.model_grammar.specs.declared.grammar.Tree.{Tree}
use Rattle.model_grammar.specs.GrammarForm.{Form, rule, ◌or◌, many, loop, mem}
use Rattle.model_grammar.specs.Grammar.{grammar}
use Rattle.model_grammar.specs.NameScopes.{Scopes, after, leave, specified}
use Rattle.model_grammar.specs.Derivation.{Derives}
use Rattle.grammar_laws.specs.apparatus.DecidedTable.{within}
use Rattle.grammar_laws.proofs.derivations.ClearBrackets.{over, clear, holds, is_balanced, stays}
use Rattle.grammar_laws.proofs.derivations.KeptScopes.{opens, leaves, declares, leaves_last, is_open, is_grown, nests, same, nested, IsKept, at_start, kept_over, taken, nil}

pub nested_grammar : (n : Rule) → nested n (grammar n) ≡ true
unfolding nested nests is_open is_grown opens leaves declares leaves_last same grammar
nested_grammar r.Unit = refl
nested_grammar r.External = refl
nested_grammar r.Function = refl
nested_grammar r.Declaration = refl
nested_grammar r.Sassert = refl
nested_grammar r.Attrs = refl
nested_grammar r.Attr = refl
nested_grammar r.Specs = refl
nested_grammar r.Spec = refl
nested_grammar r.Storage = refl
nested_grammar r.Typespec = refl
nested_grammar r.Qual = refl
nested_grammar r.Squals = refl
nested_grammar r.Struct = refl
nested_grammar r.Members = refl
nested_grammar r.Member = refl
nested_grammar r.Enum = refl
nested_grammar r.Enumr = refl
nested_grammar r.Declarator = refl
nested_grammar r.Direct = refl
nested_grammar r.Suffix = refl
nested_grammar r.Params = refl
nested_grammar r.Param = refl
nested_grammar r.Typename = refl
nested_grammar r.Abstract = refl
nested_grammar r.Adirect = refl
nested_grammar r.Initdecl = refl
nested_grammar r.Init = refl
nested_grammar r.Braces = refl
nested_grammar r.Item = refl
nested_grammar r.Desig = refl
nested_grammar r.Block = refl
nested_grammar r.Label = refl
nested_grammar r.Statement = refl
nested_grammar r.Expr = refl
nested_grammar r.Assign = refl
nested_grammar r.Cond = refl
nested_grammar r.Oror = refl
nested_grammar r.Andand = refl
nested_grammar r.Bor = refl
nested_grammar r.Bxor = refl
nested_grammar r.Band = refl
nested_grammar r.Equal = refl
nested_grammar r.Rel = refl
nested_grammar r.Shift = refl
nested_grammar r.Sum = refl
nested_grammar r.Product = refl
nested_grammar r.Cast = refl
nested_grammar r.Unary = refl
nested_grammar r.Postfix = refl
nested_grammar r.Primary = refl
nested_grammar r.Literal = refl
nested_grammar r.Balanced = refl
nested_grammar r.Declared = refl
nested_grammar r.ParamSpecs = refl
nested_grammar r.Body = refl
nested_grammar r.Typeof = refl
nested_grammar r.If = refl
nested_grammar r.For = refl

pub clear_grammar : (n : Rule) → is_balanced n ≡ false → clear (grammar n) true ≡ true
unfolding clear holds is_balanced within mem grammar
clear_grammar r.Balanced h = absurd (cc)
clear_grammar r.Unit h = refl
clear_grammar r.External h = refl
clear_grammar r.Function h = refl
clear_grammar r.Declaration h = refl
clear_grammar r.Sassert h = refl
clear_grammar r.Attrs h = refl
clear_grammar r.Attr h = refl
clear_grammar r.Specs h = refl
clear_grammar r.Spec h = refl
clear_grammar r.Storage h = refl
clear_grammar r.Typespec h = refl
clear_grammar r.Qual h = refl
clear_grammar r.Squals h = refl
clear_grammar r.Struct h = refl
clear_grammar r.Members h = refl
clear_grammar r.Member h = refl
clear_grammar r.Enum h = refl
clear_grammar r.Enumr h = refl
clear_grammar r.Declarator h = refl
clear_grammar r.Direct h = refl
clear_grammar r.Suffix h = refl
clear_grammar r.Params h = refl
clear_grammar r.Param h = refl
clear_grammar r.Typename h = refl
clear_grammar r.Abstract h = refl
clear_grammar r.Adirect h = refl
clear_grammar r.Initdecl h = refl
clear_grammar r.Init h = refl
clear_grammar r.Braces h = refl
clear_grammar r.Item h = refl
clear_grammar r.Desig h = refl
clear_grammar r.Block h = refl
clear_grammar r.Label h = refl
clear_grammar r.Statement h = refl
clear_grammar r.Expr h = refl
clear_grammar r.Assign h = refl
clear_grammar r.Cond h = refl
clear_grammar r.Oror h = refl
clear_grammar r.Andand h = refl
clear_grammar r.Bor h = refl
clear_grammar r.Bxor h = refl
clear_grammar r.Band h = refl
clear_grammar r.Equal h = refl
clear_grammar r.Rel h = refl
clear_grammar r.Shift h = refl
clear_grammar r.Sum h = refl
clear_grammar r.Product h = refl
clear_grammar r.Cast h = refl
clear_grammar r.Unary h = refl
clear_grammar r.Postfix h = refl
clear_grammar r.Primary h = refl
clear_grammar r.Literal h = refl
clear_grammar r.Declared h = refl
clear_grammar r.ParamSpecs h = refl
clear_grammar r.Body h = refl
clear_grammar r.Typeof h = refl
clear_grammar r.If h = refl
clear_grammar r.For h = refl

pub grammar_kept : {f : Form} {s new : Scopes} {ts rest : List Terminal} {xs : List Tree} → Derives (over grammar) f s ts xs new rest
    → (o g : Bool) (base : Scopes) → nests f o g ≡ true → IsKept o g base s → IsKept (is_open f o) (is_grown f g) base new
grammar_kept d o g base h k = kept_over grammar nested_grammar d o g base h k

pub grammar_clear : {f : Form} {s new : Scopes} {ts rest : List Terminal} {xs : List Tree} → Derives (over grammar) f s ts xs new rest → (b : Bool)
    → (b ≡ true → s.brackets ≡ []) → clear f b ≡ true → new.brackets ≡ []
grammar_clear d b c h = stays grammar clear_grammar d b c h

-- scopes that differ in the declaration that is being read alone
pub record IsLeft (s new : Scopes) : Type 0 where
  pub entries : new.entries ≡ s.entries
  pub frames : new.frames ≡ s.frames
  pub brackets : new.brackets ≡ []

-- a form that leaves no frame open and declares no name
left_by : {f : Form} {s new : Scopes} {ts rest : List Terminal} {xs : List Tree} → Derives (over grammar) f s ts xs new rest → s.brackets ≡ []
    → nests f false false ≡ true → is_open f false ≡ false → is_grown f false ≡ false → clear f true ≡ true → IsLeft s new
left_by {f = f} {s = s} {new = new} d b h o g c =
    let k = grammar_kept d false false s h (at_start s) in
    let i : IsKept false false s new = subst (λ z. IsKept false z s new) g (subst (λ z. IsKept z (is_grown f false) s new) o k) in
    record { entries = i.entries ∙ (ap (λ z. s.entries ++ z) (i.ungrown refl) ∙ nil s.entries); frames = i.frames; brackets = grammar_clear d true (λ _. b) c }

abbrev pub element : Form
element = rule r.Typespec or rule r.Qual

pub squals_left : {s new : Scopes} {ts rest : List Terminal} {xs : List Tree} → Derives (over grammar) (rule r.Squals) s ts xs new rest → s.brackets ≡ [] → IsLeft s new
unfolding nests is_open is_grown declares clear is_balanced
squals_left d b = left_by d b refl refl refl refl

pub element_left : {s new : Scopes} {ts rest : List Terminal} {xs : List Tree} → Derives (over grammar) element s ts xs new rest → s.brackets ≡ [] → IsLeft s new
unfolding nests is_open is_grown declares clear is_balanced same
element_left d b = left_by d b refl refl refl refl

pub elements_left : {s new : Scopes} {ts rest : List Terminal} {xs : List Tree} → Derives (over grammar) (loop test.TypeAhead element) s ts xs new rest → s.brackets ≡ [] → IsLeft s new
unfolding nests is_open is_grown declares clear is_balanced same
elements_left d b = left_by d b refl refl refl refl

pub spec_left : {s new : Scopes} {ts rest : List Terminal} {xs : List Tree} → Derives (over grammar) (rule r.Spec) s ts xs new rest → s.brackets ≡ [] → IsLeft s new
unfolding nests is_open is_grown declares clear is_balanced
spec_left d b = left_by d b refl refl refl refl

pub specs_left : {s new : Scopes} {ts rest : List Terminal} {xs : List Tree} → Derives (over grammar) (many (rule r.Spec)) s ts xs new rest → s.brackets ≡ [] → IsLeft s new
unfolding nests is_open is_grown declares clear is_balanced same
specs_left d b = left_by d b refl refl refl refl

-- behind a structure, an enumeration and `typeof` the declaration goes on behind a type specifier
taken_all : (xs : List Entry) → take (length xs) xs ≡ xs
taken_all xs = ap (λ z. take (length xs) z) (sym (nil xs)) ∙ taken xs []

goes_on_behind : (s mid : Scopes) (gs : List Frame) → gs ≡ record { count = length s.entries; reading = s.reading } ∷ s.frames → mid.entries ≡ s.entries
    → mid.brackets ≡ s.brackets → leave specified mid gs ≡ record s { reading = specified s.reading }
goes_on_behind s mid gs q e b =
    let p : take (length s.entries) mid.entries ≡ s.entries = ap (λ z. take (length s.entries) z) e ∙ taken_all s.entries in
    subst (λ z. leave specified mid z ≡ record s { reading = specified s.reading }) (sym q) (rw (p, b) refl)

behind_form : {f : Form} {s mid : Scopes} (t : Terminal) {ts rest : List Terminal} {xs : List Tree}
    → Derives (over grammar) f (after act.OpenSpecifier s t) ts xs mid rest → s.brackets ≡ [] → nests f false false ≡ true → is_open f false ≡ false
    → is_grown f false ≡ false → clear f true ≡ true → leave specified mid mid.frames ≡ record s { reading = specified s.reading }
behind_form {s = s} {mid = mid} t d b h o g c =
    let i = left_by d b h o g c in
    goes_on_behind s mid mid.frames i.frames i.entries (i.brackets ∙ sym b)

pub struct_scopes : {s new : Scopes} {ts rest : List Terminal} {xs : List Tree} → Derives (over grammar) (rule r.Struct) s ts xs new rest → s.brackets ≡ []
    → new ≡ record s { reading = specified s.reading }
unfolding grammar nests is_open is_grown opens leaves declares clear holds is_balanced same within mem
struct_scopes (Derives.a_rule (Derives.both (Derives.a_word {t = t} e) d q)) b = behind_form t d b refl refl refl refl

pub enum_scopes : {s new : Scopes} {ts rest : List Terminal} {xs : List Tree} → Derives (over grammar) (rule r.Enum) s ts xs new rest → s.brackets ≡ []
    → new ≡ record s { reading = specified s.reading }
unfolding grammar nests is_open is_grown opens leaves declares clear holds is_balanced same within mem
enum_scopes (Derives.a_rule (Derives.both (Derives.a_word {t = t} e) d q)) b = behind_form t d b refl refl refl refl

pub typeof_scopes : {s new : Scopes} {ts rest : List Terminal} {xs : List Tree} → Derives (over grammar) (rule r.Typeof) s ts xs new rest → s.brackets ≡ []
    → new ≡ record s { reading = specified s.reading }
unfolding grammar nests is_open is_grown opens leaves declares clear holds is_balanced same within mem
typeof_scopes (Derives.a_rule (Derives.both (Derives.a_word {t = t} e) d q)) b = behind_form t d b refl refl refl refl
