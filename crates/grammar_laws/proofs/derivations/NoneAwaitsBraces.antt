-- Outside the type of an enumeration none waits for its braces, behind a nonterminal as before it.
use Rattle.std.proofs.Common.{◌≡◌, ℕ, Bool, true, false, not, ◌&&◌, ◌||◌, List, [], ◌∷◌, length, refl, sym, ap, subst, ◌∙◌}
use Rattle.std.specs.Prelude.{if◌then◌else◌}
use Rattle.model_grammar.specs.declared.grammar.Rule.{Rule}
use Rattle.model_grammar.specs.declared.grammar.Rule.TheVariants as r
use Rattle.model_grammar.specs.declared.grammar.Act.{Act}
use Rattle.model_grammar.specs.declared.grammar.Act.TheVariants as act
use Rattle.model_grammar.specs.declared.grammar.Terminal.{Terminal}
use Rattle.model_grammar.specs.declared.grammar.Frame.{Frame}
use Rattle.model_grammar.specs.declared.grammar.Reading.{Reading}
use Rattle.model_grammar.specs.declared.grammar.Tree.{Tree}
use Rattle.model_grammar.specs.GrammarForm.{Form, word, rule, empty, ◌then◌, ◌or◌, maybe, many, when, loop}
use Rattle.model_grammar.specs.Grammar.{grammar}
use Rattle.model_grammar.specs.NameScopes.{Scopes, after, close, leave, leave_parameters, specified, fresh}
use Rattle.model_grammar.specs.Derivation.{Derives}
use Rattle.grammar_laws.proofs.kinds.KindSets.{and_left, and_right, not_true}
use Rattle.grammar_laws.proofs.derivations.ClearBrackets.{over}
use Rattle.grammar_laws.proofs.derivations.KeptScopes.{opens, leaves, declares, leaves_last, is_open, is_grown, nests, nested, same, same_bool, IsKept, at_start, kept_over}
use Rattle.grammar_laws.proofs.derivations.KeptByGrammar.{nested_grammar}

unfoldable pub awaits : Act → Bool
awaits act.AwaitBraces = true
awaits _ = false

unfoldable pub is_enumeration : Rule → Bool
is_enumeration r.Enum = true
is_enumeration _ = false

-- no enumeration waits behind a token of the form, where none does before it and a frame of the form is open if o
-- says so
unfoldable pub idles : Form → Bool → Bool
idles (word ks a) o = if leaves a then o else not (awaits a)
idles (rule n) o = true
idles empty o = true
idles (f then g) o = idles f o && idles g (is_open f o)
idles (f or g) o = idles f o && (idles g o && same (is_open g o) (is_open f o))
idles (maybe f) o = idles f o && same (is_open f o) o
idles (many f) o = idles f o && same (is_open f o) o
idles (when p f g) o = idles f o && (idles g o && same (is_open g o) (is_open f o))
idles (loop p f) o = idles f o && same (is_open f o) o

pub idle_grammar : (n : Rule) → is_enumeration n ≡ false → idles (grammar n) false ≡ true
unfolding is_enumeration idles awaits leaves opens is_open same grammar
idle_grammar r.Enum h = absurd (cc)
idle_grammar r.Unit h = refl
idle_grammar r.External h = refl
idle_grammar r.Function h = refl
idle_grammar r.Declaration h = refl
idle_grammar r.Sassert h = refl
idle_grammar r.Attrs h = refl
idle_grammar r.Attr h = refl
idle_grammar r.Specs h = refl
idle_grammar r.Spec h = refl
idle_grammar r.Storage h = refl
idle_grammar r.Typespec h = refl
idle_grammar r.Qual h = refl
idle_grammar r.Squals h = refl
idle_grammar r.Struct h = refl
idle_grammar r.Members h = refl
idle_grammar r.Member h = refl
idle_grammar r.Enumr h = refl
idle_grammar r.Declarator h = refl
idle_grammar r.Direct h = refl
idle_grammar r.Suffix h = refl
idle_grammar r.Params h = refl
idle_grammar r.Param h = refl
idle_grammar r.Typename h = refl
idle_grammar r.Abstract h = refl
idle_grammar r.Adirect h = refl
idle_grammar r.Initdecl h = refl
idle_grammar r.Init h = refl
idle_grammar r.Braces h = refl
idle_grammar r.Item h = refl
idle_grammar r.Desig h = refl
idle_grammar r.Block h = refl
idle_grammar r.Label h = refl
idle_grammar r.Statement h = refl
idle_grammar r.Expr h = refl
idle_grammar r.Assign h = refl
idle_grammar r.Cond h = refl
idle_grammar r.Oror h = refl
idle_grammar r.Andand h = refl
idle_grammar r.Bor h = refl
idle_grammar r.Bxor h = refl
idle_grammar r.Band h = refl
idle_grammar r.Equal h = refl
idle_grammar r.Rel h = refl
idle_grammar r.Shift h = refl
idle_grammar r.Sum h = refl
idle_grammar r.Product h = refl
idle_grammar r.Cast h = refl
idle_grammar r.Unary h = refl
idle_grammar r.Postfix h = refl
idle_grammar r.Primary h = refl
idle_grammar r.Literal h = refl
idle_grammar r.Balanced h = refl
idle_grammar r.Declared h = refl
idle_grammar r.ParamSpecs h = refl
idle_grammar r.Body h = refl
idle_grammar r.Typeof h = refl
idle_grammar r.If h = refl
idle_grammar r.For h = refl

-- how many wait where the innermost frame stands
abbrev pub outside : List Frame → ℕ
outside [] = 0
outside (frame ∷ frames) = frame.reading.waiting

pub record IsIdle (o : Bool) (s : Scopes) : Type 0 where
  pub reading : s.reading.waiting ≡ 0
  pub frame : o ≡ true → outside s.frames ≡ 0

left_idle : (f : Reading → Reading) (s : Scopes) (gs : List Frame) → ((outer : Reading) → (f outer).waiting ≡ outer.waiting) → s.reading.waiting ≡ 0
    → outside gs ≡ 0 → (leave f s gs).reading.waiting ≡ 0
left_idle f s [] k a b = a
left_idle f s (frame ∷ frames) k a b = k frame.reading ∙ b

list_idle : (s : Scopes) (gs : List Frame) → s.reading.waiting ≡ 0 → outside gs ≡ 0 → (leave_parameters s gs).reading.waiting ≡ 0
list_idle s [] a b = a
list_idle s (frame ∷ frames) a b = b

scope_idle : (s : Scopes) (gs : List Frame) → s.reading.waiting ≡ 0 → (leave (λ outer. fresh) s gs).reading.waiting ≡ 0
scope_idle s [] a = a
scope_idle s (frame ∷ frames) a = refl

opening : (a : Act) (s : Scopes) (t : Terminal) → opens a ≡ true → s.reading.waiting ≡ 0 → IsIdle true (after a s t)
unfolding opens
opening act.OpenDeclarator s t h i = record { reading = refl; frame = λ e. i }
opening act.OpenArray s t h i = record { reading = refl; frame = λ e. i }
opening act.OpenParameters s t h i = record { reading = refl; frame = λ e. i }
opening act.OpenScope s t h i = record { reading = refl; frame = λ e. i }
opening act.OpenBlock s t h i = record { reading = refl; frame = λ e. i }
opening act.OpenSpecifier s t h i = record { reading = i; frame = λ e. i }
opening _ s t h i = absurd (cc)

leaving : (a : Act) (s : Scopes) (t : Terminal) → leaves a ≡ true → IsIdle true s → (after a s t).reading.waiting ≡ 0
unfolding leaves
leaving act.CloseDeclarator s t h i = left_idle _ s s.frames (λ outer. refl) i.reading (i.frame refl)
leaving act.CloseArray s t h i = left_idle _ s s.frames (λ outer. refl) i.reading (i.frame refl)
leaving act.CloseParameters s t h i = list_idle s s.frames i.reading (i.frame refl)
leaving act.CloseBlock s t h i = left_idle _ s s.frames (λ outer. refl) i.reading (i.frame refl)
leaving _ s t h i = absurd (cc)

staying : (a : Act) (o : Bool) (s : Scopes) (t : Terminal) → opens a ≡ false → leaves a ≡ false → awaits a ≡ false → IsIdle o s → IsIdle o (after a s t)
unfolding opens leaves awaits
staying act.OpenDeclarator o s t h l w i = absurd (cc)
staying act.OpenArray o s t h l w i = absurd (cc)
staying act.OpenParameters o s t h l w i = absurd (cc)
staying act.OpenScope o s t h l w i = absurd (cc)
staying act.OpenBlock o s t h l w i = absurd (cc)
staying act.OpenSpecifier o s t h l w i = absurd (cc)
staying act.CloseDeclarator o s t h l w i = absurd (cc)
staying act.CloseArray o s t h l w i = absurd (cc)
staying act.CloseParameters o s t h l w i = absurd (cc)
staying act.CloseBlock o s t h l w i = absurd (cc)
staying act.AwaitBraces o s t h l w i = absurd (cc)
staying act.Pass o s t h l w i = record { reading = i.reading; frame = i.frame }
staying act.Keep o s t h l w i = i
staying act.Specifier o s t h l w i = record { reading = i.reading; frame = i.frame }
staying act.Typedef o s t h l w i = record { reading = i.reading; frame = i.frame }
staying act.TypeSpecifier o s t h l w i = record { reading = i.reading; frame = i.frame }
staying act.Enclose o s t h l w i = record { reading = refl; frame = i.frame }
staying act.Pointer o s t h l w i = record { reading = i.reading; frame = i.frame }
staying act.DeclaratorName o s t h l w i = record { reading = i.reading; frame = i.frame }
staying act.NextParameter o s t h l w i = record { reading = refl; frame = i.frame }
staying act.NextDeclarator o s t h l w i = record { reading = refl; frame = i.frame }
staying act.EndDeclaration o s t h l w i = record { reading = refl; frame = i.frame }
staying act.OpenBalanced o s t h l w i = record { reading = i.reading; frame = i.frame }
staying act.CloseBalanced o s t h l w i = record { reading = i.reading; frame = i.frame }

at_word : (ks : List ℕ) (a : Act) (o x y : Bool) (s : Scopes) (t : Terminal) → opens a ≡ x → leaves a ≡ y → idles (word ks a) o ≡ true → IsIdle o s → IsIdle (is_open (word ks a) o) (after a s t)
unfolding idles is_open
at_word ks a o true y s t p q h i = rw p (opening a s t p i.reading)
at_word ks a o false true s t p q h i =
    let w : o ≡ true = rw q at h in
    rw (p, q) (record { reading = leaving a s t q (subst (λ z. IsIdle z s) w i); frame = λ e. absurd (cc) })
at_word ks a o false false s t p q h i =
    let w : not (awaits a) ≡ true = rw q at h in
    rw (p, q) (staying a o s t p q (not_true _ w) i)

ended : (n : Rule) (mid : Scopes) → IsIdle (leaves_last n) mid → (close n mid).reading.waiting ≡ 0
unfolding leaves_last
ended r.Struct mid i = left_idle specified mid mid.frames (λ outer. refl) i.reading (i.frame refl)
ended r.Enum mid i = left_idle specified mid mid.frames (λ outer. refl) i.reading (i.frame refl)
ended r.Typeof mid i = left_idle specified mid mid.frames (λ outer. refl) i.reading (i.frame refl)
ended r.If mid i = scope_idle mid mid.frames i.reading
ended r.For mid i = scope_idle mid mid.frames i.reading
ended _ mid i = i.reading

enumeration_is : (n : Rule) → is_enumeration n ≡ true → n ≡ r.Enum
unfolding is_enumeration
enumeration_is r.Enum h = refl
enumeration_is _ h = absurd (cc)

as_open : {x y : Bool} {s : Scopes} → x ≡ y → IsIdle x s → IsIdle y s
as_open {s = s} q i = subst (λ z. IsIdle z s) q i

module _ (body : Rule → Form) (ok : (n : Rule) → nested n (body n) ≡ true) (idle : (n : Rule) → is_enumeration n ≡ false → idles (body n) false ≡ true)
    (waits : (s new : Scopes) (ts rest : List Terminal) (xs : List Tree) → Derives (over body) (rule r.Enum) s ts xs new rest → new.reading.waiting ≡ s.reading.waiting) where
  body_open : (n : Rule) → is_open (body n) false ≡ leaves_last n
  unfolding nested
  body_open n = same_bool (is_open (body n) false) (leaves_last n) (and_left _ (declares n || (leaves_last n || not (is_grown (body n) false))) (and_right (nests (body n) false false) _ (ok n)))

  rule_frames : (n : Rule) {s new : Scopes} {ts rest : List Terminal} {xs : List Tree} → Derives (over body) (rule n) s ts xs new rest → new.frames ≡ s.frames
  unfolding nests is_open
  rule_frames n {s = s} d = (kept_over body ok d false false s refl (at_start s)).frames

  -- a nonterminal, of which the body is idle but in an enumeration
  at_rule : (n : Rule) (b : Bool) {s mid : Scopes} {ts rest : List Terminal} {xs : List Tree} → is_enumeration n ≡ b → s.reading.waiting ≡ 0
      → (idles (body n) false ≡ true → IsIdle (is_open (body n) false) mid) → Derives (over body) (rule n) s ts xs (close n mid) rest
      → (close n mid).reading.waiting ≡ 0
  at_rule n true {s = s} {mid = mid} {ts = ts} {rest = rest} {xs = xs} q i k d =
      waits s (close n mid) ts rest xs (subst (λ z. Derives (over body) (rule z) s ts xs (close n mid) rest) (enumeration_is n q) d) ∙ i
  at_rule n false {mid = mid} q i k d = ended n mid (as_open (body_open n) (k (idle n q)))

  pub idle_over : {f : Form} {s new : Scopes} {ts rest : List Terminal} {xs : List Tree} → Derives (over body) f s ts xs new rest → (o : Bool)
      → idles f o ≡ true → IsIdle o s → IsIdle (is_open f o) new
  unfolding idles is_open
  idle_over {f = word ks a} (Derives.a_word {s = s} {t = t} e) o h i = at_word ks a o (opens a) (leaves a) s t refl refl h i
  idle_over {f = rule n} {s = s} (Derives.a_rule {new = mid} d) o h i = record {
    reading = at_rule n (is_enumeration n) refl i.reading (λ v. idle_over d false v (record { reading = i.reading; frame = λ e. absurd (cc) })) (Derives.a_rule d);
    frame = λ e. ap (λ z. outside z) (rule_frames n (Derives.a_rule d)) ∙ i.frame e;
  }
  idle_over Derives.nothing o h i = i
  idle_over {f = f then g} (Derives.both d e q) o h i = idle_over e (is_open f o) (and_right (idles f o) _ h) (idle_over d o (and_left _ (idles g (is_open f o)) h) i)
  idle_over {f = f or g} (Derives.left d) o h i = idle_over d o (and_left _ (idles g o && same (is_open g o) (is_open f o)) h) i
  idle_over {f = f or g} (Derives.right d) o h i =
      let v = and_right (idles f o) _ h in
      as_open (same_bool _ _ (and_right (idles g o) _ v)) (idle_over d o (and_left _ (same (is_open g o) (is_open f o)) v) i)
  idle_over Derives.skip o h i = i
  idle_over {f = maybe f} (Derives.take d) o h i = as_open (same_bool _ _ (and_right (idles f o) _ h)) (idle_over d o (and_left _ (same (is_open f o) o) h) i)
  idle_over Derives.stop o h i = i
  idle_over {f = many f} (Derives.turn d e q) o h i = idle_over e o h (as_open (same_bool _ _ (and_right (idles f o) _ h)) (idle_over d o (and_left _ (same (is_open f o) o) h) i))
  idle_over {f = when p f g} (Derives.chosen c d) o h i = idle_over d o (and_left _ (idles g o && same (is_open g o) (is_open f o)) h) i
  idle_over {f = when p f g} (Derives.other c d) o h i =
      let v = and_right (idles f o) _ h in
      as_open (same_bool _ _ (and_right (idles g o) _ v)) (idle_over d o (and_left _ (same (is_open g o) (is_open f o)) v) i)
  idle_over (Derives.done c) o h i = i
  idle_over {f = loop p f} (Derives.again c d e q) o h i = idle_over e o h (as_open (same_bool _ _ (and_right (idles f o) _ h)) (idle_over d o (and_left _ (same (is_open f o) o) h) i))

-- an enumeration of the grammar leaves the number as it was
left_waits : (s mid : Scopes) (frame : Frame) (gs : List Frame) → gs ≡ frame ∷ s.frames → (leave specified mid gs).reading.waiting ≡ frame.reading.waiting
left_waits s mid frame gs q = subst (λ z. (leave specified mid z).reading.waiting ≡ frame.reading.waiting) (sym q) refl

waits_behind : {f : Form} {s mid : Scopes} (t : Terminal) {ts rest : List Terminal} {xs : List Tree}
    → Derives (over grammar) f (after act.OpenSpecifier s t) ts xs mid rest → nests f false false ≡ true → is_open f false ≡ false
    → (leave specified mid mid.frames).reading.waiting ≡ s.reading.waiting
waits_behind {f = f} {s = s} {mid = mid} t d h o =
    let k =
    subst (λ z. IsKept z (is_grown f false) (after act.OpenSpecifier s t) mid) o
    (kept_over grammar nested_grammar d false false (after act.OpenSpecifier s t) h (at_start (after act.OpenSpecifier s t))) in
    left_waits s mid (record { count = length s.entries; reading = s.reading }) mid.frames k.frames

pub enum_waits : (s new : Scopes) (ts rest : List Terminal) (xs : List Tree) → Derives (over grammar) (rule r.Enum) s ts xs new rest → new.reading.waiting ≡ s.reading.waiting
unfolding grammar nests is_open is_grown opens leaves declares same
enum_waits s new ts rest xs (Derives.a_rule (Derives.both (Derives.a_word {t = t} e) d q)) = waits_behind t d refl refl

-- by the grammar
pub grammar_idle : {f : Form} {s new : Scopes} {ts rest : List Terminal} {xs : List Tree} → Derives (over grammar) f s ts xs new rest → (o : Bool)
    → idles f o ≡ true → IsIdle o s → IsIdle (is_open f o) new
grammar_idle d o h i = idle_over grammar nested_grammar idle_grammar enum_waits d o h i

pub rule_idle : (n : Rule) {s new : Scopes} {ts rest : List Terminal} {xs : List Tree} → Derives (over grammar) (rule n) s ts xs new rest → s.reading.waiting ≡ 0 → new.reading.waiting ≡ 0
unfolding idles
rule_idle n d i = (grammar_idle d false refl (record { reading = i; frame = λ e. absurd (cc) })).reading
