-- Where the grammar derives a list of type specifiers and qualifiers to its end, braces come for each enumeration that
-- waits for them: what is owed behind a part of the list is owed before it.
use Rattle.std.proofs.Common.{arith, zero, ◌≡◌, ◌<◌, ℕ, suc, ◌+◌, Bool, true, false, not, ◌&&◌, ◌||◌, List, [], ◌∷◌, ◌++◌, refl, sym, ap, subst, ◌∙◌}
use Rattle.std.specs.Prelude.{◌==◌}
use Rattle.model_grammar.specs.declared.grammar.Rule.TheVariants as r
use Rattle.model_grammar.specs.declared.grammar.Act.TheVariants as act
use Rattle.model_grammar.specs.declared.grammar.Test.TheVariants as test
use Rattle.model_grammar.specs.declared.grammar.Terminal.{Terminal}
use Rattle.model_grammar.specs.declared.grammar.Within.{Within}
use Rattle.model_grammar.specs.declared.grammar.Within.TheVariants.{Between, BehindColon, BehindHead}
use Rattle.model_grammar.specs.declared.grammar.Tree.{Tree}
use Rattle.model_grammar.specs.GrammarForm.{Form, word, rule, maybe, loop, ◌then◌, ◌or◌, mem}
use Rattle.model_grammar.specs.Grammar.{grammar, token}
use Rattle.model_grammar.specs.Terminals as k
use Rattle.model_grammar.specs.NameScopes.{Scopes, after, specified}
use Rattle.model_grammar.specs.Derivation.{Derives}
use Rattle.grammar_laws.specs.FirstTokens.{first, nullable}
use Rattle.grammar_laws.specs.ParserWalk.{ahead}
use Rattle.grammar_laws.specs.ParserSets.{tables, firsts, hollow}
use Rattle.model_grammar.specs.SyntaxTree.{sees_type}
use Rattle.grammar_laws.specs.ParserTests.{parsed, lacks_enumeration, sees, sees_name}
use Rattle.grammar_laws.proofs.kinds.TokenKinds.{absent}
use Rattle.grammar_laws.proofs.derivations.ClearBrackets.{over}
use Rattle.grammar_laws.proofs.scans.PastSpecifiers.{listed, brace_kind, colon_kind}
use Rattle.grammar_laws.proofs.scans.ScansReadNames.{lacks_alike, name_alike}
use Rattle.grammar_laws.proofs.enumerations.BracesScanStep.{between_takes, IsTaking}
use Rattle.grammar_laws.proofs.enumerations.BracesScanPastSpecifiers.{lacks_type, lacks_name, lacks_qualifier, lacks_struct, lacks_enum, lacks_over_attributes, lacks_struct_tag, lacks_enum_tag, lacks_head_colon, lacks_tag_colon}
use Rattle.grammar_laws.proofs.enumerations.BracesScanAtEnd.{opens_members, lacks_behind_tag, lacks_list_end}
use Rattle.grammar_laws.proofs.enumerations.BracesScanOfGrammar.{grammar_braced, typeof_lacks, members_lack, tagged_members_lack, own_lack, braces_lack, braces_lacking, braces_seen, enumerator_named_over}
use Rattle.grammar_laws.proofs.derivations.KeptByGrammar.{element, element_left, squals_left, struct_scopes, typeof_scopes, enum_scopes}
use Rattle.grammar_laws.proofs.derivations.AttributesOfGrammar.{attributes_parsed, attributes_scopes}
use Rattle.grammar_laws.proofs.derivations.FirstTokensOfGrammar.{starts_over}
use Rattle.grammar_laws.proofs.specifier_lists.PiecesAnywhere.{takes_at}

-- in such a list: braces come for each that waits, and an enumerator is the first in braces that come next
pub record IsOwing (s : Scopes) (ts : List Terminal) : Type 0 where
  pub braces : (w : ℕ) → w < s.reading.waiting → lacks_enumeration w (listed true s.reading.typed) s ts ≡ true
  pub named : opens_members s ts ≡ false

-- other scopes with the same names
pub shifted : (s s' : Scopes) (w : ℕ) (place : Within) (ts : List Terminal) → s'.entries ≡ s.entries → lacks_enumeration w place s' ts ≡ true → lacks_enumeration w place s ts ≡ true
shifted s s' w place ts q h = sym (lacks_alike ts w place s s' q) ∙ h

pub members_alike : (s s' : Scopes) (ts : List Terminal) → s'.entries ≡ s.entries → opens_members s' ts ≡ opens_members s ts
unfolding opens_members
members_alike s s' [] q = refl
members_alike s s' (t ∷ ts) q = ap (λ z. t.kind == k.OpenBrace && not z) (name_alike ts s s' q)

-- another token comes
pub no_members_first : (F : List ℕ) → mem k.OpenBrace F ≡ false → mem k.Closing F ≡ false → mem k.Stray F ≡ false → (s : Scopes) (ts : List Terminal)
    → mem (ahead tables parsed s ts) F ≡ true → opens_members s ts ≡ false
unfolding opens_members ahead
no_members_first F a b c s [] h = refl
no_members_first F a b c s (t ∷ ts) h = rw (absent F k.OpenBrace refl a b c s t h) refl

pub element_named : {s new : Scopes} {ts rest : List Terminal} {xs : List Tree} → Derives (over grammar) element s ts xs new rest → opens_members s ts ≡ false
unfolding first nullable firsts hollow mem
element_named {s = s} {ts = ts} d = no_members_first (firsts r.Typespec ++ firsts r.Qual) refl refl refl s ts (starts_over {f = element} refl d)

-- how many wait
typespec_waiting : {s new : Scopes} {ts rest : List Terminal} {xs : List Tree} → Derives (over grammar) (rule r.Typespec) s ts xs new rest → s.brackets ≡ [] → new.reading.waiting ≡ s.reading.waiting
unfolding grammar
typespec_waiting (Derives.a_rule (Derives.left (Derives.a_word e))) b = refl
typespec_waiting (Derives.a_rule (Derives.right (Derives.left d))) b = ap (λ z. z.reading.waiting) (struct_scopes d b)
typespec_waiting (Derives.a_rule (Derives.right (Derives.right (Derives.left d)))) b = ap (λ z. z.reading.waiting) (enum_scopes d b)
typespec_waiting (Derives.a_rule (Derives.right (Derives.right (Derives.right (Derives.left (Derives.a_word e)))))) b = refl
typespec_waiting (Derives.a_rule (Derives.right (Derives.right (Derives.right (Derives.right d))))) b = ap (λ z. z.reading.waiting) (typeof_scopes d b)

pub element_waiting : {s new : Scopes} {ts rest : List Terminal} {xs : List Tree} → Derives (over grammar) element s ts xs new rest → s.brackets ≡ [] → new.reading.waiting ≡ s.reading.waiting
unfolding grammar
element_waiting (Derives.left d) b = typespec_waiting d b
element_waiting (Derives.right (Derives.a_rule (Derives.a_word e))) b = refl

elements_waiting : {s new : Scopes} {ts rest : List Terminal} {xs : List Tree} → Derives (over grammar) (loop test.TypeAhead element) s ts xs new rest
    → s.brackets ≡ [] → new.reading.waiting ≡ s.reading.waiting
elements_waiting (Derives.done a) b = refl
elements_waiting (Derives.again a d e q) b = elements_waiting e (element_left d b).brackets ∙ element_waiting d b

pub squals_waiting : {s new : Scopes} {ts rest : List Terminal} {xs : List Tree} → Derives (over grammar) (rule r.Squals) s ts xs new rest → s.brackets ≡ [] → new.reading.waiting ≡ s.reading.waiting
unfolding grammar
squals_waiting (Derives.a_rule (Derives.both d e q)) b = elements_waiting e (element_left d b).brackets ∙ element_waiting d b

-- a list ends where no more comes
elements_end : {s new : Scopes} {ts rest : List Terminal} {xs : List Tree} → Derives (over grammar) (loop test.TypeAhead element) s ts xs new rest → sees_type new rest ≡ false
elements_end (Derives.done a) = a
elements_end (Derives.again a d e q) = elements_end e

pub squals_end : {s new : Scopes} {ts rest : List Terminal} {xs : List Tree} → Derives (over grammar) (rule r.Squals) s ts xs new rest → sees_type new rest ≡ false
unfolding grammar
squals_end (Derives.a_rule (Derives.both d e q)) = elements_end e

-- behind a type specifier
abbrev pub behind_type : Scopes → Scopes
behind_type s = record s { reading = specified s.reading }

pub owed_behind : (s : Scopes) (rest : List Terminal) → IsOwing (behind_type s) rest → (w : ℕ) → w < s.reading.waiting → lacks_enumeration w (Between true) s rest ≡ true
owed_behind s rest h w l = shifted s (behind_type s) w (Between true) rest refl (h.braces w l)

-- a structure
struct_braces : {s new : Scopes} {ts rest : List Terminal} {xs : List Tree} → Derives (over grammar) (rule r.Struct) s ts xs new rest → s.brackets ≡ []
    → IsOwing (behind_type s) rest → (w : ℕ) → w < s.reading.waiting → lacks_enumeration w (listed true s.reading.typed) s ts ≡ true
unfolding grammar
struct_braces {s = s} {rest = rest}
    (Derives.a_rule (Derives.both (Derives.a_word {t = t} {ts = us} e) (Derives.both {mid = m} a (Derives.left (Derives.both (Derives.a_word {t = g} {ts = vs} n) Derives.skip _)) _) _)) b h w l =
    lacks_struct w true s.reading.typed s s t us e ∙
    (lacks_over_attributes w true s b (attributes_parsed a) ∙ (lacks_struct_tag w s m g vs n ∙ (lacks_behind_tag w s vs (sym (members_alike s (behind_type s) vs refl) ∙ h.named) ∙ owed_behind s rest h w l)))
struct_braces {s = s} {rest = rest}
    (Derives.a_rule (Derives.both (Derives.a_word {t = t} {ts = us} e) (Derives.both {mid = m} a (Derives.left (Derives.both (Derives.a_word {t = g} {ts = vs} n) (Derives.take d) _)) _) _)) b h w l =
    let i = attributes_scopes a b in
    lacks_struct w true s.reading.typed s s t us e ∙
    (lacks_over_attributes w true s b (attributes_parsed a) ∙ (lacks_struct_tag w s m g vs n ∙ (tagged_members_lack w s (ap (λ z. z.entries) i) (ap (λ z. z.brackets) i ∙ b) d ∙ owed_behind s rest h w l)))
struct_braces {s = s} {rest = rest} (Derives.a_rule (Derives.both (Derives.a_word {t = t} {ts = us} e) (Derives.both {mid = m} a (Derives.right d) _) _)) b h w l =
    lacks_struct w true s.reading.typed s s t us e ∙
    (lacks_over_attributes w true s b (attributes_parsed a) ∙ (members_lack w true s (ap (λ z. z.brackets) (attributes_scopes a b) ∙ b) d ∙ owed_behind s rest h w l))

-- braces behind the type of an enumeration
pub record IsBased (s : Scopes) (ts : List Terminal) : Type 0 where
  pub tagged : (w : ℕ) → w < suc s.reading.waiting → lacks_enumeration w (Between true) s ts ≡ true
  pub headed : (w : ℕ) → w < s.reading.waiting → lacks_enumeration w (BehindHead false) s ts ≡ true
  pub comes : (sees k.OpenBrace ts || sees k.Colon ts) ≡ true

abbrev pub grammar_based : Form
grammar_based = maybe (word (k.Colon ∷ []) act.AwaitBraces then rule r.Squals)

abbrev pub grammar_tag : Form
grammar_tag = word (k.Name ∷ k.TypedefName ∷ []) act.TypeSpecifier

abbrev pub grammar_choice : Form
grammar_choice = maybe grammar_tag then grammar_based then grammar_braced or grammar_tag then maybe (token k.Colon then rule r.Squals)

or_true : (b : Bool) → (b || true) ≡ true
or_true true = refl
or_true false = refl

pub by_braces : (s m : Scopes) (place : Within) (n : ℕ) {new : Scopes} {ts rest : List Terminal} {xs : List Tree} → IsTaking place m → m.brackets ≡ []
    → m.entries ≡ s.entries → Derives (over grammar) grammar_braced m ts xs new rest → ((w : ℕ) → w < n → lacks_enumeration w (Between true) s rest ≡ true)
    → (w : ℕ) → w < suc n → lacks_enumeration w place m ts ≡ true
by_braces s m place n k b q d h zero l = braces_lacking place m k d
by_braces s m place n {rest = rest} k b q d h (suc w) l = braces_lack w place m k b d ∙ shifted m s w (Between true) rest (sym q) (h w (omega (arith, l)))

pub braces_named : {s new : Scopes} {ts rest : List Terminal} {xs : List Tree} → Derives (over grammar) grammar_braced s ts xs new rest → opens_members s ts ≡ false
unfolding opens_members
braces_named {s = s} (Derives.both (Derives.a_word {t = o} {ts = ws} eo) (Derives.both en d _) _) =
    let n : sees_name s ws ≡ true = sym (name_alike ws s (after act.Enclose s o) refl) ∙ enumerator_named_over en in
    rw (brace_kind s o eo, n) refl

pub more_waits : (a b w : ℕ) → a ≡ b + 1 → w < a → w < suc b
more_waits a b w q l = omega (arith, q, l)

plus_one : (a w : ℕ) → w < suc a → w < a + 1
plus_one a w l = omega (arith, l)

suc_plus_one : (a w : ℕ) → w < a → suc w < a + 1
suc_plus_one a w l = omega (arith, l)

less_suc : (a w : ℕ) → w < a → w < suc a
less_suc a w l = omega (arith, l)

pub less_as : (a b w : ℕ) → a ≡ b → w < a → w < b
less_as a b w q l = subst (λ z. w < z) q l

-- the end of a list behind the `:` of an enumeration that takes no braces
pub silent_end : (m s : Scopes) {new : Scopes} {ts rest : List Terminal} {xs : List Tree} → Derives (over grammar) (rule r.Squals) s ts xs new rest
    → s.brackets ≡ [] → s.entries ≡ m.entries → s.reading.waiting ≡ m.reading.waiting
    → ((w : ℕ) → w < m.reading.waiting → lacks_enumeration w (Between true) m rest ≡ true) → opens_members m rest ≡ false → IsOwing new rest
silent_end m s {new = new} {rest = rest} q b e p h n =
    let k = squals_left q b in
    let i : m.entries ≡ new.entries = sym (k.entries ∙ e) in
    record {
      braces =
          λ w l. lacks_list_end w new new rest (record { entries = refl; clear = k.brackets }) (squals_end q) ∙ shifted new m w (Between true) rest i (h w (less_as new.reading.waiting m.reading.waiting w (squals_waiting q b ∙ p) l));
      named = sym (members_alike new m rest i) ∙ n;
    }

-- the end of one behind the `:` of an enumeration that takes braces
pub taking_end : (m : Scopes) (u : Terminal) {x new : Scopes} {ts later rest : List Terminal} {xs ys : List Tree}
    → Derives (over grammar) (rule r.Squals) (after act.AwaitBraces m u) ts xs x later → Derives (over grammar) grammar_braced x later ys new rest
    → m.brackets ≡ [] → ((w : ℕ) → w < m.reading.waiting → lacks_enumeration w (Between true) m rest ≡ true) → IsOwing x later
taking_end m u {x = x} q d b h =
    let j = squals_left q b in
    record { braces = λ w l. by_braces m x (listed true x.reading.typed) m.reading.waiting (takes_at x.reading.typed x) j.brackets j.entries d h w (more_waits x.reading.waiting m.reading.waiting w (squals_waiting q b) l); named = braces_named d }

mutual
  unfolding grammar

  pub squals_back : {s new : Scopes} {ts rest : List Terminal} {xs : List Tree} → Derives (over grammar) (rule r.Squals) s ts xs new rest → s.brackets ≡ [] → IsOwing new rest → IsOwing s ts
  squals_back (Derives.a_rule (Derives.both d e q)) b h = element_back d b (elements_back e (element_left d b).brackets h)

  pub elements_back : {s new : Scopes} {ts rest : List Terminal} {xs : List Tree} → Derives (over grammar) (loop test.TypeAhead element) s ts xs new rest
      → s.brackets ≡ [] → IsOwing new rest → IsOwing s ts
  elements_back (Derives.done a) b h = h
  elements_back (Derives.again a d e q) b h = element_back d b (elements_back e (element_left d b).brackets h)

  element_back : {s new : Scopes} {ts rest : List Terminal} {xs : List Tree} → Derives (over grammar) element s ts xs new rest → s.brackets ≡ [] → IsOwing new rest → IsOwing s ts
  element_back (Derives.left d) b h = record { braces = λ w l. typespec_braces d b h w l; named = element_named (Derives.left d) }
  element_back {s = s} (Derives.right (Derives.a_rule (Derives.a_word {t = t} {ts = us} e))) b h = record {
    braces = λ w l. lacks_qualifier w true s.reading.typed s s t us e ∙ shifted s (after act.Specifier s t) w (listed true s.reading.typed) us refl (h.braces w l);
    named = element_named (Derives.right (Derives.a_rule (Derives.a_word e)));
  }

  typespec_braces : {s new : Scopes} {ts rest : List Terminal} {xs : List Tree} → Derives (over grammar) (rule r.Typespec) s ts xs new rest → s.brackets ≡ []
      → IsOwing new rest → (w : ℕ) → w < s.reading.waiting → lacks_enumeration w (listed true s.reading.typed) s ts ≡ true
  typespec_braces {s = s} (Derives.a_rule (Derives.left (Derives.a_word {t = t} {ts = us} e))) b h w l = lacks_type w true s.reading.typed s s t us e ∙ owed_behind s us h w l
  typespec_braces {rest = rest} (Derives.a_rule (Derives.right (Derives.left d))) b h w l = struct_braces d b (subst (λ z. IsOwing z rest) (struct_scopes d b) h) w l
  typespec_braces {rest = rest} (Derives.a_rule (Derives.right (Derives.right (Derives.left d)))) b h w l = enum_braces d b (subst (λ z. IsOwing z rest) (enum_scopes d b) h) w l
  typespec_braces {s = s} (Derives.a_rule (Derives.right (Derives.right (Derives.right (Derives.left (Derives.a_word {t = t} {ts = us} e)))))) b h w l =
      lacks_name w true s s t us refl e ∙ owed_behind s us h w l
  typespec_braces {s = s} {rest = rest} (Derives.a_rule (Derives.right (Derives.right (Derives.right (Derives.right d))))) b h w l =
      typeof_lacks w true s.reading.typed s b d ∙ owed_behind s rest (subst (λ z. IsOwing z rest) (typeof_scopes d b) h) w l

  enum_braces : {s new : Scopes} {ts rest : List Terminal} {xs : List Tree} → Derives (over grammar) (rule r.Enum) s ts xs new rest → s.brackets ≡ []
      → IsOwing (behind_type s) rest → (w : ℕ) → w < s.reading.waiting → lacks_enumeration w (listed true s.reading.typed) s ts ≡ true
  enum_braces {s = s} {rest = rest} (Derives.a_rule (Derives.both (Derives.a_word {t = t} {ts = us} e) (Derives.both {mid = m} {later = vs} a d _) _)) b h w l =
      let i = attributes_scopes a b in
      let p : m.entries ≡ s.entries = ap (λ z. z.entries) i in
      let q : m.reading.waiting ≡ s.reading.waiting = ap (λ z. z.reading.waiting) i in
      lacks_enum w true s.reading.typed s s t us e ∙ (lacks_over_attributes w false s b (attributes_parsed a) ∙ shifted s m w (BehindHead false) vs p
      (choice_braces d (ap (λ z. z.brackets) i ∙ b) (λ v j. shifted m s v (Between true) rest (sym p) (owed_behind s rest h v (less_as m.reading.waiting s.reading.waiting v q j))) (members_alike (behind_type s) m rest p ∙ h.named) w (less_as s.reading.waiting m.reading.waiting w (sym q) l)))

  choice_braces : {m new : Scopes} {ts rest : List Terminal} {xs : List Tree} → Derives (over grammar) grammar_choice m ts xs new rest → m.brackets ≡ []
      → ((w : ℕ) → w < m.reading.waiting → lacks_enumeration w (Between true) m rest ≡ true) → opens_members m rest ≡ false → (w : ℕ) → w < m.reading.waiting
      → lacks_enumeration w (BehindHead false) m ts ≡ true
  choice_braces (Derives.left (Derives.both Derives.skip d _)) b h n w l = (based_owes d b h).headed w l
  choice_braces {m = m} {rest = rest} (Derives.left (Derives.both (Derives.take (Derives.a_word {t = g} {ts = us} e)) d _)) b h n w l =
      lacks_enum_tag w m m g us e ∙ shifted m (after act.TypeSpecifier m g) w (Between true) us refl
      ((based_owes d b (λ v j. shifted (after act.TypeSpecifier m g) m v (Between true) rest refl (h v j))).tagged w (less_suc m.reading.waiting w l))
  choice_braces {m = m} (Derives.right (Derives.both (Derives.a_word {t = g} {ts = us} e) Derives.skip _)) b h n w l = lacks_enum_tag w m m g us e ∙ h w l
  choice_braces {m = m} (Derives.right (Derives.both (Derives.a_word {t = g} {ts = us} e) (Derives.take (Derives.both (Derives.a_word {t = u} {ts = ws} c) q _)) _)) b h n w l =
      let s = after act.Pass (after act.TypeSpecifier m g) u in
      lacks_enum_tag w m m g us e ∙ (lacks_tag_colon w m (after act.TypeSpecifier m g) u ws c ∙ shifted m s w BehindColon ws refl ((squals_back q b (silent_end m s q b refl refl h n)).braces w l))

  pub based_owes : {m new : Scopes} {ts rest : List Terminal} {xs : List Tree} → Derives (over grammar) (grammar_based then grammar_braced) m ts xs new rest
      → m.brackets ≡ [] → ((w : ℕ) → w < m.reading.waiting → lacks_enumeration w (Between true) m rest ≡ true) → IsBased m ts
  based_owes {m = m} (Derives.both Derives.skip d _) b h = record {
    tagged = λ w l. by_braces m m (Between true) m.reading.waiting (between_takes true m) b refl d h w l;
    headed = λ w l. own_lack w m b d ∙ h w l;
    comes = rw (braces_seen d) refl;
  }
  based_owes {m = m} (Derives.both (Derives.take (Derives.both (Derives.a_word {t = u} {ts = us} c) q _)) d _) b h =
      let s = after act.AwaitBraces m u in
      let i = squals_back q b (taking_end m u q d b h) in
      record {
        tagged = λ w l. lacks_tag_colon w m m u us c ∙ shifted m s w BehindColon us refl (i.braces w (plus_one m.reading.waiting w l));
        headed = λ w l. lacks_head_colon w m m u us c ∙ shifted m s (suc w) BehindColon us refl (i.braces (suc w) (suc_plus_one m.reading.waiting w l));
        comes = rw (colon_kind m u c) (or_true (u.kind == k.OpenBrace));
      }
