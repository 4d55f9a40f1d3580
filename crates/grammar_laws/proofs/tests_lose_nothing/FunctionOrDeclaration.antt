-- The test that tells a function from a declaration loses nothing.
use Rattle.std.proofs.Common.{◌≡◌, ℕ, Bool, true, false, List, [], ◌∷◌, refl, sym, ap, subst, ◌∙◌}
use mathlib.Core.Logic.{inl, inr}
use Rattle.model_grammar.specs.declared.grammar.Rule.TheVariants as r
use Rattle.model_grammar.specs.declared.grammar.Act.TheVariants as act
use Rattle.model_grammar.specs.declared.grammar.Test.TheVariants as test
use Rattle.model_grammar.specs.declared.grammar.Terminal.{Terminal}
use Rattle.model_grammar.specs.declared.grammar.Within.TheVariants.{Between}
use Rattle.model_grammar.specs.declared.grammar.Tree.{Tree}
use Rattle.model_grammar.specs.GrammarForm.{Form, word, rule, when, maybe, many, ◌then◌, ◌or◌, mem}
use Rattle.model_grammar.specs.Grammar.{grammar, token}
use Rattle.model_grammar.specs.Terminals as k
use Rattle.model_grammar.specs.NameScopes.{Scopes, kind}
use Rattle.model_grammar.specs.Derivation.{Derives, Begins}
use Rattle.grammar_laws.specs.FirstTokens.{nullable, first}
use Rattle.grammar_laws.specs.apparatus.DecidedTable.{within, apart}
use Rattle.grammar_laws.specs.ParserWalk.{ahead}
use Rattle.grammar_laws.specs.ParserTable.{table}
use Rattle.grammar_laws.specs.ParserSets.{tables, firsts, hollow}
use Rattle.grammar_laws.specs.ParserTests.{parsed, past_attributes, sees, specifies, may_come, sees_function, past_specifiers, past_declarator}
use Rattle.grammar_laws.proofs.kinds.KindSets.{within_mem}
use Rattle.grammar_laws.proofs.walks.DecidedDerivations.{entry, begun}
use Rattle.grammar_laws.proofs.walks.ParserDecided.{quiet, checked}
use Rattle.grammar_laws.proofs.kinds.TokenKinds.{is_it, absent}
use Rattle.grammar_laws.proofs.derivations.ClearBrackets.{is_balanced}
use Rattle.grammar_laws.proofs.scans.PastAttributes.{over_attribute, over_attributes, none_left}
use Rattle.grammar_laws.proofs.scans.PastSpecifiers.{IsSame, specifiers_over, specifiers_same, specifiers_end, behind}
use Rattle.grammar_laws.proofs.scans.PastDeclarators.{declarator_over, declarator_end, following}
use Rattle.grammar_laws.proofs.scans.BehindAttributes.{missing, no_attribute, open_behind, specified, specifiers_plain, comes, comes_not, no_end}
use Rattle.grammar_laws.proofs.tests_lose_nothing.Declaration.{declares}
use Rattle.grammar_laws.proofs.tests_lose_nothing.LosesNothing.{TestsLoseNothing, begins_with}

-- the scans stand behind the specifiers
record IsThere (s m : Scopes) (ts rest : List Terminal) : Type 0 where
  pub seen : sees_function s ts ≡ sees k.OpenBrace (past_declarator 0 rest)
  pub clear : m.brackets ≡ []

there : {s mid m : Scopes} {ts later rest : List Terminal} {xs ys : List Tree} → s.brackets ≡ [] → Derives parsed (rule r.Attrs) s ts xs mid later
    → Derives parsed (rule r.Specs) mid later ys m rest → mem (ahead tables parsed m rest) behind ≡ true → IsThere s m ts rest
unfolding hollow
there {s = s} {mid = mid} {m = m} {ts = ts} {later = later} {rest = rest} c a d h =
    let f = begins_with refl d in
    let b = open_behind (firsts r.Specs) specifiers_plain c a f in
    let i : IsSame s mid = record { entries = ap (λ z. z.entries) b.state; clear = ap (λ z. z.brackets) b.state ∙ c } in
    let w = specifiers_over s i d in
    let j = specifiers_same s i d in
    let n : may_come r.Specs s (past_attributes 0 ts) ≡ true =
    subst (λ z. may_come r.Specs s z ≡ true) (sym b.past) (comes r.Specs s later (subst (λ z. mem (ahead tables parsed z later) (firsts r.Specs) ≡ true) b.state f) no_end) in
    let p : past_specifiers (Between s.reading.typed) s (past_attributes 0 ts) ≡ rest =
    ap (λ z. past_specifiers (Between s.reading.typed) s z) b.past ∙ (ap (λ z. past_specifiers (Between z.reading.typed) s later) (sym b.state) ∙ (w ∙ specifiers_end s m rest j h)) in
    record { seen = rw n (ap (λ z. sees k.OpenBrace (past_declarator 0 z)) p); clear = j.clear }

declared_first : within tables (firsts r.Declared) behind ≡ true
unfolding within mem firsts
declared_first = refl

-- behind the declarator
declared_then : {s mid m n : Scopes} {ts later more rest : List Terminal} {xs ys zs : List Tree} → s.brackets ≡ []
    → Derives parsed (rule r.Attrs) s ts xs mid later → Derives parsed (rule r.Specs) mid later ys m more → Derives parsed (rule r.Declared) m more zs n rest
    → mem (ahead tables parsed n rest) following ≡ true → sees_function s ts ≡ sees k.OpenBrace rest
unfolding hollow table
declared_then {m = m} {n = n} {more = more} {rest = rest} c a d (Derives.a_rule e) h =
    let t = there c a d (within_mem tables _ (firsts r.Declared) behind declared_first (begins_with {n = r.Declared} refl (Derives.a_rule e))) in
    t.seen ∙ ap (λ z. sees k.OpenBrace z) (declarator_over t.clear e ∙ declarator_end n rest h)

abbrev behind_object : List ℕ
behind_object = k.Comma ∷ k.Semicolon ∷ k.Equals ∷ []

object_follows : within tables behind_object following ≡ true
unfolding within mem
object_follows = refl

body_follows : within tables (firsts r.Body) following ≡ true
unfolding within mem firsts
body_follows = refl

no_body : (s : Scopes) (ts : List Terminal) → mem (ahead tables parsed s ts) behind_object ≡ true → sees k.OpenBrace ts ≡ false
unfolding mem
no_body s ts h = missing behind_object k.OpenBrace refl refl refl refl s ts h

body_seen : (s : Scopes) (ts : List Terminal) → mem (ahead tables parsed s ts) (firsts r.Body) ≡ true → sees k.OpenBrace ts ≡ true
unfolding ahead mem firsts
body_seen s [] h = absurd (cc)
body_seen s (t ∷ ts) h = is_it k.OpenBrace (refl, refl, refl, refl, refl) s t h

pub function_seen : {s mid m n : Scopes} {ts later more rest : List Terminal} {xs ys zs : List Tree} → s.brackets ≡ []
    → Derives parsed (rule r.Attrs) s ts xs mid later → Derives parsed (rule r.Specs) mid later ys m more → Derives parsed (rule r.Declared) m more zs n rest
    → mem (ahead tables parsed n rest) (firsts r.Body) ≡ true → sees_function s ts ≡ true
function_seen {n = n} {rest = rest} c a d e h = declared_then c a d e (within_mem tables _ (firsts r.Body) following body_follows h) ∙ body_seen n rest h

object_seen : {s mid m n : Scopes} {ts later more rest : List Terminal} {xs ys zs : List Tree} → s.brackets ≡ []
    → Derives parsed (rule r.Attrs) s ts xs mid later → Derives parsed (rule r.Specs) mid later ys m more → Derives parsed (rule r.Declared) m more zs n rest
    → mem (ahead tables parsed n rest) behind_object ≡ true → sees_function s ts ≡ false
object_seen {n = n} {rest = rest} c a d e h = declared_then c a d e (within_mem tables _ behind_object following object_follows h) ∙ no_body n rest h

end_behind : (s : Scopes) (t : Terminal) → mem (kind s t) (k.Semicolon ∷ []) ≡ true → mem (kind s t) behind ≡ true
unfolding within mem
end_behind s t e = within_mem tables (kind s t) (k.Semicolon ∷ []) behind refl e

end_follows : (s : Scopes) (t : Terminal) → mem (kind s t) (k.Semicolon ∷ []) ≡ true → mem (kind s t) following ≡ true
unfolding within mem
end_follows s t e = within_mem tables (kind s t) (k.Semicolon ∷ []) following refl e

no_brace : (s : Scopes) (t : Terminal) (ts : List Terminal) → mem (kind s t) (k.Semicolon ∷ []) ≡ true → sees k.OpenBrace (t ∷ ts) ≡ false
unfolding mem
no_brace s t ts e = absent (k.Semicolon ∷ []) k.OpenBrace refl refl refl refl s t e

-- no declarator
bare_seen : {s mid m : Scopes} {ts later us : List Terminal} {u : Terminal} {xs ys : List Tree} → s.brackets ≡ []
    → Derives parsed (rule r.Attrs) s ts xs mid later → Derives parsed (rule r.Specs) mid later ys m (u ∷ us) → mem (kind m u) (k.Semicolon ∷ []) ≡ true
    → sees_function s ts ≡ false
unfolding ahead
bare_seen {m = m} {us = us} {u = u} c a d e =
    let t = there c a d (end_behind m u e) in
    t.seen ∙ (ap (λ z. sees k.OpenBrace z) (declarator_end m (u ∷ us) (end_follows m u e)) ∙ no_brace m u us e)

unspecified : (s : Scopes) (ts : List Terminal) → specifies s ts ≡ false → sees_function s ts ≡ false
unspecified s ts h = rw h refl

no_assertion : apart tables (firsts r.Sassert) (firsts r.Specs) ≡ true
unfolding apart mem firsts
no_assertion = refl

assertion_seen : (s : Scopes) (ts : List Terminal) → mem (ahead tables parsed s ts) (firsts r.Sassert) ≡ true → sees_function s ts ≡ false
unfolding mem firsts
assertion_seen s ts h =
    let p = none_left ts (no_attribute ts (missing (firsts r.Sassert) k.OpenBracket refl refl refl refl s ts h)) in
    unspecified s ts (subst (λ z. may_come r.Specs s z ≡ false) (sym p) (comes_not (firsts r.Sassert) no_assertion s ts h))

ends_apart : apart tables (k.Semicolon ∷ []) (firsts r.Specs) ≡ true
unfolding apart mem firsts
ends_apart = refl

attributes_seen : {s m mid : Scopes} {ts more us : List Terminal} {u : Terminal} {xs ys : List Tree} → s.brackets ≡ []
    → Derives parsed (rule r.Attr) s ts xs m more → Derives parsed (rule r.Attrs) m more ys mid (u ∷ us) → mem (kind mid u) (k.Semicolon ∷ []) ≡ true
    → sees_function s ts ≡ false
unfolding mem ahead
attributes_seen {s = s} {mid = mid} {ts = ts} {us = us} {u = u} c d e w =
    let p = over_attribute c d in
    let q = over_attributes (ap (λ z. z.brackets) p.state ∙ c) e in
    let n = none_left (u ∷ us) (no_attribute (u ∷ us) (absent (k.Semicolon ∷ []) k.OpenBracket refl refl refl refl mid u w)) in
    let g : past_attributes 0 ts ≡ u ∷ us = p.scanned ∙ (q.scanned ∙ n) in
    unspecified s ts
    (subst (λ z. may_come r.Specs s z ≡ false) (sym g) (comes_not (k.Semicolon ∷ []) ends_apart s (u ∷ us) (subst (λ z. mem (ahead tables parsed z (u ∷ us)) (k.Semicolon ∷ []) ≡ true) (q.state ∙ p.state) w)))

abbrev commas : Form
commas = many (word (k.Comma ∷ []) act.NextDeclarator then rule r.Initdecl)

abbrev value : Form
value = maybe (token k.Equals then rule r.Init)

-- what stands behind the first declarator of a declaration
value_follows : {n m o : Scopes} {ts later : List Terminal} {u : Terminal} {us : List Terminal} {xs ys : List Tree} → Derives parsed value n ts xs m later
    → Derives parsed commas m later ys o (u ∷ us) → mem (kind o u) (k.Semicolon ∷ []) ≡ true → mem (ahead tables parsed n ts) behind_object ≡ true
unfolding ahead mem within
value_follows {n = n} (Derives.take (Derives.both (Derives.a_word {t = t} e) d _)) l w = within_mem tables (kind n t) (k.Equals ∷ []) behind_object refl e
value_follows {n = n} Derives.skip (Derives.turn (Derives.both (Derives.a_word {t = t} e) d _) x _) w = within_mem tables (kind n t) (k.Comma ∷ []) behind_object refl e
value_follows {o = o} {u = u} Derives.skip Derives.stop w = within_mem tables (kind o u) (k.Semicolon ∷ []) behind_object refl w

abbrev choice : Form
choice = when test.FunctionAhead (rule r.Function) (rule r.Declaration)

choice_derived : {s new : Scopes} {ts rest : List Terminal} {xs : List Tree} → s.brackets ≡ []
    → Derives parsed (rule r.Function or rule r.Declaration) s ts xs new rest → Derives parsed choice s ts xs new rest
unfolding table hollow
choice_derived c (Derives.left (Derives.a_rule (Derives.both a (Derives.both d (Derives.both e x q3) q2) q1))) =
    Derives.chosen (function_seen c a d e (begins_with refl x)) (Derives.a_rule (Derives.both a (Derives.both d (Derives.both e x q3) q2) q1))
choice_derived c (Derives.right (Derives.a_rule (Derives.chosen b (Derives.both a (Derives.both d (Derives.both Derives.skip (Derives.a_word w) q3) q2) q1)))) = Derives.other (bare_seen c a d w) (Derives.a_rule (Derives.chosen b (Derives.both a (Derives.both d (Derives.both Derives.skip (Derives.a_word w) q3) q2) q1)))
choice_derived c
    (Derives.right (Derives.a_rule (Derives.chosen b (Derives.both a (Derives.both d (Derives.both (Derives.take (Derives.both (Derives.a_rule (Derives.both e v q6)) l q5)) (Derives.a_word w) q3) q2) q1)))) =
    Derives.other (object_seen c a d e (value_follows v l w))
    (Derives.a_rule (Derives.chosen b (Derives.both a (Derives.both d (Derives.both (Derives.take (Derives.both (Derives.a_rule (Derives.both e v q6)) l q5)) (Derives.a_word w) q3) q2) q1)))
choice_derived {s = s} {ts = ts} c (Derives.right (Derives.a_rule (Derives.other b (Derives.left d)))) =
    Derives.other (assertion_seen s ts (begins_with refl d)) (Derives.a_rule (Derives.other b (Derives.left d)))
choice_derived c (Derives.right (Derives.a_rule (Derives.other b (Derives.right (Derives.both d (Derives.both e (Derives.a_word w) q2) q1))))) =
    Derives.other (attributes_seen c d e w) (Derives.a_rule (Derives.other b (Derives.right (Derives.both d (Derives.both e (Derives.a_word w) q2) q1))))

clash_of : (b : Bool) → b ≡ true → b ≡ false → ⊥
clash_of b p q = cc

-- where no function is seen, what one begins a declaration does
as_declaration : {s : Scopes} {ts rest : List Terminal} → s.brackets ≡ [] → sees_function s ts ≡ false → Begins parsed (rule r.Function) s ts rest → Begins parsed (rule r.Declaration) s ts rest
unfolding table first hollow nullable
as_declaration c n Begins.yet = Begins.yet
as_declaration c n (Begins.in_rule Begins.yet) = Begins.yet
as_declaration c n (Begins.in_rule (Begins.in_first a)) = declares a
as_declaration c n (Begins.in_rule (Begins.in_then a Begins.yet)) = declares (begun tables parsed quiet checked a)
as_declaration {s = s} {ts = ts} c n (Begins.in_rule (Begins.in_then a (Begins.in_first d))) = elim (entry tables parsed quiet checked d) [
  | inl m ↦ Begins.in_rule (Begins.in_chosen (specified c a m.begun) (Begins.in_then a (Begins.in_first d)))
  | inr h ↦ subst (λ z. Begins parsed (rule r.Declaration) s ts z) (sym h) (declares (begun tables parsed quiet checked a))
]
as_declaration c n (Begins.in_rule (Begins.in_then a (Begins.in_then d Begins.yet))) =
    Begins.in_rule (Begins.in_chosen (specified c a (begins_with refl d)) (Begins.in_then a (Begins.in_then d Begins.yet)))
as_declaration c n (Begins.in_rule (Begins.in_then a (Begins.in_then d (Begins.in_first e)))) =
    Begins.in_rule
    (Begins.in_chosen (specified c a (begins_with refl d)) (Begins.in_then a (Begins.in_then d (Begins.in_first (Begins.in_maybe (Begins.in_first (Begins.in_rule (Begins.in_first e))))))))
as_declaration {s = s} {ts = ts} c n (Begins.in_rule (Begins.in_then a (Begins.in_then d (Begins.in_then e x)))) = elim (entry tables parsed quiet checked x) [
  | inl m ↦ absurd (clash_of (sees_function s ts) (function_seen c a d e m.begun) n)
  | inr h ↦
      subst (λ z. Begins parsed (rule r.Declaration) s ts z) (sym h)
      (Begins.in_rule (Begins.in_chosen (specified c a (begins_with refl d)) (Begins.in_then a (Begins.in_then d (Begins.in_first (Begins.in_maybe (Begins.in_first (Begins.in_rule (Begins.in_first (begun tables parsed quiet checked e))))))))))
]

equals_object : (s : Scopes) (ts : List Terminal) → mem (ahead tables parsed s ts) (k.Equals ∷ []) ≡ true → mem (ahead tables parsed s ts) behind_object ≡ true
unfolding within mem
equals_object s ts e = within_mem tables _ (k.Equals ∷ []) behind_object refl e

comma_object : (s : Scopes) (ts : List Terminal) → mem (ahead tables parsed s ts) (k.Comma ∷ []) ≡ true → mem (ahead tables parsed s ts) behind_object ≡ true
unfolding within mem
comma_object s ts e = within_mem tables _ (k.Comma ∷ []) behind_object refl e

value_object : {s new : Scopes} {ts rest : List Terminal} {xs : List Tree} → Derives parsed (token k.Equals then rule r.Init) s ts xs new rest → mem (ahead tables parsed s ts) behind_object ≡ true
unfolding ahead
value_object {s = s} (Derives.both (Derives.a_word {t = t} {ts = us} e) d _) = equals_object s (t ∷ us) e

-- where one is seen, what a declaration begins a function does
in_function : {s mid m : Scopes} {ts later more rest : List Terminal} {xs ys : List Tree} → Derives parsed (rule r.Attrs) s ts xs mid later
    → Derives parsed (rule r.Specs) mid later ys m more → Begins parsed (rule r.Declared) m more rest → Begins parsed (rule r.Function) s ts rest
unfolding table
in_function a d e = Begins.in_rule (Begins.in_then a (Begins.in_then d (Begins.in_first e)))

first_object : {s mid m : Scopes} {ts later more rest : List Terminal} {xs ys : List Tree} → s.brackets ≡ [] → sees_function s ts ≡ true
    → Derives parsed (rule r.Attrs) s ts xs mid later → Derives parsed (rule r.Specs) mid later ys m more → Begins parsed (rule r.Initdecl) m more rest
    → Begins parsed (rule r.Function) s ts rest
unfolding table first nullable
first_object c n a d Begins.yet = in_function a d Begins.yet
first_object c n a d (Begins.in_rule Begins.yet) = in_function a d Begins.yet
first_object c n a d (Begins.in_rule (Begins.in_first e)) = in_function a d e
first_object c n a d (Begins.in_rule (Begins.in_then e Begins.yet)) = in_function a d (begun tables parsed quiet checked e)
first_object {s = s} {ts = ts} c n a d (Begins.in_rule (Begins.in_then {mid = o} {later = us} e (Begins.in_maybe v))) = elim (entry tables parsed quiet checked v) [
  | inl z ↦ absurd (clash_of (sees_function s ts) n (object_seen c a d e (equals_object o us z.begun)))
  | inr h ↦ subst (λ z. Begins parsed (rule r.Function) s ts z) (sym h) (in_function a d (begun tables parsed quiet checked e))
]

-- behind a first object
more_objects : {s mid m o : Scopes} {ts later more us rest : List Terminal} {xs ys zs : List Tree} → s.brackets ≡ [] → sees_function s ts ≡ true
    → Derives parsed (rule r.Attrs) s ts xs mid later → Derives parsed (rule r.Specs) mid later ys m more → Derives parsed (rule r.Initdecl) m more zs o us
    → Begins parsed commas o us rest → Begins parsed (rule r.Function) s ts rest
unfolding table first nullable
more_objects {s = s} {ts = ts} c n a d (Derives.a_rule (Derives.both e (Derives.take v) _)) l = absurd (clash_of (sees_function s ts) n (object_seen c a d e (value_object v)))
more_objects {s = s} {o = o} {ts = ts} {us = us} c n a d (Derives.a_rule (Derives.both e Derives.skip _)) l = elim (entry tables parsed quiet checked l) [
  | inl z ↦ absurd (clash_of (sees_function s ts) n (object_seen c a d e (comma_object o us z.begun)))
  | inr h ↦ subst (λ z. Begins parsed (rule r.Function) s ts z) (sym h) (in_function a d (begun tables parsed quiet checked e))
]

all_objects : {s mid m o p : Scopes} {ts later more us vs : List Terminal} {xs ys zs ws : List Tree} → s.brackets ≡ [] → sees_function s ts ≡ true
    → Derives parsed (rule r.Attrs) s ts xs mid later → Derives parsed (rule r.Specs) mid later ys m more → Derives parsed (rule r.Initdecl) m more zs o us
    → Derives parsed commas o us ws p vs → Begins parsed (rule r.Function) s ts vs
unfolding table ahead
all_objects {s = s} {ts = ts} c n a d (Derives.a_rule (Derives.both e (Derives.take v) _)) l = absurd (clash_of (sees_function s ts) n (object_seen c a d e (value_object v)))
all_objects c n a d (Derives.a_rule (Derives.both e Derives.skip _)) Derives.stop = in_function a d (begun tables parsed quiet checked e)
all_objects {s = s} {o = o} {ts = ts} c n a d (Derives.a_rule (Derives.both e Derives.skip _)) (Derives.turn (Derives.both (Derives.a_word {t = t} {ts = us} w) x _) y _) = absurd (clash_of (sees_function s ts) n (object_seen c a d e (comma_object o (t ∷ us) w)))

as_function : {s : Scopes} {ts rest : List Terminal} → s.brackets ≡ [] → sees_function s ts ≡ true → Begins parsed (rule r.Declaration) s ts rest → Begins parsed (rule r.Function) s ts rest
unfolding table first
as_function c n Begins.yet = Begins.yet
as_function c n (Begins.in_rule Begins.yet) = Begins.yet
as_function c n (Begins.in_rule (Begins.in_chosen b Begins.yet)) = Begins.yet
as_function c n (Begins.in_rule (Begins.in_chosen b (Begins.in_first a))) = Begins.in_rule (Begins.in_first a)
as_function c n (Begins.in_rule (Begins.in_chosen b (Begins.in_then a Begins.yet))) = Begins.in_rule (Begins.in_then a Begins.yet)
as_function c n (Begins.in_rule (Begins.in_chosen b (Begins.in_then a (Begins.in_first d)))) = Begins.in_rule (Begins.in_then a (Begins.in_first d))
as_function c n (Begins.in_rule (Begins.in_chosen b (Begins.in_then a (Begins.in_then d Begins.yet)))) = Begins.in_rule (Begins.in_then a (Begins.in_then d Begins.yet))
as_function c n (Begins.in_rule (Begins.in_chosen b (Begins.in_then a (Begins.in_then d (Begins.in_first Begins.yet))))) = Begins.in_rule (Begins.in_then a (Begins.in_then d Begins.yet))
as_function c n (Begins.in_rule (Begins.in_chosen b (Begins.in_then a (Begins.in_then d (Begins.in_first (Begins.in_maybe Begins.yet)))))) =
    Begins.in_rule (Begins.in_then a (Begins.in_then d Begins.yet))
as_function c n (Begins.in_rule (Begins.in_chosen b (Begins.in_then a (Begins.in_then d (Begins.in_first (Begins.in_maybe (Begins.in_first i))))))) = first_object c n a d i
as_function c n (Begins.in_rule (Begins.in_chosen b (Begins.in_then a (Begins.in_then d (Begins.in_first (Begins.in_maybe (Begins.in_then i l))))))) = more_objects c n a d i l
as_function c n (Begins.in_rule (Begins.in_chosen b (Begins.in_then a (Begins.in_then d (Begins.in_then Derives.skip Begins.yet))))) = Begins.in_rule (Begins.in_then a (Begins.in_then d Begins.yet))
as_function {s = s} {ts = ts} c n (Begins.in_rule (Begins.in_chosen b (Begins.in_then a (Begins.in_then d (Begins.in_then Derives.skip (Begins.in_word w)))))) = absurd (clash_of (sees_function s ts) n (bare_seen c a d w))
as_function c n (Begins.in_rule (Begins.in_chosen b (Begins.in_then a (Begins.in_then d (Begins.in_then (Derives.take (Derives.both i l _)) Begins.yet))))) = all_objects c n a d i l
as_function {s = s} {ts = ts} c n (Begins.in_rule (Begins.in_chosen b (Begins.in_then a (Begins.in_then d (Begins.in_then (Derives.take (Derives.both (Derives.a_rule (Derives.both e v _)) l _)) (Begins.in_word w)))))) = absurd (clash_of (sees_function s ts) n (object_seen c a d e (value_follows v l w)))
as_function c n (Begins.in_rule (Begins.in_other b Begins.yet)) = Begins.yet
as_function {s = s} {ts = ts} c n (Begins.in_rule (Begins.in_other b (Begins.in_left d))) = elim (entry tables parsed quiet checked d) [
  | inl m ↦ absurd (clash_of (sees_function s ts) n (assertion_seen s ts m.begun))
  | inr h ↦ subst (λ z. Begins parsed (rule r.Function) s ts z) (sym h) Begins.yet
]
as_function c n (Begins.in_rule (Begins.in_other b (Begins.in_right Begins.yet))) = Begins.yet
as_function c n (Begins.in_rule (Begins.in_other b (Begins.in_right (Begins.in_first d)))) = Begins.in_rule (Begins.in_first (Begins.in_rule (Begins.in_turn d)))
as_function c n (Begins.in_rule (Begins.in_other b (Begins.in_right (Begins.in_then d Begins.yet)))) = Begins.in_rule (Begins.in_first (Begins.in_rule (Begins.in_later d Begins.yet)))
as_function c n (Begins.in_rule (Begins.in_other b (Begins.in_right (Begins.in_then d (Begins.in_first Begins.yet))))) =
    Begins.in_rule (Begins.in_first (Begins.in_rule (Begins.in_later d Begins.yet)))
as_function c n (Begins.in_rule (Begins.in_other b (Begins.in_right (Begins.in_then d (Begins.in_first (Begins.in_rule e)))))) = Begins.in_rule (Begins.in_first (Begins.in_rule (Begins.in_later d e)))
as_function c n (Begins.in_rule (Begins.in_other b (Begins.in_right (Begins.in_then d (Begins.in_then (Derives.a_rule e) Begins.yet))))) =
    Begins.in_rule (Begins.in_first (Begins.in_rule (Begins.in_later d (begun tables parsed quiet checked e))))
as_function {s = s} {ts = ts} c n (Begins.in_rule (Begins.in_other b (Begins.in_right (Begins.in_then d (Begins.in_then e (Begins.in_word w)))))) =
    absurd (clash_of (sees_function s ts) n (attributes_seen c d e w))

choice_begun : {s : Scopes} {ts rest : List Terminal} (b : Bool) → sees_function s ts ≡ b → s.brackets ≡ []
    → Begins parsed (rule r.Function or rule r.Declaration) s ts rest → Begins parsed choice s ts rest
choice_begun b n c Begins.yet = Begins.yet
choice_begun true n c (Begins.in_left d) = Begins.in_chosen n d
choice_begun true n c (Begins.in_right d) = Begins.in_chosen n (as_function c n d)
choice_begun false n c (Begins.in_left d) = Begins.in_other n (as_declaration c n d)
choice_begun false n c (Begins.in_right d) = Begins.in_other n d

derived : (s new : Scopes) (ts rest : List Terminal) (xs : List Tree) → s.brackets ≡ [] → Derives parsed (grammar r.External) s ts xs new rest → Derives parsed (table r.External) s ts xs new rest
unfolding grammar table
derived s new ts rest xs c d = choice_derived c d

fronts : (s : Scopes) (ts rest : List Terminal) → s.brackets ≡ [] → Begins parsed (grammar r.External) s ts rest → Begins parsed (table r.External) s ts rest
unfolding grammar table
fronts s ts rest c d = choice_begun (sees_function s ts) refl c d

pub external : TestsLoseNothing r.External
unfolding is_balanced
external = record { derived = λ s new ts rest xs c d h. record { trees = xs; is = derived s new ts rest xs (c refl) d }; begun = λ s ts rest c d. fronts s ts rest (c refl) d }
