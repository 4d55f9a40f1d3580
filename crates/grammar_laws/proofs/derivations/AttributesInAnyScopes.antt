-- Attributes are derived, and begun, whatever the scopes are, where no bracket is held open before them.
use Rattle.std.proofs.Common.{◌≡◌, ℕ, Bool, true, false, ◌&&◌, List, [], ◌∷◌, refl, sym, ap, subst, ◌∙◌}
use Rattle.std.specs.Prelude.{◌==◌}
use Rattle.model_grammar.specs.declared.grammar.Rule.{Rule}
use Rattle.model_grammar.specs.declared.grammar.Rule.TheVariants as r
use Rattle.model_grammar.specs.declared.grammar.Act.{Act}
use Rattle.model_grammar.specs.declared.grammar.Act.TheVariants as act
use Rattle.model_grammar.specs.declared.grammar.Terminal.{Terminal}
use Rattle.model_grammar.specs.declared.grammar.Tree.{Tree}
use Rattle.model_grammar.specs.GrammarForm.{Form, word, rule, empty, ◌then◌, ◌or◌, maybe, many, when, loop, mem}
use Rattle.model_grammar.specs.NameScopes.{Scopes, kind, after, close, is_type, bracket_kind}
use Rattle.model_grammar.specs.Derivation.{Derives, Begins}
use Rattle.model_grammar.specs.Terminals as k
use Rattle.grammar_laws.specs.ParserTable.{table}
use Rattle.grammar_laws.specs.ParserTests.{parsed}
use Rattle.grammar_laws.proofs.kinds.KindSets.{and_left, and_right}
use Rattle.grammar_laws.proofs.derivations.KeptScopes.{same, same_bool}
use Rattle.grammar_laws.proofs.walks.ParserDecided.{either_name}
use Rattle.grammar_laws.proofs.scans.PastAttributes.{over_attributes}

-- the act changes the brackets that are held open, and nothing else
unfoldable pub is_held : Act → Bool
is_held act.Keep = true
is_held act.OpenBalanced = true
is_held act.CloseBalanced = true
is_held _ = false

unfoldable pub is_attribute : Rule → Bool
is_attribute r.Attrs = true
is_attribute r.Attr = true
is_attribute r.Balanced = true
is_attribute _ = false

-- tokens of attributes alone: identifiers of all kinds or of none
unfoldable pub attributed : Form → Bool
attributed (word ks a) = is_held a && (same (mem k.Name ks) (mem k.TypedefName ks) && same (mem k.TypedefName ks) (mem k.DeclaredName ks))
attributed (rule n) = is_attribute n
attributed empty = true
attributed (f then g) = attributed f && attributed g
attributed (f or g) = attributed f && attributed g
attributed (maybe f) = attributed f
attributed (many f) = attributed f
attributed (when p f g) = false
attributed (loop p f) = false

pub inside : (n : Rule) → is_attribute n ≡ true → attributed (table n) ≡ true
unfolding is_attribute attributed is_held same mem table
inside r.Attrs h = refl
inside r.Attr h = refl
inside r.Balanced h = refl
inside _ h = absurd (cc)

unchanged : (n : Rule) (s : Scopes) → is_attribute n ≡ true → close n s ≡ s
unfolding is_attribute
unchanged r.Attrs s h = refl
unchanged r.Attr s h = refl
unchanged r.Balanced s h = refl
unchanged _ s h = absurd (cc)

-- other scopes, with the brackets that are held open
abbrev pub bracketed : Scopes → List ℕ → Scopes
bracketed o bs = record o { brackets = bs }

held : (a : Act) (s o : Scopes) (t : Terminal) → is_held a ≡ true → after a (bracketed o s.brackets) t ≡ bracketed o (after a s t).brackets
unfolding is_held
held act.Keep s o t h = refl
held act.OpenBalanced s o t h = refl
held act.CloseBalanced s o t h = refl
held _ s o t h = absurd (cc)

pub any_scopes : (F : List ℕ) (s o : Scopes) (t : Terminal)
    → (same (mem k.Name F) (mem k.TypedefName F) && same (mem k.TypedefName F) (mem k.DeclaredName F)) ≡ true → mem (kind s t) F ≡ true
    → mem (kind (bracketed o s.brackets) t) F ≡ true
any_scopes F s o t v h =
    either_name F s.reading.typed (is_type s.entries t.name) o.reading.typed (is_type o.entries t.name) (t.kind == k.Name) (bracket_kind s.brackets t.kind)
    (same_bool _ _ (and_left _ (same (mem k.TypedefName F) (mem k.DeclaredName F)) v)) (same_bool _ _ (and_right (same (mem k.Name F) (mem k.TypedefName F)) _ v)) h

pub derived_at : (o : Scopes) {f : Form} {s new : Scopes} {ts rest : List Terminal} {xs : List Tree} → Derives parsed f s ts xs new rest → attributed f ≡ true
    → Derives parsed f (bracketed o s.brackets) ts xs (bracketed o new.brackets) rest
unfolding attributed
derived_at o {f = word ks a} {s = s} (Derives.a_word {t = t} {ts = ts} e) h =
    let v = and_right (is_held a) _ h in
    subst (λ z. Derives parsed (word ks a) (bracketed o s.brackets) (t ∷ ts) (parsed.leaf t ∷ []) z ts)
    (held a s o t (and_left _ (same (mem k.Name ks) (mem k.TypedefName ks) && same (mem k.TypedefName ks) (mem k.DeclaredName ks)) h))
    (Derives.a_word (any_scopes ks s o t v e))
derived_at o {f = rule n} {s = s} {ts = ts} {rest = rest} (Derives.a_rule {new = mid} {xs = xs} d) h =
    let q : close n (bracketed o mid.brackets) ≡ bracketed o (close n mid).brackets = unchanged n (bracketed o mid.brackets) h ∙ ap (λ z. bracketed o z.brackets) (sym (unchanged n mid h)) in
    subst (λ z. Derives parsed (rule n) (bracketed o s.brackets) ts (parsed.node n xs ∷ []) z rest) q (Derives.a_rule (derived_at o d (inside n h)))
derived_at o Derives.nothing h = Derives.nothing
derived_at o {f = f then g} (Derives.both d e q) h = Derives.both (derived_at o d (and_left _ (attributed g) h)) (derived_at o e (and_right (attributed f) _ h)) q
derived_at o {f = f or g} (Derives.left d) h = Derives.left (derived_at o d (and_left _ (attributed g) h))
derived_at o {f = f or g} (Derives.right d) h = Derives.right (derived_at o d (and_right (attributed f) _ h))
derived_at o Derives.skip h = Derives.skip
derived_at o (Derives.take d) h = Derives.take (derived_at o d h)
derived_at o Derives.stop h = Derives.stop
derived_at o {f = many f} (Derives.turn d e q) h = Derives.turn (derived_at o d h) (derived_at o e h) q
derived_at o (Derives.chosen c d) h = absurd (cc)
derived_at o (Derives.other c d) h = absurd (cc)
derived_at o (Derives.done c) h = absurd (cc)
derived_at o (Derives.again c d e q) h = absurd (cc)

pub begun_at : (o : Scopes) {f : Form} {s : Scopes} {ts rest : List Terminal} → Begins parsed f s ts rest → attributed f ≡ true → Begins parsed f (bracketed o s.brackets) ts rest
unfolding attributed
begun_at o Begins.yet h = Begins.yet
begun_at o {f = word ks a} {s = s} (Begins.in_word {t = t} e) h = Begins.in_word (any_scopes ks s o t (and_right (is_held a) _ h) e)
begun_at o {f = rule n} (Begins.in_rule d) h = Begins.in_rule (begun_at o d (inside n h))
begun_at o {f = f then g} (Begins.in_first d) h = Begins.in_first (begun_at o d (and_left _ (attributed g) h))
begun_at o {f = f then g} (Begins.in_then d e) h = Begins.in_then (derived_at o d (and_left _ (attributed g) h)) (begun_at o e (and_right (attributed f) _ h))
begun_at o {f = f or g} (Begins.in_left d) h = Begins.in_left (begun_at o d (and_left _ (attributed g) h))
begun_at o {f = f or g} (Begins.in_right d) h = Begins.in_right (begun_at o d (and_right (attributed f) _ h))
begun_at o (Begins.in_maybe d) h = Begins.in_maybe (begun_at o d h)
begun_at o (Begins.in_turn d) h = Begins.in_turn (begun_at o d h)
begun_at o {f = many f} (Begins.in_later d e) h = Begins.in_later (derived_at o d h) (begun_at o e h)
begun_at o (Begins.in_chosen c d) h = absurd (cc)
begun_at o (Begins.in_other c d) h = absurd (cc)
begun_at o (Begins.in_again c d) h = absurd (cc)
begun_at o (Begins.in_further c d e) h = absurd (cc)

pub attributes_at : {s new : Scopes} {ts rest : List Terminal} {xs : List Tree} → Derives parsed (rule r.Attrs) s ts xs new rest → s.brackets ≡ []
    → (o : Scopes) → o.brackets ≡ [] → Derives parsed (rule r.Attrs) o ts xs o rest
unfolding attributed is_attribute
attributes_at {s = s} {new = new} {ts = ts} {rest = rest} {xs = xs} d b o c =
    let q : s.brackets ≡ o.brackets = b ∙ sym c in
    let p : new.brackets ≡ o.brackets = ap (λ z. z.brackets) (over_attributes b d).state ∙ q in
    subst (λ z. Derives parsed (rule r.Attrs) (bracketed o z) ts xs o rest) q (subst (λ z. Derives parsed (rule r.Attrs) (bracketed o s.brackets) ts xs (bracketed o z) rest) p (derived_at o d refl))

pub attributes_begun_at : {s : Scopes} {ts rest : List Terminal} → Begins parsed (rule r.Attrs) s ts rest → s.brackets ≡ [] → (o : Scopes) → o.brackets ≡ [] → Begins parsed (rule r.Attrs) o ts rest
unfolding attributed is_attribute
attributes_begun_at {s = s} {ts = ts} {rest = rest} d b o c = subst (λ z. Begins parsed (rule r.Attrs) (bracketed o z) ts rest) (b ∙ sym c) (begun_at o d refl)
