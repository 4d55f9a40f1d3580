-- The scan for braces that no enumeration takes, over what the grammar derives in brackets.
use Rattle.std.proofs.Common.{◌≡◌, ℕ, suc, Bool, true, false, List, [], ◌∷◌, refl, sym, ap, ◌∙◌}
use Rattle.model_grammar.specs.declared.grammar.Rule.TheVariants as r
use Rattle.model_grammar.specs.declared.grammar.Act.TheVariants as act
use Rattle.model_grammar.specs.declared.grammar.Terminal.{Terminal}
use Rattle.model_grammar.specs.declared.grammar.Within.{Within}
use Rattle.model_grammar.specs.declared.grammar.Within.TheVariants.{Between, BehindHead, BehindTag, Group}
use Rattle.model_grammar.specs.declared.grammar.Tree.{Tree}
use Rattle.model_grammar.specs.GrammarForm.{Form, word, rule, maybe, many, ◌then◌, mem}
use Rattle.model_grammar.specs.Grammar.{grammar, token}
use Rattle.model_grammar.specs.Terminals as k
use Rattle.model_grammar.specs.NameScopes.{Scopes, after}
use Rattle.model_grammar.specs.Derivation.{Derives}
use Rattle.grammar_laws.specs.apparatus.DecidedTable.{within, apart}
use Rattle.grammar_laws.specs.ParserSets.{firsts, hollow}
use Rattle.grammar_laws.specs.ParserTests.{past_brackets, lacks_enumeration, sees, sees_name}
use Rattle.grammar_laws.proofs.derivations.ClearBrackets.{over, holds}
use Rattle.grammar_laws.proofs.derivations.BalancedForms.{even, level, fits, is_some, pred}
use Rattle.grammar_laws.proofs.derivations.BalancedGrammar.{grouped_over}
use Rattle.grammar_laws.proofs.scans.PastSpecifiers.{listed, members, members_even, members_level, operand, operand_even, operand_level, brace_kind, parenthesis_kind, as_closing, close_brace, close_parenthesis}
use Rattle.grammar_laws.proofs.enumerations.EnumeratorNames.{named, unnamed}
use Rattle.grammar_laws.proofs.derivations.FirstTokensOfGrammar.{begins_over}
use Rattle.grammar_laws.proofs.scans.ScansReadNames.{name_alike}
use Rattle.grammar_laws.proofs.enumerations.BracesScanPastBrackets.{over_group}
use Rattle.grammar_laws.proofs.enumerations.BracesScanStep.{at_typeof, head_brace, tag_brace, IsTaking}
use Rattle.grammar_laws.proofs.enumerations.BracesScanPastSpecifiers.{lacks_typeof}

-- enumerators in braces
abbrev pub listed_enumerators : Form
listed_enumerators = rule r.Enumr then many (token k.Comma then rule r.Enumr) then maybe (token k.Comma)

abbrev pub grammar_braced : Form
grammar_braced = word (k.OpenBrace ∷ []) act.Enclose then rule r.Enumr then many (token k.Comma then rule r.Enumr) then maybe (token k.Comma) then word (k.CloseBrace ∷ []) act.TypeSpecifier

enumerators_even : even listed_enumerators 0 ≡ true
unfolding even level fits is_some pred holds within apart mem
enumerators_even = refl

enumerators_level : level listed_enumerators 0 ≡ 0
unfolding level
enumerators_level = refl

inside : (w : ℕ) (base : Scopes) (us vs : List Terminal) → past_brackets 1 us ≡ vs → lacks_enumeration w (Group 1) base us ≡ lacks_enumeration w (Between true) base vs
inside w base us vs q = over_group us w 0 base ∙ ap (λ z. lacks_enumeration w (Between true) base z) q

pub typeof_lacks : (w : ℕ) (c typed : Bool) (base : Scopes) {s new : Scopes} {ts rest : List Terminal} {xs : List Tree} → s.brackets ≡ []
    → Derives (over grammar) (rule r.Typeof) s ts xs new rest → lacks_enumeration w (listed c typed) base ts ≡ lacks_enumeration w (Between true) base rest
unfolding grammar
typeof_lacks w c typed base {s = s} b
    (Derives.a_rule (Derives.both (Derives.a_word {t = t} {ts = us} e) (Derives.both (Derives.a_word {t = o} {ts = ws} eo) (Derives.both {mid = m3} d (Derives.a_word {t = v} ec) _) _) _)) =
    lacks_typeof w c typed base s t us e ∙ (at_typeof w base o ws (parenthesis_kind (after act.OpenSpecifier s t) o eo) ∙
    inside w base ws _ (grouped_over operand (after act.Enclose (after act.OpenSpecifier s t) o) m3 v operand_even operand_level b d (as_closing k.CloseParenthesis close_parenthesis m3 v ec)))

-- members in braces, behind `struct` or behind the tag
pub members_lack : (w : ℕ) (i : Bool) (base : Scopes) {s new : Scopes} {ts rest : List Terminal} {xs : List Tree} → s.brackets ≡ []
    → Derives (over grammar) (rule r.Members) s ts xs new rest → lacks_enumeration w (BehindHead i) base ts ≡ lacks_enumeration w (Between true) base rest
unfolding grammar
members_lack w i base {s = s} c (Derives.a_rule (Derives.both (Derives.a_word {t = o} {ts = ws} eo) (Derives.both m1 (Derives.both {mid = m3} m2 (Derives.a_word {t = v} ec) _) _) _)) =
    head_brace w i base o ws (brace_kind s o eo) ∙ inside w base ws _
    (grouped_over members (after act.Enclose s o) m3 v members_even members_level c (Derives.both m1 m2 refl) (as_closing k.CloseBrace close_brace m3 v ec))

pub member_unnamed_over : {s new : Scopes} {ts rest : List Terminal} {xs : List Tree} → Derives (over grammar) (rule r.Member) s ts xs new rest → sees_name s ts ≡ false
unfolding hollow firsts mem
member_unnamed_over {s = s} {ts = ts} d = unnamed (firsts r.Member) s ts refl (begins_over refl d)

pub enumerator_named_over : {s new : Scopes} {ts rest : List Terminal} {xs : List Tree} → Derives (over grammar) (rule r.Enumr) s ts xs new rest → sees_name s ts ≡ true
unfolding hollow
enumerator_named_over {s = s} {ts = ts} d = named s ts (begins_over refl d)

pub tagged_members_lack : (w : ℕ) (base : Scopes) {s new : Scopes} {ts rest : List Terminal} {xs : List Tree} → s.entries ≡ base.entries → s.brackets ≡ []
    → Derives (over grammar) (rule r.Members) s ts xs new rest → lacks_enumeration w BehindTag base ts ≡ lacks_enumeration w (Between true) base rest
unfolding grammar
tagged_members_lack w base {s = s} b c (Derives.a_rule (Derives.both (Derives.a_word {t = o} {ts = ws} eo) (Derives.both m1 (Derives.both {mid = m3} m2 (Derives.a_word {t = v} ec) _) _) _)) =
    tag_brace w base o ws (brace_kind s o eo) (sym (name_alike ws base (after act.Enclose s o) b) ∙ member_unnamed_over m1) ∙ inside w base ws _
    (grouped_over members (after act.Enclose s o) m3 v members_even members_level c (Derives.both m1 m2 refl) (as_closing k.CloseBrace close_brace m3 v ec))

-- enumerators in braces: behind `enum`, and where an enumeration with a tag, or with a type, takes them
pub own_lack : (w : ℕ) (base : Scopes) {s new : Scopes} {ts rest : List Terminal} {xs : List Tree} → s.brackets ≡ []
    → Derives (over grammar) grammar_braced s ts xs new rest → lacks_enumeration w (BehindHead false) base ts ≡ lacks_enumeration w (Between true) base rest
own_lack w base {s = s} c (Derives.both (Derives.a_word {t = o} {ts = ws} eo) (Derives.both en (Derives.both l (Derives.both {mid = m} z (Derives.a_word {t = v} ec) _) _) _) _) =
    head_brace w false base o ws (brace_kind s o eo) ∙ inside w base ws _
    (grouped_over listed_enumerators (after act.Enclose s o) m v enumerators_even enumerators_level c (Derives.both en (Derives.both l z refl) refl) (as_closing k.CloseBrace close_brace m v ec))

pub braces_lack : (w : ℕ) (place : Within) (base : Scopes) {s new : Scopes} {ts rest : List Terminal} {xs : List Tree} → IsTaking place base → s.brackets ≡ []
    → Derives (over grammar) grammar_braced s ts xs new rest → lacks_enumeration (suc w) place base ts ≡ lacks_enumeration w (Between true) base rest
braces_lack w place base {s = s} taking c (Derives.both (Derives.a_word {t = o} {ts = ws} eo) (Derives.both en (Derives.both l (Derives.both {mid = m} z (Derives.a_word {t = v} ec) _) _) _) _) =
    taking.taken w o ws (brace_kind s o eo) ∙ inside w base ws _
    (grouped_over listed_enumerators (after act.Enclose s o) m v enumerators_even enumerators_level c (Derives.both en (Derives.both l z refl) refl) (as_closing k.CloseBrace close_brace m v ec))

pub braces_lacking : (place : Within) (base : Scopes) {s new : Scopes} {ts rest : List Terminal} {xs : List Tree} → IsTaking place base
    → Derives (over grammar) grammar_braced s ts xs new rest → lacks_enumeration 0 place base ts ≡ true
braces_lacking place base {s = s} k (Derives.both (Derives.a_word {t = o} {ts = ws} eo) d _) = k.lacking o ws (brace_kind s o eo)

pub braces_seen : {s new : Scopes} {ts rest : List Terminal} {xs : List Tree} → Derives (over grammar) grammar_braced s ts xs new rest → sees k.OpenBrace ts ≡ true
braces_seen {s = s} (Derives.both (Derives.a_word {t = o} eo) d _) = brace_kind s o eo
