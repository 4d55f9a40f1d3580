-- The brackets of what the grammar derives match.
use Rattle.std.proofs.Common.{◌≡◌, suc, ◌+◌, true, List, [], ◌∷◌, length, refl, subst, ◌∙◌}
use Rattle.model_grammar.specs.declared.grammar.Rule.{Rule}
use Rattle.model_grammar.specs.declared.grammar.Rule.TheVariants as r
use Rattle.model_grammar.specs.declared.grammar.Terminal.{Terminal}
use Rattle.model_grammar.specs.declared.grammar.Tree.{Tree}
use Rattle.model_grammar.specs.GrammarForm.{Form, mem}
use Rattle.model_grammar.specs.Grammar.{grammar}
use Rattle.model_grammar.specs.NameScopes.{Scopes, kind}
use Rattle.model_grammar.specs.Derivation.{Derives}
use Rattle.grammar_laws.specs.apparatus.DecidedTable.{within, apart}
use Rattle.grammar_laws.specs.ParserTests.{past_brackets}
use Rattle.grammar_laws.proofs.kinds.BracketKinds.{closing_kind}
use Rattle.grammar_laws.proofs.derivations.ClearBrackets.{over, holds, closing, at_closing}
use Rattle.grammar_laws.proofs.derivations.BalancedForms.{even, level, fits, is_some, pred, passes, last_closing}

even_grammar : (n : Rule) → even (grammar n) 0 ≡ true
unfolding even level fits is_some pred holds within apart mem grammar
even_grammar r.Unit = refl
even_grammar r.External = refl
even_grammar r.Function = refl
even_grammar r.Declaration = refl
even_grammar r.Sassert = refl
even_grammar r.Attrs = refl
even_grammar r.Attr = refl
even_grammar r.Specs = refl
even_grammar r.Spec = refl
even_grammar r.Storage = refl
even_grammar r.Typespec = refl
even_grammar r.Qual = refl
even_grammar r.Squals = refl
even_grammar r.Struct = refl
even_grammar r.Members = refl
even_grammar r.Member = refl
even_grammar r.Enum = refl
even_grammar r.Enumr = refl
even_grammar r.Declarator = refl
even_grammar r.Direct = refl
even_grammar r.Suffix = refl
even_grammar r.Params = refl
even_grammar r.Param = refl
even_grammar r.Typename = refl
even_grammar r.Abstract = refl
even_grammar r.Adirect = refl
even_grammar r.Initdecl = refl
even_grammar r.Init = refl
even_grammar r.Braces = refl
even_grammar r.Item = refl
even_grammar r.Desig = refl
even_grammar r.Block = refl
even_grammar r.Label = refl
even_grammar r.Statement = refl
even_grammar r.Expr = refl
even_grammar r.Assign = refl
even_grammar r.Cond = refl
even_grammar r.Oror = refl
even_grammar r.Andand = refl
even_grammar r.Bor = refl
even_grammar r.Bxor = refl
even_grammar r.Band = refl
even_grammar r.Equal = refl
even_grammar r.Rel = refl
even_grammar r.Shift = refl
even_grammar r.Sum = refl
even_grammar r.Product = refl
even_grammar r.Cast = refl
even_grammar r.Unary = refl
even_grammar r.Postfix = refl
even_grammar r.Primary = refl
even_grammar r.Literal = refl
even_grammar r.Balanced = refl
even_grammar r.Declared = refl
even_grammar r.ParamSpecs = refl
even_grammar r.Body = refl
even_grammar r.Typeof = refl
even_grammar r.If = refl
even_grammar r.For = refl

level_grammar : (n : Rule) → level (grammar n) 0 ≡ 0
unfolding level pred holds within mem grammar
level_grammar r.Unit = refl
level_grammar r.External = refl
level_grammar r.Function = refl
level_grammar r.Declaration = refl
level_grammar r.Sassert = refl
level_grammar r.Attrs = refl
level_grammar r.Attr = refl
level_grammar r.Specs = refl
level_grammar r.Spec = refl
level_grammar r.Storage = refl
level_grammar r.Typespec = refl
level_grammar r.Qual = refl
level_grammar r.Squals = refl
level_grammar r.Struct = refl
level_grammar r.Members = refl
level_grammar r.Member = refl
level_grammar r.Enum = refl
level_grammar r.Enumr = refl
level_grammar r.Declarator = refl
level_grammar r.Direct = refl
level_grammar r.Suffix = refl
level_grammar r.Params = refl
level_grammar r.Param = refl
level_grammar r.Typename = refl
level_grammar r.Abstract = refl
level_grammar r.Adirect = refl
level_grammar r.Initdecl = refl
level_grammar r.Init = refl
level_grammar r.Braces = refl
level_grammar r.Item = refl
level_grammar r.Desig = refl
level_grammar r.Block = refl
level_grammar r.Label = refl
level_grammar r.Statement = refl
level_grammar r.Expr = refl
level_grammar r.Assign = refl
level_grammar r.Cond = refl
level_grammar r.Oror = refl
level_grammar r.Andand = refl
level_grammar r.Bor = refl
level_grammar r.Bxor = refl
level_grammar r.Band = refl
level_grammar r.Equal = refl
level_grammar r.Rel = refl
level_grammar r.Shift = refl
level_grammar r.Sum = refl
level_grammar r.Product = refl
level_grammar r.Cast = refl
level_grammar r.Unary = refl
level_grammar r.Postfix = refl
level_grammar r.Primary = refl
level_grammar r.Literal = refl
level_grammar r.Balanced = refl
level_grammar r.Declared = refl
level_grammar r.ParamSpecs = refl
level_grammar r.Body = refl
level_grammar r.Typeof = refl
level_grammar r.If = refl
level_grammar r.For = refl

-- the scan for the closing bracket passes over what a form derives
pub grouped_over : (f : Form) (s mid : Scopes) (v : Terminal) {us vs : List Terminal} {xs : List Tree} → even f 0 ≡ true → level f 0 ≡ 0 → s.brackets ≡ []
    → Derives (over grammar) f s us xs mid (v ∷ vs) → mem (kind mid v) closing ≡ true → past_brackets 1 us ≡ vs
grouped_over f s mid v {us = us} {vs = vs} x l c d w =
    let p = (passes grammar even_grammar level_grammar d 0 x).at 0 in
    let b = at_closing mid v w in
    let p' : past_brackets 1 us ≡ past_brackets 1 (v ∷ vs) =
    subst (λ z. past_brackets (suc (0 + (0 + length z))) us ≡ past_brackets 1 (v ∷ vs)) c
    (subst (λ z. past_brackets (suc (0 + (0 + length s.brackets))) us ≡ past_brackets (suc (0 + (0 + length z))) (v ∷ vs)) b (subst (λ z. past_brackets (suc (0 + (0 + length s.brackets))) us ≡ past_brackets (suc (0 + (z + length mid.brackets))) (v ∷ vs)) l p)) in
    p' ∙ last_closing v vs (closing_kind mid v w)
