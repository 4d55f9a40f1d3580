-- What each nonterminal may begin with, by what stands first in it.
use Rattle.std.proofs.Common.{◌≡◌, ℕ, Bool, true, false, ◌||◌, List, [], ◌∷◌, ◌++◌, refl, sym, ap, ◌∙◌}
use Rattle.std.specs.Prelude.{◌==◌}
use Rattle.model_grammar.specs.declared.grammar.Rule.TheVariants as r
use Rattle.model_grammar.specs.GrammarForm.{mem}
use Rattle.model_grammar.specs.Grammar.{others}
use Rattle.model_grammar.specs.Terminals as k
use Rattle.grammar_laws.specs.apparatus.DecidedTable.{within}
use Rattle.grammar_laws.specs.ParserSets.{firsts, tables}
use Rattle.grammar_laws.specs.ParserTests.{type_words}
use Rattle.grammar_laws.proofs.kinds.KindSets.{within_mem, mem_append}

equal : (a b : Bool) → (a ≡ true → b ≡ true) → (b ≡ true → a ≡ true) → a ≡ b
equal true b p q = let h : b ≡ true = p refl in rw h refl
equal false true p q = q refl
equal false false p q = refl

-- Lists of the same kinds
same : (kind : ℕ) (all kinds : List ℕ) → within tables all kinds ≡ true → within tables kinds all ≡ true → mem kind all ≡ mem kind kinds
same kind all kinds p q = equal _ _ (within_mem tables kind all kinds p) (within_mem tables kind kinds all q)

two : (kind : ℕ) (all kinds more : List ℕ) → within tables all (kinds ++ more) ≡ true → within tables (kinds ++ more) all ≡ true → mem kind all ≡ (mem kind kinds || mem kind more)
two kind all kinds more p q = same kind all (kinds ++ more) p q ∙ mem_append kind kinds more

one : (kind : ℕ) (all : List ℕ) (first : ℕ) (more : List ℕ) → within tables all (first ∷ more) ≡ true → within tables (first ∷ more) all ≡ true → mem kind all ≡ (kind == first || mem kind more)
unfolding mem
one kind all first more p q = same kind all (first ∷ more) p q

-- What a test of the first kinds, and behind it one of the others, says
pub in_first : (kind : ℕ) (all kinds more : List ℕ) (found : Bool) → mem kind all ≡ (mem kind kinds || mem kind more) → found ≡ mem kind kinds → found ≡ true → found ≡ mem kind all
in_first kind all kinds more found e p q = q ∙ sym (e ∙ ap (λ z. z || mem kind more) (sym p ∙ q))

pub in_second : (kind : ℕ) (all kinds more : List ℕ) (found later : Bool) → mem kind all ≡ (mem kind kinds || mem kind more) → found ≡ mem kind kinds → found ≡ false → later ≡ mem kind more → later ≡ mem kind all
in_second kind all kinds more found later e p q h = h ∙ sym (e ∙ ap (λ z. z || mem kind more) (sym p ∙ q))

abbrev pub unary_operators : List ℕ
unary_operators = k.Sizeof ∷ k.Alignof ∷ k.OldAlignof ∷ k.PlusPlus ∷ k.MinusMinus ∷ k.Ampersand ∷ k.Star ∷ k.Plus ∷ k.Minus ∷ k.Tilde ∷ k.Exclamation ∷ []

abbrev pub statement_starts : List ℕ
statement_starts = k.OpenBracket ∷ k.OpenBrace ∷ k.Semicolon ∷ k.If ∷ k.Switch ∷ k.While ∷ k.Do ∷ k.For ∷ k.Break ∷ k.Continue ∷ k.Return ∷ k.Defer ∷ []

pub type_specifier : (kind : ℕ) → mem kind (firsts r.Typespec) ≡ (mem kind type_words || mem kind (k.Typeof ∷ k.TypeofUnqual ∷ k.Struct ∷ k.Enum ∷ k.TypedefName ∷ []))
unfolding firsts within mem
type_specifier kind = two kind (firsts r.Typespec) type_words (k.Typeof ∷ k.TypeofUnqual ∷ k.Struct ∷ k.Enum ∷ k.TypedefName ∷ []) refl refl

pub type_name : (kind : ℕ) → mem kind (firsts r.Squals) ≡ (mem kind (firsts r.Typespec) || mem kind (firsts r.Qual))
unfolding firsts within mem
type_name kind = two kind (firsts r.Squals) (firsts r.Typespec) (firsts r.Qual) refl refl

pub specifiers : (kind : ℕ) → mem kind (firsts r.Specs) ≡ (mem kind (k.Inline ∷ k.Noreturn ∷ []) || (mem kind (firsts r.Storage) || mem kind (firsts r.Squals)))
unfolding firsts within mem
specifiers kind = two kind (firsts r.Specs) (k.Inline ∷ k.Noreturn ∷ []) (firsts r.Storage ++ firsts r.Squals) refl refl ∙ ap (λ z. mem kind (k.Inline ∷ k.Noreturn ∷ []) || z) (mem_append kind (firsts r.Storage) (firsts r.Squals))

pub parameter : (kind : ℕ) → mem kind (firsts r.Param) ≡ (kind == k.OpenBracket || mem kind (firsts r.Specs))
unfolding firsts within mem
parameter kind = one kind (firsts r.Param) k.OpenBracket (firsts r.Specs) refl refl

pub declaration : (kind : ℕ) → mem kind (firsts r.Declaration) ≡ (mem kind (firsts r.Sassert) || mem kind (firsts r.Param))
unfolding firsts within mem
declaration kind = two kind (firsts r.Declaration) (firsts r.Sassert) (firsts r.Param) refl refl

pub member : (kind : ℕ) → mem kind (firsts r.Member) ≡ (kind == k.OpenBracket || (mem kind (firsts r.Sassert) || mem kind (firsts r.Squals)))
unfolding firsts within mem
member kind = one kind (firsts r.Member) k.OpenBracket (firsts r.Sassert ++ firsts r.Squals) refl refl ∙ ap (λ z. kind == k.OpenBracket || z) (mem_append kind (firsts r.Sassert) (firsts r.Squals))

pub declarator : (kind : ℕ) → mem kind (firsts r.Declarator) ≡ (kind == k.Star || mem kind (firsts r.Direct))
unfolding firsts within mem
declarator kind = one kind (firsts r.Declarator) k.Star (firsts r.Direct) refl refl

pub expression : (kind : ℕ) → mem kind (firsts r.Expr) ≡ (mem kind unary_operators || mem kind (firsts r.Primary))
unfolding firsts within mem
expression kind = two kind (firsts r.Expr) unary_operators (firsts r.Primary) refl refl

pub initializer : (kind : ℕ) → mem kind (firsts r.Init) ≡ (kind == k.OpenBrace || mem kind (firsts r.Expr))
unfolding firsts within mem
initializer kind = one kind (firsts r.Init) k.OpenBrace (firsts r.Expr) refl refl

pub item : (kind : ℕ) → mem kind (firsts r.Item) ≡ (mem kind (firsts r.Desig) || mem kind (firsts r.Init))
unfolding firsts within mem
item kind = two kind (firsts r.Item) (firsts r.Desig) (firsts r.Init) refl refl

pub statement : (kind : ℕ) → mem kind (firsts r.Statement) ≡ (mem kind statement_starts || mem kind (firsts r.Expr))
unfolding firsts within mem
statement kind = two kind (firsts r.Statement) statement_starts (firsts r.Expr) refl refl

abbrev pub grouping : List ℕ
grouping = k.OpenParenthesis ∷ k.OpenBracket ∷ k.OpenBrace ∷ k.Closing ∷ []

pub balanced : (kind : ℕ) → mem kind (firsts r.Balanced) ≡ (mem kind others || mem kind grouping)
unfolding firsts within mem
balanced kind = two kind (firsts r.Balanced) others grouping refl refl
