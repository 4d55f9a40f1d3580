-- Scopes of blocks and of statements, with the automatic objects that are declared or made in them (ISO/IEC 9899:2024,
-- 6.2.1, 6.2.4, 6.8.1).
use Rattle.std.specs.Prelude.{ℕ, Bool, false, List, [], ◌∷◌, ◌++◌, Ok, Err}
use Rattle.model_types.specs.declared.marks.Span.{Span}
use Rattle.model_scopes.specs.Scopes.{enter, leave}
use Rattle.model_grammar.specs.SyntaxForms as syntax
use Rattle.model_core.specs.Core as unit
use Rattle.model_checking.specs.State.{State, Answer, gives, then_do, in_scopes}

-- in a new scope, in which no object is made yet
abbrev pub entered : (is_literal : Bool) → State → State
entered is_literal s = record (in_scopes (enter is_literal s.scopes) s) { automatic = [] }

-- behind the innermost scope
abbrev pub after_scope : (around : State) → State → State
after_scope around s = record (in_scopes (leave s.scopes) s) { automatic = around.automatic }

-- what a scope holds, and its automatic objects
pub record Scoped (A : Type 0) : Type 0 where
  pub made : A
  pub objects : List ℕ

-- the end of a scope
abbrev pub closed : {A : Type 0} → (around : State) → Answer A → Answer (Scoped A)
closed around (Ok x) = gives (record { made = x.made; objects = x.state.automatic }) (after_scope around x.state)
closed around (Err fault) = Err fault

abbrev pub in_scope : {A : Type 0} → (around : State) → (State → Answer A) → Answer (Scoped A)
in_scope around inside = closed around (inside (entered false around))

-- ---- statements that are scopes: blocks where they hold objects

-- a statement behind those that declare its objects
pub record Prepared : Type 0 where
  pub before : List unit.Stat
  pub stat : unit.Stat

abbrev pub prepared : unit.Stat → Prepared
prepared stat = record { before = []; stat = stat }

abbrev block_of : List ℕ → List unit.Stat → unit.Stat → Span → unit.Stat
block_of objects before stat span = unit.Block objects (unit.stats (before ++ stat ∷ [])) span

abbrev block_if : (objects : List ℕ) → (before : List unit.Stat) → unit.Stat → Span → unit.Stat
block_if [] [] stat span = stat
block_if [] (first ∷ others) stat span = block_of [] (first ∷ others) stat span
block_if (id ∷ ids) before stat span = block_of (id ∷ ids) before stat span

abbrev pub in_own_scope : Span → (around : State) → (State → Answer Prepared) → Answer unit.Stat
in_own_scope span around inside =
    then_do (in_scope around inside) (λ b s. gives (block_if b.objects b.made.before b.made.stat span) s)

abbrev pub span_of : syntax.Statement → Span
span_of (syntax.ExpressionStatement value span) = span
span_of (syntax.CompoundStatement body span) = span
span_of (syntax.If _ condition first second span) = span
span_of (syntax.Switch value body span) = span
span_of (syntax.While condition body span) = span
span_of (syntax.DoWhile body condition span) = span
span_of (syntax.For first condition step body span) = span
span_of (syntax.ForDeclaration _ condition step body span) = span
span_of (syntax.Break place span) = span
span_of (syntax.Continue place span) = span
span_of (syntax.Return value place span) = span
span_of (syntax.Defer body place span) = span

-- a statement of an `if`, `switch` or loop
abbrev pub substatement : syntax.Statement → (around : State) → (State → Answer unit.Stat) → Answer unit.Stat
substatement statement around inside =
    in_own_scope (span_of statement) around (λ s. then_do (inside s) (λ stat s. gives (prepared stat) s))
