-- The first constraint that a statement breaks (ISO/IEC 9899:2024, 6.8), with `defer` and `if` with a declaration (this
-- profile's own): its parts come one behind another, and the bodies of the function literals of each full expression
-- behind it. What is done at the end of a full expression is given, and what is first in the bodies.
use Rattle.model_grammar.specs.SyntaxForms as syntax
use Rattle.model_checking.specs.DeclarationContexts.{in_block, in_for, in_if}
use Rattle.model_checking.specs.Declarations.{declaration, maybe_declaration}
use Rattle.model_checking.specs.Elaborated.{expr}
use Rattle.model_checking.specs.FullExpressions.{condition, switch_value, maybe_dropped, maybe_condition, Labels, no_labels, case_value, with_case, with_default}
use Rattle.model_checking.specs.Reading.{Ends, as_operand, as_constant}
use Rattle.model_checking.specs.Scoping.{entered, substatement}
use Rattle.model_checking.specs.State.{Use, State}
use Rattle.model_checking.specs.Statements.{statement}
use Rattle.model_checking.specs.Surroundings.{Surroundings, in_loop, in_switch, in_defer}
use Rattle.std.specs.Prelude.{true, false}
use Rattle.model_constraints.specs.BrokenExpressions.{broken_dropped, broken_condition, broken_switch_value, broken_returned, broken_case_value, broken_default, broken_label, broken_jump, broken_return, broken_defer}
use Rattle.model_constraints.specs.FirstDeclarations.{Waiting, waiting_behind, first_declaration, first_declaration_if_any}
use Rattle.model_constraints.specs.Firsts.{Firsts, NoFault, Then, Whole}
use Rattle.model_constraints.specs.Pairs.{Pairs, First}

-- ---- expressions that no other holds

-- what one breaks, and then what its function literals do
abbrev full : Waiting → Use → State → syntax.Expr → Pairs → Firsts
full b u s e broken = Whole broken (waiting_behind b (as_operand e (expr u s e)))

abbrev first_dropped : Waiting → Use → State → syntax.MaybeExpr → Firsts
first_dropped b u s syntax.no_expr = NoFault
first_dropped b u s (syntax.an_expr e) = full b u s e (broken_dropped u s e)

abbrev first_condition : Waiting → Use → State → syntax.MaybeExpr → Firsts
first_condition b u s syntax.no_expr = NoFault
first_condition b u s (syntax.an_expr e) = full b u s e (broken_condition u s e)

abbrev first_returned : Waiting → Surroundings → State → syntax.Expr → Firsts
first_returned b a s e = full b a.evaluation s e (broken_returned a.evaluation a.result s e)

abbrev first_case_value : Waiting → Use → Labels → State → syntax.Expr → Firsts
first_case_value b u labels s e = Whole (broken_case_value u labels s e) (waiting_behind b (as_constant e (expr u s e)))

-- ---- a statement of a switch's body, which `defer` isn't

abbrev not_deferred : syntax.Statement → Firsts → Firsts
not_deferred (syntax.Defer body place span) F = First (broken_defer place)
not_deferred _ F = F

-- the body of a switch is its braces, or else one statement
abbrev in_braces_or : syntax.Statement → (braces alone : Firsts) → Firsts
in_braces_or (syntax.CompoundStatement body span) braces alone = braces
in_braces_or statement braces alone = not_deferred statement alone

abbrev mutual
  pub first_statement : Ends → Waiting → Surroundings → State → syntax.Statement → Firsts
  first_statement r b a s (syntax.ExpressionStatement value span) = first_dropped b a.evaluation s value
  first_statement r b a s (syntax.CompoundStatement body span) = first_in_block r b a (entered false s) body
  first_statement r b a s (syntax.If d c first second span) =
      Then (first_declaration_if_any r b in_if a.evaluation (entered false s) d) (maybe_declaration r in_if a.evaluation (entered false s) d) (λ before s.
      Then (first_condition b a.evaluation s (syntax.an_expr c)) (condition r a.evaluation s c) (λ value s.
      Then (first_statement r b a (entered false s) first) (substatement first s (λ s. statement r a s first)) (λ stat s.
      first_statement_if_any r b a s second)))
  first_statement r b a s (syntax.Switch e body span) =
      Then (full b a.evaluation (entered false s) e (broken_switch_value a.evaluation (entered false s) e)) (switch_value r a.evaluation (entered false s) e) (λ value s.
      in_braces_or body (first_in_cases r b (in_switch a) (no_labels value) (entered false s) body) (first_statement r b (in_switch a) (entered false s) body))
  first_statement r b a s (syntax.While c body span) =
      Then (first_condition b a.evaluation (entered false s) (syntax.an_expr c)) (condition r a.evaluation (entered false s) c) (λ value s.
      first_statement r b (in_loop a) (entered false s) body)
  first_statement r b a s (syntax.DoWhile body c span) =
      Then (first_statement r b (in_loop a) (entered false (entered false s)) body)
      (substatement body (entered false s) (λ s. statement r (in_loop a) s body)) (λ stat s.
      first_condition b a.evaluation s (syntax.an_expr c))
  first_statement r b a s (syntax.For first c step body span) =
      Then (first_dropped b a.evaluation (entered false s) first) (maybe_dropped r a.evaluation (entered false s) first) (λ one s.
      Then (first_condition b a.evaluation s c) (maybe_condition r a.evaluation s c) (λ value s.
      Then (first_dropped b a.evaluation s step) (maybe_dropped r a.evaluation s step) (λ next s.
      first_statement r b (in_loop a) (entered false s) body)))
  first_statement r b a s (syntax.ForDeclaration d c step body span) =
      Then (first_declaration r b in_for a.evaluation (entered false s) d) (declaration r in_for a.evaluation (entered false s) d) (λ before s.
      Then (first_condition b a.evaluation s c) (maybe_condition r a.evaluation s c) (λ value s.
      Then (first_dropped b a.evaluation s step) (maybe_dropped r a.evaluation s step) (λ next s.
      first_statement r b (in_loop a) (entered false s) body)))
  first_statement r b a s (syntax.Break place span) = First (broken_jump a.breaks place)
  first_statement r b a s (syntax.Continue place span) = First (broken_jump a.continues place)
  first_statement r b a s (syntax.Return syntax.no_expr place span) = First (broken_return a false place)
  first_statement r b a s (syntax.Return (syntax.an_expr e) place span) = Whole (broken_return a true place) (first_returned b a s e)
  first_statement r b a s (syntax.Defer body place span) = first_statement r b (in_defer a) s body

  first_statement_if_any : Ends → Waiting → Surroundings → State → syntax.MaybeStatement → Firsts
  first_statement_if_any r b a s syntax.no_statement = NoFault
  first_statement_if_any r b a s (syntax.a_statement body) = first_statement r b a (entered false s) body

  pub first_in_block : Ends → Waiting → Surroundings → State → syntax.Block → Firsts
  first_in_block r b a s (syntax.block items span) = first_in_items r b a s items

  first_in_items : Ends → Waiting → Surroundings → State → syntax.BlockItems → Firsts
  first_in_items r b a s syntax.no_block_items = NoFault
  first_in_items r b a s (syntax.more_block_items (syntax.DeclarationItem d) others) =
      Then (first_declaration r b in_block a.evaluation s d) (declaration r in_block a.evaluation s d) (λ stats s. first_in_items r b a s others)
  first_in_items r b a s (syntax.more_block_items (syntax.CaseLabel value place) others) = First (broken_label place)
  first_in_items r b a s (syntax.more_block_items (syntax.DefaultLabel place) others) = First (broken_label place)
  first_in_items r b a s (syntax.more_block_items (syntax.StatementItem body) others) =
      Then (first_statement r b a s body) (statement r a s body) (λ stat s. first_in_items r b a s others)

  -- the braces of a switch, behind these labels
  first_in_cases : Ends → Waiting → Surroundings → Labels → State → syntax.Statement → Firsts
  first_in_cases r b a labels s (syntax.CompoundStatement body span) = first_in_case_block r b a labels s body
  first_in_cases r b a labels s _ = NoFault

  first_in_case_block : Ends → Waiting → Surroundings → Labels → State → syntax.Block → Firsts
  first_in_case_block r b a labels s (syntax.block items span) = first_case r b a labels s items

  first_case : Ends → Waiting → Surroundings → Labels → State → syntax.BlockItems → Firsts
  first_case r b a labels s syntax.no_block_items = NoFault
  first_case r b a labels s (syntax.more_block_items (syntax.DeclarationItem d) others) =
      Then (first_declaration r b in_block a.evaluation s d) (declaration r in_block a.evaluation s d) (λ stats s. first_case r b a labels s others)
  first_case r b a labels s (syntax.more_block_items (syntax.CaseLabel e place) others) =
      Then (first_case_value b a.evaluation labels s e) (case_value r a.evaluation labels s e) (λ value s. first_case r b a (with_case value labels) s others)
  first_case r b a labels s (syntax.more_block_items (syntax.DefaultLabel place) others) =
      Whole (broken_default labels place) (first_case r b a (with_default labels) s others)
  first_case r b a labels s (syntax.more_block_items (syntax.StatementItem body) others) =
      not_deferred body (Then (first_statement r b a s body) (statement r a s body) (λ stat s. first_case r b a labels s others))
