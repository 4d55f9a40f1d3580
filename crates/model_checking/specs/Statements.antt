-- What statements and blocks mean (ISO/IEC 9899:2024, 6.8), with `defer` and `if` with a declaration (this profile's own).
-- What is done at the end of a full expression is given: the bodies of its function literals are elaborated.
use Rattle.std.specs.Prelude.{true, false, List, [], ◌∷◌, ◌++◌}
use Rattle.model_grammar.specs.SyntaxForms as syntax
use Rattle.model_core.specs.Core as unit
use Rattle.model_checking.specs.State.{State, Answer, gives, breaks, then_do, unless}
use Rattle.model_checking.specs.DeclarationContexts.{in_block, in_for, in_if}
use Rattle.model_checking.specs.Reading.{Ends}
use Rattle.model_checking.specs.Scoping.{in_scope, in_own_scope, prepared, substatement}
use Rattle.model_checking.specs.Surroundings.{Surroundings, in_loop, in_switch, in_defer, jump_fault, return_fault}
use Rattle.model_checking.specs.FullExpressions.{dropped, condition, switch_value, returned, maybe_dropped, maybe_condition, Labels, no_labels, default_fault, case_value, with_case, with_default, deferred_fault}
use Rattle.model_checking.specs.Declarations.{declaration, maybe_declaration}

-- a list of statements before labels and others
abbrev pub before_cases : List unit.Stat → unit.Cases → unit.Cases
before_cases [] cases = cases
before_cases (stat ∷ stats) cases = unit.a_stat_then stat (before_cases stats cases)

-- the body of a switch is its braces, or else one statement
abbrev cases_in : syntax.Statement → State → (State → Answer unit.Cases) → (State → Answer unit.Stat) → Answer unit.Cases
cases_in (syntax.CompoundStatement body span) s in_braces alone = in_braces s
cases_in statement s in_braces alone =
    unless (deferred_fault statement) (then_do (alone s) (λ stat s. gives (unit.a_stat_then stat unit.no_cases) s))

abbrev mutual
  pub statement : Ends → Surroundings → State → syntax.Statement → Answer unit.Stat
  statement r a s (syntax.ExpressionStatement syntax.no_expr span) = gives (unit.Block [] unit.no_stats span) s
  statement r a s (syntax.ExpressionStatement (syntax.an_expr e) span) =
      then_do (dropped r a.evaluation s e) (λ value s. gives (unit.Evaluate value span) s)
  statement r a s (syntax.CompoundStatement body span) =
      then_do (in_scope s (λ s. block r a s body)) (λ b s. gives (unit.Block b.objects (unit.stats b.made) span) s)
  statement r a s (syntax.If d c first second span) =
      in_own_scope span s (λ s.
      then_do (maybe_declaration r in_if a.evaluation s d) (λ before s.
      then_do (condition r a.evaluation s c) (λ value s.
      then_do (substatement first s (λ s. statement r a s first)) (λ one s.
      then_do (maybe_statement r a s second) (λ two s. gives (record { before = before; stat = unit.If value one two span }) s)))))
  statement r a s (syntax.Switch e body span) =
      in_own_scope span s (λ s.
      then_do (switch_value r a.evaluation s e) (λ value s.
      then_do (in_scope s (λ s.
      cases_in body s (λ s. cases_of r (in_switch a) (no_labels value) s body) (λ s. statement r (in_switch a) s body))) (λ b s.
      gives (prepared (unit.Switch value b.objects b.made span)) s)))
  statement r a s (syntax.While c body span) =
      in_own_scope span s (λ s.
      then_do (condition r a.evaluation s c) (λ value s.
      then_do (substatement body s (λ s. statement r (in_loop a) s body)) (λ stat s. gives (prepared (unit.While value stat span)) s)))
  statement r a s (syntax.DoWhile body c span) =
      in_own_scope span s (λ s.
      then_do (substatement body s (λ s. statement r (in_loop a) s body)) (λ stat s.
      then_do (condition r a.evaluation s c) (λ value s. gives (prepared (unit.DoWhile stat value span)) s)))
  statement r a s (syntax.For first c step body span) =
      in_own_scope span s (λ s.
      then_do (maybe_dropped r a.evaluation s first) (λ one s.
      then_do (maybe_condition r a.evaluation s c) (λ value s.
      then_do (maybe_dropped r a.evaluation s step) (λ next s.
      then_do (substatement body s (λ s. statement r (in_loop a) s body)) (λ stat s. gives (prepared (unit.For one value next stat span)) s)))))
  statement r a s (syntax.ForDeclaration d c step body span) =
      in_own_scope span s (λ s.
      then_do (declaration r in_for a.evaluation s d) (λ before s.
      then_do (maybe_condition r a.evaluation s c) (λ value s.
      then_do (maybe_dropped r a.evaluation s step) (λ next s.
      then_do (substatement body s (λ s. statement r (in_loop a) s body)) (λ stat s.
      gives (record { before = before; stat = unit.For unit.no_expr value next stat span }) s)))))
  statement r a s (syntax.Break place span) = unless (jump_fault a.breaks place) (gives (unit.Break place) s)
  statement r a s (syntax.Continue place span) = unless (jump_fault a.continues place) (gives (unit.Continue place) s)
  statement r a s (syntax.Return syntax.no_expr place span) = unless (return_fault a false place) (gives (unit.Return unit.no_expr place) s)
  statement r a s (syntax.Return (syntax.an_expr e) place span) =
      unless (return_fault a true place)
      (then_do (returned r a.evaluation a.result s e) (λ value s. gives (unit.Return (unit.an_expr value) place) s))
  statement r a s (syntax.Defer body place span) =
      then_do (statement r (in_defer a) s body) (λ stat s. gives (unit.Defer stat place span) s)

  pub maybe_statement : Ends → Surroundings → State → syntax.MaybeStatement → Answer unit.MaybeStat
  maybe_statement r a s syntax.no_statement = gives unit.no_stat s
  maybe_statement r a s (syntax.a_statement body) =
      then_do (substatement body s (λ s. statement r a s body)) (λ stat s. gives (unit.a_stat stat) s)

  pub block : Ends → Surroundings → State → syntax.Block → Answer (List unit.Stat)
  block r a s (syntax.block items span) = items_of r a s items

  -- C40 of labels
  pub items_of : Ends → Surroundings → State → syntax.BlockItems → Answer (List unit.Stat)
  items_of r a s syntax.no_block_items = gives [] s
  items_of r a s (syntax.more_block_items (syntax.DeclarationItem d) others) =
      then_do (declaration r in_block a.evaluation s d) (λ stats s.
      then_do (items_of r a s others) (λ behind s. gives (stats ++ behind) s))
  items_of r a s (syntax.more_block_items (syntax.CaseLabel value place) others) = breaks place 40
  items_of r a s (syntax.more_block_items (syntax.DefaultLabel place) others) = breaks place 40
  items_of r a s (syntax.more_block_items (syntax.StatementItem body) others) =
      then_do (statement r a s body) (λ stat s. then_do (items_of r a s others) (λ behind s. gives (stat ∷ behind) s))

  -- the braces of a switch
  pub cases_of : Ends → Surroundings → Labels → State → syntax.Statement → Answer unit.Cases
  cases_of r a labels s (syntax.CompoundStatement body span) = cases_of_block r a labels s body
  cases_of r a labels s _ = gives unit.no_cases s

  pub cases_of_block : Ends → Surroundings → Labels → State → syntax.Block → Answer unit.Cases
  cases_of_block r a labels s (syntax.block items span) = cases r a labels s items

  pub cases : Ends → Surroundings → Labels → State → syntax.BlockItems → Answer unit.Cases
  cases r a labels s syntax.no_block_items = gives unit.no_cases s
  cases r a labels s (syntax.more_block_items (syntax.DeclarationItem d) others) =
      then_do (declaration r in_block a.evaluation s d) (λ stats s.
      then_do (cases r a labels s others) (λ behind s. gives (before_cases stats behind) s))
  cases r a labels s (syntax.more_block_items (syntax.CaseLabel e place) others) =
      then_do (case_value r a.evaluation labels s e) (λ value s.
      then_do (cases r a (with_case value labels) s others) (λ behind s. gives (unit.a_case value place behind) s))
  cases r a labels s (syntax.more_block_items (syntax.DefaultLabel place) others) =
      unless (default_fault labels place)
      (then_do (cases r a (with_default labels) s others) (λ behind s. gives (unit.a_default place behind) s))
  cases r a labels s (syntax.more_block_items (syntax.StatementItem body) others) =
      unless (deferred_fault body)
      (then_do (statement r a s body) (λ stat s. then_do (cases r a labels s others) (λ behind s. gives (unit.a_stat_then stat behind) s)))
