use Rattle.std.proofs.Common.{◌≡◌, ◌↔◌, length, sym, ◌∙◌, ap, subst, map, Contains}
use Rattle.std.proofs.lemmas.Result.{IfOk-weaker}
use Rattle.own_flow.specs.Findings.{AreFindings}
use Rattle.own_flow.specs.declared.ranks.Ranked.{Ranked}
use Rattle.own_flow.specs.Ranks.{fault_of}
use Rattle.own_flow.specs.Exploration.{BreaksBelow}
use Rattle.own_flow.proofs.FindingLaws.{findings_are}
use Rattle.own_flow.proofs.finds.solve.Goals as goal

pub returns-clause-findings : goal.returns-clause-findings
returns-clause-findings g c =
    let found : (r : Ranked) → Contains c.in_ok-list.list.items r ↔ BreaksBelow c.in_ok-search.search c.args.graph.now.edges (length c.args.graph.now.edges) (fault_of r) =
    subst (λ es. (r : Ranked) → Contains c.in_ok-list.list.items r ↔ BreaksBelow c.in_ok-search.search es (length es) (fault_of r)) c.edges.ensures.are c.in_ok-list.ensures in
    IfOk-weaker c.faults.result (λ list. list ≡ map fault_of c.deref.result.now) (λ list. AreFindings c.args.graph.now.edges list)
    (λ list e. subst (λ xs. AreFindings c.args.graph.now.edges xs) (sym (e ∙ ap (map fault_of) c.deref.ensures.value))
    (findings_are c.args.graph.now.places c.args.graph.now.points c.args.graph.now.edges c.in_ok-search.search c.in_ok-list.list.items c.put_in_order.new.list.items c.in_ok-search.ensures.explored c.edges.ensures.fit found c.put_in_order.ensures.ordered c.put_in_order.ensures.same))
    c.faults.ensures
