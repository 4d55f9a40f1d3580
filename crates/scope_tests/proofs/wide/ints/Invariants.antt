use Rattle.std.proofs.Common.{List, IsTrue}
use Rattle.std.specs.List.{list_all}
use Rattle.model_types.specs.Structures as m
use Rattle.model_types.specs.Layout as l
use Rattle.scope_tests.proofs.wide.ints.Given as goal

abbrev pub invariant-loop-rank : goal.invariant-loop-rank
invariant-loop-rank s = IsTrue (list_all (λ (e : m.Member). m.names_below 1 e.ty) s.members) × ((structs : List m.Structure) → IsTrue (list_all (λ (e : m.Member). l.is_complete structs e.ty) s.members))
