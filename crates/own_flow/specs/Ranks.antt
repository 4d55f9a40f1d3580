-- A finding by what decides its order.
use Rattle.cake_base.specs.declared.rules.Family.{Family}
use Rattle.cake_base.specs.declared.rules.Family.TheVariants as family
use Rattle.cake_base.specs.declared.rules.Fault.{Fault}
use Rattle.own_flow.specs.declared.ranks.FamilyRank.{FamilyRank}
use Rattle.own_flow.specs.declared.ranks.FamilyRank.TheVariants as rank
use Rattle.own_flow.specs.declared.ranks.Ranked.{Ranked}

abbrev pub rank_of : Family → FamilyRank
rank_of family.P = rank.P
rank_of family.L = rank.L
rank_of family.S = rank.S
rank_of family.C = rank.C
rank_of family.F = rank.F
rank_of family.G = rank.G

abbrev pub family_of : FamilyRank → Family
family_of rank.P = family.P
family_of rank.L = family.L
family_of rank.S = family.S
family_of rank.C = family.C
family_of rank.F = family.F
family_of rank.G = family.G

abbrev pub ranked : Fault → Ranked
ranked fault = record { order = fault.place.order; number = fault.rule.number; file = fault.place.file; line = fault.place.line; column = fault.place.column; family = rank_of fault.rule.family }

abbrev pub fault_of : Ranked → Fault
fault_of r = record { place = record { file = r.file; line = r.line; column = r.column; order = r.order }; rule = record { family = family_of r.family; number = r.number } }
