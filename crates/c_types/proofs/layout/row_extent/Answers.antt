use Rattle.std.proofs.Common.{◌∙◌, ap, sym, subst}
use Rattle.std.specs.Option.{option_map}
use Rattle.model_types.specs.Types as t
use Rattle.model_types.specs.Layout as m
use Rattle.c_types.specs.Extents as s
use Rattle.c_types.specs.declared.extents.Extent.{Extent}
use Rattle.c_types.proofs.Placed.{IsLaid, none_laid, laid_step, all_laid}
use Rattle.c_types.proofs.layout.row_extent.Goals as goal

pub loop-member-init : goal.loop-member-init
loop-member-init c =
    subst (λ (row : Extent). IsLaid c.args.structs.now c.args.members.now 0 0 row c.args.offsets.now) (sym c.no_member-row.ensures)
    (none_laid c.args.structs.now c.args.members.now c.args.offsets.now)

pub loop-member-preserved : goal.loop-member-preserved
loop-member-preserved c =
    laid_step c.args.structs.now c.args.members.now c.loop-member.member-index c.loop-member.at c.member-item.result c.loop-member.row c.in-Some.extent c.followed_by-row.result
    c.loop-member.offsets c.keep.new.self c.padded_size.result
    c.loop-member-test.true c.member-item.is
    (c.in-Some.ensures.extent ∙ ap (λ (ty : t.CType). option_map s.kept (m.layout_of c.args.structs.now ty)) c.ty.ensures)
    c.followed_by-row.ensures c.in-Some.ensures.bounded c.padded_size.ensures.value c.keep.ensures c.loop-member.invariant

pub returns-clause-placed : goal.returns-clause-placed
returns-clause-placed c =
    all_laid c.args.structs.now c.args.members.now c.loop-member.member-index c.loop-member.at c.loop-member.row c.loop-member.offsets c.loop-member-test.false c.loop-member.invariant
