use Rattle.std.proofs.Common.{ap, ◌∙◌, sym, arith, eqb-true}
use Rattle.std.proofs.lemmas.Grind.{common_steps}
use Rattle.grammar_laws.specs.UnitSyntax.{unit}
use Rattle.syntax_meanings.specs.Meanings.{values_seen}
use Rattle.c_parser.proofs.Parsed.{walkable, ok_whole, ok_more, err_fault, err_deep, read_le, fails_le, deep_le, told_fault, told_deep}
use Rattle.c_parser.proofs.unit.read_unit.Goals as goal

pub read-requires : goal.read-requires
read-requires c = walkable

pub overflow_sub-result : goal.overflow_sub-result
overflow_sub-result c = read_le _ _ _ _ _ _ _ _ c.in-Ok.ensures

pub returns-then-not-is_empty : goal.returns-then-not-is_empty
returns-then-not-is_empty c = ok_more c.args.builds _ _ _ _ _ _ _ (record { context_is = c.outermost.ensures; scopes = c.new.ensures; heights = c.none.ensures }) c.in-Ok.ensures (grind (arith, common_steps))

pub returns-in-Ok : goal.returns-in-Ok
returns-in-Ok c = ok_whole c.args.builds _ _ _ _ _ _ _ (record { context_is = c.outermost.ensures; scopes = c.new.ensures; heights = c.none.ensures }) (ap values_seen c.new-values.ensures) c.in-Ok.ensures (eqb-true _ _ (sym c.is_empty.ensures ∙ c.if-not-is_empty.false))

pub overflow_sub-result-in-Err-Fault : goal.overflow_sub-result-in-Err-Fault
overflow_sub-result-in-Err-Fault c = fails_le _ _ _ _ _ _ (told_fault c.args.toks.now unit c.outermost.result (record { rest = c.args.tokens; names = c.new.result; heights = c.none.result }) c.read.new.reader (values_seen c.new-values.result) (values_seen c.read.new.out) _ c.in-Err-Fault.field-0-is c.in-Err-Fault.ensures)

pub returns-in-Err-Fault : goal.returns-in-Err-Fault
returns-in-Err-Fault c = err_fault c.args.builds _ _ _ _ _ (record { context_is = c.outermost.ensures; scopes = c.new.ensures; heights = c.none.ensures }) (told_fault c.args.toks.now unit c.outermost.result (record { rest = c.args.tokens; names = c.new.result; heights = c.none.result }) c.read.new.reader (values_seen c.new-values.result) (values_seen c.read.new.out) _ c.in-Err-Fault.field-0-is c.in-Err-Fault.ensures)

pub overflow_sub-result-in-Err-Deep : goal.overflow_sub-result-in-Err-Deep
overflow_sub-result-in-Err-Deep c = deep_le c.args.builds _ _ _ _ _ (record { context_is = c.outermost.ensures; scopes = c.new.ensures; heights = c.none.ensures }) (told_deep c.args.toks.now unit c.outermost.result (record { rest = c.args.tokens; names = c.new.result; heights = c.none.result }) c.read.new.reader (values_seen c.new-values.result) (values_seen c.read.new.out) _ c.in-Err-Deep.field-0-is c.in-Err-Deep.ensures)

pub returns : goal.returns
returns c = err_deep c.args.builds _ _ _ _ _ (record { context_is = c.outermost.ensures; scopes = c.new.ensures; heights = c.none.ensures }) (told_deep c.args.toks.now unit c.outermost.result (record { rest = c.args.tokens; names = c.new.result; heights = c.none.result }) c.read.new.reader (values_seen c.new-values.result) (values_seen c.read.new.out) _ c.in-Err-Deep.field-0-is c.in-Err-Deep.ensures)
