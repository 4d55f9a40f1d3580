use Rattle.std.proofs.Common.{◌≡◌, ◌∙◌, ap, sym, Some, true, false}
use Rattle.std.specs.Option.{is_some}
use Rattle.model_macros.specs.HideSets.{holds}
use Rattle.model_macros.specs.Macros.{ranked}
use Rattle.model_macros.specs.MacroArguments.{opens}
use Rattle.model_macros.specs.apparatus.ExpansionRules.{Stays-unknown, Stays-hidden, Stays-alone}
use Rattle.pp_macros.proofs.GoOnLaws.{some-of}
use Rattle.pp_macros.proofs.expansion.shown.Goals as goal

pub returns-in_default : goal.returns-in_default
returns-in_default c = Stays-unknown c.args.table.now c.args.p.now c.args.pending.now (ap (λ z. ranked z c.args.table.now.entries) (sym (c.spelling.ensures ∙ ap (λ q. q.tok.spelling) c.p.view_is)) ∙ sym c.in_default.ensures)

pub returns-then-holds : goal.returns-then-holds
returns-then-holds c =
    let known : ranked c.args.p.now.tok.spelling c.args.table.now.entries ≡ Some (c.in-Some.rank, c.in-Some.def.now) = ap (λ z. ranked z c.args.table.now.entries) (sym (c.spelling.ensures ∙ ap (λ q. q.tok.spelling) c.p.view_is)) ∙ sym c.in-Some.ensures in
    let own = ap (λ q. q.hides) c.p.view_is in
    let hidden : holds c.in-Some.rank c.args.p.now.hides ≡ true = ap (holds c.in-Some.rank) (sym own) ∙ sym c.holds.ensures ∙ c.if-holds.true in
    Stays-hidden c.args.table.now c.args.p.now c.args.pending.now c.in-Some.rank c.in-Some.def.now known hidden

pub returns-then-not-opens : goal.returns-then-not-opens
returns-then-not-opens c =
    let known : ranked c.args.p.now.tok.spelling c.args.table.now.entries ≡ Some (c.in-Some.rank, c.in-Some.def.now) = ap (λ z. ranked z c.args.table.now.entries) (sym (c.spelling.ensures ∙ ap (λ q. q.tok.spelling) c.p.view_is)) ∙ sym c.in-Some.ensures in
    let own = ap (λ q. q.hides) c.p.view_is in
    let free : holds c.in-Some.rank c.args.p.now.hides ≡ false = ap (holds c.in-Some.rank) (sym own) ∙ sym c.holds.ensures ∙ c.if-holds.false in
    let s = some-of c.in-Some.def.now.params (ap is_some (sym c.params.ensures) ∙ sym c.is_some.ensures ∙ c.if-is_some.true) in
    let alone : opens c.args.pending.now ≡ false = cc in
    Stays-alone c.args.table.now c.args.p.now c.args.pending.now c.in-Some.rank c.in-Some.def.now s.0 known free s.1 alone
